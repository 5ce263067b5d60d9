use Rattle.std.proofs.Common.{◌≡◌, ◌<◌, ℕ, length, Some}
use Rattle.std.specs.Prelude.{slice_get, find}
use Rattle.type_lattice.specs.SkipPointers.{path_up, has_place, meeting}
use Rattle.type_lattice.proofs.skip_pointers.SkipPointers.meeting.Given as goal

abbrev pub invariant-loop-one : goal.invariant-loop-one
invariant-loop-one l = record {
  found : find (has_place (path_up l.self l.b)) (path_up l.self l.one) ≡ meeting l.self l.a l.b;
  on : (k : ℕ) × (slice_get (path_up l.self l.b) k ≡ Some l.other);
  level : length (path_up l.self l.one) ≡ length (path_up l.self l.other);
  one_within : l.one < length l.self;
  other_within : l.other < length l.self;
}

abbrev pub decreases-loop-one : goal.decreases-loop-one
decreases-loop-one l = length (path_up l.self l.one)

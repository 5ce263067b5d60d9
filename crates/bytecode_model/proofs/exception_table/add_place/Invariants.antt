use Rattle.std.proofs.Common.{◌≡◌, ℕ, ◌++◌, ◌∷◌, [], cond, length, get_or}
use Rattle.std.specs.Prelude.{nat_le, nat_lt, ◌&&◌}
use Rattle.bytecode_model.proofs.exception_table.add_place.Given as goal

abbrev pub invariant-loop-span : goal.invariant-loop-span
invariant-loop-span l = record {
  count : length l.spans.items ≡ length l.fn.spans.items;
  placed : (k : ℕ) → get_or l.spans.items k []
      ≡ cond (nat_le l.from k && nat_lt k l.span) (get_or l.fn.spans.items k [] ++ l.place ∷ []) (get_or l.fn.spans.items k []);
}

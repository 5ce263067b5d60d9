use Rattle.std.proofs.Common.{◌≡◌, length, filter, map}
use Rattle.std.specs.Prelude.{find}
use Rattle.bytecode_model.specs.Conditions.{id_of}
use Rattle.bytecode_model.specs.LeftMethods.{asked_by, is_asked, is_left}
use Rattle.class_linking.proofs.left_methods.left_among.Given as goal

abbrev pub invariant-loop-left : goal.invariant-loop-left
invariant-loop-left l =
    find (is_left l.index.files l.index.listing l.supers) (map (id_of l.name l.file.pool) (filter (is_asked l.file.pool) l.left))
    ≡ find (is_left l.index.files l.index.listing l.supers) (asked_by l.name l.file)

abbrev pub decreases-loop-left : goal.decreases-loop-left
decreases-loop-left l = length l.left

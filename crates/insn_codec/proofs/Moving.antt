-- The operands that a form moves, where there are enough.
use Rattle.std.proofs.Common.{◌≡◌, ◌≤◌, List, ◌++◌, length, drop, Some, refl}
use Rattle.std.specs.Prelude.{slice_get}
use Rattle.std.specs.List.{filter_map}
use Rattle.std.proofs.lemmas.Bool.{le-leb}
use Rattle.insn_codec.specs.declared.forms.StackForm.{StackForm}
use Rattle.insn_codec.specs.Effect.{moved_by}
use Rattle.insn_codec.specs.Forms.{depth_of, order_of}

pub enough : {V : Type 0} (form : StackForm) (stack : List V) → depth_of form ≤ length stack
    → moved_by form stack ≡ Some (filter_map (slice_get stack) (order_of form) ++ drop (depth_of form) stack)
enough form stack le = rw (le-leb (depth_of form) (length stack) le) refl

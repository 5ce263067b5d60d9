use Rattle.std.proofs.Common.{◌≡◌, ◌+◌, ◌&&◌, ℕ, List, length}
use Rattle.std.specs.Prelude.{bytes_eq}
use Rattle.std.specs.List.{position_from}
use Rattle.std.specs.Option.{option_or}
use Rattle.bytecode_model.specs.declared.program.Method.{Method}
use Rattle.guest_tables.specs.Methods.{method_in}
use Rattle.guest_tables.proofs.methods.methods_in.Given as goal

abbrev pub invariant-loop-left : goal.invariant-loop-left
invariant-loop-left l = record {
  found : (n d : List ℕ) → option_or (method_in l.table n d) (position_from (λ (m : Method). bytes_eq m.name n && bytes_eq m.desc d) l.index l.left)
      ≡ position_from (λ (m : Method). bytes_eq m.name n && bytes_eq m.desc d) 0 l.methods;
  count : l.index + length l.left ≡ length l.methods;
}

abbrev pub decreases-loop-left : goal.decreases-loop-left
decreases-loop-left l = length l.left

-- What an instruction that works on its frame alone does to locals and operands, over any domain of what is moved.
-- (The Java Virtual Machine Specification, section 6.5)
use Rattle.std.specs.Prelude.{ℕ, ℤ, Bool, nat_le, nat_lt, if◌then◌else◌, List, ◌∷◌, ◌++◌, length, drop, Option, Some, None, option_map, option_and_then, slice_get, slice_set}
use Rattle.std.specs.List.{filter_map}
use Rattle.insn_codec.specs.declared.forms.StackForm.{StackForm}
use Rattle.insn_codec.specs.declared.shape.ValueKind.{ValueKind}
use Rattle.insn_codec.specs.declared.shape.ValueKind.TheVariants as kinds
use Rattle.insn_codec.specs.declared.shape.One.{One}
use Rattle.insn_codec.specs.declared.shape.Two.{Two}
use Rattle.insn_codec.specs.declared.shape.Two.TheVariants as two
use Rattle.insn_codec.specs.declared.shape.Shape.{Shape}
use Rattle.insn_codec.specs.declared.shape.Shape.TheVariants as shapes
use Rattle.insn_codec.specs.Forms.{depth_of, order_of}

-- what is moved: values, or types of values
pub record Domain (V : Type 0) : Type 0 where
  pub fits : ValueKind → V → Bool
  pub made : V → Bool
  pub int : ℤ → V
  pub null : V
  pub two : Two → V → V → V
  pub one : One → V → V

-- locals, and operands with the top first
abbrev pub Moved : Type 0 → Type 0
Moved V = List V × List V

-- the value, where it is of the kind
abbrev pub of_kind : {V : Type 0} → Domain V → ValueKind → V → Option V
of_kind d kind v = if d.fits kind v then Some v else None

-- the operand at this depth, where it is of the kind
abbrev pub operand : {V : Type 0} → Domain V → ValueKind → ℕ → List V → Option V
operand d kind i stack = option_and_then (of_kind d kind) (slice_get stack i)

abbrev pub local : {V : Type 0} → Domain V → ValueKind → ℕ → List V → Option V
local d kind slot locals = option_and_then (of_kind d kind) (slice_get locals slot)

-- the locals with this one set, where it is one of them
abbrev pub with_local : {V : Type 0} → ℕ → V → List V → Option (List V)
with_local slot v locals = if nat_lt slot (length locals) then Some (slice_set locals slot v) else None

-- the operands moved by a form, where there are enough
abbrev pub moved_by : {V : Type 0} → StackForm → List V → Option (List V)
moved_by form stack =
    if nat_le (depth_of form) (length stack) then Some (filter_map (slice_get stack) (order_of form) ++ drop (depth_of form) stack) else None

-- the operands without the topmost, which is of the kind
abbrev pub without_one : {V : Type 0} → Domain V → ValueKind → List V → Option (List V)
without_one d kind stack = option_map (λ v. drop 1 stack) (operand d kind 0 stack)

-- the operands without the two topmost, which are of the kind
abbrev pub without_two : {V : Type 0} → Domain V → ValueKind → List V → Option (List V)
without_two d kind stack = option_and_then (λ v. option_map (λ w. drop 2 stack) (operand d kind 1 stack)) (operand d kind 0 stack)

-- A reference that is compared is of an object that is made.
abbrev pub made_reference : {V : Type 0} → Domain V → ℕ → List V → Option V
made_reference d i stack = option_and_then (λ v. if d.made v then Some v else None) (operand d kinds.Reference i stack)

-- What a shape does, or nothing where an operand or a local that it takes or sets is not there or not of its kind.
abbrev pub effect : {V : Type 0} → Domain V → Shape → List V → List V → Option (Moved V)
effect d shapes.Nothing locals stack = Some (locals, stack)
effect d (shapes.Push n) locals stack = Some (locals, d.int n ∷ stack)
effect d shapes.PushNull locals stack = Some (locals, d.null ∷ stack)
effect d (shapes.Load kind slot) locals stack = option_map (λ v. (locals, v ∷ stack)) (local d kind slot locals)
effect d (shapes.Store kind slot) locals stack =
    option_and_then (λ v. option_map (λ set. (set, drop 1 stack)) (with_local slot v locals)) (operand d kind 0 stack)
effect d (shapes.Move form) locals stack = option_map (λ moved. (locals, moved)) (moved_by form stack)
effect d (shapes.Two op) locals stack =
    option_and_then (λ y. option_map (λ x. (locals, d.two op x y ∷ drop 2 stack)) (operand d kinds.Int 1 stack)) (operand d kinds.Int 0 stack)
effect d (shapes.One op) locals stack = option_map (λ x. (locals, d.one op x ∷ drop 1 stack)) (operand d kinds.Int 0 stack)
effect d (shapes.Increment slot by) locals stack =
    option_and_then (λ x. option_map (λ set. (set, stack)) (with_local slot (d.two two.Add x (d.int by)) locals)) (local d kinds.Int slot locals)
effect d (shapes.Test relation to) locals stack = option_map (λ left. (locals, left)) (without_one d kinds.Int stack)
effect d (shapes.Compare relation to) locals stack = option_map (λ left. (locals, left)) (without_two d kinds.Int stack)
effect d (shapes.CompareReferences same to) locals stack =
    option_and_then (λ y. option_map (λ x. (locals, drop 2 stack)) (made_reference d 1 stack)) (made_reference d 0 stack)
effect d (shapes.TestNull null to) locals stack = option_map (λ x. (locals, drop 1 stack)) (made_reference d 0 stack)
effect d (shapes.Goto to) locals stack = Some (locals, stack)
effect d shapes.Switch locals stack = option_map (λ left. (locals, left)) (without_one d kinds.Int stack)
effect d (shapes.Heap what) locals stack = None

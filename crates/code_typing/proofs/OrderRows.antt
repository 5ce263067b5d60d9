-- The rules that ask nothing of other instructions, and what is left, of a lower frame and of a higher one.
use Rattle.std.proofs.Common.{◌≡◌, ℕ, ◌≤◌, Bool, true, false, cond, length, map, refl, sym, subst, None}
use Rattle.std.specs.Prelude.{nat_le, nat_lt}
use Rattle.std.proofs.lemmas.Bool.{and_parts, le-leb}
use Rattle.cert_format.specs.declared.typing.FrameType.{FrameType}
use Rattle.cert_format.specs.declared.typing.VType.{VType}
use Rattle.insn_codec.specs.declared.shape.Heap.TheVariants as heap
use Rattle.insn_codec.specs.declared.shape.ValueKind.TheVariants as kinds
use Rattle.insn_codec.specs.declared.shape.Shape.{Shape}
use Rattle.insn_codec.specs.declared.shape.Shape.TheVariants as shapes
use Rattle.insn_codec.specs.Shapes.{shape_of}
use Rattle.bytecode_model.specs.declared.program.Program.{Program}
use Rattle.bytecode_model.specs.Assigning.{assignable}
use Rattle.bytecode_model.specs.Order.{IsInOrder}
use Rattle.type_lattice.proofs.Orders.{itself, type_over}
use Rattle.bytecode_model.specs.Makes.{type_at, changed, yields, stores, local_after, below, stack_after}
use Rattle.code_typing.specs.Order.{StackBelow, LocalsBelow, IsFrameBelow, IsAloneMet, IsLeftBelow, IsAloneKept, IsLeftKept, GoesKept, FrameIsBelowItself, FramesAreInOrder, is_settled, is_settled_at}
use Rattle.bytecode_model.specs.InsnPlace.{InsnPlace}
use Rattle.bytecode_model.specs.Rules.{stack_fits, taken, uses_local, made_well, Depth, Operand, Local, goes_well}
use Rattle.bytecode_model.specs.Wants.{takes, all_met, returns_well}
use Rattle.code_typing.proofs.OrderLists.{both, stack_itself, same_height, at_below, topmost_below, rest_below, join_below, map_below, stack_over, locals_over}
use Rattle.code_typing.proofs.OrderWants.{kind_closed, takes_closed, met_below}
use Rattle.code_typing.proofs.OrderYields.{yields_below}
use Rattle.code_typing.proofs.OrderChanges.{makes_lower, changed_below}

either_below : (program : Program) (b : Bool) (t u v w : VType) → assignable program t u ≡ true → assignable program v w ≡ true → assignable program (cond b t v) (cond b u w) ≡ true
either_below program true t u v w e f = e
either_below program false t u v w e f = f

module _ (place : InsnPlace) (order : IsInOrder place.program) (low high : FrameType) (under : IsFrameBelow place.program low high) (met : IsAloneMet place high) where
  taken_below : StackBelow place.program (taken place low) (taken place high)
  taken_below = topmost_below place.program (length (takes place)) low.stack high.stack under.stack

  first_below : assignable place.program (type_at (taken place low) 0) (type_at (taken place high) 0) ≡ true
  first_below = at_below place.program (taken place low) (taken place high) taken_below 0

  operands_met : all_met (takes place) (taken place high) ≡ true
  operands_met = (and_parts (all_met (takes place) (taken place high)) _ met.operand).0

  -- ---- what is left

  kept_below : (t u : VType) → assignable place.program t u ≡ true → assignable place.program (changed place (taken place low) t) (changed place (taken place high) u) ≡ true
  kept_below t u e = changed_below place low high first_below (shape_of place.insn) met.made t u e

  stack_left : StackBelow place.program (stack_after place low.locals (length (takes place)) low.stack) (stack_after place high.locals (length (takes place)) high.stack)
  stack_left =
      let n = length (takes place) in
      let rest = rest_below place.program n low.stack high.stack under.stack in
      let kept = map_below place.program (changed place (taken place low)) (changed place (taken place high)) kept_below (below n low.stack) (below n high.stack) rest in
      let pushed = yields_below place order (taken place low) (taken place high) taken_below (shape_of place.insn) low.locals high.locals under.locals operands_met in
      join_below place.program (map (changed place (taken place low)) (below n low.stack)) (map (changed place (taken place high)) (below n high.stack))
      (yields place low.locals (taken place low)) (yields place high.locals (taken place high)) kept pushed

  locals_left : LocalsBelow place.program (local_after place low.locals (taken place low)) (local_after place high.locals (taken place high))
  locals_left j =
      either_below place.program (stores (shape_of place.insn) j) (type_at (taken place low) 0) (type_at (taken place high) 0) _ _ first_below
      (kept_below (type_at low.locals j) (type_at high.locals j) (under.locals j))

  pub all_left : IsLeftBelow place low high
  all_left = record { stack = stack_left; locals = locals_left }

  pub well_left : (to : FrameType) → goes_well place high to ≡ true → goes_well place low to ≡ true
  well_left to e =
      let h = and_parts (stack_fits place.program (stack_after place high.locals (length (takes place)) high.stack) to.stack) _ e in
      both _ _ (stack_over place.program order _ _ to.stack stack_left h.0) (locals_over place.program order _ _ locals_left 0 to.locals h.1)

  -- ---- rules

  depth_lower : Depth place low ≡ true
  depth_lower =
      let n = length (takes place) in
      let h = and_parts (nat_le n (length high.stack)) _ met.depth in
      both _ _ (subst (λ (k : ℕ). nat_le n k ≡ true) (sym (same_height place.program low.stack high.stack under.stack)) h.0)
      (subst (λ (k : ℕ). nat_le k place.method.max_stack ≡ true) (sym (same_height place.program _ _ stack_left)) h.1)

  operand_lower : Operand place low ≡ true
  operand_lower =
      let returns = (and_parts (all_met (takes place) (taken place high)) (returns_well place (shape_of place.insn)) met.operand).1 in
      both _ _ (met_below place order (takes place) (takes_closed place order (shape_of place.insn)) (taken place low) (taken place high) taken_below operands_met) returns

  slot_lower : (shape : Shape) → uses_local place.method high.locals shape ≡ true → uses_local place.method low.locals shape ≡ true
  slot_lower (shapes.Load kind slot) e =
      let h = and_parts (nat_lt slot place.method.max_locals) _ e in
      both _ _ h.0 (kind_closed place.program kind (type_at low.locals slot) (type_at high.locals slot) (under.locals slot) h.1)
  slot_lower (shapes.Store kind slot) e = e
  slot_lower (shapes.Increment slot by) e =
      let h = and_parts (nat_lt slot place.method.max_locals) _ e in
      both _ _ h.0 (kind_closed place.program kinds.Int (type_at low.locals slot) (type_at high.locals slot) (under.locals slot) h.1)
  slot_lower shape e = refl

  local_lower : length low.locals ≤ place.method.max_locals → Local place low ≡ true
  local_lower few =
      let h = and_parts (nat_le (length high.locals) place.method.max_locals) _ met.local in
      both _ _ (le-leb _ _ few) (slot_lower (shape_of place.insn) h.1)

  made_lower : (shape : Shape) → made_well place high shape ≡ true → is_settled_at place low shape ≡ true → made_well place low shape ≡ true
  made_lower (shapes.Heap (heap.Call how)) e f = makes_lower place low high first_below how e
  made_lower (shapes.Heap heap.New) e f = f
  made_lower (shapes.Heap (heap.Return None)) e f = f
  made_lower shape e f = refl

  pub rules_lower : is_settled place low ≡ true → length low.locals ≤ place.method.max_locals → IsAloneMet place low
  rules_lower settled few = record {
    depth = depth_lower;
    operand = operand_lower;
    local = local_lower few;
    made = made_lower (shape_of place.insn) met.made settled;
  }

-- ---- the laws

pub alone_kept : IsAloneKept
alone_kept place order low high under met settled few = rules_lower place order low high under met settled few

pub left_kept : IsLeftKept
left_kept place order low high under met = all_left place order low high under met

pub goes_kept : GoesKept
goes_kept place order low high to under met e = well_left place order low high under met to e

pub below_itself : FrameIsBelowItself
below_itself program frame = record {
  stack = stack_itself program frame.stack;
  locals = λ j. itself program (type_at frame.locals j);
}

pub in_order : FramesAreInOrder
in_order program order a b c e f = record {
  stack = stack_over program order a.stack b.stack c.stack e.stack f.stack;
  locals = λ j. type_over program order (type_at a.locals j) (type_at b.locals j) (type_at c.locals j) (e.locals j) (f.locals j);
}

-- The types around a call with a block, and the room that its method has.
use Rattle.std.proofs.Common.{◌≡◌, ℕ, zero, suc, ◌+◌, ◌-◌, ◌≤◌, true, List, [], ◌∷◌, length, map, drop, Option, Some, None, refl, sym, ap, subst, ◌∙◌, arith}
use Rattle.std.specs.Prelude.{IfSome, nat_le, option_and_then, slice_get}
use Rattle.std.specs.Option.{option_map_or}
use Rattle.std.proofs.lemmas.Bool.{and_parts, leb-true}
use Rattle.std.proofs.lemmas.List.{length-map}
use Rattle.cert_format.specs.declared.typing.FrameType.{FrameType}
use Rattle.cert_format.specs.declared.typing.VType.{VType}
use Rattle.insn_codec.specs.declared.insn.Insn.{Insn}
use Rattle.insn_codec.specs.declared.shape.Heap.TheVariants as heap
use Rattle.insn_codec.specs.declared.shape.Shape.{Shape}
use Rattle.insn_codec.specs.declared.shape.Shape.TheVariants as shapes
use Rattle.insn_codec.specs.Shapes.{shape_of}
use Rattle.bytecode_model.specs.declared.program.Target.{Target}
use Rattle.bytecode_model.specs.declared.program.Target.TheVariants as target
use Rattle.bytecode_model.specs.Described.{arguments}
use Rattle.bytecode_model.specs.Makes.{below, local_after, stack_after, topmost, when_called}
use Rattle.bytecode_model.specs.Named.{IsListedCall}
use Rattle.bytecode_model.specs.InsnPlace.{InsnPlace, desc_referred, has_receiver}
use Rattle.bytecode_model.specs.Rules.{taken}
use Rattle.bytecode_model.specs.Wants.{all_met, returns_well, takes, to_receiver}
use Rattle.conspec_tree.specs.declared.types.Kind.{Kind}
use Rattle.conspec_tree.specs.declared.types.Phase.TheVariants.{After, Before}
use Rattle.conspec_automaton.specs.declared.policy.Clause.{Clause}
use Rattle.conspec_automaton.specs.Next.{has_clauses}
use Rattle.offset_patch.specs.Splicing.{operands_needed}
use Rattle.block_template.specs.Blocks.{Clauses, clauses_of}
use Rattle.block_template.specs.Frames.{Around}
use Rattle.block_template.specs.Typed.{FitsAround, HasRoom, IsCallOf, kept_kind}
use Rattle.block_template.proofs.ItemsTyped.{clauses_are_asked}
use Rattle.woven_typing.specs.Following.{call_operands, count_taken, stack_following, types_after}
use Rattle.woven_typing.specs.Framing.{around_of}
use Rattle.woven_typing.specs.Renaming.{renamed}
use Rattle.woven_typing.specs.Telling.{AreOfKinds, IsOfResult, TellsOf}
use Rattle.woven_typing.proofs.CallTypes as following
use Rattle.woven_typing.proofs.Body as of
use Rattle.woven_typing.proofs.Client.{Typed, again, aim, b, here, kept_at, moved, old}
use Rattle.woven_typing.proofs.Kept.{IsKept, retargeted, same_desc, type_renamed}
use Rattle.bytecode_model.proofs.Passing.{Passes}
use Rattle.woven_typing.proofs.Rows.{depth_kept, operand_kept, stack_renamed, taken_renamed}
use Rattle.woven_typing.proofs.Telling as telling
use Rattle.woven_typing.proofs.Yielding.{local_left}

-- A call with a block, of a method of a typed program, that is reached.
pub record CallAt (t : Typed) : Type 0 where
  pub i : ℕ
  pub callee : ℕ
  pub insn : Insn
  pub there : slice_get t.body.method.insns i ≡ Some insn
  pub names : slice_get t.body.method.refs i ≡ Some (target.ApiMethod callee)
  pub has : has_clauses t.body.policy callee ≡ true
  pub types : FrameType
  pub typed_here : slice_get t.frames i ≡ Some (Some types)
  pub row : Passes t.frames (old t i insn (target.ApiMethod callee)) types
  pub few : length types.stack ≤ t.body.method.max_stack

module _ (t : Typed) (c : CallAt t) where
  abbrev pub ref : Target
  ref = target.ApiMethod c.callee

  abbrev pub p : InsnPlace
  p = old t c.i c.insn ref

  abbrev pub clauses : Clauses
  clauses = clauses_of (b t).policy c.callee

  abbrev pub around : Around
  around = around_of (moved t) p c.types

  -- the call, at this index of the woven method
  abbrev pub q : ℕ → InsnPlace
  q m = here t m (aim t c.insn) ref

  pub listed : IsListedCall (b t).old.listing (b t).class c.insn c.callee
  listed = ((b t).right c.i c.insn ref c.there c.names).listed c.callee refl

  pub calls : shape_of c.insn ≡ shapes.Heap (heap.Call listed.how)
  calls = listed.calls

  -- It makes no object itself.
  pub no_new : (m : ℕ) → shape_of c.insn ≡ shapes.Heap heap.New → m ≡ moved t c.i
  no_new m new =
      let no : shapes.Heap heap.New ≡ shapes.Heap (heap.Call listed.how) = sym new ∙ calls in
      absurd cc

  pub kept : (m : ℕ) → IsKept (moved t) p (q m)
  kept m = kept_at t c.i m c.insn ref c.there (no_new m)

  -- ---- the call in its block

  pub shape_there : (m : ℕ) → shape_of (q m).insn ≡ shapes.Heap (heap.Call listed.how)
  shape_there m =
      let k = kept m in
      k.shape ∙ ap (λ (s : Shape). retargeted k.to s) calls

  pub is_call : (m : ℕ) → IsCallOf around (q m)
  is_call m =
      let k = kept m in
      record {
        how = listed.how;
        call = shape_there m;
        stack =
            ap (map (renamed (moved t))) (following.stack_is p listed.how calls c.types.locals c.types.stack)
            ∙ sym (stack_renamed (moved t) p (q m) k c.types);
        locals = λ j.
            type_renamed (moved t) (types_after p (call_operands p c.types.stack) c.types.locals) j
            ∙ ap (renamed (moved t)) (following.local_is p listed.how calls c.types j)
            ∙ sym (local_left (moved t) p (q m) k c.types.locals (taken p c.types) j)
            ∙ ap (λ (ts : List VType). local_after (q m) (again t c.types).locals ts j) (sym (taken_renamed (moved t) p (q m) k c.types));
      }

  -- ---- what is told of it

  told : IfSome clauses.before (λ x. TellsOf x listed.method)
  told = telling.told_of (b t).old.listing (b t).policy c.callee Before listed.method (b t).tells listed.there

  told_after : IfSome clauses.after (λ x. TellsOf x listed.method)
  told_after = telling.told_of (b t).old.listing (b t).policy c.callee After listed.method (b t).tells listed.there

  abbrev front : InsnPlace
  front = q (moved t c.i)

  same_descriptor : desc_referred front ≡ listed.method.id.desc
  same_descriptor = same_desc (moved t) p front (kept (moved t c.i)) ∙ listed.desc

  none_on_top : (s : List VType) → topmost 0 s ≡ []
  none_on_top s = by s (length s - 0) (omega arith)
    where
      by : (s : List VType) (n : ℕ) → length s ≤ n → drop n s ≡ []
      by [] zero le = refl
      by [] (suc n) le = refl
      by (x ∷ s) zero le = absurd (omega (arith, le))
      by (x ∷ s) (suc n) le = by s n (omega (arith, le))

  arguments_by : (o : Option Clause) → IfSome o (λ x. TellsOf x listed.method)
      → all_met (map kept_kind (option_map_or (λ (x : Clause). x.args) o []))
      (topmost (length (option_map_or (λ (x : Clause). x.args) o [])) (again t c.types).stack) ≡ true
  arguments_by None tells = ap (all_met []) (none_on_top (again t c.types).stack)
  arguments_by (Some clause) tells =
      let operand = and_parts (all_met (takes front) (taken front (again t c.types))) (returns_well front (shape_of front.insn))
      (operand_kept (moved t) p front (kept (moved t c.i)) c.types c.row.operand) in
      let depth = and_parts (nat_le (length (takes front)) (length (again t c.types).stack)) _
      (depth_kept (moved t) p front (kept (moved t c.i)) c.types c.row.depth) in
      let takes_these = following.takes_call front listed.how (shape_there (moved t c.i)) in
      let are = subst (λ (desc : List ℕ). AreOfKinds clause.args (arguments desc)) (sym same_descriptor) tells.arguments in
      telling.arguments_held (b t).new clause.args (arguments (desc_referred front)) are (again t c.types).stack (has_receiver listed.how)
      (to_receiver front listed.how)
      (subst (λ ws. length ws ≤ length (again t c.types).stack) takes_these (leb-true _ _ depth.0))
      (subst (λ ws. all_met ws (topmost (length ws) (again t c.types).stack) ≡ true) takes_these operand.0)

  result_by : (o : Option Clause) → IfSome o (λ x. TellsOf x listed.method)
      → IfSome (option_and_then (λ (x : Clause). x.result) o) (λ kind. all_met (kept_kind kind ∷ []) (topmost 1 around.after.stack) ≡ true)
  result_by None tells = tt
  result_by (Some clause) tells = by clause.result tells.result
    where
      by : (o : Option Kind) → IfSome o (IsOfResult listed.method.id.desc)
          → IfSome o (λ kind. all_met (kept_kind kind ∷ []) (topmost 1 around.after.stack) ≡ true)
      by None is = tt
      by (Some kind) is =
          telling.result_held (moved t) kind (desc_referred p) (types_after p (call_operands p c.types.stack) (below (count_taken p) c.types.stack))
          (subst (λ (desc : List ℕ). IsOfResult desc kind) (sym listed.desc) is)

  -- ---- sizes

  few_locals : length c.types.locals ≤ (b t).method.max_locals
  few_locals = leb-true _ _ (and_parts (nat_le (length c.types.locals) (b t).method.max_locals) _ c.row.local).0

  low_after : length (stack_following p c.types.stack) ≤ (b t).method.max_stack
  low_after =
      let left : List VType = stack_after p c.types.locals (length (takes p)) c.types.stack in
      let depth = and_parts _ (nat_le (length left) (b t).method.max_stack) c.row.depth in
      omega (arith, ap length (following.stack_is p listed.how calls c.types.locals c.types.stack), leb-true _ _ depth.1)

  pub fits : FitsAround clauses around
  fits = record {
    before = omega (arith, few_locals, length-map c.types.locals (renamed (moved t)));
    after = omega (
      arith,
      few_locals,
      length-map (types_after p (call_operands p c.types.stack) c.types.locals) (renamed (moved t)),
      length-map c.types.locals (when_called p (call_operands p c.types.stack)),
    );
    arguments = arguments_by clauses.before told;
    result = result_by clauses.after told_after;
  }

  pub room : HasRoom clauses around (b t).made
  room =
      let asked = clauses_are_asked (b t).policy c.callee (b t).read in
      let three : (b t).made.max_stack ≡ (b t).method.max_stack + operands_needed =
      of.stack_three (b t) (of.woven_at (b t) c.i c.callee c.names c.has) in
      let slots = of.slots (b t) c.i c.callee c.names c.has in
      record {
        before = omega (arith, c.few, three, length-map c.types.stack (renamed (moved t)));
        after = omega (arith, low_after, three, length-map (stack_following p c.types.stack) (renamed (moved t)));
        arguments = omega (arith, asked.arguments, slots);
        result = omega (arith, asked.result, slots);
      }

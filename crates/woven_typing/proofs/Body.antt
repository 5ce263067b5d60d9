-- A method and what is woven of it: where its instructions stand.
use Rattle.std.proofs.Common.{◌≡◌, ℕ, zero, suc, ◌+◌, ◌-◌, ◌<◌, ◌≤◌, Bool, true, false, cond, List, [], ◌∷◌, length, Option, Some, refl, sym, ap, subst, ◌∙◌, inl, inr, arith}
use Rattle.std.specs.Prelude.{◌||◌, is_some, nat_lt, slice_get, slice_index, Contains}
use Rattle.std.specs.List.{list_any}
use Rattle.std.proofs.lemmas.Bool.{cases_Bool, ltb-true, lt-ltb}
use Rattle.std.proofs.lemmas.Bool.Decides.{nat_tests}
use Rattle.class_codec.specs.declared.tree.Const.{Const}
use Rattle.class_codec.specs.Pool.{reference_at}
use Rattle.insn_codec.specs.declared.insn.Insn.{Insn}
use Rattle.bytecode_model.specs.declared.program.LinkedClass.{LinkedClass}
use Rattle.bytecode_model.specs.declared.program.Method.{Method}
use Rattle.bytecode_model.specs.declared.program.Program.{Program}
use Rattle.bytecode_model.specs.declared.program.Target.{Target}
use Rattle.bytecode_model.specs.declared.program.Target.TheVariants as target
use Rattle.bytecode_model.specs.Named.{IsRightOperand}
use Rattle.bytecode_model.specs.Operands.{index_of}
use Rattle.bytecode_model.specs.Order.{IsInOrder}
use Rattle.bytecode_model.specs.Sound.{IsSoundMethod}
use Rattle.cert_format.specs.declared.certificate.Mode.{Mode}
use Rattle.conspec_automaton.specs.declared.policy.Policy.{Policy}
use Rattle.conspec_automaton.specs.Next.{has_clauses}
use Rattle.conspec_automaton.specs.Sound.{IsPolicy}
use Rattle.offset_patch.specs.declared.block.Block.{Block}
use Rattle.offset_patch.specs.declared.block.BlockInsn.{BlockInsn}
use Rattle.offset_patch.specs.declared.block.PoolWant.{PoolWant}
use Rattle.offset_patch.specs.Entries.{IsThere}
use Rattle.offset_patch.specs.Plan.{Plan}
use Rattle.offset_patch.specs.Splicing.{fronts_of, operands_needed, want_of, wants_of}
use Rattle.block_template.specs.Blocks.{has_block, locals_used, plan_of}
use Rattle.class_weaving.specs.Outcome.{IsWovenClass, IsWovenMethod, wants_woven}
use Rattle.class_weaving.specs.Woven.{is_woven, locals_of, sites_of}
use Rattle.woven_typing.specs.Framing.{Client, client_of, moved_in}
use Rattle.woven_typing.specs.Telling.{KnowsThrowable, TellsKinds}
use Rattle.woven_typing.proofs.Larger.{IsLarger}
use Rattle.block_template.proofs.Plans as planned
use Rattle.class_weaving.proofs.Bodies.{Weaves, end_is, fronts_are, same_length}
use Rattle.class_weaving.proofs.Parts as parts
use Rattle.woven_typing.proofs.Plans as plans

-- A method of a linked program, and what it is in the woven one.
pub record Body : Type 0 where
  pub old : Program
  pub new : Program
  pub policy : Policy
  pub mode : Mode
  pub own : ℕ
  pub class : LinkedClass
  pub other : LinkedClass
  pub method : Method
  pub made : Method
  pub read : IsPolicy policy
  pub tells : TellsKinds old.listing policy
  pub throws : KnowsThrowable old
  pub order : IsInOrder new
  pub larger : IsLarger old new
  pub of_class : IsWovenClass (plan_of policy mode) (length old.classes) class other
  pub of_method : IsWovenMethod (plan_of policy mode) (length old.classes) other.file.pool method made
  pub sound : IsSoundMethod method
  pub right : (at : ℕ) (insn : Insn) (ref : Target) → slice_get method.insns at ≡ Some insn → slice_get method.refs at ≡ Some ref
      → IsRightOperand old class insn ref
  pub references : (at : ℕ) (insn : Insn) → slice_get method.insns at ≡ Some insn
      → reference_at other.file.pool (index_of insn) ≡ reference_at class.file.pool (index_of insn)
  -- what the blocks of the method name is in the pool
  pub wanted : (want : PoolWant) → Contains (wants_woven (plan_of policy mode) method) want → IsThere other.file.pool want

module _ (b : Body) where
  abbrev pub plan : Plan
  plan = plan_of b.policy b.mode

  abbrev pub client : Client
  client = client_of b.old b.policy b.mode b.own b.class b.method

  abbrev pub base : ℕ
  base = b.method.max_locals

  abbrev pub pool : List Const
  pool = b.other.file.pool

  abbrev pub state : ℕ
  state = length b.old.classes

  abbrev pub refs : List Target
  refs = b.method.refs

  abbrev pub sites : List (Option Block)
  sites = sites_of plan base b.method

  abbrev pub fronts : List ℕ
  fronts = fronts_of sites

  abbrev pub n : ℕ
  n = length b.method.insns

  abbrev pub moved : ℕ → ℕ
  moved at = moved_in plan b.method at

  abbrev pub part : Target → List BlockInsn
  part ref = parts.part plan base ref

  abbrev pub front : ℕ → ℕ
  front i = parts.before plan base refs i

  abbrev pub there : (ref : Target) → is_some (plan.block base ref) ≡ plan.has_block ref
  there ref = planned.there b.policy b.mode base ref

  abbrev pub some : (ref : Target) → 0 < length (part ref)
  some ref = planned.some b.policy b.mode base ref

  -- the method with its code alone
  abbrev pub weaves : Weaves
  weaves = record {
    plan = plan;
    state = state;
    pool = pool;
    method = b.method;
    made = b.made;
    of_method = b.of_method;
    sound = b.sound;
    there = there;
  }

  -- ---- sizes

  more_by : (c : Bool) (x k : ℕ) → x ≤ cond c (x + k) x
  more_by true x k = omega arith
  more_by false x k = omega arith

  pub stack_more : b.method.max_stack ≤ b.made.max_stack
  stack_more =
      subst (λ (m : ℕ). b.method.max_stack ≤ m) (sym b.of_method.max_stack)
      (more_by (is_woven plan b.method) b.method.max_stack operands_needed)

  pub locals_more : b.method.max_locals ≤ b.made.max_locals
  locals_more =
      subst (λ (m : ℕ). b.method.max_locals ≤ m) (sym b.of_method.max_locals)
      (more_by (is_woven plan b.method) b.method.max_locals (locals_of plan b.method))

  -- An instruction with a block is in a method that is woven.
  pub woven_at : (i callee : ℕ) → slice_get refs i ≡ Some (target.ApiMethod callee) → has_clauses b.policy callee ≡ true
      → is_woven plan b.method ≡ true
  woven_at i callee e has = by refs i e
    where
      by : (rs : List Target) (i : ℕ) → slice_get rs i ≡ Some (target.ApiMethod callee) → list_any (has_block b.policy) rs ≡ true
      by [] i e = absurd cc
      by (r ∷ rs) zero e =
          let same : r ≡ target.ApiMethod callee = cc in
          let is : has_block b.policy r ≡ true = ap (has_block b.policy) same ∙ has in
          rw is refl
      by (r ∷ rs) (suc i) e = either (has_block b.policy r) (by rs i e)
        where
          either : (c : Bool) → list_any (has_block b.policy) rs ≡ true → (c || list_any (has_block b.policy) rs) ≡ true
          either true h = refl
          either false h = h

  pub stack_three : is_woven plan b.method ≡ true → b.made.max_stack ≡ b.method.max_stack + operands_needed
  stack_three is =
      b.of_method.max_stack ∙ ap (λ (c : Bool). cond c (b.method.max_stack + operands_needed) b.method.max_stack) is

  -- The locals that a block uses are the method's.
  pub slots : (i callee : ℕ) → slice_get refs i ≡ Some (target.ApiMethod callee) → has_clauses b.policy callee ≡ true
      → base + locals_used b.policy callee ≤ b.made.max_locals
  slots i callee e has =
      let is : b.made.max_locals ≡ base + locals_of plan b.method =
      b.of_method.max_locals ∙ ap (λ (c : Bool). cond c (base + locals_of plan b.method) base) (woven_at i callee e has) in
      omega (arith, is, plans.most_there b.policy b.mode refs i (target.ApiMethod callee) e)

  -- ---- what blocks name

  pub wants_here : (i k callee : ℕ) (insn : BlockInsn) (want : PoolWant) → slice_get refs i ≡ Some (target.ApiMethod callee)
      → has_clauses b.policy callee ≡ true → slice_get (part (target.ApiMethod callee)) k ≡ Some insn → want_of insn ≡ Some want
      → Contains (wants_woven plan b.method) want
  wants_here i k callee insn want e has f g =
      let wants : wants_woven plan b.method ≡ wants_of sites = ap (λ (c : Bool). cond c (wants_of sites) []) (woven_at i callee e has) in
      subst (λ (ws : List PoolWant). Contains ws want) (sym wants) (plans.wants_there plan base refs i k (target.ApiMethod callee) insn want e f g)

  -- ---- where instructions stand

  pub moved_is : (i : ℕ) → i < n → moved i ≡ front i
  moved_is i lt =
      ap (λ (c : Bool). cond c (slice_index fronts i) (i + (slice_index fronts n - n))) (lt-ltb i n lt) ∙ fronts_are weaves i (omega (arith, lt))

  pub front_of : (i : ℕ) → i < n → slice_index fronts i ≡ moved i
  front_of i lt = fronts_are weaves i (omega (arith, lt)) ∙ sym (moved_is i lt)

  pub least : (i : ℕ) → i ≤ n → i ≤ front i
  least i le = parts.least plan base some refs i (omega (arith, le, same_length weaves))

  pub grows : (i j : ℕ) → i < j → j ≤ n → front i < front j
  grows i j lt le = parts.before_grows plan base some refs i j lt (omega (arith, le, same_length weaves))

  moved_after : (i : ℕ) → n ≤ i → moved i ≡ i + (front n - n)
  moved_after i le =
      let fails : nat_lt i n ≡ false = grind (arith, nat_tests) in
      ap (λ (c : Bool). cond c (slice_index fronts i) (i + (slice_index fronts n - n))) fails
      ∙ ap (λ (m : ℕ). i + (m - n)) (fronts_are weaves n (omega arith))

  pub moved_next : (i : ℕ) → i < n → moved (i + 1) ≡ front (suc i)
  moved_next i lt =
      let s : i + 1 ≡ suc i = omega arith in
      elim (cases_Bool (nat_lt (i + 1) n)) [
        | inl is ↦ rw s (moved_is (suc i) (omega (arith, ltb-true _ _ is)))
        | inr fails ↦
            let last : suc i ≡ n = grind (arith, nat_tests) in
            let is : moved (i + 1) ≡ i + 1 + (front n - n) = moved_after (i + 1) (omega (arith, last)) in
            let long : n ≤ front n = least n (omega arith) in
            is ∙ omega (arith, last, long) ∙ ap front (sym last)
      ]

  moved_grows : (i j : ℕ) → i < j → moved i < moved j
  moved_grows i j lt =
      let long : n ≤ front n = least n (omega arith) in
      elim (cases_Bool (nat_lt j n)) [
        | inl is ↦
            let less : j < n = ltb-true _ _ is in
            omega (arith, moved_is i (omega (arith, lt, less)), moved_is j less, grows i j lt (omega (arith, less)))
        | inr fails ↦
            let past : n ≤ j = grind (arith, nat_tests) in
            elim (cases_Bool (nat_lt i n)) [
              | inl is ↦
                  let less : i < n = ltb-true _ _ is in
                  omega (arith, moved_is i less, moved_after j past, grows i n less (omega arith), long, past)
              | inr none ↦
                  let following : n ≤ i = grind (arith, nat_tests) in
                  omega (arith, moved_after i following, moved_after j past, lt)
            ]
      ]

  pub moved_once : (i j : ℕ) → moved i ≡ moved j → i ≡ j
  moved_once i j e =
      elim (cases_Bool (nat_lt i j)) [
        | inl is ↦ absurd (omega (arith, e, moved_grows i j (ltb-true _ _ is)))
        | inr fails ↦
            elim (cases_Bool (nat_lt j i)) [
              | inl is ↦ absurd (omega (arith, e, moved_grows j i (ltb-true _ _ is)))
              | inr none ↦ grind (arith, nat_tests)
            ]
      ]

  -- What is after the code is after the woven code.
  pub moved_past : (i : ℕ) → n ≤ i → length b.made.insns ≤ moved i
  moved_past i le = omega (arith, end_is weaves, moved_after i le, least n (omega arith), le)

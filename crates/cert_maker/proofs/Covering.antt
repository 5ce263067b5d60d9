-- Which of the blocks' own handlers cover an instruction: that of its block alone, where it is the call.
use Rattle.std.proofs.Common.{◌≡◌, ◌≢◌, ℕ, zero, suc, ◌+◌, ◌<◌, ◌≤◌, Bool, true, false, cond, List, [], ◌∷◌, ◌++◌, length, map, Option, Some, None, refl, sym, ap, subst, ◌∙◌, arith, append_assoc}
use Rattle.std.specs.Prelude.{◌&&◌, filter, is_some, nat_le, nat_lt, slice_get, ⊤}
use Rattle.std.specs.List.{AllByRecursion}
use Rattle.std.proofs.lemmas.Bool.{and_from, leb-true, ltb-true}
use Rattle.std.proofs.lemmas.Bool.Decides.{nat_tests}
use Rattle.bytecode_model.specs.declared.program.Handler.{Handler}
use Rattle.bytecode_model.specs.declared.program.Target.{Target}
use Rattle.bytecode_model.specs.Rules.{covers}
use Rattle.bytecode_model.proofs.Lists.{all_append}
use Rattle.offset_patch.specs.declared.block.Block.{Block}
use Rattle.offset_patch.specs.declared.block.BlockInsn.{BlockInsn}
use Rattle.offset_patch.specs.Plan.{Plan}
use Rattle.offset_patch.specs.Splicing.{call_place, part_of}
use Rattle.block_logic.specs.Notes.{first_handler, handlers_of}
use Rattle.class_weaving.specs.Outcome.{handlers_by, own_handler, own_handlers, site_handlers}
use Rattle.class_weaving.proofs.Parts.{before, part}

abbrev pub Misses : ℕ → Handler → Type 0
Misses at handler = covers at handler ≡ false

abbrev pub AllMiss : ℕ → List Handler → Type 0
AllMiss at handlers = AllByRecursion (Misses at) handlers

-- ---- what does not cover an instruction does not matter

pub missed : (at : ℕ) (xs ys : List Handler) → AllMiss at xs → handlers_of at (xs ++ ys) ≡ handlers_of at ys
missed at [] ys all = refl
missed at (x ∷ xs) ys all =
    ap (λ (b : Bool). cond b (x.at ∷ cond (is_some x.class) (handlers_of at (xs ++ ys)) []) (handlers_of at (xs ++ ys))) all.0 ∙ missed at xs ys all.1

pub first_missed : (at : ℕ) (xs ys : List Handler) → AllMiss at xs → first_handler at (xs ++ ys) ≡ first_handler at ys
first_missed at [] ys all = refl
first_missed at (x ∷ xs) ys all =
    ap (λ (b : Bool). slice_get (cond b (x ∷ filter (covers at) (xs ++ ys)) (filter (covers at) (xs ++ ys))) 0) all.0 ∙ first_missed at xs ys all.1

-- ---- the handler of a block

module _ (begin at : ℕ) (insns : List BlockInsn) (place : ℕ) where
  pub own_misses : begin + call_place insns ≢ at → Misses at (own_handler begin insns place)
  own_misses other = by (nat_le (begin + call_place insns) at) refl (nat_lt at (begin + call_place insns + 1)) refl
    where
      by : (b : Bool) → nat_le (begin + call_place insns) at ≡ b → (c : Bool) → nat_lt at (begin + call_place insns + 1) ≡ c → (b && c) ≡ false
      by true e true f = absurd (other (omega (arith, leb-true _ _ e, ltb-true _ _ f)))
      by true e false f = refl
      by false e c f = refl

  pub own_covers : begin + call_place insns ≡ at → covers at (own_handler begin insns place) ≡ true
  own_covers same =
      let low : nat_le (begin + call_place insns) at ≡ true = grind (arith, nat_tests) in
      let high : nat_lt at (begin + call_place insns + 1) ≡ true = grind (arith, nat_tests) in
      and_from _ _ low high

site_misses : (site : Option Block) (begin at : ℕ)
    → ((block : Block) (place : ℕ) → site ≡ Some block → block.handler ≡ Some place → begin + call_place block.insns ≢ at)
    → AllMiss at (site_handlers begin site)
site_misses None begin at other = tt
site_misses (Some block) begin at other = by block.handler refl
  where
    by : (o : Option ℕ) → block.handler ≡ o → AllMiss at (handlers_by begin block.insns o)
    by None e = tt
    by (Some place) e = (own_misses begin at block.insns place (other block place refl e), tt)

-- The call of a block stands in it.
abbrev pub CallsWithin : Option Block → Type 0
CallsWithin None = ⊤
CallsWithin (Some block) = call_place block.insns < length block.insns

module _ (plan : Plan) (base : ℕ) (within : (ref : Target) → CallsWithin (plan.block base ref)) where
  abbrev sites : List Target → List (Option Block)
  sites refs = map (plan.block base) refs

  call_within : (ref : Target) (block : Block) → plan.block base ref ≡ Some block → call_place block.insns < length (part plan base ref)
  call_within ref block e =
      let inside : CallsWithin (Some block) = subst CallsWithin e (within ref) in
      omega (arith, inside, ap (λ (o : Option Block). length (part_of o)) e)

  -- ---- other blocks

  later_miss : (refs : List Target) (begin at : ℕ) → at < begin → AllMiss at (own_handlers begin (sites refs))
  later_miss [] begin at lt = tt
  later_miss (ref ∷ refs) begin at lt =
      all_append (Misses at) (site_handlers begin (plan.block base ref)) _
      (site_misses (plan.block base ref) begin at (λ block place e f same. absurd (omega (arith, lt, same))))
      (later_miss refs (begin + length (part plan base ref)) at (omega (arith, lt)))

  earlier_miss : (ref : Target) (begin at : ℕ) → begin + length (part plan base ref) ≤ at → AllMiss at (site_handlers begin (plan.block base ref))
  earlier_miss ref begin at le =
      site_misses (plan.block base ref) begin at (λ block place e f same. absurd (omega (arith, le, same, call_within ref block e)))

  -- No handler of the blocks covers what is not the call of a block that catches.
  pub own_none : (refs : List Target) (i k begin : ℕ) (ref : Target) → slice_get refs i ≡ Some ref → k < length (part plan base ref)
      → ((block : Block) (place : ℕ) → plan.block base ref ≡ Some block → block.handler ≡ Some place → call_place block.insns ≢ k)
      → AllMiss (begin + before plan base refs i + k) (own_handlers begin (sites refs))
  own_none [] i k begin ref e lt other = absurd cc
  own_none (r ∷ refs) zero k begin ref e lt other =
      let same : ref ≡ r = cc in
      let at : begin + 0 + k ≡ begin + k = omega arith in
      let less : k < length (part plan base r) = subst (λ (t : Target). k < length (part plan base t)) same lt in
      let rest = begin + length (part plan base r) in
      subst (λ (n : ℕ). AllMiss n (own_handlers begin (sites (r ∷ refs)))) (sym at)
      (all_append (Misses (begin + k)) (site_handlers begin (plan.block base r)) (own_handlers rest (sites refs))
      (site_misses (plan.block base r) begin (begin + k)
      (λ block place f g is. other block place (ap (plan.block base) same ∙ f) g (omega (arith, is))))
      (later_miss refs rest (begin + k) (omega (arith, less))))
  own_none (r ∷ refs) (suc i) k begin ref e lt other =
      let rest = begin + length (part plan base r) in
      let at : begin + before plan base (r ∷ refs) (suc i) + k ≡ rest + before plan base refs i + k = omega arith in
      subst (λ (n : ℕ). AllMiss n (own_handlers begin (sites (r ∷ refs)))) (sym at)
      (all_append (Misses (rest + before plan base refs i + k)) (site_handlers begin (plan.block base r)) (own_handlers rest (sites refs))
      (earlier_miss r begin (rest + before plan base refs i + k) (omega arith)) (own_none refs i k rest ref e lt other))

  -- ---- the block of the call

  -- The handler stands among those of the blocks, and none before it covers the call.
  pub record Stands (refs : List Target) (begin at : ℕ) (handler : Handler) : Type 0 where
    pub pre : List Handler
    pub post : List Handler
    pub is : own_handlers begin (sites refs) ≡ pre ++ handler ∷ post
    pub miss : AllMiss at pre

  pub own_stands : (refs : List Target) (i begin : ℕ) (ref : Target) (block : Block) (place : ℕ) → slice_get refs i ≡ Some ref
      → plan.block base ref ≡ Some block → block.handler ≡ Some place
      → Stands refs begin (begin + before plan base refs i + call_place block.insns) (own_handler (begin + before plan base refs i) block.insns place)
  own_stands [] i begin ref block place e f g = absurd cc
  own_stands (r ∷ refs) zero begin ref block place e f g =
      let same : ref ≡ r = cc in
      let first : begin + 0 ≡ begin = omega arith in
      let here : site_handlers begin (plan.block base r) ≡ own_handler begin block.insns place ∷ [] =
      ap (λ (t : Target). site_handlers begin (plan.block base t)) (sym same) ∙ ap (site_handlers begin) f ∙ ap (handlers_by begin block.insns) g in
      record {
        pre = [];
        post = own_handlers (begin + length (part plan base r)) (sites refs);
        is =
            ap (λ (hs : List Handler). hs ++ own_handlers (begin + length (part plan base r)) (sites refs)) here
            ∙ ap (λ (n : ℕ). own_handler n block.insns place ∷ own_handlers (begin + length (part plan base r)) (sites refs)) (sym first);
        miss = tt;
      }
  own_stands (r ∷ refs) (suc i) begin ref block place e f g =
      let rest = begin + length (part plan base r) in
      let later = own_stands refs i rest ref block place e f g in
      let from : begin + before plan base (r ∷ refs) (suc i) ≡ rest + before plan base refs i = omega arith in
      rw from record {
        pre = site_handlers begin (plan.block base r) ++ later.pre;
        post = later.post;
        is =
            ap (λ (hs : List Handler). site_handlers begin (plan.block base r) ++ hs) later.is
            ∙ sym (append_assoc (site_handlers begin (plan.block base r)) later.pre _);
        miss =
            all_append (Misses (rest + before plan base refs i + call_place block.insns)) (site_handlers begin (plan.block base r)) later.pre
            (earlier_miss r begin (rest + before plan base refs i + call_place block.insns) (omega arith)) later.miss;
      }

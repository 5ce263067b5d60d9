-- What is caught of an instruction of a woven method.
use Rattle.std.proofs.Common.{◌≡◌, ℕ, suc, ◌+◌, ◌<◌, ◌≤◌, Bool, true, false, List, [], ◌∷◌, ◌++◌, length, map, Option, Some, None, refl, sym, ap, subst, ◌∙◌, inl, inr, arith}
use Rattle.std.specs.Prelude.{◌&&◌, ◌||◌, not, nat_lt, nat_le, slice_get, slice_index}
use Rattle.std.specs.List.{AllByRecursion, list_all}
use Rattle.std.specs.Option.{option_map_or}
use Rattle.std.proofs.lemmas.Bool.{cases_Bool, ltb-true, leb-true, le-leb, and_from, and_parts}
use Rattle.std.proofs.lemmas.Bool.Decides.{nat_tests}
use Rattle.std.proofs.lemmas.Option.{slice_get_within}
use Rattle.api_listing.specs.BuiltIn.{throwable}
use Rattle.cert_format.specs.declared.typing.FrameType.{FrameType}
use Rattle.cert_format.specs.declared.typing.VType.{VType}
use Rattle.insn_codec.specs.declared.insn.Insn.{Insn}
use Rattle.bytecode_model.specs.declared.program.Handler.{Handler}
use Rattle.bytecode_model.specs.declared.program.Target.{Target}
use Rattle.bytecode_model.specs.declared.program.Target.TheVariants as target
use Rattle.bytecode_model.specs.Classes.{is_below}
use Rattle.bytecode_model.specs.Sound.{IsWithin}
use Rattle.bytecode_model.specs.InsnPlace.{InsnPlace}
use Rattle.bytecode_model.specs.Rules.{Caught, catches_well, class_caught, covers, frame_of, is_alone, is_handled, local_caught, locals_fit}
use Rattle.conspec_automaton.specs.Next.{has_clauses}
use Rattle.offset_patch.specs.declared.block.Block.{Block}
use Rattle.offset_patch.specs.declared.block.BlockInsn.{BlockInsn}
use Rattle.offset_patch.specs.Plan.{Plan}
use Rattle.offset_patch.specs.Splicing.{call_place}
use Rattle.block_template.specs.declared.item.Item.{Item}
use Rattle.block_template.specs.Blocks.{bools_of, clauses_of, handler_at}
use Rattle.class_weaving.specs.Outcome.{at_fronts, handlers_by, own_handler, own_handlers, site_handlers}
use Rattle.woven_typing.specs.Framing.{items_of}
use Rattle.block_template.proofs.Plans.{part_length}
use Rattle.class_weaving.proofs.Bodies.{fronts_are, handlers_are, same_length}
use Rattle.woven_typing.proofs.Body as of
use Rattle.block_template.proofs.Calling.{count_is, index, place_is}
use Rattle.woven_typing.proofs.Client.{Typed, again, aim, alone_height, b, frame_front, front_moved, here, kept_at, moved, old, woven}
use Rattle.woven_typing.proofs.Fronts.{catches_front}
use Rattle.woven_typing.proofs.Kept.{and_kept}
use Rattle.woven_typing.proofs.Larger.{below_kept}
use Rattle.class_weaving.proofs.Parts as parts
use Rattle.bytecode_model.proofs.Passing.{Passes}
use Rattle.woven_typing.proofs.Plans.{site_back}
use Rattle.woven_typing.proofs.Rows.{catches_kept, le_more}

handled_parts : (covered roomy below there : Bool) → (not covered || (roomy && (below && there))) ≡ true → covered ≡ true
    → (roomy ≡ true) × (below ≡ true) × (there ≡ true)
handled_parts true true true true h c = (refl, refl, refl)
handled_parts true true true false h c = absurd cc
handled_parts true true false there h c = absurd cc
handled_parts true false below there h c = absurd cc
handled_parts false roomy below there h c = absurd cc

handled_from : (covered roomy below there : Bool) → (covered ≡ true → roomy ≡ true) → (covered ≡ true → below ≡ true)
    → (covered ≡ true → there ≡ true) → (not covered || (roomy && (below && there))) ≡ true
handled_from true roomy below there r b t = rw (r refl, b refl, t refl) refl
handled_from false roomy below there r b t = refl

-- ---- the blocks' own handlers

all_also : {A B : Type 0} (p : A → Bool) (q : B → Bool) (f : A → B) (P : A → Type 0) → ((x : A) → P x → p x ≡ true → q (f x) ≡ true) → (xs : List A) → AllByRecursion P xs
    → list_all p xs ≡ true → list_all q (map f xs) ≡ true
all_also p q f P also [] h e = refl
all_also p q f P also (x ∷ xs) h e = and_kept (p x) (list_all p xs) _ _ (also x h.0) (all_also p q f P also xs h.1) e

all_both : {X : Type 0} (p : X → Bool) (xs ys : List X) → list_all p xs ≡ true → list_all p ys ≡ true → list_all p (xs ++ ys) ≡ true
all_both p [] ys e f = f
all_both p (x ∷ xs) ys e f =
    let parts = and_parts (p x) (list_all p xs) e in
    and_from (p x) (list_all p (xs ++ ys)) parts.0 (all_both p xs ys parts.1 f)

module _ (plan : Plan) (base : ℕ) (p : Handler → Bool) where
  -- It is so of the handler of each block.
  abbrev pub OwnPass : ℕ → List Target → Type 0
  OwnPass begin refs =
      (i : ℕ) (ref : Target) (block : Block) (place : ℕ) → slice_get refs i ≡ Some ref → plan.block base ref ≡ Some block
      → block.handler ≡ Some place → p (own_handler (begin + parts.before plan base refs i) block.insns place) ≡ true

  site_all : (begin : ℕ) (o : Option Block)
      → ((block : Block) (place : ℕ) → o ≡ Some block → block.handler ≡ Some place → p (own_handler begin block.insns place) ≡ true)
      → list_all p (site_handlers begin o) ≡ true
  site_all begin None pass = refl
  site_all begin (Some block) pass = by block.handler refl
    where
      by : (h : Option ℕ) → block.handler ≡ h → list_all p (handlers_by begin block.insns h) ≡ true
      by None e = refl
      by (Some place) e = and_from (p (own_handler begin block.insns place)) true (pass block place refl e) refl

  pub own_all : (begin : ℕ) (refs : List Target) → OwnPass begin refs → list_all p (own_handlers begin (map (plan.block base) refs)) ≡ true
  own_all begin [] pass = refl
  own_all begin (ref ∷ refs) pass =
      let later : ℕ = begin + length (parts.part plan base ref) in
      all_both p (site_handlers begin (plan.block base ref)) (own_handlers later (map (plan.block base) refs))
      (site_all begin (plan.block base ref) (λ block place e f.
      let here : begin + 0 ≡ begin = omega arith in
      subst (λ (m : ℕ). p (own_handler m block.insns place) ≡ true) here (pass 0 ref block place refl e f)))
      (own_all later refs (λ i r block place e f g.
      let following : begin + (length (parts.part plan base ref) + parts.before plan base refs i) ≡ later + parts.before plan base refs i = omega arith in
      subst (λ (m : ℕ). p (own_handler m block.insns place) ≡ true) following (pass (suc i) r block place e f g)))

module _ (t : Typed) (i k : ℕ) (insn : Insn) (ref : Target) (there : slice_get t.body.method.insns i ≡ Some insn)
    (names : slice_get t.body.method.refs i ≡ Some ref) (less : k < length (of.part t.body ref)) where
  -- ---- which handlers cover an instruction of a part

  covers_same : (h : Handler) → IsWithin (of.n (b t)) h → covers (of.front (b t) i + k) (at_fronts (of.fronts (b t)) h) ≡ covers i h
  covers_same h within =
      let lt : i < of.n (b t) = slice_get_within (b t).method.insns i insn there in
      let from : slice_index (of.fronts (b t)) h.from ≡ of.front (b t) h.from = fronts_are (of.weaves (b t)) h.from (omega (arith, within.from)) in
      let to : slice_index (of.fronts (b t)) h.to ≡ of.front (b t) h.to = fronts_are (of.weaves (b t)) h.to within.to in
      let first : nat_le (slice_index (of.fronts (b t)) h.from) (of.front (b t) i + k) ≡ nat_le h.from i =
      elim (cases_Bool (nat_lt i h.from)) [
        | inl is ↦
            let later : i < h.from = ltb-true _ _ is in
            let after = reaches h.from later (omega (arith, within.from)) in
            grind (arith, nat_tests, from, after, less, later)
        | inr fails ↦
            let before : h.from ≤ i = grind (arith, nat_tests) in
            let low : of.front (b t) h.from ≤ of.front (b t) i = grows_too h.from i before (omega (arith, lt)) in
            grind (arith, nat_tests, from, low, before)
      ] in
      let last : nat_lt (of.front (b t) i + k) (slice_index (of.fronts (b t)) h.to) ≡ nat_lt i h.to =
      elim (cases_Bool (nat_lt i h.to)) [
        | inl is ↦
            let later : i < h.to = ltb-true _ _ is in
            let after = reaches h.to later within.to in
            grind (arith, nat_tests, to, after, less, later)
        | inr fails ↦
            let before : h.to ≤ i = grind (arith, nat_tests) in
            let low : of.front (b t) h.to ≤ of.front (b t) i = grows_too h.to i before (omega (arith, lt)) in
            grind (arith, nat_tests, to, low, before)
      ] in
      rw (first, last) refl
    where
      grows_too : (x y : ℕ) → x ≤ y → y ≤ of.n (b t) → of.front (b t) x ≤ of.front (b t) y
      grows_too x y le most =
          elim (cases_Bool (nat_lt x y)) [
            | inl is ↦ omega (arith, of.grows (b t) x y (ltb-true _ _ is) most)
            | inr fails ↦
                let same : x ≡ y = grind (arith, nat_tests) in
                rw same (omega arith)
          ]

      reaches : (y : ℕ) → i < y → y ≤ of.n (b t) → of.front (b t) i + length (of.part (b t) ref) ≤ of.front (b t) y
      reaches y lt most =
          parts.before_reaches (of.plan (b t)) (of.base (b t)) (of.some (b t)) (of.refs (b t)) i y ref names lt
          (omega (arith, most, same_length (of.weaves (b t))))

  -- ---- what the client catches

  module _ (x : Insn) (r : Target) (f g : FrameType) (row : Passes t.frames (old t i insn ref) f)
      (caught : (to : List VType) → locals_fit (b t).new (local_caught (again t f).locals) 0 to ≡ true
      → locals_fit (b t).new (local_caught g.locals) 0 to ≡ true) where
    abbrev spot : InsnPlace
    spot = here t (of.front (b t) i + k) x r

    -- What is caught of the client's instruction is caught of each instruction of its part.
    handler_there : (h : Handler) → h.at < of.n (b t) → (o : Option FrameType) → frame_of t.frames h.at ≡ o → 1 ≤ (b t).method.max_stack
        → option_map_or (catches_well (old t i insn ref) f h) o false ≡ true
        → option_map_or (catches_well spot g (at_fronts (of.fronts (b t)) h)) (frame_of (woven t) (slice_index (of.fronts (b t)) h.at)) false
        ≡ true
    handler_there h lt None is room e = absurd cc
    handler_there h lt (Some to) is room e =
        let alone = and_parts (is_alone (class_caught h) to.stack) (locals_fit (b t).old (local_caught f.locals) 0 to.locals) e in
        let low : length to.stack ≤ (b t).method.max_stack = omega (arith, alone_height (class_caught h) to.stack alone.0, room) in
        let front = frame_front t h.at to is low in
        let own = at_fronts (of.fronts (b t)) h in
        let kept = kept_at t i (moved t i) insn ref there (λ new. refl) in
        let again_caught = catches_kept (moved t) (old t i insn ref) (here t (moved t i) (aim t insn) ref) kept f.locals f.locals f (again t f)
        to h own refl refl refl e in
        let parts = and_parts (is_alone (class_caught own) (again t to).stack) (locals_fit (b t).new (local_caught (again t f).locals) 0 (again t to).locals)
        again_caught in
        let here_caught : catches_well spot g own (again t to) ≡ true =
        and_from (is_alone (class_caught own) (again t to).stack) (locals_fit (b t).new (local_caught g.locals) 0 (again t to).locals) parts.0
        (caught (again t to).locals parts.1) in
        ap (λ (m : ℕ). option_map_or (catches_well spot g own) (frame_of (woven t) m) false) (of.front_of (b t) h.at lt)
        ∙ ap (λ (o : Option FrameType). option_map_or (catches_well spot g own) o false) (front_moved t h.at to is front)
        ∙ catches_front (again t to) front.types front.front spot g own here_caught

    client_handled : (h : Handler) → IsWithin (of.n (b t)) h → is_handled t.frames (old t i insn ref) f h ≡ true
        → is_handled (woven t) spot g (at_fronts (of.fronts (b t)) h) ≡ true
    client_handled h within e =
        let same = covers_same h within in
        let own = at_fronts (of.fronts (b t)) h in
        let roomy : Bool = nat_le 1 (b t).method.max_stack in
        let below : Bool = is_below (b t).old (class_caught h) throwable in
        let parts : covers i h ≡ true → (roomy ≡ true) × (below ≡ true)
        × (option_map_or (catches_well (old t i insn ref) f h) (frame_of t.frames h.at) false ≡ true) =
        handled_parts (covers i h) roomy below (option_map_or (catches_well (old t i insn ref) f h) (frame_of t.frames h.at) false) e in
        handled_from (covers (of.front (b t) i + k) own) (nat_le 1 (b t).made.max_stack) (is_below (b t).new (class_caught own) throwable) _
        (λ c. le_more 1 (b t).method.max_stack (b t).made.max_stack (parts (sym same ∙ c)).0 (of.stack_more (b t)))
        (λ c. below_kept (b t).old (b t).new (b t).larger (class_caught h) throwable (parts (sym same ∙ c)).1)
        (λ c. handler_there h within.at (frame_of t.frames h.at) refl (leb-true _ _ (parts (sym same ∙ c)).0) (parts (sym same ∙ c)).2)

    -- ---- what its block catches

    -- The handler of the block takes what its call throws.
    abbrev pub Throws : Type 0
    Throws =
        (callee place : ℕ) → ref ≡ target.ApiMethod callee → has_clauses (b t).policy callee ≡ true
        → handler_at (b t).mode (bools_of (b t).policy) (of.base (b t)) (clauses_of (b t).policy callee) ≡ Some place
        → k ≡ index (b t).mode (bools_of (b t).policy) (of.base (b t)) (clauses_of (b t).policy callee)
        → (handler : Handler) → handler.class ≡ None
        → option_map_or (catches_well spot g handler) (frame_of (woven t) (of.front (b t) i + place)) false ≡ true

    module _ (throws : Throws) where
      -- A handler of a block covers the call of that block alone.
      own_handled : (j callee place : ℕ) (insns : List BlockInsn) → slice_get (of.refs (b t)) j ≡ Some (target.ApiMethod callee)
          → has_clauses (b t).policy callee ≡ true
          → handler_at (b t).mode (bools_of (b t).policy) (of.base (b t)) (clauses_of (b t).policy callee) ≡ Some place
          → insns ≡ map (λ (x : Item). x.insn) (items_of (b t).policy (b t).mode (of.base (b t)) callee)
          → is_handled (woven t) spot g (own_handler (of.front (b t) j) insns place) ≡ true
      own_handled j callee place insns e has at is =
          let clauses = clauses_of (b t).policy callee in
          let call : ℕ = index (b t).mode (bools_of (b t).policy) (of.base (b t)) clauses in
          let own : Handler = own_handler (of.front (b t) j) insns place in
          let stands : call_place insns ≡ call = ap call_place is ∙ place_is (b t).mode (bools_of (b t).policy) (of.base (b t)) clauses in
          let within : call < length (of.part (b t) (target.ApiMethod callee)) =
          omega (
            arith,
            part_length (b t).policy (b t).mode (of.base (b t)) callee has,
            count_is (b t).mode (bools_of (b t).policy) (of.base (b t)) clauses,
          ) in
          let there_is : covers (of.front (b t) i + k) own ≡ true → of.front (b t) j + call ≡ of.front (b t) i + k =
          λ c.
          let parts = and_parts (nat_le (of.front (b t) j + call_place insns) (of.front (b t) i + k)) _ c in
          omega (arith, leb-true _ _ parts.0, ltb-true _ _ parts.1, stands) in
          let same : covers (of.front (b t) i + k) own ≡ true → j ≡ i =
          λ c. parts.once (of.plan (b t)) (of.base (b t)) (of.some (b t)) (of.refs (b t)) j i call k (target.ApiMethod callee) ref e names within
          less (there_is c) in
          handled_from (covers (of.front (b t) i + k) own) (nat_le 1 (b t).made.max_stack) (is_below (b t).new throwable throwable) _
          (λ c. le-leb 1 (b t).made.max_stack (omega (arith, of.stack_three (b t) (of.woven_at (b t) j callee e has))))
          (λ c. below_kept (b t).old (b t).new (b t).larger throwable throwable (b t).throws)
          (λ c.
          let at_i : j ≡ i = same c in
          let here_call : k ≡ call = omega (arith, there_is c, ap (of.front (b t)) at_i) in
          let mine : ref ≡ target.ApiMethod callee =
          let both : ◌≡◌ {A = Option Target} (Some ref) (Some (target.ApiMethod callee)) = sym names ∙ ap (slice_get (of.refs (b t))) (sym at_i) ∙ e in
          cc in
          ap (λ (m : ℕ). option_map_or (catches_well spot g own) (frame_of (woven t) (of.front (b t) m + place)) false) at_i
          ∙ throws callee place mine has at here_call own refl)

      own_passes : OwnPass (of.plan (b t)) (of.base (b t)) (is_handled (woven t) spot g) 0 (of.refs (b t))
      own_passes j s block place e f h =
          let back = site_back (b t).policy (b t).mode (of.base (b t)) s block f in
          let none : 0 + of.front (b t) j ≡ of.front (b t) j = omega arith in
          ap (λ (m : ℕ). is_handled (woven t) spot g (own_handler m block.insns place)) none
          ∙ own_handled j back.callee place block.insns (e ∙ ap Some back.names) back.has
          (sym (ap (λ (x : Block). x.handler) back.is) ∙ h) (ap (λ (x : Block). x.insns) back.is)

      pub all_caught : Caught (woven t) spot g ≡ true
      all_caught =
          ap (list_all (is_handled (woven t) spot g)) (handlers_are (of.weaves (b t)))
          ∙ all_both (is_handled (woven t) spot g) (own_handlers 0 (of.sites (b t))) (map (at_fronts (of.fronts (b t))) (b t).method.handlers)
          (own_all (of.plan (b t)) (of.base (b t)) (is_handled (woven t) spot g) 0 (of.refs (b t)) own_passes)
          (all_also (is_handled t.frames (old t i insn ref) f) (is_handled (woven t) spot g) (at_fronts (of.fronts (b t))) (IsWithin (of.n (b t)))
          client_handled (b t).method.handlers (b t).sound.handlers row.caught)

-- All rows of a woven method.
use Rattle.std.proofs.Common.{◌≡◌, ◌≢◌, ℕ, ◌+◌, ◌<◌, ◌≤◌, Bool, true, false, cond, List, length, Option, Some, None, refl, sym, ap, ◌∙◌, inl, inr, arith}
use Rattle.std.specs.Prelude.{◌==◌, nat_le, option_and_then, option_map, slice_get}
use Rattle.std.proofs.lemmas.Bool.{cases_Bool, leb-true, le-leb, eqb-true, eq-eqb, false≢true, ne_eqb, and_parts}
use Rattle.std.proofs.lemmas.Option.{slice_get_within}
use Rattle.cert_format.specs.declared.typing.FrameType.{FrameType}
use Rattle.insn_codec.specs.declared.insn.Insn.{Insn}
use Rattle.bytecode_model.specs.declared.program.Target.{Target}
use Rattle.bytecode_model.specs.declared.program.Target.TheVariants as target
use Rattle.bytecode_model.specs.Makes.{type_at}
use Rattle.bytecode_model.specs.InsnPlace.{InsnPlace}
use Rattle.bytecode_model.specs.Rules.{entry_locals, frame_of, locals_fit, row_failing}
use Rattle.bytecode_model.specs.Typed.{place_at, row_in}
use Rattle.conspec_automaton.specs.Next.{has_clauses}
use Rattle.offset_patch.specs.declared.block.BlockInsn.{BlockInsn}
use Rattle.offset_patch.specs.declared.block.BlockInsn.TheVariants.{Call}
use Rattle.offset_patch.specs.Splicing.{put}
use Rattle.block_template.specs.Blocks.{clauses_of, has_block}
use Rattle.class_weaving.specs.Outcome.{part_named}
use Rattle.woven_typing.specs.Framing.{items_of, item_typed, low, insn_place}
use Rattle.woven_typing.specs.Renaming.{frame_renamed}
use Rattle.class_weaving.proofs.Bodies.{insn_there, made_long, ref_there, same_length}
use Rattle.woven_typing.proofs.BlockRows.{block_row}
use Rattle.woven_typing.proofs.Body as of
use Rattle.woven_typing.proofs.Called.{CallAt}
use Rattle.woven_typing.proofs.Client.{Typed, again, aim, b, entry_there, goes_to_fronts, here, kept_at, low_is, moved, old, row_here, row_of, successors_kept, woven}
use Rattle.woven_typing.proofs.Frames as frames
use Rattle.woven_typing.proofs.Fronts.{front_itself}
use Rattle.woven_typing.proofs.Handlers.{all_caught}
use Rattle.class_weaving.proofs.Lists.{slice_there}
use Rattle.class_weaving.proofs.Parts as parts
use Rattle.bytecode_model.proofs.Passing.{row_met}
use Rattle.block_template.proofs.Plans.{part_length}
use Rattle.woven_typing.proofs.Rows.{depth_kept, local_kept, made_kept, operand_kept}
use Rattle.class_weaving.proofs.Unwoven.{no_block, part_alone}

module _ (t : Typed) where
  abbrev Met : ℕ → Type 0
  Met at = row_in (b t).new (b t).own (b t).other (b t).made (woven t) at ≡ None

  frame_told : (i : ℕ) (x : Option FrameType) → slice_get t.frames i ≡ Some x → frame_of t.frames i ≡ x
  frame_told i x e = ap frames.frame_or_none e

  module _ (i : ℕ) (insn : Insn) (ref : Target) (x : Option FrameType) (there : slice_get (b t).method.insns i ≡ Some insn)
      (names : slice_get (b t).method.refs i ≡ Some ref) (typed_here : slice_get t.frames i ≡ Some x) where
    -- ---- the first instruction has a frame, which is kept

    no_frame : x ≡ None → i ≢ 0
    no_frame is first =
        let row = t.met i (slice_get_within (b t).method.insns i insn there) in
        let some : ◌≡◌ {A = Option ℕ} (Some 1) None =
        sym
        (ap (option_and_then (λ (y : Insn). row_failing t.frames (place_at (b t).old (b t).own (b t).class (b t).method i y) (frame_of t.frames i))) there
        ∙ ap (row_failing t.frames (place_at (b t).old (b t).own (b t).class (b t).method i insn)) (frame_told i x typed_here ∙ is)
        ∙ ap (λ (c : Bool). cond c (Some 1) None) (eq-eqb i 0 first))
        ∙ row in
        absurd cc

    not_high : (f : FrameType) → x ≡ Some f → i ≡ 0 → length f.stack ≡ 0
    not_high f is first =
        let row = row_of t i insn ref f there names (frame_told i x typed_here ∙ is) in
        let entry = row.entry (eq-eqb i 0 first) in
        let p : InsnPlace = old t i insn ref in
        let few = and_parts (nat_le (length (entry_locals p)) (b t).method.max_locals) _ entry in
        let rest = and_parts (locals_fit (b t).old (type_at (entry_locals p)) 0 f.locals) (length f.stack == 0) few.1 in
        eqb-true (length f.stack) 0 rest.1

    unkept : low (b t).method.max_stack x ≡ None → i ≢ 0
    unkept e = by x refl e
      where
        by : (y : Option FrameType) → x ≡ y → low (b t).method.max_stack y ≡ None → i ≢ 0
        by None is e = no_frame is
        by (Some f) is e =
            λ first.
            let small : nat_le (length f.stack) (b t).method.max_stack ≡ true =
            le-leb (length f.stack) (b t).method.max_stack (omega (arith, not_high f is first)) in
            let no : ◌≡◌ {A = Option FrameType} (Some f) None = sym (ap (λ (c : Bool). cond c (Some f) None) small) ∙ e in
            absurd cc

    -- ---- an instruction of its part

    module _ (k : ℕ) (less : k < length (of.part (b t) ref)) where
      starts : of.front (b t) i + k ≡ 0 → i ≡ 0
      starts e =
          omega (arith, e, of.least (b t) i (omega (arith, slice_get_within (b t).method.insns i insn there)))

      -- one without a frame, which is not the first
      unreached : low (b t).method.max_stack x ≡ None → frame_of (woven t) (of.front (b t) i + k) ≡ None → Met (of.front (b t) i + k)
      unreached lost none =
          let y = slice_there (of.part (b t) ref) k less in
          row_here t (of.front (b t) i + k) (put (of.pool (b t)) (of.fronts (b t)) (of.front (b t) i) insn y.0)
          (part_named (of.state (b t)) ref y.0) None
          (insn_there (of.weaves (b t)) i k insn ref y.0 there names y.1)
          (ref_there (of.weaves (b t)) i k ref y.0 names y.1)
          none
          (ap (λ (z : Bool). cond z (Some 1) None) (ne_eqb (of.front (b t) i + k) 0 (λ e. unkept lost (starts e))))

    -- ---- an instruction without a block

    module _ (bare : has_block (b t).policy ref ≡ false) where
      single : length (of.part (b t) ref) ≡ 1
      single = ap length (part_alone (of.plan (b t)) (of.base (b t)) ref (no_block (of.plan (b t)) (of.base (b t)) (of.there (b t)) ref bare))

      call : slice_get (of.part (b t) ref) 0 ≡ Some Call
      call =
          ap (λ (xs : List BlockInsn). slice_get xs 0)
          (part_alone (of.plan (b t)) (of.base (b t)) ref (no_block (of.plan (b t)) (of.base (b t)) (of.there (b t)) ref bare))

      abbrev m : ℕ
      m = of.front (b t) i + 0

      at : m ≡ moved t i
      at = omega (arith, of.moved_is (b t) i (slice_get_within (b t).method.insns i insn there))

      typed_so : frame_of (woven t) m ≡ option_map (frame_renamed (moved t)) (low (b t).method.max_stack x)
      typed_so = frames.frame_alone (b t) t.frames i insn ref x there names typed_here bare (omega (arith, single))

      client_row : (f : FrameType) → x ≡ Some f → length f.stack ≤ (b t).method.max_stack → Met m
      client_row f is few =
          let row = row_of t i insn ref f there names (frame_told i x typed_here ∙ is) in
          let kept = kept_at t i m insn ref there (λ new. at) in
          let p : InsnPlace = old t i insn ref in
          let q : InsnPlace = here t m (aim t insn) ref in
          row_here t m (aim t insn) ref (Some (again t f)) (insn_there (of.weaves (b t)) i 0 insn ref Call there names call)
          (ref_there (of.weaves (b t)) i 0 ref Call names call)
          (typed_so ∙ ap (λ (y : Option FrameType). option_map (frame_renamed (moved t)) (low (b t).method.max_stack y)) is
          ∙ ap (option_map (frame_renamed (moved t))) (low_is t f few))
          (row_met (woven t) q (again t f)
          (record {
            entry = λ begins. entry_there t i m insn ref (aim t insn) ref f (again t f) there row (front_itself (again t f)) (omega arith) begins;
            depth = depth_kept (moved t) p q kept f row.depth;
            operand = operand_kept (moved t) p q kept f row.operand;
            local = local_kept (moved t) p q kept f row.local;
            made = made_kept (moved t) p q kept f ∙ row.made;
            successor = successors_kept t i m insn ref there (λ new. at) f row
                (goes_to_fronts t i m insn ref there names (omega (arith, single)));
            caught =
                all_caught t i 0 insn ref there names (omega (arith, single)) (aim t insn) ref f (again t f) row (λ to e. e)
                (λ callee place is has found here handler any.
                absurd (false≢true (sym bare ∙ ap (has_block (b t).policy) is ∙ has)));
          }))

      alone_row : (y : Option FrameType) → low (b t).method.max_stack x ≡ y → Met m
      alone_row None lost = unreached 0 (omega (arith, single)) lost (typed_so ∙ ap (option_map (frame_renamed (moved t))) lost)
      alone_row (Some f) kept = by x refl kept
        where
          by : (y : Option FrameType) → x ≡ y → low (b t).method.max_stack y ≡ Some f → Met m
          by None is e = absurd cc
          by (Some g) is e = small (nat_le (length g.stack) (b t).method.max_stack) refl e
            where
              small : (c : Bool) → nat_le (length g.stack) (b t).method.max_stack ≡ c → cond c (Some g) None ≡ Some f → Met m
              small true le e = client_row g is (leb-true _ _ le)
              small false le e = absurd cc

  -- ---- an instruction of a block

  blocked_row : (i callee k : ℕ) (insn : Insn) (x : Option FrameType) → slice_get (b t).method.insns i ≡ Some insn
      → slice_get (b t).method.refs i ≡ Some (target.ApiMethod callee) → slice_get t.frames i ≡ Some x → has_clauses (b t).policy callee ≡ true
      → k < length (of.part (b t) (target.ApiMethod callee)) → Met (of.front (b t) i + k)
  blocked_row i callee k insn x there names typed_here has less = by x refl
    where
      long : k < length (items_of (b t).policy (b t).mode (of.base (b t)) callee)
      long = omega (arith, less, part_length (b t).policy (b t).mode (of.base (b t)) callee has)

      lost_row : low (b t).method.max_stack x ≡ None → Met (of.front (b t) i + k)
      lost_row lost =
          let item = slice_there (items_of (b t).policy (b t).mode (of.base (b t)) callee) k long in
          unreached i insn (target.ApiMethod callee) x there names typed_here k less lost
          (frames.frame_item (b t) t.frames i callee insn x there names typed_here has k item.0 item.1
          ∙ ap (λ (y : Option FrameType). item_typed (clauses_of (b t).policy callee) (moved t)
          (insn_place (of.client (b t)) i insn (target.ApiMethod callee)) y item.0) lost)

      kept_row : (f : FrameType) → x ≡ Some f → length f.stack ≤ (b t).method.max_stack → Met (of.front (b t) i + k)
      kept_row f is few =
          let ref : Target = target.ApiMethod callee in
          let c : CallAt t = record {
            i = i;
            callee = callee;
            insn = insn;
            there = there;
            names = names;
            has = has;
            types = f;
            typed_here = typed_here ∙ ap Some is;
            row = row_of t i insn ref f there names (frame_told i x typed_here ∙ is);
            few = few;
          } in
          block_row t c k long

      by : (y : Option FrameType) → x ≡ y → Met (of.front (b t) i + k)
      by None is = lost_row (ap (low (b t).method.max_stack) is)
      by (Some f) is =
          elim (cases_Bool (nat_le (length f.stack) (b t).method.max_stack)) [
            | inl small ↦ kept_row f is (leb-true _ _ small)
            | inr high ↦ lost_row (ap (low (b t).method.max_stack) is ∙ ap (λ (c : Bool). cond c (Some f) None) high)
          ]

  -- ---- all instructions

  row_there : (i k : ℕ) (insn : Insn) (ref : Target) (x : Option FrameType) → slice_get (b t).method.insns i ≡ Some insn
      → slice_get (b t).method.refs i ≡ Some ref → slice_get t.frames i ≡ Some x → k < length (of.part (b t) ref)
      → (c : Bool) → has_block (b t).policy ref ≡ c → Met (of.front (b t) i + k)
  row_there i k insn ref x there names typed_here less false bare =
      let first : k ≡ 0 = omega (arith, less, single i insn ref x there names typed_here bare) in
      rw first (alone_row i insn ref x there names typed_here bare (low (b t).method.max_stack x) refl)
  row_there i k insn (target.ApiMethod callee) x there names typed_here less true has = blocked_row i callee k insn x there names typed_here has less
  row_there i k insn target.None x there names typed_here less true has = absurd cc
  row_there i k insn (target.Builtin j) x there names typed_here less true has = absurd cc
  row_there i k insn (target.Method c m) x there names typed_here less true has = absurd cc
  row_there i k insn (target.Field c f) x there names typed_here less true has = absurd cc
  row_there i k insn (target.ApiField j) x there names typed_here less true has = absurd cc
  row_there i k insn (target.ClassName name) x there names typed_here less true has = absurd cc
  row_there i k insn (target.Number n) x there names typed_here less true has = absurd cc
  row_there i k insn (target.Literal j) x there names typed_here less true has = absurd cc

  -- The rules are met at each instruction of the woven method.
  pub all_met : (at : ℕ) → at < length (b t).made.insns → Met at
  all_met at lt =
      let l = parts.locate (of.plan (b t)) (of.base (b t)) (of.refs (b t)) at (omega (arith, lt, made_long (of.weaves (b t)))) in
      let few : l.own < of.n (b t) = omega (arith, slice_get_within (of.refs (b t)) l.own l.ref l.there, same_length (of.weaves (b t))) in
      let insn = slice_there (b t).method.insns l.own few in
      let x = slice_there t.frames l.own (omega (arith, t.told, few)) in
      rw (l.is) (row_there l.own l.place insn.0 l.ref x.0 insn.1 l.there x.1 l.within (has_block (b t).policy l.ref) refl)

-- The canonical frames of a method meet the rules that its frames met.
use Rattle.std.proofs.Common.{◌≡◌, ℕ, zero, suc, ◌<◌, ◌≤◌, Bool, true, false, cond, List, [], ◌∷◌, length, map, Option, Some, None, refl, sym, ap, ◌∙◌, arith}
use Rattle.std.specs.Prelude.{◌&&◌, ◌||◌, ◌==◌, not, nat_le, option_and_then, slice_get}
use Rattle.std.specs.List.{list_all}
use Rattle.std.specs.Option.{option_map_or}
use Rattle.std.proofs.lemmas.Bool.{and_parts, eqb-true, leb-true, le-leb}
use Rattle.api_listing.specs.BuiltIn.{throwable}
use Rattle.cert_format.specs.declared.typing.FrameType.{FrameType}
use Rattle.cert_format.specs.declared.typing.VType.{VType}
use Rattle.insn_codec.specs.declared.insn.Insn.{Insn}
use Rattle.insn_codec.specs.Control.{successors}
use Rattle.bytecode_model.specs.declared.program.Handler.{Handler}
use Rattle.bytecode_model.specs.declared.program.LinkedClass.{LinkedClass}
use Rattle.bytecode_model.specs.declared.program.Method.{Method}
use Rattle.bytecode_model.specs.declared.program.Program.{Program}
use Rattle.bytecode_model.specs.Assigning.{assignable}
use Rattle.bytecode_model.specs.Classes.{is_below}
use Rattle.bytecode_model.specs.Makes.{local_after, stack_after, type_at}
use Rattle.bytecode_model.specs.InsnPlace.{InsnPlace}
use Rattle.bytecode_model.specs.Rules.{Frames, catches_well, class_caught, covers, entry_locals, frame_of, goes_well, is_alone, is_handled, local_caught, locals_fit, row_failing, stack_fits, taken}
use Rattle.bytecode_model.specs.Typed.{place_at, row_in}
use Rattle.bytecode_model.specs.Wants.{takes}
use Rattle.cert_maker.specs.Canonical.{canonical_frame, frame_trimmed, has_room, trimmed}
use Rattle.bytecode_model.proofs.Passing.{Passes, passes, row_met}
use Rattle.cert_maker.proofs.CanonicalRows.{caught_same, depth_same, entry_trimmed, local_room, local_same, local_trimmed, made_same, stack_same}
use Rattle.cert_maker.proofs.Trimmed.{fit_alike, fit_trimmed, trimmed_short}

-- ---- lists of frames

all_too : {A : Type 0} (p q : A → Bool) → ((x : A) → p x ≡ true → q x ≡ true) → (xs : List A) → list_all p xs ≡ true → list_all q xs ≡ true
all_too p q also [] e = refl
all_too p q also (x ∷ xs) e =
    let both = and_parts (p x) (list_all p xs) e in
    rw (also x both.0, all_too p q also xs both.1) refl

pub frame_map : (f : Option FrameType → Option FrameType) → f None ≡ None → (frames : Frames) (at : ℕ) → frame_of (map f frames) at ≡ f (frame_of frames at)
frame_map f none [] at = sym none
frame_map f none (x ∷ frames) zero = refl
frame_map f none (x ∷ frames) (suc at) = frame_map f none frames at

within : (frames : Frames) (at : ℕ) (g : FrameType) → frame_of frames at ≡ Some g → at < length frames
within [] at g e = absurd cc
within (x ∷ frames) zero g e = omega arith
within (x ∷ frames) (suc at) g e = omega (arith, within frames at g e)

there : {A : Type 0} (list : List A) (at : ℕ) → at < length list → (x : A) × (slice_get list at ≡ Some x)
there [] at lt = absurd (omega (arith, lt))
there (x ∷ list) zero lt = (x, refl)
there (x ∷ list) (suc at) lt = there list at (omega (arith, lt))

same_height : (program : Program) (from to : List VType) → stack_fits program from to ≡ true → length to ≡ length from
same_height program [] [] e = refl
same_height program [] (t ∷ to) e = absurd cc
same_height program (t ∷ from) [] e = absurd cc
same_height program (t ∷ from) (u ∷ to) e = ap suc (same_height program from to (and_parts (assignable program t u) (stack_fits program from to) e).1)

-- ---- room

room : (method : Method) (frame : FrameType) → length frame.locals ≤ method.max_locals → length frame.stack ≤ method.max_stack → has_room method (frame_trimmed frame) ≡ true
room method frame locals stack =
    let short : length (trimmed frame.locals) ≤ method.max_locals = omega (arith, trimmed_short frame.locals, locals) in
    rw (le-leb _ _ short, le-leb _ _ stack) refl

told_so : (method : Method) (frame : FrameType) → has_room method (frame_trimmed frame) ≡ true → canonical_frame method (Some frame) ≡ Some (frame_trimmed frame)
told_so method frame has = ap (λ (b : Bool). cond b (Some (frame_trimmed frame)) None) has

-- ---- a method

module _ (program : Program) (own : ℕ) (class : LinkedClass) (method : Method) (frames : Frames) (long : length frames ≡ length method.insns)
    (met : (at : ℕ) → row_in program own class method frames at ≡ None) where
  abbrev told_frames : Frames
  told_frames = map (canonical_frame method) frames

  told_at : (at : ℕ) → frame_of told_frames at ≡ canonical_frame method (frame_of frames at)
  told_at at = frame_map (canonical_frame method) refl frames at

  abbrev place : ℕ → Insn → InsnPlace
  place at insn = place_at program own class method at insn

  row_of : (at : ℕ) (insn : Insn) → slice_get method.insns at ≡ Some insn → row_failing frames (place at insn) (frame_of frames at) ≡ None
  row_of at insn e = sym (ap (option_and_then (λ (i : Insn). row_failing frames (place at i) (frame_of frames at))) e) ∙ met at

  -- where there is a frame, the method has room for its locals
  locals_room : (to : ℕ) (g : FrameType) → frame_of frames to ≡ Some g → length g.locals ≤ method.max_locals
  locals_room to g e =
      let insn = there method.insns to (omega (arith, within frames to g e, long)) in
      local_room (place to insn.0) g (passes frames (place to insn.0) g (sym (ap (row_failing frames (place to insn.0)) e) ∙ row_of to insn.0 insn.1)).local

  told_frame : (to : ℕ) (g : FrameType) → frame_of frames to ≡ Some g → length g.stack ≤ method.max_stack → frame_of told_frames to ≡ Some (frame_trimmed g)
  told_frame to g e low = told_at to ∙ ap (canonical_frame method) e ∙ told_so method g (room method g (locals_room to g e) low)

  module _ (at : ℕ) (insn : Insn) (f : FrameType) (p : Passes frames (place at insn) f) where
    after_low : length (stack_after (place at insn) f.locals (length (takes (place at insn))) f.stack) ≤ method.max_stack
    after_low =
        leb-true _ _ (and_parts (nat_le (length (takes (place at insn))) (length f.stack)) (nat_le (length (stack_after (place at insn) f.locals (length (takes (place at insn))) f.stack)) method.max_stack) p.depth).1

    goes : (to : ℕ) → option_map_or (goes_well (place at insn) f) (frame_of frames to) false ≡ true → option_map_or (goes_well (place at insn) (frame_trimmed f)) (frame_of told_frames to) false ≡ true
    goes to e = by (frame_of frames to) refl e where
      by : (o : Option FrameType) → frame_of frames to ≡ o → option_map_or (goes_well (place at insn) f) o false ≡ true
          → option_map_or (goes_well (place at insn) (frame_trimmed f)) (frame_of told_frames to) false ≡ true
      by None is e = absurd cc
      by (Some g) is e =
          let x = place at insn in
          let stack = stack_after x f.locals (length (takes x)) f.stack in
          let both = and_parts (stack_fits program stack g.stack) (locals_fit program (local_after x f.locals (taken x f)) 0 g.locals) e in
          let low : length g.stack ≤ method.max_stack = omega (arith, same_height program stack g.stack both.0, after_low) in
          let fits : locals_fit program (local_after x (trimmed f.locals) (taken x f)) 0 (trimmed g.locals) ≡ true =
          fit_alike program (local_after x f.locals (taken x f)) (local_after x (trimmed f.locals) (taken x f)) 0 (trimmed g.locals) (local_same x f.locals (taken x f))
          ∙ fit_trimmed program (local_after x f.locals (taken x f)) 0 g.locals both.1 in
          rw (told_frame to g is low, stack_same x f.locals (length (takes x)) f.stack, both.0, fits) refl

    caught_by : (handler : Handler) → nat_le 1 method.max_stack ≡ true → option_map_or (catches_well (place at insn) f handler) (frame_of frames handler.at) false ≡ true
        → option_map_or (catches_well (place at insn) (frame_trimmed f) handler) (frame_of told_frames handler.at) false ≡ true
    caught_by handler some e = by (frame_of frames handler.at) refl e where
      alone : (stack : List VType) → is_alone (class_caught handler) stack ≡ true → length stack ≡ 1
      alone [] e = absurd cc
      alone (t ∷ []) e = refl
      alone (t ∷ u ∷ stack) e = absurd cc

      by : (o : Option FrameType) → frame_of frames handler.at ≡ o → option_map_or (catches_well (place at insn) f handler) o false ≡ true
          → option_map_or (catches_well (place at insn) (frame_trimmed f) handler) (frame_of told_frames handler.at) false ≡ true
      by None is e = absurd cc
      by (Some g) is e =
          let both = and_parts (is_alone (class_caught handler) g.stack) (locals_fit program (local_caught f.locals) 0 g.locals) e in
          let low : length g.stack ≤ method.max_stack = omega (arith, alone g.stack both.0, leb-true _ _ some) in
          let fits : locals_fit program (local_caught (trimmed f.locals)) 0 (trimmed g.locals) ≡ true =
          fit_alike program (local_caught f.locals) (local_caught (trimmed f.locals)) 0 (trimmed g.locals) (caught_same f.locals) ∙ fit_trimmed program (local_caught f.locals) 0 g.locals both.1 in
          rw (told_frame handler.at g is low, both.0, fits) refl

    handled : (handler : Handler) → is_handled frames (place at insn) f handler ≡ true → is_handled told_frames (place at insn) (frame_trimmed f) handler ≡ true
    handled handler e = by (covers at handler) e where
      by : (b : Bool) → (not b || (nat_le 1 method.max_stack && (is_below program (class_caught handler) throwable && option_map_or (catches_well (place at insn) f handler) (frame_of frames handler.at) false))) ≡ true
          → (not b || (nat_le 1 method.max_stack && (is_below program (class_caught handler) throwable && option_map_or (catches_well (place at insn) (frame_trimmed f) handler) (frame_of told_frames handler.at) false))) ≡ true
      by false e = refl
      by true e =
          let a = and_parts (nat_le 1 method.max_stack) (is_below program (class_caught handler) throwable && option_map_or (catches_well (place at insn) f handler) (frame_of frames handler.at) false) e in
          let b = and_parts (is_below program (class_caught handler) throwable) (option_map_or (catches_well (place at insn) f handler) (frame_of frames handler.at) false) a.1 in
          rw (a.0, b.0, caught_by handler a.0 b.1) refl

    trimmed_passes : Passes told_frames (place at insn) (frame_trimmed f)
    trimmed_passes = record {
      entry = λ z. entry_trimmed (place at insn) f (p.entry z);
      depth = depth_same (place at insn) f ∙ p.depth;
      operand = p.operand;
      local = local_trimmed (place at insn) f p.local;
      made = made_same (place at insn) f ∙ p.made;
      successor = all_too _ _ goes (successors at insn) p.successor;
      caught = all_too _ _ handled method.handlers p.caught;
    }

    -- a method begins with a frame for which it has room
    not_first : has_room method (frame_trimmed f) ≡ false → (at == 0) ≡ false
    not_first none = by (at == 0) refl where
      by : (b : Bool) → (at == 0) ≡ b → b ≡ false
      by false is = refl
      by true is =
          let entry = p.entry is in
          let from = type_at (entry_locals (place at insn)) in
          let fit = locals_fit program from 0 f.locals in
          let few = nat_le (length (entry_locals (place at insn))) method.max_locals in
          let none_there : length f.stack ≡ 0 = eqb-true (length f.stack) 0 (and_parts fit (length f.stack == 0) (and_parts few (fit && (length f.stack == 0)) entry).1).1 in
          let has = room method f (local_room (place at insn) f p.local) (omega (arith, none_there)) in
          let wrong : true ≡ false = sym has ∙ none in
          absurd cc

  typed_here : (at : ℕ) (insn : Insn) (o : Option FrameType) → row_failing frames (place at insn) o ≡ None → row_failing told_frames (place at insn) (canonical_frame method o) ≡ None
  typed_here at insn None e = e
  typed_here at insn (Some f) e = by (has_room method (frame_trimmed f)) refl where
    p : Passes frames (place at insn) f
    p = passes frames (place at insn) f e

    by : (b : Bool) → has_room method (frame_trimmed f) ≡ b → row_failing told_frames (place at insn) (cond b (Some (frame_trimmed f)) None) ≡ None
    by true is = row_met told_frames (place at insn) (frame_trimmed f) (trimmed_passes at insn f p)
    by false is = ap (λ (b : Bool). cond b (Some 1) None) (not_first at insn f p is)

  pub told_met : (at : ℕ) → row_in program own class method told_frames at ≡ None
  told_met at = by (slice_get method.insns at) refl where
    by : (o : Option Insn) → slice_get method.insns at ≡ o → option_and_then (λ (i : Insn). row_failing told_frames (place at i) (frame_of told_frames at)) o ≡ None
    by None is = refl
    by (Some insn) is = ap (row_failing told_frames (place at insn)) (told_at at) ∙ typed_here at insn (frame_of frames at) (row_of at insn is)

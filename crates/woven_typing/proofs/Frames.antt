-- The frames of a woven method, where they stand.
use Rattle.std.proofs.Common.{◌≡◌, ℕ, zero, suc, ◌+◌, ◌<◌, Bool, true, false, cond, List, [], ◌∷◌, length, Option, Some, None, refl, sym, ap, ◌∙◌, arith, length-append}
use Rattle.std.specs.Prelude.{option_map, slice_get}
use Rattle.std.specs.Option.{option_map_or}
use Rattle.std.proofs.lemmas.List.{length-map}
use Rattle.std.proofs.lemmas.Option.{slice_get-map, slice_get_within}
use Rattle.cert_format.specs.declared.typing.FrameType.{FrameType}
use Rattle.insn_codec.specs.declared.insn.Insn.{Insn}
use Rattle.bytecode_model.specs.declared.program.Target.{Target}
use Rattle.bytecode_model.specs.declared.program.Target.TheVariants as target
use Rattle.bytecode_model.specs.Rules.{Frames, frame_of}
use Rattle.conspec_automaton.specs.Next.{has_clauses}
use Rattle.offset_patch.specs.Splicing.{part_of}
use Rattle.block_template.specs.declared.item.Item.{Item}
use Rattle.block_template.specs.Blocks.{block_with, bools_of, clauses_of, has_block}
use Rattle.woven_typing.specs.Framing.{alone_typed, block_typed, front_in, frames_woven, insn_typed, item_typed, items_of, low, parts_typed, insn_place}
use Rattle.woven_typing.specs.Renaming.{frame_renamed}
use Rattle.class_weaving.proofs.Bodies.{same_length}
use Rattle.woven_typing.proofs.Body.{Body, base, client, front, moved, part, plan, refs, weaves}
use Rattle.class_weaving.proofs.Lists.{get_left, get_right}
use Rattle.class_weaving.proofs.Parts as parts
use Rattle.block_template.proofs.Plans.{part_length}

abbrev pub frame_or_none : Option (Option FrameType) → Option FrameType
frame_or_none o = option_map_or (λ (f : Option FrameType). f) o None

module _ (b : Body) where
  -- ---- each part has as many frames as instructions

  block_long : (at : ℕ) (insn : Insn) (callee : ℕ) (frame : Option FrameType) (c : Bool) → has_clauses b.policy callee ≡ c
      → length (cond c (block_typed b.policy b.mode (front_in (client b)) (insn_place (client b) at insn (target.ApiMethod callee)) callee frame)
      (alone_typed (front_in (client b)) frame))
      ≡ length (part_of (cond c (Some (block_with b.mode (bools_of b.policy) (base b) (clauses_of b.policy callee))) None))
  block_long at insn callee frame true has =
      length-map (items_of b.policy b.mode (base b) callee) _
      ∙ sym (length-map (items_of b.policy b.mode (base b) callee) (λ (i : Item). i.insn))
  block_long at insn callee frame false has = refl

  pub as_long : (at : ℕ) (insn : Insn) (ref : Target) (frame : Option FrameType)
      → length (insn_typed (client b) at insn ref frame) ≡ length (part b ref)
  as_long at insn (target.ApiMethod callee) frame = block_long at insn callee (low b.method.max_stack frame) (has_clauses b.policy callee) refl
  as_long at insn target.None frame = refl
  as_long at insn (target.Builtin i) frame = refl
  as_long at insn (target.Method c m) frame = refl
  as_long at insn (target.Field c f) frame = refl
  as_long at insn (target.ApiField i) frame = refl
  as_long at insn (target.ClassName name) frame = refl
  as_long at insn (target.Number n) frame = refl
  as_long at insn (target.Literal i) frame = refl

  pub all_long : (at : ℕ) (insns : List Insn) (refs : List Target) (frames : Frames) → length insns ≡ length refs → length frames ≡ length insns
      → length (parts_typed (client b) at insns refs frames) ≡ parts.total (plan b) (base b) refs
  all_long at [] [] frames e f = refl
  all_long at [] (r ∷ refs) frames e f = absurd (omega (arith, e))
  all_long at (x ∷ insns) [] frames e f = absurd (omega (arith, e))
  all_long at (x ∷ insns) (r ∷ refs) [] e f = absurd (omega (arith, f))
  all_long at (x ∷ insns) (r ∷ refs) (y ∷ frames) e f =
      omega (
        arith,
        length-append (insn_typed (client b) at x r y) (parts_typed (client b) (at + 1) insns refs frames),
        as_long at x r y,
        all_long (at + 1) insns refs frames (omega (arith, e)) (omega (arith, f)),
      )

  -- ---- where they stand

  frames_at : (at : ℕ) (insns : List Insn) (refs : List Target) (frames : Frames) (i k : ℕ) (insn : Insn) (ref : Target) (frame : Option FrameType)
      → slice_get insns i ≡ Some insn → slice_get refs i ≡ Some ref → slice_get frames i ≡ Some frame → k < length (part b ref)
      → slice_get (parts_typed (client b) at insns refs frames) (parts.before (plan b) (base b) refs i + k)
      ≡ slice_get (insn_typed (client b) (at + i) insn ref frame) k
  frames_at at [] refs frames i k insn ref frame e f g lt = absurd cc
  frames_at at (x ∷ insns) [] frames i k insn ref frame e f g lt = absurd cc
  frames_at at (x ∷ insns) (r ∷ refs) [] i k insn ref frame e f g lt = absurd cc
  frames_at at (x ∷ insns) (r ∷ refs) (y ∷ frames) zero k insn ref frame e f g lt =
      let own : x ≡ insn = cc in
      let same : r ≡ ref = cc in
      let this : y ≡ frame = cc in
      let none : 0 + k ≡ k = omega arith in
      let here : at + 0 ≡ at = omega arith in
      rw (own, same, this, none, here)
      (get_left (insn_typed (client b) at insn ref frame) (parts_typed (client b) (at + 1) insns refs frames) k
      (omega (arith, lt, as_long at insn ref frame)))
  frames_at at (x ∷ insns) (r ∷ refs) (y ∷ frames) (suc i) k insn ref frame e f g lt =
      let first : Frames = insn_typed (client b) at x r y in
      let len : length first ≡ length (part b r) = as_long at x r y in
      let place : parts.before (plan b) (base b) (r ∷ refs) (suc i) + k ≡ length first + (parts.before (plan b) (base b) refs i + k) =
      omega (arith, len) in
      let next : at + suc i ≡ (at + 1) + i = omega arith in
      rw (place, next)
      (get_right first (parts_typed (client b) (at + 1) insns refs frames) (parts.before (plan b) (base b) refs i + k)
      ∙ frames_at (at + 1) insns refs frames i k insn ref frame e f g lt)

  module _ (frames : Frames) where
    abbrev pub woven : Frames
    woven = frames_woven (client b) frames

    pub long : length frames ≡ length b.method.insns → length woven ≡ parts.total (plan b) (base b) (refs b)
    long told = all_long 0 b.method.insns (refs b) frames (sym (same_length (weaves b))) told

    module _ (i k : ℕ) (insn : Insn) (ref : Target) (frame : Option FrameType) (e : slice_get b.method.insns i ≡ Some insn)
        (f : slice_get (refs b) i ≡ Some ref) (g : slice_get frames i ≡ Some frame) (lt : k < length (part b ref)) where
      pub frame_in : slice_get woven (front b i + k) ≡ slice_get (insn_typed (client b) i insn ref frame) k
      frame_in =
          let here : 0 + i ≡ i = omega arith in
          frames_at 0 b.method.insns (refs b) frames i k insn ref frame e f g lt
          ∙ ap (λ (at : ℕ). slice_get (insn_typed (client b) at insn ref frame) k) here

    -- an instruction without a block
    pub frame_alone : (i : ℕ) (insn : Insn) (ref : Target) (frame : Option FrameType) → slice_get b.method.insns i ≡ Some insn
        → slice_get (refs b) i ≡ Some ref → slice_get frames i ≡ Some frame → has_block b.policy ref ≡ false → 0 < length (part b ref)
        → frame_of woven (front b i + 0) ≡ option_map (frame_renamed (moved b)) (low b.method.max_stack frame)
    frame_alone i insn ref frame e f g none some =
        ap frame_or_none (frame_in i 0 insn ref frame e f g some) ∙ by ref none
      where
        kept : Option FrameType
        kept = low b.method.max_stack frame

        by : (r : Target) → has_block b.policy r ≡ false
            → frame_or_none (slice_get (insn_typed (client b) i insn r frame) 0) ≡ option_map (frame_renamed (moved b)) kept
        by (target.ApiMethod callee) none =
            ap (λ (c : Bool). frame_or_none (slice_get (cond c
            (block_typed b.policy b.mode (front_in (client b)) (insn_place (client b) i insn (target.ApiMethod callee)) callee kept)
            (alone_typed (front_in (client b)) kept)) 0)) none
        by target.None none = refl
        by (target.Builtin j) none = refl
        by (target.Method c m) none = refl
        by (target.Field c f) none = refl
        by (target.ApiField j) none = refl
        by (target.ClassName name) none = refl
        by (target.Number n) none = refl
        by (target.Literal j) none = refl

    -- an item of a block
    pub frame_item : (i callee : ℕ) (insn : Insn) (frame : Option FrameType) → slice_get b.method.insns i ≡ Some insn
        → slice_get (refs b) i ≡ Some (target.ApiMethod callee) → slice_get frames i ≡ Some frame → has_clauses b.policy callee ≡ true
        → (k : ℕ) (item : Item) → slice_get (items_of b.policy b.mode (base b) callee) k ≡ Some item
        → frame_of woven (front b i + k)
        ≡ item_typed (clauses_of b.policy callee) (moved b) (insn_place (client b) i insn (target.ApiMethod callee))
        (low b.method.max_stack frame) item
    frame_item i callee insn frame e f g has k item at =
        let ref : Target = target.ApiMethod callee in
        let kept : Option FrameType = low b.method.max_stack frame in
        let typed_here : Item → Option FrameType = item_typed (clauses_of b.policy callee) (moved b) (insn_place (client b) i insn ref) kept in
        let lt : k < length (part b ref) =
        omega (
          arith,
          part_length b.policy b.mode (base b) callee has,
          slice_get_within (items_of b.policy b.mode (base b) callee) k item at,
        ) in
        ap frame_or_none
        (frame_in i k insn ref frame e f g lt
        ∙ ap (λ (c : Bool). slice_get (cond c
        (block_typed b.policy b.mode (front_in (client b)) (insn_place (client b) i insn ref) callee kept)
        (alone_typed (front_in (client b)) kept)) k) has
        ∙ slice_get-map typed_here (items_of b.policy b.mode (base b) callee) k)
        ∙ ap (λ (o : Option Item). frame_or_none (option_map typed_here o)) at

-- Frames meet the rules of a method where each instruction meets them with its own frame and the next.
use Rattle.std.proofs.Common.{◌≡◌, ℕ, zero, suc, ◌+◌, ◌<◌, List, [], ◌∷◌, length, Option, Some, None, refl, ap, subst, add-one, arith}
use Rattle.std.specs.Prelude.{slice_get, ⊤}
use Rattle.cert_format.specs.declared.typing.FrameType.{FrameType}
use Rattle.insn_codec.specs.declared.insn.Insn.{Insn}
use Rattle.bytecode_model.specs.declared.program.LinkedClass.{LinkedClass}
use Rattle.bytecode_model.specs.declared.program.Method.{Method}
use Rattle.bytecode_model.specs.declared.program.Program.{Program}
use Rattle.bytecode_model.specs.Rules.{Frames, frame_of}
use Rattle.bytecode_model.specs.Typed.{row_in}
use Rattle.bundle_typing.specs.Laws.{AreMet}

module _ (program : Program) (own : ℕ) (class : LinkedClass) (method : Method) where
  -- Where this instruction stands at the place, with this frame, and the next frame is this, the rules are met there.
  abbrev pub IsMet : ℕ → Insn → FrameType → Option FrameType → Type 0
  IsMet at insn frame next =
      (frames : Frames) → slice_get method.insns at ≡ Some insn → frame_of frames at ≡ Some frame → frame_of frames (at + 1) ≡ next
      → row_in program own class method frames at ≡ None

  -- So it is of all these instructions, of which the first has this place.
  abbrev pub AreMetFrom : ℕ → List Insn → Frames → Type 0
  AreMetFrom at [] frames = ⊤
  AreMetFrom at (insn ∷ insns) [] = ⊥
  AreMetFrom at (insn ∷ insns) (None ∷ frames) = ⊥
  AreMetFrom at (insn ∷ insns) (Some frame ∷ frames) = IsMet at insn frame (frame_of frames 0) × AreMetFrom (suc at) insns frames

  -- what stands at an index of them
  record Found (at index : ℕ) (insns : List Insn) (frames : Frames) : Type 0 where
    insn : Insn
    frame : FrameType
    there : slice_get insns index ≡ Some insn
    before : frame_of frames index ≡ Some frame
    met : IsMet (at + index) insn frame (frame_of frames (suc index))

  -- Something stands at each index.
  found : (index at : ℕ) (insns : List Insn) (frames : Frames) → AreMetFrom at insns frames → index < length insns → Found at index insns frames
  found index at [] frames h within = absurd (omega arith)
  found index at (insn ∷ insns) [] h within = absurd h
  found index at (insn ∷ insns) (None ∷ frames) h within = absurd h
  found zero at (insn ∷ insns) (Some frame ∷ frames) h within =
      let here : at ≡ at + zero = omega arith in
      record { insn = insn; frame = frame; there = refl; before = refl; met = subst (λ (n : ℕ). IsMet n insn frame (frame_of frames 0)) here h.0 }
  found (suc index) at (insn ∷ insns) (Some frame ∷ frames) h within =
      let r = found index (suc at) insns frames h.1 (omega arith) in
      let here : suc at + index ≡ at + suc index = omega arith in
      record { insn = r.insn; frame = r.frame; there = r.there; before = r.before; met = subst (λ (n : ℕ). IsMet n r.insn r.frame (frame_of frames (suc index))) here r.met }

  -- The rules are met at each of the method's instructions.
  pub are_met : (frames : Frames) → AreMetFrom 0 method.insns frames → AreMet program own class method (length method.insns) frames
  are_met frames h at within =
      let r = found at 0 method.insns frames h within in
      let here : 0 + at ≡ at = omega arith in
      subst (λ (n : ℕ). IsMet n r.insn r.frame (frame_of frames (suc at))) here r.met frames r.there r.before (ap (frame_of frames) (add-one at))

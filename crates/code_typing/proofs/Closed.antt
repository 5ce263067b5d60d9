-- The places of a typed program that have a frame are closed under control.
use Rattle.std.proofs.Common.{◌≡◌, ℕ, true, length, get_or, Option, Some, None, refl, sym, ap, ◌∙◌, arith}
use Rattle.std.specs.Prelude.{is_some, slice_get, ◌&&◌}
use Rattle.std.proofs.lemmas.Bool.{lt-ltb, and_from, and_parts}
use Rattle.std.proofs.lemmas.Option.{slice_get-get_or, slice_get_within}
use Rattle.cert_format.specs.declared.typing.FrameType.{FrameType}
use Rattle.cert_format.specs.declared.typing.Typing.{Typing}
use Rattle.insn_codec.specs.declared.insn.Insn.{Insn}
use Rattle.insn_codec.specs.declared.insn.Insn.TheVariants as insns
use Rattle.bytecode_model.specs.declared.program.LinkedClass.{LinkedClass}
use Rattle.bytecode_model.specs.declared.program.Method.{Method}
use Rattle.bytecode_model.specs.declared.program.Program.{Program}
use Rattle.code_typing.specs.Closed.{method_at, BeginsReached, GoesToReached, IsCaughtReached}
use Rattle.bytecode_model.specs.Rules.{Frames, frame_of, row_failing}
use Rattle.bytecode_model.specs.Layout.{has_code}
use Rattle.bytecode_model.specs.Typed.{row_fault, place_at, frames_in, frames_told, reached}
use Rattle.frame_types.proofs.Choices.{and_then_of}
use Rattle.code_typing.proofs.Reaching.{row_passed, goes_to_frame, caught_at_frame}

-- a method of a program, with its class
pub record Stands (program : Program) (class method : ℕ) (of : Method) : Type 0 where
  pub in' : LinkedClass
  pub class_there : slice_get program.classes class ≡ Some in'
  pub there : slice_get in'.methods method ≡ Some of

stands : (program : Program) (class method : ℕ) (of : Method) → method_at program class method ≡ Some of → Stands program class method of
stands program class method of e =
    let h = and_then_of (λ (c : LinkedClass). slice_get c.methods method) (slice_get program.classes class) of e in
    record { in' = h.0; class_there = h.1; there = h.2 }

module _ (program : Program) (typing : Typing) (class method : ℕ) (of : Method) (s : Stands program class method of) where
  abbrev pub frames : Frames
  frames = frames_in s.in'.methods (frames_told typing class) method

  reached_is : (at : ℕ) → reached program typing class method at ≡ (has_code of && is_some (frame_of frames at))
  reached_is at = rw (s.class_there, s.there) refl

  row_is : (at : ℕ) (insn : Insn) → slice_get of.insns at ≡ Some insn
      → row_fault program typing class method at ≡ row_failing frames (place_at program class s.in' of at insn) (frame_of frames at)
  row_is at insn e = rw (s.class_there, s.there, e) refl

  coded : (at : ℕ) (insn : Insn) → slice_get of.insns at ≡ Some insn → has_code of ≡ true
  coded at insn e = lt-ltb 0 (length of.insns) (omega (arith, slice_get_within of.insns at insn e))

  there_now : (at to : ℕ) (insn : Insn) → slice_get of.insns at ≡ Some insn → is_some (frame_of frames to) ≡ true → reached program typing class method to ≡ true
  there_now at to insn e h = reached_is to ∙ and_from _ _ (coded at insn e) h

  first_there : (frame : Option FrameType) (insn : Insn) → row_failing frames (place_at program class s.in' of 0 insn) frame ≡ None → is_some frame ≡ true
  first_there None insn e = absurd cc
  first_there (Some frame) insn e = refl

  -- the frame of an instruction that is reached
  some_frame : (o : Option FrameType) → is_some o ≡ true → (frame : FrameType) × (o ≡ Some frame)
  some_frame None e = absurd cc
  some_frame (Some frame) e = (frame, refl)

  frame_there : (at : ℕ) → reached program typing class method at ≡ true → (frame : FrameType) × (frame_of frames at ≡ Some frame)
  frame_there at e = some_frame (frame_of frames at) (and_parts (has_code of) _ (sym (reached_is at) ∙ e)).1

pub begins : BeginsReached
begins program typing typed class method of e some =
    let s = stands program class method of e in
    let insn = slice_get-get_or of.insns 0 (insns.Plain 0) some in
    let row = sym (row_is program typing class method of s 0 _ insn) ∙ typed class method 0 in
    there_now program typing class method of s 0 0 _ insn (first_there program typing class method of s _ (get_or of.insns 0 (insns.Plain 0)) row)

pub goes_on : GoesToReached
goes_on program typing typed class method at of insn e there inside to c =
    let s = stands program class method of e in
    let f = frame_there program typing class method of s at inside in
    let row = sym (row_is program typing class method of s at insn there) ∙ typed class method at in
    let here : row_failing (frames program typing class method of s) (place_at program class s.in' of at insn) (Some f.0) ≡ None =
    ap (row_failing (frames program typing class method of s) (place_at program class s.in' of at insn)) (sym f.1) ∙ row in
    let place = place_at program class s.in' of at insn in
    let p = row_passed (frames program typing class method of s) place f.0 here in
    there_now program typing class method of s at to insn there (goes_to_frame (frames program typing class method of s) place f.0 p to c)

pub caught : IsCaughtReached
caught program typing typed class method at of insn handler e there inside c from to =
    let s = stands program class method of e in
    let f = frame_there program typing class method of s at inside in
    let row = sym (row_is program typing class method of s at insn there) ∙ typed class method at in
    let here : row_failing (frames program typing class method of s) (place_at program class s.in' of at insn) (Some f.0) ≡ None =
    ap (row_failing (frames program typing class method of s) (place_at program class s.in' of at insn)) (sym f.1) ∙ row in
    let place = place_at program class s.in' of at insn in
    let p = row_passed (frames program typing class method of s) place f.0 here in
    there_now program typing class method of s at handler.at insn there (caught_at_frame (frames program typing class method of s) place f.0 p handler c from to)

-- A frame with locals and a stack that fit.
use Rattle.std.proofs.Common.{◌≡◌, ℕ, List, length, Bool, true, false, Option, Some, None, refl, ap, sym, ◌∙◌}
use Rattle.std.specs.Prelude.{nat_lt, if◌then◌else◌, option_and_then, option_map}
use Rattle.insn_codec.specs.declared.insn.Insn.{Insn}
use Rattle.insn_codec.specs.declared.shape.Shape.{Shape}
use Rattle.insn_codec.specs.Control.{next_of}
use Rattle.insn_codec.specs.Effect.{Moved, effect}
use Rattle.insn_codec.specs.Shapes.{shape_of}
use Rattle.guest_heap.specs.declared.frame.Frame.{Frame}
use Rattle.guest_heap.specs.declared.value.Value.{Value}
use Rattle.guest_heap.specs.Stack.{Operands}
use Rattle.guest_frames.specs.Became.{Became}
use Rattle.guest_frames.specs.Room.{Held, held_by}
use Rattle.guest_frames.specs.Stepping.{fitted, frame_stepped}
use Rattle.guest_frames.specs.Values.{values_moved, values_seen}

abbrev pub gone_to : Frame → ℕ → Held → Frame
gone_to frame at held = record frame { at = at; locals = held.0; stack = held.1 }

by_test : (frame : Frame) (at : ℕ) (locals items : List Value) (b : Bool)
    → (if b then None else Some (gone_to frame at (locals, record { items = items; size = frame.stack.size })))
    ≡ option_map (gone_to frame at) (option_map (λ (left : Operands). (locals, left)) (if b then None else Some (record { items = items; size = frame.stack.size })))
by_test frame at locals items true = refl
by_test frame at locals items false = refl

gone : (frame : Frame) (at : ℕ) (moved : Option (Moved Value))
    → option_and_then (λ (m : Moved Value). fitted frame at m.0 m.1) moved ≡ option_map (gone_to frame at) (held_by frame.stack moved)
gone frame at None = refl
gone frame at (Some m) = by_test frame at m.0 m.1 (nat_lt frame.stack.size (length m.1))

pub made : (frame : Frame) (at : ℕ) (moved : Option (Moved Value)) (locals : List Value) (stack : Operands)
    → held_by frame.stack moved ≡ Some (locals, stack)
    → option_and_then (λ (m : Moved Value). fitted frame at m.0 m.1) moved ≡ Some (gone_to frame at (locals, stack))
made frame at moved locals stack e = gone frame at moved ∙ ap (option_map (gone_to frame at)) e

pub not_made : (frame : Frame) (at : ℕ) (moved : Option (Moved Value)) → held_by frame.stack moved ≡ None
    → option_and_then (λ (m : Moved Value). fitted frame at m.0 m.1) moved ≡ None
not_made frame at moved e = gone frame at moved ∙ ap (option_map (gone_to frame at)) e

module _ (frame : Frame) (insn : Insn) (shape : Shape) (next : ℕ) (locals : List Value) (stack : Operands) where
  abbrev effected : Option (Moved Value)
  effected = effect values_moved shape frame.locals frame.stack.items

  went : shape ≡ shape_of insn → next ≡ next_of values_seen insn frame.at frame.stack.items
      → option_and_then (λ (m : Moved Value). fitted frame next m.0 m.1) effected ≡ frame_stepped insn frame
  went s n =
      ap (λ (at : ℕ). option_and_then (λ (m : Moved Value). fitted frame at m.0 m.1) effected) n
      ∙ ap (λ (made : Shape). option_and_then (λ (m : Moved Value). fitted frame (next_of values_seen insn frame.at frame.stack.items) m.0 m.1)
      (effect values_moved made frame.locals frame.stack.items)) s

  pub goes : shape ≡ shape_of insn → next ≡ next_of values_seen insn frame.at frame.stack.items → (b : Bool) → b ≡ true
      → Became b (frame.locals, frame.stack) (locals, stack) (held_by frame.stack effected)
      → Became b frame (record frame { at = next; locals = locals; stack = stack }) (frame_stepped insn frame)
  goes s n true e h = sym (went s n) ∙ made frame next effected locals stack h
  goes s n false e h = absurd cc

  pub stays : shape ≡ shape_of insn → next ≡ next_of values_seen insn frame.at frame.stack.items → (b : Bool) → b ≡ false
      → Became b (frame.locals, frame.stack) (locals, stack) (held_by frame.stack effected)
      → Became b frame (record frame { locals = locals; stack = stack }) (frame_stepped insn frame)
  stays s n true e h = absurd cc
  stays s n false e h = (sym (went s n) ∙ not_made frame next effected h.0, ap (gone_to frame frame.at) h.1)

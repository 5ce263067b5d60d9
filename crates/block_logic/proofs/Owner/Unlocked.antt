-- Where the lock is held round calls, no instruction is granted a call without the lock: it would have to load all arguments, and
-- then call, which it may not.
use Rattle.std.proofs.Common.{◌≡◌, ℕ, zero, suc, ◌<◌, ◌≤◌, ◌+◌, Bool, true, false, List, [], ◌∷◌, length, Option, Some, refl, sym, ap, ◌∙◌, subst, arith, inl, inr}
use Rattle.std.specs.Bool.{beq}
use Rattle.std.specs.Prelude.{option_and_then, slice_get}
use Rattle.insn_codec.specs.declared.insn.Insn.{Insn}
use Rattle.insn_codec.specs.declared.shape.Shape.{Shape}
use Rattle.insn_codec.specs.Fits.{Ends}
use Rattle.insn_codec.specs.Opcodes.{goes_on}
use Rattle.insn_codec.specs.Shapes.{shape_of}
use Rattle.insn_codec.specs.Encoding.{opcode_of}
use Rattle.insn_codec.specs.Table.{ends}
use Rattle.bytecode_model.specs.declared.program.LinkedClass.{LinkedClass}
use Rattle.bytecode_model.specs.declared.program.Method.{Method}
use Rattle.bytecode_model.specs.declared.program.Program.{Program}
use Rattle.bytecode_model.specs.declared.program.Target.{Target}
use Rattle.bytecode_model.specs.Sound.{IsSoundClass, IsSoundMethod}
use Rattle.block_logic.specs.Annotations.{Annotations, holds_round}
use Rattle.cert_format.specs.declared.note.Note.TheVariants as notes
use Rattle.cert_format.specs.declared.note.Site.{Site}
use Rattle.conspec_automaton.specs.declared.policy.Policy.{Policy}
use Rattle.guest_heap.specs.declared.frame.Frame.{Frame}
use Rattle.guest_heap.specs.declared.value.Value.{Value}
use Rattle.guest_frames.specs.Stepping.{moved_to}
use Rattle.guest_model.specs.Places.{insn_at, insn_in, method_at}
use Rattle.guest_model.proofs.Insns.{has_insn}
use Rattle.guest_model.proofs.Options.{all_get, and_then_of}
use Rattle.block_logic.specs.Accepted.{rules_of}
use Rattle.block_logic.specs.Clauses.{needs}
use Rattle.block_logic.specs.Meaning.{note_of}
use Rattle.block_logic.specs.Obeying.{IsObeying}
use Rattle.block_logic.specs.Rows.{Given, Row, Rules, granted_row}
use Rattle.block_logic.proofs.Owner.Going.{goes_after}
use Rattle.block_logic.proofs.Owner.GrantedRows.{LoadsNext as Loads, granted_cases}
use Rattle.block_logic.proofs.Owner.Weakening.{same_note_is, slice_get_there}
use Rattle.block_logic.proofs.Ruled.{LeadsTo, RulesHold}

-- ---- the next instruction

not_last : (insns : List Insn) (i : ℕ) (insn : Insn) → Ends insns → slice_get insns i ≡ Some insn → goes_on (opcode_of insn) ≡ true → i + 1 < length insns
not_last [] i insn ends there goes = absurd cc
not_last (last ∷ []) zero insn ends there goes =
    let same : last ≡ insn = cc in
    let stops : goes_on (opcode_of insn) ≡ false = subst (λ (x : Insn). goes_on (opcode_of x) ≡ false) same ends in
    absurd cc
not_last (last ∷ []) (suc i) insn ends there goes = absurd cc
not_last (first ∷ second ∷ others) zero insn ends there goes = omega arith
not_last (first ∷ second ∷ others) (suc i) insn ends there goes = omega (arith, not_last (second ∷ others) i insn ends there goes)

-- ---- the row

-- without the lock an argument is loaded, and nothing else is done
only_loads : (rules : Rules) (site : Site) (count : ℕ) (shape : Shape) (ref : Target) (r : Row) → holds_round rules.held site.method ≡ true
    → granted_row rules site false count false shape ref ≡ Some r → Loads rules site false count false shape ref r
only_loads rules site count shape ref r hold e = elim (granted_cases rules site false count false shape ref r e) [
  | inl loads ↦ loads
  | inr (inl pushes) ↦ let not_so : false ≡ true = pushes.locks in absurd cc
  | inr (inr (inl leaves)) ↦ let not_so : false ≡ true = leaves.locks in absurd cc
  | inr (inr (inr calls)) ↦ let not_so : beq false true ≡ true = subst (λ (b : Bool). beq false b ≡ true) hold calls.locks in absurd cc
]

-- the instruction at a place of a method
in_method : (o : Option Method) (m : Method) (at : ℕ) (insn : Insn) (ref : Target) → o ≡ Some m → slice_get m.insns at ≡ Some insn → slice_get m.refs at ≡ Some ref
    → option_and_then (λ (method : Method). insn_in method at) o ≡ Some (insn, ref)
in_method o m at insn ref there is names = rw (there, is, names) refl

module _ (program : Program) (policy : Policy) (annotations : Annotations) (o : IsObeying program policy annotations) where
  -- where control can go on, there is an instruction after
  after_there : (frame : Frame) (next : Insn × Target) (locals items : List Value) → insn_at program frame ≡ Some next → goes_on (opcode_of next.0) ≡ true
      → (after : Insn × Target) × (insn_at program (moved_to frame (frame.at + 1) locals items) ≡ Some after)
  after_there frame next locals items there goes =
      let m = and_then_of (λ (method : Method). insn_in method frame.at) (method_at program frame.class frame.method) next there in
      let c = and_then_of (λ (c : LinkedClass). slice_get c.methods frame.method) (slice_get program.classes frame.class) m.0 m.1 in
      let class = all_get IsSoundClass program.classes frame.class c.0 o.sound.classes c.1 in
      let sound : IsSoundMethod m.0 = all_get IsSoundMethod c.0.methods frame.method m.0 class.methods c.2 in
      let here = has_insn m.0 frame.at next.0 next.1 m.2 in
      let inside = not_last m.0.insns frame.at next.0 sound.ends here.insn_there goes in
      let insn = slice_get_there m.0.insns (frame.at + 1) inside in
      let ref = slice_get_there m.0.refs (frame.at + 1) (omega (arith, sound.refs, inside)) in
      ((insn.0, ref.0), in_method (method_at program frame.class frame.method) m.0 (frame.at + 1) insn.0 ref.0 m.1 insn.1 ref.1)

  module _ (rules_hold : RulesHold program policy annotations) (site : Site) (hold : holds_round annotations.held site.method ≡ true) where
    -- the instruction loads the next argument, and the one after it is so too
    record LoadsNext (frame : Frame) (count : ℕ) : Type 0 where
      pub less : count < needs policy site.method
      pub next : Insn × Target
      pub there : insn_at program (moved_to frame (frame.at + 1) [] []) ≡ Some next
      pub told : note_of program annotations (moved_to frame (frame.at + 1) [] []) ≡ Some (notes.Granted site false (count + 1) false)

    loads_next : (frame : Frame) (next : Insn × Target) (count : ℕ) → insn_at program frame ≡ Some next
        → note_of program annotations frame ≡ Some (notes.Granted site false count false) → LoadsNext frame count
    loads_next frame next count there told =
        let ruled = rules_hold frame next (notes.Granted site false count false) there told in
        let l = only_loads (rules_of program policy annotations) site count (shape_of next.0) next.1 ruled.r hold ruled.has in
        let goes = goes_after program policy annotations o frame next there (ap ends l.is) in
        let following : LeadsTo program policy annotations frame (frame.at + 1) (Given (notes.Granted site false (count + 1) false)) =
        subst (LeadsTo program policy annotations frame (frame.at + 1)) l.asks.past (ruled.past goes) in
        let same = same_note_is (notes.Granted site false (count + 1) false) following.note following.meets in
        let after = after_there frame next [] [] there goes in
        record { less = l.less; next = after.0; there = after.1; told = following.told ∙ ap Some (sym same) }

    none_granted : (n : ℕ) (frame : Frame) (next : Insn × Target) (count : ℕ) → needs policy site.method ≤ count + n → insn_at program frame ≡ Some next
        → note_of program annotations frame ≡ Some (notes.Granted site false count false) → ⊥
    none_granted zero frame next count few there told = let l = loads_next frame next count there told in absurd (omega (arith, l.less))
    none_granted (suc n) frame next count few there told =
        let l = loads_next frame next count there told in
        none_granted n (moved_to frame (frame.at + 1) [] []) l.next (count + 1) (omega (arith, few)) l.there l.told

    -- No instruction leads there.
    pub never_unlocked : (frame : Frame) (next : Insn × Target) (count : ℕ) → insn_at program frame ≡ Some next → ends (shape_of next.0) ≡ false
        → LeadsTo program policy annotations frame (frame.at + 1) (Given (notes.Granted site false count false)) → ⊥
    never_unlocked frame next count there stays leads =
        let same = same_note_is (notes.Granted site false count false) leads.note leads.meets in
        let after = after_there frame next [] [] there (goes_after program policy annotations o frame next there stays) in
        none_granted (needs policy site.method) (moved_to frame (frame.at + 1) [] []) after.0 count (omega arith) after.1 (leads.told ∙ ap Some (sym same))

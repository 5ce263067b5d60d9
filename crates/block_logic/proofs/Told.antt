-- What is told of an instruction that is reached: it stands in its method, has a note, and breaks no rule.
use Rattle.std.proofs.Common.{◌≡◌, ℕ, Bool, true, List, [], ◌∷◌, Some, None, refl, sym, ap, ◌∙◌, inl, inr}
use Rattle.std.specs.Prelude.{◌&&◌, is_some, option_map, slice_get}
use Rattle.std.specs.List.{AllByRecursion}
use Rattle.std.proofs.lemmas.Bool.{and_parts, cases_Bool}
use Rattle.insn_codec.specs.declared.insn.Insn.{Insn}
use Rattle.insn_codec.specs.Shapes.{shape_of}
use Rattle.bytecode_model.specs.declared.program.LinkedClass.{LinkedClass}
use Rattle.bytecode_model.specs.declared.program.Method.{Method}
use Rattle.bytecode_model.specs.declared.program.Program.{Program}
use Rattle.bytecode_model.specs.declared.program.Target.{Target}
use Rattle.bytecode_model.specs.Rules.{frame_of}
use Rattle.bytecode_model.specs.Layout.{has_code}
use Rattle.bytecode_model.specs.Typed.{frames_in, frames_told, reached}
use Rattle.block_logic.specs.Annotations.{Annotations}
use Rattle.cert_format.specs.declared.note.Note.{Note}
use Rattle.conspec_automaton.specs.declared.policy.Policy.{Policy}
use Rattle.guest_model.specs.Places.{insn_in, method_at}
use Rattle.guest_model.proofs.Options.{and_then_of, map_of}
use Rattle.block_logic.specs.Accepted.{note_fault_at, notes_in, notes_told, reached_fault, rules_of}
use Rattle.block_logic.specs.Meaning.{note_at, note_in}
use Rattle.block_logic.specs.Notes.{Here, first_broken, note_fault, rules_at, told_fault}
use Rattle.block_logic.specs.Rows.{Rules, row}
use Rattle.block_logic.proofs.Tests.{if_true}

-- ---- rules in order

-- Where no rule is broken, each holds.
pub all_hold : (rules : List (ℕ × Bool)) → first_broken rules ≡ None → AllByRecursion (λ (rule : ℕ × Bool). rule.1 ≡ true) rules
all_hold [] e = tt
all_hold (rule ∷ rules) e =
    elim (cases_Bool rule.1) [
      | inl holds ↦ (holds, all_hold rules (rw holds at e))
      | inr fails ↦ let broken : Some rule.0 ≡ None = rw fails at e in absurd cc
    ]

-- ---- an instruction and what its operand names

pub insn_parts : (m : Method) (at : ℕ) (next : Insn × Target) → insn_in m at ≡ Some next → (slice_get m.insns at ≡ Some next.0) × (slice_get m.refs at ≡ Some next.1)
insn_parts m at next e =
    let i = and_then_of (λ (insn : Insn). option_map (λ (ref : Target). (insn, ref)) (slice_get m.refs at)) (slice_get m.insns at) next e in
    let r = map_of (λ (ref : Target). (i.0, ref)) (slice_get m.refs at) next i.2 in
    let insn : i.0 ≡ next.0 = ap (λ (p : Insn × Target). p.0) r.2 in
    let ref : r.0 ≡ next.1 = ap (λ (p : Insn × Target). p.1) r.2 in
    (rw insn at i.1, rw ref at r.1)

module _ (program : Program) (policy : Policy) (annotations : Annotations) where
  -- the instruction of this index, in its class and method
  pub record IsIn (class method at : ℕ) (next : Insn × Target) : Type 0 where
    pub c : LinkedClass
    pub class_there : slice_get program.classes class ≡ Some c
    pub m : Method
    pub in_class : slice_get c.methods method ≡ Some m
    pub method_there : method_at program class method ≡ Some m
    pub insn_there : slice_get m.insns at ≡ Some next.0
    pub ref_there : slice_get m.refs at ≡ Some next.1

  pub is_in : (class method at : ℕ) (m : Method) (next : Insn × Target) → method_at program class method ≡ Some m → insn_in m at ≡ Some next → IsIn class method at next
  is_in class method at m next e i =
      let c = and_then_of (λ (c : LinkedClass). slice_get c.methods method) (slice_get program.classes class) m e in
      let parts = insn_parts m at next i in
      record { c = c.0; class_there = c.1; m = m; in_class = c.2; method_there = e; insn_there = parts.0; ref_there = parts.1 }

  -- the notes of its method
  abbrev pub notes_of : LinkedClass → ℕ → ℕ → List Note
  notes_of c class method = notes_in c.methods (notes_told annotations class) method

  abbrev pub here_at : ℕ → Insn × Target → Here
  here_at at next = record { at = at; insn = next.0; ref = next.1 }

  -- It is reached.
  pub is_reached : (class method at : ℕ) (note : Note) → note_at program annotations class method at ≡ Some note
      → (reached program annotations.typing class method at ≡ true) × (note_in program annotations class method at ≡ Some note)
  is_reached class method at note e = if_true (reached program annotations.typing class method at) (note_in program annotations class method at) note e

  pub note_there : (class method at : ℕ) (note : Note) → reached program annotations.typing class method at ≡ true
      → note_in program annotations class method at ≡ Some note → note_at program annotations class method at ≡ Some note
  note_there class method at note reaches e = rw reaches e

  module _ (class method at : ℕ) (next : Insn × Target) (i : IsIn class method at next) where
    -- its note, out of those of its method
    pub told_in_method : (to : ℕ) → note_in program annotations class method to ≡ slice_get (notes_of i.c class method) to
    told_in_method to = rw i.class_there refl

    pub has_frame : reached program annotations.typing class method at ≡ true
        → is_some (frame_of (frames_in i.c.methods (frames_told annotations.typing class) method) at) ≡ true
    has_frame reaches =
        let same : reached program annotations.typing class method at ≡ (has_code i.m && is_some (frame_of (frames_in i.c.methods (frames_told annotations.typing class) method) at)) =
        rw (i.class_there, i.in_class) refl in
        (and_parts (has_code i.m) (is_some (frame_of (frames_in i.c.methods (frames_told annotations.typing class) method) at)) (sym same ∙ reaches)).1

    -- no rule is broken there
    pub fault_free : reached program annotations.typing class method at ≡ true → note_fault_at program policy annotations class method at ≡ None
        → told_fault (rules_of program policy annotations) (notes_of i.c class method) i.m (here_at at next) (slice_get (notes_of i.c class method) at) ≡ None
    fault_free reaches none =
        let rules : Rules = rules_of program policy annotations in
        let told : List Note = notes_of i.c class method in
        let frames = frames_in i.c.methods (frames_told annotations.typing class) method in
        let framed = has_frame reaches in
        let at_method : note_fault_at program policy annotations class method at ≡ reached_fault rules frames told i.m at = rw (i.class_there, i.in_class) refl in
        let with_frame : reached_fault rules frames told i.m at ≡ note_fault rules told i.m at = rw framed refl in
        let with_note : note_fault rules told i.m at ≡ told_fault rules told i.m (here_at at next) (slice_get told at) = rw (i.insn_there, i.ref_there) refl in
        sym with_note ∙ sym with_frame ∙ sym at_method ∙ none

    -- each rule holds
    pub rules_hold_at : (note : Note) → reached program annotations.typing class method at ≡ true → note_fault_at program policy annotations class method at ≡ None
        → slice_get (notes_of i.c class method) at ≡ Some note
        → AllByRecursion (λ (rule : ℕ × Bool). rule.1 ≡ true)
        (rules_at (rules_of program policy annotations) (notes_of i.c class method) i.m note (here_at at next) (row (rules_of program policy annotations) note (shape_of next.0) next.1))
    rules_hold_at note reaches none there =
        all_hold (rules_at (rules_of program policy annotations) (notes_of i.c class method) i.m note (here_at at next) (row (rules_of program policy annotations) note (shape_of next.0) next.1))
        (rw there at (fault_free reaches none))

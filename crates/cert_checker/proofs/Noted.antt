-- No note is found wrong exactly where none is.
use Rattle.std.proofs.Common.{◌≡◌, ◌⊎◌, ℕ, zero, suc, ◌+◌, ◌-◌, ◌<◌, ◌≤◌, Bool, true, false, cond, List, [], ◌∷◌, length, take, drop, Option, Some, None, refl, sym, ap, subst, ◌∙◌, arith, inl, inr}
use Rattle.std.specs.Prelude.{is_some, slice_get, option_and_then}
use Rattle.std.proofs.lemmas.Bool.{lt-ltb}
use Rattle.std.proofs.lemmas.Option.{slice_get_within}
use Rattle.bytecode_model.specs.declared.program.LinkedClass.{LinkedClass}
use Rattle.bytecode_model.specs.declared.program.Method.{Method}
use Rattle.bytecode_model.specs.declared.program.Program.{Program}
use Rattle.cert_format.specs.declared.certificate.Certificate.{Certificate}
use Rattle.cert_format.specs.declared.note.Note.{Note}
use Rattle.cert_format.specs.declared.typing.FrameType.{FrameType}
use Rattle.insn_codec.specs.declared.insn.Insn.{Insn}
use Rattle.bytecode_model.specs.Rules.{frame_of}
use Rattle.bytecode_model.specs.Layout.{has_code, coded}
use Rattle.bytecode_model.specs.Typed.{frames_in, frames_told, list_at}
use Rattle.conspec_automaton.specs.declared.policy.Policy.{Policy}
use Rattle.block_logic.specs.Annotations.{Annotations, annotations_of}
use Rattle.block_logic.specs.Accepted.{notes_in, notes_told, reached_fault, fault_in_class, note_fault_at, rules_of}
use Rattle.cert_checker.specs.Acceptance.{in_method, in_methods, in_classes, notes_fault}
use Rattle.block_logic.specs.Notes.{note_fault}
use Rattle.block_logic.specs.Rows.{Rules}
use Rattle.cert_checker.specs.Places.{or_else, placed, first_from}
use Rattle.cert_checker.proofs.Options.{or_else_none, placed_none}

-- ---- places in order

is_first : (a i : ℕ) → a ≤ i → (a ≡ i) ⊎ (a + 1 ≤ i)
is_first zero zero le = inl refl
is_first zero (suc i) le = inr (omega arith)
is_first (suc a) zero le = absurd (omega (arith, le))
is_first (suc a) (suc i) le =
    elim (is_first a i (omega (arith, le))) [
      | inl same ↦ inl (ap suc same)
      | inr later ↦ inr (omega (arith, later))
    ]

nowhere : {A : Type 0} (f : ℕ → Option A) (at n : ℕ) → first_from f at n ≡ None → (i : ℕ) → at ≤ i → i < at + n → f i ≡ None
nowhere f at zero none i low high = absurd (omega (arith, low, high))
nowhere f at (suc n) none i low high =
    let both = or_else_none (placed at (f at)) (first_from f (at + 1) n) none in
    elim (is_first at i low) [
      | inl same ↦ subst (λ (j : ℕ). f j ≡ None) same (placed_none at (f at) both.0)
      | inr later ↦ nowhere f (at + 1) n both.1 i later (omega (arith, high))
    ]

nowhere_in : {A : Type 0} (f : ℕ → Option A) (at n : ℕ) → ((i : ℕ) → f i ≡ None) → first_from f at n ≡ None
nowhere_in f at zero none = refl
nowhere_in f at (suc n) none = rw (none at) (nowhere_in f (at + 1) n none)

-- one place, and those after it
pub step_from : {A : Type 0} (f : ℕ → Option A) (at left : ℕ) → 0 < left → first_from f at left ≡ or_else (placed at (f at)) (first_from f (at + 1) (left - 1))
step_from f at zero some = absurd (omega (arith, some))
step_from f at (suc n) some = let rest : suc n - 1 ≡ n = omega arith in rw rest refl

-- ---- what is told of methods with code

-- of the method of this index
abbrev told_in : {A : Type 0} → List Method → List (List A) → ℕ → List A
told_in methods told method = list_at told (length (coded (take method methods)))

after_is : {A : Type 0} (told : List (List A)) (k : ℕ) → list_at told (suc k) ≡ list_at (drop 1 told) k
after_is [] k = refl
after_is (f ∷ told) k = refl

told_after : {A : Type 0} (m : Method) (ms : List Method) (told : List (List A)) (n : ℕ) → has_code m ≡ true → told_in (m ∷ ms) told (suc n) ≡ told_in ms (drop 1 told) n
told_after m ms told n e = rw e (after_is told (length (coded (take n ms))))

told_same : {A : Type 0} (m : Method) (ms : List Method) (told : List (List A)) (n : ℕ) → has_code m ≡ false → told_in (m ∷ ms) told (suc n) ≡ told_in ms told n
told_same m ms told n e = rw e refl

-- ---- methods

module _ (rules : Rules) where
  -- no note of the method of this index is wrong, if it has code
  abbrev Free : List Method → List (List (Option FrameType)) → List (List Note) → Type 0
  Free ms frames notes = (number : ℕ) (m : Method) → slice_get ms number ≡ Some m → has_code m ≡ true → in_method rules (told_in ms frames number) (told_in ms notes number) m ≡ None

  -- by whether the first has code
  abbrev step : ℕ → Method → List Method → List (List (Option FrameType)) → List (List Note) → Bool → Option (ℕ × (ℕ × ℕ))
  step at m ms frames notes coded =
      cond coded (or_else (placed at (in_method rules (list_at frames 0) (list_at notes 0) m)) (in_methods rules (at + 1) ms (drop 1 frames) (drop 1 notes)))
      (in_methods rules (at + 1) ms frames notes)

  -- what is said of the others, whatever is told of them
  abbrev Later : ℕ → List Method → Type 0
  Later at ms = (frames : List (List (Option FrameType))) (notes : List (List Note)) → in_methods rules (at + 1) ms frames notes ≡ None → Free ms frames notes

  free_first : (at : ℕ) (m : Method) (ms : List Method) (frames : List (List (Option FrameType))) (notes : List (List Note)) (b : Bool) → has_code m ≡ b → Later at ms → step at m ms frames notes b ≡ None → Free (m ∷ ms) frames notes
  free_first at m ms frames notes true has later none zero n e coded =
      let both = or_else_none (placed at (in_method rules (list_at frames 0) (list_at notes 0) m)) (in_methods rules (at + 1) ms (drop 1 frames) (drop 1 notes)) none in
      let same : m ≡ n = cc in
      subst (λ (x : Method). in_method rules (told_in (m ∷ ms) frames 0) (told_in (m ∷ ms) notes 0) x ≡ None) same
      (placed_none at (in_method rules (list_at frames 0) (list_at notes 0) m) both.0)
  free_first at m ms frames notes true has later none (suc number) n e coded =
      let both = or_else_none (placed at (in_method rules (list_at frames 0) (list_at notes 0) m)) (in_methods rules (at + 1) ms (drop 1 frames) (drop 1 notes)) none in
      rw (told_after m ms frames number has, told_after m ms notes number has) (later (drop 1 frames) (drop 1 notes) both.1 number n e coded)
  free_first at m ms frames notes false has later none zero n e coded =
      let same : m ≡ n = cc in
      let codeless : has_code n ≡ false = subst (λ (x : Method). has_code x ≡ false) same has in
      absurd cc
  free_first at m ms frames notes false has later none (suc number) n e coded =
      rw (told_same m ms frames number has, told_same m ms notes number has) (later frames notes none number n e coded)

  free_methods : (at : ℕ) (ms : List Method) (frames : List (List (Option FrameType))) (notes : List (List Note)) → in_methods rules at ms frames notes ≡ None → Free ms frames notes
  free_methods at [] frames notes none = λ number m e coded. absurd cc
  free_methods at (m ∷ ms) frames notes none = free_first at m ms frames notes (has_code m) refl (λ f t n. free_methods (at + 1) ms f t n) none

  -- the same the other way
  abbrev None_later : ℕ → List Method → Type 0
  None_later at ms = (frames : List (List (Option FrameType))) (notes : List (List Note)) → Free ms frames notes → in_methods rules (at + 1) ms frames notes ≡ None

  none_first : (at : ℕ) (m : Method) (ms : List Method) (frames : List (List (Option FrameType))) (notes : List (List Note)) (b : Bool) → has_code m ≡ b → None_later at ms → Free (m ∷ ms) frames notes → step at m ms frames notes b ≡ None
  none_first at m ms frames notes true has later free =
      let first : in_method rules (list_at frames 0) (list_at notes 0) m ≡ None = free 0 m refl has in
      rw first (later (drop 1 frames) (drop 1 notes) (λ number n e coded.
      subst (λ (t : List Note). in_method rules (told_in ms (drop 1 frames) number) t n ≡ None) (told_after m ms notes number has)
      (subst (λ (f : List (Option FrameType)). in_method rules f (told_in (m ∷ ms) notes (suc number)) n ≡ None) (told_after m ms frames number has) (free (suc number) n e coded))))
  none_first at m ms frames notes false has later free =
      later frames notes (λ number n e coded.
      subst (λ (t : List Note). in_method rules (told_in ms frames number) t n ≡ None) (told_same m ms notes number has)
      (subst (λ (f : List (Option FrameType)). in_method rules f (told_in (m ∷ ms) notes (suc number)) n ≡ None) (told_same m ms frames number has) (free (suc number) n e coded)))

  none_methods : (at : ℕ) (ms : List Method) (frames : List (List (Option FrameType))) (notes : List (List Note)) → Free ms frames notes → in_methods rules at ms frames notes ≡ None
  none_methods at [] frames notes free = refl
  none_methods at (m ∷ ms) frames notes free = none_first at m ms frames notes (has_code m) refl (λ f t n. none_methods (at + 1) ms f t n) free

  -- ---- classes

  free_classes : (at : ℕ) (cs : List LinkedClass) (frames : List (List (List (Option FrameType)))) (notes : List (List (List Note))) → in_classes rules at cs frames notes ≡ None
      → (class : ℕ) (c : LinkedClass) → slice_get cs class ≡ Some c → in_methods rules 0 c.methods (list_at frames class) (list_at notes class) ≡ None
  free_classes at [] frames notes none class c e = absurd cc
  free_classes at (d ∷ cs) frames notes none zero c e =
      let both = or_else_none (placed at (in_methods rules 0 d.methods (list_at frames 0) (list_at notes 0))) (in_classes rules (at + 1) cs (drop 1 frames) (drop 1 notes)) none in
      let same : d ≡ c = cc in
      subst (λ (x : LinkedClass). in_methods rules 0 x.methods (list_at frames 0) (list_at notes 0) ≡ None) same
      (placed_none at (in_methods rules 0 d.methods (list_at frames 0) (list_at notes 0)) both.0)
  free_classes at (d ∷ cs) frames notes none (suc class) c e =
      let both = or_else_none (placed at (in_methods rules 0 d.methods (list_at frames 0) (list_at notes 0))) (in_classes rules (at + 1) cs (drop 1 frames) (drop 1 notes)) none in
      rw (after_is frames class, after_is notes class) (free_classes (at + 1) cs (drop 1 frames) (drop 1 notes) both.1 class c e)

  none_classes : (at : ℕ) (cs : List LinkedClass) (frames : List (List (List (Option FrameType)))) (notes : List (List (List Note)))
      → ((class : ℕ) (c : LinkedClass) → slice_get cs class ≡ Some c → in_methods rules 0 c.methods (list_at frames class) (list_at notes class) ≡ None)
      → in_classes rules at cs frames notes ≡ None
  none_classes at [] frames notes free = refl
  none_classes at (d ∷ cs) frames notes free =
      let first : in_methods rules 0 d.methods (list_at frames 0) (list_at notes 0) ≡ None = free 0 d refl in
      rw first (none_classes (at + 1) cs (drop 1 frames) (drop 1 notes) (λ class c e.
      subst (λ (t : List (List Note)). in_methods rules 0 c.methods (list_at (drop 1 frames) class) t ≡ None) (after_is notes class)
      (subst (λ (f : List (List (Option FrameType))). in_methods rules 0 c.methods f (list_at notes (suc class)) ≡ None) (after_is frames class) (free (suc class) c e))))

  -- ---- instructions

  -- past the end of the code no rule is broken
  past_end : (frames : List (Option FrameType)) (told : List Note) (m : Method) (at : ℕ) → slice_get m.insns at ≡ None → reached_fault rules frames told m at ≡ None
  past_end frames told m at e = past (is_some (frame_of frames at)) (note_fault rules told m at) (rw e refl) where
    past : (b : Bool) (o : Option ℕ) → o ≡ None → cond b o None ≡ None
    past true o e = e
    past false o e = refl

  -- in a method in which no note is found wrong, none is
  free_at : (frames : List (Option FrameType)) (told : List Note) (m : Method) (at : ℕ) → (has_code m ≡ true → in_method rules frames told m ≡ None) → reached_fault rules frames told m at ≡ None
  free_at frames told m at none = by_insn (slice_get m.insns at) refl where
    by_insn : (o : Option Insn) → slice_get m.insns at ≡ o → reached_fault rules frames told m at ≡ None
    by_insn None e = past_end frames told m at e
    by_insn (Some insn) e =
        let within : at < length m.insns = slice_get_within m.insns at insn e in
        let coded : has_code m ≡ true = lt-ltb 0 (length m.insns) (omega (arith, within)) in
        nowhere (reached_fault rules frames told m) 0 (length m.insns) (none coded) at (omega arith) (omega (arith, within))

-- ---- the whole

module _ (program : Program) (policy : Policy) (certificate : Certificate) where
  abbrev annotations : Annotations
  annotations = annotations_of certificate

  abbrev of_frames : ℕ → List (List (Option FrameType))
  of_frames class = frames_told certificate.typing class

  abbrev of_notes : ℕ → List (List Note)
  of_notes class = notes_told annotations class

  abbrev rules : Rules
  rules = rules_of program policy annotations

  pub none_wrong : notes_fault program policy certificate ≡ None → (class method at : ℕ) → note_fault_at program policy annotations class method at ≡ None
  none_wrong none class method at = by_class (slice_get program.classes class) refl where
    by_method : (c : LinkedClass) → slice_get program.classes class ≡ Some c → (o : Option Method) → slice_get c.methods method ≡ o
        → option_and_then (λ (m : Method). reached_fault rules (frames_in c.methods (of_frames class) method) (notes_in c.methods (of_notes class) method) m at) o ≡ None
    by_method c there None e = refl
    by_method c there (Some m) e =
        free_at rules (frames_in c.methods (of_frames class) method) (notes_in c.methods (of_notes class) method) m at (λ coded.
        free_methods rules 0 c.methods (of_frames class) (of_notes class)
        (free_classes rules 0 program.classes certificate.typing.frames certificate.notes none class c there) method m e coded)

    by_class : (o : Option LinkedClass) → slice_get program.classes class ≡ o → option_and_then (λ (c : LinkedClass). fault_in_class rules annotations class c method at) o ≡ None
    by_class None e = refl
    by_class (Some c) e = by_method c e (slice_get c.methods method) refl

  -- what is said of a place, by what stands there
  said_at : (class method : ℕ) (c : LinkedClass) (m : Method) → slice_get program.classes class ≡ Some c → slice_get c.methods method ≡ Some m
      → ((at : ℕ) → note_fault_at program policy annotations class method at ≡ None)
      → (at : ℕ) → reached_fault rules (frames_in c.methods (of_frames class) method) (notes_in c.methods (of_notes class) method) m at ≡ None
  said_at class method c m there in_class none at =
      let same : note_fault_at program policy annotations class method at ≡ reached_fault rules (frames_in c.methods (of_frames class) method) (notes_in c.methods (of_notes class) method) m at = rw (there, in_class) refl in
      sym same ∙ none at

  pub wrong_none : ((class method at : ℕ) → note_fault_at program policy annotations class method at ≡ None) → notes_fault program policy certificate ≡ None
  wrong_none none =
      none_classes rules 0 program.classes certificate.typing.frames certificate.notes (λ class c there.
      none_methods rules 0 c.methods (of_frames class) (of_notes class) (λ method m in_class coded.
      nowhere_in (reached_fault rules (frames_in c.methods (of_frames class) method) (notes_in c.methods (of_notes class) method) m) 0 (length m.insns)
      (said_at class method c m there in_class (none class method))))

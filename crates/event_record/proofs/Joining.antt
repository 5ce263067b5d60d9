-- Joined plain steps: how they go on, and that their line stands before the entries after them.
use Rattle.std.proofs.Common.{◌≡◌, ◌≢◌, ℕ, suc, zero, add-one, ◌+◌, arith, Bool, true, false, cond, List, [], ◌∷◌, ◌++◌, refl, sym, ap, ◌∙◌, append_assoc}
use Rattle.std.specs.Prelude.{◌==◌}
use Rattle.std.specs.List.{flat_map}
use Rattle.std.proofs.lemmas.Bool.{eq-eqb, eqb-true, ne_eqb}
use Rattle.std.proofs.lemmas.List.{append-nil}
use Rattle.api_listing.specs.declared.events.ApiAnswer.{ApiAnswer}
use Rattle.api_listing.specs.declared.events.Event.{Event}
use Rattle.api_listing.specs.declared.types.ListedMethod.{ListedMethod}
use Rattle.event_record.specs.declared.entry.Entry.{Entry}
use Rattle.event_record.specs.declared.entry.Entry.TheVariants.{Go, Answer, Seen, End}
use Rattle.event_record.specs.declared.writing.Joined.{Joined}
use Rattle.event_record.specs.Joined.{joined_line, lines_after, plains_before}
use Rattle.event_record.specs.Printing.{event_line}
use Rattle.event_record.specs.Writing.{answer_line, entry_line, plain_before}

-- The entries do not begin with plain steps of the thread.
abbrev pub IsApart : ℕ → List Entry → Type 0
IsApart thread [] = Unit {0}
IsApart thread (Go other count ∷ entries) = (thread == other) ≡ false
IsApart thread (Answer other answer ∷ entries) = Unit {0}
IsApart thread (Seen event ∷ entries) = Unit {0}
IsApart thread (End ∷ entries) = Unit {0}

same_thread : (thread : ℕ) → (thread == thread) ≡ true
same_thread thread = eq-eqb thread thread refl

plain_is : (thread : ℕ) (entries : List Entry) → IsApart thread entries → plain_before thread entries ≡ Go thread 1 ∷ entries
plain_is thread [] apart = refl
plain_is thread (Go other count ∷ entries) apart = rw apart refl
plain_is thread (Answer other answer ∷ entries) apart = refl
plain_is thread (Seen event ∷ entries) apart = refl
plain_is thread (End ∷ entries) apart = refl

plains_are : (thread count : ℕ) (entries : List Entry) → IsApart thread entries → plains_before thread (suc count) entries ≡ Go thread (suc count) ∷ entries
plains_are thread zero entries apart = plain_is thread entries apart
plains_are thread (suc count) entries apart = ap (plain_before thread) (plains_are thread count entries apart) ∙ rw (same_thread thread) refl

-- one plain step more of the thread
one_more : (thread count : ℕ) (entries : List Entry) → plains_before thread count (plain_before thread entries) ≡ plains_before thread (suc count) entries
one_more thread zero entries = refl
one_more thread (suc count) entries = ap (plain_before thread) (one_more thread count entries)

other_apart : (thread other : ℕ) → (thread == other) ≡ false → (entries : List Entry) → IsApart thread (plain_before other entries)
other_apart thread other apart [] = apart
other_apart thread other apart (Go third count ∷ entries) = by (other == third) refl where
  by : (b : Bool) → (other == third) ≡ b → IsApart thread (cond b (Go third (suc count) ∷ entries) (Go other 1 ∷ Go third count ∷ entries))
  by true same = ap (λ (t : ℕ). thread == t) (sym (eqb-true other third same)) ∙ apart
  by false same = apart
other_apart thread other apart (Answer third answer ∷ entries) = apart
other_apart thread other apart (Seen event ∷ entries) = apart
other_apart thread other apart (End ∷ entries) = apart

module _ (methods : List ListedMethod) where
  abbrev text_of : List Entry → List ℕ
  text_of entries = flat_map (entry_line methods) entries

  -- the line of joined steps stands before what does not begin with that thread's
  pub line_first : (thread count : ℕ) (entries : List Entry) → IsApart thread entries → text_of (plains_before thread count entries) ≡ joined_line thread count ++ text_of entries
  line_first thread zero entries apart = refl
  line_first thread (suc count) entries apart =
      let some : (suc count == 0) ≡ false = grind arith in
      rw some (ap text_of (plains_are thread count entries apart))

  -- what is joined and then put after the old text
  pub written : (old : List ℕ) (thread count : ℕ) (entries : List Entry) → IsApart thread entries → (old ++ joined_line thread count) ++ text_of entries ≡ old ++ text_of (plains_before thread count entries)
  written old thread count entries apart = append_assoc old (joined_line thread count) (text_of entries) ∙ ap (λ (t : List ℕ). old ++ t) (sym (line_first thread count entries apart))

  abbrev old_and : List ℕ → Joined → List Entry → List ℕ
  old_and old joined entries = old ++ lines_after methods joined entries

  pub one_joined : (old : List ℕ) (joined : Joined) (thread : ℕ) (entries : List Entry) → joined.thread ≡ thread
      → old_and old (record { thread = thread; count = joined.count + 1 }) entries ≡ old_and old joined (plain_before thread entries)
  one_joined old joined thread entries same =
      let more : joined.count + 1 ≡ suc joined.count = add-one joined.count in
      ap (λ (n : ℕ). old ++ text_of (plains_before thread n entries)) more ∙ ap (λ (es : List Entry). old ++ text_of es) (sym (one_more thread joined.count entries))
      ∙ ap (λ (t : ℕ). old ++ text_of (plains_before t joined.count (plain_before thread entries))) (sym same)

  pub other_thread : (old new : List ℕ) (joined : Joined) (thread : ℕ) (entries : List Entry) → joined.thread ≢ thread → new ≡ old ++ joined_line joined.thread joined.count
      → old_and new (record { thread = thread; count = 1 }) entries ≡ old_and old joined (plain_before thread entries)
  other_thread old new joined thread entries apart made =
      ap (λ (o : List ℕ). o ++ text_of (plain_before thread entries)) made
      ∙ written old joined.thread joined.count (plain_before thread entries) (other_apart joined.thread thread (ne_eqb joined.thread thread apart) entries)

  -- the joined steps and the line of an entry that is none of theirs
  lines_written : (old mid new line : List ℕ) (joined now : Joined) (entry : Entry) (entries : List Entry) → IsApart joined.thread (entry ∷ entries) → line ≡ entry_line methods entry
      → mid ≡ old ++ joined_line joined.thread joined.count → new ≡ mid ++ line → now.count ≡ 0 → old_and new now entries ≡ old_and old joined (entry ∷ entries)
  lines_written old mid new line joined now entry entries apart is first second none =
      ap (λ (n : ℕ). new ++ text_of (plains_before now.thread n entries)) none
      ∙ ap (λ (o : List ℕ). o ++ text_of entries) (second ∙ ap (λ (o : List ℕ). o ++ line) first ∙ ap (λ (l : List ℕ). (old ++ joined_line joined.thread joined.count) ++ l) is)
      ∙ append_assoc (old ++ joined_line joined.thread joined.count) (entry_line methods entry) (text_of entries) ∙ written old joined.thread joined.count (entry ∷ entries) apart

  pub answer_written : (old mid new : List ℕ) (joined now : Joined) (thread : ℕ) (answer : ApiAnswer) (entries : List Entry) → mid ≡ old ++ joined_line joined.thread joined.count
      → new ≡ mid ++ answer_line thread answer → now.count ≡ 0 → old_and new now entries ≡ old_and old joined (Answer thread answer ∷ entries)
  answer_written old mid new joined now thread answer entries first second none =
      lines_written old mid new (answer_line thread answer) joined now (Answer thread answer) entries tt refl first second none

  pub event_written : (old mid new : List ℕ) (joined now : Joined) (event : Event) (entries : List Entry) → mid ≡ old ++ joined_line joined.thread joined.count
      → new ≡ mid ++ event_line methods event → now.count ≡ 0 → old_and new now entries ≡ old_and old joined (Seen event ∷ entries)
  event_written old mid new joined now event entries first second none =
      lines_written old mid new (event_line methods event) joined now (Seen event) entries tt refl first second none

  -- where nothing follows
  pub all_written : (old new : List ℕ) (joined : Joined) → new ≡ old ++ joined_line joined.thread joined.count → new ≡ old_and old joined []
  all_written old new joined made =
      made ∙ ap (λ (l : List ℕ). old ++ l) (sym (append-nil (joined_line joined.thread joined.count))) ∙ ap (λ (l : List ℕ). old ++ l) (sym (line_first joined.thread joined.count [] tt))

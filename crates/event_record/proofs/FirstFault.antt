-- Which texts have the same fault: those that agree up to its line.
use Rattle.std.proofs.Common.{◌≡◌, ℕ, ◌+◌, ◌<◌, ◌≤◌, Bool, true, false, cond, List, [], ◌∷◌, ◌++◌, length, Result, Ok, Err, refl, sym, ap, subst, ◌∙◌, arith, append_assoc, length-append}
use Rattle.std.specs.Prelude.{◌&&◌, nat_lt, replicate}
use Rattle.std.specs.List.{flat_map}
use Rattle.mon_base.specs.Reading.{◌>>=◌}
use Rattle.api_listing.specs.Words.{IsLines, pieces}
use Rattle.api_listing.specs.Fault.{Read}
use Rattle.api_listing.specs.declared.types.Listing.{Listing}
use Rattle.api_listing.proofs.Pieces.{HasPiece, pieces_of_lines, some_piece}
use Rattle.guest_model.specs.declared.machine.Step.{Step}
use Rattle.event_record.specs.declared.entry.Entry.{Entry}
use Rattle.event_record.specs.declared.entry.Entry.TheVariants.{Go, Answer, Seen, End}
use Rattle.event_record.specs.declared.fault.RecordFault.{RecordFault}
use Rattle.event_record.specs.declared.fault.RecordFault.TheVariants.{Line, Memory}
use Rattle.event_record.specs.declared.reading.Record.{Record}
use Rattle.event_record.specs.declared.reading.Told.{Told}
use Rattle.event_record.specs.Entry.{entry_of}
use Rattle.event_record.specs.Library.{Library, library_of}
use Rattle.event_record.specs.Record.{after_line, after_lines, answered, empty_record, ended, goes_on, is_none, is_over, more_steps, over, plain, reading, with_entry, with_event, with_read, with_steps}
use Rattle.event_record.specs.Encoding.{AreEntries, record_of, steps_of}
use Rattle.event_record.proofs.LineLaws.{entry_again}
use Rattle.event_record.proofs.TextLaws.{added, entry_added, some_line}

-- ---- the line of a fault

abbrev line_of : RecordFault → ℕ
line_of (Line line) = line
line_of Memory = 0

refused_is : {X : Type 0} (a b : RecordFault) → ◌≡◌ {A = Result X RecordFault} (Err a) (Err b) → a ≡ b
refused_is a b h = cc

apart : {X : Type 0} (x : X) (e : RecordFault) → ◌≡◌ {A = Result X RecordFault} (Ok x) (Err e) → ⊥
apart x e h = cc

steps_at : (number : ℕ) (r : Record) (count : ℕ) (step : Step) (f : RecordFault) → more_steps number r count step ≡ Err f → line_of f ≡ number
steps_at number r count step f h = by (nat_lt 1000000 (length r.steps + count)) h where
  by : (b : Bool) → cond b (Err (Line number)) (Ok (goes_on (with_steps r (replicate count step)))) ≡ Err f → line_of f ≡ number
  by true h = ap line_of (sym (refused_is {X = Told} (Line number) f h))
  by false h = absurd (apart (goes_on (with_steps r (replicate count step))) f h)

entry_at : (number : ℕ) (r : Record) (entry : Entry) (f : RecordFault) → with_entry number r entry ≡ Err f → line_of f ≡ number
entry_at number r (Go thread count) f h = steps_at number r count (plain thread) f h
entry_at number r (Answer thread answer) f h = steps_at number r 1 (answered thread answer) f h
entry_at number r (Seen event) f h = absurd (apart (goes_on (with_event r event)) f h)
entry_at number r End f h = absurd (apart (ended r) f h)

at_line : (library : Library) (number : ℕ) (r : Record) (line : List ℕ) (f : RecordFault) → after_line library number r line ≡ Err f → line_of f ≡ number
unfolding after_line
at_line library number r line f h = by (entry_of library (pieces 32 line)) h where
  by : (read : Read Entry) → with_read number r read ≡ Err f → line_of f ≡ number
  by (Ok entry) h = entry_at number r entry f h
  by (Err e) h = ap line_of (sym (refused_is {X = Told} (Line number) f h))

over_at : (number : ℕ) (r : Record) (rest : List (List ℕ)) (f : RecordFault) → over number r rest ≡ Err f → line_of f ≡ number + 1
over_at number r rest f h = by (is_over rest) h where
  by : (b : Bool) → cond b (Ok r) (Err (Line (number + 1))) ≡ Err f → line_of f ≡ number + 1
  by true h = absurd (apart r f h)
  by false h = ap line_of (sym (refused_is {X = Record} (Line (number + 1)) f h))

module _ (library : Library) where
  -- what is read after a line
  abbrev following : ℕ → List (List ℕ) → Told → Result Record RecordFault
  following number rest told = cond told.is_last (over number told.after rest) (after_lines library (number + 1) told.after rest)

  abbrev Later : List (List ℕ) → ℕ → Type 0
  Later rest number = (r : Record) (f : RecordFault) → after_lines library (number + 1) r rest ≡ Err f → number + 1 ≤ line_of f

  at_least : (parts : List (List ℕ)) (number : ℕ) (r : Record) (f : RecordFault) → after_lines library number r parts ≡ Err f → number ≤ line_of f
  at_least [] number r f h = omega (arith, ap line_of (refused_is {X = Record} (Line number) f h))
  at_least (line ∷ rest) number r f h = by (at_least rest (number + 1)) (is_none rest) h where
    last : Later rest number → (told : Told) (b : Bool) → cond b (over number told.after rest) (after_lines library (number + 1) told.after rest) ≡ Err f → number ≤ line_of f
    last others told true h = omega (arith, over_at number told.after rest f h)
    last others told false h = omega (arith, others told.after f h)

    read : Later rest number → (told : Result Told RecordFault) → after_line library number r line ≡ told → (told >>= following number rest) ≡ Err f → number ≤ line_of f
    read others (Ok told) is h = last others told told.is_last h
    read others (Err e) is h = omega (arith, at_line library number r line f (is ∙ ap (λ (g : RecordFault). Err g) (refused_is {X = Record} e f h)))

    by : Later rest number → (b : Bool) → cond b (Err (Line number)) (after_line library number r line >>= following number rest) ≡ Err f → number ≤ line_of f
    by others true h = omega (arith, ap line_of (refused_is {X = Record} (Line number) f h))
    by others false h = read others (after_line library number r line) refl h

  -- ---- the same lines

  some_parts : (xs parts : List (List ℕ)) → HasPiece parts → is_none (xs ++ parts) ≡ false
  some_parts [] parts some = ap is_none some.is
  some_parts (x ∷ xs) parts some = refl

  not_over : (x : List ℕ) (parts : List (List ℕ)) → is_none parts ≡ false → is_over (x ∷ parts) ≡ false
  not_over x parts some = rw some (by (is_none x)) where
    by : (b : Bool) → (b && false) ≡ false
    by true = refl
    by false = refl

  module _ (f : RecordFault) (ys zs : List (List ℕ)) (some : HasPiece ys) (others : HasPiece zs) where
    over_stays : (xs : List (List ℕ)) (number : ℕ) (r : Record) → line_of f < number + 1 + length xs → over number r (xs ++ ys) ≡ Err f → over number r (xs ++ zs) ≡ Err f
    over_stays [] number r before h = absurd (omega (arith, before, over_at number r ys f h))
    over_stays (x ∷ xs) number r before h =
        let there = not_over x (xs ++ ys) (some_parts xs ys some) in
        let here = not_over x (xs ++ zs) (some_parts xs zs others) in
        ap (λ (b : Bool). cond b (Ok r) (Err (Line (number + 1)))) here ∙ sym (ap (λ (b : Bool). cond b (Ok r) (Err (Line (number + 1)))) there) ∙ h

    abbrev Goes : List (List ℕ) → ℕ → Type 0
    Goes xs number = (r : Record) → after_lines library (number + 1) r (xs ++ ys) ≡ Err f → after_lines library (number + 1) r (xs ++ zs) ≡ Err f

    lines_stay : (xs : List (List ℕ)) (number : ℕ) (r : Record) → line_of f < number + length xs → after_lines library number r (xs ++ ys) ≡ Err f → after_lines library number r (xs ++ zs) ≡ Err f
    lines_stay [] number r before h = absurd (omega (arith, before, at_least ys number r f h))
    lines_stay (x ∷ xs) number r before h = whole (read (λ next. lines_stay xs (number + 1) next (omega (arith, before))) (after_line library number r x) refl (sym there ∙ h)) where
      there : cond (is_none (xs ++ ys)) (Err (Line number)) (after_line library number r x >>= following number (xs ++ ys)) ≡ (after_line library number r x >>= following number (xs ++ ys))
      there = ap (λ (b : Bool). cond b (Err (Line number)) (after_line library number r x >>= following number (xs ++ ys))) (some_parts xs ys some)

      whole : (after_line library number r x >>= following number (xs ++ zs)) ≡ Err f → cond (is_none (xs ++ zs)) (Err (Line number)) (after_line library number r x >>= following number (xs ++ zs)) ≡ Err f
      whole h = ap (λ (b : Bool). cond b (Err (Line number)) (after_line library number r x >>= following number (xs ++ zs))) (some_parts xs zs others) ∙ h

      last : Goes xs number → (told : Told) (b : Bool) → cond b (over number told.after (xs ++ ys)) (after_lines library (number + 1) told.after (xs ++ ys)) ≡ Err f
          → cond b (over number told.after (xs ++ zs)) (after_lines library (number + 1) told.after (xs ++ zs)) ≡ Err f
      last others told true h = over_stays xs number told.after (omega (arith, before)) h
      last others told false h = others told.after h

      read : Goes xs number → (told : Result Told RecordFault) → after_line library number r x ≡ told → (told >>= following number (xs ++ ys)) ≡ Err f → (after_line library number r x >>= following number (xs ++ zs)) ≡ Err f
      read others (Ok told) is h = rw is (last others told told.is_last h)
      read others (Err e) is h = rw is h

  -- ---- no end line

  end_missed : (last : List ℕ) (lines : List (List ℕ)) (entries : List Entry) (number : ℕ) (r : Record) → AreEntries library lines entries → length (r.steps ++ flat_map steps_of entries) ≤ 1000000
      → after_lines library number r (lines ++ last ∷ []) ≡ Err (Line (number + length lines))
  unfolding after_line
  end_missed last [] [] number r are few = ap (λ (n : ℕ). Err (Line n)) (omega arith)
  end_missed last [] (entry ∷ entries) number r are few = absurd are
  end_missed last (line ∷ lines) [] number r are few = absurd are
  end_missed last (line ∷ lines) (entry ∷ entries) number r are few =
      let steps : length ((r.steps ++ steps_of entry) ++ flat_map steps_of entries) ≤ 1000000 = subst (λ (ss : List Step). length ss ≤ 1000000) (sym (append_assoc r.steps (steps_of entry) (flat_map steps_of entries))) few in
      let fewer : length (r.steps ++ steps_of entry) ≤ 1000000 = omega (arith, steps, length-append (r.steps ++ steps_of entry) (flat_map steps_of entries)) in
      let count : (number + 1) + length lines ≡ number + length (line ∷ lines) = omega arith in
      rw (some_line lines last [], entry_again library (pieces 32 line) entry are.0, entry_added number r entry are.1 fewer)
      (end_missed last lines entries (number + 1) (added r entry) are.2 steps ∙ ap (λ (n : ℕ). Err (Line n)) count)

pub fault_stays : (listing : Listing) (n : ℕ) (front a b : List ℕ) → IsLines n front → reading (front ++ a) listing ≡ Err (Line n) → reading (front ++ b) listing ≡ Err (Line n)
unfolding reading
fault_stays listing n front a b is h =
    let there = pieces_of_lines 10 front a is.lines is.ended in
    let here = pieces_of_lines 10 front b is.lines is.ended in
    let before : n < 1 + length is.lines = omega (arith, is.count) in
    ap (after_lines (library_of listing) 1 empty_record) here
    ∙ lines_stay (library_of listing) (Line n) (pieces 10 a) (pieces 10 b) (some_piece 10 a) (some_piece 10 b) is.lines 1 empty_record before (ap (after_lines (library_of listing) 1 empty_record) (sym there) ∙ h)

pub end_is_missed : (listing : Listing) (text last : List ℕ) (lines : List (List ℕ)) (entries : List Entry) → pieces 10 text ≡ lines ++ last ∷ [] → AreEntries (library_of listing) lines entries
    → length (record_of entries).steps ≤ 1000000 → reading text listing ≡ Err (Line (length lines + 1))
unfolding reading
end_is_missed listing text last lines entries ended are few =
    let count : 1 + length lines ≡ length lines + 1 = omega arith in
    ap (after_lines (library_of listing) 1 empty_record) ended ∙ end_missed (library_of listing) last lines entries 1 empty_record are few ∙ ap (λ (n : ℕ). Err (Line n)) count

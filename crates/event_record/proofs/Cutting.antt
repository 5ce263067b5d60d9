-- A text that is cut at the first place of a byte: its first piece, and the pieces of the rest.
use Rattle.std.proofs.Common.{◌≡◌, ℕ, ◌+◌, ◌-◌, ◌≤◌, Bool, true, false, cond, List, ◌∷◌, Option, Some, None, length, take, drop, refl, subst, sym, ap, ◌∙◌, arith, length-drop}
use Rattle.std.specs.Prelude.{◌==◌, nat_lt, not}
use Rattle.std.specs.List.{position, position_or_len}
use Rattle.std.specs.Option.{is_some, option_map}
use Rattle.std.proofs.lemmas.Bool.Decides.{nat_tests}
use Rattle.std.proofs.lemmas.List.{take_all}
use Rattle.std.proofs.lemmas.List.Sums.{count_by-le-length, fails_before_first}
use Rattle.std.proofs.lemmas.List.Splits.{length-slice_split, slice_split_first, slice_split_none}
use Rattle.api_listing.proofs.Pieces.{some_piece}
use Rattle.api_listing.specs.Words.{pieces}
use Rattle.event_record.specs.Pieces.{IsSplit, pieces_left}
use Rattle.event_record.specs.Record.{is_none}

module _ (byte : ℕ) (text : List ℕ) where
  abbrev is_byte : ℕ → Bool
  is_byte b = b == byte

  abbrev first : ℕ
  first = position_or_len is_byte text

  -- what stands before and after the place, if there is one
  abbrev parts_at : Option ℕ → Option (List ℕ × List ℕ)
  parts_at found = option_map (λ place. (take place text, drop (place + 1) text)) found

  pub is_split : (found : Option ℕ) → found ≡ position is_byte text → IsSplit byte text (parts_at found)
  is_split found is = subst (λ (f : Option ℕ). IsSplit byte text (parts_at f)) (sym is) (by (nat_lt first (length text)) refl) where
    by : (b : Bool) → nat_lt first (length text) ≡ b → IsSplit byte text (parts_at (cond b (Some first) None))
    by true there = slice_split_first is_byte text 0 (grind (arith, nat_tests))
    by false nowhere = slice_split_none is_byte text (λ k d within. fails_before_first is_byte text k d (grind (arith, nat_tests)))

  -- the same, with the rest as the end of the text
  pub first_piece : (place : ℕ) → Some place ≡ position is_byte text → pieces byte text ≡ take place text ∷ pieces byte (take (length text - (place + 1)) (drop (place + 1) text))
  first_piece place is =
      let rest = drop (place + 1) text in
      let all : take (length text - (place + 1)) rest ≡ rest = take_all (length text - (place + 1)) rest (omega (arith, length-drop (place + 1) text)) in
      is_split (Some place) is ∙ ap (λ (r : List ℕ). take place text ∷ pieces byte r) (sym all)

-- Nothing is left exactly where no piece is.
pub nothing_left : {T : Type 0} (now : T → List ℕ) (byte : ℕ) (left : Option T) (told : Bool) → is_some left ≡ not told → told ≡ is_none (pieces_left byte (option_map now left))
nothing_left now byte None true h = refl
nothing_left now byte None false h = absurd cc
nothing_left now byte (Some text) true h = absurd cc
nothing_left now byte (Some text) false h = sym (ap is_none (some_piece byte (now text)).is)

-- A text has at most one piece more than it has bytes.
pub few_pieces : (byte : ℕ) (text : List ℕ) → length (pieces byte text) ≤ length text + 1
few_pieces byte text = omega (arith, length-slice_split (λ b. b == byte) text, count_by-le-length (λ b. b == byte) text)

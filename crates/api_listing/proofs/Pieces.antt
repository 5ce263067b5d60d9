-- Pieces of a text that is put after whole lines.
use Rattle.std.proofs.Common.{◌≡◌, ◌≢◌, ◌⊎◌, inl, inr, ℕ, ◌<◌, true, false, List, [], ◌∷◌, ◌++◌, length, refl, sym, ap, ◌∙◌, arith, eqb}
use Rattle.std.specs.List.{onto_first}
use Rattle.std.proofs.lemmas.Bool.Decides.{eqb_tells}
use Rattle.std.proofs.lemmas.List.Splits.{length-slice_split, slice_split-cons_no, slice_split-cons_yes}
use Rattle.api_listing.specs.Words.{pieces}

-- a text has a piece
pub record HasPiece (parts : List (List ℕ)) : Type 0 where
  pub first : List ℕ
  pub rest : List (List ℕ)
  pub is : parts ≡ first ∷ rest

pub some_piece : (byte : ℕ) (text : List ℕ) → HasPiece (pieces byte text)
some_piece byte text = by (pieces byte text) (omega (arith, length-slice_split (λ b. eqb b byte) text)) where
  by : (parts : List (List ℕ)) → 0 < length parts → HasPiece parts
  by [] some = absurd (omega arith)
  by (first ∷ rest) some = record { first = first; rest = rest; is = refl }

same_first : (p q : List ℕ) (ps qs : List (List ℕ)) → p ∷ ps ≡ q ∷ qs → (p ≡ q) × (ps ≡ qs)
same_first p q ps qs e = (cc, cc)

not_nothing : (b : ℕ) (p : List ℕ) → b ∷ p ≡ [] → ⊥
not_nothing b p e = absurd cc

-- a byte more in front of whole lines
module _ (byte b : ℕ) (front following : List ℕ) (others : (lines : List (List ℕ)) → pieces byte front ≡ lines ++ [] ∷ [] → pieces byte (front ++ following) ≡ lines ++ pieces byte following) where
  ends : (lines : List (List ℕ)) → eqb b byte ≡ true → [] ∷ pieces byte front ≡ lines ++ [] ∷ [] → [] ∷ pieces byte (front ++ following) ≡ lines ++ pieces byte following
  ends [] same e =
      let some = some_piece byte front in
      absurd cc
  ends (line ∷ lines) same e =
      let parts = same_first [] line (pieces byte front) (lines ++ [] ∷ []) e in
      rw (← parts.0) (ap (λ (ps : List (List ℕ)). [] ∷ ps) (others lines parts.1))

  goes : (parts lines : List (List ℕ)) → pieces byte front ≡ parts → HasPiece parts → onto_first b parts ≡ lines ++ [] ∷ [] → onto_first b (pieces byte (front ++ following)) ≡ lines ++ pieces byte following
  goes [] lines is some e = absurd cc
  goes (p ∷ ps) [] is some e = absurd (not_nothing b p (same_first (b ∷ p) [] ps [] e).0)
  goes (p ∷ ps) (line ∷ lines) is some e =
      let parts = same_first (b ∷ p) line ps (lines ++ [] ∷ []) e in
      let whole : pieces byte front ≡ (p ∷ lines) ++ [] ∷ [] = is ∙ ap (λ (qs : List (List ℕ)). p ∷ qs) parts.1 in
      ap (onto_first b) (others (p ∷ lines) whole) ∙ ap (λ (l : List ℕ). l ∷ (lines ++ pieces byte following)) parts.0

  next : (lines : List (List ℕ)) → pieces byte (b ∷ front) ≡ lines ++ [] ∷ [] → pieces byte ((b ∷ front) ++ following) ≡ lines ++ pieces byte following
  next lines e = by (eqb_tells b byte) where
    by : ((eqb b byte ≡ true) × (b ≡ byte)) ⊎ ((eqb b byte ≡ false) × (b ≢ byte)) → pieces byte ((b ∷ front) ++ following) ≡ lines ++ pieces byte following
    by (inl same) =
        slice_split-cons_yes (λ x. eqb x byte) b (front ++ following) same.0
        ∙ ends lines same.0 (sym (slice_split-cons_yes (λ x. eqb x byte) b front same.0) ∙ e)
    by (inr apart) =
        slice_split-cons_no (λ x. eqb x byte) b (front ++ following) apart.0
        ∙ goes (pieces byte front) lines refl (some_piece byte front) (sym (slice_split-cons_no (λ x. eqb x byte) b front apart.0) ∙ e)

pub pieces_of_lines : (byte : ℕ) (front following : List ℕ) (lines : List (List ℕ)) → pieces byte front ≡ lines ++ [] ∷ [] → pieces byte (front ++ following) ≡ lines ++ pieces byte following
pieces_of_lines byte [] following [] e = refl
pieces_of_lines byte [] following (line ∷ []) e = absurd cc
pieces_of_lines byte [] following (line ∷ other ∷ lines) e = absurd cc
pieces_of_lines byte (b ∷ front) following lines e = next byte b front following (pieces_of_lines byte front following) lines e

-- What holds of `/` and of each byte of a name holds of each byte of a class's name.
use Rattle.std.proofs.Common.{◌≡◌, ◌≢◌, ◌∙◌, ℕ, Bool, true, false, eqb, ◌&&◌, ◌⊎◌, List, [], ◌∷◌, inl, inr, refl, sym, ap, subst}
use Rattle.std.specs.List.{AllByRecursion, list_all, list_any, onto_first}
use Rattle.std.proofs.lemmas.Bool.{and_parts, false≢true}
use Rattle.std.proofs.lemmas.Bool.Decides.{eqb_tells}
use Rattle.std.proofs.lemmas.List.Splits.{slice_split-cons_no, slice_split-cons_yes}
use Rattle.api_listing.specs.Words.{is_class_name, is_name_byte, is_segment, pieces}

abbrev all_pieces : List (List ℕ) → Bool
all_pieces parts = list_all (list_all is_name_byte) parts

segments : (parts : List (List ℕ)) → list_all is_segment parts ≡ true → all_pieces parts ≡ true
segments [] e = refl
segments ([] ∷ parts) e = absurd (false≢true e)
segments ((b ∷ bytes) ∷ parts) e =
    let p = and_parts (is_segment (b ∷ bytes)) (list_all is_segment parts) e in
    rw (p.0, segments parts p.1) refl

first_part : (b : ℕ) (parts : List (List ℕ)) → all_pieces (onto_first b parts) ≡ true → (is_name_byte b ≡ true) × (all_pieces parts ≡ true)
first_part b [] e = ((and_parts (is_name_byte b) true (and_parts (is_name_byte b && true) true e).0).0, refl)
first_part b (part ∷ parts) e =
    let p = and_parts (is_name_byte b && list_all is_name_byte part) (all_pieces parts) e in
    let q = and_parts (is_name_byte b) (list_all is_name_byte part) p.0 in
    (q.0, rw (q.1, p.1) refl)

module _ (P : ℕ → Type 0) (slash : P 47) (named : (b : ℕ) → is_name_byte b ≡ true → P b) where
  bytes_of : (name : List ℕ) → all_pieces (pieces 47 name) ≡ true → AllByRecursion P name
  bytes_of [] e = tt
  bytes_of (b ∷ bytes) e = by (eqb_tells b 47) (bytes_of bytes) where
    by : ((eqb b 47 ≡ true) × (b ≡ 47)) ⊎ ((eqb b 47 ≡ false) × (b ≢ 47)) → (all_pieces (pieces 47 bytes) ≡ true → AllByRecursion P bytes)
        → AllByRecursion P (b ∷ bytes)
    by (inl p) others =
        let rest : all_pieces (pieces 47 bytes) ≡ true = sym (ap all_pieces (slice_split-cons_yes (λ x. eqb x 47) b bytes p.0)) ∙ e in
        (subst P (sym p.1) slash, others rest)
    by (inr p) others =
        let q = first_part b (pieces 47 bytes) (sym (ap all_pieces (slice_split-cons_no (λ x. eqb x 47) b bytes p.0)) ∙ e) in
        (named b q.0, others q.1)

  pub class_bytes : (name : List ℕ) → is_class_name name ≡ true → AllByRecursion P name
  class_bytes name e = bytes_of name (segments (pieces 47 name) e)

-- ---- tests

all_pass : (p : ℕ → Bool) (bytes : List ℕ) → AllByRecursion (λ b. p b ≡ true) bytes → list_all p bytes ≡ true
all_pass p [] all = refl
all_pass p (b ∷ bytes) all = rw (all.0, all_pass p bytes all.1) refl

none_passes : (p : ℕ → Bool) (bytes : List ℕ) → AllByRecursion (λ b. p b ≡ false) bytes → list_any p bytes ≡ false
none_passes p [] all = refl
none_passes p (b ∷ bytes) all = rw (all.0, none_passes p bytes all.1) refl

pub class_bytes_pass : (p : ℕ → Bool) → p 47 ≡ true → ((b : ℕ) → is_name_byte b ≡ true → p b ≡ true)
    → (name : List ℕ) → is_class_name name ≡ true → list_all p name ≡ true
class_bytes_pass p slash named name e = all_pass p name (class_bytes (λ b. p b ≡ true) slash named name e)

-- A byte that no name has stands in no class's name.
pub class_has_none : (other : ℕ) → eqb 47 other ≡ false → is_name_byte other ≡ false → (name : List ℕ) → is_class_name name ≡ true
    → list_any (λ b. eqb b other) name ≡ false
class_has_none other slash none name e = none_passes (λ b. eqb b other) name (class_bytes (λ b. eqb b other ≡ false) slash is_other name e)
  where
    is_other : (b : ℕ) → is_name_byte b ≡ true → eqb b other ≡ false
    is_other b named = by (eqb_tells b other) where
      by : ((eqb b other ≡ true) × (b ≡ other)) ⊎ ((eqb b other ≡ false) × (b ≢ other)) → eqb b other ≡ false
      by (inl p) = absurd (false≢true (sym none ∙ ap is_name_byte (sym p.1) ∙ named))
      by (inr p) = p.0

-- Lists that are copied item by item.
use Rattle.std.proofs.Common.{◌≡◌, ◌∙◌, ℕ, ◌<◌, ◌+◌, List, ◌++◌, ◌∷◌, [], length, get_or, take, map, ap, sym}
use Rattle.std.proofs.lemmas.List.{take_more, map_more}

-- what is copied with the next item is the items up to there
pub one_more_copied : {A : Type 0} (items copied later : List A) (i : ℕ) (item copy : A) → i < length items →
    copied ≡ take i items → copy ≡ get_or items i item → later ≡ copied ++ copy ∷ [] → later ≡ take (i + 1) items
one_more_copied items copied later i item copy within before same pushed =
    pushed ∙ ap (λ xs. xs ++ copy ∷ []) before ∙ ap (λ x. take i items ++ x ∷ []) same ∙ sym (take_more items i item within)

-- the same where something is made of each item
pub one_more_mapped : {A B : Type 0} (f : A → B) (items : List A) (copied later : List B) (i : ℕ) (item : A) (copy : B) → i < length items →
    copied ≡ map f (take i items) → copy ≡ f (get_or items i item) → later ≡ copied ++ copy ∷ [] → later ≡ map f (take (i + 1) items)
one_more_mapped f items copied later i item copy within before same pushed =
    pushed ∙ ap (λ xs. xs ++ copy ∷ []) before ∙ ap (λ x. map f (take i items) ++ x ∷ []) same ∙ sym (map_more f items i item within)

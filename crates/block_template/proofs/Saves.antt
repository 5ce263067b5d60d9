-- Stores of arguments, one after another.
use Rattle.std.proofs.Common.{◌≡◌, ℕ, ◌+◌, ◌<◌, List, [], ◌∷◌, ◌++◌, length, get_or, take, sym, ap, ◌∙◌, append_assoc, arith}
use Rattle.std.proofs.lemmas.List.{take_more, length-take-le}
use Rattle.conspec_tree.specs.declared.types.Kind.{Kind}
use Rattle.block_template.specs.declared.item.Item.{Item}
use Rattle.block_template.specs.declared.item.Role.TheVariants as roles
use Rattle.block_template.specs.Parts.{item, save}
use Rattle.block_template.specs.Pushing.{store}

abbrev stored : ℕ → ℕ → Kind → Item
stored base n kind = item (store kind (base + n)) (roles.Save (n + 1))

-- the last is stored first
pub save_last : (base n : ℕ) (kinds : List Kind) (last : Kind) → save base n (kinds ++ last ∷ []) ≡ stored base (n + length kinds) last ∷ save base n kinds
save_last base n [] last =
    let e : n ≡ n + 0 = omega arith in
    ap (λ (k : ℕ). stored base k last ∷ []) e
save_last base n (kind ∷ kinds) last =
    let e : n + 1 + length kinds ≡ n + length (kind ∷ kinds) = omega arith in
    ap (λ (xs : List Item). xs ++ stored base n kind ∷ []) (save_last base (n + 1) kinds last ∙ ap (λ (k : ℕ). stored base k last ∷ save base (n + 1) kinds) e)

pub save_step : (base at : ℕ) (kinds : List Kind) (d : Kind) (out new total : List Item) → at < length kinds
    → new ≡ out ++ stored base at (get_or kinds at d) ∷ [] → out ++ save base 0 (take (at + 1) kinds) ≡ total → new ++ save base 0 (take at kinds) ≡ total
save_step base at kinds d out new total within pushed so_far =
    let n : 0 + length (take at kinds) ≡ at = omega (arith, length-take-le at kinds (omega arith)) in
    let last : save base 0 (take (at + 1) kinds) ≡ stored base at (get_or kinds at d) ∷ save base 0 (take at kinds) =
    ap (save base 0) (take_more kinds at d within) ∙ save_last base 0 (take at kinds) (get_or kinds at d)
    ∙ ap (λ (k : ℕ). stored base k (get_or kinds at d) ∷ save base 0 (take at kinds)) n in
    ap (λ (xs : List Item). xs ++ save base 0 (take at kinds)) pushed ∙ append_assoc out (stored base at (get_or kinds at d) ∷ []) (save base 0 (take at kinds))
    ∙ ap (λ (xs : List Item). out ++ xs) (sym last) ∙ so_far

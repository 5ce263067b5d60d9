-- Tests, and whether one of a list's items passes.
use Rattle.std.proofs.Common.{◌≡◌, ℕ, ◌+◌, ◌<◌, Bool, true, false, cond, not, ◌||◌, List, length, get_or, take, refl, sym, ap, ◌∙◌}
use Rattle.std.specs.List.{list_any}
use Rattle.std.proofs.lemmas.List.Folds.{list_any_more}

or_swap : (a b : Bool) → (a || b) ≡ (b || a)
or_swap true true = refl
or_swap true false = refl
or_swap false true = refl
or_swap false false = refl

pub cond_or : (a b : Bool) → cond a true b ≡ (a || b)
cond_or true b = refl
cond_or false b = refl

pub not_true : (b : Bool) → not b ≡ true → b ≡ false
not_true true e = sym e
not_true false e = refl

-- one item more
pub any_more : {X K : Type 0} (has : X → K → Bool) (xs : List X) (i : ℕ) (x : X) (k : K) → i < length xs → x ≡ get_or xs i x → (has x k || list_any (λ y. has y k) (take i xs)) ≡ list_any (λ y. has y k) (take (i + 1) xs)
any_more has xs i x k lt is =
    or_swap (has x k) (list_any (λ y. has y k) (take i xs))
    ∙ ap (λ y. list_any (λ z. has z k) (take i xs) || has y k) is
    ∙ sym (list_any_more (λ y. has y k) xs i x lt)

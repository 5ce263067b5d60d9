-- What stands where in a list, and lists each of whose items leads to the next.
use Rattle.std.proofs.Common.{◌≡◌, ℕ, zero, suc, ◌+◌, List, [], ◌∷◌, ◌++◌, length, Some, None, refl, ap, subst, sym, ◌∙◌, arith}
use Rattle.std.specs.Prelude.{slice_get, ⊤}
use Rattle.std.specs.Option.{option_map_or}

-- ---- places

-- From this place on `f` tells what `v` tells of these in turn, and after them it tells `t`.
abbrev pub Laid : {X Y : Type 0} → (ℕ → Y) → (X → Y) → ℕ → List X → Y → Type 0
Laid f v at [] t = f at ≡ t
Laid f v at (x ∷ xs) t = (f at ≡ v x) × Laid f v (at + 1) xs t

-- what stands first before `t`
abbrev pub entry : {X Y : Type 0} → (X → Y) → List X → Y → Y
entry v [] t = t
entry v (x ∷ xs) t = v x

module _ {X Y : Type 0} (f : ℕ → Y) (v : X → Y) where
  pub laid_entry : (at : ℕ) (xs : List X) (t : Y) → Laid f v at xs t → f at ≡ entry v xs t
  laid_entry at [] t l = l
  laid_entry at (x ∷ xs) t l = l.0

  pub laid_end : (at : ℕ) (xs : List X) (t : Y) → Laid f v at xs t → f (at + length xs) ≡ t
  laid_end at [] t l = let e : at + 0 ≡ at = omega arith in ap f e ∙ l
  laid_end at (x ∷ xs) t l =
      let e : at + length (x ∷ xs) ≡ at + 1 + length xs = omega arith in
      ap f e ∙ laid_end (at + 1) xs t l.1

  pub laid_left : (at : ℕ) (xs ys : List X) (t : Y) → Laid f v at (xs ++ ys) t → Laid f v at xs (entry v ys t)
  laid_left at [] ys t l = laid_entry at ys t l
  laid_left at (x ∷ xs) ys t l = (l.0, laid_left (at + 1) xs ys t l.1)

  pub laid_right : (at to : ℕ) (xs ys : List X) (t : Y) → at + length xs ≡ to → Laid f v at (xs ++ ys) t → Laid f v to ys t
  laid_right at to [] ys t e l = let same : at ≡ to = omega (arith, e) in subst (λ n. Laid f v n ys t) same l
  laid_right at to (x ∷ xs) ys t e l = laid_right (at + 1) to xs ys t (omega (arith, e)) l.1

laid_after : {X Y : Type 0} (f : ℕ → Y) (v : X → Y) (at : ℕ) (xs : List X) (t : Y) → Laid (λ n. f (suc n)) v at xs t
    → Laid f v (suc at) xs t
laid_after f v at [] t l = l
laid_after f v at (x ∷ xs) t l =
    let e : suc (at + 1) ≡ suc at + 1 = omega arith in
    (l.0, subst (λ n. Laid f v n xs t) e (laid_after f v (at + 1) xs t l.1))

pub laid_all : {X Y : Type 0} (v : X → Y) (xs : List X) (t : Y) → Laid (λ n. option_map_or v (slice_get xs n) t) v 0 xs t
laid_all v [] t = refl
laid_all v (x ∷ xs) t = (refl, laid_after (λ n. option_map_or v (slice_get (x ∷ xs) n) t) v 0 xs t (laid_all v xs t))

pub laid_got : {X : Type 0} (xs : List X) → Laid (slice_get xs) Some 0 xs None
laid_got [] = refl
laid_got (x ∷ xs) = (refl, laid_after (slice_get (x ∷ xs)) Some 0 xs None (laid_got xs))

-- ---- leading

-- Each item is as the rule asks, given what stands after it.
abbrev pub Run : {X Y : Type 0} → (X → Y → Type 0) → (X → Y) → List X → Y → Type 0
Run row v [] t = ⊤
Run row v (x ∷ xs) t = row x (entry v xs t) × Run row v xs t

-- A list begins with `s`, and leads to `t`.
pub record Leads {X Y : Type 0} (row : X → Y → Type 0) (v : X → Y) (s : Y) (part : List X) (t : Y) : Type 0 where
  pub enters : entry v part t ≡ s
  pub runs : Run row v part t

module _ {X Y : Type 0} (row : X → Y → Type 0) (v : X → Y) where
  entry_joined : (xs ys : List X) (t : Y) → entry v (xs ++ ys) t ≡ entry v xs (entry v ys t)
  entry_joined [] ys t = refl
  entry_joined (x ∷ xs) ys t = refl

  run_joined : (xs ys : List X) (t : Y) → Run row v xs (entry v ys t) → Run row v ys t → Run row v (xs ++ ys) t
  run_joined [] ys t a b = b
  run_joined (x ∷ xs) ys t a b = (subst (row x) (sym (entry_joined xs ys t)) a.0, run_joined xs ys t a.1 b)

  pub joined : {s m t : Y} (xs ys : List X) → Leads row v s xs m → Leads row v m ys t → Leads row v s (xs ++ ys) t
  joined {s} {m} {t} xs ys a b = record {
    enters = entry_joined xs ys t ∙ ap (entry v xs) b.enters ∙ a.enters;
    runs = run_joined xs ys t (subst (Run row v xs) (sym b.enters) a.runs) b.runs;
  }

  pub more : {m t : Y} (x : X) (xs : List X) → row x m → Leads row v m xs t → Leads row v (v x) (x ∷ xs) t
  more x xs a b = record { enters = refl; runs = (subst (row x) (sym b.enters) a, b.runs) }

  pub nothing : (t : Y) → Leads row v t [] t
  nothing t = record { enters = refl; runs = tt }

  pub from : {s other t : Y} (xs : List X) → s ≡ other → Leads row v s xs t → Leads row v other xs t
  from {s} {other} {t} xs e a = subst (λ r. Leads row v r xs t) e a

  pub upto : {s t other : Y} (xs : List X) → t ≡ other → Leads row v s xs t → Leads row v s xs other
  upto {s} {t} {other} xs e a = subst (λ r. Leads row v s xs r) e a

  entry_got : (xs : List X) (t : Y) → entry v xs t ≡ option_map_or v (slice_get xs 0) t
  entry_got [] t = refl
  entry_got (x ∷ xs) t = refl

  -- So each item is as the rule asks, given what is got after it.
  pub row_got : (xs : List X) (t : Y) (at : ℕ) (x : X) → Run row v xs t → slice_get xs at ≡ Some x
      → row x (option_map_or v (slice_get xs (at + 1)) t)
  row_got [] t at x run e = absurd cc
  row_got (y ∷ ys) t zero x run e =
      let same : y ≡ x = cc in
      subst (λ z. row z (option_map_or v (slice_get ys 0) t)) same (subst (row y) (entry_got ys t) run.0)
  row_got (y ∷ ys) t (suc at) x run e =
      let next : suc (at + 1) ≡ suc at + 1 = omega arith in
      subst (λ n. row x (option_map_or v (slice_get (y ∷ ys) n) t)) next (row_got ys t at x run.1 e)

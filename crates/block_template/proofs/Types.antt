-- Lists of types: operands, of which some are on top, and locals, of which one is stored.
use Rattle.std.proofs.Common.{
  ◌≡◌,
  ℕ,
  zero,
  suc,
  ◌+◌,
  ◌-◌,
  ◌<◌,
  ◌≤◌,
  Bool,
  true,
  false,
  cond,
  List,
  [],
  ◌∷◌,
  ◌++◌,
  length,
  take,
  drop,
  replicate,
  refl,
  sym,
  ap,
  ◌∙◌,
  arith,
  length-append,
  length-drop,
  length-take-le,
  take-append-drop,
  take_all,
  inl,
  inr,
}
use Rattle.std.specs.Prelude.{◌==◌, bytes_eq}
use Rattle.std.proofs.lemmas.Bool.{cases_Bool, eq-eqb, false≢true, ne_eqb}
use Rattle.std.proofs.lemmas.Bool.Decides.{nat_tests}
use Rattle.std.proofs.lemmas.Slice.Eq.{bytes_eq-Decides}
use Rattle.cert_format.specs.declared.typing.VType.{VType}
use Rattle.cert_format.specs.declared.typing.VType.TheVariants as types
use Rattle.bytecode_model.specs.declared.program.Program.{Program}
use Rattle.bytecode_model.specs.Assigning.{assignable}
use Rattle.bytecode_model.specs.Makes.{type_at, topmost, below}
use Rattle.bytecode_model.specs.Rules.{stack_fits, locals_fit}

-- ---- a type stands for itself

pub itself : (program : Program) (t : VType) → assignable program t t ≡ true
itself program types.Top = refl
itself program types.Int = refl
itself program types.Null = refl
itself program (types.Ref name) =
    let same : bytes_eq name name ≡ true = (bytes_eq-Decides name name).1 refl in
    rw same refl
itself program types.UninitThis = refl
itself program (types.Uninit i) = eq-eqb i i refl

pub stack_itself : (program : Program) (stack : List VType) → stack_fits program stack stack ≡ true
stack_itself program [] = refl
stack_itself program (t ∷ stack) = rw (itself program t, stack_itself program stack) refl

-- Locals that are those of the list, at each place that it has.
pub locals_are : (program : Program) (f : ℕ → VType) (k : ℕ) (list : List VType)
    → ((j : ℕ) → j < length list → f (k + j) ≡ type_at list j) → locals_fit program f k list ≡ true
locals_are program f k [] same = refl
locals_are program f k (t ∷ list) same =
    let first : f k ≡ t = ap f (sym (nothing k)) ∙ same 0 (omega arith) in
    rw (first, itself program t) (locals_are program f (k + 1) list (λ j lt. ap f (next k j) ∙ same (suc j) (omega (arith, lt))))
  where
    nothing : (k : ℕ) → k + 0 ≡ k
    nothing k = omega arith

    next : (k j : ℕ) → (k + 1) + j ≡ k + suc j
    next k j = omega arith

-- ---- operands on top of others

drop_front : (s ts : List VType) → drop (length s) (s ++ ts) ≡ ts
drop_front [] ts = refl
drop_front (u ∷ s) ts = drop_front s ts

take_front : (s ts : List VType) → take (length s) (s ++ ts) ≡ s
take_front [] ts = refl
take_front (u ∷ s) ts = ap (λ (r : List VType). u ∷ r) (take_front s ts)

pub top_of : (s ts : List VType) → topmost (length ts) (s ++ ts) ≡ ts
top_of s ts =
    let n : length (s ++ ts) - length ts ≡ length s = omega (arith, length-append s ts) in
    rw n (drop_front s ts)

pub below_of : (s ts : List VType) → below (length ts) (s ++ ts) ≡ s
below_of s ts =
    let n : length (s ++ ts) - length ts ≡ length s = omega (arith, length-append s ts) in
    rw n (take_front s ts)

pub below_none : (s : List VType) → below 0 s ≡ s
below_none s = take_all (length s - 0) s (omega arith)

-- what is on top stands above the rest
pub split_top : (n : ℕ) (s : List VType) → s ≡ below n s ++ topmost n s
split_top n s = sym (take-append-drop (length s - n) s)

take_one : (i : ℕ) (s : List VType) → i < length s → take (suc i) s ≡ take i s ++ type_at s i ∷ []
take_one i [] lt = absurd (omega (arith, lt))
take_one zero (t ∷ s) lt = refl
take_one (suc i) (t ∷ s) lt = ap (λ (r : List VType). t ∷ r) (take_one i s (omega (arith, lt)))

pub type_after : (k n : ℕ) (s : List VType) → type_at (drop k s) n ≡ type_at s (k + n)
type_after zero n s = ap (type_at s) (nothing n)
  where
    nothing : (n : ℕ) → n ≡ 0 + n
    nothing n = omega arith
type_after (suc k) n [] = refl
type_after (suc k) n (t ∷ s) = type_after k n s ∙ ap (type_at (t ∷ s)) (more k n)
  where
    more : (k n : ℕ) → suc (k + n) ≡ suc k + n
    more k n = omega arith

-- Of the k on top the one of number n is above the others before it.
pub split_kept : (k n : ℕ) (s : List VType) → n < k → k ≤ length s → below (k - suc n) s ≡ below (k - n) s ++ type_at (topmost k s) n ∷ []
split_kept k n s lt le =
    let one : length s - (k - suc n) ≡ suc (length s - (k - n)) = omega (arith, lt, le) in
    let at : (length s - k) + n ≡ length s - (k - n) = omega (arith, lt, le) in
    ap (λ (i : ℕ). take i s) one ∙ take_one (length s - (k - n)) s (omega (arith, lt, le))
    ∙ ap (λ (t : VType). below (k - n) s ++ t ∷ []) (ap (type_at s) (sym at) ∙ sym (type_after (length s - k) n s))

pub topmost_few : (n : ℕ) (s : List VType) → length (topmost n s) ≤ n
topmost_few n s = omega (arith, length-drop (length s - n) s)

pub topmost_there : (n : ℕ) (s : List VType) → length (topmost n s) ≡ n → n ≤ length s
topmost_there n s e = omega (arith, length-drop (length s - n) s, e)

pub below_few : (n : ℕ) (s : List VType) → length (below n s) ≤ length s
below_few n s = omega (arith, length-take-le (length s - n) s (omega arith))

-- ---- locals after others

before_more : (n : ℕ) → (0 == suc n) ≡ false
before_more n = ne_eqb 0 (suc n) (λ e. absurd (omega (arith, e)))

more_than_none : (j : ℕ) → (suc j == 0) ≡ false
more_than_none j = ne_eqb (suc j) 0 (λ e. absurd (omega (arith, e)))

both_more : (j n : ℕ) → (suc j == suc n) ≡ (j == n)
both_more j n =
    elim (cases_Bool (j == n)) [
      | inl same ↦
          let is : j ≡ n = grind (arith, nat_tests) in
          eq-eqb (suc j) (suc n) (ap suc is) ∙ sym same
      | inr differ ↦ ne_eqb (suc j) (suc n) (λ e. not_same j n differ (omega (arith, e))) ∙ sym differ
    ]
  where
    not_same : (j n : ℕ) → (j == n) ≡ false → j ≡ n → ⊥
    not_same j n differ e = false≢true (sym differ ∙ eq-eqb j n e)

-- What is stored in a list of locals is stored after others.
pub stored_after : (p x y : List VType) (n : ℕ) (t : VType) → ((j : ℕ) → cond (j == n) t (type_at x j) ≡ type_at y j) → (j : ℕ)
    → cond (j == length p + n) t (type_at (p ++ x) j) ≡ type_at (p ++ y) j
stored_after [] x y n t same j =
    let nothing : length {A = VType} [] + n ≡ n = omega arith in
    ap (λ (m : ℕ). cond (j == m) t (type_at x j)) nothing ∙ same j
stored_after (u ∷ p) x y n t same zero =
    let more : length (u ∷ p) + n ≡ suc (length p + n) = omega arith in
    ap (λ (m : ℕ). cond (zero == m) t u) more ∙ ap (λ (b : Bool). cond b t u) (before_more (length p + n))
stored_after (u ∷ p) x y n t same (suc j) =
    let more : length (u ∷ p) + n ≡ suc (length p + n) = omega arith in
    ap (λ (m : ℕ). cond (suc j == m) t (type_at (p ++ x) j)) more
    ∙ ap (λ (b : Bool). cond b t (type_at (p ++ x) j)) (both_more j (length p + n))
    ∙ stored_after p x y n t same j

-- It is stored in the last of those that have nothing.
pub stored_last : (n : ℕ) (t : VType) (y : List VType) (j : ℕ)
    → cond (j == n) t (type_at (replicate (suc n) types.Top ++ y) j) ≡ type_at (replicate n types.Top ++ t ∷ y) j
stored_last zero t y zero = refl
stored_last zero t y (suc j) = ap (λ (b : Bool). cond b t (type_at y j)) (more_than_none j)
stored_last (suc n) t y zero = ap (λ (b : Bool). cond b t types.Top) (before_more n)
stored_last (suc n) t y (suc j) =
    ap (λ (b : Bool). cond b t (type_at (replicate (suc n) types.Top ++ y) j)) (both_more j n) ∙ stored_last n t y j

pub stored_new : (t : VType) (j : ℕ) → cond (j == 0) t (type_at [] j) ≡ type_at (t ∷ []) j
stored_new t zero = refl
stored_new t (suc j) = ap (λ (b : Bool). cond b t types.Top) (more_than_none j)

pub type_right : (p x : List VType) (n : ℕ) → type_at (p ++ x) (length p + n) ≡ type_at x n
type_right [] x n =
    let nothing : length {A = VType} [] + n ≡ n = omega arith in
    ap (type_at x) nothing
type_right (u ∷ p) x n =
    let more : length (u ∷ p) + n ≡ suc (length p + n) = omega arith in
    ap (type_at (u ∷ (p ++ x))) more ∙ type_right p x n

pub type_left : (p x : List VType) (j : ℕ) → j < length p → type_at (p ++ x) j ≡ type_at p j
type_left [] x j lt = absurd (omega (arith, lt))
type_left (u ∷ p) x zero lt = refl
type_left (u ∷ p) x (suc j) lt = type_left p x j (omega (arith, lt))

-- what stands from a place on
pub from_place : (n : ℕ) (xs : List VType) → n < length xs → drop n xs ≡ type_at xs n ∷ drop (suc n) xs
from_place n [] lt = absurd (omega (arith, lt))
from_place zero (t ∷ xs) lt = refl
from_place (suc n) (t ∷ xs) lt = from_place n xs (omega (arith, lt))

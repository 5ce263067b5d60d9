-- Moves of numbers: left alone, set to a constant, or shifted.
use Rattle.std.proofs.Common.{◌≡◌, ◌≢◌, ℤ, ◌+ℤ◌, refl, sym, ◌∙◌, arith}
use Rattle.std.proofs.lemmas.Int.{ints}

-- what updates do to one variable
pub data Move : Type 0 where
  Stay : Move
  To : ℤ → Move
  By : ℤ → Move

abbrev pub moved : Move → ℤ → ℤ
moved Stay x = x
moved (To c) x = c
moved (By n) x = x +ℤ n

-- the one move and then the other
abbrev pub joined : Move → Move → Move
joined Stay m = m
joined (To c) Stay = To c
joined (To c) (To d) = To d
joined (To c) (By n) = To (c +ℤ n)
joined (By k) Stay = By k
joined (By k) (To d) = To d
joined (By k) (By n) = By (k +ℤ n)

pub moved_joined : (m k : Move) (x : ℤ) → moved (joined m k) x ≡ moved k (moved m x)
moved_joined Stay k x = refl
moved_joined (To c) Stay x = refl
moved_joined (To c) (To d) x = refl
moved_joined (To c) (By n) x = refl
moved_joined (By a) Stay x = refl
moved_joined (By a) (To d) x = refl
moved_joined (By a) (By n) x = omega (arith, ints)

-- moves that agree at two numbers agree at each
pub agree : (f g : Move) (p q x : ℤ) → p ≢ q → moved f p ≡ moved g p → moved f q ≡ moved g q → moved f x ≡ moved g x
agree Stay Stay p q x ne a b = refl
agree Stay (To d) p q x ne a b = absurd (ne (a ∙ sym b))
agree Stay (By n) p q x ne a b = omega (arith, ints)
agree (To c) Stay p q x ne a b = absurd (ne (sym a ∙ b))
agree (To c) (To d) p q x ne a b = a
agree (To c) (By n) p q x ne a b = let same : p ≡ q = omega (arith, ints) in absurd (ne same)
agree (By k) Stay p q x ne a b = omega (arith, ints)
agree (By k) (To d) p q x ne a b = let same : p ≡ q = omega (arith, ints) in absurd (ne same)
agree (By k) (By n) p q x ne a b = omega (arith, ints)

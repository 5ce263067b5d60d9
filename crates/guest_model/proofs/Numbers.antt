-- The numbers that instructions name and the library gives are of 32 bits.
use Rattle.std.proofs.Common.{◌≡◌, ℕ, ℤ, zero, suc, ◌^◌, ◌<◌, Bool, true, false, refl, arith, inl, inr}
use Rattle.std.specs.Prelude.{pos, negsuc, ◌==◌, ◌&&◌, nat_lt, int_le, FitsSigned}
use Rattle.std.specs.Int.{w32}
use Rattle.std.proofs.lemmas.Bool.{and_parts, leb-true, ltb-true, eqb-true, cases_lt}
use Rattle.api_listing.specs.declared.descriptor.Element.{Element}
use Rattle.api_listing.specs.declared.descriptor.Element.TheVariants as elements
use Rattle.insn_codec.specs.declared.insn.Insn.{Insn}
use Rattle.insn_codec.specs.declared.insn.Insn.TheVariants as insns
use Rattle.insn_codec.specs.declared.shape.Shape.{Shape}
use Rattle.insn_codec.specs.declared.shape.Shape.TheVariants as shapes
use Rattle.insn_codec.specs.Fits.{IsInsn, FitsBy}
use Rattle.insn_codec.specs.Shapes.{shape_of, plain_shape, pool_shape, local_shape, branch_shape}
use Rattle.guest_model.specs.Answers.{between, is_number_of}
use Rattle.guest_model.specs.Numbers.{AnswersAreWords}
use Rattle.guest_model.proofs.Arithmetic.{of_8, of_16}
use Rattle.guest_model.proofs.Effects.{NamesOnly}

-- ---- what is named

-- a number that a plain opcode pushes, and no other
abbrev pushes_small : Shape → Bool
pushes_small (shapes.Push (pos n)) = nat_lt n 8
pushes_small (shapes.Push (negsuc n)) = n == 0
pushes_small (shapes.Increment slot by) = false
pushes_small other = true

abbrev below : ℕ → (ℕ → Bool) → Bool
below zero test = true
below (suc n) test = test n && below n test

tried : (test : ℕ → Bool) (n i : ℕ) → below n test ≡ true → i < n → test i ≡ true
tried test zero i h lt = absurd (omega arith)
tried test (suc n) i h lt =
    let b = and_parts (test n) (below n test) h in
    elim (cases_lt i n) [
      | inl less ↦ tried test n i b.1 less
      | inr most ↦ let same : i ≡ n = omega arith in rw same b.0
    ]

word_of_pos : (n : ℕ) → n < 2 ^ 31 → FitsSigned w32 (pos n)
word_of_pos n lt = record { sfits = lt }

word_of_negsuc : (n : ℕ) → n < 2 ^ 31 → FitsSigned w32 (negsuc n)
word_of_negsuc n lt = record { sfits = lt }

small_is_word : (shape : Shape) → pushes_small shape ≡ true → NamesOnly (FitsSigned w32) shape
small_is_word (shapes.Push (pos n)) h = let lt = ltb-true n 8 h in word_of_pos n (omega arith)
small_is_word (shapes.Push (negsuc n)) h = let none = eqb-true n 0 h in word_of_negsuc n (omega arith)
small_is_word (shapes.Increment slot by) h = absurd cc
small_is_word shapes.Nothing h = tt
small_is_word shapes.PushNull h = tt
small_is_word (shapes.Load kind slot) h = tt
small_is_word (shapes.Store kind slot) h = tt
small_is_word (shapes.Move form) h = tt
small_is_word (shapes.Two op) h = tt
small_is_word (shapes.One op) h = tt
small_is_word (shapes.Test relation to) h = tt
small_is_word (shapes.Compare relation to) h = tt
small_is_word (shapes.CompareReferences same to) h = tt
small_is_word (shapes.TestNull null to) h = tt
small_is_word (shapes.Goto to) h = tt
small_is_word shapes.Switch h = tt
small_is_word (shapes.Heap what) h = tt

by_width : (wide : Bool) (by : ℤ) → FitsBy wide by → FitsSigned w32 by
by_width false by h = of_8 by h
by_width true by h = of_16 by h

all_plain : below 256 (λ op. pushes_small (plain_shape op)) ≡ true
all_plain = refl

all_pool : below 256 (λ op. pushes_small (pool_shape op)) ≡ true
all_pool = refl

all_local : (slot : ℕ) → below 256 (λ op. pushes_small (local_shape op slot)) ≡ true
all_local slot = refl

all_branch : (to : ℕ) → below 256 (λ op. pushes_small (branch_shape op to)) ≡ true
all_branch to = refl

-- the number that an instruction pushes or adds
pub insn_names_words : (insn : Insn) → IsInsn insn → NamesOnly (FitsSigned w32) (shape_of insn)
insn_names_words (insns.Plain op) is = small_is_word (plain_shape op) (tried (λ op. pushes_small (plain_shape op)) 256 op all_plain is.0)
insn_names_words (insns.Byte n) is = of_8 n is
insn_names_words (insns.Short n) is = of_16 n is
insn_names_words (insns.Ldc index) is = tt
insn_names_words (insns.Pool op index) is = small_is_word (pool_shape op) (tried (λ op. pushes_small (pool_shape op)) 256 op all_pool is.0)
insn_names_words (insns.Iface index count) is = tt
insn_names_words (insns.Local op slot wide) is =
    small_is_word (local_shape op slot) (tried (λ op. pushes_small (local_shape op slot)) 256 op (all_local slot) is.0)
insn_names_words (insns.Inc slot by wide) is = by_width wide by is.1
insn_names_words (insns.Branch op to) is =
    small_is_word (branch_shape op to) (tried (λ op. pushes_small (branch_shape op to)) 256 op (all_branch to) is.0)
insn_names_words (insns.GotoW to) is = tt
insn_names_words (insns.NewArray kind) is = tt
insn_names_words (insns.Table other low targets) is = tt
insn_names_words (insns.Lookup other keys targets) is = tt

-- ---- answers

between_word : (low : ℤ) (high : ℕ) (n : ℤ) → FitsSigned w32 low → high < 2 ^ 31 → between low (pos high) n ≡ true → FitsSigned w32 n
between_word low high (pos m) fits lt h =
    let a = and_parts (int_le low (pos m)) (int_le (pos m) (pos high)) h in
    let le = leb-true m high a.1 in word_of_pos m (omega arith)
between_word (pos l) high (negsuc m) fits lt h =
    let a = and_parts (int_le (pos l) (negsuc m)) (int_le (negsuc m) (pos high)) h in absurd cc
between_word (negsuc l) high (negsuc m) fits lt h =
    let a = and_parts (int_le (negsuc l) (negsuc m)) (int_le (negsuc m) (pos high)) h in
    let le = leb-true m l a.0 in
    let least : l < 2 ^ 31 = fits.sfits in word_of_negsuc m (omega arith)

number_is_word : (t : Element) (n : ℤ) → is_number_of t n ≡ true → FitsSigned w32 n
number_is_word elements.Boolean n h = between_word (pos 0) 1 n (word_of_pos 0 (omega arith)) (omega arith) h
number_is_word elements.Byte n h = between_word (negsuc 127) 127 n (word_of_negsuc 127 (omega arith)) (omega arith) h
number_is_word elements.Char n h = between_word (pos 0) 65535 n (word_of_pos 0 (omega arith)) (omega arith) h
number_is_word elements.Short n h = between_word (negsuc 32767) 32767 n (word_of_negsuc 32767 (omega arith)) (omega arith) h
number_is_word elements.Int n h = between_word (negsuc 2147483647) 2147483647 n (word_of_negsuc 2147483647 (omega arith)) (omega arith) h
number_is_word (elements.Class name) n h = absurd cc

-- a number that is the answer of a method
pub answer_is_word : AnswersAreWords
answer_is_word t n h = number_is_word t.element n (and_parts (t.dimensions == 0) (is_number_of t.element n) h).1

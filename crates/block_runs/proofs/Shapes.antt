-- Instructions that do not jump go on to the next one.
use Rattle.std.proofs.Common.{◌≡◌, ℕ, zero, suc, ◌<◌, Bool, true, false, cond, refl, arith, inl, inr}
use Rattle.std.specs.Prelude.{◌==◌, ◌&&◌, ◌^◌}
use Rattle.std.proofs.lemmas.Bool.{and_parts, cases_lt}
use Rattle.insn_codec.specs.declared.opcodes.TheConstants.{ALOAD, ASTORE, ILOAD, ISTORE}
use Rattle.insn_codec.specs.declared.shape.Shape.{Shape}
use Rattle.insn_codec.specs.declared.shape.Shape.TheVariants as shapes
use Rattle.insn_codec.specs.Shapes.{local_shape, plain_shape}

-- the shape has no target
abbrev pub stays : Shape → Bool
stays (shapes.Test relation to) = false
stays (shapes.Compare relation to) = false
stays (shapes.CompareReferences same to) = false
stays (shapes.TestNull null to) = false
stays (shapes.Goto to) = false
stays shapes.Switch = false
stays shapes.Nothing = true
stays (shapes.Push n) = true
stays shapes.PushNull = true
stays (shapes.Load kind slot) = true
stays (shapes.Store kind slot) = true
stays (shapes.Move form) = true
stays (shapes.Two op) = true
stays (shapes.One op) = true
stays (shapes.Increment slot by) = true
stays (shapes.Heap what) = true

abbrev below : ℕ → (ℕ → Bool) → Bool
below zero test = true
below (suc n) test = test n && below n test

tried : (test : ℕ → Bool) (n i : ℕ) → below n test ≡ true → i < n → test i ≡ true
tried test zero i h less = absurd (omega (arith, less))
tried test (suc n) i h less =
    let b = and_parts (test n) (below n test) h in
    elim (cases_lt i n) [
      | inl lower ↦ tried test n i b.1 lower
      | inr most ↦
          let same : i ≡ n = omega arith in
          rw same b.0
    ]

all_plain : below 256 (λ op. stays (plain_shape op)) ≡ true
all_plain = refl

pub plain_stays : (op : ℕ) → op < 2 ^ 8 → stays (plain_shape op) ≡ true
plain_stays op small = tried (λ op. stays (plain_shape op)) 256 op all_plain small

either : (b : Bool) (x y : Shape) → stays x ≡ true → stays y ≡ true → stays (cond b x y) ≡ true
either true x y p q = p
either false x y p q = q

pub local_stays : (op slot : ℕ) → stays (local_shape op slot) ≡ true
local_stays op slot = either (op == ILOAD) _ _ refl (either (op == ALOAD) _ _ refl (either (op == ISTORE) _ _ refl (either
    (op == ASTORE) _ _ refl refl)))

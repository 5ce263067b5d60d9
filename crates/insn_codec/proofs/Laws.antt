-- Numbers, targets and switches are read exactly as they are encoded.
use Rattle.std.proofs.Common.{◌≡◌, ℕ, ℤ, pos, ◌+ℤ◌, ◌-ℤ◌, ◌<◌, List, Some, Ok, refl, sym, ap, subst, ◌∙◌, FitsSigned, arith}
use Rattle.std.specs.Prelude.{slice_index}
use Rattle.std.specs.Int.{Width, w8, w16, w32}
use Rattle.std.proofs.lemmas.Int.{ints}
use Rattle.mon_base.specs.Reading.{Place, ◌>>=◌}
use Rattle.mon_base.proofs.Reading.{ok_or_ok, IsReader, number_is, one, two, four}
use Rattle.mon_base.proofs.Readers.{through, signed_is}
use Rattle.insn_codec.specs.declared.fault.CodeFault.TheVariants.{Cut, Target}
use Rattle.mon_base.specs.Widths.{u1, u2}
use Rattle.insn_codec.specs.Encoding.{i1, i2, i4, offset}
use Rattle.mon_base.specs.Widths.{IsU1, IsU2}
use Rattle.insn_codec.specs.Reading.{Finder, Read, u1_at, u2_at, i1_at, i2_at, i4_at, target_of, near_at, far_at}

-- ---- numbers

pub u1_is : (at : ℕ) → IsReader (u1_at at) u1 IsU1
unfolding u1_at
u1_is at = number_is one (λ p. Cut at)

pub u2_is : (at : ℕ) → IsReader (u2_at at) u2 IsU2
unfolding u2_at
u2_is at = number_is two (λ p. Cut at)

pub i1_is : (at : ℕ) → IsReader (i1_at at) i1 (λ z. FitsSigned w8 z)
unfolding i1_at
i1_is at = signed_is w8 (u1_is at)

pub i2_is : (at : ℕ) → IsReader (i2_at at) i2 (λ z. FitsSigned w16 z)
unfolding i2_at
i2_is at = signed_is w16 (u2_is at)

pub i4_is : (at : ℕ) → IsReader (i4_at at) i4 (λ z. FitsSigned w32 z)
unfolding i4_at
i4_is at = signed_is w32 (number_is four (λ p. Cut at))

-- ---- targets

-- The finder finds n instructions, which begin at these positions.
pub record Leads (find : Finder) (starts : List ℕ) (n : ℕ) : Type 0 where
  pub back : (z : ℤ) (i : ℕ) → find z ≡ Some i → (i < n) × (pos (slice_index starts i) ≡ z)
  pub there : (i : ℕ) → i < n → find (pos (slice_index starts i)) ≡ Some i

away : (s at : ℕ) (by : ℤ) → pos s ≡ pos at +ℤ by → pos s -ℤ pos at ≡ by
away s at by h = omega (arith, ints, h)

reached : (s at : ℕ) → pos at +ℤ (pos s -ℤ pos at) ≡ pos s
reached s at = omega (arith, ints)

pub target_to : (find : Finder) (starts : List ℕ) (n at : ℕ) (by : ℤ) (to : ℕ) → Leads find starts n → target_of find at by ≡ Ok to
    → (to < n) × (offset starts at to ≡ by)
target_to find starts n at by to leads e =
    let h = leads.back (pos at +ℤ by) to (ok_or_ok (find (pos at +ℤ by)) (Target at) to e) in
    (h.0, away (slice_index starts to) at by h.1)

pub target_from : (find : Finder) (starts : List ℕ) (n at : ℕ) (to : ℕ) → Leads find starts n → to < n
    → target_of find at (offset starts at to) ≡ Ok to
target_from find starts n at to leads lt =
    let h : find (pos at +ℤ offset starts at to) ≡ Some to = ap find (reached (slice_index starts to) at) ∙ leads.there to lt in
    rw h refl

-- an offset of so many bits, turned into the index of its target
target_is : (w : Width) {reader : Place → Read ℤ} {encode : ℤ → List ℕ} (find : Finder) (starts : List ℕ) (n at : ℕ) → Leads find starts n
    → IsReader reader encode (λ z. FitsSigned w z)
    → IsReader (λ p. reader p >>= λ by. target_of find at by.0 >>= λ to. Ok (to, by.1)) (λ to. encode (offset starts at to)) (λ to. (to < n) × FitsSigned w (offset starts at to))
target_is w {encode = encode} find starts n at leads is = through (λ p by. target_of find at by) is
    (λ p by to f k e. let h = target_to find starts n at by to leads e in (ap encode (sym h.1), (h.0, subst (FitsSigned w) (sym h.1) f), tt))
    (λ to f k. (offset starts at to, λ p. target_from find starts n at to leads f.0, refl, f.1, tt))

pub near_is : (find : Finder) (starts : List ℕ) (n at : ℕ) → Leads find starts n
    → IsReader (near_at find at) (λ to. i2 (offset starts at to)) (λ to. (to < n) × FitsSigned w16 (offset starts at to))
unfolding near_at
near_is find starts n at leads = target_is w16 find starts n at leads (i2_is at)

abbrev pub FitsFar : List ℕ → ℕ → ℕ → ℕ → Type 0
FitsFar starts n at to = (to < n) × FitsSigned w32 (offset starts at to)

pub far_is : (find : Finder) (starts : List ℕ) (n at : ℕ) → Leads find starts n
    → IsReader (far_at find at) (λ to. i4 (offset starts at to)) (FitsFar starts n at)
unfolding far_at
far_is find starts n at leads = target_is w32 find starts n at leads (i4_is at)

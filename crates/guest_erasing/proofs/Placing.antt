-- Where the parts of a method begin: one after another, and an instruction without a block stands where its part begins.
use Rattle.std.proofs.Common.{◌≡◌, ℕ, zero, suc, ◌+◌, ◌<◌, ◌≤◌, Bool, true, false, List, [], ◌∷◌, length, Option, Some, None, refl, ap, ◌∙◌, subst, arith}
use Rattle.std.specs.Prelude.{◌&&◌, nat_le, nat_lt, slice_index}
use Rattle.std.specs.List.{AllByRecursion}
use Rattle.std.proofs.lemmas.Bool.{leb-true, ltb-true, leb-false, ltb-false}
use Rattle.bytecode_model.specs.declared.program.Handler.{Handler}
use Rattle.bytecode_model.specs.Rules.{covers}
use Rattle.guest_model.proofs.Options.{all_append}
use Rattle.offset_patch.specs.declared.block.Block.{Block}
use Rattle.offset_patch.specs.declared.block.BlockInsn.{BlockInsn}
use Rattle.offset_patch.specs.declared.block.BlockInsn.TheVariants.{Plain, Byte, Short, Local, Want, Jump, Call}
use Rattle.offset_patch.specs.Fits.{IsSite, calls_in}
use Rattle.offset_patch.specs.Splicing.{at_fronts, call_place, fronts_from, fronts_of, handlers_by, own_handlers, part_of, site_handlers}
use Rattle.guest_erasing.specs.Laid.{IsWithin}
use Rattle.guest_erasing.specs.Places.{Sites, front, has_block, stand}

-- ---- fronts

pub front_zero : (sites : Sites) → front sites zero ≡ zero
front_zero [] = refl
front_zero (site ∷ sites) = refl

part_long : (site : Option Block) → IsSite site → 1 ≤ length (part_of site)
part_long None h = omega arith
part_long (Some block) h = h.some

pub stands_at_front : (sites : Sites) (i : ℕ) → has_block sites i ≡ false → stand sites i ≡ front sites i
unfolding call_place
stands_at_front [] i e = refl
stands_at_front (None ∷ sites) zero e = refl
stands_at_front (Some block ∷ sites) zero e = absurd cc
stands_at_front (site ∷ sites) (suc i) e = ap (λ (n : ℕ). length (part_of site) + n) (stands_at_front sites i e)

pub front_next : (sites : Sites) (i : ℕ) → has_block sites i ≡ false → front sites (suc i) ≡ suc (front sites i)
front_next [] i e = refl
front_next (None ∷ sites) zero e = rw (front_zero sites) refl
front_next (Some block ∷ sites) zero e = absurd cc
front_next (site ∷ sites) (suc i) e = let h : front sites (suc i) ≡ suc (front sites i) = front_next sites i e in omega arith

pub front_rises : (sites : Sites) → AllByRecursion IsSite sites → (i j : ℕ) → i < j → front sites i < front sites j
front_rises [] all i j h = h
front_rises (site ∷ sites) all i zero h = absurd (omega (arith, h))
front_rises (site ∷ sites) all zero (suc j) h = let l : 1 ≤ length (part_of site) = part_long site all.0 in omega arith
front_rises (site ∷ sites) all (suc i) (suc j) h = let l : front sites i < front sites j = front_rises sites all.1 i j (omega (arith, h)) in
    omega arith

front_from : (at : ℕ) (sites : Sites) (i : ℕ) → i ≤ length sites → slice_index (fronts_from at sites) i ≡ at + front sites i
front_from at [] zero h = omega arith
front_from at [] (suc i) h = absurd (omega (arith, h))
front_from at (site ∷ sites) zero h = omega arith
front_from at (site ∷ sites) (suc i) h =
    let l : slice_index (fronts_from (at + length (part_of site)) sites) i ≡ (at + length (part_of site)) + front sites i =
    front_from (at + length (part_of site)) sites i (omega (arith, h)) in
    l ∙ omega arith

pub front_is : (sites : Sites) (i : ℕ) → i ≤ length sites → slice_index (fronts_of sites) i ≡ front sites i
front_is sites i h = front_from 0 sites i h ∙ omega arith

-- ---- what handlers cover

pub le_as : (a b c d : ℕ) → (a ≤ b → c ≤ d) → (c ≤ d → a ≤ b) → nat_le a b ≡ nat_le c d
le_as a b c d f g = by (nat_le a b) (nat_le c d) refl refl where
  by : (p q : Bool) → nat_le a b ≡ p → nat_le c d ≡ q → p ≡ q
  by true true e k = refl
  by true false e k = absurd (let h : c ≤ d = f (leb-true a b e) in let l : d < c = leb-false c d k in omega arith)
  by false true e k = absurd (let h : a ≤ b = g (leb-true c d k) in let l : b < a = leb-false a b e in omega arith)
  by false false e k = refl

pub lt_as : (a b c d : ℕ) → (a < b → c < d) → (c < d → a < b) → nat_lt a b ≡ nat_lt c d
lt_as a b c d f g = by (nat_lt a b) (nat_lt c d) refl refl where
  by : (p q : Bool) → nat_lt a b ≡ p → nat_lt c d ≡ q → p ≡ q
  by true true e k = refl
  by true false e k = absurd (let h : c < d = f (ltb-true a b e) in let l : d ≤ c = ltb-false c d k in omega arith)
  by false true e k = absurd (let h : a < b = g (ltb-true c d k) in let l : b ≤ a = ltb-false a b e in omega arith)
  by false false e k = refl

module _ (sites : Sites) (all : AllByRecursion IsSite sites) where
  pub le_front : (i j : ℕ) → i ≤ j → front sites i ≤ front sites j
  le_front i j h = by (nat_lt i j) refl where
    by : (b : Bool) → nat_lt i j ≡ b → front sites i ≤ front sites j
    by true e = let l : front sites i < front sites j = front_rises sites all i j (ltb-true i j e) in omega arith
    by false e =
        let k : j ≤ i = ltb-false i j e in
        let same : i ≡ j = omega arith in
        let l : front sites i ≡ front sites j = ap (front sites) same in omega arith

  pub le_back : (i j : ℕ) → front sites i ≤ front sites j → i ≤ j
  le_back i j h = by (nat_lt j i) refl where
    by : (b : Bool) → nat_lt j i ≡ b → i ≤ j
    by true e = absurd (let l : front sites j < front sites i = front_rises sites all j i (ltb-true j i e) in omega arith)
    by false e = ltb-false j i e

  pub lt_back : (i j : ℕ) → front sites i < front sites j → i < j
  lt_back i j h = by (nat_lt i j) refl where
    by : (b : Bool) → nat_lt i j ≡ b → i < j
    by true e = ltb-true i j e
    by false e = absurd (let l : front sites j ≤ front sites i = le_front j i (ltb-false i j e) in omega arith)

  -- What covers an instruction covers its front.
  pub covers_front : (i : ℕ) (h : Handler) → IsWithin (length sites) h → covers (front sites i) (at_fronts (fronts_of sites) h) ≡ covers i h
  covers_front i h within =
      rw (front_is sites h.from within.from, front_is sites h.to within.to)
      (let a = le_as (front sites h.from) (front sites i) h.from i (le_back h.from i) (le_front h.from i) in
      let b = lt_as (front sites i) (front sites h.to) i h.to (lt_back i h.to) (front_rises sites all i h.to) in
      rw (a, b) refl)

-- ---- handlers of blocks cover their calls alone

pub call_within : (insns : List BlockInsn) → calls_in insns ≡ 1 → call_place insns < length insns
unfolding call_place
call_within [] e = absurd (omega (arith, e))
call_within (Call ∷ insns) e = omega arith
call_within (Plain op ∷ insns) e = let h : call_place insns < length insns = call_within insns e in omega arith
call_within (Byte n ∷ insns) e = let h : call_place insns < length insns = call_within insns e in omega arith
call_within (Short n ∷ insns) e = let h : call_place insns < length insns = call_within insns e in omega arith
call_within (Local op slot wide ∷ insns) e = let h : call_place insns < length insns = call_within insns e in omega arith
call_within (Want op want ∷ insns) e = let h : call_place insns < length insns = call_within insns e in omega arith
call_within (Jump op place ∷ insns) e = let h : call_place insns < length insns = call_within insns e in omega arith

abbrev pub Misses : ℕ → Handler → Type 0
Misses at h = covers at h ≡ false

pub before : (at from to : ℕ) → at < from → (nat_le from at && nat_lt at to) ≡ false
before at from to h = by (nat_le from at) refl where
  by : (b : Bool) → nat_le from at ≡ b → (b && nat_lt at to) ≡ false
  by true e = absurd (let l : from ≤ at = leb-true from at e in omega arith)
  by false e = refl

pub behind : (at from to : ℕ) → to ≤ at → (nat_le from at && nat_lt at to) ≡ false
behind at from to h = by (nat_le from at) (nat_lt at to) refl where
  by : (b c : Bool) → nat_lt at to ≡ c → (b && c) ≡ false
  by b true e = absurd (let l : at < to = ltb-true at to e in omega arith)
  by true false e = refl
  by false false e = refl

later_by : (at begin : ℕ) (insns : List BlockInsn) (o : Option ℕ) → at < begin → AllByRecursion (Misses at) (handlers_by begin insns o)
later_by at begin insns None h = tt
later_by at begin insns (Some place) h = (before at (begin + call_place insns) (begin + call_place insns + 1) (omega arith), tt)

later_site : (at begin : ℕ) (site : Option Block) → at < begin → AllByRecursion (Misses at) (site_handlers begin site)
later_site at begin None h = tt
later_site at begin (Some block) h = later_by at begin block.insns block.handler h

pub later : (at begin : ℕ) (sites : Sites) → at < begin → AllByRecursion (Misses at) (own_handlers begin sites)
later at begin [] h = tt
later at begin (site ∷ sites) h =
    all_append (Misses at) (site_handlers begin site) _ (later_site at begin site h)
    (later at (begin + length (part_of site)) sites (omega arith))

earlier_by : (at begin : ℕ) (insns : List BlockInsn) (o : Option ℕ) → call_place insns < length insns → begin + length insns ≤ at
    → AllByRecursion (Misses at) (handlers_by begin insns o)
earlier_by at begin insns None c h = tt
earlier_by at begin insns (Some place) c h = (behind at (begin + call_place insns) (begin + call_place insns + 1) (omega arith), tt)

pub earlier_site : (at begin : ℕ) (site : Option Block) → IsSite site → begin + length (part_of site) ≤ at
    → AllByRecursion (Misses at) (site_handlers begin site)
earlier_site at begin None s h = tt
earlier_site at begin (Some block) s h = earlier_by at begin block.insns block.handler (call_within block.insns s.once) h

own_miss_from : (begin : ℕ) (sites : Sites) (i : ℕ) → AllByRecursion IsSite sites → has_block sites i ≡ false
    → AllByRecursion (Misses (begin + front sites i)) (own_handlers begin sites)
own_miss_from begin [] i all e = tt
own_miss_from begin (None ∷ sites) zero all e = later (begin + zero) (begin + 1) sites (omega arith)
own_miss_from begin (Some block ∷ sites) zero all e = absurd cc
own_miss_from begin (site ∷ sites) (suc i) all e =
    let at = begin + (length (part_of site) + front sites i) in
    let same : begin + length (part_of site) + front sites i ≡ at = omega arith in
    all_append (Misses at) (site_handlers begin site) _ (earlier_site at begin site all.0 (omega arith))
    (subst (λ (n : ℕ). AllByRecursion (Misses n) (own_handlers (begin + length (part_of site)) sites)) same
    (own_miss_from (begin + length (part_of site)) sites i all.1 e))

-- No handler of a block covers an instruction without one.
pub own_miss : (sites : Sites) (i : ℕ) → AllByRecursion IsSite sites → has_block sites i ≡ false
    → AllByRecursion (λ (h : Handler). covers (front sites i) h ≡ false) (own_handlers 0 sites)
own_miss sites i all e =
    let same : 0 + front sites i ≡ front sites i = omega arith in
    subst (λ (n : ℕ). AllByRecursion (Misses n) (own_handlers 0 sites)) same (own_miss_from 0 sites i all e)

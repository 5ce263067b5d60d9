-- Places inside the part of an instruction: to which it belongs, and which handlers cover it.
use Rattle.std.proofs.Common.{◌≡◌, ◌≢◌, ◌∙◌, ℕ, zero, suc, ◌+◌, ◌-◌, ◌<◌, ◌≤◌, Bool, true, false, cond, List, [], ◌∷◌, ◌++◌, length, Option, Some, None, ◌⊎◌, inl, inr, refl, sym, ap, subst, arith}
use Rattle.std.specs.Prelude.{◌&&◌, find, nat_le, nat_lt, slice_get}
use Rattle.std.specs.List.{AllByRecursion}
use Rattle.std.specs.Option.{option_or}
use Rattle.std.proofs.lemmas.List.Folds.{find-append}
use Rattle.bytecode_model.specs.declared.program.Handler.{Handler}
use Rattle.bytecode_model.specs.declared.program.Program.{Program}
use Rattle.bytecode_model.specs.Rules.{covers}
use Rattle.bytecode_model.specs.SearchOrder.{Name}
use Rattle.guest_model.specs.Throwing.{catches}
use Rattle.guest_model.proofs.Options.{all_append}
use Rattle.offset_patch.specs.declared.block.Block.{Block}
use Rattle.offset_patch.specs.declared.block.BlockInsn.{BlockInsn}
use Rattle.offset_patch.specs.Fits.{IsSite}
use Rattle.offset_patch.specs.Splicing.{at_fronts, call_place, count_of, fronts_of, handlers_by, own_handler, own_handlers, part_of, site_handlers}
use Rattle.offset_patch.specs.Splicing as splicing
use Rattle.guest_erasing.specs.Laid.{IsWithin}
use Rattle.guest_erasing.specs.Places.{Sites, front, own, stand}
use Rattle.guest_erasing.proofs.Handling.{none_found}
use Rattle.guest_erasing.proofs.Placing.{Misses, before, behind, earlier_site, front_is, front_zero, later, le_as, le_front, lt_as}

-- ---- where a part begins and ends

pub front_part : (sites : Sites) (i : ℕ) (site : Option Block) → slice_get sites i ≡ Some site
    → front sites (suc i) ≡ front sites i + length (part_of site)
front_part [] i site e = absurd cc
front_part (s ∷ sites) zero site e =
    let same : s ≡ site = cc in
    let none : front sites zero ≡ zero = front_zero sites in
    let long : length (part_of s) ≡ length (part_of site) = ap (λ (x : Option Block). length (part_of x)) same in omega arith
front_part (s ∷ sites) (suc i) site e =
    let h : front sites (suc i) ≡ front sites i + length (part_of site) = front_part sites i site e in omega arith

pub stand_part : (sites : Sites) (i : ℕ) (site : Option Block) → slice_get sites i ≡ Some site
    → stand sites i ≡ front sites i + call_place (part_of site)
stand_part [] i site e = absurd cc
stand_part (s ∷ sites) zero site e =
    let none : call_place (part_of site) ≡ 0 + call_place (part_of site) = omega arith in
    ap (λ (x : Option Block). call_place (part_of x)) (let same : s ≡ site = cc in same) ∙ none
stand_part (s ∷ sites) (suc i) site e =
    let h : stand sites i ≡ front sites i + call_place (part_of site) = stand_part sites i site e in omega arith

pub count_part : (sites : Sites) (i : ℕ) (site : Option Block) → slice_get sites i ≡ Some site → length (part_of site) ≤ count_of sites
count_part [] i site e = absurd cc
count_part (s ∷ sites) zero site e =
    let long : length (part_of s) ≡ length (part_of site) = ap (λ (x : Option Block). length (part_of x))
    (let same : s ≡ site = cc in same) in omega arith
count_part (s ∷ sites) (suc i) site e = let h : length (part_of site) ≤ count_of sites = count_part sites i site e in omega arith

inside_it : (part k : ℕ) → k < part → nat_lt k part ≡ true
inside_it part k less = grind (arith)

beyond_it : (part k : ℕ) → nat_lt (part + k) part ≡ false
beyond_it part k = grind (arith)

-- Each place of a part belongs to its instruction.
pub own_part : (sites : Sites) (i k : ℕ) (site : Option Block) → slice_get sites i ≡ Some site → k < length (part_of site)
    → own sites (front sites i + k) ≡ i
own_part [] i k site e less = absurd cc
own_part (s ∷ sites) zero k site e less =
    let same : s ≡ site = cc in
    let long : length (part_of s) ≡ length (part_of site) = ap (λ (x : Option Block). length (part_of x)) same in
    let none : zero + k ≡ k = omega arith in
    ap (own (s ∷ sites)) none
    ∙ ap (λ (b : Bool). cond b zero (suc (own sites (k - length (part_of s))))) (inside_it (length (part_of s)) k (omega (arith, less)))
own_part (s ∷ sites) (suc i) k site e less =
    let long = length (part_of s) in
    let there : long + front sites i + k ≡ long + (front sites i + k) = omega arith in
    let back : long + (front sites i + k) - long ≡ front sites i + k = omega arith in
    ap (own (s ∷ sites)) there
    ∙ ap (λ (b : Bool). cond b zero (suc (own sites (long + (front sites i + k) - long)))) (beyond_it long (front sites i + k))
    ∙ ap (λ (n : ℕ). suc (own sites n)) back ∙ ap suc (own_part sites i k site e less)

-- ---- handlers of the client

module _ (sites : Sites) (all : AllByRecursion IsSite sites) where
  -- What covers an instruction covers each place of its part.
  pub covers_part : (i at : ℕ) (h : Handler) → IsWithin (length sites) h → front sites i ≤ at → at < front sites (suc i)
      → covers at (at_fronts (fronts_of sites) h) ≡ covers i h
  covers_part i at h within low high =
      rw (front_is sites h.from within.from, front_is sites h.to within.to)
      (let a = le_as (front sites h.from) at h.from i (from_back h.from) (from_on h.from) in
      let b = lt_as at (front sites h.to) i h.to (to_back h.to) (to_on h.to) in
      rw (a, b) refl)
    where
      from_back : (from : ℕ) → front sites from ≤ at → from ≤ i
      from_back from le = by (nat_lt i from) refl
        where
          by : (b : Bool) → nat_lt i from ≡ b → from ≤ i
          by true e =
              let less : i < from = grind (arith, e) in
              let l : front sites (suc i) ≤ front sites from = le_front sites all (suc i) from (omega (arith, less)) in absurd
              (omega (arith, l, le, high))
          by false e = grind (arith, e)

      from_on : (from : ℕ) → from ≤ i → front sites from ≤ at
      from_on from le = let l : front sites from ≤ front sites i = le_front sites all from i le in omega (arith, l, low)

      to_back : (to : ℕ) → at < front sites to → i < to
      to_back to less = by (nat_lt i to) refl
        where
          by : (b : Bool) → nat_lt i to ≡ b → i < to
          by true e = grind (arith, e)
          by false e =
              let le : to ≤ i = grind (arith, e) in
              let l : front sites to ≤ front sites i = le_front sites all to i le in absurd (omega (arith, l, low, less))

      to_on : (to : ℕ) → i < to → at < front sites to
      to_on to less =
          let l : front sites (suc i) ≤ front sites to = le_front sites all (suc i) to (omega (arith, less)) in omega (arith, l, high)

-- ---- handlers of blocks

-- The place is not that of the call, or the part catches nothing.
abbrev pub IsUncaught : Option Block → ℕ → Type 0
IsUncaught site k = (k ≢ call_place (part_of site)) ⊎ (splicing.handler_of site ≡ None)

not_it : (begin k place : ℕ) → k ≢ place
    → covers (begin + k) (record { from = begin + place; to = begin + place + 1; at = 0; class = None }) ≡ false
not_it begin k place other = by (nat_lt k place) refl
  where
    by : (b : Bool) → nat_lt k place ≡ b → (nat_le (begin + place) (begin + k) && nat_lt (begin + k) (begin + place + 1)) ≡ false
    by true e = let less : k < place = grind (arith, e) in before (begin + k) (begin + place) (begin + place + 1) (omega (arith, less))
    by false e =
        let le : place ≤ k = grind (arith, e) in
        behind (begin + k) (begin + place) (begin + place + 1) (by_two (nat_lt place k) refl le)
      where
        by_two : (c : Bool) → nat_lt place k ≡ c → place ≤ k → begin + place + 1 ≤ begin + k
        by_two true f le = let less : place < k = grind (arith, f) in omega (arith, less)
        by_two false f le = absurd (other (let least : k ≤ place = grind (arith, f) in omega (arith, le, least)))

missed_by : (begin k : ℕ) (insns : List BlockInsn) (o : Option ℕ) → (k ≢ call_place insns) ⊎ (o ≡ None)
    → AllByRecursion (Misses (begin + k)) (handlers_by begin insns o)
missed_by begin k insns None h = tt
missed_by begin k insns (Some place) (inl other) = (not_it begin k (call_place insns) other, tt)
missed_by begin k insns (Some place) (inr none) = absurd cc

missed_site : (begin k : ℕ) (site : Option Block) → IsUncaught site k → AllByRecursion (Misses (begin + k)) (site_handlers begin site)
missed_site begin k None h = tt
missed_site begin k (Some block) h = missed_by begin k block.insns block.handler h

miss_from : (begin : ℕ) (sites : Sites) (i k : ℕ) (site : Option Block) → AllByRecursion IsSite sites → slice_get sites i ≡ Some site
    → k < length (part_of site) → IsUncaught site k → AllByRecursion (Misses (begin + (front sites i + k))) (own_handlers begin sites)
miss_from begin [] i k site all e less out = absurd cc
miss_from begin (s ∷ sites) zero k site all e less out =
    let same : s ≡ site = cc in
    let long : length (part_of s) ≡ length (part_of site) = ap (λ (x : Option Block). length (part_of x)) same in
    let none : begin + (zero + k) ≡ begin + k = omega arith in
    subst (λ (n : ℕ). AllByRecursion (Misses n) (own_handlers begin (s ∷ sites))) (sym none)
    (all_append (Misses (begin + k)) (site_handlers begin s) _
    (missed_site begin k s (subst (λ (x : Option Block). IsUncaught x k) (sym same) out))
    (later (begin + k) (begin + length (part_of s)) sites (omega (arith, less))))
miss_from begin (s ∷ sites) (suc i) k site all e less out =
    let at = begin + (length (part_of s) + front sites i + k) in
    let same : begin + length (part_of s) + (front sites i + k) ≡ at = omega arith in
    all_append (Misses at) (site_handlers begin s) _ (earlier_site at begin s all.0 (omega arith))
    (subst (λ (n : ℕ). AllByRecursion (Misses n) (own_handlers (begin + length (part_of s)) sites)) same
    (miss_from (begin + length (part_of s)) sites i k site all.1 e less out))

-- No handler of a block covers a place of a part that is not its call, nor one of a part that catches nothing.
pub own_miss_part : (sites : Sites) (i k : ℕ) (site : Option Block) → AllByRecursion IsSite sites → slice_get sites i ≡ Some site
    → k < length (part_of site) → IsUncaught site k
    → AllByRecursion (λ (h : Handler). covers (front sites i + k) h ≡ false) (own_handlers 0 sites)
own_miss_part sites i k site all e less out =
    let same : 0 + (front sites i + k) ≡ front sites i + k = omega arith in
    subst (λ (n : ℕ). AllByRecursion (Misses n) (own_handlers 0 sites)) same (miss_from 0 sites i k site all e less out)

module _ (program : Program) (class : Name) where
  missed_catches : (at : ℕ) (hs : List Handler) → AllByRecursion (Misses at) hs
      → AllByRecursion (λ (h : Handler). catches program at class h ≡ false) hs
  missed_catches at [] all = tt
  missed_catches at (h ∷ hs) all = (rw all.0 refl, missed_catches at hs all.1)

  pub none_catches : (at : ℕ) (hs : List Handler) → AllByRecursion (λ (h : Handler). covers at h ≡ false) hs
      → find (catches program at class) hs ≡ None
  none_catches at hs all = none_found (catches program at class) hs (missed_catches at hs all)

  hits : (begin : ℕ) (insns : List BlockInsn) (place : ℕ)
      → catches program (begin + call_place insns) class (own_handler begin insns place) ≡ true
  hits begin insns place =
      let at = begin + call_place insns in
      let low : nat_le at at ≡ true = grind (arith) in
      let high : nat_lt at (at + 1) ≡ true = grind (arith) in rw (low, high) refl

  found_by : (begin : ℕ) (block : Block) (place : ℕ) (rest : List Handler) (o : Option ℕ) → o ≡ Some place
      → find (catches program (begin + call_place block.insns) class) (handlers_by begin block.insns o ++ rest) ≡ Some
      (own_handler begin block.insns place)
  found_by begin block place rest None e = absurd cc
  found_by begin block place rest (Some p) e =
      let same : p ≡ place = cc in
      ap (λ (b : Bool). cond b (Some (own_handler begin block.insns p))
      (find (catches program (begin + call_place block.insns) class) rest)) (hits begin block.insns p)
      ∙ ap (λ (n : ℕ). Some (own_handler begin block.insns n)) same

  found_from : (begin : ℕ) (sites : Sites) (i : ℕ) (block : Block) (place : ℕ) → AllByRecursion IsSite sites
      → slice_get sites i ≡ Some (Some block)
      → block.handler ≡ Some place
      → find (catches program (begin + (front sites i + call_place block.insns)) class) (own_handlers begin sites)
      ≡ Some (own_handler (begin + front sites i) block.insns place)
  found_from begin [] i block place all e h = absurd cc
  found_from begin (s ∷ sites) zero block place all e h =
      let same : s ≡ Some block = cc in
      let rest = own_handlers (begin + length (part_of s)) sites in
      let none : begin + (zero + call_place block.insns) ≡ begin + call_place block.insns = omega arith in
      let first : begin ≡ begin + zero = omega arith in
      ap (λ (n : ℕ). find (catches program n class) (own_handlers begin (s ∷ sites))) none
      ∙ ap (λ (x : Option Block). find (catches program (begin + call_place block.insns) class) (site_handlers begin x ++ rest)) same
      ∙ found_by begin block place rest block.handler h ∙ ap (λ (n : ℕ). Some (own_handler n block.insns place)) first
  found_from begin (s ∷ sites) (suc i) block place all e h =
      let long = length (part_of s) in
      let at = begin + (long + front sites i + call_place block.insns) in
      let rest = own_handlers (begin + long) sites in
      let there : at ≡ begin + long + (front sites i + call_place block.insns) = omega arith in
      let begins : begin + long + front sites i ≡ begin + (long + front sites i) = omega arith in
      find-append (catches program at class) (site_handlers begin s) rest
      ∙ ap (λ (o : Option Handler). option_or o (find (catches program at class) rest))
      (none_catches at (site_handlers begin s) (earlier_site at begin s all.0 (omega arith)))
      ∙ ap (λ (n : ℕ). find (catches program n class) rest) there
      ∙ found_from (begin + long) sites i block place all.1 e h ∙ ap (λ (n : ℕ). Some (own_handler n block.insns place)) begins

  -- What the call of a block throws is caught by its own handler.
  pub own_found : (sites : Sites) (i : ℕ) (block : Block) (place : ℕ) → AllByRecursion IsSite sites → slice_get sites i ≡ Some (Some block)
      → block.handler ≡ Some place
      → find (catches program (stand sites i) class) (own_handlers 0 sites) ≡ Some (own_handler (front sites i) block.insns place)
  own_found sites i block place all e h =
      let same : stand sites i ≡ 0 + (front sites i + call_place block.insns) = stand_part sites i (Some block) e ∙ omega arith in
      let begins : 0 + front sites i ≡ front sites i = omega arith in
      ap (λ (n : ℕ). find (catches program n class) (own_handlers 0 sites)) same ∙ found_from 0 sites i block place all e h
      ∙ ap (λ (n : ℕ). Some (own_handler n block.insns place)) begins

-- Arrays that share what they have in common.
use Rattle.std.proofs.Common.{◌≡◌, ℕ, zero, suc, ◌/◌, ◌%◌, ◌^◌, ◌<◌, ◌==◌, Bool, true, false, cond, ◌||◌, List, ◌∷◌, Option, Some, None, refl, sym, ap, ◌∙◌, arith}
use Rattle.std.specs.Prelude.{slice_get}
use Rattle.std.specs.Option.{option_and_then}
use Rattle.std.proofs.lemmas.Bool.Decides.{nat_tests}
use Rattle.mon_base.specs.declared.persistent.Halves.{Halves}
use Rattle.mon_base.specs.Persistent.{half_of, with_half, item_at, Keeps, Puts, PutsEach, has_number}

-- ---- a step down

pub one_down : (nodes : List Halves) (depth less root number : ℕ) (h : Halves) → depth ≡ suc less → slice_get nodes root ≡ Some h
    → item_at nodes depth root number ≡ item_at nodes less (half_of h number) (number / 2)
one_down nodes depth less root number h is there =
    ap (λ (d : ℕ). item_at nodes d root number) is
    ∙ ap (λ (o : Option Halves). option_and_then (λ (x : Halves). item_at nodes less (half_of x number) (number / 2)) o) there

-- what is an item stays so
pub keeps_item : (old new : List Halves) → Keeps old new → (depth root number x : ℕ) → item_at old depth root number ≡ Some x → item_at new depth root number ≡ Some x
keeps_item old new keeps zero root zero x e = e
keeps_item old new keeps zero root (suc number) x e = absurd cc
keeps_item old new keeps (suc depth) root number x e =
    by (slice_get old root) refl (λ (r : ℕ) (t : item_at old depth r (number / 2) ≡ Some x). keeps_item old new keeps depth r (number / 2) x t) e where
      by : (o : Option Halves) → slice_get old root ≡ o → ((r : ℕ) → item_at old depth r (number / 2) ≡ Some x → item_at new depth r (number / 2) ≡ Some x)
          → option_and_then (λ (h : Halves). item_at old depth (half_of h number) (number / 2)) o ≡ Some x → item_at new (suc depth) root number ≡ Some x
      by None is below e = absurd cc
      by (Some h) is below e = one_down new (suc depth) depth root number h refl (keeps root h is) ∙ below (half_of h number) e

-- the array of zeros
pub zeros : (nodes : List Halves) → slice_get nodes 0 ≡ Some (record { even = 0; odd = 0 }) → (depth number : ℕ) → number < 2 ^ depth → item_at nodes depth 0 number ≡ Some 0
zeros nodes first zero zero few = refl
zeros nodes first zero (suc number) few = absurd (omega (arith, few))
zeros nodes first (suc depth) number few =
    let less : number / 2 < 2 ^ depth = omega (arith, few) in
    one_down nodes (suc depth) depth 0 number (record { even = 0; odd = 0 }) refl first
    ∙ ap (λ (r : ℕ). item_at nodes depth r (number / 2)) (same (number % 2 == 0)) ∙ zeros nodes first depth (number / 2) less where
      nothing : ℕ
      nothing = 0

      same : (b : Bool) → cond b nothing nothing ≡ nothing
      same true = refl
      same false = refl

-- ---- one item

same_half : (q n : ℕ) → (q % 2 == 0) ≡ (n % 2 == 0) → (q / 2 == n / 2) ≡ (q == n)
same_half q n same = grind (arith, nat_tests)

even_odd : (q n : ℕ) → (q % 2 == 0) ≡ true → (n % 2 == 0) ≡ false → (q == n) ≡ false
even_odd q n is was = grind (arith, nat_tests)

odd_even : (q n : ℕ) → (q % 2 == 0) ≡ false → (n % 2 == 0) ≡ true → (q == n) ≡ false
odd_even q n is was = grind (arith, nat_tests)

pub puts_up : (old mid new : List Halves) (depth less root place number item half : ℕ) (h : Halves) → depth ≡ suc less → slice_get old root ≡ Some h → Keeps old mid → Keeps mid new
    → slice_get new place ≡ Some (with_half h number half) → Puts old mid less (half_of h number) (number / 2) item half → Puts old new depth root number item place
puts_up old mid new depth less root place number item half h is there first second here puts q x e =
    one_down new depth less place q (with_half h number half) is here ∙ by (q % 2 == 0) (number % 2 == 0) refl refl (sym (one_down old depth less root q h is there) ∙ e) puts where
      part : Halves → Bool → ℕ
      part halves b = cond b halves.even halves.odd

      whole : Bool → Halves
      whole b = cond b (record { even = half; odd = h.odd }) (record { even = h.even; odd = half })

      kept : (r : ℕ) → item_at old less r (q / 2) ≡ Some x → (q == number) ≡ false → item_at new less r (q / 2) ≡ Some (cond (q == number) item x)
      kept r t other = keeps_item mid new second less r (q / 2) x (keeps_item old mid first less r (q / 2) x t) ∙ ap (λ (b : Bool). Some (cond b item x)) (sym other)

      put : (r : ℕ) → item_at old less r (q / 2) ≡ Some x → Puts old mid less r (number / 2) item half → (q % 2 == 0) ≡ (number % 2 == 0)
          → item_at new less half (q / 2) ≡ Some (cond (q == number) item x)
      put r t puts same =
          keeps_item mid new second less half (q / 2) (cond (q / 2 == number / 2) item x) (puts (q / 2) x t) ∙ ap (λ (b : Bool). Some (cond b item x)) (same_half q number same)

      by : (b c : Bool) → (q % 2 == 0) ≡ b → (number % 2 == 0) ≡ c → item_at old less (part h b) (q / 2) ≡ Some x → Puts old mid less (part h c) (number / 2) item half
          → item_at new less (part (whole c) b) (q / 2) ≡ Some (cond (q == number) item x)
      by true true is was t puts = put h.even t puts (is ∙ sym was)
      by true false is was t puts = kept h.even t (even_odd q number is was)
      by false true is was t puts = kept h.odd t (odd_even q number is was)
      by false false is was t puts = put h.odd t puts (is ∙ sym was)

-- ---- several

pub puts_more : (old mid new : List Halves) (depth root next result number item : ℕ) (rest : List ℕ) → Puts old mid depth root number item next → PutsEach mid new depth next rest item result
    → PutsEach old new depth root (number ∷ rest) item result
puts_more old mid new depth root next result number item rest first others q x e =
    others q (cond (q == number) item x) (first q x e) ∙ by (has_number rest q) (q == number) where
      by : (b c : Bool) → Some (cond b item (cond c item x)) ≡ Some (cond (c || b) item x)
      by true true = refl
      by true false = refl
      by false true = refl
      by false false = refl

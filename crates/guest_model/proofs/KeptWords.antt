-- Numbers of 32 bits: what arithmetic and items make of such numbers, and that instructions come to no others.
use Rattle.std.proofs.Common.{◌≡◌, ℕ, ℤ, zero, suc, ◌^◌, ◌<◌, ◌≤◌, Bool, true, false, cond, arith}
use Rattle.std.specs.Prelude.{pos, negsuc, bytes_eq, codes, int_div, int_rem, unsigned_abs, FitsSigned}
use Rattle.std.specs.Int.{w32, cast_unsigned}
use Rattle.std.specs.Ordering.{int_eq}
use Rattle.std.proofs.lemmas.Int.{rem_below}
use Rattle.insn_codec.specs.declared.shape.One.TheVariants as one
use Rattle.insn_codec.specs.declared.shape.Two.TheVariants as two
use Rattle.bytecode_model.specs.SearchOrder.{Name}
use Rattle.guest_heap.specs.declared.value.Value.{Value}
use Rattle.guest_heap.specs.declared.value.Value.TheVariants as values
use Rattle.guest_model.specs.Layout.{first_value, is_of_references}
use Rattle.guest_model.specs.HeapOperations.{kept, kept_number, quotient, truth}
use Rattle.guest_model.proofs.Arithmetic.{cast_fits, made_of_one_fits, made_of_two_fits}
use Rattle.guest_model.proofs.HeapResults.{Lasts}
use Rattle.guest_model.proofs.Options.{all_get, all_set}
use Rattle.guest_model.proofs.Words.{AreWords, IsWord, ObjectWords, WorldWords, heap_words}

-- ---- numbers

pub small : (n : ℕ) → n < 2 ^ 31 → FitsSigned w32 (pos n)
small n h = record { sfits = h }

magnitude : (y : ℤ) → FitsSigned w32 y → unsigned_abs y ≤ 2 ^ 31
magnitude (pos n) h = let lt : n < 2 ^ 31 = h.sfits in omega arith
magnitude (negsuc n) h = let lt : n < 2 ^ 31 = h.sfits in omega arith

of_magnitude : (z : ℤ) → unsigned_abs z < 2 ^ 31 → FitsSigned w32 z
of_magnitude (pos n) h = record { sfits = h }
of_magnitude (negsuc n) h = record { sfits = omega (arith, h) }

not_zero : (y : ℤ) → int_eq y (pos 0) ≡ false → 0 < unsigned_abs y
not_zero (pos zero) e = absurd cc
not_zero (pos (suc n)) e = omega arith
not_zero (negsuc n) e = omega arith

quotient_fits : (remainder : Bool) (x y : ℤ) → FitsSigned w32 y → 0 < unsigned_abs y → FitsSigned w32 (quotient remainder x y)
quotient_fits false x y h some = cast_fits (cast_unsigned w32 (int_div x y))
quotient_fits true x y h some = of_magnitude (int_rem x y) (omega (arith, rem_below x y some, magnitude y h))

-- ---- what an item keeps

kept_either : (b : Bool) (x y : ℤ) → FitsSigned w32 x → FitsSigned w32 y → FitsSigned w32 (cond b x y)
kept_either true x y p q = p
kept_either false x y p q = q

number_kept : (desc : Name) (n : ℤ) → FitsSigned w32 n → FitsSigned w32 (kept_number desc n)
number_kept desc n h =
    kept_either (bytes_eq desc (codes "[Z")) _ _ (made_of_two_fits two.And n (pos 1) h)
    (kept_either (bytes_eq desc (codes "[B")) _ _ (made_of_one_fits one.ToByte n)
    (kept_either (bytes_eq desc (codes "[C")) _ _ (made_of_one_fits one.ToChar n)
    (kept_either (bytes_eq desc (codes "[S")) _ _ (made_of_one_fits one.ToShort n) h)))

kept_word : (desc : Name) (v : Value) → IsWord v → IsWord (kept desc v)
kept_word desc (values.Int n) h = number_kept desc n h
kept_word desc values.Null h = tt
kept_word desc (values.Ref at) h = tt
kept_word desc (values.Class index) h = tt
kept_word desc (values.Lit index) h = h

-- ---- values before they are written

first_or : (b : Bool) → IsWord (cond b values.Null (values.Int (pos 0)))
first_or true = tt
first_or false = cast_fits 0

pub first_word : (desc : Name) → IsWord (first_value desc)
first_word desc = first_or (is_of_references desc)

truth_word : (b : Bool) → IsWord (truth b)
truth_word true = small 1 (omega arith)
truth_word false = small 0 (omega arith)

-- ---- what instructions come to

pub words_last : Lasts IsWord ObjectWords WorldWords (λ class. Unit {0})
words_last = record {
  reference = λ at. tt;
  truths = truth_word;
  first = first_word;
  item = kept_word;
  quotients = λ remainder x y e h. quotient_fits remainder x y h (not_zero y e);
  new = λ class list all. (all, tt);
  fields = λ class list on thread h. h.0;
  fields_set = λ class old list on thread all h. (all, h.1);
  items = λ desc list h. h;
  array = λ desc list all count. (all, count);
  on_heap = λ world words. words.heap;
  heap_set = heap_words;
  statics = λ world class list may words e. all_get AreWords world.statics class list words.statics e;
  statics_set = λ world class old list may e all words. record {
    heap = words.heap;
    statics = all_set AreWords world.statics class list words.statics all;
  };
}

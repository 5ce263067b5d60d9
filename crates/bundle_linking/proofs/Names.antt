-- The names of the threads' classes: they are names of classes, hold nothing of this tool's own class, and differ.
use Rattle.std.proofs.Common.{◌≡◌, ℕ, ◌<◌, ◌^◌, Bool, true, false, cond, ◌&&◌, List, [], ◌∷◌, refl, ap, ◌∙◌, arith}
use Rattle.std.specs.Prelude.{◌==◌, bytes_eq, decimal, nat_eq}
use Rattle.std.specs.Char.{is_ascii_digit}
use Rattle.std.specs.List.{list_all, onto_first}
use Rattle.std.specs.Str.Parse.{AllDigits}
use Rattle.std.proofs.lemmas.Bool.{false_from_ne_true, or_right, and_from}
use Rattle.std.proofs.lemmas.Bool.Decides.{nat_tests}
use Rattle.std.proofs.lemmas.Fmt.{decimal_injective, decimal_is_IsNumeral}
use Rattle.std.proofs.lemmas.Slice.Eq.{bytes_eq-Decides}
use Rattle.std.proofs.lemmas.Str.Parse.{digit_from_value}
use Rattle.api_listing.specs.Listing.{own_class}
use Rattle.api_listing.specs.Words.{is_class_name, is_name_byte, is_name_start, is_segment, pieces}
use Rattle.bytecode_model.specs.Conditions.{holds}
use Rattle.bundle_gen.specs.Generated.{thread_name}

-- ---- digits

-- A number is written in digits.
are_digits : (index : ℕ) → index < 2 ^ 64 → AllDigits 10 (decimal index)
are_digits index few = (decimal_is_IsNumeral index few).0.1

-- Digits are letters of a name.
digits_name : (ds : List ℕ) → AllDigits 10 ds → list_all is_name_byte ds ≡ true
digits_name [] d = refl
digits_name (c ∷ cs) d =
    let range = digit_from_value c d.0 in
    let one : is_ascii_digit c ≡ true = grind (arith, nat_tests) in
    and_from (is_name_byte c) (list_all is_name_byte cs) (or_right (is_name_start c) (is_ascii_digit c) one) (digits_name cs d.1)

-- No `/` stands among digits.
digits_whole : (ds : List ℕ) → AllDigits 10 ds → pieces 47 ds ≡ ds ∷ []
digits_whole [] d = refl
digits_whole (c ∷ cs) d =
    let range = digit_from_value c d.0 in
    let other : (c == 47) ≡ false = grind (arith, nat_tests) in
    ap (λ (b : Bool). cond b ([] ∷ pieces 47 cs) (onto_first c (pieces 47 cs))) other ∙ ap (onto_first c) (digits_whole cs d.1)

-- Digits hold nothing of the name of this tool's own class.
digits_free : (ds : List ℕ) → AllDigits 10 ds → holds own_class ds ≡ false
digits_free [] d = refl
digits_free (c ∷ cs) d =
    let range = digit_from_value c d.0 in
    let other : nat_eq 99 c ≡ false = grind (arith, nat_tests) in
    rw (other, digits_free cs d.1) refl

-- ---- names

-- The name of a thread's class is a name of a class.
pub thread_is_name : (index : ℕ) → index < 2 ^ 64 → is_class_name (thread_name index) ≡ true
thread_is_name index few =
    let d = are_digits index few in
    ap (λ (ps : List (List ℕ)). list_all is_segment ((103 ∷ []) ∷ onto_first 67 ps)) (digits_whole (decimal index) d)
    ∙ ap (λ (b : Bool). b && true) (digits_name (decimal index) d)

-- It holds nothing of the name of this tool's own class.
pub thread_is_free : (index : ℕ) → index < 2 ^ 64 → holds own_class (thread_name index) ≡ false
thread_is_free index few = digits_free (decimal index) (are_digits index few)

-- A name is itself.
pub same_name : (name : List ℕ) → bytes_eq name name ≡ true
same_name name = (bytes_eq-Decides name name).1 refl

-- Threads' classes of different indices have different names.
pub threads_differ : (i j : ℕ) → i < j → j < 2 ^ 64 → bytes_eq (thread_name i) (thread_name j) ≡ false
threads_differ i j less few =
    false_from_ne_true (bytes_eq (decimal i) (decimal j)) (λ e.
    let same : i ≡ j = decimal_injective i j (omega arith) few ((bytes_eq-Decides (decimal i) (decimal j)).0 e) in
    omega arith)

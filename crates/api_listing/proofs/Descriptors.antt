-- Types that are read one after the other, as loops do.
use Rattle.std.proofs.Common.{◌≡◌, ℕ, suc, ◌+◌, ◌-◌, ◌<◌, ◌≤◌, true, false, List, [], ◌∷◌, ◌++◌, length, take, drop, get_or, Option, Some, None, Ok, Err, refl, sym, ap, ◌∙◌, append_assoc, arith, length-append}
use Rattle.std.specs.Prelude.{option_map}
use Rattle.std.proofs.lemmas.List.{take_all, append-nil}
use Rattle.std.proofs.lemmas.Bool.{ne_eqb}
use Rattle.mon_base.specs.Reading.{◌>>=◌}
use Rattle.api_listing.specs.declared.descriptor.Element.{Element}
use Rattle.api_listing.specs.declared.descriptor.FieldType.{FieldType}
use Rattle.api_listing.specs.declared.fault.FormFault.{FormFault}
use Rattle.api_listing.specs.declared.fault.FormFault.TheVariants.{NoForm, Memory}
use Rattle.mon_base.specs.Answer.{Fails}
use Rattle.api_listing.specs.Fault.{Read}
use Rattle.api_listing.specs.Descriptor.{deeper, type_at, element_at, arguments_at, is_closed, until}

-- a list that is not empty is its first number and the others
pub first_of_list : (xs : List ℕ) → 1 ≤ length xs → xs ≡ get_or xs 0 0 ∷ take (length xs - 1) (drop 1 xs)
first_of_list [] long = absurd (omega arith)
first_of_list (y ∷ ys) long =
    let all : take (length (y ∷ ys) - 1) ys ≡ ys = take_all (length (y ∷ ys) - 1) ys (omega arith) in
    rw all refl

-- ---- dimensions

abbrev pub deepened : ℕ → Read (FieldType × List ℕ) → Read (FieldType × List ℕ)
deepened n read = read >>= λ r. Ok (deeper n r)

deepened_more : (n : ℕ) (read : Read (FieldType × List ℕ)) → deepened n (read >>= λ r. Ok (deeper 1 r)) ≡ deepened (n + 1) read
deepened_more n (Err e) = refl
deepened_more n (Ok r) =
    let e : n + (1 + r.0.dimensions) ≡ (n + 1) + r.0.dimensions = omega arith in
    ap (λ (d : ℕ). Ok (record { dimensions = d; element = r.0.element }, r.1)) e

-- one dimension more
pub one_deeper : (n : ℕ) (left rest : List ℕ) (first : ℕ) (total : Read (FieldType × List ℕ)) → left ≡ first ∷ rest → first ≡ 91
    → deepened n (type_at left) ≡ total → deepened (n + 1) (type_at rest) ≡ total
unfolding type_at
one_deeper n left rest first total split bracket so_far =
    let step : deepened n (type_at left) ≡ deepened (n + 1) (type_at rest) = rw (split, bracket) (deepened_more n (type_at rest)) in
    sym step ∙ so_far

-- no dimension more
pub ends_flat : (n : ℕ) (left rest following : List ℕ) (first : ℕ) (element : Element) (total : Read (FieldType × List ℕ)) → left ≡ first ∷ rest → (first ≡ 91 → ⊥)
    → element_at first rest ≡ Ok (element, following) → deepened n (type_at left) ≡ total → total ≡ Ok (record { dimensions = n; element = element }, following)
unfolding type_at
ends_flat n left rest following first element total split other found so_far =
    let none : n + 0 ≡ n = omega arith in
    let step : deepened n (type_at left) ≡ Ok (record { dimensions = n + 0; element = element }, following) = rw (split, ne_eqb first 91 other, found) refl in
    sym so_far ∙ step ∙ ap (λ (d : ℕ). Ok (record { dimensions = d; element = element }, following)) none

pub no_type : (n : ℕ) (left rest : List ℕ) (first : ℕ) (e : FormFault) (total : Read (FieldType × List ℕ)) → left ≡ first ∷ rest → (first ≡ 91 → ⊥)
    → Fails Memory e (element_at first rest) → deepened n (type_at left) ≡ total → Fails Memory e total
unfolding type_at
no_type n left rest first e total split other failed so_far is_told =
    let step : deepened n (type_at left) ≡ Err e = rw (split, ne_eqb first 91 other, failed is_told) refl in
    sym so_far ∙ step

pub empty_type : (n : ℕ) (left : List ℕ) (total : Read (FieldType × List ℕ)) → length left < 1 → deepened n (type_at left) ≡ total → total ≡ Err NoForm
unfolding type_at
empty_type n [] total short so_far = sym so_far
empty_type n (x ∷ xs) total short so_far = absurd (omega arith)

-- ---- the next `;`

-- bytes before what was found
abbrev pub following : List ℕ → Option (List ℕ × List ℕ) → Option (List ℕ × List ℕ)
following front read = option_map (λ r. (front ++ r.0, r.1)) read

take_front : (front rest : List ℕ) (x : ℕ) → take (length front + 1) (front ++ x ∷ rest) ≡ front ++ x ∷ []
take_front [] rest x = refl
take_front (y ∷ ys) rest x =
    let n : length (y ∷ ys) + 1 ≡ suc (length ys + 1) = omega arith in
    rw n (ap (λ (t : List ℕ). y ∷ t) (take_front ys rest x))

after_more : (front : List ℕ) (x : ℕ) (read : Option (List ℕ × List ℕ)) → following front (option_map (λ r. (x ∷ r.0, r.1)) read) ≡ following (front ++ x ∷ []) read
after_more front x None = refl
after_more front x (Some r) = ap (λ (t : List ℕ). Some (t, r.1)) (sym (append_assoc front (x ∷ []) r.0))

pub record Passed (at : ℕ) (left bytes : List ℕ) (total : Option (List ℕ × List ℕ)) : Type 0 where
  pub found : following (take at bytes) (until 59 left) ≡ total
  pub whole : take at bytes ++ left ≡ bytes
  pub count : at + length left ≡ length bytes

pub passes : (at : ℕ) (left bytes rest : List ℕ) (first : ℕ) (total : Option (List ℕ × List ℕ)) → left ≡ first ∷ rest → (first ≡ 59 → ⊥) → Passed at left bytes total → Passed (at + 1) rest bytes total
passes at left bytes rest first total split other p =
    let front = take at bytes in
    let whole : front ++ first ∷ rest ≡ bytes = ap (λ (t : List ℕ). front ++ t) (sym split) ∙ p.whole in
    let long : length left ≡ length (first ∷ rest) = ap length split in
    let lengths : length front + length left ≡ length bytes = sym (length-append front left) ∙ ap length p.whole in
    let n : at + 1 ≡ length front + 1 = omega (arith, lengths, p.count) in
    let more : take (at + 1) bytes ≡ front ++ first ∷ [] = ap (λ (k : ℕ). take k bytes) n ∙ ap (take (length front + 1)) (sym whole) ∙ take_front front rest first in
    let step : following front (until 59 left) ≡ following (front ++ first ∷ []) (until 59 rest) = rw (split, ne_eqb first 59 other) (after_more front first (until 59 rest)) in
    record {
      found = rw more (sym step ∙ p.found);
      whole = rw more (append_assoc front (first ∷ []) rest ∙ whole);
      count = omega (arith, p.count, long);
    }

-- ---- arguments

-- what was read before, and what is still read
abbrev pub with_front : {X : Type 0} → List X → Read (List X × List ℕ) → Read (List X × List ℕ)
with_front front read = read >>= λ x. Ok (front ++ x.0, x.1)

regroup : {X : Type 0} (front : List X) (x : X) (read : Read (List X × List ℕ)) → with_front front (read >>= λ r. Ok (x ∷ r.0, r.1)) ≡ with_front (front ++ x ∷ []) read
regroup {X = X} front x (Ok r) = ap (λ (xs : List X). Ok (xs, r.1)) (sym (append_assoc front (x ∷ []) r.0))
regroup front x (Err e) = refl

pub goes_on : (front : List FieldType) (i : ℕ) (left next : List ℕ) (x : FieldType) (total : Read (List FieldType × List ℕ)) → i < 256 → is_closed left ≡ false → type_at left ≡ Ok (x, next)
    → with_front front (arguments_at (256 - i) left) ≡ total → with_front (front ++ x ∷ []) (arguments_at (256 - (i + 1)) next) ≡ total
unfolding arguments_at
goes_on front i left next x total lt unclosed found so_far =
    let k : 256 - i ≡ suc (256 - (i + 1)) = omega arith in
    let step : with_front front (arguments_at (256 - i) left) ≡ with_front (front ++ x ∷ []) (arguments_at (256 - (i + 1)) next) =
    rw (k, unclosed, found) (regroup front x (arguments_at (256 - (i + 1)) next)) in
    sym step ∙ so_far

pub ends : (front : List FieldType) (i : ℕ) (left : List ℕ) (e : FormFault) (total : Read (List FieldType × List ℕ)) → i < 256 → is_closed left ≡ false → Fails Memory e (type_at left)
    → with_front front (arguments_at (256 - i) left) ≡ total → Fails Memory e total
unfolding arguments_at
ends front i left e total lt unclosed failed so_far is_told =
    let k : 256 - i ≡ suc (256 - (i + 1)) = omega arith in
    let step : with_front front (arguments_at (256 - i) left) ≡ Err e = rw (k, unclosed, failed is_told) refl in
    sym so_far ∙ step

pub closes : (front : List FieldType) (i : ℕ) (left : List ℕ) (total : Read (List FieldType × List ℕ)) → i < 256 → is_closed left ≡ true
    → with_front front (arguments_at (256 - i) left) ≡ total → total ≡ Ok (front, drop 1 left)
unfolding arguments_at
closes front i left total lt closed so_far =
    let k : 256 - i ≡ suc (256 - (i + 1)) = omega arith in
    let step : with_front front (arguments_at (256 - i) left) ≡ Ok (front ++ [], drop 1 left) = rw (k, closed) refl in
    sym so_far ∙ step ∙ ap (λ (xs : List FieldType). Ok (xs, drop 1 left)) (append-nil front)

pub too_many : (front : List FieldType) (i : ℕ) (left : List ℕ) (total : Read (List FieldType × List ℕ)) → 256 ≤ i
    → with_front front (arguments_at (256 - i) left) ≡ total → total ≡ Err NoForm
unfolding arguments_at
too_many front i left total le so_far =
    let k : 256 - i ≡ 0 = omega arith in
    let step : with_front front (arguments_at (256 - i) left) ≡ Err NoForm = rw k refl in
    sym so_far ∙ step

pub no_front : {X : Type 0} (front : List X) (read : Read (List X × List ℕ)) → front ≡ [] → with_front front read ≡ read
no_front {X = X} front read none = ap (λ (xs : List X). with_front xs read) none ∙ same read where
  same : (r : Read (List X × List ℕ)) → with_front [] r ≡ r
  same (Ok r) = refl
  same (Err e) = refl

pub rest_all : (xs : List ℕ) → take (length xs - 1) (drop 1 xs) ≡ drop 1 xs
rest_all [] = refl
rest_all (y ∷ ys) = take_all (length (y ∷ ys) - 1) ys (omega arith)

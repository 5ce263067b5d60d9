-- Entries are found in the order of the map just where they are equal, and what is added by its number.
use Rattle.std.proofs.Common.{◌≡◌, ℕ, ◌+◌, ◌<◌, ◌≤◌, Bool, true, false, not, cond, List, [], ◌∷◌, ◌++◌, length, map, Option, Some, None, refl, sym, ap, ap₂, subst, ◌∙◌, ◌&&◌, ◌||◌, append_assoc, arith}
use Rattle.std.specs.declared.cmp.Ordering.{Ordering}
use Rattle.std.specs.declared.cmp.Ordering.TheVariants.{Less, Equal, Greater}
use Rattle.std.specs.Ordering.{is_eq, nat_cmp, ordering_then}
use Rattle.std.specs.Cmp.{unsigned_tied}
use Rattle.std.specs.BTreeMap.{BTreeMap}
use Rattle.std.specs.List.{list_any, position_from, position_or_len}
use Rattle.std.specs.Option.{option_or, is_some}
use Rattle.std.proofs.lemmas.List.{length-append, length-map, map-append}
use Rattle.std.proofs.lemmas.Map.Text.{is_eq-slice_cmp}
use Rattle.indexmap.specs.IndexSet.{insert_key}
use Rattle.mon_base.proofs.Lists.{position_below}
use Rattle.class_codec.specs.declared.tree.Const.{Const}
use Rattle.bytecode_model.proofs.Lists.{or_none}
use Rattle.bytecode_model.proofs.Placing.{test_cases, none_or}
use Rattle.offset_patch.specs.declared.constants.Added.{Added}
use Rattle.offset_patch.specs.declared.constants.Added.TheVariants.{Text, Class, NameAndType, Field, Method, Integer}
use Rattle.offset_patch.specs.declared.growth.Growth.{Growth}
use Rattle.offset_patch.specs.Added.{const_of, added_of, with_added, AreNamed, NamesBelow}
use Rattle.offset_patch.specs.Entries.{same, entry, placed, place_of}
use Rattle.offset_patch.specs.Growth.{added_cmp, added_eq, found_at, Finds, IsGrowth}
use Rattle.offset_patch.proofs.PoolFits.{each_on}
use Rattle.offset_patch.proofs.Lists.{all_append}
use Rattle.offset_patch.proofs.Same.{same_is, same_self}
use Rattle.offset_patch.proofs.Steady.{place_stays}

-- ---- the order of the map

pub then_is : (o p : Ordering) → is_eq (ordering_then o p) ≡ (is_eq o && is_eq p)
then_is Less p = refl
then_is Equal p = refl
then_is Greater p = refl

pub cmp_is : (a b : Added) → is_eq (added_cmp a b) ≡ same (const_of a) (const_of b)
cmp_is (Text a) (Text b) = is_eq-slice_cmp a b
cmp_is (Class a) (Class b) = unsigned_tied a b
cmp_is (NameAndType a m) (NameAndType b n) = then_is (nat_cmp a b) (nat_cmp m n) ∙ ap₂ ◌&&◌ (unsigned_tied a b) (unsigned_tied m n)
cmp_is (Field a m) (Field b n) = then_is (nat_cmp a b) (nat_cmp m n) ∙ ap₂ ◌&&◌ (unsigned_tied a b) (unsigned_tied m n)
cmp_is (Method a m) (Method b n) = then_is (nat_cmp a b) (nat_cmp m n) ∙ ap₂ ◌&&◌ (unsigned_tied a b) (unsigned_tied m n)
cmp_is (Integer a) (Integer b) = refl
cmp_is a b = refl

some_is : {X : Type 0} {x y : X} → Some x ≡ Some y → x ≡ y
some_is e = cc

is_added : (a : Added) → added_of (const_of a) ≡ Some a
is_added (Text bytes) = refl
is_added (Class name) = refl
is_added (NameAndType name desc) = refl
is_added (Field class member) = refl
is_added (Method class member) = refl
is_added (Integer n) = refl

-- constants of one value are one
one_is : (a b : Added) → same (const_of a) (const_of b) ≡ true → a ≡ b
one_is a b e = some_is (sym (is_added a) ∙ ap added_of (sym (same_is (const_of a) (const_of b) e)) ∙ is_added b)

turned : (a b : Added) → same (const_of a) (const_of b) ≡ true → same (const_of b) (const_of a) ≡ true
turned a b e = subst (λ (x : Added). same (const_of x) (const_of a) ≡ true) (one_is a b e) (same_self a)

alike : (x y : Bool) → (x ≡ true → y ≡ true) → (y ≡ true → x ≡ true) → x ≡ y
alike true y f g = sym (f refl)
alike false true f g = g refl
alike false false f g = refl

flips : (a b : Added) → same (const_of a) (const_of b) ≡ same (const_of b) (const_of a)
flips a b = alike (same (const_of a) (const_of b)) (same (const_of b) (const_of a)) (turned a b) (turned b a)

-- ---- what the map has

-- a constant that is new
pub adds_first : (old new : BTreeMap Added ℕ) (key : Added) (at : ℕ) → is_some (found_at old key) ≡ false
    → ((q : Added) → found_at new q ≡ cond (is_eq (added_cmp key q)) (Some at) (found_at old q))
    → (q : Added) → found_at new q ≡ option_or (found_at old q) (cond (same (const_of q) (const_of key)) (Some at) None)
adds_first old new key at absent puts q =
    puts q ∙ ap (λ (b : Bool). cond b (Some at) (found_at old q)) (cmp_is key q ∙ flips key q)
    ∙ test_cases (same (const_of q) (const_of key)) (λ b. cond b (Some at) (found_at old q) ≡ option_or (found_at old q) (cond b (Some at) None))
    (λ e. none_or (found_at old q) (Some at) (subst (λ (k : Added). is_some (found_at old k) ≡ false) (sym (one_is q key e)) absent))
    (λ e. sym (or_none (found_at old q)))

-- ---- one that stands in the pool

added_count : (pool : List Const) (added : List Added) → length (with_added pool added) ≡ length pool + length added
added_count pool added = length-append pool (map const_of added) ∙ ap (λ (n : ℕ). length pool + n) (length-map added const_of)

pub found_below : (pool : List Const) (growth : Growth) (wanted : Added) (at : ℕ) → IsGrowth pool growth → Some at ≡ found_at growth.places wanted → at < length pool + length growth.added.keys
found_below pool growth wanted at good e =
    let within = position_below (same (const_of wanted)) 0 pool at (sym (good.placed wanted) ∙ sym e) in
    omega (arith, within)

pub found_there : (pool : List Const) (growth : Growth) (wanted : Added) (at : ℕ) → IsGrowth pool growth → Some at ≡ found_at growth.places wanted → Finds (entry (const_of wanted)) pool growth growth at
found_there pool growth wanted at good e =
    let more = map const_of growth.added.keys in
    ap (placed (pool ++ more) (const_of wanted)) (place_stays (same (const_of wanted)) 0 pool more at (sym (good.placed wanted) ∙ sym e))

-- ---- the number of one that is added

eq_is : (a b : Added) → added_eq a b ≡ same (const_of a) (const_of b)
eq_is (Text a) (Text b) = refl
eq_is (Class a) (Class b) = refl
eq_is (NameAndType a m) (NameAndType b n) = refl
eq_is (Field a m) (Field b n) = refl
eq_is (Method a m) (Method b n) = refl
eq_is (Integer a) (Integer b) = refl
eq_is a b = refl

-- what none passed is looked for in what follows
later : {X : Type 0} (p : X → Bool) (at : ℕ) (xs ys : List X) → position_from p at xs ≡ None → position_from p at (xs ++ ys) ≡ position_from p (at + length xs) ys
later p at [] ys e =
    let n : at ≡ at + 0 = omega arith in
    ap (λ (k : ℕ). position_from p k ys) n
later p at (x ∷ xs) ys e = by (p x) (later p (at + 1) xs ys) e
  where
    by : (b : Bool) → (position_from p (at + 1) xs ≡ None → position_from p (at + 1) (xs ++ ys) ≡ position_from p (at + 1 + length xs) ys)
        → cond b (Some at) (position_from p (at + 1) xs) ≡ None → cond b (Some at) (position_from p (at + 1) (xs ++ ys)) ≡ position_from p (at + length (x ∷ xs)) ys
    by true others f = absurd cc
    by false others f =
        let n : at + 1 + length xs ≡ at + length (x ∷ xs) = omega arith in
        others f ∙ ap (λ (k : ℕ). position_from p k ys) n

-- the constants are gone over by what the set holds
by_keys : (wanted : Added) (at : ℕ) (keys : List Added) → position_from (same (const_of wanted)) at (map const_of keys) ≡ position_from (added_eq wanted) at keys
by_keys wanted at [] = refl
by_keys wanted at (k ∷ keys) = ap₂ (λ (b : Bool) (o : Option ℕ). cond b (Some at) o) (sym (eq_is wanted k)) (by_keys wanted (at + 1) keys)

-- a list in which none or one passes
numbered : {X : Type 0} (p : X → Bool) (at : ℕ) (xs : List X) → position_from p at xs ≡ cond (list_any p xs) (Some (at + position_or_len p xs)) None
numbered p at [] = refl
numbered p at (x ∷ xs) = by (p x) (numbered p (at + 1) xs)
  where
    by : (b : Bool) → position_from p (at + 1) xs ≡ cond (list_any p xs) (Some (at + 1 + position_or_len p xs)) None
        → cond b (Some at) (position_from p (at + 1) xs) ≡ cond (b || list_any p xs) (Some (at + cond (not b) (1 + position_or_len p xs) 0)) None
    by true others =
        let n : at ≡ at + 0 = omega arith in
        ap Some n
    by false others =
        let n : at + 1 + position_or_len p xs ≡ at + (1 + position_or_len p xs) = omega arith in
        others ∙ ap (λ (k : ℕ). cond (list_any p xs) (Some k) None) n

last_of : {X : Type 0} (p : X → Bool) (xs : List X) → list_any p xs ≡ false → position_or_len p xs ≡ length xs
last_of p [] e = refl
last_of p (x ∷ xs) e = by (p x) (last_of p xs) e
  where
    by : (b : Bool) → (list_any p xs ≡ false → position_or_len p xs ≡ length xs) → (b || list_any p xs) ≡ false → cond (not b) (1 + position_or_len p xs) 0 ≡ length (x ∷ xs)
    by true others f = absurd cc
    by false others f =
        let n : 1 + position_or_len p xs ≡ length (x ∷ xs) = omega (arith, others f) in
        n

first_below : {X : Type 0} (p : X → Bool) (xs : List X) → list_any p xs ≡ true → position_or_len p xs < length xs
first_below p [] e = absurd cc
first_below p (x ∷ xs) e = by (p x) (first_below p xs) e
  where
    by : (b : Bool) → (list_any p xs ≡ true → position_or_len p xs < length xs) → (b || list_any p xs) ≡ true → cond (not b) (1 + position_or_len p xs) 0 < length (x ∷ xs)
    by true others f = omega arith
    by false others f = omega (arith, others f)

-- where one stands that is not in the pool
place_after : (pool : List Const) (keys : List Added) (wanted : Added) → place_of (const_of wanted) pool ≡ None
    → place_of (const_of wanted) (with_added pool keys) ≡ cond (list_any (added_eq wanted) keys) (Some (length pool + position_or_len (added_eq wanted) keys)) None
place_after pool keys wanted none =
    let n : 0 + length pool ≡ length pool = omega arith in
    later (same (const_of wanted)) 0 pool (map const_of keys) none ∙ ap (λ (k : ℕ). position_from (same (const_of wanted)) k (map const_of keys)) n ∙ by_keys wanted (length pool) keys
    ∙ numbered (added_eq wanted) (length pool) keys

pushed : (pool : List Const) (keys : List Added) (wanted : Added) → with_added pool (keys ++ wanted ∷ []) ≡ with_added pool keys ++ const_of wanted ∷ []
pushed pool keys wanted =
    ap (λ (xs : List Const). pool ++ xs) (map-append const_of keys (wanted ∷ [])) ∙ sym (append_assoc pool (map const_of keys) (const_of wanted ∷ []))

-- one that is not in the pool is found by its number
finds_number : (pool : List Const) (keys : List Added) (wanted : Added) → place_of (const_of wanted) pool ≡ None
    → entry (const_of wanted) (with_added pool keys) ≡ (with_added pool (insert_key added_eq keys wanted), length pool + position_or_len (added_eq wanted) keys)
finds_number pool keys wanted none = ap (placed (with_added pool keys) (const_of wanted)) (place_after pool keys wanted none) ∙ by (list_any (added_eq wanted) keys) refl
  where
    by : (b : Bool) → list_any (added_eq wanted) keys ≡ b
        → placed (with_added pool keys) (const_of wanted) (cond b (Some (length pool + position_or_len (added_eq wanted) keys)) None)
        ≡ (with_added pool (cond b keys (keys ++ wanted ∷ [])), length pool + position_or_len (added_eq wanted) keys)
    by true e = refl
    by false e =
        let last : length (with_added pool keys) ≡ length pool + position_or_len (added_eq wanted) keys =
        added_count pool keys ∙ ap (λ (n : ℕ). length pool + n) (sym (last_of (added_eq wanted) keys e)) in
        ap₂ (λ (p : List Const) (n : ℕ). (p, n)) (sym (pushed pool keys wanted)) last

-- ---- what is added names what stands before

names_more : (n m : ℕ) → n ≤ m → (a : Added) → NamesBelow n a → NamesBelow m a
names_more n m less (Text bytes) h = tt
names_more n m less (Class name) h = omega (arith, h)
names_more n m less (NameAndType name desc) h = (omega (arith, h.0), omega (arith, h.1))
names_more n m less (Field class member) h = (omega (arith, h.0), omega (arith, h.1))
names_more n m less (Method class member) h = (omega (arith, h.0), omega (arith, h.1))
names_more n m less (Integer value) h = tt

-- the set with the constant
keys_more : (pool : List Const) (keys : List Added) (wanted : Added) → AreNamed pool keys → NamesBelow (length pool + length keys) wanted → AreNamed pool (insert_key added_eq keys wanted)
keys_more pool keys wanted all below = by (list_any (added_eq wanted) keys)
  where
    by : (b : Bool) → AreNamed pool (cond b keys (keys ++ wanted ∷ []))
    by true = all
    by false =
        let before = length pool + length keys in
        let after = length pool + length (keys ++ wanted ∷ []) in
        let goes : before ≤ after = omega (arith, length-append keys (wanted ∷ [])) in
        all_append (NamesBelow after) keys (wanted ∷ []) (each_on (NamesBelow before) (NamesBelow after) (names_more before after goes) keys all) (names_more before after goes wanted below, tt)

number_below : (keys : List Added) (wanted : Added) → position_or_len (added_eq wanted) keys < length (insert_key added_eq keys wanted)
number_below keys wanted = by (list_any (added_eq wanted) keys) refl
  where
    by : (b : Bool) → list_any (added_eq wanted) keys ≡ b → position_or_len (added_eq wanted) keys < length (cond b keys (keys ++ wanted ∷ []))
    by true e = first_below (added_eq wanted) keys e
    by false e = omega (arith, last_of (added_eq wanted) keys e, length-append keys (wanted ∷ []))

-- ---- the set takes one constant

module _ (pool : List Const) (keys new : List Added) (wanted : Added) (is : new ≡ insert_key added_eq keys wanted) where
  pub found_number : (index : ℕ) → place_of (const_of wanted) pool ≡ None → index ≡ position_or_len (added_eq wanted) keys
      → entry (const_of wanted) (with_added pool keys) ≡ (with_added pool new, length pool + index)
  found_number index none number =
      finds_number pool keys wanted none ∙ ap₂ (λ (ks : List Added) (n : ℕ). (with_added pool ks, length pool + n)) (sym is) (sym number)

  pub named_more : AreNamed pool keys → NamesBelow (length pool + length keys) wanted → AreNamed pool new
  named_more all below = subst (AreNamed pool) (sym is) (keys_more pool keys wanted all below)

  pub number_fits : (index : ℕ) → index ≡ position_or_len (added_eq wanted) keys → length pool + index < length pool + length new
  number_fits index number = omega (arith, number, number_below keys wanted, ap length is)

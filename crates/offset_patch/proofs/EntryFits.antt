-- Entries that blocks name can be encoded in the pool to which they were added, if it is not too long.
use Rattle.std.proofs.Common.{◌≡◌, cond, ℕ, zero, suc, ◌+◌, ◌<◌, ◌≤◌, ◌^◌, Bool, true, false, List, [], ◌∷◌, ◌++◌, length, map, Option, Some, None, refl, sym, ap, subst, ◌∙◌, append_assoc, append-nil, arith}
use Rattle.std.specs.Prelude.{slice_get, slice_index, nat_lt, ◌&&◌, codes}
use Rattle.std.specs.List.{AllByRecursion, list_all, position_from}
use Rattle.std.proofs.lemmas.Bool.Decides.{nat_tests}
use Rattle.std.proofs.lemmas.List.{length-append}
use Rattle.std.proofs.lemmas.Fmt.{length-decimal-le, decimal_digit, decimal-digits_of, IsAscii-decimal}
use Rattle.std.specs.Fmt.{decimal}
use Rattle.std.specs.Int.Digits.{digits_of}
use Rattle.std.specs.Str.{IsAscii}
use Rattle.std.proofs.lemmas.Option.{slice_get_within}
use Rattle.class_codec.specs.declared.pool.ConstKind.{ConstKind}
use Rattle.class_codec.specs.declared.pool.ConstKind.TheVariants as kinds
use Rattle.class_codec.specs.declared.tree.Const.{Const}
use Rattle.class_codec.specs.declared.tree.Const.TheVariants as constants
use Rattle.class_codec.specs.Pool.{is_of, is_one_of, names}
use Rattle.class_codec.specs.Fits.{IsTextByte, FitsConst, is_second, takes_two, HasSeconds, IsNamed, FitsPool}
use Rattle.offset_patch.specs.declared.block.PoolWant.{PoolWant}
use Rattle.offset_patch.specs.declared.block.PoolWant.TheVariants as wants
use Rattle.bytecode_model.specs.declared.members.MemberKind.{MemberKind}
use Rattle.bytecode_model.specs.declared.members.MemberKind.TheVariants as members
use Rattle.offset_patch.specs.Entries.{same, Placed, placed, place_of, entry, text, class, name_and_type, member, state_name, variable_name, variable_type, wanted, with_wants}
use Rattle.offset_patch.specs.Fits.{IsWant}
use Rattle.offset_patch.proofs.Lists.{all_append}
use Rattle.offset_patch.proofs.PoolFits.{names_on, named_on, each_on}
use Rattle.offset_patch.proofs.Same.{same_is}
use Rattle.offset_patch.proofs.Steady.{IsSteady, pair, steady_text, steady_class_at, steady_class, steady_name_and_type_at, steady_name_and_type, steady_field_at, steady_method_at, steady_wanted}
use Rattle.std.proofs.lemmas.Bool.{and_parts}

-- ---- texts

abbrev is_text_byte : ℕ → Bool
is_text_byte b = nat_lt 0 b && nat_lt b 240

-- each byte may stand in a text
pub text_bytes : (bytes : List ℕ) → list_all is_text_byte bytes ≡ true → AllByRecursion IsTextByte bytes
text_bytes [] e = tt
text_bytes (b ∷ bytes) e =
    let parts = and_parts (is_text_byte b) (list_all is_text_byte bytes) e in
    let ends = and_parts (nat_lt 0 b) (nat_lt b 240) parts.0 in
    let low = ends.0 in
    let high = ends.1 in
    ((grind (arith, nat_tests), grind (arith, nat_tests)), text_bytes bytes parts.1)

-- ---- one constant more

seconds_on : (second : Bool) (pool : List Const) (c : Const) → is_second c ≡ false → takes_two c ≡ false → HasSeconds second pool → HasSeconds second (pool ++ c ∷ [])
seconds_on second [] c one two h = (one ∙ sym h, two)
seconds_on second (x ∷ pool) c one two h = (h.0, seconds_on (takes_two x) pool c one two h.1)

pub record IsGood (pool : List Const) (c : Const) : Type 0 where
  pub fits : FitsConst c
  pub one : is_second c ≡ false
  pub narrow : takes_two c ≡ false
  pub named : IsNamed pool c

pushed_fits : (pool : List Const) (c : Const) → FitsPool pool → IsGood pool c → length (pool ++ c ∷ []) ≤ 65535 → FitsPool (pool ++ c ∷ [])
pushed_fits pool c p g short = record {
  count = omega arith;
  each = all_append FitsConst pool (c ∷ []) p.each (g.fits, tt);
  seconds = seconds_on true pool c g.one g.narrow p.seconds;
  named = all_append (IsNamed (pool ++ c ∷ [])) pool (c ∷ []) (each_on (IsNamed pool) (IsNamed (pool ++ c ∷ [])) (named_on pool (c ∷ [])) pool p.named) (named_on pool (c ∷ []) c g.named, tt);
}

entry_fits : (pool : List Const) (c : Const) → FitsPool pool → IsGood pool c → length (entry c pool).0 ≤ 65535 → FitsPool (entry c pool).0
entry_fits pool c p g short = by (place_of c pool) short
  where
    by : (o : Option ℕ) → length (placed pool c o).0 ≤ 65535 → FitsPool (placed pool c o).0
    by None s = pushed_fits pool c p g s
    by (Some i) s = p

-- ---- what an entry's place names

pub get_last : {X : Type 0} (xs : List X) (x : X) → slice_get (xs ++ x ∷ []) (length xs) ≡ Some x
get_last [] x = refl
get_last (y ∷ xs) x = get_last xs x

pub place_found : {X : Type 0} (p : X → Bool) (at : ℕ) (xs : List X) (i : ℕ) → position_from p at xs ≡ Some i → (k : ℕ) × (x : X) × ((i ≡ at + k) × (slice_get xs k ≡ Some x) × (p x ≡ true))
place_found {X = X} p at [] i e = absurd cc
place_found {X = X} p at (x ∷ xs) i e = by (p x) refl (place_found p (at + 1) xs i) e
  where
    by : (b : Bool) → p x ≡ b → (position_from p (at + 1) xs ≡ Some i → (k : ℕ) × (y : X) × ((i ≡ at + 1 + k) × (slice_get xs k ≡ Some y) × (p y ≡ true)))
        → cond b (Some at) (position_from p (at + 1) xs) ≡ Some i → (k : ℕ) × (y : X) × ((i ≡ at + k) × (slice_get (x ∷ xs) k ≡ Some y) × (p y ≡ true))
    by true passes others f =
        let here : at ≡ i = cc in
        (0, x, (omega arith, refl, passes))
    by false passes others f =
        let later = others f in
        (suc later.0, later.1, (omega (arith, later.2.0), later.2.1, later.2.2))

-- the constant is where it was put or found
pub entry_is : (c : Const) (pool : List Const) → slice_get (entry c pool).0 (entry c pool).1 ≡ Some c
entry_is c pool = by (place_of c pool) refl
  where
    by : (o : Option ℕ) → place_of c pool ≡ o → slice_get (placed pool c o).0 (placed pool c o).1 ≡ Some c
    by None e = get_last pool c
    by (Some i) e =
        let found = place_found (same c) 0 pool i e in
        let at : i ≡ found.0 = omega (arith, found.2.0) in
        ap (λ (k : ℕ). slice_get pool k) at ∙ found.2.1 ∙ ap Some (same_is c found.1 found.2.2)

entry_named : (kind : ConstKind) (c : Const) → is_of kind c ≡ true → (pool : List Const) → names kind (entry c pool).0 (entry c pool).1 ≡ true
unfolding names
entry_named kind c own pool = ap (is_one_of kind) (entry_is c pool) ∙ own

within : (kind : ConstKind) (pool : List Const) (i : ℕ) → names kind pool i ≡ true → i < length pool
unfolding names
within kind pool i e = by (slice_get pool i) refl e
  where
    by : (o : Option Const) → slice_get pool i ≡ o → is_one_of kind o ≡ true → i < length pool
    by None n f = absurd cc
    by (Some x) n f = slice_get_within pool i x n

-- ---- the entries

pub record IsText (bytes : List ℕ) : Type 0 where
  pub few : length bytes < 2 ^ 16
  pub each : AllByRecursion IsTextByte bytes

longer : (f : List Const → Placed) → IsSteady f → (pool : List Const) → length pool ≤ length (f pool).0
longer f steady pool =
    let more = steady.grows pool in
    omega (arith, ap length more.1, length-append pool more.0)

kept : (kind : ConstKind) (f : List Const → Placed) → IsSteady f → (pool : List Const) (i : ℕ) → names kind pool i ≡ true → names kind (f pool).0 i ≡ true
kept kind f steady pool i e =
    let more = steady.grows pool in
    subst (λ (p : List Const). names kind p i ≡ true) (sym more.1) (names_on kind pool more.0 i e)

-- After a step the pool can be encoded, if it is not too long.
abbrev KeepsFit : (List Const → Placed) → Type 0
KeepsFit f = (pool : List Const) → FitsPool pool → length (f pool).0 ≤ 65535 → FitsPool (f pool).0

-- A step that finds an entry of this kind.
record Finds (kind : ConstKind) (f : List Const → Placed) : Type 0 where
  steady : IsSteady f
  named : (pool : List Const) → names kind (f pool).0 (f pool).1 ≡ true
  fits : KeepsFit f

text_finds : (bytes : List ℕ) → IsText bytes → Finds kinds.Utf8 (text bytes)
text_finds bytes t = record {
  steady = steady_text bytes;
  named = entry_named kinds.Utf8 (constants.Utf8 bytes) refl;
  fits = λ pool p short. entry_fits pool (constants.Utf8 bytes) p (record { fits = (t.few, t.each); one = refl; narrow = refl; named = tt }) short;
}

class_finds : (name : List ℕ) → IsText name → Finds kinds.Class (class name)
class_finds name t = record {
  steady = steady_class name;
  named = λ pool. entry_named kinds.Class (constants.Class (text name pool).1) refl (text name pool).0;
  fits = fits;
}
  where
    fits : KeepsFit (class name)
    fits pool p short =
        let one = text name pool in
        let less = longer (entry (constants.Class one.1)) (steady_class_at one.1) one.0 in
        let first = (text_finds name t).fits pool p (omega arith) in
        let told = (text_finds name t).named pool in
        let few = within kinds.Utf8 one.0 one.1 told in
        entry_fits one.0 (constants.Class one.1) first (record { fits = omega arith; one = refl; narrow = refl; named = told }) short

-- an entry that names what two steps find, one after the other
module _ (first second : ConstKind) (make : ℕ → ℕ → Const) (steady : (i j : ℕ) → IsSteady (entry (make i j)))
    (good : (pool : List Const) (i j : ℕ) → i < 2 ^ 16 → j < 2 ^ 16 → names first pool i ≡ true → names second pool j ≡ true → IsGood pool (make i j)) where
  pair_fits : (f g : List Const → Placed) → Finds first f → Finds second g → KeepsFit (pair make f g)
  pair_fits f g h k pool p short =
      let one = f pool in
      let two = g one.0 in
      let last = make one.1 two.1 in
      let less2 = longer (entry last) (steady one.1 two.1) two.0 in
      let less1 = longer g k.steady one.0 in
      let fits1 = h.fits pool p (omega arith) in
      let fits2 = k.fits one.0 fits1 (omega arith) in
      let told1 = kept first g k.steady one.0 one.1 (h.named pool) in
      let told2 = k.named one.0 in
      let few1 = within first two.0 one.1 told1 in
      let few2 = within second two.0 two.1 told2 in
      entry_fits two.0 last fits2 (good two.0 one.1 two.1 (omega arith) (omega arith) told1 told2) short

named_finds : (name desc : List ℕ) → IsText name → IsText desc → Finds kinds.NameAndType (name_and_type name desc)
named_finds name desc t u = record {
  steady = steady_name_and_type name desc;
  named = λ pool.
      let two = text desc (text name pool).0 in
      entry_named kinds.NameAndType (constants.NameAndType (text name pool).1 two.1) refl two.0;
  fits = pair_fits kinds.Utf8 kinds.Utf8 constants.NameAndType steady_name_and_type_at
      (λ pool i j few few2 told told2. record { fits = (few, few2); one = refl; narrow = refl; named = (told, told2) }) (text name) (text desc) (text_finds name t) (text_finds desc u);
}

member_fits : (kind : MemberKind) (owner name desc : List ℕ) → IsText owner → IsText name → IsText desc → KeepsFit (member kind owner name desc)
member_fits members.Field owner name desc s t u =
    pair_fits kinds.Class kinds.NameAndType constants.Field steady_field_at
    (λ pool i j few few2 told told2. record { fits = (few, few2); one = refl; narrow = refl; named = (told, told2) }) (class owner) (name_and_type name desc) (class_finds owner s) (named_finds name desc t u)
member_fits members.Method owner name desc s t u =
    pair_fits kinds.Class kinds.NameAndType constants.Method steady_method_at
    (λ pool i j few few2 told told2. record { fits = (few, few2); one = refl; narrow = refl; named = (told, told2) }) (class owner) (name_and_type name desc) (class_finds owner s) (named_finds name desc t u)

-- ---- what blocks name

known : (bytes : List ℕ) → length bytes < 2 ^ 16 → list_all is_text_byte bytes ≡ true → IsText bytes
known bytes few e = record { few = few; each = text_bytes bytes e }

shown : (ds : List ℕ) → ((i : ℕ) → slice_index (map (λ (d : ℕ). 48 + d) ds) i < 128) → AllByRecursion IsTextByte (map (λ (d : ℕ). 48 + d) ds)
shown [] h = tt
shown (d ∷ ds) h =
    let low = h 0 in
    ((omega arith, omega (arith, low)), shown ds (λ i. h (suc i)))

decimal_text : (n : ℕ) → n < 2 ^ 32 → AllByRecursion IsTextByte (decimal n)
decimal_text zero few =
    let Texts : List ℕ → Type 0 = AllByRecursion IsTextByte in
    subst Texts (sym (decimal_digit 0 (omega arith))) ((omega arith, omega arith), tt)
decimal_text (suc n) few =
    let Texts : List ℕ → Type 0 = AllByRecursion IsTextByte in
    let is : decimal (suc n) ≡ map (λ (d : ℕ). 48 + d) (digits_of 10 (suc n)) = decimal-digits_of (suc n) (omega arith) (omega arith) in
    let ascii : IsAscii (decimal (suc n)) = IsAscii-decimal (suc n) (omega arith) in
    subst Texts (sym is) (shown (digits_of 10 (suc n)) (subst IsAscii is ascii))

-- the name of a variable can be encoded
pub variable_text : (n : ℕ) → n < 2 ^ 32 → IsText (variable_name n)
variable_text n few =
    let len = length-decimal-le 10 n (omega arith) (omega arith) (omega arith) in
    record { few = omega (arith, len); each = ((omega arith, omega arith), decimal_text n few) }

type_text : (is_bool : Bool) → IsText (variable_type is_bool)
type_text true = known (codes "Z") (omega arith) refl
type_text false = known (codes "I") (omega arith) refl

-- ---- what blocks want

state_text : IsText state_name
state_text = known state_name (omega arith) refl

wanted_fits : (want : PoolWant) → IsWant want → KeepsFit (wanted want)
wanted_fits wants.StateClass w = (class_finds state_name state_text).fits
wanted_fits (wants.StateField var is_bool) w = member_fits members.Field state_name (variable_name var) (variable_type is_bool) state_text (variable_text var w) (type_text is_bool)
wanted_fits wants.Exit w =
    member_fits members.Method (codes "java/lang/System") (codes "exit") (codes "(I)V") (known (codes "java/lang/System") (omega arith) refl) (known (codes "exit") (omega arith) refl)
    (known (codes "(I)V") (omega arith) refl)
wanted_fits (wants.Integer n) w = λ pool p short. entry_fits pool (constants.Integer n) p (record { fits = w; one = refl; narrow = refl; named = tt }) short

-- wants only add after
pub wants_grow : (wants : List PoolWant) (pool : List Const) → (more : List Const) × (with_wants pool wants ≡ pool ++ more)
wants_grow [] pool = ([], sym (append-nil pool))
wants_grow (want ∷ others) pool =
    let one = (steady_wanted want).grows pool in
    let rest = wants_grow others (wanted want pool).0 in
    (one.0 ++ rest.0, rest.1 ∙ ap (λ (p : List Const). p ++ rest.0) one.1 ∙ append_assoc pool one.0 rest.0)

pub wants_fit : (wants : List PoolWant) → AllByRecursion IsWant wants → (pool : List Const) → FitsPool pool → length (with_wants pool wants) ≤ 65535 → FitsPool (with_wants pool wants)
wants_fit [] w pool p short = p
wants_fit (want ∷ others) w pool p short =
    let rest = wants_grow others (wanted want pool).0 in
    let less : length (wanted want pool).0 ≤ 65535 = omega (arith, ap length rest.1, length-append (wanted want pool).0 rest.0) in
    wants_fit others w.1 (wanted want pool).0 (wanted_fits want w.0 pool p less) short

-- ---- places

pub entry_few : (c : Const) (pool : List Const) → (entry c pool).1 < length (entry c pool).0
entry_few c pool = slice_get_within (entry c pool).0 (entry c pool).1 c (entry_is c pool)

-- an entry stands within the pool
pub place_few : (want : PoolWant) (pool : List Const) → (wanted want pool).1 < length (wanted want pool).0
place_few wants.StateClass pool = entry_few (constants.Class (text (codes "conspec/State") pool).1) (text (codes "conspec/State") pool).0
place_few (wants.StateField var is_bool) pool =
    let one = class state_name pool in
    let two = name_and_type (variable_name var) (variable_type is_bool) one.0 in
    entry_few (constants.Field one.1 two.1) two.0
place_few (wants.Integer n) pool = entry_few (constants.Integer n) pool
place_few wants.Exit pool =
    let one = class (codes "java/lang/System") pool in
    let two = name_and_type (codes "exit") (codes "(I)V") one.0 in
    entry_few (constants.Method one.1 two.1) two.0

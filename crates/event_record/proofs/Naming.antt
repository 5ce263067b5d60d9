-- The names of a listing in a set and a map.
use Rattle.std.proofs.Common.{◌≡◌, ℕ, ◌+◌, ◌-◌, ◌<◌, ◌≤◌, Bool, true, false, cond, ◌&&◌, ◌||◌, List, [], ◌∷◌, length, get_or, take, drop, Option, Some, None, refl, sym, ap, subst, ◌∙◌, ap₂, Bor, arith}
use Rattle.std.specs.Prelude.{bytes_eq}
use Rattle.std.specs.List.{position_from}
use Rattle.std.specs.Option.{option_or, is_some}
use Rattle.std.specs.Ordering.{is_eq, nat_cmp, ordering_then}
use Rattle.std.specs.declared.cmp.Ordering.{Ordering}
use Rattle.std.specs.declared.cmp.Ordering.TheVariants.{Less, Equal, Greater}
use Rattle.std.specs.Cmp.Lexicographic.{slice_cmp}
use Rattle.std.specs.BTreeMap.{BTreeMap}
use Rattle.std.proofs.lemmas.Bool.{false≢true}
use Rattle.std.proofs.lemmas.List.{take_all}
use Rattle.std.proofs.lemmas.List.Folds.{list_any_more}
use Rattle.std.proofs.lemmas.Map.Text.{is_eq-slice_cmp}
use Rattle.std.proofs.lemmas.Slice.Eq.{bytes_eq-Decides}
use Rattle.std.proofs.lemmas.Bool.Decides.{Decides-and}
use Rattle.mon_base.specs.declared.method.MethodId.{MethodId}
use Rattle.api_listing.specs.declared.types.ListedClass.{ListedClass}
use Rattle.api_listing.specs.declared.types.ListedMethod.{ListedMethod}
use Rattle.api_listing.specs.BuiltIn.{is_method}
use Rattle.api_listing.specs.Listing.{is_known}
use Rattle.api_listing.specs.Seen.{id_cmp}
use Rattle.std.proofs.Math.Path.{fun_ext}
use Rattle.api_listing.specs.declared.types.Listing.{Listing}
use Rattle.event_record.specs.declared.names.MethodName.{MethodName}
use Rattle.event_record.specs.declared.names.Names.{Names}
use Rattle.event_record.specs.Library.{AddsFirst, AreNames, Library, id_in, library_in, library_of, place_listed}

-- ---- lists

pub front_is : {X : Type 0} (xs : List X) (x : X) → 1 ≤ length xs → x ≡ get_or xs 0 x → xs ≡ x ∷ take (length xs - 1) (drop 1 xs)
front_is [] x long e = absurd (omega arith)
front_is (y ∷ ys) x long e =
    let all : take (length (y ∷ ys) - 1) ys ≡ ys = take_all (length (y ∷ ys) - 1) ys (omega arith) in
    rw (e, all) refl

pub none_left : {X : Type 0} (xs : List X) → length xs < 1 → xs ≡ []
none_left [] short = refl
none_left (x ∷ xs) short = absurd (omega arith)

pub rest_length : {X : Type 0} (xs : List X) (x : X) (rest : List X) → xs ≡ x ∷ rest → length xs ≡ length rest + 1
rest_length xs x rest e = omega (arith, ap length e)

pub cond_or : (a b : Bool) → cond a true b ≡ (a || b)
cond_or true b = refl
cond_or false b = refl

or_swap : (a b : Bool) → (a || b) ≡ (b || a)
or_swap true true = refl
or_swap true false = refl
or_swap false true = refl
or_swap false false = refl

-- one class more
pub known_more : (classes : List ListedClass) (i : ℕ) (c : ListedClass) (q : List ℕ) → i < length classes → c ≡ get_or classes i c
    → (bytes_eq c.name q || is_known (take i classes) q) ≡ is_known (take (i + 1) classes) q
known_more classes i c q lt is =
    or_swap (bytes_eq c.name q) (is_known (take i classes) q)
    ∙ ap (λ (x : ListedClass). is_known (take i classes) q || bytes_eq x.name q) is
    ∙ sym (list_any_more (λ (x : ListedClass). bytes_eq x.name q) classes i c lt)

-- ---- methods

then_is : (o p : Ordering) → is_eq (ordering_then o p) ≡ (is_eq o && is_eq p)
then_is Less p = refl
then_is Equal p = refl
then_is Greater p = refl

-- methods are equal in the order exactly where they are one
pub id_cmp-is : (a b : MethodId) → is_eq (id_cmp a b) ≡ is_method b.class b.name b.desc a
id_cmp-is a b =
    then_is (slice_cmp nat_cmp a.class b.class) (ordering_then (slice_cmp nat_cmp a.name b.name) (slice_cmp nat_cmp a.desc b.desc))
    ∙ ap₂ ◌&&◌ (is_eq-slice_cmp a.class b.class)
    (then_is (slice_cmp nat_cmp a.name b.name) (slice_cmp nat_cmp a.desc b.desc) ∙ ap₂ ◌&&◌ (is_eq-slice_cmp a.name b.name) (is_eq-slice_cmp a.desc b.desc))

pub same_id : (id q : MethodId) → is_method q.class q.name q.desc id ≡ true → id ≡ q
same_id id q t =
    let inner = Decides-and (bytes_eq id.name q.name) (bytes_eq id.desc q.desc) (bytes_eq-Decides id.name q.name) (bytes_eq-Decides id.desc q.desc) in
    let all = (Decides-and (bytes_eq id.class q.class) (bytes_eq id.name q.name && bytes_eq id.desc q.desc) (bytes_eq-Decides id.class q.class) inner).0 t in
    let made : List ℕ → List ℕ → List ℕ → MethodId = λ x y z. record { class = x; name = y; desc = z } in
    ap (λ x. made x id.name id.desc) all.0 ∙ ap (λ y. made q.class y id.desc) all.1.0 ∙ ap (λ z. made q.class q.name z) all.1.1

test_cases : (b : Bool) (P : Bool → Type 0) → (b ≡ true → P true) → (b ≡ false → P false) → P b
test_cases true P f g = f refl
test_cases false P f g = g refl

none_or : (o p : Option ℕ) → is_some o ≡ false → p ≡ option_or o p
none_or None p e = refl
none_or (Some x) p e = absurd (false≢true (sym e))

or_none : (o : Option ℕ) → option_or o None ≡ o
or_none None = refl
or_none (Some x) = refl

-- a name whose words are these
abbrev pub word_at : List ℕ → Bor (List ℕ)
word_at word = record { ref_ptr = (0, 0); now = word }

abbrev name_at : MethodId → MethodName
name_at id = record { class = word_at id.class; name = word_at id.name; desc = word_at id.desc }

-- a new name
adds : (old new : BTreeMap MethodName ℕ) (id : MethodId) (index : ℕ) → is_some (place_listed old id) ≡ false
    → ((q : MethodName) → place_listed new (id_in q) ≡ cond (is_eq (id_cmp id (id_in q))) (Some index) (place_listed old (id_in q))) → AddsFirst old new id index
adds old new id index absent puts = λ q.
    puts (name_at q) ∙ ap (λ b. cond b (Some index) (place_listed old q)) (id_cmp-is id q)
    ∙ test_cases (is_method q.class q.name q.desc id) (λ b. cond b (Some index) (place_listed old q) ≡ option_or (place_listed old q) (cond b (Some index) None))
    (λ e. none_or (place_listed old q) (Some index) (subst (λ (i : MethodId). is_some (place_listed old i) ≡ false) (same_id id q e) absent))
    (λ e. sym (or_none (place_listed old q)))

pub adds_name : (old new : BTreeMap MethodName ℕ) (name : MethodName) (id : MethodId) (index : ℕ) → id_in name ≡ id → is_some (place_listed old (id_in name)) ≡ false
    → ((q : MethodName) → place_listed new (id_in q) ≡ cond (is_eq (id_cmp (id_in name) (id_in q))) (Some index) (place_listed old (id_in q))) → AddsFirst old new id index
adds_name old new name id index same absent puts = subst (λ (i : MethodId). AddsFirst old new i index) same (adds old new (id_in name) index absent puts)

abbrev pub index_from : ℕ → List ListedMethod → MethodId → Option ℕ
index_from index methods q = position_from (λ (m : ListedMethod). is_method q.class q.name q.desc m.id) index methods

-- one method more
pub goes_on : (old new : BTreeMap MethodName ℕ) (m : ListedMethod) (rest left : List ListedMethod) (index : ℕ) (q : MethodId) (total : Option ℕ) → left ≡ m ∷ rest → AddsFirst old new m.id index
    → option_or (place_listed old q) (index_from index left q) ≡ total → option_or (place_listed new q) (index_from (index + 1) rest q) ≡ total
goes_on old new m rest left index q total split added before =
    ap (λ o. option_or o (index_from (index + 1) rest q)) (added q)
    ∙ by (is_method q.class q.name q.desc m.id) (place_listed old q)
    ∙ ap (λ (ms : List ListedMethod). option_or (place_listed old q) (index_from index ms q)) (sym split) ∙ before where
      by : (b : Bool) (o : Option ℕ) → option_or (option_or o (cond b (Some index) None)) (index_from (index + 1) rest q) ≡ option_or o (cond b (Some index) (index_from (index + 1) rest q))
      by true None = refl
      by true (Some x) = refl
      by false None = refl
      by false (Some x) = refl

pub is_done : (places : BTreeMap MethodName ℕ) (left : List ListedMethod) (index : ℕ) (q : MethodId) (total : Option ℕ) → left ≡ [] → option_or (place_listed places q) (index_from index left q) ≡ total → place_listed places q ≡ total
is_done places left index q total none e =
    sym (or_none (place_listed places q)) ∙ ap (λ (ms : List ListedMethod). option_or (place_listed places q) (index_from index ms q)) (sym none) ∙ e

-- what is found in the set and the map is what the listing has
pub same_library : (listing : Listing) (names : Names) → AreNames listing names → library_in names ≡ library_of listing
same_library listing names are =
    let made : (List ℕ → Bool) → (MethodId → Option ℕ) → Library = λ knows finds. record { knows = knows; finds = finds } in
    ap (λ knows. made knows (place_listed names.methods)) (fun_ext are.classes) ∙ ap (λ finds. made (is_known listing.classes) finds) (fun_ext are.methods)

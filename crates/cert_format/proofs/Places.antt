-- The places of names.
use Rattle.std.proofs.Common.{◌≡◌, ℕ, zero, suc, ◌+◌, ◌<◌, ◌≤◌, Bool, true, false, cond, ltb, List, [], ◌∷◌, ◌++◌, length, map, take, get_or, Option, Some, None, inl, inr, refl, sym, ap, subst, ◌∙◌, Bor, arith}
use Rattle.std.specs.Prelude.{bytes_eq, slice_index_or}
use Rattle.std.specs.BTreeMap.{BTreeMap, get_by}
use Rattle.std.specs.BTreeSet.{BTreeSet, contains_by}
use Rattle.std.specs.Ordering.{nat_cmp, is_eq}
use Rattle.std.specs.Cmp.Lexicographic.{slice_cmp}
use Rattle.std.proofs.lemmas.Map.Text.{is_eq-slice_cmp}
use Rattle.std.specs.List.{flat_map}
use Rattle.std.proofs.lemmas.Bool.{cases_lt, le-ltb, lt-ltb, ltb-true, ltb-false, false≢true}
use Rattle.std.proofs.lemmas.List.{length-append, take_all}
use Rattle.std.proofs.lemmas.Slice.Eq.{bytes_eq-Decides}
use Rattle.cert_format.specs.Names.{Name, name_index, with_name}
use Rattle.cert_format.specs.declared.index.Known.{Known}
use Rattle.cert_format.specs.Index.{found, stands, HasNames, HasPlaces, IsKnown, ArePlaced}
use Rattle.mon_base.specs.Widths.{u4}
use Rattle.cert_format.specs.Encoding.{encode_name, encode_names}

-- where the name stands it is found no later
pub place-le : (names : List Name) (i : ℕ) → i < length names → name_index names (get_or names i []) ≤ i
place-le [] i lt = absurd (omega arith)
place-le (first ∷ names) zero lt = rw ((bytes_eq-Decides first first).1 refl) (omega arith)
place-le (first ∷ names) (suc i) lt =
    let h = place-le names i (omega arith) in
    by (bytes_eq first (get_or names i [])) h where
      by : (b : Bool) → name_index names (get_or names i []) ≤ i → cond b 0 (suc (name_index names (get_or names i []))) ≤ suc i
      by true h = omega arith
      by false h = omega arith

-- what is found is the name
pub get_or-place : (names : List Name) (name : Name) → name_index names name < length names → get_or names (name_index names name) [] ≡ name
get_or-place [] name lt = absurd (omega arith)
get_or-place (first ∷ names) name lt = by (bytes_eq first name) refl lt (get_or-place names name) where
  by : (b : Bool) → bytes_eq first name ≡ b → cond b 0 (suc (name_index names name)) < suc (length names)
      → (name_index names name < length names → get_or names (name_index names name) [] ≡ name)
      → get_or (first ∷ names) (cond b 0 (suc (name_index names name))) [] ≡ name
  by true e lt later = (bytes_eq-Decides first name).0 e
  by false e lt later = later (omega arith)

pub place-within : (names : List Name) (name : Name) → name_index names name ≤ length names
place-within [] name = omega arith
place-within (x ∷ names) name = by (bytes_eq x name) (place-within names name) where
  by : (b : Bool) → name_index names name ≤ length names → cond b 0 (suc (name_index names name)) ≤ suc (length names)
  by true h = omega arith
  by false h = omega arith

-- what stands in the first names stands there in all
pub place-append : (a b : List Name) (name : Name) → name_index a name < length a → name_index (a ++ b) name ≡ name_index a name
place-append [] b name lt = absurd (omega arith)
place-append (x ∷ a) b name lt = by (bytes_eq x name) (place-append a b name) lt where
  by : (t : Bool) → (name_index a name < length a → name_index (a ++ b) name ≡ name_index a name)
      → cond t 0 (suc (name_index a name)) < suc (length a)
      → cond t 0 (suc (name_index (a ++ b) name)) ≡ cond t 0 (suc (name_index a name))
  by true h lt = refl
  by false h lt = ap suc (h (omega arith))

-- and what does not stand there stands among the others
pub place-past : (a b : List Name) (name : Name) → length a ≤ name_index a name → name_index (a ++ b) name ≡ length a + name_index b name
place-past [] b name le = omega arith
place-past (x ∷ a) b name le = by (bytes_eq x name) (place-past a b name) le where
  by : (t : Bool) → (length a ≤ name_index a name → name_index (a ++ b) name ≡ length a + name_index b name)
      → suc (length a) ≤ cond t 0 (suc (name_index a name))
      → cond t 0 (suc (name_index (a ++ b) name)) ≡ suc (length a) + name_index b name
  by true h le = absurd (omega arith)
  by false h le = let e = h (omega arith) in omega (arith, e)

pub place-own : (name : Name) (names : List Name) → name_index (name ∷ names) name ≡ 0
place-own name names = rw ((bytes_eq-Decides name name).1 refl) refl

-- ---- one name more

pub place-more : (names : List Name) (x name : Name)
    → name_index (names ++ x ∷ []) name ≡ cond (stands names name) (name_index names name) (cond (bytes_eq x name) (length names) (suc (length names)))
place-more names x name =
    elim (cases_lt (name_index names name) (length names)) [
      | inl lt ↦ rw (lt-ltb _ _ lt) (place-append names (x ∷ []) name lt)
      | inr le ↦ rw (le-ltb _ _ le) (place-past names (x ∷ []) name le ∙ by (bytes_eq x name))
    ] where
      by : (b : Bool) → length names + cond b 0 1 ≡ cond b (length names) (suc (length names))
      by true = omega arith
      by false = omega arith

pub stands-more : (names : List Name) (x name : Name) → stands (names ++ x ∷ []) name ≡ cond (bytes_eq x name) true (stands names name)
stands-more names x name =
    rw (place-more names x name) (by (stands names name) (bytes_eq x name) refl) where
      len : length (names ++ x ∷ []) ≡ suc (length names)
      len = length-append names (x ∷ []) ∙ omega arith

      by : (s b : Bool) → stands names name ≡ s
          → ltb (cond s (name_index names name) (cond b (length names) (suc (length names)))) (length (names ++ x ∷ [])) ≡ cond b true s
      by true true e = lt-ltb _ _ (let lt : name_index names name < length names = ltb-true _ _ e in omega (arith, lt, len))
      by true false e = lt-ltb _ _ (let lt : name_index names name < length names = ltb-true _ _ e in omega (arith, lt, len))
      by false true e = lt-ltb _ _ (omega (arith, len))
      by false false e = le-ltb _ _ (omega (arith, len))

-- the places, where the name is new
pub found-more : (names : List Name) (x name : Name) → stands names x ≡ false
    → found (names ++ x ∷ []) name ≡ cond (bytes_eq x name) (Some (length names)) (found names name)
found-more names x name new =
    by (bytes_eq x name) (stands names name) refl refl where
      by : (b s : Bool) → bytes_eq x name ≡ b → stands names name ≡ s
          → cond (stands (names ++ x ∷ []) name) (Some (name_index (names ++ x ∷ []) name)) None ≡ cond b (Some (length names)) (cond s (Some (name_index names name)) None)
      by true true e t = absurd (false≢true (sym new ∙ ap (stands names) ((bytes_eq-Decides x name).0 e) ∙ t))
      by true false e t = rw (stands-more names x name, place-more names x name, e, t) refl
      by false true e t = rw (stands-more names x name, place-more names x name, e, t) refl
      by false false e t = rw (stands-more names x name, e, t) refl

pub with-old : (names : List Name) (name : Name) → stands names name ≡ true → with_name names name ≡ names
with-old names name e = rw e refl

pub with-new : (names : List Name) (name : Name) → stands names name ≡ false → with_name names name ≡ names ++ name ∷ []
with-new names name e = rw e refl

-- ---- names after references

pub length-now : (names : List (Bor Name)) → length (map (λ name. name.now) names) ≡ length names
length-now [] = refl
length-now (x ∷ names) = ap suc (length-now names)

pub encoded-now : (encode : Name → List ℕ) (names : List (Bor Name)) → flat_map encode (map (λ name. name.now) names) ≡ flat_map (λ name. encode name.now) names
encoded-now encode [] = refl
encoded-now encode (x ∷ names) = ap (λ (t : List ℕ). encode x.now ++ t) (encoded-now encode names)

-- what the map of places answers
pub is_new : (names : List Name) (name : Name) → found names name ≡ None → name_index names name ≡ length names
is_new names name e = by (stands names name) refl e where
  by : (s : Bool) → stands names name ≡ s → cond s (Some (name_index names name)) None ≡ None → name_index names name ≡ length names
  by true t e = absurd cc
  by false t e =
      let le : length names ≤ name_index names name = ltb-false _ _ t in
      let no_more = place-within names name in
      omega (arith, le, no_more)

pub not_there : (names : List Name) (name : Name) → found names name ≡ None → stands names name ≡ false
not_there names name e = by (stands names name) e where
  by : (s : Bool) → cond s (Some (name_index names name)) None ≡ None → s ≡ false
  by true e = absurd cc
  by false e = refl

-- ---- sets and maps of names

pub has_next : (before : List Name) (old new : BTreeSet (Bor Name)) (x : Name) → HasNames before old
    → ((q : Bor Name) → contains_by (λ key. slice_cmp nat_cmp q.now key.now) new ≡ cond (is_eq (slice_cmp nat_cmp x q.now)) true (contains_by (λ key. slice_cmp nat_cmp q.now key.now) old))
    → HasNames (before ++ x ∷ []) new
has_next before old new x has updates name =
    let q : Bor Name = record { ref_ptr = (0, 0); now = name } in
    updates q ∙ rw (is_eq-slice_cmp x name, has name) (sym (stands-more before x name))

now-more : (names : List (Bor Name)) (x : Bor Name) → map (λ name. name.now) (names ++ x ∷ []) ≡ map (λ name. name.now) names ++ x.now ∷ []
now-more [] x = refl
now-more (y ∷ names) x = ap (λ (t : List Name). y.now ∷ t) (now-more names x)

-- ---- tables that are written

pub table_is : (out old : List ℕ) (names : List (Bor Name)) (i : ℕ) → length names ≤ i
    → out ≡ old ++ (u4 (length names) ++ flat_map (λ name. encode_name name.now) (take i names))
    → out ≡ old ++ encode_names (map (λ name. name.now) names)
table_is out old names i le so_far =
    rw (length-now names, encoded-now encode_name names) (so_far ∙ ap (λ (ns : List (Bor Name)). old ++ (u4 (length names) ++ flat_map (λ name. encode_name name.now) ns)) (take_all i names le))

-- ---- names that are found sooner

-- a name that has a place stands there
pub is_there : (names : List Name) (name : Name) (place : ℕ) → found names name ≡ Some place → stands names name ≡ true
is_there names name place e = by (stands names name) e where
  by : (s : Bool) → cond s (Some (name_index names name)) None ≡ Some place → s ≡ true
  by true e = refl
  by false e = absurd cc

known_one : (names : List Name) (x : Name) (slot : Option Known) → stands names x ≡ false → IsKnown names slot → IsKnown (names ++ x ∷ []) slot
known_one names x None new h = h
known_one names x (Some known) new h = found-more names x known.name.now new ∙ by (bytes_eq x known.name.now) refl where
  by : (b : Bool) → bytes_eq x known.name.now ≡ b → cond b (Some (length names)) (found names known.name.now) ≡ Some known.place
  by true e = absurd (false≢true (sym new ∙ ap (stands names) ((bytes_eq-Decides x known.name.now).0 e) ∙ there)) where
    there : stands names known.name.now ≡ true
    there = is_there names known.name.now known.place h
  by false e = h

-- what is known of names stays so as one more comes
pub known_more : (names : List Name) (x : Name) (slots : List (Option Known)) → stands names x ≡ false → ArePlaced names slots → ArePlaced (names ++ x ∷ []) slots
known_more names x [] new h = h
known_more names x (slot ∷ slots) new h = (known_one names x slot new h.0, known_more names x slots new h.1)

pub known_at : (names : List Name) (slots : List (Option Known)) (i : ℕ) (slot other : Option Known)
    → ArePlaced names slots → i < length slots → slot ≡ slice_index_or slots i other → IsKnown names slot
known_at names [] i slot other h lt e = absurd (omega (arith, lt))
known_at names (first ∷ slots) zero slot other h lt e = subst (λ s. IsKnown names s) (sym e) h.0
known_at names (first ∷ slots) (suc i) slot other h lt e = known_at names slots i slot other h.1 (omega (arith, lt)) e

pub known_end : (names : List Name) (slots : List (Option Known)) (slot : Option Known) → ArePlaced names slots → IsKnown names slot → ArePlaced names (slots ++ slot ∷ [])
known_end names [] slot h one = (one, tt)
known_end names (first ∷ slots) slot h one = (h.0, known_end names slots slot h.1 one)

-- ---- one name more

module _ (names all : List (Bor Name)) (x : Bor Name) (new : found (map (λ name. name.now) names) x.now ≡ None) (is : all ≡ names ++ x ∷ []) where
  abbrev before : List Name
  before = map (λ name. name.now) names

  is_new_there : stands before x.now ≡ false
  is_new_there = not_there before x.now new

  after : map (λ name. name.now) all ≡ before ++ x.now ∷ []
  after = ap (λ (ns : List (Bor Name)). map (λ name. name.now) ns) is ∙ now-more names x

  pub known_next : (slots : List (Option Known)) → ArePlaced before slots → ArePlaced (map (λ name. name.now) all) slots
  known_next slots h = subst (λ (ns : List Name). ArePlaced ns slots) (sym after) (known_more before x.now slots is_new_there h)

  pub found_last : (len : ℕ) → len ≡ length names → found (map (λ name. name.now) all) x.now ≡ Some len
  found_last len e =
      ap (λ (ns : List Name). found ns x.now) after ∙ found-more before x.now x.now is_new_there
      ∙ ap (λ b. cond b (Some (length before)) (found before x.now)) ((bytes_eq-Decides x.now x.now).1 refl)
      ∙ ap Some (length-now names ∙ sym e)

  pub places_more : (old new_places : BTreeMap (Bor Name) ℕ) (len : ℕ) → HasPlaces before old → len ≡ length names
      → ((q : Bor Name) → get_by (λ key. slice_cmp nat_cmp q.now key.now) new_places ≡ cond (is_eq (slice_cmp nat_cmp x.now q.now)) (Some len) (get_by (λ key. slice_cmp nat_cmp q.now key.now) old))
      → HasPlaces (map (λ name. name.now) all) new_places
  places_more old new_places len has e updates name =
      let q : Bor Name = record { ref_ptr = (0, 0); now = name } in
      updates q ∙ rw (is_eq-slice_cmp x.now name, has name, e ∙ sym (length-now names)) (rw after (sym (found-more before x.now name is_new_there)))

pub none_known : (names : List Name) (slots more : List (Option Known)) → more ≡ slots ++ None ∷ [] → ArePlaced names slots → ArePlaced names more
none_known names slots more e h = subst (ArePlaced names) (sym e) (known_end names slots None h tt)

pub one : (names : List Name) (slot : Option Known) (known : Known) → slot ≡ Some known → IsKnown names slot → found names known.name.now ≡ Some known.place
one names slot known e h = subst (IsKnown names) e h

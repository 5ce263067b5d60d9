-- The ways of classes, found by their names.
use Rattle.std.proofs.Common.{◌≡◌, ℕ, zero, suc, ◌+◌, ◌<◌, Bool, true, false, cond, List, [], ◌∷◌, length, map, Option, Some, None, refl, sym, ap, subst, ◌∙◌, inl, inr, arith}
use Rattle.std.specs.Prelude.{◌==◌, bytes_eq, slice_get, find, option_and_then, option_map, ◌||◌}
use Rattle.std.specs.List.{list_any, position_from}
use Rattle.std.specs.Option.{option_map_or}
use Rattle.std.proofs.lemmas.Bool.{cases_Bool, false≢true, eq-eqb, eqb-true}
use Rattle.std.proofs.lemmas.List.{length-map}
use Rattle.std.proofs.lemmas.Slice.Eq.{bytes_eq-Decides}
use Rattle.api_listing.specs.declared.types.ListedClass.{ListedClass}
use Rattle.api_listing.specs.Nearest.{class_named, upwards}
use Rattle.bytecode_model.specs.Order.{EachWayEnds}
use Rattle.type_lattice.specs.Hierarchy.{is_up, nearest_common, parents_in}
use Rattle.bytecode_model.specs.Places.{class_place}
use Rattle.bytecode_model.specs.SearchOrder.{superclasses}
use Rattle.type_lattice.specs.SkipPointers.{parent_of, skips_up, path_up, AreParents, has_place, meeting}
use Rattle.type_lattice.proofs.Ascending.{some_is, there_within}
use Rattle.bytecode_model.proofs.Placing.{find_at}

-- what stands at the first place that passes
pub record StandsAt {X : Type 0} (test : X → Bool) (i place : ℕ) (xs : List X) : Type 0 where
  pub k : ℕ
  pub far : place ≡ i + k
  pub item : X
  pub there : slice_get xs k ≡ Some item
  pub passes : test item ≡ true

pub stands_at : {X : Type 0} (test : X → Bool) (i place : ℕ) (xs : List X) → position_from test i xs ≡ Some place → StandsAt test i place xs
stands_at test i place [] e = absurd cc
stands_at test i place (x ∷ xs) e =
    elim (cases_Bool (test x)) [
      | inl is ↦
          let h : ◌≡◌ {A = Option ℕ} (Some i) (Some place) = rw is at e in
          record { k = 0; far = omega (arith, some_is i place h); item = x; there = refl; passes = is }
      | inr fails ↦
          let h : position_from test (i + 1) xs ≡ Some place = rw fails at e in
          let s = stands_at test (i + 1) place xs h in
          record { k = suc s.k; far = omega (arith, s.far); item = s.item; there = s.there; passes = s.passes }
    ]

pub mapped_at : {X : Type 0} (f : X → Option ℕ) (xs : List X) (at : ℕ) → parent_of (map f xs) at ≡ option_and_then f (slice_get xs at)
mapped_at f [] at = refl
mapped_at f (x ∷ xs) zero = refl
mapped_at f (x ∷ xs) (suc at) = mapped_at f xs at

module _ (classes : List ListedClass) where
  -- the class whose place is that of the name
  pub record Placed (name : List ℕ) (place : ℕ) : Type 0 where
    pub class : ListedClass
    pub there : slice_get classes place ≡ Some class
    pub found : class_named classes name ≡ Some class
    pub named : class.name ≡ name
    pub parent : parent_of (parents_in classes) place ≡ class_place classes class.parent

  pub placed : (name : List ℕ) (place : ℕ) → class_place classes name ≡ Some place → Placed name place
  placed name place e =
      let s = stands_at (λ (c : ListedClass). bytes_eq c.name name) 0 place classes e in
      let k : s.k ≡ place = omega (arith, s.far) in
      let there : slice_get classes place ≡ Some s.item = subst (λ (n : ℕ). slice_get classes n ≡ Some s.item) k s.there in
      record {
        class = s.item;
        there = there;
        found = find_at (λ (c : ListedClass). bytes_eq c.name name) classes ∙ ap (option_and_then (slice_get classes)) e ∙ there;
        named = (bytes_eq-Decides s.item.name name).0 s.passes;
        parent = mapped_at (λ (c : ListedClass). class_place classes c.parent) classes place ∙ ap (option_and_then (λ (c : ListedClass). class_place classes c.parent)) there;
      }

  pub unplaced : (name : List ℕ) → class_place classes name ≡ None → class_named classes name ≡ None
  unplaced name e = find_at (λ (c : ListedClass). bytes_eq c.name name) classes ∙ ap (option_and_then (slice_get classes)) e

  abbrev pub skip_pointers : List (Option ℕ)
  skip_pointers = parents_in classes

  -- the way from the place, if there is one
  abbrev pub from_place : ℕ → Option ℕ → List ℕ
  from_place n o = option_map_or (skips_up n skip_pointers) o []

  -- ---- classes upwards, and the places of a way

  -- What holds of the empty list and the empty way, of a class before others and its place before theirs, holds of the way up from each name.
  module _ (P : List ListedClass → List ℕ → Type 0) (none : P [] [])
      (one : (name : List ℕ) (place : ℕ) (p : Placed name place) → class_place classes name ≡ Some place → (cs : List ListedClass) (ps : List ℕ) → P cs ps → P (p.class ∷ cs) (place ∷ ps)) where
    step : (n : ℕ) (name : List ℕ) (o : Option ℕ) → class_place classes name ≡ o → ((m : ℕ) → n ≡ suc m → (above : List ℕ) → P (upwards (suc m) classes above) (from_place m (class_place classes above)))
        → P (upwards (suc n) classes name) (from_place n o)
    step n name None e more = subst (λ (f : Option ListedClass). P (option_map_or (λ (c : ListedClass). c ∷ upwards n classes c.parent) f []) []) (sym (unplaced name e)) none
    step zero name (Some place) e more =
        let p = placed name place e in
        subst (λ (f : Option ListedClass). P (option_map_or (λ (c : ListedClass). c ∷ upwards zero classes c.parent) f []) (place ∷ [])) (sym p.found) (one name place p e [] [] none)
    step (suc m) name (Some place) e more =
        let p = placed name place e in
        subst (λ (f : Option ListedClass). P (option_map_or (λ (c : ListedClass). c ∷ upwards (suc m) classes c.parent) f []) (place ∷ from_place m (parent_of skip_pointers place))) (sym p.found)
        (one name place p e (upwards (suc m) classes p.class.parent) (from_place m (parent_of skip_pointers place))
        (subst (λ (o : Option ℕ). P (upwards (suc m) classes p.class.parent) (from_place m o)) (sym p.parent) (more m refl p.class.parent)))

    pub each_up : (n : ℕ) (name : List ℕ) → P (upwards (suc n) classes name) (from_place n (class_place classes name))
    each_up zero name = step zero name (class_place classes name) refl (λ m e above. absurd (omega arith))
    each_up (suc n) name =
        step (suc n) name (class_place classes name) refl
        (λ m e above.
        let same : n ≡ m = omega arith in
        subst (λ (k : ℕ). P (upwards (suc k) classes above) (from_place k (class_place classes above))) same (each_up n above))

  pub as_long : (n : ℕ) (name : List ℕ) → length (upwards (suc n) classes name) ≡ length (from_place n (class_place classes name))
  as_long = each_up (λ cs ps. length cs ≡ length ps) refl (λ name place p e cs ps same. ap suc same)

  one_place : (name above : List ℕ) (place q : ℕ) (p : Placed name place) → class_place classes name ≡ Some place → class_place classes above ≡ Some q → bytes_eq p.class.name above ≡ (place == q)
  one_place name above place q p e f =
      elim (cases_Bool (bytes_eq p.class.name above)) [
        | inl is ↦
            let same : name ≡ above = sym p.named ∙ (bytes_eq-Decides p.class.name above).0 is in
            is ∙ sym (eq-eqb place q (some_is place q (sym e ∙ ap (class_place classes) same ∙ f)))
        | inr other ↦
            elim (cases_Bool (place == q)) [
              | inl is ↦
                  let h = placed above q f in
                  let same : p.class ≡ h.class = some_is p.class h.class (sym p.there ∙ ap (slice_get classes) (eqb-true place q is) ∙ h.there) in
                  let there : p.class.name ≡ above = ap (λ (c : ListedClass). c.name) same ∙ h.named in
                  absurd (false≢true (sym other ∙ (bytes_eq-Decides p.class.name above).1 there))
              | inr differs ↦ other ∙ sym differs
            ]
      ]

  abbrev pub has_named : List ℕ → List ListedClass → Bool
  has_named above cs = list_any (λ (c : ListedClass). bytes_eq c.name above) cs

  or_both : (a b c d : Bool) → a ≡ b → c ≡ d → (a || c) ≡ (b || d)
  or_both a b c d e f = rw (e, f) refl

  pub named_is : (above : List ℕ) (q : ℕ) → class_place classes above ≡ Some q → (n : ℕ) (name : List ℕ) → has_named above (upwards (suc n) classes name) ≡ has_place (from_place n (class_place classes name)) q
  named_is above q f =
      each_up (λ cs ps. has_named above cs ≡ has_place ps q) refl
      (λ name place p e cs ps same. or_both _ _ _ _ (one_place name above place q p e f) same)

  pub none_named : (above : List ℕ) → class_place classes above ≡ None → (n : ℕ) (name : List ℕ) → has_named above (upwards (suc n) classes name) ≡ false
  none_named above f =
      each_up (λ cs ps. has_named above cs ≡ false) refl
      (λ name place p e cs ps same. or_both _ false _ false (differs name place p e) same) where
        differs : (name : List ℕ) (place : ℕ) (p : Placed name place) → class_place classes name ≡ Some place → bytes_eq p.class.name above ≡ false
        differs name place p e =
            elim (cases_Bool (bytes_eq p.class.name above)) [
              | inl is ↦
                  let same : name ≡ above = sym p.named ∙ (bytes_eq-Decides p.class.name above).0 is in
                  let h : ◌≡◌ {A = Option ℕ} (Some place) None = sym e ∙ ap (class_place classes) same ∙ f in
                  absurd cc
              | inr other ↦ other
            ]

  -- the name of the class at the place, if there is one
  abbrev pub name_at : Option ℕ → Option (List ℕ)
  name_at o = option_and_then (λ (p : ℕ). option_map (λ (c : ListedClass). c.name) (slice_get classes p)) o

  first_of_both : (b d : Bool) (c : ListedClass) (place : ℕ) (f : Option ListedClass) (o : Option ℕ) → b ≡ d → slice_get classes place ≡ Some c → option_map (λ (x : ListedClass). x.name) f ≡ name_at o
      → option_map (λ (x : ListedClass). x.name) (cond b (Some c) f) ≡ name_at (cond d (Some place) o)
  first_of_both true true c place f o e there same = sym (ap (option_map (λ (x : ListedClass). x.name)) there)
  first_of_both false false c place f o e there same = same
  first_of_both true false c place f o e there same = absurd (false≢true (sym e))
  first_of_both false true c place f o e there same = absurd (false≢true e)

  pub first_is_at : (test : List ℕ → Bool) (passes : ℕ → Bool) → ((name : List ℕ) (place : ℕ) → class_place classes name ≡ Some place → test name ≡ passes place)
      → (n : ℕ) (name : List ℕ) → option_map (λ (c : ListedClass). c.name) (find (λ (c : ListedClass). test c.name) (upwards (suc n) classes name)) ≡ name_at (find passes (from_place n (class_place classes name)))
  first_is_at test passes agree =
      each_up (λ cs ps. option_map (λ (c : ListedClass). c.name) (find (λ (c : ListedClass). test c.name) cs) ≡ name_at (find passes ps)) refl
      (λ name place p e cs ps same. first_of_both _ _ p.class place _ _ (ap test p.named ∙ agree name place e) p.there same)

  -- ---- where each way up ends

  settled : (n : ℕ) (p : ℕ) → length (skips_up (suc n) skip_pointers p) ≡ length (skips_up n skip_pointers p) → skips_up (suc n) skip_pointers p ≡ skips_up n skip_pointers p
  settled zero p e = by (parent_of skip_pointers p) e where
    by : (o : Option ℕ) → length (p ∷ from_place zero o) ≡ length (p ∷ []) → p ∷ from_place zero o ≡ p ∷ []
    by None e = refl
    by (Some q) e = absurd (omega arith)
  settled (suc n) p e = ap (λ (l : List ℕ). p ∷ l) (by (parent_of skip_pointers p) (settled n) e) where
    by : (o : Option ℕ) → ((q : ℕ) → length (skips_up (suc n) skip_pointers q) ≡ length (skips_up n skip_pointers q) → skips_up (suc n) skip_pointers q ≡ skips_up n skip_pointers q) → length (p ∷ from_place (suc n) o) ≡ length (p ∷ from_place n o)
        → from_place (suc n) o ≡ from_place n o
    by None more e = refl
    by (Some q) more e = more q (omega arith)

  module _ (ends : EachWayEnds classes) where
    size : length skip_pointers ≡ length classes
    size = length-map classes (λ (c : ListedClass). class_place classes c.parent)

    one_longer : (n : ℕ) → suc n ≡ length classes → (name : List ℕ) (o : Option ℕ) → class_place classes name ≡ o → from_place (suc n) o ≡ from_place n o
    one_longer n count name None e = refl
    one_longer n count name (Some p) e =
        let long : length (upwards (suc (suc n)) classes name) ≡ length (upwards (suc n) classes name) = ap length (ap (λ (k : ℕ). upwards (suc k) classes name) count ∙ ends name ∙ ap (λ (k : ℕ). upwards k classes name) (sym count)) in
        let more : length (from_place (suc n) (Some p)) ≡ length (from_place n (Some p)) = ap (λ (o : Option ℕ). length (from_place (suc n) o)) (sym e) ∙ sym (as_long (suc n) name) ∙ long ∙ as_long n name ∙ ap (λ (o : Option ℕ). length (from_place n o)) e in
        settled n p more

    above_is : (at : ℕ) (o : Option ListedClass) → slice_get classes at ≡ o → parent_of skip_pointers at ≡ option_and_then (λ (c : ListedClass). class_place classes c.parent) o
    above_is at o e = mapped_at (λ (c : ListedClass). class_place classes c.parent) classes at ∙ ap (option_and_then (λ (c : ListedClass). class_place classes c.parent)) e

    skips_end : (n at : ℕ) → n ≡ length classes → skips_up (suc n) skip_pointers at ≡ skips_up n skip_pointers at
    skips_end n at count = by n (slice_get classes at) refl count where
      by : (k : ℕ) (o : Option ListedClass) → slice_get classes at ≡ o → k ≡ length classes → skips_up (suc k) skip_pointers at ≡ skips_up k skip_pointers at
      by zero None e f = ap (λ (o : Option ℕ). at ∷ from_place zero o) (above_is at None e)
      by zero (Some c) e f = absurd (let less = there_within classes at c e in omega arith)
      by (suc k) None e f = ap (λ (o : Option ℕ). at ∷ from_place (suc k) o) (above_is at None e) ∙ sym (ap (λ (o : Option ℕ). at ∷ from_place k o) (above_is at None e))
      by (suc k) (Some c) e f =
          ap (λ (o : Option ℕ). at ∷ from_place (suc k) o) (above_is at (Some c) e) ∙ ap (λ (l : List ℕ). at ∷ l) (one_longer k f c.parent (class_place classes c.parent) refl)
          ∙ sym (ap (λ (o : Option ℕ). at ∷ from_place k o) (above_is at (Some c) e))

    pub place_within : (name : List ℕ) (place : ℕ) → class_place classes name ≡ Some place → place < length skip_pointers
    place_within name place e = let p = placed name place e in let less = there_within classes place p.class p.there in let n = size in omega arith

    parent_within : (at above : ℕ) (o : Option ListedClass) → slice_get classes at ≡ o → parent_of skip_pointers at ≡ Some above → above < length skip_pointers
    parent_within at above None e f = absurd (let h : ◌≡◌ {A = Option ℕ} None (Some above) = sym (above_is at None e) ∙ f in cc)
    parent_within at above (Some c) e f = place_within c.parent above (sym (above_is at (Some c) e) ∙ f)

    pub are_parents : AreParents skip_pointers
    are_parents = record {
      ends = λ at. skips_end (length skip_pointers) at size;
      within = λ at above f. parent_within at above (slice_get classes at) refl f;
    }

    all_up : (name : List ℕ) → superclasses classes name ≡ upwards (suc (length skip_pointers)) classes name
    all_up name = sym (ends name) ∙ ap (λ (n : ℕ). upwards (suc n) classes name) (sym size)

    pub up_is : (class above : List ℕ) (p q : ℕ) → class_place classes class ≡ Some p → class_place classes above ≡ Some q → is_up classes class above ≡ has_place (path_up skip_pointers p) q
    up_is class above p q e f =
        ap (has_named above) (all_up class) ∙ named_is above q f (length skip_pointers) class ∙ ap (λ (o : Option ℕ). has_place (from_place (length skip_pointers) o) q) e

    pub nothing_below : (class above : List ℕ) → class_place classes class ≡ None → is_up classes class above ≡ false
    nothing_below class above e = ap (has_named above) (all_up class) ∙ ap (λ (o : Option ListedClass). has_named above (option_map_or (λ (c : ListedClass). c ∷ upwards (length skip_pointers) classes c.parent) o [])) (unplaced class e)

    pub nothing_above : (class above : List ℕ) → class_place classes above ≡ None → is_up classes class above ≡ false
    nothing_above class above e = ap (has_named above) (all_up class) ∙ none_named above e (length skip_pointers) class

    -- the first that is above the other, too
    pub common_is : (a b : List ℕ) (p q : ℕ) → class_place classes a ≡ Some p → class_place classes b ≡ Some q → nearest_common classes a b ≡ name_at (meeting skip_pointers p q)
    common_is a b p q e f =
        ap (λ (cs : List ListedClass). option_map (λ (c : ListedClass). c.name) (find (λ (c : ListedClass). is_up classes b c.name) cs)) (all_up a)
        ∙ first_is_at (is_up classes b) (has_place (path_up skip_pointers q)) (λ name place h. up_is b name q place f h) (length skip_pointers) a
        ∙ ap (λ (o : Option ℕ). name_at (find (has_place (path_up skip_pointers q)) (from_place (length skip_pointers) o))) e

    pub none_common_first : (a b : List ℕ) → class_place classes a ≡ None → nearest_common classes a b ≡ None
    none_common_first a b e =
        ap (λ (cs : List ListedClass). option_map (λ (c : ListedClass). c.name) (find (λ (c : ListedClass). is_up classes b c.name) cs))
        (all_up a ∙ ap (λ (o : Option ListedClass). option_map_or (λ (c : ListedClass). c ∷ upwards (length skip_pointers) classes c.parent) o []) (unplaced a e))

    pub none_common_second : (a b : List ℕ) → class_place classes b ≡ None → nearest_common classes a b ≡ None
    none_common_second a b e =
        ap (option_map (λ (c : ListedClass). c.name)) (by (superclasses classes a)) where
          by : (cs : List ListedClass) → find (λ (c : ListedClass). is_up classes b c.name) cs ≡ None
          by [] = refl
          by (c ∷ cs) = ap (λ (t : Bool). cond t (Some c) (find (λ (x : ListedClass). is_up classes b x.name) cs)) (nothing_below b c.name e) ∙ by cs

-- The classes of a listing: each stands after its superclass, and has the name of a class.
use Rattle.std.proofs.Common.{◌≡◌, ℕ, suc, Bool, true, false, not, List, [], ◌∷◌, ◌++◌, ◌⊎◌, length, Option, Some, None, refl, sym, ap, subst, ◌∙◌, inl, inr, append_assoc, append-nil, arith}
use Rattle.std.specs.Prelude.{bytes_eq, ◌||◌, ◌&&◌}
use Rattle.std.specs.List.{list_all, filter_map, onto_first}
use Rattle.std.proofs.lemmas.Bool.{cases_Bool, eqb-true, false≢true}
use Rattle.std.proofs.lemmas.List.{length-append}
use Rattle.std.proofs.lemmas.List.Elements.{filter_map-append}
use Rattle.api_listing.specs.declared.types.ListedClass.{ListedClass}
use Rattle.api_listing.specs.declared.types.Listing.{Listing}
use Rattle.api_listing.specs.declared.declaration.Declaration.{Declaration}
use Rattle.api_listing.specs.declared.declaration.Declaration.TheVariants.{Class, Method, Field}
use Rattle.api_listing.specs.BuiltIn.{object, class_rows, built_in_classes}
use Rattle.api_listing.specs.Lines.{EncodesKind, EncodesClassLine}
use Rattle.api_listing.specs.Listing.{is_known, names_known, class_declared, listing_of, AreSaid, EncodesListing}
use Rattle.api_listing.specs.Nearest.{class_named}
use Rattle.api_listing.specs.Words.{pieces, is_segment, is_class_name}
use Rattle.bytecode_model.specs.Conditions.{stays_within}
use Rattle.bytecode_model.specs.Arrays.{is_array}
use Rattle.bytecode_model.proofs.Ending.{stays_less}
use Rattle.bytecode_model.proofs.Upwards.{named_after, named_passes}
use Rattle.bytecode_model.proofs.Upwards.{same_of, of_same}
use Rattle.bytecode_model.proofs.Upwards.{either_of, both_of, both_are, or_first, or_second, named_so}

-- ---- names

first_letter : (parts : List (List ℕ)) → list_all is_segment (onto_first 91 parts) ≡ false
first_letter [] = refl
first_letter (part ∷ parts) = refl

-- an array is not named as a class
pub array_unnamed : (name : List ℕ) → is_array name ≡ true → is_class_name name ≡ false
array_unnamed [] e = absurd cc
array_unnamed (c ∷ rest) e = rw (eqb-true c 91 e) (first_letter (pieces 47 rest))

-- ---- what holds of each class

-- a class has the name of one, and an interface is below Object
abbrev pub is_proper : ListedClass → Bool
is_proper c = is_class_name c.name && (not c.is_interface || bytes_eq c.parent object)

pub all_after : (test : ListedClass → Bool) (xs ys : List ListedClass) → list_all test xs ≡ true → list_all test ys ≡ true → list_all test (xs ++ ys) ≡ true
all_after test [] ys e f = f
all_after test (x ∷ xs) ys e f = let both = both_of (test x) (list_all test xs) e in both_are _ _ both.0 (all_after test xs ys both.1 f)

-- no class has a name that is none of a class
pub nameless : (classes : List ListedClass) (name : List ℕ) → list_all is_proper classes ≡ true → is_class_name name ≡ false → class_named classes name ≡ None
nameless classes name all none_such = by (class_named classes name) refl where
  by : (o : Option ListedClass) → class_named classes name ≡ o → o ≡ None
  by None e = refl
  by (Some c) e =
      let good : is_class_name c.name ≡ true = (both_of (is_class_name c.name) _ (named_passes is_proper classes name c all e)).0 in
      absurd (false≢true (sym none_such ∙ subst (λ (n : List ℕ). is_class_name n ≡ true) (named_so classes name c e) good))

-- ---- classes that stand after their superclasses

-- each superclass stands before its class, or has no name
abbrev pub founded : List ListedClass → List ListedClass → Bool
founded before [] = true
founded before (c ∷ rest) = (is_known before c.parent || bytes_eq c.parent []) && founded (before ++ c ∷ []) rest

pub founded_after : (before xs ys : List ListedClass) → founded before xs ≡ true → founded (before ++ xs) ys ≡ true → founded before (xs ++ ys) ≡ true
founded_after before [] ys e f = subst (λ (l : List ListedClass). founded l ys ≡ true) (append-nil before) f
founded_after before (x ∷ xs) ys e f =
    let both = both_of (is_known before x.parent || bytes_eq x.parent []) (founded (before ++ x ∷ []) xs) e in
    let further : founded ((before ++ x ∷ []) ++ xs) ys ≡ true = subst (λ (l : List ListedClass). founded l ys ≡ true) (sym (append_assoc before (x ∷ []) xs)) f in
    both_are _ _ both.0 (founded_after (before ++ x ∷ []) xs ys both.1 further)

pub unknown : (classes : List ListedClass) (name : List ℕ) → is_known classes name ≡ false → class_named classes name ≡ None
unknown [] name e = refl
unknown (x ∷ classes) name e =
    elim (cases_Bool (bytes_eq x.name name)) [
      | inl is ↦ let h : true ≡ false = rw is at e in absurd cc
      | inr fails ↦ let h : is_known classes name ≡ false = rw fails at e in rw fails (unknown classes name h)
    ]

known_in_two : (xs ys : List ListedClass) (name : List ℕ) → is_known (xs ++ ys) name ≡ true → (is_known xs name ≡ true) ⊎ (is_known ys name ≡ true)
known_in_two [] ys name e = inr e
known_in_two (x ∷ xs) ys name e =
    elim (either_of (bytes_eq x.name name) (is_known (xs ++ ys) name) e) [
      | inl is ↦ inl (or_first _ _ is)
      | inr later ↦ elim (known_in_two xs ys name later) [
        | inl one ↦ inl (or_second _ _ one)
        | inr two ↦ inr two
      ]
    ]

module _ (all : List ListedClass) (no_name : class_named all [] ≡ None) where
  -- no more than n classes are on the way up
  abbrev pub EndsIn : ℕ → List ℕ → Type 0
  EndsIn n name = stays_within (suc n) all name ≡ false

  pub ends_later : (n : ℕ) (name : List ℕ) → EndsIn n name → EndsIn (suc n) name
  ends_later n name e = none_so _ (λ up. false≢true (sym e ∙ stays_less all (suc n) name up)) where
    none_so : (b : Bool) → (b ≡ true → ⊥) → b ≡ false
    none_so true h = absurd (h refl)
    none_so false h = refl

  pub ends_unnamed : (n : ℕ) (name : List ℕ) → class_named all name ≡ None → EndsIn n name
  ends_unnamed n name e = rw e refl

  pub ends_above : (n : ℕ) (name : List ℕ) (c : ListedClass) → class_named all name ≡ Some c → EndsIn n c.parent → EndsIn (suc n) name
  ends_above n name c e f = rw e f

  EndEach : List ListedClass → Type 0
  EndEach before = (name : List ℕ) → is_known before name ≡ true → EndsIn (length before) name

  one_more : (before rest : List ListedClass) (c : ListedClass) → before ++ c ∷ rest ≡ all → (is_known before c.parent || bytes_eq c.parent []) ≡ true → EndEach before → EndEach (before ++ c ∷ [])
  unfolding EndEach
  one_more before rest c is founds each name known =
      let count : length (before ++ c ∷ []) ≡ suc (length before) = omega (arith, length-append before (c ∷ [])) in
      let over : EndsIn (length before) c.parent = elim (either_of (is_known before c.parent) (bytes_eq c.parent []) founds) [
        | inl stands ↦ each c.parent stands
        | inr none ↦ subst (EndsIn (length before)) (sym (same_of c.parent [] none)) (ends_unnamed (length before) [] no_name)
      ] in
      let here : EndsIn (suc (length before)) name = elim (cases_Bool (is_known before name)) [
        | inl before_it ↦ ends_later (length before) name (each name before_it)
        | inr new ↦
            let own : bytes_eq c.name name ≡ true = elim (known_in_two before (c ∷ []) name known) [
              | inl one ↦ absurd (false≢true (sym new ∙ one))
              | inr two ↦ elim (either_of (bytes_eq c.name name) false two) [
                | inl same ↦ same
                | inr never ↦ absurd (false≢true never)
              ]
            ] in
            let found : class_named (c ∷ rest) name ≡ Some c = rw own refl in
            let there : class_named all name ≡ Some c = ap (λ (l : List ListedClass). class_named l name) (sym is) ∙ named_after (c ∷ rest) name before (unknown before name new) ∙ found in
            ends_above (length before) name c there over
      ] in
      subst (λ (n : ℕ). EndsIn n name) (sym count) here

  each_ends : (before rest following front : List ListedClass) → before ++ rest ≡ front → front ++ following ≡ all → founded before rest ≡ true → EndEach before → EndEach front
  each_ends before [] following front is whole founds each = subst EndEach (sym (append-nil before) ∙ is) each
  each_ends before (c ∷ rest) following front is whole founds each =
      let both = both_of (is_known before c.parent || bytes_eq c.parent []) (founded (before ++ c ∷ []) rest) founds in
      let split : before ++ c ∷ (rest ++ following) ≡ all = sym (append_assoc before (c ∷ rest) following) ∙ ap (λ (l : List ListedClass). l ++ following) is ∙ whole in
      each_ends (before ++ c ∷ []) rest following front (append_assoc before (c ∷ []) rest ∙ is) whole both.1 (one_more before (rest ++ following) c split both.0 each)

  -- the way up from each of the first classes, where those stand so
  pub front_ends : (front following : List ListedClass) → front ++ following ≡ all → founded [] front ≡ true → (name : List ℕ) → is_known front name ≡ true → EndsIn (length front) name
  unfolding EndEach
  front_ends front following whole founds = each_ends [] front following front refl whole founds (λ name known. absurd (false≢true known))

-- ---- the classes of a listing

built_in_proper : list_all is_proper built_in_classes ≡ true
unfolding class_rows
built_in_proper = refl

built_in_founded : founded [] built_in_classes ≡ true
unfolding class_rows
built_in_founded = refl

said_proper : (lines : List (List ℕ)) (said : List Declaration) → AreSaid lines said → list_all is_proper (filter_map class_declared said) ≡ true
said_proper [] [] are = refl
said_proper [] (d ∷ said) are = absurd are
said_proper (line ∷ lines) [] are = refl
said_proper (line ∷ lines) (Class c ∷ said) are = both_are _ _ (proper (pieces 32 line) c are.0) (said_proper lines said are.1) where
  kind : (words : List (List ℕ)) (c : ListedClass) (b : Bool) → EncodesKind b words c → (not b || bytes_eq c.parent object) ≡ true
  kind words c true encoded = of_same c.parent object encoded.below
  kind words c false encoded = refl

  proper : (words : List (List ℕ)) (c : ListedClass) → EncodesClassLine words c → is_proper c ≡ true
  proper words c line = both_are _ _ line.name (kind words c c.is_interface line.encoded)
said_proper (line ∷ lines) (Method m types ∷ said) are = said_proper lines said are.1
said_proper (line ∷ lines) (Field id class ∷ said) are = said_proper lines said are.1

abbrev declared_after : List Declaration → List ListedClass
declared_after front = built_in_classes ++ filter_map class_declared front

-- what is said after one more
one_said : (known : List ℕ → Bool) (front said : List Declaration) (d : Declaration) → names_known known (listing_of front) d ≡ true
    → founded (declared_after front ++ filter_map class_declared (d ∷ [])) (filter_map class_declared said) ≡ true → founded (declared_after front) (filter_map class_declared (d ∷ said)) ≡ true
one_said known front said (Class c) own following = both_are _ _ (or_first _ _ (both_of (is_known (declared_after front) c.parent) _ own).0) following
one_said known front said (Method m types) own following = subst (λ (l : List ListedClass). founded l (filter_map class_declared said) ≡ true) (append-nil (declared_after front)) following
one_said known front said (Field id class) own following = subst (λ (l : List ListedClass). founded l (filter_map class_declared said) ≡ true) (append-nil (declared_after front)) following

declared_more : (front : List Declaration) (d : Declaration) → declared_after (front ++ d ∷ []) ≡ declared_after front ++ filter_map class_declared (d ∷ [])
declared_more front d =
    ap (λ (l : List ListedClass). built_in_classes ++ l) (filter_map-append class_declared front (d ∷ []))
    ∙ sym (append_assoc built_in_classes (filter_map class_declared front) (filter_map class_declared (d ∷ [])))

abbrev EachNamed : (List ℕ → Bool) → List Declaration → List Declaration → Type 0
EachNamed known front said =
    (before after : List Declaration) (d : Declaration) → said ≡ before ++ d ∷ after → names_known known (listing_of (front ++ before)) d ≡ true

others_named : (known : List ℕ → Bool) (front said : List Declaration) (d : Declaration) → EachNamed known front (d ∷ said) → EachNamed known (front ++ d ∷ []) said
others_named known front said d each before after x is =
    subst (λ (f : List Declaration). names_known known (listing_of f) x ≡ true) (sym (append_assoc front (d ∷ []) before))
    (each (d ∷ before) after x (ap (λ (l : List Declaration). d ∷ l) is))

said_founded : (known : List ℕ → Bool) (front said : List Declaration) → EachNamed known front said → founded (declared_after front) (filter_map class_declared said) ≡ true
said_founded known front [] each = refl
said_founded known front (d ∷ said) each =
    let own : names_known known (listing_of front) d ≡ true = subst (λ (f : List Declaration). names_known known (listing_of f) d ≡ true) (append-nil front) (each [] said d refl) in
    let others = said_founded known (front ++ d ∷ []) said (others_named known front said d each) in
    one_said known front said d own (subst (λ (l : List ListedClass). founded l (filter_map class_declared said) ≡ true) (declared_more front d) others)

-- what is known of the classes of a listing that is encoded
pub record IsListed (listing : Listing) : Type 0 where
  pub others : List ListedClass
  pub built_in : listing.classes ≡ built_in_classes ++ others
  pub proper : list_all is_proper listing.classes ≡ true
  pub founds : founded [] listing.classes ≡ true

pub is_listed : (text : List ℕ) (listing : Listing) → EncodesListing text listing → IsListed listing
is_listed text listing encodes =
    let said = encodes.said in
    let others = filter_map class_declared said in
    let are : listing.classes ≡ built_in_classes ++ others = ap (λ (l : Listing). l.classes) encodes.listed in
    let good : list_all is_proper (built_in_classes ++ others) ≡ true = all_after is_proper built_in_classes others built_in_proper (said_proper _ said encodes.encoded) in
    let stand : founded (declared_after []) others ≡ true = said_founded (is_known listing.classes) [] said (λ before after d is. encodes.named before after d is) in
    let all : founded [] (built_in_classes ++ others) ≡ true = founded_after [] built_in_classes others built_in_founded (subst (λ (l : List ListedClass). founded l others ≡ true) (append-nil built_in_classes) stand) in
    record {
      others = others;
      built_in = are;
      proper = subst (λ (l : List ListedClass). list_all is_proper l ≡ true) (sym are) good;
      founds = subst (λ (l : List ListedClass). founded [] l ≡ true) (sym are) all;
    }

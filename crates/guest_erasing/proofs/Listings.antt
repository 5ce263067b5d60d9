-- No class of a listing that was read is below conspec/State.
use Rattle.std.proofs.Common.{◌≡◌, ◌≢◌, ℕ, Bool, true, false, ◌||◌, List, [], ◌∷◌, ◌++◌, refl, sym, ap, subst, ◌∙◌, append_assoc}
use Rattle.std.specs.Prelude.{bytes_eq, not}
use Rattle.std.specs.List.{AllByRecursion, filter_map, list_all}
use Rattle.std.proofs.lemmas.Bool.{false≢true}
use Rattle.std.proofs.lemmas.List.Elements.{filter_map-append}
use Rattle.std.proofs.lemmas.List.Folds.{list_any-append}
use Rattle.api_listing.specs.declared.declaration.Declaration.{Declaration}
use Rattle.api_listing.specs.declared.declaration.Declaration.TheVariants.{Class, Method, Field}
use Rattle.api_listing.specs.declared.types.ListedClass.{ListedClass}
use Rattle.api_listing.specs.declared.types.Listing.{Listing}
use Rattle.api_listing.specs.BuiltIn.{built_in_classes, class_rows}
use Rattle.api_listing.specs.Listing.{AreNamed, AreOnce, EncodesListing, class_declared, is_known, listing_of, own_class, stands_already}
use Rattle.bytecode_model.proofs.Lists.{all_append, not_true}
use Rattle.bytecode_model.proofs.Upwards.{both_of, of_same}
use Rattle.guest_erasing.proofs.Names.{neither}

abbrev IsOther : ListedClass → Type 0
IsOther c = c.parent ≢ own_class

-- the classes that are built in, or declared
abbrev declared : List Declaration → List ListedClass
declared said = built_in_classes ++ filter_map class_declared said

or_false : (a b : Bool) → a ≡ false → b ≡ false → (a || b) ≡ false
or_false true b e f = absurd (false≢true (sym e))
or_false false b e f = f

-- what is known where conspec/State is not is another name
known_other : (some later : List ListedClass) (name : List ℕ) → is_known (some ++ later) own_class ≡ false → is_known some name ≡ true
    → name ≢ own_class
known_other some later name none known same =
    let either : (is_known some own_class || is_known later own_class) ≡ false =
    sym (list_any-append (λ (c : ListedClass). bytes_eq c.name own_class) some later) ∙ none in
    let first = neither (is_known some own_class) (is_known later own_class) either in
    false≢true (sym first.0 ∙ ap (is_known some) (sym same) ∙ known)

-- ---- what is built in

-- The class is not below it.
abbrev is_apart : ListedClass → Bool
is_apart c = not (bytes_eq c.parent own_class)

built_in_unknown : is_known built_in_classes own_class ≡ false
unfolding class_rows
built_in_unknown = refl

built_in_apart : list_all is_apart built_in_classes ≡ true
unfolding class_rows
built_in_apart = refl

apart : (classes : List ListedClass) → list_all is_apart classes ≡ true → AllByRecursion IsOther classes
apart [] e = tt
apart (c ∷ classes) e =
    let both = both_of (is_apart c) (list_all is_apart classes) e in
    (λ same. false≢true (sym (not_true (bytes_eq c.parent own_class) both.0) ∙ of_same c.parent own_class same), apart classes both.1)

-- ---- what is declared

module _ (said : List Declaration) (once : AreOnce said) where
  unnamed_from : (before after : List Declaration) → said ≡ before ++ after → is_known (filter_map class_declared after) own_class ≡ false
  unnamed_from before [] split = refl
  unnamed_from before (Class c ∷ after) split =
      let here = not_true (stands_already (listing_of before) (Class c)) (once before after (Class c) split) in
      or_false (bytes_eq c.name own_class) (is_known (filter_map class_declared after) own_class)
      (neither (is_known (listing_of before).classes c.name) (bytes_eq c.name own_class) here).1
      (unnamed_from (before ++ Class c ∷ []) after (split ∙ sym (append_assoc before (Class c ∷ []) after)))
  unnamed_from before (Method m types ∷ after) split =
      unnamed_from (before ++ Method m types ∷ []) after (split ∙ sym (append_assoc before (Method m types ∷ []) after))
  unnamed_from before (Field id class ∷ after) split =
      unnamed_from (before ++ Field id class ∷ []) after (split ∙ sym (append_assoc before (Field id class ∷ []) after))

module _ (listing : Listing) (said : List Declaration) (named : AreNamed listing said)
    (none : is_known (declared said) own_class ≡ false) where
  others_from : (before after : List Declaration) → said ≡ before ++ after → AllByRecursion IsOther (filter_map class_declared after)
  others_from before [] split = tt
  others_from before (Class c ∷ after) split =
      let known = is_known (declared before) in
      let here = both_of (known c.parent) (list_all known c.interfaces) (named before after (Class c) split) in
      let later = filter_map class_declared (Class c ∷ after) in
      let all : declared said ≡ declared before ++ later =
      ap declared split ∙ ap (λ (xs : List ListedClass). built_in_classes ++ xs) (filter_map-append class_declared before (Class c ∷ after))
      ∙ sym (append_assoc built_in_classes (filter_map class_declared before) later) in
      let free : is_known (declared before ++ later) own_class ≡ false =
      ap (λ (xs : List ListedClass). is_known xs own_class) (sym all) ∙ none in (
        known_other (declared before) later c.parent free here.0,
        others_from (before ++ Class c ∷ []) after (split ∙ sym (append_assoc before (Class c ∷ []) after)),
      )
  others_from before (Method m types ∷ after) split =
      others_from (before ++ Method m types ∷ []) after (split ∙ sym (append_assoc before (Method m types ∷ []) after))
  others_from before (Field id class ∷ after) split =
      others_from (before ++ Field id class ∷ []) after (split ∙ sym (append_assoc before (Field id class ∷ []) after))

-- ---- the listing

module _ (text : List ℕ) (listing : Listing) (h : EncodesListing text listing) where
  unknown_there : is_known (declared h.said) own_class ≡ false
  unknown_there =
      let others = filter_map class_declared h.said in
      list_any-append (λ (c : ListedClass). bytes_eq c.name own_class) built_in_classes others
      ∙ or_false (is_known built_in_classes own_class) (is_known others own_class) built_in_unknown
      (unnamed_from h.said h.once [] h.said refl)

  -- conspec/State is no class of the listing
  pub unknown : is_known listing.classes own_class ≡ false
  unknown = ap (λ (l : Listing). is_known l.classes own_class) h.listed ∙ unknown_there

  pub none_below : AllByRecursion IsOther listing.classes
  none_below =
      subst (λ (l : Listing). AllByRecursion IsOther l.classes) (sym h.listed)
      (all_append IsOther built_in_classes (filter_map class_declared h.said) (apart built_in_classes built_in_apart)
      (others_from listing h.said h.named unknown_there [] h.said refl))

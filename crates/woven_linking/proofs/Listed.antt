-- What holds of the listing that a text encodes: each class is below one before it, and none is the tool's own.
use Rattle.std.proofs.Common.{◌≡◌, ◌≢◌, ℕ, Bool, true, false, ◌||◌, ◌&&◌, List, [], ◌∷◌, ◌++◌, refl, sym, ap, subst, ◌∙◌, append_assoc, append-nil}
use Rattle.std.specs.Prelude.{bytes_eq, filter}
use Rattle.std.specs.List.{AllByRecursion, list_all, list_any, filter_map}
use Rattle.std.proofs.lemmas.Bool.{false≢true}
use Rattle.std.proofs.lemmas.List.Elements.{filter_map-append}
use Rattle.std.proofs.lemmas.List.Folds.{list_any-append}
use Rattle.mon_base.specs.declared.method.MethodId.{MethodId}
use Rattle.api_listing.specs.declared.declaration.Declaration.{Declaration}
use Rattle.api_listing.specs.declared.declaration.Declaration.TheVariants.{Class, Method, Field}
use Rattle.api_listing.specs.declared.types.ListedClass.{ListedClass}
use Rattle.api_listing.specs.declared.types.Listing.{Listing}
use Rattle.api_listing.specs.BuiltIn.{class_rows, built_in_classes, method_rows, is_method, is_built_in}
use Rattle.api_listing.specs.Words.{is_class_name}
use Rattle.api_listing.specs.Lines.{says_something}
use Rattle.api_listing.specs.Listing.{is_known, has_method, own_class, stands_already, listing_of, class_declared, method_declared, AreSaid, AreOnce, AreNamed, EncodesListing}
use Rattle.bytecode_model.proofs.Lists.{not_true}
use Rattle.bytecode_model.proofs.Names.{same_id}
use Rattle.bytecode_model.proofs.Placing.{test_cases}
use Rattle.offset_patch.specs.Entries.{state_name}
use Rattle.offset_patch.specs.Splicing.{way_out}
use Rattle.woven_linking.proofs.Above.{and_both, has_name, ordered}

pub record IsListed (listing : Listing) : Type 0 where
  pub others : List ListedClass
  pub classes : listing.classes ≡ built_in_classes ++ others
  pub placed : ordered built_in_classes others ≡ true
  pub named : AllByRecursion (λ (c : ListedClass). c.name ≢ []) others
  pub free : is_known listing.classes state_name ≡ false
  -- none says the name of the tool's own class
  pub others_say : AllByRecursion (λ (c : ListedClass). AllByRecursion (λ name. name ≢ state_name) c.interfaces) others
  pub out : has_method listing.methods way_out ≡ false

and_left : (a b : Bool) → (a && b) ≡ true → a ≡ true
and_left true b e = refl
and_left false b e = e

or_right : (a b : Bool) → (a || b) ≡ false → b ≡ false
or_right true b e = absurd (false≢true (sym e))
or_right false b e = e

or_false : (a b : Bool) → a ≡ false → b ≡ false → (a || b) ≡ false
or_false true b e f = absurd (false≢true (sym e))
or_false false b e f = f

either : (a b : Bool) (rest : Bool) → a ≡ true → rest ≡ true → ((a || b) && rest) ≡ true
either true b rest e f = f
either false b rest e f = absurd (false≢true e)

-- ---- each class is below one before it

module _ (listing : Listing) (said : List Declaration) (named : AreNamed listing said) where
  placed_from : (before after : List Declaration) → said ≡ before ++ after → ordered (built_in_classes ++ filter_map class_declared before) (filter_map class_declared after) ≡ true
  placed_from before [] split = refl
  placed_from before (Class c ∷ after) split =
      let before' = built_in_classes ++ filter_map class_declared before in
      let here : (is_known before' c.parent && list_all (is_known before') c.interfaces) ≡ true = named before after (Class c) split in
      let longer : built_in_classes ++ filter_map class_declared (before ++ Class c ∷ []) ≡ before' ++ c ∷ [] =
      ap (λ (xs : List ListedClass). built_in_classes ++ xs) (filter_map-append class_declared before (Class c ∷ [])) ∙ sym (append_assoc built_in_classes (filter_map class_declared before) (c ∷ [])) in
      let later = placed_from (before ++ Class c ∷ []) after (split ∙ sym (append_assoc before (Class c ∷ []) after)) in
      either (is_known before' c.parent) (bytes_eq c.parent []) (ordered (before' ++ c ∷ []) (filter_map class_declared after)) (and_left (is_known before' c.parent) (list_all (is_known before') c.interfaces) here)
      (subst (λ (xs : List ListedClass). ordered xs (filter_map class_declared after) ≡ true) longer later)
  placed_from before (Method m types ∷ after) split =
      let same : built_in_classes ++ filter_map class_declared (before ++ Method m types ∷ []) ≡ built_in_classes ++ filter_map class_declared before =
      ap (λ (xs : List ListedClass). built_in_classes ++ xs) (filter_map-append class_declared before (Method m types ∷ []) ∙ append-nil (filter_map class_declared before)) in
      subst (λ (xs : List ListedClass). ordered xs (filter_map class_declared after) ≡ true) same
      (placed_from (before ++ Method m types ∷ []) after (split ∙ sym (append_assoc before (Method m types ∷ []) after)))
  placed_from before (Field id class ∷ after) split =
      let same : built_in_classes ++ filter_map class_declared (before ++ Field id class ∷ []) ≡ built_in_classes ++ filter_map class_declared before =
      ap (λ (xs : List ListedClass). built_in_classes ++ xs) (filter_map-append class_declared before (Field id class ∷ []) ∙ append-nil (filter_map class_declared before)) in
      subst (λ (xs : List ListedClass). ordered xs (filter_map class_declared after) ≡ true) same
      (placed_from (before ++ Field id class ∷ []) after (split ∙ sym (append_assoc before (Field id class ∷ []) after)))

-- ---- and below interfaces before it

module _ (listing : Listing) (said : List Declaration) (named : AreNamed listing said) (none : is_known (built_in_classes ++ filter_map class_declared said) state_name ≡ false) where
  -- what is known is another name
  known_other : (before after : List Declaration) → said ≡ before ++ after → (names : List (List ℕ)) → list_all (is_known (built_in_classes ++ filter_map class_declared before)) names ≡ true
      → AllByRecursion (λ name. name ≢ state_name) names
  known_other before after split [] e = tt
  known_other before after split (name ∷ names) e =
      let some = built_in_classes ++ filter_map class_declared before in
      let later = filter_map class_declared after in
      let all : built_in_classes ++ filter_map class_declared said ≡ some ++ later =
      ap (λ (xs : List Declaration). built_in_classes ++ filter_map class_declared xs) split ∙ ap (λ (xs : List ListedClass). built_in_classes ++ xs) (filter_map-append class_declared before after)
      ∙ sym (append_assoc built_in_classes (filter_map class_declared before) later) in
      let free : (is_known some state_name || is_known later state_name) ≡ false = sym (list_any-append (has_name state_name) some later) ∙ ap (λ (xs : List ListedClass). is_known xs state_name) (sym all) ∙ none in
      let both = and_both (is_known some name) (list_all (is_known some) names) e in (
        λ same. false≢true (sym (or_left_none (is_known some state_name) (is_known later state_name) free) ∙ ap (is_known some) (sym same) ∙ both.0),
        known_other before after split names both.1,
      ) where
        or_left_none : (a b : Bool) → (a || b) ≡ false → a ≡ false
        or_left_none true b e = e
        or_left_none false b e = refl

  say_from : (before after : List Declaration) → said ≡ before ++ after → AllByRecursion (λ (c : ListedClass). AllByRecursion (λ name. name ≢ state_name) c.interfaces) (filter_map class_declared after)
  say_from before [] split = tt
  say_from before (Class c ∷ after) split =
      let known = is_known (built_in_classes ++ filter_map class_declared before) in
      let here = and_both (known c.parent) (list_all known c.interfaces) (named before after (Class c) split) in
      (known_other before (Class c ∷ after) split c.interfaces here.1, say_from (before ++ Class c ∷ []) after (split ∙ sym (append_assoc before (Class c ∷ []) after)))
  say_from before (Method m types ∷ after) split = say_from (before ++ Method m types ∷ []) after (split ∙ sym (append_assoc before (Method m types ∷ []) after))
  say_from before (Field id class ∷ after) split = say_from (before ++ Field id class ∷ []) after (split ∙ sym (append_assoc before (Field id class ∷ []) after))

-- ---- names

pub nameless : is_class_name [] ≡ false
nameless = refl

named_from : (lines : List (List ℕ)) (said : List Declaration) → AreSaid lines said → AllByRecursion (λ (c : ListedClass). c.name ≢ []) (filter_map class_declared said)
named_from [] [] h = tt
named_from [] (d ∷ said) h = absurd h
named_from (line ∷ lines) [] h = tt
named_from (line ∷ lines) (Class c ∷ said) h = (λ e. false≢true (sym nameless ∙ ap is_class_name (sym e) ∙ h.0.name), named_from lines said h.1)
named_from (line ∷ lines) (Method m types ∷ said) h = named_from lines said h.1
named_from (line ∷ lines) (Field id class ∷ said) h = named_from lines said h.1

module _ (said : List Declaration) (once : AreOnce said) where
  free_from : (before after : List Declaration) → said ≡ before ++ after → list_any (has_name state_name) (filter_map class_declared after) ≡ false
  free_from before [] split = refl
  free_from before (Class c ∷ after) split =
      let here = not_true (stands_already (listing_of before) (Class c)) (once before after (Class c) split) in
      or_false (bytes_eq c.name state_name) (list_any (has_name state_name) (filter_map class_declared after)) (or_right (is_known (listing_of before).classes c.name) (bytes_eq c.name own_class) here)
      (free_from (before ++ Class c ∷ []) after (split ∙ sym (append_assoc before (Class c ∷ []) after)))
  free_from before (Method m types ∷ after) split = free_from (before ++ Method m types ∷ []) after (split ∙ sym (append_assoc before (Method m types ∷ []) after))
  free_from before (Field id class ∷ after) split = free_from (before ++ Field id class ∷ []) after (split ∙ sym (append_assoc before (Field id class ∷ []) after))

  built_in_out : is_built_in way_out.class way_out.name way_out.desc ≡ true
  unfolding method_rows
  built_in_out = refl

  out_from : (before after : List Declaration) → said ≡ before ++ after → has_method (filter_map method_declared after) way_out ≡ false
  out_from before [] split = refl
  out_from before (Method m types ∷ after) split =
      let here = or_right (has_method (listing_of before).methods m.id) (is_built_in m.id.class m.id.name m.id.desc) (not_true (stands_already (listing_of before) (Method m types)) (once before after (Method m types) split)) in
      let other : is_method way_out.class way_out.name way_out.desc m.id ≡ false = test_cases (is_method way_out.class way_out.name way_out.desc m.id) (λ b. b ≡ false) (λ e.
      absurd (false≢true (sym here ∙ ap (λ (id : MethodId). is_built_in id.class id.name id.desc) (same_id m.id way_out e) ∙ built_in_out))) (λ e. refl) in
      or_false (is_method way_out.class way_out.name way_out.desc m.id) (has_method (filter_map method_declared after) way_out) other
      (out_from (before ++ Method m types ∷ []) after (split ∙ sym (append_assoc before (Method m types ∷ []) after)))
  out_from before (Class c ∷ after) split = out_from (before ++ Class c ∷ []) after (split ∙ sym (append_assoc before (Class c ∷ []) after))
  out_from before (Field id class ∷ after) split = out_from (before ++ Field id class ∷ []) after (split ∙ sym (append_assoc before (Field id class ∷ []) after))

-- ---- the listing

built_in_free : is_known built_in_classes state_name ≡ false
unfolding class_rows
built_in_free = refl

pub listed : (text : List ℕ) (listing : Listing) → EncodesListing text listing → IsListed listing
listed text listing h =
    let others = filter_map class_declared h.said in
    let are : listing.classes ≡ built_in_classes ++ others = ap (λ (l : Listing). l.classes) h.listed in
    let none : is_known (built_in_classes ++ others) state_name ≡ false = list_any-append (has_name state_name) built_in_classes others
    ∙ or_false (is_known built_in_classes state_name) (is_known others state_name) built_in_free (free_from h.said h.once [] h.said refl) in
    record {
      others = others;
      classes = are;
      placed = subst (λ (xs : List ListedClass). ordered xs others ≡ true) (append-nil built_in_classes) (placed_from listing h.said h.named [] h.said refl);
      named = named_from (filter says_something h.lines) h.said h.encoded;
      free = ap (λ (xs : List ListedClass). is_known xs state_name) are ∙ none;
      others_say = say_from listing h.said h.named none [] h.said refl;
      out = ap (λ (l : Listing). has_method l.methods way_out) h.listed ∙ out_from h.said h.once [] h.said refl;
    }

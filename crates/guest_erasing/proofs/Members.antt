-- The fields of objects, and which given method is nearest, are the same in a program to which conspec/State was added.
use Rattle.std.proofs.Common.{◌≡◌, ◌≢◌, ℕ, zero, suc, Bool, List, [], ◌++◌, length, Option, Some, None, inl, inr, refl, sym, ap, ap₂, subst, ◌∙◌}
use Rattle.std.specs.Prelude.{bytes_eq, ◌&&◌, slice_get, option_map, option_and_then}
use Rattle.std.specs.Option.{option_map_or, option_or}
use Rattle.std.proofs.lemmas.List.{length-map}
use Rattle.api_listing.specs.Listing.{own_class}
use Rattle.bytecode_model.specs.declared.program.LinkedClass.{LinkedClass}
use Rattle.bytecode_model.specs.declared.program.Method.{Method}
use Rattle.bytecode_model.specs.declared.program.Program.{Program}
use Rattle.bytecode_model.specs.Files.{unlinked}
use Rattle.bytecode_model.specs.Heads.{head_of, heads_of}
use Rattle.bytecode_model.specs.SearchOrder.{Name}
use Rattle.bytecode_model.proofs.Placing.{find_at}
use Rattle.guest_heap.specs.declared.value.Value.{Value}
use Rattle.guest_model.specs.Finding.{Given, declared_in, declared_up, given_index, nearest_given}
use Rattle.guest_model.specs.Layout.{class_given, fields_of, fields_up}
use Rattle.guest_model.proofs.Options.{all_get}
use Rattle.guest_erasing.specs.Adding.{AddsState, ClassIsLaid, IsNamedClass, IsNamedClient}
use Rattle.guest_erasing.specs.Laid.{IsLaid}
use Rattle.guest_erasing.specs.Places.{Sites}
use Rattle.guest_erasing.proofs.Endings.{Ends, declared_at, declared_ends, declared_from, fields_end, fields_from}
use Rattle.guest_erasing.proofs.Given.{given_or_not, given_same, one_more}
use Rattle.guest_erasing.proofs.Names.{client_other}
use Rattle.guest_erasing.proofs.Pairs.{alike_place}

module _ (sites_of : Method → Sites) (client woven : Program) (adds : AddsState sites_of client woven) (named : IsNamedClient client) where
  -- after as many classes as are given there is none above
  given_ends : (name : Name) → Ends (length client.classes) (heads_of (unlinked client)) name
  given_ends name =
      let count : length (heads_of (unlinked client)) ≡ length client.classes =
      length-map (unlinked client) head_of ∙ length-map client.classes (λ (c : LinkedClass). c.file) in
      subst (λ (n : ℕ). Ends n (heads_of (unlinked client)) name) count (named.leaves name)

  -- the superclass of a class of the client is not conspec/State
  parent_other : (index : ℕ) (c : LinkedClass) → slice_get client.classes index ≡ Some c → c.parent ≢ own_class
  parent_other index c e = client_other c.parent (all_get IsNamedClass client.classes index c named.given e).above

  woven_index : (name : Name) → name ≢ own_class → given_index woven name ≡ given_index client name
  woven_index = given_same sites_of client woven adds

  -- ---- fields

  class_at_place : (p : Program) (name : Name) (place : Option ℕ) → given_index p name ≡ place
      → class_given p name ≡ option_and_then (slice_get p.classes) place
  class_at_place p name place e =
      find_at (λ (c : LinkedClass). bytes_eq c.name name) p.classes ∙ ap (option_and_then (slice_get p.classes)) e

  fields_in : Program → ℕ → Option LinkedClass → List Value
  fields_in p n found = option_map_or (fields_from p n) found []

  fields_same : (n : ℕ) (name : Name) → name ≢ own_class → fields_up n woven name ≡ fields_up n client name
  unfolding fields_in
  fields_same zero name other = refl
  fields_same (suc n) name other =
      elim (given_or_not sites_of client woven adds name) [
        | inl none ↦
            let old : class_given client name ≡ None = class_at_place client name None none in
            let new : class_given woven name ≡ None = class_at_place woven name None (woven_index name other ∙ none) in
            ap (fields_in woven n) new ∙ ap (fields_in client n) (sym old)
        | inr g ↦
            let old : class_given client name ≡ Some g.old = class_at_place client name (Some g.index) g.placed ∙ g.old_there in
            let new : class_given woven name ≡ Some g.new =
            class_at_place woven name (Some g.index) (woven_index name other ∙ g.placed) ∙ g.new_there in
            let up : fields_up n woven g.new.parent ≡ fields_up n client g.old.parent =
            ap (fields_up n woven) g.laid.parent ∙ fields_same n g.old.parent (parent_other g.index g.old g.old_there) in
            ap (fields_in woven n) new ∙ ap₂ ◌++◌ up g.laid.fields ∙ ap (fields_in client n) (sym old)
      ]

  pub fields_alike : (name : Name) → name ≢ own_class → fields_of woven name ≡ fields_of client name
  fields_alike name other =
      ap (λ (n : ℕ). fields_up n woven name) (one_more sites_of client woven adds) ∙ fields_same (suc (length client.classes)) name other
      ∙ fields_end client named.given (length client.classes) name (given_ends name)

  -- ---- methods

  module _ (name desc : Name) where
    is_the_method : Method → Bool
    is_the_method m = bytes_eq m.name name && bytes_eq m.desc desc

    declared_alike : (old new : LinkedClass) → ClassIsLaid sites_of old new → declared_in name desc new ≡ declared_in name desc old
    unfolding is_the_method
    declared_alike old new laid =
        alike_place (λ (m n : Method). IsLaid (sites_of m) m n) is_the_method is_the_method
        (λ m n h. ap₂ (λ (a b : Name). bytes_eq a name && bytes_eq b desc) h.name h.desc) 0 old.methods new.methods laid.methods

    place_in : Program → ℕ → Option ℕ → Option Given
    place_in p n place = declared_at p name desc n place

    class_in : Program → ℕ → ℕ → Option LinkedClass → Option Given
    class_in p n index found = option_and_then (declared_from p name desc n index) found

    declared_same : (n : ℕ) (class : Name) → class ≢ own_class → declared_up n woven name desc class ≡ declared_up n client name desc class
    unfolding place_in class_in
    declared_same zero class other = refl
    declared_same (suc n) class other =
        let same : declared_up (suc n) woven name desc class ≡ place_in woven n (given_index client class) =
        ap (place_in woven n) (woven_index class other) in
        same ∙ elim (given_or_not sites_of client woven adds class) [
          | inl none ↦ ap (place_in woven n) none ∙ ap (place_in client n) (sym none)
          | inr g ↦
              let up : declared_up n woven name desc g.new.parent ≡ declared_up n client name desc g.old.parent =
              ap (declared_up n woven name desc) g.laid.parent ∙ declared_same n g.old.parent (parent_other g.index g.old g.old_there) in
              let either : Option ℕ → Option Given → Option Given =
              λ own above. option_or (option_map (λ method. (g.index, method)) own) above in
              ap (place_in woven n) g.placed ∙ ap (class_in woven n g.index) g.new_there
              ∙ ap₂ either (declared_alike g.old g.new g.laid) up
              ∙ ap (class_in client n g.index) (sym g.old_there) ∙ ap (place_in client n) (sym g.placed)
        ]

    pub nearest_alike : (class : Name) → class ≢ own_class → nearest_given woven name desc class ≡ nearest_given client name desc class
    nearest_alike class other =
        ap (λ (n : ℕ). declared_up n woven name desc class) (one_more sites_of client woven adds)
        ∙ declared_same (suc (length client.classes)) class other
        ∙ declared_ends client named.given name desc (length client.classes) class (given_ends class)

-- What stands where among the classes of a program to which conspec/State was added.
use Rattle.std.proofs.Common.{◌≡◌, ◌≢◌, ℕ, suc, ◌<◌, Bool, false, cond, List, [], ◌∷◌, ◌++◌, length, map, Option, Some, None, ◌⊎◌, inl, inr, refl, sym, ap, ◌∙◌, append_assoc, arith}
use Rattle.std.specs.Prelude.{bytes_eq, slice_get}
use Rattle.std.specs.List.{position_from}
use Rattle.std.specs.Option.{option_map_or, option_or}
use Rattle.std.proofs.lemmas.List.{map-append, length-append}
use Rattle.mon_base.proofs.Lists.{get_kept, position_below}
use Rattle.api_listing.specs.declared.types.ListedClass.{ListedClass}
use Rattle.api_listing.specs.declared.types.Listing.{Listing}
use Rattle.api_listing.specs.Listing.{own_class}
use Rattle.bytecode_model.specs.declared.program.LinkedClass.{LinkedClass}
use Rattle.bytecode_model.specs.declared.program.Method.{Method}
use Rattle.bytecode_model.specs.declared.program.Program.{Program}
use Rattle.bytecode_model.specs.Classes.{classes_of}
use Rattle.bytecode_model.specs.Heads.{head_of}
use Rattle.bytecode_model.specs.SearchOrder.{Name}
use Rattle.bytecode_model.proofs.Lists.{or_none}
use Rattle.bytecode_model.proofs.Placing.{place_pushed}
use Rattle.guest_model.specs.Calls.{name_at}
use Rattle.guest_model.specs.Finding.{given_index}
use Rattle.guest_model.specs.Places.{class_index}
use Rattle.guest_erasing.specs.Adding.{AddsState, ClassIsLaid}
use Rattle.guest_erasing.specs.Places.{Sites}
use Rattle.guest_erasing.proofs.Names.{other_name}
use Rattle.guest_erasing.proofs.Pairs.{alike_at, alike_length, alike_map, alike_place, stands}

abbrev pub head : LinkedClass → ListedClass
head c = head_of c.file

-- one more that fails the test is not found
not_last : {X : Type 0} (test : X → Bool) (xs : List X) (x : X) → test x ≡ false
    → position_from test 0 (xs ++ x ∷ []) ≡ position_from test 0 xs
not_last test xs x fails =
    place_pushed test xs 0 (length xs) x (omega arith)
    ∙ ap (λ (b : Bool). option_or (position_from test 0 xs) (cond b (Some (length xs)) None)) fails
    ∙ or_none (position_from test 0 xs)

-- A class that the client has by a name, and its counterpart.
pub record IsGiven (sites_of : Method → Sites) (client woven : Program) (name : Name) : Type 0 where
  pub index : ℕ
  pub old : LinkedClass
  pub new : LinkedClass
  pub placed : given_index client name ≡ Some index
  pub old_there : slice_get client.classes index ≡ Some old
  pub new_there : slice_get woven.classes index ≡ Some new
  pub laid : ClassIsLaid sites_of old new

module _ (sites_of : Method → Sites) (client woven : Program) (adds : AddsState sites_of client woven) where
  abbrev Laid : LinkedClass → LinkedClass → Type 0
  Laid = ClassIsLaid sites_of

  -- ---- all classes

  abbrev pub state_head : ListedClass
  state_head = head adds.state

  pub classes_more : classes_of woven ≡ classes_of client ++ state_head ∷ []
  classes_more =
      let heads : map head adds.others ≡ map head client.classes =
      alike_map Laid head head (λ old new h. h.head) client.classes adds.others adds.alike in
      let given : map head woven.classes ≡ map head client.classes ++ state_head ∷ [] =
      ap (λ (cs : List LinkedClass). map head cs) adds.classes ∙ map-append head adds.others (adds.state ∷ [])
      ∙ ap (λ (hs : List ListedClass). hs ++ state_head ∷ []) heads in
      ap (λ (hs : List ListedClass). woven.listing.classes ++ hs) given
      ∙ ap (λ (l : Listing). l.classes ++ (map head client.classes ++ state_head ∷ [])) adds.listing
      ∙ sym (append_assoc client.listing.classes (map head client.classes) (state_head ∷ []))

  pub index_same : (name : Name) → name ≢ own_class → class_index woven name ≡ class_index client name
  index_same name other =
      let fails : bytes_eq state_head.name name ≡ false = other_name state_head.name name (λ e. other (sym e ∙ adds.is_state.head_name)) in
      ap (λ (cs : List ListedClass). position_from (λ (c : ListedClass). bytes_eq c.name name) 0 cs) classes_more
      ∙ not_last (λ (c : ListedClass). bytes_eq c.name name) (classes_of client) state_head fails

  pub name_same : (index : ℕ) → index < length (classes_of client) → name_at (classes_of woven) index ≡ name_at (classes_of client) index
  name_same index within =
      let old = stands (classes_of client) index within in
      let new : slice_get (classes_of client ++ state_head ∷ []) index ≡ Some old.0 =
      get_kept (classes_of client) (state_head ∷ []) index old.0 old.1 in
      ap (λ (cs : List ListedClass). name_at cs index) classes_more
      ∙ ap (λ (o : Option ListedClass). option_map_or (λ (c : ListedClass). c.name) o []) (new ∙ sym old.1)

  -- ---- given classes

  -- a class of the client has its counterpart
  pub class_there : (index : ℕ) (old : LinkedClass) → slice_get client.classes index ≡ Some old
      → (new : LinkedClass) × (slice_get woven.classes index ≡ Some new) × Laid old new
  class_there index old e =
      let found = alike_at Laid client.classes adds.others index old adds.alike e in
      let there : slice_get woven.classes index ≡ Some found.0 =
      ap (λ (cs : List LinkedClass). slice_get cs index) adds.classes ∙ get_kept adds.others (adds.state ∷ []) index found.0 found.1 in
      (found.0, there, found.2)

  pub one_more : length woven.classes ≡ suc (length client.classes)
  one_more =
      let others : length adds.others ≡ length client.classes = alike_length Laid client.classes adds.others adds.alike in
      let count : length woven.classes ≡ length (adds.others ++ adds.state ∷ []) = ap (λ (cs : List LinkedClass). length cs) adds.classes in
      omega (arith, length-append adds.others (adds.state ∷ []))

  abbrev called : Name → LinkedClass → Bool
  called name c = bytes_eq c.name name

  pub given_same : (name : Name) → name ≢ own_class → given_index woven name ≡ given_index client name
  given_same name other =
      let fails : called name adds.state ≡ false = other_name adds.state.name name (λ e. other (sym e ∙ adds.is_state.name)) in
      ap (λ (cs : List LinkedClass). position_from (called name) 0 cs) adds.classes ∙ not_last (called name) adds.others adds.state fails
      ∙ alike_place Laid (called name) (called name) (λ old new h. ap (λ (own : Name). bytes_eq own name) h.name)
      0 client.classes adds.others adds.alike

  -- by a name the client has no class, or one at the place where the woven program has its counterpart
  pub given_or_not : (name : Name) → (given_index client name ≡ None) ⊎ IsGiven sites_of client woven name
  given_or_not name = by (given_index client name) refl where
    by : (o : Option ℕ) → given_index client name ≡ o → (given_index client name ≡ None) ⊎ IsGiven sites_of client woven name
    by None e = inl e
    by (Some index) e =
        let old = stands client.classes index (omega (arith, position_below (called name) 0 client.classes index e)) in
        let new = class_there index old.0 old.1 in
        inr (record { index = index; old = old.0; new = new.0; placed = e; old_there = old.1; new_there = new.1; laid = new.2 })

-- Lists of library classes that classes share.
use Rattle.std.proofs.Common.{◌≡◌, ℕ, zero, suc, ◌+◌, ◌-◌, ◌<◌, ◌≤◌, Bool, true, false, cond, List, [], ◌∷◌, ◌++◌, length, Option, Some, None, refl, sym, ap, subst, ◌∙◌, arith}
use denote.Ref.{Bor}
use Rattle.std.specs.Prelude.{bytes_eq, slice_get, IfSome}
use Rattle.std.specs.List.{filter, list_all}
use Rattle.std.specs.Option.{option_or, option_copied}
use Rattle.std.specs.BTreeSet.{BTreeSet}
use Rattle.std.proofs.lemmas.List.{length-append, length-map}
use Rattle.std.proofs.lemmas.List.Elements.{filter-append}
use Rattle.api_listing.specs.declared.types.ListedClass.{ListedClass}
use Rattle.api_listing.specs.Nearest.{class_named, interfaces_of, names_of, upwards}
use Rattle.api_listing.specs.Seen.{has_name}
use Rattle.bytecode_model.specs.ByName.{noted}
use Rattle.bytecode_model.specs.SearchOrder.{interfaces_from, search_order}
use Rattle.mon_base.proofs.Lists.{get_kept, get_pushed}
use Rattle.bytecode_model.proofs.Lists.{some_is}
use Rattle.bytecode_model.proofs.Placing.{same_name}
use Rattle.bytecode_model.proofs.Upwards.{up_from}
use Rattle.class_index.specs.declared.library.Above.{Above}
use Rattle.class_index.specs.declared.library.Shared.{Shared}
use Rattle.class_index.specs.Library.{may_own, owners_up, AreMemberless, IsShared, AreShared}
use Rattle.class_index.proofs.Aside.{memberless_aside}

module _ (owners : BTreeSet (List ℕ)) (classes : List ListedClass) where
  abbrev order_of : List ListedClass → List (List ℕ)
  order_of up = names_of up ++ interfaces_from classes (interfaces_of up)

  -- ---- a step, and a way of steps

  -- a class that owns nothing and whose interfaces are quiet has above it what its superclass has
  pub step_up : (memberless : BTreeSet (List ℕ)) → AreMemberless owners classes memberless → (name : List ℕ) (c : ListedClass) → class_named classes name ≡ Some c
      → list_all (has_name memberless) c.interfaces ≡ true → may_own owners c.name ≡ false
      → (n : ℕ) → owners_up owners classes (n + 1) name ≡ owners_up owners classes n c.parent
  step_up memberless are name c some plain foreign n =
      let more : n + 1 ≡ suc n = omega arith in
      let above : List ListedClass = upwards n classes c.parent in
      let up : upwards (n + 1) classes name ≡ c ∷ above = ap (λ (k : ℕ). upwards k classes name) more ∙ ap (λ (o : Option ListedClass). up_from classes o n) some in
      let own : List (List ℕ) → List (List ℕ) = filter (may_own owners) in
      let below : List (List ℕ) = interfaces_from classes (c.interfaces ++ interfaces_of above) in
      ap (λ (l : List ListedClass). own (order_of l)) up
      ∙ ap (λ (b : Bool). cond b (c.name ∷ own (names_of above ++ below)) (own (names_of above ++ below))) foreign
      ∙ filter-append (may_own owners) (names_of above) below
      ∙ ap (λ (rest : List (List ℕ)). own (names_of above) ++ rest) (memberless_aside owners classes memberless are c.interfaces (interfaces_of above) plain)
      ∙ sym (filter-append (may_own owners) (names_of above) (interfaces_from classes (interfaces_of above)))

  -- from the class so many steps lead to the other
  abbrev pub LeadsTo : List ℕ → ℕ → List ℕ → Type 0
  LeadsTo name steps end = (n : ℕ) → owners_up owners classes (n + steps) name ≡ owners_up owners classes n end

  pub no_step : (name : List ℕ) → LeadsTo name 0 name
  no_step name n =
      let same : n + 0 ≡ n = omega arith in
      ap (λ (k : ℕ). owners_up owners classes k name) same

  pub one_step : (name at parent : List ℕ) (steps : ℕ) → LeadsTo name steps at → ((n : ℕ) → owners_up owners classes (n + 1) at ≡ owners_up owners classes n parent) → LeadsTo name (steps + 1) parent
  one_step name at parent steps leads step n =
      let same : n + (steps + 1) ≡ (n + 1) + steps = omega arith in
      ap (λ (k : ℕ). owners_up owners classes k name) same ∙ leads (n + 1) ∙ step n

  -- ---- a way up that ends

  short_way : (most n : ℕ) (name : List ℕ) → length (upwards most classes name) < most → length (upwards most classes name) ≤ n → upwards n classes name ≡ upwards most classes name
  short_way zero n name lt le = absurd (omega (arith, lt))
  short_way (suc most) zero name lt le = by (class_named classes name) le where
    by : (o : Option ListedClass) → length (up_from classes o most) ≤ 0 → [] ≡ up_from classes o most
    by None le = refl
    by (Some c) le = absurd (omega (arith, le))
  short_way (suc most) (suc n) name lt le = by (class_named classes name) (short_way most n) lt le where
    by : (o : Option ListedClass) → ((parent : List ℕ) → length (upwards most classes parent) < most → length (upwards most classes parent) ≤ n → upwards n classes parent ≡ upwards most classes parent)
        → length (up_from classes o most) < suc most → length (up_from classes o most) ≤ suc n → up_from classes o n ≡ up_from classes o most
    by None others lt le = refl
    by (Some c) others lt le = ap (λ (l : List ListedClass). c ∷ l) (others c.parent (omega (arith, lt)) (omega (arith, le)))

  -- ---- lists that are known

  -- a list that is made now, after the others
  pub shared_here : (lists : List (List (List ℕ))) (name : List ℕ) (order names : List (List ℕ)) (above : Above) → order ≡ search_order classes name → length order < length classes
      → names ≡ filter (may_own owners) order → above.place ≡ length lists → above.height ≡ length order → IsShared owners classes (lists ++ names ∷ []) name above
  shared_here lists name order names above is few own place height =
      let all : List ListedClass = upwards (length classes) classes name in
      let count : length order ≡ length all + length (interfaces_from classes (interfaces_of all)) =
      ap length is ∙ length-append (names_of all) (interfaces_from classes (interfaces_of all))
      ∙ ap (λ (k : ℕ). k + length (interfaces_from classes (interfaces_of all))) (length-map all (λ (c : ListedClass). c.name)) in
      record {
        names = names;
        there = get_pushed lists names above.place place;
        are = λ n le.
            let short = short_way (length classes) n name (omega (arith, few, count)) (omega (arith, le, height, count)) in
            ap (λ (l : List ListedClass). filter (may_own owners) (order_of l)) short ∙ ap (filter (may_own owners)) (sym is) ∙ sym own;
      }

  pub shared_kept : (lists more : List (List (List ℕ))) (name : List ℕ) (above : Above) → IsShared owners classes lists name above → IsShared owners classes (lists ++ more) name above
  shared_kept lists more name above s = record { names = s.names; there = get_kept lists more above.place s.names s.there; are = s.are }

  -- the list of the class to which steps lead
  pub shared_below : (lists : List (List (List ℕ))) (name end : List ℕ) (steps : ℕ) (above below : Above) → LeadsTo name steps end → IsShared owners classes lists end above
      → below.place ≡ above.place → below.height ≡ above.height + steps → IsShared owners classes lists name below
  shared_below lists name end steps above below leads s place height =
      record {
        names = s.names;
        there = ap (slice_get lists) place ∙ s.there;
        are = λ n le.
            let same : (n - steps) + steps ≡ n = omega (arith, le, height) in
            ap (λ (k : ℕ). owners_up owners classes k name) (sym same) ∙ leads (n - steps) ∙ s.are (n - steps) (omega (arith, le, height));
      }

  -- and one step further up
  pub shared_above : (lists : List (List (List ℕ))) (at parent : List ℕ) (here above : Above) → ((n : ℕ) → owners_up owners classes (n + 1) at ≡ owners_up owners classes n parent)
      → IsShared owners classes lists at here → above.place ≡ here.place → here.height ≡ above.height + 1 → IsShared owners classes lists parent above
  shared_above lists at parent here above step s place height =
      record {
        names = s.names;
        there = ap (slice_get lists) place ∙ s.there;
        are = λ n le. sym (step n) ∙ s.are (n + 1) (omega (arith, le, height));
      }

  -- one class more
  pub with_shared : (old new : Shared) (name : List ℕ) (above : Above) → AreShared owners classes old → new.lists ≡ old.lists → new.memberless ≡ old.memberless → IsShared owners classes old.lists name above
      → ((q : List ℕ) → noted new.places q ≡ option_or (noted old.places q) (cond (bytes_eq name q) (Some above) None)) → AreShared owners classes new
  with_shared old new name above shared lists memberless here puts =
      record {
        known = λ q a found.
            subst (λ (l : List (List (List ℕ))). IsShared owners classes l q a) (sym lists) (by q a (noted old.places q) (bytes_eq name q) refl refl (sym (puts q) ∙ found));
        memberless = subst (λ (set : BTreeSet (List ℕ)). AreMemberless owners classes set) (sym memberless) shared.memberless;
      } where
        by : (q : List ℕ) (a : Above) (o : Option Above) (b : Bool) → noted old.places q ≡ o → bytes_eq name q ≡ b → option_or o (cond b (Some above) None) ≡ Some a → IsShared owners classes old.lists q a
        by q a (Some m) b was same e = shared.known q a (was ∙ ap Some (some_is m a e))
        by q a None true was same e =
            subst (λ (k : Above). IsShared owners classes old.lists q k) (some_is above a e) (subst (λ (x : List ℕ). IsShared owners classes old.lists x above) (same_name name q same) here)
        by q a None false was same e = absurd cc

-- what is said of the list of a place is said of the one that is read there
pub read_there : {X : Type 0} (r : Option (Bor X)) (found : Option X) (P : X → Type 0) → option_copied r ≡ found → ((x : X) → found ≡ Some x → P x) → IfSome r (λ x. P x.now)
read_there None found P same told = tt
read_there (Some x) found P same told = told x.now (sym same)

-- The classes of a program that links with a listing: those of the listing, and then the given ones.
use Rattle.std.proofs.Common.{◌≡◌, ℕ, zero, suc, ◌+◌, Bool, true, false, not, ◌&&◌, List, [], ◌∷◌, ◌++◌, ◌⊎◌, length, Option, Some, None, Ok, Err, refl, sym, ap, subst, ◌∙◌, inl, inr, append_assoc, arith}
use Rattle.mon_base.specs.Answer.{Answers}
use Rattle.std.specs.Prelude.{IfOk, bytes_eq, ◌||◌, ◌&&◌}
use Rattle.std.specs.List.{list_all}
use Rattle.std.specs.Option.{option_map_or}
use Rattle.std.proofs.lemmas.Bool.{cases_Bool, false≢true}
use Rattle.std.proofs.lemmas.List.{length-append}
use Rattle.mon_base.specs.Reading.{◌>>=◌, need}
use Rattle.mon_base.proofs.Reading.{bind_ok, need_ok}
use Rattle.class_codec.specs.declared.tree.ClassFile.{ClassFile}
use Rattle.api_listing.specs.declared.types.ListedClass.{ListedClass}
use Rattle.api_listing.specs.declared.types.Listing.{Listing}
use Rattle.api_listing.specs.BuiltIn.{object, throwable, class_rows, class_of_row, built_in_classes}
use Rattle.api_listing.specs.Listing.{is_known, EncodesListing}
use Rattle.api_listing.specs.Nearest.{class_named, upwards}
use Rattle.api_listing.specs.Words.{is_class_name}
use Rattle.class_linking.proofs.LinkedPlaces.{linked_known, all_are}
use Rattle.class_linking.specs.declared.fault.LinkFault.{LinkFault}
use Rattle.class_linking.specs.declared.fault.LinkFault.TheVariants as faults
use Rattle.bytecode_model.specs.declared.program.Program.{Program}
use Rattle.bytecode_model.specs.declared.program.Side.{Side}
use Rattle.bytecode_model.specs.Classes.{classes_of}
use Rattle.bytecode_model.specs.Conditions.{is_free, stays_within, runs_in_circle, stands_below, is_below_own, is_good_interface, has_supers}
use Rattle.class_linking.specs.ClassConditions.{class_linked, classes_linked}
use Rattle.class_linking.specs.Fault.{Linked}
use Rattle.bytecode_model.specs.Heads.{head_of, heads_of}
use Rattle.class_linking.specs.Linking.{assembled}
use Rattle.bytecode_model.specs.Arrays.{is_array}
use Rattle.bytecode_model.specs.Order.{IsInOrder}
use Rattle.bytecode_model.proofs.Ending.{ended, unnamed_up}
use Rattle.bytecode_model.proofs.Upwards.{one_named, named_after}
use Rattle.class_linking.proofs.Listed.{array_unnamed, is_proper, all_after, nameless, unknown, EndsIn, ends_later, ends_unnamed, ends_above, front_ends, IsListed, is_listed, founded}
use Rattle.bytecode_model.proofs.Upwards.{named_passes}
use Rattle.bytecode_model.proofs.Upwards.{same_of}
use Rattle.bytecode_model.proofs.Lists.{not_true}
use Rattle.bytecode_model.proofs.Upwards.{either_of, both_of, both_are, named_so, is_up, up_from}

-- ---- the given classes

needed : (b : Bool) (fault : LinkFault) (x : Unit {0}) → need b fault ≡ Ok x → b ≡ true
needed true fault x e = refl
needed false fault x e = absurd cc

goes_up : (heads : List ListedClass) (c : ListedClass) → Bool
goes_up heads c = not (runs_in_circle heads c.name)

interface_proper : (a b c : Bool) → (not a || (b && c)) ≡ true → (not a || b) ≡ true
interface_proper true b c e = (both_of b c e).0
interface_proper false b c e = refl

-- a class has the name of one, an interface is below Object, and the way up leaves the given classes
one_given : (side : Side) (heads : List ListedClass) (is_taken : Bool) (c : ListedClass) (file : ClassFile) (x : Unit {0}) → class_linked side heads is_taken c file ≡ Ok x
    → (is_proper c ≡ true) × (goes_up heads c ≡ true)
unfolding goes_up
one_given side heads is_taken c file x e =
    let ending : Linked (Unit {0}) = need (has_supers heads c file.fields) (faults.SuperLeftOut c.name) in
    let free : Linked (Unit {0}) = need (is_free side file) (faults.NameTaken c.name) >>= λ _. ending in
    let once : Linked (Unit {0}) = need (not is_taken) (faults.Twice c.name) >>= λ _. free in
    let first = need_ok (is_class_name c.name) (faults.Name c.name) (λ _. once) x e in
    let second = need_ok (not is_taken) (faults.Twice c.name) (λ _. free) x first.1 in
    let third = need_ok (is_free side file) (faults.NameTaken c.name) (λ _. ending) x second.1 in
    let last = needed (has_supers heads c file.fields) (faults.SuperLeftOut c.name) x third.1 in
    let supers = both_of (stands_below heads c) (is_good_interface c file.fields && not (is_below_own c)) last in
    let below = both_of _ _ supers.0 in
    let way = both_of _ _ below.1 in (
      both_are (is_class_name c.name) _ first.0 (interface_proper c.is_interface (bytes_eq c.parent object) _ (both_of (is_good_interface c file.fields) _ supers.1).0),
      way.1,
    )

each_given : (side : Side) (heads taken : List ListedClass) (files : List ClassFile) (x : Unit {0}) → classes_linked side heads taken files ≡ Ok x
    → (list_all is_proper (heads_of files) ≡ true) × (list_all (goes_up heads) (heads_of files) ≡ true)
each_given side heads taken [] x e = (refl, refl)
each_given side heads taken (file ∷ files) x e =
    let split = bind_ok (class_linked side heads (is_known taken (head_of file).name) (head_of file) file) (λ _. classes_linked side heads (head_of file ∷ taken) files) x e in
    let one = one_given side heads (is_known taken (head_of file).name) (head_of file) file split.0 split.1 in
    let others = each_given side heads (head_of file ∷ taken) files x split.2 in
    (both_are _ _ one.0 others.0, both_are _ _ one.1 others.1)

-- ---- the classes in order

-- what is asked of a program, said of its classes
record Ordered (all : List ListedClass) : Type 0 where
  ends : (name : List ℕ) → upwards (suc (length all)) all name ≡ upwards (length all) all name
  top : (above : List ℕ) → is_up all (length all) object above ≡ true → above ≡ object
  interfaces : (name above : List ℕ) → option_map_or (λ (c : ListedClass). c.is_interface) (class_named all name) false ≡ true → is_up all (length all) name above ≡ true
      → (above ≡ name) ⊎ (above ≡ object)
  thrown : option_map_or (λ (c : ListedClass). c.is_interface) (class_named all throwable) false ≡ false
  no_arrays : (name : List ℕ) → is_array name ≡ true → class_named all name ≡ None

object_first : (others : List ListedClass) → class_named (built_in_classes ++ others) object ≡ Some (class_of_row (object, []))
unfolding class_rows
object_first others = refl

throwable_first : (others : List ListedClass) → class_named (built_in_classes ++ others) throwable ≡ Some (class_of_row (throwable, object))
unfolding class_rows
throwable_first others = refl

module _ (all : List ListedClass) (no_name : class_named all [] ≡ None) (built_in : class_named all object ≡ Some (class_of_row (object, []))) where
  above_object : (n : ℕ) (above : List ℕ) → is_up all n object above ≡ true → above ≡ object
  above_object zero above e = absurd cc
  above_object (suc n) above e =
      let h : (bytes_eq object above || is_up all n [] above) ≡ true = subst (λ (o : Option ListedClass). one_named above (up_from all o n) ≡ true) built_in e in
      elim (either_of (bytes_eq object above) (is_up all n [] above) h) [
        | inl is ↦ sym (same_of object above is)
        | inr later ↦ absurd (unnamed_up all n [] above no_name later)
      ]

  module _ (proper : list_all is_proper all ≡ true) where
    parent_object : (c : ListedClass) → is_proper c ≡ true → c.is_interface ≡ true → c.parent ≡ object
    parent_object c good is =
        let h : (false || bytes_eq c.parent object) ≡ true = subst (λ (b : Bool). (not b || bytes_eq c.parent object) ≡ true) is (both_of (is_class_name c.name) _ good).1 in
        same_of c.parent object h

    above_interface : (n : ℕ) (name above : List ℕ) (found : Option ListedClass) → class_named all name ≡ found → option_map_or (λ (c : ListedClass). c.is_interface) found false ≡ true
        → one_named above (up_from all found n) ≡ true → (above ≡ name) ⊎ (above ≡ object)
    above_interface n name above None same is e = absurd cc
    above_interface n name above (Some c) same is e =
        elim (either_of (bytes_eq c.name above) (is_up all n c.parent above) e) [
          | inl here ↦ inl (sym (same_of c.name above here) ∙ named_so all name c same)
          | inr later ↦
              let top : c.parent ≡ object = parent_object c (named_passes is_proper all name c proper same) is in
              inr (above_object n above (subst (λ (x : List ℕ). is_up all n x above ≡ true) top later))
        ]

    interfaces_below : (n : ℕ) (name above : List ℕ) → option_map_or (λ (c : ListedClass). c.is_interface) (class_named all name) false ≡ true → is_up all n name above ≡ true
        → (above ≡ name) ⊎ (above ≡ object)
    interfaces_below zero name above is e = absurd cc
    interfaces_below (suc n) name above is e = above_interface n name above (class_named all name) refl is e

module _ (listed heads : List ListedClass) (founds : founded [] listed ≡ true) (up : list_all (goes_up heads) heads ≡ true) (no_name : class_named (listed ++ heads) [] ≡ None) where
  abbrev all : List ListedClass
  all = listed ++ heads

  -- the way up leaves the given classes
  leaves : (name : List ℕ) → stays_within (suc (length heads)) heads name ≡ false
  unfolding goes_up
  leaves name = by (class_named heads name) refl where
    by : (o : Option ListedClass) → class_named heads name ≡ o → stays_within (suc (length heads)) heads name ≡ false
    by None e = rw e refl
    by (Some c) e =
        let out : runs_in_circle heads c.name ≡ false = not_true _ (named_passes (goes_up heads) heads name c up e) in
        subst (λ (n : List ℕ). stays_within (suc (length heads)) heads n ≡ false) (named_so heads name c e) out

  listed_ends : (k : ℕ) (name : List ℕ) → is_known listed name ≡ true → EndsIn all no_name (k + length listed) name
  listed_ends zero name known =
      let same : 0 + length listed ≡ length listed = omega arith in
      rw same (front_ends all no_name listed heads refl founds name known)
  listed_ends (suc k) name known =
      let same : suc k + length listed ≡ suc (k + length listed) = omega arith in
      rw same (ends_later all no_name (k + length listed) name (listed_ends k name known))

  given_one : (m k : ℕ) (name : List ℕ) (found : Option ListedClass) → class_named all name ≡ class_named heads name → class_named heads name ≡ found → stays_within (suc k) heads name ≡ false
      → ((c : ListedClass) → class_named all name ≡ Some c → stays_within k heads c.parent ≡ false → EndsIn all no_name m name) → EndsIn all no_name m name
  given_one m k name None same is e more = ends_unnamed all no_name m name (same ∙ is)
  given_one m k name (Some c) same is e more =
      let h : stays_within k heads c.parent ≡ false = subst (λ (o : Option ListedClass). option_map_or (λ (x : ListedClass). stays_within k heads x.parent) o false ≡ false) is e in
      more c (same ∙ is) h

  -- through k given classes, and then up the listed ones
  given_ends : (k : ℕ) (name : List ℕ) → stays_within (suc k) heads name ≡ false → EndsIn all no_name (k + length listed) name
  given_ends zero name e =
      elim (cases_Bool (is_known listed name)) [
        | inl known ↦ listed_ends zero name known
        | inr new ↦
            given_one (zero + length listed) zero name (class_named heads name) (named_after heads name listed (unknown listed name new)) refl e
            (λ c found h. absurd (false≢true (sym h)))
      ]
  given_ends (suc k) name e =
      let count : suc k + length listed ≡ suc (k + length listed) = omega arith in
      elim (cases_Bool (is_known listed name)) [
        | inl known ↦ listed_ends (suc k) name known
        | inr new ↦
            given_one (suc k + length listed) (suc k) name (class_named heads name) (named_after heads name listed (unknown listed name new)) refl e
            (λ c found h. rw count (ends_above all no_name (k + length listed) name c found (given_ends k c.parent h)))
      ]

  each_ends : (name : List ℕ) → upwards (suc (length all)) all name ≡ upwards (length all) all name
  each_ends name =
      let count : length heads + length listed ≡ length all = omega (arith, length-append listed heads) in
      ended all (length all) name (subst (λ (n : ℕ). EndsIn all no_name n name) count (given_ends (length heads) name (leaves name)))

-- ---- the program

-- what linking tells of the classes
record IsGiven (files : List ClassFile) (listing : Listing) (program : Program) : Type 0 where
  whole : classes_of program ≡ listing.classes ++ heads_of files
  proper : list_all is_proper (heads_of files) ≡ true
  up : list_all (goes_up (heads_of files)) (heads_of files) ≡ true

is_given : (files : List ClassFile) (listing : Listing) (main : List ℕ) (side : Side) (program : Program) → assembled files listing main side ≡ Ok program → IsGiven files listing program
is_given files listing main side program e =
    let known = linked_known files listing main side program e in
    let given = each_given side (heads_of files) listing.classes files tt known.named in
    record { whole = all_are files listing program known.listing_is known.back; proper = given.0; up = given.1 }

ordered : (files : List ClassFile) (listing : Listing) (program : Program) → IsListed listing → IsGiven files listing program → Ordered (listing.classes ++ heads_of files)
ordered files listing program listed given =
    let heads = heads_of files in
    let all = listing.classes ++ heads in
    let proper : list_all is_proper all ≡ true = all_after is_proper listing.classes heads listed.proper given.proper in
    let no_name : class_named all [] ≡ None = nameless all [] proper refl in
    let split : all ≡ built_in_classes ++ (listed.others ++ heads) = ap (λ (l : List ListedClass). l ++ heads) listed.built_in ∙ append_assoc built_in_classes listed.others heads in
    let first : class_named all object ≡ Some (class_of_row (object, [])) = ap (λ (l : List ListedClass). class_named l object) split ∙ object_first (listed.others ++ heads) in
    let thrown : class_named all throwable ≡ Some (class_of_row (throwable, object)) = ap (λ (l : List ListedClass). class_named l throwable) split ∙ throwable_first (listed.others ++ heads) in
    record {
      ends = each_ends listing.classes heads listed.founds given.up no_name;
      top = λ above e. above_object all no_name first (length all) above e;
      interfaces = λ name above is e. interfaces_below all no_name first proper (length all) name above is e;
      thrown = ap (λ (o : Option ListedClass). option_map_or (λ (c : ListedClass). c.is_interface) o false) thrown;
      no_arrays = λ name is. nameless all name proper (array_unnamed name is);
    }

in_order : (program : Program) → Ordered (classes_of program) → IsInOrder program
in_order program h = record { ends = h.ends; top = h.top; interfaces = h.interfaces; thrown = h.thrown; no_arrays = h.no_arrays }

pub linked_in_order : (text : List ℕ) (listing : Listing) (files : List ClassFile) (main : List ℕ) (side : Side) (program : Program)
    → EncodesListing text listing → assembled files listing main side ≡ Ok program → IsInOrder program
linked_in_order text listing files main side program encodes e =
    let given = is_given files listing main side program e in
    in_order program (subst Ordered (sym given.whole) (ordered files listing program (is_listed text listing encodes) given))

-- the same of a call that answers what the files link to
pub known : (files : List ClassFile) (listing : Listing) (main : List ℕ) (side : Side) (answer : Linked Program) → Answers faults.Memory answer (assembled files listing main side)
    → IfOk answer (λ program. (text : List ℕ) → EncodesListing text listing → IsInOrder program)
known files listing main side (Ok program) given = λ text encodes. linked_in_order text listing files main side program encodes given
known files listing main side (Err fault) given = tt

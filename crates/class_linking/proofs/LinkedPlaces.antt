-- The classes of a linked program: which files they are of, and that no two have one name.
use Rattle.std.proofs.Common.{◌≡◌, ℕ, zero, suc, ◌+◌, Bool, true, false, not, ◌||◌, List, [], ◌∷◌, ◌++◌, map, Some, None, Ok, refl, sym, ap, subst, ◌∙◌, arith}
use Rattle.std.specs.Prelude.{bytes_eq, slice_get}
use Rattle.std.specs.List.{AllByRecursion}
use Rattle.std.proofs.lemmas.Bool.{false≢true}
use Rattle.std.proofs.lemmas.Slice.Eq.{bytes_eq-Decides}
use Rattle.mon_base.specs.Reading.{◌>>=◌, need}
use Rattle.mon_base.proofs.Reading.{bind_ok, need_ok, ok_is}
use Rattle.class_codec.specs.declared.tree.ClassFile.{ClassFile}
use Rattle.api_listing.specs.declared.types.ListedClass.{ListedClass}
use Rattle.api_listing.specs.declared.types.Listing.{Listing}
use Rattle.api_listing.specs.Listing.{is_known}
use Rattle.class_linking.proofs.Loop.{both_linked}
use Rattle.class_linking.proofs.Parts.{class_parts, program_with, program_parts}
use Rattle.class_linking.proofs.Whole.{classes_back}
use Rattle.class_linking.specs.declared.fault.LinkFault.{LinkFault}
use Rattle.class_linking.specs.declared.fault.LinkFault.TheVariants as faults
use Rattle.bytecode_model.specs.declared.program.LinkedClass.{LinkedClass}
use Rattle.bytecode_model.specs.declared.program.Method.{Method}
use Rattle.bytecode_model.specs.declared.program.Program.{Program}
use Rattle.bytecode_model.specs.declared.program.Side.{Side}
use Rattle.bytecode_model.specs.Classes.{classes_of}
use Rattle.class_linking.specs.ClassConditions.{class_linked, classes_linked}
use Rattle.bytecode_model.specs.Conditions.{is_free, has_supers}
use Rattle.api_listing.specs.Words.{is_class_name}
use Rattle.class_linking.specs.Fault.{Linked, linked_from}
use Rattle.bytecode_model.specs.Heads.{head_of, heads_of, all_classes}
use Rattle.class_linking.specs.Linking.{classes_with, each_method_linked, methods_linked, main_of, assembled}
use Rattle.bytecode_model.specs.LeftMethods.{left_to_library}
use Rattle.bytecode_model.specs.Files.{unlinked}
use Rattle.bytecode_model.specs.Operands.{literals_of}
use Rattle.bytecode_model.proofs.Lists.{some_is, not_true}

-- ---- places

-- what stands after a list that is made item by item
pub item_at : {X Y : Type 0} (f : X → Y) (xs : List X) (i : ℕ) (y : Y) → slice_get (map f xs) i ≡ Some y → (x : X) × (slice_get xs i ≡ Some x) × (f x ≡ y)
item_at f [] i y e = absurd cc
item_at f (x ∷ xs) zero y e = (x, refl, some_is (f x) y e)
item_at f (x ∷ xs) (suc i) y e = item_at f xs i y e

pub made_at : {X Y : Type 0} (f : X → Y) (xs : List X) (i : ℕ) (x : X) → slice_get xs i ≡ Some x → slice_get (map f xs) i ≡ Some (f x)
made_at f [] i x e = absurd cc
made_at f (z ∷ xs) zero x e = ap (λ w. Some (f w)) (some_is z x e)
made_at f (z ∷ xs) (suc i) x e = made_at f xs i x e

-- what the item of a place is linked from
pub linked_of : {X Y : Type 0} (one : ℕ → X → Linked Y) (at : ℕ) (xs : List X) (ys : List Y) (i : ℕ) (y : Y) → linked_from one at xs ≡ Ok ys → slice_get ys i ≡ Some y
    → (x : X) × (slice_get xs i ≡ Some x) × (one (at + i) x ≡ Ok y)
linked_of {Y = Y} one at [] ys i y e found =
    let is : [] ≡ ys = ok_is LinkFault [] ys e in
    let none : slice_get [] i ≡ Some y = ap (λ (zs : List Y). slice_get zs i) is ∙ found in
    absurd cc
linked_of {X = X} {Y = Y} one at (z ∷ xs) ys i y e found =
    let a = bind_ok (one at z) (λ first. linked_from one (at + 1) xs >>= λ others. Ok (first ∷ others)) ys e in
    let b = bind_ok (linked_from one (at + 1) xs) (λ others. Ok (a.0 ∷ others)) ys a.2 in
    let is : a.0 ∷ b.0 ≡ ys = ok_is LinkFault (a.0 ∷ b.0) ys b.2 in
    let here : slice_get (a.0 ∷ b.0) i ≡ Some y = ap (λ (zs : List Y). slice_get zs i) is ∙ found in
    by a.0 b.0 a.1 i here (λ j f. linked_of one (at + 1) xs b.0 j y b.1 f) where
      by : (first : Y) (others : List Y) → one at z ≡ Ok first → (i : ℕ) → slice_get (first ∷ others) i ≡ Some y
          → ((j : ℕ) → slice_get others j ≡ Some y → (x : X) × (slice_get xs j ≡ Some x) × (one (at + 1 + j) x ≡ Ok y)) → (x : X) × (slice_get (z ∷ xs) i ≡ Some x) × (one (at + i) x ≡ Ok y)
      by first others h zero found later =
          let none : at + 0 ≡ at = omega arith in
          (z, refl, ap (λ (n : ℕ). one n z) none ∙ h ∙ ap Ok (some_is first y found))
      by first others h (suc i) found later =
          let r = later i found in
          let n : at + suc i ≡ at + 1 + i = omega arith in
          (r.0, r.1, ap (λ (k : ℕ). one k r.0) n ∙ r.2)

-- ---- names

not_front : (a b : Bool) → (a || b) ≡ false → a ≡ false
not_front true b e = e
not_front false b e = refl

not_others : (a b : Bool) → (a || b) ≡ false → b ≡ false
not_others true b e = absurd (false≢true (sym e))
not_others false b e = e

needed : (b : Bool) (fault : LinkFault) (x : Unit {0}) → need b fault ≡ Ok x → b ≡ true
needed true fault x e = refl
needed false fault x e = absurd cc

-- what a class that links meets
module _ (side : Side) (heads : List ListedClass) where
  record Meets (taken : Bool) (c : ListedClass) (file : ClassFile) : Type 0 where
    named : is_class_name c.name ≡ true
    once : taken ≡ false
    free : is_free side file ≡ true
    supers : has_supers heads c file.fields ≡ true

  meets : (taken : Bool) (c : ListedClass) (file : ClassFile) (x : Unit {0}) → class_linked side heads taken c file ≡ Ok x → Meets taken c file
  meets taken c file x e =
      let last : Linked (Unit {0}) = need (has_supers heads c file.fields) (faults.SuperLeftOut c.name) in
      let free : Linked (Unit {0}) = need (is_free side file) (faults.NameTaken c.name) >>= λ _. last in
      let a = need_ok (is_class_name c.name) (faults.Name c.name) (λ _. need (not taken) (faults.Twice c.name) >>= λ _. free) x e in
      let b = need_ok (not taken) (faults.Twice c.name) (λ _. free) x a.1 in
      let d = need_ok (is_free side file) (faults.NameTaken c.name) (λ _. last) x b.1 in
      record { named = a.0; once = not_true taken b.0; free = d.0; supers = needed (has_supers heads c file.fields) (faults.SuperLeftOut c.name) x d.1 }

  -- the first of some classes, and the others
  record AreLinked (taken : List ListedClass) (file : ClassFile) (files : List ClassFile) : Type 0 where
    first : Meets (is_known taken (head_of file).name) (head_of file) file
    others : classes_linked side heads (head_of file ∷ taken) files ≡ Ok tt

  are_linked : (taken : List ListedClass) (file : ClassFile) (files : List ClassFile) → classes_linked side heads taken (file ∷ files) ≡ Ok tt → AreLinked taken file files
  are_linked taken file files e =
      let a = bind_ok (class_linked side heads (is_known taken (head_of file).name) (head_of file) file) (λ _. classes_linked side heads (head_of file ∷ taken) files) tt e in
      record { first = meets (is_known taken (head_of file).name) (head_of file) file a.0 a.1; others = a.2 }

  -- a class of the files has none of the names that are taken
  pub none_taken : (taken : List ListedClass) (files : List ClassFile) (i : ℕ) (file : ClassFile) → classes_linked side heads taken files ≡ Ok tt → slice_get files i ≡ Some file
      → is_known taken (head_of file).name ≡ false
  none_taken taken [] i file e found = absurd cc
  none_taken taken (f ∷ files) zero file e found = subst (λ (x : ClassFile). is_known taken (head_of x).name ≡ false) (some_is f file found) (are_linked taken f files e).first.once
  none_taken taken (f ∷ files) (suc i) file e found =
      not_others (bytes_eq (head_of f).name (head_of file).name) (is_known taken (head_of file).name) (none_taken (head_of f ∷ taken) files i file (are_linked taken f files e).others found)

  -- What each class of the files meets, apart from names.
  pub record IsGood (file : ClassFile) : Type 0 where
    pub named : is_class_name (head_of file).name ≡ true
    pub free : is_free side file ≡ true
    pub supers : has_supers heads (head_of file) file.fields ≡ true

  pub is_good : (taken : List ListedClass) (files : List ClassFile) (i : ℕ) (file : ClassFile) → classes_linked side heads taken files ≡ Ok tt → slice_get files i ≡ Some file → IsGood file
  is_good taken [] i file e found = absurd cc
  is_good taken (f ∷ files) zero file e found =
      let m = (are_linked taken f files e).first in
      let good : IsGood f = record { named = m.named; free = m.free; supers = m.supers } in
      subst IsGood (some_is f file found) good
  is_good taken (f ∷ files) (suc i) file e found = is_good (head_of f ∷ taken) files i file (are_linked taken f files e).others found

  not_alike : (taken : List ListedClass) (f file : ClassFile) (files : List ClassFile) (i : ℕ) → classes_linked side heads taken (f ∷ files) ≡ Ok tt → slice_get files i ≡ Some file
      → (head_of f).name ≡ (head_of file).name → ⊥
  not_alike taken f file files i e found same =
      let none = none_taken (head_of f ∷ taken) files i file (are_linked taken f files e).others found in
      let apart : bytes_eq (head_of f).name (head_of file).name ≡ false = not_front (bytes_eq (head_of f).name (head_of file).name) (is_known taken (head_of file).name) none in
      false≢true (sym apart ∙ (bytes_eq-Decides (head_of f).name (head_of file).name).1 same)

  -- classes of one name are one
  pub same_place : (taken : List ListedClass) (files : List ClassFile) (i j : ℕ) (f g : ClassFile) → classes_linked side heads taken files ≡ Ok tt → slice_get files i ≡ Some f → slice_get files j ≡ Some g
      → (head_of f).name ≡ (head_of g).name → i ≡ j
  same_place taken [] i j f g e at_i at_j same = absurd cc
  same_place taken (x ∷ files) zero zero f g e at_i at_j same = refl
  same_place taken (x ∷ files) zero (suc j) f g e at_i at_j same = absurd (not_alike taken x g files j e at_j (ap (λ (y : ClassFile). (head_of y).name) (some_is x f at_i) ∙ same))
  same_place taken (x ∷ files) (suc i) zero f g e at_i at_j same = absurd (not_alike taken x f files i e at_i (ap (λ (y : ClassFile). (head_of y).name) (some_is x g at_j) ∙ sym same))
  same_place taken (x ∷ files) (suc i) (suc j) f g e at_i at_j same = ap suc (same_place (head_of x ∷ taken) files i j f g (are_linked taken x files e).others at_i at_j same)

-- ---- the program

-- The class is that of its file, has the methods that this links to, and leaves none to the library.
pub record IsClassOf (files : List ClassFile) (listing : Listing) (class : LinkedClass) : Type 0 where
  pub name : class.name ≡ (head_of class.file).name
  pub methods : each_method_linked files listing class.file ≡ Ok class.methods
  pub left : left_to_library files listing (head_of class.file) ≡ None

-- What is known of a program that files link to.
pub record IsLinkedFrom (files : List ClassFile) (listing : Listing) (main : List ℕ) (side : Side) (program : Program) : Type 0 where
  pub listing_is : program.listing ≡ listing
  pub back : unlinked program ≡ files
  pub literals : program.literals ≡ literals_of files
  pub classes : AllByRecursion (IsClassOf files listing) program.classes
  pub named : classes_linked side (heads_of files) listing.classes files ≡ Ok tt
  pub begin : main_of files main ≡ Some (program.main_class, program.main_method)

module _ (files : List ClassFile) (listing : Listing) where
  classes_are : (at : ℕ) (some : List ClassFile) (methods : List (List Method)) → linked_from (λ i. methods_linked files listing) at some ≡ Ok methods → AllByRecursion (IsClassOf files listing) (classes_with some methods)
  classes_are at [] methods e = tt
  classes_are at (file ∷ some) [] e = tt
  classes_are at (file ∷ some) (first ∷ methods) e =
      let both = both_linked (λ i. methods_linked files listing) at file some first methods e in
      let parts = class_parts files listing file first both.0 in
      (record { name = refl; methods = parts.each; left = parts.left }, classes_are (at + 1) some methods both.1)

  pub linked_known : (main : List ℕ) (side : Side) (program : Program) → assembled files listing main side ≡ Ok program → IsLinkedFrom files listing main side program
  linked_known main side program e =
      let parts = program_parts files listing main side program e in
      let whole : IsLinkedFrom files listing main side (program_with files listing parts.methods (literals_of files) parts.begin) = record {
        listing_is = refl;
        back = classes_back files listing parts.methods parts.each;
        literals = refl;
        classes = classes_are 0 files parts.methods parts.each;
        named = parts.good;
        begin = parts.begins;
      } in
      subst (IsLinkedFrom files listing main side) parts.is whole

  heads_are : (some : List LinkedClass) → map (λ (c : LinkedClass). head_of c.file) some ≡ heads_of (map (λ (c : LinkedClass). c.file) some)
  heads_are [] = refl
  heads_are (c ∷ some) = ap (λ (hs : List ListedClass). head_of c.file ∷ hs) (heads_are some)

  -- the classes of the program are those of the listing and of the files
  pub all_are : (program : Program) → program.listing ≡ listing → unlinked program ≡ files → classes_of program ≡ all_classes listing files
  all_are program listing_is back =
      ap (λ (l : Listing). l.classes ++ map (λ (c : LinkedClass). head_of c.file) program.classes) listing_is
      ∙ ap (λ (hs : List ListedClass). listing.classes ++ hs) (heads_are program.classes ∙ ap heads_of back)

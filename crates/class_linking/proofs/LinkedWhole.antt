-- A program that files link to: each operand names what it should, and each class and method stands where it should.
use Rattle.std.proofs.Common.{◌≡◌, ℕ, suc, ◌+◌, ◌<◌, ◌≤◌, Bool, true, false, not, ◌&&◌, List, [], ◌∷◌, length, Some, Ok, Err, refl, sym, ap, ap₂, subst, ◌∙◌, arith}
use Rattle.std.specs.Prelude.{slice_get, bytes_eq, IfOk}
use Rattle.std.specs.List.{AllByRecursion}
use Rattle.mon_base.specs.Answer.{Answers}
use Rattle.mon_base.specs.declared.method.MethodId.{MethodId}
use Rattle.class_codec.specs.declared.tree.Const.{Const}
use Rattle.class_codec.specs.declared.tree.Member.{Member}
use Rattle.class_codec.specs.declared.tree.ClassFile.{ClassFile}
use Rattle.class_codec.specs.Fits.{FitsMember}
use Rattle.api_listing.specs.declared.types.ListedClass.{ListedClass}
use Rattle.api_listing.specs.declared.types.Listing.{Listing}
use Rattle.api_listing.specs.Listing.{is_known}
use Rattle.api_listing.specs.Words.{is_class_name}
use Rattle.class_linking.specs.declared.fault.LinkFault.TheVariants as faults
use Rattle.bytecode_model.specs.declared.program.Handler.{Handler}
use Rattle.bytecode_model.specs.declared.program.LinkedClass.{LinkedClass}
use Rattle.bytecode_model.specs.declared.program.Method.{Method}
use Rattle.bytecode_model.specs.declared.program.Program.{Program}
use Rattle.bytecode_model.specs.declared.program.Side.{Side}
use Rattle.bytecode_model.specs.Classes.{classes_of}
use Rattle.bytecode_model.specs.Conditions.{has_supers, is_free, overrides_in}
use Rattle.bytecode_model.specs.LeftMethods.{left_to_library}
use Rattle.class_linking.specs.Fault.{Linked}
use Rattle.bytecode_model.specs.Heads.{head_of, heads_of, all_classes, class_at, name_of, desc_of, is_static, is_member, main_name, main_desc, maker}
use Rattle.class_linking.specs.Linking.{assembled, method_linked}
use Rattle.bytecode_model.specs.Files.{unlinked}
use Rattle.bytecode_model.specs.Members.{methods_declared, fields_declared}
use Rattle.bytecode_model.specs.Operands.{literals_of}
use Rattle.bytecode_model.specs.SearchOrder.{search_order}
use Rattle.bytecode_model.specs.Sound.{IsSound, IsSoundClass}
use Rattle.bytecode_model.specs.LinkedClasses.{IsOfMember, CatchesKnown, IsLinkedMethod, AreLinkedClasses, is_main, BeginsIn, AreLiterals, IsLinkedOf}
use Rattle.class_linking.specs.Laws.{LinkedAreNamed}
use Rattle.bytecode_model.specs.Targets.{is_type, IsMethodAt, IsFieldAt, AreNamed}
use Rattle.class_linking.proofs.LinkedBodies.{Catches, IsMethodOf, method_is, allowed_is}
use Rattle.class_linking.proofs.LinkedCalls.{HasOperands, HaveOperands, operand_is, IsLinked, is_linked}
use Rattle.class_linking.proofs.LinkedMain.{main_at}
use Rattle.class_linking.proofs.LinkedPlaces.{item_at, made_at, linked_of, none_taken, is_good, same_place, IsClassOf, IsLinkedFrom, linked_known, all_are}
use Rattle.class_linking.proofs.LinkedTexts.{literals_once}
use Rattle.class_linking.proofs.LinkedUses.{IsMethodDeclared, IsFieldDeclared, IsOf, operand_named}
use Rattle.bytecode_model.proofs.Lists.{some_is, all_get}
use Rattle.class_linking.proofs.Loop.{linked_at, same_length}
use Rattle.class_linking.proofs.Nearest.{all_methods_said, all_fields_said}

-- what holds of each item, by its place
all_from : {X : Type 0} (P : X → Type 0) (xs : List X) → ((i : ℕ) (x : X) → slice_get xs i ≡ Some x → P x) → AllByRecursion P xs
all_from P [] each = tt
all_from P (x ∷ xs) each = (each 0 x refl, all_from P xs (λ i y e. each (suc i) y e))

all_map : {X : Type 0} (P Q : X → Type 0) (xs : List X) → ((x : X) → P x → Q x) → AllByRecursion P xs → AllByRecursion Q xs
all_map P Q [] f all = tt
all_map P Q (x ∷ xs) f all = (f x all.0, all_map P Q xs f all.1)

module _ (files : List ClassFile) (listing : Listing) (main : List ℕ) (side : Side) (program : Program) (known : IsLinkedFrom files listing main side program) (sound : IsSound program) where
  -- ---- the methods of a class

  module _ (own : ℕ) (class : LinkedClass) (there : slice_get program.classes own ≡ Some class) where
    of_file : IsClassOf files listing class
    of_file = all_get (IsClassOf files listing) program.classes own class known.classes there

    sound_class : IsSoundClass class
    sound_class = all_get IsSoundClass program.classes own class sound.classes there

    pub file_there : slice_get files own ≡ Some class.file
    file_there = ap (λ (fs : List ClassFile). slice_get fs own) (sym known.back) ∙ made_at (λ (c : LinkedClass). c.file) program.classes own class there

    -- the method of a member, with what is known of it
    record HasMethod (index : ℕ) (member : Member) : Type 0 where
      method : Method
      here : slice_get class.methods index ≡ Some method
      is : IsMethodOf files listing class.file (0 + index) member method

    method_of_member : (index : ℕ) (member : Member) → slice_get class.file.methods index ≡ Some member → HasMethod index member
    method_of_member index member e =
        let one = linked_at (method_linked files listing class.file) 0 class.file.methods class.methods index member of_file.methods e in
        let fits = all_get (FitsMember class.file.pool true) class.file.methods index member sound_class.fits.methods.each e in
        record { method = one.0; here = one.1; is = method_is files listing class.file (0 + index) member one.0 fits one.2 }

    -- ---- what is declared

    method_stands : (index : ℕ) (member : Member) → slice_get class.file.methods index ≡ Some member
        → IsMethodAt program own index (record { class = class_at class.file.pool class.file.this_class; name = name_of class.file.pool member; desc = desc_of class.file.pool member }) (is_static member.flags)
    method_stands index member e =
        let has = method_of_member index member e in
        let of = has.is.body.of_member in
        record { class = class; method = has.method; there = there; here = has.here; owner = of_file.name; name = of.name; desc = of.desc; flags = ap is_static of.flags }

    field_stands : (index : ℕ) (member : Member) → slice_get class.file.fields index ≡ Some member
        → IsFieldAt program own index (record { class = class_at class.file.pool class.file.this_class; name = name_of class.file.pool member; desc = desc_of class.file.pool member }) (is_static member.flags)
    field_stands index member e = record { class = class; member = member; there = there; here = e; owner = of_file.name; name = refl; desc = refl; flags = refl }

    -- ---- how the class stands

    stands_of : (index : ℕ) (method : Method) → slice_get class.methods index ≡ Some method → IsLinkedMethod program class method
    stands_of index method e =
        let one = linked_of (method_linked files listing class.file) 0 class.file.methods class.methods index method of_file.methods e in
        let fits = all_get (FitsMember class.file.pool true) class.file.methods index one.0 sound_class.fits.methods.each one.1 in
        let is = method_is files listing class.file (0 + index) one.0 method fits one.2 in
        let all = all_are files listing program known.listing_is known.back in
        let of = is.body.of_member in
        let over : ℕ → List ℕ → List ℕ → List ListedClass → Listing → List ℕ → Bool = λ flags n d cs l c.
        not (is_static flags) && (not (bytes_eq n maker) && overrides_in l (record { class = c; name = n; desc = d }) (search_order cs c)) in
        let pool = class.file.pool in
        let rest : over one.0.flags (name_of pool one.0) (desc_of pool one.0) (classes_of program) program.listing class.name ≡ false =
        ap₂ (λ (cs : List ListedClass) (l : Listing). over one.0.flags (name_of pool one.0) (desc_of pool one.0) cs l class.name) all known.listing_is
        ∙ ap (over one.0.flags (name_of pool one.0) (desc_of pool one.0) (all_classes listing files) listing) of_file.name ∙ is.own in
        let catches : (h : Handler) → Catches files listing h → CatchesKnown program h = λ h c name e. ap (λ (cs : List ListedClass). is_type cs true name) all ∙ c name e in
        record {
          allowed = allowed_is pool one.0 method of is.allowed is.body.code;
          own = ap (λ (flags : ℕ). over flags method.name method.desc (classes_of program) program.listing class.name) of.flags
              ∙ ap₂ (λ (n d : List ℕ). over one.0.flags n d (classes_of program) program.listing class.name) of.name of.desc ∙ rest;
          handlers = all_map (Catches files listing) (CatchesKnown program) method.handlers catches is.body.handlers;
        }

    member_is : (index : ℕ) (member : Member) (method : Method) → slice_get class.file.methods index ≡ Some member → slice_get class.methods index ≡ Some method → IsOfMember class.file.pool member method
    member_is index member method e found =
        let has = method_of_member index member e in
        let same : has.method ≡ method = some_is has.method method (sym has.here ∙ found) in
        subst (IsOfMember class.file.pool member) same has.is.body.of_member

  name_is : (own : ℕ) (class : LinkedClass) → slice_get program.classes own ≡ Some class → class.name ≡ (head_of class.file).name
  name_is own class there = (of_file own class there).name

  class_stands : AreLinkedClasses program
  class_stands own class there =
      let heads = heads_of files in
      let name = name_is own class there in
      let good = is_good side heads listing.classes files own class.file known.named (file_there own class there) in
      let free = none_taken side heads listing.classes files own class.file known.named (file_there own class there) in
      record {
        count = same_length (method_linked files listing class.file) 0 class.file.methods class.methods (of_file own class there).methods;
        members = member_is own class there;
        methods = all_from (IsLinkedMethod program class) class.methods (stands_of own class there);
        named = ap is_class_name name ∙ good.named;
        supers = ap (λ (fs : List ClassFile). has_supers (heads_of fs) (head_of class.file) class.file.fields) known.back ∙ good.supers;
        left = ap₂ (λ (fs : List ClassFile) (l : Listing). left_to_library fs l (head_of class.file)) known.back known.listing_is ∙ (of_file own class there).left;
        once = λ other found at same.
            let alike : (head_of found.file).name ≡ (head_of class.file).name = sym (name_is other found at) ∙ same ∙ name in
            same_place side heads listing.classes files other own found.file class.file known.named (file_there other found at) (file_there own class there) alike;
        unlisted = ap₂ (λ (l : Listing) (n : List ℕ). is_known l.classes n) known.listing_is name ∙ free;
      }

  class_free : (own : ℕ) (class : LinkedClass) → slice_get program.classes own ≡ Some class → is_free side class.file ≡ true
  class_free own class there = (is_good side (heads_of files) listing.classes files own class.file known.named (file_there own class there)).free

  -- ---- what is declared

  -- the class of a file
  record IsClassIn (own : ℕ) (file : ClassFile) : Type 0 where
    class : LinkedClass
    there : slice_get program.classes own ≡ Some class
    is : class.file ≡ file

  class_in : (own : ℕ) (file : ClassFile) → slice_get files own ≡ Some file → IsClassIn own file
  class_in own file e =
      let found : slice_get (unlinked program) own ≡ Some file = ap (λ (fs : List ClassFile). slice_get fs own) known.back ∙ e in
      let one = item_at (λ (c : LinkedClass). c.file) program.classes own file found in
      record { class = one.0; there = one.1; is = one.2 }

  abbrev key : ClassFile → Member → MethodId
  key file member = record { class = class_at file.pool file.this_class; name = name_of file.pool member; desc = desc_of file.pool member }

  given_method : (own index : ℕ) (file : ClassFile) (member : Member) → slice_get files own ≡ Some file → slice_get file.methods index ≡ Some member
      → IsMethodAt program own index (key file member) (is_static member.flags)
  given_method own index file member e =
      let c = class_in own file e in
      subst (λ (f : ClassFile). slice_get f.methods index ≡ Some member → IsMethodAt program own index (key f member) (is_static member.flags)) c.is (method_stands own c.class c.there index member)

  given_field : (own index : ℕ) (file : ClassFile) (member : Member) → slice_get files own ≡ Some file → slice_get file.fields index ≡ Some member
      → IsFieldAt program own index (key file member) (is_static member.flags)
  given_field own index file member e =
      let c = class_in own file e in
      subst (λ (f : ClassFile). slice_get f.fields index ≡ Some member → IsFieldAt program own index (key f member) (is_static member.flags)) c.is (field_stands own c.class c.there index member)

  methods_stand : AllByRecursion (IsMethodDeclared program) (methods_declared files listing)
  methods_stand =
      all_methods_said (IsMethodDeclared program) files listing given_method (λ i m e. ap (λ (l : Listing). slice_get l.methods i) known.listing_is ∙ e) (λ i row e. e)

  fields_stand : AllByRecursion (IsFieldDeclared program) (fields_declared files listing)
  fields_stand = all_fields_said (IsFieldDeclared program) files listing given_field (λ i id e. (ap (λ (l : Listing). slice_get l.fields i) known.listing_is ∙ e, refl))

  is_of : IsOf files listing program
  is_of = record {
    listing_is = known.listing_is;
    back = known.back;
    literals = known.literals;
    classes = all_are files listing program known.listing_is known.back;
    methods = methods_stand;
    fields = fields_stand;
  }

  literals_are : AreLiterals program
  literals_are =
      let at : (i : ℕ) (text : List ℕ) → slice_get program.literals i ≡ Some text → slice_get (literals_of files) i ≡ Some text = λ i text e. ap (λ (ts : List (List ℕ)). slice_get ts i) (sym known.literals) ∙ e in
      record {
        are = known.literals ∙ ap literals_of (sym known.back);
        once = λ i j text at_i at_j. literals_once files i j text (at i text at_i) (at j text at_j);
      }

  -- ---- operands

  all_named : IsLinked files listing program → AreNamed program
  all_named is own index at class method insn ref its_class its_method its_insn its_ref =
      let have : HaveOperands files listing class = all_get (HaveOperands files listing) program.classes own class is.classes its_class in
      let has : HasOperands files listing class.file.pool method = all_get (HasOperands files listing class.file.pool) class.methods index method have its_method in
      let links = operand_is files listing class.file.pool method at insn ref has its_insn its_ref in
      let fits = (sound_class own class its_class).fits.pool in
      operand_named files listing program is_of class own (file_there own class its_class) fits insn ref links

  -- ---- the beginning

  begins : BeginsIn main program
  begins =
      let m = main_at 0 files main program.main_class program.main_method known.begin in
      let c = class_in m.place m.file m.found in
      let class_is : m.place ≡ program.main_class = omega (arith, m.is) in
      let method_is : m.first.place ≡ program.main_method = omega (arith, m.first.is) in
      from_main m.place m.file m.first.place class_is method_is m.found m.named m.first.member m.first.found m.first.main m.first.static m.first.before c where
        main_alike : (pool : List Const) (member : Member) (method : Method) → IsOfMember pool member method → is_main method ≡ is_member pool main_name main_desc member
        main_alike pool member method of = ap₂ (λ (n d : List ℕ). bytes_eq n main_name && bytes_eq d main_desc) of.name of.desc

        from_class : (place at : ℕ) (class : LinkedClass) → place ≡ program.main_class → at ≡ program.main_method → slice_get program.classes place ≡ Some class
            → class_at class.file.pool class.file.this_class ≡ main → (member : Member) → slice_get class.file.methods at ≡ Some member → is_member class.file.pool main_name main_desc member ≡ true → is_static member.flags ≡ true
            → ((j : ℕ) (other : Member) → j < at → slice_get class.file.methods j ≡ Some other → is_member class.file.pool main_name main_desc other ≡ false) → BeginsIn main program
        from_class place at class is_class is_method there named member found is static before =
            let has = method_of_member place class there at member found in
            let of = has.is.body.of_member in
            record {
              class = class;
              there = ap (slice_get program.classes) (sym is_class) ∙ there;
              named = name_is place class there ∙ named;
              method = has.method;
              here = ap (slice_get class.methods) (sym is_method) ∙ has.here;
              is = main_alike class.file.pool member has.method of ∙ is;
              first = λ index other lt e.
                  let one = linked_of (method_linked files listing class.file) 0 class.file.methods class.methods index other (of_file place class there).methods e in
                  let less : index < at = omega (arith, lt, is_method) in
                  main_alike class.file.pool one.0 other (member_is place class there index one.0 other one.1 e) ∙ before index one.0 less one.1;
              static = ap is_static of.flags ∙ static;
            }

        from_main : (place : ℕ) (file : ClassFile) (at : ℕ) → place ≡ program.main_class → at ≡ program.main_method → slice_get files place ≡ Some file → class_at file.pool file.this_class ≡ main
            → (member : Member) → slice_get file.methods at ≡ Some member → is_member file.pool main_name main_desc member ≡ true → is_static member.flags ≡ true
            → ((j : ℕ) (other : Member) → j < at → slice_get file.methods j ≡ Some other → is_member file.pool main_name main_desc other ≡ false) → IsClassIn place file → BeginsIn main program
        from_main place file at is_class is_method found named member here is static before c =
            subst (λ (f : ClassFile). class_at f.pool f.this_class ≡ main → slice_get f.methods at ≡ Some member → is_member f.pool main_name main_desc member ≡ true
            → ((j : ℕ) (other : Member) → j < at → slice_get f.methods j ≡ Some other → is_member f.pool main_name main_desc other ≡ false) → BeginsIn main program) c.is
            (λ n h i b. from_class place at c.class is_class is_method c.there n member h i static b) named here is before

-- ---- the law

pub all_linked : LinkedAreNamed
all_linked files listing main side program e sound =
    let known = linked_known files listing main side program e in
    let whole = is_linked files listing main side program e in
    record {
      free = class_free files listing main side program known sound;
      listing_is = known.listing_is;
      literals = literals_are files listing main side program known sound;
      standing = class_stands files listing main side program known sound;
      begins = begins files listing main side program known sound;
      named = all_named files listing main side program known sound whole;
    }

-- the same of a call that answers what the files link to
pub known : (files : List ClassFile) (listing : Listing) (main : List ℕ) (side : Side) (answer : Linked Program)
    → Answers faults.Memory answer (assembled files listing main side) → IfOk answer IsSound → IfOk answer (IsLinkedOf side listing main)
known files listing main side (Ok program) given sound = all_linked files listing main side program given sound
known files listing main side (Err fault) given sound = tt

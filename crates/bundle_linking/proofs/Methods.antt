-- What the methods of a generated bundle link to.
use Rattle.std.proofs.Common.{◌≡◌, ℕ, zero, suc, ◌+◌, Bool, true, false, cond, ◌&&◌, ◌||◌, List, [], ◌∷◌, Option, Some, None, Ok, refl, ap, ◌∙◌}
use Rattle.std.specs.Prelude.{bytes_eq, codes, find, option_and_then, option_map, slice_get}
use Rattle.std.specs.List.{AllByRecursion, flat_map}
use Rattle.std.specs.Option.{option_map_or}
use Rattle.std.proofs.lemmas.Bool.{and_right, or_from}
use Rattle.mon_base.specs.declared.method.MethodId.{MethodId}
use Rattle.class_codec.specs.declared.tree.ClassFile.{ClassFile}
use Rattle.class_codec.specs.declared.tree.Code.{Code}
use Rattle.class_codec.specs.declared.tree.Member.{Member}
use Rattle.insn_codec.specs.declared.insn.Insn.{Insn}
use Rattle.insn_codec.specs.Reading.{code_of}
use Rattle.api_listing.specs.declared.types.ListedClass.{ListedClass}
use Rattle.api_listing.specs.BuiltIn.{is_built_in}
use Rattle.api_listing.specs.Listing.{has_method}
use Rattle.api_listing.specs.Nearest.{names_of}
use Rattle.bytecode_model.specs.declared.program.Method.{Method}
use Rattle.bytecode_model.specs.declared.program.Target.{Target}
use Rattle.bytecode_model.specs.Conditions.{codes_of, is_allowed, is_of_library, overrides, overrides_in}
use Rattle.bytecode_model.specs.Heads.{all_classes, head_of, heads_of, is_interface, name_of, run_name, takes_nothing}
use Rattle.bytecode_model.specs.LeftMethods.{asked_by, asked_by_named, if_interface, is_left, left_in, left_to_library}
use Rattle.bytecode_model.specs.Places.{class_place}
use Rattle.bytecode_model.specs.SearchOrder.{Name, search_order, superclasses}
use Rattle.bytecode_model.proofs.Lists.{all_get}
use Rattle.class_linking.specs.declared.fault.LinkFault.TheVariants as faults
use Rattle.class_linking.specs.Linking.{body_linked, code_linked, each_method_linked, method_linked, methods_linked, with_code}
use Rattle.bundle_gen.specs.Draws.{state_after}
use Rattle.bundle_gen.specs.Generated.{classes_from, main_class, thread_class}
use Rattle.bundle_gen.specs.Linked.{net_listing}
use Rattle.bundle_linking.proofs.Codes.{AreNamed}
use Rattle.bundle_linking.proofs.Heads.{files_from}
use Rattle.bundle_linking.proofs.Lists.{two_tests}

-- ---- codes

-- A code without an exception table, whose operands are known.
pub code_links : (files : List ClassFile) (file : ClassFile) (method : ℕ) (member : Member) (code : Code) (list : List Insn) (refs : List Target) → code.table ≡ []
    → code_of code.code ≡ Ok list → AreNamed files file.pool list refs → code_linked files net_listing file method member code ≡ Ok (with_code file member code list refs [])
code_links files file method member code list refs none read named =
    rw (none, read, named.are (head_of file).name method 0) refl

-- A method that meets its conditions.
pub method_links : (files : List ClassFile) (file : ClassFile) (method : ℕ) (member : Member) (linked : Method) → is_allowed file.pool member ≡ true
    → overrides (all_classes net_listing files) net_listing (head_of file).name file.pool member ≡ false
    → body_linked files net_listing file method member (slice_get (codes_of member) 0) ≡ Ok linked → method_linked files net_listing file method member ≡ Ok linked
method_links files file method member linked allowed own body =
    two_tests (is_allowed file.pool member) (overrides (all_classes net_listing files) net_listing (head_of file).name file.pool member)
    (faults.Method (head_of file).name (name_of file.pool member)) (faults.Overrides (head_of file).name (name_of file.pool member))
    (body_linked files net_listing file method member (slice_get (codes_of member) 0)) allowed own ∙ body

-- ---- conditions of methods

-- `run` is no method of the library's.
run_unowned : (class : Name) → is_of_library net_listing (record { class = class; name = run_name; desc = takes_nothing }) ≡ false
unfolding net_listing
run_unowned class =
    or_from (has_method net_listing.methods (record { class = class; name = run_name; desc = takes_nothing })) (is_built_in class run_name takes_nothing && false)
    (or_from (bytes_eq (codes "api/Net") class && false) ((bytes_eq (codes "api/Net") class && false) || false) (and_right (bytes_eq (codes "api/Net") class) false refl)
    (or_from (bytes_eq (codes "api/Net") class && false) false (and_right (bytes_eq (codes "api/Net") class) false refl) refl))
    (and_right (is_built_in class run_name takes_nothing) false refl)

-- Nor is it in any of some classes.
pub run_in_none : (class : Name) (names : List Name) → overrides_in net_listing (record { class = class; name = run_name; desc = takes_nothing }) names ≡ false
run_in_none class [] = refl
run_in_none class (name ∷ names) =
    or_from (is_of_library net_listing (record { class = name; name = run_name; desc = takes_nothing })) (overrides_in net_listing (record { class = class; name = run_name; desc = takes_nothing }) names)
    (run_unowned name) (run_in_none class names)

-- ---- nothing is left to the library

-- No file is of an interface.
abbrev pub IsClass : ClassFile → Type 0
IsClass file = is_interface file.flags ≡ false

-- No file of a bundle is of one.
pub each_class : (index state sites n classes : ℕ) → AllByRecursion IsClass (files_from index state sites n classes)
unfolding classes_from thread_class main_class
each_class index state sites zero classes = (refl, tt)
each_class index state sites (suc n) classes = (refl, each_class (index + 1) (state_after state sites) sites n classes)

-- So none asks for a method.
none_asks : (files : List ClassFile) (name : Name) → AllByRecursion IsClass files → asked_by_named files name ≡ []
none_asks files name all = by (class_place (heads_of files) name) where
  at : (o : Option ClassFile) → ((file : ClassFile) → o ≡ Some file → IsClass file) → option_map_or (asked_by name) (option_and_then if_interface o) [] ≡ []
  at None is = refl
  at (Some file) is = ap (λ (b : Bool). option_map_or (asked_by name) (cond b (Some file) None) []) (is file refl)

  by : (o : Option ℕ) → option_map_or (asked_by name) (option_and_then (λ (place : ℕ). option_and_then if_interface (slice_get files place)) o) [] ≡ []
  by None = refl
  by (Some place) = at (slice_get files place) (λ file e. all_get IsClass files place file all e)

-- Lists with nothing, joined.
none_of : {X Y : Type 0} (f : X → List Y) (xs : List X) → ((x : X) → f x ≡ []) → flat_map f xs ≡ []
none_of f [] each = refl
none_of f (x ∷ xs) each = rw (each x, none_of f xs each) refl

-- A class leaves no method to the library.
nothing_is_left : (files : List ClassFile) (c : ListedClass) → c.is_interface ≡ false → AllByRecursion IsClass files → left_to_library files net_listing c ≡ None
nothing_is_left files c class all =
    let supers : List Name = names_of (superclasses (all_classes net_listing files) c.name) in
    ap (λ (b : Bool). cond b None (left_in files net_listing c.name)) class
    ∙ ap (λ (ids : List MethodId). option_map (λ (q : MethodId). q.name) (find (is_left files net_listing supers) ids))
    (none_of (asked_by_named files) (search_order (all_classes net_listing files) c.name) (λ name. none_asks files name all))

-- The methods of a class, of which each links.
pub methods_link : (files : List ClassFile) (file : ClassFile) (methods : List Method) → each_method_linked files net_listing file ≡ Ok methods → (head_of file).is_interface ≡ false
    → AllByRecursion IsClass files → methods_linked files net_listing file ≡ Ok methods
methods_link files file methods each class all = rw (each, nothing_is_left files (head_of file) class all) refl

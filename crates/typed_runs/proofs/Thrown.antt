-- What may be thrown: the classes, and new objects of them.
use Rattle.std.proofs.Common.{◌≡◌, ℕ, zero, suc, Bool, true, List, [], ◌∷◌, ◌++◌, length, map, Some, None, refl, sym, ap, subst, ◌∙◌, append_assoc}
use Rattle.std.specs.Prelude.{IsTrue, bytes_eq, option_map}
use Rattle.std.specs.List.{AllByRecursion, Contains, filter_map, list_any}
use Rattle.std.proofs.lemmas.Bool.{and_from, and_parts}
use Rattle.api_listing.specs.declared.types.ListedClass.{ListedClass}
use Rattle.api_listing.specs.declared.types.Listing.{Listing}
use Rattle.api_listing.specs.BuiltIn.{built_in_classes, class_rows, throwable}
use Rattle.api_listing.specs.Listing.{class_declared, is_known}
use Rattle.api_listing.specs.Nearest.{upwards}
use Rattle.cert_format.specs.declared.typing.Typing.{Typing}
use Rattle.cert_format.specs.declared.typing.VType.{VType}
use Rattle.insn_codec.specs.Following.{Paired}
use Rattle.bytecode_model.specs.declared.program.LinkedClass.{LinkedClass}
use Rattle.bytecode_model.specs.declared.program.Program.{Program}
use Rattle.bytecode_model.specs.Classes.{classes_of, is_below}
use Rattle.bytecode_model.specs.Heads.{head_of}
use Rattle.bytecode_model.specs.SearchOrder.{Name}
use Rattle.guest_heap.specs.declared.object.Object.{Object}
use Rattle.guest_heap.specs.declared.value.Value.{Value}
use Rattle.guest_heap.specs.declared.value.Value.TheVariants as values
use Rattle.guest_model.specs.Answers.{may_throw}
use Rattle.guest_model.specs.Parts.{bad_monitor, null_pointer}
use Rattle.guest_model.specs.Throwing.{bare_object}
use Rattle.guest_model.specs.Calling.{second_start}
use Rattle.guest_model.specs.Kinds.{class_of_object, class_of_value}
use Rattle.guest_model.specs.Layout.{class_given}
use Rattle.guest_model.specs.HeapOperations.{bad_cast, bad_division, bad_item, bad_place, bad_size}
use Rattle.typed_runs.specs.Fitting.{HeapFits, ObjectFits, field_types, fits_made, is_of, types_up}
use Rattle.typed_runs.specs.Programs.{IsTypedProgram}
use Rattle.typed_runs.proofs.Above.{below_fits}
use Rattle.typed_runs.proofs.Growing.{get_after, heap_after}
use Rattle.typed_runs.proofs.Listed.{known_apart, known_not_given}
use Rattle.typed_runs.proofs.Types.{of_class}
use Rattle.typed_runs.proofs.Within.{among}

-- ---- the exceptions that the machine throws

-- those of instructions and of built-in methods
abbrev pub thrown_names : List Name
thrown_names = null_pointer ∷ bad_monitor ∷ bad_division ∷ bad_place ∷ bad_item ∷ bad_size ∷ bad_cast ∷ second_start ∷ []

-- whether objects of the class can be thrown, among these classes
abbrev goes_up : List ListedClass → Name → Bool
goes_up classes class = list_any (λ (c : ListedClass). bytes_eq c.name throwable) (upwards (length classes) classes class)

abbrev IsKnown : List ListedClass → Name → Type 0
IsKnown rest name = is_known (built_in_classes ++ rest) name ≡ true

abbrev GoesUp : List ListedClass → Name → Type 0
GoesUp rest name = goes_up (built_in_classes ++ rest) name ≡ true

all_known : (rest : List ListedClass) → AllByRecursion (IsKnown rest) thrown_names
unfolding class_rows
all_known rest = (refl, (refl, (refl, (refl, (refl, (refl, (refl, (refl, tt))))))))

all_go_up : (rest : List ListedClass) → AllByRecursion (GoesUp rest) thrown_names
unfolding class_rows
all_go_up rest = (refl, (refl, (refl, (refl, (refl, (refl, (refl, (refl, tt))))))))

-- ---- what is thrown

-- What is thrown: an object of this class, which is Throwable or below it.
pub record IsThrown (program : Program) (heap : List Object) (v : Value) (class : Name) : Type 0 where
  pub class_is : class_of_value heap v ≡ Some class
  pub thrown : is_of program heap throwable v ≡ true

module _ (program : Program) (typing : Typing) (ok : IsTypedProgram program typing) where
  abbrev heads : List ListedClass
  heads = map (λ (c : LinkedClass). head_of c.file) program.classes

  listing_is : program.listing.classes ≡ built_in_classes ++ filter_map class_declared ok.links.listed.said
  listing_is = ap (λ (l : Listing). l.classes) ok.links.listed.listed

  classes_are : classes_of program ≡ built_in_classes ++ (filter_map class_declared ok.links.listed.said ++ heads)
  classes_are = ap (λ (l : List ListedClass). l ++ heads) listing_is ∙ append_assoc built_in_classes (filter_map class_declared ok.links.listed.said) heads

  pub built_in_thrown : (name : Name) → Contains thrown_names name → IsTrue (may_throw program name)
  built_in_thrown name has =
      let said = filter_map class_declared ok.links.listed.said in
      and_from (is_known program.listing.classes name) (is_below program name throwable)
      (subst (λ (cs : List ListedClass). is_known cs name ≡ true) (sym listing_is) (among (IsKnown said) thrown_names name (all_known said) has))
      (subst (λ (cs : List ListedClass). goes_up cs name ≡ true) (sym classes_are)
      (among (GoesUp (said ++ heads)) thrown_names name (all_go_up (said ++ heads)) has))

  -- ---- classes of the library

  no_types : (n : ℕ) (name : Name) → class_given program name ≡ None → types_up n program name ≡ []
  no_types zero name e = refl
  no_types (suc n) name e = rw e refl

  -- its objects have no fields
  pub bare_fits : (heap : List Object) (name : Name) → is_known program.listing.classes name ≡ true → ObjectFits program heap (bare_object name)
  bare_fits heap name e =
      let none : field_types program name ≡ [] = no_types (length program.classes) name (known_not_given program typing ok name e) in
      (known_apart program typing ok name e, subst (λ (ts : List VType). Paired (fits_made program heap) [] ts) (sym none) tt)

  -- ---- what is thrown

  pub new_is_thrown : (heap : List Object) (class : Name) → IsTrue (may_throw program class)
      → IsThrown program (heap ++ bare_object class ∷ []) (values.Ref (length heap)) class
  new_is_thrown heap class may =
      let new = heap ++ bare_object class ∷ [] in
      let is : class_of_value new (values.Ref (length heap)) ≡ Some class =
      ap (option_map class_of_object) (get_after heap (bare_object class) []) in
      let below = (and_parts (is_known program.listing.classes class) (is_below program class throwable) may).1 in
      record { class_is = is; thrown = of_class program new class throwable (values.Ref (length heap)) is (below_fits program typing ok class throwable below) }

  pub new_thrown_fits : (heap : List Object) (class : Name) → HeapFits program heap → IsTrue (may_throw program class)
      → HeapFits program (heap ++ bare_object class ∷ [])
  new_thrown_fits heap class all may =
      heap_after program heap (bare_object class) all
      (bare_fits (heap ++ bare_object class ∷ []) class (and_parts (is_known program.listing.classes class) (is_below program class throwable) may).0)

-- What operands can link to: a look-up finds what is declared, and a class is told by its name.
use Rattle.std.proofs.Common.{◌≡◌, ℕ, Bool, true, false, List, Ok, Err, subst}
use Rattle.std.specs.Prelude.{if◌then◌else◌, ◌&&◌, is_ok}
use Rattle.std.specs.Bool.{beq}
use Rattle.mon_base.specs.declared.method.MethodId.{MethodId}
use Rattle.mon_base.proofs.Reading.{ok_is}
use Rattle.class_codec.specs.declared.tree.ClassFile.{ClassFile}
use Rattle.api_listing.specs.declared.descriptor.FieldType.{FieldType}
use Rattle.api_listing.specs.declared.types.Listing.{Listing}
use Rattle.api_listing.specs.Descriptor.{method_type, whole_type}
use Rattle.api_listing.specs.Fault.{Read}
use Rattle.bytecode_model.specs.declared.program.Target.{Target}
use Rattle.bytecode_model.specs.declared.program.Target.TheVariants as target
use Rattle.bytecode_model.specs.Arrays.{is_array}
use Rattle.bytecode_model.specs.Heads.{all_classes}
use Rattle.bytecode_model.specs.Members.{Declared, methods_declared, fields_declared, method_of, field_of}
use Rattle.bytecode_model.specs.Operands.{element_is_known}
use Rattle.bytecode_model.specs.SearchOrder.{Name, field_order, search_order}
use Rattle.class_linking.specs.declared.operand_fault.OperandFault.{OperandFault}
use Rattle.class_linking.specs.declared.operand_fault.OperandFault.TheVariants as operand
use Rattle.class_linking.proofs.Nearest.{looked_up, near_said, all_methods_said, all_fields_said}
use Rattle.class_linking.specs.Operands.{array_linked, class_linked, field_fits, field_linked, call_linked}

-- ---- a class

pub class_is : (arrays : Bool) (known : Name → Bool) (text : List ℕ) (t : Target) → class_linked arrays known text ≡ Ok t → target.ClassName text ≡ t
class_is arrays known text t e = by (is_array text) (whole_type text) e where
  one : (b : Bool) → (if b then Ok (target.ClassName text) else Err (operand.Missing text)) ≡ Ok t → target.ClassName text ≡ t
  one true e = ok_is OperandFault (target.ClassName text) t e
  one false e = absurd cc

  by : (b : Bool) (r : Read FieldType)
      → (if b then array_linked arrays known text r else if known text then Ok (target.ClassName text) else Err (operand.Missing text)) ≡ Ok t → target.ClassName text ≡ t
  by true (Err fault) f = absurd cc
  by true (Ok type) f = one (arrays && element_is_known known type.element) f
  by false r f = one (known text) f

-- ---- a field or a method

-- What is said of the target of each declaration is said of what is found.
module _ (P : Target → Type 0) where
  abbrev Declares : Declared → Type 0
  Declares d = P d.1.target

  module _ (files : List ClassFile) (listing : Listing) where
    pub access_is : ((class field : ℕ) → P (target.Field class field)) → ((field : ℕ) → P (target.ApiField field))
        → (static writes : Bool) (id : MethodId) (t : Target) → field_linked files listing static writes id ≡ Ok t → P t
    access_is own api static writes id t e =
        let look = looked_up (is_ok (whole_type id.desc)) (field_of files listing id) (field_fits static writes) (operand.Missing id.name) t e in
        let all = all_fields_said Declares files listing (λ i j file member here there. own i j) (λ i field there. api i) in
        subst P look.is (near_said Declares (fields_declared files listing) id look.found (field_order (all_classes listing files) id.class) all look.there).said

    pub call_is : ((class method : ℕ) → P (target.Method class method)) → ((method : ℕ) → P (target.ApiMethod method)) → ((method : ℕ) → P (target.Builtin method))
        → (static : Bool) (id : MethodId) (t : Target) → call_linked files listing static id ≡ Ok t → P t
    call_is own api built_in static id t e =
        let look = looked_up (is_ok (method_type id.desc)) (method_of files listing id) (λ found. beq found.is_static static) (operand.Missing id.name) t e in
        let all = all_methods_said Declares files listing (λ i j file member here there. own i j) (λ i m there. api i) (λ i row there. built_in i) in
        subst P look.is (near_said Declares (methods_declared files listing) id look.found (search_order (all_classes listing files) id.class) all look.there).said

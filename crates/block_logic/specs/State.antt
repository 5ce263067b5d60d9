-- The class that holds the policy's variables, and whose monitor is the lock: what it has to be. (docs/BLOCKS.md)
use Rattle.std.specs.Prelude.{ℕ, ◌+◌, ◌*◌, ◌==◌, ◌&&◌, Bool, true, false, if◌then◌else◌, bytes_eq, codes, List, [], ◌∷◌, ◌++◌, length, Option, Some, None, slice_get, slice_index}
use Rattle.std.specs.Fmt.{decimal}
use Rattle.std.specs.List.{position_from}
use Rattle.std.specs.Option.{option_map_or, option_or}
use Rattle.std.specs.Ordering.{int_eq}
use Rattle.class_codec.specs.declared.tree.Attr.{Attr}
use Rattle.class_codec.specs.declared.tree.Attr.TheVariants as attributes
use Rattle.class_codec.specs.declared.tree.Const.{Const}
use Rattle.class_codec.specs.declared.tree.Const.TheVariants as constants
use Rattle.class_codec.specs.declared.tree.Member.{Member}
use Rattle.bytecode_model.specs.declared.program.LinkedClass.{LinkedClass}
use Rattle.bytecode_model.specs.Heads.{desc_of, name_of, text_at}
use Rattle.conspec_tree.specs.declared.types.Var.{Var}
use Rattle.conspec_automaton.specs.declared.policy.Policy.{Policy}
use Rattle.block_logic.specs.Operands.{state_name}

-- the number of the class, the first of its name
abbrev pub state_at : List LinkedClass → Option ℕ
state_at classes = position_from (λ (c : LinkedClass). bytes_eq c.name state_name) 0 classes

-- ---- a field

-- v and the number of the variable
abbrev pub field_name : ℕ → List ℕ
field_name var = codes "v" ++ decimal var

abbrev pub field_type : Var → List ℕ
field_type var = if var.is_bool then codes "Z" else codes "I"

-- the constant is the variable's first value
abbrev pub is_first : Var → Option Const → Bool
is_first var None = false
is_first var (Some (constants.Integer n)) = int_eq n var.first
is_first var (Some other) = false

-- two bytes name it
abbrev pub names_first : List Const → Var → List ℕ → Bool
names_first pool var bytes = (length bytes == 2) && is_first var (slice_get pool (256 * slice_index bytes 0 + slice_index bytes 1))

-- the one attribute is the variable's first value
abbrev pub tells_first : List Const → Var → List Attr → Bool
tells_first pool var [] = false
tells_first pool var (attributes.Code code ∷ others) = false
tells_first pool var (attributes.Other other ∷ []) = bytes_eq (text_at pool other.name) (codes "ConstantValue") && names_first pool var other.bytes
tells_first pool var (attributes.Other other ∷ (next ∷ others)) = false

-- a public static field of the variable's name and type, with its first value
abbrev pub is_field_of : List Const → ℕ → Var → Member → Bool
is_field_of pool at var member =
    (member.flags == 0x0009)
    && (bytes_eq (name_of pool member) (field_name at)
    && (bytes_eq (desc_of pool member) (field_type var) && tells_first pool var member.attrs))

-- the first variable, of which the first has this number, whose field is missing or wrong
abbrev pub wrong_field : List Const → ℕ → List Var → List Member → Option ℕ
wrong_field pool at [] fields = None
wrong_field pool at (var ∷ vars) [] = Some at
wrong_field pool at (var ∷ vars) (field ∷ fields) = if is_field_of pool at var field then wrong_field pool (at + 1) vars fields else Some at

-- ---- the class

abbrev pub has_none : {A : Type 0} → List A → Bool
has_none [] = true
has_none (x ∷ xs) = false

-- It is public, and a class and no interface, and has nothing but the fields of the variables.
abbrev pub has_no_more : List Var → LinkedClass → Bool
has_no_more vars class =
    (class.file.flags == 0x0021)
    && (bytes_eq class.parent (codes "java/lang/Object")
    && (has_none class.file.interfaces && (has_none class.methods && (length class.file.fields == length vars))))

abbrev pub class_fault : List Var → LinkedClass → Option ℕ
class_fault vars class = option_or (wrong_field class.file.pool 0 vars class.file.fields) (if has_no_more vars class then None else Some (length vars))

-- The first variable whose field is missing or wrong; or the number of the variables, where the class is missing, or has anything else.
abbrev pub state_fault : List LinkedClass → Policy → Option ℕ
state_fault classes policy =
    option_map_or (λ (at : ℕ). option_map_or (class_fault policy.vars) (slice_get classes at) (Some (length policy.vars))) (state_at classes) (Some (length policy.vars))

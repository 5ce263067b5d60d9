-- The first instruction at which a program is not typed. (docs/TYPING.md)
use Rattle.std.specs.Prelude.{ℕ, zero, suc, ◌+◌, if◌then◌else◌, List, [], ◌∷◌, length, drop, Option, None, option_map}
use Rattle.std.specs.Option.{option_or}
use Rattle.cert_format.specs.declared.typing.Typing.{Typing}
use Rattle.bytecode_model.specs.declared.program.LinkedClass.{LinkedClass}
use Rattle.bytecode_model.specs.declared.program.Method.{Method}
use Rattle.bytecode_model.specs.declared.program.Program.{Program}
use Rattle.bytecode_model.specs.Rules.{Frames}
use Rattle.bytecode_model.specs.Layout.{has_code}
use Rattle.bytecode_model.specs.Typed.{row_in, list_at}
use Rattle.code_typing.specs.declared.fault.TypeFault.{TypeFault}

-- the first of n instructions, from one on, whose row fails
abbrev pub first_row : (ℕ → Option ℕ) → ℕ → ℕ → ℕ → ℕ → Option TypeFault
first_row row class method zero at = None
first_row row class method (suc n) at =
    option_or (option_map (λ (rule : ℕ). record { class = class; method = method; at = at; rule = rule }) (row at)) (first_row row class method n (at + 1))

abbrev pub method_fault : Program → ℕ → LinkedClass → Method → Frames → ℕ → Option TypeFault
method_fault program own class method frames index = first_row (row_in program own class method frames) own index (length method.insns) 0

-- of methods, of which the first has this index
abbrev pub methods_fault : Program → ℕ → LinkedClass → ℕ → List Method → List Frames → Option TypeFault
methods_fault program own class index [] told = None
methods_fault program own class index (m ∷ methods) told =
    if has_code m then option_or (method_fault program own class m (list_at told 0) index) (methods_fault program own class (index + 1) methods (drop 1 told))
    else methods_fault program own class (index + 1) methods told

abbrev pub classes_fault : Program → ℕ → List LinkedClass → List (List Frames) → Option TypeFault
classes_fault program own [] told = None
classes_fault program own (class ∷ classes) told =
    option_or (methods_fault program own class 0 class.methods (list_at told 0)) (classes_fault program (own + 1) classes (drop 1 told))

-- the first instruction whose row fails, by class, method and instruction, and the rule
abbrev pub typing_fault : Program → Typing → Option TypeFault
typing_fault program typing = classes_fault program 0 program.classes typing.frames

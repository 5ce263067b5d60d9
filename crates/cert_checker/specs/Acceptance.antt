-- The first test of the check that fails. (docs/CERTIFICATES.md)
use Rattle.std.specs.Prelude.{ℕ, ◌+◌, ◌==◌, ◌&&◌, if◌then◌else◌, List, [], ◌∷◌, length, map, drop, sum_by, count_by, Option, Some, None, Result, Ok, Err}
use Rattle.bytecode_model.specs.declared.program.LinkedClass.{LinkedClass}
use Rattle.bytecode_model.specs.declared.program.Method.{Method}
use Rattle.bytecode_model.specs.declared.program.Program.{Program}
use Rattle.cert_format.specs.declared.certificate.Certificate.{Certificate}
use Rattle.cert_format.specs.declared.note.Note.{Note}
use Rattle.cert_format.specs.declared.typing.FrameType.{FrameType}
use Rattle.code_typing.specs.declared.fault.TypeFault.{TypeFault}
use Rattle.bytecode_model.specs.Layout.{has_code, coded}
use Rattle.code_typing.specs.First.{typing_fault}
use Rattle.bytecode_model.specs.Typed.{list_at}
use Rattle.conspec_automaton.specs.declared.policy.Policy.{Policy}
use Rattle.cert_checker.specs.declared.fault.CheckFault.{CheckFault}
use Rattle.cert_checker.specs.declared.fault.CheckFault.TheVariants.{Shape, Typing, StateClass, Local}
use Rattle.cert_checker.specs.declared.checking.Accepted.{Accepted}
use Rattle.block_logic.specs.Annotations.{annotations_of}
use Rattle.block_logic.specs.Accepted.{reached_fault, rules_of}
use Rattle.block_logic.specs.Operands.{has_clause}
use Rattle.block_logic.specs.Rows.{Rules}
use Rattle.block_logic.specs.State.{state_fault}
use Rattle.cert_checker.specs.Places.{or_else, placed, first_from}

-- ---- shape

-- the first place at which the three lists have not the same number
abbrev pub differ : ℕ → List ℕ → List ℕ → List ℕ → Option ℕ
differ at [] [] [] = None
differ at (x ∷ xs) (y ∷ ys) (z ∷ zs) = if (x == y) && (x == z) then differ (at + 1) xs ys zs else Some at
differ at xs ys zs = Some at

-- the first method with code of which not all three have the same number of instructions
abbrev pub methods_differ : {A B : Type 0} → List Method → List (List A) → List (List B) → Option ℕ
methods_differ methods frames notes = differ 0 (map (λ (m : Method). length m.insns) (coded methods)) (map length frames) (map length notes)

-- the first class that not all three have, with 0, or the first method at which they differ
abbrev pub classes_differ : {A B : Type 0} → ℕ → List LinkedClass → List (List (List A)) → List (List (List B)) → Option (ℕ × ℕ)
classes_differ at [] [] [] = None
classes_differ at (c ∷ classes) (f ∷ frames) (n ∷ notes) = or_else (placed at (methods_differ c.methods f n)) (classes_differ (at + 1) classes frames notes)
classes_differ at classes frames notes = Some (at, 0)

abbrev pub shape_fault : Program → Certificate → Option (ℕ × ℕ)
shape_fault program certificate = classes_differ 0 program.classes certificate.typing.frames certificate.notes

-- ---- notes

-- the first instruction of a method whose note is wrong, and its rule
abbrev pub in_method : Rules → List (Option FrameType) → List Note → Method → Option (ℕ × ℕ)
in_method rules frames told method = first_from (reached_fault rules frames told method) 0 (length method.insns)

-- the same of the methods of a class, of which the first has this index
abbrev pub in_methods : Rules → ℕ → List Method → List (List (Option FrameType)) → List (List Note) → Option (ℕ × (ℕ × ℕ))
in_methods rules at [] frames notes = None
in_methods rules at (m ∷ ms) frames notes =
    if has_code m then or_else (placed at (in_method rules (list_at frames 0) (list_at notes 0) m)) (in_methods rules (at + 1) ms (drop 1 frames) (drop 1 notes))
    else in_methods rules (at + 1) ms frames notes

abbrev pub in_classes : Rules → ℕ → List LinkedClass → List (List (List (Option FrameType))) → List (List (List Note)) → Option (ℕ × (ℕ × (ℕ × ℕ)))
in_classes rules at [] frames notes = None
in_classes rules at (c ∷ cs) frames notes =
    or_else (placed at (in_methods rules 0 c.methods (list_at frames 0) (list_at notes 0))) (in_classes rules (at + 1) cs (drop 1 frames) (drop 1 notes))

-- class, method, instruction and rule of the first note that is wrong
abbrev pub notes_fault : Program → Policy → Certificate → Option (ℕ × (ℕ × (ℕ × ℕ)))
notes_fault program policy certificate = in_classes (rules_of program policy (annotations_of certificate)) 0 program.classes certificate.typing.frames certificate.notes

-- ---- the answer

-- how many calls of methods that the policy has clauses for stand in the code
abbrev pub sites_of : Program → Policy → ℕ
sites_of program policy = sum_by (λ (class : LinkedClass). sum_by (λ (method : Method). count_by (has_clause policy) method.refs) class.methods) program.classes

abbrev pub shape_verdict : Option (ℕ × ℕ) → Result Accepted CheckFault → Result Accepted CheckFault
shape_verdict None later = later
shape_verdict (Some place) later = Err (Shape place.0 place.1)

abbrev pub typing_verdict : Option TypeFault → Result Accepted CheckFault → Result Accepted CheckFault
typing_verdict None later = later
typing_verdict (Some fault) later = Err (Typing fault.class fault.method fault.at fault.rule)

-- by the first field that is not as a variable of the policy has it
abbrev pub state_verdict : Option ℕ → Result Accepted CheckFault → Result Accepted CheckFault
state_verdict None later = later
state_verdict (Some field) later = Err (StateClass field)

abbrev pub notes_verdict : Option (ℕ × (ℕ × (ℕ × ℕ))) → Result Accepted CheckFault → Result Accepted CheckFault
notes_verdict None later = later
notes_verdict (Some found) later = Err (Local found.0 found.1.0 found.1.1.0 found.1.1.1)

-- The first test that fails, at its first place.
abbrev pub verdict : Program → Policy → Certificate → Result Accepted CheckFault
verdict program policy certificate =
    shape_verdict (shape_fault program certificate)
    (typing_verdict (typing_fault program certificate.typing)
    (state_verdict (state_fault program.classes policy)
    (notes_verdict (notes_fault program policy certificate)
    (Ok (record { mode = certificate.mode; sites = sites_of program policy })))))

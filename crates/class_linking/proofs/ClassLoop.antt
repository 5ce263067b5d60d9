-- The conditions of classes, one class after the other.
use Rattle.std.proofs.Common.{◌≡◌, Bool, true, false, List, [], ◌∷◌, map, Ok, refl, sym, ap, ◌∙◌}
use Rattle.std.specs.Prelude.{IsTrue, ◌↔◌}
use Rattle.mon_base.specs.Reading.{◌>>=◌}
use Rattle.class_codec.specs.declared.tree.ClassFile.{ClassFile}
use Rattle.api_listing.specs.declared.types.ListedClass.{ListedClass}
use Rattle.api_listing.specs.BuiltIn.{throwables}
use Rattle.api_listing.specs.Listing.{is_known}
use Rattle.class_linking.specs.declared.class_conditions.TheConstants.{THROWABLES}
use Rattle.class_linking.specs.declared.fault.LinkFault.{LinkFault}
use Rattle.bytecode_model.specs.declared.program.Side.{Side}
use Rattle.mon_base.specs.Answer.{Fails}
use Rattle.class_linking.specs.Fault.{Linked}
use Rattle.bytecode_model.specs.Heads.{head_of}
use Rattle.class_linking.specs.ClassConditions.{class_linked, classes_linked}
use Rattle.mon_base.proofs.Answering.{through}
use Rattle.class_linking.specs.declared.fault.LinkFault.TheVariants as faults

pub class_goes_on : (side : Side) (heads taken : List ListedClass) (all rest : List ClassFile) (file : ClassFile) (total : Linked (Unit {0})) (b : Bool) → all ≡ file ∷ rest
    → is_known taken (head_of file).name ≡ b → class_linked side heads b (head_of file) file ≡ Ok tt → classes_linked side heads taken all ≡ total
    → classes_linked side heads (head_of file ∷ taken) rest ≡ total
class_goes_on side heads taken all rest file total b split known ok so_far =
    let next : Linked (Unit {0}) → Linked (Unit {0}) = λ r. r >>= λ _. classes_linked side heads (head_of file ∷ taken) rest in
    ap next (sym ok) ∙ ap (λ (x : Bool). next (class_linked side heads x (head_of file) file)) (sym known) ∙ ap (classes_linked side heads taken) (sym split) ∙ so_far

pub class_ends : (e : LinkFault) (side : Side) (heads taken : List ListedClass) (all rest : List ClassFile) (file : ClassFile) (total : Linked (Unit {0})) (b : Bool) → all ≡ file ∷ rest
    → is_known taken (head_of file).name ≡ b → Fails faults.Memory e (class_linked side heads b (head_of file) file) → classes_linked side heads taken all ≡ total → Fails faults.Memory e total
class_ends e side heads taken all rest file total b split known fails so_far =
    let next : Linked (Unit {0}) → Linked (Unit {0}) = λ r. r >>= λ _. classes_linked side heads (head_of file ∷ taken) rest in
    through faults.Memory e (class_linked side heads b (head_of file) file) total
    (λ err. sym so_far ∙ ap (classes_linked side heads taken) split ∙ ap (λ (x : Bool). next (class_linked side heads x (head_of file) file)) known ∙ ap next err) fails

pub class_done : (side : Side) (heads taken : List ListedClass) (all : List ClassFile) (total : Linked (Unit {0})) → all ≡ [] → classes_linked side heads taken all ≡ total → total ≡ Ok tt
class_done side heads taken all total none so_far = sym so_far ∙ ap (classes_linked side heads taken) none

pub throwables_are : map (λ t. t.now) THROWABLES ≡ throwables
throwables_are = refl

pub same_true : (a b : Bool) → (IsTrue a ↔ IsTrue b) → a ≡ b
same_true true b e = sym (e.0 refl)
same_true false true e = e.1 refl
same_true false false e = refl

-- How a thread of a typed program that waits in a call of the library can be answered. (docs/RUNS.md)
use Rattle.std.specs.Prelude.{◌≡◌, ℕ, pos, true, false, List, [], Some, None}
use Rattle.api_listing.specs.declared.descriptor.Element.TheVariants as elements
use Rattle.api_listing.specs.declared.descriptor.FieldType.{FieldType}
use Rattle.api_listing.specs.declared.descriptor.MethodType.{MethodType}
use Rattle.api_listing.specs.declared.events.ApiAnswer.TheVariants as answers
use Rattle.api_listing.specs.declared.events.ApiCall.{ApiCall}
use Rattle.api_listing.specs.Descriptor.{EncodesDescriptor}
use Rattle.cert_format.specs.declared.typing.Typing.{Typing}
use Rattle.bytecode_model.specs.declared.program.Program.{Program}
use Rattle.bytecode_model.specs.SearchOrder.{Name}
use Rattle.guest_model.specs.declared.machine.Machine.{Machine}
use Rattle.guest_model.specs.declared.machine.Step.{Step}
use Rattle.guest_model.specs.Asking.{is_enabled, takes_answer}
use Rattle.guest_model.specs.Kinds.{string}
use Rattle.guest_model.specs.LibraryCalls.{call_asked}
use Rattle.guest_model.specs.Numbers.{is_of_numbers}
use Rattle.guest_model.specs.Runs.{exec}
use Rattle.typed_runs.specs.Programs.{ImplementsInterfaces, IsTypedProgram}

-- the type of the objects of a class
abbrev pub objects_of : Name → FieldType
objects_of class = record { dimensions = 0; element = elements.Class class }

-- The thread takes, by the type of the result of the method that it waits in: nothing where there is none, 0 for a number, null for
-- any other, the empty text for a String; and for the method's own class the receiver, if there is one, where the listing has
-- interfaces alone after `implements`.
pub record TakesByType (program : Program) (machine : Machine) (thread : ℕ) (call : ApiCall) : Type 0 where
  pub types : MethodType
  pub described : EncodesDescriptor call.method.desc types
  pub nothing : types.result ≡ None → takes_answer program machine thread answers.Nothing ≡ true
  pub number : (t : FieldType) → types.result ≡ Some t → is_of_numbers t ≡ true → takes_answer program machine thread (answers.Int (pos 0)) ≡ true
  pub null : (t : FieldType) → types.result ≡ Some t → is_of_numbers t ≡ false → takes_answer program machine thread answers.Null ≡ true
  pub text : types.result ≡ Some (objects_of string) → takes_answer program machine thread (answers.Text []) ≡ true
  pub receiver : ImplementsInterfaces program → call.instance ≡ true → types.result ≡ Some (objects_of call.method.class)
      → takes_answer program machine thread answers.Receiver ≡ true

-- Whatever the steps are, so does each thread that can make a step and waits for an answer.
abbrev pub AnswersFitByType : Type 0
AnswersFitByType =
    (program : Program) (typing : Typing) → IsTypedProgram program typing → (steps : List Step) (thread : ℕ) (call : ApiCall)
    → is_enabled program (exec program steps) thread ≡ true → call_asked program (exec program steps) thread ≡ Some call
    → TakesByType program (exec program steps) thread call

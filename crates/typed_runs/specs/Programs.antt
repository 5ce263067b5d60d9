-- The programs that the laws are about: those that files link to, with a listing that was read and a typing that meets the rules.
-- (docs/MACHINE.md)
use Rattle.std.specs.Prelude.{IsTrue, List, ℕ}
use Rattle.std.specs.List.{list_all}
use Rattle.api_listing.specs.declared.types.ListedClass.{ListedClass}
use Rattle.api_listing.specs.Listing.{EncodesListing}
use Rattle.cert_format.specs.declared.typing.Typing.{Typing}
use Rattle.bytecode_model.specs.declared.program.Program.{Program}
use Rattle.bytecode_model.specs.declared.program.Side.{Side}
use Rattle.bytecode_model.specs.Classes.{is_interface}
use Rattle.bytecode_model.specs.Order.{IsInOrder}
use Rattle.bytecode_model.specs.Sound.{IsSound}
use Rattle.bytecode_model.specs.LinkedClasses.{IsLinkedOf}
use Rattle.bytecode_model.specs.Typed.{IsTyped}

-- Class files link to the program, over a listing that was read.
pub record IsLinkedProgram (program : Program) : Type 0 where
  pub side : Side
  pub main : List ℕ
  pub text : List ℕ
  pub listed : EncodesListing text program.listing
  pub linked : IsLinkedOf side program.listing main program
  pub sound : IsSound program
  pub order : IsInOrder program

-- It is such a program, and the typing meets the rules.
pub record IsTypedProgram (program : Program) (typing : Typing) : Type 0 where
  pub links : IsLinkedProgram program
  pub typed : IsTyped program typing

-- Its listing has interfaces alone after `implements`. One may be read that has other classes there.
abbrev pub ImplementsInterfaces : Program → Type 0
ImplementsInterfaces program = IsTrue (list_all (λ (c : ListedClass). list_all (is_interface program) c.interfaces) program.listing.classes)

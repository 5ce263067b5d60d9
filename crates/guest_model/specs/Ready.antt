-- What is known of a program that is ready to run. (docs/MACHINE.md)
use Rattle.bytecode_model.specs.declared.program.Program.{Program}
use Rattle.bytecode_model.specs.Order.{IsInOrder}
use Rattle.bytecode_model.specs.Sound.{IsSound}
use Rattle.bytecode_model.specs.LinkedClasses.{AreLinkedClasses}
use Rattle.bytecode_model.specs.Targets.{AreNamed}

pub record IsReady (program : Program) : Type 0 where
  pub sound : IsSound program
  pub standing : AreLinkedClasses program
  pub named : AreNamed program
  pub order : IsInOrder program

-- What holds of each linked program. (docs/LINKING.md)
use Rattle.std.specs.Prelude.{◌≡◌, ℕ, ◌^◌, ◌<◌, ◌≤◌, length, option_and_then, slice_get, IsSomeAnd}
use Rattle.std.specs.List.{AllByRecursion}
use Rattle.class_codec.specs.Fits.{IsEncodable}
use Rattle.insn_codec.specs.Fits.{IsInsn, AimsWithin, Ends}
use Rattle.api_listing.specs.Listing.{IsFew}
use Rattle.bytecode_model.specs.declared.program.Handler.{Handler}
use Rattle.bytecode_model.specs.declared.program.LinkedClass.{LinkedClass}
use Rattle.bytecode_model.specs.declared.program.Method.{Method}
use Rattle.bytecode_model.specs.declared.program.Program.{Program}
use Rattle.bytecode_model.specs.Heads.{class_at}

-- A handler covers instructions of the code and is one of them.
pub record IsWithin (count : ℕ) (handler : Handler) : Type 0 where
  pub from : handler.from < count
  pub to : handler.to ≤ count
  pub at : handler.at < count

-- Each instruction is one of the table and has an operand's target, and control stays in the code.
pub record IsSoundMethod (method : Method) : Type 0 where
  pub few : length method.insns < 2 ^ 16
  pub refs : length method.refs ≡ length method.insns
  pub insns : AllByRecursion IsInsn method.insns
  pub targets : AllByRecursion (AimsWithin (length method.insns)) method.insns
  pub ends : Ends method.insns
  pub few_handlers : length method.handlers < 2 ^ 16
  pub handlers : AllByRecursion (IsWithin (length method.insns)) method.handlers

pub record IsSoundClass (class : LinkedClass) : Type 0 where
  pub fits : IsEncodable class.file
  pub name : class.name ≡ class_at class.file.pool class.file.this_class
  pub parent : class.parent ≡ class_at class.file.pool class.file.super_class
  pub few : length class.methods < 2 ^ 16
  pub methods : AllByRecursion IsSoundMethod class.methods

-- The main method has code. A program that was woven has one class more than files may be given.
pub record IsSound (program : Program) : Type 0 where
  pub few : length program.classes ≤ 1001
  pub listed : IsFew program.listing
  pub classes : AllByRecursion IsSoundClass program.classes
  pub main : IsSomeAnd (option_and_then (λ (c : LinkedClass). slice_get c.methods program.main_method) (slice_get program.classes program.main_class)) (λ (m : Method). 0 < length m.insns)

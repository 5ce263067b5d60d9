-- Programs whose classes are in order. (docs/LINKING.md)
use Rattle.std.specs.Prelude.{◌≡◌, ℕ, suc, true, false, ◌⊎◌, List, length, None}
use Rattle.api_listing.specs.declared.types.ListedClass.{ListedClass}
use Rattle.api_listing.specs.BuiltIn.{object, throwable}
use Rattle.api_listing.specs.Nearest.{class_named, upwards}
use Rattle.bytecode_model.specs.declared.program.Program.{Program}
use Rattle.bytecode_model.specs.Arrays.{is_array}
use Rattle.bytecode_model.specs.Classes.{classes_of, is_below, is_interface}
use Rattle.bytecode_model.specs.SearchOrder.{superclasses}

-- Each way up ends.
abbrev pub EachWayEnds : List ListedClass → Type 0
EachWayEnds classes = (name : List ℕ) → upwards (suc (length classes)) classes name ≡ superclasses classes name

-- The classes are in order: each way up ends, Object is at the top, an interface is below nothing else, Throwable is a
-- class, and no class is named as an array.
pub record IsInOrder (program : Program) : Type 0 where
  pub ends : EachWayEnds (classes_of program)
  pub top : (above : List ℕ) → is_below program object above ≡ true → above ≡ object
  pub interfaces : (name above : List ℕ) → is_interface program name ≡ true → is_below program name above ≡ true → (above ≡ name) ⊎ (above ≡ object)
  pub thrown : is_interface program throwable ≡ false
  pub no_arrays : (name : List ℕ) → is_array name ≡ true → class_named (classes_of program) name ≡ None

-- Methods by their names and descriptors. (docs/MACHINE.md)
use Rattle.std.specs.Prelude.{◌≡◌, ℕ, ◌&&◌, bytes_eq, List, [], ◌∷◌, Option, option_and_then, Vec}
use Rattle.std.specs.List.{position_from}
use Rattle.std.specs.BTreeMap.{BTreeMap}
use Rattle.std.specs.Global.{Global}
use Rattle.bytecode_model.specs.declared.program.LinkedClass.{LinkedClass}
use Rattle.bytecode_model.specs.declared.program.Method.{Method}
use Rattle.bytecode_model.specs.ByName.{noted}

abbrev pub Methods : Type 0
Methods = BTreeMap (Vec ℕ Global) (BTreeMap (Vec ℕ Global) ℕ)

abbrev pub method_in : Methods → List ℕ → List ℕ → Option ℕ
method_in table name desc = option_and_then (λ (same_name : BTreeMap (Vec ℕ Global) ℕ). noted same_name desc) (noted table name)

-- The table has the first of the methods of each name and descriptor.
abbrev pub HasMethods : Methods → List Method → Type 0
HasMethods table methods = (name desc : List ℕ) → method_in table name desc ≡ position_from (λ (m : Method). bytes_eq m.name name && bytes_eq m.desc desc) 0 methods

-- There is such a table for each of the classes, in order.
abbrev pub AreMethods : List Methods → List LinkedClass → Type 0
AreMethods [] [] = Unit {0}
AreMethods [] (class ∷ classes) = ⊥
AreMethods (table ∷ tables) [] = ⊥
AreMethods (table ∷ tables) (class ∷ classes) = HasMethods table class.methods × AreMethods tables classes

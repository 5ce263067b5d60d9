-- Places of classes and names in a map: of each name the first counts. (docs/LINKING.md)
use Rattle.std.specs.Prelude.{◌≡◌, ℕ, ◌<◌, ◌^◌, length, List, bytes_eq, Option, Vec}
use Rattle.std.specs.List.{position_from}
use Rattle.std.specs.BTreeMap.{BTreeMap}
use Rattle.std.specs.Global.{Global}
use Rattle.api_listing.specs.declared.types.ListedClass.{ListedClass}
use Rattle.bytecode_model.specs.ByName.{noted}

-- the index of the first class with the name
abbrev pub class_place : List ListedClass → List ℕ → Option ℕ
class_place classes name = position_from (λ (c : ListedClass). bytes_eq c.name name) 0 classes

-- the index of the name
abbrev pub name_place : List (List ℕ) → List ℕ → Option ℕ
name_place names name = position_from (λ other. bytes_eq other name) 0 names

-- The map has the place of the first class of each name.
abbrev pub ClassesPlaced : BTreeMap (Vec ℕ Global) ℕ → List ListedClass → Type 0
ClassesPlaced places classes = (q : List ℕ) → noted places q ≡ class_place classes q

-- The map has the place of each name.
abbrev pub NamesPlaced : BTreeMap (Vec ℕ Global) ℕ → List (List ℕ) → Type 0
NamesPlaced places names = (q : List ℕ) → noted places q ≡ name_place names q

-- So it is of texts whose places have 32 bits.
pub record AreTexts (places : BTreeMap (Vec ℕ Global) ℕ) (texts : List (List ℕ)) : Type 0 where
  pub placed : NamesPlaced places texts
  pub few : length texts < 2 ^ 32

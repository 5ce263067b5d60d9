-- What is known of each program that files link to, however many. (docs/LINKING.md)
use Rattle.std.specs.Prelude.{◌≡◌, ℕ, List, Ok}
use Rattle.class_codec.specs.declared.tree.ClassFile.{ClassFile}
use Rattle.api_listing.specs.declared.types.Listing.{Listing}
use Rattle.api_listing.specs.Listing.{EncodesListing}
use Rattle.bytecode_model.specs.declared.program.Program.{Program}
use Rattle.bytecode_model.specs.declared.program.Side.{Side}
use Rattle.bytecode_model.specs.Named.{AreRightOperands}
use Rattle.bytecode_model.specs.Order.{IsInOrder}
use Rattle.bytecode_model.specs.Sound.{IsSound}
use Rattle.bytecode_model.specs.LinkedClasses.{IsLinkedOf}
use Rattle.class_linking.specs.Linking.{assembled}

abbrev pub LinkedOperandsAreRight : Type 0
LinkedOperandsAreRight =
    (files : List ClassFile) (listing : Listing) (main : List ℕ) (side : Side) (program : Program) → assembled files listing main side ≡ Ok program → IsSound program
    → AreRightOperands program

abbrev pub LinkedAreNamed : Type 0
LinkedAreNamed =
    (files : List ClassFile) (listing : Listing) (main : List ℕ) (side : Side) (program : Program)
    → assembled files listing main side ≡ Ok program → IsSound program → IsLinkedOf side listing main program

-- The classes of each program that links with a listing that was read are in order.
abbrev pub LinkedIsInOrder : Type 0
LinkedIsInOrder =
    (text : List ℕ) (listing : Listing) (files : List ClassFile) (main : List ℕ) (side : Side) (program : Program)
    → EncodesListing text listing → assembled files listing main side ≡ Ok program → IsInOrder program

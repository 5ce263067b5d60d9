-- What class files that were woven link to. (docs/BLOCKS.md)
use Rattle.std.specs.Prelude.{◌≡◌, ℕ, ◌≤◌, List, length, map, Ok}
use Rattle.class_codec.specs.declared.tree.ClassFile.{ClassFile}
use Rattle.api_listing.specs.declared.types.Listing.{Listing}
use Rattle.api_listing.specs.Listing.{EncodesListing}
use Rattle.bytecode_model.specs.declared.program.Program.{Program}
use Rattle.bytecode_model.specs.declared.program.Side.TheVariants as sides
use Rattle.bytecode_model.specs.Sound.{IsSound}
use Rattle.class_linking.specs.Linking.{assembled}
use Rattle.conspec_tree.specs.declared.types.Var.{Var}
use Rattle.offset_patch.specs.Plan.{Plan, IsGood}
use Rattle.class_weaving.specs.declared.woven.Woven.{Woven}
use Rattle.class_weaving.specs.Outcome.{IsFreeOfState, IsWoven}
use Rattle.class_weaving.specs.Woven.{woven}

-- A program of a compiler's class files is free of it.
abbrev pub OriginalIsFree : Type 0
OriginalIsFree =
    (text : List ℕ) (listing : Listing) (files : List ClassFile) (main : List ℕ) (program : Program)
    → EncodesListing text listing → assembled files listing main sides.Original ≡ Ok program → IsFreeOfState program

-- Of a program that was linked of a compiler's files, what is woven by a good plan links to the woven program, however many
-- classes it has.
abbrev pub WovenLinks : Type 0
WovenLinks =
    (text : List ℕ) (listing : Listing) (files : List ClassFile) (main : List ℕ) (old : Program) (plan : Plan) (vars : List Var) (made : Woven)
    → EncodesListing text listing → assembled files listing main sides.Original ≡ Ok old → IsSound old → IsGood (map (λ (v : Var). v.is_bool) vars) plan
    → length vars ≤ 16 → woven old plan vars ≡ Ok made
    → (new : Program) × ((assembled made.files listing main sides.Inlined ≡ Ok new) × IsWoven old plan vars new)

-- The program that files link to, step by step.
use Rattle.std.proofs.Common.{◌≡◌, ℕ, ◌≤◌, List, [], ◌∷◌, length, map, Option, Some, None, Ok, Err, refl, ap, subst, ◌∙◌, arith}
use Rattle.std.specs.Prelude.{ok_or, not}
use Rattle.std.proofs.lemmas.Bool.{le-ltb}
use Rattle.mon_base.specs.Reading.{◌>>=◌, need}
use Rattle.class_codec.specs.declared.tree.ClassFile.{ClassFile}
use Rattle.api_listing.specs.declared.types.ListedClass.{ListedClass}
use Rattle.api_listing.specs.declared.types.Listing.{Listing}
use Rattle.class_linking.specs.declared.fault.LinkFault.{LinkFault}
use Rattle.class_linking.specs.declared.fault.LinkFault.TheVariants as faults
use Rattle.bytecode_model.specs.declared.program.LinkedClass.{LinkedClass}
use Rattle.bytecode_model.specs.declared.program.Method.{Method}
use Rattle.bytecode_model.specs.declared.program.Program.{Program}
use Rattle.bytecode_model.specs.declared.program.Side.{Side}
use Rattle.mon_base.specs.Answer.{Fails}
use Rattle.class_linking.specs.Fault.{Linked}
use Rattle.bytecode_model.specs.Heads.{heads_of}
use Rattle.class_linking.specs.ClassConditions.{classes_linked}
use Rattle.class_linking.specs.Linking.{members_of, main_of, each_linked, classes_with, assembled, linked}
use Rattle.bytecode_model.specs.Files.{max_files}
use Rattle.mon_base.proofs.Answering.{through}
use Rattle.class_linking.proofs.Loop.{same_length}
use Rattle.class_linking.proofs.Parts.{members_are}

-- What was asked of lists that are these.
pub asked : (side : Side) (files : List ClassFile) (listed : List ListedClass) (heads told : List ListedClass) (first second : List ClassFile) (own : List ListedClass) → heads ≡ told → told ≡ heads_of first
    → first ≡ files → own ≡ listed → second ≡ files → classes_linked side heads own second ≡ Ok tt → classes_linked side (heads_of files) listed files ≡ Ok tt
asked side files listed heads told first second own is told_is first_is own_is second_is ok =
    let heads_are : heads ≡ heads_of files = is ∙ told_is ∙ ap heads_of first_is in
    rw (← heads_are, ← own_is) (subst (λ (fs : List ClassFile). classes_linked side heads own fs ≡ Ok tt) second_is ok)

abbrev Members : Type 0
Members = List (List Method) × List (List ℕ)

abbrev program : List ClassFile → Listing → Members → ℕ × ℕ → Program
program files listing members begin = record { classes = classes_with files members.0; listing = listing; literals = members.1; main_class = begin.0; main_method = begin.1 }

abbrev ending : List ClassFile → Listing → List ℕ → Members → Linked Program
ending files listing main members = ok_or (main_of files main) faults.NoMain >>= λ begin. Ok (program files listing members begin)

abbrev rest : List ClassFile → Listing → List ℕ → Linked Program
rest files listing main = members_of files listing >>= λ members. ending files listing main members

module _ (files : List ClassFile) (listing : Listing) (main : List ℕ) (side : Side) where
  -- so many files link to what they link to, however many
  pub few_link : length files ≤ max_files → linked files listing main side ≡ assembled files listing main side
  few_link few = ap (λ b. need (not b) (faults.TooMany (length files)) >>= λ small. assembled files listing main side) (le-ltb max_files (length files) few)

  pub ends_classes : (e : LinkFault) → Fails faults.Memory e (classes_linked side (heads_of files) listing.classes files) → Fails faults.Memory e (assembled files listing main side)
  ends_classes e fails =
      through faults.Memory e (classes_linked side (heads_of files) listing.classes files) (assembled files listing main side)
      (λ err. ap (λ (r : Linked (Unit {0})). r >>= λ sound. rest files listing main) err) fails

  sound_step : classes_linked side (heads_of files) listing.classes files ≡ Ok tt → assembled files listing main side ≡ rest files listing main
  sound_step ok = ap (λ (r : Linked (Unit {0})). r >>= λ sound. rest files listing main) ok

  pub ends_members : (e : LinkFault) → classes_linked side (heads_of files) listing.classes files ≡ Ok tt → Fails faults.Memory e (members_of files listing) → Fails faults.Memory e (assembled files listing main side)
  ends_members e ok fails =
      through faults.Memory e (members_of files listing) (assembled files listing main side)
      (λ err. sound_step ok ∙ ap (λ (r : Linked Members). r >>= λ members. ending files listing main members) err) fails

  pub is_ending : (members : Members) → classes_linked side (heads_of files) listing.classes files ≡ Ok tt → members_of files listing ≡ Ok members → assembled files listing main side ≡ ending files listing main members
  is_ending members ok made = sound_step ok ∙ ap (λ (r : Linked Members). r >>= λ ms. ending files listing main ms) made

  pub no_main : (members : Members) → classes_linked side (heads_of files) listing.classes files ≡ Ok tt → members_of files listing ≡ Ok members → main_of files main ≡ None → assembled files listing main side ≡ Err faults.NoMain
  no_main members ok made none = is_ending members ok made ∙ ap (λ (o : Option (ℕ × ℕ)). ok_or o faults.NoMain >>= λ begin. Ok (program files listing members begin)) none

  pub is_program : (members : Members) (begin : ℕ × ℕ) → classes_linked side (heads_of files) listing.classes files ≡ Ok tt → members_of files listing ≡ Ok members → main_of files main ≡ Some begin
      → assembled files listing main side ≡ Ok (program files listing members begin)
  is_program members begin ok made some = is_ending members ok made ∙ ap (λ (o : Option (ℕ × ℕ)). ok_or o faults.NoMain >>= λ b. Ok (program files listing members b)) some

map_back : (files : List ClassFile) (methods : List (List Method)) → length methods ≡ length files → map (λ (c : LinkedClass). c.file) (classes_with files methods) ≡ files
map_back [] methods e = refl
map_back (file ∷ files) [] e = absurd (omega arith)
map_back (file ∷ files) (first ∷ others) e =
    let n : length others ≡ length files = omega arith in
    ap (λ (fs : List ClassFile). file ∷ fs) (map_back files others n)

-- the class files come back
pub classes_back : (files : List ClassFile) (listing : Listing) (methods : List (List Method)) → each_linked files listing files ≡ Ok methods → map (λ (c : LinkedClass). c.file) (classes_with files methods) ≡ files
classes_back files listing methods each = map_back files methods (same_length _ 0 files methods each)

pub files_back : (files : List ClassFile) (listing : Listing) (members : Members) → members_of files listing ≡ Ok members → map (λ (c : LinkedClass). c.file) (classes_with files members.0) ≡ files
files_back files listing members made = classes_back files listing members.0 (members_are files listing members made).0

-- The program that is made of woven files is the one that they link to; it is sound, and they have room for its blocks.
use Rattle.std.proofs.Common.{◌≡◌, ℕ, List, Ok, sym, ap, subst, ◌∙◌}
use Rattle.mon_base.specs.Reading.{◌>>=◌}
use Rattle.api_listing.specs.declared.types.Listing.{Listing}
use Rattle.api_listing.specs.Listing.{IsFew}
use Rattle.bytecode_model.specs.declared.program.LinkedClass.{LinkedClass}
use Rattle.bytecode_model.specs.declared.program.Method.{Method}
use Rattle.bytecode_model.specs.declared.program.Program.{Program}
use Rattle.bytecode_model.specs.declared.program.Side.TheVariants as sides
use Rattle.bytecode_model.specs.Operands.{literals_of}
use Rattle.bytecode_model.specs.Sound.{IsSound}
use Rattle.class_linking.specs.Fault.{Linked}
use Rattle.class_linking.specs.Linking.{members_of, classes_with}
use Rattle.class_linking.proofs.Sound.{is_sound}
use Rattle.woven_linking.specs.Program.{program_with, WovenProgramIsLinked, WovenFilesComeBack, WovenFilesHaveRoom, WovenProgramIsSound}
use Rattle.woven_linking.proofs.ByPlan as by_plan
use Rattle.woven_linking.proofs.Made.{have_room}
use Rattle.woven_linking.proofs.MethodsMade.{program_made}
use Rattle.woven_linking.proofs.Whole.{IsRelinked, program_of, relinked, assembled_by}

-- what was linked is the program with its blocks
same_program : (listing : Listing) (main : List ℕ) (old : Program) (plan : _) (vars : _) (files : _) (h : IsRelinked listing main old plan vars files)
    → ◌≡◌ {A = Program} (record { classes = classes_with files h.methods; listing = listing; literals = literals_of files; main_class = h.begin.0; main_method = h.begin.1 }) (by_plan.program_with plan old files)
same_program listing main old plan vars files h =
    let made : List LinkedClass → Listing → List (List ℕ) → ℕ → ℕ → Program = λ classes listing literals class method. record { classes = classes; listing = listing; literals = literals; main_class = class; main_method = method } in
    let woven : List LinkedClass = by_plan.classes_with plan _ old.classes files in
    ap (λ (cs : List LinkedClass). made cs listing (literals_of files) h.begin.0 h.begin.1) h.with
    ∙ ap (λ (l : Listing). made woven l (literals_of files) h.begin.0 h.begin.1) h.woven.listing
    ∙ ap (λ (ls : List (List ℕ)). made woven old.listing ls h.begin.0 h.begin.1) h.woven.literals
    ∙ ap (λ (n : ℕ). made woven old.listing old.literals n h.begin.1) h.woven.main_class
    ∙ ap (λ (n : ℕ). made woven old.listing old.literals old.main_class n) h.woven.main_method

pub linked : WovenProgramIsLinked
linked listing files main old plan vars made of =
    let h = relinked listing files main old plan vars made of in
    assembled_by made.files listing main sides.Inlined h.methods h.begin h.good h.each h.begins
    ∙ ap Ok (same_program listing main old plan vars made.files h ∙ sym (program_made plan files listing main vars old made of.links of.woven))

pub back : WovenFilesComeBack
back listing files main old plan vars made of =
    (program_of made.files listing main sides.Inlined (program_with old made.files made.methods) (linked listing files main old plan vars made of)).files_are

pub room : WovenFilesHaveRoom
room listing files main old plan vars made of fits =
    let h = relinked listing files main old plan vars made of in
    have_room plan old.classes made.files h.room fits

pub sound : WovenProgramIsSound
sound listing files main old plan vars made of fits few =
    let h = relinked listing files main old plan vars made of in
    let members : members_of made.files listing ≡ Ok (h.methods, literals_of made.files) =
    ap (λ (r : Linked (List (List Method))). r >>= λ methods. Ok (methods, literals_of made.files)) h.each in
    let listed : IsFew listing = subst IsFew (sym h.woven.listing) of.sound.listed in
    subst IsSound (same_program listing main old plan vars made.files h ∙ sym (program_made plan files listing main vars old made of.links of.woven))
    (is_sound made.files listing main h.methods (literals_of made.files) h.begin.0 h.begin.1 few listed fits members h.sound h.begins)

use Rattle.std.proofs.Common.{◌≡◌, ◌∙◌, List, Ok, map, ap, subst, sym}
use Rattle.std.proofs.lemmas.Result.{err_from_is_err_and}
use Rattle.bytecode_model.specs.declared.program.LinkedClass.{LinkedClass}
use Rattle.bytecode_model.specs.declared.program.Program.{Program}
use Rattle.bytecode_model.specs.Heads.{heads_of}
use Rattle.bytecode_model.specs.Sound.{IsSound}
use Rattle.mon_base.specs.Answer.{Fails}
use Rattle.class_linking.specs.declared.fault.LinkFault.TheVariants as faults
use Rattle.class_linking.specs.ClassConditions.{classes_linked}
use Rattle.class_linking.specs.Fault.{Linked}
use Rattle.class_linking.specs.Linking.{assembled, members_of, main_of}
use Rattle.class_linking.proofs.Sound.{is_sound}
use Rattle.class_linking.proofs.Whole.{is_program, files_back}
use Rattle.class_linking.proofs.linking.assembled_program.Goals as goal

pub returns-in_err-members-clause-exact : goal.returns-in_err-members-clause-exact
returns-in_err-members-clause-exact c =
    let listing = c.args.listing in
    let side = c.args.side in
    let e = c.in_err-members.field-0.0 in
    let told = subst (λ m. Fails faults.Memory e (assembled c.as_slice.result.now listing m side)) c.as_slice-2.ensures c.in_err-members.ensures.fails in
    let fails = subst (λ fs. Fails faults.Memory e (assembled fs listing c.args.main.now side)) c.as_slice.ensures told in
    let p = err_from_is_err_and c.from_residual.result c.from_residual.ensures.1 in
    rw (p.1, p.2) fails

pub returns-clause-exact : goal.returns-clause-exact
returns-clause-exact c =
    let files = c.args.files in
    let listing = c.args.listing in
    let side = c.args.side in
    let sound = subst (λ fs. classes_linked side (heads_of fs) listing.classes fs ≡ Ok tt) c.as_slice.ensures c.in_ok-members.ensures.classes in
    let made = ap (λ fs. members_of fs listing) (sym c.as_slice.ensures) ∙ c.in_ok-members.ensures.members in
    let same : main_of c.as_slice.result.now c.as_slice-2.result.now ≡ main_of files c.args.main.now = ap (λ fs. main_of fs c.as_slice-2.result.now) c.as_slice.ensures ∙ ap (main_of files) c.as_slice-2.ensures in
    let some = sym same ∙ c.in_ok-members.ensures.main in
    let program : List LinkedClass → Linked Program =
    λ cs. Ok (record { classes = cs; listing = listing; literals = c.in_ok-members.members.1; main_class = c.in_ok-members.begin.0; main_method = c.in_ok-members.begin.1 }) in
    is_program files listing c.args.main.now side _ _ sound made some ∙ ap program (sym c.in_ok-classes.ensures)

pub returns-clause-back : goal.returns-clause-back
returns-clause-back c =
    let listing = c.args.listing in
    let made = ap (λ fs. members_of fs listing) (sym c.as_slice.ensures) ∙ c.in_ok-members.ensures.members in
    ap (map (λ (x : LinkedClass). x.file)) c.in_ok-classes.ensures ∙ files_back c.args.files listing _ made

pub returns-clause-sound : goal.returns-clause-sound
returns-clause-sound c =
    let files = c.args.files in
    let listing = c.args.listing in
    let members = c.in_ok-members.members in
    let begin = c.in_ok-members.begin in
    let made = ap (λ fs. members_of fs listing) (sym c.as_slice.ensures) ∙ c.in_ok-members.ensures.members in
    let same : main_of c.as_slice.result.now c.as_slice-2.result.now ≡ main_of files c.args.main.now = ap (λ fs. main_of fs c.as_slice-2.result.now) c.as_slice.ensures ∙ ap (main_of files) c.as_slice-2.ensures in
    let some = sym same ∙ c.in_ok-members.ensures.main in
    let program : List LinkedClass → Program =
    λ cs. record { classes = cs; listing = listing; literals = members.1; main_class = begin.0; main_method = begin.1 } in
    let sound = is_sound files listing c.args.main.now members.0 members.1 begin.0 begin.1 c.requires.few c.requires.listed c.requires.fits made c.in_ok-members.ensures.sound some in
    subst (λ cs. IsSound (program cs)) (sym c.in_ok-classes.ensures) sound

-- What `inline` wrote is read again, links, and is accepted.
use Rattle.std.proofs.Common.{◌≡◌, ◌⊎◌, inl, inr, ℕ, zero, suc, ◌+◌, ◌-◌, ◌^◌, ◌≤◌, Bool, true, false, cond, List, [], ◌∷◌, ◌++◌, length, map, Some, Result, Ok, Err, refl, sym, ap, subst, ◌∙◌, arith}
use Rattle.std.specs.Prelude.{IsSome, nat_le, nat_lt, slice_get}
use Rattle.std.specs.List.{AllByRecursion}
use Rattle.std.proofs.Math.Nat.{min-eq_left}
use Rattle.std.proofs.lemmas.Bool.{and_parts, le-ltb, leb-true}
use Rattle.bytecode_model.specs.declared.program.LinkedClass.{LinkedClass}
use Rattle.bytecode_model.specs.declared.program.Program.{Program}
use Rattle.bytecode_model.specs.declared.program.Side.TheVariants.{Inlined}
use Rattle.bytecode_model.specs.Files.{max_files, unlinked}
use Rattle.bytecode_model.specs.Sound.{IsSoundClass}
use Rattle.bytecode_model.specs.LinkedClasses.{IsLinkedOf}
use Rattle.bytecode_model.proofs.Lists.{all_get}
use Rattle.cert_checker.specs.declared.checking.Accepted.{Accepted}
use Rattle.cert_checker.specs.Judging.{judged}
use Rattle.cert_format.specs.declared.certificate.Certificate.{Certificate}
use Rattle.cert_format.specs.declared.fault.CertForm.{CertForm}
use Rattle.cert_format.specs.declared.fault.CertForm.TheVariants as certificates
use Rattle.cert_format.specs.Fits.{IsEncodable}
use Rattle.cert_format.specs.Reading.{certificate_of}
use Rattle.cert_format.specs.Encoding.{encode_certificate}
use Rattle.cert_format.proofs.FileLaws.{is_only}
use Rattle.class_codec.specs.declared.fault.ClassFault.{ClassFault}
use Rattle.class_codec.specs.declared.fault.ClassFault.TheVariants as classes
use Rattle.class_codec.specs.declared.tree.ClassFile.{ClassFile}
use Rattle.class_codec.specs.Fits.{IsEncodable as IsEncodableClass}
use Rattle.class_codec.specs.Reading.{class_of}
use Rattle.class_codec.specs.Encoding.{encoding}
use Rattle.class_codec.proofs.FileLaws.{is_only as class_only}
use Rattle.class_linking.specs.Laws.{LinkedAreNamed}
use Rattle.class_linking.specs.Linking.{linked}
use Rattle.command_inputs.specs.declared.inline_inputs.InlineInputs.{InlineInputs}
use Rattle.command_inputs.specs.declared.inline_words.Weaving.{Weaving}
use Rattle.command_inputs.specs.Words.{Check, NamedCheck}
use Rattle.conspec_tree.specs.declared.types.PolicyTree.{PolicyTree}
use Rattle.mon_base.specs.Answer.{Answers}
use Rattle.mon_store.specs.Outputs.{all_written}
use Rattle.mon_store.specs.Store.{Files, Rose}
use Rattle.command_inputs.specs.declared.check_inputs.CheckInputs.{CheckInputs}
use Rattle.command_inputs.specs.declared.fault.InputFault.TheVariants as faults
use Rattle.command_inputs.specs.Forms.{Count, HasText, Then, Yields}
use Rattle.command_inputs.specs.Kinds.{certificate_form, certificate_read, class_form, class_read, listing_form, policy_form}
use Rattle.command_outputs.specs.Outputs.{are_short, certificate_name, certificate_output, class_name, class_output, is_written}
use Rattle.inliner_tool.specs.declared.refusal.Ended.TheVariants as ends
use Rattle.inliner_tool.specs.declared.refusal.Refusal.TheVariants as refusals
use Rattle.inliner_tool.specs.declared.tool.Status.TheVariants as statuses
use Rattle.inliner_tool.specs.Check.{Checks, judged_step, verdict_step}
use Rattle.inliner_tool.specs.Inline.{IsWovenInto}
use Rattle.inliner_tool.specs.Programs.{link_step, program_of}
use Rattle.inliner_tool.specs.Rechecking.{NamesWritten, WrittenIsAccepted, size_of, sizes_of}
use Rattle.inliner_tool.specs.Seen.{Seen}
use Rattle.inliner_tool.specs.Steps.{Outcome, Step, outcome_step}
use Rattle.inliner_tool.specs.Tool.{status_of}
use Rattle.inliner_tool.specs.Writing.{CarriesOut}
use Rattle.inliner_tool.proofs.CheckDecision.{accepted_done, check_says, denied_so}
use Rattle.inliner_tool.proofs.Counting.{linked_of}
use Rattle.inliner_tool.proofs.Told.{MayRead, may_read}
use Rattle.inliner_tool.proofs.ToldClasses.{MayClasses}
use Rattle.inliner_tool.proofs.Written.{all_told, class_written, last_written, no_certificate}

-- ---- what is encoded is read

answers_own : {X E : Type 0} (memory : E) (r : Result X E) → Answers memory r r
answers_own memory (Ok x) = refl
answers_own memory (Err e) = λ other. refl

certificate_again : (vars : ℕ) (c : Certificate) → IsEncodable vars c → (certificate_of vars (encode_certificate c) ≡ Ok c) ⊎ (certificate_of vars (encode_certificate c) ≡ Err certificates.Memory)
certificate_again vars c fits = by (certificate_of vars (encode_certificate c)) refl
    (is_only vars (encode_certificate c) (certificate_of vars (encode_certificate c)) c (answers_own certificates.Memory (certificate_of vars (encode_certificate c))) (record { is = refl; fits = fits })) where
      by : (r : Result Certificate CertForm) → certificate_of vars (encode_certificate c) ≡ r → Answers certificates.Memory r (Ok c)
          → (certificate_of vars (encode_certificate c) ≡ Ok c) ⊎ (certificate_of vars (encode_certificate c) ≡ Err certificates.Memory)
      by (Ok d) is given = inl (is ∙ sym given)
      by (Err certificates.Memory) is given = inr is
      by (Err (certificates.Form at)) is given =
          let wrong : ◌≡◌ {A = Result Certificate CertForm} (Ok c) (Err (certificates.Form at)) = given (λ e. absurd cc) in
          absurd cc

class_again : (file : ClassFile) → IsEncodableClass file → length (encoding file) ≤ 1048576 → (class_of (encoding file) ≡ Ok file) ⊎ (class_of (encoding file) ≡ Err classes.Memory)
class_again file fits short = by (class_of (encoding file)) refl
    (class_only (encoding file) (class_of (encoding file)) file (answers_own classes.Memory (class_of (encoding file))) (record { fits = fits; is = refl }) short) where
      other : (e : ClassFault) → (e ≡ classes.Memory → ⊥) → class_of (encoding file) ≡ Err e → Answers classes.Memory (Err e) (Ok file)
          → (class_of (encoding file) ≡ Ok file) ⊎ (class_of (encoding file) ≡ Err classes.Memory)
      other e apart is given =
          let wrong : ◌≡◌ {A = Result ClassFile ClassFault} (Ok file) (Err e) = given apart in
          absurd cc

      by : (r : Result ClassFile ClassFault) → class_of (encoding file) ≡ r → Answers classes.Memory r (Ok file) → (class_of (encoding file) ≡ Ok file) ⊎ (class_of (encoding file) ≡ Err classes.Memory)
      by (Ok d) is given = inl (is ∙ sym given)
      by (Err classes.Memory) is given = inr is
      by (Err classes.Magic) is given = other classes.Magic (λ e. absurd cc) is given
      by (Err (classes.Version major)) is given = other (classes.Version major) (λ e. absurd cc) is given
      by (Err (classes.Short at)) is given = other (classes.Short at) (λ e. absurd cc) is given
      by (Err (classes.Tail at)) is given = other (classes.Tail at) (λ e. absurd cc) is given
      by (Err (classes.Tag at tag)) is given = other (classes.Tag at tag) (λ e. absurd cc) is given
      by (Err (classes.Index at)) is given = other (classes.Index at) (λ e. absurd cc) is given
      by (Err (classes.TooLong len)) is given = other (classes.TooLong len) (λ e. absurd cc) is given

-- ---- files

certificate_may : (files : Files) (name : List ℕ) (vars : ℕ) (c : Certificate) → HasText files name (encode_certificate c) → IsEncodable vars c → is_written c ≡ true → MayRead files name (certificate_form vars) c
certificate_may files name vars c has fits written =
    record { text = encode_certificate c; told = has; short = leb-true _ _ (and_parts (are_short c.typing) (nat_le (length (encode_certificate c)) 67108864) written).1; reads = by (certificate_again vars c fits) } where
      by : (certificate_of vars (encode_certificate c) ≡ Ok c) ⊎ (certificate_of vars (encode_certificate c) ≡ Err certificates.Memory)
          → ((certificate_form vars).reads (encode_certificate c) ≡ Ok c) ⊎ ((certificate_form vars).reads (encode_certificate c) ≡ Err faults.Memory)
      by (inl e) = inl (ap certificate_read e)
      by (inr e) = inr (ap certificate_read e)

class_may : (files : Files) (name : List ℕ) (file : ClassFile) → HasText files name (encoding file) → IsEncodableClass file → length (encoding file) ≤ 1048576
    → MayRead files name class_form (record { file = file; len = length (encoding file) })
class_may files name file has fits short = record { text = encoding file; told = has; short = short; reads = by (class_again file fits short) } where
  by : (class_of (encoding file) ≡ Ok file) ⊎ (class_of (encoding file) ≡ Err classes.Memory)
      → (class_form.reads (encoding file) ≡ Ok (record { file = file; len = length (encoding file) })) ⊎ (class_form.reads (encoding file) ≡ Err faults.Memory)
  by (inl e) = inl (ap (class_read (length (encoding file))) e)
  by (inr e) = inr (ap (class_read (length (encoding file))) e)

module _ (files : Files) (folder : List ℕ) where
  -- what is known of a class that was written
  record IsThere (c : LinkedClass) : Type 0 where
    has : HasText files (class_name folder c) (encoding c.file)
    fits : IsEncodableClass c.file
    short : size_of c ≤ 1048576

  all_there : (list : List LinkedClass) → sizes_of list ≤ 16777216 → AllByRecursion IsThere list → MayClasses files (map (class_name folder) list) (map (λ (c : LinkedClass). c.file) list) (sizes_of list)
  all_there [] few all = refl
  all_there (c ∷ list) few all =
      let told : size_of c + sizes_of list ≤ 2 ^ 64 - 1 = omega (arith, few) in
      (size_of c, sizes_of list, sym (min-eq_left told), class_may files (class_name folder c) c.file all.0.has all.0.fits all.0.short, all_there list (omega (arith, few)) all.1)

all_by : {A : Type 0} (P : A → Type 0) (list : List A) → ((i : ℕ) (x : A) → slice_get list i ≡ Some x → P x) → AllByRecursion P list
all_by P [] each = tt
all_by P (x ∷ list) each = (each zero x refl, all_by P list (λ i y e. each (suc i) y e))

-- ---- the whole

module _ (law : LinkedAreNamed) (seen : Seen) (main folder : List ℕ) (weaving : Weaving) (given : InlineInputs) (told : IsSome seen.old) (done : IsWovenInto seen main folder weaving given) (check : NamedCheck)
    (names : NamesWritten done check) where
  abbrev old : Files
  old = seen.old

  abbrev new : Files
  new = seen.new

  abbrev program : Program
  program = done.planned.rewoven.program

  abbrev certificate : Certificate
  certificate = done.planned.rewoven.certificate

  abbrev tree : PolicyTree
  tree = given.policy

  linked_so : IsLinkedOf Inlined done.planned.given.client.listing main program
  linked_so =
      law done.planned.made.files done.planned.given.client.listing main Inlined program done.planned.rewoven.links done.planned.rewoven.sound

  -- ---- what stands

  written_so : new ≡ all_written old (map (class_output folder) program.classes ++ certificate_output folder (encode_certificate certificate) ∷ [])
  written_so = done.written ∙ ap (all_written old) done.planned.rewoven.outputs

  told_new : IsSome new
  told_new = subst IsSome (sym written_so) (all_told (map (class_output folder) program.classes ++ certificate_output folder (encode_certificate certificate) ∷ []) old told)

  certificate_there : HasText new (certificate_name folder) (encode_certificate certificate)
  certificate_there =
      subst (λ (f : Files). HasText f (certificate_name folder) (encode_certificate certificate)) (sym written_so)
      (last_written (map (class_output folder) program.classes) (certificate_output folder (encode_certificate certificate)) old)

  class_there : (i : ℕ) (c : LinkedClass) → slice_get program.classes i ≡ Some c → HasText new (class_name folder c) (encoding c.file)
  class_there i c there =
      subst (λ (f : Files). HasText f (class_name folder c) (encoding c.file)) (sym written_so)
      (class_written folder program.classes (certificate_output folder (encode_certificate certificate)) old i c there (no_certificate folder c) (λ j d lt e same.
      let one : j ≡ i = (linked_so.standing i c there).once j d e same in
      absurd (omega (arith, one, lt))))

  classes_there : MayClasses new check.classes (unlinked program) (sizes_of program.classes)
  classes_there =
      subst (λ (ns : List (List ℕ)). MayClasses new ns (unlinked program) (sizes_of program.classes)) (sym names.classes)
      (all_there new folder program.classes names.total (all_by (IsThere new folder) program.classes (λ i c there. record {
        has = class_there i c there;
        fits = (all_get IsSoundClass program.classes i c done.planned.rewoven.sound.classes there).fits;
        short = all_get (λ (x : LinkedClass). size_of x ≤ 1048576) program.classes i c names.short there;
      })))

  -- ---- what it is

  abbrev inputs : CheckInputs
  inputs = record { listing = given.listing; policy = tree; certificate = certificate; classes = record { files = unlinked program; total = sizes_of program.classes } }

  certificate_read_so : MayRead new check.certificate (certificate_form (length tree.vars)) certificate
  certificate_read_so =
      let fits : IsEncodable (length tree.vars) certificate = subst (λ p. IsEncodable (length p.vars) certificate) done.planned.policy done.planned.rewoven.encodes in
      subst (λ (name : List ℕ). MayRead new name (certificate_form (length tree.vars)) certificate) (sym names.certificate)
      (certificate_may new (certificate_name folder) (length tree.vars) certificate certificate_there fits done.planned.rewoven.written)

  links : program_of given.listing inputs.classes check.main Inlined ≡ Ok program
  links =
      let few : nat_lt 16777216 (sizes_of program.classes) ≡ false = le-ltb 16777216 (sizes_of program.classes) names.total in
      let few_files : length done.planned.made.files ≤ max_files = omega (arith, names.few, sym (ap length done.planned.rewoven.same) ∙ many_files program.classes) in
      let whole : linked done.planned.made.files done.planned.given.client.listing main Inlined ≡ Ok program =
      linked_of done.planned.made.files done.planned.given.client.listing main Inlined program few_files done.planned.rewoven.links in
      let here : linked (unlinked program) given.listing check.main Inlined ≡ Ok program =
      ap (λ fs. linked fs given.listing check.main Inlined) done.planned.rewoven.same ∙ ap (λ l. linked done.planned.made.files l check.main Inlined) (sym done.planned.listing)
      ∙ ap (λ m. linked done.planned.made.files done.planned.given.client.listing m Inlined) names.main ∙ whole in
      ap (λ (b : Bool). cond b (Err (ends.Refused (refusals.TotalLong (sizes_of program.classes)))) (link_step (linked (unlinked program) given.listing check.main Inlined))) few ∙ ap link_step here
    where
      many_files : (list : List LinkedClass) → length (map (λ (c : LinkedClass). c.file) list) ≡ length list
      many_files [] = refl
      many_files (c ∷ list) = ap suc (many_files list)

  accepts : judged_step tree certificate program ≡ Ok done.ready.accepted
  accepts = ap (verdict_step tree program) (subst (λ p. judged program p certificate ≡ Ok done.ready.accepted) done.planned.policy done.planned.rewoven.verdict)

  pub accepted_again : (later : Files) (again : Count) (outcome : Outcome) → CarriesOut (record { old = new; new = later; count = again }) (Check check) (outcome_step outcome) → (Rose again.before again.now → ⊥)
      → status_of outcome ≡ statuses.Done
  accepted_again later again outcome carries no_rise =
      by outcome (check_says new again check no_rise told_new inputs (may_read new check.listing listing_form given.listing names.listing)
      (may_read new check.policy (policy_form given.listing) tree names.policy) certificate_read_so classes_there later outcome carries)
    where
      by : (outcome : Outcome) → Then (Checks check.main inputs) (λ made. Yields made.answer) (outcome_step outcome) → status_of outcome ≡ statuses.Done
      by (Ok answer) (made, checks, is) = accepted_done check.main inputs program links made checks answer is
      by (Err refusal) (inl checks) =
          let wrong : ◌≡◌ {A = Step Accepted} (Err (ends.Refused refusal)) (Ok done.ready.accepted) = denied_so check.main inputs program links (ends.Refused refusal) checks ∙ accepts in
          absurd cc
      by (Err refusal) (inr (made, checks, none)) = absurd none

pub written_is_accepted : LinkedAreNamed → WrittenIsAccepted
written_is_accepted law seen main folder weaving given told done check names again outcome same carries no_rise =
    accepted_again law seen main folder weaving given told done check names again.new again.count outcome
    (subst (λ (files : Files). CarriesOut (record { old = files; new = again.new; count = again.count }) (Check check) (outcome_step outcome)) same carries) no_rise

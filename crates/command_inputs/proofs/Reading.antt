-- Where the reading of the files of a command stops.
use Rattle.std.proofs.Common.{ℕ, ◌≤◌, List, length, Result, Ok, Err, subst, inl, inr, ⊎_elim}
use Rattle.mon_store.specs.Store.{Files}
use Rattle.api_listing.specs.declared.types.Listing.{Listing}
use Rattle.cert_format.specs.declared.certificate.Certificate.{Certificate}
use Rattle.conspec_tree.specs.declared.types.PolicyTree.{PolicyTree}
use Rattle.command_inputs.specs.declared.files.Stop.{Stop}
use Rattle.command_inputs.specs.declared.named.ReadClasses.{ReadClasses as Classes}
use Rattle.command_inputs.specs.Forms.{Count, Form, IsRead, ReadsForm, Then, Yields}
use Rattle.command_inputs.specs.InlineInputs.{ReadsInline}
use Rattle.command_inputs.specs.InlineWords.{NamedInline}
use Rattle.command_inputs.specs.LiftInputs.{ReadsLift}
use Rattle.command_inputs.specs.LiftWords.{NamedLift}
use Rattle.command_inputs.specs.ReplayWords.{NamedReplay}
use Rattle.event_record.specs.declared.reading.Record.{Record}
use Rattle.command_inputs.specs.ReplayInputs.{ReadsReplay}
use Rattle.command_inputs.specs.CheckInputs.{ReadsCheck}
use Rattle.command_inputs.specs.Named.{ReadsClasses, ReadsBefore}
use Rattle.command_inputs.specs.declared.check_inputs.CheckInputs.{CheckInputs}
use Rattle.command_inputs.specs.declared.lift_inputs.LiftInputs.{LiftInputs}
use Rattle.command_inputs.specs.declared.race_inputs.RaceInputs.{RaceInputs}
use Rattle.command_inputs.specs.declared.replay_inputs.ReplayInputs.{ReplayInputs}
use Rattle.command_inputs.specs.PolicyInputs.{ReadsPolicy}
use Rattle.command_inputs.specs.declared.policy_inputs.PolicyInputs.{PolicyInputs}
use Rattle.command_inputs.specs.RaceInputs.{ReadsRace}
use Rattle.command_inputs.specs.Kinds.{certificate_form, listing_form, policy_form, record_form}
use Rattle.command_inputs.specs.Words.{NamedCheck, NamedPolicy, NamedRace}
use Rattle.command_inputs.proofs.ReadFiles.{counted, stops_since}
use Rattle.command_inputs.proofs.ClassFiles.{among_since}

-- What stops a later call that reads a file, and then class files, stops the calls since the first.
pub before_since : {A B : Type 0} (files : Files) (form : Form A) (name : List ℕ) (names : List (List ℕ)) (whole : A → Classes → B) (first begun now : ℕ) (last : List ℕ) (stop : Stop) → first ≤ begun
    → ReadsBefore files (counted begun now last) name form names (Err stop)
    → Then {B = B} (ReadsForm files (counted first now last) name form) (λ a. Then (ReadsClasses files (counted first now last) names) (λ classes. Yields (whole a classes))) (Err stop)
before_since files form name names whole first begun now last stop le read =
    ⊎_elim
    (λ stops. inl (stops_since files form name first begun now last stop le stops))
    (λ more. inr (more.0, more.1, ⊎_elim (λ among. inl (among_since files names first begun now last stop le among)) (λ none. absurd none.2) more.2)) read

-- the class files at which the reading of a file and of class files stops
pub after_stops : {A : Type 0} (files : Files) (form : Form A) (name : List ℕ) (names : List (List ℕ)) (first begun now : ℕ) (last : List ℕ) (stop : Stop) → first ≤ begun → (a : A) → IsRead files name form (Ok a)
    → ReadsClasses files (counted begun now last) names (Err stop) → ReadsBefore files (counted first now last) name form names (Err stop)
after_stops files form name names first begun now last stop le a has reads = inr (a, has, inl (among_since files names first begun now last stop le reads))

-- ---- check

pub check_stops : (files : Files) (named : NamedCheck) (count : Count) (inputs : RaceInputs) → ReadsRace files count (record { policy = named.policy; listing = named.listing }) (Ok inputs)
    → (first begun now : ℕ) (last : List ℕ) (stop : Stop) → first ≤ begun
    → ReadsBefore files (counted begun now last) named.certificate (certificate_form (length inputs.policy.vars)) named.classes (Err stop) → ReadsCheck files (counted first now last) named (Err stop)
check_stops files named count inputs read first begun now last stop le over =
    let form = subst (λ (i : RaceInputs). ReadsBefore files (counted begun now last) named.certificate (certificate_form (length i.policy.vars)) named.classes (Err stop)) read.2.2 over in
    let whole : Certificate → Classes → CheckInputs = λ certificate classes. record { listing = read.0; policy = read.2.0; certificate = certificate; classes = classes } in
    inr (read.0, read.1, inr (read.2.0, read.2.1, before_since files (certificate_form (length read.2.0.vars)) named.certificate named.classes whole first begun now last stop le form))

-- ---- policy

module _ (files : Files) (named : NamedPolicy) (first begun now : ℕ) (last : List ℕ) (le : first ≤ begun) (listing : Listing) (listed : IsRead files named.listing listing_form (Ok listing)) where
  pub run_stops_over : (stop : Stop)
      → Then {B = PolicyInputs} (ReadsForm files (counted begun now last) named.policy (policy_form listing))
      (λ policy. Then (ReadsForm files (counted begun now last) named.recorded (record_form listing)) (λ recorded. Yields (record { policy = policy; recorded = recorded }))) (Err stop)
      → ReadsPolicy files (counted first now last) named (Err stop)
  run_stops_over stop read =
      inr (
        listing,
        listed,
        ⊎_elim
            (λ form. inl (stops_since files (policy_form listing) named.policy first begun now last stop le form))
            (λ more. inr (more.0, more.1, ⊎_elim (λ form. inl (stops_since files (record_form listing) named.recorded first begun now last stop le form)) (λ none. inr none) more.2)) read,
      )

  pub run_read_over : (result : Result PolicyInputs Stop)
      → Then {B = PolicyInputs} (ReadsForm files (counted begun now last) named.policy (policy_form listing))
      (λ policy. Then (ReadsForm files (counted begun now last) named.recorded (record_form listing)) (λ recorded. Yields (record { policy = policy; recorded = recorded }))) result
      → ReadsPolicy files (counted first now last) named result
  run_read_over (Ok inputs) read = (listing, listed, read)
  run_read_over (Err stop) read = run_stops_over stop read

pub recorded_stops : (files : Files) (named : NamedPolicy) (first begun now : ℕ) (last : List ℕ) → first ≤ begun → (listing : Listing)
    → (policy : PolicyTree) → IsRead files named.policy (policy_form listing) (Ok policy) → (stop : Stop)
    → ReadsForm files (counted begun now last) named.recorded (record_form listing) (Err stop)
    → Then {B = PolicyInputs} (ReadsForm files (counted first now last) named.policy (policy_form listing))
    (λ policy. Then (ReadsForm files (counted first now last) named.recorded (record_form listing)) (λ recorded. Yields (record { policy = policy; recorded = recorded }))) (Err stop)
recorded_stops files named first begun now last le listing policy has stop form =
    inr (policy, has, inl (stops_since files (record_form listing) named.recorded first begun now last stop le form))

pub race_policy_stops : (files : Files) (named : NamedRace) (first begun now : ℕ) (last : List ℕ) → first ≤ begun → (listing : Listing) → IsRead files named.listing listing_form (Ok listing)
    → (stop : Stop) → ReadsForm files (counted begun now last) named.policy (policy_form listing) (Err stop) → ReadsRace files (counted first now last) named (Err stop)
race_policy_stops files named first begun now last le listing listed stop form =
    inr (listing, listed, inl (stops_since files (policy_form listing) named.policy first begun now last stop le form))

-- ---- inline

pub inline_stops : (files : Files) (named : NamedInline) (count : Count) (inputs : RaceInputs) → ReadsRace files count (record { policy = named.policy; listing = named.listing }) (Ok inputs)
    → (first begun now : ℕ) (last : List ℕ) (stop : Stop) → first ≤ begun
    → ReadsClasses files (counted begun now last) named.classes (Err stop) → ReadsInline files (counted first now last) named (Err stop)
inline_stops files named count inputs read first begun now last stop le reads =
    inr (read.0, read.1, inr (read.2.0, read.2.1, inl (among_since files named.classes first begun now last stop le reads)))

-- ---- replay

pub replay_stops : (files : Files) (named : NamedReplay) (first begun now : ℕ) (last : List ℕ) → first ≤ begun → (listing : Listing) → IsRead files named.listing listing_form (Ok listing) → (stop : Stop)
    → ReadsBefore files (counted begun now last) named.recorded (record_form listing) named.classes (Err stop) → ReadsReplay files (counted first now last) named (Err stop)
replay_stops files named first begun now last le listing listed stop over =
    let whole : Record → Classes → ReplayInputs = λ recorded classes. record { listing = listing; recorded = recorded; classes = classes } in
    inr (listing, listed, before_since files (record_form listing) named.recorded named.classes whole first begun now last stop le over)

-- ---- lift

pub lift_stops : (files : Files) (named : NamedLift) (count : Count) (inputs : RaceInputs) → ReadsRace files count (record { policy = named.policy; listing = named.listing }) (Ok inputs)
    → (first begun now : ℕ) (last : List ℕ) (stop : Stop) → first ≤ begun
    → ReadsBefore files (counted begun now last) named.recorded (record_form inputs.listing) named.classes (Err stop) → ReadsLift files (counted first now last) named (Err stop)
lift_stops files named count inputs read first begun now last stop le over =
    let form = subst (λ (i : RaceInputs). ReadsBefore files (counted begun now last) named.recorded (record_form i.listing) named.classes (Err stop)) read.2.2 over in
    let whole : Record → Classes → LiftInputs = λ recorded classes. record { listing = read.0; policy = read.2.0; recorded = recorded; classes = classes } in
    inr (read.0, read.1, inr (read.2.0, read.2.1, before_since files (record_form read.0) named.recorded named.classes whole first begun now last stop le form))

-- An accepted program obeys, whatever its steps are, and its lock is held.
use Rattle.std.proofs.Common.{◌≡◌, ℕ, zero, suc, ◌<◌, Bool, List, [], ◌∷◌, length, Option, Some, None, refl, ap, subst, ◌∙◌, arith, inl, inr}
use Rattle.std.specs.Prelude.{Contains, get_or, option_map, slice_get}
use Rattle.std.specs.List.{AllByRecursion}
use Rattle.std.proofs.lemmas.Option.{slice_get_cases}
use Rattle.insn_codec.specs.declared.insn.Insn.{Insn}
use Rattle.insn_codec.specs.Fits.{IsInsn}
use Rattle.bytecode_model.specs.declared.program.LinkedClass.{LinkedClass}
use Rattle.bytecode_model.specs.declared.program.Method.{Method}
use Rattle.bytecode_model.specs.declared.program.Program.{Program}
use Rattle.bytecode_model.specs.declared.program.Target.{Target}
use Rattle.bytecode_model.specs.Sound.{IsSound, IsSoundClass, IsSoundMethod, IsWithin}
use Rattle.bytecode_model.specs.LinkedClasses.{AreLiterals}
use Rattle.bytecode_model.specs.Targets.{AreNamed}
use Rattle.bytecode_model.specs.Typed.{reached}
use Rattle.cert_format.specs.declared.certificate.Certificate.{Certificate}
use Rattle.cert_format.specs.declared.certificate.Mode.{Mode}
use Rattle.cert_format.specs.declared.certificate.Mode.TheVariants as modes
use Rattle.code_typing.specs.Closed.{BeginsReached, GoesToReached, IsCaughtReached}
use Rattle.conspec_automaton.specs.declared.policy.Policy.{Policy}
use Rattle.conspec_automaton.specs.Racing.{IsRaceFree}
use Rattle.conspec_automaton.specs.Sound.{IsPolicy, NamesMethods}
use Rattle.guest_model.specs.Numbers.{KeepsWords}
use Rattle.guest_model.specs.Places.{method_at, insn_in}
use Rattle.guest_model.specs.ClosedPlaces.{HasInsns, IsClosed}
use Rattle.block_logic.specs.Accepted.{IsAccepted}
use Rattle.block_logic.specs.Annotations.{annotations_of, held_in}
use Rattle.block_logic.specs.Formed.{RunsAreFormed}
use Rattle.block_logic.specs.Meaning.{IsJudged, IsReleasing}
use Rattle.block_logic.specs.Obeying.{AcceptedObeys, EventsAreLocked, IsObeying, LockIsHeld}
use Rattle.typed_runs.specs.Formed.{SeesWellFormed, TellsTypes}
use Rattle.typed_runs.specs.Programs.{IsLinkedProgram}
use Rattle.cert_checker.specs.Secure.{Secure}
use Rattle.cert_checker.proofs.Options.{all_at, and_then_of}
use Rattle.cert_checker.proofs.Telling.{fits_listing}

-- ---- places

-- an instruction and what its operand names
abbrev beside : Insn → Target → Insn × Target
beside insn ref = (insn, ref)

record BothThere (m : Method) (at : ℕ) (insn : Insn) (ref : Target) : Type 0 where
  pub insn_there : slice_get m.insns at ≡ Some insn
  pub ref_there : slice_get m.refs at ≡ Some ref

by_ref : (m : Method) (at : ℕ) (insn i : Insn) (ref : Target) (o : Option Target) → slice_get m.refs at ≡ o → slice_get m.insns at ≡ Some i → option_map (beside i) o ≡ Some (beside insn ref) → BothThere m at insn ref
by_ref m at insn i ref None is there e = absurd cc
by_ref m at insn i ref (Some r) is there e =
    let pair : beside i r ≡ beside insn ref = cc in
    let same : i ≡ insn = ap (λ (p : Insn × Target). p.0) pair in
    let named : r ≡ ref = ap (λ (p : Insn × Target). p.1) pair in
    record { insn_there = there ∙ ap (λ (x : Insn). Some x) same; ref_there = is ∙ ap (λ (x : Target). Some x) named }

insn_there : (m : Method) (at : ℕ) (insn : Insn) (ref : Target) → insn_in m at ≡ Some (insn, ref) → BothThere m at insn ref
insn_there m at insn ref e =
    let i = and_then_of (λ (i : Insn). option_map (beside i) (slice_get m.refs at)) (slice_get m.insns at) (beside insn ref) e in
    by_ref m at insn i.0 ref (slice_get m.refs at) refl i.1 i.2

-- what holds of each holds of one of them
all_contains : {A : Type 0} (P : A → Type 0) (xs : List A) (x : A) → AllByRecursion P xs → Contains xs x → P x
all_contains P xs x all has = at_place P xs x has.0 all has.1 has.2 where
  at_place : {A : Type 0} (P : A → Type 0) (xs : List A) (x : A) (i : ℕ) → AllByRecursion P xs → i < length xs → get_or xs i x ≡ x → P x
  at_place P [] x i all within is = absurd (omega (arith, within))
  at_place P (y ∷ xs) x zero all within is = subst P is all.0
  at_place P (y ∷ xs) x (suc i) all within is = at_place P xs x i all.1 (omega (arith, within)) is

-- the laws of lower crates that this stands on
pub record Laws : Type 0 where
  pub obeys : AcceptedObeys
  pub held : LockIsHeld
  pub begin : BeginsReached
  pub next : GoesToReached
  pub caught : IsCaughtReached
  pub formed : SeesWellFormed
  pub words : (program : Program) → IsSound program → AreNamed program → AreLiterals program → KeepsWords program

-- a race-free policy is race-free of each two methods
releasing : (program : Program) (mode : Mode) (policy : Policy) → IsRaceFree policy → RunsAreFormed program policy → IsReleasing program policy (held_in mode)
releasing program mode policy race formed = record {
  race = record {
    ends_are_taken = race.ends_are_taken;
    calls_turn = λ first second tested. race.calls_turn first second refl;
    ends_turn = λ first second tested. race.ends_turn first second refl;
    ends_come_first = λ call end tested. race.ends_come_first call end refl;
  };
  formed = formed;
}

-- what is known of the mode, as it is said of the calls round which the lock is held
judged : (program : Program) (mode : Mode) (policy : Policy) → (mode ≡ modes.Release → IsRaceFree policy) → RunsAreFormed program policy → IsJudged program policy (held_in mode)
judged program modes.Hold policy race formed = inl refl
judged program modes.Release policy race formed = inr (releasing program modes.Release policy (race refl) formed)

-- what is known of a program and a policy before the check
pub record IsGiven (program : Program) (policy : Policy) : Type 0 where
  pub linked : IsLinkedProgram program
  pub good : IsPolicy policy
  pub named : NamesMethods (length program.listing.methods) policy
  pub told : AllByRecursion (TellsTypes program.listing) policy.clauses

module _ (laws : Laws) (program : Program) (policy : Policy) (certificate : Certificate) (given : IsGiven program policy) (accepted : IsAccepted program policy certificate) where
  abbrev set : ℕ → ℕ → ℕ → Bool
  set = reached program certificate.typing

  -- a method of the program, in its class
  record Found (class method : ℕ) (m : Method) : Type 0 where
    pub c : LinkedClass
    pub class_there : slice_get program.classes class ≡ Some c
    pub in_class : slice_get c.methods method ≡ Some m
    pub well : IsSoundMethod m

  found : (class method : ℕ) (m : Method) → method_at program class method ≡ Some m → Found class method m
  found class method m e =
      let h = and_then_of (λ (c : LinkedClass). slice_get c.methods method) (slice_get program.classes class) m e in
      record {
        c = h.0;
        class_there = h.1;
        in_class = h.2;
        well = all_at IsSoundMethod h.0.methods method m (all_at IsSoundClass program.classes class h.0 given.linked.sound.classes h.1).methods h.2;
      }

  has_insns : HasInsns program
  has_insns class method at insn ref there =
      let f = found class method there.of there.there in
      all_at IsInsn there.of.insns at insn f.well.insns (insn_there there.of at insn ref there.is).insn_there

  -- an instruction that a handler covers is there
  insn_covered : (m : Method) (at : ℕ) → at < length m.insns → (insn : Insn) × (slice_get m.insns at ≡ Some insn)
  insn_covered m at within =
      elim ((slice_get_cases m.insns at).1) [
        | inl there ↦ (there.0, there.2)
        | inr past ↦ absurd (omega (arith, past.0, within))
      ]

  closed : IsClosed program set
  closed = record {
    begin = λ class method of there coded. laws.begin program certificate.typing accepted.typed class method of there coded;
    next = λ class method at insn ref inside there to goes.
        laws.next program certificate.typing accepted.typed class method at there.of insn there.there (insn_there there.of at insn ref there.is).insn_there inside to goes;
    caught = λ class method at of handler inside there has from to.
        let f = found class method of there in
        let w = all_contains (IsWithin (length of.insns)) of.handlers handler f.well.handlers has in
        let i = insn_covered of at (omega (arith, to, w.to)) in
        laws.caught program certificate.typing accepted.typed class method at of i.0 handler there i.1 inside has from to;
  }

  obeying : IsJudged program policy (held_in certificate.mode) → IsObeying program policy (annotations_of certificate)
  obeying judged = record {
    judged = judged;
    sound = given.linked.sound;
    good = given.good;
    named = given.named;
    listed = fits_listing program.listing policy.clauses given.told;
    accepted = accepted;
    insns = has_insns;
    closed = closed;
  }

  -- runs are formed, since the certificate types the program
  formed : RunsAreFormed program policy
  formed = record {
    events = laws.formed program certificate.typing policy (record { links = given.linked; typed = accepted.typed }) given.told;
    words = laws.words program given.linked.sound given.linked.linked.named given.linked.linked.literals;
  }

  pub secure : (certificate.mode ≡ modes.Release → IsRaceFree policy) → Secure certificate.mode program policy
  secure race steps = laws.obeys program policy certificate (obeying (judged program certificate.mode policy race formed)) steps

  pub locked : certificate.mode ≡ modes.Hold → EventsAreLocked program policy
  locked hold = laws.held program policy certificate (obeying (inl (rw hold refl))) hold

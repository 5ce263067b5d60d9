-- What the check says of a program with its certificate: the first test that fails, and then races, where the lock is let go round
-- calls. (docs/CERTIFICATES.md)
use Rattle.std.specs.Prelude.{◌≡◌, Result, Ok, Err}
use Rattle.bytecode_model.specs.declared.program.Program.{Program}
use Rattle.block_logic.specs.Accepted.{IsAccepted}
use Rattle.cert_checker.specs.declared.checking.Accepted.{Accepted}
use Rattle.cert_checker.specs.declared.fault.CheckFault.{CheckFault}
use Rattle.cert_checker.specs.declared.judging.Denial.{Denial}
use Rattle.cert_checker.specs.declared.judging.Denial.TheVariants as denials
use Rattle.cert_checker.specs.Acceptance.{verdict}
use Rattle.cert_format.specs.declared.certificate.Certificate.{Certificate}
use Rattle.cert_format.specs.declared.certificate.Mode.{Mode}
use Rattle.cert_format.specs.declared.certificate.Mode.TheVariants as modes
use Rattle.conspec_automaton.specs.declared.policy.Policy.{Policy}
use Rattle.conspec_automaton.specs.Racing.{IsRaceFree, all_pairs}
use Rattle.mon_base.specs.Reading.{◌>>=◌}
use Rattle.race_free_check.specs.declared.fault.RaceFault.{RaceFault}
use Rattle.race_free_check.specs.declared.fault.RaceFault.TheVariants as faults
use Rattle.race_free_check.specs.declared.verdict.RaceVerdict.{RaceVerdict}
use Rattle.race_free_check.specs.declared.verdict.RaceVerdict.TheVariants as verdicts
use Rattle.race_free_check.specs.Deciding.{decided}
use Rattle.race_free_check.specs.Limit.{AllHaveFewPoints}

-- the denial for what is decided of races
abbrev pub race_denied : Result RaceVerdict RaceFault → Result (Unit {0}) Denial
race_denied (Ok verdicts.Free) = Ok tt
race_denied (Ok (verdicts.Racy condition state first second)) = Err (denials.Racy condition state first second)
race_denied (Err (faults.CellLimit first second count)) = Err (denials.CellLimit first second count)
race_denied (Err faults.Memory) = Err denials.Memory

-- In mode hold no race matters.
abbrev pub races_denied : Mode → Policy → Result (Unit {0}) Denial
races_denied modes.Hold policy = Ok tt
races_denied modes.Release policy = race_denied (decided policy)

-- as a denial, if it is a fault
abbrev pub check_denied : Result Accepted CheckFault → Result Accepted Denial
check_denied (Ok accepted) = Ok accepted
check_denied (Err fault) = Err (denials.Fault fault)

abbrev pub judged : Program → Policy → Certificate → Result Accepted Denial
judged program policy certificate =
    check_denied (verdict program policy certificate) >>= λ accepted. races_denied certificate.mode policy >>= λ free. Ok accepted

-- It is accepted, and in mode release the policy is race-free, with so few points of each two clauses that this is decided.
pub record IsAllowed (program : Program) (policy : Policy) (certificate : Certificate) : Type 0 where
  pub accepted : IsAccepted program policy certificate
  pub race : certificate.mode ≡ modes.Release → IsRaceFree policy
  pub few : certificate.mode ≡ modes.Release → AllHaveFewPoints all_pairs policy

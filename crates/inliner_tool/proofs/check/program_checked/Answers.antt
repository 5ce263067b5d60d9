use Rattle.std.proofs.Common.{◌≡◌, ◌∙◌, true, ap, sym, subst}
use Rattle.std.specs.Prelude.{is_ok}
use Rattle.std.specs.List.{AllByRecursion}
use Rattle.block_logic.specs.Annotations.{annotations_of}
use Rattle.block_logic.specs.Obeying.{EventsAreLocked}
use Rattle.block_logic.specs.Outside.{LeavesBlocks}
use Rattle.cert_checker.specs.Judging.{IsAllowed, judged}
use Rattle.cert_checker.specs.Secure.{Secure}
use Rattle.cert_format.specs.declared.certificate.Mode.TheVariants as modes
use Rattle.conspec_automaton.specs.Building.{built}
use Rattle.conspec_automaton.specs.declared.policy.Policy.{Policy}
use Rattle.inliner_tool.proofs.CheckedAs.{judged_so}
use Rattle.inliner_tool.proofs.Listed.{tells_types}
use Rattle.cert_checker.specs.declared.judging.Denial.TheVariants as denials
use Rattle.mon_base.specs.Answer.{Answers}
use Rattle.typed_runs.specs.Formed.{TellsTypes}
use Rattle.inliner_tool.proofs.check.program_checked.Goals as goal

pub check-requires-clause-policy : goal.check-requires-clause-policy
check-requires-clause-policy c = (c.in-Ok.ensures.sound c.args.program.now.listing c.requires.policy.sound).0

pub check-requires-clause-named : goal.check-requires-clause-named
check-requires-clause-named c = (c.in-Ok.ensures.sound c.args.program.now.listing c.requires.policy.sound).1

pub check-requires-clause-told : goal.check-requires-clause-told
check-requires-clause-told c =
    subst (λ (p : Policy). AllByRecursion (TellsTypes c.args.program.now.listing) p.clauses) (sym c.in-Ok.ensures.is)
    (tells_types c.policies_tell_types.ensures.tell c.kinds_are_told.ensures.arguments c.kinds_are_told.ensures.results c.requires.linked.text c.args.program.now.listing c.args.policy.now
    c.requires.linked.listed c.requires.policy)

pub returns-in-Ok-check-clause-checked : goal.returns-in-Ok-check-clause-checked
returns-in-Ok-check-clause-checked c =
    let program = c.args.program.now in
    let certificate = c.args.certificate.now in
    let is : c.in-Ok.automaton ≡ built c.args.policy.now = c.in-Ok.ensures.is in
    let ok : is_ok c.check.result ≡ true = ap is_ok c.in-Ok-check.is in
    let allowed = c.check.ensures.allowed ok in
    record {
      policy_is = is;
      accepts = judged_so c.args.policy.now certificate program c.in-Ok-check.accepted
          (ap (λ (p : Policy). judged program p certificate) (sym is) ∙ subst (λ r. Answers denials.Memory r (judged program c.in-Ok.automaton certificate)) c.in-Ok-check.is c.check.ensures.exact);
      checked = record {
        accepted = subst (λ (p : Policy). IsAllowed program p certificate) is allowed;
        secure = subst (Secure certificate.mode program) is (c.check.ensures.secure ok);
        read = c.requires.policy;
        runs = c.linked_programs_run_typed.ensures program certificate.typing c.requires.linked allowed.accepted.typed;
        locked = subst (λ (p : Policy). certificate.mode ≡ modes.Hold → EventsAreLocked program p) is (c.check.ensures.locked ok);
        errors = subst (λ (p : Policy). LeavesBlocks program p (annotations_of certificate)) is (c.check.ensures.leaves_blocks ok);
      };
    }

-- What is proved of the steps of accepted programs, and of their start, from what the policy sees of events.
use Rattle.bytecode_model.specs.declared.program.Program.{Program}
use Rattle.block_logic.specs.Annotations.{Annotations}
use Rattle.conspec_automaton.specs.declared.policy.Policy.{Policy}
use Rattle.block_logic.specs.Obeying.{IsObeying}
use Rattle.block_logic.proofs.Agreement.{SeenIsEnough}
use Rattle.block_logic.proofs.Client.Answers.{client_answers}
use Rattle.block_logic.proofs.Client.Steps.{client_steps}
use Rattle.block_logic.proofs.Composing.{StepLaws}
use Rattle.block_logic.proofs.Obeyed.{Proved}
use Rattle.block_logic.proofs.Owner.Answers.{block_answers}
use Rattle.block_logic.proofs.Owner.Steps.{other_steps, owner_steps}
use Rattle.block_logic.proofs.Owner.Taking.{taking_steps}
use Rattle.block_logic.proofs.Ruled.{BeginsOpen, OpensFree, RulesHold}
use Rattle.block_logic.proofs.RulesHold.{begins_open, rules_hold}
use Rattle.block_logic.proofs.Starting.{starts_well}
use Rattle.block_logic.proofs.Client.Begins.{rests_client}
use Rattle.block_logic.proofs.Client.Frames.{Laws, opens_free}
use Rattle.block_logic.proofs.Steps.{StartsWell}

module _ (program : Program) (policy : Policy) (annotations : Annotations) (o : IsObeying program policy annotations) where
  ruled : RulesHold program policy annotations
  ruled = rules_hold program policy annotations o

  begin : BeginsOpen program policy annotations
  begin = begins_open program policy annotations o

  opens : OpensFree program policy annotations
  opens = opens_free program policy annotations

  laws : Laws program policy annotations
  laws = record { obeys = o; rules_hold = ruled; begins_open = begin }

  pub step_laws : SeenIsEnough → StepLaws program policy annotations
  step_laws seen = record {
    client_steps = client_steps program policy annotations o ruled begin;
    client_answers = client_answers program policy annotations o ruled begin;
    taking_steps = taking_steps program policy annotations o ruled;
    owner_steps = owner_steps program policy annotations o ruled opens;
    other_steps = other_steps program policy annotations o ruled opens;
    block_answers = block_answers program policy annotations o ruled laws;
    seen_is_enough = seen;
    obeys = o;
  }

  pub starts : StartsWell program policy annotations
  starts = starts_well program policy annotations o (rests_client program policy annotations laws)

pub proved : SeenIsEnough → Proved
proved seen = record {
  steps = λ program policy annotations o. step_laws program policy annotations o seen;
  starts = λ program policy annotations o. starts program policy annotations o;
}

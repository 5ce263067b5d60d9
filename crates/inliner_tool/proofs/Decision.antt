-- To files that are told, and are a listing and a policy, `race` answers what is decided, unless memory runs out.
use Rattle.std.proofs.Common.{◌≡◌, inl, inr, Result, Ok, Err, ap, subst, ◌∙◌}
use Rattle.api_listing.specs.declared.types.Listing.{Listing}
use Rattle.conspec_automaton.specs.Building.{built}
use Rattle.conspec_tree.specs.declared.types.PolicyTree.{PolicyTree}
use Rattle.mon_store.specs.Store.{Files, Rose}
use Rattle.command_inputs.specs.Words.{NamedRace, Race}
use Rattle.command_inputs.specs.declared.files.Stop.{Stop}
use Rattle.command_inputs.specs.declared.files.Stop.TheVariants as stops
use Rattle.command_inputs.specs.Forms.{Count, ReadsForm, Then, Yields}
use Rattle.command_inputs.specs.Kinds.{listing_form, policy_form}
use Rattle.command_inputs.specs.RaceInputs.{ReadsRace}
use Rattle.race_free_check.specs.declared.fault.RaceFault.{RaceFault}
use Rattle.race_free_check.specs.declared.fault.RaceFault.TheVariants as faults
use Rattle.race_free_check.specs.declared.verdict.RaceVerdict.{RaceVerdict}
use Rattle.race_free_check.specs.declared.verdict.RaceVerdict.TheVariants as verdicts
use Rattle.race_free_check.specs.Deciding.{decided}
use Rattle.inliner_tool.specs.declared.answer.Made.{Made}
use Rattle.inliner_tool.specs.declared.refusal.Ended.TheVariants as ends
use Rattle.inliner_tool.specs.declared.refusal.Refusal.{Refusal}
use Rattle.inliner_tool.specs.declared.refusal.Refusal.TheVariants as refusals
use Rattle.inliner_tool.specs.Decision.{IsDecision, NamesPolicy, RaceDecides}
use Rattle.inliner_tool.specs.Race.{Races, race_step, racy}
use Rattle.inliner_tool.specs.Steps.{Outcome, Reading, outcome_step, stopped}
use Rattle.inliner_tool.specs.Tool.{answer_status, refusal_status, status_of}
use Rattle.inliner_tool.proofs.Carrying.{no_rise_so}
use Rattle.inliner_tool.proofs.Told.{may_read, stops_once, tree_once}

-- ---- what is decided

step_decides : (policy : PolicyTree) (listing : Listing) (decision : Result RaceVerdict RaceFault) (refusal : Refusal) → Err (ends.Refused refusal) ≡ race_step policy listing decision
    → IsDecision (refusal_status refusal)
step_decides policy listing (Ok verdicts.Free) refusal is = absurd cc
step_decides policy listing (Ok (verdicts.Racy condition state first second)) refusal is =
    let same : refusal ≡ racy policy listing condition state first second = cc in
    inr (ap refusal_status same)
step_decides policy listing (Err (faults.CellLimit first second count)) refusal is =
    let same : refusal ≡ refusals.CellLimit first second count = cc in
    inr (ap refusal_status same)
step_decides policy listing (Err faults.Memory) refusal is = absurd cc

module _ (files : Files) (count : Count) (named : NamedRace) (no_rise : Rose count.before count.now → ⊥) (names : NamesPolicy files named) where
  listing_stops : (stop : Stop) → ReadsForm files count named.listing listing_form (Err stop) → stop ≡ stops.Memory
  listing_stops stop is = stops_once files count named.listing listing_form names.listing names.told (may_read files named.listing listing_form names.listing names.listing_read) no_rise stop is

  policy_stops : (listing : Listing) (stop : Stop) → ReadsForm files count named.listing listing_form (Ok listing) → ReadsForm files count named.policy (policy_form listing) (Err stop) → stop ≡ stops.Memory
  policy_stops listing stop first is =
      let same = tree_once files count named.listing listing_form names.listing names.told (may_read files named.listing listing_form names.listing names.listing_read) no_rise listing first in
      let here = subst (λ (l : Listing). ReadsForm files count named.policy (policy_form l) (Err stop)) same is in
      stops_once files count named.policy (policy_form names.listing) names.policy names.told (may_read files named.policy (policy_form names.listing) names.policy names.policy_read) no_rise stop here

  race_stops : (stop : Stop) → ReadsRace files count named (Err stop) → stop ≡ stops.Memory
  race_stops stop (inl first) = listing_stops stop first
  race_stops stop (inr (listing, first, inl second)) = policy_stops listing stop first second
  race_stops stop (inr (listing, first, inr (policy, second, none))) = absurd none

  -- what is made is decided
  made_decides : (outcome : Outcome) → Then (Then (Reading (ReadsRace files count named)) Races) (λ made. Yields made.answer) (outcome_step outcome) → IsDecision (status_of outcome)
  made_decides (Ok answer) (made, (inputs, read, (free, decided_so, same)), is) = inl (ap answer_status (is ∙ ap (λ (m : Made). m.answer) same))
  made_decides (Err refusal) (inl (inl (stop, read, is))) =
      let wrong : ends.Refused refusal ≡ ends.Memory = is ∙ ap stopped (race_stops stop read) in
      absurd cc
  made_decides (Err refusal) (inl (inr (inputs, read, inl is))) = step_decides inputs.policy inputs.listing (decided (built inputs.policy)) refusal is
  made_decides (Err refusal) (inl (inr (inputs, read, inr (free, decided_so, none)))) = absurd none
  made_decides (Err refusal) (inr (made, makes, none)) = absurd none

pub race_decides : RaceDecides
race_decides seen named outcome carries no_rise names = made_decides seen.old seen.count named no_rise names outcome (no_rise_so seen (Race named) no_rise (outcome_step outcome) carries)

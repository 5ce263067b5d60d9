-- What `gen` makes is written, where the store has no fault.
use Rattle.std.proofs.Common.{◌≡◌, inl, inr, Ok, Err, ap, subst, ◌∙◌}
use Rattle.command_inputs.specs.GenWords.{NamedGen}
use Rattle.command_inputs.specs.Words.{Gen, NamedCommand}
use Rattle.mon_store.specs.Outputs.{all_written}
use Rattle.inliner_tool.specs.declared.answer.Answer.{Answer}
use Rattle.inliner_tool.specs.declared.answer.Made.{Made}
use Rattle.inliner_tool.specs.GenDecision.{GenDecides}
use Rattle.inliner_tool.specs.Generate.{IsGenerated, generated_made}
use Rattle.inliner_tool.specs.Seen.{Seen}
use Rattle.inliner_tool.specs.Writing.{CarriesOut}

answered : (seen : Seen) (named : NamedGen) (answer : Answer) → CarriesOut seen (Gen named) (Ok answer) → (answer ≡ (generated_made named).answer) × IsGenerated seen named
answered seen named answer (made, makes, (is, written)) =
    (is ∙ ap (λ (m : Made). m.answer) makes, record { written = written ∙ ap (λ (m : Made). all_written seen.old m.outputs) makes })

-- a command that is `gen`
pub generated_so : (seen : Seen) (command : NamedCommand) (named : NamedGen) → command ≡ Gen named → (answer : Answer) → CarriesOut seen command (Ok answer) → IsGenerated seen named
generated_so seen command named is answer carries = (answered seen named answer (subst (λ (n : NamedCommand). CarriesOut seen n (Ok answer)) is carries)).1

pub gen_decides : GenDecides
gen_decides seen named (Ok answer) carries no_rise =
    let so = answered seen named answer carries in
    (ap (λ (a : Answer). Ok a) so.0, so.1)
gen_decides seen named (Err refusal) (inl (none, same)) no_rise = absurd none
gen_decides seen named (Err refusal) (inr (made, makes, (name, is, stops, caused))) no_rise = absurd (no_rise caused.rose)

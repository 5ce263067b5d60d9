-- That `gen` writes: without a fault of the store everything is written, unless memory runs out. (docs/GENERATED.md)
use Rattle.std.specs.Prelude.{◌≡◌, Ok}
use Rattle.command_inputs.specs.GenWords.{NamedGen}
use Rattle.command_inputs.specs.Words.{Gen}
use Rattle.mon_store.specs.Store.{Rose}
use Rattle.inliner_tool.specs.Generate.{IsGenerated, generated_made}
use Rattle.inliner_tool.specs.Seen.{Seen}
use Rattle.inliner_tool.specs.Steps.{Outcome, outcome_step}
use Rattle.inliner_tool.specs.Writing.{CarriesOut}

-- What `gen` comes to without a fault of the store is its answer, and what is answered is written.
abbrev pub GenDecides : Type 0
GenDecides =
    (seen : Seen) (named : NamedGen) (outcome : Outcome) → CarriesOut seen (Gen named) (outcome_step outcome)
    → (Rose seen.count.before seen.count.now → ⊥) → (outcome ≡ Ok (generated_made named).answer) × IsGenerated seen named

-- That `load` weaves whatever is made from a number: without a fault of the store everything is written, or a size is too large, unless
-- memory runs out. (docs/GENERATED.md)
use Rattle.std.specs.Prelude.{◌≡◌, ◌⊎◌, ℕ, ℤ, ◌*◌, List, length, Ok, Err}
use Rattle.cert_checker.specs.declared.checking.Accepted.{Accepted}
use Rattle.command_inputs.specs.GenWords.{IsInBounds, NamedGen}
use Rattle.command_inputs.specs.Words.{Load}
use Rattle.mon_store.specs.Store.{Rose}
use Rattle.offset_patch.specs.declared.fault.Size.{Size}
use Rattle.inliner_tool.specs.declared.answer.Answer.TheVariants as answers
use Rattle.inliner_tool.specs.declared.refusal.Refusal.{Refusal}
use Rattle.inliner_tool.specs.declared.refusal.Refusal.TheVariants as refusals
use Rattle.inliner_tool.specs.Generate.{bundle_of}
use Rattle.inliner_tool.specs.Seen.{Seen}
use Rattle.inliner_tool.specs.Steps.{Outcome, outcome_step}
use Rattle.inliner_tool.specs.Writing.{CarriesOut}

-- A size of what is woven does not fit, or its certificate is too long.
abbrev pub IsTooLarge : Refusal → Type 0
IsTooLarge refusal =
    ((class : List ℕ) × (method : ℕ) × (what : Size) × (value : ℤ) × (refusal ≡ refusals.Overflow class method what value))
    ⊎ ((value : ℕ) × (refusal ≡ refusals.LongCertificate value))

-- Everything is written, or a size is too large: the statuses 0 and 4.
abbrev pub IsLoading : NamedGen → Outcome → Type 0
IsLoading named (Ok answer) = (accepted : Accepted) × (answer ≡ answers.Loaded accepted (length (bundle_of named).files) (named.classes * named.sites))
IsLoading named (Err refusal) = IsTooLarge refusal

-- What `load` comes to without a fault of the store is such an outcome: it refuses none of its own files.
abbrev pub LoadDecides : Type 0
LoadDecides =
    (seen : Seen) (named : NamedGen) (outcome : Outcome) → IsInBounds named → CarriesOut seen (Load named) (outcome_step outcome)
    → (Rose seen.count.before seen.count.now → ⊥) → IsLoading named outcome

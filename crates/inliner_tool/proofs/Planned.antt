-- The steps of a plan, of a program that links, is typed, and is woven in this mode.
use Rattle.std.proofs.Common.{◌≡◌, ℕ, List, length, Ok, Err, inl, inr, sym, subst}
use Rattle.std.specs.List.{AllByRecursion}
use Rattle.mon_base.proofs.Reading.{ok_is}
use Rattle.api_listing.specs.declared.types.Listing.{Listing}
use Rattle.bytecode_model.specs.declared.program.Program.{Program}
use Rattle.command_inputs.specs.declared.inline_words.Weaving.{Weaving}
use Rattle.conspec_automaton.specs.declared.policy.Policy.{Policy}
use Rattle.conspec_tree.specs.declared.types.PolicyTree.{PolicyTree}
use Rattle.conspec_automaton.specs.Building.{built}
use Rattle.conspec_automaton.specs.Sound.{IsPolicy, NamesMethods}
use Rattle.conspec_parse.specs.Telling.{KindsAreTold, ResultsAreTold}
use Rattle.command_inputs.specs.declared.inline_inputs.InlineInputs.{InlineInputs}
use Rattle.command_inputs.specs.InlineInputs.{InlineSound}
use Rattle.typed_runs.specs.Formed.{PoliciesTellTypes, TellsTypes}
use Rattle.inliner_tool.specs.declared.refusal.Ended.{Ended}
use Rattle.inliner_tool.specs.declared.inline.Given.{Given}
use Rattle.inliner_tool.specs.declared.inline.Ready.{Ready}
use Rattle.inliner_tool.specs.Policy.{IsSoundFor}
use Rattle.inliner_tool.specs.Programs.{AreTypes, Types}
use Rattle.inliner_tool.specs.Steps.{Equals, Step, UnlessMemory}
use Rattle.inliner_tool.specs.Weaving.{Chosen, Fits, Gathers, GathersBoth, Plans, Typed, mode_for, original}
use Rattle.inliner_tool.proofs.Listed.{tells_types}
use Rattle.inliner_tool.proofs.Planning.{later}

-- What is known of the policy over the program's listing.
pub sound_for : PoliciesTellTypes → KindsAreTold → ResultsAreTold → (inputs : InlineInputs) → InlineSound inputs → (policy : Policy) → policy ≡ built inputs.policy
    → IsPolicy policy × NamesMethods (length inputs.listing.methods) policy → (listing : Listing) → listing ≡ inputs.listing → IsSoundFor listing policy
sound_for tell kinds results inputs known policy is sound listing same =
    let told : AllByRecursion (TellsTypes inputs.listing) policy.clauses =
    subst (λ (p : Policy). AllByRecursion (TellsTypes inputs.listing) p.clauses) (sym is)
    (tells_types tell kinds results known.listed.text inputs.listing inputs.policy known.listed.encodes known.policy) in
    subst (λ (l : Listing). IsSoundFor l policy) (sym same) (record { read = sound.0; named = sound.1; told = told })

module _ (main folder : List ℕ) (weaving : Weaving) (inputs : InlineInputs) (client : Program) (links : Equals (original inputs.listing inputs.classes main) (Ok client)) where
  -- nothing is to be woven
  pub given_fails : (e : Ended) → UnlessMemory (Gathers weaving inputs.policy client) (Err e) → UnlessMemory (Plans main folder weaving inputs) (Err e)
  given_fails e (inr memory) = inr memory
  given_fails e (inl told) = later (Equals (original inputs.listing inputs.classes main)) (Typed main folder weaving inputs.policy) client links (Err e) (inl (by told))
    where
      by : Gathers weaving inputs.policy client (Err e) → Typed main folder weaving inputs.policy client (Err e)
      by (inl untyped) = inl untyped
      by (inr (typing, typed, inl unbuilt)) = inr (typing, typed, inl unbuilt)
      by (inr (typing, typed, inr (mode, chosen, same))) = absurd cc

  module _ (given : Given) (gathers : Gathers weaving inputs.policy client (Ok given)) where
    -- what the step of the sizes answers
    pub fits_so : (result : Step Ready) → UnlessMemory (Fits main folder given) result → UnlessMemory (Plans main folder weaving inputs) result
    fits_so result told = by gathers
      where
        by : Gathers weaving inputs.policy client (Ok given) → UnlessMemory (Plans main folder weaving inputs) result
        by (typing, typed, (mode, chosen, same)) =
            let is : given ≡ record { client = client; typing = typing; policy = built inputs.policy; mode = mode } = ok_is Ended given _ same in
            later (Equals (original inputs.listing inputs.classes main)) (Typed main folder weaving inputs.policy) client links result
            (later (Types client) (Chosen main folder weaving inputs.policy client) typing typed result
            (later (Equals (mode_for weaving inputs.policy client.listing)) (λ m. Fits main folder (record { client = client; typing = typing; policy = built inputs.policy; mode = m })) mode chosen result
            (subst (λ (g : Given). UnlessMemory (Fits main folder g) result) is told)))

    -- the types that were found, and the mode that was chosen
    pub typed_so : AreTypes client given.typing × (mode_for weaving inputs.policy client.listing ≡ Ok given.mode)
    typed_so = by gathers
      where
        by : Gathers weaving inputs.policy client (Ok given) → AreTypes client given.typing × (mode_for weaving inputs.policy client.listing ≡ Ok given.mode)
        by (typing, typed, (mode, chosen, same)) =
            let is : given ≡ record { client = client; typing = typing; policy = built inputs.policy; mode = mode } = ok_is Ended given _ same in
            (subst (λ (g : Given). AreTypes client g.typing) (sym is) typed, subst (λ (g : Given). mode_for weaving inputs.policy client.listing ≡ Ok g.mode) (sym is) (sym chosen))

-- What cannot be gathered.
pub gathers_fail : (weaving : Weaving) (tree : PolicyTree) (client : Program) (e : Ended) → UnlessMemory (GathersBoth weaving tree client) (Err e) → UnlessMemory (Gathers weaving tree client) (Err e)
gathers_fail weaving tree client e (inr memory) = inr memory
gathers_fail weaving tree client e (inl (inl untyped)) = inl (inl untyped)
gathers_fail weaving tree client e (inl (inr (typing, typed, inl unbuilt))) = inl (inr (typing, typed, inl unbuilt))
gathers_fail weaving tree client e (inl (inr (typing, typed, inr (mode, chosen, same)))) = absurd cc

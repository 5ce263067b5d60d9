-- Steps of the thread that holds the lock, by its note.
use Rattle.std.proofs.Common.{◌≡◌, ℕ, zero, suc, true, false, [], Option, refl, inl, inr}
use Rattle.std.specs.Prelude.{◌==◌, ◌&&◌, ◌||◌, not, is_some}
use Rattle.insn_codec.specs.Shapes.{shape_of}
use Rattle.bytecode_model.specs.declared.program.Program.{Program}
use Rattle.block_logic.specs.Annotations.{Annotations}
use Rattle.cert_format.specs.declared.note.Note.TheVariants as notes
use Rattle.conspec_automaton.specs.declared.policy.Clause.{Clause}
use Rattle.conspec_automaton.specs.declared.policy.Policy.{Policy}
use Rattle.block_logic.specs.Accepted.{rules_of}
use Rattle.block_logic.specs.Clauses.{clause_of}
use Rattle.block_logic.specs.Meaning.{IsOwed}
use Rattle.block_logic.specs.Obeying.{IsObeying}
use Rattle.block_logic.proofs.Owner.Checks.{held_steps}
use Rattle.block_logic.proofs.Owner.Acting.{ActsIn}
use Rattle.block_logic.proofs.Owner.Fair.{means_anywhere}
use Rattle.block_logic.proofs.Owner.Granted.{granted_steps, loose_steps}
use Rattle.block_logic.proofs.Owner.Owed.{keeping, owed_cases, owed_steps, pushing}
use Rattle.block_logic.proofs.Owner.Stop.{stop_steps}
use Rattle.block_logic.proofs.Owner.Taking.{taking_again}
use Rattle.block_logic.proofs.Ruled.{OpensFree, RulesHold}
use Rattle.block_logic.proofs.Steps.{OtherSteps, OwnerSteps}

module _ (program : Program) (policy : Policy) (annotations : Annotations) (o : IsObeying program policy annotations) (rules_hold : RulesHold program policy annotations)
    (opens : OpensFree program policy annotations) where
  -- An instruction of a block that holds the lock changes what it may.
  pub owner_steps : OwnerSteps program policy annotations
  owner_steps machine a next change notes.Free recorded fields part fit acts means ranged locked there step = absurd means
  owner_steps machine a next change (notes.Taking site) recorded fields part fit acts means ranged locked there step = absurd means
  owner_steps machine a next change (notes.Held site failed holding list map) recorded fields part fit acts means ranged locked there step =
      let note = notes.Held site failed holding list map in
      held_steps program policy annotations o opens machine a next change fields recorded part ranged site failed holding list map
      (record { acts = acts; locked = locked; there = there; step = step; ruled = rules_hold a.frame next note acts.there acts.told; fit = fit }) means.1 rules_hold
  owner_steps machine a next change (notes.Granted site held count top) recorded fields part fit acts means ranged locked there step =
      let note = notes.Granted site held count top in
      granted_steps program policy annotations o rules_hold machine a next change fields recorded part ranged site held count top
      (record { acts = acts; locked = locked; there = there; step = step; ruled = rules_hold a.frame next note acts.there acts.told; fit = fit }) means
  owner_steps machine a next change (notes.Owed site stage kept top) recorded fields part fit acts means ranged locked there step =
      let note = notes.Owed site stage kept top in
      owed_steps program policy annotations o opens machine a next change fields recorded part ranged site stage kept top
      (record { acts = acts; locked = locked; there = there; step = step; ruled = rules_hold a.frame next note acts.there acts.told; fit = fit }) means
  owner_steps machine a next change (notes.Stop site place) recorded fields part fit acts means ranged locked there step =
      let note = notes.Stop site place in
      stop_steps program policy annotations o machine a next change fields recorded part ranged site place
      (record { acts = acts; locked = locked; there = there; step = step; ruled = rules_hold a.frame next note acts.there acts.told; fit = fit }) means.1

  -- So does one of a block that does not hold it, or it takes the lock.
  pub other_steps : OtherSteps program policy annotations
  other_steps machine a next change notes.Free recorded part fit acts means ranged step = absurd means
  other_steps machine a next change (notes.Taking site) recorded part fit acts means ranged step = absurd means
  other_steps machine a next change (notes.Held site failed holding list map) recorded part fit acts means ranged step = let no = means.0 in absurd cc
  other_steps machine a next change (notes.Granted site held count top) recorded part fit acts means ranged step =
      let note = notes.Granted site held count top in
      inl (loose_steps program policy annotations o rules_hold machine a next change [] recorded part ranged site held count top
      (record { acts = acts; locked = refl; there = refl; step = step; ruled = rules_hold a.frame next note acts.there acts.told; fit = fit })
      (means_anywhere program policy annotations [] recorded [] [] a.frame note part means))
  other_steps machine a next change (notes.Owed site stage kept top) recorded part fit acts means ranged step =
      let note = notes.Owed site stage kept top in
      let ruled = rules_hold a.frame next note acts.there acts.told in
      let h : ActsIn program policy annotations false machine a next change note [] = record { acts = acts; locked = refl; there = refl; step = step; ruled = ruled; fit = fit } in
      let here = means_anywhere program policy annotations [] recorded [] [] a.frame note part means in
      elim (owed_cases (rules_of program policy annotations) site stage kept top (shape_of next.0) next.1 ruled.r ruled.has) [
        | inl c ↦ inl (keeping program policy annotations o opens false machine a next change [] recorded part ranged site stage kept top h here c)
        | inr (inl c) ↦ inl (pushing program policy annotations o opens false machine a next change [] recorded part ranged site stage kept top h here c)
        | inr (inr (inl c)) ↦ inr (taking_again program policy annotations o rules_hold machine a next change site stage kept top part acts step means ruled c)
        | inr (inr (inr c)) ↦ absurd (not_left stage (clause_of policy site) c.may means.owed)
      ] where
        not_left : (n : ℕ) (clause : Option Clause) → (((n == 1) && not (is_some clause)) || (n == 2)) ≡ true
            → IsOwed program policy annotations.held false site n clause part kept a.frame.locals means.above.rest → ⊥
        not_left zero clause may owed = absurd cc
        not_left (suc n) clause may owed = absurd owed
  other_steps machine a next change (notes.Stop site place) recorded part fit acts means ranged step = let no = means.0 in absurd cc

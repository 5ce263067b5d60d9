-- The steps of weaving, one after the other.
use Rattle.std.proofs.Common.{Ok, Err, inl, inr, ⊎_elim}
use Rattle.inliner_tool.specs.declared.refusal.Ended.{Ended}
use Rattle.command_inputs.specs.Forms.{Then}
use Rattle.inliner_tool.specs.Steps.{Step, UnlessMemory}

module _ {A B : Type 0} (First : Step A → Type 0) (Second : A → Step B → Type 0) where
  -- a step that fails is the answer
  pub first_fails : (e : Ended) → UnlessMemory First (Err e) → UnlessMemory (Then First Second) (Err e)
  first_fails e told = ⊎_elim (λ h. inl (inl h)) (λ h. inr h) told

  -- after a step that does not
  pub later : (a : A) → First (Ok a) → (result : Step B) → UnlessMemory (Second a) result → UnlessMemory (Then First Second) result
  later a first (Ok b) told = (a, first, told)
  later a first (Err e) told = ⊎_elim (λ h. inl (inr (a, first, h))) (λ h. inr h) told

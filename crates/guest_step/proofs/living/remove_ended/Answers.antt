use Rattle.std.proofs.Common.{◌==◌, ◌∙◌, ℕ, Bool, not, ap, sym, rules}
use Rattle.std.specs.Prelude.{filter, if◌then◌else◌}
use Rattle.std.proofs.lemmas.Fn.{filter_same}
use Rattle.guest_step.proofs.living.remove_ended.Goals as goal

pub returns-then-has_ended-clause-items : goal.returns-then-has_ended-clause-items
returns-then-has_ended-clause-items c =
    let numbers = c.args.living.now.items in
    filter_same _ (λ (other : ℕ). not (other == c.args.number)) _ (λ x b f' k. search rules) numbers _ c.retain.ensures.filtered
    ∙ sym (ap (λ (b : Bool). if b then filter (λ (other : ℕ). not (other == c.args.number)) numbers else numbers) (sym c.has_ended.ensures ∙ c.if-has_ended.true))

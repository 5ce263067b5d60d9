use Rattle.std.proofs.Common.{◌≡◌, ◌∙◌, ◌<◌, ◌^◌, Some, List, length, sym, subst}
use Rattle.block_template.specs.declared.item.Item.{Item}
use Rattle.block_template.specs.Made.{known_items}
use Rattle.block_template.proofs.Making.{known_short}
use Rattle.block_template.proofs.made.PolicyItems.of.Goals as goal

pub returns-in-Some-clause-few : goal.returns-in-Some-clause-few
returns-in-Some-clause-few c =
    let of = c.self.inside in
    let found : List Item = c.in-Some.items.now in
    let known : Some found ≡ known_items of.policy.now of.mode of.policy.now.clauses c.args.method = c.in-Some.ensures.value ∙ c.self.invariant.1 c.args.method in
    subst (λ (xs : List Item). length xs < 2 ^ 16) (sym c.as_slice.ensures) (known_short of.policy.now of.mode c.args.method found c.self.invariant.0 known)

use Rattle.std.proofs.Common.{◌∙◌, sym, subst, ap, Option, ℕ}
use Rattle.std.specs.Prelude.{find}
use Rattle.std.specs.List.Sorted.{IsNonDecreasing}
use Rattle.std.specs.Option.{option_or}
use Rattle.guest_model.specs.Asking.{is_enabled}
use Rattle.guest_step.proofs.Cyclic.{next_of_parts}
use Rattle.guest_step.proofs.UpToDate.{ascends}
use Rattle.guest_step.proofs.turns.next_enabled.Goals as goal

pub parted-requires : goal.parted-requires
parted-requires c = subst IsNonDecreasing (sym c.requires) (ascends 0 c.args.machine.now.threads)

pub returns-in-Some : goal.returns-in-Some
returns-in-Some c =
    let test = is_enabled c.args.guest.now c.args.machine.now in
    ap (λ (o : Option ℕ). option_or o (find test c.parted.result.0.now)) c.in-Some.ensures
    ∙ next_of_parts c.args.guest.now c.args.machine.now c.args.first c.parted.result.0.now c.parted.result.1.now c.parted.ensures.below c.parted.ensures.above
    (sym c.requires ∙ c.parted.ensures.whole)

pub returns-in-None : goal.returns-in-None
returns-in-None c =
    let test = is_enabled c.args.guest.now c.args.machine.now in
    c.first_enabled-in-None.ensures ∙ ap (λ (o : Option ℕ). option_or o (find test c.parted.result.0.now)) c.in-None.ensures
    ∙ next_of_parts c.args.guest.now c.args.machine.now c.args.first c.parted.result.0.now c.parted.result.1.now c.parted.ensures.below c.parted.ensures.above
    (sym c.requires ∙ c.parted.ensures.whole)

use Rattle.std.proofs.Common.{◌≡◌, ◌<◌, ◌∙◌, false, length, List, ℕ, Option, Some, None, refl, sym, subst, arith}
use Rattle.std.specs.Prelude.{is_some}
use Rattle.std.proofs.lemmas.Bool.{eqb-false, eqb-true}
use Rattle.guest_model.specs.Turns.{next_enabled}
use Rattle.guest_step.proofs.UpToDate.{deadlock, finished}
use Rattle.guest_step.proofs.turns.end_among.Goals as goal

no_one : (o : Option ℕ) → is_some o ≡ false → o ≡ None
no_one None is = refl
no_one (Some n) is = absurd cc

pub returns-then-is_empty : goal.returns-then-is_empty
returns-then-is_empty c =
    let none : length c.args.living.now ≡ 0 = eqb-true (length c.args.living.now) 0 (sym c.is_empty.ensures ∙ c.if-is_empty.true) in
    sym (finished c.args.guest.now c.args.machine.now (sym c.stopped.ensures ∙ c.in_default.is) (subst (λ (numbers : List ℕ). length numbers ≡ 0) c.requires none))

pub returns : goal.returns
returns c =
    let differs = eqb-false (length c.args.living.now) 0 (sym c.is_empty.ensures ∙ c.if-is_empty.false) in
    let some : 0 < length c.args.living.now = omega (arith, differs) in
    let none : next_enabled c.args.guest.now c.args.machine.now 0 ≡ None = no_one _ (subst (λ (o : Option ℕ). is_some o ≡ false) c.next_enabled.ensures (sym c.is_some.ensures ∙ c.if-is_some.false)) in
    sym (deadlock c.args.guest.now c.args.machine.now (sym c.stopped.ensures ∙ c.in_default.is) (subst (λ (numbers : List ℕ). 0 < length numbers) c.requires some)
    ((c.turns_find_the_enabled.ensures.found c.args.guest.now c.args.machine.now 0).ends.0 none))

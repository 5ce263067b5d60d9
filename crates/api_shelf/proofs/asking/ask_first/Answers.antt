use Rattle.std.proofs.Common.{refl, sym, slice_set, ◌∙◌}
use Rattle.std.proofs.lemmas.Option.{none-some}
use Rattle.api_shelf.specs.declared.asking.Asked.TheVariants.{Answered}
use Rattle.api_shelf.specs.Shelf.{views}
use Rattle.api_shelf.proofs.Together.{asked_slot, asked_tells, count_rose, first_of_views, first_tells, is_later, others_same, unasked}
use Rattle.api_shelf.proofs.asking.ask_first.Goals as goal

pub returns-in_default-clause-nobody : goal.returns-in_default-clause-nobody
returns-in_default-clause-nobody g c =
    (λ nobody. first_of_views g.D.ApiDevice.told g.D.ApiDevice.faults c.args.call.now.method.class c.args.slots.now ∙ sym c.place_of.ensures.first ∙ c.in_default.is, λ none. refl)

pub returns-in_default-clause-unasked : goal.returns-in_default-clause-unasked
returns-in_default-clause-unasked g c = λ nobody pairs given tells.
    unasked c.args.call.now (Answered given) (views g.D.ApiDevice.told g.D.ApiDevice.faults c.args.slots.now) pairs
    (first_of_views g.D.ApiDevice.told g.D.ApiDevice.faults c.args.call.now.method.class c.args.slots.now ∙ sym c.place_of.ensures.first ∙ c.in_default.is)
    tells

pub returns-clause-nobody : goal.returns-clause-nobody
returns-clause-nobody g c =
    let first = first_of_views g.D.ApiDevice.told g.D.ApiDevice.faults c.args.call.now.method.class c.args.slots.now in
    (λ nobody. absurd (c.ask.ensures.somebody nobody), λ none. absurd (none-some c.in-Some.place (sym none ∙ first ∙ sym c.in-Some.ensures.first)))

pub returns-clause-first : goal.returns-clause-first
returns-clause-first g c = first_tells c.args.call.now c.ask.result (views g.D.ApiDevice.told g.D.ApiDevice.faults c.args.slots.now) (views g.D.ApiDevice.told g.D.ApiDevice.faults (slice_set c.args.slots.now c.in-Some.place c.ask.new.slot)) c.in-Some.place (asked_slot g.D.ApiDevice.told g.D.ApiDevice.faults c.args.call.now c.ask.result c.args.slots.now c.in-Some.place c.index-slots-place.result c.ask.new.slot c.in-Some.ensures.first c.in-Some.ensures.within c.ask.ensures.class c.ask.ensures.told c.ask.ensures.faults c.ask.ensures.failed)

pub returns-clause-others : goal.returns-clause-others
returns-clause-others g c = others_same g.D.ApiDevice.told g.D.ApiDevice.faults c.args.call.now.method.class c.args.slots.now c.in-Some.place c.ask.new.slot c.in-Some.ensures.first

pub returns-clause-later : goal.returns-clause-later
returns-clause-later g c = is_later c.args.call.now c.ask.result (views g.D.ApiDevice.told g.D.ApiDevice.faults c.args.slots.now) (views g.D.ApiDevice.told g.D.ApiDevice.faults (slice_set c.args.slots.now c.in-Some.place c.ask.new.slot)) c.in-Some.place (asked_slot g.D.ApiDevice.told g.D.ApiDevice.faults c.args.call.now c.ask.result c.args.slots.now c.in-Some.place c.index-slots-place.result c.ask.new.slot c.in-Some.ensures.first c.in-Some.ensures.within c.ask.ensures.class c.ask.ensures.told c.ask.ensures.faults c.ask.ensures.failed)

pub returns-clause-failed : goal.returns-clause-failed
returns-clause-failed g c = count_rose c.args.call.now c.ask.result (views g.D.ApiDevice.told g.D.ApiDevice.faults c.args.slots.now) (views g.D.ApiDevice.told g.D.ApiDevice.faults (slice_set c.args.slots.now c.in-Some.place c.ask.new.slot)) c.in-Some.place (asked_slot g.D.ApiDevice.told g.D.ApiDevice.faults c.args.call.now c.ask.result c.args.slots.now c.in-Some.place c.index-slots-place.result c.ask.new.slot c.in-Some.ensures.first c.in-Some.ensures.within c.ask.ensures.class c.ask.ensures.told c.ask.ensures.faults c.ask.ensures.failed)

pub returns-clause-tells : goal.returns-clause-tells
returns-clause-tells g c = asked_tells c.args.call.now c.ask.result (views g.D.ApiDevice.told g.D.ApiDevice.faults c.args.slots.now) (views g.D.ApiDevice.told g.D.ApiDevice.faults (slice_set c.args.slots.now c.in-Some.place c.ask.new.slot)) c.in-Some.place (asked_slot g.D.ApiDevice.told g.D.ApiDevice.faults c.args.call.now c.ask.result c.args.slots.now c.in-Some.place c.index-slots-place.result c.ask.new.slot c.in-Some.ensures.first c.in-Some.ensures.within c.ask.ensures.class c.ask.ensures.told c.ask.ensures.faults c.ask.ensures.failed)

use Rattle.std.proofs.Common.{◌∙◌, ap, rules}
use Rattle.std.specs.List.{position_from}
use Rattle.std.specs.Prelude.{option_and_then}
use Rattle.guest_heap.specs.declared.object.Monitor.{Monitor}
use Rattle.guest_frames.specs.Values.{are_one}
use Rattle.guest_threads.specs.KeyPlaces.{is_key}
use Rattle.guest_threads.proofs.Held.{is_within}
use Rattle.guest_threads.proofs.Keys.{place_of_key}
use Rattle.guest_threads.proofs.monitors.place_of.Goals as goal

pub returns-in-Some-clause-is : goal.returns-in-Some-clause-is
returns-in-Some-clause-is c =
    c.place_noted.ensures ∙ ap (option_and_then (λ k. position_from (is_key k) 0 c.in-Some.places.now)) c.key_of.ensures
    ∙ place_of_key c.args.on c.args.list.now c.in-Some.places.now (grind rules)

pub returns-in-Some-clause-within : goal.returns-in-Some-clause-within
returns-in-Some-clause-within c =
    is_within (λ (m : Monitor). are_one m.on c.args.on) c.args.list.now c.place_noted.result
    (c.place_noted.ensures ∙ ap (option_and_then (λ k. position_from (is_key k) 0 c.in-Some.places.now)) c.key_of.ensures
    ∙ place_of_key c.args.on c.args.list.now c.in-Some.places.now (grind rules))

pub returns-in-None-clause-within : goal.returns-in-None-clause-within
returns-in-None-clause-within c =
    is_within (λ (m : Monitor). are_one m.on c.args.on) c.args.list.now c.position_of.result
    (c.position_of.ensures ∙ ap (position_from (λ (m : Monitor). are_one m.on c.args.on) 0) c.as_slice.ensures)

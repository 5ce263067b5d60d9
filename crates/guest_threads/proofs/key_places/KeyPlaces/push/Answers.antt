use Rattle.std.proofs.Common.{rules}
use Rattle.guest_threads.proofs.Numbered.{numbered_more}
use Rattle.guest_threads.proofs.key_places.KeyPlaces.push.Goals as goal

pub invariant_of-self-2 : goal.invariant_of-self-2
invariant_of-self-2 c =
    let own = c.self.inside in
    let done = c.in_ok-push_numbered.ensures in
    numbered_more own.keys own.numbers own.next own.noted c.args.key c.push_numbered.new.keys c.push_numbered.new.numbers c.in-Some.next c.push_numbered.new.noted
    c.self.invariant (grind rules) (grind rules) done.keys done.numbers done.noted

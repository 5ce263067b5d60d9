use Rattle.guest_threads.proofs.Numbered.{numbered_less}
use Rattle.guest_threads.proofs.key_places.KeyPlaces.remove.Goals as goal

pub invariant_of-self : goal.invariant_of-self
invariant_of-self c =
    let own = c.self.inside in
    numbered_less own.keys own.numbers own.next own.noted c.remove-key.result c.args.place c.remove-key.new.self c.remove.new.self c.forget.new.noted
    c.self.invariant c.remove-key.ensures.was c.remove-key.ensures.left c.remove.ensures.left c.forget.ensures

use Rattle.std.proofs.Common.{ap}
use Rattle.event_record.proofs.Joining.{event_written}
use Rattle.event_record.proofs.writing.push_seen.Goals as goal

pub returns-in_ok-push_event-in-Some-clause-text : goal.returns-in_ok-push_event-in-Some-clause-text
returns-in_ok-push_event-in-Some-clause-text c =
    λ entries. rw c.in-Some.is
    (event_written c.args.listing.now.methods c.args.out.now c.push_joined.new.out c.push_event.new.out c.args.joined c.none_of.result c.in-Some.event entries
    c.in_ok-push_joined-in-Some.ensures c.in_ok-push_event-in-Some.ensures (ap (λ j. j.count) c.none_of.ensures))

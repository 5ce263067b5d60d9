use Rattle.event_record.proofs.Joining.{one_joined, other_thread}
use Rattle.event_record.proofs.writing.push_plain.Goals as goal

pub returns-then-joined-thread-clause-text : goal.returns-then-joined-thread-clause-text
returns-then-joined-thread-clause-text c = λ methods entries. one_joined methods c.args.out.now c.args.joined c.args.thread entries c.if-joined-thread.true

pub returns-clause-text : goal.returns-clause-text
returns-clause-text c =
    λ methods entries. other_thread methods c.args.out.now c.push_joined.new.out c.args.joined c.args.thread entries c.if-joined-thread.false c.in_ok-push_joined.ensures

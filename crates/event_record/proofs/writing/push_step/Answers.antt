use Rattle.std.proofs.Common.{ap}
use Rattle.event_record.proofs.Joining.{answer_written}
use Rattle.event_record.proofs.writing.push_step.Goals as goal

pub returns-in-Plain-clause-text : goal.returns-in-Plain-clause-text
returns-in-Plain-clause-text c = rw c.in-Plain.is c.push_plain.ensures.text

pub returns-in_ok-push_answer-in-Answer-clause-text : goal.returns-in_ok-push_answer-in-Answer-clause-text
returns-in_ok-push_answer-in-Answer-clause-text c =
    λ methods entries. rw c.in-Answer.is
    (answer_written methods c.args.out.now c.push_joined.new.out c.push_answer.new.out c.args.joined c.none_of.result c.args.step.now.thread c.in-Answer.answer entries
    c.in_ok-push_joined-in-Answer.ensures c.in_ok-push_answer-in-Answer.ensures (ap (λ j. j.count) c.none_of.ensures))

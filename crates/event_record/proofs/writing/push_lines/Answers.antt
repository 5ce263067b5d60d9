use Rattle.std.proofs.Common.{List, ◌-◌, ◌++◌, length, take, drop, arith, sym, ap, ◌∙◌}
use Rattle.std.proofs.lemmas.Result.{on_ok_weaker}
use Rattle.event_record.specs.declared.writing.Line.{Line}
use Rattle.event_record.specs.Joined.{lines_after}
use Rattle.event_record.specs.Writing.{entries_of, event_before}
use Rattle.event_record.proofs.Joining.{all_written}
use Rattle.event_record.proofs.Naming.{front_is, none_left, rest_length}
use Rattle.event_record.proofs.writing.push_lines.Goals as goal

pub loop-left-preserved : goal.loop-left-preserved
loop-left-preserved c =
    let methods = c.args.listing.now.methods in
    let line = c.line-item.result in
    let split = front_is c.loop-left.left.now line c.in-len1-up.len_at_least c.line-item.is in
    let rest : List Line = take (length c.loop-left.left.now - 1) (drop 1 c.loop-left.left.now) in
    let before : List Line → List _ = λ lines. c.loop-left.out ++ lines_after methods c.loop-left.joined (entries_of lines) in
    record {
      text = c.in_ok-joined.ensures.text (entries_of rest) ∙ c.in_ok-stepped.ensures.text methods (event_before line.event (entries_of rest))
          ∙ ap before (sym split) ∙ c.loop-left.invariant.text;
      count = omega (arith, rest_length c.loop-left.left.now line rest split, c.loop-left.invariant.count, c.in_ok-joined.ensures.count, c.in_ok-stepped.ensures.count);
    }

pub returns : goal.returns
returns c =
    let methods = c.args.listing.now.methods in
    let none = none_left c.loop-left.left.now c.in_default.len_below in
    let before : List Line → List _ = λ lines. c.loop-left.out ++ lines_after methods c.loop-left.joined (entries_of lines) in
    on_ok_weaker c.push_joined.result (λ e. all_written methods c.loop-left.out c.push_joined.new.out c.loop-left.joined e ∙ ap before (sym none) ∙ c.loop-left.invariant.text) c.push_joined.ensures

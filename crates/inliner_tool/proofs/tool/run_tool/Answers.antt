use Rattle.std.proofs.Common.{◌∙◌, Ok, Err, inl, refl, subst}
use Rattle.command_inputs.specs.Forms.{Count, since}
use Rattle.mon_store.specs.Store.{Files}
use Rattle.inliner_tool.specs.declared.tool.Status.TheVariants as statuses
use Rattle.command_inputs.specs.Words.{named_by}
use Rattle.inliner_tool.specs.Replies.{usage_encoded}
use Rattle.inliner_tool.specs.Run.{IsRunStatus}
use Rattle.inliner_tool.specs.Seen.{Seen}
use Rattle.inliner_tool.specs.Steps.{outcome_step}
use Rattle.inliner_tool.specs.Writing.{CarriesOut}
use Rattle.inliner_tool.proofs.Decides.{outcome_decides, usage_decides}
use Rattle.inliner_tool.proofs.Generating.{generated_so}
use Rattle.inliner_tool.proofs.Headlines.{obeyed}
use Rattle.inliner_tool.proofs.Replying.{checked_runs, no_run_status, is_check, is_gen, is_inline, is_load, is_replay, is_run, outcome_replied, prints_run, puts_no, puts_run, puts_plain, refused_so, usage_replied}
use Rattle.inliner_tool.proofs.tool.run_tool.Goals as goal

pub returns-in-Ok-clause-headline : goal.returns-in-Ok-clause-headline
returns-in-Ok-clause-headline g c = λ named is done. obeyed _ named (c.in-Ok.ensures.holds named (is_check c.args.words.now (named_by c.in-Some.command) c.in-Some.ensures.found named is))

pub returns-in-Ok-clause-accepted : goal.returns-in-Ok-clause-accepted
returns-in-Ok-clause-accepted g c = λ named is done. c.in-Ok.ensures.holds named (is_check c.args.words.now (named_by c.in-Some.command) c.in-Some.ensures.found named is)

pub returns-in-Ok-clause-runs : goal.returns-in-Ok-clause-runs
returns-in-Ok-clause-runs g c = λ named is done. checked_runs _ named (c.in-Ok.ensures.holds named (is_check c.args.words.now (named_by c.in-Some.command) c.in-Some.ensures.found named is))

pub returns-in-Ok-clause-inlined : goal.returns-in-Ok-clause-inlined
returns-in-Ok-clause-inlined g c = λ named is done. c.in-Ok.ensures.inlined named (is_inline c.args.words.now (named_by c.in-Some.command) c.in-Some.ensures.found named is)

pub returns-in-Ok-clause-generated : goal.returns-in-Ok-clause-generated
returns-in-Ok-clause-generated g c = λ named is done.
    generated_so _ (named_by c.in-Some.command) named (is_gen c.args.words.now (named_by c.in-Some.command) c.in-Some.ensures.found named is) c.in-Ok.answer c.in-Ok.ensures.carries

pub returns-in-Ok-clause-loaded : goal.returns-in-Ok-clause-loaded
returns-in-Ok-clause-loaded g c = λ named is done. c.in-Ok.ensures.loaded named (is_load c.args.words.now (named_by c.in-Some.command) c.in-Some.ensures.found named is)

pub returns-in-Ok-clause-replay_runs : goal.returns-in-Ok-clause-replay_runs
returns-in-Ok-clause-replay_runs g c = λ named is done. c.in-Ok.ensures.replay_runs named (is_replay c.args.words.now (named_by c.in-Some.command) c.in-Some.ensures.found named is)

pub returns-in-Ok-clause-ran : goal.returns-in-Ok-clause-ran
returns-in-Ok-clause-ran g c = λ named is ended.
    let run = is_run c.args.words.now (named_by c.in-Some.command) c.in-Some.ensures.found named is in
    prints_run _ (named_by c.in-Some.command) named run _ c.in-Ok.answer (c.in-Ok.ensures.ran named run) c.in-Ok.ensures.kept _ _ c.put-in-Ok.result
    ((puts_run _ _ _ _ _ c.put-in-Ok.result (c.put-in-Ok.ensures.puts _ c.answer_encoded.ensures) ended).0 ∙ c.answer_status.ensures.is)
    (puts_run _ _ _ _ _ c.put-in-Ok.result (c.put-in-Ok.ensures.puts _ c.answer_encoded.ensures) ended).1

pub returns-in_default-clause-ran : goal.returns-in_default-clause-ran
returns-in_default-clause-ran g c = λ named is ended. absurd (no_run_status (subst IsRunStatus (puts_run _ _ _ _ statuses.Usage c.put.result (c.put.ensures.puts usage_encoded c.usage_encoded.ensures) ended).0 ended))

pub returns-in-Err-Refused-clause-ran : goal.returns-in-Err-Refused-clause-ran
returns-in-Err-Refused-clause-ran g c = λ named is ended.
    absurd (c.refusal_status.ensures.no (subst IsRunStatus (puts_run _ _ _ _ _ c.put-in-Err-Refused.result (c.put-in-Err-Refused.ensures.puts _ c.refusal_encoded.ensures) ended).0 ended))

pub returns-in_default-clause-headline : goal.returns-in_default-clause-headline
returns-in_default-clause-headline g c = λ named is done. absurd (puts_no _ _ _ _ statuses.Usage c.put.result (c.put.ensures.puts usage_encoded c.usage_encoded.ensures) (λ e. absurd cc) done)

pub returns-in_default-clause-accepted : goal.returns-in_default-clause-accepted
returns-in_default-clause-accepted g c = λ named is done. absurd (puts_no _ _ _ _ statuses.Usage c.put.result (c.put.ensures.puts usage_encoded c.usage_encoded.ensures) (λ e. absurd cc) done)

pub returns-in_default-clause-runs : goal.returns-in_default-clause-runs
returns-in_default-clause-runs g c = λ named is done. absurd (puts_no _ _ _ _ statuses.Usage c.put.result (c.put.ensures.puts usage_encoded c.usage_encoded.ensures) (λ e. absurd cc) done)

pub returns-in_default-clause-replay_runs : goal.returns-in_default-clause-replay_runs
returns-in_default-clause-replay_runs g c = λ named is done. absurd (puts_no _ _ _ _ statuses.Usage c.put.result (c.put.ensures.puts usage_encoded c.usage_encoded.ensures) (λ e. absurd cc) done)

pub returns-in_default-clause-inlined : goal.returns-in_default-clause-inlined
returns-in_default-clause-inlined g c = λ named is done. absurd (puts_no _ _ _ _ statuses.Usage c.put.result (c.put.ensures.puts usage_encoded c.usage_encoded.ensures) (λ e. absurd cc) done)

pub returns-in_default-clause-generated : goal.returns-in_default-clause-generated
returns-in_default-clause-generated g c = λ named is done. absurd (puts_no _ _ _ _ statuses.Usage c.put.result (c.put.ensures.puts usage_encoded c.usage_encoded.ensures) (λ e. absurd cc) done)

pub returns-in_default-clause-loaded : goal.returns-in_default-clause-loaded
returns-in_default-clause-loaded g c = λ named is done. absurd (puts_no _ _ _ _ statuses.Usage c.put.result (c.put.ensures.puts usage_encoded c.usage_encoded.ensures) (λ e. absurd cc) done)

pub returns-in-Err-Refused-clause-headline : goal.returns-in-Err-Refused-clause-headline
returns-in-Err-Refused-clause-headline g c = λ named is done. absurd (puts_no _ _ _ _ _ c.put-in-Err-Refused.result (c.put-in-Err-Refused.ensures.puts _ c.refusal_encoded.ensures) (λ e. c.refusal_status.ensures.no (inl e)) done)

pub returns-in-Err-Refused-clause-accepted : goal.returns-in-Err-Refused-clause-accepted
returns-in-Err-Refused-clause-accepted g c = λ named is done. absurd (puts_no _ _ _ _ _ c.put-in-Err-Refused.result (c.put-in-Err-Refused.ensures.puts _ c.refusal_encoded.ensures) (λ e. c.refusal_status.ensures.no (inl e)) done)

pub returns-in-Err-Refused-clause-runs : goal.returns-in-Err-Refused-clause-runs
returns-in-Err-Refused-clause-runs g c = λ named is done. absurd (puts_no _ _ _ _ _ c.put-in-Err-Refused.result (c.put-in-Err-Refused.ensures.puts _ c.refusal_encoded.ensures) (λ e. c.refusal_status.ensures.no (inl e)) done)

pub returns-in-Err-Refused-clause-replay_runs : goal.returns-in-Err-Refused-clause-replay_runs
returns-in-Err-Refused-clause-replay_runs g c = λ named is done. absurd (puts_no _ _ _ _ _ c.put-in-Err-Refused.result (c.put-in-Err-Refused.ensures.puts _ c.refusal_encoded.ensures) (λ e. c.refusal_status.ensures.no (inl e)) done)

pub returns-in-Err-Refused-clause-inlined : goal.returns-in-Err-Refused-clause-inlined
returns-in-Err-Refused-clause-inlined g c = λ named is done. absurd (puts_no _ _ _ _ _ c.put-in-Err-Refused.result (c.put-in-Err-Refused.ensures.puts _ c.refusal_encoded.ensures) (λ e. c.refusal_status.ensures.no (inl e)) done)

pub returns-in-Err-Refused-clause-generated : goal.returns-in-Err-Refused-clause-generated
returns-in-Err-Refused-clause-generated g c = λ named is done. absurd (puts_no _ _ _ _ _ c.put-in-Err-Refused.result (c.put-in-Err-Refused.ensures.puts _ c.refusal_encoded.ensures) (λ e. c.refusal_status.ensures.no (inl e)) done)

pub returns-in-Err-Refused-clause-loaded : goal.returns-in-Err-Refused-clause-loaded
returns-in-Err-Refused-clause-loaded g c = λ named is done. absurd (puts_no _ _ _ _ _ c.put-in-Err-Refused.result (c.put-in-Err-Refused.ensures.puts _ c.refusal_encoded.ensures) (λ e. c.refusal_status.ensures.no (inl e)) done)

pub returns-in_default-clause-answer : goal.returns-in_default-clause-answer
returns-in_default-clause-answer g c =
    let files : Files = g.S.Store.files c.args.store.now in
    let count : Count = since (g.S.Store.faults c.args.store.now) (g.S.Store.faults c.args.store.now) (g.S.Store.last c.args.store.now) in
    usage_replied (record { old = files; new = files; count = count }) c.args.words.now (g.K.Sink.text c.args.out.now) (g.K.Sink.text c.put.new.out) _ c.in_default.ensures.none refl c.put.result
    (c.put.ensures.puts usage_encoded c.usage_encoded.ensures)

pub returns-in_default-clause-decides : goal.returns-in_default-clause-decides
returns-in_default-clause-decides g c = λ contents told no_rise sink other.
    let puts = puts_plain _ _ _ _ statuses.Usage c.put.result (c.put.ensures.puts usage_encoded c.usage_encoded.ensures) sink other in
    usage_decides contents c.args.words.now c.in_default.ensures.none _ _ c.put.result puts.0 puts.1

pub returns-in-Ok-clause-answer : goal.returns-in-Ok-clause-answer
returns-in-Ok-clause-answer g c =
    let files : Files = g.S.Store.files c.args.store.now in
    let new : Files = g.S.Store.files c.carry_out.new.store in
    let count : Count = since (g.S.Store.faults c.args.store.now) (g.S.Store.faults c.carry_out.new.store) (g.S.Store.last c.carry_out.new.store) in
    let seen : Seen = record { old = files; new = new; count = count } in
    let named = named_by c.in-Some.command in
    outcome_replied seen c.args.words.now (g.K.Sink.text c.args.out.now) (g.K.Sink.text c.put-in-Ok.new.out) _ named c.in-Some.ensures.found (Ok c.in-Ok.answer)
    (c.in-Ok.ensures.carries)
    c.answer_status.result c.answer_status.ensures.kind c.answer_status.ensures.is c.put-in-Ok.result (c.put-in-Ok.ensures.puts _ c.answer_encoded.ensures)

pub returns-in-Ok-clause-decides : goal.returns-in-Ok-clause-decides
returns-in-Ok-clause-decides g c = λ contents told no_rise sink other.
    let files : Files = g.S.Store.files c.args.store.now in
    let new : Files = g.S.Store.files c.carry_out.new.store in
    let count : Count = since (g.S.Store.faults c.args.store.now) (g.S.Store.faults c.carry_out.new.store) (g.S.Store.last c.carry_out.new.store) in
    let seen : Seen = record { old = files; new = new; count = count } in
    let named = named_by c.in-Some.command in
    let puts = puts_plain _ _ _ _ c.answer_status.result c.put-in-Ok.result (c.put-in-Ok.ensures.puts _ c.answer_encoded.ensures) sink other in
    let carries : CarriesOut seen named (outcome_step (Ok c.in-Ok.answer)) = c.in-Ok.ensures.carries in
    outcome_decides c.told_files_are_read.ensures contents count no_rise c.args.words.now new named c.in-Some.ensures.found (Ok c.in-Ok.answer)
    (subst (λ (f : Files). CarriesOut (record { old = f; new = new; count = count }) named (outcome_step (Ok c.in-Ok.answer))) told carries)
    _ _ c.put-in-Ok.result (puts.0 ∙ c.answer_status.ensures.is) puts.1

pub returns-in-Err-Refused-clause-answer : goal.returns-in-Err-Refused-clause-answer
returns-in-Err-Refused-clause-answer g c =
    let files : Files = g.S.Store.files c.args.store.now in
    let new : Files = g.S.Store.files c.carry_out.new.store in
    let count : Count = since (g.S.Store.faults c.args.store.now) (g.S.Store.faults c.carry_out.new.store) (g.S.Store.last c.carry_out.new.store) in
    let seen : Seen = record { old = files; new = new; count = count } in
    let named = named_by c.in-Some.command in
    outcome_replied seen c.args.words.now (g.K.Sink.text c.args.out.now) (g.K.Sink.text c.put-in-Err-Refused.new.out) _ named c.in-Some.ensures.found (Err c.in-Err-Refused.refusal)
    (refused_so (CarriesOut seen named) c.in-Err-Refused.field-0 c.in-Err-Refused.refusal c.in-Err-Refused.field-0-is c.in-Err-Refused.ensures.carries)
    c.refusal_status.result c.refusal_status.ensures.kind c.refusal_status.ensures.is c.put-in-Err-Refused.result (c.put-in-Err-Refused.ensures.puts _ c.refusal_encoded.ensures)

pub returns-in-Err-Refused-clause-decides : goal.returns-in-Err-Refused-clause-decides
returns-in-Err-Refused-clause-decides g c = λ contents told no_rise sink other.
    let files : Files = g.S.Store.files c.args.store.now in
    let new : Files = g.S.Store.files c.carry_out.new.store in
    let count : Count = since (g.S.Store.faults c.args.store.now) (g.S.Store.faults c.carry_out.new.store) (g.S.Store.last c.carry_out.new.store) in
    let seen : Seen = record { old = files; new = new; count = count } in
    let named = named_by c.in-Some.command in
    let puts = puts_plain _ _ _ _ c.refusal_status.result c.put-in-Err-Refused.result (c.put-in-Err-Refused.ensures.puts _ c.refusal_encoded.ensures) sink other in
    let carries : CarriesOut seen named (outcome_step (Err c.in-Err-Refused.refusal)) = refused_so (CarriesOut seen named) c.in-Err-Refused.field-0 c.in-Err-Refused.refusal c.in-Err-Refused.field-0-is c.in-Err-Refused.ensures.carries in
    outcome_decides c.told_files_are_read.ensures contents count no_rise c.args.words.now new named c.in-Some.ensures.found (Err c.in-Err-Refused.refusal)
    (subst (λ (f : Files). CarriesOut (record { old = f; new = new; count = count }) named (outcome_step (Err c.in-Err-Refused.refusal))) told carries)
    _ _ c.put-in-Err-Refused.result (puts.0 ∙ c.refusal_status.ensures.is) puts.1

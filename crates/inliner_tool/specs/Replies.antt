-- What is printed for an outcome. (docs/COMMANDS.md)
use Rattle.std.specs.Prelude.{ℕ, List, Option, Some, None, Ok, Err, codes}
use Rattle.command_outputs.specs.declared.field.Report.{Report}
use Rattle.command_outputs.specs.declared.line.Line.TheVariants as lines
use Rattle.command_outputs.specs.declared.reply.Reply.{Reply}
use Rattle.command_outputs.specs.declared.reply.Reply.TheVariants as replies
use Rattle.command_outputs.specs.Lines.{text_of}
use Rattle.cert_format.specs.declared.certificate.Mode.{Mode}
use Rattle.cert_format.specs.declared.certificate.Mode.TheVariants as modes
use Rattle.conspec_automaton.specs.declared.running.Verdict.{Verdict}
use Rattle.conspec_automaton.specs.declared.running.Verdict.TheVariants as verdicts
use Rattle.inliner_tool.specs.declared.answer.Answer.{Answer}
use Rattle.inliner_tool.specs.declared.answer.Answer.TheVariants as answers
use Rattle.inliner_tool.specs.declared.refusal.Refusal.{Refusal}
use Rattle.inliner_tool.specs.declared.refusal.Refusal.TheVariants as refusals
use Rattle.inliner_tool.specs.Numbers.{cells_report, check_report, disobeying_report, event_report, input_report, length_report, link_report, overlapping_report, race_report, size_report, step_report, total_report, untyped_report}
use Rattle.inliner_tool.specs.Steps.{Outcome}

abbrev pub mode_name : Mode → List ℕ
mode_name modes.Hold = codes "hold"
mode_name modes.Release = codes "release"

-- the file of this name is wrong, or none alone is
abbrev pub input : Option (List ℕ) → Report → Reply
input name report = replies.Line (lines.Input name report)

abbrev pub verdict_reply : Verdict → Reply
verdict_reply verdicts.Accepted = replies.Line lines.Obeyed
verdict_reply (verdicts.StoppedAt index) = replies.Line (lines.Stopped index)
verdict_reply (verdicts.Refused index) = replies.Line (lines.Denied (event_report index))

-- the answer no
abbrev pub denied : Report → Reply
denied report = replies.Line (lines.Denied report)

-- a size that does not fit
abbrev pub overflow : Report → Reply
overflow report = replies.Line (lines.Overflow report.fields)

abbrev pub answer_reply : Answer → Reply
answer_reply (answers.Accepted accepted) = replies.Line (lines.Accepted (mode_name accepted.mode) accepted.sites)
answer_reply (answers.Shown text) = replies.Text text
answer_reply (answers.Judged verdict) = verdict_reply verdict
answer_reply answers.RaceFree = replies.Line lines.Free
answer_reply (answers.Inlined accepted classes) = replies.Line (lines.Inlined (mode_name accepted.mode) accepted.sites classes)
answer_reply (answers.Generated classes sites bytes) = replies.Line (lines.Generated classes sites bytes)
answer_reply (answers.Loaded accepted classes sites) = replies.Line (lines.Loaded classes sites (mode_name accepted.mode))
answer_reply (answers.Replayed text) = replies.Text text
answer_reply (answers.Ran end text) = replies.Text text
answer_reply (answers.Lifted text) = replies.Text text

abbrev pub refusal_reply : Refusal → Reply
refusal_reply (refusals.Input name fault) = input (Some name) (input_report fault)
refusal_reply (refusals.Unread name) = replies.Line (lines.Store name)
refusal_reply (refusals.TotalLong len) = input None (total_report len)
refusal_reply (refusals.Link fault) = input None (link_report fault)
refusal_reply (refusals.Untyped class method at) = input None (untyped_report class method at)
refusal_reply (refusals.Denied fault label) = denied (check_report fault label)
refusal_reply (refusals.Racy condition example) = denied (race_report condition example)
refusal_reply (refusals.CellLimit first second count) = denied (cells_report first second count)
refusal_reply (refusals.Overflow class method what value) = overflow (size_report class method what value)
refusal_reply (refusals.LongCertificate value) = overflow (length_report value)
refusal_reply (refusals.NotEnabled index) = denied (step_report index)
refusal_reply (refusals.Disobeys index) = denied (disobeying_report index)
refusal_reply (refusals.Overlaps index) = denied (overlapping_report index)
refusal_reply (refusals.Unwritten name) = replies.Line (lines.Store name)

abbrev pub reply_of : Outcome → Reply
reply_of (Ok answer) = answer_reply answer
reply_of (Err refusal) = refusal_reply refusal

-- the whole output
abbrev pub outcome_encoded : Outcome → List ℕ
outcome_encoded outcome = text_of (reply_of outcome)

-- the output for words that are no command's
abbrev pub usage_encoded : List ℕ
usage_encoded = text_of (replies.Line lines.Usage)

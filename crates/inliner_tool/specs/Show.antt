-- What is answered where class files are shown. (docs/COMMANDS.md)
use Rattle.std.specs.Prelude.{ℕ, List, Result, Ok, Err}
use Rattle.class_linking.specs.declared.fault.LinkFault.TheVariants as links
use Rattle.class_text.specs.declared.fault.ShowFault.{ShowFault}
use Rattle.class_text.specs.declared.fault.ShowFault.TheVariants as shows
use Rattle.class_text.specs.Shown.{shown}
use Rattle.inliner_tool.specs.declared.answer.Answer.TheVariants as answers
use Rattle.inliner_tool.specs.declared.answer.Made.{Made}
use Rattle.inliner_tool.specs.declared.refusal.Ended.{Ended}
use Rattle.inliner_tool.specs.declared.refusal.Ended.TheVariants as ends
use Rattle.command_inputs.specs.Forms.{Then}
use Rattle.command_inputs.specs.declared.show_inputs.ShowInputs.{ShowInputs}
use Rattle.inliner_tool.specs.declared.refusal.Refusal.TheVariants as refusals
use Rattle.inliner_tool.specs.Programs.{within_total}
use Rattle.inliner_tool.specs.Steps.{Equals, Just, Step}

-- why class files are not shown
abbrev pub show_end : ShowFault → Ended
show_end (shows.Code class method fault) = ends.Refused (refusals.Link (links.Code class method fault))
show_end shows.Memory = ends.Memory

abbrev pub show_step : Result (List ℕ) ShowFault → Step (List ℕ)
show_step (Ok text) = Ok text
show_step (Err fault) = Err (show_end fault)

-- the text of class files that are not too long in all
abbrev pub text_shown : ShowInputs → Step (List ℕ)
text_shown inputs = within_total inputs.classes (show_step (shown inputs.listing inputs.classes.files))

-- The class files are shown.
abbrev pub Shows : ShowInputs → Step Made → Type 0
Shows inputs =
    Then (Equals (text_shown inputs)) (λ text.
    Just (answers.Shown text))

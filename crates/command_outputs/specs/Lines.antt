-- How lines are encoded, and what is printed. (docs/COMMANDS.md)
use Rattle.std.specs.Prelude.{ℕ, List, [], ◌∷◌, ◌++◌, Option, Some, None, codes}
use Rattle.command_outputs.specs.declared.line.Line.{Line}
use Rattle.command_outputs.specs.declared.line.Line.TheVariants as lines
use Rattle.command_outputs.specs.declared.reply.Reply.{Reply}
use Rattle.command_outputs.specs.declared.reply.Reply.TheVariants as replies
use Rattle.command_outputs.specs.Fields.{all_spaced, count, word}

-- the name of a file, or `-` where there is none
abbrev pub file_name : Option (List ℕ) → List ℕ
file_name (Some name) = name
file_name None = codes "-"

-- a word and a count
abbrev pub labelled : List ℕ → ℕ → List ℕ
labelled label n = label ++ count n

-- that it is accepted, and in which mode
abbrev pub accepted_in : List ℕ → List ℕ
accepted_in mode = codes " accepted" ++ word mode

-- the line without its end
abbrev pub line_text : Line → List ℕ
line_text (lines.Accepted mode sites) = codes "accepted" ++ word mode ++ codes " sites" ++ count sites
line_text (lines.Inlined mode sites classes) = codes "inlined" ++ word mode ++ codes " sites" ++ count sites ++ codes " classes" ++ count classes
line_text (lines.Generated classes sites bytes) = labelled (codes "generated classes") classes ++ labelled (codes " sites") sites ++ labelled (codes " bytes") bytes
line_text (lines.Loaded classes sites mode) = labelled (codes "loaded classes") classes ++ labelled (codes " sites") sites ++ accepted_in mode
line_text lines.Obeyed = codes "accepted"
line_text (lines.Stopped index) = codes "stopped" ++ count index
line_text lines.Free = codes "free"
line_text (lines.Denied report) = codes "denied" ++ count report.number ++ all_spaced report.fields
line_text (lines.Input name report) = codes "input" ++ count report.number ++ word (file_name name) ++ all_spaced report.fields
line_text (lines.Overflow sizes) = codes "overflow" ++ all_spaced sizes
line_text (lines.Store name) = codes "store" ++ word name
line_text lines.Usage = codes "usage: conspecj COMMAND WORD.."

-- what is printed: a line with its end, or a text as it is
abbrev pub text_of : Reply → List ℕ
text_of (replies.Line line) = line_text line ++ 10 ∷ []
text_of (replies.Text text) = text

-- How what is asked of a note is tested. (docs/CERTIFICATES.md)
use Rattle.std.specs.Prelude.{◌+◌, ◌==◌, Bool, not, ◌&&◌, ◌||◌, List, Option, is_some}
use Rattle.std.specs.List.{list_all}
use Rattle.insn_codec.specs.Control.{jump_targets}
use Rattle.insn_codec.specs.Opcodes.{goes_on}
use Rattle.insn_codec.specs.Encoding.{opcode_of}
use Rattle.cert_format.specs.declared.note.Note.{Note}
use Rattle.cert_checker.specs.declared.passing.Test.{Test}
use Rattle.cert_checker.specs.declared.passing.Test.TheVariants.{Meets, StopsWell, Takes}
use Rattle.block_logic.specs.Notes.{Here, all_pass, is_asked_taking, meets, note_passes, stops_well}
use Rattle.block_logic.specs.Rows.{Asked, Row, Rules}
use Rattle.block_logic.specs.Weakening.{is_open}
use Rattle.bytecode_model.specs.declared.program.Method.{Method}

abbrev pub passes : Rules → Test → Asked → Note → Bool
passes rules Meets = meets rules
passes rules StopsWell = stops_well rules
passes rules Takes = is_asked_taking

-- What comes next is as the table has it; a method begins in no block.
abbrev pub goes_well : Rules → List Note → Method → Note → Here → Option Row → Bool
goes_well rules told method note here row =
    is_some row && (all_pass (meets rules) told row method here && (not (here.at == 0) || is_open rules.held rules.policy note))

-- The test passes for the next instruction with what is asked past this one, and for those that are jumped to with what is asked
-- there.
abbrev pub go_on_pass : (Asked → Note → Bool) → List Note → Asked → Asked → Here → Bool
go_on_pass test told past jump here =
    (not (goes_on (opcode_of here.insn)) || note_passes test told past (here.at + 1)) && list_all (note_passes test told jump) (jump_targets here.insn)

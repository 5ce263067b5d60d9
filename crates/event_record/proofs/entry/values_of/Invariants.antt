use Rattle.std.proofs.Common.{◌≡◌, [], length}
use Rattle.event_record.specs.Entry.{values_from}
use Rattle.event_record.proofs.entry.values_of.Given as goal

abbrev pub invariant-loop-word : goal.invariant-loop-word
invariant-loop-word l = values_from l.values l.words ≡ values_from [] l.fn.words

abbrev pub decreases-loop-word : goal.decreases-loop-word
decreases-loop-word l = length l.words

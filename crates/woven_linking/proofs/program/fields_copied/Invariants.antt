use Rattle.std.proofs.Common.{◌≡◌, take}
use Rattle.woven_linking.proofs.program.fields_copied.Given as goal

abbrev pub invariant-loop-field : goal.invariant-loop-field
invariant-loop-field l = l.copies ≡ take l.field-index l.fields

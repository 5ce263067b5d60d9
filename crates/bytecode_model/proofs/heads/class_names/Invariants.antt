use Rattle.std.proofs.Common.{◌≡◌, take, map}
use Rattle.bytecode_model.specs.Heads.{class_at}
use Rattle.bytecode_model.proofs.heads.class_names.Given as goal

abbrev pub invariant-loop-index : goal.invariant-loop-index
invariant-loop-index l = l.names ≡ map (class_at l.pool) (take l.index-index l.indices)

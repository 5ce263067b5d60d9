use Rattle.std.proofs.Common.{◌≡◌, ◌++◌, take}
use Rattle.bytecode_model.specs.Heads.{heads_of}
use Rattle.class_index.proofs.heads.add_heads.Given as goal

abbrev pub invariant-loop-file : goal.invariant-loop-file
invariant-loop-file l = l.heads ≡ l.fn.heads ++ heads_of (take l.file-index l.files)

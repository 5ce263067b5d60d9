use Rattle.std.proofs.Common.{◌≡◌, ◌+◌, ◌++◌, length, map}
use Rattle.bundle_gen.specs.Sizes.{bytes_of}
use Rattle.command_outputs.specs.Generated.{file_output}
use Rattle.command_outputs.proofs.generated.put_files.Given as goal

abbrev pub invariant-loop-left : goal.invariant-loop-left
invariant-loop-left l = record {
  so_far : l.outputs ++ map (file_output l.folder) l.left ≡ l.fn.outputs ++ map (file_output l.folder) l.files;
  count : l.bytes + bytes_of l.left ≡ bytes_of l.files;
}

abbrev pub decreases-loop-left : goal.decreases-loop-left
decreases-loop-left l = length l.left

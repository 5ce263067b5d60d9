use Rattle.class_index.specs.Index.{found_in}
use Rattle.class_index.specs.Nearest.{AreVersions}
use Rattle.class_index.proofs.nearest.add_files.Given as goal

abbrev pub invariant-loop-file : goal.invariant-loop-file
invariant-loop-file l = AreVersions (found_in l.numbered.found.now) l.numbered.numbers.now l.classes l.versions

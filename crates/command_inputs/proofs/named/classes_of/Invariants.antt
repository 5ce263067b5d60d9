use Rattle.std.proofs.Common.{◌≡◌, ◌≤◌, length}
use Rattle.std.specs.List.{AllByRecursion}
use Rattle.class_codec.specs.Fits.{IsEncodable}
use Rattle.command_inputs.proofs.ClassFiles.{HaveRead}
use Rattle.command_inputs.proofs.named.classes_of.Given as goal

abbrev pub invariant-loop-rest : goal.invariant-loop-rest
invariant-loop-rest g l = record {
  read : HaveRead (g.S.Store.files l.fn.store) l.names l.files.items l.total l.rest;
  fits : AllByRecursion IsEncodable l.files.items;
  files : g.S.Store.files l.store ≡ g.S.Store.files l.fn.store;
  faults : g.S.Store.faults l.fn.store ≤ g.S.Store.faults l.store;
}

abbrev pub decreases-loop-rest : goal.decreases-loop-rest
decreases-loop-rest g l = length l.rest

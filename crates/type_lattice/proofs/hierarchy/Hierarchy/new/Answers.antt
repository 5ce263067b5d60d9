use Rattle.std.proofs.Common.{sym, subst, ap, ◌∙◌}
use Rattle.type_lattice.specs.Hierarchy.{parents_in}
use Rattle.type_lattice.specs.SkipPointers.{AreParents}
use Rattle.type_lattice.proofs.OnNames.{are_parents}
use Rattle.type_lattice.proofs.hierarchy.Hierarchy.new.Goals as goal

pub new-requires : goal.new-requires
new-requires c =
    subst AreParents (sym (c.as_slice-3.ensures.value ∙ c.in_ok-parents.ensures ∙ ap parents_in c.as_slice-2.ensures)) (are_parents c.args.classes c.requires)

use Rattle.std.proofs.Common.{◌≡◌, Some, sym, ◌∙◌, arith}
use Rattle.type_lattice.specs.SkipPointers.{parent_of}
use Rattle.type_lattice.proofs.Ascending.{next_is}
use Rattle.type_lattice.proofs.skip_pointers.SkipPointers.step.Goals as goal

pub returns-clause-leads : goal.returns-clause-leads
returns-clause-leads c =
    let some : parent_of c.args.self.now c.args.at ≡ Some c.in-Some.parent = sym c.kept-kept.ensures.parent ∙ c.in-Some.is in
    record {
      some = omega arith;
      few = omega arith;
      there = next_is c.args.self.now c.kept-kept.ensures.parents c.args.at c.in-Some.parent some;
    }

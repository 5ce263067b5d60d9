use Rattle.std.proofs.Common.{sym, subst}
use Rattle.type_lattice.specs.declared.skip_pointers.SkipPointer.{SkipPointer}
use Rattle.type_lattice.specs.SkipPointers.{IsSkipPointer, parents_of}
use Rattle.type_lattice.proofs.Ascending.{read_at}
use Rattle.type_lattice.proofs.skip_pointers.known.Goals as goal

pub returns : goal.returns
returns c =
    let items = c.args.items.now in
    let known = c.requires.known in
    subst (λ (k : SkipPointer). IsSkipPointer (parents_of items) c.args.at k) (sym (read_at items c.args.at known.kept _ known.there)) (c.requires.begun.right c.args.at known.kept known.there known.known)

use Rattle.std.proofs.Common.{◌≡◌, ◌<◌, ℕ, List, length, Option, Some, sym, subst, ap, ◌∙◌, refl, arith}
use Rattle.std.specs.Prelude.{slice_get}
use Rattle.std.proofs.lemmas.Option.{slice_get_read}
use Rattle.type_lattice.specs.SkipPointers.{AreParents, IsSkipPointer, parent_of}
use Rattle.type_lattice.proofs.Ascending.{parent_kept, parents-length}
use Rattle.type_lattice.proofs.skip_pointers.SkipPointers.kept.Goals as goal

pub returns : goal.returns
returns c =
    let items = c.self.inside.items.items in
    let kept = c.index.result.now in
    let size = ap (λ (l : List (Option ℕ)). length l) c.self.view_is in
    let same = parents-length items in
    let less : c.args.at < length items = omega arith in
    let there : slice_get items c.args.at ≡ Some kept = slice_get_read items (length items) c.args.at kept refl less c.index.ensures in
    record {
      parents = subst AreParents c.self.view_is c.self.invariant.parents;
      parent = sym (parent_kept items c.args.at kept there) ∙ ap (λ (l : List (Option ℕ)). parent_of l c.args.at) c.self.view_is;
      path_up = subst (λ (l : List (Option ℕ)). IsSkipPointer l c.args.at kept) c.self.view_is (c.self.invariant.right c.args.at kept there);
    }

pub index-requires : goal.index-requires
index-requires c =
    let size = ap (λ (l : List (Option ℕ)). length l) c.self.view_is in
    let same = parents-length c.self.inside.items.items in
    omega arith

use Rattle.std.proofs.Common.{◌≡◌, ℕ, ◌<◌, List, length, Option, Some, sym, ap, subst, ◌∙◌, arith}
use Rattle.std.specs.Prelude.{slice_get}
use Rattle.type_lattice.specs.declared.skip_pointers.SkipPointer.{SkipPointer}
use Rattle.type_lattice.specs.SkipPointers.{parent_of, parents_of, path_up, IsSkipPointer, IsKnown}
use Rattle.type_lattice.proofs.Ascending.{parents-length}
use Rattle.type_lattice.proofs.Filling.{same_parents, one_more, is_added, stay_known, last_within, above_known, still_open}
use Rattle.type_lattice.proofs.skip_pointers.add_skip_pointer.Goals as goal

pub skip_over-kept-requires-clause-at : goal.skip_over-kept-requires-clause-at
skip_over-kept-requires-clause-at c =
    let items = c.loop-at.items.items in
    let inv = c.loop-at.invariant in
    let same = ap (λ (l : List (Option ℕ)). length l) inv.of in
    let now = parents-length items in
    let before = parents-length c.args.items.now.items in
    let less = last_within items inv.begun c.args.start c.in-Some.at c.loop-at.path.items c.pop.new.self.items c.in-Some.ensures.items inv.open_still (omega arith) in
    subst (λ (l : List SkipPointer). c.in-Some.at < length l) (sym c.as_slice-in-Some.ensures.value) less

pub skip_over-kept-requires-clause-above : goal.skip_over-kept-requires-clause-above
skip_over-kept-requires-clause-above c =
    let items = c.loop-at.items.items in
    let inv = c.loop-at.invariant in
    subst (λ (l : List SkipPointer). (above : ℕ) → slice_get (path_up (parents_of l) c.in-Some.at) 1 ≡ Some above → IsKnown l above) (sym c.as_slice-in-Some.ensures.value)
    (above_known items inv.begun c.args.start c.in-Some.at c.loop-at.path.items c.pop.new.self.items c.in-Some.ensures.items inv.open_still)

pub index_mut-requires : goal.index_mut-requires
index_mut-requires c =
    let items = c.loop-at.items.items in
    let inv = c.loop-at.invariant in
    let same = ap (λ (l : List (Option ℕ)). length l) inv.of in
    let now = parents-length items in
    let before = parents-length c.args.items.now.items in
    let less = last_within items inv.begun c.args.start c.in-Some.at c.loop-at.path.items c.pop.new.self.items c.in-Some.ensures.items inv.open_still (omega arith) in
    omega arith

pub loop-at-preserved : goal.loop-at-preserved
loop-at-preserved c =
    let items = c.loop-at.items.items in
    let inv = c.loop-at.invariant in
    let at = c.in-Some.at in
    let kept = c.skip_over-kept.result in
    let same = ap (λ (l : List (Option ℕ)). length l) inv.of in
    let now = parents-length items in
    let before = parents-length c.args.items.now.items in
    let less = last_within items inv.begun c.args.start at c.loop-at.path.items c.pop.new.self.items c.in-Some.ensures.items inv.open_still (omega arith) in
    let parent : kept.parent ≡ parent_of (parents_of items) at = c.skip_over-kept.ensures.parent ∙ ap (λ (l : List SkipPointer). parent_of (parents_of l) at) c.as_slice-in-Some.ensures.value in
    let is = subst (λ (l : List SkipPointer). IsSkipPointer (parents_of l) at kept) c.as_slice-in-Some.ensures.value c.skip_over-kept.ensures.path_up in
    record {
      begun = one_more items inv.begun at kept less parent is;
      of = same_parents items inv.begun at kept less parent is ∙ inv.of;
      keeps = λ x known. stay_known items inv.begun at kept less parent is x (inv.keeps x known);
      open_still =
          still_open items inv.begun c.args.start at c.loop-at.path.items c.pop.new.self.items c.in-Some.ensures.items inv.open_still _
          (same_parents items inv.begun at kept less parent is) (is_added items inv.begun at kept less parent is);
    }

use Rattle.std.proofs.Common.{◌≡◌, ℕ, ◌++◌, ◌∷◌, [], List, Some, None, sym, ap, subst, ◌∙◌, append_assoc, arith}
use Rattle.std.specs.Prelude.{slice_index_or}
use Rattle.type_lattice.specs.SkipPointers.{parent_of, parents_of, path_up, IsKnown}
use Rattle.type_lattice.proofs.Ascending.{parent_kept, parents-length, there_is, over, first_is, front_there, front_taken, some_is}
use Rattle.type_lattice.proofs.skip_pointers.path_from.Goals as goal

pub loop-at-preserved : goal.loop-at-preserved
loop-at-preserved c =
    let items = c.args.items.now in
    let at = c.loop-at.at in
    let ps = parents_of items in
    let some : parent_of ps at ≡ Some c.in-Some.parent = parent_kept items at _ (there_is items at _ c.loop-at.invariant.within) ∙ c.in-Some.is in
    let less = c.requires.begun.parents.within at c.in-Some.parent some in
    let size = parents-length items in
    let up = path_up ps c.in-Some.parent in
    record {
      whole =
          ap (λ (l : List ℕ). l ++ up) c.in_ok-push.ensures.items ∙ append_assoc c.loop-at.path.items (at ∷ []) up
          ∙ ap (λ (l : List ℕ). c.loop-at.path.items ++ l) (sym (over ps c.requires.begun.parents at c.in-Some.parent some)) ∙ c.loop-at.invariant.whole;
      within = omega arith;
    }

pub returns : goal.returns
returns c =
    let items = c.args.items.now in
    let ps = parents_of items in
    let parents = c.requires.begun.parents in
    let at = c.loop-at.at in
    let path = c.loop-at.path.items in
    let whole = c.loop-at.invariant.whole in
    record {
      front = front_taken path (path_up ps at) (path_up ps c.args.start) whole;
      next = λ x e.
          let same : at ≡ x = some_is at x (sym (first_is ps parents at) ∙ sym (front_there path (path_up ps at) (path_up ps c.args.start) whole) ∙ e) in
          subst (IsKnown items) same record { kept = slice_index_or items at record { parent = None; height = 0; steps = 0; jump = 0 }; there = there_is items at _ c.loop-at.invariant.within; known = omega (arith, c.loop-at-test.false) };
    }

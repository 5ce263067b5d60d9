use Rattle.std.proofs.Common.{◌≡◌, ℕ, List, length, Option, ap, sym, subst, inl, inr, ◌∙◌, arith}
use Rattle.std.proofs.lemmas.Bool.{cases_lt}
use Rattle.type_lattice.specs.SkipPointers.{IsKnown, parents_of}
use Rattle.type_lattice.proofs.Ascending.{unknown_parents, parents-length}
use Rattle.type_lattice.proofs.Filling.{begun_unknown, all_known}
use Rattle.type_lattice.proofs.skip_pointers.SkipPointers.new.Goals as goal

pub loop-start-init : goal.loop-start-init
loop-start-init c = record {
  begun = begun_unknown c.in_ok-items.items.items c.args.parents.now c.in_ok-items.ensures c.requires;
  of = ap parents_of c.in_ok-items.ensures ∙ unknown_parents c.args.parents.now;
  known = λ at less. absurd (omega arith);
}

pub loop-start-preserved : goal.loop-start-preserved
loop-start-preserved c =
    let start = c.loop-start.start in
    let later = c.add_skip_pointer.new.items.items in
    record {
      begun = c.in_ok-add_skip_pointer.ensures.begun;
      of = c.in_ok-add_skip_pointer.ensures.of ∙ c.loop-start.invariant.of;
      known = λ at less.
          elim (cases_lt at start) [
            | inl below ↦ c.in_ok-add_skip_pointer.ensures.keeps at (c.loop-start.invariant.known at below)
            | inr above ↦
                let same : start ≡ at = omega (arith, less, above) in
                subst (IsKnown later) same c.in_ok-add_skip_pointer.ensures.adds
          ];
    }

pub invariant_of-result : goal.invariant_of-result
invariant_of-result c =
    let items = c.loop-start.items.items in
    let size = parents-length items in
    let same = ap (λ (l : List (Option ℕ)). length l) c.loop-start.invariant.of in
    all_known items c.loop-start.start c.loop-start.invariant.begun c.loop-start.invariant.known (omega arith)

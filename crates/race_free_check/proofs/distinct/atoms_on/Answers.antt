use Rattle.std.proofs.Common.{◌≡◌, ◌-◌, Bool, List, ◌∷◌, ◌++◌, length, drop, take, filter, sym, ap, ◌∙◌}
use Rattle.std.specs.Prelude.{flat_map}
use Rattle.std.proofs.lemmas.List.{append_assoc}
use Rattle.std.proofs.lemmas.List.Elements.{filter-append}
use Rattle.conspec_tree.specs.declared.types.Atom.{Atom}
use Rattle.conspec_automaton.specs.declared.policy.Branch.{Branch}
use Rattle.conspec_automaton.specs.Points.{is_same}
use Rattle.race_free_check.specs.Distinct.{atoms_on}
use Rattle.race_free_check.proofs.Grown.{front_is}
use Rattle.race_free_check.proofs.distinct.atoms_on.Goals as goal

-- what is kept of the items of one more
kept_more : {X Y : Type 0} (test : Y → Bool) (f : X → List Y) (left rest : List X) (x : X) (found now all ys : List Y) → left ≡ x ∷ rest → found ++ filter test (flat_map f left) ≡ all → now ≡ found ++ filter test ys → ys ≡ f x → now ++ filter test (flat_map f rest) ≡ all
kept_more test f left rest x found now all ys front e more is =
    ap (λ (zs : List _). zs ++ filter test (flat_map f rest)) (more ∙ ap (λ (zs : List _). found ++ filter test zs) is)
    ∙ append_assoc found (filter test (f x)) (filter test (flat_map f rest))
    ∙ ap (λ (zs : List _). found ++ zs) (sym (filter-append test (f x) (flat_map f rest)))
    ∙ ap (λ (xs : List _). found ++ filter test (flat_map f xs)) (sym front)
    ∙ e

pub loop-left-preserved : goal.loop-left-preserved
loop-left-preserved c =
    let left = c.loop-left.left.now in
    let rest = take (length left - 1) (drop 1 left) in
    let front = front_is left c.branch-item.result c.branch-item.result c.in-len1-up.len_at_least c.branch-item.is in
    kept_more (λ (a : Atom). is_same c.args.base a.base) (λ (b : Branch). b.atoms) left rest c.branch-item.result c.loop-left.found.items c.add_atoms_on.new.found.items (atoms_on c.args.base c.args.clause.now) c.as_slice.result.now
    front c.loop-left.invariant c.in_ok-add_atoms_on.ensures c.as_slice.ensures

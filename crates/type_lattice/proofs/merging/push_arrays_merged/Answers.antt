use Rattle.std.proofs.Common.{◌++◌, ◌∷◌, [], List, ℕ, sym, ap, ◌∙◌, append_assoc}
use Rattle.api_listing.specs.BuiltIn.{object}
use Rattle.bytecode_model.specs.Arrays.{described}
use Rattle.type_lattice.specs.Merging.{arrays_merged}
use Rattle.type_lattice.proofs.Within.{merged_within}
use Rattle.type_lattice.proofs.merging.push_arrays_merged.Goals as goal

pub loop-x-preserved : goal.loop-x-preserved
loop-x-preserved c =
    let within : List ℕ = arrays_merged c.args.program.now (described object) c.in-Some.x.now c.in-Some.y.now in
    ap (λ (out : List ℕ). out ++ within) c.in_ok-push.ensures.ok ∙ append_assoc c.loop-x.out (91 ∷ []) within
    ∙ ap (λ (rest : List ℕ). c.loop-x.out ++ rest)
    (sym (merged_within c.args.program.now c.loop-x.otherwise.now c.loop-x.a.now c.loop-x.b.now c.in-Some.x.now c.in-Some.y.now (sym c.in-Some.ensures)))
    ∙ c.loop-x.invariant

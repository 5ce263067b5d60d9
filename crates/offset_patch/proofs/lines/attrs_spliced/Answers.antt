use Rattle.std.proofs.Common.{◌≡◌, ◌+◌, List, ℕ, length, take, sym, ap, subst, ◌∙◌, arith}
use Rattle.std.proofs.lemmas.List.{length-take}
use Rattle.offset_patch.specs.Lines.{RiseFrom}
use Rattle.offset_patch.proofs.Lining.{starts_count, begins_rise}
use Rattle.offset_patch.proofs.lines.attrs_spliced.Goals as goal

pub slice_bounds-new-end : goal.slice_bounds-new-end
slice_bounds-new-end c =
    let count : length c.as_slice.result.now ≡ length c.args.insns.now + 1 = ap length (c.as_slice.ensures ∙ c.in_ok-olds.ensures) ∙ starts_count 0 c.args.insns.now in
    omega (arith, count, length-take (length c.args.insns.now) c.as_slice.result.now)

pub new-moves-requires-clause-rise : goal.new-moves-requires-clause-rise
new-moves-requires-clause-rise c =
    let few = length c.args.insns.now in
    subst (λ (xs : List ℕ). RiseFrom 0 (take few xs)) (sym (c.as_slice.ensures ∙ c.in_ok-olds.ensures)) (begins_rise few c.args.insns.now)

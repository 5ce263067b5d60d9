use Rattle.std.proofs.Common.{◌≡◌, ◌∙◌, suc, ◌-◌, ◌/◌, [], ◌∷◌, ◌++◌, Some, ap, sym, subst, arith}
use Rattle.std.specs.Prelude.{slice_get}
use Rattle.std.specs.Option.{option_copied}
use Rattle.mon_base.specs.Persistent.{with_half, Keeps, Puts}
use Rattle.mon_base.proofs.Putting.{puts_up}
use Rattle.mon_base.proofs.Lists.{get_kept, get_pushed, got}
use Rattle.mon_base.proofs.persistent.+put.Goals as goal

pub returns-clause-puts : goal.returns-clause-puts
returns-clause-puts t c =
    let old = c.args.nodes.now in
    let mid = c.put.new.nodes in
    let halves = c.in-Some.halves.now in
    let number = c.args.number in
    let half = c.in_ok-half.half in
    let h = c.get.ensures.lookup in
    let there : slice_get old c.args.root ≡ Some halves = ap (λ xs. slice_get xs c.args.root) (sym c.as_slice.ensures) ∙ sym (got c.get.result c.as_slice.result.now c.args.root h.3 h.1) ∙ ap option_copied c.in-Some.is in
    let is : c.args.depth ≡ suc (c.args.depth - 1) = omega (arith, c.if-depth-eq0.false) in
    let pushed : c.push.new.self ≡ mid ++ with_half halves number half ∷ [] = c.in_ok-push.ensures.ok ∙ ap (λ x. mid ++ x ∷ []) c.with_half.ensures in
    puts_up old mid c.push.new.self c.args.depth (c.args.depth - 1) c.args.root c.len-new.result number c.args.item half halves is there
    c.in_ok-half.ensures.keeps (subst (λ xs. Keeps mid xs) (sym pushed) (get_kept mid (with_half halves number half ∷ [])))
    (ap (λ xs. slice_get xs c.len-new.result) pushed ∙ get_pushed mid (with_half halves number half) c.len-new.result c.len-new.ensures)
    (subst (λ r. Puts old mid (c.args.depth - 1) r (number / 2) c.args.item half) c.half_of.ensures c.in_ok-half.ensures.puts)

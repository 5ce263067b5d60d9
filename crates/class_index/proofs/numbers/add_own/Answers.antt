use Rattle.std.proofs.Common.{◌∙◌, [], ◌∷◌, ◌++◌, Some, cond, ap}
use Rattle.std.specs.BTreeMap.{get}
use Rattle.std.specs.Cmp.Lexicographic.{slice_cmp}
use Rattle.std.specs.Ordering.{is_eq, nat_cmp}
use Rattle.class_index.proofs.Numbering.{own_put}
use Rattle.class_index.proofs.numbers.add_own.Goals as goal

pub returns : goal.returns
returns c =
    let mid = c.taken-numbers.new.own in
    own_put c.args.own.now mid c.insert.new.self c.args.class.now c.push.new.self c.args.number
    (c.in_ok-push.ensures.ok ∙ ap (λ xs. xs ++ c.args.number ∷ []) c.taken-numbers.ensures.was) c.taken-numbers.ensures.left
    (λ q. c.in_ok-insert.ensures.updates.0 q ∙ ap (λ k. cond (is_eq (slice_cmp nat_cmp k q)) (Some c.push.new.self) (get (slice_cmp nat_cmp) mid q)) c.in_ok-copy.ensures)

use Rattle.std.proofs.Common.{◌<◌, [], ◌∷◌, length, sym, ap, subst, arith}
use Rattle.std.specs.List.{filter}
use Rattle.class_index.specs.Library.{may_own, IsShared}
use Rattle.class_index.proofs.Sharing.{shared_here, shared_kept}
use Rattle.class_index.proofs.library.above_of.Goals as goal

pub returns-clause-shared : goal.returns-clause-shared
returns-clause-shared c =
    let owners = c.args.owners.now in
    let classes = c.args.classes.now in
    let lists = c.args.shared.now.lists in
    record {
      known = λ name above found.
          subst (λ l. IsShared owners classes l name above) (sym c.in_ok-add_list.ensures)
          (shared_kept owners classes lists (filter (may_own owners) c.as_slice-2.result.now ∷ []) name above (c.requires.known name above found));
      memberless = c.requires.memberless;
    }

pub returns-clause-is : goal.returns-clause-is
returns-clause-is c =
    let owners = c.args.owners.now in
    let classes = c.args.classes.now in
    let name = c.args.name.now in
    let order = c.in_ok-order.order in
    let few : length order < length classes = omega (arith, c.if-len.false, c.len.ensures, c.len-2.ensures) in
    subst (λ l. IsShared owners classes l name (record { place = c.len-3.result; height = c.len-4.result })) (sym c.in_ok-add_list.ensures)
    (shared_here owners classes c.args.shared.now.lists name order (filter (may_own owners) c.as_slice-2.result.now) (record { place = c.len-3.result; height = c.len-4.result }) c.in_ok-order.ensures few
    (ap (filter (may_own owners)) c.as_slice-2.ensures) c.len-3.ensures c.len-4.ensures)

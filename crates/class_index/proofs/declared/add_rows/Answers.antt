use Rattle.std.proofs.Common.{ℕ, List, ◌∷◌, [], false, get_or, ap, map, arith}
use denote.Ref.{Bor}
use Rattle.bytecode_model.specs.Members.{rows_from, row_declared}
use Rattle.mon_base.proofs.Lists.{front_at}
use Rattle.bytecode_model.proofs.Lists.{rest_length, none_left}
use Rattle.class_index.proofs.Declaring.{goes_on, is_done}
use Rattle.class_index.proofs.declared.add_rows.Goals as goal

pub loop-left-preserved : goal.loop-left-preserved
loop-left-preserved c =
    let none : Bor (List ℕ) = record { ref_ptr = (0, 0); now = [] } in
    let row = get_or c.loop-left.left.now 0 (none, none, none, false) in
    let split = front_at c.loop-left.left.now (none, none, none, false) c.in-len1-up.len_at_least in
    record {
      found = λ q. goes_on _ (row_declared c.loop-left.index (row.0.now, row.1.now, row.2.now, row.3) ∷ []) _ _ _ _ q (ap (λ rs. rows_from c.loop-left.index (map (λ r. (r.0.now, r.1.now, r.2.now, r.3)) rs)) split) (c.in_ok-add_row.ensures q) (c.loop-left.invariant.found q);
      count = omega (arith, rest_length c.loop-left.left.now _ _ split);
    }

pub returns : goal.returns
returns c = λ q. is_done _ _ _ q (ap (λ rs. rows_from c.loop-left.index (map (λ r. (r.0.now, r.1.now, r.2.now, r.3)) rs)) (none_left c.loop-left.left.now c.in_default.len_below)) (c.loop-left.invariant.found q)

use Rattle.type_infer.proofs.laws.laws_hold.Goals as goal

pub returns : goal.returns
returns c program order =
    let assign = c.assignable_is_an_order.ensures in
    let rows = c.rows_follow_the_order.ensures in
    record {
      order = order;
      reflexive = assign.reflexive program;
      transitive = assign.transitive program order;
      thrown_alone = assign.thrown program order;
      itself = rows.reflexive program;
      over = rows.transitive program order;
      alone = rows.alone;
      left = rows.left;
      thrown = rows.thrown;
    }

use Rattle.bytecode_model.specs.Heads.{class_at}
use Rattle.bytecode_model.proofs.CopiedItems.{one_more_mapped}
use Rattle.bytecode_model.proofs.heads.class_names.Goals as goal

pub loop-index-preserved : goal.loop-index-preserved
loop-index-preserved c =
    one_more_mapped (class_at c.args.pool.now) c.args.indices.now c.loop-index.names c.push.new.self c.loop-index.index-index 0 c.in_ok-name.name
    c.loop-index-test.true c.loop-index.invariant c.in_ok-name.ensures c.in_ok-push.ensures.ok

use Rattle.std.proofs.Common.{ap, length, arith}
use Rattle.mon_base.proofs.Lists.{front_is}
use Rattle.mon_store.specs.declared.outputs.Output.{Output}
use Rattle.bundle_gen.proofs.Counting.{bytes_at, bytes_none}
use Rattle.command_outputs.proofs.Growing.{output_more}
use Rattle.command_outputs.proofs.generated.put_files.Goals as goal

pub loop-left-preserved : goal.loop-left-preserved
loop-left-preserved c =
    let split = front_is c.loop-left.left.now c.file-item.result c.in-len1-up.len_at_least c.file-item.is in
    let one = bytes_at c.file-item.result c.loop-left.left.now _ split in
    let same = ap (λ (o : Output). length o.bytes) c.in_ok-output.ensures in
    record {
      so_far = output_more c.args.folder.now c.file-item.result c.loop-left.left.now _ c.in_ok-output.output c.loop-left.outputs c.push.new.self _ split c.in_ok-output.ensures c.in_ok-push.ensures.ok
          c.loop-left.invariant.so_far;
      count = omega (arith, c.loop-left.invariant.count, one, same, c.len.ensures);
    }

pub returns-clause-bytes : goal.returns-clause-bytes
returns-clause-bytes c = omega (arith, c.loop-left.invariant.count, bytes_none c.loop-left.left.now c.in_default.len_below)

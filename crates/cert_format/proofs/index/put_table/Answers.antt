use Rattle.std.proofs.Common.{arith}
use Rattle.cert_format.proofs.Places.{table_is}
use Rattle.cert_format.proofs.index.put_table.Goals as goal

pub returns : goal.returns
returns c = table_is c.loop-name.out c.args.out.now c.args.names.now c.loop-name.name-index (omega (arith, c.loop-name-test.false)) c.loop-name.invariant

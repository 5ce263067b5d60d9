use Rattle.std.proofs.Common.{arith}
use Rattle.cert_format.proofs.FileLaws.{is_found, is_only}
use Rattle.cert_format.proofs.decoding.decode.Goals as goal

pub returns-clause-found : goal.returns-clause-found
returns-clause-found c = is_found c.args.vars c.args.bytes.now c.all.result (λ i. omega (arith, c.type_inv.bytes i)) c.all.ensures

pub returns-clause-only : goal.returns-clause-only
returns-clause-only c = λ certificate encodes. is_only c.args.vars c.args.bytes.now c.all.result certificate c.all.ensures encodes

use Rattle.std.proofs.Common.{arith}
use Rattle.class_codec.proofs.FileLaws.{is_found, is_only, is_long}
use Rattle.class_codec.proofs.decoding.decode.Goals as goal

pub returns-clause-found : goal.returns-clause-found
returns-clause-found c = is_found c.args.bytes.now c.all.result (λ i. omega (arith, c.type_inv.bytes i)) c.all.ensures

pub returns-clause-only : goal.returns-clause-only
returns-clause-only c = λ file encodes short. is_only c.args.bytes.now c.all.result file c.all.ensures encodes short

pub returns-clause-too_long : goal.returns-clause-too_long
returns-clause-too_long c = λ long. is_long c.args.bytes.now c.all.result c.all.ensures long

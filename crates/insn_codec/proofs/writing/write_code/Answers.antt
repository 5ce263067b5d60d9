use Rattle.insn_codec.proofs.Putting.{written_is, told_long}
use Rattle.insn_codec.proofs.WriteLaws.{is_back}
use Rattle.insn_codec.proofs.writing.write_code.Goals as goal

pub returns-clause-is : goal.returns-clause-is
returns-clause-is c = written_is c.args.insns.now c.written.result c.written.ensures

pub returns-clause-length : goal.returns-clause-length
returns-clause-length c = λ long. told_long c.args.insns.now c.written.result c.written.ensures long

pub returns-clause-back : goal.returns-clause-back
returns-clause-back c = λ bytes encodes short. is_back c.args.insns.now c.written.result bytes c.written.ensures encodes short

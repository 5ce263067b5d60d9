use Rattle.cert_format.proofs.FileLaws.{same_certificate}
use Rattle.cert_format.proofs.encoding.one_encoding.Goals as goal

pub returns-clause-certificate : goal.returns-clause-certificate
returns-clause-certificate c = λ bytes vars one other encodes_one encodes_other. same_certificate bytes vars one other encodes_one encodes_other

use Rattle.std.proofs.Common.{ap, Err, refl}
use Rattle.command_inputs.proofs.files.text_of.Goals as goal

pub returns-in_ok-copy-in-Err-TooLong-clause-text : goal.returns-in_ok-copy-in-Err-TooLong-clause-text
returns-in_ok-copy-in-Err-TooLong-clause-text g c =
    let t = c.in-Err-TooLong.ensures.too_long c.in-Err-TooLong.len (ap Err c.in-Err-TooLong.field-0-is) in
    (c.in_ok-copy-in-Err-TooLong.ensures, record { len = c.in-Err-TooLong.len; above = t.0; told = t.1; says = refl })

use Rattle.std.proofs.Common.{rules, Some, ◌∙◌, sym, ap, FitsSigned}
use Rattle.std.proofs.lemmas.Int.{to_z-of_z}
use Rattle.std.specs.Int.{w64}
use Rattle.event_record.specs.Number.{number_of}
use Rattle.event_record.proofs.Numbers.{none_written, number_again}
use Rattle.event_record.proofs.number.number_of.Goals as goal

pub returns-in-None : goal.returns-in-None
returns-in-None c = sym (none_written c.args.text.now c.in-None.ensures.none)

pub returns-in-Some : goal.returns-in-Some
returns-in-Some c =
    let fits : FitsSigned w64 c.in-Some.n = search rules in
    ap Some (to_z-of_z w64 c.in-Some.n fits) ∙ sym (ap number_of c.in-Some.ensures.found ∙ number_again c.in-Some.n fits)

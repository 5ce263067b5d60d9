use Rattle.std.proofs.Common.{sym, ◌∙◌}
use Rattle.cert_checker.proofs.Unbroken.{unbroken}
use Rattle.cert_checker.proofs.note_rules.table_fault.Goals as goal

pub returns-then-goes_as_asked : goal.returns-then-goes_as_asked
returns-then-goes_as_asked c =
    sym (unbroken c.args.rules.now c.args.told.now c.args.method.now c.args.note.now c.args.here.now _ (sym c.goes_as_asked.ensures ∙ c.if-goes_as_asked.true))

use Rattle.std.proofs.Common.{◌≡◌, ◌-◌, length}
use Rattle.conspec_tokens.specs.Front.{is_name}
use Rattle.conspec_parse.specs.Forms.{each, repeated}
use Rattle.conspec_parse.specs.Updates.{update_at}
use Rattle.conspec_parse.proofs.update.updates_from.Given as goal

abbrev pub invariant-loop : goal.invariant-loop
invariant-loop l = repeated is_name (update_at l.vars l.maxint l.atoms) (length l.tokens - l.counter) l.updates l.left ≡ each is_name (update_at l.vars l.maxint l.atoms) l.initial.updates l.tokens

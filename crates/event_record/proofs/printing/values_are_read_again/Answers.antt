use Rattle.event_record.proofs.Again.{value_again}
use Rattle.event_record.proofs.Unbroken.{value_is_word}
use Rattle.event_record.proofs.printing.values_are_read_again.Goals as goal

pub returns-clause-again : goal.returns-clause-again
returns-clause-again c = value_again

pub returns-clause-word : goal.returns-clause-word
returns-clause-word c = value_is_word

use Rattle.api_shelf.proofs.Together.{silent_tell, alone_tells, second_is_silent}
use Rattle.api_shelf.proofs.laws.devices_tell.Goals as goal

pub returns-clause-begins : goal.returns-clause-begins
returns-clause-begins c slots silent = silent_tell slots silent

pub returns-clause-alone : goal.returns-clause-alone
returns-clause-alone c class log pairs faults tells = alone_tells class log pairs faults tells

pub returns-clause-second : goal.returns-clause-second
returns-clause-second c class first log pairs faults more tells = second_is_silent class first log pairs faults more tells

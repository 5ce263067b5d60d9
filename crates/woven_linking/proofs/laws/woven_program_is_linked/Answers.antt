use Rattle.woven_linking.proofs.Relinked.{linked, back, room, sound}
use Rattle.woven_linking.proofs.laws.woven_program_is_linked.Goals as goal

pub returns : goal.returns
returns c = record { linked = linked; back = back; room = room; sound = sound }

use Rattle.std.proofs.Common.{◌≡◌, take, true}
use Rattle.code_typing.specs.Catching.{all_take_thrown}
use Rattle.code_typing.proofs.handlers.all_take_thrown.Given as goal

abbrev pub invariant-loop-handler : goal.invariant-loop-handler
invariant-loop-handler l = all_take_thrown l.program (take l.handler-index l.handlers) ≡ true

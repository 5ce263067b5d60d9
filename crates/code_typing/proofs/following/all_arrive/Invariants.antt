use Rattle.std.proofs.Common.{◌≡◌, take, true}
use Rattle.std.specs.List.{list_all}
use Rattle.code_typing.specs.Leaving.{arrives}
use Rattle.code_typing.proofs.following.all_arrive.Given as goal

abbrev pub invariant-loop-to : goal.invariant-loop-to
invariant-loop-to l = list_all (arrives l.frames l.place l.left) (take l.to-index l.targets) ≡ true

use Rattle.std.proofs.Common.{◌≡◌, length, true}
use Rattle.std.specs.Prelude.{IsTrue}
use Rattle.std.specs.List.{list_all}
use Rattle.bytecode_model.specs.Rules.{Caught, is_handled}
use Rattle.code_typing.specs.Catching.{all_take_thrown}
use Rattle.code_typing.proofs.handlers.is_caught.Given as goal

abbrev pub invariant-loop-handler : goal.invariant-loop-handler
invariant-loop-handler l = record {
  same : list_all (is_handled l.fn.frames l.fn.place l.fn.frame) l.near ≡ Caught l.fn.frames l.fn.place l.fn.frame;
  known : IsTrue l.known → all_take_thrown l.fn.place.program l.near ≡ true;
}

abbrev pub decreases-loop-handler : goal.decreases-loop-handler
decreases-loop-handler l = length l.near

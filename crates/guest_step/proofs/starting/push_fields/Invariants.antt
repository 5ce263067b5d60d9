use Rattle.std.proofs.Common.{◌≡◌, ◌++◌, map, take}
use Rattle.mon_base.specs.declared.method.MethodId.{MethodId}
use Rattle.guest_model.specs.Runs.{inner}
use Rattle.guest_model.specs.Throwing.{bare_object}
use Rattle.guest_step.proofs.starting.push_fields.Given as goal

abbrev pub invariant-loop-field : goal.invariant-loop-field
invariant-loop-field l = l.heap ≡ l.fn.heap ++ map (λ (f : MethodId). bare_object (inner f.desc)) (take l.field-index l.fields)

-- The lifting of a list of steps, one after another, or the first that is not lifted. (docs/TRANSPARENCY.md)
use Rattle.std.specs.Prelude.{ℕ, ◌+◌, List, [], ◌∷◌, Result, Ok}
use Rattle.mon_base.specs.Reading.{◌>>=◌}
use Rattle.bytecode_model.specs.declared.program.Method.{Method}
use Rattle.bytecode_model.specs.declared.program.Program.{Program}
use Rattle.block_template.specs.Blocks.{plan_of}
use Rattle.cert_format.specs.declared.certificate.Mode.{Mode}
use Rattle.class_weaving.specs.Woven.{plan_sites}
use Rattle.conspec_automaton.specs.declared.policy.Policy.{Policy}
use Rattle.guest_model.specs.declared.machine.Step.{Step}
use Rattle.guest_erasing.specs.Places.{Sites}
use Rattle.lift_schedule.specs.declared.fault.LiftFault.{LiftFault}
use Rattle.lift_schedule.specs.declared.lifting.Lifted.{Lifted}
use Rattle.lift_schedule.specs.Running.{client_start, client_stepped, lifted_stepped, woven_start}

-- the blocks of a method, where a policy is woven in this mode
abbrev pub blocks_in : Policy → Mode → Method → Sites
blocks_in policy mode = plan_sites (plan_of policy mode)

-- the two runs at the start
abbrev pub lift_start : Policy → Program → Program → Lifted
lift_start policy client woven = record { client = client_start policy client; woven = woven_start woven }

module _ (policy : Policy) (mode : Mode) (client woven : Program) where
  -- the two runs after one more step of the client, which has this index
  abbrev pub after_step : ℕ → Lifted → Step → Result Lifted LiftFault
  after_step index run step = do
    clients ← client_stepped policy mode client index step run.client
    wovens ← lifted_stepped (blocks_in policy mode) client woven index step run.woven
    Ok (record { client = clients; woven = wovens })

  -- after these steps, of which the first has this index
  abbrev pub lift_from : ℕ → Lifted → List Step → Result Lifted LiftFault
  lift_from index run [] = Ok run
  lift_from index run (step ∷ steps) = after_step index run step >>= λ next. lift_from (index + 1) next steps

  abbrev pub lift_of : List Step → Result Lifted LiftFault
  lift_of steps = lift_from 0 (lift_start policy client woven) steps

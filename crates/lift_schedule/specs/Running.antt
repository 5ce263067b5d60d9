-- How far the run of a client and the lifted one have come, and a step more of each. (docs/TRANSPARENCY.md)
use Rattle.std.specs.Prelude.{◌≡◌, ℕ, zero, suc, ◌-◌, ◌&&◌, Bool, true, false, not, if◌then◌else◌, List, [], ◌∷◌, ◌++◌, Option, Some, None, Result, Ok, Err}
use Rattle.std.specs.Option.{option_map_or}
use Rattle.mon_base.specs.Answer.{Fails}
use Rattle.mon_base.specs.Reading.{◌>>=◌, need}
use Rattle.api_listing.specs.declared.events.Event.{Event}
use Rattle.api_listing.specs.declared.events.Event.TheVariants as events
use Rattle.bytecode_model.specs.declared.program.Method.{Method}
use Rattle.bytecode_model.specs.declared.program.Program.{Program}
use Rattle.cert_format.specs.declared.certificate.Mode.{Mode}
use Rattle.cert_format.specs.declared.certificate.Mode.TheVariants.{Hold, Release}
use Rattle.conspec_automaton.specs.declared.policy.Policy.{Policy}
use Rattle.conspec_automaton.specs.Next.{Values, has_clauses, initial, method_of, next}
use Rattle.event_record.specs.declared.writing.Line.{Line}
use Rattle.guest_model.specs.declared.machine.Machine.{Machine}
use Rattle.guest_model.specs.declared.machine.Step.{Step}
use Rattle.guest_model.specs.Runs.{start_of}
use Rattle.guest_model.specs.Stepping.{stepped}
use Rattle.guest_erasing.specs.Lifting.{goes_out, goes_up, most_steps, plain_step}
use Rattle.guest_erasing.specs.Places.{Sites}
use Rattle.lift_schedule.specs.declared.fault.LiftFault.{LiftFault}
use Rattle.lift_schedule.specs.declared.fault.LiftFault.TheVariants as faults
use Rattle.lift_schedule.specs.declared.client.ClientRun.{ClientRun}
use Rattle.lift_schedule.specs.declared.standing.Way.{Way}
use Rattle.lift_schedule.specs.declared.standing.Way.TheVariants as ways
use Rattle.lift_schedule.specs.declared.woven.WovenRun.{WovenRun}

-- ---- what is seen

abbrev pub is_call : Event → Bool
is_call (events.Call thread method arguments) = true
is_call (events.Return thread method value) = false
is_call (events.Except thread method) = false

abbrev pub of_clauses : Policy → Event → Bool
of_clauses policy event = has_clauses policy (method_of event)

-- whether a call of a method with clauses is under way after what is seen
abbrev pub under_way_after : Policy → Bool → Option Event → Bool
under_way_after policy under_way None = under_way
under_way_after policy under_way (Some event) = if of_clauses policy event then is_call event else under_way

abbrev pub is_held : Mode → Bool
is_held Release = false
is_held Hold = true

-- In mode hold such a call begins while another is under way.
abbrev pub overlaps : Policy → Mode → Bool → Option Event → Bool
overlaps policy mode under_way None = false
overlaps policy mode under_way (Some event) = is_held mode && (under_way && (of_clauses policy event && is_call event))

-- the policy's state after what is seen, which it may refuse
abbrev pub judged : Policy → ℕ → Values → Option Event → Result Values LiftFault
judged policy index state None = Ok state
judged policy index state (Some event) = option_map_or Ok (next policy state event) (Err (faults.Disobeys index))

-- ---- the client

abbrev pub client_start : Policy → Program → ClientRun
client_start policy client = record { machine = start_of client; state = initial policy; under_way = false }

-- the client's run after this step, which has this index: the policy accepts what is seen, and no call with clauses overlaps another
abbrev pub client_stepped : Policy → Mode → Program → ℕ → Step → ClientRun → Result ClientRun LiftFault
client_stepped policy mode client index step run = do
  made ← option_map_or Ok (stepped client run.machine step) (Err (faults.NotEnabled index))
  state ← judged policy index run.state made.1
  apart ← need (not (overlaps policy mode run.under_way made.1)) (faults.Overlaps index)
  Ok (record { machine = made.0; state = state; under_way = under_way_after policy run.under_way made.1 })

-- ---- the woven program

abbrev pub woven_start : Program → WovenRun
woven_start woven = record { machine = start_of woven; lines = [] }

-- the woven program's run after this step, which stands for the client's of this index
abbrev pub woven_stepped : Program → ℕ → Step → WovenRun → Result WovenRun LiftFault
woven_stepped woven index step run =
    option_map_or (λ (made : Machine × Option Event). Ok (record { machine = made.0; lines = run.lines ++ record { step = step; event = made.1 } ∷ [] }))
    (stepped woven run.machine step) (Err (faults.NotEnabled index))

-- after plain steps of the thread, while it goes on, and at most so many
abbrev pub climbed : Program → (Machine → ℕ → Bool) → ℕ → ℕ → ℕ → WovenRun → Result WovenRun LiftFault
climbed woven goes index number zero run = Ok run
climbed woven goes index number (suc n) run =
    if goes run.machine number then (woven_stepped woven index (plain_step number) run >>= λ next. climbed woven goes index number n next)
    else Ok run

-- Of so many steps at most one was made, and the others are left; or the thread goes no further; or why not.
abbrev pub HasGoneOn : (ℕ → WovenRun → Result WovenRun LiftFault) → ℕ → WovenRun → WovenRun → Result Bool LiftFault → Type 0
HasGoneOn gives left old new (Ok true) = gives left old ≡ gives (left - 1) new
HasGoneOn gives left old new (Ok false) = gives left old ≡ Ok new
HasGoneOn gives left old new (Err fault) = Fails faults.Memory fault (gives left old)

-- the lifted step: the thread goes up to its call, makes the step, and leaves its block; how it is told which way it has still to go, and
-- how far at most
module _ (woven : Program) (goes : Way → Machine → ℕ → Bool) (most : Machine → ℕ → ℕ) where
  abbrev pub gone : Way → ℕ → ℕ → WovenRun → Result WovenRun LiftFault
  gone way index number run = climbed woven (goes way) index number (most run.machine number) run

  abbrev pub lifted_by : ℕ → Step → WovenRun → Result WovenRun LiftFault
  lifted_by index step run = do
    there ← gone ways.Up index step.thread run
    made ← woven_stepped woven index step there
    gone ways.Out index step.thread made

module _ (sites_of : Method → Sites) (client woven : Program) where
  -- The thread has still to go this way.
  abbrev pub goes : Way → Machine → ℕ → Bool
  goes ways.Up machine number = goes_up sites_of client woven machine number
  goes ways.Out machine number = goes_out sites_of client woven machine number

  abbrev pub lifted_stepped : ℕ → Step → WovenRun → Result WovenRun LiftFault
  lifted_stepped index step run = lifted_by woven goes (most_steps sites_of client woven) index step run

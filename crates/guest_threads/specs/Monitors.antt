-- Monitors, by the place of the first of a value. (docs/MACHINE.md)
use Rattle.std.specs.Prelude.{ℕ, ◌+◌, ◌-◌, ◌*◌, ◌==◌, if◌then◌else◌, List, ◌++◌, map, take, drop, slice_set, Option, Some, None}
use Rattle.guest_heap.specs.declared.object.Monitor.{Monitor}
use Rattle.guest_heap.specs.declared.value.Value.{Value}
use Rattle.guest_heap.specs.declared.value.Value.TheVariants as values
use Rattle.guest_model.specs.Monitors.{held_once_more}

-- the monitor once the thread that holds it enters it again
abbrev pub entered_again : ℕ → Monitor → Option Monitor
entered_again thread m = if m.owner == thread then Some (held_once_more m) else None

-- the monitors once the one in this place is left by the thread that holds it
abbrev pub left_at : List Monitor → ℕ → Monitor → List Monitor
left_at monitors place m =
    if m.count == 1 then take place monitors ++ drop (place + 1) monitors
    else slice_set monitors place (record { on = m.on; owner = m.owner; count = m.count - 1 })

-- ---- keys

-- a number of its own for each reference
abbrev pub key_of : Value → Option ℕ
key_of (values.Int n) = None
key_of values.Null = Some 0
key_of (values.Ref at) = Some (at * 4 + 1)
key_of (values.Class index) = Some (index * 4 + 2)
key_of (values.Lit index) = Some (index * 4 + 3)

-- the keys of what is locked, in the order of the monitors
abbrev pub keys_of : List Monitor → List (Option ℕ)
keys_of monitors = map (λ (m : Monitor). key_of m.on) monitors

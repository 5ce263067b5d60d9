-- Monitors: each is held by one thread, which may enter it again. (The Java Virtual Machine Specification, section 2.11.10.)
use Rattle.std.specs.Prelude.{ℕ, ◌+◌, ◌-◌, ◌==◌, if◌then◌else◌, List, [], ◌∷◌, Option, Some, None, option_map}
use Rattle.std.specs.Option.{option_map_or}
use Rattle.guest_heap.specs.declared.object.Monitor.{Monitor}
use Rattle.guest_heap.specs.declared.value.Value.{Value}
use Rattle.guest_frames.specs.Values.{are_one}

abbrev pub held_once_more : Monitor → Monitor
held_once_more m = record { on = m.on; owner = m.owner; count = m.count + 1 }

abbrev pub held_once_less : Monitor → List Monitor → List Monitor
held_once_less m others = if m.count == 1 then others else record { on = m.on; owner = m.owner; count = m.count - 1 } ∷ others

-- the monitors once the thread has entered that of the value, or nothing where another thread holds it
abbrev pub entered : List Monitor → ℕ → Value → Option (List Monitor)
entered [] thread on = Some (record { on = on; owner = thread; count = 1 } ∷ [])
entered (m ∷ others) thread on =
    if are_one m.on on then (if m.owner == thread then Some (held_once_more m ∷ others) else None)
    else option_map (λ rest. m ∷ rest) (entered others thread on)

-- the monitors once the thread has left that of the value, or nothing where it does not hold it
abbrev pub left : List Monitor → ℕ → Value → Option (List Monitor)
left [] thread on = None
left (m ∷ others) thread on =
    if are_one m.on on then (if m.owner == thread then Some (held_once_less m others) else None)
    else option_map (λ rest. m ∷ rest) (left others thread on)

-- the same, where nothing is given up that is not held
abbrev pub given_up : List Monitor → ℕ → Value → List Monitor
given_up monitors thread on = option_map_or (λ (new : List Monitor). new) (left monitors thread on) monitors

abbrev pub all_given_up : List Monitor → ℕ → List Value → List Monitor
all_given_up monitors thread [] = monitors
all_given_up monitors thread (on ∷ others) = all_given_up (given_up monitors thread on) thread others

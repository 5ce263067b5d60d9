-- When what a step of the woven program changes mirrors what one of its client does. (docs/TRANSPARENCY.md)
use Rattle.std.specs.Prelude.{◌≡◌, ⊤, drop, filter, length, not, take, Option, Some, None}
use Rattle.bytecode_model.specs.declared.program.Method.{Method}
use Rattle.bytecode_model.specs.declared.program.Program.{Program}
use Rattle.guest_heap.specs.declared.object.Monitor.{Monitor}
use Rattle.guest_heap.specs.declared.thread.Thread.{Thread}
use Rattle.guest_model.specs.Changes.{Change, World}
use Rattle.guest_erasing.specs.Erasing.{is_clients}
use Rattle.guest_erasing.specs.Mirrors.{ThreadMirrors}
use Rattle.guest_erasing.specs.Places.{Sites}

-- What is shared is the same but for the fields and the monitor of conspec/State.
pub record WorldMirrors (client : Program) (world other : World) : Type 0 where
  pub heap : other.heap ≡ world.heap
  pub statics : take (length client.classes) other.statics ≡ world.statics
  pub classes : length world.statics ≡ length client.classes
  pub monitors : filter (is_clients client) other.monitors ≡ world.monitors

-- What conspec/State holds, and who has its monitor, stays.
pub record WorldKeepsState (client : Program) (before after : World) : Type 0 where
  pub fields : drop (length client.classes) after.statics ≡ drop (length client.classes) before.statics
  pub monitor : filter (λ (m : Monitor). not (is_clients client m)) after.monitors ≡ filter (λ (m : Monitor). not (is_clients client m)) before.monitors

abbrev pub BeginAlike : (Method → Sites) → Program → Program → Option Thread → Option Thread → Type 0
BeginAlike sites_of client woven None None = ⊤
BeginAlike sites_of client woven None (Some other) = ⊥
BeginAlike sites_of client woven (Some thread) None = ⊥
BeginAlike sites_of client woven (Some thread) (Some other) = ThreadMirrors sites_of client woven thread other

pub record ChangeMirrors (sites_of : Method → Sites) (client woven : Program) (before : World) (change other : Change) : Type 0 where
  pub world : WorldMirrors client change.world other.world
  pub keeps : WorldKeepsState client before other.world
  pub thread : ThreadMirrors sites_of client woven change.thread other.thread
  pub begins : BeginAlike sites_of client woven change.begins other.begins
  pub stops : other.stops ≡ change.stops
  pub event : other.event ≡ change.event

-- Where the client changes something the woven program does so too, and alike.
abbrev pub ChangesAlike : (Method → Sites) → Program → Program → World → Option Change → Option Change → Type 0
ChangesAlike sites_of client woven before made others =
    (change : Change) → made ≡ Some change → (other : Change) × ((others ≡ Some other) × ChangeMirrors sites_of client woven before change other)

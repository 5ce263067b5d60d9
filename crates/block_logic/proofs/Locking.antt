-- The lock is taken by the step of a thread that stands before it, where nobody holds it.
use Rattle.std.proofs.Common.{◌≡◌, ℕ, ◌+◌, ◌≤◌, false, List, ◌∷◌, length, drop, Option, Some, refl, ap, ◌∙◌, arith}
use Rattle.std.specs.Prelude.{nat_lt, option_map}
use Rattle.std.specs.Option.{option_map_or}
use Rattle.std.proofs.lemmas.Bool.{le-ltb}
use Rattle.std.proofs.lemmas.List.{length-drop}
use Rattle.api_listing.specs.declared.events.Event.{Event}
use Rattle.insn_codec.specs.declared.insn.Insn.TheVariants as insns
use Rattle.insn_codec.specs.declared.opcodes.TheConstants.{MONITORENTER}
use Rattle.bytecode_model.specs.declared.program.Program.{Program}
use Rattle.guest_heap.specs.declared.value.Value.{Value}
use Rattle.guest_frames.specs.Stepping.{moved_to}
use Rattle.guest_model.specs.declared.machine.Machine.{Machine}
use Rattle.guest_model.specs.Changes.{Change, applied, goes, with_monitors, world_of}
use Rattle.guest_model.specs.Enabled.{StepsAreEnabled}
use Rattle.guest_model.specs.Runs.{stepped_or_same}
use Rattle.guest_model.specs.Stepping.{Acting, changed, enters, frames_stepped, insn_stepped}
use Rattle.block_logic.specs.Fitting.{held_locks, locked_by}
use Rattle.block_logic.specs.Locking.{FreeLockIsTaken, IsAtLock, plain_step}
use Rattle.block_logic.specs.Meaning.{lock_of}
use Rattle.block_logic.proofs.Owner.Lock.{IsTaken, lock_taken}

module _ (program : Program) (machine : Machine) (number : ℕ) (h : IsAtLock program machine number) (lock : IsTaken program number machine.monitors) where
  abbrev acting : Acting
  acting = record { number = number; thread = h.thread; frame = h.frame; below = h.below }

  abbrev rest : List Value
  rest = drop 1 h.frame.stack.items

  -- what the step changes
  abbrev change : Change
  change =
      goes (with_monitors (world_of machine) lock.held) h.thread (moved_to h.frame (h.frame.at + 1) h.frame.locals rest ∷ h.below)

  within : nat_lt h.frame.stack.size (length rest) ≡ false
  within = le-ltb h.frame.stack.size (length rest) (let fits : length h.frame.stack.items ≤ h.frame.stack.size = h.fits in simp length-drop (omega arith))

  enters_is : enters program (world_of machine) acting (lock_of program) ≡ Some change
  enters_is = rw (lock.taken, within) refl

  insn_is : insn_stepped program machine acting (insns.Plain MONITORENTER, h.ref) ≡ Some change
  insn_is = rw h.lock enters_is

  frames_is : frames_stepped program machine number h.thread (h.frame ∷ h.below) ≡ Some change
  frames_is = rw h.next insn_is

  pub changed_is : changed program machine (plain_step number) ≡ Some change
  changed_is = rw (h.runs, h.there, h.running, h.top) frames_is

  pub lock_held : held_locks program (stepped_or_same program machine (plain_step number)).monitors ≡ locked_by program number
  lock_held =
      let made : stepped_or_same program machine (plain_step number) ≡ applied number machine change =
      ap (λ (o : Option Change). option_map_or (λ (made : Machine × Option Event). made.0) (option_map (λ (c : Change). (applied number machine c, c.event)) o) machine) changed_is in
      ap (λ (m : Machine). held_locks program m.monitors) made ∙ lock.locks

pub free_lock_is_taken : StepsAreEnabled → FreeLockIsTaken
free_lock_is_taken enabled program machine number h free =
    let lock = lock_taken program number machine.monitors free in (
      enabled program machine (plain_step number) (change program machine number h lock) (changed_is program machine number h lock),
      lock_held program machine number h lock,
    )

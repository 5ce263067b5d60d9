-- The lock among the monitors: it is taken where nobody holds it, left by its owner, and waited for by the others.
use Rattle.std.proofs.Common.{◌≡◌, ◌≢◌, ℕ, Bool, true, false, List, [], ◌∷◌, Some, None, refl, sym, ap, ◌∙◌, eq-eqb}
use Rattle.std.specs.Prelude.{◌==◌}
use Rattle.std.proofs.lemmas.Bool.{ne_eqb}
use Rattle.bytecode_model.specs.declared.program.Program.{Program}
use Rattle.guest_heap.specs.declared.object.Monitor.{Monitor}
use Rattle.guest_heap.specs.declared.value.Value.{Value}
use Rattle.guest_frames.specs.Values.{are_one}
use Rattle.guest_model.specs.Monitors.{entered, left}
use Rattle.block_logic.specs.Fitting.{held_locks, locked_by}
use Rattle.block_logic.specs.Meaning.{lock_of}

module _ (program : Program) where
  abbrev on : Value
  on = lock_of program

  lock_itself : are_one on on ≡ true
  lock_itself = eq-eqb _ _ refl

  -- ---- it is taken

  pub record IsTaken (number : ℕ) (monitors : List Monitor) : Type 0 where
    pub held : List Monitor
    pub taken : entered monitors number on ≡ Some held
    pub locks : held_locks program held ≡ locked_by program number

  pub lock_taken : (number : ℕ) (monitors : List Monitor) → held_locks program monitors ≡ [] → IsTaken number monitors
  lock_taken number [] free = record { held = record { on = on; owner = number; count = 1 } ∷ []; taken = refl; locks = rw lock_itself refl }
  lock_taken number (m ∷ others) free = by (are_one m.on on) refl (lock_taken number others) where
    by : (b : Bool) → are_one m.on on ≡ b → (held_locks program others ≡ [] → IsTaken number others) → IsTaken number (m ∷ others)
    by true is later = let some : m ∷ held_locks program others ≡ [] = rw is at free in absurd cc
    by false is later =
        let none : held_locks program others ≡ [] = rw is at free in
        let l = later none in
        record { held = m ∷ l.held; taken = rw (is, l.taken) refl; locks = rw (is, l.locks) refl }

  -- ---- it is held by a thread

  first_locked : (m : Monitor) (others : List Monitor) (number : ℕ) → are_one m.on on ≡ true → held_locks program (m ∷ others) ≡ locked_by program number
      → (m ≡ record { on = on; owner = number; count = 1 }) × (held_locks program others ≡ [])
  first_locked m others number is locked =
      let some : m ∷ held_locks program others ≡ record { on = on; owner = number; count = 1 } ∷ [] = rw is at locked in
      let first : m ≡ record { on = on; owner = number; count = 1 } = cc in
      let none : held_locks program others ≡ [] = cc in
      (first, none)

  -- Its owner leaves it.
  pub record IsLeft (number : ℕ) (monitors : List Monitor) : Type 0 where
    pub held : List Monitor
    pub given_up : left monitors number on ≡ Some held
    pub locks : held_locks program held ≡ []

  pub lock_left : (number : ℕ) (monitors : List Monitor) → held_locks program monitors ≡ locked_by program number → IsLeft number monitors
  lock_left number [] locked = absurd cc
  lock_left number (m ∷ others) locked = by (are_one m.on on) refl (lock_left number others) where
    by : (b : Bool) → are_one m.on on ≡ b → (held_locks program others ≡ locked_by program number → IsLeft number others) → IsLeft number (m ∷ others)
    by true is later =
        let f = first_locked m others number is locked in
        let owner : (m.owner == number) ≡ true = eq-eqb m.owner number (ap (λ (x : Monitor). x.owner) f.0) in
        let once : (m.count == 1) ≡ true = eq-eqb m.count 1 (ap (λ (x : Monitor). x.count) f.0) in
        record { held = others; given_up = rw (is, owner, once) refl; locks = f.1 }
    by false is later =
        let locked' : held_locks program others ≡ locked_by program number = rw is at locked in
        let l = later locked' in
        record { held = m ∷ l.held; given_up = rw (is, l.given_up) refl; locks = rw (is, l.locks) refl }

  -- Every other thread waits.
  pub lock_waits : (number owner : ℕ) (monitors : List Monitor) → held_locks program monitors ≡ locked_by program owner → number ≢ owner
      → entered monitors number on ≡ None
  lock_waits number owner [] locked other = absurd cc
  lock_waits number owner (m ∷ others) locked other = by (are_one m.on on) refl (λ l. lock_waits number owner others l other) where
    by : (b : Bool) → are_one m.on on ≡ b → (held_locks program others ≡ locked_by program owner → entered others number on ≡ None) → entered (m ∷ others) number on ≡ None
    by true is later =
        let f = first_locked m others owner is locked in
        let whose : m.owner ≡ owner = ap (λ (x : Monitor). x.owner) f.0 in
        let not_own : (m.owner == number) ≡ false = ne_eqb m.owner number (λ e. other (sym e ∙ whose)) in
        rw (is, not_own) refl
    by false is later =
        let locked' : held_locks program others ≡ locked_by program owner = rw is at locked in
        rw (is, later locked') refl

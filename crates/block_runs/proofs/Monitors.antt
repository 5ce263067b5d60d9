-- The lock is taken where it is free, and left where the thread holds it.
use Rattle.std.proofs.Common.{◌≡◌, ℕ, Bool, true, false, List, [], ◌∷◌, Some, refl, ap}
use Rattle.std.specs.Prelude.{◌==◌, if◌then◌else◌, option_map, Option}
use Rattle.std.proofs.lemmas.Bool.{eq-eqb, eqb-true}
use Rattle.guest_heap.specs.declared.object.Monitor.{Monitor}
use Rattle.guest_heap.specs.declared.value.Value.{Value}
use Rattle.guest_heap.specs.declared.value.Value.TheVariants as values
use Rattle.guest_frames.specs.Values.{are_one}
use Rattle.guest_model.specs.Monitors.{entered, left}
use Rattle.block_runs.specs.Steps.{held_by, is_lock, locks_in, others_in}

pub lock_is : (state : ℕ) (v : Value) → are_one v (values.Class state) ≡ true → v ≡ values.Class state
lock_is state (values.Class i) e = ap values.Class (eqb-true i state e)
lock_is state (values.Int n) e = absurd cc
lock_is state values.Null e = absurd cc
lock_is state (values.Ref i) e = absurd cc
lock_is state (values.Lit i) e = absurd cc

module _ (state number : ℕ) where
  abbrev lock : Value
  lock = values.Class state

  pub record IsChanged (held : Bool) (monitors : List Monitor) (made : Option (List Monitor)) : Type 0 where
    pub new : List Monitor
    pub is : made ≡ Some new
    pub lock_held : locks_in state new ≡ held_by state number held
    pub others : others_in state new ≡ others_in state monitors

  itself : (state == state) ≡ true
  itself = eq-eqb state state refl

  pub lock_taken : (monitors : List Monitor) → locks_in state monitors ≡ [] → IsChanged true monitors (entered monitors number lock)
  lock_taken [] free = record {
    new = record { on = lock; owner = number; count = 1 } ∷ [];
    is = refl;
    lock_held = rw itself refl;
    others = rw itself refl;
  }
  lock_taken (m ∷ monitors) free = by (is_lock state m) refl free (λ f. lock_taken monitors f)
    where
      by : (b : Bool) → is_lock state m ≡ b → (if b then m ∷ locks_in state monitors else locks_in state monitors) ≡ []
          → (locks_in state monitors ≡ [] → IsChanged true monitors (entered monitors number lock))
          → IsChanged true (m ∷ monitors) (entered (m ∷ monitors) number lock)
      by true so none later = absurd cc
      by false so none later =
          let c = later none in
          record {
            new = m ∷ c.new;
            is = rw so (ap (option_map (λ (rest : List Monitor). m ∷ rest)) c.is);
            lock_held = rw so c.lock_held;
            others = rw so (ap (λ (rest : List Monitor). m ∷ rest) c.others);
          }

  pub lock_left : (monitors : List Monitor) → locks_in state monitors ≡ held_by state number true
      → IsChanged false monitors (left monitors number lock)
  lock_left [] held = absurd cc
  lock_left (m ∷ monitors) held = by (is_lock state m) refl held (λ f. lock_left monitors f)
    where
      own : Monitor
      own = record { on = lock; owner = number; count = 1 }

      by : (b : Bool) → is_lock state m ≡ b → (if b then m ∷ locks_in state monitors else locks_in state monitors)
          ≡ held_by state number true
          → (locks_in state monitors ≡ held_by state number true → IsChanged false monitors (left monitors number lock))
          → IsChanged false (m ∷ monitors) (left (m ∷ monitors) number lock)
      by true so one later =
          let owner_is : m.owner ≡ number = cc in
          let count_is : m.count ≡ 1 = cc in
          let none : locks_in state monitors ≡ [] = cc in
          let owned : (m.owner == number) ≡ true = eq-eqb m.owner number owner_is in
          let once : (m.count == 1) ≡ true = eq-eqb m.count 1 count_is in
          record { new = monitors; is = rw (so, owned, once) refl; lock_held = none; others = rw so refl }
      by false so one later =
          let c = later one in
          record {
            new = m ∷ c.new;
            is = rw so (ap (option_map (λ (rest : List Monitor). m ∷ rest)) c.is);
            lock_held = rw so c.lock_held;
            others = rw so (ap (λ (rest : List Monitor). m ∷ rest) c.others);
          }

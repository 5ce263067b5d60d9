-- Monitors of values that are not the lock: what is entered, left and given up of them leaves the lock as it is held.
use Rattle.std.proofs.Common.{◌≡◌, ℕ, ◌-◌, Bool, true, false, cond, List, [], ◌∷◌, Option, Some, None, refl, sym, ap, subst, ◌∙◌}
use Rattle.std.specs.Prelude.{◌==◌, option_map}
use Rattle.std.specs.Option.{option_map_or}
use Rattle.std.proofs.lemmas.Bool.{eqb-true}
use Rattle.std.proofs.lemmas.Option.{cond_some}
use Rattle.bytecode_model.specs.declared.program.Program.{Program}
use Rattle.guest_heap.specs.declared.object.Monitor.{Monitor}
use Rattle.guest_heap.specs.declared.value.Value.{Value}
use Rattle.guest_heap.specs.declared.value.Value.TheVariants as values
use Rattle.guest_frames.specs.Values.{are_one}
use Rattle.guest_model.specs.Monitors.{all_given_up, entered, given_up, held_once_less, held_once_more, left}
use Rattle.guest_model.proofs.Options.{map_of, some_is}
use Rattle.block_logic.specs.Fitting.{held_locks}
use Rattle.block_logic.specs.Meaning.{AreClean, IsClean, lock_of}

-- references of one object are the same
pub one_is : (v w : Value) → are_one v w ≡ true → v ≡ w
one_is (values.Int n) w e = absurd cc
one_is values.Null (values.Int n) e = absurd cc
one_is values.Null values.Null e = refl
one_is values.Null (values.Ref at) e = absurd cc
one_is values.Null (values.Class index) e = absurd cc
one_is values.Null (values.Lit index) e = absurd cc
one_is (values.Ref at) (values.Int n) e = absurd cc
one_is (values.Ref at) values.Null e = absurd cc
one_is (values.Ref at) (values.Ref other) e = ap values.Ref (eqb-true at other e)
one_is (values.Ref at) (values.Class index) e = absurd cc
one_is (values.Ref at) (values.Lit index) e = absurd cc
one_is (values.Class index) (values.Int n) e = absurd cc
one_is (values.Class index) values.Null e = absurd cc
one_is (values.Class index) (values.Ref at) e = absurd cc
one_is (values.Class index) (values.Class other) e = ap values.Class (eqb-true index other e)
one_is (values.Class index) (values.Lit other) e = absurd cc
one_is (values.Lit index) (values.Int n) e = absurd cc
one_is (values.Lit index) values.Null e = absurd cc
one_is (values.Lit index) (values.Ref at) e = absurd cc
one_is (values.Lit index) (values.Class other) e = absurd cc
one_is (values.Lit index) (values.Lit other) e = ap values.Lit (eqb-true index other e)

module _ (program : Program) where
  -- a monitor that is not the lock's
  no_lock : (m : Monitor) (others : List Monitor) → IsClean program m.on → held_locks program (m ∷ others) ≡ held_locks program others
  no_lock m others clean = rw clean refl

  -- the same monitor in front
  following : (m : Monitor) (rest others : List Monitor) → held_locks program rest ≡ held_locks program others
      → held_locks program (m ∷ rest) ≡ held_locks program (m ∷ others)
  following m rest others same = ap (λ (ms : List Monitor). cond (are_one m.on (lock_of program)) (m ∷ ms) ms) same

  module _ (thread : ℕ) (on : Value) (clean : IsClean program on) where
    its : (m : Monitor) → are_one m.on on ≡ true → IsClean program m.on
    its m one = subst (IsClean program) (sym (one_is m.on on one)) clean

    more_stays : (m : Monitor) (others held : List Monitor) → are_one m.on on ≡ true
        → cond (m.owner == thread) (Some (held_once_more m ∷ others)) None ≡ Some held → held_locks program held ≡ held_locks program (m ∷ others)
    more_stays m others held one e =
        let c = cond_some (m.owner == thread) (held_once_more m ∷ others) held e in
        ap (held_locks program) (sym c.1) ∙ no_lock (held_once_more m) others (its m one) ∙ sym (no_lock m others (its m one))

    -- one that is entered
    pub entered_stays : (monitors held : List Monitor) → entered monitors thread on ≡ Some held → held_locks program held ≡ held_locks program monitors
    entered_stays [] held e =
        let new : Monitor = record { on = on; owner = thread; count = 1 } in
        ap (held_locks program) (sym (some_is (new ∷ []) held e)) ∙ no_lock new [] clean
    entered_stays (m ∷ others) held e = by (are_one m.on on) refl e (entered_stays others) where
      by : (b : Bool) → are_one m.on on ≡ b
          → cond b (cond (m.owner == thread) (Some (held_once_more m ∷ others)) None) (option_map (λ (rest : List Monitor). m ∷ rest) (entered others thread on)) ≡ Some held
          → ((rest : List Monitor) → entered others thread on ≡ Some rest → held_locks program rest ≡ held_locks program others)
          → held_locks program held ≡ held_locks program (m ∷ others)
      by true one e later = more_stays m others held one e
      by false one e later =
          let l = map_of (λ (rest : List Monitor). m ∷ rest) (entered others thread on) held e in
          ap (held_locks program) (sym l.2) ∙ following m l.0 others (later l.0 l.1)

    less_stays : (m : Monitor) (others : List Monitor) → IsClean program m.on → held_locks program (held_once_less m others) ≡ held_locks program others
    less_stays m others own = by (m.count == 1) where
      by : (b : Bool) → held_locks program (cond b others (record { on = m.on; owner = m.owner; count = m.count - 1 } ∷ others)) ≡ held_locks program others
      by true = refl
      by false = no_lock (record { on = m.on; owner = m.owner; count = m.count - 1 }) others own

    left_front : (m : Monitor) (others held : List Monitor) → are_one m.on on ≡ true
        → cond (m.owner == thread) (Some (held_once_less m others)) None ≡ Some held → held_locks program held ≡ held_locks program (m ∷ others)
    left_front m others held one e =
        let c = cond_some (m.owner == thread) (held_once_less m others) held e in
        ap (held_locks program) (sym c.1) ∙ less_stays m others (its m one) ∙ sym (no_lock m others (its m one))

    -- one that is left
    pub left_stays : (monitors held : List Monitor) → left monitors thread on ≡ Some held → held_locks program held ≡ held_locks program monitors
    left_stays [] held e = absurd cc
    left_stays (m ∷ others) held e = by (are_one m.on on) refl e (left_stays others) where
      by : (b : Bool) → are_one m.on on ≡ b
          → cond b (cond (m.owner == thread) (Some (held_once_less m others)) None) (option_map (λ (rest : List Monitor). m ∷ rest) (left others thread on)) ≡ Some held
          → ((rest : List Monitor) → left others thread on ≡ Some rest → held_locks program rest ≡ held_locks program others)
          → held_locks program held ≡ held_locks program (m ∷ others)
      by true one e later = left_front m others held one e
      by false one e later =
          let l = map_of (λ (rest : List Monitor). m ∷ rest) (left others thread on) held e in
          ap (held_locks program) (sym l.2) ∙ following m l.0 others (later l.0 l.1)

    pub given_up_stays : (monitors : List Monitor) → held_locks program (given_up monitors thread on) ≡ held_locks program monitors
    given_up_stays monitors = by (left monitors thread on) refl where
      by : (o : Option (List Monitor)) → left monitors thread on ≡ o
          → held_locks program (option_map_or (λ (new : List Monitor). new) o monitors) ≡ held_locks program monitors
      by None e = refl
      by (Some held) e = left_stays monitors held e

  -- those of all of these values that are held are given up
  pub all_given_up_stay : (on : List Value) (monitors : List Monitor) (thread : ℕ) → AreClean program on
      → held_locks program (all_given_up monitors thread on) ≡ held_locks program monitors
  all_given_up_stay [] monitors thread clean = refl
  all_given_up_stay (v ∷ others) monitors thread clean =
      all_given_up_stay others (given_up monitors thread v) thread clean.1 ∙ given_up_stays thread v clean.0 monitors

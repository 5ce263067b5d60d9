-- Monitors of which some are left out: those of the others are entered, left and given up as before.
use Rattle.std.proofs.Common.{◌≡◌, ℕ, ◌-◌, Bool, true, false, cond, List, [], ◌∷◌, Option, Some, None, refl, sym, ap, ◌∙◌}
use Rattle.std.specs.Prelude.{◌==◌, option_map, filter}
use Rattle.std.specs.List.{AllByRecursion}
use Rattle.std.specs.Option.{option_map_or}
use Rattle.std.proofs.lemmas.Bool.{eqb-true, false≢true}
use Rattle.std.proofs.lemmas.Option.{cond_some}
use Rattle.guest_heap.specs.declared.object.Monitor.{Monitor}
use Rattle.guest_heap.specs.declared.value.Value.{Value}
use Rattle.guest_heap.specs.declared.value.Value.TheVariants as values
use Rattle.guest_frames.specs.Values.{are_one}
use Rattle.guest_model.specs.Monitors.{all_given_up, entered, given_up, held_once_less, held_once_more, left}
use Rattle.guest_model.proofs.Options.{map_of, some_is}

-- references of one object are the same
pub one_is : (v w : Value) → are_one v w ≡ true → v ≡ w
one_is (values.Int n) w e = absurd cc
one_is values.Null (values.Int n) e = absurd cc
one_is values.Null values.Null e = refl
one_is values.Null (values.Ref at) e = absurd cc
one_is values.Null (values.Class index) e = absurd cc
one_is values.Null (values.Lit index) e = absurd cc
one_is (values.Ref at) (values.Int n) e = absurd cc
one_is (values.Ref at) values.Null e = absurd cc
one_is (values.Ref at) (values.Ref other) e = ap values.Ref (eqb-true at other e)
one_is (values.Ref at) (values.Class index) e = absurd cc
one_is (values.Ref at) (values.Lit index) e = absurd cc
one_is (values.Class index) (values.Int n) e = absurd cc
one_is (values.Class index) values.Null e = absurd cc
one_is (values.Class index) (values.Ref at) e = absurd cc
one_is (values.Class index) (values.Class other) e = ap values.Class (eqb-true index other e)
one_is (values.Class index) (values.Lit other) e = absurd cc
one_is (values.Lit index) (values.Int n) e = absurd cc
one_is (values.Lit index) values.Null e = absurd cc
one_is (values.Lit index) (values.Ref at) e = absurd cc
one_is (values.Lit index) (values.Class other) e = absurd cc
one_is (values.Lit index) (values.Lit other) e = ap values.Lit (eqb-true index other e)

-- The monitors whose value passes the test.
module _ (test : Value → Bool) where
  abbrev pub sifted : List Monitor → List Monitor
  sifted ms = filter (λ (m : Monitor). test m.on) ms

  sifted_in : (m : Monitor) (ms : List Monitor) → test m.on ≡ true → sifted (m ∷ ms) ≡ m ∷ sifted ms
  sifted_in m ms t = rw t refl

  sifted_out : (m : Monitor) (ms : List Monitor) → test m.on ≡ false → sifted (m ∷ ms) ≡ sifted ms
  sifted_out m ms t = rw t refl

  sifted_after : (m : Monitor) (ms ns : List Monitor) → sifted ms ≡ sifted ns → sifted (m ∷ ms) ≡ sifted (m ∷ ns)
  sifted_after m ms ns e = ap (λ (zs : List Monitor). cond (test m.on) (m ∷ zs) zs) e

  mapped_in : (m : Monitor) (o : Option (List Monitor)) → test m.on ≡ true
      → option_map (λ (rest : List Monitor). m ∷ rest) (option_map sifted o) ≡ option_map sifted
      (option_map (λ (rest : List Monitor). m ∷ rest) o)
  mapped_in m None t = refl
  mapped_in m (Some rest) t = ap Some (sym (sifted_in m rest t))

  mapped_out : (m : Monitor) (o : Option (List Monitor)) → test m.on ≡ false
      → option_map sifted o ≡ option_map sifted (option_map (λ (rest : List Monitor). m ∷ rest) o)
  mapped_out m None t = refl
  mapped_out m (Some rest) t = ap Some (sym (sifted_out m rest t))

  module _ (thread : ℕ) (on : Value) where
    its : (b : Bool) (m : Monitor) → are_one m.on on ≡ true → test on ≡ b → test m.on ≡ b
    its b m one t = ap test (one_is m.on on one) ∙ t

    -- ---- of a value that passes

    more_sifted : (c : Bool) (m : Monitor) (others : List Monitor) → test m.on ≡ true
        → cond c (Some (held_once_more m ∷ sifted others)) None ≡ option_map sifted (cond c (Some (held_once_more m ∷ others)) None)
    more_sifted true m others t = ap Some (sym (sifted_in (held_once_more m) others t))
    more_sifted false m others t = refl

    pub entered_sifted : test on ≡ true → (ms : List Monitor) → entered (sifted ms) thread on ≡ option_map sifted (entered ms thread on)
    entered_sifted passes [] = ap Some (sym (sifted_in (record { on = on; owner = thread; count = 1 }) [] passes))
    entered_sifted passes (m ∷ others) = by (are_one m.on on) (test m.on) refl refl (entered_sifted passes others) where
      by : (b c : Bool) → are_one m.on on ≡ b → test m.on ≡ c
          → entered (sifted others) thread on ≡ option_map sifted (entered others thread on)
          → entered (cond c (m ∷ sifted others) (sifted others)) thread on
          ≡ option_map sifted (cond b (cond (m.owner == thread) (Some (held_once_more m ∷ others)) None)
          (option_map (λ (rest : List Monitor). m ∷ rest) (entered others thread on)))
      by true true one t later = rw one (more_sifted (m.owner == thread) m others t)
      by true false one t later = absurd (false≢true (sym t ∙ its true m one passes))
      by false true one t later = rw (one, later) (mapped_in m (entered others thread on) t)
      by false false one t later = later ∙ mapped_out m (entered others thread on) t

    less_sifted : (b : Bool) (m : Monitor) (others : List Monitor) → test m.on ≡ true
        → cond b (sifted others) (record { on = m.on; owner = m.owner; count = m.count - 1 } ∷ sifted others)
        ≡ sifted (cond b others (record { on = m.on; owner = m.owner; count = m.count - 1 } ∷ others))
    less_sifted true m others t = refl
    less_sifted false m others t = sym (sifted_in (record { on = m.on; owner = m.owner; count = m.count - 1 }) others t)

    less_front : (c : Bool) (m : Monitor) (others : List Monitor) → test m.on ≡ true
        → cond c (Some (held_once_less m (sifted others))) None ≡ option_map sifted (cond c (Some (held_once_less m others)) None)
    less_front true m others t = ap Some (less_sifted (m.count == 1) m others t)
    less_front false m others t = refl

    pub left_sifted : test on ≡ true → (ms : List Monitor) → left (sifted ms) thread on ≡ option_map sifted (left ms thread on)
    left_sifted passes [] = refl
    left_sifted passes (m ∷ others) = by (are_one m.on on) (test m.on) refl refl (left_sifted passes others) where
      by : (b c : Bool) → are_one m.on on ≡ b → test m.on ≡ c → left (sifted others) thread on ≡ option_map sifted (left others thread on)
          → left (cond c (m ∷ sifted others) (sifted others)) thread on
          ≡ option_map sifted (cond b (cond (m.owner == thread) (Some (held_once_less m others)) None)
          (option_map (λ (rest : List Monitor). m ∷ rest) (left others thread on)))
      by true true one t later = rw one (less_front (m.owner == thread) m others t)
      by true false one t later = absurd (false≢true (sym t ∙ its true m one passes))
      by false true one t later = rw (one, later) (mapped_in m (left others thread on) t)
      by false false one t later = later ∙ mapped_out m (left others thread on) t

    given_by : (o : Option (List Monitor)) (ms : List Monitor)
        → option_map_or (λ (new : List Monitor). new) (option_map sifted o) (sifted ms) ≡ sifted
        (option_map_or (λ (new : List Monitor). new) o ms)
    given_by None ms = refl
    given_by (Some new) ms = refl

    pub given_up_sifted : test on ≡ true → (ms : List Monitor) → given_up (sifted ms) thread on ≡ sifted (given_up ms thread on)
    given_up_sifted passes ms =
        ap (λ (o : Option (List Monitor)). option_map_or (λ (new : List Monitor). new) o (sifted ms)) (left_sifted passes ms)
        ∙ given_by (left ms thread on) ms

    -- ---- of a value that does not

    more_unseen : (m : Monitor) (others held : List Monitor) → test m.on ≡ false
        → cond (m.owner == thread) (Some (held_once_more m ∷ others)) None ≡ Some held → sifted held ≡ sifted (m ∷ others)
    more_unseen m others held t e =
        let c = cond_some (m.owner == thread) (held_once_more m ∷ others) held e in
        ap sifted (sym c.1) ∙ sifted_out (held_once_more m) others t ∙ sym (sifted_out m others t)

    pub entered_unseen : test on ≡ false → (ms held : List Monitor) → entered ms thread on ≡ Some held → sifted held ≡ sifted ms
    entered_unseen fails [] held e =
        let new : Monitor = record { on = on; owner = thread; count = 1 } in
        ap sifted (sym (some_is (new ∷ []) held e)) ∙ sifted_out new [] fails
    entered_unseen fails (m ∷ others) held e = by (are_one m.on on) refl e (entered_unseen fails others) where
      by : (b : Bool) → are_one m.on on ≡ b
          → cond b (cond (m.owner == thread) (Some (held_once_more m ∷ others)) None)
          (option_map (λ (rest : List Monitor). m ∷ rest) (entered others thread on)) ≡ Some held
          → ((rest : List Monitor) → entered others thread on ≡ Some rest → sifted rest ≡ sifted others)
          → sifted held ≡ sifted (m ∷ others)
      by true one e later = more_unseen m others held (its false m one fails) e
      by false one e later =
          let l = map_of (λ (rest : List Monitor). m ∷ rest) (entered others thread on) held e in
          ap sifted (sym l.2) ∙ sifted_after m l.0 others (later l.0 l.1)

    less_unseen : (m : Monitor) (others : List Monitor) → test m.on ≡ false → sifted (held_once_less m others) ≡ sifted others
    less_unseen m others t = by (m.count == 1) where
      by : (b : Bool) → sifted (cond b others (record { on = m.on; owner = m.owner; count = m.count - 1 } ∷ others)) ≡ sifted others
      by true = refl
      by false = sifted_out (record { on = m.on; owner = m.owner; count = m.count - 1 }) others t

    left_front : (m : Monitor) (others held : List Monitor) → test m.on ≡ false
        → cond (m.owner == thread) (Some (held_once_less m others)) None ≡ Some held → sifted held ≡ sifted (m ∷ others)
    left_front m others held t e =
        let c = cond_some (m.owner == thread) (held_once_less m others) held e in
        ap sifted (sym c.1) ∙ less_unseen m others t ∙ sym (sifted_out m others t)

    pub left_unseen : test on ≡ false → (ms held : List Monitor) → left ms thread on ≡ Some held → sifted held ≡ sifted ms
    left_unseen fails [] held e = absurd cc
    left_unseen fails (m ∷ others) held e = by (are_one m.on on) refl e (left_unseen fails others) where
      by : (b : Bool) → are_one m.on on ≡ b
          → cond b (cond (m.owner == thread) (Some (held_once_less m others)) None)
          (option_map (λ (rest : List Monitor). m ∷ rest) (left others thread on)) ≡ Some held
          → ((rest : List Monitor) → left others thread on ≡ Some rest → sifted rest ≡ sifted others)
          → sifted held ≡ sifted (m ∷ others)
      by true one e later = left_front m others held (its false m one fails) e
      by false one e later =
          let l = map_of (λ (rest : List Monitor). m ∷ rest) (left others thread on) held e in
          ap sifted (sym l.2) ∙ sifted_after m l.0 others (later l.0 l.1)

    pub given_up_unseen : test on ≡ false → (ms : List Monitor) → sifted (given_up ms thread on) ≡ sifted ms
    given_up_unseen fails ms = by (left ms thread on) refl where
      by : (o : Option (List Monitor)) → left ms thread on ≡ o → sifted (option_map_or (λ (new : List Monitor). new) o ms) ≡ sifted ms
      by None e = refl
      by (Some held) e = left_unseen fails ms held e

  -- ---- of several

  pub all_sifted : (ons : List Value) (ms : List Monitor) (thread : ℕ) → AllByRecursion (λ (v : Value). test v ≡ true) ons
      → all_given_up (sifted ms) thread ons ≡ sifted (all_given_up ms thread ons)
  all_sifted [] ms thread all = refl
  all_sifted (on ∷ ons) ms thread all =
      ap (λ (new : List Monitor). all_given_up new thread ons) (given_up_sifted thread on all.0 ms)
      ∙ all_sifted ons (given_up ms thread on) thread all.1

  pub all_unseen : (ons : List Value) (ms : List Monitor) (thread : ℕ) → AllByRecursion (λ (v : Value). test v ≡ false) ons
      → sifted (all_given_up ms thread ons) ≡ sifted ms
  all_unseen [] ms thread all = refl
  all_unseen (on ∷ ons) ms thread all = all_unseen ons (given_up ms thread on) thread all.1 ∙ given_up_unseen thread on all.0 ms

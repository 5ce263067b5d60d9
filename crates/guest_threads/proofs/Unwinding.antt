-- Frames that are left until one catches what is thrown.
use Rattle.std.proofs.Common.{◌≡◌, ℕ, Bool, true, false, cond, List, [], ◌∷◌, ◌++◌, drop, Option, Some, None, refl, sym, ap, ◌∙◌}
use Rattle.std.specs.Prelude.{filter, find, slice_get, slice_set}
use Rattle.std.specs.Option.{option_map_or, option_to_list}
use Rattle.std.proofs.lemmas.Bool.{and_left}
use Rattle.bytecode_model.specs.declared.program.Handler.{Handler}
use Rattle.bytecode_model.specs.declared.program.Program.{Program}
use Rattle.bytecode_model.specs.Rules.{covers}
use Rattle.guest_heap.specs.declared.frame.Frame.{Frame}
use Rattle.guest_heap.specs.declared.object.Monitor.{Monitor}
use Rattle.guest_heap.specs.declared.value.Value.{Value}
use Rattle.guest_model.specs.Monitors.{all_given_up, given_up}
use Rattle.guest_model.specs.Throwing.{catches, caught_in, locks_left, takes, unwound}
use Rattle.guest_frames.specs.Became.{Became}
use Rattle.guest_threads.specs.Acts.{lock_on_top}
use Rattle.guest_threads.proofs.Held.{set_same}

-- ---- handlers

-- what is found is found among those that pass another test, too
pub found_among : {X : Type 0} (p q : X → Bool) → ((x : X) → q x ≡ false → p x ≡ false) → (xs : List X) → find p xs ≡ find p (filter q xs)
found_among p q fails [] = refl
found_among p q fails (x ∷ xs) = by (q x) refl (found_among p q fails xs) where
  by : (b : Bool) → q x ≡ b → find p xs ≡ find p (filter q xs) → find p (x ∷ xs) ≡ find p (cond b (x ∷ filter q xs) (filter q xs))
  by true is rest = ap (cond (p x) (Some x)) rest
  by false is rest = ap (λ (b : Bool). cond b (Some x) (find p xs)) (fails x is) ∙ rest

pub catching_covers : (program : Program) (at : ℕ) (class : List ℕ) (h : Handler) → covers at h ≡ false → catches program at class h ≡ false
catching_covers program at class h e = and_left (covers at h) (takes program class h) e

pub same_handler : (program : Program) (at : ℕ) (class : List ℕ) (near all : List Handler) → filter (covers at) near ≡ filter (covers at) all
    → find (catches program at class) near ≡ find (catches program at class) all
same_handler program at class near all same =
    found_among (catches program at class) (covers at) (catching_covers program at class) near ∙ ap (find (catches program at class)) same
    ∙ sym (found_among (catches program at class) (covers at) (catching_covers program at class) all)

-- ---- what a call did

pub it_did : {A : Type 0} (b : Bool) (old new : A) (made : Option A) → b ≡ true → Became b old new made → made ≡ Some new
it_did true old new made e h = h
it_did false old new made e h = absurd cc

pub it_did_not : {A : Type 0} (b : Bool) (old new : A) (made : Option A) → b ≡ false → Became b old new made → (made ≡ None) × (new ≡ old)
it_did_not true old new made e h = absurd cc
it_did_not false old new made e h = h

-- ---- frames

pub given_more : (monitors : List Monitor) (number : ℕ) (xs ys : List Value)
    → all_given_up (all_given_up monitors number xs) number ys ≡ all_given_up monitors number (xs ++ ys)
given_more monitors number [] ys = refl
given_more monitors number (x ∷ xs) ys = given_more (given_up monitors number x) number xs ys

module _ (program : Program) (thrown : Value) (class : List ℕ) where
  pub caught_now : (frames : List Frame) (f new : Frame) → slice_get frames 0 ≡ Some f → caught_in program thrown class f ≡ Some new
      → (unwound program thrown class frames ≡ slice_set frames 0 new) × (locks_left program thrown class frames ≡ [])
  caught_now [] f new there caught = absurd cc
  caught_now (g ∷ below) f new there caught =
      let same : g ≡ f = cc in
      let it : caught_in program thrown class g ≡ Some new = ap (caught_in program thrown class) same ∙ caught in (
        ap (λ (o : Option Frame). option_map_or (λ (f : Frame). f ∷ below) o (unwound program thrown class below)) it,
        ap (λ (o : Option Frame). option_map_or (λ (f : Frame). []) o (option_to_list g.lock ++ locks_left program thrown class below)) it,
      )

  pub left_now : (frames : List Frame) (f : Frame) (monitors : List Monitor) (number : ℕ) → slice_get frames 0 ≡ Some f → caught_in program thrown class f ≡ None
      → (unwound program thrown class (drop 1 frames) ≡ unwound program thrown class frames)
      × (all_given_up (all_given_up monitors number (lock_on_top frames)) number (locks_left program thrown class (drop 1 frames))
      ≡ all_given_up monitors number (locks_left program thrown class frames))
  left_now [] f monitors number there caught = absurd cc
  left_now (g ∷ below) f monitors number there caught =
      let same : g ≡ f = cc in
      let it : caught_in program thrown class g ≡ None = ap (caught_in program thrown class) same ∙ caught in (
        sym (ap (λ (o : Option Frame). option_map_or (λ (f : Frame). f ∷ below) o (unwound program thrown class below)) it),
        given_more monitors number (option_to_list g.lock) (locks_left program thrown class below)
            ∙ ap (all_given_up monitors number) (sym (ap (λ (o : Option Frame). option_map_or (λ (f : Frame). []) o (option_to_list g.lock ++ locks_left program thrown class below)) it)),
      )

  pub goes_on : (frames left : List Frame) (f new : Frame) (monitors made : List Monitor) (number : ℕ) → slice_get frames 0 ≡ Some f
      → caught_in program thrown class f ≡ None → new ≡ f → left ≡ drop 1 (slice_set frames 0 new)
      → made ≡ all_given_up monitors number (lock_on_top (slice_set frames 0 new))
      → (unwound program thrown class left ≡ unwound program thrown class frames)
      × (all_given_up made number (locks_left program thrown class left) ≡ all_given_up monitors number (locks_left program thrown class frames))
  goes_on frames left f new monitors made number there caught same left_is made_is =
      let back : slice_set frames 0 new ≡ frames = ap (slice_set frames 0) same ∙ set_same frames 0 f there in
      let l = left_now frames f monitors number there caught in
      let rest : left ≡ drop 1 frames = left_is ∙ ap (drop 1) back in (
        ap (unwound program thrown class) rest ∙ l.0,
        ap (λ (m : List Monitor). all_given_up m number (locks_left program thrown class left)) (made_is ∙ ap (λ (fs : List Frame). all_given_up monitors number (lock_on_top fs)) back)
            ∙ ap (λ (fs : List Frame). all_given_up (all_given_up monitors number (lock_on_top frames)) number (locks_left program thrown class fs)) rest ∙ l.1,
      )

  pub at_end : (frames : List Frame) → slice_get frames 0 ≡ None → (frames ≡ unwound program thrown class frames) × (locks_left program thrown class frames ≡ [])
  at_end [] e = (refl, refl)
  at_end (f ∷ below) e = absurd cc

-- What a step leaves as it was: the other threads, and what holds of each.
use Rattle.std.proofs.Common.{◌≡◌, ◌≢◌, ℕ, zero, suc, List, [], ◌∷◌, ◌++◌, length, Option, refl, ap, subst, arith}
use Rattle.std.specs.Prelude.{◌<◌, slice_get, slice_set}
use Rattle.std.specs.List.{AllByRecursion}
use Rattle.std.specs.Option.{option_to_list}
use Rattle.api_listing.specs.declared.events.Event.{Event}
use Rattle.guest_heap.specs.declared.thread.Thread.{Thread}
use Rattle.guest_model.specs.declared.machine.Machine.{Machine}
use Rattle.guest_model.specs.Changes.{Change, applied}
use Rattle.guest_model.specs.Staying.{OtherThreadsStay}
use Rattle.guest_model.specs.Stepping.{changed}
use Rattle.guest_model.proofs.Options.{all_append, all_set, map_of}

get_before : {A : Type 0} (xs ys : List A) (j : ℕ) → j < length xs → slice_get (xs ++ ys) j ≡ slice_get xs j
get_before [] ys j within = let no : ⊥ = omega arith in absurd no
get_before (x ∷ xs) ys zero within = refl
get_before (x ∷ xs) ys (suc j) within = get_before xs ys j (omega arith)

get_other : {A : Type 0} (xs ys : List A) (i j : ℕ) (x : A) → j ≢ i → j < length xs → slice_get (slice_set xs i x ++ ys) j ≡ slice_get xs j
get_other [] ys i j x differ within = let no : ⊥ = omega arith in absurd no
get_other (y ∷ xs) ys zero zero x differ within = absurd (differ refl)
get_other (y ∷ xs) ys zero (suc j) x differ within = get_before xs ys j (omega arith)
get_other (y ∷ xs) ys (suc i) zero x differ within = refl
get_other (y ∷ xs) ys (suc i) (suc j) x differ within = get_other xs ys i j x (λ same. differ (ap (λ (n : ℕ). suc n) same)) (omega arith)

pub other_stays : (number : ℕ) (machine : Machine) (change : Change) (other : ℕ) → other ≢ number → other < length machine.threads
    → slice_get (applied number machine change).threads other ≡ slice_get machine.threads other
other_stays number machine change other differ within =
    get_other machine.threads (option_to_list change.begins) number other change.thread differ within

pub other_threads_stay : OtherThreadsStay
other_threads_stay program machine step made other e differ within =
    let m = map_of (λ (change : Change). (applied step.thread machine change, change.event)) (changed program machine step) made e in
    subst (λ (n : Machine × Option Event). slice_get n.0.threads other ≡ slice_get machine.threads other) m.2
    (other_stays step.thread machine m.0 other differ within)

-- what holds of each thread, of the changed one too, and of one that begins
pub threads_keep : (P : Thread → Type 0) (number : ℕ) (machine : Machine) (change : Change) → AllByRecursion P machine.threads
    → P change.thread → AllByRecursion P (option_to_list change.begins) → AllByRecursion P (applied number machine change).threads
threads_keep P number machine change all own begins =
    all_append P _ (option_to_list change.begins) (all_set P machine.threads number change.thread all own) begins

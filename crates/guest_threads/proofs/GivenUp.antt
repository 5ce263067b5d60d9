-- The locks of frames that are all left.
use Rattle.std.proofs.Common.{◌≡◌, ℕ, List, [], ◌∷◌, drop, None, refl, ap, ◌∙◌}
use Rattle.std.specs.Prelude.{slice_get}
use Rattle.std.specs.Option.{option_to_list}
use Rattle.guest_heap.specs.declared.frame.Frame.{Frame}
use Rattle.guest_heap.specs.declared.object.Monitor.{Monitor}
use Rattle.guest_model.specs.Changes.{locks_of}
use Rattle.guest_model.specs.Monitors.{all_given_up}
use Rattle.guest_threads.specs.Acts.{lock_on_top}
use Rattle.guest_threads.proofs.Unwinding.{given_more}

top_left : (m : List Monitor) (n : ℕ) (frames : List Frame)
    → all_given_up (all_given_up m n (lock_on_top frames)) n (locks_of (drop 1 frames)) ≡ all_given_up m n (locks_of frames)
top_left m n [] = refl
top_left m n (frame ∷ below) = given_more m n (option_to_list frame.lock) (locks_of below)

-- one frame is left, and then the others
pub then_others : (m left : List Monitor) (n : ℕ) (frames below : List Frame) (given : List Monitor) → below ≡ drop 1 frames → left ≡ all_given_up m n (lock_on_top frames)
    → all_given_up m n (locks_of frames) ≡ given → all_given_up left n (locks_of below) ≡ given
then_others m left n frames below given is gave e =
    ap (λ (fs : List Frame). all_given_up left n (locks_of fs)) is ∙ ap (λ (ms : List Monitor). all_given_up ms n (locks_of (drop 1 frames))) gave ∙ top_left m n frames ∙ e

-- no frame is left
pub no_other : (m : List Monitor) (n : ℕ) (frames : List Frame) (given : List Monitor) → slice_get frames 0 ≡ None → all_given_up m n (locks_of frames) ≡ given → m ≡ given
no_other m n [] given none e = e
no_other m n (frame ∷ below) given none e = absurd cc

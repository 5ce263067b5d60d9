-- The threads after a step: that of the step, those that were there before, and one that begins.
use Rattle.std.proofs.Common.{◌≡◌, ◌≢◌, ◌⊎◌, ℕ, zero, suc, ◌<◌, ◌≤◌, List, [], ◌∷◌, ◌++◌, length, Option, Some, None, refl, ap, arith, inl, inr}
use Rattle.std.specs.Prelude.{slice_get, slice_set}
use Rattle.std.specs.Option.{option_to_list}
use Rattle.guest_heap.specs.declared.thread.Thread.{Thread}
use Rattle.guest_model.proofs.Options.{some_is}

-- The thread of this number afterwards: that of the step; or one that was there before; or one that begins.
abbrev pub WasThread : List Thread → ℕ → Thread → Option Thread → ℕ → Thread → Type 0
WasThread threads own after begins number thread =
    ((number ≡ own) × (after ≡ thread)) ⊎ (((number ≢ own) × (slice_get threads number ≡ Some thread)) ⊎ ((length threads ≤ number) × (begins ≡ Some thread)))

begun_at : (begins : Option Thread) (number : ℕ) (thread : Thread) → slice_get (option_to_list begins) number ≡ Some thread → begins ≡ Some thread
begun_at None number thread e = absurd cc
begun_at (Some begun) zero thread e = e
begun_at (Some begun) (suc number) thread e = absurd cc

-- one that was there, or that begins
among_both : (threads : List Thread) (begins : Option Thread) (number : ℕ) (thread : Thread)
    → slice_get (threads ++ option_to_list begins) number ≡ Some thread
    → (slice_get threads number ≡ Some thread) ⊎ ((length threads ≤ number) × (begins ≡ Some thread))
among_both [] begins number thread e = inr (omega arith, begun_at begins number thread e)
among_both (t ∷ threads) begins zero thread e = inl e
among_both (t ∷ threads) begins (suc number) thread e = elim (among_both threads begins number thread e) [
  | inl there ↦ inl there
  | inr begun ↦ inr (omega (arith, begun.0), begun.1)
]

pub was_thread : (threads : List Thread) (own : ℕ) (after : Thread) (begins : Option Thread) (number : ℕ) (thread : Thread)
    → slice_get (slice_set threads own after ++ option_to_list begins) number ≡ Some thread → own < length threads
    → WasThread threads own after begins number thread
was_thread [] own after begins number thread e within = absurd (omega (arith, within))
was_thread (t ∷ threads) zero after begins zero thread e within = inl (refl, some_is after thread e)
was_thread (t ∷ threads) zero after begins (suc number) thread e within =
    elim (among_both threads begins number thread e) [
      | inl there ↦ inr (inl (λ same. absurd (omega (arith, same)), there))
      | inr begun ↦ inr (inr (omega (arith, begun.0), begun.1))
    ]
was_thread (t ∷ threads) (suc own) after begins zero thread e within = inr (inl (λ same. absurd (omega (arith, same)), e))
was_thread (t ∷ threads) (suc own) after begins (suc number) thread e within =
    elim (was_thread threads own after begins number thread e (omega (arith, within))) [
      | inl is ↦ inl (ap suc is.0, is.1)
      | inr (inl other) ↦ inr (inl (λ same. other.0 (omega (arith, same)), other.1))
      | inr (inr begun) ↦ inr (inr (omega (arith, begun.0), begun.1))
    ]

-- the thread of the step
pub own_thread : (threads : List Thread) (begins : Option Thread) (own : ℕ) (after : Thread) → own < length threads
    → slice_get (slice_set threads own after ++ option_to_list begins) own ≡ Some after
own_thread [] begins own after within = absurd (omega (arith, within))
own_thread (t ∷ threads) begins zero after within = refl
own_thread (t ∷ threads) begins (suc own) after within = own_thread threads begins own after (omega (arith, within))

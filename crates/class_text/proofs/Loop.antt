-- Texts that are appended one after another.
use Rattle.std.proofs.Common.{◌≡◌, ℕ, ◌+◌, List, [], ◌∷◌, ◌++◌, Ok, Err, refl, sym, ap, ◌∙◌, append_assoc, append-nil}
use Rattle.std.specs.Prelude.{is_ok}
use Rattle.std.proofs.lemmas.Bool.{false≢true}
use Rattle.mon_base.specs.Reading.{◌>>=◌}
use Rattle.class_text.specs.declared.fault.ShowFault.{ShowFault}
use Rattle.class_text.specs.declared.fault.ShowFault.TheVariants as faults
use Rattle.mon_base.specs.Answer.{Fails}
use Rattle.mon_base.proofs.Answering.{through}
use Rattle.class_text.specs.Shown.{Shown, texts_from, with_front}

abbrev text_or : List ℕ → Shown → List ℕ
text_or other (Ok text) = text
text_or other (Err e) = other

pub bind_front : (front text : List ℕ) (others : Shown) → with_front front (others >>= λ rest. Ok (text ++ rest)) ≡ with_front (front ++ text) others
bind_front front text (Ok rest) = ap Ok (sym (append_assoc front text rest))
bind_front front text (Err e) = refl

-- a text after a front is no fault
pub fault_front : (front : List ℕ) (answer : Shown) (e : ShowFault) → with_front front answer ≡ Err e → answer ≡ Err e
fault_front front (Ok text) e is = absurd (false≢true (sym (ap is_ok is)))
fault_front front (Err f) e is = is

-- the others after the first
pub next : (front new : List ℕ) (first others : Shown) → with_front front first ≡ Ok new
    → with_front new others ≡ with_front front (first >>= λ text. others >>= λ rest. Ok (text ++ rest))
next front new (Ok text) others is =
    ap (λ n. with_front n others) (sym (ap (text_or new) is)) ∙ sym (bind_front front text others)
next front new (Err e) others is = absurd (false≢true (ap is_ok is))

module _ {X : Type 0} (one : ℕ → X → Shown) where
  -- one item more
  pub goes_on : (front new : List ℕ) (all rest : List X) (x : X) (at : ℕ) (total : Shown) → all ≡ x ∷ rest → with_front front (one at x) ≡ Ok new
      → with_front front (texts_from one at all) ≡ total → with_front new (texts_from one (at + 1) rest) ≡ total
  goes_on front new all rest x at total split ok so_far =
      next front new (one at x) (texts_from one (at + 1) rest) ok
      ∙ ap (λ xs. with_front front (texts_from one at xs)) (sym split) ∙ so_far

  -- an item that has no text
  pub ends : (e : ShowFault) (front old : List ℕ) (all rest : List X) (x : X) (at : ℕ) (total : Shown) → all ≡ x ∷ rest → Fails faults.Memory e (one at x)
      → with_front front (texts_from one at all) ≡ with_front old total → Fails faults.Memory e total
  ends e front old all rest x at total split fails so_far =
      through faults.Memory e (one at x) total
      (λ err. fault_front old total e (sym so_far ∙ ap (λ xs. with_front front (texts_from one at xs)) split
      ∙ ap (λ first. with_front front (first >>= λ text. texts_from one (at + 1) rest >>= λ others. Ok (text ++ others))) err)) fails

  pub is_done : (front old : List ℕ) (all : List X) (at : ℕ) (total : Shown) → all ≡ [] → with_front front (texts_from one at all) ≡ with_front old total → with_front old total ≡ Ok front
  is_done front old all at total none so_far =
      sym so_far ∙ ap (λ xs. with_front front (texts_from one at xs)) none ∙ ap Ok (append-nil front)

-- texts that do not tell their place
pub any_place : {X : Type 0} (one : X → Shown) (i j : ℕ) (xs : List X) → texts_from (λ at. one) i xs ≡ texts_from (λ at. one) j xs
any_place one i j [] = refl
any_place one i j (x ∷ xs) = ap (λ rest. one x >>= λ first. rest >>= λ others. Ok (first ++ others)) (any_place one (i + 1) (j + 1) xs)

-- one item more of those that do not tell their place
pub goes_on_there : {X : Type 0} (one : X → Shown) (front new : List ℕ) (all rest : List X) (x : X) (total : Shown) → all ≡ x ∷ rest → with_front front (one x) ≡ Ok new
    → with_front front (texts_from (λ at. one) 0 all) ≡ total → with_front new (texts_from (λ at. one) 0 rest) ≡ total
goes_on_there one front new all rest x total split ok so_far =
    ap (with_front new) (any_place one 0 1 rest) ∙ goes_on (λ at. one) front new all rest x 0 total split ok so_far

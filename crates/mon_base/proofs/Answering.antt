-- What is answered unless memory ran out, where one thing is read after another.
use Rattle.std.proofs.Common.{◌≡◌, Result, Err, refl, sym, ◌∙◌}
use Rattle.mon_base.specs.Reading.{◌>>=◌}
use Rattle.mon_base.specs.Answer.{Fails}

-- A fault at the first is the answer.
pub failed : {X Y E : Type 0} (memory fault : E) (first : Result X E) (others : X → Result Y E) → Fails memory fault first
    → Fails memory fault (first >>= others)
failed memory fault first others h is_told = rw (h is_told) refl

pub along : {X E : Type 0} (memory fault : E) (one other : Result X E) → one ≡ other → Fails memory fault one → Fails memory fault other
along memory fault one other same h is_told = sym same ∙ h is_told

pub told : {X E : Type 0} (memory fault : E) (answer : Result X E) → Err fault ≡ answer → Fails memory fault answer
told memory fault answer is is_told = sym is

-- Where a part fails, the whole fails so.
pub through : {A B E : Type 0} (memory fault : E) (part : Result A E) (all : Result B E) → (part ≡ Err fault → all ≡ Err fault)
    → Fails memory fault part → Fails memory fault all
through memory fault part all goes_up h is_told = goes_up (h is_told)

-- What is true of what is read, made from the laws of its parts, a line for each part, in the reading's order.
use Rattle.std.proofs.Common.{◌≡◌, ℕ, zero, suc, Bool, true, false, cond, List, length, drop, Option, Some, None, Ok, Err, refl, subst}
use Rattle.std.specs.Prelude.{ok_or, IfOk}
use Rattle.mon_base.specs.Reading.{◌>>=◌, need}
use Rattle.mon_base.proofs.Reading.{bind_ok, need_ok, ok_is}
use Rattle.conspec_tokens.specs.declared.token.Token.{Token}
use Rattle.conspec_parse.specs.declared.fault.PolicyFault.{PolicyFault}
use Rattle.mon_base.specs.Answer.{Answers}
use Rattle.conspec_parse.specs.declared.fault.PolicyFault.TheVariants as faults
use Rattle.conspec_parse.specs.Fault.{Judged}
use Rattle.conspec_parse.specs.Forms.{Parsed, repeated, each, taken}

-- What is read, if anything, is so.
pub record Makes {X : Type 0} (read : Judged X) (Is : X → Type 0) : Type 0 where
  pub of : (x : X) → read ≡ Ok x → Is x

pub done : {X : Type 0} {Is : X → Type 0} (x : X) → Is x → Makes (Ok x) Is
done {X = X} {Is = Is} x is = record { of = λ y e. subst Is (ok_is PolicyFault x y e) is }

-- a part, and then the others
pub then : {X Y : Type 0} {read : Judged X} {Part : X → Type 0} {Is : Y → Type 0} (others : X → Judged Y)
    → Makes read Part → ((x : X) → Part x → Makes (others x) Is) → Makes (read >>= others) Is
then {read = read} others part rest = record {
  of = λ y e.
      let b = bind_ok read others y e in
      (rest b.0 (part.of b.0 b.1)).of y b.2;
}

-- a test, and then the others
pub tested : {Y : Type 0} {Is : Y → Type 0} (test : Bool) (fault : PolicyFault) (others : Unit {0} → Judged Y)
    → (test ≡ true → Makes (others tt) Is) → Makes (need test fault >>= others) Is
tested test fault others rest = record {
  of = λ y e.
      let b = need_ok test fault others y e in
      (rest b.0).of y b.1;
}

-- one of two readings
pub either : {Y : Type 0} {Is : Y → Type 0} (test : Bool) (read other : Judged Y)
    → (test ≡ true → Makes read Is) → (test ≡ false → Makes other Is) → Makes (cond test read other) Is
either true read other on_true on_false = on_true refl
either false read other on_true on_false = on_false refl

pub failed : {X : Type 0} {Is : X → Type 0} (fault : PolicyFault) → Makes (Err fault) Is
failed fault = record { of = λ y e. absurd cc }

-- nothing is said
pub any : {X : Type 0} (read : Judged X) → Makes read (λ x. Unit {0})
any read = record { of = λ y e. tt }

pub given : {X : Type 0} (found : Option X) (fault : PolicyFault) → Makes (ok_or found fault) (λ x. found ≡ Some x)
given (Some x) fault = done x refl
given None fault = failed fault

pub taken_makes : {X : Type 0} (found : Option X) (tokens : List Token) → Makes (taken found tokens) (λ r. (found ≡ Some r.0) × (r.1 ≡ drop 1 tokens))
taken_makes found tokens = then _ (given found _) λ x is. done (x, drop 1 tokens) (is, refl)

-- other words for what is so
pub said : {X : Type 0} {read : Judged X} {Part Is : X → Type 0} → Makes read Part → ((x : X) → Part x → Is x) → Makes read Is
said part to = record { of = λ x e. to x (part.of x e) }

-- What each part keeps is so of all of them.
pub repeated_makes : {S : Type 0} (more : List Token → Bool) (part : S → List Token → Parsed S) (Is : S → List Token → Type 0)
    → ((s : S) (tokens : List Token) → more tokens ≡ true → Is s tokens → Makes (part s tokens) (λ r. Is r.0 r.1))
    → (n : ℕ) (s : S) (tokens : List Token) → Is s tokens → Makes (repeated more part n s tokens) (λ r. Is r.0 r.1)
unfolding repeated
repeated_makes more part Is step zero s tokens is = done (s, tokens) is
repeated_makes more part Is step (suc n) s tokens is =
    either (more tokens) _ _
    (λ goes. then (λ r. repeated more part n r.0 r.1) (step s tokens goes is) λ r kept. repeated_makes more part Is step n r.0 r.1 kept)
    (λ stops. done (s, tokens) is)

pub each_makes : {S : Type 0} (more : List Token → Bool) (part : S → List Token → Parsed S) (Is : S → List Token → Type 0)
    → ((s : S) (tokens : List Token) → more tokens ≡ true → Is s tokens → Makes (part s tokens) (λ r. Is r.0 r.1))
    → (s : S) (tokens : List Token) → Is s tokens → Makes (each more part s tokens) (λ r. Is r.0 r.1)
each_makes more part Is step s tokens is = repeated_makes more part Is step (length tokens) s tokens is

-- a call that answers what the reading gives
pub answered : {X : Type 0} {read : Judged X} {Is : X → Type 0} (result : Judged X) → Makes read Is → Answers faults.Memory result read → IfOk result Is
answered (Ok x) makes e = makes.of x e
answered (Err fault) makes e = tt

-- two laws of one reading
pub together : {X : Type 0} {read : Judged X} {One Other : X → Type 0} → Makes read One → Makes read Other → Makes read (λ x. One x × Other x)
together a b = record { of = λ x e. (a.of x e, b.of x e) }

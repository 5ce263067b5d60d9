-- Readers whose answer is turned into another, or tested, or that are held to a number of bytes.
use Rattle.std.proofs.Common.{◌≡◌, ℕ, ℤ, ◌+◌, ◌<◌, ◌^◌, Bool, true, false, cond, ltb, List, [], ◌++◌, length, take, drop, Some, None, Result, Ok, refl, sym, ap, subst, ◌∙◌, FitsSigned}
use Rattle.std.specs.Prelude.{◌==◌, ok_or}
use Rattle.std.specs.Int.{Width, cast_signed, cast_unsigned}
use Rattle.std.proofs.lemmas.Bool.{eqb-true}
use Rattle.std.proofs.lemmas.Int.{of_z-to_z, to_z-of_z}
use Rattle.std.proofs.lemmas.List.{take_at, append-nil, nil_from_length}
use mir.Val.{bits}
use mir.ValLaws.{of_z_fits, to_z-Fits}
use Rattle.mon_base.specs.Reading.{Place, IsBytes, part, bytes_at, ◌>>=◌, need}
use Rattle.mon_base.proofs.Reading.{answer, bind_ok, ok_is, need_ok, ok_or_ok, after, Took, IsTail, IsReader, then, bytes_takes, bytes_again}

-- a reader whose answer is turned into another, where it can be
pub through : {A X E : Type 0} {reader : Place → Result (X × Place) E} {encode_x : X → List ℕ} {Fits_x known_x : X → Type 0}
    {encode : A → List ℕ} {Fits known : A → Type 0} (turn : Place → X → Result A E) → IsTail reader encode_x Fits_x known_x
    → ((place : Place) (x : X) (a : A) → Fits_x x → known_x x → turn place x ≡ Ok a → (encode_x x ≡ encode a) × Fits a × known a)
    → ((a : A) → Fits a → known a → (x : X) × ((place : Place) → turn place x ≡ Ok a) × (encode_x x ≡ encode a) × Fits_x x × known_x x)
    → IsTail (λ place. reader place >>= λ x. turn place x.0 >>= λ a. Ok (a, x.1)) encode Fits known
through {A = A} {X = X} {E = E} {reader = reader} {encode_x = encode_x} {encode = encode} {Fits = Fits} {known = known} turn is to from = record {
  takes = λ place a next fits e.
      let b = bind_ok (reader place) (λ x. turn place x.0 >>= λ a. Ok (a, x.1)) (a, next) e in
      let g = bind_ok (turn place b.0.0) (λ a. Ok (a, b.0.1)) (a, next) b.2 in
      let t = is.takes place b.0.0 b.0.1 fits b.1 in
      let h = to place b.0.0 g.0 t.1 t.2 g.1 in
      let made : A × Place = (g.0, b.0.1) in
      subst (λ (x : A × Place). Took place (encode x.0) x.1 × Fits x.0 × known x.0) (ok_is E made (a, next) g.2) (subst (λ (w : List ℕ). Took place w b.0.1) h.0 t.0, h.1, h.2);
  again = λ place a rest fits h e.
      let g = from a fits h in
      let one = is.again place g.0 rest g.3 g.4 (e ∙ ap (λ (w : List ℕ). w ++ rest) (sym g.2)) in
      rw (one, g.1 place, g.2) refl;
}

-- a reader whose answer is wrapped
pub wrapped : {A X E : Type 0} {reader : Place → Result (X × Place) E} {encode_x : X → List ℕ} {Fits_x known_x : X → Type 0}
    {encode : A → List ℕ} {Fits known : A → Type 0} (wrap : X → A) → IsTail reader encode_x Fits_x known_x
    → ((x : X) → Fits_x x → known_x x → (encode_x x ≡ encode (wrap x)) × Fits (wrap x) × known (wrap x))
    → ((a : A) → Fits a → known a → (x : X) × (wrap x ≡ a) × Fits_x x × known_x x)
    → IsTail (λ place. reader place >>= λ x. Ok (wrap x.0, x.1)) encode Fits known
wrapped {A = A} {E = E} {encode_x = encode_x} {encode = encode} {Fits = Fits} {known = known} wrap is to from =
    through (λ place x. answer E (wrap x)) is
    (λ place x a f k e. subst (λ (y : A). (encode_x x ≡ encode y) × Fits y × known y) (ok_is E (wrap x) a e) (to x f k))
    (λ a f k. let g = from a f k in (g.0, λ place. ap (answer E) g.1, (to g.0 g.2 g.3).0 ∙ ap encode g.1, g.2, g.3))

-- one after the other, as a pair
pub pair_is : {A B E : Type 0} {first : Place → Result (A × Place) E} {second : Place → Result (B × Place) E}
    {encode_a : A → List ℕ} {encode_b : B → List ℕ} {Fits_a : A → Type 0} {Fits_b : B → Type 0}
    → IsReader first encode_a Fits_a → IsReader second encode_b Fits_b
    → IsReader {A = A × B} (λ place. first place >>= λ a. second a.1 >>= λ b. Ok ((a.0, b.0), b.1)) (λ x. encode_a x.0 ++ encode_b x.1) (λ x. Fits_a x.0 × Fits_b x.1)
pair_is {A = A} {B = B} {encode_b = encode_b} {Fits_b = Fits_b} is_a is_b = then {encode = λ x. encode_b x.1} {Fits = λ x. Fits_b x.1} {known = λ _. Unit {0}} _ is_a (λ x. x.0) (λ x k. tt)
    (λ a k. wrapped {A = A × B} (λ b. (a, b)) is_b (λ b f k. (refl, f, (tt, refl))) (λ x f k. (x.1, rw (← k.1) refl, f, tt)))

-- numbers of so many bits, without a sign and with one
pub signed_fits : (w : Width) (n : ℕ) → n < 2 ^ bits w → FitsSigned w (cast_signed w n)
signed_fits w n h = to_z-Fits w n (record { fits = h })

pub unsigned_fits : (w : Width) (z : ℤ) → FitsSigned w z → cast_unsigned w z < 2 ^ bits w
unsigned_fits w z h = (of_z_fits w z h).fits

-- a number with a sign, from the one that its bits are without
pub signed_is : {E : Type 0} {reader : Place → Result (ℕ × Place) E} {encode : ℕ → List ℕ} (w : Width) → IsReader reader encode (λ n. n < 2 ^ bits w)
    → IsReader (λ place. reader place >>= λ n. Ok (cast_signed w n.0, n.1)) (λ z. encode (cast_unsigned w z)) (λ z. FitsSigned w z)
signed_is {encode = encode} w is = wrapped (λ n. cast_signed w n) is
    (λ n f k. (ap encode (sym (of_z-to_z w n f)), signed_fits w n f, tt))
    (λ z f k. (cast_unsigned w z, to_z-of_z w z f, unsigned_fits w z f, tt))

-- a reader whose answer is tested and wrapped
pub tested : {A X E : Type 0} {reader : Place → Result (X × Place) E} {encode_x : X → List ℕ} {Fits_x known_x : X → Type 0}
    {encode : A → List ℕ} {Fits known : A → Type 0} (test : X → Bool) (fault : E) (wrap : X → A) → IsTail reader encode_x Fits_x known_x
    → ((x : X) → Fits_x x → known_x x → test x ≡ true → (encode_x x ≡ encode (wrap x)) × Fits (wrap x) × known (wrap x))
    → ((a : A) → Fits a → known a → (x : X) × (wrap x ≡ a) × Fits_x x × known_x x × (test x ≡ true))
    → IsTail (λ place. reader place >>= λ x. need (test x.0) fault >>= λ _. Ok (wrap x.0, x.1)) encode Fits known
tested {A = A} {X = X} {E = E} {reader = reader} {encode_x = encode_x} {encode = encode} {Fits = Fits} {known = known} test fault wrap is to from = record {
  takes = λ place a next fits e.
      let b = bind_ok (reader place) (λ x. need (test x.0) fault >>= λ _. Ok (wrap x.0, x.1)) (a, next) e in
      let g = need_ok (test b.0.0) fault (λ _. Ok (wrap b.0.0, b.0.1)) (a, next) b.2 in
      let t = is.takes place b.0.0 b.0.1 fits b.1 in
      let h = to b.0.0 t.1 t.2 g.0 in
      let made : A × Place = (wrap b.0.0, b.0.1) in
      subst (λ (x : A × Place). Took place (encode x.0) x.1 × Fits x.0 × known x.0) (ok_is E made (a, next) g.1) (subst (λ (w : List ℕ). Took place w b.0.1) h.0 t.0, h.1, h.2);
  again = λ place a rest fits h e.
      let g = from a fits h in
      let same : encode_x g.0 ≡ encode a = (to g.0 g.2 g.3 g.4).0 ∙ ap encode g.1 in
      let one = is.again place g.0 rest g.2 g.3 (e ∙ ap (λ (w : List ℕ). w ++ rest) (sym same)) in
      rw (one, g.4, same, g.1) refl;
}

-- a reader whose answer is checked
pub checked : {A E : Type 0} {reader : Place → Result (A × Place) E} {encode : A → List ℕ} {Fits known : A → Type 0}
    (Holds : A → Type 0) (check : Place → A → Result (Unit {0}) E)
    → IsTail reader encode Fits known
    → ((place : Place) (a : A) → check place a ≡ Ok tt → Holds a) → ((place : Place) (a : A) → Holds a → check place a ≡ Ok tt)
    → IsTail (λ place. reader place >>= λ x. check place x.0 >>= λ _. Ok x) encode (λ a. Fits a × Holds a) known
checked {A = A} {E = E} {reader = reader} {encode = encode} {Fits = Fits} {known = known} Holds check is to from = record {
  takes = λ place a next fits e.
      let b = bind_ok (reader place) (λ x. check place x.0 >>= λ _. Ok x) (a, next) e in
      let g = bind_ok (check place b.0.0) (λ _. Ok b.0) (a, next) b.2 in
      let t = is.takes place b.0.0 b.0.1 fits b.1 in
      let h = to place b.0.0 g.1 in
      subst (λ (x : A × Place). Took place (encode x.0) x.1 × (Fits x.0 × Holds x.0) × known x.0) (ok_is E b.0 (a, next) g.2) (t.0, (t.1, h), t.2);
  again = λ place a rest fits h e.
      rw (is.again place a rest fits.0 h e, from place a fits.1) refl;
}

some_taken : {A : Type 0} (b : Bool) (x y : A) → cond b None (Some x) ≡ Some y → x ≡ y
some_taken true x y e = absurd cc
some_taken false x y e = cc

bytes_are : (n : ℕ) (place : Place) (bytes : List ℕ) (next : Place) → bytes_at n place ≡ Some (bytes, next) → take n place.rest ≡ bytes
bytes_are n place bytes next e =
    let read : List ℕ × Place = (take n place.rest, record { at = place.at + n; rest = drop n place.rest }) in
    ap (λ (x : List ℕ × Place). x.0) (some_taken (ltb (length place.rest) n) read (bytes, next) e)

-- a reader of the next n bytes, all of which it takes
pub enclosed : {A E : Type 0} {reader : Place → Result (A × Place) E} {encode : A → List ℕ} {Fits known : A → Type 0}
    (n : ℕ) (left cut : A × Place → E)
    → IsTail reader encode Fits known
    → IsTail (λ place. reader (part n place) >>= λ x. need (length x.1.rest == 0) (left x) >>= λ _. ok_or (bytes_at n place) (cut x) >>= λ all. Ok (x.0, all.1)) encode Fits (λ a. known a × (length (encode a) ≡ n))
enclosed {A = A} {E = E} {reader = reader} {encode = encode} {Fits = Fits} {known = known} n left cut is = record {
  takes = λ place a next fits e.
      let b = bind_ok (reader (part n place)) (λ x. need (length x.1.rest == 0) (left x) >>= λ _. ok_or (bytes_at n place) (cut x) >>= λ all. Ok (x.0, all.1)) (a, next) e in
      let g = need_ok (length b.0.1.rest == 0) (left b.0) (λ _. ok_or (bytes_at n place) (cut b.0) >>= λ all. Ok (b.0.0, all.1)) (a, next) b.2 in
      let d = bind_ok (ok_or (bytes_at n place) (cut b.0)) (λ all. Ok (b.0.0, all.1)) (a, next) g.1 in
      let found = ok_or_ok (bytes_at n place) (cut b.0) d.0 d.1 in
      let all = bytes_takes n place d.0.0 d.0.1 fits found in
      let same : take n place.rest ≡ d.0.0 = bytes_are n place d.0.0 d.0.1 found in
      let t = is.takes (part n place) b.0.0 b.0.1 (subst IsBytes (sym same) all.2) b.1 in
      let nothing : b.0.1.rest ≡ [] = nil_from_length b.0.1.rest (eqb-true _ _ g.0) in
      let text : d.0.0 ≡ encode b.0.0 = sym same ∙ t.0.parts ∙ ap (λ (r : List ℕ). encode b.0.0 ++ r) nothing ∙ append-nil (encode b.0.0) in
      let len : length (encode b.0.0) ≡ n = ap length (sym text) ∙ all.1 in
      let made : A × Place = (b.0.0, d.0.1) in
      subst (λ (x : A × Place). Took place (encode x.0) x.1 × Fits x.0 × (known x.0 × (length (encode x.0) ≡ n))) (ok_is E made (a, next) d.2) (subst (λ (w : List ℕ). Took place w d.0.1) text all.0, t.1, (t.2, len));
  again = λ place a rest fits h e.
      let inner : take n place.rest ≡ encode a ++ [] = ap (take n) e ∙ take_at (encode a) rest n h.1 ∙ sym (append-nil (encode a)) in
      let one = is.again (part n place) a [] fits h.0 inner in
      let all : bytes_at n place ≡ Some (encode a, after place (encode a) rest) = subst (λ (k : ℕ). bytes_at k place ≡ Some (encode a, after place (encode a) rest)) h.1 (bytes_again place (encode a) rest e) in
      rw (one, all) refl;
}

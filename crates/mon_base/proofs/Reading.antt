-- Readers and encodings: what is read is encoded so, and what is encoded so is read, whatever follows.
--
-- A reader goes from a place to an answer and the place after it, or to a fault. The law of a reader is an IsReader,
-- and the law of what is left of a reader after some fields is an IsTail, where `known` says which fields of the
-- answer are there already. They are made from the laws of the parts, a line for each field, in the reader's order:
--
--     entry_at place = do                           entry e = (big_bytes 4 51966 ++ big_bytes 2 e.flags) ++ string e.name
--       magic ← num 4 place
--       good ← need (magic.0 == 51966) (Bad magic.1.at)
--       flags ← num 2 magic.1
--       name ← string_at flags.1
--       Ok (record { flags = flags.0; name = name.0 }, name.1)
--
--     entry_is : IsReader entry_at entry FitsEntry
--     unfolding entry_at
--     entry_is = fitting (encoded (
--         then_same _ (number_is four (λ p. Short p.at)) 51966 (omega arith) (
--         then _ (number_is two (λ p. Short p.at)) (λ e. e.flags) (λ e k. tt) λ flags k.
--         then _ string_is (λ e. e.name) (λ e k. tt) λ name k.
--         done (record { flags = flags; name = name }) ((tt, refl), refl) (λ e k. rw (← k.0.1, ← k.1) refl)))
--         (λ e k. simp (append_assoc, append-nil) refl)) to_fits from_fits
--
-- Other lines: `text_is` (bytes with their length before them), `items` (a counted list), `guard` and `guarded` (a test
-- of what is known), `choose` and `refuse` (by a tag that is known), `said` (the last part, called at the end). `known`
-- grows by one fact `field e ≡ value` on the right with each field. Readers has those whose answer is turned into another
-- or tested, Loop has the loop that reads a counted list.
use Rattle.std.proofs.Common.{◌≡◌, ℕ, zero, suc, ◌+◌, ◌*◌, ◌%◌, ◌^◌, ◌<◌, ◌≤◌, Bool, true, false, cond, ltb, eq-eqb, List, [], ◌∷◌, ◌++◌, length, take, drop, Option, Some, None, Result, Ok, Err, refl, sym, ap, subst, ◌∙◌, append_assoc, arith, inl, inr}
use Rattle.std.specs.Prelude.{◌==◌, ok_or, option_map}
use Rattle.std.specs.List.{flat_map, AllByRecursion}
use Rattle.std.proofs.lemmas.Bool.{cases_lt, ltb-false, le-ltb, eqb-true}
use Rattle.std.proofs.lemmas.List.{take_at, drop_at, take-append-drop, length-append, length-take, get_or-drop, get_or-take, get_or_past, append-nil, nil_from_length}
use Rattle.std.proofs.lemmas.Nat.{be_bytes_2, be_bytes_4, be_bytes_8}
use Rattle.byteorder.specs.Endian.{big_number, big_bytes}
use Rattle.byteorder.specs.Numbers.{big_from-lt, big_number-reads_back, length-bytes_high_first}
use Rattle.mon_base.specs.Reading.{Place, IsBytes, bytes_at, number_at, ◌>>=◌, need, counted, whole}

IsBytes-drop : (n : ℕ) (bytes : List ℕ) → IsBytes bytes → IsBytes (drop n bytes)
IsBytes-drop n bytes h i = rw get_or-drop (h (n + i))

IsBytes-take : (n : ℕ) (bytes : List ℕ) → IsBytes bytes → IsBytes (take n bytes)
IsBytes-take n bytes h i =
    elim (cases_lt i n) [
      | inl lt ↦ rw (get_or-take n bytes i 0 lt) (h i)
      | inr le ↦ rw (get_or_past (take n bytes) i 0 (omega (arith, length-take n bytes))) (omega arith)
    ]

-- ---- answers

-- the value of a step that did not fail
pub bind_ok : {A B E : Type 0} (r : Result A E) (f : A → Result B E) (y : B) → (r >>= f) ≡ Ok y → (x : A) × (r ≡ Ok x) × (f x ≡ Ok y)
bind_ok (Ok x) f y e = (x, refl, e)
bind_ok (Err d) f y e = absurd cc

abbrev pub answer : {A : Type 0} (E : Type 0) → A → Result A E
answer E x = Ok x

pub ok_is : {A : Type 0} (E : Type 0) (x y : A) → answer E x ≡ answer E y → x ≡ y
ok_is E x y e = cc

-- a test that did not fail
pub need_ok : {B E : Type 0} (b : Bool) (fault : E) (f : Unit {0} → Result B E) (y : B) → (need b fault >>= f) ≡ Ok y
    → (b ≡ true) × (f tt ≡ Ok y)
need_ok true fault f y e = (refl, e)
need_ok false fault f y e = absurd cc

pub need_holds : {E : Type 0} (b : Bool) (fault : E) → need b fault ≡ Ok tt → b ≡ true
need_holds true fault e = refl
need_holds false fault e = absurd cc

pub holds_need : {E : Type 0} (b : Bool) (fault : E) → b ≡ true → need b fault ≡ Ok tt
holds_need b fault e = rw e refl

pub ok_or_ok : {A E : Type 0} (r : Option A) (fault : E) (x : A) → ok_or r fault ≡ Ok x → r ≡ Some x
ok_or_ok (Some y) fault x e = cc
ok_or_ok {E = E} None fault x e = absurd cc

-- ---- readers

-- the place after the text, with rest left
abbrev pub after : Place → List ℕ → List ℕ → Place
after place text rest = record { at = place.at + length text; rest = rest }

-- the text stands at the place old, and new is after it
pub record Took (old : Place) (text : List ℕ) (new : Place) : Type 0 where
  pub parts : old.rest ≡ text ++ new.rest
  pub moved : new.at ≡ old.at + length text
  pub fits : IsBytes new.rest

pub Took-then : (a : Place) (x : List ℕ) (b : Place) (y : List ℕ) (c : Place) → Took a x b → Took b y c → Took a (x ++ y) c
Took-then a x b y c p q = record {
  parts = p.parts ∙ ap (λ (t : List ℕ). x ++ t) q.parts ∙ sym (append_assoc x y c.rest);
  moved = omega (arith, p.moved, q.moved, length-append x y);
  fits = q.fits;
}

-- Of the answers of which known holds, the reader reads exactly the texts that encode gives those of which Fits holds.
pub record IsTail {A E : Type 0} (reader : Place → Result (A × Place) E) (encode : A → List ℕ) (Fits known : A → Type 0) : Type 0 where
  pub takes : (place : Place) (a : A) (next : Place) → IsBytes place.rest → reader place ≡ Ok (a, next)
      → Took place (encode a) next × Fits a × known a
  pub again : (place : Place) (a : A) (rest : List ℕ) → Fits a → known a → place.rest ≡ encode a ++ rest
      → reader place ≡ Ok (a, after place (encode a) rest)

-- The reader reads exactly the texts that encode gives.
abbrev pub IsReader : {A E : Type 0} → (Place → Result (A × Place) E) → (A → List ℕ) → (A → Type 0) → Type 0
IsReader reader encode Fits = IsTail reader encode Fits (λ _. Unit {0})

-- the end of a record: its answer is the one of which known holds
pub done : {A E : Type 0} {known : A → Type 0} (made : A) → known made → ((a : A) → known a → a ≡ made)
    → IsTail {E = E} (λ place. Ok (made, place)) (λ a. []) (λ a. Unit {0}) known
done {A = A} {E = E} {known = known} made holds only = record {
  takes = λ place a next fits e.
      subst (λ (x : A × Place). Took place [] x.1 × Unit {0} × known x.0) (ok_is E (made, place) (a, next) e) (record { parts = refl; moved = omega arith; fits = fits }, tt, holds);
  again = λ place a rest fits h e.
      let n : place.at + 0 ≡ place.at = omega arith in
      rw (only a h, n, ← e) refl;
}

-- a field, and then the others, whose faults may tell the place of the field
pub then_from : {A X E : Type 0} {reader : Place → Result (X × Place) E} {encode_x : X → List ℕ} {Fits_x known_x : X → Type 0}
    {encode : A → List ℕ} {Fits known : A → Type 0} (others : Place → X × Place → Result (A × Place) E)
    → IsTail reader encode_x Fits_x known_x → (field : A → X) → ((a : A) → known a → known_x (field a))
    → ((place : Place) (x : X) → known_x x → IsTail (λ p. others place (x, p)) encode Fits (λ a. known a × (field a ≡ x)))
    → IsTail (λ place. reader place >>= others place) (λ a. encode_x (field a) ++ encode a) (λ a. Fits_x (field a) × Fits a) known
then_from {reader = reader} {encode_x = encode_x} {encode = encode} others first field told rest_is = record {
  takes = λ place a next fits e.
      let b = bind_ok (reader place) (others place) (a, next) e in
      let one = first.takes place b.0.0 b.0.1 fits b.1 in
      let two = (rest_is place b.0.0 one.2).takes b.0.1 a next one.0.fits b.2 in
      let same : field a ≡ b.0.0 = two.2.1 in
      (rw same (Took-then place (encode_x b.0.0) b.0.1 (encode a) next one.0 two.0), (rw same one.1, two.1), two.2.0);
  again = λ place a rest fits h e.
      let mid = after place (encode_x (field a)) (encode a ++ rest) in
      let one = first.again place (field a) (encode a ++ rest) fits.0 (told a h) (e ∙ append_assoc (encode_x (field a)) (encode a) rest) in
      let two = (rest_is place (field a) (told a h)).again mid a rest fits.1 (h, refl) refl in
      let far : place.at + length (encode_x (field a)) + length (encode a) ≡ place.at + length (encode_x (field a) ++ encode a) = omega (arith, length-append (encode_x (field a)) (encode a)) in
      rw (one, two, far) refl;
}

-- a field, and then the others
pub then : {A X E : Type 0} {reader : Place → Result (X × Place) E} {encode_x : X → List ℕ} {Fits_x known_x : X → Type 0}
    {encode : A → List ℕ} {Fits known : A → Type 0} (others : X × Place → Result (A × Place) E)
    → IsTail reader encode_x Fits_x known_x → (field : A → X) → ((a : A) → known a → known_x (field a))
    → ((x : X) → known_x x → IsTail (λ place. others (x, place)) encode Fits (λ a. known a × (field a ≡ x)))
    → IsTail (λ place. reader place >>= others) (λ a. encode_x (field a) ++ encode a) (λ a. Fits_x (field a) × Fits a) known
then others first field told rest_is = then_from (λ place. others) first field told (λ place. rest_is)

-- the same reader, where what is known of its answers, and what fits, is said in other words
pub said : {A E : Type 0} {reader : Place → Result (A × Place) E} {encode : A → List ℕ} {Fits Fits' known known' : A → Type 0}
    → IsTail reader encode Fits known → ((a : A) → Fits a → known a → Fits' a × known' a) → ((a : A) → Fits' a → known' a → Fits a × known a)
    → IsTail reader encode Fits' known'
said {encode = encode} is to from = record {
  takes = λ place a next fits e.
      let t = is.takes place a next fits e in
      let h = to a t.1 t.2 in
      (t.0, h.0, h.1);
  again = λ place a rest fits h e.
      let g = from a fits h in
      is.again place a rest g.0 g.1 e;
}

-- the same reader, where what fits is said in other words
pub fitting : {A E : Type 0} {reader : Place → Result (A × Place) E} {encode : A → List ℕ} {Fits Fits' known : A → Type 0}
    → IsTail reader encode Fits known → ((a : A) → known a → Fits a → Fits' a) → ((a : A) → known a → Fits' a → Fits a)
    → IsTail reader encode Fits' known
fitting is to from = said is (λ a f k. (to a k f, k)) (λ a f k. (from a k f, k))

-- the last field of a record, where nothing but a fact about it is known
pub last : {A E : Type 0} {reader : Place → Result (A × Place) E} {encode : A → List ℕ} {Fits known : A → Type 0}
    → IsTail reader encode Fits known → IsTail reader encode Fits (λ a. Unit {0} × known a)
last is = said is (λ a f k. (f, (tt, k))) (λ a f k. (f, k.1))

-- the same reader and encoding, written otherwise where it fits
pub encoded_where : {A E : Type 0} {reader : Place → Result (A × Place) E} {encode encode' : A → List ℕ} {Fits known : A → Type 0}
    → IsTail reader encode Fits known → ((a : A) → Fits a → known a → encode a ≡ encode' a) → IsTail reader encode' Fits known
encoded_where is same = record {
  takes = λ place a next fits e.
      let t = is.takes place a next fits e in
      (subst (λ (w : List ℕ). Took place w next) (same a t.1 t.2) t.0, t.1, t.2);
  again = λ place a rest fits h e.
      let g = is.again place a rest fits h (e ∙ ap (λ (w : List ℕ). w ++ rest) (sym (same a fits h))) in
      g ∙ ap (λ (w : List ℕ). Ok (a, after place w rest)) (same a fits h);
}

-- the same reader and encoding, written otherwise
pub encoded : {A E : Type 0} {reader : Place → Result (A × Place) E} {encode encode' : A → List ℕ} {Fits known : A → Type 0}
    → IsTail reader encode Fits known → ((a : A) → known a → encode a ≡ encode' a) → IsTail reader encode' Fits known
encoded is same = encoded_where is (λ a fits k. same a k)

-- a test of what is known, and then the others, whose law may use that it held
pub guarded : {A E : Type 0} {others : Place → Result (A × Place) E} {encode : A → List ℕ} {Fits known : A → Type 0} (Holds : A → Type 0) (test : Bool) (fault : Place → E)
    → ((a : A) → known a → test ≡ true → Holds a) → ((a : A) → known a → Holds a → test ≡ true)
    → (test ≡ true → IsTail others encode Fits known)
    → IsTail (λ place. need test (fault place) >>= λ _. others place) encode (λ a. Holds a × Fits a) known
guarded {others = others} Holds test fault to from is = record {
  takes = λ place a next fits e.
      let b = need_ok test (fault place) (λ _. others place) (a, next) e in
      let t = (is b.0).takes place a next fits b.1 in
      (t.0, (to a t.2 b.0, t.1), t.2);
  again = λ place a rest fits h e.
      let holds = from a h fits.0 in
      let t = (is holds).again place a rest fits.1 h e in
      rw holds t;
}

-- a test of what is known, and then the others
pub guard : {A E : Type 0} {others : Place → Result (A × Place) E} {encode : A → List ℕ} {Fits known : A → Type 0} (Holds : A → Type 0) (test : Bool) (fault : Place → E)
    → ((a : A) → known a → test ≡ true → Holds a) → ((a : A) → known a → Holds a → test ≡ true)
    → IsTail others encode Fits known
    → IsTail (λ place. need test (fault place) >>= λ _. others place) encode (λ a. Holds a × Fits a) known
guard Holds test fault to from is = guarded Holds test fault to from (λ holds. is)

-- one of two readers, by a test of what is known
pub choose : {A E : Type 0} {yes no : Place → Result (A × Place) E} {encode : A → List ℕ} {Fits known : A → Type 0} (test : Bool)
    → (test ≡ true → IsTail yes encode Fits known) → (test ≡ false → IsTail no encode Fits known)
    → IsTail (λ place. cond test (yes place) (no place)) encode Fits known
choose true first second = first refl
choose false first second = second refl

-- a reader that refuses, where nothing that is encoded could be known
pub refuse : {A E : Type 0} {encode : A → List ℕ} {Fits known : A → Type 0} (fault : Place → E)
    → ((a : A) → Fits a → known a → ⊥) → IsTail (λ place. Err (fault place)) encode Fits known
refuse fault never = record {
  takes = λ place a next fits e. absurd cc;
  again = λ place a rest fits h e. absurd (never a fits h);
}

-- a number that is always the same, and then the others; the fault may tell its place, the number read and the place after it
pub then_same : {A E : Type 0} {reader : Place → Result (ℕ × Place) E} {encode_x : ℕ → List ℕ} {Fits_x : ℕ → Type 0}
    {others : Place → Result (A × Place) E} {encode : A → List ℕ} {Fits known : A → Type 0} (fault : Place → ℕ × Place → E)
    → IsReader reader encode_x Fits_x → (same : ℕ) → Fits_x same
    → IsTail others encode Fits known
    → IsTail (λ place. reader place >>= λ x. need (x.0 == same) (fault place x) >>= λ _. others x.1) (λ a. encode_x same ++ encode a) Fits known
then_same {reader = reader} {encode_x = encode_x} {others = others} {encode = encode} fault first same fits_same is = record {
  takes = λ place a next fits e.
      let b = bind_ok (reader place) (λ x. need (x.0 == same) (fault place x) >>= λ _. others x.1) (a, next) e in
      let g = need_ok (b.0.0 == same) (fault place b.0) (λ _. others b.0.1) (a, next) b.2 in
      let one = first.takes place b.0.0 b.0.1 fits b.1 in
      let two = is.takes b.0.1 a next one.0.fits g.1 in
      let is_same : b.0.0 ≡ same = eqb-true _ _ g.0 in
      (rw (← is_same) (Took-then place (encode_x b.0.0) b.0.1 (encode a) next one.0 two.0), two.1, two.2);
  again = λ place a rest fits h e.
      let mid = after place (encode_x same) (encode a ++ rest) in
      let one = first.again place same (encode a ++ rest) fits_same tt (e ∙ append_assoc (encode_x same) (encode a) rest) in
      let two = is.again mid a rest fits h refl in
      let far : place.at + length (encode_x same) + length (encode a) ≡ place.at + length (encode_x same ++ encode a) = omega (arith, length-append (encode_x same) (encode a)) in
      rw (one, eq-eqb same same refl, two, far) refl;
}

-- ---- items one after another

counted_takes : {X E : Type 0} (item : Place → Result (X × Place) E) (encode : X → List ℕ) (Fits : X → Type 0) (is : IsReader item encode Fits)
    (n : ℕ) (place : Place) (xs : List X) (next : Place) → IsBytes place.rest → counted item n place ≡ Ok (xs, next)
    → Took place (flat_map encode xs) next × AllByRecursion Fits xs × (length xs ≡ n)
unfolding counted
counted_takes {X = X} {E = E} item encode Fits is zero place xs next fits e =
    subst (λ (y : List X × Place). Took place (flat_map encode y.0) y.1 × AllByRecursion Fits y.0 × (length y.0 ≡ 0)) (ok_is E ([], place) (xs, next) e) (record { parts = refl; moved = omega arith; fits = fits }, tt, refl)
counted_takes {X = X} {E = E} item encode Fits is (suc n) place xs next fits e =
    let a = bind_ok (item place) (λ first. counted item n first.1 >>= λ others. Ok (first.0 ∷ others.0, others.1)) (xs, next) e in
    let b = bind_ok (counted item n a.0.1) (λ others. Ok (a.0.0 ∷ others.0, others.1)) (xs, next) a.2 in
    let first = is.takes place a.0.0 a.0.1 fits a.1 in
    let second = counted_takes item encode Fits is n a.0.1 b.0.0 b.0.1 first.0.fits b.1 in
    let both = Took-then place (encode a.0.0) a.0.1 (flat_map encode b.0.0) b.0.1 first.0 second.0 in
    let made : List X × Place = (a.0.0 ∷ b.0.0, b.0.1) in
    subst (λ (y : List X × Place). Took place (flat_map encode y.0) y.1 × AllByRecursion Fits y.0 × (length y.0 ≡ suc n)) (ok_is E made (xs, next) b.2) (both, (first.1, second.1), ap suc second.2)

counted_again : {X E : Type 0} (item : Place → Result (X × Place) E) (encode : X → List ℕ) (Fits : X → Type 0) (is : IsReader item encode Fits)
    (xs : List X) (place : Place) (rest : List ℕ) → AllByRecursion Fits xs → place.rest ≡ flat_map encode xs ++ rest
    → counted item (length xs) place ≡ Ok (xs, after place (flat_map encode xs) rest)
unfolding counted
counted_again item encode Fits is [] place rest fits e =
    let n : place.at + 0 ≡ place.at = omega arith in
    rw (n, ← e) refl
counted_again item encode Fits is (x ∷ xs) place rest fits e =
    let mid = after place (encode x) (flat_map encode xs ++ rest) in
    let one = is.again place x (flat_map encode xs ++ rest) fits.0 tt (e ∙ append_assoc (encode x) (flat_map encode xs) rest) in
    let two = counted_again item encode Fits is xs mid rest fits.1 refl in
    let far : place.at + length (encode x) + length (flat_map encode xs) ≡ place.at + length (encode x ++ flat_map encode xs) = omega (arith, length-append (encode x) (flat_map encode xs)) in
    rw (one, two, far) refl

pub items : {X E : Type 0} {item : Place → Result (X × Place) E} {encode : X → List ℕ} {Fits : X → Type 0} → IsReader item encode Fits
    → (n : ℕ)
    → IsTail (counted item n) (λ xs. flat_map encode xs) (λ xs. AllByRecursion Fits xs) (λ xs. length xs ≡ n)
items {X = X} {E = E} {item = item} {encode = encode} {Fits = Fits} is n = record {
  takes = λ place xs next fits e. counted_takes item encode Fits is n place xs next fits e;
  again = λ place xs rest fits h e.
      subst (λ (k : ℕ). counted item k place ≡ Ok (xs, after place (flat_map encode xs) rest)) h (counted_again item encode Fits is xs place rest fits e);
}

-- ---- bytes and numbers

enough : {A : Type 0} (b : Bool) (x y : A) → cond b None (Some x) ≡ Some y → (b ≡ false) × (x ≡ y)
enough true x y e = absurd cc
enough false x y e = (refl, cc)

pub bytes_takes : (n : ℕ) (place : Place) (bytes : List ℕ) (next : Place) → IsBytes place.rest → bytes_at n place ≡ Some (bytes, next)
    → Took place bytes next × (length bytes ≡ n) × IsBytes bytes
bytes_takes n place bytes next fits e =
    let read : List ℕ × Place = (take n place.rest, record { at = place.at + n; rest = drop n place.rest }) in
    let g = enough (ltb (length place.rest) n) read (bytes, next) e in
    let long : n ≤ length place.rest = ltb-false _ _ g.0 in
    let len : length (take n place.rest) ≡ n = omega (arith, length-take n place.rest) in
    subst (λ (x : List ℕ × Place). Took place x.0 x.1 × (length x.0 ≡ n) × IsBytes x.0) g.1 (
      record { parts = sym (take-append-drop n place.rest); moved = omega (arith, len); fits = IsBytes-drop n place.rest fits },
      len,
      IsBytes-take n place.rest fits,
    )

pub bytes_again : (place : Place) (bytes rest : List ℕ) → place.rest ≡ bytes ++ rest
    → bytes_at (length bytes) place ≡ Some (bytes, after place bytes rest)
bytes_again place bytes rest e =
    let long : ltb (length (bytes ++ rest)) (length bytes) ≡ false = le-ltb _ _ (omega (arith, length-append bytes rest)) in
    rw (e, long, take_at bytes rest (length bytes) refl, drop_at bytes rest (length bytes) refl) refl

-- bytes of a given number
pub bytes_is : {E : Type 0} (n : ℕ) (fault : Place → E)
    → IsTail (λ place. ok_or (bytes_at n place) (fault place)) (λ bytes. bytes) (λ bytes. Unit {0}) (λ bytes. length bytes ≡ n)
bytes_is {E = E} n fault = record {
  takes = λ place bytes next fits e.
      let t = bytes_takes n place bytes next fits (ok_or_ok (bytes_at n place) (fault place) (bytes, next) e) in
      (t.0, tt, t.1);
  again = λ place bytes rest fits h e.
      subst (λ (k : ℕ). ok_or (bytes_at k place) (fault place) ≡ Ok (bytes, after place bytes rest)) h (rw (bytes_again place bytes rest e) refl);
}

back_1 : (bytes : List ℕ) → length bytes ≡ 1 → IsBytes bytes → big_bytes 1 (big_number 1 bytes) ≡ bytes
back_1 [] len fits = absurd (omega arith)
back_1 (b ∷ []) len fits =
    let low : b < 256 = fits 0 in
    let is : (b * 1 + 0) % 256 ≡ b = omega arith in
    ap (λ (x : ℕ). x ∷ []) is
back_1 (b ∷ c ∷ bs) len fits = absurd (omega arith)

-- Numbers of n bytes are encoded by their bytes.
pub record IsSize (n : ℕ) : Type 0 where
  pub back : (bytes : List ℕ) → length bytes ≡ n → IsBytes bytes → big_bytes n (big_number n bytes) ≡ bytes

pub one : IsSize 1
one = record { back = λ bytes len fits. back_1 bytes len fits }

pub two : IsSize 2
two = record { back = λ bytes len fits. be_bytes_2 bytes _ len fits (omega arith) }

pub four : IsSize 4
four = record { back = λ bytes len fits. be_bytes_4 bytes _ len fits (omega arith) }

pub eight : IsSize 8
eight = record { back = λ bytes len fits. be_bytes_8 bytes _ len fits (omega arith) }

some_is : {A : Type 0} (x y : A) → Some x ≡ Some y → x ≡ y
some_is x y e = cc

some_pair : (n : ℕ) (r : Option (List ℕ × Place)) (x : ℕ) (next : Place)
    → option_map {U = ℕ × Place} (λ read. (big_number n read.0, read.1)) r ≡ Some (x, next)
    → (bytes : List ℕ) × (r ≡ Some (bytes, next)) × (big_number n bytes ≡ x)
some_pair n None x next e = absurd cc
some_pair n (Some read) x next e =
    let made : ℕ × Place = (big_number n read.0, read.1) in
    let is : made ≡ (x, next) = some_is made (x, next) e in
    (read.0, ap (λ (y : ℕ × Place). Some (read.0, y.1)) is, ap (λ (y : ℕ × Place). y.0) is)

-- a number of n bytes
pub number_is : {E : Type 0} {n : ℕ} → IsSize n → (fault : Place → E)
    → IsReader (λ place. ok_or (number_at n place) (fault place)) (λ x. big_bytes n x) (λ x. x < 256 ^ n)
number_is {E = E} {n = n} size fault = record {
  takes = λ place x next fits e.
      let b = some_pair n (bytes_at n place) x next (ok_or_ok (number_at n place) (fault place) (x, next) e) in
      let t = bytes_takes n place b.0 next fits b.1 in
      let is : big_bytes n x ≡ b.0 = ap (big_bytes n) (sym b.2) ∙ size.back b.0 t.1 t.2 in
      (subst (λ (w : List ℕ). Took place w next) (sym is) t.0, subst (λ (k : ℕ). k < 256 ^ n) b.2 (big_from-lt 0 n b.0 t.2), tt);
  again = λ place x rest fits h e.
      let len : length (big_bytes n x) ≡ n = length-bytes_high_first n x in
      let read : bytes_at n place ≡ Some (big_bytes n x, after place (big_bytes n x) rest) = subst (λ (k : ℕ). bytes_at k place ≡ Some (big_bytes n x, after place (big_bytes n x) rest)) len (bytes_again place (big_bytes n x) rest e) in
      let is : big_number n (big_bytes n x) ≡ x = ap (big_number n) (sym (append-nil (big_bytes n x))) ∙ big_number-reads_back n x [] fits in
      rw (read, is) refl;
}

-- ---- lists and texts with their length before them

-- bytes, after a number of n bytes that says how many
pub text_is : {E : Type 0} {n : ℕ} → IsSize n → (fault : Place → E) (fault_in : Place → E)
    → IsReader (λ place. ok_or (number_at n place) (fault place) >>= λ count. ok_or (bytes_at count.0 count.1) (fault_in count.1)) (λ bytes. big_bytes n (length bytes) ++ bytes) (λ bytes. length bytes < 256 ^ n)
text_is size fault fault_in = fitting (
    then _ (number_is size fault) length (λ xs k. tt) λ count k.
    last (bytes_is count fault_in))
    (λ bytes k fits. fits.0) (λ bytes k fits. (fits, tt))

-- ---- all the bytes

pub whole_takes : {A E : Type 0} {reader : Place → Result (A × Place) E} {encode : A → List ℕ} {Fits : A → Type 0}
    → IsReader reader encode Fits
    → (fault : Place → E) (bytes : List ℕ) (a : A) → IsBytes bytes → whole reader fault bytes ≡ Ok a → (bytes ≡ encode a) × Fits a
whole_takes {A = A} {E = E} {reader = reader} {encode = encode} {Fits = Fits} is fault bytes a fits e =
    let start : Place = record { at = 0; rest = bytes } in
    let b = bind_ok (reader start) (λ read. need (length read.1.rest == 0) (fault read.1) >>= λ _. Ok read.0) a e in
    let g = need_ok (length b.0.1.rest == 0) (fault b.0.1) (λ _. Ok b.0.0) a b.2 in
    let t = is.takes start b.0.0 b.0.1 fits b.1 in
    let nothing : b.0.1.rest ≡ [] = nil_from_length b.0.1.rest (eqb-true _ _ g.0) in
    let all : bytes ≡ encode b.0.0 = t.0.parts ∙ ap (λ (r : List ℕ). encode b.0.0 ++ r) nothing ∙ append-nil (encode b.0.0) in
    subst (λ (x : A). (bytes ≡ encode x) × Fits x) (ok_is E b.0.0 a g.1) (all, t.1)

pub whole_again : {A E : Type 0} {reader : Place → Result (A × Place) E} {encode : A → List ℕ} {Fits : A → Type 0}
    → IsReader reader encode Fits
    → (fault : Place → E) (a : A) → Fits a → whole reader fault (encode a) ≡ Ok a
whole_again {reader = reader} {encode = encode} is fault a fits =
    let start : Place = record { at = 0; rest = encode a } in
    let t = is.again start a [] fits tt (sym (append-nil (encode a))) in
    rw t refl

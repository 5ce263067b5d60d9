-- Readers made of others, beside those of mon_base.
use Rattle.std.proofs.Common.{◌≡◌, ℕ, zero, suc, ◌+◌, ◌<◌, Bool, true, false, cond, eqb, List, [], ◌∷◌, ◌++◌, length, Result, Ok, Err, refl, sym, ap, subst, ◌∙◌, append_assoc, FitsSigned, arith}
use Rattle.std.specs.List.{flat_map, AllByRecursion}
use Rattle.std.specs.Int.{w32}
use Rattle.std.proofs.lemmas.Bool.{eqb-true}
use Rattle.std.proofs.lemmas.List.{append-nil, length-append}
use Rattle.mon_base.specs.Reading.{Place, IsBytes, ◌>>=◌}
use Rattle.mon_base.proofs.Reading.{bind_ok, ok_is, after, Took, Took-then, IsTail, IsReader, then, said, number_is, one, two, four}
use Rattle.mon_base.proofs.Readers.{through, signed_is}
use Rattle.mon_base.proofs.Readers as base
use Rattle.cert_format.specs.declared.fault.CertForm.{CertForm}
use Rattle.cert_format.specs.declared.fault.CertForm.TheVariants.{Form}
use Rattle.cert_format.specs.Names.{Name}
use Rattle.mon_base.specs.Widths.{u1, u2, u4}
use Rattle.cert_format.specs.Encoding.{i4}
use Rattle.mon_base.specs.Widths.{IsU1, IsU2, IsU4}
use Rattle.cert_format.specs.Reading.{Decoded, u1_at, u2_at, u4_at, i4_at, pair_at, several_at, short_list_at, long_list_at}
use Rattle.cert_format.proofs.Order.{InOrder, join, split}

-- ---- numbers

pub u1_is : IsReader u1_at u1 IsU1
unfolding u1_at
u1_is = number_is one (λ p. Form p.at)

pub u2_is : IsReader u2_at u2 IsU2
unfolding u2_at
u2_is = number_is two (λ p. Form p.at)

pub u4_is : IsReader u4_at u4 IsU4
unfolding u4_at
u4_is = number_is four (λ p. Form p.at)

pub i4_is : IsReader i4_at i4 (λ n. FitsSigned w32 n)
unfolding i4_at
i4_is = signed_is w32 u4_is

-- ---- one after the other

pub pair_is : {A B : Type 0} {first : Place → Decoded A} {second : Place → Decoded B} {encode_a : A → List ℕ} {encode_b : B → List ℕ} {Fits_a : A → Type 0} {Fits_b : B → Type 0}
    → IsReader first encode_a Fits_a → IsReader second encode_b Fits_b
    → IsReader (pair_at first second) (λ x. encode_a x.0 ++ encode_b x.1) (λ x. Fits_a x.0 × Fits_b x.1)
unfolding pair_at
pair_is is_a is_b = base.pair_is is_a is_b

-- ---- a number that tells which it is

pub record IsCode {X : Type 0} (of : ℕ → ℕ → Result X CertForm) (code : X → ℕ) : Type 0 where
  pub told : (at n : ℕ) (x : X) → of at n ≡ Ok x → code x ≡ n
  pub back : (at : ℕ) (x : X) → of at (code x) ≡ Ok x
  pub small : (x : X) → code x < 256

pub coded : {X : Type 0} (of : ℕ → ℕ → Result X CertForm) (code : X → ℕ) → IsCode of code
    → IsReader (λ p. u1_at p >>= λ n. of p.at n.0 >>= λ x. Ok (x, n.1)) (λ x. u1 (code x)) (λ x. Unit {0})
coded of code is = through (λ p n. of p.at n) u1_is
    (λ p n x f k e. (ap u1 (sym (is.told p.at n x e)), tt, tt))
    (λ x f k. (code x, λ p. is.back p.at x, refl, is.small x, tt))

-- the next of an if-chain
pub chosen : {X : Type 0} (test : Bool) (x y : X) (other : Result X CertForm) (P : Type 0) → cond test (Ok x) other ≡ Ok y
    → (test ≡ true → x ≡ y → P) → (other ≡ Ok y → P) → P
chosen true x y other P e same later = same refl (ok_is CertForm x y e)
chosen false x y other P e same later = later e

-- ---- what stands after a kind

-- Texts that the reader takes follow these bytes in an encoding.
pub record Takes {A : Type 0} (reader : Place → Decoded A) (before : List ℕ) (encode : A → List ℕ) (Fits : A → Type 0) : Type 0 where
  pub takes : (place : Place) (a : A) (next : Place) → IsBytes place.rest → reader place ≡ Ok (a, next)
      → (text : List ℕ) × Took place text next × (encode a ≡ before ++ text) × Fits a

pub form : {A X : Type 0} {reader : Place → Decoded X} {encode_x : X → List ℕ} {Fits_x : X → Type 0} {before : List ℕ} {encode : A → List ℕ} {Fits : A → Type 0}
    (wrap : X → A) → IsReader reader encode_x Fits_x → ((x : X) → Fits_x x → (encode (wrap x) ≡ before ++ encode_x x) × Fits (wrap x))
    → Takes (λ p. reader p >>= λ x. Ok (wrap x.0, x.1)) before encode Fits
form {A = A} {X = X} {reader = reader} {encode_x = encode_x} {before = before} {encode = encode} {Fits = Fits} wrap is made = record {
  takes = λ place a next fits e.
      let b = bind_ok (reader place) (λ x. Ok (wrap x.0, x.1)) (a, next) e in
      let t = is.takes place b.0.0 b.0.1 fits b.1 in
      let m = made b.0.0 t.1 in
      let whole : A × Place = (wrap b.0.0, b.0.1) in
      subst (λ (y : A × Place). (text : List ℕ) × Took place text y.1 × (encode y.0 ≡ before ++ text) × Fits y.0) (ok_is CertForm whole (a, next) b.2) (encode_x b.0.0, t.0, m.0, m.1);
}

pub plain : {A : Type 0} {before : List ℕ} {encode : A → List ℕ} {Fits : A → Type 0} (a : A) → encode a ≡ before → Fits a
    → Takes (λ p. Ok (a, p)) before encode Fits
plain {A = A} {before = before} {encode = encode} {Fits = Fits} a same holds = record {
  takes = λ place x next fits e.
      let whole : A × Place = (a, place) in
      subst (λ (y : A × Place). (text : List ℕ) × Took place text y.1 × (encode y.0 ≡ before ++ text) × Fits y.0) (ok_is CertForm whole (x, next) e) ([], record { parts = refl; moved = omega arith; fits = fits }, same ∙ sym (append-nil before), holds);
}

pub never : {A : Type 0} {before : List ℕ} {encode : A → List ℕ} {Fits : A → Type 0} (at : ℕ) → Takes (λ p. Err (Form at)) before encode Fits
never at = record { takes = λ place a next fits e. absurd cc }

-- this kind, or another
pub kind_or : {A : Type 0} {this that : Place → Decoded A} {encode : A → List ℕ} {Fits : A → Type 0} (kind n : ℕ)
    → Takes this (u1 n) encode Fits → Takes that (u1 kind) encode Fits → Takes (λ p. cond (eqb kind n) (this p) (that p)) (u1 kind) encode Fits
kind_or {A = A} {this = this} {that = that} {encode = encode} {Fits = Fits} kind n first others = by (eqb kind n) refl where
  by : (test : Bool) → eqb kind n ≡ test → Takes (λ p. cond test (this p) (that p)) (u1 kind) encode Fits
  by true is = subst (λ (k : ℕ). Takes this (u1 k) encode Fits) (sym (eqb-true kind n is)) first
  by false is = others

-- ---- a kind, and what follows it

pub tagged : {A : Type 0} {others : ℕ → ℕ → Place → Decoded A} {encode : A → List ℕ} {Fits : A → Type 0}
    → ((at kind : ℕ) → Takes (others at kind) (u1 kind) encode Fits)
    → ((place : Place) (a : A) (rest : List ℕ) → Fits a → place.rest ≡ encode a ++ rest → (u1_at place >>= λ kind. others place.at kind.0 kind.1) ≡ Ok (a, after place (encode a) rest))
    → IsReader (λ p. u1_at p >>= λ kind. others p.at kind.0 kind.1) encode Fits
tagged {A = A} {others = others} {encode = encode} {Fits = Fits} takes_rest again_rest = record {
  takes = λ place a next fits e.
      let k = bind_ok (u1_at place) (λ kind. others place.at kind.0 kind.1) (a, next) e in
      let t = u1_is.takes place k.0.0 k.0.1 fits k.1 in
      let r = (takes_rest place.at k.0.0).takes k.0.1 a next t.0.fits k.2 in
      (subst (λ (w : List ℕ). Took place w next) (sym r.2) (Took-then place (u1 k.0.0) k.0.1 r.0 next t.0 r.1), r.3, tt);
  again = λ place a rest fits h e. again_rest place a rest fits e;
}

pub kind_again : {A X : Type 0} (others : ℕ → ℕ → Place → Decoded A) {reader : Place → Decoded X} {encode_x : X → List ℕ} {Fits_x : X → Type 0}
    (n : ℕ) → n < 256 → (wrap : X → A) → IsReader reader encode_x Fits_x
    → ((at : ℕ) (p : Place) → others at n p ≡ (reader p >>= λ x. Ok (wrap x.0, x.1)))
    → (place : Place) (x : X) (rest : List ℕ) → Fits_x x → place.rest ≡ (u1 n ++ encode_x x) ++ rest
    → (u1_at place >>= λ kind. others place.at kind.0 kind.1) ≡ Ok (wrap x, after place (u1 n ++ encode_x x) rest)
kind_again others {encode_x = encode_x} n small wrap is same place x rest fits e =
    let mid = after place (u1 n) (encode_x x ++ rest) in
    let first = u1_is.again place n (encode_x x ++ rest) small tt (e ∙ append_assoc (u1 n) (encode_x x) rest) in
    let second = is.again mid x rest fits tt refl in
    let far : place.at + length (u1 n) + length (encode_x x) ≡ place.at + length (u1 n ++ encode_x x) = omega (arith, length-append (u1 n) (encode_x x)) in
    rw (first, same place.at mid, second, far) refl

pub plain_again : {A : Type 0} (others : ℕ → ℕ → Place → Decoded A) (n : ℕ) → n < 256 → (a : A) → ((at : ℕ) (p : Place) → others at n p ≡ Ok (a, p))
    → (place : Place) (rest : List ℕ) → place.rest ≡ u1 n ++ rest → (u1_at place >>= λ kind. others place.at kind.0 kind.1) ≡ Ok (a, after place (u1 n) rest)
plain_again others n small a same place rest e =
    rw (u1_is.again place n rest small tt e, same place.at (after place (u1 n) rest)) refl

-- ---- items that use names

module _ (names : List Name) where
  -- The reader reads exactly what is encoded so, and the names are used in their order.
  pub record IsItem {X : Type 0} (item : ℕ → Place → Decoded (X × ℕ)) (encode : X → List ℕ) (Fits : X → Type 0) (names_in : X → List Name) : Type 0 where
    pub reads : (used : ℕ) → IsReader (item used) (λ (a : X × ℕ). encode a.0) (λ (a : X × ℕ). Fits a.0 × InOrder names used (names_in a.0) a.1)

  several_takes : {X : Type 0} (item : ℕ → Place → Decoded (X × ℕ)) (encode : X → List ℕ) (Fits : X → Type 0) (names_in : X → List Name) (is : IsItem item encode Fits names_in)
      (n used : ℕ) (place : Place) (a : List X × ℕ) (next : Place) → IsBytes place.rest → several_at item n used place ≡ Ok (a, next)
      → Took place (flat_map encode a.0) next × (AllByRecursion Fits a.0 × InOrder names used (flat_map names_in a.0) a.1) × (length a.0 ≡ n)
  unfolding several_at
  several_takes {X = X} item encode Fits names_in is zero used place a next fits e =
      let made : (List X × ℕ) × Place = (([], used), place) in
      subst (λ (y : (List X × ℕ) × Place). Took place (flat_map encode y.0.0) y.1 × (AllByRecursion Fits y.0.0 × InOrder names used (flat_map names_in y.0.0) y.0.1) × (length y.0.0 ≡ 0)) (ok_is CertForm made (a, next) e) (record { parts = refl; moved = omega arith; fits = fits }, (tt, refl), refl)
  several_takes {X = X} item encode Fits names_in is (suc n) used place a next fits e =
      let f = bind_ok (item used place) (λ first. several_at item n first.0.1 first.1 >>= λ others. Ok ((first.0.0 ∷ others.0.0, others.0.1), others.1)) (a, next) e in
      let o = bind_ok (several_at item n f.0.0.1 f.0.1) (λ others. Ok ((f.0.0.0 ∷ others.0.0, others.0.1), others.1)) (a, next) f.2 in
      let first = (is.reads used).takes place f.0.0 f.0.1 fits f.1 in
      let second = several_takes item encode Fits names_in is n f.0.0.1 f.0.1 o.0.0 o.0.1 first.0.fits o.1 in
      let both = Took-then place (encode f.0.0.0) f.0.1 (flat_map encode o.0.0.0) o.0.1 first.0 second.0 in
      let order = join names (names_in f.0.0.0) (flat_map names_in o.0.0.0) used f.0.0.1 o.0.0.1 first.1.1 second.1.1 in
      let made : (List X × ℕ) × Place = ((f.0.0.0 ∷ o.0.0.0, o.0.0.1), o.0.1) in
      subst (λ (y : (List X × ℕ) × Place). Took place (flat_map encode y.0.0) y.1 × (AllByRecursion Fits y.0.0 × InOrder names used (flat_map names_in y.0.0) y.0.1) × (length y.0.0 ≡ suc n)) (ok_is CertForm made (a, next) o.2) (both, ((first.1.0, second.1.0), order), ap suc second.2)

  several_again : {X : Type 0} (item : ℕ → Place → Decoded (X × ℕ)) (encode : X → List ℕ) (Fits : X → Type 0) (names_in : X → List Name) (is : IsItem item encode Fits names_in)
      (xs : List X) (used last : ℕ) (place : Place) (rest : List ℕ) → AllByRecursion Fits xs → InOrder names used (flat_map names_in xs) last
      → place.rest ≡ flat_map encode xs ++ rest → several_at item (length xs) used place ≡ Ok ((xs, last), after place (flat_map encode xs) rest)
  unfolding several_at
  several_again item encode Fits names_in is [] used last place rest fits order e =
      let n : place.at + 0 ≡ place.at = omega arith in
      rw (n, ← e, ← order) refl
  several_again item encode Fits names_in is (x ∷ xs) used last place rest fits order e =
      let s = split names (names_in x) (flat_map names_in xs) used last order in
      let mid = after place (encode x) (flat_map encode xs ++ rest) in
      let first = (is.reads used).again place (x, s.between) (flat_map encode xs ++ rest) (fits.0, s.first) tt (e ∙ append_assoc (encode x) (flat_map encode xs) rest) in
      let second = several_again item encode Fits names_in is xs s.between last mid rest fits.1 s.second refl in
      let far : place.at + length (encode x) + length (flat_map encode xs) ≡ place.at + length (encode x ++ flat_map encode xs) = omega (arith, length-append (encode x) (flat_map encode xs)) in
      rw (first, second, far) refl

  several_is : {X : Type 0} {item : ℕ → Place → Decoded (X × ℕ)} {encode : X → List ℕ} {Fits : X → Type 0} {names_in : X → List Name} → IsItem item encode Fits names_in
      → (n used : ℕ)
      → IsTail (several_at item n used) (λ (a : List X × ℕ). flat_map encode a.0) (λ (a : List X × ℕ). AllByRecursion Fits a.0 × InOrder names used (flat_map names_in a.0) a.1) (λ (a : List X × ℕ). Unit {0} × (length a.0 ≡ n))
  several_is {X = X} {item = item} {encode = encode} {Fits = Fits} {names_in = names_in} is n used = record {
    takes = λ place a next fits e.
        let t = several_takes item encode Fits names_in is n used place a next fits e in
        (t.0, t.1, (tt, t.2));
    again = λ place a rest fits h e.
        subst (λ (k : ℕ). several_at item k used place ≡ Ok (a, after place (flat_map encode a.0) rest)) h.1 (several_again item encode Fits names_in is a.0 used a.1 place rest fits.0 fits.1 e);
  }

  -- a list with its length before it
  list_is : {X : Type 0} {count_at : Place → Decoded ℕ} {count : ℕ → List ℕ} {FitsCount : ℕ → Type 0} {item : ℕ → Place → Decoded (X × ℕ)} {encode : X → List ℕ} {Fits : X → Type 0} {names_in : X → List Name}
      → IsReader count_at count FitsCount → IsItem item encode Fits names_in
      → IsItem (λ used p. count_at p >>= λ n. several_at item n.0 used n.1) (λ xs. count (length xs) ++ flat_map encode xs) (λ xs. FitsCount (length xs) × AllByRecursion Fits xs) (flat_map names_in)
  list_is {X = X} count_is is = record {
    reads = λ used. said (
        then {known = λ (a : List X × ℕ). Unit {0}} _ count_is (λ (a : List X × ℕ). length a.0) (λ a k. tt) λ n k. several_is is n used)
        (λ a f k. (((f.0, f.1.0), f.1.1), tt)) (λ a f k. ((f.0.0, (f.0.1, f.1)), tt));
  }

  pub short_list_is : {X : Type 0} {item : ℕ → Place → Decoded (X × ℕ)} {encode : X → List ℕ} {Fits : X → Type 0} {names_in : X → List Name} → IsItem item encode Fits names_in
      → IsItem (short_list_at item) (λ xs. u2 (length xs) ++ flat_map encode xs) (λ xs. IsU2 (length xs) × AllByRecursion Fits xs) (flat_map names_in)
  unfolding short_list_at
  short_list_is is = list_is u2_is is

  pub long_list_is : {X : Type 0} {item : ℕ → Place → Decoded (X × ℕ)} {encode : X → List ℕ} {Fits : X → Type 0} {names_in : X → List Name} → IsItem item encode Fits names_in
      → IsItem (long_list_at item) (λ xs. u4 (length xs) ++ flat_map encode xs) (λ xs. IsU4 (length xs) × AllByRecursion Fits xs) (flat_map names_in)
  unfolding long_list_at
  long_list_is is = list_is u4_is is

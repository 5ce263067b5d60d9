-- What is read of two lists of tokens that agree at first: the forms of the law, and its parts, a line for each part of a reading.
use Rattle.std.proofs.Common.{◌≡◌, ◌⊎◌, inl, inr, ⊎_elim, ℕ, zero, suc, ◌+◌, ◌-◌, ◌<◌, ◌≤◌, Bool, true, false, cond, List, [], ◌∷◌, length, take, drop, Option, Some, None, Ok, Err, refl, sym, ap, subst, ◌∙◌, arith}
use Rattle.std.specs.Prelude.{ok_or, codes, nat_lt, bytes_eq}
use Rattle.std.proofs.lemmas.Bool.{ltb-true}
use Rattle.std.proofs.lemmas.Bool.Decides.{nat_tests}
use Rattle.std.proofs.lemmas.List.{length-drop}
use Rattle.std.proofs.lemmas.Slice.Eq.{bytes_eq-Decides}
use Rattle.mon_base.specs.Reading.{◌>>=◌, need}
use Rattle.conspec_tokens.specs.declared.token.Lexeme.{Lexeme}
use Rattle.conspec_tokens.specs.declared.token.Lexeme.TheVariants.{Quoted, Name, Number, Wrong, End}
use Rattle.conspec_tokens.specs.declared.token.Token.{Token}
use Rattle.conspec_parse.specs.declared.fault.PolicyFault.{PolicyFault}
use Rattle.conspec_parse.specs.declared.fault.PolicyFault.TheVariants as faults
use Rattle.conspec_parse.specs.Fault.{Judged}
use Rattle.conspec_parse.specs.Forms.{Parsed, following, name_at, number_at, taken, repeated, each}
use Rattle.conspec_tokens.specs.Front.{front_at, quotes, is_next, names, next_name, counts, next_number}
use Rattle.conspec_parse.specs.Deciding.{is_open}

-- ---- two lists

-- Both begin with the same token.
pub record Shares (t u : List Token) : Type 0 where
  pub first : Token
  pub others : List Token
  pub more : List Token
  pub one : t ≡ first ∷ others
  pub other : u ≡ first ∷ more

-- a keyword, a sign, a name or a number
abbrev pub is_word : Lexeme → Bool
is_word (Quoted text) = true
is_word (Name name) = true
is_word (Number n) = true
is_word Wrong = false
is_word End = false

abbrev pub goes_on : List Token → Bool
goes_on [] = false
goes_on (t ∷ others) = is_word t.lexeme

-- Two lists of tokens, of which so many are agreed. The last of the one is its end.
pub record Pair : Type 0 where
  pub one : List Token
  pub other : List Token
  pub agreed : ℕ
  pub agree : (c : ℕ) → c < agreed → Shares (drop c one) (drop c other)
  pub ends : (c : ℕ) → goes_on (drop c one) ≡ true → c + 1 < length one

-- what is left of both after so many tokens
pub record Here (p : Pair) (c : ℕ) (t u : List Token) : Type 0 where
  pub one : t ≡ drop c p.one
  pub other : u ≡ drop c p.other
  pub inside : c < length p.one

-- no `)` stands among these
abbrev pub NoClose : Pair → ℕ → ℕ → Type 0
NoClose p from to = (j : ℕ) → from ≤ j → j < to → is_next (codes ")") (drop j p.one) ≡ false

abbrev pub Unclosed : Bool → Pair → ℕ → ℕ → Type 0
Unclosed true p from to = NoClose p from to
Unclosed false p from to = Unit {0}

-- ---- faults

abbrev pub place : PolicyFault → ℕ
place (faults.Syntax at) = at
place (faults.Name at) = at
place (faults.Kind at) = at
place (faults.Range at) = at
place (faults.NoMethod at) = at
place (faults.Twice at) = at
place (faults.Limit at) = at
place (faults.Builtin at) = at
place faults.Memory = 0

-- how many tokens after its own a fault may hang on
abbrev pub ahead : PolicyFault → ℕ
ahead (faults.Syntax at) = 0
ahead (faults.Name at) = 0
ahead other = 1

abbrev pub is_of_method : PolicyFault → Bool
is_of_method (faults.NoMethod at) = true
is_of_method (faults.Twice at) = true
is_of_method (faults.Limit at) = true
is_of_method (faults.Builtin at) = true
is_of_method other = false

-- The fault stands at the token with this index, and so many tokens decide it.
pub record IsNear (p : Pair) (f : PolicyFault) (n : ℕ) : Type 0 where
  pub index : ℕ
  pub inside : index < length p.one
  pub at : place f ≡ front_at (drop index p.one)
  pub decided : n ≡ index + 1 + ahead f

-- The fault stands in a method, whose `)` is the last of so many tokens.
pub record IsInMethod (p : Pair) (f : PolicyFault) (n : ℕ) : Type 0 where
  pub of_method : is_of_method f ≡ true
  pub index : ℕ
  pub inside : index < length p.one
  pub at : place f ≡ front_at (drop index p.one)
  pub unended : (k : ℕ) → index < k → k < n → is_open (take k p.one) ≡ true

-- A method's fault is not told while its `)` is looked for.
abbrev pub Stands : Bool → Pair → PolicyFault → ℕ → Type 0
Stands true p f n = IsNear p f n
Stands false p f n = IsNear p f n ⊎ IsInMethod p f n

-- ---- readings

-- Both readings, after c tokens, go on after more; the other does if the tokens are agreed that far.
pub record GoesOn {X : Type 0} (p : Pair) (unclosed : Bool) (c least : ℕ) (a b : Parsed X) : Type 0 where
  pub value : X
  pub following : ℕ
  pub left : List Token
  pub rest : List Token
  pub here : Here p following left rest
  pub further : c ≤ following
  pub enough : least ≤ following
  pub no_close : Unclosed unclosed p c following
  pub is : a ≡ Ok (value, left)
  pub same : following < p.agreed → b ≡ Ok (value, rest)

-- Both have the same fault; the other has it if the tokens that decide it are agreed.
pub record Stops {X : Type 0} (p : Pair) (unclosed : Bool) (c : ℕ) (a b : Judged X) : Type 0 where
  pub fault : PolicyFault
  pub decided : ℕ
  pub further : c < decided
  pub no_close : Unclosed unclosed p c (decided - 1)
  pub stands : Stands unclosed p fault decided
  pub is : a ≡ Err fault
  pub same : decided ≤ p.agreed → b ≡ Err fault

abbrev pub Alike : {X : Type 0} → Pair → Bool → ℕ → ℕ → Parsed X → Parsed X → Type 0
Alike p unclosed c least a b = GoesOn p unclosed c least a b ⊎ Stops p unclosed c a b

near : (unclosed : Bool) (p : Pair) (f : PolicyFault) (n : ℕ) → IsNear p f n → Stands unclosed p f n
near true p f n is = is
near false p f n is = inl is

anywhere : (unclosed : Bool) (p : Pair) (f : PolicyFault) (n : ℕ) → Stands unclosed p f n → Stands false p f n
anywhere true p f n stands = inl stands
anywhere false p f n stands = stands

-- ---- numbers

pub within : (c k : ℕ) → (c < k) ⊎ (k ≤ c)
within c k = by (nat_lt c k) refl where
  by : (b : Bool) → nat_lt c k ≡ b → (c < k) ⊎ (k ≤ c)
  by true e = inl (ltb-true _ _ e)
  by false e = inr (grind (arith, nat_tests))

pub none : (unclosed : Bool) (p : Pair) (from to : ℕ) → to ≤ from → Unclosed unclosed p from to
none true p from to le = λ j low high. absurd (omega arith)
none false p from to le = tt

pub both_unclosed : (unclosed : Bool) (p : Pair) (from mid to : ℕ) → Unclosed unclosed p from mid → Unclosed unclosed p mid to → Unclosed unclosed p from to
both_unclosed true p from mid to a b = λ j low high. ⊎_elim (λ lt. a j low lt) (λ le. b j le high) (within j mid)
both_unclosed false p from mid to a b = tt

-- ---- tokens

drop_next : (c : ℕ) (tokens : List Token) → drop 1 (drop c tokens) ≡ drop (c + 1) tokens
drop_next zero tokens = refl
drop_next (suc c) [] = let e : suc c + 1 ≡ suc (c + 1) = omega arith in rw e refl
drop_next (suc c) (t ∷ tokens) = let e : suc c + 1 ≡ suc (c + 1) = omega arith in rw e (drop_next c tokens)

pub next : {p : Pair} {c : ℕ} {t u : List Token} → Here p c t u → goes_on t ≡ true → Here p (c + 1) (drop 1 t) (drop 1 u)
next {p = p} {c = c} {t = t} {u = u} here goes = record {
  one = ap (drop 1) here.one ∙ drop_next c p.one;
  other = ap (drop 1) here.other ∙ drop_next c p.other;
  inside = p.ends c (subst (λ (x : List Token). goes_on x ≡ true) here.one goes);
}

pub shared : {p : Pair} {c : ℕ} {t u : List Token} → Here p c t u → c < p.agreed → Shares t u
shared {p = p} {c = c} {t = t} {u = u} here lt =
    let s = p.agree c lt in
    record { first = s.first; others = s.others; more = s.more; one = here.one ∙ s.one; other = here.other ∙ s.other }

-- what is seen of the first token alone
abbrev pub IsOfFirst : {V : Type 0} → (List Token → V) → Type 0
IsOfFirst see = (x : Token) (t u : List Token) → see (x ∷ t) ≡ see (x ∷ u)

pub seen_same : {V : Type 0} {p : Pair} {c : ℕ} {t u : List Token} (see : List Token → V) → IsOfFirst see → Here p c t u → c < p.agreed → see t ≡ see u
seen_same {t = t} {u = u} see first here lt =
    let s = shared here lt in
    ap see s.one ∙ first s.first s.others s.more ∙ sym (ap see s.other)

pub front_same : {p : Pair} {c : ℕ} {t u : List Token} → Here p c t u → c < p.agreed → front_at t ≡ front_at u
front_same here lt = seen_same front_at (λ x t u. refl) here lt

quotes_word : (text : List ℕ) (l : Lexeme) → quotes text l ≡ true → is_word l ≡ true
quotes_word text (Quoted word) e = refl
quotes_word text (Name word) e = refl
quotes_word text (Number n) e = refl
quotes_word text Wrong e = absurd cc
quotes_word text End e = absurd cc

pub next_goes_on : (text : List ℕ) (t : List Token) → is_next text t ≡ true → goes_on t ≡ true
next_goes_on text [] e = absurd cc
next_goes_on text (x ∷ t) e = quotes_word text x.lexeme e

-- ---- the forms

-- Nothing is said of the other where too few tokens are agreed.
pub unsaid : {X : Type 0} {p : Pair} {unclosed : Bool} {c least : ℕ} {a b : Parsed X} (other : Parsed X) → p.agreed ≤ c → Alike p unclosed c least a b → Alike p unclosed c least a other
unsaid other low (inl on) =
    let further = on.further in
    inl (record {
      value = on.value;
      following = on.following;
      left = on.left;
      rest = on.rest;
      here = on.here;
      further = on.further;
      enough = on.enough;
      no_close = on.no_close;
      is = on.is;
      same = λ lt. absurd (omega arith);
    })
unsaid other low (inr stop) =
    let further = stop.further in
    inr (record {
      fault = stop.fault;
      decided = stop.decided;
      further = stop.further;
      no_close = stop.no_close;
      stands = stop.stands;
      is = stop.is;
      same = λ le. absurd (omega arith);
    })

-- Less is said of it.
pub loosened : {X : Type 0} {p : Pair} {unclosed : Bool} {c least : ℕ} {a b : Parsed X} → Alike p unclosed c least a b → Alike p unclosed c c a b
loosened (inl on) = inl (record { value = on.value; following = on.following; left = on.left; rest = on.rest; here = on.here; further = on.further; enough = on.further; no_close = on.no_close; is = on.is; same = on.same })
loosened (inr stop) = inr stop

pub lessened : {X : Type 0} {p : Pair} {unclosed : Bool} {c least more : ℕ} {a b : Parsed X} → least ≤ more → Alike p unclosed c more a b → Alike p unclosed c least a b
lessened le (inl on) =
    let enough = on.enough in
    inl (record { value = on.value; following = on.following; left = on.left; rest = on.rest; here = on.here; further = on.further; enough = omega arith; no_close = on.no_close; is = on.is; same = on.same })
lessened le (inr stop) = inr stop

pub noisy : {X : Type 0} {p : Pair} {unclosed : Bool} {c least : ℕ} {a b : Parsed X} → Alike p unclosed c least a b → Alike p false c least a b
noisy (inl on) = inl (record { value = on.value; following = on.following; left = on.left; rest = on.rest; here = on.here; further = on.further; enough = on.enough; no_close = tt; is = on.is; same = on.same })
noisy {p = p} {unclosed = unclosed} (inr stop) = inr (record {
  fault = stop.fault;
  decided = stop.decided;
  further = stop.further;
  no_close = tt;
  stands = anywhere unclosed p stop.fault stop.decided stop.stands;
  is = stop.is;
  same = stop.same;
})

-- from fewer tokens on
pub onward : {X : Type 0} {p : Pair} {unclosed : Bool} {c d least : ℕ} {a b : Parsed X} → c ≤ d → Unclosed unclosed p c d → Alike p unclosed d least a b → Alike p unclosed c least a b
onward {p = p} {unclosed = unclosed} {c = c} {d = d} le no_close (inl on) =
    let further = on.further in
    inl (record {
      value = on.value;
      following = on.following;
      left = on.left;
      rest = on.rest;
      here = on.here;
      further = omega arith;
      enough = on.enough;
      no_close = both_unclosed unclosed p c d on.following no_close on.no_close;
      is = on.is;
      same = on.same;
    })
onward {p = p} {unclosed = unclosed} {c = c} {d = d} le no_close (inr stop) =
    let further = stop.further in
    inr (record {
      fault = stop.fault;
      decided = stop.decided;
      further = omega arith;
      no_close = both_unclosed unclosed p c d (stop.decided - 1) no_close stop.no_close;
      stands = stop.stands;
      is = stop.is;
      same = stop.same;
    })

pub reached : {X : Type 0} {p : Pair} {unclosed : Bool} {c d least : ℕ} {t u : List Token} (x : X) → Here p d t u → c ≤ d → least ≤ d → Unclosed unclosed p c d
    → Alike p unclosed c least (Ok (x, t)) (Ok (x, u))
reached {d = d} {t = t} {u = u} x here further enough no_close = inl (record {
  value = x;
  following = d;
  left = t;
  rest = u;
  here = here;
  further = further;
  enough = enough;
  no_close = no_close;
  is = refl;
  same = λ lt. refl;
})

pub ended : {X : Type 0} {p : Pair} {unclosed : Bool} {c : ℕ} {t u : List Token} (x : X) → Here p c t u → Alike p unclosed c c (Ok (x, t)) (Ok (x, u))
ended {p = p} {unclosed = unclosed} {c = c} x here = reached x here (omega arith) (omega arith) (none unclosed p c c (omega arith))

bind_joined : {A B C : Type 0} (a : Judged A) (f : A → Judged B) (g : B → Judged C) → (a >>= f) >>= g ≡ a >>= (λ x. f x >>= g)
bind_joined (Ok x) f g = refl
bind_joined (Err e) f g = refl

-- parts of a part
pub joined : {A B Y : Type 0} {p : Pair} {unclosed : Bool} {c least : ℕ} (a b : Judged A) (f g : A → Judged B) (h k : B → Parsed Y)
    → Alike p unclosed c least (a >>= (λ x. f x >>= h)) (b >>= (λ x. g x >>= k)) → Alike p unclosed c least ((a >>= f) >>= h) ((b >>= g) >>= k)
joined a b f g h k alike = rw (bind_joined a f h, bind_joined b g k) alike

-- a fault of one kind, told with its place
pub record Teller (fault : ℕ → PolicyFault) (following : ℕ) : Type 0 where
  pub place_is : (at : ℕ) → place (fault at) ≡ at
  pub ahead_is : (at : ℕ) → ahead (fault at) ≡ following

pub told : {X : Type 0} {p : Pair} {unclosed : Bool} {c least i l : ℕ} {t u : List Token} (fault : ℕ → PolicyFault) → Teller fault l → Here p i t u → c ≤ i + l
    → Unclosed unclosed p c (i + l) → Alike {X = X} p unclosed c least (Err (fault (front_at t))) (Err (fault (front_at u)))
told {p = p} {unclosed = unclosed} {c = c} {i = i} {l = l} {t = t} {u = u} fault teller here low no_close =
    let count : i + 1 + l - 1 ≡ i + l = omega arith in
    inr (record {
      fault = fault (front_at t);
      decided = i + 1 + l;
      further = omega arith;
      no_close = subst (λ (n : ℕ). Unclosed unclosed p c n) (sym count) no_close;
      stands = near unclosed p (fault (front_at t)) (i + 1 + l) (record {
        index = i;
        inside = here.inside;
        at = teller.place_is (front_at t) ∙ ap front_at here.one;
        decided = sym (ap (λ (n : ℕ). i + 1 + n) (teller.ahead_is (front_at t)));
      });
      is = refl;
      same = λ le. ap (λ (at : ℕ). Err (fault at)) (sym (front_same here (omega arith)));
    })

stopped : {X Y : Type 0} {p : Pair} {unclosed : Bool} {c : ℕ} {a b : Judged X} (f g : X → Judged Y) → Stops p unclosed c a b → Stops p unclosed c (a >>= f) (b >>= g)
stopped f g stop = record {
  fault = stop.fault;
  decided = stop.decided;
  further = stop.further;
  no_close = stop.no_close;
  stands = stop.stands;
  is = rw stop.is refl;
  same = λ le. rw (stop.same le) refl;
}

gone_on : {X Y : Type 0} {p : Pair} {unclosed : Bool} {c least : ℕ} {a b : Parsed X} (f g : X × List Token → Parsed Y) (on : GoesOn p unclosed c least a b)
    → Alike p unclosed on.following on.following (f (on.value, on.left)) (g (on.value, on.rest)) → Alike p unclosed c least (a >>= f) (b >>= g)
gone_on {p = p} {unclosed = unclosed} {c = c} {b = b} f g on (inl more) =
    let first = on.further in
    let enough = on.enough in
    let second = more.further in
    inl (record {
      value = more.value;
      following = more.following;
      left = more.left;
      rest = more.rest;
      here = more.here;
      further = omega arith;
      enough = omega arith;
      no_close = both_unclosed unclosed p c on.following more.following on.no_close more.no_close;
      is = rw on.is more.is;
      same = λ lt. rw (on.same (omega arith)) (more.same lt);
    })
gone_on {p = p} {unclosed = unclosed} {c = c} {b = b} f g on (inr stop) =
    let first = on.further in
    let second = stop.further in
    let reached : stop.decided ≤ p.agreed → b ≡ Ok (on.value, on.rest) = λ le. on.same (omega arith) in
    inr (record {
      fault = stop.fault;
      decided = stop.decided;
      further = omega arith;
      no_close = both_unclosed unclosed p c on.following (stop.decided - 1) on.no_close stop.no_close;
      stands = stop.stands;
      is = rw on.is stop.is;
      same = λ le. rw (reached le) (stop.same le);
    })

-- a part of some tokens, and then the others
pub then_some : {X Y : Type 0} {p : Pair} {unclosed : Bool} {c least : ℕ} {a b : Parsed X} (f g : X × List Token → Parsed Y) → Alike p unclosed c least a b
    → ((x : X) (d : ℕ) (t u : List Token) → least ≤ d → Here p d t u → Alike p unclosed d d (f (x, t)) (g (x, u)))
    → Alike p unclosed c least (a >>= f) (b >>= g)
then_some f g (inr stop) rest = inr (stopped f g stop)
then_some f g (inl on) rest = gone_on f g on (rest on.value on.following on.left on.rest on.enough on.here)

-- a part in which no `)` stands, and then others in which one may
pub then_open : {X Y : Type 0} {p : Pair} {c least : ℕ} {a b : Parsed X} (f g : X × List Token → Parsed Y) → Alike p true c least a b
    → ((x : X) (d : ℕ) (t u : List Token) → c ≤ d → least ≤ d → NoClose p c d → Here p d t u → Alike p false d d (f (x, t)) (g (x, u)))
    → Alike p false c least (a >>= f) (b >>= g)
then_open f g (inr stop) rest = noisy (inr (stopped f g stop))
then_open f g (inl on) rest =
    gone_on f g (record { value = on.value; following = on.following; left = on.left; rest = on.rest; here = on.here; further = on.further; enough = on.enough; no_close = tt; is = on.is; same = on.same })
    (rest on.value on.following on.left on.rest on.further on.enough on.no_close on.here)

-- a part, and then the others
pub then : {X Y : Type 0} {p : Pair} {unclosed : Bool} {c least : ℕ} {a b : Parsed X} (f g : X × List Token → Parsed Y) → Alike p unclosed c least a b
    → ((x : X) (d : ℕ) (t u : List Token) → least ≤ d → Here p d t u → Alike p unclosed d d (f (x, t)) (g (x, u)))
    → Alike p unclosed c c (a >>= f) (b >>= g)
then f g part rest = loosened (then_some f g part rest)

-- a test that both pass or fail, and then the others
pub tested : {Y : Type 0} {p : Pair} {unclosed : Bool} {c least : ℕ} (test : Bool) (a b : PolicyFault) (f g : Unit {0} → Parsed Y)
    → Alike {X = Y} p unclosed c least (Err a) (Err b) → (test ≡ true → Alike p unclosed c least (f tt) (g tt))
    → Alike p unclosed c least (need test a >>= f) (need test b >>= g)
tested true a b f g fails rest = rest refl
tested false a b f g fails rest = fails

-- what is found by both, and then the others
pub given : {V Y : Type 0} {p : Pair} {unclosed : Bool} {c least : ℕ} (found : Option V) (a b : PolicyFault) (f g : V → Parsed Y)
    → Alike {X = Y} p unclosed c least (Err a) (Err b) → ((v : V) → found ≡ Some v → Alike p unclosed c least (f v) (g v))
    → Alike p unclosed c least (ok_or found a >>= f) (ok_or found b >>= g)
given (Some v) a b f g fails rest = rest v refl
given None a b f g fails rest = fails

-- what both do by what they see of the next token
pub peeked : {V Y : Type 0} {p : Pair} {unclosed : Bool} {c least : ℕ} {t u : List Token} (see : List Token → V) (f g : V → Parsed Y) → IsOfFirst see → Here p c t u
    → ((v : V) → see t ≡ v → Alike p unclosed c least (f v) (g v)) → Alike p unclosed c least (f (see t)) (g (see u))
peeked {V = V} {Y = Y} {p = p} {unclosed = unclosed} {c = c} {least = least} {t = t} {u = u} see f g first here alike = ⊎_elim
    (λ lt. subst (λ (v : V). Alike p unclosed c least (f (see t)) (g v)) (seen_same see first here lt) (alike (see t) refl))
    (λ low. unsaid (g (see u)) low (alike (see t) refl))
    (within c p.agreed)

pub either : {Y : Type 0} {p : Pair} {unclosed : Bool} {c least : ℕ} {t u : List Token} (see : List Token → Bool) (a x b y : Parsed Y) → IsOfFirst see → Here p c t u
    → (see t ≡ true → Alike p unclosed c least a b) → (see t ≡ false → Alike p unclosed c least x y) → Alike p unclosed c least (cond (see t) a x) (cond (see u) b y)
either {Y = Y} {p = p} {unclosed = unclosed} {c = c} {least = least} {t = t} see a x b y first here on_true on_false =
    peeked see (λ v. cond v a x) (λ v. cond v b y) first here by where
      by : (v : Bool) → see t ≡ v → Alike p unclosed c least (cond v a x) (cond v b y)
      by true e = on_true e
      by false e = on_false e

pub either_then : {X Y : Type 0} {p : Pair} {unclosed : Bool} {c least : ℕ} {t u : List Token} (see : List Token → Bool) (a x b y : Parsed X) (f g : X × List Token → Parsed Y)
    → IsOfFirst see → Here p c t u → (see t ≡ true → Alike p unclosed c least (a >>= f) (b >>= g)) → (see t ≡ false → Alike p unclosed c least (x >>= f) (y >>= g))
    → Alike p unclosed c least (cond (see t) a x >>= f) (cond (see u) b y >>= g)
either_then {X = X} {Y = Y} {p = p} {unclosed = unclosed} {c = c} {least = least} {t = t} see a x b y f g first here on_true on_false =
    peeked see (λ v. cond v a x >>= f) (λ v. cond v b y >>= g) first here by where
      by : (v : Bool) → see t ≡ v → Alike p unclosed c least (cond v a x >>= f) (cond v b y >>= g)
      by true e = on_true e
      by false e = on_false e

-- ---- single tokens

pub syntax : Teller faults.Syntax 0
syntax = record { place_is = λ at. refl; ahead_is = λ at. refl }

pub unknown : Teller faults.Name 0
unknown = record { place_is = λ at. refl; ahead_is = λ at. refl }

pub of_kind : Teller faults.Kind 1
of_kind = record { place_is = λ at. refl; ahead_is = λ at. refl }

pub of_range : Teller faults.Range 1
of_range = record { place_is = λ at. refl; ahead_is = λ at. refl }

pub twice : Teller faults.Twice 1
twice = record { place_is = λ at. refl; ahead_is = λ at. refl }

pub limit : Teller faults.Limit 1
limit = record { place_is = λ at. refl; ahead_is = λ at. refl }

-- The sign or keyword is not `)`, where none is to stand.
abbrev pub IsApart : Bool → List ℕ → Type 0
IsApart true text = bytes_eq text (codes ")") ≡ false
IsApart false text = Unit {0}

pub one_unclosed : {p : Pair} {c : ℕ} {t u : List Token} → Here p c t u → is_next (codes ")") t ≡ false → NoClose p c (c + 1)
one_unclosed {p = p} {c = c} here e = λ j low high.
    let same : c ≡ j = omega arith in
    subst (λ (i : ℕ). is_next (codes ")") (drop i p.one) ≡ false) same (subst (λ (x : List Token). is_next (codes ")") x ≡ false) here.one e)

no_close_quoted : (text : List ℕ) (l : Lexeme) → bytes_eq text (codes ")") ≡ false → quotes text l ≡ true → quotes (codes ")") l ≡ false
no_close_quoted text (Quoted word) apart e = let same : word ≡ text = (bytes_eq-Decides word text).0 e in rw same apart
no_close_quoted text (Name word) apart e = refl
no_close_quoted text (Number n) apart e = refl
no_close_quoted text Wrong apart e = refl
no_close_quoted text End apart e = refl

no_close_next : (text : List ℕ) (t : List Token) → bytes_eq text (codes ")") ≡ false → is_next text t ≡ true → is_next (codes ")") t ≡ false
no_close_next text [] apart e = refl
no_close_next text (x ∷ t) apart e = no_close_quoted text x.lexeme apart e

pub apart_unclosed : {p : Pair} {c : ℕ} {t u : List Token} (unclosed : Bool) (text : List ℕ) → IsApart unclosed text → Here p c t u → is_next text t ≡ true → Unclosed unclosed p c (c + 1)
apart_unclosed {t = t} true text apart here e = one_unclosed here (no_close_next text t apart e)
apart_unclosed false text apart here e = tt

-- a keyword or a sign, and then the others
pub after : {Y : Type 0} {p : Pair} {unclosed : Bool} {c least : ℕ} {t u : List Token} (text : List ℕ) (f g : List Token → Parsed Y) → IsApart unclosed text → Here p c t u
    → (Here p (c + 1) (drop 1 t) (drop 1 u) → Alike p unclosed (c + 1) least (f (drop 1 t)) (g (drop 1 u)))
    → Alike p unclosed c least (following text t >>= f) (following text u >>= g)
after {Y = Y} {p = p} {unclosed = unclosed} {c = c} {least = least} {t = t} {u = u} text f g apart here rest =
    peeked (is_next text) (λ v. cond v (Ok (drop 1 t)) (Err (faults.Syntax (front_at t))) >>= f)
    (λ v. cond v (Ok (drop 1 u)) (Err (faults.Syntax (front_at u))) >>= g) (λ x t u. refl) here by where
      by : (v : Bool) → is_next text t ≡ v
          → Alike {X = Y} p unclosed c least (cond v (Ok (drop 1 t)) (Err (faults.Syntax (front_at t))) >>= f) (cond v (Ok (drop 1 u)) (Err (faults.Syntax (front_at u))) >>= g)
      by true e = onward (omega arith) (apart_unclosed unclosed text apart here e) (rest (next here (next_goes_on text t e)))
      by false e = told faults.Syntax syntax here (omega arith) (none unclosed p c (c + 0) (omega arith))

-- what the next token is, and then the others
pub taking : {V Y : Type 0} {p : Pair} {unclosed : Bool} {c least : ℕ} {t u : List Token} (see : List Token → Option V) (f g : V × List Token → Parsed Y) → IsOfFirst see
    → ((v : V) → see t ≡ Some v → goes_on t ≡ true) → Here p c t u
    → ((v : V) → see t ≡ Some v → Here p (c + 1) (drop 1 t) (drop 1 u) → Alike p unclosed c least (f (v, drop 1 t)) (g (v, drop 1 u)))
    → Alike p unclosed c least (taken (see t) t >>= f) (taken (see u) u >>= g)
taking {V = V} {Y = Y} {p = p} {unclosed = unclosed} {c = c} {least = least} {t = t} {u = u} see f g first goes here rest =
    peeked see (λ v. taken v t >>= f) (λ v. taken v u >>= g) first here by where
      by : (v : Option V) → see t ≡ v → Alike {X = Y} p unclosed c least (taken v t >>= f) (taken v u >>= g)
      by (Some v) e = rest v e (next here (goes v e))
      by None e = told faults.Syntax syntax here (omega arith) (none unclosed p c (c + 0) (omega arith))

names_word : (l : Lexeme) (name : List ℕ) → names l ≡ Some name → is_word l ≡ true
names_word (Quoted word) name e = refl
names_word (Name word) name e = refl
names_word (Number n) name e = refl
names_word Wrong name e = absurd cc
names_word End name e = absurd cc

pub name_goes_on : (t : List Token) (name : List ℕ) → next_name t ≡ Some name → goes_on t ≡ true
name_goes_on [] name e = absurd cc
name_goes_on (x ∷ t) name e = names_word x.lexeme name e

names_no_close : (l : Lexeme) (name : List ℕ) → names l ≡ Some name → quotes (codes ")") l ≡ false
names_no_close (Quoted word) name e = absurd cc
names_no_close (Name word) name e = refl
names_no_close (Number n) name e = refl
names_no_close Wrong name e = refl
names_no_close End name e = refl

name_no_close : (t : List Token) (name : List ℕ) → next_name t ≡ Some name → is_next (codes ")") t ≡ false
name_no_close [] name e = absurd cc
name_no_close (x ∷ t) name e = names_no_close x.lexeme name e

pub name_unclosed : {p : Pair} {c : ℕ} {t u : List Token} (unclosed : Bool) (name : List ℕ) → Here p c t u → next_name t ≡ Some name → Unclosed unclosed p c (c + 1)
name_unclosed {t = t} true name here e = one_unclosed here (name_no_close t name e)
name_unclosed false name here e = tt

counts_word : (l : Lexeme) (n : ℕ) → counts l ≡ Some n → is_word l ≡ true
counts_word (Quoted word) n e = refl
counts_word (Name word) n e = refl
counts_word (Number m) n e = refl
counts_word Wrong n e = absurd cc
counts_word End n e = absurd cc

pub number_goes_on : (t : List Token) (n : ℕ) → next_number t ≡ Some n → goes_on t ≡ true
number_goes_on [] n e = absurd cc
number_goes_on (x ∷ t) n e = counts_word x.lexeme n e

-- a name that may yet be judged at its own place
pub naming : {Y : Type 0} {p : Pair} {unclosed : Bool} {c least : ℕ} {t u : List Token} (f g : List ℕ × List Token → Parsed Y) → Here p c t u
    → ((name : List ℕ) → Here p (c + 1) (drop 1 t) (drop 1 u) → Alike p unclosed c least (f (name, drop 1 t)) (g (name, drop 1 u)))
    → Alike p unclosed c least (name_at t >>= f) (name_at u >>= g)
naming {t = t} f g here rest = taking next_name f g (λ x t u. refl) (name_goes_on t) here (λ name e more. rest name more)

-- a name, and then the others
pub named : {Y : Type 0} {p : Pair} {unclosed : Bool} {c least : ℕ} {t u : List Token} (f g : List ℕ × List Token → Parsed Y) → Here p c t u
    → ((name : List ℕ) → Here p (c + 1) (drop 1 t) (drop 1 u) → Alike p unclosed (c + 1) least (f (name, drop 1 t)) (g (name, drop 1 u)))
    → Alike p unclosed c least (name_at t >>= f) (name_at u >>= g)
named {unclosed = unclosed} {t = t} f g here rest = taking next_name f g (λ x t u. refl) (name_goes_on t) here
    (λ name e more. onward (omega arith) (name_unclosed unclosed name here e) (rest name more))

-- a number, and then the others
pub numbered : {Y : Type 0} {p : Pair} {c least : ℕ} {t u : List Token} (f g : ℕ × List Token → Parsed Y) → Here p c t u
    → ((n : ℕ) → Here p (c + 1) (drop 1 t) (drop 1 u) → Alike p false (c + 1) least (f (n, drop 1 t)) (g (n, drop 1 u)))
    → Alike p false c least (number_at t >>= f) (number_at u >>= g)
numbered {t = t} f g here rest = taking next_number f g (λ x t u. refl) (number_goes_on t) here
    (λ n e more. onward (omega arith) tt (rest n more))

-- a name that is known to stand in both
pub knowing : {Y : Type 0} {p : Pair} {unclosed : Bool} {c d least : ℕ} {t u : List Token} (name : List ℕ) (f g : List ℕ × List Token → Parsed Y) → Here p c t u
    → next_name t ≡ Some name → c < p.agreed → (Here p (c + 1) (drop 1 t) (drop 1 u) → Alike p unclosed d least (f (name, drop 1 t)) (g (name, drop 1 u)))
    → Alike p unclosed d least (name_at t >>= f) (name_at u >>= g)
knowing {t = t} {u = u} name f g here is lt rest =
    let other : next_name u ≡ Some name = sym (seen_same next_name (λ x t u. refl) here lt) ∙ is in
    rw (is, other) (rest (next here (name_goes_on t name is)))

-- a number that may yet be judged with what stands before it
pub numbering : {Y : Type 0} {p : Pair} {unclosed : Bool} {c least : ℕ} {t u : List Token} (f g : ℕ × List Token → Parsed Y) → Here p c t u
    → ((n : ℕ) → Here p (c + 1) (drop 1 t) (drop 1 u) → Alike p unclosed c least (f (n, drop 1 t)) (g (n, drop 1 u)))
    → Alike p unclosed c least (number_at t >>= f) (number_at u >>= g)
numbering {t = t} f g here rest = taking next_number f g (λ x t u. refl) (number_goes_on t) here (λ n e more. rest n more)

-- ---- repetitions

left_of : {p : Pair} {c d n : ℕ} {t u x y : List Token} → Here p c t u → Here p d x y → c + 1 ≤ d → length t ≤ suc n → length x ≤ n
left_of {p = p} {c = c} {d = d} {t = t} {x = x} first second lt few =
    let one : length t ≡ length p.one - c = ap length first.one ∙ length-drop c p.one in
    let two : length x ≡ length p.one - d = ap length second.one ∙ length-drop d p.one in
    omega arith

rest_of : {p : Pair} {c d n : ℕ} {t u x y : List Token} → Here p c t u → Here p d x y → c + 1 ≤ d → length u ≤ suc n → length y ≤ n
rest_of {p = p} {c = c} {d = d} {u = u} {y = y} first second lt few =
    let one : length u ≡ length p.other - c = ap length first.other ∙ length-drop c p.other in
    let two : length y ≡ length p.other - d = ap length second.other ∙ length-drop d p.other in
    omega arith

some_left : {p : Pair} {c : ℕ} {t u : List Token} → Here p c t u → 0 < length t
some_left {p = p} {c = c} {t = t} here =
    let one : length t ≡ length p.one - c = ap length here.one ∙ length-drop c p.one in
    let inside = here.inside in
    omega arith

module _ {S : Type 0} {p : Pair} {unclosed : Bool} (more : List Token → Bool) (part : S → List Token → Parsed S) (first : IsOfFirst more)
    (step : (s : S) (c : ℕ) (t u : List Token) → Here p c t u → more t ≡ true → Alike p unclosed c (c + 1) (part s t) (part s u)) where
  abbrev Later : ℕ → Type 0
  Later n = (m : ℕ) (next : S) (d : ℕ) (x y : List Token) → Here p d x y → length x ≤ n → length y ≤ m
      → Alike p unclosed d d (repeated more part n next x) (repeated more part m next y)

  repeated_alike : (n m : ℕ) (s : S) (c : ℕ) (t u : List Token) → Here p c t u → length t ≤ n → length u ≤ m
      → Alike p unclosed c c (repeated more part n s t) (repeated more part m s u)
  unfolding repeated
  repeated_alike zero m s c t u here few others = absurd (let some = some_left here in omega arith)
  repeated_alike (suc n) m s c t u here few others = by (λ m next d x y there enough low. repeated_alike n m next d x y there enough low) m others where
    both : Later n → (m : ℕ) → length u ≤ suc m → Alike p unclosed c c (repeated more part (suc n) s t) (repeated more part (suc m) s u)
    both later m others = either more _ _ _ _ first here
        (λ goes. loosened (then_some (λ r. repeated more part n r.0 r.1) (λ r. repeated more part m r.0 r.1) (step s c t u here goes)
        (λ next d x y enough there. later m next d x y there (left_of here there enough few) (rest_of here there enough others))))
        (λ stops. ended s here)

    by : Later n → (m : ℕ) → length u ≤ m → Alike p unclosed c c (repeated more part (suc n) s t) (repeated more part m s u)
    by later zero others = ⊎_elim
        (λ lt. let s = shared here lt in let e = ap length s.other in absurd (omega arith))
        (λ low. unsaid (repeated more part zero s u) low (both later zero (omega arith)))
        (within c p.agreed)
    by later (suc m) others = both later m others

  pub each_alike : (s : S) (c : ℕ) (t u : List Token) → Here p c t u → Alike p unclosed c c (each more part s t) (each more part s u)
  each_alike s c t u here = repeated_alike (length t) (length u) s c t u here (omega arith) (omega arith)

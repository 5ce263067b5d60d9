-- What is encoded is read, made from the laws of the parts, a line for each part, in the reading's order.
use Rattle.std.proofs.Common.{◌≡◌, ℕ, zero, suc, ◌≤◌, Bool, true, false, cond, List, [], ◌∷◌, ◌++◌, length, drop, Option, Some, None, Ok, refl, sym, ap, subst, ◌∙◌, arith, append_assoc, length-append}
use Rattle.std.specs.Prelude.{is_some, ok_or, bytes_eq}
use Rattle.std.specs.List.{flat_map}
use Rattle.std.proofs.lemmas.List.{append-nil, length-map}
use Rattle.std.proofs.lemmas.Slice.Eq.{bytes_eq-Decides}
use Rattle.mon_base.specs.Reading.{◌>>=◌, need}
use Rattle.conspec_tokens.specs.declared.token.Lexeme.{Lexeme}
use Rattle.conspec_tokens.specs.declared.token.Lexeme.TheVariants.{Quoted, Name, Number}
use Rattle.conspec_tokens.specs.declared.token.Token.{Token}
use Rattle.conspec_parse.specs.declared.fault.PolicyFault.{PolicyFault}
use Rattle.conspec_parse.specs.Fault.{Judged}
use Rattle.conspec_parse.specs.Forms.{Parsed, following, taken, name_at, number_at, repeated, each}
use Rattle.conspec_tokens.specs.Front.{quotes, is_next, names, next_name, is_name, counts, next_number}
use Rattle.conspec_parse.specs.Meaning.{lexemes}

-- ---- readings

-- The reading gives x, and tokens of these words are left.
pub record Got {X : Type 0} (read : Parsed X) (x : X) (words : List Lexeme) : Type 0 where
  pub rest : List Token
  pub is : read ≡ Ok (x, rest)
  pub left : lexemes rest ≡ words

-- Tokens of these words are left.
pub record Left (read : Judged (List Token)) (words : List Lexeme) : Type 0 where
  pub rest : List Token
  pub is : read ≡ Ok rest
  pub left : lexemes rest ≡ words

pub ended : {X : Type 0} {words : List Lexeme} (x : X) (rest : List Token) → lexemes rest ≡ words → Got (Ok (x, rest)) x words
ended x rest left = record { rest = rest; is = refl; left = left }

pub ended_as : {X : Type 0} {words : List Lexeme} (x y : X) (rest : List Token) → x ≡ y → lexemes rest ≡ words → Got (Ok (x, rest)) y words
ended_as x y rest same left = record { rest = rest; is = ap (λ z. Ok (z, rest)) same; left = left }

pub gets : {X Y : Type 0} {read : Parsed X} {x : X} {words more : List Lexeme} {y : Y} (others : X × List Token → Parsed Y)
    → Got read x words → ((rest : List Token) → lexemes rest ≡ words → Got (others (x, rest)) y more) → Got (read >>= others) y more
gets others first next =
    let n = next first.rest first.left in
    let is = first.is in
    record { rest = n.rest; is = rw is n.is; left = n.left }

pub passes : {Y : Type 0} {read : Judged (List Token)} {words more : List Lexeme} {y : Y} (others : List Token → Parsed Y)
    → Left read words → ((rest : List Token) → lexemes rest ≡ words → Got (others rest) y more) → Got (read >>= others) y more
passes others first next =
    let n = next first.rest first.left in
    let is = first.is in
    record { rest = n.rest; is = rw is n.is; left = n.left }

pub holds : {Y : Type 0} {more : List Lexeme} {y : Y} (test : Bool) (fault : PolicyFault) (others : Unit {0} → Parsed Y)
    → test ≡ true → Got (others tt) y more → Got (need test fault >>= others) y more
holds test fault others is next = record { rest = next.rest; is = rw is next.is; left = next.left }

pub there : {X Y : Type 0} {more : List Lexeme} {y : Y} (found : Option X) (x : X) (fault : PolicyFault) (others : X → Parsed Y)
    → found ≡ Some x → Got (others x) y more → Got (ok_or found fault >>= others) y more
there found x fault others is next = record { rest = next.rest; is = rw is next.is; left = next.left }

pub on_true : {Y : Type 0} {more : List Lexeme} {y : Y} (test : Bool) (read other : Parsed Y) → test ≡ true → Got read y more → Got (cond test read other) y more
on_true test read other is got = record { rest = got.rest; is = rw is got.is; left = got.left }

pub on_false : {Y : Type 0} {more : List Lexeme} {y : Y} (test : Bool) (read other : Parsed Y) → test ≡ false → Got other y more → Got (cond test read other) y more
on_false test read other is got = record { rest = got.rest; is = rw is got.is; left = got.left }

-- ---- words

-- whether the first word is this keyword or sign
abbrev pub heads : List ℕ → List Lexeme → Bool
heads text [] = false
heads text (l ∷ words) = quotes text l

abbrev pub head_name : List Lexeme → Option (List ℕ)
head_name [] = None
head_name (l ∷ words) = names l

abbrev pub head_number : List Lexeme → Option ℕ
head_number [] = None
head_number (l ∷ words) = counts l

next_of : (text : List ℕ) (tokens : List Token) → is_next text tokens ≡ heads text (lexemes tokens)
next_of text [] = refl
next_of text (t ∷ tokens) = refl

pub next_at : (text : List ℕ) (tokens : List Token) (words : List Lexeme) → lexemes tokens ≡ words → is_next text tokens ≡ heads text words
next_at text tokens words e = next_of text tokens ∙ ap (heads text) e

name_of : (tokens : List Token) → next_name tokens ≡ head_name (lexemes tokens)
name_of [] = refl
name_of (t ∷ tokens) = refl

pub name_here : (tokens : List Token) (words : List Lexeme) → lexemes tokens ≡ words → next_name tokens ≡ head_name words
name_here tokens words e = name_of tokens ∙ ap head_name e

pub is_name_here : (tokens : List Token) (words : List Lexeme) → lexemes tokens ≡ words → is_name tokens ≡ is_some (head_name words)
is_name_here tokens words e = ap is_some (name_here tokens words e)

number_of : (tokens : List Token) → next_number tokens ≡ head_number (lexemes tokens)
number_of [] = refl
number_of (t ∷ tokens) = refl

pub drop_one : (tokens : List Token) (l : Lexeme) (words : List Lexeme) → lexemes tokens ≡ l ∷ words → lexemes (drop 1 tokens) ≡ words
drop_one [] l words e = absurd cc
drop_one (t ∷ tokens) l words e = cc

pub same_bytes : (text : List ℕ) → bytes_eq text text ≡ true
same_bytes text = (bytes_eq-Decides text text).1 refl

pub next_quoted : (text : List ℕ) (tokens : List Token) (words : List Lexeme) → lexemes tokens ≡ Quoted text ∷ words → is_next text tokens ≡ true
next_quoted text tokens words e = next_at text tokens (Quoted text ∷ words) e ∙ same_bytes text

pub after_again : (text : List ℕ) (tokens : List Token) (words : List Lexeme) → lexemes tokens ≡ Quoted text ∷ words → Left (following text tokens) words
after_again text tokens words e =
    let is = next_quoted text tokens words e in
    record { rest = drop 1 tokens; is = rw is refl; left = drop_one tokens (Quoted text) words e }

pub taken_again : {X : Type 0} (found : Option X) (x : X) (tokens : List Token) (l : Lexeme) (words : List Lexeme) → found ≡ Some x → lexemes tokens ≡ l ∷ words → Got (taken found tokens) x words
taken_again found x tokens l words is e = record { rest = drop 1 tokens; is = rw is refl; left = drop_one tokens l words e }

pub name_again : (name : List ℕ) (tokens : List Token) (words : List Lexeme) → lexemes tokens ≡ Name name ∷ words → Got (name_at tokens) name words
name_again name tokens words e = taken_again (next_name tokens) name tokens (Name name) words (name_here tokens (Name name ∷ words) e) e

pub number_again : (n : ℕ) (tokens : List Token) (words : List Lexeme) → lexemes tokens ≡ Number n ∷ words → Got (number_at tokens) n words
number_again n tokens words e = taken_again (next_number tokens) n tokens (Number n) words (number_of tokens ∙ ap head_number e) e

-- ---- parts one after another

-- From s the parts lead to the end.
abbrev pub Path : {S W : Type 0} → (S → W → S → Type 0) → S → List W → S → Type 0
Path {S} Goes s [] end = s ≡ end
Path {S} Goes s (w ∷ ws) end = (next : S) × Goes s w next × Path Goes next ws end

-- no further part stands where these words do
abbrev pub Stops : (List Token → Bool) → List Lexeme → Type 0
Stops more words = (tokens : List Token) → lexemes tokens ≡ words → more tokens ≡ false

-- the laws of a part that is repeated
pub record Parts {S W : Type 0} (more : List Token → Bool) (part : S → List Token → Parsed S) (encode : W → List Lexeme) (Follows : List Lexeme → Type 0) (Goes : S → W → S → Type 0) : Type 0 where
  pub begins : (w : W) (words : List Lexeme) (tokens : List Token) → lexemes tokens ≡ encode w ++ words → more tokens ≡ true
  pub leads : (w : W) (words : List Lexeme) → Follows (encode w ++ words)
  pub long : (w : W) → 1 ≤ length (encode w)
  pub step : (s : S) (w : W) (next : S) (tokens : List Token) (words : List Lexeme) → Goes s w next → lexemes tokens ≡ encode w ++ words → Follows words → Got (part s tokens) next words

follows : {W : Type 0} (encode : W → List Lexeme) (Follows : List Lexeme → Type 0) (leads : (w : W) (words : List Lexeme) → Follows (encode w ++ words))
    (ws : List W) (words : List Lexeme) → Follows words → Follows (flat_map encode ws ++ words)
follows encode Follows leads [] words last = last
follows encode Follows leads (w ∷ ws) words last = subst Follows (sym (append_assoc (encode w) (flat_map encode ws) words)) (leads w (flat_map encode ws ++ words))

repeated_again : {S W : Type 0} (more : List Token → Bool) (part : S → List Token → Parsed S) (encode : W → List Lexeme) (Follows : List Lexeme → Type 0) (Goes : S → W → S → Type 0)
    → Parts more part encode Follows Goes → (ws : List W) (n : ℕ) (s end : S) (tokens : List Token) (words : List Lexeme) → length ws ≤ n → Path Goes s ws end
    → lexemes tokens ≡ flat_map encode ws ++ words → Follows words → Stops more words → Got (repeated more part n s tokens) end words
unfolding repeated
repeated_again more part encode Follows Goes laws [] zero s end tokens words le path e last stops = ended_as s end tokens path e
repeated_again more part encode Follows Goes laws [] (suc n) s end tokens words le path e last stops =
    on_false (more tokens) _ _ (stops tokens e) (ended_as s end tokens path e)
repeated_again more part encode Follows Goes laws (w ∷ ws) zero s end tokens words le path e last stops = absurd (omega arith)
repeated_again more part encode Follows Goes laws (w ∷ ws) (suc n) s end tokens words le path e last stops =
    let all : lexemes tokens ≡ encode w ++ (flat_map encode ws ++ words) = e ∙ append_assoc (encode w) (flat_map encode ws) words in
    let few : length ws ≤ n = omega arith in
    on_true (more tokens) _ _ (laws.begins w (flat_map encode ws ++ words) tokens all) (
    gets (λ r. repeated more part n r.0 r.1) (laws.step s w path.0 tokens (flat_map encode ws ++ words) path.1 all (follows encode Follows laws.leads ws words last)) λ rest left.
    repeated_again more part encode Follows Goes laws ws n path.0 end rest words few path.2 left last stops)

many : {W : Type 0} (encode : W → List Lexeme) (long : (w : W) → 1 ≤ length (encode w)) (ws : List W) → length ws ≤ length (flat_map encode ws)
many encode long [] = omega arith
many encode long (w ∷ ws) =
    let one = long w in
    let others = many encode long ws in
    let both = length-append (encode w) (flat_map encode ws) in
    omega arith

pub each_again : {S W : Type 0} (more : List Token → Bool) (part : S → List Token → Parsed S) (encode : W → List Lexeme) (Follows : List Lexeme → Type 0) (Goes : S → W → S → Type 0)
    → Parts more part encode Follows Goes → (ws : List W) (s end : S) (tokens : List Token) (words : List Lexeme) → Path Goes s ws end
    → lexemes tokens ≡ flat_map encode ws ++ words → Follows words → Stops more words → Got (each more part s tokens) end words
each_again more part encode Follows Goes laws ws s end tokens words path e last stops =
    let some = many encode laws.long ws in
    let both = length-append (flat_map encode ws) words in
    let size : length (lexemes tokens) ≡ length tokens = length-map tokens (λ (t : Token). t.lexeme) in
    let all : length tokens ≡ length (flat_map encode ws ++ words) = sym size ∙ ap length e in
    repeated_again more part encode Follows Goes laws ws (length tokens) s end tokens words (omega arith) path e last stops

-- ---- lists that grow

-- One list gives the other, an item for each, where the items before are known.
abbrev pub Steps : {W X : Type 0} → (List X → W → X → Type 0) → List X → List W → List X → Type 0
Steps Is before [] [] = Unit {0}
Steps Is before [] (x ∷ xs) = ⊥
Steps Is before (w ∷ ws) [] = ⊥
Steps Is before (w ∷ ws) (x ∷ xs) = Is before w x × Steps Is (before ++ x ∷ []) ws xs

abbrev pub Grows : {W X : Type 0} → (List X → W → X → Type 0) → List X → W → List X → Type 0
Grows {W} {X} Is before w after = (x : X) × (after ≡ before ++ x ∷ []) × Is before w x

pub grows : {W X : Type 0} (Is : List X → W → X → Type 0) (before : List X) (ws : List W) (xs : List X) → Steps Is before ws xs → Path (Grows Is) before ws (before ++ xs)
grows Is before [] [] steps = sym (append-nil before)
grows Is before [] (x ∷ xs) steps = absurd steps
grows Is before (w ∷ ws) [] steps = absurd steps
grows {X = X} Is before (w ∷ ws) (x ∷ xs) steps =
    (before ++ x ∷ [], (x, refl, steps.0), subst (λ (end : List X). Path (Grows Is) (before ++ x ∷ []) ws end) (append_assoc before (x ∷ []) xs) (grows Is (before ++ x ∷ []) ws xs steps.1))

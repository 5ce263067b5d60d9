-- Before a fault of syntax stands the beginning of a written policy: the forms of the law, a line for each part of a reading, and types.
use Rattle.std.proofs.Common.{◌≡◌, ℕ, zero, suc, ◌+◌, ◌<◌, Bool, true, false, cond, List, [], ◌∷◌, ◌++◌, length, drop, Option, Some, None, Ok, Err, refl, sym, ◌∙◌, ap, subst, arith, append_assoc, length-append}
use Rattle.std.specs.Prelude.{ok_or, codes, not, ◌||◌}
use Rattle.std.specs.List.{AllByRecursion, flat_map}
use Rattle.std.proofs.lemmas.List.{append-nil, append_cancel_right, map-append}
use Rattle.mon_base.specs.Reading.{◌>>=◌, need}
use Rattle.mon_base.proofs.Reading.{ok_is}
use Rattle.conspec_tokens.specs.declared.token.Lexeme.{Lexeme}
use Rattle.conspec_tokens.specs.declared.token.Lexeme.TheVariants.{Quoted, Name, Number}
use Rattle.conspec_tokens.specs.declared.token.Token.{Token}
use Rattle.conspec_parse.specs.declared.type_name.TypeName.{TypeName}
use Rattle.conspec_parse.specs.declared.fault.PolicyFault.{PolicyFault}
use Rattle.conspec_parse.specs.declared.fault.PolicyFault.TheVariants as faults
use Rattle.conspec_parse.specs.Fault.{Judged}
use Rattle.conspec_parse.specs.Forms.{Parsed, following, name_at, number_at, taken, is_short, repeated, each}
use Rattle.conspec_tokens.specs.Front.{front_at, is_next, next_name, next_number}
use Rattle.conspec_parse.specs.Types.{judged_name, plain_type, next_part, class_at, class_type_at, element_of, element_at, dimension_at, type_at}
use Rattle.conspec_parse.specs.Written.{Element, WrittenType, Written, one_name, element_encoded, brackets_encoded, type_encoded, policy_encoded}
use Rattle.conspec_parse.specs.Written.Element.{Class}
use Rattle.conspec_parse.specs.Meaning.{lexemes}
use Rattle.conspec_parse.specs.Deciding.{BeginsPolicy, IsInGrammar}
use Rattle.conspec_parse.proofs.Alike.{goes_on, next_goes_on, name_goes_on, number_goes_on}
use Rattle.conspec_parse.proofs.AlikeTypes.{plain_goes_on}
use Rattle.conspec_parse.proofs.Found.{Took, next_is, next_name_is, next_number_is, plain_found, brackets_more, all_more_words}

-- ---- the forms

-- the tokens of a text, of which the last is its end
pub record Source : Type 0 where
  pub tokens : List Token
  pub ends : (i : ℕ) → goes_on (drop i tokens) ≡ true → suc i < length tokens

-- The words begin a written policy.
pub record Viable (words : List Lexeme) : Type 0 where
  pub written : Written
  pub whole : AllByRecursion IsInGrammar written.clauses
  pub more : List Lexeme
  pub is : policy_encoded written ≡ words ++ more

-- The tokens stand in the text after some with which each of these words begins a written policy.
pub record At (s : Source) (tokens : List Token) (Next : List Lexeme → Type 0) : Type 0 where
  pub before : List Token
  pub split : s.tokens ≡ before ++ tokens
  pub some : 0 < length tokens
  pub meant : (words : List Lexeme) → Next words → Viable (lexemes before ++ words)

-- What is read is so, and where the fault is one of syntax the tokens before it begin a written policy.
pub record Leads {X : Type 0} (s : Source) (read : Judged X) (Is : X → Type 0) : Type 0 where
  pub of : (x : X) → read ≡ Ok x → Is x
  pub begins : (at : ℕ) → read ≡ Err (faults.Syntax at) → BeginsPolicy s.tokens at

pub done : {X : Type 0} {s : Source} {Is : X → Type 0} (x : X) → Is x → Leads s (Ok x) Is
done {X = X} {Is = Is} x is = record { of = λ y e. subst Is (ok_is PolicyFault x y e) is; begins = λ at e. absurd cc }

abbrev pub is_syntax : PolicyFault → Bool
is_syntax (faults.Syntax at) = true
is_syntax other = false

pub otherwise : {X : Type 0} {s : Source} {Is : X → Type 0} (fault : PolicyFault) → is_syntax fault ≡ false → Leads s (Err fault) Is
otherwise fault plain = record {
  of = λ x e. absurd cc;
  begins = λ at e.
      let same : fault ≡ faults.Syntax at = cc in
      let is : is_syntax fault ≡ true = ap is_syntax same in
      absurd cc;
}

pub then : {X Y : Type 0} {s : Source} {read : Judged X} {Part : X → Type 0} {Is : Y → Type 0} (others : X → Judged Y)
    → Leads s read Part → ((x : X) → Part x → Leads s (others x) Is) → Leads s (read >>= others) Is
then {X = X} {Y = Y} {s = s} {read = read} {Part = Part} {Is = Is} others part rest = by read part where
  by : (read : Judged X) → Leads s read Part → Leads s (read >>= others) Is
  by (Ok x) part = rest x (part.of x refl)
  by (Err fault) part = record {
    of = λ y e. absurd cc;
    begins = λ at e. let same : fault ≡ faults.Syntax at = cc in part.begins at (ap Err same);
  }

pub tested : {Y : Type 0} {s : Source} {Is : Y → Type 0} (test : Bool) (fault : PolicyFault) (others : Unit {0} → Judged Y) → is_syntax fault ≡ false
    → Leads s (others tt) Is → Leads s (need test fault >>= others) Is
tested true fault others plain rest = rest
tested false fault others plain rest = otherwise fault plain

pub given : {X : Type 0} {s : Source} (found : Option X) (fault : PolicyFault) → is_syntax fault ≡ false → Leads s (ok_or found fault) (λ x. found ≡ Some x)
given (Some x) fault plain = done x refl
given None fault plain = otherwise fault plain

pub either : {Y : Type 0} {s : Source} {Is : Y → Type 0} (test : Bool) (read other : Judged Y)
    → (test ≡ true → Leads s read Is) → (test ≡ false → Leads s other Is) → Leads s (cond test read other) Is
either true read other on_true on_false = on_true refl
either false read other on_true on_false = on_false refl

pub said : {X : Type 0} {s : Source} {read : Judged X} {Part Is : X → Type 0} → Leads s read Part → ((x : X) → Part x → Is x) → Leads s read Is
said part to = record { of = λ x e. to x (part.of x e); begins = part.begins }

repeated_leads : {S : Type 0} {s : Source} (more : List Token → Bool) (part : S → List Token → Parsed S) (Is : S → List Token → Type 0)
    → ((x : S) (tokens : List Token) → more tokens ≡ true → Is x tokens → Leads s (part x tokens) (λ r. Is r.0 r.1))
    → (n : ℕ) (x : S) (tokens : List Token) → Is x tokens → Leads s (repeated more part n x tokens) (λ r. Is r.0 r.1)
unfolding repeated
repeated_leads more part Is step zero x tokens is = done (x, tokens) is
repeated_leads more part Is step (suc n) x tokens is =
    either (more tokens) _ _
    (λ goes. then (λ r. repeated more part n r.0 r.1) (step x tokens goes is) λ r kept. repeated_leads more part Is step n r.0 r.1 kept)
    (λ stops. done (x, tokens) is)

pub each_leads : {S : Type 0} {s : Source} (more : List Token → Bool) (part : S → List Token → Parsed S) (Is : S → List Token → Type 0)
    → ((x : S) (tokens : List Token) → more tokens ≡ true → Is x tokens → Leads s (part x tokens) (λ r. Is r.0 r.1))
    → (x : S) (tokens : List Token) → Is x tokens → Leads s (each more part x tokens) (λ r. Is r.0 r.1)
each_leads more part Is step x tokens is = repeated_leads more part Is step (length tokens) x tokens is

-- ---- single tokens

-- what may follow, in other words
pub meaning : {s : Source} {tokens : List Token} {Next Other : List Lexeme → Type 0} → At s tokens Next → ((words : List Lexeme) → Other words → Next words) → At s tokens Other
meaning at to = record { before = at.before; split = at.split; some = at.some; meant = λ words next. at.meant words (to words next) }

begun : {s : Source} {tokens : List Token} {Next : List Lexeme → Type 0} (words : List Lexeme) → At s tokens Next → Next words → BeginsPolicy s.tokens (front_at tokens)
begun {s = s} {tokens = tokens} words at next = by (at.meant words next) tokens at.some at.split where
  by : Viable (lexemes at.before ++ words) → (t : List Token) → 0 < length t → s.tokens ≡ at.before ++ t → BeginsPolicy s.tokens (front_at t)
  by v [] some split = absurd (omega arith)
  by v (x ∷ t) some split = record {
    before = at.before;
    here = x;
    following = t;
    there = refl;
    split = split;
    written = v.written;
    whole = v.whole;
    more = words ++ v.more;
    encoded = v.is ∙ append_assoc (lexemes at.before) words v.more;
  }

pub told : {X : Type 0} {s : Source} {tokens : List Token} {Next : List Lexeme → Type 0} {Is : X → Type 0} (words : List Lexeme) → At s tokens Next → Next words
    → Leads s (Err (faults.Syntax (front_at tokens))) Is
told {s = s} {tokens = tokens} words at next = record {
  of = λ x e. absurd cc;
  begins = λ here e. let same : front_at tokens ≡ here = cc in subst (BeginsPolicy s.tokens) same (begun words at next);
}

drop_before : (before tokens : List Token) → drop (length before) (before ++ tokens) ≡ tokens
drop_before [] tokens = refl
drop_before (x ∷ before) tokens = drop_before before tokens

-- one token further
pub moved : {s : Source} {tokens : List Token} {Next : List Lexeme → Type 0} (words : List Lexeme) → At s tokens Next → goes_on tokens ≡ true → Took tokens words (drop 1 tokens)
    → At s (drop 1 tokens) (λ more. Next (words ++ more))
moved {s = s} {tokens = tokens} {Next = Next} words at goes took = by tokens goes took at.split where
  by : (t : List Token) → goes_on t ≡ true → Took t words (drop 1 t) → s.tokens ≡ at.before ++ t → At s (drop 1 t) (λ more. Next (words ++ more))
  by [] goes took split = absurd cc
  by (x ∷ t) goes took split =
      let one : words ≡ x.lexeme ∷ [] = append_cancel_right words (x.lexeme ∷ []) (lexemes t) (sym took.is) in
      let here : drop (length at.before) s.tokens ≡ x ∷ t = rw split (drop_before at.before (x ∷ t)) in
      let inside : suc (length at.before) < length s.tokens = s.ends (length at.before) (rw here goes) in
      let all : length s.tokens ≡ length at.before + length (x ∷ t) = ap length split ∙ length-append at.before (x ∷ t) in
      record {
        before = at.before ++ x ∷ [];
        split = split ∙ sym (append_assoc at.before (x ∷ []) t);
        some = omega arith;
        meant = λ more next.
            let viable : Viable (lexemes at.before ++ (words ++ more)) = at.meant (words ++ more) next in
            let same : lexemes (at.before ++ x ∷ []) ++ more ≡ lexemes at.before ++ (words ++ more) =
            ap (λ (w : List Lexeme). w ++ more) (map-append (λ (t : Token). t.lexeme) at.before (x ∷ []))
            ∙ append_assoc (lexemes at.before) (x.lexeme ∷ []) more ∙ ap (λ (w : List Lexeme). lexemes at.before ++ (w ++ more)) (sym one) in
            subst Viable (sym same) viable;
      }

pub after : {s : Source} {t : List Token} {Next : List Lexeme → Type 0} (text : List ℕ) (words : List Lexeme) → At s t Next → Next words
    → Leads s (following text t) (λ rest. At s rest (λ more. Next (Quoted text ∷ more)))
after {t = t} text words at next =
    either (is_next text t) _ _ (λ is. done (drop 1 t) (moved (Quoted text ∷ []) at (next_goes_on text t is) (next_is text t is))) (λ no. told words at next)

pub taking : {V : Type 0} {s : Source} {t : List Token} {Next : List Lexeme → Type 0} (found : Option V) (encode : V → Lexeme) (words : List Lexeme) → At s t Next → Next words
    → ((v : V) → found ≡ Some v → goes_on t ≡ true) → ((v : V) → found ≡ Some v → Took t (encode v ∷ []) (drop 1 t))
    → Leads s (taken found t) (λ r. At s r.1 (λ more. Next (encode r.0 ∷ more)))
taking {V = V} {s = s} {t = t} {Next = Next} found encode words at next goes took = by found refl where
  by : (f : Option V) → found ≡ f → Leads s (taken f t) (λ r. At s r.1 (λ more. Next (encode r.0 ∷ more)))
  by (Some v) e = done (v, drop 1 t) (moved (encode v ∷ []) at (goes v e) (took v e))
  by None e = told words at next

pub naming : {s : Source} {t : List Token} {Next : List Lexeme → Type 0} (words : List Lexeme) → At s t Next → Next words
    → Leads s (name_at t) (λ r. At s r.1 (λ more. Next (Name r.0 ∷ more)))
naming {t = t} words at next = taking (next_name t) (λ name. Name name) words at next (name_goes_on t) (next_name_is t)

pub numbering : {s : Source} {t : List Token} {Next : List Lexeme → Type 0} (words : List Lexeme) → At s t Next → Next words
    → Leads s (number_at t) (λ r. At s r.1 (λ more. Next (Number r.0 ∷ more)))
numbering {t = t} words at next = taking (next_number t) (λ n. Number n) words at next (number_goes_on t) (next_number_is t)

-- ---- words

pub regroup : (Next : List Lexeme → Type 0) (a b c : List Lexeme) → Next ((a ++ b) ++ c) → Next (a ++ (b ++ c))
regroup Next a b c next = subst Next (append_assoc a b c) next

pub unnest : (Next : List Lexeme → Type 0) (a c : List Lexeme) → Next ((a ++ []) ++ c) → Next (a ++ c)
unnest Next a c next = subst (λ (w : List Lexeme). Next (w ++ c)) (append-nil a) next

pub last_out : {X : Type 0} (Next : List Lexeme → Type 0) (encode : X → List Lexeme) (parts : List X) (part : X) (words : List Lexeme)
    → Next (flat_map encode (parts ++ part ∷ []) ++ words) → Next (flat_map encode parts ++ (encode part ++ words))
last_out Next encode parts part words next =
    subst Next (ap (λ (w : List Lexeme). w ++ words) (sym (all_more_words encode parts part)) ∙ append_assoc (flat_map encode parts) (encode part) words) next

-- A written part has been read.
pub record Reached {W : Type 0} (s : Source) (Next : List Lexeme → Type 0) (encode : W → List Lexeme) (t : List Token) : Type 0 where
  pub written : W
  pub at : At s t (λ more. Next (encode written ++ more))

-- one part more
pub grown : {W : Type 0} {s : Source} {t : List Token} (Next : List Lexeme → Type 0) (encode : W → List Lexeme) (parts : List W) (part : W)
    → At s t (λ more. Next (flat_map encode parts ++ (encode part ++ more))) → Reached s Next (flat_map encode) t
grown Next encode parts part at = record { written = parts ++ part ∷ []; at = meaning at (λ words next. last_out Next encode parts part words next) }

-- no part yet
pub none_yet : {W : Type 0} {s : Source} {t : List Token} (Next : List Lexeme → Type 0) (encode : W → List Lexeme) → At s t Next → Reached s Next (flat_map encode) t
none_yet Next encode at = record { written = []; at = at }

-- ---- types

pub judged_leads : {s : Source} {t : List Token} {Next : List Lexeme → Type 0} (words : List Lexeme) → At s t Next → Next words
    → Leads s (judged_name true t) (λ r. At s r.1 (λ more. Next (Name r.0 ∷ more)))
unfolding judged_name
judged_leads {t = t} words at next =
    then _ (naming words at next) λ name more.
    tested (not true || is_short name.0) (faults.Limit (front_at t)) _ refl (done name more)

abbrev dot_name : List ℕ → List Lexeme
dot_name name = Quoted (codes ".") ∷ one_name name

-- some further names of a class
record IsClassPart (s : Source) (Next : List Lexeme → Type 0) (first : List ℕ) (t : List Token) : Type 0 where
  others : List (List ℕ)
  at : At s t (λ more. Next (Name first ∷ (flat_map dot_name others ++ more)))

record IsClassAt (s : Source) (Next : List Lexeme → Type 0) (t : List Token) : Type 0 where
  first : List ℕ
  others : List (List ℕ)
  at : At s t (λ more. Next (element_encoded (Class first others) ++ more))

module _ (s : Source) (Next : List Lexeme → Type 0) (tail : List Lexeme) where
  next_part_leads : (first class : List ℕ) (left : List Token) → ((others : List (List ℕ)) → Next (element_encoded (Class first others) ++ tail)) → IsClassPart s Next first left
      → Leads s (next_part true class left) (λ r. IsClassPart s Next first r.1)
  unfolding next_part
  next_part_leads first class left goes part =
      let other = last_out (λ (w : List Lexeme). Next (Name first ∷ w)) dot_name part.others [] tail (goes (part.others ++ [] ∷ [])) in
      then _ (after (codes ".") (dot_name [] ++ tail) part.at other) λ dot at.
      then _ (judged_leads (Name [] ∷ tail) at other) λ name more.
      done (class ++ 47 ∷ name.0, name.1) (record {
        others = part.others ++ name.0 ∷ [];
        at = meaning more (λ words next. last_out (λ (w : List Lexeme). Next (Name first ∷ w)) dot_name part.others name.0 words next);
      })

  class_leads : {t : List Token} → At s t Next → ((e : Element) → Next (element_encoded e ++ tail)) → Leads s (class_at true t) (λ r. IsClassAt s Next r.1)
  unfolding class_at
  class_leads at goes =
      then _ (judged_leads (Name [] ∷ tail) at (goes (Class [] []))) λ first named.
      said (each_leads (is_next (codes ".")) (next_part true) (λ class left. IsClassPart s Next first.0 left)
      (λ class left more part. next_part_leads first.0 class left (λ others. goes (Class first.0 others)) part)
      first.0 first.1 (record { others = []; at = named })) λ r is. record { first = first.0; others = is.others; at = is.at }

  class_type_leads : {t : List Token} → At s t Next → ((e : Element) → Next (element_encoded e ++ tail)) → Leads s (class_type_at true t) (λ r. Reached s Next element_encoded r.1)
  unfolding class_type_at
  class_type_leads at goes =
      then _ (class_leads at goes) λ class is.
      done _ (record { written = Class is.first is.others; at = is.at })

  element_leads : {t : List Token} → At s t Next → ((e : Element) → Next (element_encoded e ++ tail)) → Leads s (element_at true t) (λ r. Reached s Next element_encoded r.1)
  element_leads {t = t} at goes = by (plain_type t) refl where
    by : (found : Option TypeName) → plain_type t ≡ found → Leads s (element_of found true t) (λ r. Reached s Next element_encoded r.1)
    by (Some plain) e =
        let is = plain_found t plain e in
        done (plain, drop 1 t) (record { written = is.element; at = moved (element_encoded is.element) at (plain_goes_on t plain e) is.took })
    by None e = class_type_leads at goes

  bracket_out : (n : ℕ) (words : List Lexeme) → Next (brackets_encoded (suc n) ++ words) → Next (brackets_encoded n ++ (Quoted (codes "[") ∷ Quoted (codes "]") ∷ words))
  bracket_out n words next =
      regroup Next (brackets_encoded n) (Quoted (codes "[") ∷ Quoted (codes "]") ∷ []) words
      (subst (λ (w : List Lexeme). Next (w ++ words)) (sym (brackets_more n)) next)

  dimension_leads : (brackets : List ℕ) (left : List Token) → ((n : ℕ) → Next (brackets_encoded n ++ tail)) → Reached s Next brackets_encoded left
      → Leads s (dimension_at brackets left) (λ r. Reached s Next brackets_encoded r.1)
  unfolding dimension_at
  dimension_leads brackets left goes are =
      let other = bracket_out are.written tail (goes (suc are.written)) in
      then _ (after (codes "[") (Quoted (codes "[") ∷ Quoted (codes "]") ∷ tail) are.at other) λ opened at.
      then _ (after (codes "]") (Quoted (codes "]") ∷ tail) at other) λ closed more.
      done (brackets ++ 91 ∷ [], closed) (record { written = suc are.written; at = meaning more (λ words next. bracket_out are.written words next) })

pub type_leads : {s : Source} (Next : List Lexeme → Type 0) (tail : List Lexeme) {t : List Token} → At s t Next → ((w : WrittenType) → Next (type_encoded w ++ tail))
    → Leads s (type_at true t) (λ r. Reached s Next type_encoded r.1)
unfolding type_at
type_leads {s = s} Next tail at goes =
    then _ (element_leads s Next tail at (λ e. unnest Next (element_encoded e) tail (goes (record { element = e; dimensions = 0 })))) λ element is.
    let Further : List Lexeme → Type 0 = λ w. Next (element_encoded is.written ++ w) in
    then _ (each_leads (is_next (codes "[")) dimension_at (λ brackets left. Reached s Further brackets_encoded left)
    (λ brackets left more are. dimension_leads s Further tail brackets left
    (λ n. regroup Next (element_encoded is.written) (brackets_encoded n) tail (goes (record { element = is.written; dimensions = n }))) are)
    [] element.1 (record { written = 0; at = is.at })) λ brackets are.
    done _ (record {
      written = record { element = is.written; dimensions = are.written };
      at = meaning are.at (λ words next. regroup Next (element_encoded is.written) (brackets_encoded are.written) words next);
    })

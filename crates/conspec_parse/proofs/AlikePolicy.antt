-- What is read of two lists of tokens that agree at first: clauses and the whole.
use Rattle.std.proofs.Common.{◌≡◌, ⊎_elim, ℕ, zero, suc, ◌+◌, ◌<◌, ◌≤◌, ℤ, Bool, true, false, cond, List, [], ◌∷◌, ◌++◌, length, take, drop, Option, Some, None, Ok, refl, sym, ◌∙◌, arith}
use Rattle.std.specs.Prelude.{is_some, not, codes, nat_lt, ok_or, bytes_eq, ◌||◌, ◌&&◌}
use Rattle.std.proofs.lemmas.Slice.Eq.{bytes_eq-Decides}
use Rattle.mon_base.specs.Reading.{◌>>=◌, need}
use Rattle.api_listing.specs.declared.types.ListedMethod.{ListedMethod}
use Rattle.conspec_tokens.specs.declared.token.Lexeme.{Lexeme}
use Rattle.conspec_tokens.specs.declared.token.Lexeme.TheVariants.{Quoted, Name, Number, Wrong, End}
use Rattle.conspec_tokens.specs.declared.token.Token.{Token}
use Rattle.conspec_tree.specs.declared.types.Kind.{Kind}
use Rattle.conspec_tree.specs.declared.types.Phase.{Phase}
use Rattle.conspec_tree.specs.declared.types.TreeClause.{TreeClause}
use Rattle.conspec_tree.specs.declared.types.Var.{Var}
use Rattle.conspec_parse.specs.declared.type_name.TypeName.{TypeName}
use Rattle.conspec_parse.specs.declared.fault.PolicyFault.TheVariants as faults
use Rattle.conspec_parse.specs.Forms.{Parsed, is_short, following, name_at, each}
use Rattle.conspec_tokens.specs.Front.{front_at, quotes, is_next, next_name, is_name}
use Rattle.conspec_parse.specs.Head.{begins_variable, first_at, variable_at, variables_at}
use Rattle.conspec_tree.specs.Variables.{is_variable}
use Rattle.conspec_parse.specs.Types.{judged_name, type_at}
use Rattle.conspec_parse.specs.Methods.{method_at}
use Rattle.conspec_parse.specs.Clauses.{is_assigned, given_result_at, some_result_at, result_name_at, next_phase, begins_clause, scope_of, clause_of, clause_of_method, clause_of_type, clause_at, body_at}
use Rattle.conspec_tree.specs.Clauses.{is_after}
use Rattle.conspec_parse.specs.Deciding.{opened_by, is_open_from}
use Rattle.conspec_parse.proofs.Alike.{Pair, Here, Alike, NoClose, is_word, goes_on, within, none, both_unclosed, next, next_goes_on, name_goes_on, name_unclosed, seen_same, ended, told, onward, loosened, lessened, unsaid, joined, then, then_open, tested, peeked, after, named, knowing, each_alike, of_kind, syntax, twice, limit}
use Rattle.conspec_parse.proofs.AlikeTypes.{judged_alike, type_alike}
use Rattle.conspec_parse.proofs.AlikeGuards.{first_alike, body_alike}
use Rattle.conspec_parse.proofs.AlikeMethods.{Heads, Unended, method_alike}

-- ---- variables

-- the variable, whether it is a bool or not
abbrev rest_of_variable : ℤ → List Var → List Token → Bool → Parsed (List Var)
rest_of_variable maxint vars tokens is_bool = do
  few ← need (nat_lt (length vars) 16) (faults.Limit (front_at tokens))
  name ← name_at (drop 1 tokens)
  once ← need (not (is_variable vars name.0)) (faults.Twice (front_at (drop 1 tokens)))
  short ← need (is_short name.0) (faults.Limit (front_at (drop 1 tokens)))
  equals ← following (codes "=") name.1
  first ← first_at maxint is_bool equals
  ended ← following (codes ";") first.1
  Ok (vars ++ (record { name = name.0; is_bool = is_bool; first = first.0 }) ∷ [], ended)

rest_of_variable_alike : {p : Pair} {c : ℕ} {t u : List Token} (maxint : ℤ) (vars : List Var) (is_bool : Bool) → Here p c t u → goes_on t ≡ true
    → Alike p false c (c + 1) (rest_of_variable maxint vars t is_bool) (rest_of_variable maxint vars u is_bool)
rest_of_variable_alike maxint vars is_bool here goes =
    let word = next here goes in
    tested (nat_lt (length vars) 16) _ _ _ _ (told faults.Limit limit here (omega arith) tt) λ few.
    onward (omega arith) tt (
    named _ _ word λ name more.
    tested (not (is_variable vars name)) _ _ _ _ (told faults.Twice twice word (omega arith) tt) λ once.
    tested (is_short name) _ _ _ _ (told faults.Limit limit word (omega arith) tt) λ short.
    after (codes "=") _ _ tt more λ equals.
    lessened (omega arith) (then _ _ (first_alike maxint is_bool equals) λ first d x y enough value.
    loosened (after (codes ";") _ _ tt value λ last.
    ended (vars ++ (record { name = name; is_bool = is_bool; first = first }) ∷ []) last)))

pub begins_goes_on : (t : List Token) → begins_variable t ≡ true → goes_on t ≡ true
begins_goes_on t begins = by (is_next (codes "int") t) refl where
  by : (v : Bool) → is_next (codes "int") t ≡ v → goes_on t ≡ true
  by true e = next_goes_on (codes "int") t e
  by false e = let other : is_next (codes "bool") t ≡ true = rw e at begins in next_goes_on (codes "bool") t other

variable_alike : {p : Pair} {c : ℕ} {t u : List Token} (maxint : ℤ) (vars : List Var) → Here p c t u → begins_variable t ≡ true
    → Alike p false c (c + 1) (variable_at maxint vars t) (variable_at maxint vars u)
unfolding variable_at
variable_alike {t = t} {u = u} maxint vars here begins =
    peeked (is_next (codes "bool")) (rest_of_variable maxint vars t) (rest_of_variable maxint vars u) (λ x t u. refl) here
    λ is_bool e. rest_of_variable_alike maxint vars is_bool here (begins_goes_on t begins)

pub variables_alike : {p : Pair} {c : ℕ} {t u : List Token} (maxint : ℤ) → Here p c t u → Alike p false c c (variables_at maxint t) (variables_at maxint u)
variables_alike maxint here =
    each_alike begins_variable (variable_at maxint) (λ x t u. refl) (λ vars c t u here goes. variable_alike maxint vars here goes) [] _ _ _ here

-- ---- the head of a clause

-- a method is open after a keyword that begins a clause
phase_opens : (now : Bool) (x : Token) → begins_clause (x ∷ []) ≡ true → opened_by now x ≡ true
phase_opens now x begins = by x.lexeme begins where
  by : (l : Lexeme) → begins_clause (record { at = x.at; lexeme = l } ∷ []) ≡ true → opened_by now (record { at = x.at; lexeme = l }) ≡ true
  by (Quoted word) e = closed (bytes_eq word (codes ")")) refl where
    closed : (v : Bool) → bytes_eq word (codes ")") ≡ v → opened_by now (record { at = x.at; lexeme = Quoted word }) ≡ true
    closed true is = let same : word ≡ codes ")" = (bytes_eq-Decides word (codes ")")).0 is in let no : false ≡ true = rw same at e in absurd cc
    closed false is = rw (is, e) refl
  by (Name name) e = absurd cc
  by (Number n) e = absurd cc
  by Wrong e = absurd cc
  by End e = absurd cc

opened : (now : Bool) (tokens : List Token) (c : ℕ) → begins_clause (drop c tokens) ≡ true → is_open_from now (take (suc c) tokens) ≡ true
opened now [] zero begins = absurd cc
opened now [] (suc c) begins = absurd cc
opened now (x ∷ tokens) zero begins = phase_opens now x begins
opened now (x ∷ tokens) (suc c) begins = opened (opened_by now x) tokens c begins

stays_open : (x : Token) → quotes (codes ")") x.lexeme ≡ false → opened_by true x ≡ true
stays_open x e = by (begins_clause (x ∷ [])) refl where
  by : (v : Bool) → begins_clause (x ∷ []) ≡ v → opened_by true x ≡ true
  by true begins = rw (e, begins) refl
  by false begins = rw (e, begins) refl

open_on : (now : Bool) (tokens : List Token) (from to : ℕ) → is_open_from now (take from tokens) ≡ true → from ≤ to
    → ((j : ℕ) → from ≤ j → j < to → is_next (codes ")") (drop j tokens) ≡ false) → is_open_from now (take to tokens) ≡ true
open_on now [] zero zero is le unclosed = is
open_on now [] zero (suc to) is le unclosed = is
open_on now [] (suc from) zero is le unclosed = is
open_on now [] (suc from) (suc to) is le unclosed = is
open_on now (x ∷ tokens) zero zero is le unclosed = is
open_on now (x ∷ tokens) zero (suc to) is le unclosed =
    let first : opened_by now x ≡ true = rw is (stays_open x (unclosed 0 (omega arith) (omega arith))) in
    open_on (opened_by now x) tokens zero to first (omega arith) (λ j low high. unclosed (suc j) (omega arith) (omega arith))
open_on now (x ∷ tokens) (suc from) zero is le unclosed = absurd (omega arith)
open_on now (x ∷ tokens) (suc from) (suc to) is le unclosed =
    open_on (opened_by now x) tokens from to is (omega arith) (λ j low high. unclosed (suc j) (omega arith) (omega arith))

-- After a keyword that begins a clause its method is open, until `)`.
unended : {p : Pair} {c : ℕ} {t u : List Token} → Here p c t u → begins_clause t ≡ true → Unended p (c + 1)
unended {p = p} {c = c} here begins = λ k over no_close.
    let first : begins_clause (drop c p.one) ≡ true = rw here.one at begins in
    let next_one : c + 1 ≡ suc c = omega arith in
    open_on false p.one (c + 1) k (rw next_one (opened false p.one c first)) over no_close

moved : (p : Pair) {c d : ℕ} → c ≤ d → NoClose p c d → Unended p c → Unended p d
moved p {c = c} {d = d} le no_close unended = λ k over more. unended k (omega arith) (both_unclosed true p c d k no_close more)

-- ---- the result's name

given_alike : {p : Pair} {c : ℕ} {t u : List Token} (vars : List Var) (kind : Option Kind) → Here p c t u → Alike p true c (c + 1) (given_result_at vars kind t) (given_result_at vars kind u)
unfolding given_result_at
given_alike {p = p} {c = c} vars kind here =
    named _ _ here λ name more.
    tested (is_some kind) _ _ _ _ (told faults.Kind of_kind here (omega arith) (none true p (c + 1) (c + 1) (omega arith))) λ valued.
    tested (not (is_variable vars name)) _ _ _ _ (told faults.Twice twice here (omega arith) (none true p (c + 1) (c + 1) (omega arith))) λ once.
    tested (is_short name) _ _ _ _ (told faults.Limit limit here (omega arith) (none true p (c + 1) (c + 1) (omega arith))) λ short.
    lessened (omega arith) (after (codes "=") _ _ refl more λ equals.
    ended name equals)

-- Where a name stands first in both, all that is told is decided one token further.
known_given : {p : Pair} {c : ℕ} {t u : List Token} (name : List ℕ) (vars : List Var) (kind : Option Kind) → Here p c t u → next_name t ≡ Some name → c < p.agreed
    → Alike p true (c + 1) (c + 1) (given_result_at vars kind t) (given_result_at vars kind u)
unfolding given_result_at
known_given {p = p} {c = c} name vars kind here is lt =
    knowing name _ _ here is lt λ more.
    tested (is_some kind) _ _ _ _ (told faults.Kind of_kind here (omega arith) (none true p (c + 1) (c + 1) (omega arith))) λ valued.
    tested (not (is_variable vars name)) _ _ _ _ (told faults.Twice twice here (omega arith) (none true p (c + 1) (c + 1) (omega arith))) λ once.
    tested (is_short name) _ _ _ _ (told faults.Limit limit here (omega arith) (none true p (c + 1) (c + 1) (omega arith))) λ short.
    lessened (omega arith) (after (codes "=") _ _ refl more λ equals.
    ended name equals)

known_name : {p : Pair} {c : ℕ} {t u : List Token} (name : List ℕ) → Here p c t u → next_name t ≡ Some name → c < p.agreed → (judged : Bool)
    → Alike p true (c + 1) (c + 1) (judged_name judged t) (judged_name judged u)
unfolding judged_name
known_name {p = p} {c = c} name here is lt judged =
    knowing name _ _ here is lt λ more.
    tested (not judged || is_short name) _ _ _ _ (told faults.Limit limit here (omega arith) (none true p (c + 1) (c + 1) (omega arith))) λ short.
    ended name more

-- ---- clauses

module _ (methods : List ListedMethod) (vars : List Var) (maxint : ℤ) (clauses : List TreeClause) (phase : Phase) (type : TypeName) where
  -- the clause after the name of the result
  abbrev from_method : Option (List ℕ) × List Token → Parsed (List TreeClause)
  from_method result = do
    method ← method_at methods vars clauses phase type.desc result.1
    performs ← following (codes "PERFORM") method.1
    guards ← body_at (scope_of vars phase method.0.1 result.0 type.kind) maxint performs
    Ok (clauses ++ clause_of method.0.0 phase method.0.1 type.kind guards.0 ∷ [], guards.1)

  -- what is read after the type, where the result has a name or not
  abbrev after_type : List Token → Bool → Parsed (List TreeClause)
  after_type tokens has_name = cond has_name (some_result_at vars type.kind tokens) (Ok (None, tokens)) >>= from_method

  abbrev is_given : List Token → Bool
  is_given tokens = is_after phase && is_assigned tokens

  not_named : (tokens : List Token) → next_name tokens ≡ None → is_given tokens ≡ false
  not_named tokens is = by (is_after phase) where
    by : (v : Bool) → (v && is_assigned tokens) ≡ false
    by true = rw is refl
    by false = refl

  module _ {p : Pair} where
    from_method_alike : {b c : ℕ} {t u : List Token} (result : Option (List ℕ)) → Here p c t u → c ≤ b → b ≤ c + 1 → NoClose p c b → Unended p c → Heads p b c t u
        → Alike p false b b (from_method (result, t)) (from_method (result, u))
    from_method_alike result here low high before unended heads =
        then _ _ (method_alike methods vars clauses phase type.desc here low high before unended heads) λ method d x y enough more.
        loosened (after (codes "PERFORM") _ _ tt more λ performs.
        then _ _ (body_alike (scope_of vars phase method.1 result type.kind) maxint performs) λ guards e v w further last.
        ended (clauses ++ clause_of method.0 phase method.1 type.kind guards ∷ []) last)

    unnamed_alike : {c : ℕ} {t u : List Token} → Here p c t u → Unended p c → Alike p false c c (from_method (None, t)) (from_method (None, u))
    unnamed_alike {c = c} here unended =
        from_method_alike None here (omega arith) (omega arith) (none true p c c (omega arith)) unended (record { of = λ judged. judged_alike judged here })

    named_alike : {b c : ℕ} (t u : List Token) → c ≤ b → NoClose p c b → Unended p c → Alike p true b (c + 1) (given_result_at vars type.kind t) (given_result_at vars type.kind u)
        → Alike p false b b (after_type t true) (after_type u true)
    named_alike {b = b} {c = c} t u low before unended result =
        joined (given_result_at vars type.kind t) (given_result_at vars type.kind u) _ _ _ _ (
        loosened (then_open _ _ result λ name d x y further enough no_close more.
        from_method_alike (Some name) more (omega arith) (omega arith) (none true p d d (omega arith)) (moved p (omega arith) (both_unclosed true p c b d before no_close) unended)
        (record { of = λ judged. judged_alike judged more })))

    known_alike : {c : ℕ} {t u : List Token} (name : List ℕ) (given : Bool) → Here p c t u → next_name t ≡ Some name → c < p.agreed → Unended p c
        → Alike p false (c + 1) (c + 1) (after_type t given) (after_type u given)
    known_alike {c = c} name true here is lt unended =
        named_alike _ _ (omega arith) (name_unclosed true name here is) unended (known_given name vars type.kind here is lt)
    known_alike {c = c} name false here is lt unended =
        from_method_alike None here (omega arith) (omega arith) (name_unclosed true name here is) unended (record { of = known_name name here is lt })

    same_alike : {c : ℕ} {t u : List Token} (given : Bool) → Here p c t u → Unended p c → Alike p false c c (after_type t given) (after_type u given)
    same_alike {c = c} true here unended = named_alike _ _ (omega arith) (none true p c c (omega arith)) unended (given_alike vars type.kind here)
    same_alike false here unended = unnamed_alike here unended

    -- Whether the result has a name is seen of two tokens.
    assigned_same : {c : ℕ} {t u : List Token} (name : List ℕ) → Here p c t u → next_name t ≡ Some name → c + 1 < p.agreed → is_given t ≡ is_given u
    assigned_same {t = t} {u = u} name here is lt =
        let one : is_name t ≡ is_name u = seen_same is_name (λ x t u. refl) here (omega arith) in
        let two : is_next (codes "=") (drop 1 t) ≡ is_next (codes "=") (drop 1 u) = seen_same (is_next (codes "=")) (λ x t u. refl) (next here (name_goes_on t name is)) lt in
        rw (one, two) refl

    after_type_alike : {c : ℕ} {t u : List Token} → Here p c t u → Unended p c → Alike p false c c (after_type t (is_given t)) (after_type u (is_given u))
    after_type_alike {c = c} {t = t} {u = u} here unended = ⊎_elim (λ lt. agreed lt (next_name t) refl) (λ low. unsaid _ low (same_alike (is_given t) here unended)) (within c p.agreed) where
      agreed : c < p.agreed → (name : Option (List ℕ)) → next_name t ≡ name → Alike p false c c (after_type t (is_given t)) (after_type u (is_given u))
      agreed lt None is =
          let other : next_name u ≡ None = sym (seen_same next_name (λ x t u. refl) here lt) ∙ is in
          rw (not_named t is, not_named u other) (unnamed_alike here unended)
      agreed lt (Some name) is = ⊎_elim
          (λ further. rw (assigned_same name here is further) (same_alike (is_given u) here unended))
          (λ low. lessened (omega arith) (onward (omega arith) tt (unsaid _ low (known_alike name (is_given t) here is lt unended))))
          (within (c + 1) p.agreed)

phase_word : (x : Token) (t : List Token) (phase : Phase) → next_phase (x ∷ t) ≡ Some phase → is_word x.lexeme ≡ true
phase_word x t phase e = by x.lexeme e where
  by : (l : Lexeme) → next_phase (record { at = x.at; lexeme = l } ∷ t) ≡ Some phase → is_word l ≡ true
  by (Quoted word) e = refl
  by (Name word) e = refl
  by (Number n) e = refl
  by Wrong e = absurd cc
  by End e = absurd cc

pub phase_goes_on : (t : List Token) (phase : Phase) → next_phase t ≡ Some phase → goes_on t ≡ true
phase_goes_on [] phase e = absurd cc
phase_goes_on (x ∷ t) phase e = phase_word x t phase e

abbrev after_phase : List ListedMethod → List Var → ℤ → List TreeClause → List Token → Option Phase → Parsed (List TreeClause)
after_phase methods vars maxint clauses tokens found = do
  phase ← ok_or found (faults.Syntax (front_at tokens))
  type ← type_at true (drop 1 tokens)
  result ← result_name_at vars phase type.0.kind type.1
  method ← method_at methods vars clauses phase type.0.desc result.1
  performs ← following (codes "PERFORM") method.1
  guards ← body_at (scope_of vars phase method.0.1 result.0 type.0.kind) maxint performs
  Ok (clauses ++ clause_of method.0.0 phase method.0.1 type.0.kind guards.0 ∷ [], guards.1)

after_phase_alike : {p : Pair} {c : ℕ} {t u : List Token} (methods : List ListedMethod) (vars : List Var) (maxint : ℤ) (clauses : List TreeClause) (found : Option Phase)
    → Here p c t u → next_phase t ≡ found → Alike p false c (c + 1) (after_phase methods vars maxint clauses t found) (after_phase methods vars maxint clauses u found)
after_phase_alike methods vars maxint clauses None here e = told faults.Syntax syntax here (omega arith) tt
after_phase_alike {p = p} {c = c} {t = t} methods vars maxint clauses (Some phase) here e =
    let word = next here (phase_goes_on t phase e) in
    let begins : begins_clause t ≡ true = rw e refl in
    lessened (omega arith) (onward (omega arith) tt (
    then_open _ _ (type_alike true word) λ type d x y further enough no_close more.
    after_type_alike methods vars maxint clauses phase type more (moved p further no_close (unended here begins))))

clause_alike : {p : Pair} {c : ℕ} {t u : List Token} (methods : List ListedMethod) (vars : List Var) (maxint : ℤ) (clauses : List TreeClause) → Here p c t u
    → Alike p false c (c + 1) (clause_at methods vars maxint clauses t) (clause_at methods vars maxint clauses u)
unfolding clause_at clause_of_type clause_of_method
clause_alike {t = t} {u = u} methods vars maxint clauses here =
    tested (nat_lt (length clauses) 64) _ _ _ _ (told faults.Limit limit here (omega arith) tt) λ few.
    peeked next_phase (after_phase methods vars maxint clauses t) (after_phase methods vars maxint clauses u) (λ x t u. refl) here
    λ found e. after_phase_alike methods vars maxint clauses found here e

pub clauses_alike : {p : Pair} {c : ℕ} {t u : List Token} (methods : List ListedMethod) (vars : List Var) (maxint : ℤ) → Here p c t u
    → Alike p false c c (each begins_clause (clause_at methods vars maxint) [] t) (each begins_clause (clause_at methods vars maxint) [] u)
clauses_alike methods vars maxint here =
    each_alike begins_clause (clause_at methods vars maxint) (λ x t u. refl) (λ clauses c t u here goes. clause_alike methods vars maxint clauses here) [] _ _ _ here

-- Texts that agree up to the token that decides have the same fault.
use Rattle.std.proofs.Common.{◌≡◌, inl, inr, ⊎_elim, ℕ, zero, suc, ◌+◌, ◌-◌, ◌<◌, ◌≤◌, ℤ, Bool, true, false, List, [], ◌∷◌, ◌++◌, length, take, drop, Ok, Err, refl, sym, ◌∙◌, ap, arith}
use Rattle.std.specs.Option.{option_map_or}
use Rattle.std.proofs.Math.Seq.{drop-nil}
use Rattle.mon_base.specs.Reading.{◌>>=◌, need}
use Rattle.api_listing.specs.declared.types.ListedMethod.{ListedMethod}
use Rattle.conspec_tokens.specs.declared.token.Lexeme.{Lexeme}
use Rattle.conspec_tokens.specs.declared.token.Lexeme.TheVariants.{Quoted, Name, Number, Wrong, End}
use Rattle.conspec_tokens.specs.declared.token.Token.{Token}
use Rattle.conspec_tokens.specs.declared.scanning.Spot.{Spot}
use Rattle.conspec_tokens.specs.declared.scanning.Spot.TheVariants.{Inside}
use Rattle.conspec_tokens.specs.declared.scanning.Piece.{Piece}
use Rattle.conspec_tokens.specs.declared.scanning.Piece.TheVariants.{Skips, Begins}
use Rattle.conspec_tree.specs.declared.types.TreeClause.{TreeClause}
use Rattle.conspec_tree.specs.declared.types.PolicyTree.{PolicyTree}
use Rattle.conspec_tree.specs.declared.types.Var.{Var}
use Rattle.conspec_parse.specs.declared.fault.PolicyFault.{PolicyFault}
use Rattle.conspec_parse.specs.declared.fault.PolicyFault.TheVariants as faults
use Rattle.conspec_parse.specs.Fault.{Judged}
use Rattle.conspec_parse.specs.Forms.{Parsed, each}
use Rattle.conspec_tokens.specs.Front.{front_at, is_end}
use Rattle.conspec_parse.specs.Head.{header_at, variables_at}
use Rattle.conspec_parse.specs.Clauses.{begins_clause, clause_at}
use Rattle.conspec_tokens.specs.Tokens.{token, seen, begun, next_spot, tokens_from, tokens_of}
use Rattle.conspec_parse.specs.Policy.{policy_at}
use Rattle.conspec_parse.specs.Deciding.{is_open, Decides, FaultsAreDecided, BeginningsAreRight}
use Rattle.conspec_parse.proofs.Alike.{Pair, Here, Alike, Shares, Stands, IsNear, IsInMethod, place, ahead, is_of_method, goes_on, within, seen_same, front_same, ended, then}
use Rattle.conspec_parse.proofs.AlikeGuards.{header_alike}
use Rattle.conspec_parse.proofs.AlikePolicy.{variables_alike, clauses_alike}
use Rattle.conspec_parse.proofs.Begun.{Leads}
use Rattle.conspec_parse.proofs.BegunPolicy.{policy_begins}

-- ---- the tokens of a text

-- Each token stands after the one before it, and the last is the end.
record AreOrdered (at : ℕ) (tokens : List Token) : Type 0 where
  some : 0 < length tokens
  first : at ≤ front_at tokens
  rising : (i : ℕ) → suc i < length tokens → front_at (drop i tokens) < front_at (drop (suc i) tokens)
  ends : (i : ℕ) → goes_on (drop i tokens) ≡ true → suc i < length tokens

last_ordered : (at : ℕ) (lexeme : Lexeme) → goes_on (token at lexeme ∷ []) ≡ false → AreOrdered at (token at lexeme ∷ [])
last_ordered at lexeme stops = record { some = omega arith; first = omega arith; rising = λ i lt. absurd (omega arith); ends = ends } where
  ends : (i : ℕ) → goes_on (drop i (token at lexeme ∷ [])) ≡ true → suc i < length (token at lexeme ∷ [])
  ends zero goes = absurd cc
  ends (suc i) goes = let none : false ≡ true = rw (drop-nil {A = Token} i) at goes in absurd cc

more_ordered : (at : ℕ) (lexeme : Lexeme) (tokens : List Token) → AreOrdered (at + 1) tokens → AreOrdered at (token at lexeme ∷ tokens)
more_ordered at lexeme tokens are = record { some = omega arith; first = omega arith; rising = rising; ends = ends } where
  rising : (i : ℕ) → suc i < length (token at lexeme ∷ tokens) → front_at (drop i (token at lexeme ∷ tokens)) < front_at (drop (suc i) (token at lexeme ∷ tokens))
  rising zero lt = let first = are.first in omega arith
  rising (suc i) lt = are.rising i (omega arith)

  ends : (i : ℕ) → goes_on (drop i (token at lexeme ∷ tokens)) ≡ true → suc i < length (token at lexeme ∷ tokens)
  ends zero goes = let some = are.some in omega arith
  ends (suc i) goes = let lt = are.ends i goes in omega arith

later : (at : ℕ) (tokens : List Token) → AreOrdered (at + 1) tokens → AreOrdered at tokens
later at tokens are = let first = are.first in record { some = are.some; first = omega arith; rising = are.rising; ends = are.ends }

ordered : (spot : Spot) (at : ℕ) (text : List ℕ) → AreOrdered at (tokens_from spot at text)
ordered spot at [] = last_ordered at End refl
ordered spot at (b ∷ rest) = by (λ next. ordered next (at + 1) rest) (seen spot b (b ∷ rest)) where
  by : ((next : Spot) → AreOrdered (at + 1) (tokens_from next (at + 1) rest)) → (piece : Piece)
      → AreOrdered at (begun at piece ++ option_map_or (λ next. tokens_from next (at + 1) rest) (next_spot piece) [])
  by are (Skips next) = later at (tokens_from next (at + 1) rest) (are next)
  by are (Begins (Quoted word) more) = more_ordered at (Quoted word) (tokens_from (Inside more) (at + 1) rest) (are (Inside more))
  by are (Begins (Name word) more) = more_ordered at (Name word) (tokens_from (Inside more) (at + 1) rest) (are (Inside more))
  by are (Begins (Number n) more) = more_ordered at (Number n) (tokens_from (Inside more) (at + 1) rest) (are (Inside more))
  by are (Begins Wrong more) = last_ordered at Wrong refl
  by are (Begins End more) = more_ordered at End (tokens_from (Inside more) (at + 1) rest) (are (Inside more))

text_ordered : (text : List ℕ) → AreOrdered 0 (tokens_of text)
unfolding tokens_of
text_ordered text = ordered (Inside 0) 0 text

not_before : {at : ℕ} {tokens : List Token} → AreOrdered at tokens → (i n : ℕ) → n + i < length tokens → front_at (drop i tokens) ≤ front_at (drop (n + i) tokens)
not_before are i zero lt = let same : 0 + i ≡ i = omega arith in rw same (omega arith)
not_before {tokens = tokens} are i (suc n) lt =
    let same : suc n + i ≡ suc (n + i) = omega arith in
    let one = not_before are i n (omega arith) in
    let two : front_at (drop (n + i) tokens) < front_at (drop (suc (n + i)) tokens) = are.rising (n + i) (omega arith) in
    rw same (omega arith)

at_or_after : {at : ℕ} {tokens : List Token} → AreOrdered at tokens → (i j : ℕ) → i ≤ j → j < length tokens → front_at (drop i tokens) ≤ front_at (drop j tokens)
at_or_after {tokens = tokens} are i j le lt = by (j - i) (omega arith) where
  by : (n : ℕ) → n + i ≡ j → front_at (drop i tokens) ≤ front_at (drop j tokens)
  by n same = rw (sym same) (not_before are i n (omega arith))

further : {at : ℕ} {tokens : List Token} → AreOrdered at tokens → (i j : ℕ) → i < j → j < length tokens → front_at (drop i tokens) < front_at (drop j tokens)
further {tokens = tokens} are i j lt inside =
    let one = are.rising i (omega arith) in
    let two = at_or_after are (suc i) j (omega arith) inside in
    omega arith

-- ---- the whole

abbrev Whole : Type 0
Whole = (ℤ × List Var) × List TreeClause

abbrev until_end : List ListedMethod → List Token → Parsed Whole
until_end methods tokens =
    header_at tokens >>= λ maxint. variables_at maxint.0 maxint.1 >>= λ vars. each begins_clause (clause_at methods vars.0 maxint.0) [] vars.1
    >>= λ clauses. Ok (((maxint.0, vars.0), clauses.0), clauses.1)

abbrev at_end : Whole × List Token → Judged PolicyTree
at_end read = need (is_end read.1) (faults.Syntax (front_at read.1)) >>= λ ended. Ok (record { maxint = read.0.0.0; vars = read.0.0.1; clauses = read.0.1 })

policy_is : (methods : List ListedMethod) (tokens : List Token) → policy_at methods tokens ≡ until_end methods tokens >>= at_end
unfolding policy_at
policy_is methods tokens = by_head (header_at tokens) where
  by_clauses : (maxint : ℤ) (vars : List Var) (read : Parsed (List TreeClause))
      → (read >>= λ clauses. need (is_end clauses.1) (faults.Syntax (front_at clauses.1)) >>= λ ended. Ok (record { maxint = maxint; vars = vars; clauses = clauses.0 }))
      ≡ ((read >>= λ clauses. Ok (((maxint, vars), clauses.0), clauses.1)) >>= at_end)
  by_clauses maxint vars (Ok read) = refl
  by_clauses maxint vars (Err e) = refl

  by_vars : (maxint : ℤ) (read : Parsed (List Var))
      → (read >>= λ vars. each begins_clause (clause_at methods vars.0 maxint) [] vars.1
      >>= λ clauses. need (is_end clauses.1) (faults.Syntax (front_at clauses.1)) >>= λ ended. Ok (record { maxint = maxint; vars = vars.0; clauses = clauses.0 }))
      ≡ ((read >>= λ vars. each begins_clause (clause_at methods vars.0 maxint) [] vars.1 >>= λ clauses. Ok (((maxint, vars.0), clauses.0), clauses.1)) >>= at_end)
  by_vars maxint (Ok read) = by_clauses maxint read.0 (each begins_clause (clause_at methods read.0 maxint) [] read.1)
  by_vars maxint (Err e) = refl

  by_head : (read : Parsed ℤ)
      → (read >>= λ maxint. variables_at maxint.0 maxint.1 >>= λ vars. each begins_clause (clause_at methods vars.0 maxint.0) [] vars.1
      >>= λ clauses. need (is_end clauses.1) (faults.Syntax (front_at clauses.1)) >>= λ ended. Ok (record { maxint = maxint.0; vars = vars.0; clauses = clauses.0 }))
      ≡ ((read >>= λ maxint. variables_at maxint.0 maxint.1 >>= λ vars. each begins_clause (clause_at methods vars.0 maxint.0) [] vars.1
      >>= λ clauses. Ok (((maxint.0, vars.0), clauses.0), clauses.1)) >>= at_end)
  by_head (Ok read) = by_vars read.0 (variables_at read.0 read.1)
  by_head (Err e) = refl

until_alike : {p : Pair} {c : ℕ} {t u : List Token} (methods : List ListedMethod) → Here p c t u → Alike p false c c (until_end methods t) (until_end methods u)
until_alike methods here =
    then _ _ (header_alike here) λ maxint d x y enough more.
    then _ _ (variables_alike maxint more) λ vars e v w more_read begins.
    then _ _ (clauses_alike methods vars maxint begins) λ clauses f r s last after_it.
    ended ((maxint, vars), clauses) after_it

-- So many tokens decide the fault; the other reading has it if they are agreed.
record IsDecided (p : Pair) (fault : PolicyFault) (other : Judged PolicyTree) : Type 0 where
  count : ℕ
  stands : Stands false p fault count
  same : count ≤ p.agreed → other ≡ Err fault

read_is_none : (tree : PolicyTree) (fault : PolicyFault) → Ok tree ≡ Err fault → ⊥
read_is_none tree fault e = cc

end_decided : {p : Pair} {c : ℕ} {one other : Parsed Whole} (fault : PolicyFault) → Alike p false c c one other → one >>= at_end ≡ Err fault → IsDecided p fault (other >>= at_end)
end_decided {p = p} {one = one} {other = other} fault (inr stop) fails =
    let here : one >>= at_end ≡ Err stop.fault = rw stop.is refl in
    let both : Err stop.fault ≡ Err fault = sym here ∙ fails in
    let same : stop.fault ≡ fault = cc in
    record { count = stop.decided; stands = rw (sym same) stop.stands; same = λ le. rw (stop.same le, same) refl }
end_decided {p = p} {one = one} {other = other} fault (inl on) fails = by (is_end on.left) refl where
  by : (v : Bool) → is_end on.left ≡ v → IsDecided p fault (other >>= at_end)
  by true e =
      let reads : one >>= at_end ≡ Ok (record { maxint = on.value.0.0; vars = on.value.0.1; clauses = on.value.1 }) = rw (on.is, e) refl in
      absurd (read_is_none _ fault (sym reads ∙ fails))
  by false e =
      let told : one >>= at_end ≡ Err (faults.Syntax (front_at on.left)) = rw (on.is, e) refl in
      let both : Err (faults.Syntax (front_at on.left)) ≡ Err fault = sym told ∙ fails in
      let same : faults.Syntax (front_at on.left) ≡ fault = cc in
      let here = on.here in
      let near : IsNear p (faults.Syntax (front_at on.left)) (on.following + 1) = record { index = on.following; inside = here.inside; at = ap front_at here.one; decided = omega arith } in
      record {
        count = on.following + 1;
        stands = rw (sym same) (inl near);
        same = λ le.
            let lt : on.following < p.agreed = omega arith in
            let last : is_end on.rest ≡ false = sym (seen_same is_end (λ x t u. refl) on.here lt) ∙ e in
            let at : front_at on.rest ≡ front_at on.left = sym (front_same on.here lt) in
            let other_is : other >>= at_end ≡ Err (faults.Syntax (front_at on.left)) = rw (on.same lt, last, at) refl in
            other_is ∙ ap Err same;
      }

-- ---- the law

shares : (before following others : List Token) (last : Token) (c : ℕ) → c < suc (length before) → Shares (drop c (before ++ last ∷ following)) (drop c (before ++ last ∷ others))
shares [] following others last zero lt = record { first = last; others = following; more = others; one = refl; other = refl }
shares [] following others last (suc c) lt = absurd (omega arith)
shares (x ∷ before) following others last zero lt = record { first = x; others = before ++ last ∷ following; more = before ++ last ∷ others; one = refl; other = refl }
shares (x ∷ before) following others last (suc c) lt = shares before following others last c (omega arith)

last_there : (before following : List Token) (last : Token) → drop (length before) (before ++ last ∷ following) ≡ last ∷ following
last_there [] following last = refl
last_there (x ∷ before) following last = last_there before following last

first_taken : (before following : List Token) (last : Token) → take (suc (length before)) (before ++ last ∷ following) ≡ before ++ last ∷ []
first_taken [] following last = refl
first_taken (x ∷ before) following last = ap (λ (xs : List Token). x ∷ xs) (first_taken before following last)

module _ (before rest others : List Token) (last : Token) (are : AreOrdered 0 (before ++ last ∷ rest)) where
  abbrev pair : Pair
  pair = record {
    one = before ++ last ∷ rest;
    other = before ++ last ∷ others;
    agreed = suc (length before);
    agree = shares before rest others last;
    ends = λ c goes. let lt = are.ends c goes in omega arith;
  }

  last_at : front_at (drop (length before) (before ++ last ∷ rest)) ≡ last.at
  last_at = ap front_at (last_there before rest last)

  not_near : (fault : PolicyFault) (index : ℕ) → index < length (before ++ last ∷ rest) → place fault ≡ front_at (drop index (before ++ last ∷ rest))
      → length before < index + ahead fault → Decides fault before last → ⊥
  not_near fault index inside at far decides = by fault at far decides where
    stands_at : length before ≤ index → last.at ≤ front_at (drop index (before ++ last ∷ rest))
    stands_at le = let low = at_or_after are (length before) index le inside in let same = last_at in omega arith

    stands_after : length before < index → last.at < front_at (drop index (before ++ last ∷ rest))
    stands_after lt = let low = further are (length before) index lt inside in let same = last_at in omega arith

    by : (fault : PolicyFault) → place fault ≡ front_at (drop index (before ++ last ∷ rest)) → length before < index + ahead fault → Decides fault before last → ⊥
    by (faults.Syntax at) there far decides = let low = stands_after (omega arith) in omega arith
    by (faults.Name at) there far decides = let low = stands_after (omega arith) in omega arith
    by (faults.Kind at) there far decides = let low = stands_at (omega arith) in omega arith
    by (faults.Range at) there far decides = let low = stands_at (omega arith) in omega arith
    by (faults.NoMethod at) there far decides = let low = stands_at (omega arith) in let lt = decides.0 in omega arith
    by (faults.Twice at) there far decides = let low = stands_at (omega arith) in let lt = decides.0 in omega arith
    by (faults.Limit at) there far decides = let low = stands_at (omega arith) in let lt = decides.0 in omega arith
    by (faults.Builtin at) there far decides = let low = stands_at (omega arith) in let lt = decides.0 in omega arith
    by faults.Memory there far decides = decides

  closed : (fault : PolicyFault) → is_of_method fault ≡ true → Decides fault before last → (place fault < last.at) × (is_open (before ++ last ∷ []) ≡ false)
  closed (faults.Syntax at) e decides = absurd cc
  closed (faults.Name at) e decides = absurd cc
  closed (faults.Kind at) e decides = absurd cc
  closed (faults.Range at) e decides = absurd cc
  closed (faults.NoMethod at) e decides = decides
  closed (faults.Twice at) e decides = decides
  closed (faults.Limit at) e decides = decides
  closed (faults.Builtin at) e decides = decides
  closed faults.Memory e decides = absurd cc

  not_in_method : (fault : PolicyFault) (count : ℕ) → IsInMethod pair fault count → suc (length before) < count → Decides fault before last → ⊥
  not_in_method fault count is lt decides =
      let ended = closed fault is.of_method decides in
      let low = ended.0 in
      let there = is.at in
      let last_is = last_at in
      ⊎_elim
      (λ early.
      let open_there : is_open (take (suc (length before)) (before ++ last ∷ rest)) ≡ true = is.unended (suc (length before)) (omega arith) lt in
      let open_here : is_open (before ++ last ∷ []) ≡ true = rw (first_taken before rest last) at open_there in
      let no : false ≡ true = sym ended.1 ∙ open_here in
      cc)
      (λ late. let high = at_or_after are (length before) is.index late is.inside in omega arith)
      (within is.index (length before))

  not_late : (fault : PolicyFault) (count : ℕ) → Stands false pair fault count → suc (length before) < count → Decides fault before last → ⊥
  not_late fault count (inl near) lt decides =
      let decided = near.decided in
      not_near fault near.index near.inside near.at (omega arith) decides
  not_late fault count (inr is) lt decides = not_in_method fault count is lt decides

  tokens_decided : (methods : List ListedMethod) (fault : PolicyFault) → policy_at methods (before ++ last ∷ rest) ≡ Err fault → Decides fault before last
      → policy_at methods (before ++ last ∷ others) ≡ Err fault
  tokens_decided methods fault fails decides =
      let here : Here pair 0 (before ++ last ∷ rest) (before ++ last ∷ others) = record { one = refl; other = refl; inside = are.some } in
      let read : until_end methods (before ++ last ∷ rest) >>= at_end ≡ Err fault = sym (policy_is methods (before ++ last ∷ rest)) ∙ fails in
      let told = end_decided fault (until_alike methods here) read in
      policy_is methods (before ++ last ∷ others) ∙ ⊎_elim
      (λ late. absurd (not_late fault told.count told.stands late decides))
      (λ le. told.same le)
      (within (suc (length before)) told.count)

pub faults_are_decided : FaultsAreDecided
faults_are_decided one other listing fault before rest others last fails decides is_one is_other =
    let are : AreOrdered 0 (before ++ last ∷ rest) = rw is_one at (text_ordered one) in
    let read : policy_at listing.methods (before ++ last ∷ rest) ≡ Err fault = rw is_one at fails in
    rw is_other (tokens_decided before rest others last are listing.methods fault read decides)

-- ---- faults of syntax

pub beginnings_are_right : BeginningsAreRight
beginnings_are_right text listing at fails =
    let are = text_ordered text in
    let leads : Leads (record { tokens = tokens_of text; ends = are.ends }) (policy_at listing.methods (tokens_of text)) (λ tree. Unit {0}) = policy_begins listing.methods are.some in
    leads.begins at fails

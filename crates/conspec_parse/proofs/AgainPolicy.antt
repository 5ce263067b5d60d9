-- What is encoded is read: clauses, variables and the whole.
use Rattle.std.proofs.Common.{◌≡◌, ◌≢◌, ℕ, zero, suc, ◌+◌, ◌<◌, ◌≤◌, ℤ, pos, Bool, true, false, List, [], ◌∷◌, ◌++◌, length, map, drop, Option, Some, None, Ok, Err, refl, sym, ap, subst, ◌∙◌, arith, append_assoc, length-append}
use Rattle.std.specs.Prelude.{max, is_some, not, codes, nat_lt, nat_le, int_le, AllPairs, MatchResult, ◌||◌, ◌&&◌, ◌==◌}
use Rattle.std.specs.List.{AllByRecursion, flat_map}
use Rattle.std.proofs.lemmas.Bool.{le-leb, lt-ltb, eqb-true}
use Rattle.std.proofs.lemmas.Bool.Decides.{nat_tests}
use Rattle.std.proofs.lemmas.List.{append-nil}
use Rattle.mon_base.proofs.Reading.{ok_is}
use Rattle.api_listing.specs.declared.types.ListedMethod.{ListedMethod}
use Rattle.api_listing.specs.declared.types.Listing.{Listing}
use Rattle.conspec_tokens.specs.declared.token.Lexeme.{Lexeme}
use Rattle.conspec_tokens.specs.declared.token.Lexeme.TheVariants.{Quoted, Name, End}
use Rattle.conspec_tokens.specs.declared.token.Token.{Token}
use Rattle.conspec_tree.specs.declared.types.Atom.{Atom}
use Rattle.conspec_tree.specs.declared.types.Guard.{Guard}
use Rattle.conspec_tree.specs.declared.types.Kind.{Kind}
use Rattle.conspec_tree.specs.declared.types.Phase.{Phase}
use Rattle.conspec_tree.specs.declared.types.Phase.TheVariants.{Before, After, Exceptional}
use Rattle.conspec_tree.specs.declared.types.TreeClause.{TreeClause}
use Rattle.conspec_tree.specs.declared.types.Var.{Var}
use Rattle.conspec_tree.specs.declared.types.PolicyTree.{PolicyTree}
use Rattle.conspec_parse.specs.declared.fault.PolicyFault.{PolicyFault}
use Rattle.conspec_parse.specs.declared.fault.PolicyFault.TheVariants as faults
use Rattle.conspec_parse.specs.declared.fault.PolicyFault.TheVariants.{Syntax, Kind as WrongKind, Range, Twice, Limit}
use Rattle.mon_base.specs.Answer.{Answers}
use Rattle.conspec_parse.specs.Fault.{Judged}
use Rattle.conspec_tokens.specs.Tokens.{tokens_of}
use Rattle.conspec_tokens.specs.Front.{front_at, is_next, is_end}
use Rattle.conspec_parse.specs.Forms.{is_short}
use Rattle.conspec_tree.specs.Variables.{is_variable}
use Rattle.conspec_parse.specs.Head.{header_at, truth_at, count_at, first_at, begins_variable, variable_at}
use Rattle.conspec_tree.specs.Clauses.{phase_number, has_clause}
use Rattle.conspec_parse.specs.Scope.{Scope}
use Rattle.conspec_tree.specs.Updates.{all_range_atoms}
use Rattle.conspec_tree.specs.Guards.{branches, longest_from, longest}
use Rattle.conspec_parse.specs.Clauses.{begins_guard, guard_of, guard_at, last_guard, with_else, body_at, next_phase, begins_clause, is_assigned, given_result_at, result_name_at, scope_of, clause_of, clause_of_method, clause_of_type, clause_at}
use Rattle.conspec_tree.specs.Clauses.{is_after}
use Rattle.conspec_parse.specs.Policy.{policy_at, reading}
use Rattle.conspec_tree.specs.Tree.{Differ}
use Rattle.conspec_parse.specs.Written.{WrittenAtom, WrittenUpdate, WrittenGuard, WrittenParam, MethodName, WrittenClause, WrittenVar, Written, led, conj_encoded, block_encoded, guard_encoded, else_encoded, body_encoded, type_encoded, phase_encoded, result_encoded, signature_encoded, clause_encoded, first_encoded, variable_word, variable_encoded, header_encoded, policy_encoded}
use Rattle.conspec_parse.specs.Meaning.{EachIs, type_desc, type_kind, param_of, IsAtom, IsBlock, IsGuard, IsOtherwise, AreGuards, IsResult, MayName, IsClause, IsFirst, IsVar, IsPolicy, lexemes, EncodesPolicy}
use Rattle.conspec_parse.proofs.Got.{Got, ended, ended_as, gets, passes, holds, there, on_true, on_false, heads, head_name, next_at, is_name_here, drop_one, after_again, name_again, number_again, Stops, Parts, each_again, Steps, Grows, grows}
use Rattle.conspec_parse.proofs.Again.{Always, EndsType, type_again}
use Rattle.conspec_parse.proofs.AgainMethods.{apart_before, bytes_differ, method_again}
use Rattle.conspec_parse.proofs.AgainGuards.{braces, conjs_again, block_again, int_test}

-- ---- guards

longest_short : (most more : ℕ) (conjs : List (List Atom)) → AllByRecursion (λ (c : List Atom). length c + more ≤ 16) conjs → most + more ≤ 16 → longest_from most conjs + more ≤ 16
longest_short most more [] short low = low
longest_short most more (c ∷ conjs) short low =
    let one = short.0 in
    longest_short (max most (length c)) more conjs short.1 (grind (arith, nat_tests))

each_short : (more : ℕ) (conjs : List (List Atom)) → AllByRecursion (λ (c : List Atom). length c + more ≤ 16) conjs → AllByRecursion (λ (c : List Atom). length c ≤ 16) conjs
each_short more [] short = tt
each_short more (c ∷ conjs) short = let one = short.0 in (omega arith, each_short more conjs short.1)

longest_first : (more : ℕ) (written : List (List WrittenAtom)) (first : List WrittenAtom) (scope : Scope) (conjs : List (List Atom)) → EachIs (EachIs (IsAtom scope)) (first ∷ written) conjs
    → AllByRecursion (λ (c : List Atom). length c + more ≤ 16) conjs → longest conjs + more ≤ 16
longest_first more written first scope [] are short = absurd are
longest_first more written first scope (c ∷ conjs) are short =
    let one = short.0 in
    longest_short 0 more (c ∷ conjs) short (omega arith)

pub record IsNextGuard (scope : Scope) (maxint : ℤ) (before : List Guard) (written : WrittenGuard) (guard : Guard) : Type 0 where
  pub is : IsGuard scope maxint written guard
  pub few : branches before + length guard.conjs ≤ 64

regroup : (a b c d : List Lexeme) → (a ++ (b ++ c)) ++ d ≡ (a ++ b) ++ (c ++ d)
regroup a b c d = simp append_assoc

guard_begins : (w : WrittenGuard) (words : List Lexeme) (tokens : List Token) → lexemes tokens ≡ guard_encoded w ++ words → begins_guard tokens ≡ true
guard_begins w words tokens e = by w.first e where
  by : (first : List WrittenAtom) → lexemes tokens ≡ (conj_encoded first ++ (led (codes "||") conj_encoded w.others ++ block_encoded w.updates)) ++ words → begins_guard tokens ≡ true
  by [] e =
      let a = next_at (codes "true") tokens _ e in
      rw a refl
  by (atom ∷ first) e =
      let a = next_at (codes "true") tokens _ e in
      let b = is_name_here tokens _ e in
      rw (a, b) refl

guard_long : (w : WrittenGuard) → 1 ≤ length (guard_encoded w)
guard_long w = by w.first where
  by : (first : List WrittenAtom) → 1 ≤ length (conj_encoded first ++ (led (codes "||") conj_encoded w.others ++ block_encoded w.updates))
  by [] = omega arith
  by (atom ∷ first) = omega arith

guard_parts : (scope : Scope) (maxint : ℤ) → Parts begins_guard (guard_at scope maxint) guard_encoded Always (Grows (IsNextGuard scope maxint))
unfolding guard_at guard_of
guard_parts scope maxint = record {
  begins = guard_begins;
  leads = λ g words. tt;
  long = λ g. guard_long g;
  step = λ guards w next tokens words goes e last.
      let g = goes.0 in
      let is = goes.2.is in
      let block = is.block in
      let low = longest_first (all_range_atoms g.updates) w.others w.first scope g.conjs is.conjs block.short in
      gets _ (conjs_again scope (branches guards) w.first w.others g.conjs tokens (block_encoded w.updates ++ words) is.conjs (each_short (all_range_atoms g.updates) g.conjs block.short) goes.2.few
      (e ∙ regroup (conj_encoded w.first) (led (codes "||") conj_encoded w.others) (block_encoded w.updates) words) refl refl) λ arrow one.
      passes _ (after_again (codes "->") arrow (braces w.updates ++ words) one) λ start two.
      gets _ (block_again scope.vars maxint (longest g.conjs) w.updates g.updates start words block.updates block.once low two) λ rest three.
      ended_as (guards ++ (record { conjs = g.conjs; updates = g.updates }) ∷ []) next rest (sym goes.1) three;
}

branches_split : (before : List Guard) (g : Guard) (others : List Guard) → branches (before ++ g ∷ others) ≡ branches before + (length g.conjs + branches others)
branches_split [] g others = omega arith
branches_split (h ∷ before) g others = let e = branches_split before g others in omega arith

guard_steps : (scope : Scope) (maxint : ℤ) (before : List Guard) (written : List WrittenGuard) (guards others : List Guard) → EachIs (IsGuard scope maxint) written guards
    → branches (before ++ (guards ++ others)) ≤ 64 → Steps (IsNextGuard scope maxint) before written guards
guard_steps scope maxint before [] [] others are few = tt
guard_steps scope maxint before [] (g ∷ guards) others are few = absurd are
guard_steps scope maxint before (w ∷ written) [] others are few = absurd are
guard_steps scope maxint before (w ∷ written) (g ∷ guards) others are few =
    let same : (before ++ g ∷ []) ++ (guards ++ others) ≡ before ++ g ∷ (guards ++ others) = append_assoc before (g ∷ []) (guards ++ others) in
    let split = branches_split before g (guards ++ others) in (
      record { is = are.0; few = omega arith },
      guard_steps scope maxint (before ++ g ∷ []) written guards others are.1 (subst (λ (gs : List Guard). branches gs ≤ 64) (sym same) few),
    )

-- words that do not go on with a body
pub record EndsBody (words : List Lexeme) : Type 0 where
  pub no_guard : (heads (codes "true") words || is_some (head_name words)) ≡ false
  pub no_else : heads (codes "ELSE") words ≡ false

body_stops : (words : List Lexeme) → (heads (codes "true") words || is_some (head_name words)) ≡ false → Stops begins_guard words
body_stops words none = λ tokens e.
    let a = next_at (codes "true") tokens words e in
    let b = is_name_here tokens words e in
    rw (a, b) none

else_stops : (otherwise : Option (List WrittenUpdate)) (words : List Lexeme) → EndsBody words → Stops begins_guard (else_encoded otherwise ++ words)
else_stops None words last = body_stops words last.no_guard
else_stops (Some updates) words last = body_stops (else_encoded (Some updates) ++ words) refl

last_guard_again : (scope : Scope) (maxint : ℤ) (guards : List Guard) (written : List WrittenUpdate) (g : Guard) (tokens : List Token) (words : List Lexeme)
    → g.conjs ≡ [] ∷ [] → IsBlock scope.vars maxint written g → branches guards < 64 → lexemes tokens ≡ else_encoded (Some written) ++ words
    → Got (last_guard scope maxint guards tokens) (guards ++ g ∷ []) words
unfolding last_guard guard_of
last_guard_again scope maxint guards written g tokens words empty block few e =
    let short : AllByRecursion (λ (c : List Atom). length c + all_range_atoms g.updates ≤ 16) ([] ∷ []) = subst (λ (cs : List (List Atom)). AllByRecursion (λ (c : List Atom). length c + all_range_atoms g.updates ≤ 16) cs) empty block.short in
    holds (nat_lt (branches guards) 64) (Limit (front_at tokens)) _ (lt-ltb _ _ few) (
    passes _ (after_again (codes "->") (drop 1 tokens) (braces written ++ words) (drop_one tokens (Quoted (codes "ELSE")) (block_encoded written ++ words) e)) λ start one.
    gets _ (block_again scope.vars maxint 0 written g.updates start words block.updates block.once short.0 one) λ rest two.
    ended_as (guards ++ (record { conjs = [] ∷ []; updates = g.updates }) ∷ []) (guards ++ g ∷ []) rest
    (ap (λ (cs : List (List Atom)). guards ++ (record { conjs = cs; updates = g.updates }) ∷ []) (sym empty)) two)

else_again : (scope : Scope) (maxint : ℤ) (asking last : List Guard) (otherwise : Option (List WrittenUpdate)) (tokens : List Token) (words : List Lexeme)
    → IsOtherwise scope.vars maxint otherwise last → branches (asking ++ last) ≤ 64 → lexemes tokens ≡ else_encoded otherwise ++ words → heads (codes "ELSE") words ≡ false
    → Got (with_else scope maxint asking tokens) (asking ++ last) words
else_again scope maxint asking last None tokens words other few e none =
    on_false (is_next (codes "ELSE") tokens) _ _ (next_at (codes "ELSE") tokens words e ∙ none) (
    ended_as asking (asking ++ last) tokens (sym (ap (λ (gs : List Guard). asking ++ gs) other ∙ append-nil asking)) e)
else_again scope maxint asking [] (Some updates) tokens words other few e none = absurd other
else_again scope maxint asking (g ∷ last) (Some updates) tokens words other few e none =
    let split = branches_split asking g last in
    let size : length g.conjs ≡ 1 = ap length other.1.0 in
    on_true (is_next (codes "ELSE") tokens) _ _ (next_at (codes "ELSE") tokens _ e) (
    subst (λ (gs : List Guard). Got (last_guard scope maxint asking tokens) (asking ++ g ∷ gs) words) (sym other.0)
    (last_guard_again scope maxint asking updates g tokens words other.1.0 other.1.1 (omega arith) e))

body_again : (scope : Scope) (maxint : ℤ) (written : List WrittenGuard) (otherwise : Option (List WrittenUpdate)) (guards : List Guard) (tokens : List Token) (words : List Lexeme)
    → AreGuards scope maxint written otherwise guards → lexemes tokens ≡ body_encoded written otherwise ++ words → EndsBody words → Got (body_at scope maxint tokens) guards words
unfolding body_at
body_again scope maxint written otherwise guards tokens words are e last =
    let few : branches (are.asking ++ are.last) ≤ 64 = subst (λ (gs : List Guard). branches gs ≤ 64) are.parts are.few in
    let split : lexemes tokens ≡ flat_map guard_encoded written ++ (else_encoded otherwise ++ words) = e ∙ append_assoc (flat_map guard_encoded written) (else_encoded otherwise) words in
    gets _ (each_again begins_guard (guard_at scope maxint) guard_encoded Always (Grows (IsNextGuard scope maxint)) (guard_parts scope maxint) written [] are.asking tokens (else_encoded otherwise ++ words)
    (grows (IsNextGuard scope maxint) [] written are.asking (guard_steps scope maxint [] written are.asking are.last are.guarded few)) split tt (else_stops otherwise words last)) λ rest one.
    subst (λ (gs : List Guard). Got (with_else scope maxint are.asking rest) gs words) (sym are.parts) (else_again scope maxint are.asking are.last otherwise rest words are.other few one last.no_else)

-- ---- the parts of a clause

phase_again : (phase : Phase) (tokens : List Token) (words : List Lexeme) → lexemes tokens ≡ phase_encoded phase ∷ words → next_phase tokens ≡ Some phase
phase_again Before tokens words e =
    let a = next_at (codes "BEFORE") tokens _ e in
    rw a refl
phase_again After tokens words e =
    let a = next_at (codes "BEFORE") tokens _ e in
    let b = next_at (codes "AFTER") tokens _ e in
    rw (a, b) refl
phase_again Exceptional tokens words e =
    let a = next_at (codes "BEFORE") tokens _ e in
    let b = next_at (codes "AFTER") tokens _ e in
    let c = next_at (codes "EXCEPTIONAL") tokens _ e in
    rw (a, b, c) refl

begins_method : (class : List (List ℕ)) (m : MethodName) (params : List WrittenParam) (words : List Lexeme) → class ≢ [] → (first : List ℕ) × (others : List Lexeme) × (signature_encoded class m params ++ words ≡ Name first ∷ Quoted (codes ".") ∷ others)
begins_method [] m params words within = absurd (within refl)
begins_method (first ∷ class) m params words within = (first, _, refl)

given_kind : (kind : Option Kind) → kind ≢ None → is_some kind ≡ true
given_kind None given = absurd (given refl)
given_kind (Some kind) given = refl

given_again : (vars : List Var) (phase : Phase) (kind : Option Kind) (name : List ℕ) (tokens : List Token) (words : List Lexeme) → IsResult vars phase kind name
    → lexemes tokens ≡ Name name ∷ Quoted (codes "=") ∷ words → Got (given_result_at vars kind tokens) name words
unfolding given_result_at
given_again vars phase kind name tokens words is e =
    gets _ (name_again name tokens (Quoted (codes "=") ∷ words) e) λ equals one.
    holds (is_some kind) (WrongKind (front_at tokens)) _ (given_kind kind is.given) (
    holds (not (is_variable vars name)) (Twice (front_at tokens)) _ (ap not is.own) (
    holds (is_short name) (Limit (front_at tokens)) _ is.short (
    passes _ (after_again (codes "=") equals words one) λ rest two.
    ended name rest two)))

and_false : (a : Bool) → (a && false) ≡ false
and_false true = refl
and_false false = refl

result_again : (vars : List Var) (phase : Phase) (kind : Option Kind) (result : Option (List ℕ)) (first : List ℕ) (others : List Lexeme) (tokens : List Token) → MayName vars phase kind result
    → lexemes tokens ≡ result_encoded result ++ Name first ∷ Quoted (codes ".") ∷ others → Got (result_name_at vars phase kind tokens) result (Name first ∷ Quoted (codes ".") ∷ others)
result_again vars phase kind None first others tokens may e =
    let named = is_name_here tokens _ e in
    let dot = next_at (codes "=") (drop 1 tokens) _ (drop_one tokens (Name first) (Quoted (codes ".") ∷ others) e) in
    let assigned : is_assigned tokens ≡ false = rw (named, dot) refl in
    on_false (is_after phase && is_assigned tokens) _ _ (ap (λ (b : Bool). is_after phase && b) assigned ∙ and_false (is_after phase)) (ended None tokens e)
result_again vars phase kind (Some name) first others tokens may e =
    let named = is_name_here tokens _ e in
    let equals = next_at (codes "=") (drop 1 tokens) _ (drop_one tokens (Name name) (Quoted (codes "=") ∷ Name first ∷ Quoted (codes ".") ∷ others) e) in
    let assigned : is_assigned tokens ≡ true = rw (named, equals) refl in
    let after : is_after phase ≡ true = ap is_after may.at_return in
    on_true (is_after phase && is_assigned tokens) _ _ (rw (after, assigned) refl) (
    gets _ (given_again vars phase kind name tokens (Name first ∷ Quoted (codes ".") ∷ others) may e) λ rest left.
    ended (Some name) rest left)

result_ends_type : (result : Option (List ℕ)) (first : List ℕ) (words : List Lexeme) → EndsType (result_encoded result ++ Name first ∷ words)
result_ends_type None first words = record { no_dot = refl; no_bracket = refl }
result_ends_type (Some name) first words = record { no_dot = refl; no_bracket = refl }

-- ---- clauses

phases_differ : (a b : Phase) → phase_number a ≡ phase_number b → a ≡ b
phases_differ Before Before e = refl
phases_differ Before After e = absurd (omega arith)
phases_differ Before Exceptional e = absurd (omega arith)
phases_differ After Before e = absurd (omega arith)
phases_differ After After e = refl
phases_differ After Exceptional e = absurd (omega arith)
phases_differ Exceptional Before e = absurd (omega arith)
phases_differ Exceptional After e = absurd (omega arith)
phases_differ Exceptional Exceptional e = refl

no_clause : (before : List TreeClause) (c : TreeClause) → AllByRecursion (λ (d : TreeClause). Differ d c) before → has_clause before c.phase c.method ≡ false
no_clause [] c apart = refl
no_clause (d ∷ before) c apart = by (d.method == c.method) refl (phase_number d.phase == phase_number c.phase) refl (no_clause before c apart.1) where
  by : (m : Bool) → (d.method == c.method) ≡ m → (p : Bool) → (phase_number d.phase == phase_number c.phase) ≡ p → has_clause before c.phase c.method ≡ false
      → ((m && p) || has_clause before c.phase c.method) ≡ false
  by true is true as_well others = absurd (apart.0 (eqb-true d.method c.method is) (phases_differ d.phase c.phase (eqb-true (phase_number d.phase) (phase_number c.phase) as_well)))
  by true is false as_well others = others
  by false is true as_well others = others
  by false is false as_well others = others

pub record IsNextClause (methods : List ListedMethod) (vars : List Var) (maxint : ℤ) (before : List TreeClause) (written : WrittenClause) (clause : TreeClause) : Type 0 where
  pub is : IsClause methods vars maxint written clause
  pub room : length before < 64
  pub new : has_clause before clause.phase clause.method ≡ false

five : (a b c d e : List Lexeme) (l : Lexeme) → (a ++ (b ++ (c ++ l ∷ d))) ++ e ≡ a ++ (b ++ (c ++ l ∷ (d ++ e)))
five a b c d e l = simp append_assoc

clause_again : (methods : List ListedMethod) (vars : List Var) (maxint : ℤ) (clauses : List TreeClause) (w : WrittenClause) (c : TreeClause) (tokens : List Token) (words : List Lexeme)
    → IsNextClause methods vars maxint clauses w c → lexemes tokens ≡ clause_encoded w ++ words → EndsBody words → Got (clause_at methods vars maxint clauses tokens) (clauses ++ c ∷ []) words
unfolding clause_at clause_of_type clause_of_method
clause_again methods vars maxint clauses w c tokens words next e last =
    let is = next.is in
    let body = body_encoded w.guards w.otherwise in
    let signature = signature_encoded w.class w.method w.params in
    let performs : List Lexeme = Quoted (codes "PERFORM") ∷ (body ++ words) in
    let all : lexemes tokens ≡ phase_encoded w.phase ∷ (type_encoded w.type ++ (result_encoded w.result ++ (signature ++ performs))) =
    e ∙ ap (λ (ws : List Lexeme). phase_encoded w.phase ∷ ws) (five (type_encoded w.type) (result_encoded w.result) signature body words (Quoted (codes "PERFORM"))) in
    let begun = begins_method w.class w.method w.params performs is.method.within in
    let phase_is : c.phase ≡ w.phase = ap (λ (x : TreeClause). x.phase) is.is in
    let new : has_clause clauses w.phase c.method ≡ false = subst (λ (p : Phase). has_clause clauses p c.method ≡ false) phase_is next.new in
    holds (nat_lt (length clauses) 64) (Limit (front_at tokens)) _ (lt-ltb _ _ next.room) (
    there (next_phase tokens) w.phase (Syntax (front_at tokens)) _ (phase_again w.phase tokens _ all) (
    gets _ (type_again w.type (drop 1 tokens) (result_encoded w.result ++ (signature ++ performs)) (drop_one tokens (phase_encoded w.phase) _ all) is.short_type
    (subst (λ (ws : List Lexeme). EndsType (result_encoded w.result ++ ws)) (sym begun.2) (result_ends_type w.result begun.0 (Quoted (codes ".") ∷ begun.1)))) λ left one.
    gets _ (result_again vars w.phase (type_kind w.type) w.result begun.0 begun.1 left is.result (one ∙ ap (λ (ws : List Lexeme). result_encoded w.result ++ ws) begun.2)) λ method two.
    gets _ (method_again methods vars clauses w.phase (type_desc w.type) w.class w.method w.params c.method method performs (two ∙ sym begun.2) is.method is.short_class is.short_method is.params new) λ perform three.
    passes _ (after_again (codes "PERFORM") perform (body ++ words) three) λ start four.
    gets _ (body_again (scope_of vars w.phase (map param_of w.params) w.result (type_kind w.type)) maxint w.guards w.otherwise c.guards start words is.guards four last) λ rest five_left.
    ended_as (clauses ++ clause_of c.method w.phase (map param_of w.params) (type_kind w.type) c.guards ∷ []) (clauses ++ c ∷ []) rest (ap (λ (x : TreeClause). clauses ++ x ∷ []) (sym is.is)) five_left))

clause_begins : (w : WrittenClause) (words : List Lexeme) (tokens : List Token) → lexemes tokens ≡ clause_encoded w ++ words → begins_clause tokens ≡ true
clause_begins w words tokens e = ap is_some (phase_again w.phase tokens _ e)

phase_ends_body : (phase : Phase) (words : List Lexeme) → EndsBody (phase_encoded phase ∷ words)
phase_ends_body Before words = record { no_guard = refl; no_else = refl }
phase_ends_body After words = record { no_guard = refl; no_else = refl }
phase_ends_body Exceptional words = record { no_guard = refl; no_else = refl }

clause_parts : (methods : List ListedMethod) (vars : List Var) (maxint : ℤ) → Parts begins_clause (clause_at methods vars maxint) clause_encoded EndsBody (Grows (IsNextClause methods vars maxint))
clause_parts methods vars maxint = record {
  begins = clause_begins;
  leads = λ w words. phase_ends_body w.phase _;
  long = λ w. omega arith;
  step = λ clauses w next tokens words goes e last.
      subst (λ (end : List TreeClause). Got (clause_at methods vars maxint clauses tokens) end words) (sym goes.1) (clause_again methods vars maxint clauses w goes.0 tokens words goes.2 e last);
}

clause_steps : (methods : List ListedMethod) (vars : List Var) (maxint : ℤ) (before : List TreeClause) (written : List WrittenClause) (clauses : List TreeClause)
    → EachIs (IsClause methods vars maxint) written clauses → AllPairs Differ (before ++ clauses) → length before + length clauses ≤ 64 → Steps (IsNextClause methods vars maxint) before written clauses
clause_steps methods vars maxint before [] [] are once few = tt
clause_steps methods vars maxint before [] (c ∷ clauses) are once few = absurd are
clause_steps methods vars maxint before (w ∷ written) [] are once few = absurd are
clause_steps methods vars maxint before (w ∷ written) (c ∷ clauses) are once few =
    let more = length-append before (c ∷ []) in
    let same : (before ++ c ∷ []) ++ clauses ≡ before ++ c ∷ clauses = append_assoc before (c ∷ []) clauses in (
      record { is = are.0; room = omega arith; new = no_clause before c (apart_before Differ before c clauses once) },
      clause_steps methods vars maxint (before ++ c ∷ []) written clauses are.1 (subst (λ (cs : List TreeClause). AllPairs Differ cs) (sym same) once) (omega arith),
    )

-- ---- variables

first_again : (maxint : ℤ) (is_bool : Bool) (n : ℕ) (tokens : List Token) (words : List Lexeme) → IsFirst maxint is_bool n → lexemes tokens ≡ first_encoded is_bool n ∷ words
    → Got (first_at maxint is_bool tokens) (pos n) words
unfolding truth_at count_at
first_again maxint false n tokens words fits e =
    gets _ (number_again n tokens words e) λ rest left.
    holds (int_le (pos n) maxint) (Range (front_at tokens)) _ (int_test (pos n) maxint fits) (
    ended (pos n) rest left)
first_again maxint true zero tokens words fits e =
    on_false (is_next (codes "true") tokens) _ _ (next_at (codes "true") tokens _ e) (
    on_true (is_next (codes "false") tokens) _ _ (next_at (codes "false") tokens _ e) (ended (pos 0) (drop 1 tokens) (drop_one tokens (Quoted (codes "false")) words e)))
first_again maxint true (suc zero) tokens words fits e =
    on_true (is_next (codes "true") tokens) _ _ (next_at (codes "true") tokens _ e) (ended (pos 1) (drop 1 tokens) (drop_one tokens (Quoted (codes "true")) words e))
first_again maxint true (suc (suc n)) tokens words fits e = absurd (omega arith)

bool_word : (is_bool : Bool) (tokens : List Token) (words : List Lexeme) → lexemes tokens ≡ variable_word is_bool ∷ words → is_next (codes "bool") tokens ≡ is_bool
bool_word true tokens words e = next_at (codes "bool") tokens _ e
bool_word false tokens words e = next_at (codes "bool") tokens _ e

variable_begins : (w : WrittenVar) (words : List Lexeme) (tokens : List Token) → lexemes tokens ≡ variable_encoded w ++ words → begins_variable tokens ≡ true
variable_begins w words tokens e = by w.is_bool e where
  by : (b : Bool) → lexemes tokens ≡ variable_word b ∷ (Name w.name ∷ Quoted (codes "=") ∷ first_encoded w.is_bool w.first ∷ Quoted (codes ";") ∷ words) → begins_variable tokens ≡ true
  by true e =
      let a = next_at (codes "int") tokens _ e in
      let b = next_at (codes "bool") tokens _ e in
      rw (a, b) refl
  by false e =
      let a = next_at (codes "int") tokens _ e in
      rw a refl

pub record IsNextVar (maxint : ℤ) (before : List Var) (written : WrittenVar) (var : Var) : Type 0 where
  pub is : IsVar maxint written var
  pub room : length before < 16
  pub new : is_variable before written.name ≡ false

variable_again : (maxint : ℤ) (vars : List Var) (w : WrittenVar) (v : Var) (tokens : List Token) (words : List Lexeme) → IsNextVar maxint vars w v → lexemes tokens ≡ variable_encoded w ++ words
    → Got (variable_at maxint vars tokens) (vars ++ v ∷ []) words
unfolding variable_at
variable_again maxint vars w v tokens words next e =
    let first = first_encoded w.is_bool w.first in
    let kind : is_next (codes "bool") tokens ≡ w.is_bool = bool_word w.is_bool tokens _ e in
    holds (nat_lt (length vars) 16) (Limit (front_at tokens)) _ (lt-ltb _ _ next.room) (
    gets _ (name_again w.name (drop 1 tokens) (Quoted (codes "=") ∷ first ∷ Quoted (codes ";") ∷ words) (drop_one tokens (variable_word w.is_bool) _ e)) λ equals one.
    holds (not (is_variable vars w.name)) (Twice (front_at (drop 1 tokens))) _ (ap not next.new) (
    holds (is_short w.name) (Limit (front_at (drop 1 tokens))) _ next.is.short (
    passes _ (after_again (codes "=") equals (first ∷ Quoted (codes ";") ∷ words) one) λ start two.
    gets _ (subst (λ (b : Bool). Got (first_at maxint b start) (pos w.first) (Quoted (codes ";") ∷ words)) (sym kind) (first_again maxint w.is_bool w.first start (Quoted (codes ";") ∷ words) next.is.ranged two)) λ end three.
    passes _ (after_again (codes ";") end words three) λ rest four.
    ended_as (vars ++ (record { name = w.name; is_bool = is_next (codes "bool") tokens; first = pos w.first }) ∷ []) (vars ++ v ∷ []) rest
    (ap (λ (b : Bool). vars ++ (record { name = w.name; is_bool = b; first = pos w.first }) ∷ []) kind ∙ ap (λ (x : Var). vars ++ x ∷ []) (sym next.is.is)) four)))

variable_parts : (maxint : ℤ) → Parts begins_variable (variable_at maxint) variable_encoded Always (Grows (IsNextVar maxint))
variable_parts maxint = record {
  begins = variable_begins;
  leads = λ w words. tt;
  long = λ w. omega arith;
  step = λ vars w next tokens words goes e last.
      subst (λ (end : List Var). Got (variable_at maxint vars tokens) end words) (sym goes.1) (variable_again maxint vars w goes.0 tokens words goes.2 e);
}

no_variable : (before : List Var) (name : List ℕ) → AllByRecursion (λ (v : Var). v.name ≢ name) before → is_variable before name ≡ false
no_variable [] name apart = refl
no_variable (v ∷ before) name apart =
    let one = bytes_differ v.name name apart.0 in
    let others = no_variable before name apart.1 in
    rw (one, others) refl

variable_steps : (maxint : ℤ) (before : List Var) (written : List WrittenVar) (vars : List Var) → EachIs (IsVar maxint) written vars → AllPairs (λ v w. v.name ≢ w.name) (before ++ vars)
    → length before + length vars ≤ 16 → Steps (IsNextVar maxint) before written vars
variable_steps maxint before [] [] are once few = tt
variable_steps maxint before [] (v ∷ vars) are once few = absurd are
variable_steps maxint before (w ∷ written) [] are once few = absurd are
variable_steps maxint before (w ∷ written) (v ∷ vars) are once few =
    let more = length-append before (v ∷ []) in
    let same : (before ++ v ∷ []) ++ vars ≡ before ++ v ∷ vars = append_assoc before (v ∷ []) vars in
    let named : v.name ≡ w.name = ap (λ (x : Var). x.name) are.0.is in
    let apart = apart_before (λ (a b : Var). a.name ≢ b.name) before v vars once in (
      record { is = are.0; room = omega arith; new = no_variable before w.name (subst (λ (n : List ℕ). AllByRecursion (λ (x : Var). x.name ≢ n) before) named apart) },
      variable_steps maxint (before ++ v ∷ []) written vars are.1 (subst (λ (vs : List Var). AllPairs (λ (a b : Var). a.name ≢ b.name) vs) (sym same) once) (omega arith),
    )

-- ---- the whole

header_again : (n : ℕ) (tokens : List Token) (words : List Lexeme) → 1 ≤ n → n ≤ 1000000000 → lexemes tokens ≡ header_encoded n ++ words → Got (header_at tokens) (pos n) words
unfolding header_at
header_again n tokens words low high e =
    let l : nat_le 1 n ≡ true = le-leb _ _ low in
    let h : nat_le n 1000000000 ≡ true = le-leb _ _ high in
    passes _ (after_again (codes "MAXINT") tokens _ e) λ number a.
    gets _ (number_again n number _ a) λ scope b.
    holds (nat_le 1 n && nat_le n 1000000000) (Range (front_at number)) _ (rw (l, h) refl) (
    passes _ (after_again (codes "SCOPE") scope _ b) λ session c.
    passes _ (after_again (codes "Session") session _ c) λ security d.
    passes _ (after_again (codes "SECURITY") security _ d) λ state f.
    passes _ (after_again (codes "STATE") state words f) λ rest g.
    ended (pos n) rest g)

no_variable_word : (clauses : List WrittenClause) → (heads (codes "int") (flat_map clause_encoded clauses ++ End ∷ []) || heads (codes "bool") (flat_map clause_encoded clauses ++ End ∷ [])) ≡ false
no_variable_word [] = refl
no_variable_word (c ∷ clauses) = by c.phase where
  by : (phase : Phase) → (heads (codes "int") (phase_encoded phase ∷ []) || heads (codes "bool") (phase_encoded phase ∷ [])) ≡ false
  by Before = refl
  by After = refl
  by Exceptional = refl

variables_stop : (words : List Lexeme) → (heads (codes "int") words || heads (codes "bool") words) ≡ false → Stops begins_variable words
variables_stop words none = λ tokens e.
    let a = next_at (codes "int") tokens words e in
    let b = next_at (codes "bool") tokens words e in
    rw (a, b) none

clauses_stop : Stops begins_clause (End ∷ [])
clauses_stop = λ tokens e.
    let a = next_at (codes "BEFORE") tokens (End ∷ []) e in
    let b = next_at (codes "AFTER") tokens (End ∷ []) e in
    let c = next_at (codes "EXCEPTIONAL") tokens (End ∷ []) e in
    rw (a, b, c) refl

ends_here : (tokens : List Token) (words : List Lexeme) → lexemes tokens ≡ End ∷ words → is_end tokens ≡ true
ends_here [] words e = absurd cc
ends_here (t ∷ tokens) words e = let is : t.lexeme ≡ End = cc in rw is refl

whole_again : (listing : Listing) (written : Written) (tree : PolicyTree) (tokens : List Token) → lexemes tokens ≡ policy_encoded written → IsPolicy listing written tree
    → policy_at listing.methods tokens ≡ Ok tree
unfolding policy_at
whole_again listing written tree tokens e is =
    let m : ℤ = pos written.maxint in
    let few_vars = is.few_vars in
    let few_clauses = is.few_clauses in
    let same : tree.maxint ≡ m = is.maxint in
    let clause_words : List Lexeme = flat_map clause_encoded written.clauses ++ End ∷ [] in
    let head = header_again written.maxint tokens (flat_map variable_encoded written.vars ++ clause_words) is.low is.high e in
    let vars_are : EachIs (IsVar m) written.vars tree.vars = subst (λ (z : ℤ). EachIs (IsVar z) written.vars tree.vars) same is.vars in
    let clauses_are : EachIs (IsClause listing.methods tree.vars m) written.clauses tree.clauses = subst (λ (z : ℤ). EachIs (IsClause listing.methods tree.vars z) written.clauses tree.clauses) same is.clauses in
    let vars = each_again begins_variable (variable_at m) variable_encoded Always (Grows (IsNextVar m)) (variable_parts m) written.vars [] tree.vars head.rest clause_words
    (grows (IsNextVar m) [] written.vars tree.vars (variable_steps m [] written.vars tree.vars vars_are is.var_names (omega arith))) head.left tt
    (variables_stop clause_words (no_variable_word written.clauses)) in
    let clauses = each_again begins_clause (clause_at listing.methods tree.vars m) clause_encoded EndsBody (Grows (IsNextClause listing.methods tree.vars m)) (clause_parts listing.methods tree.vars m)
    written.clauses [] tree.clauses vars.rest (End ∷ [])
    (grows (IsNextClause listing.methods tree.vars m) [] written.clauses tree.clauses (clause_steps listing.methods tree.vars m [] written.clauses tree.clauses clauses_are is.once (omega arith)))
    vars.left (record { no_guard = refl; no_else = refl }) clauses_stop in
    let head_is = head.is in
    let vars_is = vars.is in
    let clauses_is = clauses.is in
    let end_is = ends_here clauses.rest [] clauses.left in
    rw (head_is, vars_is, clauses_is, end_is) (ap (λ (z : ℤ). Ok (record { maxint = z; vars = tree.vars; clauses = tree.clauses })) (sym same))

-- Every policy that a text encodes is read.
pub policy_again : (text : List ℕ) (listing : Listing) (tree : PolicyTree) → EncodesPolicy text listing tree → reading text listing ≡ Ok tree
policy_again text listing tree encoded = whole_again listing encoded.written tree (tokens_of text) encoded.tokens encoded.says

-- A call that answers as the reading does gives what is read, unless memory runs out.
pub answers : {X : Type 0} (result read : Judged X) (x : X) → Answers faults.Memory result read → read ≡ Ok x → MatchResult result (λ r. r ≡ x) (λ e. e ≡ faults.Memory)
answers (Ok r) read x e is = ok_is PolicyFault r x (sym e ∙ is)
answers (Err (faults.Syntax at)) read x e is = let told : read ≡ Err (faults.Syntax at) = e (λ same. cc) in absurd cc
answers (Err (faults.Name at)) read x e is = let told : read ≡ Err (faults.Name at) = e (λ same. cc) in absurd cc
answers (Err (faults.Kind at)) read x e is = let told : read ≡ Err (faults.Kind at) = e (λ same. cc) in absurd cc
answers (Err (faults.Range at)) read x e is = let told : read ≡ Err (faults.Range at) = e (λ same. cc) in absurd cc
answers (Err (faults.NoMethod at)) read x e is = let told : read ≡ Err (faults.NoMethod at) = e (λ same. cc) in absurd cc
answers (Err (faults.Twice at)) read x e is = let told : read ≡ Err (faults.Twice at) = e (λ same. cc) in absurd cc
answers (Err (faults.Limit at)) read x e is = let told : read ≡ Err (faults.Limit at) = e (λ same. cc) in absurd cc
answers (Err (faults.Builtin at)) read x e is = let told : read ≡ Err (faults.Builtin at) = e (λ same. cc) in absurd cc
answers (Err faults.Memory) read x e is = refl

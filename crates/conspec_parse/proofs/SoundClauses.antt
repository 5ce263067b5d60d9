-- Every policy that is read keeps the limits and ranges, and what its parts name is there: clauses and the whole.
use Rattle.std.proofs.Common.{◌≡◌, ℕ, zero, suc, ◌+◌, ◌<◌, ◌≤◌, ℤ, true, false, List, [], ◌∷◌, ◌++◌, length, map, drop, get_or, Option, Some, None, Ok, Err, refl, sym, ap, arith}
use Rattle.std.specs.Prelude.{max, is_some, ok_or, not, codes, nat_lt, nat_le, AllPairs, ◌&&◌, ◌==◌}
use Rattle.std.specs.List.{AllByRecursion}
use Rattle.std.proofs.lemmas.Bool.{ltb-true, leb-true, eq-eqb, and_parts, not-true, or_parts}
use Rattle.std.proofs.lemmas.Bool.Decides.{nat_tests}
use Rattle.std.proofs.lemmas.List.{length-map}
use Rattle.std.proofs.lemmas.List.Quantifiers.{all_pairs_push}
use Rattle.mon_base.proofs.Lists.{position_below}
use Rattle.api_listing.specs.declared.types.ListedMethod.{ListedMethod}
use Rattle.api_listing.specs.declared.types.Listing.{Listing}
use Rattle.conspec_tokens.specs.declared.token.Token.{Token}
use Rattle.conspec_tree.specs.declared.types.Atom.{Atom}
use Rattle.conspec_tree.specs.declared.types.Guard.{Guard}
use Rattle.conspec_tree.specs.declared.types.Kind.{Kind}
use Rattle.conspec_tree.specs.declared.types.Phase.{Phase}
use Rattle.conspec_tree.specs.declared.types.Phase.TheVariants.{Before, After, Exceptional}
use Rattle.conspec_tree.specs.declared.types.TreeClause.{TreeClause}
use Rattle.conspec_tree.specs.declared.types.Var.{Var}
use Rattle.conspec_parse.specs.declared.signature.Param.{Param}
use Rattle.conspec_parse.specs.declared.signature.Signature.{Signature}
use Rattle.conspec_parse.specs.declared.fault.PolicyFault.TheVariants.{Syntax, Kind as WrongKind, NoMethod, Twice, Limit, Builtin}
use Rattle.conspec_parse.specs.Forms.{Parsed, is_short, name_at, following}
use Rattle.conspec_tokens.specs.Front.{front_at, is_next, is_end}
use Rattle.conspec_tree.specs.Variables.{is_variable}
use Rattle.conspec_parse.specs.Types.{type_at}
use Rattle.api_listing.specs.BuiltIn.{is_built_in, is_method}
use Rattle.api_listing.specs.Nearest.{declared_in}
use Rattle.conspec_parse.specs.Scope.{Scope}
use Rattle.conspec_tree.specs.Updates.{all_range_atoms}
use Rattle.conspec_tree.specs.Kinds.{kind_or_object}
use Rattle.conspec_tree.specs.Clauses.{phase_number, has_clause}
use Rattle.conspec_parse.specs.Methods.{desc_of, index_at, listed_method, method_at, signature_at}
use Rattle.conspec_tree.specs.Guards.{branches, longest_from, longest}
use Rattle.conspec_parse.specs.Clauses.{begins_guard, guard_of, guard_at, last_guard, body_at, next_phase, begins_clause, is_assigned, given_result_at, result_name_at, scope_of, clause_of, clause_of_method, clause_of_type, clause_at}
use Rattle.conspec_tree.specs.Clauses.{is_after}
use Rattle.conspec_tokens.specs.Tokens.{tokens_of}
use Rattle.conspec_parse.specs.Policy.{policy_at, reading}
use Rattle.conspec_tree.specs.Tree.{Askable, asked, AreAtoms, IsGuardIn, IsClauseIn, Differ, IsPolicyTree}
use Rattle.conspec_parse.proofs.Branches.{branches_more}
use Rattle.conspec_parse.proofs.Made.{Makes, done, then, tested, either, failed, any, given, each_makes}
use Rattle.conspec_parse.proofs.Sound.{all_more, no_pairs, Asks, room_for_one, IsConj, conjs_sound, variables_sound, header_sound}
use Rattle.conspec_parse.proofs.SoundUpdates.{AreUpdates, block_sound}

-- ---- the longest branch

longest_grows : (most : ℕ) (conjs : List (List Atom)) → most ≤ longest_from most conjs
longest_grows most [] = omega arith
longest_grows most (c ∷ conjs) =
    let more = longest_grows (max most (length c)) conjs in
    grind (arith, nat_tests)

pub longest_low : (scope : Scope) (askable : Askable) (most : ℕ) (conjs : List (List Atom)) → AllByRecursion (IsConj scope askable) conjs → most ≤ 16 → longest_from most conjs ≤ 16
longest_low scope askable most [] are low = low
longest_low scope askable most (c ∷ conjs) are low =
    let few = are.0.few in
    longest_low scope askable (max most (length c)) conjs are.1 (grind (arith, nat_tests))

pub all_short : (most more : ℕ) (conjs : List (List Atom)) → longest_from most conjs + more ≤ 16 → AllByRecursion (λ (conj : List Atom). length conj + more ≤ 16) conjs
all_short most more [] low = tt
all_short most more (c ∷ conjs) low =
    let grown = longest_grows (max most (length c)) conjs in
    (grind (arith, nat_tests), all_short (max most (length c)) more conjs low)

-- ---- guards

pub record AreGuards (scope : Scope) (maxint : ℤ) (askable : Askable) (read : List Guard) : Type 0 where
  pub few : branches read ≤ 64
  pub guards : AllByRecursion (IsGuardIn scope.vars maxint askable) read

guard_is : (scope : Scope) (askable : Askable) (maxint : ℤ) (before atoms : ℕ) (g : Guard) → AllByRecursion (IsConj scope askable) g.conjs → AreUpdates scope.vars maxint atoms g.updates
    → AllByRecursion (λ (conj : List Atom). length conj + all_range_atoms g.updates ≤ 16) g.conjs → IsGuardIn scope.vars maxint askable g
guard_is scope askable maxint before atoms g conjs updates short = record {
  atoms = atoms_of g.conjs conjs;
  updates = updates.updates;
  once = updates.once;
  short = short;
} where
  atoms_of : (cs : List (List Atom)) → AllByRecursion (IsConj scope askable) cs → AllByRecursion (AreAtoms (length scope.vars) askable) cs
  atoms_of [] are = tt
  atoms_of (c ∷ cs) are = (are.0.atoms, atoms_of cs are.1)

guard_sound : (scope : Scope) (askable : Askable) (maxint : ℤ) (guards : List Guard) (tokens : List Token) → Asks scope askable → AreGuards scope maxint askable guards
    → Makes (guard_at scope maxint guards tokens) (λ r. AreGuards scope maxint askable r.0)
unfolding guard_at guard_of
guard_sound scope askable maxint guards tokens asks are =
    then _ (conjs_sound scope askable asks (branches guards) tokens) λ conjs cs.
    then _ (any (following (codes "->") conjs.1)) λ arrow a.
    then _ (block_sound scope.vars maxint (longest conjs.0) arrow (longest_low scope askable 0 conjs.0 cs.conjs (omega arith))) λ updates us.
    let g : Guard = record { conjs = conjs.0; updates = updates.0 } in
    let few = cs.few in
    done (guards ++ (record { conjs = conjs.0; updates = updates.0 }) ∷ [], updates.1) (record {
      few = omega (arith, branches_more guards g);
      guards = all_more (IsGuardIn scope.vars maxint askable) guards g are.guards (guard_is scope askable maxint (branches guards) (longest conjs.0) g cs.conjs us (all_short 0 (all_range_atoms updates.0) conjs.0 us.short));
    })

last_guard_sound : (scope : Scope) (askable : Askable) (maxint : ℤ) (guards : List Guard) (tokens : List Token) → AreGuards scope maxint askable guards
    → Makes (last_guard scope maxint guards tokens) (λ r. AreGuards scope maxint askable r.0)
unfolding last_guard guard_of
last_guard_sound scope askable maxint guards tokens are =
    tested (nat_lt (branches guards) 64) (Limit (front_at tokens)) _ λ few.
    then _ (any (following (codes "->") (drop 1 tokens))) λ arrow a.
    then _ (block_sound scope.vars maxint 0 arrow (omega arith)) λ updates us.
    let g : Guard = record { conjs = [] ∷ []; updates = updates.0 } in
    let room : branches guards < 64 = ltb-true _ _ few in
    done (guards ++ (record { conjs = [] ∷ []; updates = updates.0 }) ∷ [], updates.1) (record {
      few = omega (arith, branches_more guards g);
      guards = all_more (IsGuardIn scope.vars maxint askable) guards g are.guards (guard_is scope askable maxint (branches guards) 0 g (record { few = omega arith; atoms = tt }, tt) us (us.short, tt));
    })

pub body_sound : (scope : Scope) (askable : Askable) (maxint : ℤ) (tokens : List Token) → Asks scope askable → Makes (body_at scope maxint tokens) (λ r. AreGuards scope maxint askable r.0)
unfolding body_at
body_sound scope askable maxint tokens asks =
    then _ (each_makes begins_guard (guard_at scope maxint) (λ guards left. AreGuards scope maxint askable guards) (λ guards left goes are. guard_sound scope askable maxint guards left asks are)
    [] tokens (record { few = omega arith; guards = tt })) λ guards are.
    either (is_next (codes "ELSE") guards.1) _ _ (λ holds. last_guard_sound scope askable maxint guards.0 guards.1 are) (λ fails. done (guards.0, guards.1) are)

-- ---- methods

pub record IsMethodOf (methods : List ListedMethod) (clauses : List TreeClause) (phase : Phase) (method : ℕ) (params : List Param) : Type 0 where
  pub listed : method < length methods
  pub few : length params ≤ 255
  pub once : has_clause clauses phase method ≡ false

pub index_sound : (methods : List ListedMethod) (clauses : List TreeClause) (phase : Phase) (at : ℕ) (signature : Signature) (desc : List ℕ)
    → Makes (index_at methods clauses phase at signature desc) (λ method. IsMethodOf methods clauses phase method signature.params)
unfolding index_at
index_sound methods clauses phase at signature desc =
    tested (not (is_built_in signature.path.class signature.path.name desc)) (Builtin at) _ λ client.
    then _ (given (declared_in methods signature.path.name desc signature.path.class) (NoMethod at)) λ method found.
    tested (nat_le (length signature.params) 255) (NoMethod at) _ λ narrow.
    tested (not (has_clause clauses phase method)) (Twice at) _ λ once.
    let within = position_below (λ (m : ListedMethod). is_method signature.path.class signature.path.name desc m.id) 0 methods method found in
    done method (record { listed = omega arith; few = leb-true _ _ narrow; once = not-true _ once })

method_sound : (methods : List ListedMethod) (vars : List Var) (clauses : List TreeClause) (phase : Phase) (result : List ℕ) (tokens : List Token)
    → Makes (method_at methods vars clauses phase result tokens) (λ r. IsMethodOf methods clauses phase r.0.0 r.0.1)
method_sound methods vars clauses phase result tokens = by (signature_at false vars tokens) where
  by : (read : Parsed Signature) → Makes (listed_method methods vars clauses phase result tokens read) (λ r. IsMethodOf methods clauses phase r.0.0 r.0.1)
  by (Ok read) =
      then _ (index_sound methods clauses phase (front_at tokens) read.0 (desc_of read.0.params result)) λ method is.
      then _ (any (signature_at true vars tokens)) λ judged a.
      done ((method, read.0.params), judged.1) is
  by (Err fault) = then _ (any (signature_at true vars tokens)) λ read a. failed fault

-- ---- clauses

-- A result has a name only at the return of a method that gives one.
abbrev IsNamedAt : Phase → Option Kind → Option (List ℕ) → Type 0
IsNamedAt phase kind result = (name : List ℕ) → result ≡ Some name → (phase ≡ After) × (Some (kind_or_object kind) ≡ kind)

given_kind : (kind : Option Kind) → is_some kind ≡ true → Some (kind_or_object kind) ≡ kind
given_kind None is = absurd cc
given_kind (Some kind) is = refl

at_after : (phase : Phase) → is_after phase ≡ true → phase ≡ After
at_after Before is = absurd cc
at_after After is = refl
at_after Exceptional is = absurd cc

given_result_sound : (vars : List Var) (kind : Option Kind) (tokens : List Token)
    → Makes (given_result_at vars kind tokens) (λ r. Some (kind_or_object kind) ≡ kind)
unfolding given_result_at
given_result_sound vars kind tokens =
    then _ (any (name_at tokens)) λ name a.
    tested (is_some kind) (WrongKind (front_at tokens)) _ λ valued.
    tested (not (is_variable vars name.0)) (Twice (front_at tokens)) _ λ once.
    tested (is_short name.0) (Limit (front_at tokens)) _ λ short.
    then _ (any (following (codes "=") name.1)) λ equals b.
    done (name.0, equals) (given_kind kind valued)

result_sound : (vars : List Var) (phase : Phase) (kind : Option Kind) (tokens : List Token)
    → Makes (result_name_at vars phase kind tokens) (λ r. IsNamedAt phase kind r.0)
result_sound vars phase kind tokens =
    either (is_after phase && is_assigned tokens) _ _
    (λ holds. then _ (given_result_sound vars kind tokens) λ name given.
    done (Some name.0, name.1) (λ word is. (at_after phase (and_parts (is_after phase) (is_assigned tokens) holds).0, given)))
    (λ fails. done (None, tokens) (λ word is. absurd cc))

-- What a clause may ask is what its event has.
asks_event : (vars : List Var) (phase : Phase) (params : List Param) (result : Option (List ℕ)) (kind : Option Kind) → IsNamedAt phase kind result
    → Asks (scope_of vars phase params result kind) (asked phase (map (λ (p : Param). p.kind) params) kind)
asks_event vars Before params result kind is = record { args = refl; result = λ name has. absurd (let at : Before ≡ After = (is name has).0 in cc) }
asks_event vars After params result kind is = record { args = refl; result = λ name has. sym (is name has).1 }
asks_event vars Exceptional params result kind is = record { args = refl; result = λ name has. absurd (let at : Exceptional ≡ After = (is name has).0 in cc) }

pub record AreClauses (methods : List ListedMethod) (vars : List Var) (maxint : ℤ) (read : List TreeClause) : Type 0 where
  pub few : length read ≤ 64
  pub clauses : AllByRecursion (IsClauseIn (length methods) vars maxint) read
  pub once : AllPairs Differ read

unclaimed : (clauses : List TreeClause) (new : TreeClause) → has_clause clauses new.phase new.method ≡ false
    → (k : ℕ) (d : TreeClause) → k < length clauses → Differ (get_or clauses k d) new
unclaimed [] new fails k d lt = absurd (omega arith)
unclaimed (c ∷ clauses) new fails zero d lt = λ method phase.
    let differs = (or_parts (c.method == new.method && phase_number c.phase == phase_number new.phase) (has_clause clauses new.phase new.method) fails).0 in
    let m : (c.method == new.method) ≡ true = eq-eqb _ _ method in
    let p : (phase_number c.phase == phase_number new.phase) ≡ true = eq-eqb _ _ (ap phase_number phase) in
    let is : (c.method == new.method && phase_number c.phase == phase_number new.phase) ≡ true = rw (m, p) refl in
    absurd cc
unclaimed (c ∷ clauses) new fails (suc k) d lt =
    unclaimed clauses new (or_parts (c.method == new.method && phase_number c.phase == phase_number new.phase) (has_clause clauses new.phase new.method) fails).1 k d (omega arith)

clause_is : (methods : List ListedMethod) (vars : List Var) (maxint : ℤ) (clauses : List TreeClause) (phase : Phase) (method : ℕ) (params : List Param)
    (result : Option (List ℕ)) (kind : Option Kind) (guards : List Guard) → nat_lt (length clauses) 64 ≡ true → IsMethodOf methods clauses phase method params
    → AreGuards (scope_of vars phase params result kind) maxint (asked phase (map (λ (p : Param). p.kind) params) kind) guards → AreClauses methods vars maxint clauses
    → AreClauses methods vars maxint (clauses ++ clause_of method phase params kind guards ∷ [])
clause_is methods vars maxint clauses phase method params result kind guards few is gs are =
    let new = clause_of method phase params kind guards in
    let narrow = is.few in
    record {
      few = room_for_one clauses new 64 few;
      clauses = all_more (IsClauseIn (length methods) vars maxint) clauses new are.clauses (record {
        method = is.listed;
        few_args = omega (arith, length-map params (λ (p : Param). p.kind));
        few_branches = gs.few;
        guards = gs.guards;
      });
      once = all_pairs_push Differ clauses new are.once (unclaimed clauses new is.once);
    }

clause_sound : (methods : List ListedMethod) (vars : List Var) (maxint : ℤ) (clauses : List TreeClause) (tokens : List Token) → AreClauses methods vars maxint clauses
    → Makes (clause_at methods vars maxint clauses tokens) (λ r. AreClauses methods vars maxint r.0)
unfolding clause_at clause_of_type clause_of_method
clause_sound methods vars maxint clauses tokens are =
    tested (nat_lt (length clauses) 64) (Limit (front_at tokens)) _ λ few.
    then _ (any (ok_or (next_phase tokens) (Syntax (front_at tokens)))) λ phase a.
    then _ (any (type_at true (drop 1 tokens))) λ type b.
    then _ (result_sound vars phase type.0.kind type.1) λ result named.
    then _ (method_sound methods vars clauses phase type.0.desc result.1) λ method is.
    then _ (any (following (codes "PERFORM") method.1)) λ performs d.
    then _ (body_sound (scope_of vars phase method.0.1 result.0 type.0.kind) (asked phase (map (λ (p : Param). p.kind) method.0.1) type.0.kind) maxint performs
    (asks_event vars phase method.0.1 result.0 type.0.kind named)) λ guards gs.
    done (clauses ++ clause_of method.0.0 phase method.0.1 type.0.kind guards.0 ∷ [], guards.1) (clause_is methods vars maxint clauses phase method.0.0 method.0.1 result.0 type.0.kind guards.0 few is gs are)

pub policy_at_sound : (listing : Listing) (tokens : List Token) → Makes (policy_at listing.methods tokens) (IsPolicyTree listing)
unfolding policy_at
policy_at_sound listing tokens =
    then _ (header_sound tokens) λ maxint ranged.
    then _ (variables_sound maxint.0 maxint.1) λ vars vs.
    then _ (each_makes begins_clause (clause_at listing.methods vars.0 maxint.0) (λ clauses left. AreClauses listing.methods vars.0 maxint.0 clauses)
    (λ clauses left goes are. clause_sound listing.methods vars.0 maxint.0 clauses left are)
    [] vars.1 (record { few = omega arith; clauses = tt; once = no_pairs Differ })) λ clauses cs.
    tested (is_end clauses.1) (Syntax (front_at clauses.1)) _ λ ended.
    done (record { maxint = maxint.0; vars = vars.0; clauses = clauses.0 }) (record {
      maxint_low = ranged.0;
      maxint_high = ranged.1;
      few_vars = vs.few;
      vars = vs.ranged;
      var_names = vs.names;
      few_clauses = cs.few;
      clauses = cs.clauses;
      once = cs.once;
    })

pub policy_sound : (text : List ℕ) (listing : Listing) → Makes (reading text listing) (IsPolicyTree listing)
policy_sound text listing = policy_at_sound listing (tokens_of text)

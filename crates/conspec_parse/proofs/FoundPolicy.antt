-- What is read is encoded so: clauses, variables and the whole.
use Rattle.std.proofs.Common.{◌≡◌, ◌≢◌, ⊎_elim, ℕ, zero, suc, ◌+◌, ◌≤◌, ℤ, pos, Bool, true, false, cond, List, [], ◌∷◌, ◌++◌, length, map, drop, take, Option, Some, None, refl, sym, ap, subst, ◌∙◌, arith, append_assoc}
use Rattle.std.specs.Prelude.{is_some, not, codes, nat_lt, nat_le, int_le, ◌||◌, ◌&&◌, ◌==◌}
use Rattle.std.specs.List.{flat_map}
use Rattle.std.specs.Option.{option_map_or}
use Rattle.std.specs.List.{prefix_len}
use Rattle.std.specs.Char.{is_ascii_digit}
use Rattle.api_listing.specs.Words.{is_name_start, is_name_byte}
use Rattle.std.proofs.lemmas.Bool.{leb-true, and_parts, not-true}
use Rattle.std.proofs.lemmas.List.{append-nil}
use Rattle.api_listing.specs.declared.types.ListedMethod.{ListedMethod}
use Rattle.api_listing.specs.declared.types.Listing.{Listing}
use Rattle.conspec_tokens.specs.declared.token.Lexeme.{Lexeme}
use Rattle.conspec_tokens.specs.declared.token.Lexeme.TheVariants.{Quoted, Name, Number, Wrong, End}
use Rattle.conspec_tokens.specs.declared.token.Token.{Token}
use Rattle.conspec_tokens.specs.declared.scanning.Spot.{Spot}
use Rattle.conspec_tokens.specs.declared.scanning.Spot.TheVariants.{Comment, Inside}
use Rattle.conspec_tokens.specs.declared.scanning.Piece.{Piece}
use Rattle.conspec_tokens.specs.declared.scanning.Piece.TheVariants.{Skips, Begins}
use Rattle.conspec_tree.specs.declared.types.Guard.{Guard}
use Rattle.conspec_tree.specs.declared.types.Kind.{Kind}
use Rattle.conspec_tree.specs.declared.types.Phase.{Phase}
use Rattle.conspec_tree.specs.declared.types.Phase.TheVariants.{Before, After, Exceptional}
use Rattle.conspec_tree.specs.declared.types.TreeClause.{TreeClause}
use Rattle.conspec_tree.specs.declared.types.Var.{Var}
use Rattle.conspec_tree.specs.declared.types.PolicyTree.{PolicyTree}
use Rattle.conspec_parse.specs.declared.signature.Param.{Param}
use Rattle.conspec_parse.specs.declared.type_name.TypeName.{TypeName}
use Rattle.conspec_parse.specs.declared.fault.PolicyFault.TheVariants.{Syntax, Kind as WrongKind, Range, Twice, Limit}
use Rattle.conspec_tokens.specs.Words.{is_keyword, signs}
use Rattle.conspec_tokens.specs.Tokens.{number_of, number_from, first_sign, sign_of, is_blank, begins_comment, in_gap, seen, begun, is_wrong, next_spot, tokens_from, tokens_of}
use Rattle.conspec_tokens.specs.Front.{front_at, is_next, ends, is_end}
use Rattle.conspec_parse.specs.Forms.{is_short}
use Rattle.conspec_tree.specs.Variables.{is_variable}
use Rattle.conspec_parse.specs.Head.{header_at, truth_at, count_at, first_at, begins_variable, variable_at}
use Rattle.conspec_parse.specs.Clauses.{next_phase, begins_clause, is_assigned, given_result_at, result_name_at, scope_of, clause_of, clause_of_method, clause_of_type, clause_at}
use Rattle.conspec_tree.specs.Clauses.{is_after}
use Rattle.conspec_parse.specs.Policy.{policy_at, reading}
use Rattle.conspec_parse.specs.Written.{WrittenType, WrittenClause, WrittenVar, Written, phase_encoded, result_encoded, clause_encoded, first_encoded, variable_word, variable_encoded, header_encoded, policy_encoded}
use Rattle.conspec_parse.specs.Meaning.{EachIs, type_desc, type_kind, param_of, AreGuards, IsResult, MayName, IsMethodIn, IsClause, IsFirst, IsVar, lexemes, EncodesPolicy}
use Rattle.conspec_parse.proofs.Made.{Makes, done, then, tested, either, failed, given, said, together, each_makes}
use Rattle.conspec_parse.proofs.SoundClauses.{policy_at_sound}
use Rattle.conspec_parse.proofs.Found.{Took, joins, nothing, encoded_as, Found, all_more_words, each_more, next_is, after_found, name_found, number_found, which, IsType, type_found}
use Rattle.conspec_parse.proofs.FoundMethods.{WrittenSignature, IsListed, method_found}
use Rattle.conspec_parse.proofs.FoundGuards.{WrittenBody, AreGuardsOf, body_found, int_low}

-- ---- the parts of a clause

phase_is : (tokens : List Token) (phase : Phase) (word : List ℕ) (p : Phase) → phase_encoded p ≡ Quoted word → (is_next word tokens ≡ true) × (p ≡ phase) → Took tokens (phase_encoded phase ∷ []) (drop 1 tokens)
phase_is tokens phase word p is h =
    encoded_as (Quoted word ∷ []) (phase_encoded phase ∷ []) (ap (λ (l : Lexeme). l ∷ []) (sym is ∙ ap phase_encoded h.1)) (next_is word tokens h.0)

pub phase_found : (tokens : List Token) (phase : Phase) → next_phase tokens ≡ Some phase → Took tokens (phase_encoded phase ∷ []) (drop 1 tokens)
phase_found tokens phase e =
    ⊎_elim (phase_is tokens phase (codes "BEFORE") Before refl) (λ e1.
    ⊎_elim (phase_is tokens phase (codes "AFTER") After refl) (λ e2.
    ⊎_elim (phase_is tokens phase (codes "EXCEPTIONAL") Exceptional refl) (λ e3. absurd cc)
    (which (is_next (codes "EXCEPTIONAL") tokens) _ _ phase e2))
    (which (is_next (codes "AFTER") tokens) _ _ phase e1))
    (which (is_next (codes "BEFORE") tokens) _ _ phase e)

pub after_is : (phase : Phase) → is_after phase ≡ true → phase ≡ After
after_is Before e = absurd cc
after_is After e = refl
after_is Exceptional e = absurd cc

some_kind : (kind : Option Kind) → is_some kind ≡ true → kind ≢ None
some_kind None e = absurd cc
some_kind (Some kind) e = λ h. cc

abbrev IsNamed : List Var → Phase → Option Kind → Option (List ℕ) → Option (List ℕ) → Type 0
IsNamed vars phase kind written name = (name ≡ written) × MayName vars phase kind written

given_result_found : (vars : List Var) (kind : Option Kind) (tokens : List Token)
    → Makes (given_result_at vars kind tokens) (λ r. Took tokens (result_encoded (Some r.0)) r.1 × IsResult vars After kind r.0)
unfolding given_result_at
given_result_found vars kind tokens =
    then _ (name_found tokens) λ name one.
    tested (is_some kind) (WrongKind (front_at tokens)) _ λ valued.
    tested (not (is_variable vars name.0)) (Twice (front_at tokens)) _ λ once.
    tested (is_short name.0) (Limit (front_at tokens)) _ λ short.
    then _ (after_found (codes "=") name.1) λ equals two.
    done (name.0, equals) (joins one two, record { at_return = refl; given = some_kind kind valued; own = not-true _ once; short = short })

result_found : (vars : List Var) (phase : Phase) (kind : Option Kind) (tokens : List Token)
    → Makes (result_name_at vars phase kind tokens) (Found result_encoded (IsNamed vars phase kind) tokens)
result_found vars phase kind tokens =
    either (is_after phase && is_assigned tokens) _ _
    (λ holds. then _ (given_result_found vars kind tokens) λ name is.
    let at_return = after_is phase (and_parts (is_after phase) (is_assigned tokens) holds).0 in
    done (Some name.0, name.1) (record {
      written = Some name.0;
      took = is.0;
      says = (refl, subst (λ (p : Phase). IsResult vars p kind name.0) (sym at_return) is.1);
    }))
    (λ fails. done (None, tokens) (record { written = None; took = nothing tokens; says = (refl, tt) }))

clause_made : (methods : List ListedMethod) (vars : List Var) (maxint : ℤ) (clauses : List TreeClause) (phase : Phase) (type : TypeName) (wt : WrittenType)
    (name wn : Option (List ℕ)) (method : ℕ × List Param) (ws : WrittenSignature) (guards : List Guard) (wb : WrittenBody)
    → IsType wt type → IsNamed vars phase type.kind wn name → IsListed methods vars clauses phase type.desc ws method
    → AreGuardsOf (scope_of vars phase method.1 name type.kind) maxint wb guards
    → IsClause methods vars maxint
    (record { phase = phase; type = wt; result = wn; class = ws.path.class; method = ws.path.method; params = ws.params; guards = wb.guards; otherwise = wb.otherwise })
    (clause_of method.0 phase method.1 type.kind guards)
clause_made methods vars maxint clauses phase type wt name wn method ws guards wb t n m g =
    let kind : type.kind ≡ type_kind wt = ap (λ (x : TypeName). x.kind) t.0 in
    let desc : type.desc ≡ type_desc wt = ap (λ (x : TypeName). x.desc) t.0 in
    let params : method.1 ≡ map param_of ws.params = m.params in
    let named : name ≡ wn = n.0 in
    record {
      method = subst (λ (d : List ℕ). IsMethodIn methods ws.path.class ws.path.method ws.params d method.0) desc m.is;
      result = subst (λ (k : Option Kind). MayName vars phase k wn) kind n.1;
      params = m.fit;
      short_type = t.1;
      short_class = m.short_class;
      short_method = m.short_method;
      guards =
          subst (λ (k : Option Kind). AreGuards (scope_of vars phase (map param_of ws.params) wn k) maxint wb.guards wb.otherwise guards) kind (
          subst (λ (x : Option (List ℕ)). AreGuards (scope_of vars phase (map param_of ws.params) x type.kind) maxint wb.guards wb.otherwise guards) named (
          subst (λ (ps : List Param). AreGuards (scope_of vars phase ps name type.kind) maxint wb.guards wb.otherwise guards) params g));
      is = ap (λ (ps : List Param). clause_of method.0 phase ps type.kind guards) params ∙ ap (λ (k : Option Kind). clause_of method.0 phase (map param_of ws.params) k guards) kind;
    }

abbrev clauses_encoded : List WrittenClause → List Lexeme
clauses_encoded ws = flat_map clause_encoded ws

clause_found : (methods : List ListedMethod) (vars : List Var) (maxint : ℤ) (start : List Token) (clauses : List TreeClause) (tokens : List Token)
    → Found clauses_encoded (EachIs (IsClause methods vars maxint)) start (clauses, tokens)
    → Makes (clause_at methods vars maxint clauses tokens) (Found clauses_encoded (EachIs (IsClause methods vars maxint)) start)
unfolding clause_at clause_of_type clause_of_method
clause_found methods vars maxint start clauses tokens before =
    tested (nat_lt (length clauses) 64) (Limit (front_at tokens)) _ λ few.
    then _ (given (next_phase tokens) (Syntax (front_at tokens))) λ phase one.
    then _ (type_found (drop 1 tokens)) λ type two.
    then _ (result_found vars phase type.0.kind type.1) λ result three.
    then _ (method_found methods vars clauses phase type.0.desc result.1) λ method four.
    then _ (after_found (codes "PERFORM") method.1) λ performs five.
    then _ (body_found (scope_of vars phase method.0.1 result.0 type.0.kind) maxint performs) λ guards six.
    let w : WrittenClause = record {
      phase = phase;
      type = two.written;
      result = three.written;
      class = four.written.path.class;
      method = four.written.path.method;
      params = four.written.params;
      guards = six.written.guards;
      otherwise = six.written.otherwise;
    } in
    let c : TreeClause = clause_of method.0.0 phase method.0.1 type.0.kind guards.0 in
    let took : Took tokens (clause_encoded w) guards.1 = joins (phase_found tokens phase one) (joins two.took (joins three.took (joins four.took (joins five six.took)))) in
    done (clauses ++ c ∷ [], guards.1) (record {
      written = before.written ++ w ∷ [];
      took = encoded_as _ _ (all_more_words clause_encoded before.written w) (joins before.took took);
      says = each_more (IsClause methods vars maxint) before.written clauses w c before.says
          (clause_made methods vars maxint clauses phase type.0 two.written result.0 three.written method.0 four.written guards.0 six.written two.says three.says four.says six.says);
    })

-- ---- the head

pub record IsHead (tokens : List Token) (read : ℤ × List Token) : Type 0 where
  pub written : ℕ
  pub took : Took tokens (header_encoded written) read.1
  pub is : read.0 ≡ pos written
  pub low : 1 ≤ written
  pub high : written ≤ 1000000000

header_found : (tokens : List Token) → Makes (header_at tokens) (IsHead tokens)
unfolding header_at
header_found tokens =
    then _ (after_found (codes "MAXINT") tokens) λ number a.
    then _ (number_found number) λ maxint b.
    tested (nat_le 1 maxint.0 && nat_le maxint.0 1000000000) (Range (front_at number)) _ λ ranged.
    then _ (after_found (codes "SCOPE") maxint.1) λ scope c.
    then _ (after_found (codes "Session") scope) λ session d.
    then _ (after_found (codes "SECURITY") session) λ security e.
    then _ (after_found (codes "STATE") security) λ state f.
    let r = and_parts (nat_le 1 maxint.0) (nat_le maxint.0 1000000000) ranged in
    done (pos maxint.0, state) (record { written = maxint.0; took = joins a (joins b (joins c (joins d (joins e f)))); is = refl; low = leb-true _ _ r.0; high = leb-true _ _ r.1 })

-- ---- variables

pub record IsFirstValue (maxint : ℤ) (is_bool : Bool) (tokens : List Token) (read : ℤ × List Token) : Type 0 where
  pub written : ℕ
  pub took : Took tokens (first_encoded is_bool written ∷ []) read.1
  pub is : read.0 ≡ pos written
  pub fits : IsFirst maxint is_bool written

truth_found : (maxint : ℤ) (tokens : List Token) → Makes (truth_at tokens) (IsFirstValue maxint true tokens)
unfolding truth_at
truth_found maxint tokens =
    either (is_next (codes "true") tokens) _ _
    (λ holds. done (pos 1, drop 1 tokens) (record { written = 1; took = next_is (codes "true") tokens holds; is = refl; fits = omega arith })) λ fails.
    either (is_next (codes "false") tokens) _ _
    (λ holds. done (pos 0, drop 1 tokens) (record { written = 0; took = next_is (codes "false") tokens holds; is = refl; fits = omega arith })) λ fails_too.
    failed (Syntax (front_at tokens))

count_found : (maxint : ℤ) (tokens : List Token) → Makes (count_at maxint tokens) (IsFirstValue maxint false tokens)
unfolding count_at
count_found maxint tokens =
    then _ (number_found tokens) λ number one.
    tested (int_le (pos number.0) maxint) (Range (front_at tokens)) _ λ ranged.
    done (pos number.0, number.1) (record { written = number.0; took = one; is = refl; fits = int_low _ _ ranged })

first_found : (maxint : ℤ) (is_bool : Bool) (tokens : List Token) → Makes (first_at maxint is_bool tokens) (IsFirstValue maxint is_bool tokens)
first_found maxint true tokens = truth_found maxint tokens
first_found maxint false tokens = count_found maxint tokens

pub word_found : (tokens : List Token) → begins_variable tokens ≡ true → Took tokens (variable_word (is_next (codes "bool") tokens) ∷ []) (drop 1 tokens)
word_found tokens goes = by (is_next (codes "bool") tokens) refl (is_next (codes "int") tokens) refl goes where
  by : (b : Bool) → is_next (codes "bool") tokens ≡ b → (i : Bool) → is_next (codes "int") tokens ≡ i → (i || b) ≡ true → Took tokens (variable_word b ∷ []) (drop 1 tokens)
  by true e i f or = next_is (codes "bool") tokens e
  by false e true f or = next_is (codes "int") tokens f
  by false e false f or = absurd cc

abbrev variables_encoded : List WrittenVar → List Lexeme
variables_encoded ws = flat_map variable_encoded ws

variable_found : (maxint : ℤ) (start : List Token) (vars : List Var) (tokens : List Token) → begins_variable tokens ≡ true
    → Found variables_encoded (EachIs (IsVar maxint)) start (vars, tokens) → Makes (variable_at maxint vars tokens) (Found variables_encoded (EachIs (IsVar maxint)) start)
unfolding variable_at
variable_found maxint start vars tokens goes before =
    tested (nat_lt (length vars) 16) (Limit (front_at tokens)) _ λ few.
    then _ (name_found (drop 1 tokens)) λ name one.
    tested (not (is_variable vars name.0)) (Twice (front_at (drop 1 tokens))) _ λ once.
    tested (is_short name.0) (Limit (front_at (drop 1 tokens))) _ λ short.
    then _ (after_found (codes "=") name.1) λ equals two.
    then _ (first_found maxint (is_next (codes "bool") tokens) equals) λ first three.
    then _ (after_found (codes ";") first.1) λ ended four.
    let b = is_next (codes "bool") tokens in
    let w : WrittenVar = record { is_bool = b; name = name.0; first = three.written } in
    let v : Var = record { name = name.0; is_bool = b; first = first.0 } in
    let same : v ≡ record { name = name.0; is_bool = b; first = pos three.written } = ap (λ (z : ℤ). record { name = name.0; is_bool = b; first = z }) three.is in
    done (vars ++ v ∷ [], ended) (record {
      written = before.written ++ w ∷ [];
      took = encoded_as _ _ (all_more_words variable_encoded before.written w) (joins before.took (joins (word_found tokens goes) (joins one (joins two (joins three.took four)))));
      says = each_more (IsVar maxint) before.written vars w v before.says (record { is = same; short = short; ranged = three.fits });
    })

-- ---- the whole

end_is : (tokens : List Token) → is_end tokens ≡ true → Took tokens (End ∷ []) (drop 1 tokens)
end_is [] e = absurd cc
end_is (t ∷ tokens) e = record { is = ap (λ (l : Lexeme). l ∷ lexemes tokens) (is t.lexeme e) } where
  is : (l : Lexeme) → ends l ≡ true → l ≡ End
  is (Quoted word) e = absurd cc
  is (Name word) e = absurd cc
  is (Number n) e = absurd cc
  is Wrong e = absurd cc
  is End e = refl

pub record IsWhole (listing : Listing) (tokens : List Token) (tree : PolicyTree) : Type 0 where
  pub written : Written
  pub rest : List Token
  pub front : List Lexeme
  pub front_is : policy_encoded written ≡ front ++ End ∷ []
  pub took : Took tokens (policy_encoded written) rest
  pub maxint : tree.maxint ≡ pos written.maxint
  pub low : 1 ≤ written.maxint
  pub high : written.maxint ≤ 1000000000
  pub vars : EachIs (IsVar tree.maxint) written.vars tree.vars
  pub clauses : EachIs (IsClause listing.methods tree.vars tree.maxint) written.clauses tree.clauses

whole_found : (listing : Listing) (tokens : List Token) → Makes (policy_at listing.methods tokens) (IsWhole listing tokens)
unfolding policy_at
whole_found listing tokens =
    then _ (header_found tokens) λ maxint one.
    then _ (each_makes begins_variable (variable_at maxint.0) (λ vars left. Found variables_encoded (EachIs (IsVar maxint.0)) maxint.1 (vars, left))
    (λ vars left goes before. variable_found maxint.0 maxint.1 vars left goes before)
    [] maxint.1 (record { written = []; took = nothing maxint.1; says = tt })) λ vars two.
    then _ (each_makes begins_clause (clause_at listing.methods vars.0 maxint.0) (λ clauses left. Found clauses_encoded (EachIs (IsClause listing.methods vars.0 maxint.0)) vars.1 (clauses, left))
    (λ clauses left goes before. clause_found listing.methods vars.0 maxint.0 vars.1 clauses left before)
    [] vars.1 (record { written = []; took = nothing vars.1; says = tt })) λ clauses three.
    tested (is_end clauses.1) (Syntax (front_at clauses.1)) _ λ ended.
    let h = header_encoded one.written in
    let v = variables_encoded two.written in
    let c = clauses_encoded three.written in
    done (record { maxint = maxint.0; vars = vars.0; clauses = clauses.0 }) (record {
      written = record { maxint = one.written; vars = two.written; clauses = three.written };
      rest = drop 1 clauses.1;
      front = h ++ (v ++ c);
      front_is = ap (λ (w : List Lexeme). h ++ w) (sym (append_assoc v c (End ∷ []))) ∙ sym (append_assoc h (v ++ c) (End ∷ []));
      took = joins one.took (joins two.took (joins three.took (end_is clauses.1 ended)));
      maxint = one.is;
      low = one.low;
      high = one.high;
      vars = two.says;
      clauses = three.says;
    })

-- the end of a text is its last token

abbrev NoEnd : Piece → Type 0
NoEnd (Skips spot) = Unit {0}
NoEnd (Begins lexeme more) = ends lexeme ≡ false

no_end_either : (test : Bool) (a b : Piece) → NoEnd a → NoEnd b → NoEnd (cond test a b)
no_end_either true a b x y = x
no_end_either false a b x y = y

no_end_word : (test : Bool) (word : List ℕ) → ends (cond test (Quoted word) (Name word)) ≡ false
no_end_word true word = refl
no_end_word false word = refl

no_end_number : (digits : List ℕ) → ends (number_of digits) ≡ false
no_end_number [] = refl
no_end_number (b ∷ digits) = by (b == 48 && nat_lt 0 (length digits)) where
  by : (test : Bool) → ends (cond test Wrong (Number (number_from 0 (b ∷ digits)))) ≡ false
  by true = refl
  by false = refl

no_end_sign : (sign : List ℕ) → ends (sign_of sign) ≡ false
no_end_sign [] = refl
no_end_sign (b ∷ sign) = refl

no_end : (b : ℕ) (text : List ℕ) → NoEnd (in_gap b text)
no_end b text =
    no_end_either (is_blank b) _ _ tt (
    no_end_either (begins_comment text) _ _ tt (
    no_end_either (is_name_start b) _ _ (no_end_word (is_keyword (take (prefix_len is_name_byte text) text)) (take (prefix_len is_name_byte text) text)) (
    no_end_either (is_ascii_digit b) _ _ (no_end_number (take (prefix_len is_ascii_digit text) text)) (
    no_end_sign (take (first_sign signs text) text)))))

seen_no_end : (spot : Spot) (b : ℕ) (text : List ℕ) → NoEnd (seen spot b text)
seen_no_end Comment b text = no_end_either (b == 10) _ _ tt tt
seen_no_end (Inside zero) b text = no_end b text
seen_no_end (Inside (suc n)) b text = tt

not_after_nothing : (front rest : List Lexeme) → [] ≡ front ++ End ∷ rest → rest ≡ []
not_after_nothing [] rest e = absurd cc
not_after_nothing (l ∷ front) rest e = absurd cc

abbrev EndsLast : List Lexeme → Type 0
EndsLast words = (front rest : List Lexeme) → words ≡ front ++ End ∷ rest → rest ≡ []

after_token : (at : ℕ) (text : List ℕ) (more : ℕ) → ((next : Spot) → EndsLast (lexemes (tokens_from next (at + 1) text))) → (wrong : Bool) (front rest : List Lexeme)
    → lexemes (option_map_or (λ next. tokens_from next (at + 1) text) (cond wrong None (Some (Inside more))) []) ≡ front ++ End ∷ rest → rest ≡ []
after_token at text more later true front rest is = not_after_nothing front rest is
after_token at text more later false front rest is = later (Inside more) front rest is

next_ends : (at : ℕ) (text : List ℕ) (piece : Piece) → NoEnd piece → ((next : Spot) → EndsLast (lexemes (tokens_from next (at + 1) text)))
    → EndsLast (lexemes (begun at piece ++ option_map_or (λ next. tokens_from next (at + 1) text) (next_spot piece) []))
next_ends at text (Skips next) none later front rest e = later next front rest e
next_ends at text (Begins l more) none later [] rest e =
    let is : l ≡ End = cc in
    let ended : ends l ≡ true = ap ends is in
    absurd cc
next_ends at text (Begins l more) none later (w ∷ front) rest e = after_token at text more later (is_wrong l) front rest cc

ends_last : (spot : Spot) (at : ℕ) (text : List ℕ) → EndsLast (lexemes (tokens_from spot at text))
ends_last spot at [] [] rest e = cc
ends_last spot at [] (l ∷ front) rest e = not_after_nothing front rest cc
ends_last spot at (b ∷ text) front rest e =
    next_ends at text (seen spot b (b ∷ text)) (seen_no_end spot b (b ∷ text)) (λ next. ends_last next (at + 1) text) front rest e

all_tokens : (text : List ℕ) (front : List Lexeme) (written : Written) (rest : List Token) → policy_encoded written ≡ front ++ End ∷ [] → Took (tokens_of text) (policy_encoded written) rest
    → lexemes (tokens_of text) ≡ policy_encoded written
unfolding tokens_of
all_tokens text front written rest front_is took =
    let whole : lexemes (tokens_from (Inside 0) 0 text) ≡ front ++ End ∷ lexemes rest =
    took.is ∙ ap (λ (w : List Lexeme). w ++ lexemes rest) front_is ∙ append_assoc front (End ∷ []) (lexemes rest) in
    let none : lexemes rest ≡ [] = ends_last (Inside 0) 0 text front (lexemes rest) whole in
    took.is ∙ ap (λ (w : List Lexeme). policy_encoded written ++ w) none ∙ append-nil (policy_encoded written)

-- Every policy that is read is encoded by its text.
pub policy_found : (text : List ℕ) (listing : Listing) → Makes (reading text listing) (EncodesPolicy text listing)
policy_found text listing = said (together (whole_found listing (tokens_of text)) (policy_at_sound listing (tokens_of text))) λ tree is.
    let w = is.0 in
    let s = is.1 in
    record {
      written = w.written;
      tokens = all_tokens text w.front w.written w.rest w.front_is w.took;
      says = record {
        maxint = w.maxint;
        low = w.low;
        high = w.high;
        vars = w.vars;
        few_vars = s.few_vars;
        var_names = s.var_names;
        clauses = w.clauses;
        few_clauses = s.few_clauses;
        once = s.once;
      };
    }

-- Before a fault of syntax stands the beginning of a written policy: methods, clauses and the whole.
use Rattle.std.proofs.Common.{◌≡◌, ◌≢◌, ◌⊎◌, inl, inr, ℕ, ◌<◌, ℤ, pos, Bool, true, false, List, [], ◌∷◌, ◌++◌, length, drop, Option, Some, None, Ok, Err, refl, sym, ◌∙◌, ap, subst, append_assoc}
use Rattle.std.specs.Prelude.{is_some, not, codes, nat_le, nat_lt, int_le, ok_or, ◌||◌, ◌&&◌}
use Rattle.std.specs.List.{AllByRecursion, flat_map}
use Rattle.std.proofs.lemmas.List.{append-nil}
use Rattle.mon_base.specs.Reading.{◌>>=◌, need}
use Rattle.api_listing.specs.BuiltIn.{is_built_in}
use Rattle.api_listing.specs.Nearest.{declared_in}
use Rattle.api_listing.specs.declared.types.ListedMethod.{ListedMethod}
use Rattle.conspec_tokens.specs.declared.token.Lexeme.{Lexeme}
use Rattle.conspec_tokens.specs.declared.token.Lexeme.TheVariants.{Quoted, Name, Number, End}
use Rattle.conspec_tokens.specs.declared.token.Token.{Token}
use Rattle.conspec_tree.specs.declared.types.Kind.{Kind}
use Rattle.conspec_tree.specs.declared.types.Phase.{Phase}
use Rattle.conspec_tree.specs.declared.types.Phase.TheVariants.{Before, After}
use Rattle.conspec_tree.specs.declared.types.TreeClause.{TreeClause}
use Rattle.conspec_tree.specs.declared.types.Var.{Var}
use Rattle.conspec_parse.specs.declared.signature.Param.{Param}
use Rattle.conspec_parse.specs.declared.signature.Parts.{Parts}
use Rattle.conspec_parse.specs.declared.signature.Signature.{Signature}
use Rattle.conspec_parse.specs.declared.fault.PolicyFault.{PolicyFault}
use Rattle.conspec_parse.specs.declared.fault.PolicyFault.TheVariants as faults
use Rattle.conspec_parse.specs.Forms.{Parsed, is_short}
use Rattle.conspec_tokens.specs.Front.{front_at, is_next, is_name, is_end}
use Rattle.conspec_parse.specs.Head.{header_at, truth_at, count_at, first_at, begins_variable, variable_at}
use Rattle.conspec_tree.specs.Variables.{is_variable}
use Rattle.conspec_parse.specs.Methods.{is_free, given_name_at, parameter_name_at, parameter_at, next_parameter, some_parameters, parameters_at, init, part_at, class_under, next_step, path_at, signature_at, desc_of, index_at, listed_method, method_at}
use Rattle.conspec_tree.specs.Clauses.{has_clause}
use Rattle.conspec_parse.specs.Clauses.{next_phase, begins_clause, is_assigned, given_result_at, result_name_at, scope_of, clause_of, clause_of_method, clause_of_type, clause_at}
use Rattle.conspec_tree.specs.Clauses.{is_after}
use Rattle.conspec_parse.specs.Policy.{policy_at}
use Rattle.conspec_parse.specs.Written.{WrittenType, WrittenParam, MethodName, WrittenClause, WrittenVar, name_encoded, type_encoded, param_encoded, params_encoded, method_encoded, path_encoded, signature_encoded, phase_encoded, result_encoded, clause_encoded, first_encoded, variable_word, variable_encoded, header_encoded, policy_encoded}
use Rattle.conspec_parse.specs.Written.Element.{Void}
use Rattle.conspec_parse.specs.Written.MethodName.{Constructor, Plain}
use Rattle.conspec_parse.specs.Deciding.{IsInGrammar}
use Rattle.conspec_parse.proofs.Alike.{next_goes_on}
use Rattle.conspec_parse.proofs.AlikePolicy.{phase_goes_on, begins_goes_on}
use Rattle.conspec_parse.proofs.Loose.{signature_loose}
use Rattle.conspec_parse.proofs.Found.{next_is}
use Rattle.conspec_parse.proofs.FoundMethods.{is_constructor, path_more}
use Rattle.conspec_parse.proofs.FoundGuards.{WrittenBody, encoded_body}
use Rattle.conspec_parse.proofs.FoundPolicy.{phase_found, word_found, after_is}
use Rattle.conspec_parse.proofs.Begun.{Source, Viable, At, Leads, Reached, done, then, tested, given, either, said, each_leads, meaning, told, moved, after, naming, numbering, regroup, unnest, last_out, grown, none_yet, judged_leads, type_leads}
use Rattle.conspec_parse.proofs.BegunGuards.{body_leads}

-- ---- parameters

given_leads : {s : Source} (Next : List Lexeme → Type 0) (tail : List Lexeme) {t : List Token} (vars : List Var) (params : List Param) → At s t Next → Next tail
    → Leads s (given_name_at true vars params t) (λ r. At s r.1 (λ more. Next (Name r.0 ∷ more)))
unfolding given_name_at
given_leads Next tail {t = t} vars params at next =
    then _ (naming tail at next) λ name more.
    tested (not true || is_free vars params name.0) (faults.Twice (front_at t)) _ refl (
    tested (not true || is_short name.0) (faults.Limit (front_at t)) _ refl (done name more))

parameter_name_leads : {s : Source} (Next : List Lexeme → Type 0) (tail : List Lexeme) {t : List Token} (vars : List Var) (params : List Param) → At s t Next → Next tail
    → Leads s (parameter_name_at true vars params t) (λ r. Reached s Next name_encoded r.1)
parameter_name_leads Next tail {t = t} vars params at next =
    either (is_name t) _ _
    (λ is. then _ (given_leads Next tail vars params at next) λ name more. done (Some name.0, name.1) (record { written = Some name.0; at = more }))
    (λ no. done (None, t) (record { written = None; at = at }))

parameter_leads : {s : Source} (Next : List Lexeme → Type 0) (tail : List Lexeme) {t : List Token} (vars : List Var) (params : List Param) → At s t Next
    → ((p : WrittenParam) → Next (param_encoded p ++ tail)) → Leads s (parameter_at true vars params t) (λ r. Reached s Next param_encoded r.1)
unfolding parameter_at
parameter_leads Next tail vars params at goes =
    let unnamed : (w : WrittenType) → Next (type_encoded w ++ tail) = λ w. unnest Next (type_encoded w) tail (goes (record { type = w; name = None })) in
    then _ (type_leads Next tail at unnamed) λ type is.
    then _ (parameter_name_leads (λ w. Next (type_encoded is.written ++ w)) tail vars params is.at (unnamed is.written)) λ name named.
    done _ (record {
      written = record { type = is.written; name = named.written };
      at = meaning named.at (λ words next. regroup Next (type_encoded is.written) (name_encoded named.written) words next);
    })

abbrev comma_param : WrittenParam → List Lexeme
comma_param p = Quoted (codes ",") ∷ param_encoded p

module _ {s : Source} (Next : List Lexeme → Type 0) (tail : List Lexeme) (vars : List Var) where
  next_parameter_leads : (first : WrittenParam) (params : List Param) (left : List Token) → ((others : List WrittenParam) → Next (param_encoded first ++ (flat_map comma_param others ++ tail)))
      → Reached s (λ w. Next (param_encoded first ++ w)) (flat_map comma_param) left
      → Leads s (next_parameter true vars params left) (λ r. Reached s (λ w. Next (param_encoded first ++ w)) (flat_map comma_param) r.1)
  unfolding next_parameter
  next_parameter_leads first params left goes are =
      let First : List Lexeme → Type 0 = λ w. Next (param_encoded first ++ w) in
      let other : (p : WrittenParam) → First (flat_map comma_param are.written ++ (comma_param p ++ tail)) = λ p. last_out First comma_param are.written p tail (goes (are.written ++ p ∷ [])) in
      let void : WrittenParam = record { type = record { element = Void; dimensions = 0 }; name = None } in
      then _ (after (codes ",") (comma_param void ++ tail) are.at (other void)) λ comma more.
      said (parameter_leads (λ w. First (flat_map comma_param are.written ++ (Quoted (codes ",") ∷ w))) tail vars params more other) λ r is.
      grown First comma_param are.written is.written is.at

  some_parameters_leads : {t : List Token} → At s t Next → ((ps : List WrittenParam) → Next (params_encoded ps ++ tail))
      → Leads s (some_parameters true vars t) (λ r. Reached s Next params_encoded r.1)
  unfolding some_parameters
  some_parameters_leads at goes =
      then _ (parameter_leads Next tail vars [] at (λ p. unnest Next (param_encoded p) tail (goes (p ∷ [])))) λ first is.
      let First : List Lexeme → Type 0 = λ w. Next (param_encoded is.written ++ w) in
      said (each_leads (is_next (codes ",")) (next_parameter true vars) (λ params left. Reached s First (flat_map comma_param) left)
      (λ params left more are. next_parameter_leads is.written params left
      (λ others. regroup Next (param_encoded is.written) (flat_map comma_param others) tail (goes (is.written ∷ others))) are)
      first.0 first.1 (none_yet First comma_param is.at)) λ r are. record {
        written = is.written ∷ are.written;
        at = meaning are.at (λ words next. regroup Next (param_encoded is.written) (flat_map comma_param are.written) words next);
      }

  parameters_leads : {t : List Token} → At s t Next → ((ps : List WrittenParam) → Next (params_encoded ps ++ tail))
      → Leads s (parameters_at true vars t) (λ r. Reached s Next params_encoded r.1)
  parameters_leads {t = t} at goes =
      either (is_next (codes ")") t) _ _ (λ closed. done ([], t) (record { written = []; at = at })) (λ more. some_parameters_leads at goes)

-- ---- the class and the name

abbrev one_method : MethodName → List Lexeme
one_method m = method_encoded m ∷ []

not_none : (class : List (List ℕ)) (name : List ℕ) → class ++ name ∷ [] ≢ []
not_none [] name e = cc
not_none (first ∷ class) name e = cc

-- A path is written with a class, or has a name so far.
record IsPathAt (s : Source) (Next : List Lexeme → Type 0) (parts : Parts) (t : List Token) : Type 0 where
  class : List (List ℕ)
  method : MethodName
  at : At s t (λ more. Next (path_encoded class method ++ more))
  last : parts.is_last ≡ is_constructor method
  whole : ((parts.class ≡ None) × (is_constructor method ≡ false)) ⊎ (class ≢ [])

record IsPartAt (s : Source) (Next : List Lexeme → Type 0) (last : Bool) (t : List Token) : Type 0 where
  method : MethodName
  at : At s t (λ more. Next (method_encoded method ∷ more))
  is : last ≡ is_constructor method

record IsWholePath (s : Source) (Next : List Lexeme → Type 0) (t : List Token) : Type 0 where
  class : List (List ℕ)
  method : MethodName
  at : At s t (λ more. Next (path_encoded class method ++ more))
  whole : class ≢ []

part_leads : {s : Source} (Next : List Lexeme → Type 0) (words : List Lexeme) {t : List Token} → At s t Next → Next words
    → Leads s (part_at true t) (λ r. IsPartAt s Next (is_next init t) r.1)
part_leads Next words {t = t} at next =
    either (is_next init t) _ _
    (λ is. done (init, drop 1 t) (record { method = Constructor; at = moved (Quoted init ∷ []) at (next_goes_on init t is) (next_is init t is); is = is }))
    (λ no. said (judged_leads words at next) λ r more. record { method = Plain r.0; at = more; is = no })

module _ (s : Source) (Next : List Lexeme → Type 0) (tail : List Lexeme) (goes : (class : List (List ℕ)) (m : MethodName) → class ≢ [] → Next (path_encoded class m ++ tail)) where
  path_out : (class : List (List ℕ)) (name : List ℕ) (m : MethodName) (words : List Lexeme) → Next (path_encoded (class ++ name ∷ []) m ++ words)
      → Next (path_encoded class (Plain name) ++ (Quoted (codes ".") ∷ method_encoded m ∷ words))
  path_out class name m words next =
      regroup Next (path_encoded class (Plain name)) (Quoted (codes ".") ∷ one_method m) words (subst (λ (w : List Lexeme). Next (w ++ words)) (sym (path_more class name m)) next)

  further : (class : List (List ℕ)) (name : List ℕ) → Next (path_encoded class (Plain name) ++ (Quoted (codes ".") ∷ Name [] ∷ tail))
  further class name = path_out class name (Plain []) tail (goes (class ++ name ∷ []) (Plain []) (not_none class name))

  stops : (class : List (List ℕ)) (m : MethodName) (parts : Parts) (t : List Token) {X : Type 0} {Is : X → Type 0} → At s t (λ more. Next (path_encoded class m ++ more))
      → ((parts.class ≡ None) × (is_constructor m ≡ false)) ⊎ (class ≢ []) → Leads s (Err (faults.Syntax (front_at t))) Is
  stops class Constructor parts t at (inl bare) = absurd (let e = bare.1 in cc)
  stops class Constructor parts t at (inr whole) = told tail at (goes class Constructor whole)
  stops class (Plain name) parts t at whole = told (Quoted (codes ".") ∷ Name [] ∷ tail) at (further class name)

  step_leads : (parts : Parts) (t : List Token) → IsPathAt s Next parts t → Leads s (next_step true parts t) (λ r. IsPathAt s Next r.0 r.1)
  unfolding next_step
  step_leads parts t is = by is.method is.at is.last is.whole parts.is_last refl where
    by : (m : MethodName) → At s t (λ more. Next (path_encoded is.class m ++ more)) → parts.is_last ≡ is_constructor m → ((parts.class ≡ None) × (is_constructor m ≡ false)) ⊎ (is.class ≢ [])
        → (last : Bool) → parts.is_last ≡ last → Leads s (next_step true parts t) (λ r. IsPathAt s Next r.0 r.1)
    by m at last whole true e = rw e (stops is.class m parts t at whole)
    by Constructor at last whole false e = absurd cc
    by (Plain name) at last whole false e =
        rw e (
        then _ (after (codes ".") (Quoted (codes ".") ∷ Name [] ∷ tail) at (further is.class name)) λ dot more.
        then _ (part_leads (λ w. Next (path_encoded is.class (Plain name) ++ (Quoted (codes ".") ∷ w))) (Name [] ∷ tail) more (further is.class name)) λ part p.
        done (record { class = Some (class_under parts.class parts.name); name = part.0; is_last = is_next init dot }, part.1) (record {
          class = is.class ++ name ∷ [];
          method = p.method;
          at = meaning p.at (λ words next. path_out is.class name p.method words next);
          last = p.is;
          whole = inr (not_none is.class name);
        }))

  class_leads : (parts : Parts) (t : List Token) → IsPathAt s Next parts t → Leads s (ok_or parts.class (faults.Syntax (front_at t))) (λ class. IsWholePath s Next t)
  class_leads parts t is = by parts.class refl where
    named : (class : List ℕ) → parts.class ≡ Some class → ((parts.class ≡ None) × (is_constructor is.method ≡ false)) ⊎ (is.class ≢ []) → is.class ≢ []
    named class e (inl bare) = absurd (let none = bare.0 in cc)
    named class e (inr whole) = whole

    by : (found : Option (List ℕ)) → parts.class ≡ found → Leads s (ok_or found (faults.Syntax (front_at t))) (λ class. IsWholePath s Next t)
    by (Some class) e = done class (record { class = is.class; method = is.method; at = is.at; whole = named class e is.whole })
    by None e = stops is.class is.method parts t is.at is.whole

  path_leads : {t : List Token} → At s t Next → Leads s (path_at true t) (λ r. IsWholePath s Next r.1)
  unfolding path_at
  path_leads at =
      then _ (judged_leads (Name [] ∷ Quoted (codes ".") ∷ Name [] ∷ tail) at (goes ([] ∷ []) (Plain []) (not_none [] []))) λ first named.
      then _ (each_leads (is_next (codes ".")) (next_step true) (λ parts left. IsPathAt s Next parts left) (λ parts left more is. step_leads parts left is)
      (record { class = None; name = first.0; is_last = false }) first.1 (record { class = []; method = Plain first.0; at = named; last = refl; whole = inl (refl, refl) })) λ parts is.
      then _ (class_leads parts.0 parts.1 is) λ class whole.
      done (record { class = class; name = parts.0.name }, parts.1) whole

record IsSignatureAt (s : Source) (Next : List Lexeme → Type 0) (t : List Token) : Type 0 where
  class : List (List ℕ)
  method : MethodName
  params : List WrittenParam
  whole : class ≢ []
  at : At s t (λ more. Next (signature_encoded class method params ++ more))

module _ (s : Source) (Next : List Lexeme → Type 0) (tail : List Lexeme) (vars : List Var)
    (goes : (class : List (List ℕ)) (m : MethodName) (params : List WrittenParam) → class ≢ [] → Next (signature_encoded class m params ++ tail)) where
  spread : (class : List (List ℕ)) (m : MethodName) (params : List WrittenParam) (words : List Lexeme) → Next (signature_encoded class m params ++ words)
      → Next (path_encoded class m ++ (Quoted (codes "(") ∷ (params_encoded params ++ (Quoted (codes ")") ∷ words))))
  spread class m params words next =
      regroup (λ w. Next (path_encoded class m ++ (Quoted (codes "(") ∷ w))) (params_encoded params) (Quoted (codes ")") ∷ []) words
      (regroup Next (path_encoded class m) (Quoted (codes "(") ∷ (params_encoded params ++ Quoted (codes ")") ∷ [])) words next)

  signature_leads : {t : List Token} → At s t Next → Leads s (signature_at true vars t) (λ r. IsSignatureAt s Next r.1)
  unfolding signature_at
  signature_leads at =
      then _ (path_leads s Next (Quoted (codes "(") ∷ Quoted (codes ")") ∷ tail) (λ class m whole. spread class m [] tail (goes class m [] whole)) at) λ path p.
      then _ (after (codes "(") (Quoted (codes "(") ∷ Quoted (codes ")") ∷ tail) p.at (spread p.class p.method [] tail (goes p.class p.method [] p.whole))) λ opened more.
      then _ (parameters_leads (λ w. Next (path_encoded p.class p.method ++ (Quoted (codes "(") ∷ w))) (Quoted (codes ")") ∷ tail) vars more
      (λ params. spread p.class p.method params tail (goes p.class p.method params p.whole))) λ params ps.
      then _ (after (codes ")") (Quoted (codes ")") ∷ tail) ps.at (spread p.class p.method ps.written tail (goes p.class p.method ps.written p.whole))) λ closed last.
      done _ (record {
        class = p.class;
        method = p.method;
        params = ps.written;
        whole = p.whole;
        at = meaning last (λ words next. spread p.class p.method ps.written words next);
      })

  index_leads : (methods : List ListedMethod) (clauses : List TreeClause) (phase : Phase) (at : ℕ) (signature : Signature) (desc : List ℕ)
      → Leads s (index_at methods clauses phase at signature desc) (λ method. Unit {0})
  unfolding index_at
  index_leads methods clauses phase at signature desc =
      tested (not (is_built_in signature.path.class signature.path.name desc)) (faults.Builtin at) _ refl (
      then _ (given (declared_in methods signature.path.name desc signature.path.class) (faults.NoMethod at) refl) λ method is.
      tested (nat_le (length signature.params) 255) (faults.NoMethod at) _ refl (
      tested (not (has_clause clauses phase method)) (faults.Twice at) _ refl (done method tt)))

  method_leads : {t : List Token} (methods : List ListedMethod) (clauses : List TreeClause) (phase : Phase) (result : List ℕ) → At s t Next
      → Leads s (method_at methods vars clauses phase result t) (λ r. IsSignatureAt s Next r.1)
  method_leads {t = t} methods clauses phase result at = by (signature_at false vars t) refl where
    known : Leads s (signature_at true vars t) (λ r. IsSignatureAt s Next r.1 × (signature_at true vars t ≡ Ok r))
    known = let leads = signature_leads at in record { of = λ r e. (leads.of r e, e); begins = leads.begins }

    by : (loose : Parsed Signature) → signature_at false vars t ≡ loose → Leads s (listed_method methods vars clauses phase result t loose) (λ r. IsSignatureAt s Next r.1)
    by (Ok read) e =
        then _ (index_leads methods clauses phase (front_at t) read.0 (desc_of read.0.params result)) λ method any.
        then _ known λ judged is.
        done ((method, read.0.params), judged.1) is.0
    by (Err fault) e =
        then _ known λ read is.
        (let loose : signature_at false vars t ≡ Ok read = (signature_loose vars t).read read is.1 in
        let no : Ok read ≡ Err fault = sym loose ∙ e in
        absurd (not_both read fault no)) where
          not_both : (read : Signature × List Token) (fault : PolicyFault) → Ok read ≡ Err fault → ⊥
          not_both read fault e = cc

-- ---- clauses

abbrev no_body : WrittenBody
no_body = record { guards = []; otherwise = None }

abbrev clause_from : Phase → WrittenType → Option (List ℕ) → List (List ℕ) → MethodName → List WrittenParam → WrittenBody → WrittenClause
clause_from phase type result class m params body = record {
  phase = phase;
  type = type;
  result = result;
  class = class;
  method = m;
  params = params;
  guards = body.guards;
  otherwise = body.otherwise;
}

abbrev clause_parts : Phase → WrittenType → Option (List ℕ) → List (List ℕ) → MethodName → List WrittenParam → WrittenBody → List Lexeme → List Lexeme
clause_parts phase type result class m params body words =
    phase_encoded phase ∷ (type_encoded type ++ (result_encoded result ++ (signature_encoded class m params ++ (Quoted (codes "PERFORM") ∷ (encoded_body body ++ words)))))

clause_is : (phase : Phase) (type : WrittenType) (result : Option (List ℕ)) (class : List (List ℕ)) (m : MethodName) (params : List WrittenParam) (body : WrittenBody) (words : List Lexeme)
    → clause_encoded (clause_from phase type result class m params body) ++ words ≡ clause_parts phase type result class m params body words
clause_is phase type result class m params body words =
    ap (λ (w : List Lexeme). phase_encoded phase ∷ w)
    (append_assoc (type_encoded type) (result_encoded result ++ (signature_encoded class m params ++ Quoted (codes "PERFORM") ∷ encoded_body body)) words
    ∙ ap (λ (w : List Lexeme). type_encoded type ++ w)
    (append_assoc (result_encoded result) (signature_encoded class m params ++ Quoted (codes "PERFORM") ∷ encoded_body body) words
    ∙ ap (λ (w : List Lexeme). result_encoded result ++ w) (append_assoc (signature_encoded class m params) (Quoted (codes "PERFORM") ∷ encoded_body body) words)))

record IsResultAt (s : Source) (Next : List Lexeme → Type 0) (phase : Phase) (t : List Token) : Type 0 where
  written : Option (List ℕ)
  returns : written ≢ None → phase ≡ After
  at : At s t (λ more. Next (result_encoded written ++ more))

given_result_leads : {s : Source} (Next : List Lexeme → Type 0) (tail : List Lexeme) {t : List Token} (vars : List Var) (kind : Option Kind) → At s t Next → Next tail
    → ((name : List ℕ) → Next (Name name ∷ Quoted (codes "=") ∷ tail)) → Leads s (given_result_at vars kind t) (λ r. At s r.1 (λ more. Next (Name r.0 ∷ Quoted (codes "=") ∷ more)))
unfolding given_result_at
given_result_leads Next tail {t = t} vars kind at next named =
    then _ (naming tail at next) λ name more.
    tested (is_some kind) (faults.Kind (front_at t)) _ refl (
    tested (not (is_variable vars name.0)) (faults.Twice (front_at t)) _ refl (
    tested (is_short name.0) (faults.Limit (front_at t)) _ refl (
    then _ (after (codes "=") (Quoted (codes "=") ∷ tail) more (named name.0)) λ equals last.
    done (name.0, equals) last)))

result_leads : {s : Source} (Next : List Lexeme → Type 0) (tail : List Lexeme) {t : List Token} (vars : List Var) (phase : Phase) (kind : Option Kind) → At s t Next → Next tail
    → ((name : List ℕ) → phase ≡ After → Next (Name name ∷ Quoted (codes "=") ∷ tail)) → Leads s (result_name_at vars phase kind t) (λ r. IsResultAt s Next phase r.1)
result_leads Next tail {t = t} vars phase kind at next named =
    either (is_after phase && is_assigned t) _ _
    (λ is. let returns : phase ≡ After = after_is phase (first_holds (is_after phase) (is_assigned t) is) in
    then _ (given_result_leads Next tail vars kind at next (λ name. named name returns)) λ name more.
    done (Some name.0, name.1) (record { written = Some name.0; returns = λ some. returns; at = more }))
    (λ no. done (None, t) (record { written = None; returns = λ some. absurd (some refl); at = at })) where
      first_holds : (a b : Bool) → (a && b) ≡ true → a ≡ true
      first_holds true b e = refl
      first_holds false b e = absurd cc

phase_leads : {s : Source} (Next : List Lexeme → Type 0) (words : List Lexeme) {t : List Token} → At s t Next → Next words
    → Leads s (ok_or (next_phase t) (faults.Syntax (front_at t))) (λ phase. At s (drop 1 t) (λ more. Next (phase_encoded phase ∷ more)))
phase_leads {s = s} Next words {t = t} at next = by (next_phase t) refl where
  by : (found : Option Phase) → next_phase t ≡ found → Leads s (ok_or found (faults.Syntax (front_at t))) (λ phase. At s (drop 1 t) (λ more. Next (phase_encoded phase ∷ more)))
  by (Some phase) e = done phase (moved (phase_encoded phase ∷ []) at (phase_goes_on t phase e) (phase_found t phase e))
  by None e = told words at next

record IsClauseAt (s : Source) (Next : List Lexeme → Type 0) (t : List Token) : Type 0 where
  written : WrittenClause
  whole : IsInGrammar written
  at : At s t (λ more. Next (clause_encoded written ++ more))

clause_leads : {s : Source} (Next : List Lexeme → Type 0) (tail : List Lexeme) {t : List Token} (methods : List ListedMethod) (vars : List Var) (maxint : ℤ) (clauses : List TreeClause) → At s t Next
    → ((c : WrittenClause) → IsInGrammar c → Next (clause_encoded c ++ tail)) → Leads s (clause_at methods vars maxint clauses t) (λ r. IsClauseAt s Next r.1)
unfolding clause_at clause_of_type clause_of_method
clause_leads {s = s} Next tail {t = t} methods vars maxint clauses at goes =
    let all : (phase : Phase) (type : WrittenType) (result : Option (List ℕ)) (class : List (List ℕ)) (m : MethodName) (params : List WrittenParam) (body : WrittenBody)
    → class ≢ [] → (result ≢ None → phase ≡ After) → Next (clause_parts phase type result class m params body tail) =
    λ phase type result class m params body whole returns. subst Next (clause_is phase type result class m params body tail) (goes (clause_from phase type result class m params body) (record { class = whole; result = returns })) in
    let some = not_none [] [] in
    let unnamed : (phase : Phase) → None ≢ None → phase ≡ After = λ phase no. absurd (no refl) in
    let void : WrittenType = record { element = Void; dimensions = 0 } in
    let rest : List Lexeme = signature_encoded ([] ∷ []) (Plain []) [] ++ (Quoted (codes "PERFORM") ∷ tail) in
    tested (nat_lt (length clauses) 64) (faults.Limit (front_at t)) _ refl (
    then _ (phase_leads Next (clause_parts Before void None ([] ∷ []) (Plain []) [] no_body tail) at (all Before void None ([] ∷ []) (Plain []) [] no_body some (unnamed Before))) λ phase begins.
    then _ (type_leads (λ w. Next (phase_encoded phase ∷ w)) rest begins (λ w. all phase w None ([] ∷ []) (Plain []) [] no_body some (unnamed phase))) λ type ty.
    then _ (result_leads (λ w. Next (phase_encoded phase ∷ (type_encoded ty.written ++ w))) rest vars phase type.0.kind ty.at (all phase ty.written None ([] ∷ []) (Plain []) [] no_body some (unnamed phase))
    (λ name returns. all phase ty.written (Some name) ([] ∷ []) (Plain []) [] no_body some (λ any. returns))) λ result rs.
    then _ (method_leads s (λ w. Next (phase_encoded phase ∷ (type_encoded ty.written ++ (result_encoded rs.written ++ w)))) (Quoted (codes "PERFORM") ∷ tail) vars
    (λ class m params whole. all phase ty.written rs.written class m params no_body whole rs.returns) methods clauses phase type.0.desc rs.at) λ method sg.
    then _ (after (codes "PERFORM") (Quoted (codes "PERFORM") ∷ tail) sg.at (all phase ty.written rs.written sg.class sg.method sg.params no_body sg.whole rs.returns)) λ performs more.
    then _ (body_leads (λ w. Next (phase_encoded phase ∷ (type_encoded ty.written ++ (result_encoded rs.written ++ (signature_encoded sg.class sg.method sg.params ++ (Quoted (codes "PERFORM") ∷ w)))))) tail
    (scope_of vars phase method.0.1 result.0 type.0.kind) maxint more (λ body. all phase ty.written rs.written sg.class sg.method sg.params body sg.whole rs.returns)) λ guards bd.
    done (clauses ++ clause_of method.0.0 phase method.0.1 type.0.kind guards.0 ∷ [], guards.1) (record {
      written = clause_from phase ty.written rs.written sg.class sg.method sg.params bd.written;
      whole = record { class = sg.whole; result = rs.returns };
      at = meaning bd.at (λ words next. subst Next (clause_is phase ty.written rs.written sg.class sg.method sg.params bd.written words) next);
    }))

-- ---- the head and the variables

record IsHeadAt (s : Source) (Next : List Lexeme → Type 0) (t : List Token) : Type 0 where
  written : ℕ
  at : At s t (λ more. Next (header_encoded written ++ more))

header_leads : {s : Source} (Next : List Lexeme → Type 0) (tail : List Lexeme) {t : List Token} → At s t Next → ((maxint : ℕ) → Next (header_encoded maxint ++ tail))
    → Leads s (header_at t) (λ r. IsHeadAt s Next r.1)
unfolding header_at
header_leads Next tail at goes =
    then _ (after (codes "MAXINT") (header_encoded 0 ++ tail) at (goes 0)) λ number a.
    then _ (numbering (Number 0 ∷ Quoted (codes "SCOPE") ∷ Quoted (codes "Session") ∷ Quoted (codes "SECURITY") ∷ Quoted (codes "STATE") ∷ tail) a (goes 0)) λ maxint b.
    tested (nat_le 1 maxint.0 && nat_le maxint.0 1000000000) (faults.Range (front_at number)) _ refl (
    then _ (after (codes "SCOPE") (Quoted (codes "SCOPE") ∷ Quoted (codes "Session") ∷ Quoted (codes "SECURITY") ∷ Quoted (codes "STATE") ∷ tail) b (goes maxint.0)) λ scope c.
    then _ (after (codes "Session") (Quoted (codes "Session") ∷ Quoted (codes "SECURITY") ∷ Quoted (codes "STATE") ∷ tail) c (goes maxint.0)) λ session d.
    then _ (after (codes "SECURITY") (Quoted (codes "SECURITY") ∷ Quoted (codes "STATE") ∷ tail) d (goes maxint.0)) λ security e.
    then _ (after (codes "STATE") (Quoted (codes "STATE") ∷ tail) e (goes maxint.0)) λ last f.
    done (pos maxint.0, last) (record { written = maxint.0; at = f }))

record IsFirstAt (s : Source) (Next : List Lexeme → Type 0) (is_bool : Bool) (t : List Token) : Type 0 where
  written : ℕ
  at : At s t (λ more. Next (first_encoded is_bool written ∷ more))

module _ {s : Source} (Next : List Lexeme → Type 0) (tail : List Lexeme) where
  truth_leads : {t : List Token} → At s t Next → ((n : ℕ) → Next (first_encoded true n ∷ tail)) → Leads s (truth_at t) (λ r. IsFirstAt s Next true r.1)
  unfolding truth_at
  truth_leads {t = t} at goes =
      either (is_next (codes "true") t) _ _
      (λ is. done (pos 1, drop 1 t) (record { written = 1; at = moved (Quoted (codes "true") ∷ []) at (next_goes_on (codes "true") t is) (next_is (codes "true") t is) })) λ no.
      either (is_next (codes "false") t) _ _
      (λ is. done (pos 0, drop 1 t) (record { written = 0; at = moved (Quoted (codes "false") ∷ []) at (next_goes_on (codes "false") t is) (next_is (codes "false") t is) })) λ neither.
      told (first_encoded true 0 ∷ tail) at (goes 0)

  count_leads : {t : List Token} (maxint : ℤ) → At s t Next → ((n : ℕ) → Next (first_encoded false n ∷ tail)) → Leads s (count_at maxint t) (λ r. IsFirstAt s Next false r.1)
  unfolding count_at
  count_leads {t = t} maxint at goes =
      then _ (numbering (Number 0 ∷ tail) at (goes 0)) λ number more.
      tested (int_le (pos number.0) maxint) (faults.Range (front_at t)) _ refl (
      done (pos number.0, number.1) (record { written = number.0; at = more }))

  first_leads : {t : List Token} (maxint : ℤ) (is_bool : Bool) → At s t Next → ((n : ℕ) → Next (first_encoded is_bool n ∷ tail))
      → Leads s (first_at maxint is_bool t) (λ r. IsFirstAt s Next is_bool r.1)
  first_leads maxint true at goes = truth_leads at goes
  first_leads maxint false at goes = count_leads maxint at goes

variable_leads : {s : Source} (Next : List Lexeme → Type 0) (tail : List Lexeme) {t : List Token} (maxint : ℤ) (vars : List Var) → At s t Next → begins_variable t ≡ true
    → ((v : WrittenVar) → Next (variable_encoded v ++ tail)) → Leads s (variable_at maxint vars t) (λ r. Reached s Next variable_encoded r.1)
unfolding variable_at
variable_leads Next tail {t = t} maxint vars at begins goes =
    let all : (name : List ℕ) (n : ℕ) → Next (variable_word (is_next (codes "bool") t) ∷ Name name ∷ Quoted (codes "=") ∷ first_encoded (is_next (codes "bool") t) n ∷ Quoted (codes ";") ∷ tail) =
    λ name n. goes (record { is_bool = is_next (codes "bool") t; name = name; first = n }) in
    tested (nat_lt (length vars) 16) (faults.Limit (front_at t)) _ refl (
    then _ (naming (Name [] ∷ Quoted (codes "=") ∷ first_encoded (is_next (codes "bool") t) 0 ∷ Quoted (codes ";") ∷ tail)
    (moved (variable_word (is_next (codes "bool") t) ∷ []) at (begins_goes_on t begins) (word_found t begins)) (all [] 0)) λ name named.
    tested (not (is_variable vars name.0)) (faults.Twice (front_at (drop 1 t))) _ refl (
    tested (is_short name.0) (faults.Limit (front_at (drop 1 t))) _ refl (
    then _ (after (codes "=") (Quoted (codes "=") ∷ first_encoded (is_next (codes "bool") t) 0 ∷ Quoted (codes ";") ∷ tail) named (all name.0 0)) λ equals more.
    then _ (first_leads (λ w. Next (variable_word (is_next (codes "bool") t) ∷ Name name.0 ∷ Quoted (codes "=") ∷ w)) (Quoted (codes ";") ∷ tail) maxint (is_next (codes "bool") t) more (all name.0)) λ first is.
    then _ (after (codes ";") (Quoted (codes ";") ∷ tail) is.at (all name.0 is.written)) λ last done_with.
    done (vars ++ (record { name = name.0; is_bool = is_next (codes "bool") t; first = first.0 }) ∷ [], last) (record {
      written = record { is_bool = is_next (codes "bool") t; name = name.0; first = is.written };
      at = done_with;
    }))))

-- ---- the whole

record AreClausesAt (s : Source) (Next : List Lexeme → Type 0) (t : List Token) : Type 0 where
  written : List WrittenClause
  whole : AllByRecursion IsInGrammar written
  at : At s t (λ more. Next (flat_map clause_encoded written ++ more))

all_and_one : (clauses : List WrittenClause) (c : WrittenClause) → AllByRecursion IsInGrammar clauses → IsInGrammar c → AllByRecursion IsInGrammar (clauses ++ c ∷ [])
all_and_one [] c all is = (is, tt)
all_and_one (d ∷ clauses) c all is = (all.0, all_and_one clauses c all.1 is)

policy_viable : (maxint : ℕ) (vars : List WrittenVar) (clauses : List WrittenClause) → AllByRecursion IsInGrammar clauses
    → Viable (header_encoded maxint ++ (flat_map variable_encoded vars ++ (flat_map clause_encoded clauses ++ End ∷ [])))
policy_viable maxint vars clauses whole = record {
  written = record { maxint = maxint; vars = vars; clauses = clauses };
  whole = whole;
  more = [];
  is = sym (append-nil (policy_encoded (record { maxint = maxint; vars = vars; clauses = clauses })));
}

judged_last : {Y : Type 0} {s : Source} {fault : PolicyFault} (test : Bool) (y : Y) → Leads s (Err fault) (λ (y : Y). Unit {0})
    → Leads s (need test fault >>= λ ended. Ok y) (λ y. Unit {0})
judged_last true y fails = done y tt
judged_last false y fails = fails

pub policy_begins : {s : Source} (methods : List ListedMethod) → 0 < length s.tokens → Leads s (policy_at methods s.tokens) (λ tree. Unit {0})
unfolding policy_at
policy_begins {s = s} methods some =
    let start : At s s.tokens Viable = record { before = []; split = refl; some = some; meant = λ words viable. viable } in
    then _ (header_leads Viable (End ∷ []) start (λ maxint. policy_viable maxint [] [] tt)) λ maxint head.
    let Headed : List Lexeme → Type 0 = λ w. Viable (header_encoded head.written ++ w) in
    then _ (each_leads begins_variable (variable_at maxint.0) (λ vars left. Reached s Headed (flat_map variable_encoded) left)
    (λ vars left begins are. said (variable_leads (λ w. Headed (flat_map variable_encoded are.written ++ w)) (End ∷ []) maxint.0 vars are.at begins
    (λ v. last_out Headed variable_encoded are.written v (End ∷ []) (policy_viable head.written (are.written ++ v ∷ []) [] tt)))
    (λ r is. grown Headed variable_encoded are.written is.written is.at))
    [] maxint.1 (none_yet Headed variable_encoded head.at)) λ vars vs.
    let Declared : List Lexeme → Type 0 = λ w. Headed (flat_map variable_encoded vs.written ++ w) in
    then _ (each_leads begins_clause (clause_at methods vars.0 maxint.0) (λ clauses left. AreClausesAt s Declared left)
    (λ clauses left begins are. said (clause_leads (λ w. Declared (flat_map clause_encoded are.written ++ w)) (End ∷ []) methods vars.0 maxint.0 clauses are.at
    (λ c is. last_out Declared clause_encoded are.written c (End ∷ []) (policy_viable head.written vs.written (are.written ++ c ∷ []) (all_and_one are.written c are.whole is))))
    (λ r is. record {
      written = are.written ++ is.written ∷ [];
      whole = all_and_one are.written is.written are.whole is.whole;
      at = meaning is.at (λ words next. last_out Declared clause_encoded are.written is.written words next);
    }))
    [] vars.1 (record { written = []; whole = tt; at = vs.at })) λ clauses cs.
    judged_last (is_end clauses.1) (record { maxint = maxint.0; vars = vars.0; clauses = clauses.0 }) (told (End ∷ []) cs.at (policy_viable head.written vs.written cs.written cs.whole))

-- What is read is encoded so: the method of a clause.
use Rattle.std.proofs.Common.{◌≡◌, ◌≢◌, ℕ, ◌≤◌, Bool, true, false, List, [], ◌∷◌, ◌++◌, length, map, drop, Option, Some, None, Ok, Err, refl, sym, ap, subst, ◌∙◌, arith, append_assoc}
use Rattle.std.specs.Prelude.{not, codes, nat_le, IsTrue}
use Rattle.std.specs.List.{flat_map}
use Rattle.std.proofs.lemmas.Bool.{leb-true, not-true}
use Rattle.std.proofs.lemmas.Grind.{flat_map-append}
use Rattle.std.proofs.lemmas.List.{append-nil, length-map}
use Rattle.mon_base.proofs.Reading.{ok_is}
use Rattle.conspec_parse.specs.declared.fault.PolicyFault.{PolicyFault}
use Rattle.api_listing.specs.BuiltIn.{is_built_in}
use Rattle.api_listing.specs.Nearest.{declared_in}
use Rattle.api_listing.specs.declared.types.ListedMethod.{ListedMethod}
use Rattle.conspec_tokens.specs.declared.token.Lexeme.{Lexeme}
use Rattle.conspec_tokens.specs.declared.token.Lexeme.TheVariants.{Quoted, Name}
use Rattle.conspec_tokens.specs.declared.token.Token.{Token}
use Rattle.conspec_tree.specs.declared.types.Phase.{Phase}
use Rattle.conspec_tree.specs.declared.types.TreeClause.{TreeClause}
use Rattle.conspec_tree.specs.declared.types.Var.{Var}
use Rattle.conspec_parse.specs.declared.signature.Param.{Param}
use Rattle.conspec_parse.specs.declared.signature.Path.{Path}
use Rattle.conspec_parse.specs.declared.signature.Parts.{Parts}
use Rattle.conspec_parse.specs.declared.signature.Signature.{Signature}
use Rattle.conspec_parse.specs.declared.fault.PolicyFault.TheVariants.{Syntax, NoMethod, Twice, Builtin}
use Rattle.conspec_parse.specs.Forms.{Parsed, is_short}
use Rattle.conspec_tokens.specs.Front.{front_at, is_next}
use Rattle.conspec_parse.specs.Methods.{init, part_at, class_under, next_step, path_at, signature_at, desc_of, index_at, listed_method, method_at}
use Rattle.conspec_tree.specs.Clauses.{has_clause}
use Rattle.conspec_parse.specs.Written.{WrittenParam, MethodName, dotted, method_encoded, path_encoded, signature_encoded}
use Rattle.conspec_parse.specs.Written.MethodName.{Constructor, Plain}
use Rattle.conspec_parse.specs.Meaning.{AreShort, below, joined, param_of, AreParams, method_bytes, method_names, IsMethodIn}
use Rattle.conspec_parse.proofs.Made.{Makes, done, then, tested, either, failed, any, given, said, each_makes}
use Rattle.conspec_parse.proofs.Sound.{all_more}
use Rattle.conspec_parse.proofs.Loose.{signature_loose}
use Rattle.conspec_parse.proofs.Found.{Took, joins, encoded_as, Found, all_more_words, next_is, after_found, judged_found, AreParamsOf, parameters_found}

-- ---- the class and the name

abbrev pub is_constructor : MethodName → Bool
is_constructor Constructor = true
is_constructor (Plain name) = false

pub record WrittenPath : Type 0 where
  pub class : List (List ℕ)
  pub method : MethodName

abbrev parts_encoded : WrittenPath → List Lexeme
parts_encoded w = path_encoded w.class w.method

-- the class so far, if any
abbrev class_of : List (List ℕ) → Option (List ℕ)
class_of [] = None
class_of (name ∷ names) = Some (joined (name ∷ names))

pub record AreParts (written : WrittenPath) (parts : Parts) : Type 0 where
  pub class : parts.class ≡ class_of written.class
  pub name : parts.name ≡ method_bytes written.method
  pub last : parts.is_last ≡ is_constructor written.method
  pub short_class : AreShort written.class
  pub short_method : AreShort (method_names written.method)

pub record IsPart (written : MethodName) (is_last : Bool) (name : List ℕ) : Type 0 where
  pub name_is : name ≡ method_bytes written
  pub last : is_last ≡ is_constructor written
  pub short : AreShort (method_names written)

abbrev one_method : MethodName → List Lexeme
one_method m = method_encoded m ∷ []

part_found : (tokens : List Token) → Makes (part_at true tokens) (Found one_method (λ m name. IsPart m (is_next init tokens) name) tokens)
part_found tokens =
    either (is_next init tokens) _ _
    (λ last. done (init, drop 1 tokens) (record { written = Constructor; took = next_is init tokens last; says = record { name_is = refl; last = last; short = tt } }))
    (λ named. said (judged_found tokens) λ r is. record { written = Plain r.0; took = is.0; says = record { name_is = refl; last = named; short = (is.1, tt) } })

joined_more : (class : List (List ℕ)) (name : List ℕ) → Some (class_under (class_of class) name) ≡ class_of (class ++ name ∷ [])
joined_more [] name = ap Some (sym (append-nil name))
joined_more (first ∷ others) name =
    ap Some (append_assoc first (flat_map below others) (47 ∷ name)
    ∙ ap (λ (w : List ℕ). first ++ w) (ap (λ (w : List ℕ). flat_map below others ++ 47 ∷ w) (sym (append-nil name)) ∙ sym (flat_map-append below others (name ∷ []))))

pub path_more : (class : List (List ℕ)) (name : List ℕ) (m : MethodName)
    → path_encoded class (Plain name) ++ Quoted (codes ".") ∷ one_method m ≡ path_encoded (class ++ name ∷ []) m
path_more class name m =
    append_assoc (flat_map dotted class) (Name name ∷ []) (Quoted (codes ".") ∷ one_method m)
    ∙ sym (append_assoc (flat_map dotted class) (dotted name) (one_method m))
    ∙ ap (λ (w : List Lexeme). w ++ one_method m) (all_more_words dotted class name)

step_found : (start : List Token) (parts : Parts) (tokens : List Token) → Found parts_encoded AreParts start (parts, tokens)
    → Makes (next_step true parts tokens) (Found parts_encoded AreParts start)
unfolding next_step
step_found start parts tokens before =
    tested (not parts.is_last) (Syntax (front_at tokens)) _ λ below.
    then _ (after_found (codes ".") tokens) λ dot one.
    then _ (part_found dot) λ part two.
    done (record { class = Some (class_under parts.class parts.name); name = part.0; is_last = is_next init dot }, part.1)
    (by before.written.method refl (not-true _ below) dot part.0 part.1 one two)
  where
    by : (m : MethodName) → before.written.method ≡ m → parts.is_last ≡ false → (dot : List Token) (name : List ℕ) (rest : List Token) → Took tokens (Quoted (codes ".") ∷ []) dot
        → Found one_method (λ n word. IsPart n (is_next init dot) word) dot (name, rest)
        → Found parts_encoded AreParts start (record { class = Some (class_under parts.class parts.name); name = name; is_last = is_next init dot }, rest)
    by Constructor is free dot name rest one two =
        let last : is_constructor before.written.method ≡ true = ap is_constructor is in
        let same = before.says.last in
        absurd cc
    by (Plain word) is free dot name rest one two =
        let class = before.written.class in
        let before_class : parts.class ≡ class_of class = before.says.class in
        let before_name : parts.name ≡ word = before.says.name ∙ ap method_bytes is in
        let took : Took start (path_encoded class (Plain word)) tokens = encoded_as _ _ (ap (λ (m : MethodName). path_encoded class m) is) before.took in
        let short : AreShort (word ∷ []) = subst (λ (m : MethodName). AreShort (method_names m)) is before.says.short_method in
        record {
          written = record { class = class ++ word ∷ []; method = two.written };
          took = encoded_as _ _ (path_more class word two.written) (joins took (joins one two.took));
          says = record {
            class = rw (before_class, before_name) (joined_more class word);
            name = two.says.name_is;
            last = two.says.last;
            short_class = all_more (λ (n : List ℕ). IsTrue (is_short n)) class word before.says.short_class short.0;
            short_method = two.says.short;
          };
        }

pub record IsPath (written : WrittenPath) (path : Path) : Type 0 where
  pub class : path.class ≡ joined written.class
  pub within : written.class ≢ []
  pub name : path.name ≡ method_bytes written.method
  pub short_class : AreShort written.class
  pub short_method : AreShort (method_names written.method)

class_is : (names : List (List ℕ)) (class : List ℕ) → class_of names ≡ Some class → (class ≡ joined names) × (names ≢ [])
class_is [] class e = absurd cc
class_is (name ∷ names) class e = (cc, λ nil. cc)

pub path_found : (tokens : List Token) → Makes (path_at true tokens) (Found parts_encoded IsPath tokens)
unfolding path_at
path_found tokens =
    then _ (judged_found tokens) λ first one.
    then _ (each_makes (is_next (codes ".")) (next_step true) (λ parts left. Found parts_encoded AreParts tokens (parts, left))
    (λ parts left goes before. step_found tokens parts left before)
    (record { class = None; name = first.0; is_last = false }) first.1 (record {
      written = record { class = []; method = Plain first.0 };
      took = one.0;
      says = record { class = refl; name = refl; last = refl; short_class = tt; short_method = (one.1, tt) };
    })) λ parts two.
    then _ (given parts.0.class (Syntax (front_at parts.1))) λ class three.
    let is = class_is two.written.class class (sym two.says.class ∙ three) in
    done (record { class = class; name = parts.0.name }, parts.1) (record {
      written = two.written;
      took = two.took;
      says = record { class = is.0; within = is.1; name = two.says.name; short_class = two.says.short_class; short_method = two.says.short_method };
    })

pub record WrittenSignature : Type 0 where
  pub path : WrittenPath
  pub params : List WrittenParam

abbrev pub encoded : WrittenSignature → List Lexeme
encoded w = signature_encoded w.path.class w.path.method w.params

pub record IsSignature (vars : List Var) (written : WrittenSignature) (signature : Signature) : Type 0 where
  pub path : IsPath written.path signature.path
  pub params : AreParamsOf vars written.params signature.params

signature_found : (vars : List Var) (tokens : List Token) → Makes (signature_at true vars tokens) (Found encoded (IsSignature vars) tokens)
unfolding signature_at
signature_found vars tokens =
    then _ (path_found tokens) λ path one.
    then _ (after_found (codes "(") path.1) λ opened two.
    then _ (parameters_found vars opened) λ params three.
    then _ (after_found (codes ")") params.1) λ closed four.
    done (record { path = path.0; params = params.0 }, closed) (record {
      written = record { path = one.written; params = three.written };
      took = joins one.took (joins two (joins three.took four));
      says = record { path = one.says; params = three.says };
    })

both_found : (vars : List Var) (tokens : List Token)
    → Makes (signature_at true vars tokens) (λ r. Found encoded (IsSignature vars) tokens r × (signature_at false vars tokens ≡ Ok r))
both_found vars tokens = record { of = λ r e. ((signature_found vars tokens).of r e, (signature_loose vars tokens).read r e) }

-- ---- the method

pub record IsListed (methods : List ListedMethod) (vars : List Var) (clauses : List TreeClause) (phase : Phase) (result : List ℕ)
    (written : WrittenSignature) (read : ℕ × List Param) : Type 0 where
  pub is : IsMethodIn methods written.path.class written.path.method written.params result read.0
  pub params : read.1 ≡ map param_of written.params
  pub fit : AreParams vars written.params
  pub short_class : AreShort written.path.class
  pub short_method : AreShort (method_names written.path.method)
  pub once : has_clause clauses phase read.0 ≡ false

pub record IsIndex (methods : List ListedMethod) (clauses : List TreeClause) (phase : Phase) (signature : Signature) (desc : List ℕ) (method : ℕ) : Type 0 where
  pub listed : declared_in methods signature.path.name desc signature.path.class ≡ Some method
  pub client : is_built_in signature.path.class signature.path.name desc ≡ false
  pub narrow : length signature.params ≤ 255
  pub once : has_clause clauses phase method ≡ false

index_found : (methods : List ListedMethod) (clauses : List TreeClause) (phase : Phase) (at : ℕ) (signature : Signature) (desc : List ℕ)
    → Makes (index_at methods clauses phase at signature desc) (IsIndex methods clauses phase signature desc)
unfolding index_at
index_found methods clauses phase at signature desc =
    tested (not (is_built_in signature.path.class signature.path.name desc)) (Builtin at) _ λ client.
    then _ (given (declared_in methods signature.path.name desc signature.path.class) (NoMethod at)) λ method found.
    tested (nat_le (length signature.params) 255) (NoMethod at) _ λ narrow.
    tested (not (has_clause clauses phase method)) (Twice at) _ λ once.
    done method (record { listed = found; client = not-true _ client; narrow = leb-true _ _ narrow; once = not-true _ once })

ok_same : {X : Type 0} (x y : X) (read : Parsed X) (a b : List Token) → read ≡ Ok (x, a) → read ≡ Ok (y, b) → x ≡ y
ok_same {X = X} x y read a b p q = ap (λ (r : X × List Token). r.0) (ok_is PolicyFault (x, a) (y, b) (sym p ∙ q))

listed_from : (methods : List ListedMethod) (vars : List Var) (clauses : List TreeClause) (phase : Phase) (result : List ℕ) (written : WrittenSignature) (signature : Signature) (method : ℕ)
    → IsSignature vars written signature → IsIndex methods clauses phase signature (desc_of signature.params result) method
    → IsListed methods vars clauses phase result written (method, signature.params)
listed_from methods vars clauses phase result written signature method s i =
    let params : signature.params ≡ map param_of written.params = s.params.is in
    let class : signature.path.class ≡ joined written.path.class = s.path.class in
    let name : signature.path.name ≡ method_bytes written.path.method = s.path.name in
    let narrow = i.narrow in
    let long : length signature.params ≡ length written.params = ap length params ∙ length-map written.params param_of in
    record {
      is = record {
        listed = rw (class, name, params) at i.listed;
        client = rw (class, name, params) at i.client;
        within = s.path.within;
        narrow = omega arith;
      };
      params = params;
      fit = s.params.fit;
      short_class = s.path.short_class;
      short_method = s.path.short_method;
      once = i.once;
    }

pub method_found : (methods : List ListedMethod) (vars : List Var) (clauses : List TreeClause) (phase : Phase) (result : List ℕ) (tokens : List Token)
    → Makes (method_at methods vars clauses phase result tokens) (Found encoded (IsListed methods vars clauses phase result) tokens)
method_found methods vars clauses phase result tokens = by (signature_at false vars tokens) refl where
  by : (loose : Parsed Signature) → signature_at false vars tokens ≡ loose
      → Makes (listed_method methods vars clauses phase result tokens loose) (Found encoded (IsListed methods vars clauses phase result) tokens)
  by (Ok read) e =
      then _ (index_found methods clauses phase (front_at tokens) read.0 (desc_of read.0.params result)) λ method is.
      then _ (both_found vars tokens) λ judged two.
      let same : judged.0 ≡ read.0 = ok_same judged.0 read.0 (signature_at false vars tokens) judged.1 read.1 two.1 e in
      done ((method, read.0.params), judged.1) (record {
        written = two.0.written;
        took = two.0.took;
        says = listed_from methods vars clauses phase result two.0.written read.0 method (subst (λ (s : Signature). IsSignature vars two.0.written s) same two.0.says) is;
      })
  by (Err fault) e = then _ (any (signature_at true vars tokens)) λ read a. failed fault

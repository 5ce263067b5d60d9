-- What is encoded is read: parameters of a written method, its path, and which method it is.
use Rattle.std.proofs.Common.{◌≡◌, ◌≢◌, ℕ, suc, ◌≤◌, Bool, true, false, List, [], ◌∷◌, ◌++◌, length, map, drop, get_or, Option, Some, None, Ok, refl, sym, ap, subst, ◌∙◌, arith, append_assoc, length-append}
use Rattle.std.specs.Prelude.{not, codes, bytes_eq, nat_le, AllPairs, IsTrue, ◌||◌}
use Rattle.std.specs.List.{AllByRecursion, flat_map}
use Rattle.std.proofs.lemmas.Bool.{le-leb}
use Rattle.std.proofs.lemmas.Grind.{flat_map-append}
use Rattle.std.proofs.lemmas.List.{append-nil, map-append, length-map}
use Rattle.std.proofs.lemmas.Slice.Eq.{bytes_eq-Decides}
use Rattle.api_listing.specs.BuiltIn.{is_built_in}
use Rattle.api_listing.specs.Nearest.{declared_in}
use Rattle.api_listing.specs.declared.types.ListedMethod.{ListedMethod}
use Rattle.conspec_tokens.specs.declared.token.Lexeme.{Lexeme}
use Rattle.conspec_tokens.specs.declared.token.Lexeme.TheVariants.{Quoted, Name}
use Rattle.conspec_tokens.specs.declared.token.Token.{Token}
use Rattle.conspec_tree.specs.declared.types.Phase.{Phase}
use Rattle.conspec_tree.specs.declared.types.TreeClause.{TreeClause}
use Rattle.conspec_tree.specs.declared.types.Var.{Var}
use Rattle.conspec_parse.specs.declared.signature.Param.{Param}
use Rattle.conspec_parse.specs.declared.signature.Parts.{Parts as PathParts}
use Rattle.conspec_parse.specs.declared.signature.Signature.{Signature}
use Rattle.conspec_parse.specs.declared.fault.PolicyFault.TheVariants.{Syntax}
use Rattle.conspec_tokens.specs.Front.{front_at, is_next}
use Rattle.conspec_parse.specs.Forms.{is_short}
use Rattle.conspec_tree.specs.Variables.{is_variable}
use Rattle.conspec_parse.specs.Methods.{is_named, is_parameter, init, part_at, class_under, next_step, path_at, signature_at, desc_of, index_at, method_at}
use Rattle.conspec_tree.specs.Clauses.{has_clause}
use Rattle.conspec_parse.specs.Written.{WrittenParam, MethodName, dotted, method_encoded, path_encoded, params_encoded, signature_encoded}
use Rattle.conspec_parse.specs.Written.MethodName.{Constructor, Plain}
use Rattle.conspec_parse.specs.Meaning.{AreShort, below, joined, param_of, element_names, optional, names_of_param, param_names, AreParams, method_bytes, method_names, IsMethodIn, lexemes}
use Rattle.conspec_parse.proofs.Loose.{signature_loose}
use Rattle.conspec_parse.proofs.FoundMethods.{is_constructor}
use Rattle.conspec_parse.proofs.Got.{Got, ended, ended_as, gets, passes, holds, on_true, on_false, heads, next_at, next_quoted, drop_one, after_again, Path, Parts, each_again, Steps}
use Rattle.conspec_parse.proofs.Again.{Always, judged_again, stops_at, IsFree, IsNext, parameters_again}

-- ---- lists

all_front : {X : Type 0} (P : X → Type 0) (xs ys : List X) → AllByRecursion P (xs ++ ys) → AllByRecursion P xs
all_front P [] ys all = tt
all_front P (x ∷ xs) ys all = (all.0, all_front P xs ys all.1)

all_back : {X : Type 0} (P : X → Type 0) (xs ys : List X) → AllByRecursion P (xs ++ ys) → AllByRecursion P ys
all_back P [] ys all = all
all_back P (x ∷ xs) ys all = all_back P xs ys all.1

at_length : {X : Type 0} (xs : List X) (n : X) (ys : List X) (d : X) → get_or (xs ++ n ∷ ys) (length xs) d ≡ n
at_length [] n ys d = refl
at_length (x ∷ xs) n ys d = at_length xs n ys d

pub apart_before : {X : Type 0} (R : X → X → Type 0) (xs : List X) (n : X) (ys : List X) → AllPairs R (xs ++ n ∷ ys) → AllByRecursion (λ m. R m n) xs
apart_before R [] n ys all = tt
apart_before {X = X} R (x ∷ xs) n ys all =
    let long = length-append xs (n ∷ ys) in
    let here = all 0 (suc (length xs)) n (omega arith) (omega arith) in
    (subst (λ (m : X). R x m) (at_length xs n ys n) here, apart_before R xs n ys (λ i j d lt within. all (suc i) (suc j) d (omega arith) (omega arith)))

-- ---- parameters

pub bytes_differ : (m n : List ℕ) → m ≢ n → bytes_eq m n ≡ false
bytes_differ m n apart = by (bytes_eq m n) refl where
  by : (b : Bool) → bytes_eq m n ≡ b → b ≡ false
  by true e = absurd (apart ((bytes_eq-Decides m n).0 e))
  by false e = refl

not_among : (before : List WrittenParam) (name : List ℕ) → AllByRecursion (λ m. m ≢ name) (param_names before) → is_parameter (map param_of before) name ≡ false
not_among [] name apart = refl
not_among (p ∷ before) name apart = by p.name apart (not_among before name) where
  by : (given : Option (List ℕ)) → AllByRecursion (λ m. m ≢ name) (optional given ++ param_names before)
      → (AllByRecursion (λ m. m ≢ name) (param_names before) → is_parameter (map param_of before) name ≡ false)
      → (is_named given name || is_parameter (map param_of before) name) ≡ false
  by None apart others = others apart
  by (Some m) apart others =
      let one = bytes_differ m name apart.0 in
      let rest = others apart.1 in
      rw (one, rest) refl

names_split : (before : List WrittenParam) (p : WrittenParam) (others : List WrittenParam) → param_names (before ++ p ∷ others) ≡ param_names before ++ (optional p.name ++ param_names others)
names_split before p others = flat_map-append (λ (q : WrittenParam). optional q.name) before (p ∷ others)

next_is : (vars : List Var) (before : List WrittenParam) (p : WrittenParam) (others : List WrittenParam) → AreParams vars (before ++ p ∷ others) → IsNext vars (map param_of before) p (param_of p)
next_is vars before p others are =
    let all = all_back (λ (q : WrittenParam). AreShort (names_of_param q)) before (p ∷ others) are.short in
    let short : AreShort (element_names p.type.element ++ optional p.name) = all.0 in
    record {
      is = refl;
      short = all_front (λ (n : List ℕ). IsTrue (is_short n)) (element_names p.type.element) (optional p.name) short;
      free = by p.name
          (all_back (λ (n : List ℕ). IsTrue (is_short n)) (element_names p.type.element) (optional p.name) short)
          (subst (λ (ns : List (List ℕ)). AllPairs (λ a b. a ≢ b) ns) (names_split before p others) are.once)
          (subst (λ (ns : List (List ℕ)). AllByRecursion (λ n. is_variable vars n ≡ false) ns) (names_split before p others) are.own);
    }
  where
    by : (given : Option (List ℕ)) → AreShort (optional given) → AllPairs (λ a b. a ≢ b) (param_names before ++ (optional given ++ param_names others))
        → AllByRecursion (λ n. is_variable vars n ≡ false) (param_names before ++ (optional given ++ param_names others)) → IsFree vars (map param_of before) given
    by None short once own = tt
    by (Some n) short once own = (
      (all_back (λ (m : List ℕ). is_variable vars m ≡ false) (param_names before) (n ∷ param_names others) own).0,
      not_among before n (apart_before (λ (a b : List ℕ). a ≢ b) (param_names before) n (param_names others) once),
      short.0,
    )

params_steps : (vars : List Var) (before written : List WrittenParam) → AreParams vars (before ++ written) → Steps (IsNext vars) (map param_of before) written (map param_of written)
params_steps vars before [] are = tt
params_steps vars before (p ∷ written) are =
    let more : AreParams vars ((before ++ p ∷ []) ++ written) = subst (λ (ps : List WrittenParam). AreParams vars ps) (sym (append_assoc before (p ∷ []) written)) are in (
      next_is vars before p written are,
      subst (λ (ps : List Param). Steps (IsNext vars) ps written (map param_of written)) (map-append param_of before (p ∷ [])) (params_steps vars (before ++ p ∷ []) written more),
    )

-- ---- the class and the name

abbrev one_item : MethodName → List Lexeme
one_item m = Quoted (codes ".") ∷ method_encoded m ∷ []

pub record AddsPart (parts : PathParts) (m : MethodName) (next : PathParts) : Type 0 where
  pub below : parts.is_last ≡ false
  pub is : next ≡ record { class = Some (class_under parts.class parts.name); name = method_bytes m; is_last = is_constructor m }
  pub short : AreShort (method_names m)

part_again : (m : MethodName) (tokens : List Token) (words : List Lexeme) → lexemes tokens ≡ method_encoded m ∷ words → AreShort (method_names m)
    → Got (part_at true tokens) (method_bytes m) words
part_again Constructor tokens words e short =
    on_true (is_next init tokens) _ _ (next_quoted init tokens words e) (ended init (drop 1 tokens) (drop_one tokens (Quoted init) words e))
part_again (Plain name) tokens words e short =
    on_false (is_next init tokens) _ _ (next_at init tokens (Name name ∷ words) e) (judged_again name tokens words e short.0)

last_is : (m : MethodName) (tokens : List Token) (words : List Lexeme) → lexemes tokens ≡ method_encoded m ∷ words → is_next init tokens ≡ is_constructor m
last_is Constructor tokens words e = next_quoted init tokens words e
last_is (Plain name) tokens words e = next_at init tokens (Name name ∷ words) e

item_parts : Parts (is_next (codes ".")) (next_step true) one_item Always AddsPart
unfolding next_step
item_parts = record {
  begins = λ m words tokens e. next_quoted (codes ".") tokens (method_encoded m ∷ words) e;
  leads = λ m words. tt;
  long = λ m. omega arith;
  step = λ parts m next tokens words goes e last.
      holds (not parts.is_last) (Syntax (front_at tokens)) _ (ap not goes.below) (
      passes _ (after_again (codes ".") tokens (method_encoded m ∷ words) e) λ dot one.
      gets _ (part_again m dot words one goes.short) λ rest two.
      ended_as (record { class = Some (class_under parts.class parts.name); name = method_bytes m; is_last = is_next init dot }) next rest
      (ap (λ (b : Bool). record { class = Some (class_under parts.class parts.name); name = method_bytes m; is_last = b }) (last_is m dot words one) ∙ sym goes.is) two);
}

abbrev items : List (List ℕ) → MethodName → List MethodName
items class m = map Plain class ++ m ∷ []

items_encoded : (class : List (List ℕ)) (m : MethodName) → Quoted (codes ".") ∷ (flat_map dotted class ++ method_encoded m ∷ []) ≡ flat_map one_item (items class m)
items_encoded [] m = refl
items_encoded (name ∷ class) m = ap (λ (w : List Lexeme). Quoted (codes ".") ∷ Name name ∷ w) (items_encoded class m)

abbrev made_parts : List ℕ → MethodName → PathParts
made_parts class m = record { class = Some class; name = method_bytes m; is_last = is_constructor m }

items_path : (names : List (List ℕ)) (m : MethodName) (class : Option (List ℕ)) (name : List ℕ) → AreShort names → AreShort (method_names m)
    → Path AddsPart (record { class = class; name = name; is_last = false }) (items names m) (made_parts (class_under class name ++ flat_map below names) m)
items_path [] m class name short_names short =
    (made_parts (class_under class name) m, record { below = refl; is = refl; short = short }, ap (λ (c : List ℕ). made_parts c m) (sym (append-nil (class_under class name))))
items_path (n ∷ names) m class name short_names short = (
  record { class = Some (class_under class name); name = n; is_last = false },
  record { below = refl; is = refl; short = (short_names.0, tt) },
  subst (λ (c : List ℕ). Path AddsPart (record { class = Some (class_under class name); name = n; is_last = false }) (items names m) (made_parts c m))
      (append_assoc (class_under class name) (47 ∷ n) (flat_map below names)) (items_path names m (Some (class_under class name)) n short_names.1 short),
)

path_again : (first : List ℕ) (others : List (List ℕ)) (m : MethodName) (tokens : List Token) (words : List Lexeme) → lexemes tokens ≡ path_encoded (first ∷ others) m ++ words
    → AreShort (first ∷ others) → AreShort (method_names m) → heads (codes ".") words ≡ false
    → Got (path_at true tokens) (record { class = joined (first ∷ others); name = method_bytes m }) words
unfolding path_at
path_again first others m tokens words e short_class short last =
    let all : lexemes tokens ≡ Name first ∷ (flat_map one_item (items others m) ++ words) = e ∙ ap (λ (w : List Lexeme). Name first ∷ (w ++ words)) (items_encoded others m) in
    gets _ (judged_again first tokens (flat_map one_item (items others m) ++ words) all short_class.0) λ rest one.
    gets _ (each_again (is_next (codes ".")) (next_step true) one_item Always AddsPart item_parts (items others m) (record { class = None; name = first; is_last = false })
    (made_parts (joined (first ∷ others)) m) rest words (items_path others m None first short_class.1 short) one tt (stops_at (codes ".") words last)) λ end two.
    ended (record { class = joined (first ∷ others); name = method_bytes m }) end two

signature_again : (vars : List Var) (class : List (List ℕ)) (m : MethodName) (params : List WrittenParam) (tokens : List Token) (words : List Lexeme)
    → lexemes tokens ≡ signature_encoded class m params ++ words → class ≢ [] → AreShort class → AreShort (method_names m) → AreParams vars params
    → Got (signature_at true vars tokens) (record { path = record { class = joined class; name = method_bytes m }; params = map param_of params }) words
unfolding signature_at
signature_again vars [] m params tokens words e within short_class short are = absurd (within refl)
signature_again vars (first ∷ others) m params tokens words e within short_class short are =
    let close = Quoted (codes ")") ∷ words in
    let inner : List Lexeme = params_encoded params ++ Quoted (codes ")") ∷ [] in
    let split : lexemes tokens ≡ path_encoded (first ∷ others) m ++ Quoted (codes "(") ∷ (inner ++ words) =
    e ∙ append_assoc (path_encoded (first ∷ others) m) (Quoted (codes "(") ∷ inner) words in
    let after_params : inner ++ words ≡ params_encoded params ++ close = append_assoc (params_encoded params) (Quoted (codes ")") ∷ []) words in
    gets _ (path_again first others m tokens (Quoted (codes "(") ∷ (inner ++ words)) split short_class short refl) λ opened one.
    passes _ (after_again (codes "(") opened (inner ++ words) one) λ start two.
    gets _ (parameters_again vars params start words (two ∙ after_params) (params_steps vars [] params are)) λ closed three.
    passes _ (after_again (codes ")") closed words three) λ rest four.
    ended (record { path = record { class = joined (first ∷ others); name = method_bytes m }; params = map param_of params }) rest four

-- ---- the method

index_is : (methods : List ListedMethod) (clauses : List TreeClause) (phase : Phase) (at : ℕ) (signature : Signature) (desc : List ℕ) (method : ℕ)
    → is_built_in signature.path.class signature.path.name desc ≡ false → declared_in methods signature.path.name desc signature.path.class ≡ Some method
    → length signature.params ≤ 255 → has_clause clauses phase method ≡ false → index_at methods clauses phase at signature desc ≡ Ok method
unfolding index_at
index_is methods clauses phase at signature desc method client listed few once =
    let narrow : nat_le (length signature.params) 255 ≡ true = le-leb _ _ few in
    rw (client, listed, narrow, once) refl

method_of_is : (methods : List ListedMethod) (vars : List Var) (clauses : List TreeClause) (phase : Phase) (result : List ℕ) (tokens rest : List Token) (signature : Signature) (method : ℕ)
    → signature_at true vars tokens ≡ Ok (signature, rest) → index_at methods clauses phase (front_at tokens) signature (desc_of signature.params result) ≡ Ok method
    → method_at methods vars clauses phase result tokens ≡ Ok ((method, signature.params), rest)
method_of_is methods vars clauses phase result tokens rest signature method strict index =
    let loose = (signature_loose vars tokens).read (signature, rest) strict in
    rw (loose, index, strict) refl

pub method_again : (methods : List ListedMethod) (vars : List Var) (clauses : List TreeClause) (phase : Phase) (result : List ℕ) (class : List (List ℕ)) (m : MethodName) (params : List WrittenParam)
    (method : ℕ) (tokens : List Token) (words : List Lexeme) → lexemes tokens ≡ signature_encoded class m params ++ words
    → IsMethodIn methods class m params result method → AreShort class → AreShort (method_names m) → AreParams vars params → has_clause clauses phase method ≡ false
    → Got (method_at methods vars clauses phase result tokens) (method, map param_of params) words
method_again methods vars clauses phase result class m params method tokens words e is short_class short are once =
    let got = signature_again vars class m params tokens words e is.within short_class short are in
    let signature : Signature = record { path = record { class = joined class; name = method_bytes m }; params = map param_of params } in
    let narrow = is.narrow in
    let long : length (map param_of params) ≡ length params = length-map params param_of in
    let index = index_is methods clauses phase (front_at tokens) signature (desc_of (map param_of params) result) method is.client is.listed (omega arith) once in
    record { rest = got.rest; is = method_of_is methods vars clauses phase result tokens got.rest signature method got.is index; left = got.left }

-- What is read of two lists of tokens that agree at first: a method, which is told from the whole of it.
use Rattle.std.proofs.Common.{◌≡◌, ◌⊎◌, inl, inr, ⊎_elim, ℕ, ◌+◌, ◌-◌, ◌<◌, ◌≤◌, Bool, true, false, List, length, take, drop, Option, Some, None, Ok, Err, refl, sym, ◌∙◌, ap, subst, arith}
use Rattle.std.specs.Prelude.{not, codes, nat_le, ok_or}
use Rattle.mon_base.specs.Reading.{◌>>=◌, need}
use Rattle.api_listing.specs.BuiltIn.{is_built_in}
use Rattle.api_listing.specs.Nearest.{declared_in}
use Rattle.api_listing.specs.declared.types.ListedMethod.{ListedMethod}
use Rattle.conspec_tokens.specs.declared.token.Token.{Token}
use Rattle.conspec_tree.specs.declared.types.Phase.{Phase}
use Rattle.conspec_tree.specs.declared.types.TreeClause.{TreeClause}
use Rattle.conspec_tree.specs.declared.types.Var.{Var}
use Rattle.conspec_parse.specs.declared.signature.Param.{Param}
use Rattle.conspec_parse.specs.declared.signature.Path.{Path}
use Rattle.conspec_parse.specs.declared.signature.Signature.{Signature}
use Rattle.conspec_parse.specs.declared.fault.PolicyFault.{PolicyFault}
use Rattle.conspec_parse.specs.declared.fault.PolicyFault.TheVariants as faults
use Rattle.conspec_parse.specs.Fault.{Judged}
use Rattle.conspec_parse.specs.Forms.{Parsed, following}
use Rattle.conspec_tokens.specs.Front.{front_at, is_next}
use Rattle.conspec_parse.specs.Types.{judged_name}
use Rattle.conspec_parse.specs.Methods.{next_step, path_at, parameters_at, signature_at, desc_of, index_at, method_at}
use Rattle.conspec_tree.specs.Clauses.{has_clause}
use Rattle.conspec_parse.specs.Deciding.{is_open}
use Rattle.conspec_parse.proofs.Alike.{Pair, Here, Alike, Stops, NoClose, place, ahead, is_of_method, within, none, both_unclosed, next, next_goes_on, seen_same, front_same, ended, told, then, loosened, given, after, each_alike, syntax}
use Rattle.conspec_parse.proofs.AlikeTypes.{step_alike, parameters_alike}
use Rattle.conspec_parse.proofs.Loose.{Loosens, is_of_name, signature_loose}

-- ---- up to the `)`

abbrev Headed : Type 0
Headed = Path × List Param

abbrev until_close : Bool → List Var → List Token → Parsed Headed
until_close judged vars tokens =
    path_at judged tokens >>= λ path. following (codes "(") path.1 >>= λ opened. parameters_at judged vars opened >>= λ params. Ok ((path.0, params.0), params.1)

-- the `)`, and the method
abbrev closing : Headed × List Token → Parsed Signature
closing read = following (codes ")") read.1 >>= λ closed. Ok (record { path = read.0.0; params = read.0.1 }, closed)

signature_is : (judged : Bool) (vars : List Var) (tokens : List Token) → signature_at judged vars tokens ≡ until_close judged vars tokens >>= closing
unfolding signature_at
signature_is judged vars tokens = by_path (path_at judged tokens) where
  by_params : (path : Path) (read : Parsed (List Param))
      → (read >>= λ params. following (codes ")") params.1 >>= λ closed. Ok (record { path = path; params = params.0 }, closed))
      ≡ ((read >>= λ params. Ok ((path, params.0), params.1)) >>= closing)
  by_params path (Ok read) = refl
  by_params path (Err e) = refl

  by_open : (path : Path) (read : Judged (List Token))
      → (read >>= λ opened. parameters_at judged vars opened >>= λ params. following (codes ")") params.1 >>= λ closed. Ok (record { path = path; params = params.0 }, closed))
      ≡ ((read >>= λ opened. parameters_at judged vars opened >>= λ params. Ok ((path, params.0), params.1)) >>= closing)
  by_open path (Ok opened) = by_params path (parameters_at judged vars opened)
  by_open path (Err e) = refl

  by_path : (read : Parsed Path)
      → (read >>= λ path. following (codes "(") path.1 >>= λ opened. parameters_at judged vars opened >>= λ params. following (codes ")") params.1 >>= λ closed. Ok (record { path = path.0; params = params.0 }, closed))
      ≡ ((read >>= λ path. following (codes "(") path.1 >>= λ opened. parameters_at judged vars opened >>= λ params. Ok ((path.0, params.0), params.1)) >>= closing)
  by_path (Ok path) = by_open path.0 (following (codes "(") path.1)
  by_path (Err e) = refl

-- The first names are alike from b tokens on.
pub record Heads (p : Pair) (b c : ℕ) (t u : List Token) : Type 0 where
  pub of : (judged : Bool) → Alike p true b (c + 1) (judged_name judged t) (judged_name judged u)

path_alike : {p : Pair} {b c : ℕ} {t u : List Token} (judged : Bool) → Heads p b c t u → Alike p true b b (path_at judged t) (path_at judged u)
unfolding path_at
path_alike {p = p} judged heads =
    then _ _ (heads.of judged) λ first d x y enough more.
    then _ _ (each_alike (is_next (codes ".")) (next_step judged) (λ x t u. refl) (λ parts c t u here goes. step_alike judged parts here)
    (record { class = None; name = first; is_last = false }) d x y more) λ parts e v w last after_it.
    given parts.class _ _ _ _ (told faults.Syntax syntax after_it (omega arith) (none true p e (e + 0) (omega arith))) λ class is.
    ended (record { class = class; name = parts.name }) after_it

until_alike : {p : Pair} {b c : ℕ} {t u : List Token} (judged : Bool) (vars : List Var) → Heads p b c t u → Alike p true b b (until_close judged vars t) (until_close judged vars u)
until_alike judged vars heads =
    then _ _ (path_alike judged heads) λ path d x y enough more.
    loosened (after (codes "(") _ _ refl more λ opened.
    then _ _ (parameters_alike judged vars opened) λ params e v w last after_it.
    ended (path, params) after_it)

-- Both read a method, whose `)` stands after so many tokens.
record Closes (p : Pair) (b : ℕ) (one other : Parsed Signature) : Type 0 where
  signature : Signature
  close : ℕ
  left : List Token
  rest : List Token
  here : Here p close left rest
  further : b ≤ close
  no_close : NoClose p b close
  ends : is_next (codes ")") left ≡ true
  is : one ≡ Ok (signature, drop 1 left)
  same : close < p.agreed → other ≡ Ok (signature, drop 1 rest)

closes : {p : Pair} {b : ℕ} {one other : Parsed Headed} → Alike p true b b one other → Closes p b (one >>= closing) (other >>= closing) ⊎ Stops p true b (one >>= closing) (other >>= closing)
closes (inr stop) = inr (record {
  fault = stop.fault;
  decided = stop.decided;
  further = stop.further;
  no_close = stop.no_close;
  stands = stop.stands;
  is = rw stop.is refl;
  same = λ le. rw (stop.same le) refl;
})
closes {p = p} {b = b} {one = one} {other = other} (inl on) = by (is_next (codes ")") on.left) refl where
  seen : on.following < p.agreed → is_next (codes ")") on.rest ≡ is_next (codes ")") on.left
  seen lt = sym (seen_same (is_next (codes ")")) (λ x t u. refl) on.here lt)

  by : (v : Bool) → is_next (codes ")") on.left ≡ v → Closes p b (one >>= closing) (other >>= closing) ⊎ Stops p true b (one >>= closing) (other >>= closing)
  by true e = inl (record {
    signature = record { path = on.value.0; params = on.value.1 };
    close = on.following;
    left = on.left;
    rest = on.rest;
    here = on.here;
    further = on.further;
    no_close = on.no_close;
    ends = e;
    is = rw (on.is, e) refl;
    same = λ lt. let last : is_next (codes ")") on.rest ≡ true = seen lt ∙ e in rw (on.same lt, last) refl;
  })
  by false e =
      let further = on.further in
      let here = on.here in
      let count : on.following + 1 - 1 ≡ on.following = omega arith in
      inr (record {
        fault = faults.Syntax (front_at on.left);
        decided = on.following + 1;
        further = omega arith;
        no_close = subst (λ (n : ℕ). NoClose p b n) (sym count) on.no_close;
        stands = record { index = on.following; inside = here.inside; at = ap front_at here.one; decided = omega arith };
        is = rw (on.is, e) refl;
        same = λ le.
            let lt : on.following < p.agreed = omega arith in
            let last : is_next (codes ")") on.rest ≡ false = seen lt ∙ e in
            let at : front_at on.rest ≡ front_at on.left = sym (front_same on.here lt) in
            rw (on.same lt, last, at) refl;
      })

signature_alike : {p : Pair} {b c : ℕ} {t u : List Token} (judged : Bool) (vars : List Var) → Heads p b c t u
    → Closes p b (signature_at judged vars t) (signature_at judged vars u) ⊎ Stops p true b (signature_at judged vars t) (signature_at judged vars u)
signature_alike {t = t} {u = u} judged vars heads = rw (signature_is judged vars t, signature_is judged vars u) (closes (until_alike judged vars heads))

-- ---- which method it is

record IsAt (at : ℕ) (fault : PolicyFault) : Type 0 where
  of_method : is_of_method fault ≡ true
  there : place fault ≡ at

record Blames (at : ℕ) {X : Type 0} (read : Judged X) : Type 0 where
  of : (fault : PolicyFault) → read ≡ Err fault → IsAt at fault

blamed : (at : ℕ) {X : Type 0} (fault : PolicyFault) → IsAt at fault → Blames at {X = X} (Err fault)
blamed at fault is = record { of = λ other e. let same : fault ≡ other = cc in subst (IsAt at) same is }

tests : (at : ℕ) {Y : Type 0} (test : Bool) (fault : PolicyFault) (f : Unit {0} → Judged Y) → IsAt at fault → Blames at (f tt) → Blames at (need test fault >>= f)
tests at true fault f is rest = rest
tests at false fault f is rest = blamed at fault is

index_blames : (methods : List ListedMethod) (clauses : List TreeClause) (phase : Phase) (at : ℕ) (signature : Signature) (desc : List ℕ)
    → Blames at (index_at methods clauses phase at signature desc)
unfolding index_at
index_blames methods clauses phase at signature desc =
    tests at (not (is_built_in signature.path.class signature.path.name desc)) _ _ (record { of_method = refl; there = refl }) (
    found (declared_in methods signature.path.name desc signature.path.class)) where
      found : (method : Option ℕ) → Blames at (ok_or method (faults.NoMethod at) >>= λ m. need (nat_le (length signature.params) 255) (faults.NoMethod at)
          >>= λ narrow. need (not (has_clause clauses phase m)) (faults.Twice at) >>= λ once. Ok m)
      found None = blamed at (faults.NoMethod at) (record { of_method = refl; there = refl })
      found (Some m) =
          tests at (nat_le (length signature.params) 255) _ _ (record { of_method = refl; there = refl }) (
          tests at (not (has_clause clauses phase m)) _ _ (record { of_method = refl; there = refl }) (record { of = λ fault e. absurd cc }))

-- ---- the method

name_is_of_method : (fault : PolicyFault) → is_of_name fault ≡ true → is_of_method fault ≡ true
name_is_of_method (faults.Syntax at) e = absurd cc
name_is_of_method (faults.Name at) e = absurd cc
name_is_of_method (faults.Kind at) e = absurd cc
name_is_of_method (faults.Range at) e = absurd cc
name_is_of_method (faults.NoMethod at) e = refl
name_is_of_method (faults.Twice at) e = refl
name_is_of_method (faults.Limit at) e = refl
name_is_of_method (faults.Builtin at) e = refl
name_is_of_method faults.Memory e = absurd cc

ahead_low : (fault : PolicyFault) → ahead fault ≤ 1
ahead_low (faults.Syntax at) = omega arith
ahead_low (faults.Name at) = omega arith
ahead_low (faults.Kind at) = omega arith
ahead_low (faults.Range at) = omega arith
ahead_low (faults.NoMethod at) = omega arith
ahead_low (faults.Twice at) = omega arith
ahead_low (faults.Limit at) = omega arith
ahead_low (faults.Builtin at) = omega arith
ahead_low faults.Memory = omega arith

record Larger (m n : ℕ) : Type 0 where
  most : ℕ
  one : m ≤ most
  other : n ≤ most
  below : (k : ℕ) → k < most → (k < m) ⊎ (k < n)

larger : (m n : ℕ) → Larger m n
larger m n = ⊎_elim
    (λ lt. record { most = n; one = omega arith; other = omega arith; below = λ k low. inr low })
    (λ le. record { most = m; one = omega arith; other = omega arith; below = λ k low. inl low })
    (within m n)

-- A method that begins after c tokens is still to be ended after more, as long as no `)` stands among these.
abbrev pub Unended : Pair → ℕ → Type 0
Unended p c = (k : ℕ) → c ≤ k → NoClose p c k → is_open (take k p.one) ≡ true

module _ (methods : List ListedMethod) (vars : List Var) (clauses : List TreeClause) (phase : Phase) (result : List ℕ) {p : Pair} {b c : ℕ} {t u : List Token}
    (here : Here p c t u) (low : c ≤ b) (high : b ≤ c + 1) (before : NoClose p c b) (unended : Unended p c) (heads : Heads p b c t u) where
  strict_one : Loosens (signature_at true vars t) (signature_at false vars t)
  strict_one = signature_loose vars t

  strict_other : Loosens (signature_at true vars u) (signature_at false vars u)
  strict_other = signature_loose vars u

  unclosed_to : (d k : ℕ) → NoClose p b d → k ≤ d → c ≤ k → is_open (take k p.one) ≡ true
  unclosed_to d k no_close le from =
      unended k from (λ j over under. both_unclosed true p c b d before no_close j over (omega arith))

  abbrev Method : Type 0
  Method = Alike p false b (c + 1) (method_at methods vars clauses phase result t) (method_at methods vars clauses phase result u)

  abbrev index_of : List Token → Signature → Judged ℕ
  index_of tokens signature = index_at methods clauses phase (front_at tokens) signature (desc_of signature.params result)

  index_same : (signature : Signature) → c < p.agreed → index_of u signature ≡ index_of t signature
  index_same signature lt = ap (λ (at : ℕ). index_at methods clauses phase at signature (desc_of signature.params result)) (sym (front_same here lt))

  -- The method is read, and it is not one that may stand here.
  refused : (signature : Signature) (close : ℕ) (left rest : List Token) (fault : PolicyFault) → b ≤ close → NoClose p b close
      → signature_at false vars t ≡ Ok (signature, left) → (close < p.agreed → signature_at false vars u ≡ Ok (signature, rest)) → index_of t signature ≡ Err fault → Method
  refused signature close left rest fault further no_close is same index =
      let blame = (index_blames methods clauses phase (front_at t) signature (desc_of signature.params result)).of fault index in
      inr (record {
        fault = fault;
        decided = close + 1;
        further = omega arith;
        no_close = tt;
        stands = inr (record {
          of_method = blame.of_method;
          index = c;
          inside = here.inside;
          at = blame.there ∙ ap front_at here.one;
          unended = λ k over under. unclosed_to close k no_close (omega arith) (omega arith);
        });
        is = rw (is, index) refl;
        same = λ le.
            let other : index_of u signature ≡ Err fault = index_same signature (omega arith) ∙ index in
            rw (same (omega arith), other) refl;
      })

  -- A name in it is wrong, where the rest is read up to m tokens.
  misnamed : (m : ℕ) (stop : Stops p true b (signature_at true vars t) (signature_at true vars u)) → is_of_name stop.fault ≡ true
      → ((k : ℕ) → c ≤ k → k < m → is_open (take k p.one) ≡ true)
      → method_at methods vars clauses phase result t ≡ Err stop.fault
      → (m ≤ p.agreed → stop.decided ≤ p.agreed → method_at methods vars clauses phase result u ≡ Err stop.fault) → Method
  misnamed m stop naming until is same =
      let near = stop.stands in
      let count = near.decided in
      let little = ahead_low stop.fault in
      let further = stop.further in
      let max = larger m stop.decided in
      let one = max.one in
      let other = max.other in
      inr (record {
        fault = stop.fault;
        decided = max.most;
        further = omega arith;
        no_close = tt;
        stands = inr (record {
          of_method = name_is_of_method stop.fault naming;
          index = near.index;
          inside = near.inside;
          at = near.at;
          unended = λ k over under. ⊎_elim
              (λ lt. until k (omega arith) lt)
              (λ lt. unclosed_to (stop.decided - 1) k stop.no_close (omega arith) (omega arith))
              (max.below k under);
        });
        is = is;
        same = λ le. same (omega arith) (omega arith);
      })

  -- The names are right.
  well_named : Closes p b (signature_at true vars t) (signature_at true vars u) → Method
  well_named read = by (index_of t read.signature) refl where
    one : signature_at false vars t ≡ Ok (read.signature, drop 1 read.left)
    one = strict_one.read (read.signature, drop 1 read.left) read.is

    other : read.close < p.agreed → signature_at false vars u ≡ Ok (read.signature, drop 1 read.rest)
    other lt = strict_other.read (read.signature, drop 1 read.rest) (read.same lt)

    by : (index : Judged ℕ) → index_of t read.signature ≡ index → Method
    by (Err fault) e = refused read.signature read.close (drop 1 read.left) (drop 1 read.rest) fault read.further read.no_close one other e
    by (Ok method) e =
        let further = read.further in
        inl (record {
          value = (method, read.signature.params);
          following = read.close + 1;
          left = drop 1 read.left;
          rest = drop 1 read.rest;
          here = next read.here (next_goes_on (codes ")") read.left read.ends);
          further = omega arith;
          enough = omega arith;
          no_close = tt;
          is = rw (one, e, read.is) refl;
          same = λ lt.
              let same : index_of u read.signature ≡ Ok method = index_same read.signature (omega arith) ∙ e in
              rw (other (omega arith), same, read.same (omega arith)) refl;
        })

  -- Something is wrong that is not in a name.
  ill_formed : (stop : Stops p true b (signature_at true vars t) (signature_at true vars u)) → is_of_name stop.fault ≡ false → Method
  ill_formed stop plain =
      let one : signature_at false vars t ≡ Err stop.fault = plainly (strict_one.fails stop.fault stop.is) in
      inr (record {
        fault = stop.fault;
        decided = stop.decided;
        further = stop.further;
        no_close = tt;
        stands = inl stop.stands;
        is = rw (one, stop.is) refl;
        same = λ le.
            let other : signature_at false vars u ≡ Err stop.fault = plainly (strict_other.fails stop.fault (stop.same le)) in
            rw (other, stop.same le) refl;
      }) where
        plainly : {A : Type 0} → (is_of_name stop.fault ≡ true) ⊎ A → A
        plainly (inl naming) = absurd cc
        plainly (inr is) = is

  ill_named : (stop : Stops p true b (signature_at true vars t) (signature_at true vars u)) → is_of_name stop.fault ≡ true
      → Closes p b (signature_at false vars t) (signature_at false vars u) ⊎ Stops p true b (signature_at false vars t) (signature_at false vars u) → Method
  ill_named stop naming (inl read) = by (index_of t read.signature) refl where
    by : (index : Judged ℕ) → index_of t read.signature ≡ index → Method
    by (Err fault) e = refused read.signature read.close (drop 1 read.left) (drop 1 read.rest) fault read.further read.no_close read.is read.same e
    by (Ok method) e =
        let further = read.further in
        misnamed (read.close + 1) stop naming (λ k over under. unclosed_to read.close k read.no_close (omega arith) over)
        (rw (read.is, e, stop.is) refl)
        (λ le all.
        let same : index_of u read.signature ≡ Ok method = index_same read.signature (omega arith) ∙ e in
        rw (read.same (omega arith), same, stop.same all) refl)
  ill_named stop naming (inr loose) =
      let further = loose.further in
      misnamed loose.decided stop naming (λ k over under. unclosed_to (loose.decided - 1) k loose.no_close (omega arith) over)
      (rw (loose.is, stop.is) refl)
      (λ le all. rw (loose.same le, stop.same all) refl)

  pub method_alike : Method
  method_alike = by (signature_alike true vars heads) where
    named : (stop : Stops p true b (signature_at true vars t) (signature_at true vars u)) (v : Bool) → is_of_name stop.fault ≡ v → Method
    named stop true e = ill_named stop e (signature_alike false vars heads)
    named stop false e = ill_formed stop e

    by : Closes p b (signature_at true vars t) (signature_at true vars u) ⊎ Stops p true b (signature_at true vars t) (signature_at true vars u) → Method
    by (inl read) = well_named read
    by (inr stop) = named stop (is_of_name stop.fault) refl

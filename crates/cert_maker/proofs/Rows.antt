-- Rows of the table of notes, by what an instruction does and names.
use Rattle.std.proofs.Common.{◌≡◌, ℕ, ◌+◌, ◌-◌, ℤ, Bool, true, false, List, [], ◌∷◌, ◌++◌, length, Option, Some, None, refl, ap, ◌∙◌, arith}
use Rattle.std.specs.Bool.{beq}
use Rattle.std.specs.Prelude.{◌==◌, ◌&&◌, is_some, nat_le, nat_lt, slice_get, slice_set}
use Rattle.std.specs.Option.{option_map_or}
use Rattle.std.proofs.lemmas.Bool.Decides.{nat_tests}
use Rattle.insn_codec.specs.declared.shape.Heap.TheVariants as heap
use Rattle.insn_codec.specs.declared.shape.How.{How}
use Rattle.insn_codec.specs.declared.shape.ValueKind.{ValueKind as Operand}
use Rattle.insn_codec.specs.declared.shape.ValueKind.TheVariants as operands
use Rattle.insn_codec.specs.declared.shape.Shape.{Shape}
use Rattle.insn_codec.specs.declared.shape.Shape.TheVariants as shapes
use Rattle.insn_codec.specs.declared.shape.Two.TheVariants as two
use Rattle.bytecode_model.specs.declared.program.Target.{Target}
use Rattle.bytecode_model.specs.declared.program.Target.TheVariants as target
use Rattle.cert_format.specs.declared.note.Note.{Note}
use Rattle.cert_format.specs.declared.note.Note.TheVariants as notes
use Rattle.cert_format.specs.declared.note.Site.{Site}
use Rattle.cert_format.specs.declared.note.Term.{Term}
use Rattle.cert_format.specs.declared.note.Term.TheVariants as terms
use Rattle.conspec_tree.specs.declared.types.Atom.{Atom}
use Rattle.conspec_tree.specs.declared.types.Kind.{Kind}
use Rattle.conspec_tree.specs.declared.types.Rel.{Rel}
use Rattle.conspec_tree.specs.declared.types.Rel.TheVariants as relations
use Rattle.conspec_automaton.specs.declared.policy.Branch.{Branch}
use Rattle.conspec_automaton.specs.declared.policy.Clause.{Clause}
use Rattle.block_logic.specs.Annotations.{holds_round}
use Rattle.block_logic.specs.Clauses.{clause_of, needs, result_kind}
use Rattle.block_logic.specs.Operands.{leaves, loaded, pushes_state, stored}
use Rattle.block_logic.specs.Rows as rows
use Rattle.block_logic.specs.Rows.{Given, Nothing, Open, Row, Rules, asks_atom, gives, is_addend, leads, may_keep, may_leave, may_push, returned, term_pushed, thrown}
use Rattle.block_logic.specs.Weakening.{asks_kept, begun, is_after, is_before}
use Rattle.block_logic.specs.Terms.{base_term}
use Rattle.cert_maker.proofs.Same.{same_bool, same_number, term_itself}
use Rattle.cert_maker.proofs.Shapes.{negation}
use Rattle.conspec_tree.specs.Kinds.{is_number}

pub and_false : (b : Bool) → (b && false) ≡ false
and_false true = refl
and_false false = refl

module _ (rules : Rules) where
  -- ---- the lock is left, or taken for a return

  module _ (site : Site) (stage : ℕ) (kept : Bool) (s : Shape) (t : Target) (no_store : stored s ≡ None) where
    abbrev keeps : Bool → Bool
    keeps top = may_keep rules.policy site stage kept top && option_map_or (λ slot. slot == site.base) (stored s) false

    keeps_not : (top : Bool) → keeps top ≡ false
    keeps_not top =
        ap (λ (o : Option ℕ). may_keep rules.policy site stage kept top && option_map_or (λ slot. slot == site.base) o false) no_store
        ∙ and_false (may_keep rules.policy site stage kept top)

    pub owed_pushes : may_push rules.policy site stage ≡ true → pushes_state s t ≡ true
        → rows.owed_row rules site stage kept false s t ≡ gives (notes.Owed site stage kept true)
    owed_pushes push class =
        by (keeps false) (may_push rules.policy site stage) (pushes_state s t) (keeps_not false) push class
      where
        by : (x y z : Bool) → x ≡ false → y ≡ true → z ≡ true
            → rows.first_row (rows.only_if x (gives (notes.Owed site stage true false)))
            (rows.first_row (rows.only_if (y && z) (gives (notes.Owed site stage kept true))) None)
            ≡ gives (notes.Owed site stage kept true)
        by x y z e f g = rw (e, f, g) refl

    pub owed_leaves : may_leave rules.policy site stage ≡ true → (stage == 0) ≡ false → leaves s ≡ true → rows.owed_row rules site stage kept true s t ≡ leads Open
    owed_leaves leave begun left = rw (keeps_not true, leave, begun, left) refl

  pub owed_enters : (site : Site) (kept : Bool) (t : Target) → kept ≡ asks_kept rules.policy site
      → rows.owed_row rules site 0 kept true (shapes.Heap heap.Enter) t ≡ gives (begun rules.policy site)
  owed_enters site kept t e =
      let same : beq kept (asks_kept rules.policy site) ≡ true = ap (λ (k : Bool). beq k (asks_kept rules.policy site)) e ∙ same_bool (asks_kept rules.policy site) in
      rw (keeps_not site 0 kept (shapes.Heap heap.Enter) t refl true, same) refl

  pub owed_keeps : (site : Site) (stage : ℕ) (k : Operand) (t : Target) → is_after site.phase ≡ true → nat_lt stage 2 ≡ true
      → is_some (result_kind rules.policy site.method) ≡ true
      → rows.owed_row rules site stage false false (shapes.Store k site.base) t ≡ gives (notes.Owed site stage true false)
  owed_keeps site stage k t after early result = rw (after, early, result, same_number site.base) refl

  -- ---- arguments are loaded, and the call is made

  pub granted_loads : (site : Site) (locked : Bool) (count : ℕ) (k : Operand) (t : Target) → nat_lt count (needs rules.policy site.method) ≡ true
      → rows.granted_row rules site locked count false (shapes.Load k (site.base + count)) t ≡ gives (notes.Granted site locked (count + 1) false)
  granted_loads site locked count k t few = rw (few, same_number (site.base + count)) refl

  pub granted_pushes : (site : Site) (count : ℕ) (s : Shape) (t : Target) → loaded s ≡ None → pushes_state s t ≡ true
      → rows.granted_row rules site true count false s t ≡ gives (notes.Granted site true count true)
  granted_pushes site count s t no_load class =
      let none : (nat_lt count (needs rules.policy site.method) && option_map_or (λ slot. slot == site.base + count) (loaded s) false) ≡ false =
      ap (λ (o : Option ℕ). nat_lt count (needs rules.policy site.method) && option_map_or (λ slot. slot == site.base + count) o false) no_load
      ∙ and_false (nat_lt count (needs rules.policy site.method)) in
      rw (none, class) refl

  pub granted_leaves : (site : Site) (count : ℕ) (t : Target)
      → rows.granted_row rules site true count true (shapes.Heap heap.Exit) t ≡ gives (notes.Granted site false count false)
  granted_leaves site count t = refl

  abbrev pub called : Site → Row
  called site = record { past = returned rules site; jump = Nothing; thrown = thrown rules site }

  pub granted_calls : (site : Site) (how : How) → rows.granted_row rules site (holds_round rules.held site.method) (needs rules.policy site.method) false
      (shapes.Heap (heap.Call how)) (target.ApiMethod site.method) ≡ Some (called site)
  granted_calls site how =
      let none : (nat_lt (needs rules.policy site.method) (needs rules.policy site.method) && false) ≡ false =
      and_false (nat_lt (needs rules.policy site.method) (needs rules.policy site.method)) in
      let no_push : (holds_round rules.held site.method && false) ≡ false = and_false (holds_round rules.held site.method) in
      rw (none, no_push, same_number (needs rules.policy site.method), same_bool (holds_round rules.held site.method), same_number site.method) refl

  -- ---- a check

  module _ (site : Site) (clause : Clause) (found : clause_of rules.policy site ≡ Some clause) (failed holding : ℕ) (map : List Term) where
    abbrev Held : List Term → Note
    Held list = notes.Held site failed holding list map

    pub held_pushes : (list : List Term) (s : Shape) (t : Target) (term : Term) → term_pushed rules site clause map s t ≡ Some term
        → rows.row rules (Held list) s t ≡ gives (Held (list ++ term ∷ []))
    held_pushes list s t term pushed = rw (found, pushed) refl

    pub held_goes : (list : List Term) (to : ℕ) → rows.row rules (Held list) (shapes.Goto to) target.None ≡ gives (Held list)
    held_goes list to = rw found refl

    pub held_adds : (var : ℕ) (n : ℤ) → is_addend n ≡ true
        → rows.row rules (Held (terms.Var var ∷ terms.Const n ∷ [])) (shapes.Two two.Add) target.None ≡ gives (Held (terms.VarAdd var n ∷ []))
    held_adds var n small = rw (found, small) refl

    abbrev written : Term → rows.Check
    written term = record { site = site; clause = clause; failed = failed; holding = holding; terms = term ∷ []; map = map }

    pub held_writes : (branch : Branch) (term : Term) (var : ℕ) → slice_get clause.branches failed ≡ Some branch
        → holding ≡ length branch.atoms
        → rows.row rules (Held (term ∷ [])) (shapes.Heap heap.WriteStatic) (target.Field rules.state var)
        ≡ gives (notes.Held site failed holding [] (slice_set map var term))
    held_writes branch term var there all =
        let count : (holding == length branch.atoms) ≡ true = ap (λ (n : ℕ). n == length branch.atoms) all ∙ same_number (length branch.atoms) in
        let holds : rows.all_hold rules.policy (written term) ≡ true = rw (found, there, count) refl in
        rw (found, same_number rules.state, holds) refl

    abbrev pub tested : Row
    tested = record {
      past = Given (notes.Held site failed (holding + 1) [] map);
      jump = Given (notes.Held site (failed + 1) 0 [] map);
      thrown = Open;
    }

    abbrev check : Atom → rows.Check
    check atom = record {
      site = site;
      clause = clause;
      failed = failed;
      holding = holding;
      terms = base_term atom.base ∷ terms.Const atom.value ∷ [];
      map = map;
    }

    pub held_tests : (branch : Branch) (atom : Atom) (to : ℕ) → slice_get clause.branches failed ≡ Some branch
        → slice_get branch.atoms holding ≡ Some atom
        → rows.row rules (Held (base_term atom.base ∷ terms.Const atom.value ∷ [])) (shapes.Compare (negation atom.rel) to) target.None ≡ Some tested
    held_tests branch atom to there at =
        let asks : asks_atom (base_term atom.base ∷ terms.Const atom.value ∷ []) atom ≡ true =
        rw (term_itself (base_term atom.base), term_itself (terms.Const atom.value)) refl in
        rw (found, there, at, asks) (by atom.rel)
      where
        by : (rel : Rel) → rows.first_row (rows.tested (check atom) rel (negation rel)) None ≡ Some tested
        by relations.Eq = refl
        by relations.Ne = refl
        by relations.Lt = refl
        by relations.Le = refl
        by relations.Gt = refl
        by relations.Ge = refl

  -- ---- what is pushed in a check

  module _ (site : Site) (clause : Clause) (map : List Term) where
    pub variable_pushed : (var : ℕ) (term : Term) → slice_get map var ≡ Some term
        → term_pushed rules site clause map (shapes.Heap heap.ReadStatic) (target.Field rules.state var) ≡ Some term
    variable_pushed var term there = rw (same_number rules.state, there) refl

    pub argument_pushed : (i : ℕ) (kind : Kind) → is_before site.phase ≡ true → slice_get clause.args i ≡ Some kind → is_number kind ≡ true
        → term_pushed rules site clause map (shapes.Load operands.Int (site.base + i)) target.None ≡ Some (terms.Arg i)
    argument_pushed i kind before there number =
        let low : nat_le site.base (site.base + i) ≡ true = grind (arith, nat_tests) in
        let at : (site.base + i) - site.base ≡ i = omega arith in
        rw (before, low, at, there, number) refl

    pub result_pushed : (kind : Kind) → is_before site.phase ≡ false → is_after site.phase ≡ true → clause.result ≡ Some kind → is_number kind ≡ true
        → term_pushed rules site clause map (shapes.Load operands.Int site.base) target.None ≡ Some terms.Result
    result_pushed kind before after there number = rw (before, after, same_number site.base, there, number) refl

-- The notes of woven programs can be encoded.
use Rattle.std.proofs.Common.{◌≡◌, ℕ, zero, suc, ◌+◌, ◌<◌, ◌≤◌, ℤ, Bool, true, false, cond, List, [], ◌∷◌, length, map, take, Option, Some, None, refl, ap, subst, arith, FitsSigned}
use Rattle.std.specs.Prelude.{◌==◌, ◌&&◌, find, slice_get}
use Rattle.std.specs.Int.{w32}
use Rattle.std.specs.List.{AllByRecursion}
use Rattle.std.specs.Option.{option_map_or}
use Rattle.std.proofs.lemmas.Int.{ints}
use Rattle.std.proofs.lemmas.Option.{slice_get_within}
use Rattle.mon_base.specs.Widths.{IsU1, IsU2}
use Rattle.bytecode_model.proofs.Lists.{all_append, all_get}
use Rattle.bytecode_model.specs.declared.program.Target.{Target}
use Rattle.bytecode_model.specs.declared.program.Target.TheVariants as target
use Rattle.block_logic.specs.Clauses.{clause_of, is_of_phase, needs}
use Rattle.block_logic.specs.Weakening.{branches_of}
use Rattle.block_logic.specs.Terms.{after_updates, base_term, update_of, variable_after, variables_after, written}
use Rattle.block_template.specs.declared.item.Item.{Item}
use Rattle.block_template.specs.declared.item.Role.{Role}
use Rattle.block_template.specs.declared.item.Role.TheVariants as roles
use Rattle.block_template.specs.Blocks.{bools_of, clauses_of, items}
use Rattle.block_template.specs.Good.{AreNumbers, HasNumbers}
use Rattle.cert_format.specs.declared.certificate.Mode.{Mode}
use Rattle.cert_format.specs.declared.note.Note.{Note}
use Rattle.cert_format.specs.declared.note.Note.TheVariants as notes
use Rattle.cert_format.specs.declared.note.Site.{Site}
use Rattle.cert_format.specs.declared.note.Term.{Term}
use Rattle.cert_format.specs.declared.note.Term.TheVariants as terms
use Rattle.cert_format.specs.Fits.{FitsNote, FitsSite, FitsTerm}
use Rattle.cert_maker.specs.declared.called.Called.{Called}
use Rattle.cert_maker.specs.Noting.{ask_note, atom_of, block_notes, branch_at, byte, left_note, lock_note, made_note, note_of, part_notes, parts_notes, site_of, taken_note, terms_before, unlock_note, update_note, updating_note}
use Rattle.block_template.specs.Steps.{ask_steps, update_steps}
use Rattle.conspec_automaton.specs.declared.policy.Branch.{Branch}
use Rattle.conspec_automaton.specs.declared.policy.Clause.{Clause}
use Rattle.conspec_automaton.specs.declared.policy.Policy.{Policy}
use Rattle.conspec_automaton.specs.Next.{has_clauses}
use Rattle.conspec_automaton.specs.Sound.{IsBranchIn, IsClauseIn, IsPolicy}
use Rattle.conspec_tree.specs.declared.types.Atom.{Atom}
use Rattle.conspec_tree.specs.declared.types.Base.{Base}
use Rattle.conspec_tree.specs.declared.types.Base.TheVariants as bases
use Rattle.conspec_tree.specs.declared.types.Kind.{Kind}
use Rattle.conspec_tree.specs.declared.types.Phase.{Phase}
use Rattle.conspec_tree.specs.declared.types.Phase.TheVariants.{Before, After, Exceptional}
use Rattle.conspec_tree.specs.declared.types.Update.{Update}
use Rattle.conspec_tree.specs.declared.types.Update.TheVariants.{Set, Add}
use Rattle.conspec_tree.specs.Tree.{Askable, IsBase, IsInRange, IsNumber, IsUpdateIn, asked}
use Rattle.conspec_tree.specs.Updates.{target as update_target}

-- ---- lists

all_take : {A : Type 0} (P : A → Type 0) (n : ℕ) (list : List A) → AllByRecursion P list → AllByRecursion P (take n list)
all_take P zero list all = tt
all_take P (suc n) [] all = tt
all_take P (suc n) (x ∷ list) all = (all.0, all_take P n list all.1)

found_has : {A : Type 0} (P : A → Type 0) (p : A → Bool) (list : List A) (x : A) → AllByRecursion P list → find p list ≡ Some x → P x
found_has P p [] x all e = absurd cc
found_has {A = A} P p (y ∷ list) x all e = by (p y) e (found_has P p list x all.1) where
  by : (b : Bool) → cond b (Some y) (find p list) ≡ Some x → (find p list ≡ Some x → P x) → P x
  by true is later =
      let same : y ≡ x = cc in
      subst P same all.0
  by false is later = later is

-- ---- numbers

byte_fits : (n : ℕ) → IsU1 (byte n)
byte_fits n = omega arith

pub site_fits : (call : Called) (phase : Phase) → IsU2 call.base → FitsSite (site_of call phase)
site_fits call phase base = (omega arith, base)

-- ---- what a clause asks and writes

module _ (policy : Policy) (is : IsPolicy policy) (numbers : HasNumbers policy) where
  abbrev AtomFits : Atom → Type 0
  AtomFits atom = FitsTerm (base_term atom.base) × FitsSigned w32 atom.value

  abbrev Writes : Update → Type 0
  Writes update = IsUpdateIn policy.vars policy.maxint update

  record BranchFits (branch : Branch) : Type 0 where
    atoms : AllByRecursion AtomFits branch.atoms
    updates : AllByRecursion Writes branch.updates

  arguments_few : (phase : Phase) (args : List Kind) (result : Option Kind) → length args ≤ 255 → length (asked phase args result).args ≤ 255
  arguments_few Before args result few = few
  arguments_few After args result few = omega arith
  arguments_few Exceptional args result few = omega arith

  number_there : (o : Option Kind) → IsNumber o → (k : Kind) × (o ≡ Some k)
  number_there None n = absurd n
  number_there (Some k) n = (k, refl)

  base_fits : (askable : Askable) → length askable.args ≤ 255 → (base : Base) → IsBase (length policy.vars) askable base → FitsTerm (base_term base)
  base_fits askable few (bases.Var i) of = omega (arith, of, is.few_vars)
  base_fits askable few (bases.Arg i) of =
      let kind = number_there (slice_get askable.args i) of in
      omega (arith, few, slice_get_within askable.args i kind.0 kind.1)
  base_fits askable few bases.Result of = tt

  atoms_fit : (askable : Askable) → length askable.args ≤ 255 → (atoms : List Atom) → AllByRecursion (λ (a : Atom). IsBase (length policy.vars) askable a.base) atoms → AllByRecursion (λ (a : Atom). FitsSigned w32 a.value) atoms
      → AllByRecursion AtomFits atoms
  atoms_fit askable few [] of values = tt
  atoms_fit askable few (a ∷ atoms) of values = ((base_fits askable few a.base of.0, values.0), atoms_fit askable few atoms of.1 values.1)

  branches_fit : (askable : Askable) → length askable.args ≤ 255 → (branches : List Branch) → AllByRecursion (IsBranchIn policy.vars policy.maxint askable) branches → AllByRecursion AreNumbers branches → AllByRecursion BranchFits branches
  branches_fit askable few [] are values = tt
  branches_fit askable few (b ∷ branches) are values = (record { atoms = atoms_fit askable few b.atoms are.0.atoms values.0; updates = are.0.updates }, branches_fit askable few branches are.1 values.1)

  clauses_fit : (clauses : List Clause) → AllByRecursion (IsClauseIn policy.vars policy.maxint) clauses → AllByRecursion (λ (c : Clause). AllByRecursion AreNumbers c.branches) clauses
      → AllByRecursion (λ (c : Clause). AllByRecursion BranchFits c.branches) clauses
  clauses_fit [] are values = tt
  clauses_fit (c ∷ clauses) are values =
      (branches_fit (asked c.phase c.args c.result) (arguments_few c.phase c.args c.result are.0.few_args) c.branches are.0.branches values.0, clauses_fit clauses are.1 values.1)

  of_site : (site : Site) → AllByRecursion BranchFits (branches_of policy site)
  of_site site = by (clause_of policy site) refl where
    by : (o : Option Clause) → clause_of policy site ≡ o → AllByRecursion BranchFits (option_map_or (λ (c : Clause). c.branches) o [])
    by None e = tt
    by (Some c) e =
        found_has (λ (x : Clause). AllByRecursion BranchFits x.branches) (λ (x : Clause). (x.method == site.method) && is_of_phase site.phase x.phase) policy.clauses c
        (clauses_fit policy.clauses is.clauses numbers) e

  -- ---- the variables

  set_fits : (is_bool : Bool) (value : ℤ) → IsInRange policy.maxint is_bool value → FitsSigned w32 value
  set_fits true value h = omega (arith, ints, h.low, h.high)
  set_fits false value h = omega (arith, ints, h.low, h.high, is.maxint_high)

  update_fits : (update : Update) → Writes update → FitsTerm (written update)
  update_fits (Set var value) h = set_fits h.variable.is_bool value h.fits
  update_fits (Add var by) h = (omega (arith, is.few_vars, slice_get_within policy.vars var h.variable h.there), omega (arith, ints, h.fits.1.0, h.fits.1.1))

  variable_fits : (updates : List Update) → AllByRecursion Writes updates → (var : ℕ) → var < 16 → FitsTerm (variable_after updates var)
  variable_fits updates are var few = by (update_of updates var) refl where
    by : (o : Option Update) → update_of updates var ≡ o → FitsTerm (option_map_or written o (terms.Var var))
    by None e = omega (arith, few)
    by (Some update) e = update_fits update (found_has Writes (λ (u : Update). update_target u == var) updates update are e)

  variables_fit : (updates : List Update) → AllByRecursion Writes updates → (var n : ℕ) → var + n ≤ 16 → AllByRecursion FitsTerm (variables_after updates var n)
  variables_fit updates are var zero few = tt
  variables_fit updates are var (suc n) few = (variable_fits updates are var (omega (arith, few)), variables_fit updates are (var + 1) n (omega (arith, few)))

  variables_many : (updates : List Update) (var n : ℕ) → length (variables_after updates var n) ≡ n
  variables_many updates var zero = refl
  variables_many updates var (suc n) = ap suc (variables_many updates (var + 1) n)

  map_fits : (updates : List Update) → AllByRecursion Writes updates → (length (after_updates policy updates) ≡ length policy.vars) × AllByRecursion FitsTerm (after_updates policy updates)
  map_fits updates are = (variables_many updates 0 (length policy.vars), variables_fit updates are 0 (length policy.vars) (omega (arith, is.few_vars)))

  -- ---- notes

  module _ (call : Called) (base : IsU2 call.base) where
    abbrev Fits : Note → Type 0
    Fits note = FitsNote (length policy.vars) note

    lock_fits : (phase : Phase) (pushed : Bool) → Fits (lock_note policy call phase pushed)
    lock_fits Before false = tt
    lock_fits Before true = site_fits call Before base
    lock_fits After pushed = (site_fits call After base, omega arith)
    lock_fits Exceptional pushed = (site_fits call Exceptional base, omega arith)

    left_fits : (phase : Phase) (checked pushed : Bool) → Fits (left_note policy (site_of call phase) checked pushed)
    left_fits phase true pushed = (site_fits call phase base, omega arith)
    left_fits phase false pushed = (site_fits call phase base, omega arith)

    unlock_fits : (phase : Phase) (checked pushed : Bool) → Fits (unlock_note policy call phase checked pushed)
    unlock_fits Before checked pushed = (site_fits call Before base, omega arith)
    unlock_fits After checked pushed = left_fits After checked pushed
    unlock_fits Exceptional checked pushed = left_fits Exceptional checked pushed

    asked_fit : (done : ℕ) (atom : Atom) → AtomFits atom
        → IsU1 (length (terms_before (ask_steps atom) done)) × AllByRecursion FitsTerm (terms_before (ask_steps atom) done)
    asked_fit zero atom fits = (omega arith, tt)
    asked_fit (suc zero) atom fits = (omega arith, (fits.0, tt))
    asked_fit (suc (suc zero)) atom fits = (omega arith, (fits.0, (fits.1, tt)))
    asked_fit (suc (suc (suc done))) atom fits = (omega arith, tt)

    ask_fits : (phase : Phase) (branch atom done : ℕ) → Fits (ask_note policy (site_of call phase) branch atom done (atom_of (branch_at policy (site_of call phase) branch) atom))
    ask_fits phase branch atom done = by (branch_at policy (site_of call phase) branch) refl where
      of_atom : (b : Branch) → BranchFits b → (o : Option Atom) → slice_get b.atoms atom ≡ o → Fits (ask_note policy (site_of call phase) branch atom done o)
      of_atom b fits None e = tt
      of_atom b fits (Some a) e =
          let pushes = asked_fit done a (all_get AtomFits b.atoms atom a fits.atoms e) in
          (site_fits call phase base, (byte_fits branch, (byte_fits atom, (pushes, map_fits [] tt))))

      by : (o : Option Branch) → branch_at policy (site_of call phase) branch ≡ o → Fits (ask_note policy (site_of call phase) branch atom done (atom_of o atom))
      by None e = tt
      by (Some b) e = of_atom b (all_get BranchFits (branches_of policy (site_of call phase)) branch b (of_site (site_of call phase)) e) (slice_get b.atoms atom) refl

    made_fits : (phase : Phase) (branch update : ℕ) (pushed : List Term) (b : Branch) → BranchFits b → IsU1 (length pushed) → AllByRecursion FitsTerm pushed
        → Fits (made_note policy (site_of call phase) branch update pushed b)
    made_fits phase branch update pushed b fits few terms_fit =
        (site_fits call phase base, (byte_fits branch, (byte_fits (length b.atoms), ((few, terms_fit), map_fits (take update b.updates) (all_take Writes update b.updates fits.updates)))))

    terms_fit : (done : ℕ) (update : Update) → Writes update
        → IsU1 (length (terms_before (update_steps update) done)) × AllByRecursion FitsTerm (terms_before (update_steps update) done)
    terms_fit zero (Set var value) h = (omega arith, tt)
    terms_fit (suc zero) (Set var value) h = (omega arith, (set_fits h.variable.is_bool value h.fits, tt))
    terms_fit (suc (suc done)) (Set var value) h = (omega arith, tt)
    terms_fit zero (Add var by) h = (omega arith, tt)
    terms_fit (suc zero) (Add var by) h = (omega arith, ((update_fits (Add var by) h).0, tt))
    terms_fit (suc (suc zero)) (Add var by) h = (omega arith, ((update_fits (Add var by) h).0, ((update_fits (Add var by) h).1, tt)))
    terms_fit (suc (suc (suc zero))) (Add var by) h = (omega arith, (update_fits (Add var by) h, tt))
    terms_fit (suc (suc (suc (suc done)))) (Add var by) h = (omega arith, tt)

    updating_fits : (phase : Phase) (branch update done : ℕ) (b : Branch) → BranchFits b → Fits (updating_note policy (site_of call phase) branch update done b)
    updating_fits phase branch update done b fits = by (slice_get b.updates update) refl where
      by : (o : Option Update) → slice_get b.updates update ≡ o → Fits (made_note policy (site_of call phase) branch update (option_map_or (λ (u : Update). terms_before (update_steps u) done) o []) b)
      by None e = made_fits phase branch update [] b fits (omega arith) tt
      by (Some u) e =
          let pushes = terms_fit done u (all_get Writes b.updates update u fits.updates e) in
          made_fits phase branch update (terms_before (update_steps u) done) b fits pushes.0 pushes.1

    update_note_fits : (phase : Phase) (branch update done : ℕ) → Fits (update_note policy (site_of call phase) branch update done)
    update_note_fits phase branch update done = by (branch_at policy (site_of call phase) branch) refl where
      by : (o : Option Branch) → branch_at policy (site_of call phase) branch ≡ o → Fits (option_map_or (λ (b : Branch). updating_note policy (site_of call phase) branch update done b) o notes.Free)
      by None e = tt
      by (Some b) e = updating_fits phase branch update done b (all_get BranchFits (branches_of policy (site_of call phase)) branch b (of_site (site_of call phase)) e)

    taken_fits : (phase : Phase) (branch : ℕ) → Fits (taken_note policy (site_of call phase) branch)
    taken_fits phase branch = by (branch_at policy (site_of call phase) branch) refl where
      by : (o : Option Branch) → branch_at policy (site_of call phase) branch ≡ o → Fits (option_map_or (λ (b : Branch). made_note policy (site_of call phase) branch (length b.updates) [] b) o notes.Free)
      by None e = tt
      by (Some b) e =
          made_fits phase branch (length b.updates) [] b (all_get BranchFits (branches_of policy (site_of call phase)) branch b (of_site (site_of call phase)) e) (omega arith) tt

    stage_fits : (locked : Bool) → IsU1 (cond locked 1 0)
    stage_fits true = omega arith
    stage_fits false = omega arith

    role_fits : (role : Role) → Fits (note_of policy call role)
    role_fits (roles.Save left) = tt
    role_fits (roles.Lock phase pushed) = lock_fits phase pushed
    role_fits (roles.Ask phase branch atom done) = ask_fits phase branch atom done
    role_fits (roles.Update phase branch update done) = update_note_fits phase branch update done
    role_fits (roles.Taken phase branch) = taken_fits phase branch
    role_fits (roles.Stop phase done) = (site_fits call phase base, byte_fits done)
    role_fits (roles.Unlock phase checked pushed) = unlock_fits phase checked pushed
    role_fits (roles.Load n locked) = (site_fits call Before base, byte_fits n)
    role_fits (roles.Call locked) = (site_fits call Before base, byte_fits (needs policy (site_of call Before).method))
    role_fits (roles.Keep locked) = (site_fits call After base, stage_fits locked)
    role_fits roles.Give = tt
    role_fits roles.Leave = tt
    role_fits roles.Rethrow = tt
    role_fits roles.Unreached = tt

    items_fit : (list : List Item) → AllByRecursion (FitsNote (length policy.vars)) (map (λ (i : Item). note_of policy call i.role) list)
    items_fit [] = tt
    items_fit (i ∷ list) = (role_fits i.role, items_fit list)

  -- ---- a method

  part_fits : (mode : Mode) (base : ℕ) → IsU2 base → (ref : Target) → AllByRecursion (FitsNote (length policy.vars)) (part_notes policy mode base ref)
  part_fits mode base small (target.ApiMethod callee) = by (has_clauses policy callee) where
    by : (b : Bool) → AllByRecursion (FitsNote (length policy.vars)) (cond b (block_notes policy mode base callee) (notes.Free ∷ []))
    by true = items_fit (record { callee = callee; base = base }) small (items mode (bools_of policy) base (clauses_of policy callee))
    by false = (tt, tt)
  part_fits mode base small target.None = (tt, tt)
  part_fits mode base small (target.Builtin index) = (tt, tt)
  part_fits mode base small (target.Method class method) = (tt, tt)
  part_fits mode base small (target.Field class field) = (tt, tt)
  part_fits mode base small (target.ApiField index) = (tt, tt)
  part_fits mode base small (target.ClassName name) = (tt, tt)
  part_fits mode base small (target.Number n) = (tt, tt)
  part_fits mode base small (target.Literal index) = (tt, tt)

  pub parts_fit : (mode : Mode) (base : ℕ) → IsU2 base → (refs : List Target) → AllByRecursion (FitsNote (length policy.vars)) (parts_notes policy mode base refs)
  parts_fit mode base small [] = tt
  parts_fit mode base small (ref ∷ refs) =
      all_append (FitsNote (length policy.vars)) (part_notes policy mode base ref) (parts_notes policy mode base refs) (part_fits mode base small ref) (parts_fit mode base small refs)

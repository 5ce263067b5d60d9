-- A note that may stand for another means what is given, where the other does.
use Rattle.std.proofs.Common.{◌≡◌, ℕ, zero, suc, ◌<◌, Bool, true, false, List, [], ◌∷◌, length, Option, Some, None, refl, sym, ap, ◌∙◌, subst, arith, inl, inr, eqb-true}
use Rattle.std.specs.Bool.{beq}
use Rattle.std.specs.Prelude.{◌==◌, ◌&&◌, not, find, is_some, option_and_then, slice_get}
use Rattle.std.specs.Option.{option_map_or}
use Rattle.std.proofs.lemmas.Bool.{and_from, and_parts, cases_Bool, not-true, or_cases}
use Rattle.api_listing.specs.declared.events.Event.{Event}
use Rattle.bytecode_model.specs.declared.program.Program.{Program}
use Rattle.block_logic.specs.Annotations.{Annotations, is_always}
use Rattle.cert_format.specs.declared.note.Note.{Note}
use Rattle.cert_format.specs.declared.note.Note.TheVariants as notes
use Rattle.cert_format.specs.declared.note.Phase8.{Phase8}
use Rattle.cert_format.specs.declared.note.Phase8.TheVariants.{Before, After, Exceptional}
use Rattle.cert_format.specs.declared.note.Site.{Site}
use Rattle.cert_format.specs.declared.note.Term.{Term}
use Rattle.conspec_tree.specs.declared.types.Kind.{Kind}
use Rattle.conspec_automaton.specs.declared.policy.Branch.{Branch}
use Rattle.conspec_automaton.specs.declared.policy.Clause.{Clause}
use Rattle.conspec_automaton.specs.declared.policy.Policy.{Policy}
use Rattle.conspec_automaton.specs.Next.{Values, moment, next, updated}
use Rattle.conspec_automaton.specs.Range.{in_range}
use Rattle.conspec_automaton.specs.Sight.{sight_of}
use Rattle.conspec_automaton.proofs.Ranges.{found_is}
use Rattle.guest_heap.specs.declared.frame.Frame.{Frame}
use Rattle.guest_heap.specs.declared.value.Value.{Value}
use Rattle.block_logic.specs.Clauses.{clause_at, clause_of, is_of_phase, result_kind}
use Rattle.block_logic.specs.Agreement.{Clear, Granted, Owed, Part, Settles}
use Rattle.block_logic.specs.Formed.{FitsRuns}
use Rattle.block_logic.specs.Meaning.{AreClean, AreState, AreTerms, HasResult, HasResultIn, IsAbove, IsChecked, IsDue, IsEventOf, IsGranted, IsOwed, IsPending, IsRefused, IsTried, Means, MeansHeld, MeansOwed, MeansStop, TellsArguments, TellsIn, TellsResult}
use Rattle.block_logic.specs.Obeying.{FitsListing, IsObeying}
use Rattle.block_logic.specs.Weakening.{asks_kept, branches_of, done, fails, in_phase, is_after, is_before, is_done, is_empty, may_begin, may_stand, same_note, same_phase, same_site, stands_for_held}
use Rattle.block_logic.specs.Terms.{after_updates, as_taken, same_terms}
use Rattle.block_logic.proofs.Owner.Events.{is_end, stays_ranged, taken_by}
use Rattle.block_logic.proofs.Owner.Terms.{same_terms_are}
use Rattle.block_logic.proofs.Owner.Variables.{as_taken_are, branch_well, done_are, map_some_is}

-- ---- the same note

same_phase_is : (p q : Phase8) → same_phase p q ≡ true → p ≡ q
same_phase_is Before Before e = refl
same_phase_is After After e = refl
same_phase_is Exceptional Exceptional e = refl
same_phase_is p q e = absurd cc

same_site_is : (s t : Site) → same_site s t ≡ true → s ≡ t
same_site_is s t e =
    let p = and_parts (s.method == t.method) (same_phase s.phase t.phase && (s.base == t.base)) e in
    let q = and_parts (same_phase s.phase t.phase) (s.base == t.base) p.1 in
    let methods : s.method ≡ t.method = eqb-true s.method t.method p.0 in
    let phases : s.phase ≡ t.phase = same_phase_is s.phase t.phase q.0 in
    let bases : s.base ≡ t.base = eqb-true s.base t.base q.1 in
    rw (methods, phases, bases) refl

pub beq_is : (a b : Bool) → beq a b ≡ true → a ≡ b
beq_is true true e = refl
beq_is false false e = refl
beq_is a b e = absurd cc

pub same_note_is : (n m : Note) → same_note n m ≡ true → n ≡ m
same_note_is notes.Free notes.Free e = refl
same_note_is (notes.Taking s) (notes.Taking t) e = ap notes.Taking (same_site_is s t e)
same_note_is (notes.Held s failed holding list map) (notes.Held t failing holds others fields) e =
    let p = and_parts (same_site s t) _ e in
    let q = and_parts (failed == failing) _ p.1 in
    let r = and_parts (holding == holds) _ q.1 in
    let u = and_parts (same_terms list others) _ r.1 in
    let sites : s ≡ t = same_site_is s t p.0 in
    let fail : failed ≡ failing = eqb-true failed failing q.0 in
    let hold : holding ≡ holds = eqb-true holding holds r.0 in
    let lists : list ≡ others = same_terms_are list others u.0 in
    let maps : map ≡ fields = same_terms_are map fields u.1 in
    rw (sites, fail, hold, lists, maps) refl
same_note_is (notes.Granted s locked loaded top) (notes.Granted t holds pushed on) e =
    let p = and_parts (same_site s t) _ e in
    let q = and_parts (beq locked holds) _ p.1 in
    let r = and_parts (loaded == pushed) _ q.1 in
    let sites : s ≡ t = same_site_is s t p.0 in
    let locks : locked ≡ holds = beq_is locked holds q.0 in
    let counts : loaded ≡ pushed = eqb-true loaded pushed r.0 in
    let tops : top ≡ on = beq_is top on r.1 in
    rw (sites, locks, counts, tops) refl
same_note_is (notes.Owed s stage kept top) (notes.Owed t due keeps on) e =
    let p = and_parts (same_site s t) _ e in
    let q = and_parts (stage == due) _ p.1 in
    let r = and_parts (beq kept keeps) _ q.1 in
    let sites : s ≡ t = same_site_is s t p.0 in
    let stages : stage ≡ due = eqb-true stage due q.0 in
    let results : kept ≡ keeps = beq_is kept keeps r.0 in
    let tops : top ≡ on = beq_is top on r.1 in
    rw (sites, stages, results, tops) refl
same_note_is (notes.Stop s place) (notes.Stop t at) e =
    let p = and_parts (same_site s t) _ e in
    let sites : s ≡ t = same_site_is s t p.0 in
    let places : place ≡ at = eqb-true place at p.1 in
    rw (sites, places) refl
same_note_is n m e = absurd cc

-- ---- what tests tell

pub before_is : (phase : Phase8) → is_before phase ≡ true → phase ≡ Before
before_is Before e = refl
before_is phase e = absurd cc

empty_is : {X : Type 0} (xs : List X) → is_empty xs ≡ true → xs ≡ []
empty_is [] e = refl
empty_is (x ∷ xs) e = absurd cc

pub some_there : {X : Type 0} (o : Option X) → is_some o ≡ true → (x : X) × (o ≡ Some x)
some_there None e = absurd cc
some_there (Some x) e = (x, refl)

pub none_there : {X : Type 0} (o : Option X) → is_some o ≡ false → o ≡ None
none_there None e = refl
none_there (Some x) e = absurd cc

pub slice_get_there : {X : Type 0} (xs : List X) (i : ℕ) → i < length xs → (x : X) × (slice_get xs i ≡ Some x)
slice_get_there [] i inside = absurd (omega arith)
slice_get_there (x ∷ xs) zero inside = (x, refl)
slice_get_there (x ∷ xs) (suc i) inside = slice_get_there xs i (omega arith)

-- where one is found by a test, one is found by a weaker one
found_too : {X : Type 0} (p q : X → Bool) (xs : List X) (x : X) → ((y : X) → p y ≡ true → q y ≡ true) → find p xs ≡ Some x → (y : X) × (find q xs ≡ Some y)
found_too p q [] x weaker there = absurd cc
found_too p q (y ∷ xs) x weaker there = by (q y) refl (p y) refl (found_too p q xs x weaker) where
  by : (b : Bool) → q y ≡ b → (c : Bool) → p y ≡ c → (find p xs ≡ Some x → (z : _) × (find q xs ≡ Some z)) → (z : _) × (find q (y ∷ xs) ≡ Some z)
  by true is c also later = (y, rw is refl)
  by false is true also later = let so : q y ≡ true = weaker y also in absurd cc
  by false is false also later =
      let others : find p xs ≡ Some x = rw also at there in
      let l = later others in
      (l.0, rw is l.1)

-- ---- a check that is done

-- The branch of which all atoms hold.
pub record IsDoneBy (policy : Policy) (clause : Clause) (failed holding : ℕ) (map : List Term) : Type 0 where
  pub branch : Branch
  pub there : slice_get clause.branches failed ≡ Some branch
  pub all : holding ≡ length branch.atoms
  pub written : map ≡ after_updates policy branch.updates

done_by : (policy : Policy) (site : Site) (clause : Clause) (failed holding : ℕ) (map : List Term) → clause_of policy site ≡ Some clause
    → is_done policy site failed holding map ≡ true → IsDoneBy policy clause failed holding map
done_by policy site clause failed holding map there e =
    let branches : branches_of policy site ≡ clause.branches = rw there refl in
    by (slice_get clause.branches failed) refl (rw branches at e) where
      by : (o : Option Branch) → slice_get clause.branches failed ≡ o
          → option_map_or (λ (b : Branch). (holding == length b.atoms) && same_terms map (after_updates policy b.updates)) o false ≡ true
          → IsDoneBy policy clause failed holding map
      by None is e = absurd cc
      by (Some b) is e =
          let p = and_parts (holding == length b.atoms) (same_terms map (after_updates policy b.updates)) e in
          record { branch = b; there = is; all = eqb-true holding (length b.atoms) p.0; written = same_terms_are map (after_updates policy b.updates) p.1 }

module _ (program : Program) (policy : Policy) (annotations : Annotations) (o : IsObeying program policy annotations) where
  -- What may stand for what was given: the state that is recorded then, and the part of the thread.
  pub record Stood (mine : Bool) (recorded : Values) (fields : List Value) (frame : Frame) (part : Part) (note : Note) : Type 0 where
    pub now : Values
    pub ranged : in_range policy now ≡ true
    pub due : Part
    pub settles : Settles policy recorded part now due
    pub still : mine ≡ false → (now ≡ recorded) × (due ≡ part)
    pub means : Means program policy annotations.held mine now fields frame note due

  module _ (recorded : Values) (fields : List Value) (frame : Frame) (part : Part) (ranged : in_range policy recorded ≡ true) where
    -- as it was
    as_given : (mine : Bool) (note : Note) → Means program policy annotations.held mine recorded fields frame note part → Stood mine recorded fields frame part note
    as_given mine note means = record { now = recorded; ranged = ranged; due = part; settles = by part; still = λ other. (refl, refl); means = means } where
      by : (p : Part) → Settles policy recorded p recorded p
      by Clear = refl
      by (Granted call) = (refl, refl)
      by (Owed end) = (refl, refl)

    -- The event of a check is accepted, and the variables are the state that it leads to.
    pub record IsPassed (event : Event) : Type 0 where
      pub end : Values
      pub taken : next policy recorded event ≡ Some end
      pub stays : in_range policy end ≡ true
      pub variables : AreState fields end

    pub passed : (site : Site) (failed holding : ℕ) (list map : List Term) (h : MeansHeld program policy annotations.held recorded fields frame site failed holding list map part)
        → is_done policy site failed holding map ≡ true → IsPassed h.event
    passed site failed holding list map h e =
        let d = done_by policy site h.clause failed holding map h.there e in
        let tried : IsTried recorded h.event h.clause.branches failed (length d.branch.atoms) = subst (IsTried recorded h.event h.clause.branches failed) d.all h.tried in
        let taken = taken_by policy site h.clause h.there h.event h.of recorded failed d.branch d.there tried in
        let end = updated (moment recorded h.event) d.branch.updates in
        let written : AreTerms program recorded h.event (after_updates policy d.branch.updates) fields =
        subst (λ (m : List Term). AreTerms program recorded h.event m fields) d.written h.variables in
        record {
          end = end;
          taken = taken;
          stays = stays_ranged policy recorded end h.event o.good ranged taken;
          variables =
              done_are program policy o.good h.event recorded ranged h.clause d.branch (branch_well policy o.good site h.clause failed d.branch h.there d.there) fields written;
        }

    -- a check for a return that is done: the return is recorded
    pub passed_settles : (phase : Phase8) (end : Values) (event : Event) → is_before phase ≡ false → IsDue phase event part → next policy recorded event ≡ Some end
        → Settles policy recorded part end Clear
    passed_settles Before end event not due taken = absurd cc
    passed_settles After end event not due taken = rw due taken
    passed_settles Exceptional end event not due taken = rw due taken

    -- a check for a call that is done: the call is granted
    pub granted_by : (site : Site) (failed holding : ℕ) (list map : List Term) (h : MeansHeld program policy annotations.held recorded fields frame site failed holding list map part)
        → (p : IsPassed h.event) → site.phase ≡ Before
        → Settles policy recorded part p.end (Granted h.event) × IsGranted program policy annotations.held site (clause_at policy site.method Before) (Granted h.event) frame.locals
    granted_by site failed holding list map h p is =
        let due : part ≡ Clear = subst (λ (x : Phase8). IsDue x h.event part) is h.due in
        let told : TellsArguments (is_always annotations.held) site.base h.clause.args frame.locals h.event = subst (λ (x : Phase8). TellsIn (is_always annotations.held) h.clause x site.base frame.locals h.event) is h.told in
        let there : clause_at policy site.method Before ≡ Some h.clause = subst (λ (x : Phase8). clause_at policy site.method x ≡ Some h.clause) is h.there in
        let of : IsEventOf (in_phase Before site) h.event =
        record { method = h.of.method; phase = subst (λ (x : Phase8). is_of_phase x (sight_of h.event).phase ≡ true) is h.of.phase } in
        let checked : IsChecked program policy annotations.held site h.clause (Granted h.event) frame.locals =
        record { event = h.event; is = refl; of = of; formed = h.formed; told = told } in
        let settles : Settles policy recorded part p.end (Granted h.event) = rw due p.taken in
        (settles, subst (λ (c : Option Clause). IsGranted program policy annotations.held site c (Granted h.event) frame.locals) (sym there) checked)

    granted_stands : (site : Site) (failed holding : ℕ) (map : List Term) (h : MeansHeld program policy annotations.held recorded fields frame site failed holding [] map part)
        → IsPassed h.event → site.phase ≡ Before → Stood true recorded fields frame part (notes.Granted site true 0 false)
    granted_stands site failed holding map h p is =
        let g = granted_by site failed holding [] map h p is in
        let none : h.tops ≡ [] = map_some_is h.tops [] (sym h.pushed) in
        record {
          now = p.end;
          ranged = p.stays;
          due = Granted h.event;
          settles = g.0;
          still = λ other. absurd cc;
          means = record {
            holds = refl;
            round = tt;
            granted = g.1;
            variables = p.variables;
            few = omega arith;
            loaded = [];
            are = refl;
            above = subst (λ (tops : List Value). IsAbove program tops frame.stack.items) none h.above;
          };
        }

    owed_settles : (site : Site) (failed holding : ℕ) (map : List Term) (kept : Bool) (h : MeansHeld program policy annotations.held recorded fields frame site failed holding [] map part)
        → IsPassed h.event → is_before site.phase ≡ false → Stood true recorded fields frame part (notes.Owed site 2 kept false)
    owed_settles site failed holding map kept h p not =
        let none : h.tops ≡ [] = map_some_is h.tops [] (sym h.pushed) in
        record {
          now = p.end;
          ranged = p.stays;
          due = Clear;
          settles = passed_settles site.phase p.end h.event not h.due p.taken;
          still = λ other. absurd cc;
          means = record {
            following = not;
            round = tt;
            variables = p.variables;
            above = subst (λ (tops : List Value). IsAbove program tops frame.stack.items) none h.above;
            owed = refl;
          };
        }

    done_stands : (site : Site) (failed holding : ℕ) (map : List Term) (h : MeansHeld program policy annotations.held recorded fields frame site failed holding [] map part)
        → IsPassed h.event → Stood true recorded fields frame part (done policy site)
    done_stands site failed holding map h p = elim (cases_Bool (is_before site.phase)) [
      | inl before ↦
          let is : done policy site ≡ notes.Granted site true 0 false = rw before refl in
          rw is (granted_stands site failed holding map h p (before_is site.phase before))
      | inr following ↦
          let is : done policy site ≡ notes.Owed site 2 (asks_kept policy site) false = rw following refl in
          rw is (owed_settles site failed holding map (asks_kept policy site) h p following)
    ]

    -- the way out
    due_refused : (site : Site) (phase : Phase8) (event : Event) → site.phase ≡ phase → IsEventOf site event → FitsRuns program policy annotations.held event → IsDue phase event part
        → IsRefused program policy annotations.held part
    due_refused site Before event is of formed due = rw due tt
    due_refused site After event is of formed due = rw due (record { ends = is_end site event of (ap is_before is); formed = formed })
    due_refused site Exceptional event is of formed due = rw due (record { ends = is_end site event of (ap is_before is); formed = formed })

    stop_means : (site : Site) (failed holding : ℕ) (list map : List Term) → MeansHeld program policy annotations.held recorded fields frame site failed holding list map part
        → MeansStop program policy annotations.held frame 0 part
    stop_means site failed holding list map h = record { refused = due_refused site site.phase h.event refl h.of h.formed h.due; stopping = tt }

    -- What may stand for the note of a check means what is so.
    pub held_stands : (site : Site) (failed holding : ℕ) (list map : List Term) (note : Note) → MeansHeld program policy annotations.held recorded fields frame site failed holding list map part
        → stands_for_held policy site failed holding list map note ≡ true → Stood true recorded fields frame part note
    held_stands site failed holding list map note h e = elim (or_cases (same_note (notes.Held site failed holding list map) note) _ e) [
      | inl same ↦ subst (Stood true recorded fields frame part) (same_note_is (notes.Held site failed holding list map) note same) (as_given true (notes.Held site failed holding list map) (refl, h))
      | inr other ↦ elim (or_cases ((is_done policy site failed holding map && is_empty list) && same_note (done policy site) note) _ other) [
        | inl is ↦
            let p = and_parts (is_done policy site failed holding map && is_empty list) _ is in
            let q = and_parts (is_done policy site failed holding map) (is_empty list) p.0 in
            let none : list ≡ [] = empty_is list q.1 in
            let h' : MeansHeld program policy annotations.held recorded fields frame site failed holding [] map part =
            subst (λ (l : List Term). MeansHeld program policy annotations.held recorded fields frame site failed holding l map part) none h in
            subst (Stood true recorded fields frame part) (same_note_is (done policy site) note p.1)
            (done_stands site failed holding map h' (passed site failed holding [] map h' q.0))
        | inr is ↦
            let p = and_parts (fails policy site failed) _ is in
            subst (Stood true recorded fields frame part) (same_note_is (notes.Stop site 0) note p.1)
            (as_given true (notes.Stop site 0) (refl, stop_means site failed holding list map h))
      ]
    ]

  -- ---- a check that begins

  -- the clauses of a method tell the same of its result
  results_agree : (c d : Clause) → FitsListing program.listing c → FitsListing program.listing d → c.method < length program.listing.methods
      → d.method ≡ c.method → is_some c.result ≡ is_some d.result
  results_agree c d fits also few same =
      let m = slice_get_there program.listing.methods c.method few in
      let other : slice_get program.listing.methods d.method ≡ Some m.0 = ap (slice_get program.listing.methods) same ∙ m.1 in
      (fits m.0 m.1).1 ∙ sym (also m.0 other).1

  -- where a clause tells of a result, the policy tells that the method gives one
  result_told : (site : Site) (clause : Clause) → clause_of policy site ≡ Some clause → is_some clause.result ≡ true → is_some (result_kind policy site.method) ≡ true
  result_told site clause there has =
      let fits = found_is (FitsListing program.listing) _ policy.clauses clause o.listed there in
      let named = found_is (λ (c : Clause). c.method < length program.listing.methods) _ policy.clauses clause o.named there in
      let at = and_parts (clause.method == site.method) _ fits.passes in
      let first = found_too _ (λ (c : Clause). c.method == site.method) policy.clauses clause (λ c e. (and_parts (c.method == site.method) _ e).0) there in
      let same = found_is (FitsListing program.listing) (λ (c : Clause). c.method == site.method) policy.clauses first.0 o.listed first.1 in
      let methods : first.0.method ≡ clause.method = eqb-true first.0.method site.method same.passes ∙ sym (eqb-true clause.method site.method at.0) in
      let agree : is_some clause.result ≡ is_some first.0.result = results_agree clause first.0 fits.so same.so named.so methods in
      ap (λ (c : Option Clause). is_some (option_and_then (λ (d : Clause). d.result) c)) first.1 ∙ sym agree ∙ has

  module _ (recorded : Values) (fields : List Value) (frame : Frame) (part : Part) where
    kept_result : (site : Site) (clause : Clause) (result : Option Kind) (kept : Bool) (rest : List Value) (event : Event) → (is_some result ≡ true → kept ≡ true)
        → HasResult result kept site.base frame.locals rest event → TellsResult site.base result frame.locals event
    kept_result site clause None kept rest event keeps has = tt
    kept_result site clause (Some kind) true rest event keeps has = has
    kept_result site clause (Some kind) false rest event keeps has = let none : false ≡ true = keeps refl in absurd cc

    tells_kept : (site : Site) (clause : Clause) (phase : Phase8) (kept : Bool) (rest : List Value) (event : Event) → clause_of policy site ≡ Some clause
        → site.phase ≡ phase → is_before phase ≡ false → kept ≡ asks_kept policy site → HasResultIn clause phase kept site.base frame.locals rest event
        → TellsIn (is_always annotations.held) clause phase site.base frame.locals event
    tells_kept site clause Before kept rest event there is following asks has = absurd cc
    tells_kept site clause After kept rest event there is following asks has =
        let after : is_after site.phase ≡ true = ap is_after is in
        let keeps : is_some clause.result ≡ true → kept ≡ true = λ some. asks ∙ and_from (is_after site.phase) _ after (result_told site clause there some) in
        kept_result site clause clause.result kept rest event keeps has
    tells_kept site clause Exceptional kept rest event there is following asks has = tt

    is_due_after : (phase : Phase8) (event : Event) → is_before phase ≡ false → part ≡ Owed event → IsDue phase event part
    is_due_after Before event following is = absurd cc
    is_due_after After event following is = is
    is_due_after Exceptional event following is = is

    -- a check that has just begun
    pub begun_means : (site : Site) (clause : Clause) (event : Event) → clause_of policy site ≡ Some clause → in_range policy recorded ≡ true
        → AreState fields recorded → IsEventOf site event → FitsRuns program policy annotations.held event → IsDue site.phase event part
        → TellsIn (is_always annotations.held) clause site.phase site.base frame.locals event
        → AreClean program frame.stack.items → MeansHeld program policy annotations.held recorded fields frame site 0 0 [] (as_taken policy) part
    begun_means site clause event there ranged are of formed due told clean = record {
      clause = clause;
      there = there;
      event = event;
      of = of;
      formed = formed;
      due = due;
      told = told;
      tried = record { few = omega arith; fail = λ j b less is. absurd (omega arith); hold = λ b is. (omega arith, λ j atom less is. absurd (omega arith)) };
      variables = as_taken_are program policy o.good event recorded ranged fields are;
      tops = [];
      pushed = refl;
      above = record { rest = frame.stack.items; is = refl; clean = clean };
    }

    module _ (ranged : in_range policy recorded ≡ true) where
      pub begins_after : (site : Site) (kept : Bool) (clause : Clause) → clause_of policy site ≡ Some clause → kept ≡ asks_kept policy site → is_before site.phase ≡ false
          → (rest : List Value) → IsPending program policy annotations.held site clause part kept frame.locals rest → AreState fields recorded → AreClean program frame.stack.items
          → MeansHeld program policy annotations.held recorded fields frame site 0 0 [] (as_taken policy) part
      begins_after site kept clause there asks following rest p are clean =
          begun_means site clause p.event there ranged are p.of p.formed (is_due_after site.phase p.event following p.is)
          (tells_kept site clause site.phase kept rest p.event there refl following asks p.told) clean

      owed_begins : (site : Site) (kept : Bool) (clause : Clause) → clause_of policy site ≡ Some clause → kept ≡ asks_kept policy site
          → MeansOwed program policy annotations.held true recorded fields frame site 1 kept false part
          → MeansHeld program policy annotations.held recorded fields frame site 0 0 [] (as_taken policy) part
      owed_begins site kept clause there asks m =
          let p : IsPending program policy annotations.held site clause part kept frame.locals m.above.rest =
          subst (λ (c : Option Clause). IsOwed program policy annotations.held true site 1 c part kept frame.locals m.above.rest) there m.owed in
          begins_after site kept clause there asks m.following m.above.rest p m.variables (subst (AreClean program) (sym m.above.is) m.above.clean)

      owed_stands : (mine : Bool) (site : Site) (stage : ℕ) (kept top : Bool) (note : Note)
          → MeansOwed program policy annotations.held mine recorded fields frame site stage kept top part
          → (may_begin policy site stage kept top && stands_for_held policy site 0 0 [] (as_taken policy) note) ≡ true
          → Stood mine recorded fields frame part note
      owed_stands mine site stage kept top note m e =
          let p = and_parts (may_begin policy site stage kept top) _ e in
          let q = and_parts (stage == 1) _ p.0 in
          let r = and_parts (not top) _ q.1 in
          let u = and_parts (is_some (clause_of policy site)) _ r.1 in
          let one : stage ≡ 1 = eqb-true stage 1 q.0 in
          let bare : top ≡ false = not-true top r.0 in
          let m' : MeansOwed program policy annotations.held mine recorded fields frame site 1 kept false part =
          subst (λ (t : Bool). MeansOwed program policy annotations.held mine recorded fields frame site 1 kept t part) bare
          (subst (λ (n : ℕ). MeansOwed program policy annotations.held mine recorded fields frame site n kept top part) one m) in
          by mine m' where
            by : (b : Bool) → MeansOwed program policy annotations.held b recorded fields frame site 1 kept false part → Stood b recorded fields frame part note
            by true n =
                let p = and_parts (may_begin policy site stage kept top) _ e in
                let q = and_parts (stage == 1) _ p.0 in
                let r = and_parts (not top) _ q.1 in
                let u = and_parts (is_some (clause_of policy site)) _ r.1 in
                let clause = some_there (clause_of policy site) u.0 in
                held_stands recorded fields frame part ranged site 0 0 [] (as_taken policy) note (owed_begins site kept clause.0 clause.1 (beq_is kept _ u.1) n) p.1
            by false n = absurd n.owed

      -- ---- any note

      -- What may stand for the note of a block means what is so.
      pub stands : (mine : Bool) (given note : Note) → Means program policy annotations.held mine recorded fields frame given part → may_stand policy given note ≡ true
          → Stood mine recorded fields frame part note
      stands mine notes.Free note m e = absurd m
      stands mine (notes.Taking site) note m e = absurd m
      stands mine (notes.Held site failed holding list map) note m e =
          subst (λ (b : Bool). Stood b recorded fields frame part note) (sym m.0) (held_stands recorded fields frame part ranged site failed holding list map note m.1 e)
      stands mine (notes.Granted site locked loaded top) note m e =
          subst (Stood mine recorded fields frame part) (same_note_is (notes.Granted site locked loaded top) note e)
          (as_given recorded fields frame part ranged mine (notes.Granted site locked loaded top) m)
      stands mine (notes.Owed site stage kept top) note m e = elim (or_cases (same_note (notes.Owed site stage kept top) note) _ e) [
        | inl same ↦
            subst (Stood mine recorded fields frame part) (same_note_is (notes.Owed site stage kept top) note same)
            (as_given recorded fields frame part ranged mine (notes.Owed site stage kept top) m)
        | inr begins ↦ owed_stands mine site stage kept top note m begins
      ]
      stands mine (notes.Stop site place) note m e =
          subst (Stood mine recorded fields frame part) (same_note_is (notes.Stop site place) note e) (as_given recorded fields frame part ranged mine (notes.Stop site place) m)

-- Steps of a check: terms are pushed, added and compared, variables are written, and the lock is left once the check is done.
use Rattle.std.proofs.Common.{◌≡◌, ℕ, ◌+◌, Bool, true, false, cond, List, [], ◌∷◌, ◌++◌, drop, reverse, Option, Some, None, refl, sym, ap, ◌∙◌, subst, arith, inl, inr}
use Rattle.std.specs.Prelude.{not, option_and_then, slice_get, slice_set}
use Rattle.std.specs.Option.{option_map_or}
use Rattle.std.specs.Int.{w32, int_wrapping_add}
use Rattle.std.proofs.lemmas.Bool.{and_parts, cases_Bool}
use Rattle.std.proofs.lemmas.Option.{slice_get_within}
use Rattle.insn_codec.specs.declared.insn.Insn.{Insn}
use Rattle.insn_codec.specs.declared.shape.Heap.TheVariants as heap
use Rattle.insn_codec.specs.declared.shape.Relation.{Relation}
use Rattle.insn_codec.specs.declared.shape.Shape.{Shape}
use Rattle.insn_codec.specs.declared.shape.Shape.TheVariants as shapes
use Rattle.insn_codec.specs.declared.shape.Two.TheVariants as two
use Rattle.insn_codec.specs.Control.{goes_to, next_of, relates as compares}
use Rattle.insn_codec.specs.Shapes.{shape_of}
use Rattle.insn_codec.specs.Table.{ends}
use Rattle.bytecode_model.specs.declared.program.Program.{Program}
use Rattle.bytecode_model.specs.declared.program.Target.{Target}
use Rattle.block_logic.specs.Annotations.{Annotations, holds_round, is_always}
use Rattle.cert_format.specs.declared.note.Note.TheVariants as notes
use Rattle.cert_format.specs.declared.note.Phase8.TheVariants.{Before}
use Rattle.cert_format.specs.declared.note.Site.{Site}
use Rattle.cert_format.specs.declared.note.Term.{Term}
use Rattle.cert_format.specs.declared.note.Term.TheVariants as terms
use Rattle.conspec_tree.specs.declared.types.Atom.{Atom}
use Rattle.conspec_tree.specs.declared.types.Rel.{Rel}
use Rattle.conspec_automaton.specs.declared.policy.Branch.{Branch}
use Rattle.conspec_automaton.specs.declared.policy.Clause.{Clause}
use Rattle.conspec_automaton.specs.declared.policy.Policy.{Policy}
use Rattle.conspec_automaton.specs.Next.{Values, holds, moment, relates}
use Rattle.conspec_automaton.specs.Range.{in_range}
use Rattle.guest_heap.specs.declared.value.Value.{Value}
use Rattle.guest_heap.specs.declared.value.Value.TheVariants as values
use Rattle.guest_frames.specs.Stepping.{moved_to}
use Rattle.guest_frames.specs.Values.{number_of, values_seen}
use Rattle.guest_model.specs.declared.machine.Machine.{Machine}
use Rattle.guest_model.specs.Changes.{Change, with_statics, world_of}
use Rattle.guest_model.specs.Stepping.{Acting}
use Rattle.guest_model.proofs.Options.{and_then_of, some_is}
use Rattle.block_logic.specs.Accepted.{rules_of}
use Rattle.block_logic.specs.Agreement.{Granted, Part}
use Rattle.block_logic.specs.Fitting.{IsCleanWorld}
use Rattle.block_logic.specs.Meaning.{AreClean, AreTerms, IsAbove, IsTried, MeansHeld, lock_of, term_value}
use Rattle.block_logic.specs.Obeying.{IsObeying}
use Rattle.block_logic.specs.Operands.{adds, compared, goes, leaves, variable_named, writes_static}
use Rattle.block_logic.specs.Rows.{Check, Given, all_hold, Open, Row, Rules, asks_atom, check_row, failing, gives, holding_on, is_negation, is_relation, last_but_one, last_term, leads, leaves_done, left, next_atom, only_if, sum_of, sum_on_top, term_pushed, tested, tests, with_terms, without, writes}
use Rattle.block_logic.specs.Weakening.{branches_of, is_before, is_done}
use Rattle.block_logic.specs.Terms.{base_term}
use Rattle.block_logic.proofs.Owner.Acting.{ActsIn, OwnLoose, gives_over, gives_up, goes_with, goes_with_after, leads_after}
use Rattle.block_logic.proofs.Owner.Going.{block_frame, compares_there, goes_in, goes_there}
use Rattle.block_logic.proofs.Owner.Moves.{Goes, adds as adds_up, compared_to, compares as compares_tops, jumps, writes_variable}
use Rattle.block_logic.proofs.Owner.Pushes.{term_is_pushed, variable_is_named}
use Rattle.block_logic.proofs.Owner.Rows.{Asks, gives_asks, leads_asks, leaves_is, one_row, where_so}
use Rattle.block_logic.proofs.Owner.Weakening.{IsPassed, before_is, granted_by, passed, passed_settles}
use Rattle.block_logic.proofs.Owner.Terms.{last_is, last_two_are, one_above, one_more, same_terms_are, term_set, top_of}
use Rattle.block_logic.proofs.Owner.Tests.{AsksAtom, atom_asked, compared_holds, one_more_fails, one_more_holds, relates_not, relates_same, sum_is}
use Rattle.block_logic.proofs.Owner.Unlocked.{never_unlocked}
use Rattle.block_logic.proofs.Owner.Variables.{map_some_is, set_elsewhere, set_there}
use Rattle.block_logic.proofs.Ruled.{LeadsTo, OpensFree, RulesHold}
use Rattle.block_logic.proofs.Steps.{ChangesBlock}

-- ---- shapes

adds_is : (shape : Shape) → adds shape ≡ true → shape ≡ shapes.Two two.Add
adds_is (shapes.Two two.Add) e = refl
adds_is shape e = absurd cc

goes_is : (shape : Shape) → goes shape ≡ true → (to : ℕ) × (shape ≡ shapes.Goto to)
goes_is (shapes.Goto to) e = (to, refl)
goes_is shape e = absurd cc

compared_is : (shape : Shape) (relation : Relation) → compared shape ≡ Some relation → (to : ℕ) × (shape ≡ shapes.Compare relation to)
compared_is (shapes.Compare r to) relation e = let same : r ≡ relation = cc in (to, ap (λ (x : Relation). shapes.Compare x to) same)
compared_is shape relation e = absurd cc

writes_is : (shape : Shape) → writes_static shape ≡ true → shape ≡ shapes.Heap heap.WriteStatic
writes_is (shapes.Heap heap.WriteStatic) e = refl
writes_is shape e = absurd cc

-- ---- the row of a test

first_tested : (c : Check) (rel : Rel) (relation : Relation) (r : Row) → is_relation rel relation ≡ true → tested c rel relation ≡ Some r
    → r ≡ record { past = Given (failing c); jump = Given (holding_on c); thrown = Open }
first_tested c rel relation r same e =
    let row : Some (record { past = Given (failing c); jump = Given (holding_on c); thrown = Open }) ≡ Some r = rw same at e in
    sym (some_is _ r row)

other_tested : (c : Check) (rel : Rel) (relation : Relation) (r : Row) → is_relation rel relation ≡ false → tested c rel relation ≡ Some r
    → (is_negation rel relation ≡ true) × (r ≡ record { past = Given (holding_on c); jump = Given (failing c); thrown = Open })
other_tested c rel relation r other e =
    let row : only_if (is_negation rel relation) (Some (record { past = Given (holding_on c); jump = Given (failing c); thrown = Open })) ≡ Some r = rw other at e in
    let w = where_so _ _ r row in
    (w.0, sym (some_is _ r w.1))

-- ---- a check in a frame

module _ (program : Program) (policy : Policy) (annotations : Annotations) (o : IsObeying program policy annotations) (opens : OpensFree program policy annotations)
    (machine : Machine) (a : Acting) (next : Insn × Target) (change : Change) (fields : List Value) (recorded : Values) (part : Part) (ranged : in_range policy recorded ≡ true)
    (site : Site) (failed holding : ℕ) (list map : List Term)
    (h : ActsIn program policy annotations true machine a next change (notes.Held site failed holding list map) fields)
    (m : MeansHeld program policy annotations.held recorded fields a.frame site failed holding list map part) where
  not_other : OwnLoose program policy annotations true part
  not_other other = absurd cc

  abbrev rules : Rules
  rules = rules_of program policy annotations

  abbrev check : Check
  check = record { site = site; clause = m.clause; failed = failed; holding = holding; terms = list; map = map }

  abbrev Changes : Type 0
  Changes = ChangesBlock program policy annotations true (world_of machine) a.number recorded part change

  abbrev r : Row
  r = h.ruled.r

  has_row : check_row rules check (shape_of next.0) next.1 ≡ Some r
  has_row =
      let rows = λ (clause : Clause). check_row rules (record { site = site; clause = clause; failed = failed; holding = holding; terms = list; map = map }) (shape_of next.0) next.1 in
      let some : option_and_then rows (Some m.clause) ≡ Some r = subst (λ (c : Option Clause). option_and_then rows c ≡ Some r) m.there h.ruled.has in
      some

  -- the same check, gone on
  means_on : (to : ℕ) (items : List Value) (fail hold : ℕ) (terms others : List Term) (now tops : List Value) → IsTried recorded m.event m.clause.branches fail hold
      → AreTerms program recorded m.event others now → AreTerms program recorded m.event (reverse terms) tops → IsAbove program tops items
      → MeansHeld program policy annotations.held recorded now (moved_to a.frame to a.frame.locals items) site fail hold terms others part
  means_on to items fail hold terms others now tops tried variables pushed above = record {
    clause = m.clause;
    there = m.there;
    event = m.event;
    of = m.of;
    formed = m.formed;
    due = m.due;
    told = m.told;
    tried = tried;
    variables = variables;
    tops = tops;
    pushed = pushed;
    above = above;
  }

  -- ---- a term is pushed

  pushes : (t : Term) → term_pushed rules site m.clause map (shape_of next.0) next.1 ≡ Some t → Asks r (Given (notes.Held site failed holding (list ++ t ∷ []) map)) → Changes
  pushes t pushed asks =
      let p = term_is_pushed program policy annotations machine a change next h.step site m.clause map recorded m.event (is_always annotations.held) m.told fields m.variables h.there t pushed in
      let items = p.value ∷ a.frame.stack.items in
      let terms : AreTerms program recorded m.event (reverse (list ++ t ∷ [])) (p.value ∷ m.tops) =
      subst (λ (ts : List Term). AreTerms program recorded m.event ts (p.value ∷ m.tops)) (sym (one_more list t))
      (one_above program recorded m.event t p.value (reverse list) m.tops p.stands m.pushed) in
      let above : IsAbove program (p.value ∷ m.tops) items = record { rest = m.above.rest; is = ap (λ (vs : List Value). p.value ∷ vs) m.above.is; clean = m.above.clean } in
      goes_with_after program policy annotations o true machine a next change _ fields h recorded part ranged not_other items (notes.Held site failed holding (list ++ t ∷ []) map) p.stays asks p.goes
      (refl, means_on (a.frame.at + 1) items failed holding (list ++ t ∷ []) map fields (p.value ∷ m.tops) m.tried m.variables terms above)

  -- ---- the two topmost terms

  record TwoTops (x y : Term) : Type 0 where
    pub lower : Value
    pub upper : Value
    pub below : List Value
    pub is : a.frame.stack.items ≡ upper ∷ lower ∷ (below ++ m.above.rest)
    pub lower_stands : term_value program recorded m.event x ≡ Some lower
    pub upper_stands : term_value program recorded m.event y ≡ Some upper
    pub others : AreTerms program recorded m.event (reverse (without 2 list)) below

  two_tops : (x y : Term) → last_but_one list ≡ Some x → last_term list ≡ Some y → TwoTops x y
  two_tops x y first second =
      let pushed : AreTerms program recorded m.event (y ∷ x ∷ reverse (without 2 list)) m.tops =
      subst (λ (ts : List Term). AreTerms program recorded m.event ts m.tops) (last_two_are list x y first second) m.pushed in
      let up = top_of program recorded m.event y (x ∷ reverse (without 2 list)) m.tops pushed in
      let low = top_of program recorded m.event x (reverse (without 2 list)) up.below up.others in
      let tops : m.tops ≡ up.value ∷ low.value ∷ low.below = up.is ∙ ap (λ (vs : List Value). up.value ∷ vs) low.is in
      record {
        lower = low.value;
        upper = up.value;
        below = low.below;
        is = m.above.is ∙ ap (λ (vs : List Value). vs ++ m.above.rest) tops;
        lower_stands = low.stands;
        upper_stands = up.stands;
        others = low.others;
      }

  -- an operand is the one that is known
  known_at : (items : List Value) (i : ℕ) (v w : Value) → slice_get a.frame.stack.items i ≡ Some v → a.frame.stack.items ≡ items → slice_get items i ≡ Some w → w ≡ v
  known_at items i v w there is also =
      let at : slice_get items i ≡ Some v = subst (λ (vs : List Value). slice_get vs i ≡ Some v) is there in
      some_is w v (sym also ∙ at)

  above_rest : (below : List Value) (items : List Value) → items ≡ below ++ m.above.rest → IsAbove program below items
  above_rest below items is = record { rest = m.above.rest; is = is; clean = m.above.clean }

  -- ---- two are added

  adding : (t : Term) → shape_of next.0 ≡ shapes.Two two.Add → sum_on_top list ≡ Some t → Asks r (Given (notes.Held site failed holding (without 2 list ++ t ∷ []) map)) → Changes
  adding t is sum asks =
      let x = and_then_of (λ (x : Term). option_and_then (λ (y : Term). sum_of x y) (last_term list)) (last_but_one list) t sum in
      let y = and_then_of (λ (y : Term). sum_of x.0 y) (last_term list) t x.2 in
      let two = two_tops x.0 y.0 x.1 y.1 in
      let added = adds_up program machine a change next h.step is in
      let upper : two.upper ≡ added.0 = known_at (two.upper ∷ two.lower ∷ (two.below ++ m.above.rest)) 0 added.0 two.upper added.2.there two.is refl in
      let lower : two.lower ≡ added.1 = known_at (two.upper ∷ two.lower ∷ (two.below ++ m.above.rest)) 1 added.1 two.lower added.3.there two.is refl in
      let value = values.Int (int_wrapping_add w32 (number_of added.1) (number_of added.0)) in
      let stands : term_value program recorded m.event t ≡ Some value =
      sum_is program policy o.good recorded m.event ranged x.0 y.0 t added.1 added.0 y.2 (two.lower_stands ∙ ap Some lower) (two.upper_stands ∙ ap Some upper) in
      let items = value ∷ drop 2 a.frame.stack.items in
      let terms : AreTerms program recorded m.event (reverse (without 2 list ++ t ∷ [])) (value ∷ two.below) =
      subst (λ (ts : List Term). AreTerms program recorded m.event ts (value ∷ two.below)) (sym (one_more (without 2 list) t))
      (one_above program recorded m.event t value (reverse (without 2 list)) two.below stands two.others) in
      let left : items ≡ value ∷ two.below ++ m.above.rest = ap (λ (vs : List Value). value ∷ drop 2 vs) two.is in
      goes_with_after program policy annotations o true machine a next change _ fields h recorded part ranged not_other items (notes.Held site failed holding (without 2 list ++ t ∷ []) map) (ap ends is) asks added.4
      (refl, means_on (a.frame.at + 1) items failed holding (without 2 list ++ t ∷ []) map fields (value ∷ two.below) m.tried m.variables terms (above_rest (value ∷ two.below) items left))

  -- ---- control goes elsewhere

  going : (to : ℕ) → shape_of next.0 ≡ shapes.Goto to → Asks r (Given (notes.Held site failed holding list map)) → Changes
  going to is asks =
      let leads : LeadsTo program policy annotations a.frame to (Given (notes.Held site failed holding list map)) =
      subst (LeadsTo program policy annotations a.frame to) asks.jump (h.ruled.jump to (goes_there program policy annotations o a.frame next h.acts.there to is)) in
      goes_with program policy annotations o true machine a next change _ fields h recorded part ranged not_other to a.frame.locals a.frame.stack.items (notes.Held site failed holding list map) h.acts.well.locals leads
      (jumps program machine a change next h.step to is)
      (refl, means_on to a.frame.stack.items failed holding list map fields m.tops m.tried m.variables m.pushed m.above)

  -- ---- an atom is tested

  module _ (relation : Relation) (to : ℕ) (is : shape_of next.0 ≡ shapes.Compare relation to) (branch : Branch) (atom : Atom)
      (there : slice_get m.clause.branches failed ≡ Some branch) (atom_is : slice_get branch.atoms holding ≡ Some atom) (asked : AsksAtom list atom) where
    abbrev so : Bool
    so = holds (moment recorded m.event) atom

    tops : TwoTops (base_term atom.base) (terms.Const atom.value)
    tops = two_tops (base_term atom.base) (terms.Const atom.value) asked.base asked.value

    -- with the atom known to hold or to fail, at the instruction where control goes
    tells : (at : ℕ) (outcome : Bool) → so ≡ outcome → LeadsTo program policy annotations a.frame at (Given (cond outcome (holding_on check) (failing check)))
        → Goes program machine a change (world_of machine) at a.frame.locals (drop 2 a.frame.stack.items) → Changes
    tells at true outcome leads g =
        let items = drop 2 a.frame.stack.items in
        goes_with program policy annotations o true machine a next change _ fields h recorded part ranged not_other at a.frame.locals items (holding_on check) h.acts.well.locals leads g (
          refl,
          means_on at items failed (holding + 1) (without 2 list) map fields tops.below
              (one_more_holds program recorded m.event m.clause.branches failed holding branch atom there atom_is m.tried outcome) m.variables tops.others
              (above_rest tops.below items (ap (drop 2) tops.is)),
        )
    tells at false outcome leads g =
        let items = drop 2 a.frame.stack.items in
        goes_with program policy annotations o true machine a next change _ fields h recorded part ranged not_other at a.frame.locals items (failing check) h.acts.well.locals leads g (
          refl,
          means_on at items (failed + 1) 0 (without 2 list) map fields tops.below
              (one_more_fails program recorded m.event m.clause.branches failed holding branch atom there atom_is m.tried outcome) m.variables tops.others
              (above_rest tops.below items (ap (drop 2) tops.is)),
        )

    -- control jumps, or goes on
    jumps_or_not : (jump outcome : Bool) → so ≡ outcome → cond jump h.ruled.r.jump h.ruled.r.past ≡ Given (cond outcome (holding_on check) (failing check))
        → (y x : Value) → slice_get a.frame.stack.items 0 ≡ Some y → slice_get a.frame.stack.items 1 ≡ Some x → compares relation (number_of x) (number_of y) ≡ jump
        → Goes program machine a change (world_of machine) (cond (compares relation (number_of x) (number_of y)) to (a.frame.at + 1)) a.frame.locals (drop 2 a.frame.stack.items)
        → Changes
    jumps_or_not true outcome known asks y x first second relates g =
        let at_to : next_of values_seen next.0 to a.frame.stack.items ≡ to =
        ap (λ (s : Shape). goes_to values_seen next.0 s (to + 1) a.frame.stack.items) is ∙ compared_to next.0 relation to (to + 1) a.frame.stack.items y x first second ∙ ap (λ (b : Bool). cond b to (to + 1)) relates in
        let leads = subst (LeadsTo program policy annotations a.frame to) asks (h.ruled.jump to (compares_there program policy annotations o a.frame next h.acts.there relation to a.frame.stack.items is at_to)) in
        tells to outcome known leads
        (subst (λ (b : Bool). Goes program machine a change (world_of machine) (cond b to (a.frame.at + 1)) a.frame.locals (drop 2 a.frame.stack.items)) relates g)
    jumps_or_not false outcome known asks y x first second relates g =
        let leads = leads_after program policy annotations o true machine a next change _ fields h recorded part ranged (Given (cond outcome (holding_on check) (failing check))) (ap ends is) asks in
        tells (a.frame.at + 1) outcome known leads
        (subst (λ (b : Bool). Goes program machine a change (world_of machine) (cond b to (a.frame.at + 1)) a.frame.locals (drop 2 a.frame.stack.items)) relates g)

    compared_so : (y x : Value) → slice_get a.frame.stack.items 0 ≡ Some y → slice_get a.frame.stack.items 1 ≡ Some x → so ≡ relates atom.rel (number_of x) (number_of y)
    compared_so y x first second =
        let upper : tops.upper ≡ y = known_at (tops.upper ∷ tops.lower ∷ (tops.below ++ m.above.rest)) 0 y tops.upper first tops.is refl in
        let lower : tops.lower ≡ x = known_at (tops.upper ∷ tops.lower ∷ (tops.below ++ m.above.rest)) 1 x tops.lower second tops.is refl in
        compared_holds program recorded m.event atom x y (tops.lower_stands ∙ ap Some lower) (tops.upper_stands ∙ ap Some upper)

    -- the jump is by the atom's relation, or by the other
    jumping : (outcome : Bool) → so ≡ outcome → (jump : Bool → Bool) → ((y x : Value) → so ≡ relates atom.rel (number_of x) (number_of y) → compares relation (number_of x) (number_of y) ≡ jump outcome)
        → cond (jump outcome) h.ruled.r.jump h.ruled.r.past ≡ Given (cond outcome (holding_on check) (failing check)) → Changes
    jumping outcome known jump by asks =
        let c = compares_tops program machine a change next h.step relation to is in
        jumps_or_not (jump outcome) outcome known asks c.0 c.1 c.2.there c.3.there (by c.0 c.1 (compared_so c.0 c.1 c.2.there c.3.there)) c.4

    by_relation : is_relation atom.rel relation ≡ true → r ≡ record { past = Given (failing check); jump = Given (holding_on check); thrown = Open } → Changes
    by_relation same row = elim (cases_Bool so) [
      | inl known ↦ jumping true known (λ b. b) (λ y x e. relates_same atom.rel relation (number_of x) (number_of y) same ∙ sym e ∙ known) (ap (λ (x : Row). x.jump) row)
      | inr known ↦ jumping false known (λ b. b) (λ y x e. relates_same atom.rel relation (number_of x) (number_of y) same ∙ sym e ∙ known) (ap (λ (x : Row). x.past) row)
    ]

    by_negation : is_negation atom.rel relation ≡ true → r ≡ record { past = Given (holding_on check); jump = Given (failing check); thrown = Open } → Changes
    by_negation other row = elim (cases_Bool so) [
      | inl known ↦ jumping true known not (λ y x e. relates_not atom.rel relation (number_of x) (number_of y) other ∙ ap not (sym e ∙ known)) (ap (λ (x : Row). x.past) row)
      | inr known ↦ jumping false known not (λ y x e. relates_not atom.rel relation (number_of x) (number_of y) other ∙ ap not (sym e ∙ known)) (ap (λ (x : Row). x.jump) row)
    ]

    testing : tested check atom.rel relation ≡ Some r → Changes
    testing e = elim (cases_Bool (is_relation atom.rel relation)) [
      | inl same ↦ by_relation same (first_tested check atom.rel relation r same e)
      | inr other ↦ let n = other_tested check atom.rel relation r other e in by_negation n.0 n.1
    ]

  -- ---- a variable is written

  -- all statics but the variables stay
  statics_kept : (now : List Value) → IsCleanWorld program rules.state (with_statics (world_of machine) (slice_set machine.statics rules.state now))
  statics_kept now = record {
    heap = h.acts.world.heap;
    statics = λ class held other there. h.acts.world.statics class held other (sym (set_elsewhere machine.statics class rules.state now (λ e. other (sym e))) ∙ there);
  }

  writing : (var : ℕ) (t : Term) → shape_of next.0 ≡ shapes.Heap heap.WriteStatic → variable_named rules.state next.1 ≡ Some var → last_term list ≡ Some t
      → Asks r (Given (notes.Held site failed holding (without 1 list) (slice_set map var t))) → Changes
  writing var t is named last asks =
      let pushed : AreTerms program recorded m.event (t ∷ reverse (without 1 list)) m.tops = subst (λ (ts : List Term). AreTerms program recorded m.event ts m.tops) (last_is list t last) m.pushed in
      let top = top_of program recorded m.event t (reverse (without 1 list)) m.tops pushed in
      let items_are : a.frame.stack.items ≡ top.value ∷ (top.below ++ m.above.rest) = m.above.is ∙ ap (λ (vs : List Value). vs ++ m.above.rest) top.is in
      let first : slice_get a.frame.stack.items 0 ≡ Some top.value = ap (λ (vs : List Value). slice_get vs 0) items_are in
      let g = writes_variable program machine a change next h.step rules.state var fields top.value is (variable_is_named rules.state next.1 var named) h.there first in
      let now = slice_set fields var top.value in
      let world = with_statics (world_of machine) (slice_set machine.statics rules.state now) in
      let items = drop 1 a.frame.stack.items in
      let given = notes.Held site failed holding (without 1 list) (slice_set map var t) in
      let means = means_on (a.frame.at + 1) items failed holding (without 1 list) (slice_set map var t) now top.below m.tried
      (term_set program recorded m.event map fields var t top.value m.variables top.stands) top.others (above_rest top.below items (ap (drop 1) items_are)) in
      let leads = leads_after program policy annotations o true machine a next change _ fields h recorded part ranged (Given given) (ap ends is) asks.past in
      let here : slice_get (slice_set machine.statics rules.state now) rules.state ≡ Some now =
      set_there machine.statics rules.state now (slice_get_within machine.statics rules.state fields h.there) in
      let lands = block_frame program policy annotations o a.frame h.acts.well true recorded now part ranged (a.frame.at + 1) a.frame.locals items given h.acts.well.locals leads (refl, means) in
      subst (ChangesBlock program policy annotations true (world_of machine) a.number recorded part) (sym g.is)
      (goes_in program policy annotations o a.number recorded now part (world_of machine) world a.thread (moved_to a.frame (a.frame.at + 1) a.frame.locals items) a.below h.acts.below
      true part None tt (record { clean = statics_kept now; locks = h.locked; variables = here }) lands lands.settles tt)

  -- ---- the lock is left

  lock_alone : list ≡ terms.Lock ∷ [] → IsAbove program (lock_of program ∷ []) a.frame.stack.items
  lock_alone only =
      let pushed : AreTerms program recorded m.event (terms.Lock ∷ []) m.tops = subst (λ (ts : List Term). AreTerms program recorded m.event (reverse ts) m.tops) only m.pushed in
      let top = top_of program recorded m.event terms.Lock [] m.tops pushed in
      let lock : top.value ≡ lock_of program = some_is top.value (lock_of program) (sym top.stands) in
      let none : top.below ≡ [] = map_some_is top.below [] (sym top.others) in
      let tops : m.tops ≡ lock_of program ∷ [] = top.is ∙ ap (λ (v : Value). v ∷ top.below) lock ∙ ap (λ (vs : List Value). lock_of program ∷ vs) none in
      record { rest = m.above.rest; is = m.above.is ∙ ap (λ (vs : List Value). vs ++ m.above.rest) tops; clean = m.above.clean }

  -- the call is granted, and the lock is let go
  module _ (is : shape_of next.0 ≡ shapes.Heap heap.Exit) (only : list ≡ terms.Lock ∷ []) (p : IsPassed program policy annotations o recorded fields a.frame part ranged m.event)
      (before : site.phase ≡ Before) (asks : Asks r (Given (notes.Granted site false 0 false))) where
    lets_go : holds_round annotations.held site.method ≡ false → Changes
    lets_go round =
        let g = granted_by program policy annotations o recorded fields a.frame part ranged site failed holding list map m p before in
        let above = lock_alone only in
        let items = drop 1 a.frame.stack.items in
        let clean : AreClean program items = subst (λ (vs : List Value). AreClean program (drop 1 vs)) (sym above.is) above.clean in
        gives_over program policy annotations o machine a next change _ fields h recorded part ranged is above (notes.Granted site false 0 false) asks p.end (Granted m.event) p.stays g.0 p.variables
        (record {
          holds = refl;
          round = round;
          granted = g.1;
          variables = tt;
          few = omega arith;
          loaded = [];
          are = refl;
          above = record { rest = items; is = refl; clean = clean };
        })

    lets_go_or_not : RulesHold program policy annotations → Changes
    lets_go_or_not rules_hold = elim (cases_Bool (holds_round annotations.held site.method)) [
      | inl held ↦
          let leads = leads_after program policy annotations o true machine a next change _ fields h recorded part ranged (Given (notes.Granted site false 0 false)) (ap ends is) asks.past in
          absurd (never_unlocked program policy annotations o rules_hold site held a.frame next 0 h.acts.there (ap ends is) leads)
      | inr round ↦ lets_go round
    ]

  leaving : RulesHold program policy annotations → shape_of next.0 ≡ shapes.Heap heap.Exit → is_done policy site failed holding map ≡ true → list ≡ terms.Lock ∷ []
      → Asks r (left site) → Changes
  leaving rules_hold is done only asks =
      let p = passed program policy annotations o recorded fields a.frame part ranged site failed holding list map m done in
      elim (cases_Bool (is_before site.phase)) [
        | inl before ↦
            let asked : left site ≡ Given (notes.Granted site false 0 false) = rw before refl in
            lets_go_or_not is only p (before_is site.phase before) (record { past = asks.past ∙ asked; jump = asks.jump ∙ asked; thrown = asks.thrown }) rules_hold
        | inr following ↦
            let asked : left site ≡ Open = rw following refl in
            gives_up program policy annotations o machine a next change _ fields h recorded part ranged is (lock_alone only) opens (record { past = asks.past ∙ asked; jump = asks.jump ∙ asked; thrown = asks.thrown })
            p.end p.stays (passed_settles program policy annotations o recorded fields a.frame part ranged site.phase p.end m.event following m.due p.taken) p.variables
      ]

  -- ---- by its row

  module _ (rules_hold : RulesHold program policy annotations) where
    last_rows : only_if (leaves (shape_of next.0)) (leaves_done policy check) ≡ Some r → Changes
    last_rows e =
        let w = where_so _ _ r e in
        let d = where_so _ _ r w.1 in
        let p = and_parts (is_done policy site failed holding map) _ d.0 in
        leaving rules_hold (leaves_is (shape_of next.0) w.0) p.0 (same_terms_are list (terms.Lock ∷ []) p.1) (leads_asks (left site) r d.1)

    write_rows : only_if (writes_static (shape_of next.0)) (option_and_then (writes policy check) (variable_named rules.state next.1)) ≡ Some r → Changes
    write_rows e =
        let w = where_so _ _ r e in
        let var = and_then_of (writes policy check) (variable_named rules.state next.1) r w.1 in
        let t = and_then_of (λ (t : Term). only_if (all_hold policy check) (gives (notes.Held site failed holding (without 1 list) (slice_set map var.0 t)))) (last_term list) r var.2 in
        let d = where_so _ _ r t.2 in
        writing var.0 t.0 (writes_is (shape_of next.0) w.0) var.1 t.1 (gives_asks (notes.Held site failed holding (without 1 list) (slice_set map var.0 t.0)) r d.1)

    test_rows : option_and_then (tests policy check) (compared (shape_of next.0)) ≡ Some r → Changes
    test_rows e =
        let relation = and_then_of (tests policy check) (compared (shape_of next.0)) r e in
        let is = compared_is (shape_of next.0) relation.0 relation.1 in
        let atom = and_then_of (λ (x : Atom). only_if (asks_atom list x) (tested check x.rel relation.0)) (next_atom policy site failed holding) r relation.2 in
        let w = where_so _ _ r atom.2 in
        let branches : branches_of policy site ≡ m.clause.branches = ap (λ (c : Option Clause). option_map_or (λ (d : Clause). d.branches) c []) m.there in
        let of : option_and_then (λ (b : Branch). slice_get b.atoms holding) (slice_get m.clause.branches failed) ≡ Some atom.0 =
        subst (λ (bs : List Branch). option_and_then (λ (b : Branch). slice_get b.atoms holding) (slice_get bs failed) ≡ Some atom.0) branches atom.1 in
        let b = and_then_of (λ (b : Branch). slice_get b.atoms holding) (slice_get m.clause.branches failed) atom.0 of in
        testing relation.0 is.0 is.1 b.0 atom.0 b.1 b.2 (atom_asked list atom.0 w.0) w.1

    goto_rows : only_if (goes (shape_of next.0)) (gives (with_terms check list)) ≡ Some r → Changes
    goto_rows e =
        let w = where_so _ _ r e in
        let to = goes_is (shape_of next.0) w.0 in
        going to.0 to.1 (gives_asks (with_terms check list) r w.1)

    add_rows : only_if (adds (shape_of next.0)) (option_and_then (λ (t : Term). gives (with_terms check (without 2 list ++ t ∷ []))) (sum_on_top list)) ≡ Some r → Changes
    add_rows e =
        let w = where_so _ _ r e in
        let t = and_then_of (λ (t : Term). gives (with_terms check (without 2 list ++ t ∷ []))) (sum_on_top list) r w.1 in
        adding t.0 (adds_is (shape_of next.0) w.0) t.1 (gives_asks (with_terms check (without 2 list ++ t.0 ∷ [])) r t.2)

    push_rows : option_and_then (λ (t : Term). gives (with_terms check (list ++ t ∷ []))) (term_pushed rules site m.clause map (shape_of next.0) next.1) ≡ Some r → Changes
    push_rows e =
        let t = and_then_of (λ (t : Term). gives (with_terms check (list ++ t ∷ []))) (term_pushed rules site m.clause map (shape_of next.0) next.1) r e in
        pushes t.0 t.1 (gives_asks (with_terms check (list ++ t.0 ∷ [])) r t.2)

    -- An instruction of a check changes what it may.
    pub held_steps : Changes
    held_steps = elim (one_row _ _ r has_row) [
      | inl e ↦ push_rows e
      | inr e ↦ elim (one_row _ _ r e) [
        | inl e ↦ add_rows e
        | inr e ↦ elim (one_row _ _ r e) [
          | inl e ↦ goto_rows e
          | inr e ↦ elim (one_row _ _ r e) [
            | inl e ↦ test_rows e
            | inr e ↦ elim (one_row _ _ r e) [
              | inl e ↦ write_rows e
              | inr e ↦ last_rows e
            ]
          ]
        ]
      ]
    ]

-- Steps after a call: its result is kept, and the lock is left once nothing is due any more.
use Rattle.std.proofs.Common.{◌≡◌, ℕ, zero, suc, ◌<◌, ◌+◌, Bool, true, false, List, [], ◌∷◌, ◌++◌, length, drop, Option, Some, None, refl, sym, ap, ◌∙◌, subst, arith, inl, inr, eqb-true, ltb-true}
use Rattle.std.specs.Prelude.{◌==◌, ◌&&◌, ◌||◌, ◌⊎◌, nat_lt, not, is_some, option_and_then, slice_get, slice_set}
use Rattle.std.proofs.lemmas.Bool.{and_parts, not-true}
use Rattle.api_listing.specs.declared.events.Event.{Event}
use Rattle.conspec_automaton.specs.Next.{Values}
use Rattle.conspec_automaton.specs.Range.{in_range}
use Rattle.insn_codec.specs.declared.insn.Insn.{Insn}
use Rattle.insn_codec.specs.declared.shape.Heap.TheVariants as heap
use Rattle.insn_codec.specs.declared.shape.ValueKind.{ValueKind}
use Rattle.insn_codec.specs.declared.shape.Shape.{Shape}
use Rattle.insn_codec.specs.declared.shape.Shape.TheVariants as shapes
use Rattle.insn_codec.specs.Shapes.{shape_of}
use Rattle.insn_codec.specs.Table.{ends}
use Rattle.bytecode_model.specs.declared.program.Program.{Program}
use Rattle.bytecode_model.specs.declared.program.Target.{Target}
use Rattle.block_logic.specs.Annotations.{Annotations}
use Rattle.cert_format.specs.declared.note.Note.TheVariants as notes
use Rattle.cert_format.specs.declared.note.Phase8.{Phase8}
use Rattle.cert_format.specs.declared.note.Phase8.TheVariants.{Before, After, Exceptional}
use Rattle.cert_format.specs.declared.note.Site.{Site}
use Rattle.conspec_tree.specs.declared.types.Kind.{Kind as ResultKind}
use Rattle.conspec_automaton.specs.declared.policy.Clause.{Clause}
use Rattle.conspec_automaton.specs.declared.policy.Policy.{Policy}
use Rattle.guest_heap.specs.declared.value.Value.{Value}
use Rattle.guest_model.specs.declared.machine.Machine.{Machine}
use Rattle.guest_model.specs.Changes.{Change, world_of}
use Rattle.guest_model.specs.Parts.{number_in}
use Rattle.guest_model.specs.Stepping.{Acting}
use Rattle.guest_model.proofs.Options.{all_drop, all_get, all_set}
use Rattle.block_logic.specs.Accepted.{rules_of}
use Rattle.block_logic.specs.Agreement.{Clear, Part, Settles}
use Rattle.block_logic.specs.Clauses.{clause_of}
use Rattle.block_logic.specs.Meaning.{AreClean, HasResult, HasResultIn, IsAbove, IsClean, IsOwed, MeansOwed, lock_of, lock_on}
use Rattle.block_logic.specs.Obeying.{IsObeying}
use Rattle.block_logic.specs.Operands.{pushes_state, stored}
use Rattle.block_logic.specs.Rows.{Given, Open, Row, Rules, begins_owed, may_keep, may_leave, may_push, owed_row}
use Rattle.block_logic.specs.Weakening.{is_after}
use Rattle.block_logic.proofs.Owner.Acting.{ActsIn, OwnLoose, gives_up, goes_with, goes_with_after, leads_after}
use Rattle.block_logic.proofs.Owner.Fair.{means_loose}
use Rattle.block_logic.proofs.Owner.GrantedRows.{this_slot}
use Rattle.block_logic.proofs.Owner.Moves.{stores}
use Rattle.block_logic.proofs.Owner.Pushes.{pushes_lock}
use Rattle.block_logic.proofs.Owner.Rows.{Asks, enters_is, gives_asks, leads_asks, leaves_is, one_row, where_so}
use Rattle.block_logic.proofs.Owner.Variables.{set_there}
use Rattle.block_logic.proofs.Ruled.{OpensFree}
use Rattle.block_logic.proofs.Steps.{ChangesBlock}

-- ---- the rows

stores_is : (shape : Shape) (slot : ℕ) → stored shape ≡ Some slot → (kind : ValueKind) × (shape ≡ shapes.Store kind slot)
stores_is (shapes.Store kind place) slot e = let same : place ≡ slot = cc in (kind, ap (shapes.Store kind) same)
stores_is shape slot e = absurd cc

module _ (rules : Rules) (site : Site) (stage : ℕ) (kept top : Bool) (shape : Shape) (ref : Target) (r : Row) where
  -- The result is put into its local,
  pub record KeepsResult : Type 0 where
    pub following : is_after site.phase ≡ true
    pub early : nat_lt stage 2 ≡ true
    pub loose : kept ≡ false
    pub bare : top ≡ false
    pub kind : ValueKind
    pub is : shape ≡ shapes.Store kind site.base
    pub asks : Asks r (Given (notes.Owed site stage true false))

  -- the lock is pushed,
  pub record PushesLock : Type 0 where
    pub bare : top ≡ false
    pub pushes : pushes_state shape ref ≡ true
    pub asks : Asks r (Given (notes.Owed site stage kept true))

  -- taken, which it is not where it is held,
  pub record TakesLock : Type 0 where
    pub on : top ≡ true
    pub none : stage ≡ 0
    pub is : shape ≡ shapes.Heap heap.Enter
    pub asks : Asks r (begins_owed rules.policy site kept)

  -- or left.
  pub record LeavesLock : Type 0 where
    pub on : top ≡ true
    pub may : may_leave rules.policy site stage ≡ true
    pub is : shape ≡ shapes.Heap heap.Exit
    pub asks : Asks r Open

  pub owed_cases : owed_row rules site stage kept top shape ref ≡ Some r → KeepsResult ⊎ (PushesLock ⊎ (TakesLock ⊎ LeavesLock))
  owed_cases e = elim (one_row _ _ r e) [
    | inl keeping ↦
        let w = where_so _ _ r keeping in
        let p = and_parts (may_keep rules.policy site stage kept top) _ w.0 in
        let q = and_parts (is_after site.phase) _ p.0 in
        let u = and_parts (nat_lt stage 2) _ q.1 in
        let v = and_parts (not kept) _ u.1 in
        let x = and_parts (not top) _ v.1 in
        let is = stores_is shape site.base (this_slot (stored shape) site.base p.1) in
        inl (record {
          following = q.0;
          early = u.0;
          loose = not-true kept v.0;
          bare = not-true top x.0;
          kind = is.0;
          is = is.1;
          asks = gives_asks (notes.Owed site stage true false) r w.1;
        })
    | inr others ↦ inr (elim (one_row _ _ r others) [
      | inl pushing ↦
          let w = where_so _ _ r pushing in
          let p = and_parts (not top) _ w.0 in
          let q = and_parts (may_push rules.policy site stage) _ p.1 in
          inl (record { bare = not-true top p.0; pushes = q.1; asks = gives_asks (notes.Owed site stage kept true) r w.1 })
      | inr rest ↦ inr (elim (one_row _ _ r rest) [
        | inl taking ↦
            let w = where_so _ _ r taking in
            let p = and_parts top _ w.0 in
            let q = and_parts (stage == 0) _ p.1 in
            inl (record { on = p.0; none = eqb-true stage 0 q.0; is = enters_is shape q.1; asks = leads_asks (begins_owed rules.policy site kept) r w.1 })
        | inr leaving ↦
            let w = where_so _ _ r leaving in
            let p = and_parts top _ w.0 in
            let q = and_parts (may_leave rules.policy site stage) _ p.1 in
            inr (record { on = p.0; may = q.0; is = leaves_is shape q.1; asks = leads_asks Open r w.1 })
      ])
    ])
  ]

-- ---- the steps

module _ (program : Program) (policy : Policy) (annotations : Annotations) (o : IsObeying program policy annotations) (opens : OpensFree program policy annotations)
    (mine : Bool) (machine : Machine) (a : Acting) (next : Insn × Target) (change : Change) (fields : List Value) (recorded : Values) (part : Part) (ranged : in_range policy recorded ≡ true)
    (site : Site) (stage : ℕ) (kept top : Bool) (h : ActsIn program policy annotations mine machine a next change (notes.Owed site stage kept top) fields)
    (m : MeansOwed program policy annotations.held mine recorded fields a.frame site stage kept top part) where
  abbrev rules : Rules
  rules = rules_of program policy annotations

  abbrev Changes : Type 0
  Changes = ChangesBlock program policy annotations mine (world_of machine) a.number recorded part change

  abbrev r : Row
  r = h.ruled.r

  -- ---- the result is kept

  module _ (v : Value) (rest : List Value) (inside : site.base < length a.frame.locals) where
    abbrev locals : List Value
    locals = slice_set a.frame.locals site.base v

    keeps : (clause : Clause) (result : Option ResultKind) (event : Event) → slice_get m.above.rest 0 ≡ Some v
        → HasResult result false site.base a.frame.locals m.above.rest event → HasResult result true site.base locals rest event
    keeps clause None event first has = tt
    keeps clause (Some kind) event first has =
        ap (option_and_then number_in) (set_there a.frame.locals site.base v inside ∙ sym first) ∙ has

    keeps_in : (clause : Clause) (phase : Phase8) (event : Event) → is_after phase ≡ true → slice_get m.above.rest 0 ≡ Some v
        → HasResultIn clause phase false site.base a.frame.locals m.above.rest event → HasResultIn clause phase true site.base locals rest event
    keeps_in clause Before event after first has = absurd cc
    keeps_in clause After event after first has = keeps clause clause.result event first has
    keeps_in clause Exceptional event after first has = absurd cc

    keeps_owed : (b : Bool) (n : ℕ) (clause : Option Clause) → nat_lt n 2 ≡ true → is_after site.phase ≡ true → slice_get m.above.rest 0 ≡ Some v
        → IsOwed program policy annotations.held b site n clause part false a.frame.locals m.above.rest → IsOwed program policy annotations.held b site n clause part true locals rest
    keeps_owed false zero None early after first owed = absurd owed
    keeps_owed false zero (Some clause) early after first owed =
        record { event = owed.event; is = owed.is; of = owed.of; formed = owed.formed; told = keeps_in clause site.phase owed.event after first owed.told }
    keeps_owed false (suc n) clause early after first owed = absurd owed
    keeps_owed true zero clause early after first owed = absurd owed
    keeps_owed true (suc zero) None early after first owed = owed
    keeps_owed true (suc zero) (Some clause) early after first owed =
        record { event = owed.event; is = owed.is; of = owed.of; formed = owed.formed; told = keeps_in clause site.phase owed.event after first owed.told }
    keeps_owed true (suc (suc n)) clause early after first owed = absurd (omega (arith, ltb-true (suc (suc n)) 2 early))

  own_loose : OwnLoose program policy annotations mine part
  own_loose other =
      means_loose program policy annotations recorded fields a.frame (notes.Owed site stage kept top) part
      (subst (λ (b : Bool). MeansOwed program policy annotations.held b recorded fields a.frame site stage kept top part) other m)

  bare_above : top ≡ false → a.frame.stack.items ≡ m.above.rest
  bare_above bare = m.above.is ∙ ap (λ (on : Bool). lock_on program on ++ m.above.rest) bare

  pub keeping : KeepsResult rules site stage kept top (shape_of next.0) next.1 r → Changes
  keeping c =
      let s = stores program machine a change next h.step c.kind site.base c.is in
      let same = bare_above c.bare in
      let items = drop 1 a.frame.stack.items in
      let first : slice_get m.above.rest 0 ≡ Some s.0 = subst (λ (vs : List Value). slice_get vs 0 ≡ Some s.0) same s.1 in
      let clean : AreClean program a.frame.stack.items = subst (AreClean program) (sym same) m.above.clean in
      let value : IsClean program s.0 = all_get (IsClean program) a.frame.stack.items 0 s.0 clean s.1 in
      let owed : IsOwed program policy annotations.held mine site stage (clause_of policy site) part false a.frame.locals m.above.rest =
      subst (λ (b : Bool). IsOwed program policy annotations.held mine site stage (clause_of policy site) part b a.frame.locals m.above.rest) c.loose m.owed in
      goes_with program policy annotations o mine machine a next change _ fields h recorded part ranged own_loose (a.frame.at + 1) (slice_set a.frame.locals site.base s.0) items (notes.Owed site stage true false)
      (all_set (IsClean program) a.frame.locals site.base s.0 h.acts.well.locals value)
      (leads_after program policy annotations o mine machine a next change _ fields h recorded part ranged (Given (notes.Owed site stage true false)) (ap ends c.is) c.asks.past) s.3
      (record {
        following = m.following;
        round = m.round;
        variables = m.variables;
        above = record { rest = items; is = refl; clean = all_drop (IsClean program) 1 a.frame.stack.items clean };
        owed = keeps_owed s.0 items s.2 mine stage (clause_of policy site) c.early c.following first owed;
      })

  -- ---- the lock is pushed

  pub pushing : PushesLock rules site stage kept top (shape_of next.0) next.1 r → Changes
  pushing c =
      let p = pushes_lock program policy annotations machine a change next h.step c.pushes in
      let items = lock_of program ∷ a.frame.stack.items in
      goes_with_after program policy annotations o mine machine a next change _ fields h recorded part ranged own_loose items (notes.Owed site stage kept true) p.1 c.asks p.0
      (record {
        following = m.following;
        round = m.round;
        variables = m.variables;
        above = record { rest = m.above.rest; is = ap (λ (vs : List Value). lock_of program ∷ vs) (bare_above c.bare); clean = m.above.clean };
        owed = m.owed;
      })

-- ---- it is left

module _ (program : Program) (policy : Policy) (annotations : Annotations) (o : IsObeying program policy annotations) (opens : OpensFree program policy annotations)
    (machine : Machine) (a : Acting) (next : Insn × Target) (change : Change) (fields : List Value) (recorded : Values) (part : Part) (ranged : in_range policy recorded ≡ true)
    (site : Site) (stage : ℕ) (kept top : Bool) (h : ActsIn program policy annotations true machine a next change (notes.Owed site stage kept top) fields)
    (m : MeansOwed program policy annotations.held true recorded fields a.frame site stage kept top part) where
  nothing_owed : (n : ℕ) (clause : Option Clause) → (((n == 1) && not (is_some clause)) || (n == 2)) ≡ true
      → IsOwed program policy annotations.held true site n clause part kept a.frame.locals m.above.rest → part ≡ Clear
  nothing_owed zero clause may owed = absurd owed
  nothing_owed (suc zero) None may owed = owed
  nothing_owed (suc zero) (Some clause) may owed = absurd cc
  nothing_owed (suc (suc zero)) clause may owed = owed
  nothing_owed (suc (suc (suc n))) clause may owed = absurd owed

  clear_settles : (p : Part) → p ≡ Clear → Settles policy recorded p recorded Clear
  clear_settles p is = rw is refl

  leaving : LeavesLock (rules_of program policy annotations) site stage kept top (shape_of next.0) next.1 h.ruled.r
      → ChangesBlock program policy annotations true (world_of machine) a.number recorded part change
  leaving c =
      let above : IsAbove program (lock_of program ∷ []) a.frame.stack.items =
      record { rest = m.above.rest; is = m.above.is ∙ ap (λ (on : Bool). lock_on program on ++ m.above.rest) c.on; clean = m.above.clean } in
      gives_up program policy annotations o machine a next change _ fields h recorded part ranged c.is above opens c.asks recorded ranged
      (clear_settles part (nothing_owed stage (clause_of policy site) c.may m.owed)) m.variables

  -- An instruction after a call, of a thread that holds the lock, changes what it may.
  pub owed_steps : ChangesBlock program policy annotations true (world_of machine) a.number recorded part change
  owed_steps = elim (owed_cases (rules_of program policy annotations) site stage kept top (shape_of next.0) next.1 h.ruled.r h.ruled.has) [
    | inl c ↦ keeping program policy annotations o opens true machine a next change fields recorded part ranged site stage kept top h m c
    | inr (inl c) ↦ pushing program policy annotations o opens true machine a next change fields recorded part ranged site stage kept top h m c
    | inr (inr (inl c)) ↦ absurd (subst (λ (n : ℕ). IsOwed program policy annotations.held true site n (clause_of policy site) part kept a.frame.locals m.above.rest) c.none m.owed)
    | inr (inr (inr c)) ↦ leaving c
  ]

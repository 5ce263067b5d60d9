-- A whole block: it reaches its call from its front, is left after its call, and throws on from its handler.
use Rattle.std.proofs.Common.{
  ◌≡◌,
  ℕ,
  suc,
  ◌+◌,
  ◌≤◌,
  Bool,
  true,
  false,
  List,
  [],
  ◌∷◌,
  ◌++◌,
  length,
  map,
  Option,
  Some,
  None,
  refl,
  sym,
  ap,
  ◌∙◌,
  subst,
  arith,
}
use Rattle.std.specs.Prelude.{if◌then◌else◌}
use Rattle.std.specs.Option.{option_map_or}
use Rattle.std.proofs.lemmas.List.{append-nil}
use Rattle.api_listing.specs.declared.events.Event.{Event}
use Rattle.cert_format.specs.declared.certificate.Mode.{Mode}
use Rattle.cert_format.specs.declared.certificate.Mode.TheVariants.{Hold, Release}
use Rattle.conspec_tree.specs.declared.types.Phase.{Phase}
use Rattle.conspec_tree.specs.declared.types.Phase.TheVariants.{Before, After, Exceptional}
use Rattle.conspec_automaton.specs.declared.policy.Clause.{Clause}
use Rattle.conspec_automaton.specs.declared.policy.Policy.{Policy}
use Rattle.conspec_automaton.specs.Next.{Values, has_clauses, moment, next, next_by}
use Rattle.insn_codec.specs.declared.opcodes.TheConstants.{GOTO}
use Rattle.offset_patch.specs.declared.block.Block.{Block}
use Rattle.offset_patch.specs.declared.block.BlockInsn.{BlockInsn}
use Rattle.offset_patch.specs.declared.block.BlockInsn.TheVariants.{Call, Jump}
use Rattle.offset_patch.specs.Splicing.{call_place}
use Rattle.block_template.specs.declared.item.Item.{Item}
use Rattle.block_template.specs.Blocks.{
  Clauses,
  block,
  block_with,
  bools_of,
  call,
  called,
  catches,
  caught,
  clause_at,
  clauses_of,
  following,
  from_call,
  from_handler,
  front,
  handler,
  handler_at,
  is_locked,
  items,
  leave,
  lets_pass,
  locals_used,
  with_handler,
}
use Rattle.block_template.specs.Parts.{if_reached}
use Rattle.block_template.proofs.Calling.{call_item, place_is, split}
use Rattle.block_template.proofs.Goods.{insns_of, same_reached}
use Rattle.block_template.proofs.Policies.{clause_is}
use Rattle.block_template.proofs.Sizes.{mapped_length, rest}
use Rattle.guest_heap.specs.Stack.{Operands}
use Rattle.guest_heap.specs.declared.value.Value.{Value}
use Rattle.guest_heap.specs.declared.value.Value.TheVariants as values
use Rattle.block_runs.specs.Spots.{Spot}
use Rattle.block_runs.specs.Running.{Called, End, Left, Thrown, block_run, run_from}
use Rattle.block_runs.specs.Transparent.{BlocksNeedNoHandler, BlocksReachCalls, BlocksReturn, BlocksThrowOn, Holds, IsEvent, Judges, most_pushed, refused}
use Rattle.block_runs.proofs.Blocks.{EndsAt, LeadsAt, skips_reached}
use Rattle.block_runs.proofs.Judging.{after_judges, before_judges, next_with, thrown_judges}
use Rattle.block_runs.proofs.Moves.{spot_at}
use Rattle.block_runs.proofs.Moves as moves
use Rattle.block_runs.proofs.Parts.{over, runs, skips}
use Rattle.block_runs.proofs.Runs.{run_calls, run_jumps, run_one_over, run_past}
use Rattle.block_runs.proofs.Told.{clause_is_of}

-- ---- from the front, from after the call, and from the handler

module _ (state : ℕ) (mode : Mode) (bools : List Bool) (base : ℕ) (clauses : Clauses) where
  abbrev all : List Item
  all = items mode bools base clauses

  abbrev first : List Item
  first = front mode bools base clauses.before

  abbrev index : ℕ
  index = length first

  abbrev insns : List BlockInsn
  insns = insns_of all

  -- what stands after the call
  abbrev back : List Item
  back = following mode bools base (index + 1) clauses.after

  abbrev last : List Item
  last = caught mode bools base (index + length (called mode bools base index clauses)) clauses

  called_at : (b : Bool) (more : List Item) (at : ℕ) (spot : Spot) → runs state (if_reached b (call mode ∷ more)) at spot ≡ Called at spot
  called_at true more at spot = run_calls state (insns_of more) at spot
  called_at false more at spot = run_calls state (insns_of (if_reached false more)) at spot

  front_ends : (spot : Spot) (end : End) → EndsAt state 0 first spot end → run_from state insns 0 spot ≡ end
  front_ends spot end ends = ends (if_reached (lets_pass clauses.before) (from_call mode bools base index clauses))

  front_calls : (spot after : Spot) → LeadsAt state 0 first spot after → run_from state insns 0 spot ≡ Called (call_place insns) after
  front_calls spot after leads =
      let here : 0 + index ≡ call_place insns = omega (arith, place_is mode bools base clauses) in
      leads (if_reached (lets_pass clauses.before) (from_call mode bools base index clauses))
      ∙ called_at (lets_pass clauses.before) (back ++ last) (0 + index) after ∙ ap (λ (n : ℕ). Called n after) here

  -- From a place after the call on what stands there is run.
  past_call : (skip : ℕ) (spot : Spot) → run_from state insns (index + suc skip) spot ≡ skips state (back ++ last) (index + 1) skip spot
  past_call skip spot =
      let passes : Bool = lets_pass clauses.before in
      let others : List Item = rest mode bools base index clauses in
      let there : 0 + index + 1 ≡ index + 1 = omega arith in
      ap (λ (xs : List Item). skips state xs 0 (index + suc skip) spot) (split mode bools base clauses)
      ∙ over state first (call_item mode bools base clauses ∷ if_reached passes others) 0 (suc skip) spot
      ∙ run_one_over state Call (insns_of (if_reached passes others)) (0 + index) skip spot
      ∙ ap (λ (xs : List BlockInsn). block_run state xs (0 + index + 1) skip spot) (same_reached passes others)
      ∙ ap (λ (n : ℕ). skips state (back ++ last) n skip spot) there

  after_call : (end : End) (spot : Spot) → runs state (back ++ last) (index + 1) spot ≡ end
      → run_from state insns (call_place insns + 1) spot ≡ end
  after_call end spot e =
      let here : call_place insns + 1 ≡ index + 1 = ap (λ (n : ℕ). n + 1) (place_is mode bools base clauses) in
      ap (λ (n : ℕ). run_from state insns n spot) here ∙ past_call 0 spot ∙ e

  back_ends : (spot : Spot) (end : End) → EndsAt state (index + 1) back spot end → run_from state insns (call_place insns + 1) spot ≡ end
  back_ends spot end ends = after_call end spot (ends last)

  -- The handler is jumped over.
  last_left : (at : ℕ) (spot : Spot) → length spot.stack.items ≤ spot.stack.size → at
      ≡ index + length (called mode bools base index clauses)
      → runs state last at spot ≡ Left spot
  last_left at spot room e = by (catches mode clauses.exceptional)
    where
      from : ℕ
      from = index + length (called mode bools base index clauses) + 1

      by : (b : Bool) → runs state (if b then with_handler mode bools base from clauses else []) at spot ≡ Left spot
      by false = run_past state [] at spot
      by true =
          let thrown : List Item = handler mode bools base from clauses.exceptional in
          let end : ℕ = from + length thrown in
          let long : length thrown ≡ length (insns_of thrown) = sym (mapped_length (λ (i : Item). i.insn) thrown) in
          skips_reached state (lets_pass clauses.after) (leave end ∷ []) thrown at 0 spot
          ∙ run_jumps state (Jump GOTO end) (insns_of thrown) at end (length thrown) spot spot
          (moves.jumps state spot.stack.size (at + 1) spot.stack.items spot.locals spot.fields spot.locked end room) (omega (arith, e))
          ∙ ap (λ (n : ℕ). skips state thrown (at + 1) n spot) long ∙ run_past state (insns_of thrown) (at + 1) spot

  back_left : (spot after : Spot) → length after.stack.items ≤ after.stack.size → LeadsAt state (index + 1) back spot after
      → run_from state insns (call_place insns + 1) spot ≡ Left after
  back_left spot after room leads =
      after_call (Left after) spot (leads last ∙ last_left (index + 1 + length back) after room (omega arith))

  -- where the handler begins
  abbrev from : ℕ
  from = index + length (called mode bools base index clauses) + 1

  handler_is : (place : ℕ) → handler_at mode bools base clauses ≡ Some place → (catches mode clauses.exceptional ≡ true) × (from ≡ place)
  handler_is place e = by (catches mode clauses.exceptional) e
    where
      by : (b : Bool) → ◌≡◌ {A = Option ℕ} (if b then Some from else None) (Some place) → (b ≡ true) × (from ≡ place)
      by true e = (refl, cc)
      by false e = absurd cc

  handler_ends : (place : ℕ) (spot : Spot) (end : End) → handler_at mode bools base clauses ≡ Some place
      → EndsAt state place (handler mode bools base place clauses.exceptional) spot end → run_from state insns place spot ≡ end
  handler_ends place spot end e ends =
      let is = handler_is place e in
      let thrown : List Item = handler mode bools base from clauses.exceptional in
      let far : place ≡ index + suc (length back + 1) = omega (arith, is.1) in
      let at : ℕ = index + 1 + length back in
      let there : at + 1 ≡ from = omega arith in
      ap (λ (n : ℕ). run_from state insns n spot) far ∙ past_call (length back + 1) spot
      ∙ over state back last (index + 1) 1 spot
      ∙ ap (λ (b : Bool). skips state (if b then with_handler mode bools base from clauses else []) at 1 spot) is.0
      ∙ skips_reached state (lets_pass clauses.after) (leave (from + length thrown) ∷ []) thrown at 1 spot
      ∙ run_one_over state (Jump GOTO (from + length thrown)) (insns_of thrown) at 0 spot
      ∙ ap (λ (n : ℕ). runs state thrown n spot) there
      ∙ ap (λ (n : ℕ). runs state (handler mode bools base n clauses.exceptional) n spot) is.1
      ∙ ap (λ (xs : List Item). runs state xs place spot) (sym (append-nil (handler mode bools base place clauses.exceptional)))
      ∙ ends []

-- ---- a policy's block

made_is : (policy : Policy) (mode : Mode) (method base : ℕ) (made : Block) → block policy mode method base ≡ Some made
    → block_with mode (bools_of policy) base (clauses_of policy method) ≡ made
made_is policy mode method base made e = by (has_clauses policy method) e
  where
    by : (b : Bool) → ◌≡◌ {A = Option Block} (if b then Some (block_with mode (bools_of policy) base
        (clauses_of policy method)) else None) (Some made)
        → block_with mode (bools_of policy) base (clauses_of policy method) ≡ made
    by true e = cc
    by false e = absurd cc

next_is : (policy : Policy) (method : ℕ) (phase : Phase) (event : Event) (now : Values) → IsEvent policy method phase event now
    → next policy now event ≡ next_with (clause_at policy method phase) now event
next_is policy method phase event now is =
    ap (λ (o : Option Clause). option_map_or (λ (c : Clause). next_by c (moment now event)) o (Some now))
    (clause_is_of policy method phase event is.method_is is.phase_is)

spot_is : (base used : ℕ) (now : Values) (held : Bool) (spot : Spot) → Holds base used now held spot
    → spot_at spot.stack.size spot.stack.items spot.locals (map values.Int now) held ≡ spot
spot_is base used now held spot holds =
    ap (λ (fields : List Value). spot_at spot.stack.size spot.stack.items spot.locals fields held) (sym holds.fields)
    ∙ ap (λ (b : Bool). spot_at spot.stack.size spot.stack.items spot.locals spot.fields b) (sym holds.lock)

pub reach_calls : BlocksReachCalls
reach_calls policy mode method base state made sound e event now is spot holds passed =
    let clauses = clauses_of policy method in
    let bools = bools_of policy in
    let list : List BlockInsn = insns_of (items mode bools base clauses) in
    let start : Spot = spot_at spot.stack.size spot.stack.items spot.locals (map values.Int now) false in
    let told = next_is policy method Before event now is in
    let judged = before_judges state policy sound bools base event now is.ranged spot.stack.size spot.stack.items spot.locals
    holds.room mode
    (clause_at policy method Before) (clause_is policy method Before sound) passed (omega (arith, holds.locals)) in
    subst (λ (m : Block). Judges policy base event now (is_locked mode) spot (run_from state m.insns 0 spot) (Called
    (call_place m.insns)))
    (made_is policy mode method base made e)
    (subst (λ (s : Spot). Judges policy base event now (is_locked mode) s (run_from state list 0 s) (Called (call_place list)))
    (spot_is base (locals_used policy method) now false spot holds)
    (record {
      accepts = λ new f.
          let j = judged.accepts new (sym told ∙ f) in
          (j.0, front_calls state mode bools base clauses start j.0 j.1, j.2);
      refuses = λ f. front_ends state mode bools base clauses start refused (judged.refuses (sym told ∙ f));
    }))

pub return_well : BlocksReturn
return_well policy mode method base state made sound e event now is spot holds given =
    let clauses = clauses_of policy method in
    let bools = bools_of policy in
    let list : List BlockInsn = insns_of (items mode bools base clauses) in
    let start : Spot = spot_at spot.stack.size spot.stack.items spot.locals (map values.Int now) (is_locked mode) in
    let told = next_is policy method After event now is in
    let at : ℕ = length (front mode bools base clauses.before) + 1 in
    let few : length spot.stack.items ≤ spot.stack.size = omega (arith, holds.room) in
    let judged = after_judges state policy sound bools base event now is.ranged spot.stack.size spot.stack.items spot.locals holds.room
    mode at
    (clause_at policy method After) (clause_is policy method After sound) given (omega (arith, holds.locals)) in
    subst (λ (m : Block). Judges policy base event now false spot (run_from state m.insns (call_place m.insns + 1) spot) Left)
    (made_is policy mode method base made e)
    (subst (λ (s : Spot). Judges policy base event now false s (run_from state list (call_place list + 1) s) Left)
    (spot_is base (locals_used policy method) now (is_locked mode) spot holds)
    (record {
      accepts = λ new f.
          let j = judged.accepts new (sym told ∙ f) in
          let room : length j.0.stack.items ≤ j.0.stack.size = subst (λ (o : Operands). length o.items ≤ o.size) (sym j.2.stack) few in
          (j.0, back_left state mode bools base clauses start j.0 room j.1, j.2);
      refuses = λ f. back_ends state mode bools base clauses start refused (judged.refuses (sym told ∙ f));
    }))

pub throw_on : BlocksThrowOn
throw_on policy mode method base state place made sound e has event now is spot v holds caught there =
    let clauses = clauses_of policy method in
    let bools = bools_of policy in
    let list : List BlockInsn = insns_of (items mode bools base clauses) in
    let size : ℕ = spot.stack.size in
    let start : Spot = spot_at size (v ∷ []) spot.locals (map values.Int now) (is_locked mode) in
    let told = next_is policy method Exceptional event now is in
    let handled : handler_at mode bools base clauses ≡ Some place = ap (λ (m : Block). m.handler)
    (made_is policy mode method base made e) ∙ has in
    let room : 1 + most_pushed ≤ size = omega (arith, holds.room, ap length caught) in
    let judged = thrown_judges state policy sound bools base event now is.ranged size v there spot.locals room mode place
    (clause_at policy method Exceptional) (clause_is policy method Exceptional sound)
    (handler_is state mode bools base clauses place handled).0 in
    let same : start ≡ spot =
    ap (λ (xs : List Value). spot_at size xs spot.locals (map values.Int now) (is_locked mode)) (sym caught)
    ∙ spot_is base 0 now (is_locked mode) spot holds in
    subst (λ (m : Block). Judges policy base event now false spot (run_from state m.insns place spot) (Thrown v))
    (made_is policy mode method base made e)
    (subst (λ (s : Spot). Judges policy base event now false s (run_from state list place s) (Thrown v)) same
    (record {
      accepts = λ new f.
          let j = judged.accepts new (sym told ∙ f) in
          (j.0, handler_ends state mode bools base clauses place start (Thrown v j.0) handled j.1, j.2);
      refuses = λ f. handler_ends state mode bools base clauses place start refused handled (judged.refuses (sym told ∙ f));
    }))

pub no_handler : BlocksNeedNoHandler
no_handler policy mode method base made e none =
    by mode (clause_at policy method Exceptional) (ap (λ (m : Block). m.handler) (made_is policy mode method base made e) ∙ none)
  where
    by : (m : Mode) (o : Option Clause) → from_handler m (bools_of policy) base (length (front m (bools_of policy) base
        (clauses_of policy method).before))
        (record { before = (clauses_of policy method).before; after = (clauses_of policy method).after; exceptional = o }) ≡ None
        → (m ≡ Release) × (o ≡ None)
    by Release None e = (refl, refl)
    by Release (Some clause) e = absurd cc
    by Hold o e = absurd cc

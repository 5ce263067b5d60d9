-- A block flows as the graph tells.
use Rattle.std.proofs.Common.{
  ◌≡◌,
  ℕ,
  ◌+◌,
  Bool,
  true,
  false,
  List,
  [],
  ◌∷◌,
  ◌++◌,
  length,
  map,
  Option,
  Some,
  None,
  length-append,
  refl,
  ap,
  subst,
  sym,
  ◌∙◌,
  arith,
}
use Rattle.std.specs.Prelude.{IfSome, if◌then◌else◌, is_some}
use Rattle.std.specs.Option.{option_map_or}
use Rattle.cert_format.specs.declared.certificate.Mode.{Mode}
use Rattle.cert_format.specs.declared.certificate.Mode.TheVariants.{Hold, Release}
use Rattle.conspec_tree.specs.declared.types.Phase.TheVariants.{Before, After, Exceptional}
use Rattle.conspec_automaton.specs.declared.policy.Clause.{Clause}
use Rattle.block_template.specs.declared.item.Item.{Item}
use Rattle.block_template.specs.declared.item.Role.{Role}
use Rattle.block_template.specs.declared.item.Role.TheVariants as roles
use Rattle.block_template.specs.Blocks.{
  Clauses,
  following,
  call,
  called,
  catches,
  caught,
  checked,
  from_call,
  front,
  lets_pass,
  handler,
  handler_at,
  is_locked,
  items,
  kept,
  leave,
  released,
  rethrow,
  with_handler,
}
use Rattle.block_template.specs.Flow.{AreForPhases, BlocksFlow, entered, keeps_result, locked_for, after_return, role_at, thrown}
use Rattle.block_template.specs.Parts.{give, if_reached, keep, loads, lock, save, unlock, unreached}
use Rattle.block_template.proofs.Laying.{Laid, entry, laid_all, laid_end, laid_entry, laid_left, laid_right, row_got}
use Rattle.block_template.proofs.Sizes.{keep_length, reached_length, save_length}
use Rattle.block_template.proofs.CheckFlows.{Led, Row, empty, ended, go, join, lock_leads, role_of, unlock_leads, unreached_lead}
use Rattle.block_template.proofs.PartFlows.{
  all_loaded,
  all_saved,
  call_row,
  checked_leads,
  give_leads,
  keep_leads,
  leave_row,
  released_leads,
  rethrow_leads,
}

module _ (bools : List Bool) (base : ℕ) (clauses : Clauses) (end : ℕ) (there : ℕ → Role) where
  -- ---- before the call

  front_leads : (mode : Mode) (o : Option Clause) → clauses.before ≡ o → IfSome o (λ c. c.phase ≡ Before) → (t : Role)
      → (lets_pass o ≡ true → t ≡ roles.Call (is_locked mode))
      → Laid there role_of 0 (front mode bools base o) t
      → Led mode bools base clauses end there (entered mode o) (front mode bools base o) t
  front_leads Release None is for t ends placed =
      ended Release bools base clauses end there [] (sym (ends refl)) (empty Release bools base clauses end there (roles.Call false))
  front_leads Hold None is for t ends placed =
      ended Hold bools base clauses end there (lock Before) (ap (λ (o : Option Clause). locked_for o Before) is ∙ sym (ends refl))
      (lock_leads Hold bools base clauses end there Before)
  front_leads Release (Some clause) is for t ends placed =
      let args = clause.args in
      let later = loads false base 0 args in
      let rest = released bools base (length args) clause later in
      let size : 0 + length (save base 0 args) ≡ length args = omega (arith, save_length base 0 args) in
      join Release bools base clauses end there (save base 0 args) rest (all_saved Release bools base clauses end there clause is)
      (released_leads Release bools base clauses end there Before clause is for refl (length args) later t
      (λ goes. all_loaded Release bools base clauses end there false clause is t (ends goes))
      (laid_right there role_of 0 (length args) (save base 0 args) rest t size placed))
  front_leads Hold (Some clause) is for t ends placed =
      let args = clause.args in
      let later = loads true base 0 args in
      let test = checked bools base (length args + 2) clause later in
      let size : 0 + length (save base 0 args) ≡ length args = omega (arith, save_length base 0 args) in
      join Hold bools base clauses end there (save base 0 args) (lock Before ++ test)
      (all_saved Hold bools base clauses end there clause is)
      (join Hold bools base clauses end there (lock Before) test
      (ended Hold bools base clauses end there (lock Before) (ap (λ (o : Option Clause). locked_for o Before) is)
      (lock_leads Hold bools base clauses end there Before))
      (checked_leads Hold bools base clauses end there Before clause is for (length args + 2) later t
      (λ goes. all_loaded Hold bools base clauses end there true clause is t (ends goes))
      (laid_right there role_of (length args) (length args + 2) (lock Before) test t refl
      (laid_right there role_of 0 (length args) (save base 0 args) (lock Before ++ test) t size placed))))

  -- ---- after it, where it returns

  after_leads : (mode : Mode) (o : Option Clause) → clauses.after ≡ o → IfSome o (λ c. c.phase ≡ After) → (at : ℕ) (t : Role)
      → (lets_pass o ≡ true → t ≡ roles.Leave)
      → Laid there role_of at (following mode bools base at o) t
      → Led mode bools base clauses end there (after_return mode o) (following mode bools base at o) t
  after_leads Release None is for at t ends placed =
      ended Release bools base clauses end there [] (sym (ends refl)) (empty Release bools base clauses end there roles.Leave)
  after_leads Hold None is for at t ends placed =
      let none : keeps_result clauses ≡ false = ap (λ (o : Option Clause). option_map_or (λ (c : Clause). is_some c.result) o false) is in
      ended Hold bools base clauses end there (unlock After false)
      (ap (λ (b : Bool). if b then roles.Give else roles.Leave) none ∙ sym (ends refl))
      (unlock_leads Hold bools base clauses end there After false)
  after_leads Release (Some clause) is for at t ends placed =
      let first = keep false base clause.result in
      let later = give base clause.result in
      let to = at + kept clause.result in
      let rest = released bools base to clause later in
      join Release bools base clauses end there first rest (keep_leads Release bools base clauses end there false clause is)
      (released_leads Release bools base clauses end there After clause is for refl to later t
      (λ goes. give_leads Release bools base clauses end there clause is t (ends goes))
      (laid_right there role_of at to first rest t (ap (λ k. at + k) (keep_length false base clause.result)) placed))
  after_leads Hold (Some clause) is for at t ends placed =
      let first = keep true base clause.result in
      let later = give base clause.result in
      let to = at + kept clause.result in
      let rest = checked bools base to clause (unlock After true ++ later) in
      join Hold bools base clauses end there first rest (keep_leads Hold bools base clauses end there true clause is)
      (checked_leads Hold bools base clauses end there After clause is for to (unlock After true ++ later) t
      (λ goes. join Hold bools base clauses end there (unlock After true) later (unlock_leads Hold bools base clauses end there After true)
      (give_leads Hold bools base clauses end there clause is t (ends goes)))
      (laid_right there role_of at to first rest t (ap (λ k. at + k) (keep_length true base clause.result)) placed))

  -- ---- where it throws

  handler_leads : (mode : Mode) (o : Option Clause) → clauses.exceptional ≡ o → IfSome o (λ c. c.phase ≡ Exceptional)
      → catches mode o ≡ true → (at : ℕ) (t : Role)
      → Laid there role_of at (handler mode bools base at o) t
      → Led mode bools base clauses end there (thrown mode o) (handler mode bools base at o) t
  handler_leads Release None is for caught at t placed = absurd cc
  handler_leads Hold None is for caught at t placed =
      join Hold bools base clauses end there (unlock Exceptional false) rethrow
      (unlock_leads Hold bools base clauses end there Exceptional false)
      (rethrow_leads Hold bools base clauses end there t)
  handler_leads Release (Some clause) is for caught at t placed =
      released_leads Release bools base clauses end there Exceptional clause is for refl at rethrow t
      (λ goes. rethrow_leads Release bools base clauses end there t) placed
  handler_leads Hold (Some clause) is for caught at t placed =
      checked_leads Hold bools base clauses end there Exceptional clause is for at (unlock Exceptional true ++ rethrow) t
      (λ goes. join Hold bools base clauses end there (unlock Exceptional true) rethrow
      (unlock_leads Hold bools base clauses end there Exceptional true)
      (rethrow_leads Hold bools base clauses end there t)) placed

  -- ---- the whole

  module _ (mode : Mode) (phases : AreForPhases clauses) where
    abbrev LeadsTo : Role → List Item → Role → Type 0
    LeadsTo s part t = Led mode bools base clauses end there s part t

    abbrev handler_from : ℕ → List Item
    handler_from at = handler mode bools base at clauses.exceptional

    -- the jump over the handler, if it is reached, with the handler, which begins at `at`
    abbrev over : Bool → ℕ → List Item
    over b at = if_reached b (leave (at + length (handler_from at)) ∷ []) ++ handler_from at

    handler_placed : (b : Bool) (at : ℕ) → Laid there role_of at (over b (at + 1)) roles.Leave
        → Laid there role_of (at + 1) (handler_from (at + 1)) roles.Leave
    handler_placed b at placed =
        let first = if_reached b (leave (at + 1 + length (handler_from (at + 1))) ∷ []) in
        laid_right there role_of at (at + 1) first (handler_from (at + 1)) roles.Leave (ap (λ k. at + k) (reached_length b _)) placed

    over_leads : (b : Bool) → catches mode clauses.exceptional ≡ true → (at : ℕ) → at + 1 + length (handler_from (at + 1)) ≡ end
        → Laid there role_of at (over b (at + 1)) roles.Leave
        → LeadsTo (if b then roles.Leave else roles.Unreached) (over b (at + 1)) roles.Leave
    over_leads true has at ends placed =
        let stands = handler_placed true at placed in
        go mode bools base clauses end there _ _
        (leave_row mode bools base clauses end there _ _ ends (laid_end there role_of (at + 1) (handler_from (at + 1)) roles.Leave stands))
        (handler_leads mode clauses.exceptional refl phases.exceptional has (at + 1) roles.Leave stands)
    over_leads false has at ends placed =
        go mode bools base clauses end there _ _ (λ reached. absurd (reached refl))
        (handler_leads mode clauses.exceptional refl phases.exceptional has (at + 1) roles.Leave (handler_placed false at placed))

    abbrev if_caught : Bool → ℕ → List Item
    if_caught b at = if b then with_handler mode bools base (at + 1) clauses else []

    -- What stands after a call that returns begins with the block's end, where that is reached.
    pub record Ends (part : List Item) : Type 0 where
      pub leads : LeadsTo (entry role_of part roles.Leave) part roles.Leave
      pub left : lets_pass clauses.after ≡ true → entry role_of part roles.Leave ≡ roles.Leave

    over_ends : (b : Bool) (at : ℕ) → at + length (over b (at + 1)) ≡ end → at + 1 + length (handler_from (at + 1)) ≡ end
    over_ends b at ends =
        let first = leave (at + 1 + length (handler_from (at + 1))) ∷ [] in
        omega (arith, ends, length-append (if_reached b first) (handler_from (at + 1)), reached_length b first)

    caught_ends : (b : Bool) → catches mode clauses.exceptional ≡ b → (at : ℕ) → at + length (if_caught b at) ≡ end
        → Laid there role_of at (if_caught b at) roles.Leave → Ends (if_caught b at)
    caught_ends false has at ends placed = record { leads = empty mode bools base clauses end there roles.Leave; left = λ goes. refl }
    caught_ends true has at ends placed =
        let led = over_leads (lets_pass clauses.after) has at (over_ends (lets_pass clauses.after) at ends) placed in
        record {
          leads = record { enters = refl; runs = led.runs };
          left = λ goes. led.enters ∙ ap (λ (b : Bool). if b then roles.Leave else roles.Unreached) goes;
        }

    abbrev calls : ℕ → List Item
    calls at = called mode bools base at clauses

    abbrev catching : ℕ → List Item
    catching at = caught mode bools base (at + length (calls at)) clauses

    caught_placed : (at : ℕ) → Laid there role_of at (from_call mode bools base at clauses) roles.Leave
        → Laid there role_of (at + length (calls at)) (catching at) roles.Leave
    caught_placed at placed = laid_right there role_of at (at + length (calls at)) (calls at) (catching at) roles.Leave refl placed

    from_call_leads : (at : ℕ) → at + length (from_call mode bools base at clauses) ≡ end
        → Laid there role_of at (from_call mode bools base at clauses) roles.Leave
        → LeadsTo (roles.Call (is_locked mode)) (from_call mode bools base at clauses) roles.Leave
    from_call_leads at total placed =
        let rest = catching at in
        let left : at + length (calls at) + length rest ≡ end = omega (arith, total, length-append (calls at) rest) in
        let t = entry role_of rest roles.Leave in
        let ends = caught_ends (catches mode clauses.exceptional) refl (at + length (calls at)) left (caught_placed at placed) in
        let first = laid_left there role_of at (calls at) rest roles.Leave placed in
        let part = following mode bools base (at + 1) clauses.after in
        join mode bools base clauses end there (calls at) rest
        (go mode bools base clauses end there (call mode) part (call_row mode bools base clauses end there)
        (after_leads mode clauses.after refl phases.after (at + 1) t ends.left first.1)) ends.leads

    abbrev before : List Item
    before = front mode bools base clauses.before

    abbrev onwards : List Item
    onwards = from_call mode bools base (length before) clauses

    onwards_placed : (b : Bool) → Laid there role_of 0 (before ++ if_reached b onwards) roles.Leave
        → Laid there role_of (length before) (if_reached b onwards) roles.Leave
    onwards_placed b placed =
        let size : 0 + length before ≡ length before = omega arith in
        laid_right there role_of 0 (length before) before (if_reached b onwards) roles.Leave size placed

    block_leads : (b : Bool) → lets_pass clauses.before ≡ b → length (before ++ if_reached b onwards) ≡ end
        → Laid there role_of 0 (before ++ if_reached b onwards) roles.Leave
        → LeadsTo (entered mode clauses.before) (before ++ if_reached b onwards) roles.Leave
    block_leads true goes total placed =
        let ends : length before + length onwards ≡ end = omega (arith, total, length-append before onwards) in
        let later = from_call_leads (length before) ends (onwards_placed true placed) in
        let first = subst (λ r. Laid there role_of 0 before r) later.enters (laid_left there role_of 0 before onwards roles.Leave placed) in
        join mode bools base clauses end there before onwards
        (front_leads mode clauses.before refl phases.before (roles.Call (is_locked mode)) (λ goes. refl) first) later
    block_leads false goes total placed =
        let rest = map unreached onwards in
        join mode bools base clauses end there before rest
        (front_leads mode clauses.before refl phases.before (entry role_of rest roles.Leave) (λ other. absurd cc)
        (laid_left there role_of 0 before rest roles.Leave placed)) (unreached_lead mode bools base clauses end there onwards roles.Leave)

    caught_at : (b : Bool) → catches mode clauses.exceptional ≡ b → (at : ℕ) → Laid there role_of at (if_caught b at) roles.Leave
        → IfSome (if b then Some (at + 1) else None) (λ place. there place ≡ thrown mode clauses.exceptional)
    caught_at false has at placed = tt
    caught_at true has at placed =
        let stands = handler_placed (lets_pass clauses.after) at placed in
        let led = handler_leads mode clauses.exceptional refl phases.exceptional has (at + 1) roles.Leave stands in
        laid_entry there role_of (at + 1) (handler_from (at + 1)) roles.Leave stands ∙ led.enters

    block_catches : lets_pass clauses.before ≡ true → Laid there role_of 0 (items mode bools base clauses) roles.Leave
        → IfSome (handler_at mode bools base clauses) (λ place. there place ≡ thrown mode clauses.exceptional)
    block_catches goes placed =
        let all = subst (λ b. Laid there role_of 0 (before ++ if_reached b onwards) roles.Leave) goes placed in
        caught_at (catches mode clauses.exceptional) refl (length before + length (calls (length before)))
        (caught_placed (length before) (onwards_placed true all))

handles_as : (mode : Mode) (bools : List Bool) (base : ℕ) (clauses : Clauses)
    → is_some (handler_at mode bools base clauses) ≡ catches mode clauses.exceptional
handles_as mode bools base clauses = by (catches mode clauses.exceptional) _
  where
    by : (b : Bool) (place : ℕ) → is_some (if b then Some place else None) ≡ b
    by true place = refl
    by false place = refl

pub blocks_flow : BlocksFlow
blocks_flow mode bools base clauses phases =
    let all = items mode bools base clauses in
    let end = length all in
    let there = role_at all in
    let laid = laid_all role_of all roles.Leave in
    let led = block_leads bools base clauses end there mode phases (lets_pass clauses.before) refl refl laid in
    record {
      begins = laid_entry there role_of 0 all roles.Leave laid ∙ led.enters;
      goes = λ at i got reached. row_got (Row mode bools base clauses end there) role_of all roles.Leave at i led.runs got reached;
      handles = handles_as mode bools base clauses;
      caught = λ goes. block_catches bools base clauses end there mode phases goes laid;
    }

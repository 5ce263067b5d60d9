-- What a block does before its call, after it, and where it throws.
use Rattle.std.proofs.Common.{
  ◌≡◌,
  ℕ,
  ◌+◌,
  ◌≤◌,
  Bool,
  true,
  false,
  List,
  [],
  ◌∷◌,
  ◌++◌,
  length,
  map,
  Option,
  Some,
  None,
  refl,
  sym,
  ap,
  ◌∙◌,
  arith,
  append_assoc,
  length-append,
}
use Rattle.std.specs.Prelude.{find, option_map, reverse}
use Rattle.std.proofs.lemmas.List.{map-append}
use Rattle.api_listing.specs.declared.events.Event.{Event}
use Rattle.cert_format.specs.declared.certificate.Mode.{Mode}
use Rattle.cert_format.specs.declared.certificate.Mode.TheVariants.{Hold, Release}
use Rattle.conspec_tree.specs.declared.types.Phase.TheVariants.{Before, After, Exceptional}
use Rattle.conspec_automaton.specs.declared.policy.Branch.{Branch}
use Rattle.conspec_automaton.specs.declared.policy.Clause.{Clause}
use Rattle.conspec_automaton.specs.Next.{Values, is_taken, moment, next_by, updated}
use Rattle.offset_patch.specs.declared.block.BlockInsn.{BlockInsn}
use Rattle.block_template.specs.declared.item.Item.{Item}
use Rattle.block_template.specs.Blocks.{checked, front, handler, is_locked, lets_pass, released, rethrow}
use Rattle.block_template.specs.Parts.{branches_size, check, if_reached, loads, lock, save, unlock}
use Rattle.block_template.proofs.Goods.{insns_of, same_reached}
use Rattle.block_template.proofs.Sizes.{check_length, reached_length, save_length}
use Rattle.guest_heap.specs.declared.value.Value.{Value}
use Rattle.guest_heap.specs.declared.value.Value.TheVariants as values
use Rattle.guest_frames.specs.Values.{is_null}
use Rattle.guest_model.proofs.Options.{map_of}
use Rattle.block_runs.specs.Spots.{Spot}
use Rattle.block_runs.specs.Running.{End, Thrown, block_run, gone}
use Rattle.block_runs.specs.Passed.{AreOfKinds}
use Rattle.block_runs.specs.Transparent.{refused}
use Rattle.block_runs.proofs.Checks.{branches_stop, branches_take}
use Rattle.block_runs.proofs.Locals.{saved_there, with_saved}
use Rattle.block_runs.proofs.Moves.{spot_at}
use Rattle.block_runs.proofs.Moves as moves
use Rattle.block_runs.proofs.Parts.{Leads, both, loaded, locks, runs, saves, skips, unlocks}
use Rattle.block_runs.proofs.Told.{CanCheck}

module _ (state : ℕ) where
  -- ---- at a place

  -- A run of the part, which stands at this place, goes from one spot to another; or it ends.
  abbrev pub LeadsAt : ℕ → List Item → Spot → Spot → Type 0
  LeadsAt at part spot after = (rest : List Item) → runs state (part ++ rest) at spot ≡ runs state rest (at + length part) after

  abbrev pub EndsAt : ℕ → List Item → Spot → End → Type 0
  EndsAt at part spot end = (rest : List Item) → runs state (part ++ rest) at spot ≡ end

  pub joins : (at to : ℕ) (part other : List Item) (spot middle after : Spot) → at + length part ≡ to → LeadsAt at part spot middle
      → LeadsAt to other middle after
      → LeadsAt at (part ++ other) spot after
  joins at to part other spot middle after e first second rest =
      let there : to + length other ≡ at + length (part ++ other) = omega (arith, e, length-append part other) in
      ap (λ (xs : List Item). runs state xs at spot) (append_assoc part other rest) ∙ first (other ++ rest)
      ∙ ap (λ (n : ℕ). runs state (other ++ rest) n middle) e ∙ second rest ∙ ap (λ (n : ℕ). runs state rest n after) there

  pub joins_end : (at to : ℕ) (part other : List Item) (spot middle : Spot) (end : End) → at + length part ≡ to
      → LeadsAt at part spot middle → EndsAt to other middle end
      → EndsAt at (part ++ other) spot end
  joins_end at to part other spot middle end e first second rest =
      ap (λ (xs : List Item). runs state xs at spot) (append_assoc part other rest) ∙ first (other ++ rest)
      ∙ ap (λ (n : ℕ). runs state (other ++ rest) n middle) e ∙ second rest

  pub ends_first : (at : ℕ) (part other : List Item) (spot : Spot) (end : End) → EndsAt at part spot end
      → EndsAt at (part ++ other) spot end
  ends_first at part other spot end first rest = ap (λ (xs : List Item). runs state xs at spot) (append_assoc part other rest)
      ∙ first (other ++ rest)

  -- What is told to be unreached has the same instructions.
  pub skips_reached : (b : Bool) (part rest : List Item) (at skip : ℕ) (spot : Spot)
      → skips state (if_reached b part ++ rest) at skip spot ≡ skips state (part ++ rest) at skip spot
  skips_reached b part rest at skip spot =
      let same : insns_of (if_reached b part ++ rest) ≡ insns_of (part ++ rest) =
      map-append (λ (i : Item). i.insn) (if_reached b part) rest ∙ ap (λ (xs : List BlockInsn). xs ++ insns_of rest) (same_reached b part)
      ∙ sym (map-append (λ (i : Item). i.insn) part rest) in
      ap (λ (xs : List BlockInsn). block_run state xs at skip spot) same

  pub reached_leads : (b : Bool) (at : ℕ) (part : List Item) (spot after : Spot) → LeadsAt at part spot after
      → LeadsAt at (if_reached b part) spot after
  reached_leads b at part spot after leads rest =
      skips_reached b part rest at 0 spot ∙ leads rest ∙ ap (λ (n : ℕ). runs state rest (at + n) after) (sym (reached_length b part))

  pub reached_ends : (b : Bool) (at : ℕ) (part : List Item) (spot : Spot) (end : End) → EndsAt at part spot end
      → EndsAt at (if_reached b part) spot end
  reached_ends b at part spot end ends rest = skips_reached b part rest at 0 spot ∙ ends rest

  -- what is thrown on
  pub rethrows : (at size : ℕ) (items locals fields : List Value) (v : Value) → is_null v ≡ false
      → EndsAt at rethrow (spot_at size (v ∷ items) locals fields false) (Thrown v (spot_at size (v ∷ items) locals fields false))
  unfolding block_run
  rethrows at size items locals fields v there rest =
      ap (gone (block_run state (insns_of rest) (at + 1)) at (spot_at size (v ∷ items) locals fields false)) (moves.throws state size
      (at + 1) items locals fields false v there)

  -- ---- a check

  module _ (size : ℕ) (bools : List Bool) (base : ℕ) (event : Event) (now : Values) (clause : Clause) where
    abbrev pub kept_at : List Value → List Value → Values → Bool → Spot
    kept_at items locals v locked = spot_at size items locals (map values.Int v) locked

    module _ (items locals : List Value) (room : length items + 2 ≤ size) (can : CanCheck event now base locals clause) where
      module _ (new : Values) (accepts : next_by clause (moment now event) ≡ Some new) where
        -- the check is passed, with the updates made
        check_passes : (at : ℕ) → LeadsAt at (check bools base at clause) (kept_at items locals now true) (kept_at items locals new true)
        check_passes at rest =
            let taken = map_of (λ (b : Branch). updated (moment now event) b.updates) (find (is_taken
            (moment now event)) clause.branches) new accepts in
            let done : ℕ = at + branches_size clause.branches in
            branches_take state size bools base clause.phase items locals true event room now 0 at done clause.branches taken.0 rest
            can.asks taken.1
            (can.makes taken.0 taken.1) refl
            ∙ ap (λ (v : Values). runs state rest done (kept_at items locals v true)) taken.2
            ∙ ap (λ (n : ℕ). runs state rest (at + n) (kept_at items locals new true)) (sym (check_length bools base at clause))

        pub checked_leads : (at to : ℕ) (later : List Item) (after : Spot) → at + branches_size clause.branches ≡ to
            → LeadsAt to later (kept_at items locals new true) after
            → LeadsAt at (checked bools base at clause later) (kept_at items locals now true) after
        checked_leads at to later after e leads =
            joins at to (check bools base at clause) (if_reached (lets_pass (Some clause)) later) (kept_at items locals now true)
            (kept_at items locals new true) after
            (ap (λ (n : ℕ). at + n) (check_length bools base at clause) ∙ e) (check_passes at)
            (reached_leads (lets_pass (Some clause)) to later (kept_at items locals new true) after leads)

        pub checked_ends : (at to : ℕ) (later : List Item) (end : End) → at + branches_size clause.branches ≡ to
            → EndsAt to later (kept_at items locals new true) end
            → EndsAt at (checked bools base at clause later) (kept_at items locals now true) end
        checked_ends at to later end e ends =
            joins_end at to (check bools base at clause) (if_reached (lets_pass (Some clause)) later) (kept_at items locals now true)
            (kept_at items locals new true) end
            (ap (λ (n : ℕ). at + n) (check_length bools base at clause) ∙ e) (check_passes at)
            (reached_ends (lets_pass (Some clause)) to later (kept_at items locals new true) end ends)

        -- the same under the lock, which is taken before and left after
        pub released_leads : (at : ℕ) (later : List Item) (after : Spot) → Leads state later (kept_at items locals new false) after
            → LeadsAt at (released bools base at clause later) (kept_at items locals now false) after
        released_leads at later after leads =
            let locked : Spot = kept_at items locals now true in
            let made : Spot = kept_at items locals new true in
            let free : Spot = kept_at items locals new false in
            let to : ℕ = at + 2 + branches_size clause.branches in
            joins at (at + 2) (lock clause.phase) (checked bools base (at + 2) clause (unlock clause.phase true ++ later))
            (kept_at items locals now false) locked after refl
            (locks state size (map values.Int now) items locals clause.phase (omega (arith, room)) at)
            (checked_leads (at + 2) to (unlock clause.phase true ++ later) after refl
            (both state (unlock clause.phase true) later made free after (unlocks state size
            (map values.Int new) items locals clause.phase true (omega (arith, room))) leads to))

        pub released_ends : (at : ℕ) (later : List Item) (end : End) → ((to : ℕ) → EndsAt to later (kept_at items locals new false) end)
            → EndsAt at (released bools base at clause later) (kept_at items locals now false) end
        released_ends at later end ends =
            let locked : Spot = kept_at items locals now true in
            let made : Spot = kept_at items locals new true in
            let free : Spot = kept_at items locals new false in
            let to : ℕ = at + 2 + branches_size clause.branches in
            joins_end at (at + 2) (lock clause.phase) (checked bools base (at + 2) clause (unlock clause.phase true ++ later))
            (kept_at items locals now false) locked end refl
            (locks state size (map values.Int now) items locals clause.phase (omega (arith, room)) at)
            (checked_ends (at + 2) to (unlock clause.phase true ++ later) end refl
            (joins_end to (to + 2) (unlock clause.phase true) later made free end refl
            (unlocks state size (map values.Int new) items locals clause.phase true (omega (arith, room)) to) (ends (to + 2))))

      -- Where the clause refuses, the program is stopped.
      module _ (refuses : next_by clause (moment now event) ≡ None) where
        check_stops : (at : ℕ) → EndsAt at (check bools base at clause) (kept_at items locals now true) refused
        check_stops at rest =
            branches_stop state size bools base clause.phase items locals true event room now 0 at
            (at + branches_size clause.branches) clause.branches rest can.asks
            (none_found (find (is_taken (moment now event)) clause.branches) refuses)
          where
            none_found : (o : Option Branch) → option_map (λ (b : Branch). updated (moment now event) b.updates) o ≡ None → o ≡ None
            none_found None e = refl
            none_found (Some b) e = absurd cc

        pub checked_stops : (at : ℕ) (later : List Item) → EndsAt at (checked bools base at clause later)
            (kept_at items locals now true) refused
        checked_stops at later =
            ends_first at (check bools base at clause) (if_reached (lets_pass (Some clause)) later)
            (kept_at items locals now true) refused (check_stops at)

        pub released_stops : (at : ℕ) (later : List Item) → EndsAt at (released bools base at clause later)
            (kept_at items locals now false) refused
        released_stops at later =
            joins_end at (at + 2) (lock clause.phase) (checked bools base (at + 2) clause (unlock clause.phase true ++ later))
            (kept_at items locals now false)
            (kept_at items locals now true) refused refl (locks state size (map values.Int now) items locals clause.phase (omega
            (arith, room)) at)
            (checked_stops (at + 2) (unlock clause.phase true ++ later))

    -- ---- before the call

    module _ (arguments beneath locals : List Value) (of_kinds : AreOfKinds clause.args arguments)
        (inside : base + length clause.args ≤ length locals)
        (count : length arguments ≡ length clause.args) (room : length arguments + length beneath + 2 ≤ size) where
      -- the locals in which the arguments are kept
      abbrev pub with_arguments : List Value
      with_arguments = with_saved (base + 0) arguments locals

      abbrev pub passed : List Value
      passed = reverse arguments ++ beneath

      few : length beneath + 2 ≤ size
      few = omega (arith, room)

      saved : (locked : Bool) → Leads state (save base 0 clause.args) (kept_at passed locals now locked)
          (kept_at beneath with_arguments now locked)
      saved locked = saves state size (map values.Int now) base 0 clause.args arguments beneath locals locked of_kinds (omega
          (arith, inside)) (omega (arith, room))

      given_back : (held : Bool) (v : Values) (locked : Bool)
          → Leads state (loads held base 0 clause.args) (kept_at beneath with_arguments v locked) (kept_at passed with_arguments v locked)
      given_back held v locked =
          loaded state size (map values.Int v) held base 0 clause.args arguments beneath with_arguments locked of_kinds
          (saved_there (base + 0) arguments locals (omega (arith, inside, count))) (omega (arith, room))

      module _ (can : CanCheck event now base with_arguments clause) where
        pub front_leads : (mode : Mode) (new : Values) → next_by clause (moment now event) ≡ Some new
            → LeadsAt 0 (front mode bools base (Some clause)) (kept_at passed locals now false) (kept_at passed with_arguments new
            (is_locked mode))
        front_leads Release new accepts =
            let many : ℕ = length clause.args in
            let later : List Item = loads false base 0 clause.args in
            joins 0 many (save base 0 clause.args) (released bools base many clause later) (kept_at passed locals now false)
            (kept_at beneath with_arguments now false)
            (kept_at passed with_arguments new false) (omega (arith, save_length base 0 clause.args)) (saved false 0)
            (released_leads beneath with_arguments few can new accepts many later (kept_at passed with_arguments new false)
            (given_back false new false))
        front_leads Hold new accepts =
            let many : ℕ = length clause.args in
            let later : List Item = loads true base 0 clause.args in
            let to : ℕ = many + 2 + branches_size clause.branches in
            joins 0 many (save base 0 clause.args) (lock Before ++ checked bools base (many + 2) clause later)
            (kept_at passed locals now false)
            (kept_at beneath with_arguments now false) (kept_at passed with_arguments new true) (omega
            (arith, save_length base 0 clause.args)) (saved false 0)
            (joins many (many + 2) (lock Before) (checked bools base (many + 2) clause later) (kept_at beneath with_arguments now false)
            (kept_at beneath with_arguments now true) (kept_at passed with_arguments new true) refl
            (locks state size (map values.Int now) beneath with_arguments Before (omega (arith, room)) many)
            (checked_leads beneath with_arguments few can new accepts (many + 2) to later
            (kept_at passed with_arguments new true) refl (given_back true new true to)))

        pub front_stops : (mode : Mode) → next_by clause (moment now event) ≡ None
            → EndsAt 0 (front mode bools base (Some clause)) (kept_at passed locals now false) refused
        front_stops Release refuses =
            let many : ℕ = length clause.args in
            let later : List Item = loads false base 0 clause.args in
            joins_end 0 many (save base 0 clause.args) (released bools base many clause later) (kept_at passed locals now false)
            (kept_at beneath with_arguments now false)
            refused (omega (arith, save_length base 0 clause.args)) (saved false 0)
            (released_stops beneath with_arguments few can refuses many later)
        front_stops Hold refuses =
            let many : ℕ = length clause.args in
            let later : List Item = loads true base 0 clause.args in
            joins_end 0 many (save base 0 clause.args) (lock Before ++ checked bools base (many + 2) clause later)
            (kept_at passed locals now false)
            (kept_at beneath with_arguments now false) refused (omega (arith, save_length base 0 clause.args)) (saved false 0)
            (joins_end many (many + 2) (lock Before) (checked bools base (many + 2) clause later)
            (kept_at beneath with_arguments now false)
            (kept_at beneath with_arguments now true) refused refl
            (locks state size (map values.Int now) beneath with_arguments Before (omega (arith, room)) many)
            (checked_stops beneath with_arguments few can refuses (many + 2) later))

    -- ---- after it, where it returns: what is kept is given back

    module _ (kept_part given : List Item) (items beneath locals with_result : List Value) (room : length beneath + 2 ≤ size)
        (keeps : (locked : Bool) → Leads state kept_part (kept_at items locals now locked) (kept_at beneath with_result now locked))
        (gives : (v : Values) (locked : Bool) → Leads state given (kept_at beneath with_result v locked)
        (kept_at items with_result v locked))
        (can : CanCheck event now base with_result clause) where
      -- in mode release
      pub after_released : (at to : ℕ) (new : Values) → at + length kept_part ≡ to → next_by clause (moment now event) ≡ Some new
          → LeadsAt at (kept_part ++ released bools base to clause given) (kept_at items locals now false)
          (kept_at items with_result new false)
      after_released at to new e accepts =
          joins at to kept_part (released bools base to clause given) (kept_at items locals now false)
          (kept_at beneath with_result now false) (kept_at items with_result new false) e
          (keeps false at) (released_leads beneath with_result room can new accepts to given (kept_at items with_result new false)
          (gives new false))

      pub after_stops_released : (at to : ℕ) → at + length kept_part ≡ to → next_by clause (moment now event) ≡ None
          → EndsAt at (kept_part ++ released bools base to clause given) (kept_at items locals now false) refused
      after_stops_released at to e refuses =
          joins_end at to kept_part (released bools base to clause given) (kept_at items locals now false)
          (kept_at beneath with_result now false) refused e (keeps false at)
          (released_stops beneath with_result room can refuses to given)

      -- in mode hold
      pub after_held : (at to : ℕ) (new : Values) → at + length kept_part ≡ to → next_by clause (moment now event) ≡ Some new
          → LeadsAt at (kept_part ++ checked bools base to clause (unlock After true ++ given)) (kept_at items locals now true)
          (kept_at items with_result new false)
      after_held at to new e accepts =
          let end : ℕ = to + branches_size clause.branches in
          joins at to kept_part (checked bools base to clause (unlock After true ++ given)) (kept_at items locals now true)
          (kept_at beneath with_result now true)
          (kept_at items with_result new false) e (keeps true at)
          (checked_leads beneath with_result room can new accepts to end (unlock After true ++ given)
          (kept_at items with_result new false) refl
          (both state (unlock After true) given (kept_at beneath with_result new true) (kept_at beneath with_result new false)
          (kept_at items with_result new false)
          (unlocks state size (map values.Int new) beneath with_result After true (omega (arith, room))) (gives new false) end))

      pub after_stops_held : (at to : ℕ) → at + length kept_part ≡ to → next_by clause (moment now event) ≡ None
          → EndsAt at (kept_part ++ checked bools base to clause (unlock After true ++ given)) (kept_at items locals now true) refused
      after_stops_held at to e refuses =
          joins_end at to kept_part (checked bools base to clause (unlock After true ++ given)) (kept_at items locals now true)
          (kept_at beneath with_result now true) refused e
          (keeps true at) (checked_stops beneath with_result room can refuses to (unlock After true ++ given))

    -- ---- where it throws

    module _ (v : Value) (there : is_null v ≡ false) (locals : List Value) (room : 1 + 2 ≤ size)
        (can : CanCheck event now base locals clause) where
      abbrev caught : List Value
      caught = v ∷ []

      pub handler_throws : (mode : Mode) (new : Values) (at : ℕ) → next_by clause (moment now event) ≡ Some new
          → EndsAt at (handler mode bools base at (Some clause)) (kept_at caught locals now (is_locked mode)) (Thrown v
          (kept_at caught locals new false))
      handler_throws Release new at accepts =
          released_ends caught locals room can new accepts at rethrow (Thrown v (kept_at caught locals new false))
          (λ to. rethrows to size [] locals (map values.Int new) v there)
      handler_throws Hold new at accepts =
          let to : ℕ = at + branches_size clause.branches in
          checked_ends caught locals room can new accepts at to (unlock Exceptional true ++ rethrow) (Thrown v
          (kept_at caught locals new false)) refl
          (joins_end to (to + 2) (unlock Exceptional true) rethrow (kept_at caught locals new true) (kept_at caught locals new false)
          (Thrown v (kept_at caught locals new false)) refl
          (unlocks state size (map values.Int new) caught locals Exceptional true (omega (arith, room)) to) (rethrows
          (to + 2) size [] locals (map values.Int new) v there))

      pub handler_stops : (mode : Mode) (at : ℕ) → next_by clause (moment now event) ≡ None
          → EndsAt at (handler mode bools base at (Some clause)) (kept_at caught locals now (is_locked mode)) refused
      handler_stops Release at refuses = released_stops caught locals room can refuses at rethrow
      handler_stops Hold at refuses = checked_stops caught locals room can refuses at (unlock Exceptional true ++ rethrow)

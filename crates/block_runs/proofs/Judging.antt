-- What comes of an event before a call, after it and where it throws: in each the clause is asked, if there is one.
use Rattle.std.proofs.Common.{
  ◌≡◌,
  ℕ,
  ◌+◌,
  ◌<◌,
  ◌≤◌,
  Bool,
  true,
  false,
  List,
  [],
  ◌∷◌,
  ◌++◌,
  length,
  map,
  take,
  Option,
  Some,
  None,
  refl,
  sym,
  ap,
  subst,
  arith,
  length-set,
}
use Rattle.std.specs.Prelude.{IfSome, option_and_then, reverse, slice_get, slice_set}
use Rattle.std.specs.Option.{option_map_or}
use Rattle.std.proofs.lemmas.List.{take-set-le}
use Rattle.api_listing.specs.declared.events.Event.{Event}
use Rattle.cert_format.specs.declared.certificate.Mode.{Mode}
use Rattle.cert_format.specs.declared.certificate.Mode.TheVariants.{Hold, Release}
use Rattle.conspec_tree.specs.declared.types.Kind.{Kind}
use Rattle.conspec_tree.specs.declared.types.Phase.TheVariants.{Before, After, Exceptional}
use Rattle.conspec_tree.specs.Tree.{asked}
use Rattle.conspec_automaton.specs.declared.policy.Clause.{Clause}
use Rattle.conspec_automaton.specs.declared.policy.Policy.{Policy}
use Rattle.conspec_automaton.specs.Next.{Values, argument, moment, next_by}
use Rattle.conspec_automaton.specs.Range.{in_range}
use Rattle.conspec_automaton.specs.Sound.{IsPolicy}
use Rattle.block_template.specs.declared.item.Item.{Item}
use Rattle.block_template.specs.declared.item.Role.TheVariants as roles
use Rattle.block_template.specs.Blocks.{catches, checked, following, front, handler, is_locked, kept, released, rethrow}
use Rattle.block_template.specs.Parts.{give, keep, unlock}
use Rattle.block_template.specs.Pushing.{load, store}
use Rattle.block_template.proofs.Policies.{IsOf}
use Rattle.block_template.proofs.Sizes.{keep_length}
use Rattle.guest_heap.specs.declared.value.Value.{Value}
use Rattle.guest_heap.specs.declared.value.Value.TheVariants as values
use Rattle.guest_frames.specs.Values.{is_null}
use Rattle.guest_model.specs.Parts.{number_in}
use Rattle.block_runs.specs.Spots.{Spot}
use Rattle.block_runs.specs.Running.{Thrown}
use Rattle.block_runs.specs.Passed.{AreOfKinds, ArePassed, IsGiven}
use Rattle.block_runs.specs.Transparent.{IsAfter, most_pushed, refused}
use Rattle.block_runs.proofs.Blocks.{
  EndsAt,
  LeadsAt,
  after_held,
  after_released,
  after_stops_held,
  after_stops_released,
  front_leads,
  front_stops,
  handler_stops,
  handler_throws,
  joins_end,
  rethrows,
}
use Rattle.block_runs.proofs.Locals.{on_top_count, saved_below, saved_count, saved_there, set_there, with_saved}
use Rattle.block_runs.proofs.Moves.{spot_at}
use Rattle.block_runs.proofs.Moves as moves
use Rattle.block_runs.proofs.Parts.{Leads, locks, nothing, one, unlocks}
use Rattle.block_runs.proofs.Told.{CanCheck, Told, arguments_told, can_check, none_told, result_told, thrown_told}

-- the state after an event for which this is the clause, if there is one
abbrev pub next_with : Option Clause → Values → Event → Option Values
next_with o now event = option_map_or (λ (clause : Clause). next_by clause (moment now event)) o (Some now)

-- Of a part that stands at a place: where the event is accepted it goes on so, else the program is stopped.
pub record JudgesPart (state : ℕ) (o : Option Clause) (event : Event) (now : Values) (base at : ℕ) (held : Bool) (part : List Item)
    (before : Spot) : Type 0 where
  pub accepts : (new : Values) → next_with o now event ≡ Some new →
      (after : Spot) × LeadsAt state at part before after × IsAfter base new held before after
  pub refuses : next_with o now event ≡ None → EndsAt state at part before refused

pub record ThrowsPart (state : ℕ) (o : Option Clause) (event : Event) (now : Values) (base at : ℕ) (v : Value) (part : List Item)
    (before : Spot) : Type 0 where
  pub accepts : (new : Values) → next_with o now event ≡ Some new
      → (after : Spot) × EndsAt state at part before (Thrown v after) × IsAfter base new false before after
  pub refuses : next_with o now event ≡ None → EndsAt state at part before refused

kinds_count : (kinds : List Kind) (values : List Value) → AreOfKinds kinds values → length values ≡ length kinds
kinds_count [] [] are = refl
kinds_count [] (v ∷ values) are = absurd are
kinds_count (kind ∷ kinds) [] are = absurd are
kinds_count (kind ∷ kinds) (v ∷ values) are = omega (arith, kinds_count kinds values are.1)

module _ (state : ℕ) (policy : Policy) (sound : IsPolicy policy) (bools : List Bool) (base : ℕ) (event : Event) (now : Values)
    (ranged : in_range policy now ≡ true) (size : ℕ) where
  abbrev at_spot : List Value → List Value → Values → Bool → Spot
  at_spot items locals v locked = spot_at size items locals (map values.Int v) locked

  -- Where there is no clause the state stays.
  stays : (new : Values) → next_with None now event ≡ Some new → now ≡ new
  stays new e = cc

  as_before : (held : Bool) (items locals : List Value) (new : Values) → now ≡ new → (locked : Bool)
      → IsAfter base new held (at_spot items locals now locked) (at_spot items locals now held)
  as_before held items locals new e locked =
      record { stack = refl; locals = refl; count = refl; fields = ap (λ (v : Values). map values.Int v) e; lock = refl }

  -- ---- before the call

  module _ (clause : Clause) (is : IsOf policy Before clause) (arguments beneath locals : List Value)
      (are : AreOfKinds clause.args arguments)
      (seen : (i : ℕ) → argument event i ≡ option_and_then number_in (slice_get arguments i))
      (inside : base + length clause.args ≤ length locals) (room : length arguments + length beneath + 2 ≤ size) where
    abbrev with_arguments : List Value
    with_arguments = with_saved (base + 0) arguments locals

    count : length arguments ≡ length clause.args
    count = kinds_count clause.args arguments are

    can_before : CanCheck event now base with_arguments clause
    can_before =
        can_check policy Before clause event now base with_arguments sound is ranged
        (arguments_told event (base + 0) base clause.args clause.result arguments with_arguments (omega arith) are
        (saved_there (base + 0) arguments locals (omega (arith, inside, count))) seen)

    front_judges : (mode : Mode) → JudgesPart state (Some clause) event now base 0 (is_locked mode) (front mode bools base
        (Some clause)) (at_spot (reverse arguments ++ beneath) locals now false)
    front_judges mode = record {
      accepts = λ new e. (
        at_spot (reverse arguments ++ beneath) with_arguments new (is_locked mode),
        front_leads state size bools base event now clause arguments beneath locals are inside count room can_before mode new e,
        record {
          stack = refl;
          locals = saved_below base (base + 0) arguments locals (omega arith);
          count = saved_count (base + 0) arguments locals;
          fields = refl;
          lock = refl;
        },
      );
      refuses = λ e. front_stops state size bools base event now clause arguments beneath locals are inside count room can_before mode e;
    }

  module _ (items locals : List Value) (room : length items + most_pushed ≤ size) where
    pub before_judges : (mode : Mode) (o : Option Clause) → IfSome o (IsOf policy Before) → IfSome o (λ c. ArePassed c.args event items)
        → base + option_map_or (λ (c : Clause). length c.args) o 0 ≤ length locals
        → JudgesPart state o event now base 0 (is_locked mode) (front mode bools base o) (at_spot items locals now false)
    before_judges Release None is passed inside = record {
      accepts = λ new e. (
        at_spot items locals now false,
        nothing state
            (at_spot items locals now false) 0,
        as_before false items locals new (stays new e) false,
      );
      refuses = λ e. absurd cc;
    }
    before_judges Hold None is passed inside = record {
      accepts = λ new e. (
        at_spot items locals now true,
        locks state size (map values.Int now) items locals Before (omega (arith, room)) 0,
        as_before true items locals new (stays new e) false,
      );
      refuses = λ e. absurd cc;
    }
    before_judges mode (Some clause) is passed inside =
        let many : length (reverse passed.arguments ++ passed.beneath) ≡ length passed.arguments + length passed.beneath = on_top_count
        passed.arguments passed.beneath in
        let less : length passed.arguments + length passed.beneath + 2 ≤ size = omega (arith, room, many, ap length passed.there) in
        subst (λ (xs : List Value). JudgesPart state (Some clause) event now base 0 (is_locked mode) (front mode bools base
        (Some clause)) (at_spot xs locals now false)) (sym passed.there)
        (front_judges clause is passed.arguments passed.beneath locals passed.of_kinds passed.seen inside less mode)

    -- ---- after it, where it returns

    module _ (clause : Clause) (is : IsOf policy After clause) where
      -- the part that is made for a result of this kind, or for none
      abbrev part_for : Mode → ℕ → Option Kind → List Item
      part_for Release at result = keep false base result ++ released bools base (at + kept result) clause (give base result)
      part_for Hold at result = keep true base result ++ checked bools base (at + kept result) clause
          (unlock After true ++ give base result)

      module _ (result : Option Kind) (result_is : clause.result ≡ result) (beneath with_result : List Value)
          (less : length beneath ≤ length items)
          (keeps : (held locked : Bool) → Leads state (keep held base result) (at_spot items locals now locked)
          (at_spot beneath with_result now locked))
          (gives : (v : Values) (locked : Bool) → Leads state (give base result) (at_spot beneath with_result v locked)
          (at_spot items with_result v locked))
          (told : Told event base with_result (asked After clause.args result))
          (below : take base with_result ≡ take base locals) (many : length with_result ≡ length locals) where
        can_after : CanCheck event now base with_result clause
        can_after =
            can_check policy After clause event now base with_result sound is ranged
            (subst (λ (r : Option Kind). Told event base with_result (asked After clause.args r)) (sym result_is) told)

        few : length beneath + 2 ≤ size
        few = omega (arith, less, room)

        left_so : (new : Values) (locked : Bool) → IsAfter base new false (at_spot items locals now locked)
            (at_spot items with_result new false)
        left_so new locked = record { stack = refl; locals = below; count = many; fields = refl; lock = refl }

        result_judges : (mode : Mode) (at : ℕ) → JudgesPart state (Some clause) event now base at false (part_for mode at result)
            (at_spot items locals now (is_locked mode))
        result_judges Release at = record {
          accepts = λ new e. (
            at_spot items with_result new false,
            after_released state size bools base event now clause (keep false base result)
                (give base result) items beneath locals with_result few (keeps false) gives can_after
                at (at + kept result) new (ap (λ (n : ℕ). at + n) (keep_length false base result)) e,
            left_so new false,
          );
          refuses = λ e. after_stops_released state size bools base event now clause (keep false base result)
              (give base result) items beneath locals with_result few (keeps false) gives can_after
              at (at + kept result) (ap (λ (n : ℕ). at + n) (keep_length false base result)) e;
        }
        result_judges Hold at = record {
          accepts = λ new e. (
            at_spot items with_result new false,
            after_held state size bools base event now clause (keep true base result)
                (give base result) items beneath locals with_result few (keeps true) gives can_after
                at (at + kept result) new (ap (λ (n : ℕ). at + n) (keep_length true base result)) e,
            left_so new true,
          );
          refuses = λ e. after_stops_held state size bools base event now clause (keep true base result)
              (give base result) items beneath locals with_result few (keeps true) gives can_after
              at (at + kept result) (ap (λ (n : ℕ). at + n) (keep_length true base result)) e;
        }

      clause_judges : (mode : Mode) (at : ℕ) (result : Option Kind) → clause.result ≡ result → IsGiven result event items
          → base + kept result ≤ length locals
          → JudgesPart state (Some clause) event now base at false (part_for mode at result) (at_spot items locals now (is_locked mode))
      clause_judges mode at None result_is given inside =
          result_judges None result_is items locals (omega arith) (λ held locked. nothing state (at_spot items locals now locked))
          (λ v locked. nothing state (at_spot items locals v locked)) (none_told event base clause.args locals) refl refl mode at
      clause_judges mode at (Some kind) result_is given inside =
          let v : Value = given.value in
          let set : List Value = slice_set locals base v in
          let within : base < length locals = omega (arith, inside) in
          let there : slice_get set base ≡ Some v = set_there locals base v within in
          let less : length given.beneath < length items = omega (arith, ap length given.there) in
          result_judges (Some kind) result_is given.beneath set (omega (arith, less))
          (λ held locked.
          subst (λ (xs : List Value). Leads state (keep held base (Some kind)) (at_spot xs locals now locked)
          (at_spot given.beneath set now locked)) (sym given.there)
          (one state (store kind base) (roles.Keep held) (at_spot (v ∷ given.beneath) locals now locked)
          (at_spot given.beneath set now locked)
          (λ next. moves.stores state size next given.beneath locals (map values.Int now) locked kind base v given.of_kind within
          (omega (arith, less, room)))))
          (λ u locked.
          subst (λ (xs : List Value). Leads state (give base (Some kind)) (at_spot given.beneath set u locked)
          (at_spot xs set u locked)) (sym given.there)
          (one state (load kind base) roles.Give (at_spot given.beneath set u locked) (at_spot (v ∷ given.beneath) set u locked)
          (λ next. moves.loads state size next given.beneath set (map values.Int u) locked kind base v given.of_kind there (omega
          (arith, less, room)))))
          (result_told event base clause.args kind v set given.of_kind there given.seen) (take-set-le base locals base v
          (omega arith)) (length-set locals base v) mode at

    pub after_judges : (mode : Mode) (at : ℕ) (o : Option Clause) → IfSome o (IsOf policy After)
        → IfSome o (λ c. IsGiven c.result event items)
        → base + option_map_or (λ (c : Clause). kept c.result) o 0 ≤ length locals
        → JudgesPart state o event now base at false (following mode bools base at o) (at_spot items locals now (is_locked mode))
    after_judges Release at None is given inside = record {
      accepts = λ new e. (
        at_spot items locals now false,
        nothing state
            (at_spot items locals now false) at,
        as_before false items locals new (stays new e) false,
      );
      refuses = λ e. absurd cc;
    }
    after_judges Hold at None is given inside = record {
      accepts = λ new e. (
        at_spot items locals now false,
        unlocks state size (map values.Int now) items locals After false (omega (arith, room)) at,
        as_before false items locals new (stays new e) true,
      );
      refuses = λ e. absurd cc;
    }
    after_judges Release at (Some clause) is given inside = clause_judges clause is Release at clause.result refl given inside
    after_judges Hold at (Some clause) is given inside = clause_judges clause is Hold at clause.result refl given inside

  -- ---- where it throws

  module _ (v : Value) (there : is_null v ≡ false) (locals : List Value) (room : 1 + most_pushed ≤ size) where
    pub thrown_judges : (mode : Mode) (at : ℕ) (o : Option Clause) → IfSome o (IsOf policy Exceptional) → catches mode o ≡ true
        → ThrowsPart state o event now base at v (handler mode bools base at o) (at_spot (v ∷ []) locals now (is_locked mode))
    thrown_judges Release at None is caught = absurd cc
    thrown_judges Hold at None is caught = record {
      accepts = λ new e. (
        at_spot (v ∷ []) locals now false,
        joins_end state at (at + 2) (unlock Exceptional false) rethrow (at_spot (v ∷ []) locals now true) (at_spot
            (v ∷ []) locals now false)
            (Thrown v (at_spot (v ∷ []) locals now false)) refl (unlocks state size (map values.Int now)
            (v ∷ []) locals Exceptional false (omega (arith, room)) at)
            (rethrows state (at + 2) size [] locals (map values.Int now) v there),
        as_before false (v ∷ []) locals new (stays new e) true,
      );
      refuses = λ e. absurd cc;
    }
    thrown_judges mode at (Some clause) is caught =
        let can : CanCheck event now base locals clause =
        can_check policy Exceptional clause event now base locals sound is ranged
        (thrown_told event base clause.args clause.result locals) in
        record {
          accepts = λ new e. (
            at_spot (v ∷ []) locals new false,
            handler_throws state size bools base event now clause v there locals (omega (arith, room)) can mode new at e,
            record { stack = refl; locals = refl; count = refl; fields = refl; lock = refl },
          );
          refuses = λ e. handler_stops state size bools base event now clause v there locals (omega (arith, room)) can mode at e;
        }

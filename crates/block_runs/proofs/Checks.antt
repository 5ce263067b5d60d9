-- What a check does: atoms are asked, updates are made, and the first branch is taken whose atoms hold.
use Rattle.std.proofs.Common.{
  ◌≡◌,
  ℕ,
  ◌+◌,
  ◌<◌,
  ◌≤◌,
  ℤ,
  pos,
  ◌+ℤ◌,
  Bool,
  true,
  false,
  List,
  [],
  ◌∷◌,
  ◌++◌,
  length,
  map,
  Option,
  Some,
  None,
  refl,
  sym,
  ap,
  ◌∙◌,
  subst,
  arith,
  append_assoc,
  length-append,
}
use Rattle.std.specs.Prelude.{◌&&◌, find, if◌then◌else◌, option_map, slice_get, slice_set, ⊤}
use Rattle.std.specs.Int.{w32, int_wrapping_add}
use Rattle.std.specs.List.{AllByRecursion, list_all}
use Rattle.std.specs.Option.{option_map_or}
use Rattle.std.proofs.lemmas.Bool.{and_parts}
use Rattle.std.proofs.lemmas.List.{map-set}
use Rattle.std.proofs.lemmas.Option.{slice_get-map, slice_get-get_or}
use Rattle.api_listing.specs.declared.events.Event.{Event}
use Rattle.conspec_tree.specs.declared.types.Atom.{Atom}
use Rattle.conspec_tree.specs.declared.types.Base.{Base}
use Rattle.conspec_tree.specs.declared.types.Base.TheVariants as bases
use Rattle.conspec_tree.specs.declared.types.Phase.{Phase}
use Rattle.conspec_tree.specs.declared.types.Update.{Update}
use Rattle.conspec_tree.specs.declared.types.Update.TheVariants.{Set, Add}
use Rattle.conspec_tree.specs.Updates.{target}
use Rattle.conspec_automaton.specs.declared.policy.Branch.{Branch}
use Rattle.conspec_automaton.specs.Next.{Values, argument, holds, is_taken, moment, relates, returned, updated, updated_once, value_of}
use Rattle.insn_codec.specs.declared.opcodes.TheConstants.{ACONST_NULL, ATHROW, GETSTATIC, GOTO, IADD, INVOKESTATIC, PUTSTATIC}
use Rattle.offset_patch.specs.declared.block.BlockInsn.TheVariants.{Plain, Byte, Want, Jump}
use Rattle.offset_patch.specs.declared.block.PoolWant.TheVariants.{Exit}
use Rattle.block_template.specs.declared.item.Item.{Item}
use Rattle.block_template.specs.declared.item.Role.TheVariants as roles
use Rattle.block_template.specs.Parts.{
  ask,
  asks,
  asks_size,
  branch_size,
  branches,
  branches_size,
  item,
  stop,
  tried,
  updates_size,
  write,
  writes,
}
use Rattle.block_template.specs.Pushing.{field, negated, push, push_base}
use Rattle.block_template.proofs.Goods.{insns_of}
use Rattle.block_template.proofs.Sizes.{asks_length, branches_length, mapped_length, writes_length}
use Rattle.guest_heap.specs.declared.value.Value.{Value}
use Rattle.guest_heap.specs.declared.value.Value.TheVariants as values
use Rattle.block_runs.specs.Spots.{Spot, Goes}
use Rattle.block_runs.specs.Running.{Stopped, block_run}
use Rattle.block_runs.proofs.Moves.{Moves, spot_at}
use Rattle.block_runs.proofs.Moves as moves
use Rattle.block_runs.proofs.Parts.{Leads, both, more, nothing, one, over, runs, skips}
use Rattle.block_runs.proofs.Runs.{run_jumps, run_next}

-- ---- what is asked of atoms and updates

-- What the atom compares is there and is a number: a variable, or what the locals keep of the event.
abbrev pub AsksNumber : Event → Values → ℕ → List Value → Base → Type 0
AsksNumber event now base locals (bases.Var i) = i < length now
AsksNumber event now base locals (bases.Arg i) = (n : ℤ) × (slice_get locals (base + i) ≡ Some (values.Int n)) × (argument event i
    ≡ Some n)
AsksNumber event now base locals bases.Result = (n : ℤ) × (slice_get locals base ≡ Some (values.Int n)) × (returned event ≡ Some n)

abbrev pub AskNumbers : Event → Values → ℕ → List Value → List Branch → Type 0
AskNumbers event now base locals list =
    AllByRecursion (λ (b : Branch). AllByRecursion (λ (a : Atom). AsksNumber event now base locals a.base) b.atoms) list

-- The sum that the machine makes is the sum.
abbrev pub IsPlainSum : Values → Update → Type 0
IsPlainSum now (Set var value) = ⊤
IsPlainSum now (Add var by) = (n : ℤ) → slice_get now var ≡ Some n → int_wrapping_add w32 n by ≡ n +ℤ by

-- Each update is of a variable that is there, and its sum does not wrap.
abbrev pub CanMake : Event → Values → List Update → Type 0
CanMake event now [] = ⊤
CanMake event now (u ∷ updates) = (target u < length now) × IsPlainSum now u × CanMake event (updated_once (moment now event) u) updates

length-fields : (now : Values) → length (map values.Int now) ≡ length now
length-fields now = mapped_length values.Int now

field_there : (now : Values) (var : ℕ) (n : ℤ) → slice_get now var ≡ Some n → slice_get (map values.Int now) var ≡ Some (values.Int n)
field_there now var n there = slice_get-map values.Int now var ∙ ap (option_map values.Int) there

value_there : (now : Values) (var : ℕ) → var < length now → (n : ℤ) × (slice_get now var ≡ Some n)
value_there now var inside = (_, slice_get-get_or now var (pos 0) inside)

module _ (state size : ℕ) (bools : List Bool) (base : ℕ) (phase : Phase) (items locals : List Value) (locked : Bool) (event : Event)
    (room : length items + 2 ≤ size) where
  -- the spot in this state of the policy, and with these operands on top
  abbrev pub here : Values → Spot
  here now = spot_at size items locals (map values.Int now) locked

  abbrev on : Values → List Value → Spot
  on now top = spot_at size top locals (map values.Int now) locked

  -- ---- an atom

  record IsPushed (now : Values) (asked : Base) : Type 0 where
    number : ℤ
    is : value_of (moment now event) asked ≡ Some number
    moves : (next : ℕ) → Moves state size next (push_base bools base asked) (here now) (on now (values.Int number ∷ items))

  base_pushed : (now : Values) (asked : Base) → AsksNumber event now base locals asked → IsPushed now asked
  base_pushed now (bases.Var i) inside =
      let there = value_there now i inside in
      record {
        number = there.0;
        is = there.1;
        moves = λ next. moves.reads state size next items locals (map values.Int now) locked bools i (values.Int there.0)
            (field_there now i there.0 there.1) (omega (arith, room));
      }
  base_pushed now (bases.Arg i) asks = record {
    number = asks.0;
    is = asks.2;
    moves = λ next. moves.loads_number state size next items locals (map values.Int now) locked (base + i) asks.0 asks.1 (omega
        (arith, room));
  }
  base_pushed now bases.Result asks = record {
    number = asks.0;
    is = asks.2;
    moves = λ next. moves.loads_number state size next items locals (map values.Int now) locked base asks.0 asks.1 (omega (arith, room));
  }

  module _ (now : Values) where
    abbrev passes : Atom → Bool
    passes atom = holds (moment now event) atom

    related : (atom : Atom) (n : ℤ) (b : Bool) → value_of (moment now event) atom.base ≡ Some n → passes atom ≡ b
        → relates atom.rel n atom.value ≡ b
    related atom n b is e = sym (ap (λ (o : Option ℤ). option_map_or (λ m. relates atom.rel m atom.value) o false) is) ∙ e

    pub ask_holds : (branch n next : ℕ) (atom : Atom) → AsksNumber event now base locals atom.base → passes atom ≡ true
        → Leads state (ask bools base phase branch n next atom) (here now) (here now)
    ask_holds branch n next atom asks so =
        let p = base_pushed now atom.base asks in
        let first : Spot = on now (values.Int p.number ∷ items) in
        let second : Spot = on now (values.Int atom.value ∷ values.Int p.number ∷ items) in
        let last : List Item = item (Jump (negated atom.rel) next) (roles.Ask phase branch n 2) ∷ [] in
        more state (push_base bools base atom.base) (roles.Ask phase branch n 0) (item (push atom.value)
        (roles.Ask phase branch n 1) ∷ last) (here now) first (here now) p.moves
        (more state (push atom.value) (roles.Ask phase branch n 1) last first second (here now)
        (λ at. moves.pushes_number state size at (values.Int p.number ∷ items) locals (map values.Int now) locked atom.value (omega
        (arith, room)))
        (one state (Jump (negated atom.rel) next) (roles.Ask phase branch n 2) second (here now)
        (λ at. moves.passes state size at items locals (map values.Int now) locked atom.rel p.number atom.value next
        (related atom p.number true p.is so) (omega (arith, room)))))

    pub ask_fails : (branch n next at skip : ℕ) (atom : Atom) (rest : List Item) → AsksNumber event now base locals atom.base
        → passes atom ≡ false
        → next ≡ at + 3 + skip → runs state (ask bools base phase branch n next atom ++ rest) at (here now)
        ≡ skips state rest (at + 3) skip (here now)
    ask_fails branch n next at skip atom rest asks not_so is =
        let p = base_pushed now atom.base asks in
        let first : Spot = on now (values.Int p.number ∷ items) in
        let second : Spot = on now (values.Int atom.value ∷ values.Int p.number ∷ items) in
        let there : at + 1 + 1 + 1 ≡ at + 3 = omega arith in
        run_next state (push_base bools base atom.base) (push atom.value ∷ Jump (negated atom.rel) next ∷ insns_of rest) at
        (here now) first (p.moves (at + 1))
        ∙ run_next state (push atom.value) (Jump (negated atom.rel) next ∷ insns_of rest) (at + 1) first second
        (moves.pushes_number state size (at + 1 + 1) (values.Int p.number ∷ items) locals (map values.Int now) locked atom.value
        (omega (arith, room)))
        ∙ run_jumps state (Jump (negated atom.rel) next) (insns_of rest) (at + 1 + 1) next skip second (here now)
        (moves.fails state size (at + 1 + 1 + 1) items locals (map values.Int now) locked atom.rel p.number atom.value next
        (related atom p.number false p.is not_so) (omega (arith, room)))
        (omega (arith, is))
        ∙ ap (λ (k : ℕ). skips state rest k skip (here now)) there

    -- ---- atoms

    abbrev Asked : List Atom → Type 0
    Asked atoms = AllByRecursion (λ (a : Atom). AsksNumber event now base locals a.base) atoms

    pub asks_hold : (branch n next : ℕ) (atoms : List Atom) → Asked atoms → list_all passes atoms ≡ true
        → Leads state (asks bools base phase branch n next atoms) (here now) (here now)
    asks_hold branch n next [] all so = nothing state (here now)
    asks_hold branch n next (atom ∷ atoms) all so =
        let p = and_parts (passes atom) (list_all passes atoms) so in
        both state (ask bools base phase branch n next atom) (asks bools base phase branch (n + 1) next atoms) (here now) (here now)
        (here now)
        (ask_holds branch n next atom all.0 p.0) (asks_hold branch (n + 1) next atoms all.1 p.1)

    -- Where one does not hold, what is jumped to comes next.
    pub asks_fail : (branch n next at skip : ℕ) (atoms : List Atom) (rest : List Item) → Asked atoms → list_all passes atoms ≡ false
        → next ≡ at + asks_size atoms + skip
        → runs state (asks bools base phase branch n next atoms ++ rest) at (here now)
        ≡ skips state rest (at + asks_size atoms) skip (here now)
    asks_fail branch n next at skip [] rest all not_so is = absurd cc
    asks_fail branch n next at skip (atom ∷ atoms) rest all not_so is =
        let this : List Item = ask bools base phase branch n next atom in
        let others : List Item = asks bools base phase branch (n + 1) next atoms in
        let there : at + 3 + asks_size atoms ≡ at + asks_size (atom ∷ atoms) = omega arith in
        ap (λ (xs : List Item). runs state xs at (here now)) (append_assoc this others rest)
        ∙ by (passes atom) refl (λ later. asks_fail branch (n + 1) next (at + 3) skip atoms rest all.1 later (omega (arith, is)))
        ∙ ap (λ (k : ℕ). skips state rest k skip (here now)) there
      where
        by : (b : Bool) → passes atom ≡ b
            → (list_all passes atoms ≡ false
            → runs state (asks bools base phase branch (n + 1) next atoms ++ rest) (at + 3) (here now)
            ≡ skips state rest (at + 3 + asks_size atoms) skip (here now))
            → runs state (ask bools base phase branch n next atom ++ (asks bools base phase branch (n + 1) next atoms ++ rest)) at
            (here now)
            ≡ skips state rest (at + 3 + asks_size atoms) skip (here now)
        by true so others_fail =
            let later : list_all passes atoms ≡ false = sym (ap (λ (b : Bool). b && list_all passes atoms) so) ∙ not_so in
            ask_holds branch n next atom all.0 so at (asks bools base phase branch (n + 1) next atoms ++ rest) ∙ others_fail later
        by false so others_fail =
            let others : List Item = asks bools base phase branch (n + 1) next atoms in
            let long : asks_size atoms ≡ length others = sym (asks_length bools base phase branch (n + 1) next atoms) in
            ask_fails branch n next at (asks_size atoms + skip) atom (others ++ rest) all.0 so (omega (arith, is))
            ∙ ap (λ (k : ℕ). skips state (others ++ rest) (at + 3) (k + skip) (here now)) long
            ∙ over state others rest (at + 3) skip (here now)
            ∙ ap (λ (k : ℕ). skips state rest (at + 3 + k) skip (here now)) (sym long)

  -- ---- updates

  fields_set : (now : Values) (var : ℕ) (n : ℤ) → slice_set (map values.Int now) var (values.Int n) ≡ map values.Int (slice_set now var n)
  fields_set now var n = sym (map-set values.Int now var n)

  -- the number on top is put into the variable
  puts : (now : Values) (var : ℕ) (n : ℤ) (next : ℕ) → var < length now
      → Moves state size next (Want PUTSTATIC (field bools var)) (on now (values.Int n ∷ items)) (here (slice_set now var n))
  puts now var n next inside =
      moves.writes state size next items locals (map values.Int now) locked bools var (values.Int n) (omega
      (arith, inside, length-fields now)) (omega (arith, room))
      ∙ ap (λ (fields : List Value). Goes next (spot_at size items locals fields locked)) (fields_set now var n)

  pub write_makes : (branch n : ℕ) (now : Values) (u : Update) → target u < length now → IsPlainSum now u
      → Leads state (write bools phase branch n u) (here now) (here (updated_once (moment now event) u))
  write_makes branch n now (Set var value) inside plain =
      more state (push value) (roles.Update phase branch n 0) (item (Want PUTSTATIC (field bools var))
      (roles.Update phase branch n 1) ∷ [])
      (here now) (on now (values.Int value ∷ items)) (here (slice_set now var value))
      (λ at. moves.pushes_number state size at items locals (map values.Int now) locked value (omega (arith, room)))
      (one state (Want PUTSTATIC (field bools var)) (roles.Update phase branch n 1) (on now (values.Int value ∷ items)) (here
      (slice_set now var value))
      (λ at. puts now var value at inside))
  write_makes branch n now (Add var by) inside plain =
      let there = value_there now var inside in
      let old : ℤ = there.0 in
      let sum : int_wrapping_add w32 old by ≡ old +ℤ by = plain old there.1 in
      let first : Spot = on now (values.Int old ∷ items) in
      let second : Spot = on now (values.Int by ∷ values.Int old ∷ items) in
      let third : Spot = on now (values.Int (old +ℤ by) ∷ items) in
      let end : Spot = here (slice_set now var (old +ℤ by)) in
      let made : slice_set now var (old +ℤ by) ≡ updated_once (moment now event) (Add var by) =
      ap (λ (o : Option ℤ). option_map_or (λ m. slice_set now var (m +ℤ by)) o now) (sym there.1) in
      let last : List Item = item (Want PUTSTATIC (field bools var)) (roles.Update phase branch n 3) ∷ [] in
      let added : List Item = item (Plain IADD) (roles.Update phase branch n 2) ∷ last in
      subst (λ (v : Values). Leads state (write bools phase branch n (Add var by)) (here now) (here v)) made
      (more state (Want GETSTATIC (field bools var)) (roles.Update phase branch n 0) (item (push by)
      (roles.Update phase branch n 1) ∷ added) (here now) first end
      (λ at. moves.reads state size at items locals (map values.Int now) locked bools var (values.Int old)
      (field_there now var old there.1) (omega (arith, room)))
      (more state (push by) (roles.Update phase branch n 1) added first second end
      (λ at. moves.pushes_number state size at (values.Int old ∷ items) locals (map values.Int now) locked by (omega (arith, room)))
      (more state (Plain IADD) (roles.Update phase branch n 2) last second third end
      (λ at. moves.adds state size at items locals (map values.Int now) locked old by (omega (arith, room))
      ∙ ap (λ (k : ℤ). Goes at (on now (values.Int k ∷ items))) sum)
      (one state (Want PUTSTATIC (field bools var)) (roles.Update phase branch n 3) third end (λ at. puts now var
      (old +ℤ by) at inside)))))

  pub writes_make : (branch n : ℕ) (now : Values) (updates : List Update) → CanMake event now updates
      → Leads state (writes bools phase branch n updates) (here now) (here (updated (moment now event) updates))
  writes_make branch n now [] can = nothing state (here now)
  writes_make branch n now (u ∷ updates) can =
      let next : Values = updated_once (moment now event) u in
      both state (write bools phase branch n u) (writes bools phase branch (n + 1) updates) (here now) (here next) (here (updated
      (moment next event) updates))
      (write_makes branch n now u can.0 can.1) (writes_make branch (n + 1) next updates can.2)

  -- ---- a branch

  module _ (now : Values) where
    abbrev Fits : Branch → Type 0
    Fits branch = AllByRecursion (λ (a : Atom). AsksNumber event now base locals a.base) branch.atoms

    abbrev taken : Branch → Bool
    taken branch = is_taken (moment now event) branch

    abbrev after : Branch → Values
    after branch = updated (moment now event) branch.updates

    -- It is taken where all its atoms hold: its updates are made, and the check is done.
    pub branch_taken : (n next done at skip : ℕ) (branch : Branch) (rest : List Item) → Fits branch → taken branch ≡ true
        → CanMake event now branch.updates → done ≡ at + branch_size branch + skip
        → runs state (tried bools base phase n next done branch ++ rest) at (here now)
        ≡ skips state rest (at + branch_size branch) skip (here (after branch))
    branch_taken n next done at skip branch rest fits so can is =
        let asked : List Item = asks bools base phase n 0 next branch.atoms in
        let made : List Item = writes bools phase n 0 branch.updates in
        let last : List Item = item (Jump GOTO done) (roles.Taken phase n) ∷ [] in
        let from : ℕ = at + length asked in
        let to : ℕ = from + length made in
        let first : length asked ≡ asks_size branch.atoms = asks_length bools base phase n 0 next branch.atoms in
        let second : length made ≡ updates_size branch.updates = writes_length bools base phase n 0 branch.updates in
        let there : to + 1 ≡ at + branch_size branch = omega (arith, first, second) in
        ap (λ (xs : List Item). runs state xs at (here now)) (append_assoc asked (made ++ last) rest)
        ∙ asks_hold now n 0 next branch.atoms fits so at ((made ++ last) ++ rest)
        ∙ ap (λ (xs : List Item). runs state xs from (here now)) (append_assoc made last rest)
        ∙ writes_make n 0 now branch.updates can from (last ++ rest)
        ∙ run_jumps state (Jump GOTO done) (insns_of rest) to done skip (here (after branch)) (here (after branch))
        (moves.jumps state size (to + 1) items locals (map values.Int (after branch)) locked done (omega (arith, room))) (omega
        (arith, is, first, second))
        ∙ ap (λ (k : ℕ). skips state rest k skip (here (after branch))) there

    -- Else the next one is tried.
    pub branch_fails : (n next done at : ℕ) (branch : Branch) (rest : List Item) → Fits branch → taken branch ≡ false → next
        ≡ at + branch_size branch
        → runs state (tried bools base phase n next done branch ++ rest) at (here now)
        ≡ runs state rest (at + branch_size branch) (here now)
    branch_fails n next done at branch rest fits not_so is =
        let asked : List Item = asks bools base phase n 0 next branch.atoms in
        let made : List Item = writes bools phase n 0 branch.updates in
        let others : List Item = made ++ item (Jump GOTO done) (roles.Taken phase n) ∷ [] in
        let long : updates_size branch.updates + 1 ≡ length others + 0 =
        omega (
          arith,
          length-append made (item (Jump GOTO done)
              (roles.Taken phase n) ∷ []),
          writes_length bools base phase n 0 branch.updates,
        ) in
        let there : at + asks_size branch.atoms + length others ≡ at + branch_size branch = omega (arith, long) in
        ap (λ (xs : List Item). runs state xs at (here now)) (append_assoc asked others rest)
        ∙ asks_fail now n 0 next at (updates_size branch.updates + 1) branch.atoms (others ++ rest) fits not_so (omega (arith, is))
        ∙ ap (λ (k : ℕ). skips state (others ++ rest) (at + asks_size branch.atoms) k (here now)) long
        ∙ over state others rest (at + asks_size branch.atoms) 0 (here now)
        ∙ ap (λ (k : ℕ). runs state rest k (here now)) there

    -- ---- the branches

    -- The first that is taken is: the check is done, with its updates made.
    pub branches_take : (n at done : ℕ) (list : List Branch) (branch : Branch) (rest : List Item) → AllByRecursion Fits list
        → find taken list ≡ Some branch → CanMake event now branch.updates → done ≡ at + branches_size list
        → runs state (branches bools base phase n at done list ++ rest) at (here now) ≡ runs state rest done (here (after branch))
    branches_take n at done [] branch rest fits found can is = absurd cc
    branches_take n at done (first ∷ others) branch rest fits found can is =
        let here_tried : List Item = tried bools base phase n (at + branch_size first) done first in
        let later : List Item = branches bools base phase (n + 1) (at + branch_size first) done others in
        ap (λ (xs : List Item). runs state xs at (here now)) (append_assoc here_tried later rest)
        ∙ by (taken first) refl (λ later. branches_take (n + 1) (at + branch_size first) done others branch rest fits.1 later can
        (omega (arith, is)))
      where
        by : (b : Bool) → taken first ≡ b
            → (find taken others ≡ Some branch
            → runs state (branches bools base phase (n + 1) (at + branch_size first) done others ++ rest) (at + branch_size first)
            (here now) ≡ runs state rest done (here (after branch)))
            → runs state (tried bools base phase n (at + branch_size first) done first ++ (branches bools base phase (n + 1)
            (at + branch_size first) done others ++ rest)) at (here now)
            ≡ runs state rest done (here (after branch))
        by true so others_take =
            let next : ℕ = at + branch_size first in
            let later : List Item = branches bools base phase (n + 1) next done others in
            let is_it : ◌≡◌ {A = Option Branch} (Some first) (Some branch) = sym (ap (λ
            (b : Bool). if b then Some first else find taken others) so) ∙ found in
            let same : first ≡ branch = cc in
            let can_first : CanMake event now first.updates = subst (λ (b : Branch). CanMake event now b.updates) (sym same) can in
            let long : branches_size others ≡ length later + 0 = omega (
              arith,
              branches_length bools base phase
                  (n + 1) next done others,
            ) in
            let end : next + length later ≡ done = omega (arith, is, long) in
            branch_taken n next done at (branches_size others) first (later ++ rest) fits.0 so can_first (omega (arith, is))
            ∙ ap (λ (k : ℕ). skips state (later ++ rest) next k (here (after first))) long
            ∙ over state later rest next 0 (here (after first))
            ∙ ap (λ (k : ℕ). runs state rest k (here (after first))) end
            ∙ ap (λ (b : Branch). runs state rest done (here (after b))) same
        by false so others_take =
            let next : ℕ = at + branch_size first in
            let later : List Item = branches bools base phase (n + 1) next done others in
            let found_later : find taken others ≡ Some branch = sym (ap (λ
            (b : Bool). if b then Some first else find taken others) so) ∙ found in
            branch_fails n next done at first (later ++ rest) fits.0 so refl
            ∙ others_take found_later

    -- Where none is taken the program is stopped.
    stop_stops : (at : ℕ) (rest : List Item) → runs state (stop phase ++ rest) at (here now) ≡ Stopped (pos 77)
    unfolding block_run
    stop_stops at rest =
        run_next state (Byte (pos 77)) (Want INVOKESTATIC Exit ∷ Plain ACONST_NULL ∷ Plain ATHROW ∷ insns_of rest) at (here now)
        (on now (values.Int (pos 77) ∷ items))
        (moves.exit_status state size (at + 1) items locals (map values.Int now) locked (omega (arith, room)))

    pub branches_stop : (n at done : ℕ) (list : List Branch) (rest : List Item) → AllByRecursion Fits list → find taken list ≡ None
        → runs state (branches bools base phase n at done list ++ rest) at (here now) ≡ Stopped (pos 77)
    branches_stop n at done [] rest fits none = stop_stops at rest
    branches_stop n at done (first ∷ others) rest fits none =
        let here_tried : List Item = tried bools base phase n (at + branch_size first) done first in
        let later : List Item = branches bools base phase (n + 1) (at + branch_size first) done others in
        ap (λ (xs : List Item). runs state xs at (here now)) (append_assoc here_tried later rest)
        ∙ by (taken first) refl (λ later. branches_stop (n + 1) (at + branch_size first) done others rest fits.1 later)
      where
        by : (b : Bool) → taken first ≡ b
            → (find taken others ≡ None
            → runs state (branches bools base phase (n + 1) (at + branch_size first) done others ++ rest) (at + branch_size first)
            (here now) ≡ Stopped (pos 77))
            → runs state (tried bools base phase n (at + branch_size first) done first ++ (branches bools base phase (n + 1)
            (at + branch_size first) done others ++ rest)) at (here now)
            ≡ Stopped (pos 77)
        by true so others_stop =
            let is_it : ◌≡◌ {A = Option Branch} (Some first) None = sym (ap (λ
            (b : Bool). if b then Some first else find taken others) so) ∙ none in
            absurd cc
        by false so others_stop =
            let next : ℕ = at + branch_size first in
            let later : List Item = branches bools base phase (n + 1) next done others in
            let none_later : find taken others ≡ None = sym (ap (λ (b : Bool). if b then Some first else find taken others) so) ∙ none in
            branch_fails n next done at first (later ++ rest) fits.0 so refl ∙ others_stop none_later

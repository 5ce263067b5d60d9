-- No rule of the notes fails at the call of a block, nor at any instruction of a woven method that has a frame.
use Rattle.std.proofs.Common.{◌≡◌, ◌≢◌, ℕ, ◌+◌, ◌<◌, ◌≤◌, Bool, true, false, cond, List, [], ◌∷◌, ◌++◌, length, map, Option, Some, None, refl, sym, ap, subst, ◌∙◌, inl, inr, arith, append_assoc}
use Rattle.std.specs.Prelude.{◌&&◌, ◌||◌, Contains, IfSome, filter, is_some, not, slice_get}
use Rattle.std.specs.List.{AllByRecursion, list_all}
use Rattle.std.specs.Option.{option_map_or}
use Rattle.std.proofs.lemmas.Bool.{and_from, false≢true}
use Rattle.std.proofs.lemmas.Option.{slice_get_within}
use Rattle.insn_codec.specs.declared.insn.Insn.{Insn}
use Rattle.insn_codec.specs.declared.shape.Shape.{Shape}
use Rattle.insn_codec.specs.Shapes.{shape_of}
use Rattle.bytecode_model.specs.declared.program.Handler.{Handler}
use Rattle.bytecode_model.specs.declared.program.Target.{Target}
use Rattle.bytecode_model.specs.declared.program.Target.TheVariants as target
use Rattle.bytecode_model.specs.Rules.{covers}
use Rattle.bytecode_model.proofs.Lists.{some_is}
use Rattle.cert_format.specs.declared.note.Note.{Note}
use Rattle.cert_format.specs.declared.note.Note.TheVariants as notes
use Rattle.cert_format.specs.declared.note.Phase8.TheVariants as sites
use Rattle.cert_format.specs.declared.typing.FrameType.{FrameType}
use Rattle.conspec_tree.specs.declared.types.Phase.TheVariants.{Before}
use Rattle.conspec_automaton.specs.Next.{has_clauses}
use Rattle.offset_patch.specs.declared.block.Block.{Block}
use Rattle.offset_patch.specs.declared.block.BlockInsn.TheVariants.{Call}
use Rattle.offset_patch.specs.Splicing.{aimed, call_place}
use Rattle.block_template.specs.declared.item.Item.{Item}
use Rattle.block_template.specs.declared.item.Role.TheVariants as roles
use Rattle.block_template.specs.Blocks.{bools_of, catches, handler_at, has_block, is_locked}
use Rattle.block_template.specs.Flow.{may_pass, next, after_return, role_at, thrown}
use Rattle.block_logic.specs.Annotations.{held_in, holds_round}
use Rattle.block_logic.specs.Notes.{Here, catches_all, catches_well, is_granted, is_owed_for_throw, thrown_by, first_handler, handlers_of, is_duty_of, meets, note_fault, note_passes}
use Rattle.block_logic.specs.Operands.{calls, has_clause}
use Rattle.block_logic.specs.Rows as rows
use Rattle.block_logic.specs.Rows.{Asked, Open, Row, Rules}
use Rattle.block_logic.specs.Weakening.{in_phase, is_open}
use Rattle.class_weaving.specs.Outcome.{at_fronts, own_handler}
use Rattle.block_template.proofs.Plans.{block_of, none_there, part_length, site_is}
use Rattle.class_weaving.proofs.Bodies.{handlers_are, insn_there, made_long, ref_there, same_length}
use Rattle.cert_maker.proofs.Aiming.{call_goes}
use Rattle.cert_maker.proofs.AllRoles.{call_granted, call_row, call_told, granted, returns, throws, throws_on}
use Rattle.cert_maker.proofs.Body.{Body, base, front, fronts, n, part, plan, refs, weaves}
use Rattle.block_template.proofs.Calling as calling
use Rattle.cert_maker.proofs.Checks.{Blocked, clauses, note, site}
use Rattle.cert_maker.proofs.Checks.{rules as rules_of}
use Rattle.cert_maker.proofs.Covering.{AllMiss, first_missed, missed, own_covers, own_stands}
use Rattle.class_weaving.proofs.Lists.{slice_there}
use Rattle.class_weaving.proofs.Parts.{locate}
use Rattle.cert_maker.proofs.Passing.{alone_passes, first_opens, flows, led, next_passes, other_passes, own_missed, part_count, place_few, place_passes, reached_role, stands}
use Rattle.cert_maker.proofs.Plans.{within as calls_within}
use Rattle.cert_maker.proofs.Rows.{and_false, called}
use Rattle.cert_maker.proofs.Rules.{fault_at, no_fault, or_last}
use Rattle.cert_maker.proofs.Standing.{few, IsReady, Passes, Reached, all as items_in, blocked, client_catches, contained_right, item_told, rules_in, canonical, within}
use Rattle.class_weaving.proofs.Unwoven.{part_alone}

module _ (b : Body) (frames : List (Option FrameType)) (ready : IsReady b frames) where
  abbrev notes_told : List Note
  notes_told = canonical b frames ready

  abbrev R : ℕ → Type 0
  R at = Reached b frames ready at

  abbrev P : Asked → ℕ → Type 0
  P wants at = Passes b frames ready wants at

  abbrev rules : Rules
  rules = rules_in b frames ready

  abbrev test : Asked → Note → Bool
  test = meets rules

  -- ---- the call of a block

  module _ (i callee : ℕ) (own : Insn) (there : slice_get b.method.insns i ≡ Some own) (names : slice_get (refs b) i ≡ Some (target.ApiMethod callee))
      (has : has_clauses b.policy callee ≡ true) (place : ℕ) (item : Item) (e : slice_get (items_in b frames ready i callee names has) place ≡ Some item)
      (reached : R (front b i + place)) (call : item.insn ≡ Call)
      (index : place ≡ calling.index b.mode (bools_of b.policy) (base b) (clauses (blocked b frames ready i callee names has))) where
    abbrev ref : Target
    ref = target.ApiMethod callee

    abbrev k : Blocked
    k = blocked b frames ready i callee names has

    abbrev all : List Item
    all = items_in b frames ready i callee names has

    abbrev begin : ℕ
    begin = front b i

    abbrev handler : Option ℕ
    handler = handler_at b.mode (bools_of b.policy) (base b) (clauses k)

    role_reached : item.role ≢ roles.Unreached
    role_reached = reached_role b frames ready i callee own there names has place item e reached

    is_called : calling.IsCalled b.mode (bools_of b.policy) (base b) (clauses k) item.role
    is_called = calling.call_role b.mode (bools_of b.policy) (base b) (clauses k) place item e index role_reached

    -- its note
    note_is : note k item.role ≡ granted k
    note_is = ap (note k) is_called.is ∙ call_told k (is_locked b.mode) refl

    stays : aimed (fronts b) own ≡ own
    stays = (call_goes own (ready.calls i callee own there names).0 (ready.calls i callee own there names).1).stays (fronts b)

    insn_is : slice_get b.made.insns (begin + place) ≡ Some own
    insn_is =
        insn_there (weaves b) i place own ref Call there names (stands b frames ready i callee own there names has place item e reached ∙ ap Some call)
        ∙ ap Some stays

    ref_is : slice_get b.made.refs (begin + place) ≡ Some ref
    ref_is = ref_there (weaves b) i place ref Call names (stands b frames ready i callee own there names has place item e reached ∙ ap Some call)

    abbrev here : Here
    here = record { at = begin + place; insn = own; ref = ref }

    abbrev row : Row
    row = called (rules_of k) (site k Before)

    row_is : rows.row rules (granted k) (shape_of own) ref ≡ Some row
    row_is =
        ap (λ (s : Shape). rows.row rules (granted k) s ref) (ready.calls i callee own there names).1
        ∙ call_row k (ready.calls i callee own there names).0

    told_is : slice_get notes_told (begin + place) ≡ Some (granted k)
    told_is = item_told b frames ready i callee names has place item e reached ∙ ap Some note_is

    -- ---- where it returns

    next_place : begin + place + 1 ≡ begin + (place + 1)
    next_place = omega arith

    returns_to : R (begin + place + 1) → P row.past (begin + place + 1)
    returns_to r =
        let to : role_at all (place + 1) ≡ after_return b.mode (clauses k).after =
        (led b frames ready i callee own there names has place item e reached).passes (ap may_pass call) ∙ ap (next b.mode (clauses k)) is_called.is in
        subst (P row.past) (sym next_place)
        (place_passes b frames ready i callee own there names has row.past (place + 1) (after_return b.mode (clauses k).after) to (returns k)
        (omega (arith, place_few b frames ready i callee own there names has place item e reached)) (subst R next_place r))

    -- ---- where it throws

    abbrev wants : Asked
    wants = rows.thrown rules (site k Before)

    -- The block's own handler stands first among those that cover the call.
    pub record IsCaught : Type 0 where
      pub at : ℕ
      pub passes : P wants at
      pub first : Handler
      pub to : first.at ≡ at
      pub any : first.class ≡ None
      pub found : first_handler (begin + place) b.made.handlers ≡ Some first
      pub all_found : handlers_of (begin + place) b.made.handlers ≡ at ∷ []

    block : Block
    block = block_of b.policy b.mode (base b) callee

    call_at : call_place (block_of b.policy b.mode (base b) callee).insns ≡ place
    call_at = calling.place_is b.mode (bools_of b.policy) (base b) (clauses k) ∙ sym index

    caught_by : (to : ℕ) → handler ≡ Some to → catches b.mode (clauses k).exceptional ≡ true → IsCaught
    caught_by to f is =
        let o : Handler = own_handler begin (block_of b.policy b.mode (base b) callee).insns to in
        let zero_is : 0 + begin ≡ begin = omega arith in
        let s = own_stands (plan b) (base b) (calls_within b.policy b.mode (base b)) (refs b) i 0 ref (block_of b.policy b.mode (base b) callee) to names
        (site_is b.policy b.mode (base b) callee has) f in
        let place_is : 0 + begin + call_place (block_of b.policy b.mode (base b) callee).insns ≡ begin + place = omega (arith, call_at) in
        let miss : AllMiss (begin + place) s.pre = subst (λ (m : ℕ). AllMiss m s.pre) place_is s.miss in
        let client : List Handler = map (at_fronts (fronts b)) b.method.handlers in
        let split : b.made.handlers ≡ s.pre ++ o ∷ (s.post ++ client) =
        handlers_are (weaves b)
        ∙ ap (λ (hs : List Handler). hs ++ client) (s.is ∙ ap (λ (m : ℕ). s.pre ++ own_handler m (block_of b.policy b.mode (base b) callee).insns to ∷ s.post) zero_is)
        ∙ append_assoc s.pre (o ∷ s.post) client in
        let covered : covers (begin + place) o ≡ true =
        own_covers begin (begin + place) (block_of b.policy b.mode (base b) callee).insns to (ap (λ (m : ℕ). begin + m) call_at) in
        let inside_of : Contains b.made.handlers o =
        subst (λ (hs : List Handler). Contains hs o) (sym split) (contained_right s.pre (o ∷ (s.post ++ client)) o (0, omega arith, refl)) in
        let r : R (begin + to) =
        ready.caught (begin + place) own o insn_is reached inside_of (omega (arith, call_at)) (omega (arith, call_at)) in
        let role : role_at all to ≡ thrown b.mode (clauses k).exceptional =
        subst (λ (h : Option ℕ). IfSome h (λ p. role_at all p ≡ thrown b.mode (clauses k).exceptional)) f
        ((flows b frames ready i callee own there names has).caught is_called.passes_on) in
        let within : to ≤ length all =
        subst (λ (h : Option ℕ). IfSome h (λ p. p ≤ length all)) f (calling.handler_within b.mode (bools_of b.policy) (base b) (clauses k)) in
        record {
          at = begin + to;
          passes = place_passes b frames ready i callee own there names has wants to (thrown b.mode (clauses k).exceptional) role (throws k is) within r;
          first = o;
          to = refl;
          any = refl;
          found =
              ap (first_handler (begin + place)) split ∙ first_missed (begin + place) s.pre (o ∷ (s.post ++ client)) miss
              ∙ ap (λ (c : Bool). slice_get (cond c (o ∷ filter (covers (begin + place)) (s.post ++ client)) (filter (covers (begin + place)) (s.post ++ client))) 0) covered;
          all_found =
              ap (handlers_of (begin + place)) split ∙ missed (begin + place) s.pre (o ∷ (s.post ++ client)) miss
              ∙ ap (λ (c : Bool). cond c ((begin + to) ∷ []) (handlers_of (begin + place) (s.post ++ client))) covered;
        }

    handles : is_some handler ≡ catches b.mode (clauses k).exceptional
    handles = (flows b frames ready i callee own there names has).handles

    caught_of : (o : Option ℕ) → handler ≡ o → catches b.mode (clauses k).exceptional ≡ true → IsCaught
    caught_of None f is = absurd (false≢true (sym (ap is_some f) ∙ handles ∙ is))
    caught_of (Some to) f is = caught_by to f is

    -- Where nothing is due it goes to the client.
    not_caught : catches b.mode (clauses k).exceptional ≡ false
        → list_all (note_passes test notes_told wants) (handlers_of (begin + place) b.made.handlers) ≡ true
    not_caught fails =
        ap (λ (w : Asked). list_all (note_passes test notes_told w) (handlers_of (begin + place) b.made.handlers)) (throws_on k fails)
        ∙ client_catches b frames ready (begin + place) own insn_is reached
        (own_missed b frames ready i place ref names
        (omega (arith, part_count b frames ready i callee own there names has, place_few b frames ready i callee own there names has place item e reached))
        (λ block to f g. absurd (none block to f g)))
      where
        none : (block : Block) (to : ℕ) → (plan b).block (base b) ref ≡ Some block → block.handler ≡ Some to → ⊥
        none block to f g =
            let is : block_of b.policy b.mode (base b) callee ≡ block = some_is _ block (sym (site_is b.policy b.mode (base b) callee has) ∙ f) in
            let some : is_some handler ≡ true = ap (λ (x : Block). is_some x.handler) is ∙ ap is_some g in
            false≢true (sym fails ∙ sym handles ∙ some)

    handlers_pass_here : (c : Bool) → catches b.mode (clauses k).exceptional ≡ c
        → list_all (note_passes test notes_told wants) (handlers_of (begin + place) b.made.handlers) ≡ true
    handlers_pass_here true is =
        let h = caught_of handler refl is in
        ap (list_all (note_passes test notes_told wants)) h.all_found ∙ and_from _ true h.passes refl
    handlers_pass_here false fails = not_caught fails

    -- ---- what it throws is caught where that is a duty

    duty_not : catches b.mode (clauses k).exceptional ≡ false → is_duty_of rules ref ≡ false
    duty_not fails = by (is_duty_of rules ref) refl (ap (is_duty_by) (sym (few b frames ready i callee names has)) ∙ refl) (throws_on k fails)
      where
        is_duty_by : ℕ → Bool
        is_duty_by m = rows.is_duty rules m

        by : (c : Bool) → is_duty_of rules ref ≡ c → rows.is_duty rules callee ≡ rows.is_duty rules (site k Before).method → wants ≡ Open → is_duty_of rules ref ≡ false
        by false f same opens = f
        by true f same opens =
            let what : wants ≡ rows.Given (notes.Owed (in_phase sites.Exceptional (site k Before)) (rows.stage_after (holds_round (held_in b.mode) (site k Before).method)) false false) =
            ap (λ (c : Bool). cond c (rows.Given (notes.Owed (in_phase sites.Exceptional (site k Before)) (rows.stage_after (holds_round (held_in b.mode) (site k Before).method)) false false)) Open) (sym same ∙ f) in
            let no : rows.Given (notes.Owed (in_phase sites.Exceptional (site k Before)) (rows.stage_after (holds_round (held_in b.mode) (site k Before).method)) false false) ≡ Open = sym what ∙ opens in
            absurd cc

    catches_here : (c : Bool) → catches b.mode (clauses k).exceptional ≡ c → catches_well rules notes_told b.made (granted k) here ≡ true
    catches_here true is =
        let h = caught_of handler refl is in
        let class : is_some h.first.class ≡ false = ap is_some h.any in
        or_last _ _
        (ap (λ (o : Option Handler). option_map_or (catches_all rules notes_told (granted k)) o false) h.found
        ∙ and_from _ _ (ap not class) (weaker (slice_get notes_told h.first.at) (ap (λ (m : ℕ). note_passes test notes_told wants m) h.to ∙ h.passes)))
      where
        weaker : (o : Option Note) → option_map_or (test wants) o false ≡ true
            → option_map_or (λ (n : Note). is_owed_for_throw n || test (thrown_by rules (granted k)) n) o false ≡ true
        weaker None f = absurd cc
        weaker (Some n) f = or_last (is_owed_for_throw n) (test wants n) f
    catches_here false fails =
        let none : (calls (shape_of own) && (has_clause b.policy ref && is_duty_of rules ref)) ≡ false =
        rw (duty_not fails) (rw (and_false (has_clauses b.policy callee)) (and_false (calls (shape_of own)))) in
        ap (λ (c : Bool). not c || option_map_or (catches_all rules notes_told (granted k)) (first_handler (begin + place) b.made.handlers) false) none

    pub call_passes : note_fault rules notes_told b.made (begin + place) ≡ None
    call_passes =
        fault_at rules notes_told b.made (begin + place) own ref (granted k) insn_is ref_is told_is
        (no_fault notes_told b.made here rules (granted k) record {
          row = row;
          is = row_is;
          alone = refl;
          called = or_last _ _ (ap (λ (c : Bool). cond c (is_granted rules ref (granted k)) false) has ∙ call_granted k);
          caught = catches_here (catches b.mode (clauses k).exceptional) refl;
          pass =
              and_from _ _
              (next_passes b frames ready (begin + place) own ref row insn_is reached (λ goes r. returns_to r)
              (subst (AllByRecursion (λ to. R to → P row.jump to))
              (sym (call_goes own (ready.calls i callee own there names).0 (ready.calls i callee own there names).1).jumps) tt))
              (handlers_pass_here (catches b.mode (clauses k).exceptional) refl);
          first =
              λ zero_is. ap (is_open (held_in b.mode) b.policy) (sym note_is)
              ∙ first_opens b frames ready i callee own there names has place item e reached zero_is;
        })

  -- ---- all instructions

  block_passes : (i callee : ℕ) (own : Insn) → slice_get b.method.insns i ≡ Some own → slice_get (refs b) i ≡ Some (target.ApiMethod callee)
      → has_clauses b.policy callee ≡ true → (place : ℕ) → place < length (part b (target.ApiMethod callee)) → R (front b i + place)
      → note_fault rules notes_told b.made (front b i + place) ≡ None
  block_passes i callee own there names has place lt reached =
      let k = blocked b frames ready i callee names has in
      let item = slice_there (items_in b frames ready i callee names has) place (omega (arith, lt, part_length b.policy b.mode (base b) callee has)) in
      elim (calling.each_item b.mode (bools_of b.policy) (base b) (clauses k) place item.0 item.1) [
        | inl is ↦ call_passes i callee own there names has place item.0 item.1 reached (ap (λ (x : Item). x.insn) is.1) is.0
        | inr other ↦ other_passes b frames ready i callee own there names has place item.0 item.1 reached other.other
      ]

  part_passes : (i : ℕ) (own : Insn) (ref : Target) → slice_get b.method.insns i ≡ Some own → slice_get (refs b) i ≡ Some ref → (c : Bool)
      → has_block b.policy ref ≡ c → (place : ℕ) → place < length (part b ref) → R (front b i + place)
      → note_fault rules notes_told b.made (front b i + place) ≡ None
  part_passes i own ref there names false none place lt reached =
      let single : length (part b ref) ≡ 1 = ap length (part_alone (plan b) (base b) ref (none_there b.policy b.mode (base b) ref none)) in
      let at : place ≡ 0 = omega (arith, lt, single) in
      subst (λ (m : ℕ). note_fault rules notes_told b.made (front b i + m) ≡ None) (sym at)
      (alone_passes b frames ready i own ref there names none (subst (λ (m : ℕ). R (front b i + m)) at reached))
  part_passes i own (target.ApiMethod callee) there names true has place lt reached = block_passes i callee own there names has place lt reached
  part_passes i own target.None there names true has place lt reached = absurd (false≢true has)
  part_passes i own (target.Builtin j) there names true has place lt reached = absurd (false≢true has)
  part_passes i own (target.Method c m) there names true has place lt reached = absurd (false≢true has)
  part_passes i own (target.Field c f) there names true has place lt reached = absurd (false≢true has)
  part_passes i own (target.ApiField j) there names true has place lt reached = absurd (false≢true has)
  part_passes i own (target.ClassName name) there names true has place lt reached = absurd (false≢true has)
  part_passes i own (target.Number m) there names true has place lt reached = absurd (false≢true has)
  part_passes i own (target.Literal j) there names true has place lt reached = absurd (false≢true has)

  pub passes : (at : ℕ) → R at → note_fault rules notes_told b.made at ≡ None
  passes at reached =
      let l = locate (plan b) (base b) (refs b) at (omega (arith, within b frames ready at reached, made_long (weaves b))) in
      let few : l.own < n b = omega (arith, slice_get_within (refs b) l.own l.ref l.there, same_length (weaves b)) in
      let insn = slice_there b.method.insns l.own few in
      subst (λ (m : ℕ). note_fault rules notes_told b.made m ≡ None) (sym l.is)
      (part_passes l.own insn.0 l.ref insn.1 l.there (has_block b.policy l.ref) refl l.place l.within (subst R l.is reached))

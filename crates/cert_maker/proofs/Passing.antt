-- No rule of the notes fails at an instruction of a woven method that has a frame.
use Rattle.std.proofs.Common.{◌≡◌, ◌≢◌, ℕ, zero, suc, ◌+◌, ◌<◌, ◌≤◌, Bool, true, false, cond, List, [], ◌∷◌, ◌++◌, length, map, Option, Some, None, refl, sym, ap, subst, ◌∙◌, inl, inr, arith}
use Rattle.std.specs.Prelude.{◌==◌, ◌&&◌, ◌||◌, Contains, IfSome, is_some, not, slice_get}
use Rattle.std.specs.List.{AllByRecursion, list_all}
use Rattle.std.specs.Option.{option_map_or}
use Rattle.std.proofs.lemmas.Bool.{and_from, eqb-true, false≢true}
use Rattle.std.proofs.lemmas.Option.{slice_get_within}
use Rattle.insn_codec.specs.declared.insn.Insn.{Insn}
use Rattle.insn_codec.specs.declared.insn.Insn.TheVariants as insns
use Rattle.insn_codec.specs.Control.{jump_targets, successors}
use Rattle.insn_codec.specs.Fits.{AimsWithin}
use Rattle.insn_codec.specs.Opcodes.{goes_on}
use Rattle.insn_codec.specs.Shapes.{shape_of}
use Rattle.insn_codec.specs.Encoding.{opcode_of}
use Rattle.bytecode_model.specs.declared.program.Target.{Target}
use Rattle.bytecode_model.specs.declared.program.Target.TheVariants as target
use Rattle.bytecode_model.proofs.Lists.{all_get, some_is}
use Rattle.cert_format.specs.declared.note.Note.{Note}
use Rattle.cert_format.specs.declared.note.Note.TheVariants as notes
use Rattle.cert_format.specs.declared.typing.FrameType.{FrameType}
use Rattle.conspec_tree.specs.declared.types.Phase.TheVariants.{Before}
use Rattle.conspec_automaton.specs.declared.policy.Policy.{Policy}
use Rattle.conspec_automaton.specs.Next.{has_clauses}
use Rattle.offset_patch.specs.declared.block.Block.{Block}
use Rattle.offset_patch.specs.declared.block.BlockInsn.{BlockInsn}
use Rattle.offset_patch.specs.declared.block.BlockInsn.TheVariants as blocks
use Rattle.offset_patch.specs.declared.block.BlockInsn.TheVariants.{Call}
use Rattle.offset_patch.specs.Fits.{JumpsWithin}
use Rattle.offset_patch.specs.Splicing.{aimed, call_place, is_call, put}
use Rattle.block_template.specs.declared.item.Item.{Item}
use Rattle.block_template.specs.declared.item.Role.{Role}
use Rattle.block_template.specs.declared.item.Role.TheVariants as roles
use Rattle.block_template.specs.Blocks.{bools_of, handler_at, has_block}
use Rattle.block_template.specs.Flow.{Flows, IsLed, jump_of, jumps, next, role_at}
use Rattle.block_template.proofs.BlockFlows.{blocks_flow}
use Rattle.block_template.proofs.ItemsTyped.{clauses_are_asked}
use Rattle.block_logic.specs.Annotations.{held_in}
use Rattle.block_logic.specs.Notes.{Here, catches_all, first_handler, handlers_of, is_asked_taking, is_free, is_taking, meets, next_pass, note_fault, note_passes}
use Rattle.block_logic.specs.Operands.{calls, has_clause, loads_constant, pushes_state, variable_named}
use Rattle.block_logic.specs.Rows as rows
use Rattle.block_logic.specs.Rows.{Asked, Open, Row, Rules}
use Rattle.block_logic.specs.Weakening.{is_open}
use Rattle.class_weaving.specs.Outcome.{own_handlers, part_named}
use Rattle.block_template.proofs.Plans.{block_of, none_there, part_item, part_length, site_is}
use Rattle.class_weaving.proofs.Aiming.{jumps_moved}
use Rattle.class_weaving.proofs.Bodies.{fronts_are, insn_there, next_front, ref_there}
use Rattle.cert_maker.proofs.AllRoles.{noted}
use Rattle.cert_maker.proofs.Body.{Body, base, front, fronts, n, note_there, part, plan, refs, sites as sites_in, weaves}
use Rattle.block_template.proofs.Calling as calling
use Rattle.cert_maker.proofs.Checks.{Arrives, Blocked, clauses, note}
use Rattle.cert_maker.proofs.Covering.{AllMiss, own_none}
use Rattle.cert_maker.proofs.Plans.{note_alone, within as calls_within}
use Rattle.cert_maker.proofs.Roles.{IsNoted}
use Rattle.cert_maker.proofs.Rows.{and_false}
use Rattle.cert_maker.proofs.Rules.{all_hold, fault_at, no_fault}
use Rattle.cert_maker.proofs.Shapes.{goes_past, jumps_to, places_of}
use Rattle.cert_maker.proofs.Standing.{IsReady, Passes, Reached, all as items_in, blocked, client_catches, contained_right, each_with, entered_at, entered_opens, front_passes, inside, item_reached, item_told, less, rules_in, canonical, within}
use Rattle.block_template.proofs.Suits.{Suits, items_suit}
use Rattle.class_weaving.proofs.Unwoven.{part_alone}

pub same_clause : (policy : Policy) (ref : Target) → has_clause policy ref ≡ has_block policy ref
same_clause policy (target.ApiMethod callee) = refl
same_clause policy target.None = refl
same_clause policy (target.Builtin i) = refl
same_clause policy (target.Method c m) = refl
same_clause policy (target.Field c f) = refl
same_clause policy (target.ApiField i) = refl
same_clause policy (target.ClassName name) = refl
same_clause policy (target.Number n) = refl
same_clause policy (target.Literal i) = refl

module _ (b : Body) (frames : List (Option FrameType)) (ready : IsReady b frames) where
  abbrev notes_told : List Note
  notes_told = canonical b frames ready

  abbrev R : ℕ → Type 0
  R at = Reached b frames ready at

  abbrev P : Asked → ℕ → Type 0
  P wants at = Passes b frames ready wants at

  abbrev rules : Rules
  rules = rules_in b frames ready

  abbrev test : Asked → Note → Bool
  test = meets rules

  -- ---- what comes next

  next_here : (at : ℕ) (insn : Insn) → goes_on (opcode_of insn) ≡ true → Contains (successors at insn) (at + 1)
  next_here at insn e =
      subst (λ (c : Bool). Contains (cond c ((at + 1) ∷ []) [] ++ jump_targets insn) (at + 1)) (sym e) (0, omega arith, refl)

  pub next_passes : (at : ℕ) (insn : Insn) (ref : Target) (row : Row) → slice_get b.made.insns at ≡ Some insn → R at
      → (goes_on (opcode_of insn) ≡ true → R (at + 1) → P row.past (at + 1))
      → AllByRecursion (λ to. R to → P row.jump to) (jump_targets insn)
      → next_pass test notes_told (Some row) (record { at = at; insn = insn; ref = ref }) ≡ true
  next_passes at insn ref row there reached past jump =
      and_from _ _ (goes (goes_on (opcode_of insn)) refl)
      (all_hold (note_passes test notes_told row.jump) (jump_targets insn)
      (each_with (λ to. R to → P row.jump to) (λ to. P row.jump to) (jump_targets insn) jump
      (λ to c passes. passes (ready.next at insn there reached to (contained_right (cond (goes_on (opcode_of insn)) ((at + 1) ∷ []) []) (jump_targets insn) to c)))))
    where
      goes : (c : Bool) → goes_on (opcode_of insn) ≡ c → (not c || note_passes test notes_told row.past (at + 1)) ≡ true
      goes true e = past e (ready.next at insn there reached (at + 1) (next_here at insn e))
      goes false e = refl

  -- ---- the client's instruction alone

  all_fronts : (targets : List ℕ) → AllByRecursion (λ to. to < n b) targets
      → AllByRecursion (λ to. R to → P Open to) (map (front b) targets)
  all_fronts [] all = tt
  all_fronts (to ∷ targets) all = ((λ r. front_passes b frames ready to (omega (arith, all.0)) r), all_fronts targets all.1)

  jumps_within : (x : Insn) → AimsWithin (n b) x → AllByRecursion (λ to. to < n b) (jump_targets x)
  jumps_within (insns.Branch op to) h = (h, tt)
  jumps_within (insns.GotoW to) h = (h, tt)
  jumps_within (insns.Table other low targets) h = h
  jumps_within (insns.Lookup other keys targets) h = h
  jumps_within (insns.Plain op) h = tt
  jumps_within (insns.Byte k) h = tt
  jumps_within (insns.Short k) h = tt
  jumps_within (insns.Ldc index) h = tt
  jumps_within (insns.Pool op index) h = tt
  jumps_within (insns.Iface index count) h = tt
  jumps_within (insns.Local op slot wide) h = tt
  jumps_within (insns.Inc slot by wide) h = tt
  jumps_within (insns.NewArray kind) h = tt

  zero_front : (i : ℕ) → 0 + front b i ≡ front b i
  zero_front i = omega arith

  -- No block's own handler covers it.
  pub own_missed : (i k : ℕ) (ref : Target) → slice_get (refs b) i ≡ Some ref → k < length (part b ref)
      → ((block : Block) (place : ℕ) → (plan b).block (base b) ref ≡ Some block → block.handler ≡ Some place → call_place block.insns ≢ k)
      → AllMiss (front b i + k) (own_handlers 0 (sites_in b))
  own_missed i k ref e lt other =
      subst (λ (m : ℕ). AllMiss (m + k) (own_handlers 0 (sites_in b))) (zero_front i)
      (own_none (plan b) (base b) (calls_within b.policy b.mode (base b)) (refs b) i k 0 ref e lt other)

  open_row : Row
  open_row = record { past = Open; jump = Open; thrown = Open }

  pub alone_passes : (i : ℕ) (insn : Insn) (ref : Target) → slice_get b.method.insns i ≡ Some insn → slice_get (refs b) i ≡ Some ref
      → has_block b.policy ref ≡ false → R (front b i + 0) → note_fault rules notes_told b.made (front b i + 0) ≡ None
  unfolding open_row
  alone_passes i insn ref there names none reached =
      let free_of = none_there b.policy b.mode (base b) ref none in
      let call : slice_get (part b ref) 0 ≡ Some Call = ap (λ (xs : List BlockInsn). slice_get xs 0) (part_alone (plan b) (base b) ref free_of) in
      let single : length (part b ref) ≡ 1 = ap length (part_alone (plan b) (base b) ref free_of) in
      let x : Insn = aimed (fronts b) insn in
      let insn_is = insn_there (weaves b) i 0 insn ref Call there names call in
      let ref_is = ref_there (weaves b) i 0 ref Call names call in
      let few : i < n b = slice_get_within b.method.insns i insn there in
      let here : Here = record { at = front b i + 0; insn = x; ref = ref } in
      let class : pushes_state (shape_of x) ref ≡ false =
      ap (λ (c : Bool). loads_constant (shape_of x) && c) (ready.unnamed i ref names) ∙ and_false (loads_constant (shape_of x)) in
      let alone = ready.untouched i ref names in
      let unasked : has_clause b.policy ref ≡ false = same_clause b.policy ref ∙ none in
      let o = note_there b frames i 0 ref notes.Free names (ap (λ (ns : List Note). slice_get ns 0) (note_alone b.policy b.mode (base b) ref none)) reached in
      let following : front b i + 0 + 1 ≡ front b (suc i) = omega (arith, next_front (weaves b) i ref names, single) in
      let aims : jump_targets x ≡ map (front b) (jump_targets insn) =
      jumps_moved (fronts b) (n b) (front b) (λ j lt. fronts_are (weaves b) j (omega (arith, lt))) insn (all_get (AimsWithin (n b)) b.method.insns i insn b.sound.targets there) in
      fault_at rules notes_told b.made (front b i + 0) x ref notes.Free insn_is ref_is o
      (no_fault notes_told b.made here rules notes.Free record {
        row = open_row;
        is = rw (class, alone) refl;
        alone = rw (alone, class) refl;
        called = rw unasked (or_true (calls (shape_of x)));
        caught = rw unasked (rw (and_false (calls (shape_of x))) refl);
        pass =
            and_from _ _
            (next_passes (front b i + 0) x ref open_row insn_is reached
            (λ goes r. subst (P Open) (sym following) (front_passes b frames ready (suc i) (omega (arith, few)) (subst R following r)))
            (subst (AllByRecursion (λ to. R to → P Open to)) (sym aims)
            (all_fronts (jump_targets insn) (jumps_within insn (all_get (AimsWithin (n b)) b.method.insns i insn b.sound.targets there)))))
            (client_catches b frames ready (front b i + 0) x insn_is reached
            (own_missed i 0 ref names (omega (arith, single)) (λ block place f g. absurd (no_block free_of f))));
        first = λ e. refl;
      })
    where
      or_true : (c : Bool) → (not c || true) ≡ true
      or_true true = refl
      or_true false = refl

      no_block : {A : Type 0} {o : Option A} {y : A} → o ≡ None → o ≡ Some y → ⊥
      no_block e f = absurd cc

  -- ---- a block

  module _ (i callee : ℕ) (own : Insn) (there : slice_get b.method.insns i ≡ Some own) (names : slice_get (refs b) i ≡ Some (target.ApiMethod callee))
      (has : has_clauses b.policy callee ≡ true) where
    abbrev ref : Target
    ref = target.ApiMethod callee

    abbrev k : Blocked
    k = blocked b frames ready i callee names has

    abbrev all : List Item
    all = items_in b frames ready i callee names has

    abbrev begin : ℕ
    begin = front b i

    pub flows : Flows b.mode (bools_of b.policy) (base b) (clauses k) all (handler_at b.mode (bools_of b.policy) (base b) (clauses k))
    flows = blocks_flow b.mode (bools_of b.policy) (base b) (clauses k) (clauses_are_asked b.policy callee ready.read).phases

    pub part_count : length (part b ref) ≡ length all
    part_count = part_length b.policy b.mode (base b) callee has

    -- Where control comes to a place of the block, or after it, what is asked is met.
    pub place_passes : (wants : Asked) (place : ℕ) (role : Role) → role_at all place ≡ role → Arrives k wants role → place ≤ length all
        → R (begin + place) → P wants (begin + place)
    place_passes wants place role is arrives within reached = by (slice_get all place) refl
      where
        following : (xs : List Item) (j : ℕ) → slice_get xs j ≡ None → j ≤ length xs → j ≡ length xs
        following [] zero none le = refl
        following [] (suc j) none le = absurd (omega arith)
        following (x ∷ xs) zero none le = absurd cc
        following (x ∷ xs) (suc j) none le = ap suc (following xs j none (omega arith))

        by : (o : Option Item) → slice_get all place ≡ o → P wants (begin + place)
        by (Some item) e =
            let same : role ≡ item.role = sym is ∙ ap (λ (o : Option Item). option_map_or (λ (x : Item). x.role) o roles.Leave) e in
            let meets_it = inside k wants item.role (item_reached b frames ready i callee names has place item e reached) (subst (Arrives k wants) same arrives) in
            ap (λ (o : Option Note). option_map_or (test wants) o false) (item_told b frames ready i callee names has place item e reached) ∙ meets_it
        by None e =
            let left : role ≡ roles.Leave = sym is ∙ ap (λ (o : Option Item). option_map_or (λ (x : Item). x.role) o roles.Leave) e in
            let wants_open : wants ≡ Open = subst (Arrives k wants) left arrives in
            let at : begin + place ≡ front b (suc i) =
            omega (arith, following all place e within, next_front (weaves b) i ref names, part_count) in
            let passes : P Open (begin + place) =
            subst (P Open) (sym at)
            (front_passes b frames ready (suc i) (omega (arith, less b frames ready i callee names has)) (subst R at reached)) in
            subst (λ (w : Asked). P w (begin + place)) (sym wants_open) passes

    -- ---- an instruction of it that is not the call

    module _ (place : ℕ) (item : Item) (e : slice_get all place ≡ Some item) (reached : R (begin + place)) where
      pub stands : slice_get (part b ref) place ≡ Some item.insn
      stands = part_item b.policy b.mode (base b) callee has place item e

      pub place_few : place < length all
      place_few = slice_get_within all place item e

      pub reached_role : item.role ≢ roles.Unreached
      reached_role = item_reached b frames ready i callee names has place item e reached

      pub led : IsLed b.mode (bools_of b.policy) (base b) (clauses k) (length all) (role_at all) item (role_at all (place + 1))
      led = flows.goes place item e reached_role

      pub suits : Suits b.mode (clauses k) item.role
      suits =
          all_get (λ (x : Item). Suits b.mode (clauses k) x.role) all place item
          (items_suit b.mode (clauses k) (clauses_are_asked b.policy callee ready.read).phases (bools_of b.policy) (base b)) e

      -- At the front of the code no thread is in a block.
      pub first_opens : (begin + place == 0) ≡ true → is_open (held_in b.mode) b.policy (note k item.role) ≡ true
      first_opens zero_is =
          let none : begin + place ≡ 0 = eqb-true _ _ zero_is in
          let at : place ≡ 0 = omega (arith, none) in
          let here : slice_get all 0 ≡ Some item = ap (slice_get all) (sym at) ∙ e in
          ap (λ (r : Role). is_open (held_in b.mode) b.policy (note k r)) (entered_at b frames ready i callee names has item here) ∙ entered_opens k

      module _ (other : is_call item.insn ≡ false) where
        abbrev of : IsNoted k b.pool (fronts b) begin own ref item.role item.insn
        of = noted k b.pool (fronts b) begin own ref item.role item.insn (length all) led.is.0 led.is.1 other suits

        abbrev operand : Target
        operand = part_named b.state ref item.insn

        abbrev here : Here
        here = record { at = begin + place; insn = put b.pool (fronts b) begin own item.insn; ref = operand }

        insn_is : slice_get b.made.insns (begin + place) ≡ Some (put b.pool (fronts b) begin own item.insn)
        insn_is = insn_there (weaves b) i place own ref item.insn there names stands

        next_place : begin + place + 1 ≡ begin + (place + 1)
        next_place = omega arith

        passes_next : goes_on (opcode_of (put b.pool (fronts b) begin own item.insn)) ≡ true → R (begin + place + 1) → P of.row.past (begin + place + 1)
        passes_next goes r =
            let may = goes_past b.pool (fronts b) begin own b.state ref item.insn other goes in
            subst (P of.row.past) (sym next_place)
            (place_passes of.row.past (place + 1) (next b.mode (clauses k) item.role) (led.passes may) (of.passes may) (omega (arith, place_few))
            (subst R next_place r))

        jump_within : (o : Option ℕ) → jump_of item.insn ≡ o → IfSome o (λ to. to ≤ length all)
        jump_within None f = tt
        jump_within (Some to) f = by item.insn f stays
          where
            stays : JumpsWithin (length all) item.insn
            stays =
                elim (calling.each_item b.mode (bools_of b.policy) (base b) (clauses k) place item e) [
                  | inl is ↦ absurd (false≢true (sym other ∙ ap (λ (x : Item). is_call x.insn) is.1))
                  | inr is ↦ is.stays
                ]

            by : (y : BlockInsn) → jump_of y ≡ Some to → JumpsWithin (length all) y → to ≤ length all
            by (blocks.Jump op place) f stays =
                let same : place ≡ to = cc in
                subst (λ (m : ℕ). m ≤ length all) same stays
            by (blocks.Plain op) f stays = absurd cc
            by (blocks.Byte m) f stays = absurd cc
            by (blocks.Short m) f stays = absurd cc
            by (blocks.Local op slot wide) f stays = absurd cc
            by (blocks.Want op want) f stays = absurd cc
            by Call f stays = absurd cc

        lands_by : (o : Option ℕ) → jump_of item.insn ≡ o → IfSome o (λ to. role_at all to ≡ jumps b.mode (clauses k) item.role)
            → IfSome o (λ to. to ≤ length all)
            → AllByRecursion (λ to. R to → P of.row.jump to) (places_of b.pool (fronts b) begin own b.state ref o)
        lands_by None f roles within = tt
        lands_by (Some to) f role within =
            ((λ r. place_passes of.row.jump to (jumps b.mode (clauses k) item.role) role (of.lands (ap is_some f)) within r), tt)

        passes_jumps : AllByRecursion (λ to. R to → P of.row.jump to) (jump_targets (put b.pool (fronts b) begin own item.insn))
        passes_jumps =
            subst (AllByRecursion (λ to. R to → P of.row.jump to)) (sym (jumps_to b.pool (fronts b) begin own b.state ref item.insn other))
            (lands_by (jump_of item.insn) refl led.lands (jump_within (jump_of item.insn) refl))

        missed_here : AllMiss (begin + place) (own_handlers 0 (sites_in b))
        missed_here =
            own_missed i place ref names (omega (arith, part_count, place_few))
            (λ block at f g same.
            let is : block_of b.policy b.mode (base b) callee ≡ block = some_is _ block (sym (site_is b.policy b.mode (base b) callee has) ∙ f) in
            let at_index : calling.index b.mode (bools_of b.policy) (base b) (clauses k) ≡ place =
            sym (calling.place_is b.mode (bools_of b.policy) (base b) (clauses k)) ∙ ap (λ (y : Block). call_place y.insns) is ∙ same in
            calling.other_place b.mode (bools_of b.policy) (base b) (clauses k) place item e other at_index)

        -- What it throws goes to the client.
        handlers_pass_here : list_all (note_passes test notes_told of.row.thrown) (handlers_of (begin + place) b.made.handlers) ≡ true
        handlers_pass_here =
            ap (λ (w : Asked). list_all (note_passes test notes_told w) (handlers_of (begin + place) b.made.handlers)) of.thrown
            ∙ client_catches b frames ready (begin + place) (put b.pool (fronts b) begin own item.insn) insn_is reached missed_here

        -- The lock's class is pushed where the lock is taken.
        takes_next : next b.mode (clauses k) item.role ≡ roles.Lock Before true → jump_of item.insn ≡ None
            → next_pass is_asked_taking notes_told None here ≡ true
        takes_next role none =
            and_from _ _ (goes (goes_on (opcode_of (put b.pool (fronts b) begin own item.insn))) refl)
            (ap (list_all (note_passes is_asked_taking notes_told rows.Nothing))
            (jumps_to b.pool (fronts b) begin own b.state ref item.insn other ∙ ap (places_of b.pool (fronts b) begin own b.state ref) none))
          where
            found : role_at all (place + 1) ≡ roles.Lock Before true → (o : Option Item) → slice_get all (place + 1) ≡ o → R (begin + (place + 1))
                → note_passes is_asked_taking notes_told rows.Nothing (begin + (place + 1)) ≡ true
            found is None f r =
                let no : roles.Leave ≡ roles.Lock Before true = sym (ap (λ (o : Option Item). option_map_or (λ (y : Item). y.role) o roles.Leave) f) ∙ is in
                absurd cc
            found is (Some y) f r =
                let same : y.role ≡ roles.Lock Before true = sym (ap (λ (o : Option Item). option_map_or (λ (z : Item). z.role) o roles.Leave) f) ∙ is in
                ap (λ (o : Option Note). option_map_or (is_asked_taking rows.Nothing) o false) (item_told b frames ready i callee names has (place + 1) y f r)
                ∙ ap (λ (r : Role). is_taking (note k r)) same

            goes : (c : Bool) → goes_on (opcode_of (put b.pool (fronts b) begin own item.insn)) ≡ c
                → (not c || note_passes is_asked_taking notes_told rows.Nothing (begin + place + 1)) ≡ true
            goes false g = refl
            goes true g =
                let may = goes_past b.pool (fronts b) begin own b.state ref item.insn other g in
                let r = ready.next (begin + place) (put b.pool (fronts b) begin own item.insn) insn_is reached (begin + place + 1)
                (next_here (begin + place) (put b.pool (fronts b) begin own item.insn) g) in
                ap (note_passes is_asked_taking notes_told rows.Nothing) next_place
                ∙ found (led.passes may ∙ role) (slice_get all (place + 1)) refl (subst R next_place r)

        alone_by : (free class : Bool) → is_free (note k item.role) ≡ free → pushes_state (shape_of here.insn) here.ref ≡ class
            → (not free || (not (is_some (variable_named b.state here.ref)) && (not class || next_pass is_asked_taking notes_told None here))) ≡ true
        alone_by false class f g = refl
        alone_by true false f g = rw (of.variable f) refl
        alone_by true true f g =
            let p = of.pushes f g in
            rw (of.variable f, takes_next p.0 p.1) refl

        pub other_passes : note_fault rules notes_told b.made (begin + place) ≡ None
        other_passes =
            fault_at rules notes_told b.made (begin + place) (put b.pool (fronts b) begin own item.insn) operand (note k item.role) insn_is
            (ref_there (weaves b) i place ref item.insn names stands) (item_told b frames ready i callee names has place item e reached)
            (no_fault notes_told b.made here rules (note k item.role) record {
              row = of.row;
              is = of.is;
              alone = alone_by (is_free (note k item.role)) (pushes_state (shape_of here.insn) here.ref) refl refl;
              called = of.called (begin + place);
              caught = ap (λ (c : Bool). not c || option_map_or (catches_all rules notes_told (note k item.role)) (first_handler (begin + place) b.made.handlers) false) of.catches;
              pass =
                  and_from _ _ (next_passes (begin + place) (put b.pool (fronts b) begin own item.insn) operand of.row insn_is reached passes_next passes_jumps)
                  handlers_pass_here;
              first = first_opens;
            })

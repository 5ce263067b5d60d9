-- The rows of a block.
use Rattle.std.proofs.Common.{◌≡◌, ◌≢◌, ℕ, ◌+◌, ◌<◌, ◌≤◌, Bool, true, false, cond, length, Option, Some, None, refl, sym, ap, subst, ◌∙◌, inl, inr, arith}
use Rattle.std.specs.Prelude.{◌⊎◌, IfSome, ◌==◌, nat_lt, slice_get}
use Rattle.std.specs.List.{list_all}
use Rattle.std.specs.Option.{option_map_or}
use Rattle.std.proofs.lemmas.Bool.{cases_Bool, and_from, eqb-true, false≢true, ltb-true, ne_eqb}
use Rattle.std.proofs.lemmas.Bool.Decides.{nat_tests}
use Rattle.std.proofs.lemmas.Option.{slice_get_past, slice_get_within}
use Rattle.cert_format.specs.declared.typing.FrameType.{FrameType}
use Rattle.insn_codec.specs.declared.insn.Insn.{Insn}
use Rattle.bytecode_model.specs.declared.program.Handler.{Handler}
use Rattle.bytecode_model.specs.declared.program.Target.{Target}
use Rattle.bytecode_model.specs.declared.program.Target.TheVariants as target
use Rattle.bytecode_model.specs.InsnPlace.{InsnPlace}
use Rattle.bytecode_model.specs.Rules.{Caught, Entry, catches_well, frame_of, goes_well}
use Rattle.bytecode_model.specs.Typed.{row_in}
use Rattle.bytecode_model.proofs.Lists.{some_is}
use Rattle.conspec_automaton.specs.Next.{has_clauses}
use Rattle.offset_patch.specs.declared.block.BlockInsn.{BlockInsn}
use Rattle.offset_patch.specs.declared.block.BlockInsn.TheVariants.{Plain, Byte, Short, Local as InLocal, Want, Jump, Call}
use Rattle.offset_patch.specs.Fits.{JumpsWithin}
use Rattle.offset_patch.specs.Splicing.{is_call, put}
use Rattle.block_template.specs.declared.item.Item.{Item}
use Rattle.block_template.specs.declared.item.Role.{Role}
use Rattle.block_template.specs.declared.item.Role.TheVariants as roles
use Rattle.block_template.specs.Blocks.{clauses_of, handler_at, is_locked, lets_pass}
use Rattle.block_template.specs.Flow.{entered, jump_of, after_return, role_at, thrown}
use Rattle.block_template.specs.Frames.{frame_at}
use Rattle.block_template.specs.Reached.{IsReached}
use Rattle.block_template.specs.Typed.{CallIsTyped, GoesTo, ItemIsTyped}
use Rattle.block_template.proofs.BlockFlows.{blocks_flow}
use Rattle.block_template.proofs.CatchesTyped.{calls_are_typed}
use Rattle.block_template.proofs.ItemsTyped.{clauses_are_asked, items_are_typed}
use Rattle.block_template.proofs.Reaching.{blocks_are_reached}
use Rattle.class_weaving.specs.Outcome.{part_named}
use Rattle.class_weaving.proofs.Bodies.{insn_there, ref_there}
use Rattle.woven_typing.proofs.Aiming.{opcode_stays}
use Rattle.woven_typing.proofs.Blocks.{arrives, bools, client_caught, frame_role, frame_there, goes_from, is_insn, items, mode, near, part_long, phases, reached_to, start, thrown_not, told}
use Rattle.woven_typing.proofs.Body as of
use Rattle.woven_typing.proofs.Called.{CallAt, calls, fits, is_call as called_there, kept, listed, p, q, ref, room, shape_there}
use Rattle.block_template.proofs.Calling.{call_item, call_there, each_item, index}
use Rattle.woven_typing.proofs.Client.{Typed, again, aim, b, entry_there, moved, row_here, woven}
use Rattle.woven_typing.proofs.Fronts.{IsFrontOf, entered_is}
use Rattle.woven_typing.proofs.Handlers.{Throws, all_caught}
use Rattle.woven_typing.proofs.Leaving.{goes_next}
use Rattle.class_weaving.proofs.Lists.{slice_there}
use Rattle.bytecode_model.proofs.Passing.{Passes, row_met}
use Rattle.block_template.proofs.Plans.{part_item}
use Rattle.woven_typing.proofs.Rows.{depth_kept, made_kept, operand_kept}
use Rattle.woven_typing.proofs.Standing.{spot, stands}

module _ (t : Typed) (c : CallAt t) where
  reach_is : Rattle.block_template.specs.Reached.IsReachedWell (mode t c) (bools t c) (of.base (b t)) (told t c)
  reach_is = blocks_are_reached (mode t c) (bools t c) (of.base (b t)) (told t c) (phases t c)

  flow_is : Rattle.block_template.specs.Flow.Flows (mode t c) (bools t c) (of.base (b t)) (told t c) (items t c)
      (handler_at (mode t c) (bools t c) (of.base (b t)) (told t c))
  flow_is = blocks_flow (mode t c) (bools t c) (of.base (b t)) (told t c) (phases t c)

  -- where the call stands in the block
  abbrev call : ℕ
  call = index (mode t c) (bools t c) (of.base (b t)) (told t c)

  role_of : (k : ℕ) (item : Item) → slice_get (items t c) k ≡ Some item → role_at (items t c) k ≡ item.role
  role_of k item e = ap (λ (o : Option Item). option_map_or (λ (i : Item). i.role) o roles.Leave) e

  in_part : (k : ℕ) (item : Item) → slice_get (items t c) k ≡ Some item → slice_get (of.part (b t) (ref t c)) k ≡ Some item.insn
  in_part k item e = part_item (b t).policy (b t).mode (of.base (b t)) c.callee c.has k item e

  within : (k : ℕ) (item : Item) → slice_get (items t c) k ≡ Some item → k < length (of.part (b t) (ref t c))
  within k item e = omega (arith, part_long t c, slice_get_within (items t c) k item e)

  -- ---- an instruction that is reached, and its types

  module _ (k : ℕ) (item : Item) (e : slice_get (items t c) k ≡ Some item) (reached : IsReached item.role) (types : FrameType)
      (types_are : frame_at (told t c) (near t c) item.role ≡ Some types) where
    abbrev place : InsnPlace
    place = spot t c k item.insn

    begins : ((start t c + k) == 0) ≡ true → Entry place types ≡ true
    begins zero_is =
        let none : start t c + k ≡ 0 = eqb-true (start t c + k) 0 zero_is in
        let first : k ≡ 0 = omega (arith, none) in
        let role : item.role ≡ entered (mode t c) (told t c).before =
        sym (role_of k item e) ∙ ap (role_at (items t c)) first ∙ flow_is.begins in
        let enters = entered_is (told t c) (near t c) (mode t c) in
        let same : enters.types ≡ types = some_is _ _ (sym enters.told ∙ ap (frame_at (told t c) (near t c)) (sym role) ∙ types_are) in
        let front : IsFrontOf (again t c.types) types = subst (IsFrontOf (again t c.types)) same enters.front in
        entry_there t c.i (start t c + k) c.insn (ref t c) (put (of.pool (b t)) (of.fronts (b t)) (start t c) c.insn item.insn)
        (part_named (of.state (b t)) (ref t c) item.insn) c.types types c.there c.row front (omega (arith, first)) zero_is

    caught : Throws t c.i k c.insn (ref t c) c.there c.names (within k item e)
        (put (of.pool (b t)) (of.fronts (b t)) (start t c) c.insn item.insn) (part_named (of.state (b t)) (ref t c) item.insn) c.types types c.row
        (client_caught t c item.role types types_are reached)
        → Caught (woven t) place types ≡ true
    caught throws =
        all_caught t c.i k c.insn (ref t c) c.there c.names (within k item e)
        (put (of.pool (b t)) (of.fronts (b t)) (start t c) c.insn item.insn) (part_named (of.state (b t)) (ref t c) item.insn) c.types types c.row
        (client_caught t c item.role types types_are reached) throws

    met_at : Passes (woven t) place types → row_in (b t).new (b t).own (b t).other (b t).made (woven t) (start t c + k) ≡ None
    met_at passes =
        row_here t (start t c + k) (put (of.pool (b t)) (of.fronts (b t)) (start t c) c.insn item.insn)
        (part_named (of.state (b t)) (ref t c) item.insn) (Some types)
        (insn_there (of.weaves (b t)) c.i k c.insn (ref t c) item.insn c.there c.names (in_part k item e))
        (ref_there (of.weaves (b t)) c.i k (ref t c) item.insn c.names (in_part k item e))
        (frame_there t c k item e ∙ types_are)
        (row_met (woven t) place types passes)

  -- ---- those of the block itself

  lands_within : (n : ℕ) (x : BlockInsn) (Lands : ℕ → Type 0) (P : ℕ → Bool) → JumpsWithin n x → IfSome (jump_of x) Lands
      → ((place : ℕ) → place ≤ n → Lands place → P (start t c + place) ≡ true) → IfSome (jump_of x) (λ place. P (start t c + place) ≡ true)
  lands_within n (Jump op place) Lands P stays lands gives = gives place stays lands
  lands_within n (Plain op) Lands P stays lands gives = tt
  lands_within n (Byte m) Lands P stays lands gives = tt
  lands_within n (Short m) Lands P stays lands gives = tt
  lands_within n (InLocal op slot wide) Lands P stays lands gives = tt
  lands_within n (Want op want) Lands P stays lands gives = tt
  lands_within n Call Lands P stays lands gives = tt

  item_row : (k : ℕ) (item : Item) → slice_get (items t c) k ≡ Some item → IsReached item.role → is_call item.insn ≡ false
      → JumpsWithin (length (items t c)) item.insn → row_in (b t).new (b t).own (b t).other (b t).made (woven t) (start t c + k) ≡ None
  item_row k item e reached other stays =
      let place : InsnPlace = spot t c k item.insn in
      let x : Insn = put (of.pool (b t)) (of.fronts (b t)) (start t c) c.insn item.insn in
      let r : Target = part_named (of.state (b t)) (ref t c) item.insn in
      let typed : ItemIsTyped (told t c) (near t c) (role_at (items t c)) k item place =
      items_are_typed (mode t c) (bools t c) (b t).policy.vars (b t).policy.maxint (told t c) (near t c) (phases t c)
      (clauses_are_asked (b t).policy c.callee (b t).read).clauses (fits t c) k item e reached other place
      (stands t c k item.insn (in_part k item e)) (room t c) in
      let goes : ℕ → Bool = λ to. option_map_or (goes_well place typed.types) (frame_of (woven t) to) false in
      let next : start t c + k + 1 ≡ start t c + (k + 1) = omega arith in
      let lt : k < length (items t c) = slice_get_within (items t c) k item e in
      met_at k item e reached typed.types typed.told
      (record {
        entry = begins k item e reached typed.types typed.told;
        depth = typed.depth;
        operand = typed.operand;
        local = typed.local;
        made = typed.made;
        successor =
            goes_from goes (of.pool (b t)) (of.fronts (b t)) (start t c) (start t c + k) c.insn item.insn other
            (λ pass. ap goes next ∙ arrives t c (start t c + k) x r typed.types (k + 1) (omega (arith, lt)) (typed.passes pass))
            (lands_within (length (items t c)) item.insn (λ index. GoesTo (told t c) (near t c) place typed.types (role_at (items t c) index)) goes stays
            typed.lands (λ to le lands. arrives t c (start t c + k) x r typed.types to le lands));
        caught = caught k item e reached typed.types typed.told
            (λ callee to same has at is handler any. absurd (not_call k item e other (is ∙ ap own_index (one_callee callee same))));
      })
    where
      own_index : ℕ → ℕ
      own_index callee = index (mode t c) (bools t c) (of.base (b t)) (clauses_of (b t).policy callee)

      one_callee : (callee : ℕ) → ref t c ≡ target.ApiMethod callee → callee ≡ c.callee
      one_callee callee same = cc

      not_call : (k : ℕ) (item : Item) → slice_get (items t c) k ≡ Some item → is_call item.insn ≡ false → k ≢ call
      not_call k item e other is =
          let there = call_there (mode t c) (bools t c) (of.base (b t)) (told t c) in
          let same : item ≡ call_item (mode t c) (bools t c) (of.base (b t)) (told t c) =
          some_is _ _ (sym e ∙ ap (slice_get (items t c)) is ∙ there) in
          false≢true (sym other ∙ ap (λ (i : Item). is_call i.insn) same)

  -- ---- the call

  passes_of : (b : Bool) (locked : Bool) → IsReached (cond b (roles.Call locked) roles.Unreached) → b ≡ true
  passes_of true locked reached = refl
  passes_of false locked reached = absurd (reached refl)

  call_row : IsReached (call_item (mode t c) (bools t c) (of.base (b t)) (told t c)).role
      → row_in (b t).new (b t).own (b t).other (b t).made (woven t) (start t c + call) ≡ None
  call_row reached =
      let item : Item = call_item (mode t c) (bools t c) (of.base (b t)) (told t c) in
      let e : slice_get (items t c) call ≡ Some item = call_there (mode t c) (bools t c) (of.base (b t)) (told t c) in
      let locked : Bool = is_locked (mode t c) in
      let passing : lets_pass (told t c).before ≡ true = passes_of (lets_pass (told t c).before) locked reached in
      let role : item.role ≡ roles.Call locked = ap (λ (x : Bool). cond x (roles.Call locked) roles.Unreached) passing in
      let m : ℕ = start t c + call in
      let place : InsnPlace = q t c m in
      let typed : CallIsTyped (mode t c) (told t c) (near t c) locked place =
      calls_are_typed (mode t c) (told t c) (near t c) locked (fits t c) place (called_there t c m) (room t c) in
      let types_are : frame_at (told t c) (near t c) item.role ≡ Some typed.types = ap (frame_at (told t c) (near t c)) role ∙ typed.told in
      let lt : call < length (items t c) = slice_get_within (items t c) call item e in
      let next : m + 1 ≡ start t c + (call + 1) = omega arith in
      let goes : ℕ → Bool = λ to. option_map_or (goes_well place typed.types) (frame_of (woven t) to) false in
      let following : role_at (items t c) (call + 1) ≡ after_return (mode t c) (told t c).after =
      (flow_is.goes call item e reached).passes refl ∙ ap (Rattle.block_template.specs.Flow.next (mode t c) (told t c)) role in
      let to : GoesTo (told t c) (near t c) place typed.types (role_at (items t c) (call + 1)) =
      reached_to (told t c) (near t c) (λ f. goes_well place typed.types f ≡ true) (after_return (mode t c) (told t c).after) (role_at (items t c) (call + 1))
      following ((reach_is.goes call item e reached).passes refl) typed.returns in
      met_at call item e reached typed.types types_are
      (record {
        entry = begins call item e reached typed.types types_are;
        depth = typed.depth (depth_kept (moved t) (p t c) place (kept t c m) c.types c.row.depth);
        operand = typed.operand (operand_kept (moved t) (p t c) place (kept t c m) c.types c.row.operand);
        local = typed.local;
        made = typed.made (made_kept (moved t) (p t c) place (kept t c m) c.types ∙ c.row.made);
        successor =
            ap (list_all goes) (goes_next c.insn (aim t c.insn) (listed t c).how m (is_insn t c) (calls t c) (opcode_stays (of.fronts (b t)) c.insn) (shape_there t c m))
            ∙ and_from (goes (m + 1)) true
            (ap goes next ∙ arrives t c m (aim t c.insn) (ref t c) typed.types (call + 1) (omega (arith, lt)) to) refl;
        caught = caught call item e reached typed.types types_are (throws passing typed);
      })
    where
      -- the handler of the block takes what is thrown
      handler_takes : (locked : Bool) (typed : CallIsTyped (mode t c) (told t c) (near t c) locked (q t c (start t c + call)))
          → lets_pass (told t c).before ≡ true → (place : ℕ) → handler_at (mode t c) (bools t c) (of.base (b t)) (told t c) ≡ Some place
          → (handler : Handler) → handler.class ≡ None
          → option_map_or (catches_well (q t c (start t c + call)) typed.types handler) (frame_of (woven t) (start t c + place)) false ≡ true
      handler_takes locked typed passing place at handler any =
          let is : role_at (items t c) place ≡ thrown (mode t c) (told t c).exceptional =
          subst (λ (o : Option ℕ). IfSome o (λ n. role_at (items t c) n ≡ thrown (mode t c) (told t c).exceptional)) at (flow_is.caught passing) in
          let reached : IsReached (role_at (items t c) place) =
          subst (λ (o : Option ℕ). IfSome o (λ n. IsReached (role_at (items t c) n))) at (reach_is.caught passing) in
          let to = reached_to (told t c) (near t c) (λ f. catches_well (q t c (start t c + call)) typed.types handler f ≡ true)
          (thrown (mode t c) (told t c).exceptional) (role_at (items t c) place) is reached (typed.throws handler any) in
          elim (cases_Bool (nat_lt place (length (items t c)))) [
            | inl less ↦
                ap (λ (o : Option FrameType). option_map_or (catches_well (q t c (start t c + call)) typed.types handler) o false)
                (frame_role t c place (ltb-true _ _ less) ∙ to.1)
                ∙ to.2
            | inr fails ↦
                let past : length (items t c) ≤ place = grind (arith, nat_tests) in
                let left : role_at (items t c) place ≡ roles.Leave =
                ap (λ (o : Option Item). option_map_or (λ (i : Item). i.role) o roles.Leave) (slice_get_past (items t c) place past) in
                absurd (thrown_not (mode t c) (told t c).exceptional (sym is ∙ left))
          ]

      throws : lets_pass (told t c).before ≡ true
          → (typed : CallIsTyped (mode t c) (told t c) (near t c) (is_locked (mode t c)) (q t c (start t c + call)))
          → (callee place : ℕ) → ref t c ≡ target.ApiMethod callee → has_clauses (b t).policy callee ≡ true
          → handler_at (mode t c) (bools t c) (of.base (b t)) (clauses_of (b t).policy callee) ≡ Some place
          → call ≡ index (mode t c) (bools t c) (of.base (b t)) (clauses_of (b t).policy callee)
          → (handler : Handler) → handler.class ≡ None
          → option_map_or (catches_well (q t c (start t c + call)) typed.types handler) (frame_of (woven t) (start t c + place)) false ≡ true
      throws passing typed callee place same has at is handler any =
          let one : callee ≡ c.callee = cc in
          handler_takes (is_locked (mode t c)) typed passing place
          (ap (λ (n : ℕ). handler_at (mode t c) (bools t c) (of.base (b t)) (clauses_of (b t).policy n)) (sym one) ∙ at) handler any

  -- ---- what is not reached

  unreached_row : (k : ℕ) (item : Item) → slice_get (items t c) k ≡ Some item → item.role ≡ roles.Unreached
      → row_in (b t).new (b t).own (b t).other (b t).made (woven t) (start t c + k) ≡ None
  unreached_row k item e none =
      let not_first : (start t c + k) ≢ 0 =
      λ zero_is.
      let first : k ≡ 0 = omega (arith, zero_is) in
      reach_is.begins (ap (role_at (items t c)) (sym first) ∙ role_of k item e ∙ none) in
      row_here t (start t c + k) (put (of.pool (b t)) (of.fronts (b t)) (start t c) c.insn item.insn)
      (part_named (of.state (b t)) (ref t c) item.insn) None
      (insn_there (of.weaves (b t)) c.i k c.insn (ref t c) item.insn c.there c.names (in_part k item e))
      (ref_there (of.weaves (b t)) c.i k (ref t c) item.insn c.names (in_part k item e))
      (frame_there t c k item e ∙ ap (frame_at (told t c) (near t c)) none)
      (ap (λ (z : Bool). cond z (Some 1) None) (ne_eqb (start t c + k) 0 not_first))

  -- ---- all of them

  is_reached_or : (role : Role) → (role ≡ roles.Unreached) ⊎ IsReached role
  is_reached_or roles.Unreached = inl refl
  is_reached_or (roles.Save left) = inr (λ e. absurd cc)
  is_reached_or (roles.Lock phase pushed) = inr (λ e. absurd cc)
  is_reached_or (roles.Ask phase branch atom done) = inr (λ e. absurd cc)
  is_reached_or (roles.Update phase branch update done) = inr (λ e. absurd cc)
  is_reached_or (roles.Taken phase branch) = inr (λ e. absurd cc)
  is_reached_or (roles.Stop phase done) = inr (λ e. absurd cc)
  is_reached_or (roles.Unlock phase checked pushed) = inr (λ e. absurd cc)
  is_reached_or (roles.Load n locked) = inr (λ e. absurd cc)
  is_reached_or (roles.Call locked) = inr (λ e. absurd cc)
  is_reached_or (roles.Keep locked) = inr (λ e. absurd cc)
  is_reached_or roles.Give = inr (λ e. absurd cc)
  is_reached_or roles.Leave = inr (λ e. absurd cc)
  is_reached_or roles.Rethrow = inr (λ e. absurd cc)

  pub block_row : (k : ℕ) → k < length (items t c) → row_in (b t).new (b t).own (b t).other (b t).made (woven t) (start t c + k) ≡ None
  block_row k lt =
      let x = slice_there (items t c) k lt in
      elim (is_reached_or x.0.role) [
        | inl none ↦ unreached_row k x.0 x.1 none
        | inr reached ↦
            elim (each_item (mode t c) (bools t c) (of.base (b t)) (told t c) k x.0 x.1) [
              | inl is ↦
                  ap (λ (n : ℕ). row_in (b t).new (b t).own (b t).other (b t).made (woven t) (start t c + n)) is.0
                  ∙ call_row (subst (λ (i : Item). IsReached i.role) is.1 reached)
              | inr other ↦ item_row k x.0 x.1 reached other.other other.stays
            ]
      ]

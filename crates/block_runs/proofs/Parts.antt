-- What the parts of a block do that do not jump: arguments are saved and loaded, the lock is taken and left, the result is kept.
use Rattle.std.proofs.Common.{
  ◌≡◌,
  ℕ,
  ◌+◌,
  ◌<◌,
  ◌≤◌,
  Bool,
  true,
  false,
  List,
  [],
  ◌∷◌,
  ◌++◌,
  length,
  sym,
  ap,
  ◌∙◌,
  subst,
  arith,
  append_assoc,
  length-append,
}
use Rattle.std.specs.Prelude.{reverse, slice_set}
use Rattle.std.proofs.lemmas.List.{map-append}
use Rattle.conspec_tree.specs.declared.types.Kind.{Kind}
use Rattle.conspec_tree.specs.declared.types.Phase.{Phase}
use Rattle.offset_patch.specs.declared.block.BlockInsn.{BlockInsn}
use Rattle.offset_patch.specs.declared.block.BlockInsn.TheVariants.{Plain, Want}
use Rattle.offset_patch.specs.declared.block.PoolWant.TheVariants.{StateClass}
use Rattle.insn_codec.specs.declared.opcodes.TheConstants.{LDC_W, MONITORENTER, MONITOREXIT}
use Rattle.block_template.specs.declared.item.Item.{Item}
use Rattle.block_template.specs.declared.item.Role.{Role}
use Rattle.block_template.specs.declared.item.Role.TheVariants as roles
use Rattle.block_template.specs.Parts.{item, loads, lock, save, unlock}
use Rattle.block_template.specs.Pushing.{load, store}
use Rattle.block_template.proofs.Goods.{insns_of}
use Rattle.block_template.proofs.Sizes.{mapped_length}
use Rattle.guest_heap.specs.declared.value.Value.{Value}
use Rattle.guest_heap.specs.declared.value.Value.TheVariants as values
use Rattle.block_runs.specs.Spots.{Spot, Goes, block_insn_stepped}
use Rattle.block_runs.specs.Running.{End, block_run}
use Rattle.block_runs.specs.Passed.{AreOfKinds}
use Rattle.block_runs.proofs.Locals.{HasSaved, last_on_top, saved_count, with_saved}
use Rattle.block_runs.proofs.Moves.{enters, leaves, lock_pushed, spot_at}
use Rattle.block_runs.proofs.Moves as moves
use Rattle.block_runs.proofs.Runs.{run_next, run_over}

module _ (state : ℕ) where
  -- ---- items one after another

  -- the run of items of which the first stands at a place, once so many are jumped over
  abbrev pub skips : List Item → ℕ → ℕ → Spot → End
  skips items at skip spot = block_run state (insns_of items) at skip spot

  abbrev pub runs : List Item → ℕ → Spot → End
  runs items at spot = skips items at 0 spot

  pub over : (part rest : List Item) (at skip : ℕ) (spot : Spot) → skips (part ++ rest) at (length part + skip) spot
      ≡ skips rest (at + length part) skip spot
  over part rest at skip spot =
      let long : length (insns_of part) ≡ length part = mapped_length (λ (i : Item). i.insn) part in
      ap (λ (insns : List BlockInsn). block_run state insns at (length part + skip) spot) (map-append (λ (i : Item). i.insn) part rest)
      ∙ ap (λ (n : ℕ). block_run state (insns_of part ++ insns_of rest) at (n + skip) spot) (sym long)
      ∙ run_over state (insns_of part) (insns_of rest) at skip spot
      ∙ ap (λ (n : ℕ). block_run state (insns_of rest) (at + n) skip spot) long

  -- Wherever the part stands, a run of it goes from one spot to another.
  abbrev pub Leads : List Item → Spot → Spot → Type 0
  Leads part spot after = (at : ℕ) (rest : List Item) → runs (part ++ rest) at spot ≡ runs rest (at + length part) after

  pub nothing : (spot : Spot) → Leads [] spot spot
  nothing spot at rest =
      let here : at ≡ at + length {A = Item} [] = omega arith in
      ap (λ (n : ℕ). runs rest n spot) here

  pub both : (part other : List Item) (spot middle after : Spot) → Leads part spot middle → Leads other middle after
      → Leads (part ++ other) spot after
  both part other spot middle after first second at rest =
      let there : at + length part + length other ≡ at + length (part ++ other) = omega (arith, length-append part other) in
      ap (λ (xs : List Item). runs xs at spot) (append_assoc part other rest) ∙ first at (other ++ rest) ∙ second (at + length part) rest
      ∙ ap (λ (n : ℕ). runs rest n after) there

  pub one : (insn : BlockInsn) (role : Role) (spot after : Spot) → ((next : ℕ) → block_insn_stepped state next spot insn
      ≡ Goes next after)
      → Leads (item insn role ∷ []) spot after
  one insn role spot after moves at rest = run_next state insn (insns_of rest) at spot after (moves (at + 1))

  pub more : (insn : BlockInsn) (role : Role) (part : List Item) (spot middle after : Spot) → ((next : ℕ)
      → block_insn_stepped state next spot insn ≡ Goes next middle)
      → Leads part middle after → Leads (item insn role ∷ part) spot after
  more insn role part spot middle after moves second = both (item insn role ∷ []) part spot middle after
      (one insn role spot middle moves) second

  pub leads_from : (part : List Item) (spot other after : Spot) → spot ≡ other → Leads part other after → Leads part spot after
  leads_from part spot other after e leads at rest = ap (λ (s : Spot). runs (part ++ rest) at s) e ∙ leads at rest

  pub leads_to : (part : List Item) (spot after other : Spot) → after ≡ other → Leads part spot after → Leads part spot other
  leads_to part spot after other e leads at rest = leads at rest ∙ ap (λ (s : Spot). runs rest (at + length part) s) e

  module _ (size : ℕ) (fields : List Value) where
    -- ---- arguments

    -- They are stored, each in its local, and taken off the stack.
    pub saves : (base n : ℕ) (kinds : List Kind) (values beneath locals : List Value) (locked : Bool) → AreOfKinds kinds values
        → base + n + length kinds ≤ length locals → length values + length beneath ≤ size
        → Leads (save base n kinds) (spot_at size (reverse values ++ beneath) locals fields locked) (spot_at size beneath (with_saved
        (base + n) values locals) fields locked)
    saves base n [] [] beneath locals locked fit inside room = nothing (spot_at size beneath locals fields locked)
    saves base n [] (v ∷ values) beneath locals locked fit inside room = absurd fit
    saves base n (kind ∷ kinds) [] beneath locals locked fit inside room = absurd fit
    saves base n (kind ∷ kinds) (v ∷ values) beneath locals locked fit inside room =
        let slot : ℕ = base + n in
        let on_top : reverse (v ∷ values) ++ beneath ≡ reverse values ++ v ∷ beneath = last_on_top v values beneath in
        let next : base + (n + 1) ≡ slot + 1 = omega arith in
        let others : List Value = with_saved (slot + 1) values locals in
        let start : Spot = spot_at size (reverse values ++ v ∷ beneath) locals fields locked in
        let middle : Spot = spot_at size (v ∷ beneath) others fields locked in
        let end : Spot = spot_at size beneath (slice_set others slot v) fields locked in
        let first : Leads (save base (n + 1) kinds) start middle =
        subst (λ (m : ℕ). Leads (save base (n + 1) kinds) start (spot_at size (v ∷ beneath)
        (with_saved m values locals) fields locked)) next
        (saves base (n + 1) kinds values (v ∷ beneath) locals locked fit.1 (omega (arith, inside)) (omega (arith, room))) in
        let within : slot < length others = omega (arith, inside, saved_count (slot + 1) values locals) in
        leads_from (save base n (kind ∷ kinds)) _ start end (ap (λ (s : List Value). spot_at size s locals fields locked) on_top)
        (both (save base (n + 1) kinds) (item (store kind slot) (roles.Save (n + 1)) ∷ []) start middle end first
        (one (store kind slot) (roles.Save (n + 1)) middle end
        (λ at. moves.stores state size at beneath others fields locked kind slot v fit.0 within (omega (arith, room)))))

    -- They are pushed again, in their order.
    pub loaded : (held : Bool) (base n : ℕ) (kinds : List Kind) (values beneath locals : List Value) (locked : Bool)
        → AreOfKinds kinds values
        → HasSaved (base + n) values locals → length values + length beneath ≤ size
        → Leads (loads held base n kinds) (spot_at size beneath locals fields locked) (spot_at size
        (reverse values ++ beneath) locals fields locked)
    loaded held base n [] [] beneath locals locked fit has room = nothing (spot_at size beneath locals fields locked)
    loaded held base n [] (v ∷ values) beneath locals locked fit has room = absurd fit
    loaded held base n (kind ∷ kinds) [] beneath locals locked fit has room = absurd fit
    loaded held base n (kind ∷ kinds) (v ∷ values) beneath locals locked fit has room =
        let slot : ℕ = base + n in
        let on_top : reverse values ++ v ∷ beneath ≡ reverse (v ∷ values) ++ beneath = sym (last_on_top v values beneath) in
        let next : slot + 1 ≡ base + (n + 1) = omega arith in
        let start : Spot = spot_at size beneath locals fields locked in
        let middle : Spot = spot_at size (v ∷ beneath) locals fields locked in
        let end : Spot = spot_at size (reverse values ++ v ∷ beneath) locals fields locked in
        let others : HasSaved (base + (n + 1)) values locals = subst (λ (m : ℕ). HasSaved m values locals) next has.1 in
        leads_to (loads held base n (kind ∷ kinds)) start end _ (ap (λ (s : List Value). spot_at size s locals fields locked) on_top)
        (more (load kind slot) (roles.Load n held) (loads held base (n + 1) kinds) start middle end
        (λ at. moves.loads state size at beneath locals fields locked kind slot v fit.0 has.0 (omega (arith, room)))
        (loaded held base (n + 1) kinds values (v ∷ beneath) locals locked fit.1 others (omega (arith, room))))

    module _ (items locals : List Value) where
      -- ---- the lock

      pub locks : (phase : Phase) → length items < size → Leads (lock phase) (spot_at size items locals fields false)
          (spot_at size items locals fields true)
      locks phase room =
          let start : Spot = spot_at size items locals fields false in
          let middle : Spot = spot_at size (values.Class state ∷ items) locals fields false in
          let end : Spot = spot_at size items locals fields true in
          more (Want LDC_W StateClass) (roles.Lock phase false) (item (Plain MONITORENTER) (roles.Lock phase true) ∷ []) start middle end
          (λ at. lock_pushed state size at items locals fields false room)
          (one (Plain MONITORENTER) (roles.Lock phase true) middle end (λ at. enters state size at items locals fields (omega
          (arith, room))))

      pub unlocks : (phase : Phase) (checked : Bool) → length items < size
          → Leads (unlock phase checked) (spot_at size items locals fields true) (spot_at size items locals fields false)
      unlocks phase checked room =
          let start : Spot = spot_at size items locals fields true in
          let middle : Spot = spot_at size (values.Class state ∷ items) locals fields true in
          let end : Spot = spot_at size items locals fields false in
          more (Want LDC_W StateClass) (roles.Unlock phase checked false) (item (Plain MONITOREXIT)
          (roles.Unlock phase checked true) ∷ []) start middle end
          (λ at. lock_pushed state size at items locals fields true room)
          (one (Plain MONITOREXIT) (roles.Unlock phase checked true) middle end (λ at. leaves state size at items locals fields (omega
          (arith, room))))

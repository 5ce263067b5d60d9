-- Where the call stands in its block, and what holds of each other instruction of the block: none is a call of the client's.
use Rattle.std.proofs.Common.{◌≡◌, ◌≢◌, ℕ, zero, suc, ◌+◌, ◌<◌, ◌≤◌, ℤ, pos, Bool, true, false, cond, List, [], ◌∷◌, ◌++◌, length, map, Option, Some, None, refl, sym, ap, ◌∙◌, subst, inl, inr, arith, length-append}
use Rattle.std.specs.Prelude.{◌⊎◌, ◌&&◌, IfSome, neg_ℤ, int_le, nat_lt, nat_le, slice_get, ⊤}
use Rattle.std.specs.Ordering.{int_eq}
use Rattle.std.specs.List.{AllByRecursion}
use Rattle.std.proofs.lemmas.Bool.{false≢true}
use Rattle.std.proofs.lemmas.List.{map-append}
use Rattle.insn_codec.specs.declared.opcodes.TheConstants.{ILOAD, ALOAD, ILOAD_0, ALOAD_0, ISTORE, ASTORE, ISTORE_0, ASTORE_0, PUTSTATIC, GETSTATIC, INVOKESTATIC, LDC_W}
use Rattle.bytecode_model.proofs.Lists.{some_is}
use Rattle.cert_format.specs.declared.certificate.Mode.{Mode}
use Rattle.conspec_tree.specs.declared.types.Atom.{Atom}
use Rattle.conspec_tree.specs.declared.types.Base.{Base}
use Rattle.conspec_tree.specs.declared.types.Base.TheVariants as bases
use Rattle.conspec_tree.specs.declared.types.Kind.{Kind}
use Rattle.conspec_tree.specs.declared.types.Kind.TheVariants as kinds
use Rattle.conspec_tree.specs.declared.types.Update.{Update}
use Rattle.conspec_automaton.specs.declared.policy.Branch.{Branch}
use Rattle.conspec_automaton.specs.declared.policy.Clause.{Clause}
use Rattle.offset_patch.specs.declared.block.BlockInsn.{BlockInsn}
use Rattle.offset_patch.specs.declared.block.BlockInsn.TheVariants.{Plain, Byte, Short, Local, Want, Jump, Call}
use Rattle.offset_patch.specs.declared.block.PoolWant.TheVariants.{StateClass, Exit, Integer}
use Rattle.offset_patch.specs.Fits.{JumpsWithin}
use Rattle.offset_patch.specs.Splicing.{call_place, is_call}
use Rattle.offset_patch.proofs.Calling.{place_here, place_later}
use Rattle.block_template.specs.declared.item.Item.{Item}
use Rattle.block_template.specs.declared.item.Role.{Role}
use Rattle.block_template.specs.declared.item.Role.TheVariants as roles
use Rattle.block_template.specs.Blocks.{Clauses, call, called, catches, caught, from_call, front, handler_at, is_locked, items, lets_pass, with_handler}
use Rattle.block_template.specs.Parts.{if_reached, item, unreached}
use Rattle.block_template.specs.Pushing.{field, load, local, push, push_base, store}
use Rattle.block_template.proofs.Rows.{Rows, Tried, front_each, rest_each}
use Rattle.block_template.proofs.Sizes.{rest, reached_length, with_handler_length}

-- ---- the instructions by which a block is made

-- What holds of each of them, in a block of so many.
pub record HoldsOfAll (Q : BlockInsn → Type 0) (count : ℕ) : Type 0 where
  pub plain : (op : ℕ) → Q (Plain op)
  pub in_local : (op slot : ℕ) (wide : Bool) → Q (Local op slot wide)
  pub byte : (n : ℤ) → Q (Byte n)
  pub short : (n : ℤ) → Q (Short n)
  pub number : (n : ℤ) → Q (Want LDC_W (Integer n))
  pub variable : (bools : List Bool) (op var : ℕ) → Q (Want op (field bools var))
  pub class : Q (Want LDC_W StateClass)
  pub way_out : Q (Want INVOKESTATIC Exit)
  pub jump : (op place : ℕ) → place ≤ count → Q (Jump op place)

module _ (Q : BlockInsn → Type 0) (count : ℕ) (all : HoldsOfAll Q count) where
  either : (b : Bool) (x y : BlockInsn) → Q x → Q y → Q (cond b x y)
  either true x y p q = p
  either false x y p q = q

  of_local : (least op slot : ℕ) → Q (local least op slot)
  of_local least op slot = either (nat_lt slot 4) _ _ (all.plain (least + slot)) (all.in_local op slot (nat_le 256 slot))

  of_store : (kind : Kind) (slot : ℕ) → Q (store kind slot)
  of_store kinds.Object slot = of_local ASTORE_0 ASTORE slot
  of_store kinds.Int slot = of_local ISTORE_0 ISTORE slot
  of_store kinds.Bool slot = of_local ISTORE_0 ISTORE slot
  of_store kinds.Byte slot = of_local ISTORE_0 ISTORE slot
  of_store kinds.Short slot = of_local ISTORE_0 ISTORE slot
  of_store kinds.Char slot = of_local ISTORE_0 ISTORE slot

  of_load : (kind : Kind) (slot : ℕ) → Q (load kind slot)
  of_load kinds.Object slot = of_local ALOAD_0 ALOAD slot
  of_load kinds.Int slot = of_local ILOAD_0 ILOAD slot
  of_load kinds.Bool slot = of_local ILOAD_0 ILOAD slot
  of_load kinds.Byte slot = of_local ILOAD_0 ILOAD slot
  of_load kinds.Short slot = of_local ILOAD_0 ILOAD slot
  of_load kinds.Char slot = of_local ILOAD_0 ILOAD slot

  of_push : (n : ℤ) → Q (push n)
  of_push n =
      either (int_eq n (neg_ℤ (pos 1))) _ _ (all.plain _) (either (int_eq n (pos 0)) _ _ (all.plain _)
      (either (int_eq n (pos 1)) _ _ (all.plain _) (either (int_eq n (pos 2)) _ _ (all.plain _)
      (either (int_eq n (pos 3)) _ _ (all.plain _) (either (int_eq n (pos 4)) _ _ (all.plain _)
      (either (int_eq n (pos 5)) _ _ (all.plain _)
      (either (int_le (neg_ℤ (pos 128)) n && int_le n (pos 127)) _ _ (all.byte n)
      (either (int_le (neg_ℤ (pos 32768)) n && int_le n (pos 32767)) _ _ (all.short n) (all.number n)))))))))

  of_base : (bools : List Bool) (base : ℕ) (asks : Base) → Q (push_base bools base asks)
  of_base bools base (bases.Var var) = all.variable bools GETSTATIC var
  of_base bools base (bases.Arg i) = of_local ILOAD_0 ILOAD (base + i)
  of_base bools base bases.Result = of_local ILOAD_0 ILOAD base

  rows : (bools : List Bool) (base : ℕ) → Rows Q (λ slot. ⊤) (λ atom. ⊤) (λ update. ⊤) bools base count
  rows bools base = record {
    state = all.class;
    enter = all.plain _;
    exit = all.plain _;
    value = all.byte _;
    way_out = all.way_out;
    null = all.plain _;
    throw = all.plain _;
    sum = all.plain _;
    stores = λ kind slot ok. of_store kind slot;
    loads = λ kind slot ok. of_load kind slot;
    bases = λ atom ok. of_base bools base atom.base;
    constants = λ atom ok. of_push atom.value;
    tests = λ rel place within. all.jump _ place within;
    leaves = λ place within. all.jump _ place within;
    sets = λ var value ok. (of_push value, all.variable bools PUTSTATIC var);
    adds = λ var by ok. (all.variable bools GETSTATIC var, (of_push by, all.variable bools PUTSTATIC var));
  }

-- It is not the call, and jumps within the block.
pub record IsOther (count : ℕ) (insn : BlockInsn) : Type 0 where
  pub other : is_call insn ≡ false
  pub stays : JumpsWithin count insn

all_others : (count : ℕ) → HoldsOfAll (IsOther count) count
all_others count = record {
  plain = λ op. record { other = refl; stays = tt };
  in_local = λ op slot wide. record { other = refl; stays = tt };
  byte = λ n. record { other = refl; stays = tt };
  short = λ n. record { other = refl; stays = tt };
  number = λ n. record { other = refl; stays = tt };
  variable = λ bools op var. record { other = refl; stays = tt };
  class = record { other = refl; stays = tt };
  way_out = record { other = refl; stays = tt };
  jump = λ op place within. record { other = refl; stays = within };
}

-- ---- nothing is asked of what is tried and kept

all_tried : (branches : List Branch) → AllByRecursion (Tried (λ (atom : Atom). ⊤) (λ (update : Update). ⊤)) branches
all_tried [] = tt
all_tried (branch ∷ branches) = ((atoms branch.atoms, updates branch.updates), all_tried branches)
  where
    atoms : (xs : List Atom) → AllByRecursion (λ (atom : Atom). ⊤) xs
    atoms [] = tt
    atoms (x ∷ xs) = (tt, atoms xs)

    updates : (xs : List Update) → AllByRecursion (λ (update : Update). ⊤) xs
    updates [] = tt
    updates (x ∷ xs) = (tt, updates xs)

tried : (o : Option Clause) → IfSome o (λ c. AllByRecursion (Tried (λ (atom : Atom). ⊤) (λ (update : Update). ⊤)) c.branches)
tried None = tt
tried (Some clause) = all_tried clause.branches

slots : (o : Option Clause) → IfSome o (λ c. (i : ℕ) → i < length c.args → ⊤)
slots None = tt
slots (Some clause) = λ i lt. tt

result_slot : (o : Option Clause) → IfSome o (λ c. IfSome c.result (λ k. ⊤))
result_slot None = tt
result_slot (Some clause) = by clause.result
  where
    by : (kind : Option Kind) → IfSome kind (λ k. ⊤)
    by None = tt
    by (Some kind) = tt

also_reached : (P : BlockInsn → Type 0) (b : Bool) (xs : List Item) → AllByRecursion (λ (i : Item). P i.insn) xs
    → AllByRecursion (λ (i : Item). P i.insn) (if_reached b xs)
also_reached P true xs all = all
also_reached P false xs all = by xs all
  where
    by : (xs : List Item) → AllByRecursion (λ (i : Item). P i.insn) xs → AllByRecursion (λ (i : Item). P i.insn) (map unreached xs)
    by [] all = tt
    by (x ∷ xs) all = (all.0, by xs all.1)

-- An item of a list is one that stands out, or one of the others, of which this holds.
either_side : {X : Type 0} (P : X → Type 0) (xs : List X) (y : X) (zs : List X) → AllByRecursion P xs → AllByRecursion P zs
    → (k : ℕ) (x : X) → slice_get (xs ++ y ∷ zs) k ≡ Some x → ((k ≡ length xs) × (x ≡ y)) ⊎ P x
either_side {X = X} P [] y zs a b zero x e = inl (refl, cc)
either_side {X = X} P [] y zs a b (suc k) x e = inr (later zs b k e)
  where
    later : (zs : List X) → AllByRecursion P zs → (k : ℕ) → slice_get zs k ≡ Some x → P x
    later [] all k e = absurd cc
    later (z ∷ zs) all zero e =
        let same : z ≡ x = cc in
        subst P same all.0
    later (z ∷ zs) all (suc k) e = later zs all.1 k e
either_side {X = X} P (w ∷ xs) y zs a b zero x e =
    let same : w ≡ x = cc in
    inr (subst P same a.0)
either_side {X = X} P (w ∷ xs) y zs a b (suc k) x e =
    elim (either_side P xs y zs a.1 b k x e) [
      | inl is ↦ inl (ap suc is.0, is.1)
      | inr other ↦ inr other
    ]

-- ---- the block

call_at : (xs : List Item) (ys : List BlockInsn) → AllByRecursion (λ (i : Item). is_call i.insn ≡ false) xs
    → call_place (map (λ (i : Item). i.insn) xs ++ (Call ∷ ys)) ≡ length xs
call_at [] ys all = place_here (Call ∷ ys) ys Call refl refl
call_at (x ∷ xs) ys all =
    let rest : List BlockInsn = map (λ (i : Item). i.insn) xs ++ (Call ∷ ys) in
    omega (arith, place_later (x.insn ∷ rest) rest x.insn refl all.0, call_at xs ys all.1)

module _ (mode : Mode) (bools : List Bool) (base : ℕ) (clauses : Clauses) where
  abbrev pub all : List Item
  all = items mode bools base clauses

  abbrev first : List Item
  first = front mode bools base clauses.before

  -- where the call stands
  abbrev pub index : ℕ
  index = length first

  abbrev passes : Bool
  passes = lets_pass clauses.before

  abbrev later : List Item
  later = rest mode bools base index clauses

  abbrev pub call_item : Item
  call_item = item Call (cond passes (roles.Call (is_locked mode)) roles.Unreached)

  pub split : all ≡ first ++ call_item ∷ if_reached passes later
  split = ap (λ (xs : List Item). first ++ xs) (by passes)
    where
      by : (b : Bool) → if_reached b (call mode ∷ later) ≡ item Call (cond b (roles.Call (is_locked mode)) roles.Unreached) ∷ if_reached b later
      by true = refl
      by false = refl

  pub count_is : length all ≡ index + (1 + length later)
  count_is = omega (arith, ap length split, length-append first (call_item ∷ if_reached passes later), reached_length passes later)

  module _ (Q : BlockInsn → Type 0) (holds : HoldsOfAll Q (length all)) where
    first_hold : AllByRecursion (λ (i : Item). Q i.insn) first
    first_hold =
        front_each Q (λ slot. ⊤) (λ atom. ⊤) (λ update. ⊤) bools base (length all) (rows Q (length all) holds bools base) mode
        clauses.before (slots clauses.before) (tried clauses.before) (omega (arith, count_is))

    later_hold : AllByRecursion (λ (i : Item). Q i.insn) later
    later_hold =
        rest_each Q (λ slot. ⊤) (λ atom. ⊤) (λ update. ⊤) bools base (length all) (rows Q (length all) holds bools base) mode
        index clauses (result_slot clauses.after) (tried clauses.after) (tried clauses.exceptional) (omega (arith, count_is))

    -- An item is the call, or is one of the instructions by which a block is made.
    pub each_holds : (k : ℕ) (i : Item) → slice_get all k ≡ Some i → ((k ≡ index) × (i ≡ call_item)) ⊎ Q i.insn
    each_holds k i e =
        either_side (λ (x : Item). Q x.insn) first call_item (if_reached passes later) first_hold
        (also_reached Q passes later later_hold) k i (ap (λ (xs : List Item). slice_get xs k) (sym split) ∙ e)

  -- It is the call, or is another.
  pub each_item : (k : ℕ) (i : Item) → slice_get all k ≡ Some i → ((k ≡ index) × (i ≡ call_item)) ⊎ IsOther (length all) i.insn
  each_item = each_holds (IsOther (length all)) (all_others (length all))

  pub place_is : call_place (map (λ (i : Item). i.insn) all) ≡ index
  place_is =
      ap (λ (xs : List Item). call_place (map (λ (i : Item). i.insn) xs)) split
      ∙ ap call_place (map-append (λ (i : Item). i.insn) first (call_item ∷ if_reached passes later))
      ∙ call_at first (map (λ (i : Item). i.insn) (if_reached passes later)) (no_calls first (first_hold (IsOther (length all)) (all_others (length all))))
    where
      no_calls : (xs : List Item) → AllByRecursion (λ (i : Item). IsOther (length all) i.insn) xs
          → AllByRecursion (λ (i : Item). is_call i.insn ≡ false) xs
      no_calls [] h = tt
      no_calls (x ∷ xs) h = (h.0.other, no_calls xs h.1)

  pub call_there : slice_get all index ≡ Some call_item
  call_there = ap (λ (xs : List Item). slice_get xs index) split ∙ by first
    where
      by : (xs : List Item) → slice_get (xs ++ call_item ∷ if_reached passes later) (length xs) ≡ Some call_item
      by [] = refl
      by (x ∷ xs) = by xs

  -- What is not the call stands elsewhere.
  pub other_place : (k : ℕ) (i : Item) → slice_get all k ≡ Some i → is_call i.insn ≡ false → index ≢ k
  other_place k i e other same =
      let here : slice_get all index ≡ Some i = ap (slice_get all) same ∙ e in
      let is : call_item ≡ i = some_is call_item i (sym call_there ∙ here) in
      false≢true (sym other ∙ ap (λ (x : Item). is_call x.insn) (sym is))

  -- The call is made, with the lock as the mode has it, where control may come to it.
  pub record IsCalled (role : Role) : Type 0 where
    pub is : role ≡ roles.Call (is_locked mode)
    pub passes_on : lets_pass clauses.before ≡ true

  pub call_role : (k : ℕ) (i : Item) → slice_get all k ≡ Some i → k ≡ index → i.role ≢ roles.Unreached → IsCalled i.role
  call_role k i e at reached = by passes refl
    where
      role_is : i.role ≡ cond passes (roles.Call (is_locked mode)) roles.Unreached
      role_is =
          ap (λ (x : Item). x.role)
          (some_is i call_item (sym (ap (slice_get all) (sym at) ∙ e) ∙ call_there))

      by : (c : Bool) → passes ≡ c → IsCalled i.role
      by true f = record {
        is = role_is ∙ ap (λ (c : Bool). cond c (roles.Call (is_locked mode)) roles.Unreached) f;
        passes_on = f;
      }
      by false f = absurd (reached (role_is ∙ ap (λ (c : Bool). cond c (roles.Call (is_locked mode)) roles.Unreached) f))

  -- ---- the handler

  abbrev after_call : ℕ
  after_call = index + length (called mode bools base index clauses)

  many : length all ≡ after_call + length (cond (catches mode clauses.exceptional) (with_handler mode bools base (after_call + 1) clauses) [])
  many =
      omega (
        arith,
        length-append first (if_reached passes (from_call mode bools base index clauses)),
        reached_length passes (from_call mode bools base index clauses),
        length-append (called mode bools base index clauses) (caught mode bools base after_call clauses),
      )

  within_by : (c : Bool) → length all ≡ after_call + length (cond c (with_handler mode bools base (after_call + 1) clauses) [])
      → IfSome (cond c (Some (after_call + 1)) None) (λ place. place ≤ length all)
  within_by true e = omega (arith, e, with_handler_length mode bools base (after_call + 1) clauses)
  within_by false e = tt

  -- The handler stands in the block.
  pub handler_within : IfSome (handler_at mode bools base clauses) (λ place. place ≤ length all)
  handler_within = within_by (catches mode clauses.exceptional) many

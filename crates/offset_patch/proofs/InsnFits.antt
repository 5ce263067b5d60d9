-- The instructions with their blocks stand in a code.
use Rattle.std.proofs.Common.{◌≡◌, ℕ, ◌+◌, ◌<◌, ◌≤◌, ◌^◌, ◌⊎◌, inl, inr, Bool, true, false, List, [], ◌∷◌, ◌++◌, length, map, Option, Some, None, refl, sym, ap, subst, ◌∙◌, FitsSigned, arith}
use Rattle.std.specs.Prelude.{IsTrue, ◌==◌, ◌||◌, pos, ◌+ℤ◌, ◌-ℤ◌, slice_index}
use Rattle.std.specs.Cmp.{unsigned_Decides}
use Rattle.std.specs.Int.{w32}
use Rattle.std.specs.List.{AllByRecursion, filter_map}
use Rattle.std.proofs.lemmas.List.{length-append, length-map}
use Rattle.class_codec.specs.declared.tree.Const.{Const}
use Rattle.insn_codec.specs.declared.insn.Insn.{Insn}
use Rattle.insn_codec.specs.declared.insn.Insn.TheVariants as insns
use Rattle.insn_codec.specs.Fits.{IsInsn}
use Rattle.insn_codec.specs.Opcodes.{opcode_at}
use Rattle.insn_codec.specs.declared.opcodes.TheConstants.{LDC_W, GETSTATIC, PUTSTATIC, INVOKESTATIC}
use Rattle.mon_base.specs.Widths.{IsU2}
use Rattle.offset_patch.specs.declared.block.Block.{Block}
use Rattle.offset_patch.specs.declared.block.BlockInsn.{BlockInsn}
use Rattle.offset_patch.specs.declared.block.BlockInsn.TheVariants.{Plain, Byte, Short, Local, Want, Jump, Call}
use Rattle.offset_patch.specs.declared.block.PoolWant.{PoolWant}
use Rattle.offset_patch.specs.declared.block.PoolWant.TheVariants as wants
use Rattle.offset_patch.specs.Entries.{Placed, wanted, with_wants, place_in, IsThere}
use Rattle.offset_patch.specs.Fits.{takes, IsWant, IsBlockInsn, IsSite}
use Rattle.offset_patch.specs.Splicing.{part_of, aimed, put, parts_from, want_of, block_wants, wants_of, grown}
use Rattle.offset_patch.proofs.Lists.{all_append}
use Rattle.offset_patch.proofs.Steady.{steady_wanted}
use Rattle.offset_patch.proofs.EntryFits.{wants_grow, place_few}

-- ---- what is wanted is there

all_there : (wants : List PoolWant) (pool : List Const) → AllByRecursion (IsThere (with_wants pool wants)) wants
all_there [] pool = tt
all_there (want ∷ others) pool =
    let steady = steady_wanted want in
    let one = (wanted want pool).0 in
    let more = wants_grow others one in
    let stays : wanted want (one ++ more.0) ≡ (one ++ more.0, (wanted want pool).1) = steady.stays one more.0 (wanted want pool).1 (steady.settles pool) in
    let there : (wanted want (one ++ more.0)).0 ≡ one ++ more.0 = ap (λ (z : Placed). z.0) stays in
    (record { same = subst (λ (p : List Const). (wanted want p).0 ≡ p) (sym more.1) there }, all_there others one)

pub wants_there : (sites : List (Option Block)) (pool : List Const) → AllByRecursion (IsThere (grown pool sites)) (wants_of sites)
wants_there sites pool = all_there (wants_of sites) pool

-- ---- the client's instructions

pub aimed_fits : (fronts : List ℕ) (x : Insn) → IsInsn x → IsInsn (aimed fronts x)
aimed_fits fronts (insns.Table other low targets) h =
    let e = length-map targets (slice_index fronts) in
    record {
      least = h.least;
      some = omega (arith, e, h.some);
      most = subst (λ (n : ℕ). FitsSigned w32 (low +ℤ pos n -ℤ pos 1)) (sym e) h.most;
    }
aimed_fits fronts (insns.Lookup other keys targets) h =
    let e = length-map targets (slice_index fronts) in
    record { each = h.each; ascend = h.ascend; same = h.same ∙ sym e; count = omega (arith, e, h.count) }
aimed_fits fronts (insns.Branch op to) h = h
aimed_fits fronts (insns.GotoW to) h = h
aimed_fits fronts (insns.Plain op) h = h
aimed_fits fronts (insns.Byte n) h = h
aimed_fits fronts (insns.Short n) h = h
aimed_fits fronts (insns.Ldc index) h = h
aimed_fits fronts (insns.Pool op index) h = h
aimed_fits fronts (insns.Iface index count) h = h
aimed_fits fronts (insns.Local op slot wide) h = h
aimed_fits fronts (insns.Inc slot by wide) h = h
aimed_fits fronts (insns.NewArray kind) h = h

-- ---- parts

pub few_place : (pool : List Const) (want : PoolWant) → length pool ≤ 65535 → IsThere pool want → place_in pool want < 2 ^ 16
few_place pool want short there = omega (arith, place_few want pool, ap length there.same)

-- an opcode that takes the entry has an index of two bytes
one_of : (a b : Bool) → IsTrue (a || b) → IsTrue a ⊎ IsTrue b
one_of true b t = inl refl
one_of false b t = inr t

known_op : (op n index : ℕ) → IsTrue (op == n) → IsInsn (insns.Pool n index) → IsInsn (insns.Pool op index)
known_op op n index t h = subst (λ (k : ℕ). IsInsn (insns.Pool k index)) (sym ((unsigned_Decides op n).0 t)) h

static_insn : (op index : ℕ) → IsTrue (op == GETSTATIC) ⊎ IsTrue (op == PUTSTATIC) → IsU2 index → IsInsn (insns.Pool op index)
unfolding opcode_at
static_insn op index (inl h) few = known_op op GETSTATIC index h (omega arith, refl, few)
static_insn op index (inr h) few = known_op op PUTSTATIC index h (omega arith, refl, few)

pool_insn : (want : PoolWant) (op index : ℕ) → IsTrue (takes want op) → IsU2 index → IsInsn (insns.Pool op index)
unfolding opcode_at
pool_insn wants.StateClass op index t few = known_op op LDC_W index t (omega arith, refl, few)
pool_insn (wants.Integer n) op index t few = known_op op LDC_W index t (omega arith, refl, few)
pool_insn wants.Exit op index t few = known_op op INVOKESTATIC index t (omega arith, refl, few)
pool_insn (wants.StateField var is_bool) op index t few = static_insn op index (one_of (op == GETSTATIC) (op == PUTSTATIC) t) few

-- what is put for what a block names
pub want_fits : (insn : BlockInsn) (op : ℕ) (want : PoolWant) (index : ℕ) → insn ≡ Want op want → IsBlockInsn insn → IsU2 index → IsInsn (insns.Pool op index)
want_fits insn op want index is h few =
    let fits = subst IsBlockInsn is h in
    pool_insn want op index fits.0 few

part_fits : (pool : List Const) (fronts : List ℕ) (begin : ℕ) (own : Insn) (part : List BlockInsn) → length pool ≤ 65535 → IsInsn own → AllByRecursion IsBlockInsn part
    → AllByRecursion (IsThere pool) (filter_map want_of part) → AllByRecursion IsInsn (map (put pool fronts begin own) part)
part_fits pool fronts begin own [] short o h w = tt
part_fits pool fronts begin own (Plain op ∷ part) short o h w = (h.0, part_fits pool fronts begin own part short o h.1 w)
part_fits pool fronts begin own (Byte n ∷ part) short o h w = (h.0, part_fits pool fronts begin own part short o h.1 w)
part_fits pool fronts begin own (Short n ∷ part) short o h w = (h.0, part_fits pool fronts begin own part short o h.1 w)
part_fits pool fronts begin own (Local op slot wide ∷ part) short o h w = (h.0, part_fits pool fronts begin own part short o h.1 w)
part_fits pool fronts begin own (Want op want ∷ part) short o h w =
    (pool_insn want op (place_in pool want) h.0.0 (few_place pool want short w.0), part_fits pool fronts begin own part short o h.1 w.1)
part_fits pool fronts begin own (Jump op place ∷ part) short o h w = (h.0, part_fits pool fronts begin own part short o h.1 w)
part_fits pool fronts begin own (Call ∷ part) short o h w = (aimed_fits fronts own o, part_fits pool fronts begin own part short o h.1 w)

-- what holds of each of two lists together holds of each of either
pub split_all : {X : Type 0} (P : X → Type 0) (xs ys : List X) → AllByRecursion P (xs ++ ys) → AllByRecursion P xs × AllByRecursion P ys
split_all P [] ys h = (tt, h)
split_all P (x ∷ xs) ys h =
    let rest = split_all P xs ys h.1 in
    ((h.0, rest.0), rest.1)

pub site_part : (site : Option Block) → IsSite site → AllByRecursion IsBlockInsn (part_of site)
site_part None h = (tt, tt)
site_part (Some block) h = h.each

pub parts_fit : (pool : List Const) (fronts : List ℕ) (begin : ℕ) (own : List Insn) (sites : List (Option Block)) → length pool ≤ 65535 → AllByRecursion IsInsn own
    → AllByRecursion IsSite sites → AllByRecursion (IsThere pool) (wants_of sites) → AllByRecursion IsInsn (parts_from pool fronts begin own sites)
parts_fit pool fronts begin [] sites short o s w = tt
parts_fit pool fronts begin (insn ∷ own) [] short o s w = tt
parts_fit pool fronts begin (insn ∷ own) (site ∷ sites) short o s w =
    let wants = split_all (IsThere pool) (block_wants site) (wants_of sites) w in
    all_append IsInsn (map (put pool fronts begin insn) (part_of site)) (parts_from pool fronts (begin + length (part_of site)) own sites)
    (part_fits pool fronts begin insn (part_of site) short o.0 (site_part site s.0) wants.0)
    (parts_fit pool fronts (begin + length (part_of site)) own sites short o.1 s.1 wants.1)

-- ---- what blocks want

part_wants : (part : List BlockInsn) → AllByRecursion IsBlockInsn part → AllByRecursion IsWant (filter_map want_of part)
part_wants [] h = tt
part_wants (Plain op ∷ part) h = part_wants part h.1
part_wants (Byte n ∷ part) h = part_wants part h.1
part_wants (Short n ∷ part) h = part_wants part h.1
part_wants (Local op slot wide ∷ part) h = part_wants part h.1
part_wants (Want op want ∷ part) h = (h.0.1, part_wants part h.1)
part_wants (Jump op place ∷ part) h = part_wants part h.1
part_wants (Call ∷ part) h = part_wants part h.1

-- what blocks want can be put into a pool
pub wants_are : (sites : List (Option Block)) → AllByRecursion IsSite sites → AllByRecursion IsWant (wants_of sites)
wants_are [] s = tt
wants_are (site ∷ sites) s = all_append IsWant (block_wants site) (wants_of sites) (part_wants (part_of site) (site_part site s.0)) (wants_are sites s.1)

-- there is an instruction where there is one of the client's
pub parts_some : (pool : List Const) (fronts : List ℕ) (begin : ℕ) (own : List Insn) (sites : List (Option Block)) → AllByRecursion IsSite sites → 1 ≤ length own → 1 ≤ length sites
    → 1 ≤ length (parts_from pool fronts begin own sites)
parts_some pool fronts begin [] sites s a b = absurd (omega arith)
parts_some pool fronts begin (insn ∷ own) [] s a b = absurd (omega arith)
parts_some pool fronts begin (insn ∷ own) (site ∷ sites) s a b =
    let here = map (put pool fronts begin insn) (part_of site) in
    let n = length-map (part_of site) (put pool fronts begin insn) in
    let one = some site s.0 in
    omega (arith, n, one, length-append here (parts_from pool fronts (begin + length (part_of site)) own sites))
  where
    some : (x : Option Block) → IsSite x → 1 ≤ length (part_of x)
    some None h = omega arith
    some (Some block) h = h.some

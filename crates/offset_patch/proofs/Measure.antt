-- How many instructions and bytes the parts of a code have.
use Rattle.std.proofs.Common.{◌≡◌, ℕ, ◌+◌, ◌*◌, ◌^◌, ◌≤◌, true, false, List, [], ◌∷◌, ◌++◌, length, map, Option, Some, None, refl, ap, arith}
use Rattle.std.specs.Prelude.{slice_index}
use Rattle.std.specs.List.{AllByRecursion}
use Rattle.std.proofs.lemmas.List.{length-append, length-map}
use Rattle.bytecode_model.specs.declared.program.Handler.{Handler}
use Rattle.class_codec.specs.declared.tree.Const.{Const}
use Rattle.insn_codec.specs.declared.insn.Insn.{Insn}
use Rattle.insn_codec.specs.declared.insn.Insn.TheVariants as insns
use Rattle.insn_codec.specs.Encoding.{padding, size, len_from}
use Rattle.insn_codec.proofs.Standing.{len_first, len_none, size-some}
use Rattle.offset_patch.specs.declared.block.Block.{Block}
use Rattle.offset_patch.specs.declared.block.BlockInsn.{BlockInsn}
use Rattle.offset_patch.specs.declared.block.BlockInsn.TheVariants.{Plain, Byte, Short, Local, Want, Jump, Call}
use Rattle.offset_patch.specs.Fits.{IsSite}
use Rattle.offset_patch.specs.Length.{size_in, part_end, end_from, length_of}
use Rattle.offset_patch.specs.Splicing.{part_of, aimed, put, parts_from, fronts_of, spliced, count_of, handlers_by, handlers_with, own_handlers, site_handlers, at_fronts}

-- ---- sizes of single instructions

-- what goes to a front has the size that it had
aimed_size : (at : ℕ) (fronts : List ℕ) (x : Insn) → size at (aimed fronts x) ≡ size at x
aimed_size at fronts (insns.Table other low targets) = ap (λ (n : ℕ). 13 + padding at + 4 * n) (length-map targets (slice_index fronts))
aimed_size at fronts (insns.Lookup other keys targets) = ap (λ (n : ℕ). 9 + padding at + 8 * n) (length-map targets (slice_index fronts))
aimed_size at fronts (insns.Branch op to) = refl
aimed_size at fronts (insns.GotoW to) = refl
aimed_size at fronts (insns.Plain op) = refl
aimed_size at fronts (insns.Byte n) = refl
aimed_size at fronts (insns.Short n) = refl
aimed_size at fronts (insns.Ldc index) = refl
aimed_size at fronts (insns.Pool op index) = refl
aimed_size at fronts (insns.Iface index count) = refl
aimed_size at fronts (insns.Local op slot wide) = refl
aimed_size at fronts (insns.Inc slot by wide) = refl
aimed_size at fronts (insns.NewArray kind) = refl

pub put_size : (pool : List Const) (fronts : List ℕ) (begin : ℕ) (own : Insn) (at : ℕ) (x : BlockInsn) → size at (put pool fronts begin own x) ≡ size_in own at x
put_size pool fronts begin own at (Plain op) = refl
put_size pool fronts begin own at (Byte n) = refl
put_size pool fronts begin own at (Short n) = refl
put_size pool fronts begin own at (Local op slot false) = refl
put_size pool fronts begin own at (Local op slot true) = refl
put_size pool fronts begin own at (Want op want) = refl
put_size pool fronts begin own at (Jump op place) = refl
put_size pool fronts begin own at Call = aimed_size at fronts own

-- ---- bytes of parts

pub len_append : (at : ℕ) (xs ys : List Insn) → len_from at (xs ++ ys) ≡ len_from at xs + len_from (at + len_from at xs) ys
len_append at [] ys =
    let none = len_none at in
    let n : at + len_from at [] ≡ at = omega (arith, none) in
    omega (arith, none, ap (λ (k : ℕ). len_from k ys) n)
len_append at (x ∷ xs) ys =
    let here = len_first at x xs in
    let n : at + size at x + len_from (at + size at x) xs ≡ at + len_from at (x ∷ xs) = omega (arith, here) in
    omega (arith, here, len_first at x (xs ++ ys), len_append (at + size at x) xs ys, ap (λ (k : ℕ). len_from k ys) n)

pub part_len : (pool : List Const) (fronts : List ℕ) (begin : ℕ) (own : Insn) (at : ℕ) (part : List BlockInsn)
    → part_end own at part ≡ at + len_from at (map (put pool fronts begin own) part)
part_len pool fronts begin own at [] = omega (arith, len_none at)
part_len pool fronts begin own at (x ∷ part) =
    let s = put_size pool fronts begin own at x in
    let later = part_len pool fronts begin own (at + size_in own at x) part in
    let insns = map (put pool fronts begin own) part in
    omega (arith, s, later, len_first at (put pool fronts begin own x) insns, ap (λ (n : ℕ). len_from (at + n) insns) s)

pub end_is : (pool : List Const) (fronts : List ℕ) (begin at : ℕ) (own : List Insn) (sites : List (Option Block))
    → end_from at own sites ≡ at + len_from at (parts_from pool fronts begin own sites)
end_is pool fronts begin at [] sites = omega (arith, len_none at)
end_is pool fronts begin at (insn ∷ own) [] = omega (arith, len_none at)
end_is pool fronts begin at (insn ∷ own) (site ∷ sites) =
    let here = map (put pool fronts begin insn) (part_of site) in
    let rest = parts_from pool fronts (begin + length (part_of site)) own sites in
    let one = part_len pool fronts begin insn at (part_of site) in
    let later = end_is pool fronts (begin + length (part_of site)) (part_end insn at (part_of site)) own sites in
    omega (arith, one, later, len_append at here rest, ap (λ (n : ℕ). len_from n rest) one)

-- the length that was measured is that of the instructions
pub length_is : (pool : List Const) (own : List Insn) (sites : List (Option Block)) → length_of own sites ≡ len_from 0 (spliced pool own sites)
length_is pool own sites = omega (arith, end_is pool (fronts_of sites) 0 0 own sites)

-- ---- how many instructions there are

pub count_few : (at : ℕ) (xs : List Insn) → length xs ≤ len_from at xs
count_few at [] = omega arith
count_few at (x ∷ xs) = omega (arith, len_first at x xs, size-some at x, count_few (at + size at x) xs)

parts_count : (pool : List Const) (fronts : List ℕ) (begin : ℕ) (own : List Insn) (sites : List (Option Block)) → length sites ≡ length own
    → length (parts_from pool fronts begin own sites) ≡ count_of sites
parts_count pool fronts begin [] [] e = refl
parts_count pool fronts begin [] (site ∷ sites) e = absurd (omega arith)
parts_count pool fronts begin (insn ∷ own) [] e = absurd (omega arith)
parts_count pool fronts begin (insn ∷ own) (site ∷ sites) e =
    let here = map (put pool fronts begin insn) (part_of site) in
    let rest = parts_from pool fronts (begin + length (part_of site)) own sites in
    omega (arith, length-append here rest, length-map (part_of site) (put pool fronts begin insn), parts_count pool fronts (begin + length (part_of site)) own sites (omega arith))

-- there are no more than bytes
pub count_short : (pool : List Const) (own : List Insn) (sites : List (Option Block)) → length sites ≡ length own → count_of sites ≤ length_of own sites
count_short pool own sites e =
    omega (arith, length_is pool own sites, count_few 0 (spliced pool own sites), parts_count pool (fronts_of sites) 0 own sites e)

-- there are as many as a number of 64 bits counts
pub parts_few : (sites : List (Option Block)) → AllByRecursion IsSite sites → count_of sites ≤ length sites * 2 ^ 32
parts_few [] all = omega arith
parts_few (None ∷ sites) all = omega (arith, parts_few sites all.1)
parts_few (Some block ∷ sites) all = omega (arith, all.0.few, parts_few sites all.1)

-- ---- how many handlers there are

site_few : (begin : ℕ) (site : Option Block) → IsSite site → length (site_handlers begin site) ≤ length (part_of site)
site_few begin None is = omega arith
site_few begin (Some block) is = by block.handler where
  by : (handler : Option ℕ) → length (handlers_by begin block.insns handler) ≤ length block.insns
  by None = omega arith
  by (Some place) = omega (arith, is.some)

own_few : (begin : ℕ) (sites : List (Option Block)) → AllByRecursion IsSite sites → length (own_handlers begin sites) ≤ count_of sites
own_few begin [] all = omega arith
own_few begin (site ∷ sites) all =
    let next = begin + length (part_of site) in
    omega (arith, length-append (site_handlers begin site) (own_handlers next sites), site_few begin site all.0, own_few next sites all.1)

pub handlers_few : (sites : List (Option Block)) (handlers : List Handler) → AllByRecursion IsSite sites
    → length (handlers_with sites handlers) ≤ count_of sites + length handlers
handlers_few sites handlers all =
    let moved = map (at_fronts (fronts_of sites)) handlers in
    omega (arith, length-append (own_handlers 0 sites) moved, own_few 0 sites all, length-map handlers (at_fronts (fronts_of sites)))

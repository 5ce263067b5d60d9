-- What holds of the parts as they are put, and of the code that they make.
use Rattle.std.proofs.Common.{◌≡◌, ℕ, ◌+◌, ◌<◌, ◌^◌, Bool, true, false, List, [], ◌∷◌, length, Option, Some, None, Result, Ok, Err, refl, sym, ap, subst, ◌∙◌, arith}
use Rattle.std.specs.Prelude.{⊤, nat_le, pos, IsErr}
use Rattle.std.specs.Result.{IsErrAnd}
use Rattle.std.specs.List.{AllByRecursion, filter_map}
use Rattle.std.proofs.lemmas.Bool.Decides.{nat_tests}
use Rattle.mon_base.specs.Reading.{◌>>=◌, need}
use Rattle.class_codec.specs.declared.tree.Code.{Code}
use Rattle.class_codec.specs.declared.tree.Const.{Const}
use Rattle.insn_codec.specs.declared.fault.CodeOverflow.{CodeOverflow}
use Rattle.insn_codec.specs.declared.fault.CodeOverflow.TheVariants as codes
use Rattle.insn_codec.specs.declared.insn.Insn.{Insn}
use Rattle.insn_codec.specs.declared.insn.Insn.TheVariants as insns
use Rattle.mon_base.specs.Widths.{IsU2}
use Rattle.insn_codec.specs.Encoding.{size, offset, starts_of, starts_from, len_from, encoding}
use Rattle.insn_codec.specs.Writing.{held_by_2, held_by_4, near, far, all_far, reach, reach_from, written}
use Rattle.insn_codec.proofs.Putting.{far_first, far_none, reach_first, reach_none}
use Rattle.insn_codec.proofs.Standing.{len_first}
use Rattle.bytecode_model.specs.declared.program.Method.{Method}
use Rattle.offset_patch.specs.declared.block.Block.{Block}
use Rattle.offset_patch.specs.declared.block.BlockInsn.{BlockInsn}
use Rattle.offset_patch.specs.declared.block.BlockInsn.TheVariants.{Plain, Byte, Short, Local, Want, Jump, Call}
use Rattle.offset_patch.specs.declared.fault.Size.TheVariants as sizes
use Rattle.offset_patch.specs.declared.fault.SpliceFault.{SpliceFault}
use Rattle.offset_patch.specs.declared.fault.SpliceFault.TheVariants as faults
use Rattle.offset_patch.specs.Entries.{IsThere}
use Rattle.mon_base.specs.Answer.{Fails, Answers}
use Rattle.offset_patch.specs.Fault.{Fitting, IsCounted, fitted, code_fitted}
use Rattle.offset_patch.specs.Fits.{IsSite, JumpsWithin}
use Rattle.offset_patch.specs.Length.{length_of}
use Rattle.offset_patch.specs.Splicing.{part_of, want_of, block_wants, wants_of, CanStand, fronts_of, catching, parts_from, spliced, code_with, bytes_spliced, code_spliced, as_spliced, splice}
use Rattle.offset_patch.proofs.InsnFits.{split_all}
use Rattle.offset_patch.proofs.Measure.{length_is}

-- ---- parts

items_stand : (pool : List Const) (count : ℕ) (part : List BlockInsn) → AllByRecursion (JumpsWithin count) part → AllByRecursion (IsThere pool) (filter_map want_of part) → AllByRecursion (CanStand pool count) part
items_stand pool count [] j w = tt
items_stand pool count (Plain op ∷ part) j w = (tt, items_stand pool count part j.1 w)
items_stand pool count (Byte n ∷ part) j w = (tt, items_stand pool count part j.1 w)
items_stand pool count (Short n ∷ part) j w = (tt, items_stand pool count part j.1 w)
items_stand pool count (Local op slot wide ∷ part) j w = (tt, items_stand pool count part j.1 w)
items_stand pool count (Want op want ∷ part) j w = (w.0, items_stand pool count part j.1 w.1)
items_stand pool count (Jump op place ∷ part) j w = (j.0, items_stand pool count part j.1 w)
items_stand pool count (Call ∷ part) j w = (tt, items_stand pool count part j.1 w)

pub part_stands : (pool : List Const) (site : Option Block) → IsSite site → AllByRecursion (IsThere pool) (block_wants site) → AllByRecursion (CanStand pool (length (part_of site))) (part_of site)
part_stands pool None s w = (tt, tt)
part_stands pool (Some block) s w = items_stand pool (length block.insns) block.insns s.jumps w

-- the parts that are left, once one is put
pub left_stand : (pool : List Const) (left rest : List (Option Block)) (site : Option Block) → left ≡ site ∷ rest → AllByRecursion (IsThere pool) (wants_of left)
    → AllByRecursion (IsThere pool) (block_wants site) × AllByRecursion (IsThere pool) (wants_of rest)
left_stand pool left rest site is w = split_all (IsThere pool) (block_wants site) (wants_of rest) (subst (λ (xs : List (Option Block)). AllByRecursion (IsThere pool) (wants_of xs)) is w)

-- ---- where instructions begin

pub starts_two : (at : ℕ) (xs : List Insn) → at + len_from at xs < 2 ^ 16 → AllByRecursion IsU2 (starts_from at xs)
unfolding starts_from
starts_two at [] h = (omega arith, tt)
starts_two at (x ∷ xs) h =
    let len = len_first at x xs in
    (omega arith, starts_two (at + size at x) xs (omega (arith, len)))

-- the instructions that are put are few where their length is
pub put_short : (pool : List Const) (own slice : List Insn) (fronts : List ℕ) (sites : List (Option Block)) (xs ys : List Insn) → fronts ≡ fronts_of sites → slice ≡ own
    → xs ≡ parts_from pool fronts 0 slice sites → ys ≡ xs → length_of own sites < 2 ^ 16 → len_from 0 ys < 2 ^ 16
put_short pool own slice fronts sites xs ys e f g h short =
    let whole : ys ≡ spliced pool own sites = h ∙ g ∙ ap (λ (z : List ℕ). parts_from pool z 0 slice sites) e ∙ ap (λ (z : List Insn). parts_from pool (fronts_of sites) 0 z sites) f in
    omega (arith, ap (len_from 0) whole, length_is pool own sites)

-- ---- a length that does not fit

-- no offset is a length
abbrev IsOffset : Result (Unit {0}) CodeOverflow → Type 0
IsOffset (Ok done) = ⊤
IsOffset (Err (codes.Length value)) = ⊥
IsOffset (Err (codes.Branch value)) = ⊤
IsOffset (Err codes.Memory) = ⊤

offset_then : (r : Result (Unit {0}) CodeOverflow) (f : Unit {0} → Result (Unit {0}) CodeOverflow) → IsOffset r → IsOffset (f tt) → IsOffset (r >>= f)
offset_then (Ok tt) f h k = k
offset_then (Err (codes.Length value)) f h k = absurd h
offset_then (Err (codes.Branch value)) f h k = tt
offset_then (Err codes.Memory) f h k = tt

near_offset : (starts : List ℕ) (at to : ℕ) → IsOffset (near starts at to)
unfolding near
near_offset starts at to = by (held_by_2 (offset starts at to))
  where
    by : (b : Bool) → IsOffset (need b (codes.Branch (offset starts at to)))
    by true = tt
    by false = tt

far_offset : (starts : List ℕ) (at to : ℕ) → IsOffset (far starts at to)
unfolding far
far_offset starts at to = by (held_by_4 (offset starts at to))
  where
    by : (b : Bool) → IsOffset (need b (codes.Branch (offset starts at to)))
    by true = tt
    by false = tt

all_offsets : (starts : List ℕ) (at : ℕ) (targets : List ℕ) → IsOffset (all_far starts at targets)
all_offsets starts at [] = subst IsOffset (sym (far_none starts at)) tt
all_offsets starts at (to ∷ targets) = subst IsOffset (sym (far_first starts at to targets)) (offset_then (far starts at to) (λ _. all_far starts at targets) (far_offset starts at to) (all_offsets starts at targets))

insn_offset : (starts : List ℕ) (at : ℕ) (x : Insn) → IsOffset (reach starts at x)
insn_offset starts at (insns.Branch op to) = near_offset starts at to
insn_offset starts at (insns.GotoW to) = far_offset starts at to
insn_offset starts at (insns.Table other low targets) = offset_then (far starts at other) (λ _. all_far starts at targets) (far_offset starts at other) (all_offsets starts at targets)
insn_offset starts at (insns.Lookup other keys targets) = offset_then (far starts at other) (λ _. all_far starts at targets) (far_offset starts at other) (all_offsets starts at targets)
insn_offset starts at (insns.Plain op) = tt
insn_offset starts at (insns.Byte n) = tt
insn_offset starts at (insns.Short n) = tt
insn_offset starts at (insns.Ldc index) = tt
insn_offset starts at (insns.Pool op index) = tt
insn_offset starts at (insns.Iface index count) = tt
insn_offset starts at (insns.Local op slot wide) = tt
insn_offset starts at (insns.Inc slot by wide) = tt
insn_offset starts at (insns.NewArray kind) = tt

insns_offset : (starts : List ℕ) (at : ℕ) (xs : List Insn) → IsOffset (reach_from starts at xs)
insns_offset starts at [] = subst IsOffset (sym (reach_none starts at)) tt
insns_offset starts at (x ∷ xs) =
    subst IsOffset (sym (reach_first starts at x xs)) (offset_then (reach starts at x) (λ _. reach_from starts (at + size at x) xs) (insn_offset starts at x) (insns_offset starts (at + size at x) xs))

-- a length that is told of a short code there is none
pub counted : (xs : List Insn) (overflow : CodeOverflow) → len_from 0 xs < 2 ^ 16 → Answers codes.Memory (Err overflow) (written xs) → IsCounted overflow
unfolding written
counted xs (codes.Branch value) short told = tt
counted xs codes.Memory short told = tt
counted xs (codes.Length value) short told = by (nat_le (len_from 0 xs) 65535) refl (told (λ same. cc))
  where
    none : (r : Result (Unit {0}) CodeOverflow) (bytes : List ℕ) → IsOffset r → (r >>= λ held. Ok bytes) ≡ Err (codes.Length value) → value < 2 ^ 63
    none (Ok done) bytes h e = absurd cc
    none (Err (codes.Length other)) bytes h e = absurd h
    none (Err (codes.Branch other)) bytes h e = absurd cc
    none (Err codes.Memory) bytes h e = absurd cc

    by : (b : Bool) → nat_le (len_from 0 xs) 65535 ≡ b → (need b (codes.Length (len_from 0 xs)) >>= λ short. reach_from (starts_of xs) 0 xs >>= λ held. Ok (encoding xs)) ≡ Err (codes.Length value) → value < 2 ^ 63
    by true n e = none (reach_from (starts_of xs) 0 xs) (encoding xs) (insns_offset (starts_of xs) 0 xs) e
    by false n e = absurd (grind (arith, nat_tests))

module _ (class : List ℕ) (number : ℕ) (pool : List Const) (method : Method) (code : Code) (locals : ℕ) (sites : List (Option Block)) where
  abbrev insns_of : List Insn
  insns_of = spliced pool method.insns sites

  long_code : (fault : SpliceFault) → fitted class number sizes.Length (len_from 0 insns_of) ≡ Err fault → bytes_spliced class number pool method code locals sites ≡ Err fault
  unfolding written
  long_code fault = by (nat_le (len_from 0 insns_of) 65535)
    where
      by : (b : Bool) → need b (faults.Overflow class number sizes.Length (pos (len_from 0 insns_of))) ≡ Err fault
          → (code_fitted class number (need b (codes.Length (len_from 0 insns_of)) >>= λ short. reach_from (starts_of insns_of) 0 insns_of >>= λ held. Ok (encoding insns_of))
          >>= λ bytes. Ok (code_with pool method code locals sites insns_of bytes)) ≡ Err fault
      by true e = absurd cc
      by false e = cc

  -- the fault of a length that does not fit is that of the code
  pub too_long : (fault : SpliceFault) → fitted class number sizes.Entries (length code.table + catching sites) ≡ Ok tt → fitted class number sizes.Pool (length pool) ≡ Ok tt
      → Fails faults.Memory fault (fitted class number sizes.Length (length_of method.insns sites)) → Fails faults.Memory fault (code_spliced class number pool method code locals sites)
  too_long fault rows count told is_told =
      let e = long_code fault (ap (fitted class number sizes.Length) (sym (length_is pool method.insns sites)) ∙ told is_told) in
      rw (rows, count) e

  -- it is that of splicing
  pub splice_too_long : (state : ℕ) (fault : SpliceFault) → Fails faults.Memory fault (code_spliced class number pool method code locals sites)
      → Fails faults.Memory fault (splice state class number pool method code locals sites)
  splice_too_long state fault told other = ap (λ (r : Fitting Code). r >>= λ new. Ok (as_spliced state pool method sites new)) (told other)

-- what the call answers that ends with it
pub told_err : {X : Type 0} (r w : Fitting X) (fault : SpliceFault) → IsErr r × IsErrAnd r (λ e. e ≡ fault) → Fails faults.Memory fault w → Answers faults.Memory r w
told_err (Ok x) w fault h t = absurd cc
told_err (Err e) w fault h t = subst (λ (f : SpliceFault). Fails faults.Memory f w) (sym h.1) t

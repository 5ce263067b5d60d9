-- Weaving a method stops at the first of its sizes that does not fit.
use Rattle.std.proofs.Common.{◌≡◌, ℕ, zero, suc, ◌+◌, ◌≤◌, Bool, true, false, cond, List, [], ◌∷◌, ◌++◌, length, map, take, Option, Some, None, Result, Ok, Err, refl, sym, ap, ◌∙◌, arith}
use Rattle.std.specs.Prelude.{⊤, ℤ, pos, ◌-ℤ◌, nat_le, not, find, slice_index}
use Rattle.std.specs.Option.{option_or}
use Rattle.std.specs.List.{AllByRecursion}
use Rattle.std.proofs.lemmas.Bool.Decides.{nat_tests}
use Rattle.std.proofs.lemmas.List.{length-map, map-append}
use Rattle.std.proofs.lemmas.Int.{ints}
use Rattle.std.proofs.lemmas.List.Folds.{find-append}
use Rattle.mon_base.specs.Reading.{◌>>=◌, need}
use Rattle.class_codec.specs.declared.tree.Code.{Code}
use Rattle.class_codec.specs.declared.tree.Const.{Const}
use Rattle.insn_codec.specs.declared.fault.CodeOverflow.{CodeOverflow}
use Rattle.insn_codec.specs.declared.fault.CodeOverflow.TheVariants as codes
use Rattle.insn_codec.specs.declared.insn.Insn.{Insn}
use Rattle.insn_codec.specs.declared.insn.Insn.TheVariants as insns
use Rattle.insn_codec.specs.Encoding.{size, offset, starts_of, starts_from, len_from, encoding}
use Rattle.insn_codec.specs.Writing.{held_by_2, held_by_4, near, far, all_far, reach, reach_from, written}
use Rattle.insn_codec.proofs.Putting.{far_first, far_none, reach_first, reach_none}
use Rattle.insn_codec.proofs.Standing.{len_first, len_none}
use Rattle.bytecode_model.specs.declared.program.Method.{Method}
use Rattle.offset_patch.specs.declared.block.Block.{Block}
use Rattle.offset_patch.specs.declared.block.BlockInsn.{BlockInsn}
use Rattle.offset_patch.specs.declared.block.BlockInsn.TheVariants.{Plain, Byte, Short, Local, Want, Jump, Call}
use Rattle.offset_patch.specs.declared.fault.Size.{Size}
use Rattle.offset_patch.specs.declared.fault.Size.TheVariants as sizes
use Rattle.offset_patch.specs.declared.fault.SpliceFault.{SpliceFault}
use Rattle.offset_patch.specs.declared.fault.SpliceFault.TheVariants as faults
use Rattle.offset_patch.specs.Fault.{Fitting, fault_of, fitted, code_fitted}
use Rattle.offset_patch.specs.Fits.{JumpsWithin}
use Rattle.offset_patch.specs.Length.{size_in, part_end, length_of}
use Rattle.offset_patch.specs.Sizes.{byte_fronts_from, own_offset, item_offset, part_offsets, offsets_from, offsets_of, method_sizes, holds, is_unfit, first_unfit}
use Rattle.offset_patch.specs.Splicing.{part_of, aimed, put, fronts_from, fronts_of, parts_from, spliced, grown, catching, operands_needed, room, code_with, bytes_spliced, code_spliced}
use Rattle.offset_patch.proofs.Measure.{put_size, part_len, len_append, length_is}

-- A jump of the block stays in it.
abbrev pub StaysIn : Option Block → Type 0
StaysIn None = ⊤
StaysIn (Some block) = AllByRecursion (JumpsWithin (length block.insns)) block.insns

-- ---- where instructions begin

starts_first : (at : ℕ) (xs : List Insn) → slice_index (starts_from at xs) 0 ≡ at
unfolding starts_from
starts_first at [] = refl
starts_first at (x ∷ xs) = refl

starts_next : (at : ℕ) (x : Insn) (xs : List Insn) (i : ℕ) → slice_index (starts_from at (x ∷ xs)) (suc i) ≡ slice_index (starts_from (at + size at x) xs) i
unfolding starts_from
starts_next at x xs i = refl

-- after the first instructions
starts_after : (at : ℕ) (xs ys : List Insn) (i : ℕ) → slice_index (starts_from at (xs ++ ys)) (length xs + i) ≡ slice_index (starts_from (at + len_from at xs) ys) i
starts_after at [] ys i =
    let k : 0 + i ≡ i = omega arith in
    let n : at ≡ at + len_from at [] = omega (arith, len_none at) in
    ap (slice_index (starts_from at ys)) k ∙ ap (λ (p : ℕ). slice_index (starts_from p ys) i) n
starts_after at (x ∷ xs) ys i =
    let k : length (x ∷ xs) + i ≡ suc (length xs + i) = omega arith in
    let n : at + size at x + len_from (at + size at x) xs ≡ at + len_from at (x ∷ xs) = omega (arith, len_first at x xs) in
    ap (slice_index (starts_from at (x ∷ (xs ++ ys)))) k ∙ starts_next at x (xs ++ ys) (length xs + i) ∙ starts_after (at + size at x) xs ys i ∙ ap (λ (p : ℕ). slice_index (starts_from p ys) i) n

-- no instruction begins after the last
starts_within : (xs : List Insn) (at i : ℕ) → slice_index (starts_from at xs) i ≤ at + len_from at xs
unfolding starts_from
starts_within [] at zero = omega arith
starts_within [] at (suc i) = omega arith
starts_within (x ∷ xs) at zero = omega arith
starts_within (x ∷ xs) at (suc i) = omega (arith, len_first at x xs, starts_within xs (at + size at x) i)

-- an instruction of a part
part_starts : (pool : List Const) (fronts : List ℕ) (begin : ℕ) (own : Insn) (at : ℕ) (part : List BlockInsn) (later : List Insn) (place : ℕ) → place ≤ length part
    → slice_index (starts_from at (map (put pool fronts begin own) part ++ later)) place ≡ part_end own at (take place part)
part_starts pool fronts begin own at [] later zero h = starts_first at later
part_starts pool fronts begin own at [] later (suc place) h = absurd (omega arith)
part_starts pool fronts begin own at (x ∷ part) later zero h = starts_first at (map (put pool fronts begin own) (x ∷ part) ++ later)
part_starts pool fronts begin own at (x ∷ part) later (suc place) h =
    let s = put_size pool fronts begin own at x in
    let rest = map (put pool fronts begin own) part ++ later in
    starts_next at (put pool fronts begin own x) rest place ∙ ap (λ (n : ℕ). slice_index (starts_from (at + n) rest) place) s
    ∙ part_starts pool fronts begin own (at + size_in own at x) part later place (omega arith)

-- ---- offsets that four bytes hold

held_4 : (a b : ℕ) → a ≤ 65535 → b ≤ 65535 → held_by_4 (pos a -ℤ pos b) ≡ true
held_4 a b h k = grind (arith, ints)

far_held : (starts : List ℕ) (at to : ℕ) → slice_index starts to ≤ 65535 → at ≤ 65535 → far starts at to ≡ Ok tt
unfolding far
far_held starts at to h k = rw (held_4 (slice_index starts to) at h k) refl

module _ (starts : List ℕ) (few : (i : ℕ) → slice_index starts i ≤ 65535) where
  all_held : (at : ℕ) (targets : List ℕ) → at ≤ 65535 → all_far starts at targets ≡ Ok tt
  all_held at [] h = far_none starts at
  all_held at (to ∷ targets) h = far_first starts at to targets ∙ rw (far_held starts at to (few to) h, all_held at targets h) refl

  switch_held : (at other : ℕ) (targets : List ℕ) → at ≤ 65535 → (far starts at other >>= λ _. all_far starts at targets) ≡ Ok tt
  switch_held at other targets h = rw (far_held starts at other (few other) h, all_held at targets h) refl

-- ---- the first offset that does not fit

module _ (class : List ℕ) (number : ℕ) where
  abbrev over : {X : Type 0} → Result X CodeOverflow → Option SpliceFault
  over r = fault_of (code_fitted class number r)

  abbrev far_off : ℤ → SpliceFault
  far_off value = faults.Overflow class number sizes.Branch value

  abbrev first_off : List ℤ → Option SpliceFault
  first_off values = find is_unfit (map far_off values)

  first_then : (xs ys : List ℤ) → first_off (xs ++ ys) ≡ option_or (first_off xs) (first_off ys)
  first_then xs ys = ap (find is_unfit) (map-append far_off xs ys) ∙ find-append is_unfit (map far_off xs) (map far_off ys)

  or_or : (a b c : Option SpliceFault) → option_or (option_or a b) c ≡ option_or a (option_or b c)
  or_or None b c = refl
  or_or (Some x) b c = refl

  near_is : (o : ℤ) (k : Result (Unit {0}) CodeOverflow) → over (need (held_by_2 o) (codes.Branch o) >>= λ _. k) ≡ option_or (first_off (o ∷ [])) (over k)
  near_is o k = by (held_by_2 o)
    where
      by : (b : Bool) → over (need b (codes.Branch o) >>= λ _. k) ≡ option_or (cond (not b) (Some (far_off o)) None) (over k)
      by true = refl
      by false = refl

  near_off : (starts : List ℕ) (at to : ℕ) (o : ℤ) (k : Result (Unit {0}) CodeOverflow) → offset starts at to ≡ o → over (near starts at to >>= λ _. k) ≡ option_or (first_off (o ∷ [])) (over k)
  unfolding near
  near_off starts at to o k e =
      ap (λ (z : ℤ). over (need (held_by_2 z) (codes.Branch z) >>= λ _. k)) e ∙ near_is o k

  no_off : (r : Result (Unit {0}) CodeOverflow) (k : Result (Unit {0}) CodeOverflow) → r ≡ Ok tt → over (r >>= λ _. k) ≡ over k
  no_off r k e = ap (λ (x : Result (Unit {0}) CodeOverflow). over (x >>= λ _. k)) e

  -- ---- the instructions of a part

  module _ (starts : List ℕ) (few : (i : ℕ) → slice_index starts i ≤ 65535) (pool : List Const) (fronts bytes : List ℕ)
      (fronts_are : (i : ℕ) → slice_index starts (slice_index fronts i) ≡ slice_index bytes i) where
    own_off : (at : ℕ) (own : Insn) (k : Result (Unit {0}) CodeOverflow) → at ≤ 65535 → over (reach starts at (aimed fronts own) >>= λ _. k) ≡ option_or (first_off (own_offset bytes at own)) (over k)
    own_off at (insns.Branch op to) k h = near_off starts at (slice_index fronts to) (pos (slice_index bytes to) -ℤ pos at) k (ap (λ (n : ℕ). pos n -ℤ pos at) (fronts_are to))
    own_off at (insns.GotoW to) k h = no_off (far starts at (slice_index fronts to)) k (far_held starts at (slice_index fronts to) (few (slice_index fronts to)) h)
    own_off at (insns.Table other low targets) k h = no_off (reach starts at (aimed fronts (insns.Table other low targets))) k (switch_held starts few at (slice_index fronts other) (map (slice_index fronts) targets) h)
    own_off at (insns.Lookup other keys targets) k h = no_off (reach starts at (aimed fronts (insns.Lookup other keys targets))) k (switch_held starts few at (slice_index fronts other) (map (slice_index fronts) targets) h)
    own_off at (insns.Plain op) k h = refl
    own_off at (insns.Byte n) k h = refl
    own_off at (insns.Short n) k h = refl
    own_off at (insns.Ldc index) k h = refl
    own_off at (insns.Pool op index) k h = refl
    own_off at (insns.Iface index count) k h = refl
    own_off at (insns.Local op slot wide) k h = refl
    own_off at (insns.Inc slot by wide) k h = refl
    own_off at (insns.NewArray kind) k h = refl

    module _ (own : Insn) (part : List BlockInsn) (begin front : ℕ) (stands : (i : ℕ) → i ≤ length part → slice_index starts (begin + i) ≡ part_end own front (take i part)) where
      item_off : (at : ℕ) (x : BlockInsn) (k : Result (Unit {0}) CodeOverflow) → at ≤ 65535 → JumpsWithin (length part) x
          → over (reach starts at (put pool fronts begin own x) >>= λ _. k) ≡ option_or (first_off (item_offset bytes own part front at x)) (over k)
      item_off at (Jump op place) k h j = near_off starts at (begin + place) (pos (part_end own front (take place part)) -ℤ pos at) k (ap (λ (n : ℕ). pos n -ℤ pos at) (stands place j))
      item_off at Call k h j = own_off at own k h
      item_off at (Plain op) k h j = refl
      item_off at (Byte n) k h j = refl
      item_off at (Short n) k h j = refl
      item_off at (Local op slot wide) k h j = refl
      item_off at (Want op want) k h j = refl

      items_off : (at : ℕ) (items : List BlockInsn) (later : List Insn) → at + len_from at (map (put pool fronts begin own) items ++ later) ≤ 65535 → AllByRecursion (JumpsWithin (length part)) items
          → over (reach_from starts at (map (put pool fronts begin own) items ++ later)) ≡ option_or (first_off (part_offsets bytes own part front at items)) (over (reach_from starts (part_end own at items) later))
      items_off at [] later h j = refl
      items_off at (x ∷ items) later h j =
          let insn = put pool fronts begin own x in
          let rest = map (put pool fronts begin own) items ++ later in
          let s = put_size pool fronts begin own at x in
          let len = len_first at insn rest in
          let next : size_in own at x + len_from (at + size_in own at x) rest ≡ len_from at (insn ∷ rest) = ap (λ (n : ℕ). n + len_from (at + n) rest) (sym s) ∙ sym len in
          let here = item_off at x (reach_from starts (at + size at insn) rest) (omega arith) j.0 in
          let later_off = items_off (at + size_in own at x) items later (omega (arith, next)) j.1 in
          ap over (reach_first starts at insn rest) ∙ here
          ∙ ap (λ (n : ℕ). option_or (first_off (item_offset bytes own part front at x)) (over (reach_from starts (at + n) rest))) s
          ∙ ap (option_or (first_off (item_offset bytes own part front at x))) later_off
          ∙ sym (or_or (first_off (item_offset bytes own part front at x)) (first_off (part_offsets bytes own part front (at + size_in own at x) items)) (over (reach_from starts (part_end own at (x ∷ items)) later)))
          ∙ ap (λ (o : Option SpliceFault). option_or o (over (reach_from starts (part_end own at (x ∷ items)) later)))
          (sym (first_then (item_offset bytes own part front at x) (part_offsets bytes own part front (at + size_in own at x) items)))

    -- ---- the parts

    site_jumps : (site : Option Block) → StaysIn site → AllByRecursion (JumpsWithin (length (part_of site))) (part_of site)
    site_jumps None h = (tt, tt)
    site_jumps (Some block) h = h

    parts_off : (begin at : ℕ) (own : List Insn) (sites : List (Option Block)) → AllByRecursion StaysIn sites → at + len_from at (parts_from pool fronts begin own sites) ≤ 65535
        → ((i : ℕ) → slice_index starts (begin + i) ≡ slice_index (starts_from at (parts_from pool fronts begin own sites)) i)
        → over (reach_from starts at (parts_from pool fronts begin own sites)) ≡ first_off (offsets_from bytes at own sites)
    parts_off begin at [] sites s h stands = ap over (reach_none starts at)
    parts_off begin at (insn ∷ own) [] s h stands = ap over (reach_none starts at)
    parts_off begin at (insn ∷ own) (site ∷ sites) s h stands =
        let part = part_of site in
        let here = map (put pool fronts begin insn) part in
        let later = parts_from pool fronts (begin + length part) own sites in
        let count : length here ≡ length part = length-map part (put pool fronts begin insn) in
        let ends : part_end insn at part ≡ at + len_from at here = part_len pool fronts begin insn at part in
        let one = items_off insn part begin at (λ i few_i. stands i ∙ part_starts pool fronts begin insn at part later i few_i) at part later h (site_jumps site s.0) in
        let rest : (i : ℕ) → slice_index starts (begin + length part + i) ≡ slice_index (starts_from (part_end insn at part) later) i = λ i.
        let k : begin + length part + i ≡ begin + (length here + i) = omega (arith, count) in
        ap (slice_index starts) k ∙ stands (length here + i) ∙ starts_after at here later i ∙ ap (λ (n : ℕ). slice_index (starts_from n later) i) (sym ends) in
        let short : part_end insn at part + len_from (part_end insn at part) later ≤ 65535 = omega (arith, h, len_append at here later, ends, ap (λ (n : ℕ). len_from n later) ends) in
        one ∙ ap (option_or (first_off (part_offsets bytes insn part at at part))) (parts_off (begin + length part) (part_end insn at part) own sites s.1 short rest)
        ∙ sym (first_then (part_offsets bytes insn part at at part) (offsets_from bytes (part_end insn at part) own sites))

-- ---- fronts in bytes

fronts_bytes : (starts : List ℕ) (pool : List Const) (fronts : List ℕ) (begin at : ℕ) (own : List Insn) (sites : List (Option Block)) → length sites ≡ length own
    → slice_index starts 0 ≡ 0 → ((i : ℕ) → slice_index starts (begin + i) ≡ slice_index (starts_from at (parts_from pool fronts begin own sites)) i)
    → (i : ℕ) → slice_index starts (slice_index (fronts_from begin sites) i) ≡ slice_index (byte_fronts_from at own sites) i
fronts_bytes starts pool fronts begin at [] [] e z stands zero =
    let n : begin ≡ begin + 0 = omega arith in
    ap (slice_index starts) n ∙ stands 0 ∙ starts_first at []
fronts_bytes starts pool fronts begin at [] [] e z stands (suc i) = z
fronts_bytes starts pool fronts begin at [] (site ∷ sites) e z stands i = absurd (omega arith)
fronts_bytes starts pool fronts begin at (insn ∷ own) [] e z stands i = absurd (omega arith)
fronts_bytes starts pool fronts begin at (insn ∷ own) (site ∷ sites) e z stands zero =
    let n : begin ≡ begin + 0 = omega arith in
    ap (slice_index starts) n ∙ stands 0 ∙ starts_first at (parts_from pool fronts begin (insn ∷ own) (site ∷ sites))
fronts_bytes starts pool fronts begin at (insn ∷ own) (site ∷ sites) e z stands (suc i) =
    let part = part_of site in
    let here = map (put pool fronts begin insn) part in
    let later = parts_from pool fronts (begin + length part) own sites in
    let count : length here ≡ length part = length-map part (put pool fronts begin insn) in
    let ends : part_end insn at part ≡ at + len_from at here = part_len pool fronts begin insn at part in
    fronts_bytes starts pool fronts (begin + length part) (part_end insn at part) own sites (omega arith) z (λ j.
    let k : begin + length part + j ≡ begin + (length here + j) = omega (arith, count) in
    ap (slice_index starts) k ∙ stands (length here + j) ∙ starts_after at here later j ∙ ap (λ (n : ℕ). slice_index (starts_from n later) j) (sym ends)) i

-- ---- a method

module _ (class : List ℕ) (number : ℕ) where
  -- a size that is at most 65,535, and what comes after it
  fitted_then : {X : Type 0} (what : Size) (value : ℕ) (k : Fitting X) → holds what (pos value) ≡ nat_le value 65535
      → fault_of (fitted class number what value >>= λ _. k) ≡ cond (is_unfit (faults.Overflow class number what (pos value))) (Some (faults.Overflow class number what (pos value))) (fault_of k)
  fitted_then {X = X} what value k e =
      by (nat_le value 65535) ∙ ap (λ (b : Bool). cond (not b) (Some (faults.Overflow class number what (pos value))) (fault_of k)) (sym e)
    where
      by : (b : Bool) → fault_of (need b (faults.Overflow class number what (pos value)) >>= λ _. k) ≡ cond (not b) (Some (faults.Overflow class number what (pos value))) (fault_of k)
      by true = refl
      by false = refl

  made_fault : {X Y : Type 0} (r : Result X CodeOverflow) (made : X → Y) → fault_of (code_fitted class number r >>= λ x. Ok (made x)) ≡ fault_of (code_fitted class number r)
  made_fault (Ok x) made = refl
  made_fault (Err (codes.Length value)) made = refl
  made_fault (Err (codes.Branch value)) made = refl
  made_fault (Err codes.Memory) made = refl

  held_fault : {X : Type 0} (r : Result (Unit {0}) CodeOverflow) (x : X) → fault_of (code_fitted class number (r >>= λ _. Ok x)) ≡ fault_of (code_fitted class number r)
  held_fault (Ok tt) x = refl
  held_fault (Err (codes.Length value)) x = refl
  held_fault (Err (codes.Branch value)) x = refl
  held_fault (Err codes.Memory) x = refl

  code_off : (pool : List Const) (own : List Insn) (sites : List (Option Block)) → AllByRecursion StaysIn sites → length sites ≡ length own → len_from 0 (spliced pool own sites) ≤ 65535
      → fault_of (code_fitted class number (reach_from (starts_of (spliced pool own sites)) 0 (spliced pool own sites))) ≡ first_off class number (offsets_of own sites)
  code_off pool own sites s e short =
      let xs = spliced pool own sites in
      let starts = starts_of xs in
      let fronts = fronts_of sites in
      let few : (i : ℕ) → slice_index starts i ≤ 65535 = λ i. omega (arith, starts_within xs 0 i) in
      let stands : (i : ℕ) → slice_index starts (0 + i) ≡ slice_index (starts_from 0 (parts_from pool fronts 0 own sites)) i = λ i.
      let k : 0 + i ≡ i = omega arith in
      ap (slice_index starts) k in
      let bytes = fronts_bytes starts pool fronts 0 0 own sites e (starts_first 0 xs) stands in
      parts_off class number starts few pool fronts (byte_fronts_from 0 own sites) bytes 0 0 own sites s (omega arith) stands

  written_off : (pool : List Const) (own : List Insn) (sites : List (Option Block)) → AllByRecursion StaysIn sites → length sites ≡ length own
      → fault_of (code_fitted class number (written (spliced pool own sites)))
      ≡ find is_unfit (faults.Overflow class number sizes.Length (pos (length_of own sites)) ∷ map (faults.Overflow class number sizes.Branch) (offsets_of own sites))
  unfolding written
  written_off pool own sites s e =
      let xs = spliced pool own sites in
      let len = length_is pool own sites in
      by (nat_le (len_from 0 xs) 65535) refl
      ∙ ap (λ (n : ℕ). cond (is_unfit (faults.Overflow class number sizes.Length (pos n))) (Some (faults.Overflow class number sizes.Length (pos n))) (first_off class number (offsets_of own sites))) (sym len)
    where
      by : (b : Bool) → nat_le (len_from 0 (spliced pool own sites)) 65535 ≡ b
          → fault_of (code_fitted class number (need b (codes.Length (len_from 0 (spliced pool own sites))) >>= λ short. reach_from (starts_of (spliced pool own sites)) 0 (spliced pool own sites) >>= λ held. Ok (encoding (spliced pool own sites))))
          ≡ cond (not b) (Some (faults.Overflow class number sizes.Length (pos (len_from 0 (spliced pool own sites))))) (first_off class number (offsets_of own sites))
      by true n =
          held_fault (reach_from (starts_of (spliced pool own sites)) 0 (spliced pool own sites)) (encoding (spliced pool own sites))
          ∙ code_off pool own sites s e (grind (arith, nat_tests))
      by false n = refl

room_then : {X : Type 0} (r f : Fitting (Unit {0})) (k : Fitting X) → fault_of ((r >>= λ _. f) >>= λ _. k) ≡ fault_of (r >>= λ _. f >>= λ _. k)
room_then (Ok tt) f k = refl
room_then (Err fault) f k = refl

-- what weaving a method gives is a fault exactly where a size does not fit, and then that of the first
pub method_law : (class : List ℕ) (number : ℕ) (pool : List Const) (method : Method) (code : Code) (locals : ℕ) (sites : List (Option Block)) → AllByRecursion StaysIn sites → length sites ≡ length method.insns
    → fault_of (room class number code locals >>= λ fits. code_spliced class number (grown pool sites) method code locals sites) ≡ first_unfit (method_sizes class number pool method code locals sites)
method_law class number pool method code locals sites s e =
    let all = grown pool sites in
    let insns = spliced all method.insns sites in
    let made : List ℕ → Code = λ bytes. code_with all method code locals sites insns bytes in
    let last = bytes_spliced class number all method code locals sites in
    let stack = code.max_stack + operands_needed in
    let slots = code.max_locals + locals in
    let rows = length code.table + catching sites in
    let coded = code_spliced class number all method code locals sites in
    let or_fault : Size → ℕ → Option SpliceFault → Option SpliceFault = λ what value rest.
    cond (is_unfit (faults.Overflow class number what (pos value))) (Some (faults.Overflow class number what (pos value))) rest in
    let five : fault_of last ≡ first_unfit (faults.Overflow class number sizes.Length (pos (length_of method.insns sites)) ∷ map (faults.Overflow class number sizes.Branch) (offsets_of method.insns sites)) =
    made_fault class number (written insns) made ∙ written_off class number all method.insns sites s e in
    let four = fitted_then class number sizes.Pool (length all) last refl ∙ ap (or_fault sizes.Pool (length all)) five in
    let three = fitted_then class number sizes.Entries rows (fitted class number sizes.Pool (length all) >>= λ count. last) refl ∙ ap (or_fault sizes.Entries rows) four in
    let two = fitted_then class number sizes.Locals slots coded refl ∙ ap (or_fault sizes.Locals slots) three in
    let one = fitted_then class number sizes.Stack stack (fitted class number sizes.Locals slots >>= λ fits. coded) refl ∙ ap (or_fault sizes.Stack stack) two in
    room_then (fitted class number sizes.Stack stack) (fitted class number sizes.Locals slots) coded ∙ one

-- Code with blocks aims within itself, and control does not leave it.
use Rattle.std.proofs.Common.{◌≡◌, ℕ, zero, suc, ◌+◌, ◌<◌, ◌≤◌, Bool, true, List, [], ◌∷◌, ◌++◌, length, map, Option, Some, None, refl, sym, ap, ◌∙◌, arith}
use Rattle.std.specs.Prelude.{slice_index, is_some, ⊤}
use Rattle.std.specs.List.{AllByRecursion}
use Rattle.std.proofs.lemmas.Bool.{false≢true}
use Rattle.std.proofs.lemmas.List.{length-append, length-map}
use Rattle.class_codec.specs.declared.tree.Const.{Const}
use Rattle.insn_codec.specs.declared.insn.Insn.{Insn}
use Rattle.insn_codec.specs.declared.insn.Insn.TheVariants as insns
use Rattle.insn_codec.specs.Opcodes.{goes_on}
use Rattle.insn_codec.specs.Encoding.{opcode_of}
use Rattle.insn_codec.specs.Fits.{AimsWithin, Ends}
use Rattle.bytecode_model.specs.declared.program.Target.{Target}
use Rattle.offset_patch.specs.declared.block.Block.{Block}
use Rattle.offset_patch.specs.declared.block.BlockInsn.{BlockInsn}
use Rattle.offset_patch.specs.declared.block.BlockInsn.TheVariants.{Plain, Byte, Short, Local, Want, Jump, Call}
use Rattle.offset_patch.specs.Fits.{IsSite, JumpsWithin}
use Rattle.offset_patch.specs.Plan.{Plan, IsGood, IsListedCall}
use Rattle.offset_patch.specs.Splicing.{part_of, fronts_from, fronts_of, aimed, put, parts_from, spliced, count_of}
use Rattle.offset_patch.proofs.Lists.{all_append}
use Rattle.class_weaving.specs.Outcome.{Each}

-- ---- the last instruction

-- The last instruction stands alone, since nothing would follow a block of it.
abbrev pub LastAlone : List (Option Block) → Type 0
LastAlone [] = ⊤
LastAlone (site ∷ []) = site ≡ None
LastAlone (site ∷ next ∷ sites) = LastAlone (next ∷ sites)

last_rest : (site : Option Block) (sites : List (Option Block)) → LastAlone (site ∷ sites) → LastAlone sites
last_rest site [] h = tt
last_rest site (next ∷ sites) h = h

-- Control goes on after a call of a listed method.
abbrev pub GoesOn : Insn → Target → Type 0
GoesOn x t = IsListedCall t → goes_on (opcode_of x) ≡ true

-- control does not go on after the last instruction, so it calls nothing that has a block
pub last_alone : (kinds : List Bool) (plan : Plan) → IsGood kinds plan → (base : ℕ) (own : List Insn) (refs : List Target) → Ends own → Each GoesOn own refs → LastAlone (map (plan.block base) refs)
last_alone kinds plan good base [] [] ends h = tt
last_alone kinds plan good base [] (t ∷ refs) ends h = absurd h
last_alone kinds plan good base (x ∷ own) [] ends h = absurd h
last_alone kinds plan good base (x ∷ []) (t ∷ []) ends h = by (plan.block base t) refl where
  by : (o : Option Block) → plan.block base t ≡ o → o ≡ None
  by None e = refl
  by (Some block) e = absurd (false≢true (sym ends ∙ h.0 (good.calls t (sym (good.there base t) ∙ ap is_some e))))
last_alone kinds plan good base (x ∷ []) (t ∷ u ∷ refs) ends h = absurd h.1
last_alone kinds plan good base (x ∷ y ∷ own) (t ∷ []) ends h = absurd h.1
last_alone kinds plan good base (x ∷ y ∷ own) (t ∷ u ∷ refs) ends h = last_alone kinds plan good base (y ∷ own) (u ∷ refs) ends h.1

-- ---- how many instructions there are

part_some : (site : Option Block) → IsSite site → 1 ≤ length (part_of site)
part_some None h = omega arith
part_some (Some block) h = h.some

parts_many : (pool : List Const) (fronts : List ℕ) (begin : ℕ) (own : List Insn) (sites : List (Option Block)) → length own ≡ length sites
    → length (parts_from pool fronts begin own sites) ≡ count_of sites
parts_many pool fronts begin [] [] e = refl
parts_many pool fronts begin [] (site ∷ sites) e = absurd (omega arith)
parts_many pool fronts begin (insn ∷ own) [] e = absurd (omega arith)
parts_many pool fronts begin (insn ∷ own) (site ∷ sites) e =
    let here = map (put pool fronts begin insn) (part_of site) in
    let later = parts_from pool fronts (begin + length (part_of site)) own sites in
    omega (arith, length-append here later, length-map (part_of site) (put pool fronts begin insn), parts_many pool fronts (begin + length (part_of site)) own sites (omega arith))

pub spliced_count : (pool : List Const) (own : List Insn) (sites : List (Option Block)) → length sites ≡ length own → length (spliced pool own sites) ≡ count_of sites
spliced_count pool own sites same = parts_many pool (fronts_of sites) 0 own sites (sym same)

-- the front of an instruction stands before the end
front_below : (sites : List (Option Block)) (at to : ℕ) → AllByRecursion IsSite sites → to < length sites → slice_index (fronts_from at sites) to < at + count_of sites
front_below [] at to h few = absurd (omega arith)
front_below (site ∷ sites) at zero h few = omega (arith, part_some site h.0)
front_below (site ∷ sites) at (suc to) h few = omega (arith, front_below sites (at + length (part_of site)) to h.1 (omega arith))

front_within : (sites : List (Option Block)) (at to : ℕ) → to ≤ length sites → slice_index (fronts_from at sites) to ≤ at + count_of sites
front_within [] at zero few = omega arith
front_within [] at (suc to) few = absurd (omega arith)
front_within (site ∷ sites) at zero few = omega arith
front_within (site ∷ sites) at (suc to) few = omega (arith, front_within sites (at + length (part_of site)) to (omega arith))

pub spliced_within : (pool : List Const) (own : List Insn) (sites : List (Option Block)) → length sites ≡ length own → (to : ℕ) → to ≤ length own
    → slice_index (fronts_of sites) to ≤ length (spliced pool own sites)
spliced_within pool own sites same to few = omega (arith, spliced_count pool own sites same, front_within sites 0 to (omega (arith, same, few)))

pub spliced_below : (pool : List Const) (own : List Insn) (sites : List (Option Block)) → length sites ≡ length own → AllByRecursion IsSite sites → (to : ℕ) → to < length own
    → slice_index (fronts_of sites) to < length (spliced pool own sites)
spliced_below pool own sites same h to few = omega (arith, spliced_count pool own sites same, front_below sites 0 to h (omega (arith, same, few)))

-- ---- targets

all_aimed : (fronts : List ℕ) (n m : ℕ) → ((to : ℕ) → to < n → slice_index fronts to < m) → (targets : List ℕ) → AllByRecursion (λ to. to < n) targets
    → AllByRecursion (λ to. to < m) (map (slice_index fronts) targets)
all_aimed fronts n m f [] h = tt
all_aimed fronts n m f (to ∷ targets) h = (f to h.0, all_aimed fronts n m f targets h.1)

aims : (fronts : List ℕ) (size m : ℕ) → ((to : ℕ) → to < size → slice_index fronts to < m) → (x : Insn) → AimsWithin size x → AimsWithin m (aimed fronts x)
aims fronts size m f (insns.Branch op to) h = f to h
aims fronts size m f (insns.GotoW to) h = f to h
aims fronts size m f (insns.Table other low targets) h = (f other h.0, all_aimed fronts size m f targets h.1)
aims fronts size m f (insns.Lookup other keys targets) h = (f other h.0, all_aimed fronts size m f targets h.1)
aims fronts size m f (insns.Plain op) h = tt
aims fronts size m f (insns.Byte n) h = tt
aims fronts size m f (insns.Short n) h = tt
aims fronts size m f (insns.Ldc index) h = tt
aims fronts size m f (insns.Pool op index) h = tt
aims fronts size m f (insns.Iface index count) h = tt
aims fronts size m f (insns.Local op slot wide) h = tt
aims fronts size m f (insns.Inc slot by wide) h = tt
aims fronts size m f (insns.NewArray kind) h = tt

module _ (pool : List Const) (fronts : List ℕ) (begin : ℕ) (own : Insn) (m : ℕ) (aim : AimsWithin m (aimed fronts own)) where
  -- a jump goes to an instruction of the block, or to what stands after it
  put_aims : (count : ℕ) → begin + count < m → (x : BlockInsn) → JumpsWithin count x → AimsWithin m (put pool fronts begin own x)
  put_aims count few (Plain op) j = tt
  put_aims count few (Byte n) j = tt
  put_aims count few (Short n) j = tt
  put_aims count few (Local op slot wide) j = tt
  put_aims count few (Want op want) j = tt
  put_aims count few (Jump op place) j = omega (arith, few, j)
  put_aims count few Call j = aim

  items_aim : (count : ℕ) → begin + count < m → (items : List BlockInsn) → AllByRecursion (JumpsWithin count) items → AllByRecursion (AimsWithin m) (map (put pool fronts begin own) items)
  items_aim count few [] j = tt
  items_aim count few (x ∷ items) j = (put_aims count few x j.0, items_aim count few items j.1)

  part_aims : (site : Option Block) (sites : List (Option Block)) → m ≡ begin + count_of (site ∷ sites) → LastAlone (site ∷ sites) → AllByRecursion IsSite (site ∷ sites)
      → AllByRecursion (AimsWithin m) (map (put pool fronts begin own) (part_of site))
  part_aims None sites e last h = (aim, tt)
  part_aims (Some block) [] e last h = absurd cc
  part_aims (Some block) (next ∷ sites) e last h = items_aim (length block.insns) (omega (arith, e, part_some next h.1.0)) block.insns h.0.jumps

parts_aim : (pool : List Const) (fronts : List ℕ) (n m : ℕ) → ((to : ℕ) → to < n → slice_index fronts to < m) → (begin : ℕ) (own : List Insn) (sites : List (Option Block))
    → m ≡ begin + count_of sites → AllByRecursion (AimsWithin n) own → LastAlone sites → AllByRecursion IsSite sites → AllByRecursion (AimsWithin m) (parts_from pool fronts begin own sites)
parts_aim pool fronts n m f begin [] sites e h last s = tt
parts_aim pool fronts n m f begin (insn ∷ own) [] e h last s = tt
parts_aim pool fronts n m f begin (insn ∷ own) (site ∷ sites) e h last s =
    all_append (AimsWithin m) (map (put pool fronts begin insn) (part_of site)) (parts_from pool fronts (begin + length (part_of site)) own sites)
    (part_aims pool fronts begin insn m (aims fronts n m f insn h.0) site sites e last s)
    (parts_aim pool fronts n m f (begin + length (part_of site)) own sites (omega (arith, e)) h.1 (last_rest site sites last) s.1)

pub spliced_aims : (pool : List Const) (own : List Insn) (sites : List (Option Block)) → length sites ≡ length own → AllByRecursion (AimsWithin (length own)) own
    → LastAlone sites → AllByRecursion IsSite sites → AllByRecursion (AimsWithin (length (spliced pool own sites))) (spliced pool own sites)
spliced_aims pool own sites same h last s =
    parts_aim pool (fronts_of sites) (length own) (length (spliced pool own sites)) (spliced_below pool own sites same s) 0 own sites (omega (arith, spliced_count pool own sites same)) h last s

-- ---- the end

ends_after : (xs ys : List Insn) → 1 ≤ length ys → Ends ys → Ends (xs ++ ys)
ends_after [] ys some h = h
ends_after (x ∷ []) [] some h = absurd (omega arith)
ends_after (x ∷ []) (y ∷ ys) some h = h
ends_after (x ∷ next ∷ xs) ys some h = ends_after (next ∷ xs) ys some h

same_opcode : (fronts : List ℕ) (x : Insn) → opcode_of (aimed fronts x) ≡ opcode_of x
same_opcode fronts (insns.Branch op to) = refl
same_opcode fronts (insns.GotoW to) = refl
same_opcode fronts (insns.Table other low targets) = refl
same_opcode fronts (insns.Lookup other keys targets) = refl
same_opcode fronts (insns.Plain op) = refl
same_opcode fronts (insns.Byte n) = refl
same_opcode fronts (insns.Short n) = refl
same_opcode fronts (insns.Ldc index) = refl
same_opcode fronts (insns.Pool op index) = refl
same_opcode fronts (insns.Iface index count) = refl
same_opcode fronts (insns.Local op slot wide) = refl
same_opcode fronts (insns.Inc slot by wide) = refl
same_opcode fronts (insns.NewArray kind) = refl

parts_end : (pool : List Const) (fronts : List ℕ) (begin : ℕ) (own : List Insn) (sites : List (Option Block)) → length own ≡ length sites → Ends own
    → LastAlone sites → AllByRecursion IsSite sites → Ends (parts_from pool fronts begin own sites)
parts_end pool fronts begin [] sites e h last s = tt
parts_end pool fronts begin (insn ∷ own) [] e h last s = absurd (omega arith)
parts_end pool fronts begin (insn ∷ []) (None ∷ sites) e h last s = ap goes_on (same_opcode fronts insn) ∙ h
parts_end pool fronts begin (insn ∷ []) (Some block ∷ []) e h last s = absurd cc
parts_end pool fronts begin (insn ∷ []) (Some block ∷ other ∷ sites) e h last s = absurd (omega arith)
parts_end pool fronts begin (insn ∷ next ∷ own) (site ∷ []) e h last s = absurd (omega arith)
parts_end pool fronts begin (insn ∷ next ∷ own) (site ∷ other ∷ sites) e h last s =
    let here = map (put pool fronts begin insn) (part_of site) in
    let after = begin + length (part_of site) in
    let later = parts_from pool fronts after (next ∷ own) (other ∷ sites) in
    let count = parts_many pool fronts after (next ∷ own) (other ∷ sites) (omega arith) in
    ends_after here later (omega (arith, count, part_some other s.1.0)) (parts_end pool fronts after (next ∷ own) (other ∷ sites) (omega arith) h last s.1)

pub spliced_ends : (pool : List Const) (own : List Insn) (sites : List (Option Block)) → length sites ≡ length own → Ends own → LastAlone sites → AllByRecursion IsSite sites
    → Ends (spliced pool own sites)
spliced_ends pool own sites same h last s = parts_end pool (fronts_of sites) 0 own sites (sym same) h last s

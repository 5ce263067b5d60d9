-- A method without a block: each part is the instruction alone.
use Rattle.std.proofs.Common.{◌≡◌, ℕ, zero, suc, ◌+◌, ◌<◌, ◌≤◌, Bool, true, false, List, [], ◌∷◌, ◌++◌, length, map, Option, Some, None, refl, ap, ◌∙◌, arith}
use Rattle.std.specs.Prelude.{◌||◌, is_some, slice_index}
use Rattle.std.specs.List.{AllByRecursion, list_any}
use Rattle.class_codec.specs.declared.tree.Const.{Const}
use Rattle.insn_codec.specs.declared.insn.Insn.{Insn}
use Rattle.insn_codec.specs.declared.insn.Insn.TheVariants as insns
use Rattle.insn_codec.specs.Fits.{AimsWithin}
use Rattle.bytecode_model.specs.declared.program.Handler.{Handler}
use Rattle.bytecode_model.specs.declared.program.Target.{Target}
use Rattle.bytecode_model.specs.Sound.{IsWithin}
use Rattle.offset_patch.specs.declared.block.Block.{Block}
use Rattle.offset_patch.specs.declared.block.BlockInsn.{BlockInsn}
use Rattle.offset_patch.specs.declared.block.BlockInsn.TheVariants.{Call}
use Rattle.offset_patch.specs.Plan.{Plan}
use Rattle.offset_patch.specs.Splicing.{fronts_of, aimed, part_of, put, parts_from}
use Rattle.offset_patch.specs.Splicing.{at_fronts, own_handlers, part_named, parts_named, site_handlers}
use Rattle.class_weaving.proofs.Parts.{part, before, front_is}

neither_or : (a b : Bool) → (a || b) ≡ false → (a ≡ false) × (b ≡ false)
neither_or true b e = absurd cc
neither_or false b e = (refl, e)

module _ (plan : Plan) (base : ℕ) where
  abbrev pub AreAlone : List Target → Type 0
  AreAlone refs = AllByRecursion (λ ref. plan.block base ref ≡ None) refs

  pub part_alone : (ref : Target) → plan.block base ref ≡ None → part plan base ref ≡ Call ∷ []
  part_alone ref e = ap part_of e

  pub no_block : ((ref : Target) → is_some (plan.block base ref) ≡ plan.has_block ref) → (ref : Target) → plan.has_block ref ≡ false
      → plan.block base ref ≡ None
  no_block there ref e = by (plan.block base ref) (there ref ∙ e)
    where
      by : (o : Option Block) → is_some o ≡ false → o ≡ None
      by None h = refl
      by (Some block) h = absurd cc

  pub all_alone : ((ref : Target) → is_some (plan.block base ref) ≡ plan.has_block ref) → (refs : List Target)
      → list_any plan.has_block refs ≡ false → AreAlone refs
  all_alone there [] e = tt
  all_alone there (ref ∷ refs) e =
      let h = neither_or (plan.has_block ref) (list_any plan.has_block refs) e in
      (no_block there ref h.0, all_alone there refs h.1)

  -- ---- what stands in such a method

  abbrev sites : List Target → List (Option Block)
  sites refs = map (plan.block base) refs

  pub before_alone : (refs : List Target) → AreAlone refs → (i : ℕ) → i ≤ length refs → before plan base refs i ≡ i
  before_alone [] a zero le = refl
  before_alone [] a (suc i) le = absurd (omega arith)
  before_alone (ref ∷ refs) a zero le = refl
  before_alone (ref ∷ refs) a (suc i) le = omega (arith, ap length (part_alone ref a.0), before_alone refs a.1 i (omega arith))

  pub front_alone : (refs : List Target) → AreAlone refs → (i : ℕ) → i ≤ length refs → slice_index (fronts_of (sites refs)) i ≡ i
  front_alone refs a i le = front_is plan base refs 0 i le ∙ omega (arith, before_alone refs a i le)

  parts_alone : (pool : List Const) (fronts : List ℕ) (begin : ℕ) (own : List Insn) (refs : List Target) → AreAlone refs
      → length own ≡ length refs → parts_from pool fronts begin own (sites refs) ≡ map (aimed fronts) own
  parts_alone pool fronts begin [] refs a e = refl
  parts_alone pool fronts begin (x ∷ own) [] a e = absurd (omega arith)
  parts_alone pool fronts begin (x ∷ own) (ref ∷ refs) a e =
      ap (λ (b : List BlockInsn). map (put pool fronts begin x) b
      ++ parts_from pool fronts (begin + length (part plan base ref)) own (sites refs)) (part_alone ref a.0)
      ∙ ap (λ (xs : List Insn). aimed fronts x ∷ xs)
      (parts_alone pool fronts (begin + length (part plan base ref)) own refs a.1 (omega arith))

  pub named_alone : (state : ℕ) (refs : List Target) → AreAlone refs → parts_named state refs (sites refs) ≡ refs
  named_alone state [] a = refl
  named_alone state (ref ∷ refs) a =
      ap (λ (b : List BlockInsn). map (part_named state ref) b ++ parts_named state refs (sites refs)) (part_alone ref a.0)
      ∙ ap (λ (rs : List Target). ref ∷ rs) (named_alone state refs a.1)

  pub own_alone : (begin : ℕ) (refs : List Target) → AreAlone refs → own_handlers begin (sites refs) ≡ []
  own_alone begin [] a = refl
  own_alone begin (ref ∷ refs) a =
      ap (λ (o : Option Block). site_handlers begin o ++ own_handlers (begin + length (part plan base ref)) (sites refs)) a.0
      ∙ own_alone (begin + length (part plan base ref)) refs a.1

  -- ---- targets and handlers stay

  module _ (fronts : List ℕ) (n : ℕ) (same : (i : ℕ) → i ≤ n → slice_index fronts i ≡ i) where
    all_same : (targets : List ℕ) → AllByRecursion (λ to. to < n) targets → map (slice_index fronts) targets ≡ targets
    all_same [] h = refl
    all_same (to ∷ targets) h = rw (same to (omega (arith, h.0)), all_same targets h.1) refl

    aimed_same : (x : Insn) → AimsWithin n x → aimed fronts x ≡ x
    aimed_same (insns.Branch op to) h = ap (λ t. insns.Branch op t) (same to (omega (arith, h)))
    aimed_same (insns.GotoW to) h = ap (λ t. insns.GotoW t) (same to (omega (arith, h)))
    aimed_same (insns.Table other low targets) h = rw (same other (omega (arith, h.0)), all_same targets h.1) refl
    aimed_same (insns.Lookup other keys targets) h = rw (same other (omega (arith, h.0)), all_same targets h.1) refl
    aimed_same (insns.Plain op) h = refl
    aimed_same (insns.Byte k) h = refl
    aimed_same (insns.Short k) h = refl
    aimed_same (insns.Ldc index) h = refl
    aimed_same (insns.Pool op index) h = refl
    aimed_same (insns.Iface index count) h = refl
    aimed_same (insns.Local op slot wide) h = refl
    aimed_same (insns.Inc slot by wide) h = refl
    aimed_same (insns.NewArray kind) h = refl

    all_aimed_same : (own : List Insn) → AllByRecursion (AimsWithin n) own → map (aimed fronts) own ≡ own
    all_aimed_same [] h = refl
    all_aimed_same (x ∷ own) h = rw (aimed_same x h.0, all_aimed_same own h.1) refl

    pub handlers_same : (handlers : List Handler) → AllByRecursion (IsWithin n) handlers → map (at_fronts fronts) handlers ≡ handlers
    handlers_same [] h = refl
    handlers_same (x ∷ handlers) h =
        rw (same x.from (omega (arith, h.0.from)), same x.to h.0.to, same x.at (omega (arith, h.0.at)), handlers_same handlers h.1) refl

  pub insns_alone : (pool : List Const) (own : List Insn) (refs : List Target) → AreAlone refs → length own ≡ length refs
      → AllByRecursion (AimsWithin (length own)) own → parts_from pool (fronts_of (sites refs)) 0 own (sites refs) ≡ own
  insns_alone pool own refs a e h =
      let fronts : List ℕ = fronts_of (sites refs) in
      parts_alone pool fronts 0 own refs a e
      ∙ all_aimed_same fronts (length own) (λ i le. front_alone refs a i (omega (arith, le, e))) own h

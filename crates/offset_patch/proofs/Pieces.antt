-- The parts of a code, one after another, and what they want.
use Rattle.std.proofs.Common.{◌≡◌, ℕ, ◌+◌, List, [], ◌∷◌, ◌++◌, length, map, Option, refl, sym, ap, ◌∙◌, append_assoc}
use Rattle.std.specs.List.{filter_map}
use Rattle.insn_codec.specs.declared.insn.Insn.{Insn}
use Rattle.class_codec.specs.declared.tree.Const.{Const}
use Rattle.offset_patch.specs.declared.block.Block.{Block}
use Rattle.offset_patch.specs.declared.block.BlockInsn.{BlockInsn}
use Rattle.offset_patch.specs.declared.block.PoolWant.{PoolWant}
use Rattle.offset_patch.specs.Entries.{wanted, with_wants}
use Rattle.offset_patch.specs.Splicing.{part_of, want_of, put, parts_from, grown, wants_of, block_wants}

-- ---- what blocks want

pub wants_append : (pool : List Const) (first second : List PoolWant) → with_wants pool (first ++ second) ≡ with_wants (with_wants pool first) second
wants_append pool [] second = refl
wants_append pool (want ∷ first) second = wants_append (wanted want pool).0 first second

pub grown_step : (old new total : List Const) (left rest : List (Option Block)) (site : Option Block) (part : List BlockInsn) → left ≡ site ∷ rest → part ≡ part_of site
    → new ≡ with_wants old (filter_map want_of part) → grown old left ≡ total → grown new rest ≡ total
grown_step old new total left rest site part split is added so_far =
    let more : new ≡ with_wants old (block_wants site) = added ∙ ap (λ (p : List BlockInsn). with_wants old (filter_map want_of p)) is in
    ap (λ (p : List Const). grown p rest) more ∙ sym (wants_append old (block_wants site) (wants_of rest)) ∙ ap (grown old) (sym split) ∙ so_far

-- ---- parts

pub parts_step : (pool : List Const) (fronts : List ℕ) (begin after : ℕ) (out new total : List Insn) (own others : List Insn) (insn : Insn)
    (left rest : List (Option Block)) (site : Option Block) (part again : List BlockInsn) → own ≡ insn ∷ others → left ≡ site ∷ rest → part ≡ part_of site → again ≡ part_of site
    → after ≡ begin + length again → new ≡ out ++ map (put pool fronts begin insn) part → out ++ parts_from pool fronts begin own left ≡ total
    → new ++ parts_from pool fronts after others rest ≡ total
parts_step pool fronts begin after out new total own others insn left rest site part again own_is left_is is is_again following pushed so_far =
    let here = map (put pool fronts begin insn) (part_of site) in
    let later = parts_from pool fronts (begin + length (part_of site)) others rest in
    let new_is : new ≡ out ++ here = pushed ∙ ap (λ (p : List BlockInsn). out ++ map (put pool fronts begin insn) p) is in
    let after_is : after ≡ begin + length (part_of site) = following ∙ ap (λ (p : List BlockInsn). begin + length p) is_again in
    let whole : parts_from pool fronts begin own left ≡ here ++ later = ap (λ (xs : List Insn). parts_from pool fronts begin xs left) own_is ∙ ap (parts_from pool fronts begin (insn ∷ others)) left_is in
    ap (λ (n : ℕ). new ++ parts_from pool fronts n others rest) after_is ∙ ap (λ (xs : List Insn). xs ++ later) new_is ∙ append_assoc out here later ∙ ap (λ (xs : List Insn). out ++ xs) (sym whole) ∙ so_far

-- The lines of instructions, one after another.
use Rattle.std.proofs.Common.{◌≡◌, ℕ, List, [], ◌∷◌, ◌++◌, refl, sym, ap, ◌∙◌, append-nil}
use Rattle.class_codec.specs.declared.tree.Const.{Const}
use Rattle.insn_codec.specs.declared.insn.Insn.{Insn}
use Rattle.api_listing.specs.declared.types.Listing.{Listing}
use Rattle.class_text.specs.Shown.{insn_lines}

none_left : (listing : Listing) (pool : List Const) (index : ℕ) (starts : List ℕ) → insn_lines listing pool index starts [] ≡ []
none_left listing pool index [] = refl
none_left listing pool index (at ∷ starts) = refl

pub lines_done : (listing : Listing) (pool : List Const) (index : ℕ) (starts : List ℕ) (insns : List Insn) (out total : List ℕ) → insns ≡ []
    → out ++ insn_lines listing pool index starts insns ≡ total → out ≡ total
lines_done listing pool index starts insns out total none so_far =
    sym (append-nil out) ∙ ap (λ t. out ++ t) (sym (none_left listing pool index starts))
    ∙ ap (λ xs. out ++ insn_lines listing pool index starts xs) (sym none) ∙ so_far

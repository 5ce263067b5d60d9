-- Outputs of class files, one after the other.
use Rattle.std.proofs.Common.{◌≡◌, ℕ, List, [], ◌∷◌, ◌++◌, map, sym, ap, ◌∙◌, append_assoc}
use Rattle.class_codec.specs.declared.tree.ClassFile.{ClassFile}
use Rattle.mon_store.specs.declared.outputs.Output.{Output}
use Rattle.command_outputs.specs.Generated.{file_output}

-- one output more
pub output_more : (folder : List ℕ) (file : ClassFile) (left rest : List ClassFile) (one : Output) (outputs new total : List Output) → left ≡ file ∷ rest
    → one ≡ file_output folder file → new ≡ outputs ++ one ∷ [] → outputs ++ map (file_output folder) left ≡ total → new ++ map (file_output folder) rest ≡ total
output_more folder file left rest one outputs new total split is push so_far =
    ap (λ (l : List Output). l ++ map (file_output folder) rest) push ∙ append_assoc outputs (one ∷ []) (map (file_output folder) rest)
    ∙ ap (λ (o : Output). outputs ++ o ∷ map (file_output folder) rest) is ∙ ap (λ (l : List ClassFile). outputs ++ map (file_output folder) l) (sym split) ∙ so_far

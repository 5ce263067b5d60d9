-- The files that are written of a program that was made from a number. (docs/GENERATED.md)
use Rattle.std.specs.Prelude.{ℕ, List, [], ◌∷◌, ◌++◌, codes, map, Option, Some, None}
use Rattle.bundle_gen.specs.declared.bundle.Bundle.{Bundle}
use Rattle.class_codec.specs.declared.tree.ClassFile.{ClassFile}
use Rattle.class_codec.specs.Encoding.{encoding}
use Rattle.class_codec.specs.Pool.{class_name_at}
use Rattle.mon_store.specs.declared.outputs.Output.{Output}
use Rattle.command_outputs.specs.Outputs.{file_name}

abbrev pub text_or_none : Option (List ℕ) → List ℕ
text_or_none (Some text) = text
text_or_none None = []

-- the name of the class
abbrev pub generated_name : ClassFile → List ℕ
generated_name file = text_or_none (class_name_at file.pool file.this_class)

abbrev pub file_output : List ℕ → ClassFile → Output
file_output folder file = record { name = file_name folder (generated_name file); bytes = encoding file }

abbrev pub listing_output : List ℕ → List ℕ → Output
listing_output folder text = record { name = folder ++ codes "/listing"; bytes = text }

abbrev pub policy_output : List ℕ → List ℕ → Output
policy_output folder text = record { name = folder ++ codes "/policy"; bytes = text }

-- the class files in their order, the listing, and last the policy
abbrev pub generated_outputs : List ℕ → Bundle → List Output
generated_outputs folder bundle = map (file_output folder) bundle.files ++ listing_output folder bundle.listing ∷ policy_output folder bundle.policy ∷ []

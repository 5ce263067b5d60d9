-- Of a program that was checked, what the headline says.
use Rattle.std.proofs.Common.{◌≡◌, ◌∙◌, ℕ, nat_lt, List, ◌++◌, Option, Some, None, ap, refl}
use Rattle.std.specs.Prelude.{IsSomeAnd, slice_get}
use Rattle.bytecode_model.specs.declared.program.Side.TheVariants.{Inlined}
use Rattle.cert_format.specs.declared.certificate.Certificate.{Certificate}
use Rattle.cert_format.specs.declared.certificate.Mode.{Mode}
use Rattle.cert_format.specs.declared.certificate.Mode.TheVariants.{Hold, Release}
use Rattle.cert_format.specs.Fits.{EncodesCertificate}
use Rattle.cert_format.specs.Encoding.{encode_head}
use Rattle.class_linking.specs.Linking.{linked}
use Rattle.command_inputs.specs.Words.{NamedCheck}
use Rattle.mon_store.specs.Store.{Files, HasFile}
use Rattle.inliner_tool.specs.Headline.{Obeyed, mode_byte}
use Rattle.inliner_tool.specs.Seen.{Seen}
use Rattle.inliner_tool.specs.Tool.{Holds}
use Rattle.inliner_tool.proofs.Blocks.{limit_by}

-- ---- the mode

head_tells : (mode : Mode) (rest : List ℕ) → slice_get (encode_head mode ++ rest) 6 ≡ Some (mode_byte mode)
head_tells Hold rest = refl
head_tells Release rest = refl

mode_tells : (bytes : List ℕ) (vars : ℕ) (certificate : Certificate) → EncodesCertificate bytes vars certificate → slice_get bytes 6 ≡ Some (mode_byte certificate.mode)
mode_tells bytes vars certificate encodes = ap (λ (b : List ℕ). slice_get b 6) encodes.is ∙ head_tells certificate.mode _

-- ---- files

some_too : (P Q : List ℕ → Type 0) → ((bytes : List ℕ) → P bytes → Q bytes) → (o : Option (List ℕ)) → IsSomeAnd o P → IsSomeAnd o Q
some_too P Q so None is = is
some_too P Q so (Some bytes) is = so bytes is

file_too : (P Q : List ℕ → Type 0) → ((bytes : List ℕ) → P bytes → Q bytes) → (files : Files) (name : List ℕ) → HasFile files name P → HasFile files name Q
file_too P Q so None name is = tt
file_too P Q so (Some known) name is = some_too P Q so (known name) is

-- ---- the headline

pub obeyed : (seen : Seen) (named : NamedCheck) → Holds seen named → Obeyed seen.old named
obeyed seen named holds =
    let inputs = holds.inputs in
    record {
      listing = inputs.listing;
      listing_is = holds.encodes.listing;
      policy = inputs.policy;
      policy_is = holds.encodes.policy;
      mode = inputs.certificate.mode;
      mode_is = file_too _ _ (λ bytes encodes. mode_tells bytes _ inputs.certificate encodes) seen.old named.certificate holds.encodes.certificate;
      classes = inputs.classes.files;
      classes_are = holds.encodes.classes;
      program = holds.checked.program;
      links = limit_by (nat_lt 16777216 inputs.classes.total) inputs.classes.total (linked inputs.classes.files inputs.listing named.main Inlined) holds.checked.program holds.checked.links;
      obeys = holds.checked.checked.secure;
    }

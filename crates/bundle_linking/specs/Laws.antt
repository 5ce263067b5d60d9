-- That generated bundles link, and are within the limits of a command's files. (docs/GENERATED.md)
use Rattle.std.specs.Prelude.{◌≡◌, ◌≤◌, ℕ, Ok}
use Rattle.bundle_gen.specs.Generated.{files_of, main_name}
use Rattle.bundle_gen.specs.Sizes.{bytes_of}
use Rattle.bytecode_model.specs.declared.program.Side.TheVariants.{Original}
use Rattle.class_linking.specs.Linking.{linked}
use Rattle.bundle_gen.specs.Linked.{generated_program, net_listing}

-- The files link to the program.
abbrev pub BundlesLink : Type 0
BundlesLink =
    (seed classes sites : ℕ) → classes ≤ 200
    → linked (files_of seed classes sites) net_listing main_name Original ≡ Ok (generated_program seed classes sites)

-- They have at most 16 MiB in all.
abbrev pub BundlesAreShort : Type 0
BundlesAreShort = (seed classes sites : ℕ) → classes ≤ 200 → sites ≤ 500 → bytes_of (files_of seed classes sites) ≤ 16777216

-- An instruction whose targets are at their fronts: where it goes.
use Rattle.std.proofs.Common.{◌≡◌, ℕ, ◌<◌, List, [], ◌∷◌, map, refl, ap}
use Rattle.std.specs.Prelude.{slice_index}
use Rattle.std.specs.List.{AllByRecursion}
use Rattle.insn_codec.specs.declared.insn.Insn.{Insn}
use Rattle.insn_codec.specs.declared.insn.Insn.TheVariants as insns
use Rattle.insn_codec.specs.Control.{jump_targets}
use Rattle.insn_codec.specs.Fits.{AimsWithin}
use Rattle.offset_patch.specs.Splicing.{aimed}

module _ (fronts : List ℕ) (n : ℕ) (moved : ℕ → ℕ) (same : (i : ℕ) → i < n → slice_index fronts i ≡ moved i) where
  all_moved : (targets : List ℕ) → AllByRecursion (λ to. to < n) targets → map (slice_index fronts) targets ≡ map moved targets
  all_moved [] h = refl
  all_moved (to ∷ targets) h = rw (same to h.0, all_moved targets h.1) refl

  pub jumps_moved : (x : Insn) → AimsWithin n x → jump_targets (aimed fronts x) ≡ map moved (jump_targets x)
  jumps_moved (insns.Branch op to) h = ap (λ t. t ∷ []) (same to h)
  jumps_moved (insns.GotoW to) h = ap (λ t. t ∷ []) (same to h)
  jumps_moved (insns.Table other low targets) h = rw (same other h.0, all_moved targets h.1) refl
  jumps_moved (insns.Lookup other keys targets) h = rw (same other h.0, all_moved targets h.1) refl
  jumps_moved (insns.Plain op) h = refl
  jumps_moved (insns.Byte k) h = refl
  jumps_moved (insns.Short k) h = refl
  jumps_moved (insns.Ldc index) h = refl
  jumps_moved (insns.Pool op index) h = refl
  jumps_moved (insns.Iface index count) h = refl
  jumps_moved (insns.Local op slot wide) h = refl
  jumps_moved (insns.Inc slot by wide) h = refl
  jumps_moved (insns.NewArray kind) h = refl

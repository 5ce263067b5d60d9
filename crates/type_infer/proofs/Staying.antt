-- Control stays in the code.
use Rattle.std.proofs.Common.{◌≡◌, ◌⊎◌, ℕ, ℤ, zero, suc, ◌+◌, ◌<◌, Bool, true, false, List, [], ◌∷◌, length, Some, refl, sym, ap, subst, ◌∙◌, inl, inr, arith}
use Rattle.std.specs.Prelude.{Contains, slice_get, if◌then◌else◌}
use Rattle.std.specs.List.{AllByRecursion}
use Rattle.std.proofs.lemmas.List.Elements.{Contains-append_cases}
use Rattle.std.proofs.lemmas.Option.{slice_get_read}
use Rattle.insn_codec.specs.declared.insn.Insn.{Insn}
use Rattle.insn_codec.specs.declared.insn.Insn.TheVariants as insns
use Rattle.insn_codec.specs.Fits.{AimsWithin, Ends}
use Rattle.insn_codec.specs.Opcodes.{goes_on}
use Rattle.insn_codec.specs.Encoding.{opcode_of}
use Rattle.insn_codec.specs.Control.{successors, jump_targets}
use Rattle.bytecode_model.specs.declared.program.Handler.{Handler}
use Rattle.bytecode_model.specs.declared.program.Method.{Method}
use Rattle.bytecode_model.specs.Sound.{IsSoundMethod, IsWithin}
use Rattle.type_infer.proofs.Lists.{all_at}

pub all_contained : {X : Type 0} (P : X → Type 0) (xs : List X) (x : X) → AllByRecursion P xs → Contains xs x → P x
all_contained P xs x h (k, within, is) = all_at P xs k x h (slice_get_read xs (length xs) k x refl within (sym is))

pub one_of : {X : Type 0} (y x : X) → Contains (y ∷ []) x → y ≡ x
one_of y x (zero, within, is) = is
one_of y x (suc k, within, is) = absurd (omega arith)

pub none_of : {X : Type 0} (x : X) → Contains [] x → ⊥
none_of x (k, within, is) = omega arith

pub first_or : {X : Type 0} (y : X) (ys : List X) (x : X) → Contains (y ∷ ys) x → (y ≡ x) ⊎ Contains ys x
first_or y ys x (zero, within, is) = inl is
first_or y ys x (suc k, within, is) = inr (k, omega arith, is)

goes_past : (list : List Insn) (at : ℕ) (insn : Insn) → Ends list → slice_get list at ≡ Some insn → goes_on (opcode_of insn) ≡ true → at + 1 < length list
goes_past [] at insn e is on = absurd cc
goes_past (last ∷ []) zero insn e is on =
    let same : last ≡ insn = cc in
    let differs : false ≡ true = sym e ∙ ap (λ (i : Insn). goes_on (opcode_of i)) same ∙ on in
    absurd cc
goes_past (last ∷ []) (suc at) insn e is on = absurd cc
goes_past (first ∷ next ∷ others) zero insn e is on = omega arith
goes_past (first ∷ next ∷ others) (suc at) insn e is on = omega (arith, goes_past (next ∷ others) at insn e is on)

jumps_within : (n : ℕ) (insn : Insn) (to : ℕ) → AimsWithin n insn → Contains (jump_targets insn) to → to < n
jumps_within n (insns.Branch op there) to aims c = subst (λ (k : ℕ). k < n) (one_of there to c) aims
jumps_within n (insns.GotoW there) to aims c = subst (λ (k : ℕ). k < n) (one_of there to c) aims
jumps_within n (insns.Table other low targets) to aims c =
    elim (first_or other targets to c) [
      | inl is ↦ subst (λ (k : ℕ). k < n) is aims.0
      | inr later ↦ all_contained (λ (k : ℕ). k < n) targets to aims.1 later
    ]
jumps_within n (insns.Lookup other keys targets) to aims c =
    elim (first_or other targets to c) [
      | inl is ↦ subst (λ (k : ℕ). k < n) is aims.0
      | inr later ↦ all_contained (λ (k : ℕ). k < n) targets to aims.1 later
    ]
jumps_within n insn to aims c = absurd (none_of to c)

-- an instruction of no other kind jumps nowhere
pub no_targets : (insn : Insn) → ((op to : ℕ) → insn ≡ insns.Branch op to → ⊥) → ((to : ℕ) → insn ≡ insns.GotoW to → ⊥)
    → ((other : ℕ) (low : ℤ) (targets : List ℕ) → insn ≡ insns.Table other low targets → ⊥)
    → ((other : ℕ) (keys : List ℤ) (targets : List ℕ) → insn ≡ insns.Lookup other keys targets → ⊥) → jump_targets insn ≡ []
no_targets (insns.Plain op) branch goto table lookup = refl
no_targets (insns.Byte n) branch goto table lookup = refl
no_targets (insns.Short n) branch goto table lookup = refl
no_targets (insns.Ldc index) branch goto table lookup = refl
no_targets (insns.Pool op index) branch goto table lookup = refl
no_targets (insns.Iface index count) branch goto table lookup = refl
no_targets (insns.Local op slot wide) branch goto table lookup = refl
no_targets (insns.Inc slot amount wide) branch goto table lookup = refl
no_targets (insns.Branch op to) branch goto table lookup = absurd (branch op to refl)
no_targets (insns.GotoW to) branch goto table lookup = absurd (goto to refl)
no_targets (insns.NewArray kind) branch goto table lookup = refl
no_targets (insns.Table other low targets) branch goto table lookup = absurd (table other low targets refl)
no_targets (insns.Lookup other keys targets) branch goto table lookup = absurd (lookup other keys targets refl)

pub next_only : (b : Bool) (next to : ℕ) → Contains (if b then next ∷ [] else []) to → (b ≡ true) × (next ≡ to)
next_only true next to c = (refl, one_of next to c)
next_only false next to c = absurd (none_of to c)

pub successor_within : (method : Method) (at : ℕ) (insn : Insn) (to : ℕ) → IsSoundMethod method → slice_get method.insns at ≡ Some insn → Contains (successors at insn) to → to < length method.insns
successor_within method at insn to sound is c =
    elim (Contains-append_cases (if goes_on (opcode_of insn) then (at + 1) ∷ [] else []) (jump_targets insn) to c) [
      | inl next ↦
          let h = next_only (goes_on (opcode_of insn)) (at + 1) to next in
          subst (λ (k : ℕ). k < length method.insns) h.1 (goes_past method.insns at insn sound.ends is h.0)
      | inr jump ↦ jumps_within (length method.insns) insn to (all_at (AimsWithin (length method.insns)) method.insns at insn sound.targets is) jump
    ]

pub handler_within : (method : Method) (handler : Handler) → IsSoundMethod method → Contains method.handlers handler → handler.at < length method.insns
handler_within method handler sound c = (all_contained (IsWithin (length method.insns)) method.handlers handler sound.handlers c).at

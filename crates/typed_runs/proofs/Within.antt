-- Where control goes from an instruction of a method, there is an instruction.
use Rattle.std.proofs.Common.{◌≡◌, ℕ, zero, suc, ◌+◌, ◌<◌, Bool, true, false, cond, List, [], ◌∷◌, length, get_or, Some, refl, ap, sym, subst, ◌∙◌, arith, inl, inr}
use Rattle.std.specs.Prelude.{slice_get}
use Rattle.std.specs.List.{AllByRecursion, Contains}
use Rattle.std.proofs.lemmas.Bool.{true≢false}
use Rattle.std.proofs.lemmas.List.Elements.{Contains-append_cases}
use Rattle.insn_codec.specs.declared.insn.Insn.{Insn}
use Rattle.insn_codec.specs.declared.insn.Insn.TheVariants as insns
use Rattle.insn_codec.specs.Control.{jump_targets, successors}
use Rattle.insn_codec.specs.Fits.{AimsWithin, Ends}
use Rattle.insn_codec.specs.Opcodes.{goes_on}
use Rattle.insn_codec.specs.Encoding.{opcode_of}

-- what holds of each holds of one of them
pub among : {A : Type 0} (P : A → Type 0) (xs : List A) (x : A) → AllByRecursion P xs → Contains xs x → P x
among P xs x all has = at_place P xs x has.0 all has.1 has.2 where
  at_place : {A : Type 0} (P : A → Type 0) (xs : List A) (x : A) (i : ℕ) → AllByRecursion P xs → i < length xs → get_or xs i x ≡ x → P x
  at_place P [] x i all within is = absurd (omega (arith, within))
  at_place P (y ∷ xs) x zero all within is = subst P is all.0
  at_place P (y ∷ xs) x (suc i) all within is = at_place P xs x i all.1 (omega (arith, within)) is

-- after an instruction after which control goes on
after_within : (list : List Insn) (at : ℕ) (insn : Insn) → Ends list → slice_get list at ≡ Some insn → goes_on (opcode_of insn) ≡ true → at + 1 < length list
after_within [] at insn ends there goes = absurd cc
after_within (last ∷ []) zero insn ends there goes =
    let same : last ≡ insn = cc in
    absurd (true≢false (sym goes ∙ ap (λ (i : Insn). goes_on (opcode_of i)) (sym same) ∙ ends))
after_within (last ∷ []) (suc at) insn ends there goes = absurd cc
after_within (first ∷ next ∷ others) zero insn ends there goes = omega arith
after_within (first ∷ next ∷ others) (suc at) insn ends there goes = omega (arith, after_within (next ∷ others) at insn ends there goes)

targets_within : (n : ℕ) (insn : Insn) → AimsWithin n insn → AllByRecursion (λ to. to < n) (jump_targets insn)
targets_within n (insns.Branch op to) aims = (aims, tt)
targets_within n (insns.GotoW to) aims = (aims, tt)
targets_within n (insns.Table other low targets) aims = aims
targets_within n (insns.Lookup other keys targets) aims = aims
targets_within n (insns.Plain op) aims = tt
targets_within n (insns.Byte m) aims = tt
targets_within n (insns.Short m) aims = tt
targets_within n (insns.Ldc index) aims = tt
targets_within n (insns.Pool op index) aims = tt
targets_within n (insns.Iface index count) aims = tt
targets_within n (insns.Local op slot wide) aims = tt
targets_within n (insns.Inc slot by wide) aims = tt
targets_within n (insns.NewArray kind) aims = tt

next_among : (goes : Bool) (n at to : ℕ) → (goes ≡ true → at + 1 < n) → Contains (cond goes ((at + 1) ∷ []) []) to → to < n
next_among true n at to within has = among (λ (k : ℕ). k < n) ((at + 1) ∷ []) to (within refl, tt) has
next_among false n at to within has = absurd (omega (arith, has.1))

-- each successor of an instruction
pub successor_within : (list : List Insn) (at : ℕ) (insn : Insn) → Ends list → AllByRecursion (AimsWithin (length list)) list
    → slice_get list at ≡ Some insn → AimsWithin (length list) insn → (to : ℕ) → Contains (successors at insn) to → to < length list
successor_within list at insn ends each there aims to has =
    elim (Contains-append_cases (cond (goes_on (opcode_of insn)) ((at + 1) ∷ []) []) (jump_targets insn) to has) [
      | inl next ↦ next_among (goes_on (opcode_of insn)) (length list) at to (after_within list at insn ends there) next
      | inr jump ↦ among (λ (k : ℕ). k < length list) (jump_targets insn) to (targets_within (length list) insn aims) jump
    ]

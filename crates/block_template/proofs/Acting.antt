-- What an instruction of a block does to the types, by its shape: it takes operands and pushes others, whatever is below.
use Rattle.std.proofs.Common.{◌≡◌, ℕ, suc, ◌+◌, ◌≤◌, true, cond, List, [], ◌∷◌, ◌++◌, length, map, refl, sym, ap, ◌∙◌, arith, length-append}
use Rattle.std.specs.Prelude.{nat_le}
use Rattle.std.proofs.lemmas.Bool.{le-leb, and_from, and_parts}
use Rattle.cert_format.specs.declared.typing.FrameType.{FrameType}
use Rattle.cert_format.specs.declared.typing.VType.{VType}
use Rattle.insn_codec.specs.declared.shape.Shape.{Shape}
use Rattle.insn_codec.specs.Shapes.{shape_of}
use Rattle.bytecode_model.specs.Assigning.{assignable}
use Rattle.bytecode_model.specs.Makes.{type_at, yields, yields_of, changed, changed_by, stores, local_after, stack_after, topmost, below}
use Rattle.bytecode_model.specs.InsnPlace.{InsnPlace}
use Rattle.bytecode_model.specs.Rules.{stack_fits, locals_fit, taken, Depth, Operand, Local, Made, made_well, uses_local, goes_well}
use Rattle.bytecode_model.specs.Wants.{Want, takes, takes_of, all_met, returns_well}
use Rattle.block_template.specs.Frames.{frame}
use Rattle.block_template.proofs.Types.{below_of, stack_itself, top_of}

stays_all : (f : VType → VType) → ((t : VType) → f t ≡ t) → (xs : List VType) → map f xs ≡ xs
stays_all f same [] = refl
stays_all f same (t ∷ xs) = rw (same t, stays_all f same xs) refl

pub met_length : (ws : List Want) (ts : List VType) → all_met ws ts ≡ true → length ws ≡ length ts
met_length [] [] e = refl
met_length [] (t ∷ ts) e = absurd cc
met_length (w ∷ ws) [] e = absurd cc
met_length (w ∷ ws) (t ∷ ts) e = ap suc (met_length ws ts (and_parts (w t) (all_met ws ts) e).1)

-- It takes these operands and pushes those; then the locals are as told.
pub record Acts (place : InsnPlace) (locals ts us : List VType) (then : ℕ → VType) : Type 0 where
  pub shape : Shape
  pub is : shape_of place.insn ≡ shape
  pub met : all_met (takes_of place shape) ts ≡ true
  pub returns : returns_well place shape ≡ true
  pub stays : (t : VType) → changed_by place ts shape t ≡ t
  pub left : yields_of place locals ts shape ≡ us
  pub uses : uses_local place.method locals shape ≡ true
  pub made : (stack : List VType) → made_well place (frame locals stack) shape ≡ true
  pub local : (j : ℕ) → cond (stores shape j) (type_at ts 0) (type_at locals j) ≡ then j

-- The rules that ask nothing of other instructions.
pub record MeetsAlone (place : InsnPlace) (f : FrameType) : Type 0 where
  pub depth : Depth place f ≡ true
  pub operand : Operand place f ≡ true
  pub local : Local place f ≡ true
  pub made : Made place f ≡ true

module _ (place : InsnPlace) (locals ts us : List VType) (then : ℕ → VType) (acts : Acts place locals ts us then) (s : List VType) where
  count : length (takes place) ≡ length ts
  count = ap (λ (shape : Shape). length (takes_of place shape)) acts.is ∙ met_length (takes_of place acts.shape) ts acts.met

  pub takes_these : taken place (frame locals (s ++ ts)) ≡ ts
  takes_these = ap (λ (n : ℕ). topmost n (s ++ ts)) count ∙ top_of s ts

  stays_so : (t : VType) → changed place ts t ≡ t
  stays_so t = ap (λ (shape : Shape). changed_by place ts shape t) acts.is ∙ acts.stays t

  pub leaves : stack_after place locals (length (takes place)) (s ++ ts) ≡ s ++ us
  leaves =
      ap (λ (n : ℕ). stack_after place locals n (s ++ ts)) count
      ∙ ap (λ (top : List VType). map (changed place top) (below (length ts) (s ++ ts)) ++ yields place locals top) (top_of s ts)
      ∙ ap (λ (low : List VType). map (changed place ts) low ++ yields place locals ts) (below_of s ts)
      ∙ ap (λ (low : List VType). low ++ yields place locals ts) (stays_all (changed place ts) stays_so s)
      ∙ ap (λ (shape : Shape). s ++ yields_of place locals ts shape) acts.is
      ∙ ap (λ (new : List VType). s ++ new) acts.left

  pub alone : length (s ++ us) ≤ place.method.max_stack → length locals ≤ place.method.max_locals
      → MeetsAlone place (frame locals (s ++ ts))
  alone high few =
      let enough : length ts ≤ length (s ++ ts) = omega (arith, length-append s ts) in
      record {
        depth =
            and_from (nat_le (length (takes place)) (length (s ++ ts)))
            (nat_le (length (stack_after place locals (length (takes place)) (s ++ ts))) place.method.max_stack)
            (ap (λ (n : ℕ). nat_le n (length (s ++ ts))) count ∙ le-leb (length ts) (length (s ++ ts)) enough)
            (ap (λ (xs : List VType). nat_le (length xs) place.method.max_stack) leaves
            ∙ le-leb (length (s ++ us)) place.method.max_stack high);
        operand =
            and_from (all_met (takes place) (taken place (frame locals (s ++ ts)))) (returns_well place (shape_of place.insn))
            (ap (all_met (takes place)) takes_these ∙ ap (λ (shape : Shape). all_met (takes_of place shape) ts) acts.is ∙ acts.met)
            (ap (returns_well place) acts.is ∙ acts.returns);
        local =
            and_from (nat_le (length locals) place.method.max_locals) (uses_local place.method locals (shape_of place.insn))
            (le-leb (length locals) place.method.max_locals few) (ap (uses_local place.method locals) acts.is ∙ acts.uses);
        made = ap (made_well place (frame locals (s ++ ts))) acts.is ∙ acts.made (s ++ ts);
      }

  local_is : (j : ℕ) → local_after place locals (taken place (frame locals (s ++ ts))) j ≡ then j
  local_is j =
      ap (λ (top : List VType). local_after place locals top j) takes_these
      ∙ ap (λ (t : VType). cond (stores (shape_of place.insn) j) (type_at ts 0) t) (stays_so (type_at locals j))
      ∙ ap (λ (shape : Shape). cond (stores shape j) (type_at ts 0) (type_at locals j)) acts.is
      ∙ acts.local j

  same_locals : (f g : ℕ → VType) → ((j : ℕ) → f j ≡ g j) → (j : ℕ) (to : List VType) → locals_fit place.program g j to ≡ true
      → locals_fit place.program f j to ≡ true
  same_locals f g same j [] e = refl
  same_locals f g same j (t ∷ to) e =
      let parts = and_parts (assignable place.program (g j) t) (locals_fit place.program g (j + 1) to) e in
      and_from (assignable place.program (f j) t) (locals_fit place.program f (j + 1) to)
      (ap (λ (u : VType). assignable place.program u t) (same j) ∙ parts.0)
      (same_locals f g same (j + 1) to parts.1)

  pub goes : (to : FrameType) → to.stack ≡ s ++ us → locals_fit place.program then 0 to.locals ≡ true
      → goes_well place (frame locals (s ++ ts)) to ≡ true
  goes to stack locals_fits =
      and_from (stack_fits place.program (stack_after place locals (length (takes place)) (s ++ ts)) to.stack)
      (locals_fit place.program (local_after place locals (taken place (frame locals (s ++ ts)))) 0 to.locals)
      (ap (λ (xs : List VType). stack_fits place.program xs to.stack) (leaves ∙ sym stack) ∙ stack_itself place.program to.stack)
      (same_locals (local_after place locals (taken place (frame locals (s ++ ts)))) then local_is 0 to.locals locals_fits)

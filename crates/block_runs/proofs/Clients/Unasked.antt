-- Policies with a clause for one method, and what no policy has clauses for.
use Rattle.std.proofs.Common.{◌≡◌, ◌∙◌, ℕ, Bool, true, false, cond, List, [], ◌∷◌, Option, Some, None, refl, sym, ap, subst}
use Rattle.std.specs.Prelude.{◌||◌, pos}
use Rattle.std.proofs.lemmas.Bool.{eq-eqb, false≢true}
use Rattle.insn_codec.specs.declared.insn.Insn.{Insn}
use Rattle.bytecode_model.specs.declared.program.Program.{Program}
use Rattle.bytecode_model.specs.declared.program.Target.{Target}
use Rattle.conspec_tree.specs.declared.types.Phase.TheVariants.{Before}
use Rattle.conspec_automaton.specs.declared.policy.Policy.{Policy}
use Rattle.conspec_automaton.specs.Next.{has_clauses}
use Rattle.guest_heap.specs.declared.frame.Frame.{Frame}
use Rattle.guest_heap.specs.declared.thread.Thread.{Thread}
use Rattle.guest_model.specs.declared.machine.Machine.{Machine}
use Rattle.guest_model.specs.Changes.{Change}
use Rattle.guest_model.specs.Places.{insn_at}
use Rattle.guest_model.specs.Stepping.{frames_stepped}
use Rattle.guest_model.proofs.Options.{is_there, some_is}
use Rattle.block_runs.proofs.Quiet.{IsUnclaused, Still, frames_still}

-- ---- policies with a clause for one method

abbrev asking : ℕ → Policy
asking method = record { maxint = pos 1; vars = []; clauses = record { method = method; phase = Before; args = []; result = None; branches = [] } ∷ [] }

asks : (method : ℕ) → has_clauses (asking method) method ≡ true
asks method = ap (λ (b : Bool). b || false) (eq-eqb method method refl)

-- What no policy has clauses for is none.
pub never_asked : (method : ℕ) → ((policy : Policy) → has_clauses policy method ≡ false) → ⊥
never_asked method none = false≢true (sym (none (asking method)) ∙ asks method)

pub unless : {A : Type 0} (b : Bool) (o : Option A) (x : A) → cond b None o ≡ Some x → o ≡ Some x
unless true o x e = absurd cc
unless false o x e = e

module _ (client : Program) (machine : Machine) (number : ℕ) (thread : Thread) where
  -- What an instruction does that names no method of the library no policy has clauses for.
  pub others_still : (frame : Frame) (below : List Frame) (insn : Insn) (ref : Target) → insn_at client frame ≡ Some (insn, ref)
      → ((policy : Policy) → IsUnclaused client policy ref) → (change : Change)
      → frames_stepped client machine number thread (frame ∷ below) ≡ Some change → (policy : Policy) → Still client policy change
  others_still frame below insn ref at free change e policy =
      is_there (Still client policy) _ change
      (frames_still client policy machine number thread (frame ∷ below)
      (λ f next is there.
      let same : frame ≡ f = some_is frame f is in
      let next_is : (insn, ref) ≡ next = some_is (insn, ref) next (sym at ∙ ap (insn_at client) same ∙ there) in
      subst (λ (n : Insn × Target). IsUnclaused client policy n.1) next_is (free policy))) e

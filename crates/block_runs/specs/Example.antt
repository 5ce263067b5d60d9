-- Blocks that are run: of a policy that allows three calls, in mode hold (docs/BLOCKS.md, At most three calls, under the lock); and of one
-- that asks an argument, in mode release.
use Rattle.std.specs.Prelude.{◌≡◌, ℕ, ℤ, pos, Bool, true, false, codes, [], ◌∷◌, Some, None}
use Rattle.cert_format.specs.declared.certificate.Mode.TheVariants.{Hold, Release}
use Rattle.conspec_tree.specs.declared.types.Atom.{Atom}
use Rattle.conspec_tree.specs.declared.types.Base.TheVariants.{Arg, Var}
use Rattle.conspec_tree.specs.declared.types.Kind.TheVariants.{Int, Object}
use Rattle.conspec_tree.specs.declared.types.Phase.TheVariants.{Before}
use Rattle.conspec_tree.specs.declared.types.Rel.TheVariants.{Le}
use Rattle.conspec_tree.specs.declared.types.Update.TheVariants.{Add}
use Rattle.conspec_automaton.specs.declared.policy.Branch.{Branch}
use Rattle.conspec_automaton.specs.declared.policy.Clause.{Clause}
use Rattle.conspec_automaton.specs.declared.policy.Policy.{Policy}
use Rattle.offset_patch.specs.declared.block.Block.{Block}
use Rattle.block_template.specs.Blocks.{block}
use Rattle.guest_heap.specs.declared.value.Value.{Value}
use Rattle.guest_heap.specs.declared.value.Value.TheVariants as values
use Rattle.block_runs.specs.Running.{Called, Stopped, run_from}
use Rattle.block_runs.specs.Spots.{Spot}

abbrev at_most : ℤ → Atom
at_most most = record { base = Var 0; rel = Le; value = most }

-- n <= 2 -> { n = n + 1; }, and n <= 999, which keeps n in range
abbrev counted : Branch
counted = record { atoms = at_most (pos 2) ∷ at_most (pos 999) ∷ []; updates = Add 0 (pos 1) ∷ [] }

abbrev before_send : Clause
before_send = record { method = 0; phase = Before; args = []; result = None; branches = counted ∷ [] }

abbrev pub three_calls : Policy
three_calls = record {
  maxint = pos 1000;
  vars = record { name = codes "n"; is_bool = false; first = pos 0 } ∷ [];
  clauses = before_send ∷ [];
}

-- so many calls were counted
abbrev pub counting : ℤ → Bool → Spot
counting n locked = record {
  stack = record { items = []; size = 3 };
  locals = values.Null ∷ [];
  fields = values.Int n ∷ [];
  locked = locked;
}

abbrev pub ThirdIsCalled : Type 0
ThirdIsCalled =
    (state : ℕ) (made : Block) → block three_calls Hold 0 1 ≡ Some made
    → run_from state made.insns 0 (counting (pos 2) false) ≡ Called 17 (counting (pos 3) true)

abbrev pub FourthIsRefused : Type 0
FourthIsRefused =
    (state : ℕ) (made : Block) → block three_calls Hold 0 1 ≡ Some made
    → run_from state made.insns 0 (counting (pos 3) false) ≡ Stopped (pos 77)

-- ---- arguments

-- x <= 10, of the second argument
abbrev short : Branch
short = record { atoms = record { base = Arg 1; rel = Le; value = pos 10 } ∷ []; updates = [] }

abbrev pub short_texts : Policy
short_texts = record {
  maxint = pos 1000;
  vars = [];
  clauses = record { method = 0; phase = Before; args = Object ∷ Int ∷ []; result = None; branches = short ∷ [] } ∷ [];
}

-- An object and 7 are passed, the last on top, and the receiver under them; the locals are the client's one, and these two.
abbrev pub passing : Value → Value → Spot
passing first second = record {
  stack = record { items = values.Int (pos 7) ∷ values.Ref 5 ∷ values.Ref 4 ∷ []; size = 6 };
  locals = values.Null ∷ first ∷ second ∷ [];
  fields = [];
  locked = false;
}

-- They stand on the stack as before, and each in its local.
abbrev pub ArgumentsAreGivenBack : Type 0
ArgumentsAreGivenBack =
    (state : ℕ) (made : Block) → block short_texts Release 0 1 ≡ Some made
    → run_from state made.insns 0 (passing values.Null values.Null) ≡ Called 16 (passing (values.Ref 5) (values.Int (pos 7)))

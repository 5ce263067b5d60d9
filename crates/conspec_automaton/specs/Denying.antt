-- Policies that deny calls outright: no variable, and no branch. (docs/BLOCKS.md)
use Rattle.std.specs.Prelude.{◌≡◌, Bool, true, false, List, []}
use Rattle.std.specs.List.{AllByRecursion}
use Rattle.conspec_tree.specs.declared.types.Phase.TheVariants.{Before}
use Rattle.conspec_automaton.specs.declared.policy.Clause.{Clause}
use Rattle.conspec_automaton.specs.declared.policy.Policy.{Policy}

pub record Denies (clause : Clause) : Type 0 where
  pub calls : clause.phase ≡ Before
  pub all : clause.branches ≡ []

pub record DeniesOnly (policy : Policy) : Type 0 where
  pub vars : policy.vars ≡ []
  pub clauses : AllByRecursion Denies policy.clauses

abbrev pub is_empty : {X : Type 0} → List X → Bool
is_empty [] = true
is_empty other = false

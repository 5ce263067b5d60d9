use Rattle.std.proofs.Common.{◌<◌, ◌≤◌, ℕ, take, drop, ltb, subst, sym, rules, List}
use Rattle.std.specs.Prelude.{All}
use Rattle.std.proofs.lemmas.List.Sorted.{IsPartitionPoint-from_clause, IsPartitionedBy-ltb}
use Rattle.guest_step.proofs.Cyclic.{point}
use Rattle.guest_step.proofs.turns.parted.Goals as goal

parts : (c : goal.After-split_at) → All (λ (n : ℕ). n < c.args.first) (take c.partition_point.result c.args.numbers.now) × All (λ (n : ℕ). c.args.first ≤ n) (drop c.partition_point.result c.args.numbers.now)
parts c =
    point c.args.first c.partition_point.result c.args.numbers.now c.partition_point.ensures.bound
    (IsPartitionPoint-from_clause (λ (n : ℕ). ltb n c.args.first) c.args.numbers.now c.partition_point.result c.partition_point.ensures.partitioned
    (IsPartitionedBy-ltb (λ (n : ℕ). n) c.args.numbers.now c.args.first c.requires) (λ a r f' k. search rules))

pub returns-clause-below : goal.returns-clause-below
returns-clause-below c = subst (λ (xs : List ℕ). All (λ (n : ℕ). n < c.args.first) xs) (sym c.split_at.ensures.front) (parts c).0

pub returns-clause-above : goal.returns-clause-above
returns-clause-above c = subst (λ (xs : List ℕ). All (λ (n : ℕ). c.args.first ≤ n) xs) (sym c.split_at.ensures.back) (parts c).1

-- What a policy tells of a site: its clause, and the arguments and the result of its method. (docs/CERTIFICATES.md)
use Rattle.std.specs.Prelude.{ℕ, ◌==◌, ◌&&◌, Bool, true, false, length, Option, find, option_and_then}
use Rattle.std.specs.Option.{option_map_or}
use Rattle.cert_format.specs.declared.note.Phase8.{Phase8}
use Rattle.cert_format.specs.declared.note.Phase8.TheVariants as sites
use Rattle.cert_format.specs.declared.note.Site.{Site}
use Rattle.conspec_tree.specs.declared.types.Kind.{Kind}
use Rattle.conspec_tree.specs.declared.types.Phase.{Phase}
use Rattle.conspec_tree.specs.declared.types.Phase.TheVariants as phases
use Rattle.conspec_automaton.specs.declared.policy.Clause.{Clause}
use Rattle.conspec_automaton.specs.declared.policy.Policy.{Policy}

abbrev pub is_of_phase : Phase8 → Phase → Bool
is_of_phase sites.Before phases.Before = true
is_of_phase sites.After phases.After = true
is_of_phase sites.Exceptional phases.Exceptional = true
is_of_phase site phase = false

abbrev pub clause_at : Policy → ℕ → Phase8 → Option Clause
clause_at policy method phase = find (λ (c : Clause). (c.method == method) && is_of_phase phase c.phase) policy.clauses

-- the clause for the events of the site
abbrev pub clause_of : Policy → Site → Option Clause
clause_of policy site = clause_at policy site.method site.phase

-- how many arguments a call is granted for: those that a clause for it may ask
abbrev pub needs : Policy → ℕ → ℕ
needs policy method = option_map_or (λ (c : Clause). length c.args) (clause_at policy method sites.Before) 0

-- the first clause of the method
abbrev pub clause_for : Policy → ℕ → Option Clause
clause_for policy method = find (λ (c : Clause). c.method == method) policy.clauses

-- what a method gives that the policy has a clause for; each of its clauses tells the same
abbrev pub result_kind : Policy → ℕ → Option Kind
result_kind policy method = option_and_then (λ (c : Clause). c.result) (clause_for policy method)

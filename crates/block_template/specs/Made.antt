-- The items of the blocks of a policy, each in a method without locals of its own. (docs/BLOCKS.md)
use Rattle.std.specs.Prelude.{◌≡◌, ℕ, ◌==◌, if◌then◌else◌, List, Option, Some, None}
use Rattle.std.specs.BTreeMap.{BTreeMap, get}
use Rattle.std.specs.List.{list_any}
use Rattle.std.specs.Ordering.{nat_cmp}
use Rattle.cert_format.specs.declared.certificate.Mode.{Mode}
use Rattle.conspec_automaton.specs.declared.policy.Clause.{Clause}
use Rattle.conspec_automaton.specs.declared.policy.Policy.{Policy}
use Rattle.block_template.specs.declared.item.Item.{Item}
use Rattle.block_template.specs.Blocks.{bools_of, clauses_of, items}

-- those of a method's block, where one of these clauses names it
abbrev pub known_items : Policy → Mode → List Clause → ℕ → Option (List Item)
known_items policy mode clauses method =
    if list_any (λ (clause : Clause). clause.method == method) clauses then Some (items mode (bools_of policy) 0 (clauses_of policy method)) else None

-- The map has those of each method that a clause names, and nothing else.
abbrev pub HasItems : Policy → Mode → BTreeMap ℕ (List Item) → Type 0
HasItems policy mode made = (method : ℕ) → get nat_cmp made method ≡ known_items policy mode policy.clauses method

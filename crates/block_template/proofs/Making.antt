-- Items of blocks in a map: of each method that a clause names, those of its block.
use Rattle.std.proofs.Common.{◌≡◌, ℕ, ◌<◌, ◌^◌, length, Bool, true, false, cond, eqb, List, [], ◌∷◌, Option, Some, None, refl, sym, ap, ◌∙◌, ◌||◌, arith}
use Rattle.std.specs.BTreeMap.{BTreeMap, get, is_at}
use Rattle.std.specs.List.{list_any}
use Rattle.std.specs.Map.{lookup}
use Rattle.std.specs.Option.{option_or}
use Rattle.std.specs.Ordering.{nat_cmp}
use Rattle.std.proofs.lemmas.Bool.Decides.{nat_tests}
use Rattle.bytecode_model.proofs.Lists.{or_or}
use Rattle.cert_format.specs.declared.certificate.Mode.{Mode}
use Rattle.conspec_automaton.specs.declared.policy.Clause.{Clause}
use Rattle.conspec_automaton.specs.declared.policy.Policy.{Policy}
use Rattle.conspec_automaton.specs.Next.{has_clauses}
use Rattle.conspec_automaton.specs.Sound.{IsPolicy}
use Rattle.block_template.specs.declared.item.Item.{Item}
use Rattle.block_template.specs.Blocks.{bools_of, clauses_of, items}
use Rattle.block_template.specs.Made.{known_items}
use Rattle.block_template.proofs.Policies.{short_items}

is_method : (a b : ℕ) → eqb a b ≡ true → a ≡ b
is_method a b e = grind (arith, nat_tests)

-- one clause more
pub method_goes_on : (policy : Policy) (mode : Mode) (clauses rest : List Clause) (clause : Clause) (q : ℕ) (before after total : Option (List Item))
    → clauses ≡ clause ∷ rest
    → after ≡ option_or before (cond (eqb clause.method q) (Some (items mode (bools_of policy) 0 (clauses_of policy clause.method))) None)
    → option_or before (known_items policy mode clauses q) ≡ total → option_or after (known_items policy mode rest q) ≡ total
method_goes_on policy mode clauses rest clause q before after total is more so_far =
    ap (λ o. option_or o (known_items policy mode rest q)) more
    ∙ or_or before (cond (eqb clause.method q) (Some (of clause.method)) None) (known_items policy mode rest q)
    ∙ ap (option_or before) (front (eqb clause.method q) refl (list_any (λ (c : Clause). eqb c.method q) rest))
    ∙ ap (λ cs. option_or before (known_items policy mode cs q)) (sym is) ∙ so_far
  where
    of : ℕ → List Item
    of method = items mode (bools_of policy) 0 (clauses_of policy method)

    front : (b : Bool) → eqb clause.method q ≡ b → (others : Bool)
        → option_or (cond b (Some (of clause.method)) None) (cond others (Some (of q)) None) ≡ cond (b || others) (Some (of q)) None
    front true e others = ap (λ m. Some (of m)) (is_method clause.method q e)
    front false e others = refl

-- a map that is empty
pub none_made : (made : BTreeMap ℕ (List Item)) (q : ℕ) (o : Option (List Item)) → made.entries ≡ [] → option_or (get nat_cmp made q) o ≡ o
none_made made q o empty = ap (λ p. option_or p o) (none_in made.entries empty) where
  none_in : (es : List (ℕ × List Item)) → es ≡ [] → lookup (is_at (nat_cmp q)) es ≡ None
  none_in es e = ap (lookup (is_at (nat_cmp q))) e

-- ---- what is found

-- A method with items has clauses, and the items are those of its block.
pub is_known : (policy : Policy) (mode : Mode) (method : ℕ) (found : List Item) → Some found ≡ known_items policy mode policy.clauses method
    → (has_clauses policy method ≡ true) × (found ≡ items mode (bools_of policy) 0 (clauses_of policy method))
is_known policy mode method found e = by (has_clauses policy method) e
  where
    by : (b : Bool) → Some found ≡ cond b (Some (items mode (bools_of policy) 0 (clauses_of policy method))) None
        → (b ≡ true) × (found ≡ items mode (bools_of policy) 0 (clauses_of policy method))
    by true e = (refl, cc)
    by false e = absurd cc

-- They are few.
pub known_short : (policy : Policy) (mode : Mode) (method : ℕ) (found : List Item) → IsPolicy policy → Some found ≡ known_items policy mode policy.clauses method
    → length found < 2 ^ 16
known_short policy mode method found read e =
    let short = short_items policy mode method read in
    rw (is_known policy mode method found e).1 short

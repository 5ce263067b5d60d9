-- What the texts of a generated bundle are read as. (docs/GENERATED.md)
use Rattle.std.specs.Prelude.{◌≡◌, pos, List, [], ◌∷◌, codes, None, false, Ok}
use Rattle.bundle_gen.specs.Generated.{listing_text, policy_text}
use Rattle.bundle_gen.specs.Linked.{net_listing}
use Rattle.conspec_parse.specs.Policy.{reading as policy_of}
use Rattle.conspec_tree.specs.declared.types.Atom.{Atom}
use Rattle.conspec_tree.specs.declared.types.Base.TheVariants as bases
use Rattle.conspec_tree.specs.declared.types.Guard.{Guard}
use Rattle.conspec_tree.specs.declared.types.Kind.TheVariants as kinds
use Rattle.conspec_tree.specs.declared.types.Phase.TheVariants as phases
use Rattle.conspec_tree.specs.declared.types.PolicyTree.{PolicyTree}
use Rattle.conspec_tree.specs.declared.types.Rel.TheVariants as relations
use Rattle.conspec_tree.specs.declared.types.TreeClause.{TreeClause}
use Rattle.conspec_tree.specs.declared.types.Update.TheVariants as updates
use Rattle.conspec_tree.specs.declared.types.Var.{Var}
use Rattle.listing_text.specs.Reading.{reading as listing_of}

-- what is counted: the calls of `send`
abbrev pub counter : Var
counter = record { name = codes "n"; is_bool = false; first = pos 0 }

-- the count is at most this, and the argument is not negative
abbrev pub few_and_sound : List Atom
few_and_sound =
    record { base = bases.Var 0; rel = relations.Le; value = pos 999998 }
    ∷ record { base = bases.Arg 0; rel = relations.Ge; value = pos 0 }
    ∷ []

-- then it is counted
abbrev pub counting : Guard
counting = record { conjs = few_and_sound ∷ []; updates = updates.Add 0 (pos 1) ∷ [] }

abbrev pub before_send : TreeClause
before_send = record { method = 0; phase = phases.Before; args = kinds.Int ∷ []; result = None; guards = counting ∷ [] }

abbrev pub net_policy : PolicyTree
net_policy = record { maxint = pos 1000000; vars = counter ∷ []; clauses = before_send ∷ [] }

-- The text of the listing is read as the listing of `api/Net`.
abbrev pub ListingIsRead : Type 0
ListingIsRead = listing_of listing_text ≡ Ok net_listing

-- The text of the policy is read, over that listing, as this policy.
abbrev pub PolicyIsRead : Type 0
PolicyIsRead = policy_of policy_text net_listing ≡ Ok net_policy

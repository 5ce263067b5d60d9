-- The roles of a block do not depend on where its locals begin.
use Rattle.std.proofs.Common.{◌≡◌, ℕ, ◌+◌, Bool, true, false, cond, List, [], ◌∷◌, ◌++◌, length, map, Option, Some, None, refl, sym, ap, ◌∙◌}
use Rattle.std.proofs.lemmas.List.{length-map, map-append}
use Rattle.bytecode_model.specs.declared.program.Target.{Target}
use Rattle.bytecode_model.specs.declared.program.Target.TheVariants as target
use Rattle.cert_format.specs.declared.certificate.Mode.{Mode}
use Rattle.cert_format.specs.declared.certificate.Mode.TheVariants.{Hold, Release}
use Rattle.conspec_tree.specs.declared.types.Atom.{Atom}
use Rattle.conspec_tree.specs.declared.types.Kind.{Kind}
use Rattle.conspec_tree.specs.declared.types.Phase.{Phase}
use Rattle.conspec_tree.specs.declared.types.Phase.TheVariants.{Before, After, Exceptional}
use Rattle.conspec_automaton.specs.declared.policy.Branch.{Branch}
use Rattle.conspec_automaton.specs.declared.policy.Clause.{Clause}
use Rattle.conspec_automaton.specs.declared.policy.Policy.{Policy}
use Rattle.conspec_automaton.specs.Next.{has_clauses}
use Rattle.offset_patch.specs.Splicing.{fronts_from, fronts_of, part_of}
use Rattle.block_template.specs.declared.item.Item.{Item}
use Rattle.block_template.specs.declared.item.Role.{Role}
use Rattle.block_template.specs.declared.item.Role.TheVariants as roles
use Rattle.block_template.specs.Blocks.{
  Clauses,
  following,
  block_with,
  bools_of,
  call,
  called,
  catches,
  caught,
  checked,
  clauses_of,
  front,
  from_call,
  handler,
  items,
  leave,
  lets_pass,
  plan_of,
  released,
  rethrow,
  site,
  with_handler,
}
use Rattle.block_template.specs.Parts.{asks, branch_size, branches, branches_size, check, give, if_reached, keep, loads, lock, save, tried, unlock, unreached, writes}

abbrev roles_in : List Item → List Role
roles_in xs = map (λ (i : Item). i.role) xs

abbrev Alike : List Item → List Item → Type 0
Alike xs ys = roles_in xs ≡ roles_in ys

both : (xs ys us ws : List Item) → Alike xs us → Alike ys ws → Alike (xs ++ ys) (us ++ ws)
both xs ys us ws e f =
    map-append (λ (i : Item). i.role) xs ys ∙ ap (λ (rs : List Role). rs ++ roles_in ys) e ∙ ap (λ (rs : List Role). roles_in us ++ rs) f
    ∙ sym (map-append (λ (i : Item). i.role) us ws)

none_reached : (xs ys : List Item) → Alike xs ys → Alike (map unreached xs) (map unreached ys)
none_reached [] [] e = refl
none_reached [] (y ∷ ys) e = absurd cc
none_reached (x ∷ xs) [] e = absurd cc
none_reached (x ∷ xs) (y ∷ ys) e =
    let rest : Alike xs ys = cc in
    ap (λ (rs : List Role). roles.Unreached ∷ rs) (none_reached xs ys rest)

reached : (b : Bool) (xs ys : List Item) → Alike xs ys → Alike (if_reached b xs) (if_reached b ys)
reached true xs ys e = e
reached false xs ys e = none_reached xs ys e

module _ (bools : List Bool) (base other : ℕ) where
  save_alike : (n : ℕ) (kinds : List Kind) → Alike (save base n kinds) (save other n kinds)
  save_alike n [] = refl
  save_alike n (kind ∷ kinds) = both (save base (n + 1) kinds) _ (save other (n + 1) kinds) _ (save_alike (n + 1) kinds) refl

  loads_alike : (locked : Bool) (n : ℕ) (kinds : List Kind) → Alike (loads locked base n kinds) (loads locked other n kinds)
  loads_alike locked n [] = refl
  loads_alike locked n (kind ∷ kinds) = ap (λ (rs : List Role). roles.Load n locked ∷ rs) (loads_alike locked (n + 1) kinds)

  asks_alike : (phase : Phase) (branch n next to : ℕ) (atoms : List Atom)
      → Alike (asks bools base phase branch n next atoms) (asks bools other phase branch n to atoms)
  asks_alike phase branch n next to [] = refl
  asks_alike phase branch n next to (atom ∷ atoms) =
      ap (λ (rs : List Role). roles.Ask phase branch n 0 ∷ roles.Ask phase branch n 1 ∷ roles.Ask phase branch n 2 ∷ rs)
      (asks_alike phase branch (n + 1) next to atoms)

  branches_alike : (phase : Phase) (n at there done end : ℕ) (bs : List Branch)
      → Alike (branches bools base phase n at done bs) (branches bools other phase n there end bs)
  branches_alike phase n at there done end [] = refl
  branches_alike phase n at there done end (branch ∷ others) =
      both (tried bools base phase n (at + branch_size branch) done branch) _ (tried bools other phase n (there + branch_size branch) end branch) _
      (both (asks bools base phase n 0 (at + branch_size branch) branch.atoms) _ (asks bools other phase n 0 (there + branch_size branch) branch.atoms) _
      (asks_alike phase n 0 (at + branch_size branch) (there + branch_size branch) branch.atoms)
      (both (writes bools phase n 0 branch.updates) _ (writes bools phase n 0 branch.updates) _ refl refl))
      (branches_alike phase (n + 1) (at + branch_size branch) (there + branch_size branch) done end others)

  checked_alike : (at there : ℕ) (clause : Clause) (xs ys : List Item) → Alike xs ys
      → Alike (checked bools base at clause xs) (checked bools other there clause ys)
  checked_alike at there clause xs ys e =
      both (check bools base at clause) _ (check bools other there clause) _
      (branches_alike clause.phase 0 at there (at + branches_size clause.branches) (there + branches_size clause.branches) clause.branches)
      (reached (lets_pass (Some clause)) xs ys e)

  released_alike : (at there : ℕ) (clause : Clause) (xs ys : List Item) → Alike xs ys
      → Alike (released bools base at clause xs) (released bools other there clause ys)
  released_alike at there clause xs ys e =
      both (lock clause.phase) _ (lock clause.phase) _ refl
      (checked_alike (at + 2) (there + 2) clause (unlock clause.phase true ++ xs) (unlock clause.phase true ++ ys)
      (both (unlock clause.phase true) xs (unlock clause.phase true) ys refl e))

  front_alike : (mode : Mode) (o : Option Clause) → Alike (front mode bools base o) (front mode bools other o)
  front_alike Release None = refl
  front_alike Hold None = refl
  front_alike Release (Some clause) =
      both (save base 0 clause.args) _ (save other 0 clause.args) _ (save_alike 0 clause.args)
      (released_alike (length clause.args) (length clause.args) clause (loads false base 0 clause.args) (loads false other 0 clause.args)
      (loads_alike false 0 clause.args))
  front_alike Hold (Some clause) =
      both (save base 0 clause.args) _ (save other 0 clause.args) _ (save_alike 0 clause.args)
      (both (lock Before) _ (lock Before) _ refl
      (checked_alike (length clause.args + 2) (length clause.args + 2) clause (loads true base 0 clause.args) (loads true other 0 clause.args)
      (loads_alike true 0 clause.args)))

  give_alike : (o : Option Kind) → Alike (give base o) (give other o)
  give_alike None = refl
  give_alike (Some kind) = refl

  keep_alike : (locked : Bool) (o : Option Kind) → Alike (keep locked base o) (keep locked other o)
  keep_alike locked None = refl
  keep_alike locked (Some kind) = refl

  after_alike : (mode : Mode) (at there : ℕ) (o : Option Clause) → Alike (following mode bools base at o) (following mode bools other there o)
  after_alike Release at there None = refl
  after_alike Hold at there None = refl
  after_alike Release at there (Some clause) =
      both (keep false base clause.result) _ (keep false other clause.result) _ (keep_alike false clause.result)
      (released_alike _ _ clause (give base clause.result) (give other clause.result) (give_alike clause.result))
  after_alike Hold at there (Some clause) =
      both (keep true base clause.result) _ (keep true other clause.result) _ (keep_alike true clause.result)
      (checked_alike _ _ clause (unlock After true ++ give base clause.result) (unlock After true ++ give other clause.result)
      (both (unlock After true) (give base clause.result) (unlock After true) (give other clause.result) refl (give_alike clause.result)))

  handler_alike : (mode : Mode) (at there : ℕ) (o : Option Clause) → Alike (handler mode bools base at o) (handler mode bools other there o)
  handler_alike Release at there None = refl
  handler_alike Hold at there None = refl
  handler_alike Release at there (Some clause) = released_alike at there clause rethrow rethrow refl
  handler_alike Hold at there (Some clause) =
      checked_alike at there clause (unlock Exceptional true ++ rethrow) (unlock Exceptional true ++ rethrow) refl

  module _ (mode : Mode) (clauses : Clauses) where
    with_alike : (at there : ℕ) → Alike (with_handler mode bools base at clauses) (with_handler mode bools other there clauses)
    with_alike at there =
        let here = leave (at + length (handler mode bools base at clauses.exceptional)) ∷ [] in
        let elsewhere = leave (there + length (handler mode bools other there clauses.exceptional)) ∷ [] in
        both (if_reached (lets_pass clauses.after) here) (handler mode bools base at clauses.exceptional)
        (if_reached (lets_pass clauses.after) elsewhere) (handler mode bools other there clauses.exceptional)
        (reached (lets_pass clauses.after) here elsewhere refl)
        (handler_alike mode at there clauses.exceptional)

    caught_alike : (at there : ℕ) (b : Bool)
        → Alike (cond b (with_handler mode bools base (at + 1) clauses) []) (cond b (with_handler mode bools other (there + 1) clauses) [])
    caught_alike at there true = with_alike (at + 1) (there + 1)
    caught_alike at there false = refl

    from_alike : (at there : ℕ) → Alike (from_call mode bools base at clauses) (from_call mode bools other there clauses)
    from_alike at there =
        both (called mode bools base at clauses) (caught mode bools base (at + length (called mode bools base at clauses)) clauses)
        (called mode bools other there clauses) (caught mode bools other (there + length (called mode bools other there clauses)) clauses)
        (ap (λ (rs : List Role). (call mode).role ∷ rs) (after_alike mode (at + 1) (there + 1) clauses.after))
        (caught_alike (at + length (called mode bools base at clauses)) (there + length (called mode bools other there clauses))
        (catches mode clauses.exceptional))

    items_alike : Alike (items mode bools base clauses) (items mode bools other clauses)
    items_alike =
        let at : ℕ = length (front mode bools base clauses.before) in
        let there : ℕ = length (front mode bools other clauses.before) in
        both (front mode bools base clauses.before) (if_reached (lets_pass clauses.before) (from_call mode bools base at clauses))
        (front mode bools other clauses.before) (if_reached (lets_pass clauses.before) (from_call mode bools other there clauses))
        (front_alike mode clauses.before)
        (reached (lets_pass clauses.before) (from_call mode bools base at clauses) (from_call mode bools other there clauses) (from_alike at there))

told_by : {X : Type 0} (f : Role → X) (xs : List Item) → map (λ (i : Item). f i.role) xs ≡ map f (roles_in xs)
told_by f [] = refl
told_by {X = X} f (x ∷ xs) = ap (λ (rest : List X). f x.role ∷ rest) (told_by f xs)

-- So what is told of roles alone is told alike of the blocks of a method, wherever their locals begin.
pub told_alike : {X : Type 0} (f : Role → X) (policy : Policy) (mode : Mode) (base other method : ℕ)
    → map (λ (i : Item). f i.role) (items mode (bools_of policy) base (clauses_of policy method))
    ≡ map (λ (i : Item). f i.role) (items mode (bools_of policy) other (clauses_of policy method))
told_alike f policy mode base other method =
    told_by f (items mode (bools_of policy) base (clauses_of policy method))
    ∙ ap (map f) (items_alike (bools_of policy) base other mode (clauses_of policy method))
    ∙ sym (told_by f (items mode (bools_of policy) other (clauses_of policy method)))

-- They are as long.
pub long_alike : (policy : Policy) (mode : Mode) (base other method : ℕ)
    → length (items mode (bools_of policy) base (clauses_of policy method)) ≡ length (items mode (bools_of policy) other (clauses_of policy method))
long_alike policy mode base other method =
    sym (length-map (items mode (bools_of policy) base (clauses_of policy method)) (λ (i : Item). i.role))
    ∙ ap length (items_alike (bools_of policy) base other mode (clauses_of policy method))
    ∙ length-map (items mode (bools_of policy) other (clauses_of policy method)) (λ (i : Item). i.role)

-- ---- where parts stand

part_alike : (policy : Policy) (mode : Mode) (base other : ℕ) (ref : Target)
    → length (part_of (site policy mode base ref)) ≡ length (part_of (site policy mode other ref))
part_alike policy mode base other (target.ApiMethod method) = by (has_clauses policy method)
  where
    by : (b : Bool) → length (part_of (cond b (Some (block_with mode (bools_of policy) base (clauses_of policy method))) None))
        ≡ length (part_of (cond b (Some (block_with mode (bools_of policy) other (clauses_of policy method))) None))
    by true =
        length-map (items mode (bools_of policy) base (clauses_of policy method)) (λ (i : Item). i.insn)
        ∙ long_alike policy mode base other method
        ∙ sym (length-map (items mode (bools_of policy) other (clauses_of policy method)) (λ (i : Item). i.insn))
    by false = refl
part_alike policy mode base other ref = refl

fronts_alike_from : (policy : Policy) (mode : Mode) (base other at : ℕ) (refs : List Target)
    → fronts_from at (map (site policy mode base) refs) ≡ fronts_from at (map (site policy mode other) refs)
fronts_alike_from policy mode base other at [] = refl
fronts_alike_from policy mode base other at (ref ∷ refs) =
    ap (λ (n : ℕ). at ∷ fronts_from (at + n) (map (site policy mode base) refs)) (part_alike policy mode base other ref)
    ∙ ap (λ (fronts : List ℕ). at ∷ fronts) (fronts_alike_from policy mode base other (at + length (part_of (site policy mode other ref))) refs)

-- The fronts of parts are the same.
pub fronts_alike : (policy : Policy) (mode : Mode) (base other : ℕ) (refs : List Target)
    → fronts_of (map ((plan_of policy mode).block base) refs) ≡ fronts_of (map ((plan_of policy mode).block other) refs)
fronts_alike policy mode base other refs = fronts_alike_from policy mode base other 0 refs

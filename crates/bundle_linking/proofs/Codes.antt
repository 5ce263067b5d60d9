-- What the operands of the codes of a generated bundle name.
use Rattle.std.proofs.Common.{◌≡◌, ℕ, zero, suc, ◌+◌, ◌/◌, ◌%◌, ◌<◌, ◌≤◌, pos, Bool, true, false, cond, List, [], ◌∷◌, ◌++◌, Ok, refl, sym, ap, subst, append_assoc, arith}
use Rattle.std.specs.Prelude.{◌==◌}
use Rattle.class_codec.specs.declared.tree.ClassFile.{ClassFile}
use Rattle.class_codec.specs.declared.tree.Const.{Const}
use Rattle.insn_codec.specs.declared.insn.Insn.{Insn}
use Rattle.insn_codec.specs.declared.insn.Insn.TheVariants.{Plain, Short, Pool}
use Rattle.insn_codec.specs.declared.opcodes.TheConstants.{INVOKESTATIC, POP, RETURN}
use Rattle.bytecode_model.specs.declared.program.Target.{Target}
use Rattle.bytecode_model.specs.declared.program.Target.TheVariants as target
use Rattle.class_linking.specs.Fault.{linked_from}
use Rattle.class_linking.specs.Operands.{operand_at, told_at}
use Rattle.bundle_gen.specs.Draws.{draw, next_state}
use Rattle.bundle_gen.specs.Generated.{begun_from, files_of, init_code, main_code, run_code, site, sites_from, thread_begun}
use Rattle.bundle_gen.specs.Linked.{begun_refs, begun_refs_from, init_refs, main_refs, net_listing, refs_from, run_refs, site_refs}
use Rattle.bundle_linking.proofs.Lists.{linked_more}
use Rattle.bundle_linking.proofs.Operands.{IsNamed, calls_maker, main_pool, makes, plain, reads, sends, short, starts, super_init, thread_pool}

-- The instructions name these, wherever they stand.
pub record AreNamed (files : List ClassFile) (pool : List Const) (insns : List Insn) (refs : List Target) : Type 0 where
  pub are : (class : List ℕ) (method at : ℕ) → linked_from (operand_at files net_listing class pool method) at insns ≡ Ok refs

-- one instruction more
more : {files : List ClassFile} {pool : List Const} {insn : Insn} {found : Target} {insns : List Insn} {refs : List Target}
    → IsNamed files pool insn found → AreNamed files pool insns refs → AreNamed files pool (insn ∷ insns) (found ∷ refs)
more {files} {pool} {insn} {found} {insns} {refs} first others = record {
  are = λ class method at.
      linked_more (operand_at files net_listing class pool method) at insn insns found refs (ap (told_at class method at) first.is) (others.are class method (at + 1));
}

-- the last one
returns : {files : List ClassFile} {pool : List Const} → AreNamed files pool (Plain RETURN ∷ []) (target.None ∷ [])
returns = more plain (record { are = λ class method at. refl })

-- Lists that are joined otherwise are the same.
regrouped : {files : List ClassFile} {pool : List Const} (xs ys zs : List Insn) (first second third : List Target)
    → AreNamed files pool (xs ++ (ys ++ zs)) (first ++ (second ++ third)) → AreNamed files pool ((xs ++ ys) ++ zs) ((first ++ second) ++ third)
regrouped {files} {pool} xs ys zs first second third h =
    subst (λ (insns : List Insn). AreNamed files pool insns ((first ++ second) ++ third)) (sym (append_assoc xs ys zs))
    (subst (AreNamed files pool (xs ++ (ys ++ zs))) (sym (append_assoc first second third)) h)

-- in the program with so many threads, from this state on
module _ (state sites n : ℕ) (few : n ≤ 200) where
  -- the operands of `<init>`
  pub init_named : (index : ℕ) → AreNamed (files_of state n sites) (thread_pool index) init_code init_refs
  init_named index = more plain (more (super_init state sites n few index) returns)

  -- a site, before others
  site_named : (index drawn : ℕ) (insns : List Insn) (refs : List Target) → AreNamed (files_of state n sites) (thread_pool index) insns refs
      → AreNamed (files_of state n sites) (thread_pool index) (site drawn ++ insns) (site_refs drawn ++ refs)
  unfolding site site_refs
  site_named index drawn insns refs others = by (drawn % 2 == 0) where
    by : (b : Bool) → AreNamed (files_of state n sites) (thread_pool index)
        (cond b (Short (pos (drawn / 2 % 1000)) ∷ Pool INVOKESTATIC 16 ∷ []) (Pool INVOKESTATIC 20 ∷ Plain POP ∷ []) ++ insns)
        (cond b (target.None ∷ target.ApiMethod 0 ∷ []) (target.ApiMethod 1 ∷ target.None ∷ []) ++ refs)
    by true = more short (more (sends state sites n few index) others)
    by false = more (reads state sites n few index) (more plain others)

  -- those of `run`
  pub run_named : (index from count : ℕ) → AreNamed (files_of state n sites) (thread_pool index) (run_code from count) (run_refs from count)
  unfolding sites_from refs_from
  run_named index from zero = returns
  run_named index from (suc count) =
      let drawn = draw (next_state from) in
      let insns = sites_from (next_state from) count in
      let refs = refs_from (next_state from) count in
      regrouped (site drawn) insns (Plain RETURN ∷ []) (site_refs drawn) refs (target.None ∷ [])
      (site_named index drawn (insns ++ Plain RETURN ∷ []) (refs ++ target.None ∷ []) (run_named index (next_state from) count))

  -- what begins a thread, before others
  begun_named : (i : ℕ) (insns : List Insn) (refs : List Target) → i < n → AreNamed (files_of state n sites) (main_pool n) insns refs
      → AreNamed (files_of state n sites) (main_pool n) (thread_begun i ++ insns) (begun_refs i ++ refs)
  unfolding thread_begun begun_refs
  begun_named i insns refs less others =
      more (makes state sites n few i less) (more plain (more (calls_maker state sites n few i less) (more (starts state sites n few i less) others)))

  -- those of what begins so many threads, the first of this index
  each_begun : (i count : ℕ) → i + count ≤ n
      → AreNamed (files_of state n sites) (main_pool n) (begun_from i count ++ Plain RETURN ∷ []) (begun_refs_from i count ++ target.None ∷ [])
  unfolding begun_from begun_refs_from
  each_begun i zero within = returns
  each_begun i (suc count) within =
      let insns = begun_from (i + 1) count in
      let refs = begun_refs_from (i + 1) count in
      regrouped (thread_begun i) insns (Plain RETURN ∷ []) (begun_refs i) refs (target.None ∷ [])
      (begun_named i (insns ++ Plain RETURN ∷ []) (refs ++ target.None ∷ []) (omega arith) (each_begun (i + 1) count (omega arith)))

  -- those of `main`
  pub main_named : AreNamed (files_of state n sites) (main_pool n) (main_code n) (main_refs n)
  main_named = each_begun 0 n (omega arith)

-- What the operands of a generated bundle's instructions name.
use Rattle.std.proofs.Common.{◌≡◌, ℕ, zero, suc, ◌+◌, ◌<◌, ◌≤◌, ℤ, Bool, true, false, List, ◌++◌, length, Option, Some, Ok, refl, sym, ap, subst, ◌∙◌, append_assoc, inl, inr, arith}
use Rattle.std.specs.Prelude.{bytes_eq, codes, if◌then◌else◌, is_ok, ok_or, slice_get, Err}
use Rattle.std.specs.Bool.{beq}
use Rattle.std.proofs.lemmas.Bool.{cases_lt}
use Rattle.std.proofs.lemmas.List.{length-append}
use Rattle.mon_base.specs.Reading.{◌>>=◌}
use Rattle.mon_base.specs.declared.method.MethodId.{MethodId}
use Rattle.class_codec.specs.declared.tree.ClassFile.{ClassFile}
use Rattle.class_codec.specs.declared.tree.Const.{Const}
use Rattle.class_codec.specs.declared.tree.Const.TheVariants as constants
use Rattle.class_codec.specs.Pool.{class_name_at, name_and_type_at, utf8_at}
use Rattle.insn_codec.specs.declared.insn.Insn.{Insn}
use Rattle.insn_codec.specs.declared.insn.Insn.TheVariants.{Plain, Short, Pool}
use Rattle.insn_codec.specs.declared.opcodes.TheConstants.{INVOKESPECIAL, INVOKESTATIC, INVOKEVIRTUAL, NEW}
use Rattle.api_listing.specs.declared.types.ListedClass.{ListedClass}
use Rattle.api_listing.specs.BuiltIn.{thread}
use Rattle.api_listing.specs.Descriptor.{after_first, arguments_at, element_at, method_type, result_of, type_at, whole_type}
use Rattle.bytecode_model.specs.declared.members.Found.{Found}
use Rattle.bytecode_model.specs.declared.operand.Use.{Use}
use Rattle.bytecode_model.specs.declared.operand.Use.TheVariants as uses
use Rattle.bytecode_model.specs.declared.program.Target.{Target}
use Rattle.bytecode_model.specs.declared.program.Target.TheVariants as target
use Rattle.bytecode_model.specs.Heads.{maker, takes_nothing, text_at}
use Rattle.bytecode_model.specs.Members.{method_of}
use Rattle.bytecode_model.specs.Operands.{id_at, known_in}
use Rattle.class_linking.specs.declared.operand_fault.OperandFault.TheVariants as operand
use Rattle.class_linking.specs.Operands.{call_linked, class_linked, operand_linked, used, used_at}
use Rattle.bundle_gen.specs.Generated.{constants_place, files_of, library, main_own, named, named_from, thread_name, thread_own}
use Rattle.bundle_gen.specs.Linked.{net_listing}
use Rattle.bundle_linking.proofs.Heads.{thread_head}
use Rattle.bundle_linking.proofs.Sizes.{four_named}
use Rattle.bundle_linking.proofs.Lists.{found_any, get_behind}
use Rattle.bundle_linking.proofs.LookUps.{id, init_is, known_classes, own, read_is, send_is, start_is, super_init_is, thread_is}

-- ---- calls

-- A method that is found, and is called as it is.
call_is : (files : List ClassFile) (static : Bool) (q : MethodId) (found : Found) → is_ok (method_type q.desc) ≡ true → method_of files net_listing q ≡ Some found → beq found.is_static static ≡ true
    → call_linked files net_listing static q ≡ Ok found.target
call_is files static q found described is fits = rw (described, is, fits) refl

-- `()V` is a descriptor.
takes_nothing_is : is_ok (method_type takes_nothing) ≡ true
unfolding method_type after_first arguments_at result_of
takes_nothing_is = refl

-- So is `(I)V`.
takes_int_is : is_ok (method_type (codes "(I)V")) ≡ true
unfolding method_type after_first arguments_at result_of type_at element_at
takes_int_is = refl

-- So is `()I`.
gives_int_is : is_ok (method_type (codes "()I")) ≡ true
unfolding method_type after_first arguments_at result_of whole_type type_at element_at
gives_int_is = refl

-- ---- the constants of the threads' classes

-- The reference to `<init>` of Thread.
init_id : (index : ℕ) → id_at (thread_own index ++ library) 4 7 ≡ id thread maker takes_nothing
unfolding class_name_at utf8_at name_and_type_at
init_id index = refl

-- The reference to `send`.
send_id : (index : ℕ) → id_at (thread_own index ++ library) 12 15 ≡ id (codes "api/Net") (codes "send") (codes "(I)V")
unfolding class_name_at utf8_at name_and_type_at
send_id index = refl

-- The reference to `read`.
read_id : (index : ℕ) → id_at (thread_own index ++ library) 12 19 ≡ id (codes "api/Net") (codes "read") (codes "()I")
unfolding class_name_at utf8_at name_and_type_at
read_id index = refl

-- ---- the constants of the main class

-- The pool has the constants for the class of this index at their places.
record HasThread (pool : List Const) (index : ℕ) : Type 0 where
  name : slice_get pool (constants_place index) ≡ Some (constants.Utf8 (thread_name index))
  class : slice_get pool (constants_place index + 1) ≡ Some (constants.Class (constants_place index))
  maker : slice_get pool (constants_place index + 2) ≡ Some (constants.Method (constants_place index + 1) 10)
  start : slice_get pool (constants_place index + 3) ≡ Some (constants.Method (constants_place index + 1) 12)

-- They stand at their places.
stands : (front rest : List Const) (index : ℕ) → length front ≡ constants_place index → HasThread (front ++ (named index ++ rest)) index
unfolding named
stands front rest index e =
    let at : (k : ℕ) → slice_get (front ++ (named index ++ rest)) (constants_place index + k) ≡ slice_get (named index ++ rest) k =
    λ k. ap (λ (n : ℕ). slice_get (front ++ (named index ++ rest)) (n + k)) (sym e) ∙ get_behind front (named index ++ rest) k in
    let first : constants_place index ≡ constants_place index + 0 = omega arith in
    record { name = ap (slice_get (front ++ (named index ++ rest))) first ∙ at 0; class = at 1; maker = at 2; start = at 3 }

-- So do those of each thread from this index on.
each_stands : (front : List Const) (index n i : ℕ) → length front ≡ constants_place index → index ≤ i → i < index + n → HasThread (front ++ named_from index n) i
unfolding named_from
each_stands front index zero i e low high = absurd (omega arith)
each_stands front index (suc n) i e low high =
    elim (cases_lt index i) [
      | inl less ↦
          let count : length (front ++ named index) ≡ constants_place (index + 1) = omega (arith, length-append front (named index), four_named index, e) in
          subst (λ (pool : List Const). HasThread pool i) (append_assoc front (named index) (named_from (index + 1) n))
          (each_stands (front ++ named index) (index + 1) n i count (omega arith) (omega arith))
      | inr same ↦
          let is : index ≡ i = omega arith in
          subst (HasThread (front ++ named_from index (suc n))) is (stands front (named_from (index + 1) n) index e)
    ]

-- those of the main class
thread_stands : (n i : ℕ) → i < n → HasThread (main_own ++ named_from 0 n) i
thread_stands n i less = each_stands main_own 0 n i refl (omega arith) (omega arith)

module _ (rest : List Const) (index : ℕ) (has : HasThread (main_own ++ rest) index) where
  -- The name stands at its place.
  thread_text : text_at (main_own ++ rest) (constants_place index) ≡ thread_name index
  unfolding utf8_at
  thread_text = rw has.name refl

  -- The reference to its `<init>`.
  maker_id : id_at (main_own ++ rest) (constants_place index + 1) 10 ≡ id (thread_name index) maker takes_nothing
  unfolding class_name_at utf8_at name_and_type_at
  maker_id = rw (has.class, has.name) refl

  -- The reference to its `start`.
  start_id : id_at (main_own ++ rest) (constants_place index + 1) 12 ≡ id (thread_name index) (codes "start") takes_nothing
  unfolding class_name_at utf8_at name_and_type_at
  start_id = rw (has.class, has.name) refl

-- ---- operands

-- The instruction names that, in code of a class of these files with this constant pool.
pub record IsNamed (files : List ClassFile) (pool : List Const) (insn : Insn) (found : Target) : Type 0 where
  pub is : operand_linked files net_listing pool insn ≡ Ok found

-- the constants of a thread's class
abbrev pub thread_pool : ℕ → List Const
thread_pool index = thread_own index ++ library

-- those of the main class
abbrev pub main_pool : ℕ → List Const
main_pool classes = main_own ++ named_from 0 classes

-- those that name nothing
pub plain : {files : List ClassFile} {pool : List Const} {op : ℕ} → IsNamed files pool (Plain op) target.None
plain = record { is = refl }

-- So does a number.
pub short : {files : List ClassFile} {pool : List Const} {by : ℤ} → IsNamed files pool (Short by) target.None
short = record { is = refl }

-- in the program with so many threads, from this state on
module _ (state sites n : ℕ) (few : n ≤ 200) where
  -- The call of `<init>` of Thread.
  pub super_init : (index : ℕ) → IsNamed (files_of state n sites) (thread_pool index) (Pool INVOKESPECIAL 8) (target.Builtin 1)
  super_init index = record {
    is = ap (call_linked (files_of state n sites) net_listing false) (init_id index)
        ∙ call_is (files_of state n sites) false (id thread maker takes_nothing) (record { target = target.Builtin 1; is_static = false }) takes_nothing_is (super_init_is state sites n few) refl;
  }

  -- The call of `send`.
  pub sends : (index : ℕ) → IsNamed (files_of state n sites) (thread_pool index) (Pool INVOKESTATIC 16) (target.ApiMethod 0)
  sends index = record {
    is = ap (call_linked (files_of state n sites) net_listing true) (send_id index)
        ∙ call_is (files_of state n sites) true (id (codes "api/Net") (codes "send") (codes "(I)V")) (record { target = target.ApiMethod 0; is_static = true }) takes_int_is (send_is state sites n few) refl;
  }

  -- The call of `read`.
  pub reads : (index : ℕ) → IsNamed (files_of state n sites) (thread_pool index) (Pool INVOKESTATIC 20) (target.ApiMethod 1)
  reads index = record {
    is = ap (call_linked (files_of state n sites) net_listing true) (read_id index)
        ∙ call_is (files_of state n sites) true (id (codes "api/Net") (codes "read") (codes "()I")) (record { target = target.ApiMethod 1; is_static = true }) gives_int_is (read_is state sites n few) refl;
  }

  -- what the constant of a place names, if it is known
  at_place : (how : Use) (place : ℕ) (c : Const) → slice_get (main_pool n) place ≡ Some c
      → used_at (files_of state n sites) net_listing (main_pool n) how place ≡ used (files_of state n sites) net_listing (main_pool n) how c
  at_place how place c e = ap (λ (o : Option Const). ok_or o operand.Wrong >>= used (files_of state n sites) net_listing (main_pool n) how) e

  -- The class of a thread is known.
  thread_known : (i : ℕ) → i < n → known_in (files_of state n sites) net_listing (thread_name i) ≡ true
  thread_known i less =
      found_any (λ (c : ListedClass). bytes_eq c.name (thread_name i)) (known_classes (files_of state n sites)) (thread_head i) (thread_is state sites n few i less)

  -- What makes a thread of such a class.
  pub makes : (i : ℕ) → i < n → IsNamed (files_of state n sites) (main_pool n) (Pool NEW (constants_place i + 1)) (target.ClassName (thread_name i))
  makes i less =
      let has = thread_stands n i less in
      record {
        is = at_place uses.New (constants_place i + 1) (constants.Class (constants_place i)) has.class
            ∙ ap (class_linked false (known_in (files_of state n sites) net_listing)) (thread_text (named_from 0 n) i has)
            ∙ ap (λ (b : Bool). if b then Ok (target.ClassName (thread_name i)) else Err (operand.Missing (thread_name i))) (thread_known i less);
      }

  -- The call of its `<init>`.
  pub calls_maker : (i : ℕ) → i < n → IsNamed (files_of state n sites) (main_pool n) (Pool INVOKESPECIAL (constants_place i + 2)) (target.Method i 0)
  calls_maker i less =
      let has = thread_stands n i less in
      record {
        is = at_place (uses.Call false false) (constants_place i + 2) (constants.Method (constants_place i + 1) 10) has.maker
            ∙ ap (call_linked (files_of state n sites) net_listing false) (maker_id (named_from 0 n) i has)
            ∙ call_is (files_of state n sites) false (id (thread_name i) maker takes_nothing) (own i 0) takes_nothing_is (init_is state sites n few i less) refl;
      }

  -- The call of its `start`.
  pub starts : (i : ℕ) → i < n → IsNamed (files_of state n sites) (main_pool n) (Pool INVOKEVIRTUAL (constants_place i + 3)) (target.Builtin 3)
  starts i less =
      let has = thread_stands n i less in
      record {
        is = at_place (uses.Call false false) (constants_place i + 3) (constants.Method (constants_place i + 1) 12) has.start
            ∙ ap (call_linked (files_of state n sites) net_listing false) (start_id (named_from 0 n) i has)
            ∙ call_is (files_of state n sites) false (id (thread_name i) (codes "start") takes_nothing) (record { target = target.Builtin 3; is_static = false }) takes_nothing_is (start_is state sites n few i less) refl;
      }

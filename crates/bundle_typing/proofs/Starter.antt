-- The method `main` of the class that begins the threads can be typed.
use Rattle.std.proofs.Common.{◌≡◌, ℕ, zero, suc, ◌+◌, ◌*◌, ◌<◌, ◌++◌, List, [], ◌∷◌, length, Some, refl, sym, subst, ◌∙◌, arith}
use Rattle.std.specs.Prelude.{codes, slice_get}
use Rattle.class_codec.specs.declared.tree.Const.{Const}
use Rattle.class_codec.specs.declared.tree.Const.TheVariants as constants
use Rattle.class_codec.specs.Pool.{class_name_at, name_and_type_at, reference_at, utf8_at}
use Rattle.insn_codec.specs.declared.insn.Insn.{Insn}
use Rattle.insn_codec.specs.declared.insn.Insn.TheVariants.{Plain, Pool}
use Rattle.insn_codec.specs.declared.opcodes.TheConstants.{INVOKEVIRTUAL, NEW, RETURN}
use Rattle.bundle_gen.specs.Generated.{begun_from, constants_place, main_class, main_own, named, named_from, thread_begun, thread_name}
use Rattle.bytecode_model.specs.declared.program.Program.{Program}
use Rattle.bytecode_model.specs.declared.program.Target.TheVariants as target
use Rattle.bytecode_model.specs.Makes.{new_at}
use Rattle.bytecode_model.specs.Rules.{Frames, frame_of}
use Rattle.bundle_gen.specs.Linked.{begun_refs, begun_refs_from, linked_main, linked_starter}
use Rattle.bundle_typing.specs.Laws.{CanBeMet}
use Rattle.bundle_typing.proofs.Blocks.{block_at, get_past, get_still}
use Rattle.bundle_typing.proofs.Rows.{dup_met, empty, id_of, main_left_met, make_met, new_met, one_made, one_unmade, start_met, two_unmade}
use Rattle.bundle_typing.proofs.Walking.{AreMetFrom, IsMet, are_met}

-- ---- what the constants tell

-- Each class has four constants.
named_four : (index : ℕ) → length (named index) ≡ 4
unfolding named
named_four index = refl

-- Those of the first stand first.
named_first : (index n : ℕ) → named_from index (suc n) ≡ named index ++ named_from (index + 1) n
unfolding named_from
named_first index n = refl

-- the k-th constant for the class of an index
constant_at : (classes index k at : ℕ) (constant : Const) → index < classes → at ≡ constants_place index + k → slice_get (named index) k ≡ Some constant
    → slice_get (main_own ++ named_from 0 classes) at ≡ Some constant
constant_at classes index k at constant within e h =
    get_past main_own (named_from 0 classes) (4 * index + k) at (omega arith)
    ∙ block_at named named_from named_four named_first classes index k (4 * index + k) constant within refl h

-- The second is the class.
class_told : (classes index : ℕ) → index < classes → class_name_at (main_own ++ named_from 0 classes) (constants_place index + 1) ≡ Some (thread_name index)
unfolding class_name_at named utf8_at
class_told classes index within =
    let name = constant_at classes index 0 (constants_place index) (constants.Utf8 (thread_name index)) within (omega arith) refl in
    let class = constant_at classes index 1 (constants_place index + 1) (constants.Class (constants_place index)) within refl refl in
    rw (class, name) refl

-- The third is its constructor.
init_told : (classes index : ℕ) → index < classes → reference_at (main_own ++ named_from 0 classes) (constants_place index + 2) ≡ Some (id_of (thread_name index) (codes "<init>") (codes "()V"))
unfolding name_and_type_at named reference_at utf8_at
init_told classes index within =
    let class = class_told classes index within in
    let here = constant_at classes index 2 (constants_place index + 2) (constants.Method (constants_place index + 1) 10) within refl refl in
    rw (here, class) refl

-- The fourth is its `start`.
start_told : (classes index : ℕ) → index < classes → reference_at (main_own ++ named_from 0 classes) (constants_place index + 3) ≡ Some (id_of (thread_name index) (codes "start") (codes "()V"))
unfolding name_and_type_at named reference_at utf8_at
start_told classes index within =
    let class = class_told classes index within in
    let here = constant_at classes index 3 (constants_place index + 3) (constants.Method (constants_place index + 1) 12) within refl refl in
    rw (here, class) refl

-- ---- what is made

-- Each class has four instructions,
begun_four : (index : ℕ) → length (thread_begun index) ≡ 4
unfolding thread_begun
begun_four index = refl

-- of which those of the first stand first,
begun_first : (index n : ℕ) → begun_from index (suc n) ≡ thread_begun index ++ begun_from (index + 1) n
unfolding begun_from
begun_first index n = refl

-- and what their operands name:
refs_four : (index : ℕ) → length (begun_refs index) ≡ 4
unfolding begun_refs
refs_four index = refl

-- that of the first stands first, too.
refs_first : (index n : ℕ) → begun_refs_from index (suc n) ≡ begun_refs index ++ begun_refs_from (index + 1) n
unfolding begun_refs_from
refs_first index n = refl

-- The first instruction for a class makes an object of it.
made_told : (classes index at : ℕ) → index < classes → at ≡ 4 * index → new_at (linked_main classes) at ≡ thread_name index
unfolding begun_refs thread_begun
made_told classes index at within e =
    let insn = get_still (begun_from 0 classes) (Plain RETURN ∷ []) at (Pool NEW (constants_place index + 1))
    (block_at thread_begun begun_from begun_four begun_first classes index 0 at (Pool NEW (constants_place index + 1)) within (omega arith) refl) in
    let ref = get_still (begun_refs_from 0 classes) (target.None ∷ []) at (target.ClassName (thread_name index))
    (block_at begun_refs begun_refs_from refs_four refs_first classes index 0 at (target.ClassName (thread_name index)) within (omega arith) refl) in
    rw (insn, ref) refl

-- ---- the frames

-- those from the class of this index on, whose first instruction has this place
main_frames : ℕ → ℕ → ℕ → Frames
main_frames at index zero = Some empty ∷ []
main_frames at index (suc n) =
    Some empty
    ∷ Some (one_unmade at)
    ∷ Some (two_unmade at)
    ∷ Some (one_made (thread_name index))
    ∷ main_frames (suc (suc (suc (suc at)))) (index + 1) n

-- The first frame is empty.
first_frame : (at index n : ℕ) → frame_of (main_frames at index n) 0 ≡ Some empty
unfolding main_frames
first_frame at index zero = refl
first_frame at index (suc n) = refl

module _ (program : Program) (own classes : ℕ) where
  -- the four instructions for a class, and what follows
  begun_met : (at index : ℕ) (more : List Insn) (frames : Frames) → index < classes → at ≡ 4 * index → frame_of frames 0 ≡ Some empty
      → AreMetFrom program own (linked_starter classes) (linked_main classes) (suc (suc (suc (suc at)))) (more ++ Plain RETURN ∷ []) frames
      → AreMetFrom program own (linked_starter classes) (linked_main classes) at ((thread_begun index ++ more) ++ Plain RETURN ∷ [])
      (Some empty ∷ Some (one_unmade at) ∷ Some (two_unmade at) ∷ Some (one_made (thread_name index)) ∷ frames)
  unfolding linked_starter main_class thread_begun
  begun_met at index more frames within e next rest =
      let class = linked_starter classes in
      let start = start_met program own class classes (suc (suc at)) (constants_place index + 3) (thread_name index) (start_told classes index within) in (
        new_met program own class classes at (constants_place index + 1),
        (
          dup_met program own class classes at at,
          (
            make_met program own class classes (suc at) at (constants_place index + 2) (thread_name index) (init_told classes index within) (made_told classes index at within e),
            (subst (IsMet program own class (linked_main classes) (suc (suc (suc at))) (Pool INVOKEVIRTUAL (constants_place index + 3)) (one_made (thread_name index))) (sym next) start, rest),
          ),
        ),
      )

  -- those for the classes from this index on
  all_begun_met : (n at index : ℕ) → index + n ≡ classes → at ≡ 4 * index
      → AreMetFrom program own (linked_starter classes) (linked_main classes) at (begun_from index n ++ Plain RETURN ∷ []) (main_frames at index n)
  unfolding begun_from main_frames
  all_begun_met zero at index count e = (main_left_met program own (linked_starter classes) classes at, tt)
  all_begun_met (suc n) at index count e =
      let next = suc (suc (suc (suc at))) in
      begun_met at index (begun_from (index + 1) n) (main_frames next (index + 1) n) (omega arith) e (first_frame next (index + 1) n)
      (all_begun_met n next (index + 1) (omega arith) (omega arith))

  -- `main` can be typed.
  pub main_can : CanBeMet program own (linked_starter classes) (linked_main classes) (length (linked_main classes).insns)
  main_can = (
    main_frames 0 0 classes,
    are_met program own (linked_starter classes) (linked_main classes) (main_frames 0 0 classes) (all_begun_met classes 0 0 (omega arith) refl),
  )

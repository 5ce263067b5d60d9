-- The instructions of generated methods meet the rules, each with its own frame and the next.
use Rattle.std.proofs.Common.{◌≡◌, ℕ, ℤ, suc, List, [], ◌∷◌, Some, refl}
use Rattle.std.specs.Prelude.{bytes_eq, codes, true, None}
use Rattle.std.proofs.Math.Bool.{and-false}
use Rattle.std.proofs.Math.Dec.{eqb, eqb-suc-zero}
use Rattle.std.proofs.lemmas.Bool.{eq-eqb}
use Rattle.std.proofs.lemmas.Slice.Eq.{bytes_eq-Decides}
use Rattle.cert_format.specs.declared.typing.FrameType.{FrameType}
use Rattle.cert_format.specs.declared.typing.VType.{VType}
use Rattle.cert_format.specs.declared.typing.VType.TheVariants as types
use Rattle.class_codec.specs.Pool.{reference_at}
use Rattle.insn_codec.specs.declared.insn.Insn.TheVariants.{Plain, Short, Pool}
use Rattle.insn_codec.specs.declared.opcodes.TheConstants.{DUP, INVOKESPECIAL, INVOKESTATIC, INVOKEVIRTUAL, NEW, POP, RETURN}
use Rattle.insn_codec.specs.Opcodes.{opcode_at}
use Rattle.mon_base.specs.declared.method.MethodId.{MethodId}
use Rattle.bytecode_model.specs.declared.program.LinkedClass.{LinkedClass}
use Rattle.bytecode_model.specs.declared.program.Program.{Program}
use Rattle.bytecode_model.specs.Described.{types_at}
use Rattle.bytecode_model.specs.Makes.{new_at}
use Rattle.bundle_gen.specs.Linked.{linked_main, linked_run}
use Rattle.bundle_typing.proofs.Walking.{IsMet}

-- A text is equal to itself.
same_text : (text : List ℕ) → bytes_eq text text ≡ true
same_text text = (bytes_eq-Decides text text).1 refl

-- So is a number.
same_number : (n : ℕ) → eqb n n ≡ true
same_number n = eq-eqb n n refl

-- ---- frames: no local is asked for

-- with these operands
abbrev pub frame_with : List VType → FrameType
frame_with stack = record { locals = []; stack = stack }

abbrev pub empty : FrameType
empty = frame_with []

abbrev pub one_number : FrameType
one_number = frame_with (types.Int ∷ [])

-- with what `new` at the place made, before its constructor is called
abbrev pub one_unmade : ℕ → FrameType
one_unmade at = frame_with (types.Uninit at ∷ [])

abbrev pub two_unmade : ℕ → FrameType
two_unmade at = frame_with (types.Uninit at ∷ types.Uninit at ∷ [])

-- with an object of this class
abbrev pub one_made : List ℕ → FrameType
one_made class = frame_with (types.Ref class ∷ [])

-- ---- instructions

-- the method of this class, name and descriptor
abbrev pub id_of : List ℕ → List ℕ → List ℕ → MethodId
id_of class name desc = record { class = class; name = name; desc = desc }

module _ (program : Program) (own : ℕ) (class : LinkedClass) (state sites : ℕ) where
  -- A number is pushed.
  pub push_met : (at : ℕ) (n : ℤ) → IsMet program own class (linked_run state sites) at (Short n) empty (Some one_number)
  unfolding opcode_at types_at
  push_met at n frames there before next = rw (there, before, next, and-false) refl

  -- `send` takes it.
  pub send_met : (at constant : ℕ) → reference_at class.file.pool constant ≡ Some (id_of (codes "api/Net") (codes "send") (codes "(I)V"))
      → IsMet program own class (linked_run state sites) (suc at) (Pool INVOKESTATIC constant) one_number (Some empty)
  unfolding opcode_at types_at
  send_met at constant referred frames there before next = rw (there, before, next, referred, eqb-suc-zero at) refl

  -- `read` gives a number.
  pub read_met : (at constant : ℕ) → reference_at class.file.pool constant ≡ Some (id_of (codes "api/Net") (codes "read") (codes "()I"))
      → IsMet program own class (linked_run state sites) at (Pool INVOKESTATIC constant) empty (Some one_number)
  unfolding opcode_at types_at
  read_met at constant referred frames there before next = rw (there, before, next, referred, and-false) refl

  -- It is dropped.
  pub pop_met : (at : ℕ) → IsMet program own class (linked_run state sites) (suc at) (Plain POP) one_number (Some empty)
  unfolding opcode_at types_at
  pop_met at frames there before next = rw (there, before, next, eqb-suc-zero at) refl

  -- `run` is left.
  pub run_left_met : (at : ℕ) → IsMet program own class (linked_run state sites) at (Plain RETURN) empty None
  unfolding opcode_at types_at
  run_left_met at frames there before next = rw (there, before, and-false) refl

module _ (program : Program) (own : ℕ) (class : LinkedClass) (classes : ℕ) where
  -- `new` gives an object that is not made yet.
  pub new_met : (at constant : ℕ) → IsMet program own class (linked_main classes) at (Pool NEW constant) empty (Some (one_unmade at))
  unfolding opcode_at types_at
  new_met at constant frames there before next = rw (there, before, next, same_number at, and-false) refl

  -- It is pushed once more.
  pub dup_met : (at begin : ℕ) → IsMet program own class (linked_main classes) (suc at) (Plain DUP) (one_unmade begin) (Some (two_unmade begin))
  unfolding opcode_at types_at
  dup_met at begin frames there before next = rw (there, before, next, same_number begin, eqb-suc-zero at) refl

  -- The constructor makes it, where it is that of the class that `new` named.
  pub make_met : (at begin constant : ℕ) (name : List ℕ) → reference_at class.file.pool constant ≡ Some (id_of name (codes "<init>") (codes "()V"))
      → new_at (linked_main classes) begin ≡ name
      → IsMet program own class (linked_main classes) (suc at) (Pool INVOKESPECIAL constant) (two_unmade begin) (Some (one_made name))
  unfolding opcode_at types_at
  make_met at begin constant name referred new frames there before next = simp (there, before, next, referred, new, same_text name, same_number begin, eqb-suc-zero at) refl

  -- `start` takes an object of its own class.
  pub start_met : (at constant : ℕ) (name : List ℕ) → reference_at class.file.pool constant ≡ Some (id_of name (codes "start") (codes "()V"))
      → IsMet program own class (linked_main classes) (suc at) (Pool INVOKEVIRTUAL constant) (one_made name) (Some empty)
  unfolding opcode_at types_at
  start_met at constant name referred frames there before next = simp (there, before, next, referred, same_text name, eqb-suc-zero at) refl

  -- `main` is left.
  pub main_left_met : (at : ℕ) → IsMet program own class (linked_main classes) at (Plain RETURN) empty None
  unfolding opcode_at types_at
  main_left_met at frames there before next = rw (there, before, and-false) refl

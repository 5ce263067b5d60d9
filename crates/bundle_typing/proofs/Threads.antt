-- The methods of the threads can be typed.
use Rattle.std.proofs.Common.{◌≡◌, ℕ, zero, suc, ◌==◌, ◌/◌, ◌%◌, ◌++◌, pos, Bool, true, false, cond, List, [], ◌∷◌, length, Some, refl, sym, subst, arith}
use Rattle.std.specs.Prelude.{codes}
use Rattle.cert_format.specs.declared.typing.VType.TheVariants as types
use Rattle.class_codec.specs.Pool.{class_name_at, name_and_type_at, reference_at, utf8_at}
use Rattle.insn_codec.specs.declared.insn.Insn.{Insn}
use Rattle.insn_codec.specs.declared.insn.Insn.TheVariants.{Plain, Short, Pool}
use Rattle.insn_codec.specs.declared.opcodes.TheConstants.{INVOKESTATIC, POP, RETURN}
use Rattle.insn_codec.specs.Opcodes.{opcode_at}
use Rattle.bundle_gen.specs.Draws.{draw, next_state}
use Rattle.bundle_gen.specs.Generated.{site, sites_from, thread_class}
use Rattle.bytecode_model.specs.declared.program.LinkedClass.{LinkedClass}
use Rattle.bytecode_model.specs.declared.program.Program.{Program}
use Rattle.bytecode_model.specs.Described.{types_at}
use Rattle.bytecode_model.specs.Rules.{Frames, frame_of}
use Rattle.bundle_gen.specs.Linked.{linked_init, linked_run, linked_thread}
use Rattle.bundle_typing.specs.Laws.{AreMet, CanBeMet}
use Rattle.bundle_typing.proofs.Rows.{empty, frame_with, id_of, one_number, pop_met, push_met, read_met, run_left_met, send_met}
use Rattle.bundle_typing.proofs.Walking.{AreMetFrom, IsMet, are_met}

-- ---- <init>

-- The object is loaded, and made by the constructor of its superclass.
abbrev init_frames : Frames
init_frames = Some (record { locals = types.UninitThis ∷ []; stack = [] }) ∷ Some (frame_with (types.UninitThis ∷ [])) ∷ Some empty ∷ []

-- It meets the rules.
init_met : (program : Program) (own index state sites : ℕ) → AreMet program own (linked_thread index state sites) linked_init 3 init_frames
unfolding class_name_at linked_thread name_and_type_at opcode_at reference_at thread_class types_at utf8_at
init_met program own index state sites zero within = refl
init_met program own index state sites (suc zero) within = refl
init_met program own index state sites (suc (suc zero)) within = refl
init_met program own index state sites (suc (suc (suc at))) within = absurd (omega arith)

-- So `<init>` can be typed.
pub init_can : (program : Program) (own index state sites : ℕ) → CanBeMet program own (linked_thread index state sites) linked_init (length linked_init.insns)
init_can program own index state sites = (init_frames, init_met program own index state sites)

-- ---- run

-- Between the two instructions of a site there is a number.
run_frames : ℕ → Frames
run_frames zero = Some empty ∷ []
run_frames (suc n) = Some empty ∷ Some one_number ∷ run_frames n

-- The first frame is empty.
first_frame : (n : ℕ) → frame_of (run_frames n) 0 ≡ Some empty
unfolding run_frames
first_frame zero = refl
first_frame (suc n) = refl

module _ (program : Program) (own : ℕ) (class : LinkedClass) (state sites : ℕ)
    (send : reference_at class.file.pool 16 ≡ Some (id_of (codes "api/Net") (codes "send") (codes "(I)V")))
    (read : reference_at class.file.pool 20 ≡ Some (id_of (codes "api/Net") (codes "read") (codes "()I"))) where
  -- the two instructions of a site, and what follows
  site_met : (at drawn : ℕ) (more : List Insn) (frames : Frames) → frame_of frames 0 ≡ Some empty
      → AreMetFrom program own class (linked_run state sites) (suc (suc at)) (more ++ Plain RETURN ∷ []) frames
      → AreMetFrom program own class (linked_run state sites) at ((site drawn ++ more) ++ Plain RETURN ∷ []) (Some empty ∷ Some one_number ∷ frames)
  unfolding site
  site_met at drawn more frames next rest = by (drawn % 2 == 0) where
    by : (b : Bool)
        → AreMetFrom program own class (linked_run state sites) at ((cond b (Short (pos (drawn / 2 % 1000)) ∷ Pool INVOKESTATIC 16 ∷ []) (Pool INVOKESTATIC 20 ∷ Plain POP ∷ []) ++ more) ++ Plain RETURN ∷ [])
        (Some empty ∷ Some one_number ∷ frames)
    by true = (
      push_met program own class state sites at (pos (drawn / 2 % 1000)),
      (subst (IsMet program own class (linked_run state sites) (suc at) (Pool INVOKESTATIC 16) one_number) (sym next) (send_met program own class state sites at 16 send), rest),
    )
    by false = (
      read_met program own class state sites at 20 read,
      (subst (IsMet program own class (linked_run state sites) (suc at) (Plain POP) one_number) (sym next) (pop_met program own class state sites at), rest),
    )

  -- so many sites, from this state on
  sites_met : (n at before : ℕ) → AreMetFrom program own class (linked_run state sites) at (sites_from before n ++ Plain RETURN ∷ []) (run_frames n)
  unfolding run_frames sites_from
  sites_met zero at before = (run_left_met program own class state sites at, tt)
  sites_met (suc n) at before =
      site_met at (draw (next_state before)) (sites_from (next_state before) n) (run_frames n) (first_frame n) (sites_met n (suc (suc at)) (next_state before))

-- What the constants of a thread's class tell of `send`,
send_told : (index state sites : ℕ) → reference_at (linked_thread index state sites).file.pool 16 ≡ Some (id_of (codes "api/Net") (codes "send") (codes "(I)V"))
unfolding class_name_at linked_thread name_and_type_at reference_at thread_class utf8_at
send_told index state sites = refl

-- and of `read`.
read_told : (index state sites : ℕ) → reference_at (linked_thread index state sites).file.pool 20 ≡ Some (id_of (codes "api/Net") (codes "read") (codes "()I"))
unfolding class_name_at linked_thread name_and_type_at reference_at thread_class utf8_at
read_told index state sites = refl

-- `run` can be typed.
pub run_can : (program : Program) (own index state sites : ℕ) → CanBeMet program own (linked_thread index state sites) (linked_run state sites) (length (linked_run state sites).insns)
run_can program own index state sites =
    let class = linked_thread index state sites in (
      run_frames sites,
      are_met program own class (linked_run state sites) (run_frames sites) (sites_met program own class state sites (send_told index state sites) (read_told index state sites) sites 0 state),
    )

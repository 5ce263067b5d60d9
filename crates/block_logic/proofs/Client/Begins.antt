-- Frames that begin: in the client's code, with no lock in their locals, and with the monitor of another object than the lock.
use Rattle.std.proofs.Common.{◌≡◌, ◌+◌, ◌-◌, Bool, true, false, cond, List, [], ◌∷◌, ◌++◌, length, replicate, Option, Some, None, refl, inl, inr, arith}
use Rattle.std.specs.Prelude.{◌<◌, ◌==◌, IfSome, option_map}
use Rattle.std.specs.Option.{option_map_or, option_to_list}
use Rattle.block_logic.specs.Annotations.{Annotations}
use Rattle.insn_codec.specs.declared.insn.Insn.{Insn}
use Rattle.bytecode_model.specs.declared.program.Method.{Method}
use Rattle.bytecode_model.specs.declared.program.Program.{Program}
use Rattle.bytecode_model.specs.Heads.{is_synchronized}
use Rattle.conspec_automaton.specs.declared.policy.Policy.{Policy}
use Rattle.guest_heap.specs.declared.frame.Frame.{Frame}
use Rattle.guest_heap.specs.declared.value.Value.{Value}
use Rattle.guest_heap.specs.declared.value.Value.TheVariants as values
use Rattle.guest_model.specs.Calling.{begun_thread}
use Rattle.guest_model.specs.Calls.{arity}
use Rattle.guest_model.specs.Changes.{ended_thread, frame_begun, frame_of, lock_of, rests}
use Rattle.guest_model.specs.Finding.{Given}
use Rattle.guest_model.specs.Parts.{main_argument, running}
use Rattle.guest_model.specs.Places.{method_at}
use Rattle.guest_model.proofs.Options.{all_append, all_replicate, there_or}
use Rattle.block_logic.specs.Fitting.{AreBelow, AreClientFrames, ArePassed, IsClient, IsClientFrame}
use Rattle.block_logic.specs.Meaning.{AreClean, IsClean, IsFrame}
use Rattle.block_logic.proofs.Client.Classes.{class_clean}
use Rattle.block_logic.proofs.Client.Frames.{Laws, opens_free}

module _ (program : Program) where
  -- what is there is no lock
  pub clean_list : (value : Option Value) → IfSome value (IsClean program) → AreClean program (option_to_list value)
  clean_list None clean = tt
  clean_list (Some v) clean = (clean, tt)

  -- what a start runs, and what it is run on
  abbrev pub RunsClean : Given × Value → Type 0
  RunsClean run = IsClean program run.1

  module _ (policy : Policy) (annotations : Annotations) where
    pub ended_client : IsClient program policy annotations ended_thread
    ended_client = tt

    module _ (laws : Laws program policy annotations) where
      -- ---- a frame of a method

      module _ (to : Given) (method : Method) (there : method_at program to.0 to.1 ≡ Some method) where
        monitor_clean : (receiver : Option Value) → IfSome receiver (IsClean program)
            → IsClean program (option_map_or (λ (v : Value). v) receiver (values.Class (length program.listing.classes + to.0)))
        monitor_clean None clean = class_clean program policy annotations laws.obeys to.0 to.1 method there
        monitor_clean (Some v) clean = clean

        -- the monitor that it takes
        pub lock_clean : (receiver : Option Value) → IfSome receiver (IsClean program) → IfSome (lock_of program to.0 method receiver) (IsClean program)
        lock_clean receiver clean = by (is_synchronized method.flags) where
          by : (b : Bool)
              → IfSome (cond b (Some (option_map_or (λ (v : Value). v) receiver (values.Class (length program.listing.classes + to.0)))) None) (IsClean program)
          by true = monitor_clean receiver clean
          by false = tt

        module _ (receiver : Option Value) (arguments : List Value) (passed : ArePassed program receiver arguments) where
          abbrev frame : Frame
          frame = frame_of program to method receiver arguments

          begun_frame : IsFrame program frame
          begun_frame =
              let given : List Value = option_to_list receiver ++ arguments in
              record {
                size = rw there refl;
                lock = lock_clean receiver passed.0;
                locals =
                    all_append (IsClean program) given (replicate (method.max_locals - length given) values.Null)
                    (all_append (IsClean program) (option_to_list receiver) arguments (clean_list receiver passed.0) passed.1)
                    (all_replicate (IsClean program) _ values.Null refl);
              }

          begins_free : IsClientFrame program policy annotations frame
          begins_free = by method.insns refl where
            by : (insns : List Insn) → method.insns ≡ insns → IsClientFrame program policy annotations (frame_of program to method receiver arguments)
            by [] e = inl (rw there (rw e refl))
            by (insn ∷ insns) e =
                let some : 0 < length method.insns = rw e (omega arith) in
                let here = laws.begins_open to.0 to.1 method there some in
                inr (here.0, here.1, opens_free program policy annotations (frame_of program to method receiver arguments) here.0 here.2 tt)

          -- it begins in front of frames that wait
          pub begun_frames : (below : List Frame) → AreBelow program policy annotations below
              → AreClientFrames program policy annotations (frame_of program to method receiver arguments ∷ below)
          begun_frames below waits = (begun_frame, begins_free, waits)

      -- ---- threads that begin

      pub begun_client : (run : Option (Given × Value)) → IfSome run RunsClean → IsClient program policy annotations (begun_thread program run)
      begun_client None clean = ended_client
      begun_client (Some run) clean =
          there_or (IsClient program policy annotations) (λ (method : Method). running (frame_of program run.0 method (Some run.1) [] ∷ []) [])
          (method_at program run.0.0 run.0.1) ended_thread ended_client
          (λ method e. begun_frames run.0 method e (Some run.1) [] (clean, tt) [] tt)

      -- ---- a thread whose frames are left

      main_clean : (b : Bool) → AreClean program (cond b [] (main_argument program ∷ []))
      main_clean true = tt
      main_clean false = (refl, tt)

      frame_client : (next : Given) → AreClientFrames program policy annotations (option_to_list (frame_begun program next))
      frame_client next = by (method_at program next.0 next.1) refl where
        by : (found : Option Method) → method_at program next.0 next.1 ≡ found
            → AreClientFrames program policy annotations
            (option_to_list (option_map (λ (method : Method). frame_of program next method None (cond (arity method.desc == 0) [] (main_argument program ∷ []))) found))
        by None e = tt
        by (Some method) e = begun_frames next method e None _ (tt, main_clean (arity method.desc == 0)) [] tt

      pub rests_client : (to_begin : List Given) → IsClient program policy annotations (rests program to_begin)
      rests_client [] = ended_client
      rests_client (next ∷ to_begin) = frame_client next

-- Throwing from the client's code: it comes to a handler that is the client's, or ends the thread.
use Rattle.std.proofs.Common.{◌≡◌, cond, List, [], ◌∷◌, Option, Some, None, refl, subst}
use Rattle.std.specs.Prelude.{nat_lt}
use Rattle.std.specs.Option.{option_map_or, option_to_list}
use Rattle.std.proofs.lemmas.Option.{cond_some}
use Rattle.block_logic.specs.Annotations.{Annotations}
use Rattle.bytecode_model.specs.declared.program.Handler.{Handler}
use Rattle.bytecode_model.specs.declared.program.Program.{Program}
use Rattle.bytecode_model.specs.SearchOrder.{Name}
use Rattle.conspec_automaton.specs.declared.policy.Policy.{Policy}
use Rattle.guest_heap.specs.declared.frame.Frame.{Frame}
use Rattle.guest_heap.specs.declared.value.Value.{Value}
use Rattle.guest_frames.specs.Stepping.{moved_to}
use Rattle.guest_model.specs.Changes.{locks_of}
use Rattle.guest_model.specs.Finding.{Given}
use Rattle.guest_model.specs.Parts.{thrown_thread}
use Rattle.guest_model.specs.Throwing.{caught_in, handler_of, locks_left, unwound}
use Rattle.guest_model.proofs.Options.{all_append, and_then_of}
use Rattle.block_logic.specs.Fitting.{AreBelow, AreClientFrames, IsClient}
use Rattle.block_logic.specs.Meaning.{AreClean, IsClean, IsFrame}
use Rattle.block_logic.proofs.Client.Begins.{clean_list}
use Rattle.block_logic.proofs.Client.Frames.{FreeAt, Laws, waits_free, went_free}

module _ (program : Program) (policy : Policy) (annotations : Annotations) where
  -- A frame whose handlers that may catch are the client's.
  pub record CatchesFree (frame : Frame) : Type 0 where
    pub well : IsFrame program frame
    pub caught : (class : Name) (handler : Handler) → handler_of program frame class ≡ Some handler → FreeAt program policy annotations frame handler.at

  abbrev pub AreCatching : List Frame → Type 0
  AreCatching [] = Unit {0}
  AreCatching (frame ∷ below) = CatchesFree frame × AreBelow program policy annotations below

  module _ (laws : Laws program policy annotations) where
    -- those that wait are such
    pub below_catching : (below : List Frame) → AreBelow program policy annotations below → AreCatching below
    below_catching [] waits = tt
    below_catching (frame ∷ below) waits =
        (record { well = waits.0.well; caught = (waits_free program policy annotations laws frame waits.0).caught }, waits.1)

    -- ---- the locks that are given up

    left_or : (f : Option Frame) (list : List Value) → AreClean program list → AreClean program (option_map_or (λ (x : Frame). []) f list)
    left_or None list clean = clean
    left_or (Some f) list clean = tt

    pub locks_clean : (thrown : Value) (class : Name) (frames : List Frame) → AreCatching frames → AreClean program (locks_left program thrown class frames)
    locks_clean thrown class [] c = tt
    locks_clean thrown class (frame ∷ below) c =
        left_or (caught_in program thrown class frame) _
        (all_append (IsClean program) (option_to_list frame.lock) (locks_left program thrown class below) (clean_list program frame.lock c.0.well.lock)
        (locks_clean thrown class below (below_catching below c.1)))

    pub all_locks_clean : (frames : List Frame) → AreCatching frames → AreClean program (locks_of frames)
    all_locks_clean [] c = tt
    all_locks_clean (frame ∷ below) c =
        all_append (IsClean program) (option_to_list frame.lock) (locks_of below) (clean_list program frame.lock c.0.well.lock)
        (all_locks_clean below (below_catching below c.1))

    -- ---- where it comes to

    module _ (thrown : Value) (class : Name) (clean : IsClean program thrown) where
      caught_free : (frame f : Frame) (below : List Frame) → CatchesFree frame → AreBelow program policy annotations below
          → caught_in program thrown class frame ≡ Some f → AreClientFrames program policy annotations (f ∷ below)
      caught_free frame f below c waits e =
          let to : Handler → Frame = λ handler. moved_to frame handler.at frame.locals (thrown ∷ []) in
          let h = and_then_of (λ (handler : Handler). cond (nat_lt 0 frame.stack.size) (Some (to handler)) None) (handler_of program frame class) f e in
          let s = cond_some (nat_lt 0 frame.stack.size) (to h.0) f h.2 in
          subst (λ (x : Frame). AreClientFrames program policy annotations (x ∷ below)) s.1
          (went_free program policy annotations frame h.0.at frame.locals (thrown ∷ []) below c.well (c.caught class h.0 h.1) c.well.locals (clean, tt) waits)

      caught_or : (found : Option Frame) (below others : List Frame) → ((f : Frame) → found ≡ Some f → AreClientFrames program policy annotations (f ∷ below))
          → AreClientFrames program policy annotations others
          → AreClientFrames program policy annotations (option_map_or (λ (f : Frame). f ∷ below) found others)
      caught_or None below others here rest = rest
      caught_or (Some f) below others here rest = here f refl

      pub unwound_client : (frames : List Frame) → AreCatching frames → AreClientFrames program policy annotations (unwound program thrown class frames)
      unwound_client [] c = tt
      unwound_client (frame ∷ below) c =
          caught_or (caught_in program thrown class frame) below (unwound program thrown class below) (λ f e. caught_free frame f below c.0 c.1 e)
          (unwound_client below (below_catching below c.1))

  pub thrown_client : (frames : List Frame) (to_begin : List Given) → AreClientFrames program policy annotations frames
      → IsClient program policy annotations (thrown_thread frames to_begin)
  thrown_client [] to_begin client = tt
  thrown_client (frame ∷ below) to_begin client = client

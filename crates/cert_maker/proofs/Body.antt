-- A method and what is woven of it: where its instructions stand, and what is told of them.
use Rattle.std.proofs.Common.{◌≡◌, ℕ, zero, suc, ◌+◌, true, List, [], ◌∷◌, length, Option, Some, None, refl, sym, ap, ◌∙◌, arith}
use Rattle.std.specs.Prelude.{is_some, slice_get}
use Rattle.std.proofs.lemmas.Option.{slice_get_within}
use Rattle.class_codec.specs.declared.tree.Const.{Const}
use Rattle.bytecode_model.specs.declared.program.Method.{Method}
use Rattle.bytecode_model.specs.declared.program.Target.{Target}
use Rattle.bytecode_model.specs.Rules.{frame_of}
use Rattle.bytecode_model.specs.Sound.{IsSoundMethod}
use Rattle.cert_format.specs.declared.certificate.Mode.{Mode}
use Rattle.cert_format.specs.declared.note.Note.{Note}
use Rattle.cert_format.specs.declared.typing.FrameType.{FrameType}
use Rattle.conspec_automaton.specs.declared.policy.Policy.{Policy}
use Rattle.offset_patch.specs.declared.block.Block.{Block}
use Rattle.offset_patch.specs.declared.block.BlockInsn.{BlockInsn}
use Rattle.offset_patch.specs.Plan.{Plan}
use Rattle.offset_patch.specs.Splicing.{fronts_of}
use Rattle.block_template.specs.Blocks.{plan_of}
use Rattle.class_weaving.specs.Outcome.{IsWovenMethod}
use Rattle.class_weaving.specs.Woven.{sites_of}
use Rattle.cert_maker.specs.Noting.{method_notes, part_notes, parts_notes, where_typed}
use Rattle.block_template.proofs.Plans.{there}
use Rattle.class_weaving.proofs.Bodies.{Weaves, made_long}
use Rattle.class_weaving.proofs.Parts as parts
use Rattle.cert_maker.proofs.Plans as plans

-- A method of a linked program, and what it is in the woven one, whose blocks name constants of the pool.
pub record Body : Type 0 where
  pub policy : Policy
  pub mode : Mode
  -- the number of the class conspec/State
  pub state : ℕ
  pub pool : List Const
  pub method : Method
  pub made : Method
  pub of_method : IsWovenMethod (plan_of policy mode) state pool method made
  pub sound : IsSoundMethod method

module _ (b : Body) where
  abbrev pub plan : Plan
  plan = plan_of b.policy b.mode

  abbrev pub base : ℕ
  base = b.method.max_locals

  abbrev pub refs : List Target
  refs = b.method.refs

  abbrev pub sites : List (Option Block)
  sites = sites_of plan base b.method

  abbrev pub fronts : List ℕ
  fronts = fronts_of sites

  abbrev pub n : ℕ
  n = length b.method.insns

  abbrev pub part : Target → List BlockInsn
  part ref = parts.part plan base ref

  abbrev pub front : ℕ → ℕ
  front i = parts.before plan base refs i

  -- the method with its code alone
  abbrev pub weaves : Weaves
  weaves = record {
    plan = plan;
    state = b.state;
    pool = b.pool;
    method = b.method;
    made = b.made;
    of_method = b.of_method;
    sound = b.sound;
    there = there b.policy b.mode base;
  }

  -- ---- what is told

  typed_here : (canonical : List Note) (frames : List (Option FrameType)) (at : ℕ) (note : Note) → slice_get canonical at ≡ Some note
      → is_some (frame_of frames at) ≡ true → slice_get (where_typed canonical frames) at ≡ Some note
  typed_here [] frames at note e f = absurd cc
  typed_here (x ∷ canonical) [] at note e f = absurd cc
  typed_here (x ∷ canonical) (None ∷ frames) zero note e f = absurd cc
  typed_here (x ∷ canonical) (Some frame ∷ frames) zero note e f = e
  typed_here (x ∷ canonical) (frame ∷ frames) (suc at) note e f = typed_here canonical frames at note e f

  pub typed_many : (canonical : List Note) (frames : List (Option FrameType)) → length canonical ≡ length frames → length (where_typed canonical frames) ≡ length canonical
  typed_many [] frames e = refl
  typed_many (x ∷ canonical) [] e = absurd (omega (arith, e))
  typed_many (x ∷ canonical) (frame ∷ frames) e = ap suc (typed_many canonical frames (omega (arith, e)))

  abbrev part_told : Target → List Note
  part_told ref = part_notes b.policy b.mode base ref

  pub told_many : length (parts_notes b.policy b.mode base refs) ≡ length b.made.insns
  told_many =
      ap length (plans.parts_are b.policy b.mode base refs)
      ∙ parts.told_many plan base part_told (plans.notes_long b.policy b.mode base) refs ∙ sym (made_long weaves)

  -- The note of an instruction of a part, where it has a frame.
  pub note_there : (frames : List (Option FrameType)) (i k : ℕ) (ref : Target) (note : Note) → slice_get refs i ≡ Some ref
      → slice_get (part_told ref) k ≡ Some note → is_some (frame_of frames (front i + k)) ≡ true
      → slice_get (method_notes b.policy b.mode b.method frames) (front i + k) ≡ Some note
  note_there frames i k ref note e f reached =
      typed_here (parts_notes b.policy b.mode base refs) frames (front i + k) note
      (ap (λ (ns : List Note). slice_get ns (front i + k)) (plans.parts_are b.policy b.mode base refs)
      ∙ parts.told_at plan base part_told (plans.notes_long b.policy b.mode base) refs i k ref e
      (omega (arith, slice_get_within (part_told ref) k note f, plans.notes_long b.policy b.mode base ref)) ∙ f)
      reached

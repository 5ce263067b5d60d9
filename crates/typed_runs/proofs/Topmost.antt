-- The topmost operand of a frame that is ready, where its instruction takes one.
use Rattle.std.proofs.Common.{◌≡◌, Bool, true, List, [], ◌∷◌, ◌++◌, length, reverse, subst}
use Rattle.std.proofs.lemmas.Bool.{and_parts}
use Rattle.cert_format.specs.declared.typing.Typing.{Typing}
use Rattle.cert_format.specs.declared.typing.VType.{VType}
use Rattle.insn_codec.specs.Following.{Paired}
use Rattle.insn_codec.specs.Shapes.{shape_of}
use Rattle.bytecode_model.specs.declared.program.Program.{Program}
use Rattle.bytecode_model.specs.Makes.{below}
use Rattle.bytecode_model.specs.Rules.{taken}
use Rattle.bytecode_model.specs.Wants.{Want, all_met, returns_well, takes}
use Rattle.guest_heap.specs.declared.frame.Frame.{Frame}
use Rattle.guest_heap.specs.declared.object.Object.{Object}
use Rattle.guest_heap.specs.declared.value.Value.{Value}
use Rattle.typed_runs.specs.Fitting.{fits_type}
use Rattle.typed_runs.specs.Frames.{IsReady, stands_at}
use Rattle.typed_runs.specs.Programs.{IsTypedProgram}
use Rattle.typed_runs.proofs.Going.{split_stack}
use Rattle.typed_runs.proofs.Rows.{rules}
use Rattle.typed_runs.proofs.Taken.{One, one_taken as one_by}

module _ (program : Program) (typing : Typing) (ok : IsTypedProgram program typing) (heap : List Object) (frame : Frame) (r : IsReady program typing heap frame) where
  abbrev of : Value → VType → Bool
  of v t = fits_type program heap r.stands.class r.stands.method v t

  -- the operands are what is wanted
  pub all_taken : all_met (takes (stands_at r.stands)) (taken (stands_at r.stands) r.stands.type) ≡ true
  all_taken =
      let place = stands_at r.stands in
      (and_parts (all_met (takes place) (taken place r.stands.type)) (returns_well place (shape_of place.insn)) (rules program typing ok frame r.stands).operand).0

  -- those that are taken on top
  pub items_split : Paired of frame.stack.items
      (reverse (taken (stands_at r.stands) r.stands.type) ++ reverse (below (length (takes (stands_at r.stands))) r.stands.type.stack))
  items_split = subst (λ (ts : List VType). Paired of frame.stack.items ts) (split_stack (length (takes (stands_at r.stands))) r.stands.type.stack) r.operands

  -- the topmost operand, where one is taken
  pub one_taken : (want : Want) → takes (stands_at r.stands) ≡ want ∷ []
      → One of want (taken (stands_at r.stands) r.stands.type) (reverse (below (length (takes (stands_at r.stands))) r.stands.type.stack)) frame.stack.items
  one_taken want is =
      let place = stands_at r.stands in
      let on = taken place r.stands.type in
      one_by of want on (reverse (below (length (takes place)) r.stands.type.stack)) frame.stack.items
      (subst (λ (ws : List Want). all_met ws on ≡ true) is all_taken) items_split

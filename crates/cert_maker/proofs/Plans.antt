-- The plan of a policy: which calls have a block, and what is told of them.
use Rattle.std.proofs.Common.{◌≡◌, ℕ, Bool, true, false, cond, List, [], ◌∷◌, ◌++◌, length, Some, None, refl, sym, ap, ◌∙◌, arith}
use Rattle.std.specs.Prelude.{slice_get, option_map}
use Rattle.std.specs.List.{flat_map}
use Rattle.std.proofs.lemmas.List.{length-map}
use Rattle.std.proofs.lemmas.Option.{slice_get-map}
use Rattle.bytecode_model.specs.declared.program.Target.{Target}
use Rattle.bytecode_model.specs.declared.program.Target.TheVariants as target
use Rattle.cert_format.specs.declared.certificate.Mode.{Mode}
use Rattle.cert_format.specs.declared.note.Note.{Note}
use Rattle.cert_format.specs.declared.note.Note.TheVariants as notes
use Rattle.conspec_automaton.specs.declared.policy.Policy.{Policy}
use Rattle.conspec_automaton.specs.Next.{has_clauses}
use Rattle.offset_patch.specs.Plan.{Plan}
use Rattle.offset_patch.specs.Splicing.{part_of}
use Rattle.block_template.specs.declared.item.Item.{Item}
use Rattle.block_template.specs.Blocks.{bools_of, clauses_of, has_block, plan_of}
use Rattle.cert_maker.specs.declared.called.Called.{Called}
use Rattle.cert_maker.specs.Noting.{block_notes, note_of, part_notes, parts_notes}
use Rattle.block_template.proofs.Calling.{count_is, place_is}
use Rattle.block_template.proofs.Plans.{block_of, insns_count, items_of}
use Rattle.cert_maker.proofs.Covering.{CallsWithin}
use Rattle.class_weaving.proofs.Parts.{part}

module _ (policy : Policy) (mode : Mode) where
  abbrev pub plan : Plan
  plan = plan_of policy mode

  module _ (base : ℕ) where
    within_by : (callee : ℕ) (b : Bool) → CallsWithin (cond b (Some (block_of policy mode base callee)) None)
    within_by callee false = tt
    within_by callee true =
        omega (
          arith,
          insns_count policy mode base callee,
          count_is mode (bools_of policy) base (clauses_of policy callee),
          place_is mode (bools_of policy) base (clauses_of policy callee),
        )

    -- Each block has the call.
    pub within : (ref : Target) → CallsWithin (plan.block base ref)
    within (target.ApiMethod callee) = within_by callee (has_clauses policy callee)
    within target.None = tt
    within (target.Builtin i) = tt
    within (target.Method c m) = tt
    within (target.Field c f) = tt
    within (target.ApiField i) = tt
    within (target.ClassName name) = tt
    within (target.Number n) = tt
    within (target.Literal i) = tt

    -- ---- what is told

    abbrev canonical : Target → List Note
    canonical ref = part_notes policy mode base ref

    abbrev call_of : ℕ → Called
    call_of callee = record { callee = callee; base = base }

    notes_by : (callee : ℕ) (b : Bool)
        → length (cond b (block_notes policy mode base callee) (notes.Free ∷ [])) ≡ length (part_of (cond b (Some (block_of policy mode base callee)) None))
    notes_by callee false = refl
    notes_by callee true =
        length-map (items_of policy mode base callee) (λ (i : Item). note_of policy (call_of callee) i.role) ∙ sym (insns_count policy mode base callee)

    -- There are as many notes as instructions.
    pub notes_long : (ref : Target) → length (canonical ref) ≡ length (part plan base ref)
    notes_long (target.ApiMethod callee) = notes_by callee (has_clauses policy callee)
    notes_long target.None = refl
    notes_long (target.Builtin i) = refl
    notes_long (target.Method c m) = refl
    notes_long (target.Field c f) = refl
    notes_long (target.ApiField i) = refl
    notes_long (target.ClassName name) = refl
    notes_long (target.Number n) = refl
    notes_long (target.Literal i) = refl

    pub note_item : (callee : ℕ) → has_clauses policy callee ≡ true → (k : ℕ) (item : Item) → slice_get (items_of policy mode base callee) k ≡ Some item
        → slice_get (canonical (target.ApiMethod callee)) k ≡ Some (note_of policy (call_of callee) item.role)
    note_item callee has k item e =
        ap (λ (b : Bool). slice_get (cond b (block_notes policy mode base callee) (notes.Free ∷ [])) k) has
        ∙ slice_get-map (λ (i : Item). note_of policy (call_of callee) i.role) (items_of policy mode base callee) k
        ∙ ap (option_map (λ (i : Item). note_of policy (call_of callee) i.role)) e

    note_by : (callee : ℕ) (b : Bool) → b ≡ false → cond b (block_notes policy mode base callee) (notes.Free ∷ []) ≡ notes.Free ∷ []
    note_by callee b e = ap (λ (c : Bool). cond c (block_notes policy mode base callee) (notes.Free ∷ [])) e

    pub note_alone : (ref : Target) → has_block policy ref ≡ false → canonical ref ≡ notes.Free ∷ []
    note_alone (target.ApiMethod callee) e = note_by callee (has_clauses policy callee) e
    note_alone target.None e = refl
    note_alone (target.Builtin i) e = refl
    note_alone (target.Method c m) e = refl
    note_alone (target.Field c f) e = refl
    note_alone (target.ApiField i) e = refl
    note_alone (target.ClassName name) e = refl
    note_alone (target.Number n) e = refl
    note_alone (target.Literal i) e = refl

    pub parts_are : (refs : List Target) → parts_notes policy mode base refs ≡ flat_map canonical refs
    parts_are [] = refl
    parts_are (ref ∷ refs) = ap (λ (ns : List Note). canonical ref ++ ns) (parts_are refs)

-- Notes are told part by part, each with its frames.
use Rattle.std.proofs.Common.{◌≡◌, ℕ, List, [], ◌∷◌, ◌++◌, drop, length, Option, refl, sym, ap, ◌∙◌, append_assoc}
use Rattle.bytecode_model.specs.declared.program.Target.{Target}
use Rattle.cert_format.specs.declared.certificate.Mode.{Mode}
use Rattle.cert_format.specs.declared.note.Note.{Note}
use Rattle.cert_format.specs.declared.typing.FrameType.{FrameType}
use Rattle.conspec_automaton.specs.declared.policy.Policy.{Policy}
use Rattle.cert_maker.specs.Noting.{if_typed, part_notes, parts_notes, where_typed}

none_typed : (canonical : List Note) → where_typed canonical [] ≡ []
none_typed [] = refl
none_typed (note ∷ canonical) = refl

pub typed_append : (canonical more : List Note) (frames : List (Option FrameType))
    → where_typed (canonical ++ more) frames ≡ where_typed canonical frames ++ where_typed more (drop (length canonical) frames)
typed_append [] more frames = refl
typed_append (note ∷ canonical) more [] = sym (none_typed more)
typed_append (note ∷ canonical) more (frame ∷ frames) = ap (λ (ns : List Note). if_typed frame note ∷ ns) (typed_append canonical more frames)

-- One part more.
pub typed_step : (out new canonical more total : List Note) (frames left : List (Option FrameType))
    → out ++ where_typed (canonical ++ more) frames ≡ total → new ≡ out ++ where_typed canonical frames → left ≡ drop (length canonical) frames
    → new ++ where_typed more left ≡ total
typed_step out new canonical more total frames left so_far put following =
    ap (λ (ns : List Note). ns ++ where_typed more left) put
    ∙ ap (λ (fs : List (Option FrameType)). (out ++ where_typed canonical frames) ++ where_typed more fs) following
    ∙ append_assoc out (where_typed canonical frames) (where_typed more (drop (length canonical) frames))
    ∙ ap (λ (ns : List Note). out ++ ns) (sym (typed_append canonical more frames)) ∙ so_far

-- The parts of instructions, of which the first is done.
pub parts_step : (policy : Policy) (mode : Mode) (base : ℕ) (refs others : List Target) (ref : Target) (out new total : List Note)
    (frames left : List (Option FrameType)) (count : ℕ) → refs ≡ ref ∷ others
    → out ++ where_typed (parts_notes policy mode base refs) frames ≡ total
    → new ≡ out ++ where_typed (part_notes policy mode base ref) frames → count ≡ length (part_notes policy mode base ref)
    → left ≡ drop count frames → new ++ where_typed (parts_notes policy mode base others) left ≡ total
parts_step policy mode base refs others ref out new total frames left count split so_far put many following =
    typed_step out new (part_notes policy mode base ref) (parts_notes policy mode base others) total frames left
    (ap (λ (rs : List Target). out ++ where_typed (parts_notes policy mode base rs) frames) (sym split) ∙ so_far) put
    (following ∙ ap (λ (n : ℕ). drop n frames) many)

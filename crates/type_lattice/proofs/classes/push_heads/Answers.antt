use Rattle.std.proofs.Common.{◌∙◌, ◌++◌, ◌∷◌, [], List, take, map, ap, refl}
use Rattle.std.proofs.lemmas.List.{append_assoc}
use Rattle.api_listing.specs.declared.types.ListedClass.{ListedClass}
use Rattle.bytecode_model.specs.declared.program.LinkedClass.{LinkedClass}
use Rattle.bytecode_model.specs.Heads.{head_of}
use Rattle.bytecode_model.proofs.CopiedItems.{one_more_mapped}
use Rattle.type_lattice.proofs.classes.push_heads.Goals as goal

pub loop-class-preserved : goal.loop-class-preserved
loop-class-preserved c =
    let classes = c.args.classes.now in
    let before = c.args.out.now in
    let f = λ (class : LinkedClass). head_of class.file in
    let i = c.loop-class.class-index in
    let one = c.in_ok-head.head in
    c.in_ok-push.ensures.ok ∙ ap (λ (xs : List ListedClass). xs ++ one ∷ []) c.loop-class.invariant
    ∙ append_assoc before (map f (take i classes)) (one ∷ [])
    ∙ ap (λ (xs : List ListedClass). before ++ xs)
    (one_more_mapped f classes (map f (take i classes)) (map f (take i classes) ++ one ∷ []) i c.class-item.result one c.loop-class-test.true refl
    (c.in_ok-head.ensures ∙ ap f c.class-item.is) refl)

use Rattle.std.proofs.Common.{◌∙◌, ◌++◌, ◌∷◌, [], List, ℕ, take, ap, refl}
use Rattle.std.proofs.lemmas.List.{append_assoc}
use Rattle.bytecode_model.proofs.CopiedItems.{one_more_copied}
use Rattle.class_text.proofs.library.add_names.Goals as goal

pub loop-name-preserved : goal.loop-name-preserved
loop-name-preserved c =
    let others = c.args.others.now in
    let before = c.args.names.now in
    let i = c.loop-name.name-index in
    let one = c.in_ok-one.one in
    c.in_ok-push.ensures.ok ∙ ap (λ (xs : List (List ℕ)). xs ++ one ∷ []) c.loop-name.invariant
    ∙ append_assoc before (take i others) (one ∷ [])
    ∙ ap (λ (xs : List (List ℕ)). before ++ xs)
    (one_more_copied others (take i others) (take i others ++ one ∷ []) i c.name-item.result one c.loop-name-test.true refl (c.in_ok-one.ensures ∙ c.name-item.is) refl)

use Rattle.std.proofs.Common.{◌≡◌, ◌∙◌, true, sym, ap}
use Rattle.std.specs.List.{list_all}
use Rattle.bytecode_model.specs.SearchOrder.{is_one_of}
use Rattle.class_index.specs.Library.{is_memberless}
use Rattle.class_index.proofs.Aside.{each_passes}
use Rattle.class_index.proofs.memberless.memberless_of.Goals as goal

pub returns-then-are_memberless : goal.returns-then-are_memberless
returns-then-are_memberless c name noted =
    let test = is_memberless c.args.owners.now c.args.classes.now c.in_ok-memberless.memberless in
    let names = c.in_ok-names.names in
    let all : list_all test names ≡ true = ap (list_all test) (sym c.as_slice-2.ensures) ∙ sym c.are_memberless.ensures ∙ c.if-are_memberless.true in
    let one : is_one_of names name ≡ true = ap (λ ns. is_one_of ns name) (sym c.as_slice.ensures) ∙ sym (c.in_ok-memberless.ensures name) ∙ noted in
    each_passes test names name all one

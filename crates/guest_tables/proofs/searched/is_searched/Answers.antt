use Rattle.std.proofs.Common.{◌<◌, List, ℕ, get_or, refl, sym, subst, ap, length, ◌∙◌, arith}
use Rattle.std.proofs.lemmas.Bool.{false≢true}
use Rattle.api_listing.specs.declared.types.ListedClass.{ListedClass}
use Rattle.bytecode_model.specs.Classes.{classes_of}
use Rattle.bytecode_model.specs.SearchOrder.{Name, is_one_of, search_order}
use Rattle.guest_tables.proofs.Searching.{found_here, none_searched, place_few, read_class, shorter, rows_all, told_by_row, told_elsewhere}
use Rattle.guest_tables.proofs.searched.is_searched.Goals as goal

pub bounds-classes-place : goal.bounds-classes-place
bounds-classes-place c =
    subst (λ (cs : List ListedClass). c.in-Some.place < length cs) (sym c.classes-classes.ensures) (place_few c.args.program.now c.loop-place.at.now c.in-Some.place (sym c.in-Some.ensures))

pub bounds-rows-place : goal.bounds-rows-place
bounds-rows-place c =
    let rows = ap (λ (rs : List (List ℕ)). length rs) (c.as_slice-rows.ensures ∙ c.requires.rows) ∙ rows_all c.args.program.now in
    let few = place_few c.args.program.now c.loop-place.at.now c.in-Some.place (sym c.in-Some.ensures) in
    omega (arith, rows, few)

pub returns-then-not-is_empty : goal.returns-then-not-is_empty
returns-then-not-is_empty c = λ other is.
    let at = c.loop-place.at.now in
    let class = c.index-classes-place.result in
    let row = c.index-rows-place.result in
    let here = read_class c.args.program.now at c.in-Some.place class (sym c.in-Some.ensures)
    (c.index-classes-place.is ∙ ap (λ (cs : List ListedClass). get_or cs c.in-Some.place class) c.classes-classes.ensures) in
    c.has_place.ensures
    ∙ told_by_row c.args.program.now at c.in-Some.place class row here (λ none. false≢true (c.if-not-is_empty.ensures.1 none))
    (c.index-rows-place.is ∙ ap (λ (rs : List (List ℕ)). get_or rs c.in-Some.place row) (c.as_slice-rows.ensures ∙ c.requires.rows)) other c.args.other is
    ∙ c.loop-place.invariant other is

pub returns-then-place-other : goal.returns-then-place-other
returns-then-place-other c = λ other is.
    let at = c.loop-place.at.now in
    let class = c.index-classes-place.result in
    let here = read_class c.args.program.now at c.in-Some.place class (sym c.in-Some.ensures)
    (c.index-classes-place.is ∙ ap (λ (cs : List ListedClass). get_or cs c.in-Some.place class) c.classes-classes.ensures) in
    sym (found_here c.args.program.now c.requires.ready at c.in-Some.place class (sym c.in-Some.ensures) here (c.if-not-is_empty.ensures.0 refl) other c.args.other is c.if-place-other.true)
    ∙ c.loop-place.invariant other is

pub loop-place-smaller : goal.loop-place-smaller
loop-place-smaller c =
    let at = c.loop-place.at.now in
    let class = c.index-classes-place.result in
    let here = read_class c.args.program.now at c.in-Some.place class (sym c.in-Some.ensures)
    (c.index-classes-place.is ∙ ap (λ (cs : List ListedClass). get_or cs c.in-Some.place class) c.classes-classes.ensures) in
    rw c.as_slice-at.ensures (shorter (classes_of c.args.program.now) c.requires.ready.order.ends at class here.named)

pub loop-place-preserved : goal.loop-place-preserved
loop-place-preserved c = λ other is.
    let at = c.loop-place.at.now in
    let class = c.index-classes-place.result in
    let here = read_class c.args.program.now at c.in-Some.place class (sym c.in-Some.ensures)
    (c.index-classes-place.is ∙ ap (λ (cs : List ListedClass). get_or cs c.in-Some.place class) c.classes-classes.ensures) in
    ap (λ (n : Name). is_one_of (search_order (classes_of c.args.program.now) n) other) c.as_slice-at.ensures
    ∙ sym (told_elsewhere c.args.program.now c.requires.ready at c.in-Some.place class (sym c.in-Some.ensures) here (c.if-not-is_empty.ensures.0 refl) other c.args.other is c.if-place-other.false)
    ∙ c.loop-place.invariant other is

pub returns : goal.returns
returns c = λ other is.
    sym (ap (λ (order : List Name). is_one_of order other) (none_searched (classes_of c.args.program.now) c.loop-place.at.now (sym c.in_default.ensures)))
    ∙ c.loop-place.invariant other is

use Rattle.std.proofs.Common.{◌≡◌, ◌+◌, ◌≤◌, length, Some, sym, ◌∙◌, arith}
use Rattle.type_lattice.specs.SkipPointers.{parent_of, parents_of}
use Rattle.type_lattice.proofs.Ascending.{parent_kept, there_is, jump_within, height_fits, steps_fit, near, far}
use Rattle.type_lattice.proofs.skip_pointers.skip_over.Goals as goal

pub offset_bounds-items-above : goal.offset_bounds-items-above
offset_bounds-items-above c =
    let some : parent_of (parents_of c.args.items.now) c.args.at ≡ Some c.in-Some.parent = parent_kept c.args.items.now c.args.at _ (there_is c.args.items.now c.args.at _ c.requires.at) ∙ c.in-Some.is in
    let less = jump_within c.args.items.now c.requires.begun.parents c.args.at c.in-Some.parent some c.known-above.result c.known-above.ensures in
    omega arith

pub bounds-items-above : goal.bounds-items-above
bounds-items-above c =
    let some : parent_of (parents_of c.args.items.now) c.args.at ≡ Some c.in-Some.parent = parent_kept c.args.items.now c.args.at _ (there_is c.args.items.now c.args.at _ c.requires.at) ∙ c.in-Some.is in
    jump_within c.args.items.now c.requires.begun.parents c.args.at c.in-Some.parent some c.known-above.result c.known-above.ensures

pub overflow_add-result : goal.overflow_add-result
overflow_add-result c =
    let some : parent_of (parents_of c.args.items.now) c.args.at ≡ Some c.in-Some.parent = parent_kept c.args.items.now c.args.at _ (there_is c.args.items.now c.args.at _ c.requires.at) ∙ c.in-Some.is in
    let fits : c.known-above.result.height ≤ length c.args.items.now + 1 = height_fits c.args.items.now c.requires.begun.parents c.args.at c.in-Some.parent some c.known-above.result c.known-above.ensures in
    omega arith

pub overflow_add-result-2 : goal.overflow_add-result-2
overflow_add-result-2 c =
    let some : parent_of (parents_of c.args.items.now) c.args.at ≡ Some c.in-Some.parent = parent_kept c.args.items.now c.args.at _ (there_is c.args.items.now c.args.at _ c.requires.at) ∙ c.in-Some.is in
    let fits : c.known-above.result.height ≤ length c.args.items.now + 1 = height_fits c.args.items.now c.requires.begun.parents c.args.at c.in-Some.parent some c.known-above.result c.known-above.ensures in
    omega arith

pub overflow_add-result-then-further-above : goal.overflow_add-result-then-further-above
overflow_add-result-then-further-above c =
    let items = c.args.items.now in
    let above = c.known-above.result in
    let some : parent_of (parents_of items) c.args.at ≡ Some c.in-Some.parent = parent_kept items c.args.at _ (there_is items c.args.at _ c.requires.at) ∙ c.in-Some.is in
    let within = jump_within items c.requires.begun.parents c.args.at c.in-Some.parent some above c.known-above.ensures in
    let right = c.requires.begun.right above.jump _ (there_is items above.jump _ within) c.if-further-gt0.true in
    let fits = steps_fit items c.requires.begun.parents c.args.at c.in-Some.parent some above c.known-above.ensures _ right in
    omega arith

pub overflow_add-result-then-further-above-2 : goal.overflow_add-result-then-further-above-2
overflow_add-result-then-further-above-2 c =
    let items = c.args.items.now in
    let above = c.known-above.result in
    let some : parent_of (parents_of items) c.args.at ≡ Some c.in-Some.parent = parent_kept items c.args.at _ (there_is items c.args.at _ c.requires.at) ∙ c.in-Some.is in
    let within = jump_within items c.requires.begun.parents c.args.at c.in-Some.parent some above c.known-above.ensures in
    let right = c.requires.begun.right above.jump _ (there_is items above.jump _ within) c.if-further-gt0.true in
    let fits = steps_fit items c.requires.begun.parents c.args.at c.in-Some.parent some above c.known-above.ensures _ right in
    omega arith

pub returns-then-further-above-clause-path_up : goal.returns-then-further-above-clause-path_up
returns-then-further-above-clause-path_up c =
    let items = c.args.items.now in
    let above = c.known-above.result in
    let some : parent_of (parents_of items) c.args.at ≡ Some c.in-Some.parent = parent_kept items c.args.at _ (there_is items c.args.at _ c.requires.at) ∙ c.in-Some.is in
    let within = jump_within items c.requires.begun.parents c.args.at c.in-Some.parent some above c.known-above.ensures in
    let right = c.requires.begun.right above.jump _ (there_is items above.jump _ within) c.if-further-gt0.true in
    far items c.requires.begun.parents c.args.at c.in-Some.parent some above c.known-above.ensures _ right

pub returns-then-further-above-clause-parent : goal.returns-then-further-above-clause-parent
returns-then-further-above-clause-parent c = sym (parent_kept c.args.items.now c.args.at _ (there_is c.args.items.now c.args.at _ c.requires.at) ∙ c.in-Some.is)

pub returns-clause-path_up : goal.returns-clause-path_up
returns-clause-path_up c =
    let some : parent_of (parents_of c.args.items.now) c.args.at ≡ Some c.in-Some.parent = parent_kept c.args.items.now c.args.at _ (there_is c.args.items.now c.args.at _ c.requires.at) ∙ c.in-Some.is in
    near c.args.items.now c.requires.begun.parents c.args.at c.in-Some.parent some c.known-above.result c.known-above.ensures

pub returns-clause-parent : goal.returns-clause-parent
returns-clause-parent c = sym (parent_kept c.args.items.now c.args.at _ (there_is c.args.items.now c.args.at _ c.requires.at) ∙ c.in-Some.is)

use Rattle.std.proofs.Common.{◌≡◌, ◌∙◌, ◌≤◌, length, ap, sym, arith}
use Rattle.std.specs.List.{slice_get}
use Rattle.bytecode_model.specs.ByName.{noted}
use Rattle.bytecode_model.proofs.Lists.{some_is}
use Rattle.mon_base.proofs.Lists.{got}
use Rattle.class_index.specs.Library.{owners_up, AreShared, Owners}
use Rattle.class_index.proofs.Sharing.{read_there}
use Rattle.class_index.proofs.library.known_above.Goals as goal

pub returns : goal.returns
returns c =
    let classes = c.args.classes.now in
    let shared = c.args.shared.now in
    let name = c.args.name.now in
    let above = c.in_ok-above.above in
    let within : above.height ≤ length classes = omega (arith, c.if-above-len.false, c.len.ensures) in
    let h = c.get.ensures.lookup in
    let there_is = got c.get.result c.as_slice-2.result.now above.place h.3 h.1 ∙ ap (λ xs. slice_get xs above.place) c.as_slice-2.ensures in
    read_there c.get.result _ (λ names. (owners : Owners) → AreShared owners classes shared → owners_up owners classes (length classes) name ≡ names) there_is
    (λ names there owners known.
    let s = known.known name above (ap (noted shared.places) (sym c.as_slice.ensures) ∙ sym c.noted.ensures ∙ c.in_ok-above.was) in
    s.are (length classes) within ∙ some_is s.names names (sym s.there ∙ there))

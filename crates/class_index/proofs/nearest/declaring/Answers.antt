use Rattle.std.proofs.Common.{◌≡◌, ◌∙◌, suc, ◌≤◌, Some, Option, length, ap, sym, arith}
use Rattle.std.specs.Prelude.{slice_get}
use Rattle.mon_base.specs.declared.method.MethodId.{MethodId}
use Rattle.api_listing.specs.Nearest.{names_of}
use Rattle.bytecode_model.specs.declared.members.Found.{Found}
use Rattle.bytecode_model.specs.Members.{first_found, in_class}
use Rattle.bytecode_model.specs.SearchOrder.{superclasses}
use Rattle.mon_base.proofs.Lists.{got}
use Rattle.mon_base.specs.Persistent.{item_at}
use Rattle.class_index.specs.Nearest.{member_number, AreVersions, Numbers}
use Rattle.class_index.proofs.Sharing.{read_there}
use Rattle.class_index.proofs.Versions.{declares}
use Rattle.class_index.proofs.nearest.declaring.Goals as goal

pub returns : goal.returns
returns c =
    let classes = c.args.classes.now in
    let versions = c.args.versions.now in
    let name = c.args.name.now in
    let version = c.in_ok-version.version in
    let place = c.in_ok-place.place in
    let item = c.in_ok-item.item in
    let few : version.height ≤ length classes = omega (arith, c.if-version-len.false, c.len.ensures) in
    let read : item_at versions.nodes versions.depth version.root c.args.number ≡ Some item =
    ap (λ nodes. item_at nodes versions.depth version.root c.args.number) (sym c.as_slice.ensures) ∙ sym c.item_at.ensures ∙ c.in_ok-item.was in
    let is : item ≡ suc place = omega (arith, c.in_ok-place.ensures) in
    let h = c.get.ensures.lookup in
    let there_is = got c.get.result c.as_slice-2.result.now place h.3 h.1 ∙ ap (λ xs. slice_get xs place) c.as_slice-2.ensures in
    read_there c.get.result (slice_get classes place)
    (λ class. (look : MethodId → Option Found) (numbers : Numbers) (id : MethodId) → AreVersions look numbers classes versions → member_number numbers id ≡ Some c.args.number
    → look (in_class id class.name) ≡ first_found look id (names_of (superclasses classes name)))
    there_is
    (λ class some look numbers id are e.
    declares look numbers classes versions name version id c.args.number item place class (c.in_ok-version.ensures look numbers are id c.args.number e) few read is some)

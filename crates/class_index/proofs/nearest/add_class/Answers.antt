use Rattle.std.proofs.Common.{◌≡◌, ◌∙◌, suc, ap, refl, arith}
use Rattle.bytecode_model.specs.Members.{in_class}
use Rattle.mon_base.specs.Persistent.{has_number}
use Rattle.class_index.specs.Index.{found_in}
use Rattle.class_index.specs.declared.nearest.Version.{Version}
use Rattle.class_index.specs.declared.nearest.Versions.{Versions}
use Rattle.class_index.proofs.Versions.{tells_up, with_version}
use Rattle.class_index.proofs.nearest.add_class.Goals as goal

pub returns : goal.returns
returns c =
    let look = found_in c.args.numbered.now.found.now in
    let numbers = c.args.numbered.now.numbers.now in
    let classes = c.args.classes.now in
    let old = c.args.versions.now in
    let name = c.args.name.now in
    let place = c.in-Some.place in
    let above = c.in-Some-version_of.above in
    let item = c.in-Some-checked_add-2.item in
    let root = c.in_ok-root.root in
    let nodes = c.put_each.new.nodes in
    let own = c.own_of-own.result.now in
    let version : Version = record { root = root; height = c.in-Some-checked_add.height } in
    let new : Versions = record { depth = old.depth; nodes = nodes; places = c.note.new.names } in
    let is : item ≡ suc place = omega (arith, c.in-Some-checked_add-2.ensures) in
    let high : version.height ≡ suc above.height = omega (arith, c.in-Some-checked_add.ensures) in
    with_version look numbers classes old new name version c.requires.versions refl c.in_ok-root.ensures.keeps
    (λ id n e.
    tells_up look numbers classes old.nodes nodes old.depth place item root name c.in-Some.class.now above version own c.in-Some.ensures.1 c.in-Some.ensures.0 is refl high c.in_ok-root.ensures.puts id n
    (ap (λ xs. has_number xs n) c.own_of-own.ensures ∙ c.requires.own (in_class id name) n e) (c.in-Some-version_of.ensures look numbers c.requires.versions id n e))
    c.in_ok-note.ensures

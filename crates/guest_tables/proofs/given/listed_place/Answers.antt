use Rattle.std.proofs.Common.{◌≡◌, ◌<◌, ◌≤◌, sym, length, ap, arith, ◌∙◌}
use Rattle.bytecode_model.specs.declared.program.Program.{Program}
use Rattle.guest_tables.proofs.GivenClasses.{listed_not, listed_nowhere, listed_there}
use Rattle.guest_tables.proofs.given.listed_place.Goals as goal

pub returns-then-place-listed : goal.returns-then-place-listed
returns-then-place-listed c =
    let count : c.len-listed.result ≡ length c.args.program.now.listing.classes = c.len-listed.ensures ∙ ap (λ (p : Program). length p.listing.classes) c.program.ensures in
    let l : c.in-Some.place < length c.args.program.now.listing.classes = omega arith in
    sym (listed_there c.args.program.now c.args.name.now c.in-Some.place (sym c.in-Some.ensures) l)

pub returns-else-place-listed : goal.returns-else-place-listed
returns-else-place-listed c =
    let count : c.len-listed.result ≡ length c.args.program.now.listing.classes = c.len-listed.ensures ∙ ap (λ (p : Program). length p.listing.classes) c.program.ensures in
    let l : length c.args.program.now.listing.classes ≤ c.in-Some.place = omega arith in
    sym (listed_not c.args.program.now c.args.name.now c.in-Some.place (sym c.in-Some.ensures) l)

pub returns-in-None : goal.returns-in-None
returns-in-None c = sym (listed_nowhere c.args.program.now c.args.name.now (sym c.in-None.ensures))

use Rattle.std.proofs.Common.{◌≡◌, ◌<◌, ◌≤◌, ◌-◌, Some, sym, length, ap, arith, ◌∙◌}
use Rattle.bytecode_model.specs.declared.program.Program.{Program}
use Rattle.guest_tables.proofs.GivenClasses.{index_few, listed, given, nowhere}
use Rattle.guest_tables.proofs.given.given_index.Goals as goal

pub overflow_cast-result : goal.overflow_cast-result
overflow_cast-result c =
    let few : c.in-Some.place < 4294967296 = index_few c.args.program.now c.requires c.args.name.now c.in-Some.place (sym c.in-Some.ensures) in
    omega arith

pub returns-then-place-listed : goal.returns-then-place-listed
returns-then-place-listed c =
    let count : c.len-listed.result ≡ length c.args.program.now.listing.classes = c.len-listed.ensures ∙ ap (λ (p : Program). length p.listing.classes) c.program.ensures in
    let l : c.in-Some.place < length c.args.program.now.listing.classes = omega arith in
    sym (listed c.args.program.now c.requires c.args.name.now c.in-Some.place (sym c.in-Some.ensures) l)

pub returns-else-place-listed : goal.returns-else-place-listed
returns-else-place-listed c =
    let count : c.len-listed.result ≡ length c.args.program.now.listing.classes = c.len-listed.ensures ∙ ap (λ (p : Program). length p.listing.classes) c.program.ensures in
    let l : length c.args.program.now.listing.classes ≤ c.in-Some.place = omega arith in
    ap (λ n. Some (c.in-Some.place - n)) count ∙ given c.args.program.now c.requires c.args.name.now c.in-Some.place (sym c.in-Some.ensures) l

pub returns-in-None : goal.returns-in-None
returns-in-None c = sym (nowhere c.args.program.now c.requires c.args.name.now (sym c.in-None.ensures))

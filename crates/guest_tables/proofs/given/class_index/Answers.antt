use Rattle.std.proofs.Common.{◌<◌, sym, arith}
use Rattle.guest_tables.proofs.GivenClasses.{index_few}
use Rattle.guest_tables.proofs.given.class_index.Goals as goal

pub overflow_cast-result : goal.overflow_cast-result
overflow_cast-result c =
    let few : c.in-Some.place < 4294967296 = index_few c.args.program.now c.requires c.args.name.now c.in-Some.place (sym c.in-Some.ensures) in
    omega arith

use Rattle.std.proofs.Common.{◌∙◌, arith}
use Rattle.offset_patch.proofs.Calling.{own_short}
use Rattle.offset_patch.proofs.Measure.{count_short}
use Rattle.offset_patch.proofs.Putting.{put_short}
use Rattle.offset_patch.proofs.splicing.method_put.Goals as goal

pub fronts_of-requires : goal.fronts_of-requires
fronts_of-requires c = omega (arith, count_short c.args.entries.now c.args.method.now.insns c.args.sites.now c.requires.each, c.requires.length)

pub parts-requires-clause-few : goal.parts-requires-clause-few
parts-requires-clause-few c = omega (arith, count_short c.args.entries.now c.args.method.now.insns c.args.sites.now c.requires.each, c.requires.length)

pub code_put-requires-clause-own : goal.code_put-requires-clause-own
code_put-requires-clause-own c =
    let short = own_short c.args.method.now.insns c.args.sites.now c.requires.sites c.requires.each c.requires.few c.requires.length in
    omega (arith, short)

pub code_put-requires-clause-parts : goal.code_put-requires-clause-parts
code_put-requires-clause-parts c = omega (arith, count_short c.args.entries.now c.args.method.now.insns c.args.sites.now c.requires.each, c.requires.length)

pub code_put-requires-clause-short : goal.code_put-requires-clause-short
code_put-requires-clause-short c =
    put_short c.args.entries.now c.args.method.now.insns c.as_slice.result.now c.as_slice-fronts.result.now c.args.sites.now c.in_ok-insns.insns c.as_slice-2.result.now
    (c.as_slice-fronts.ensures ∙ c.in_ok-fronts.ensures) c.as_slice.ensures c.in_ok-insns.ensures.is c.as_slice-2.ensures c.requires.length

pub parts_named-requires : goal.parts_named-requires
parts_named-requires c = omega (arith, count_short c.args.entries.now c.args.method.now.insns c.args.sites.now c.requires.each, c.requires.length)

pub own_and_moved-requires-clause-count : goal.own_and_moved-requires-clause-count
own_and_moved-requires-clause-count c = omega (arith, count_short c.args.entries.now c.args.method.now.insns c.args.sites.now c.requires.each, c.requires.length)

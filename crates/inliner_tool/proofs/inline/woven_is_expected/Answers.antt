use Rattle.inliner_tool.proofs.Blocks.{remade}
use Rattle.inliner_tool.proofs.Expected.{expected}
use Rattle.inliner_tool.proofs.inline.woven_is_expected.Goals as goal

pub returns-clause-links : goal.returns-clause-links
returns-clause-links c = λ inputs main given made of.
    remade c.woven_files_link.ensures.links c.plans_are_good.ensures inputs of.known main given made of.links of.sound of.policy of.kept.read of.weaves

pub returns-clause-expected : goal.returns-clause-expected
returns-clause-expected c = λ inputs main given made of typed laid_out fits few.
    expected c.woven_files_link.ensures.links c.plans_are_good.ensures c.original_is_free.ensures.free c.linked_is_in_order.ensures.ordered c.linked_operands_are_right.ensures.right
    c.kinds_are_told.ensures.arguments c.kinds_are_told.ensures.results c.policies_tell.ensures c.listings_know_throwable.ensures c.woven_is_typed.ensures c.items_are_reached.ensures
    c.canonical_is_typed.ensures c.woven_is_accepted.ensures.accepted c.woven_program_is_linked.ensures.linked c.woven_program_is_linked.ensures.back c.woven_program_is_linked.ensures.room
    c.woven_program_is_linked.ensures.sound c.linked_programs_are_named.ensures.named inputs of.known main given made of.links of.sound of.stands of.policy of.kept of.weaves typed laid_out fits few

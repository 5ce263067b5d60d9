use Rattle.api_listing.proofs.DescriptorLaws.{type_answer_found, type_answer_only}
use Rattle.api_listing.proofs.descriptor.parse_field_descriptor.Goals as goal

pub returns-clause-found : goal.returns-clause-found
returns-clause-found c = type_answer_found c.args.desc.now c.whole_type.result c.whole_type.ensures

pub returns-clause-only : goal.returns-clause-only
returns-clause-only c = type_answer_only c.args.desc.now c.whole_type.result c.whole_type.ensures

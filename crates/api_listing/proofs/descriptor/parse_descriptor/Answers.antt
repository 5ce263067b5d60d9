use Rattle.api_listing.proofs.DescriptorLaws.{answer_found, answer_only}
use Rattle.api_listing.proofs.descriptor.parse_descriptor.Goals as goal

pub returns-clause-found : goal.returns-clause-found
returns-clause-found c = answer_found c.args.desc.now c.method_type.result c.method_type.ensures

pub returns-clause-only : goal.returns-clause-only
returns-clause-only c = answer_only c.args.desc.now c.method_type.result c.method_type.ensures

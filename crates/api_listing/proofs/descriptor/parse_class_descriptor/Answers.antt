use Rattle.std.specs.Prelude.{option_copied}
use Rattle.api_listing.proofs.DescriptorLaws.{class_answer_found, class_answer_none}
use Rattle.api_listing.proofs.descriptor.parse_class_descriptor.Goals as goal

pub returns-clause-found : goal.returns-clause-found
returns-clause-found c = class_answer_found c.args.desc.now (option_copied c.class_described.result) c.class_described.ensures

pub returns-clause-none : goal.returns-clause-none
returns-clause-none c = class_answer_none c.args.desc.now (option_copied c.class_described.result) c.class_described.ensures

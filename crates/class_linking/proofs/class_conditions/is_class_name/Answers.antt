use Rattle.api_listing.specs.Words.{is_class_name}
use Rattle.class_linking.proofs.ClassLoop.{same_true}
use Rattle.class_linking.proofs.class_conditions.is_class_name.Goals as goal

pub returns : goal.returns
returns c = same_true c.class_name.result (is_class_name c.args.name.now) c.class_name.ensures

use Rattle.command_inputs.specs.GenWords.{gen_named}
use Rattle.inliner_tool.proofs.Loading.{loads, stops}
use Rattle.inliner_tool.proofs.load.make_load.Goals as goal

pub returns-in-Ok-clause-makes : goal.returns-in-Ok-clause-makes
returns-in-Ok-clause-makes c =
    loads (gen_named c.args.words.now) c.in_ok-inputs.inputs c.in_ok-inputs.ensures.is c.in_ok-main.main c.in_ok-main.ensures c.in-Ok.ready c.loaded_made.result c.in-Ok.ensures.plans c.loaded_made.ensures

pub returns-clause-makes : goal.returns-clause-makes
returns-clause-makes c =
    stops (gen_named c.args.words.now) c.in_ok-inputs.inputs c.in_ok-inputs.ensures.is c.in_ok-main.main c.in_ok-main.ensures c.in-Err.ended c.in-Err.ensures.plans

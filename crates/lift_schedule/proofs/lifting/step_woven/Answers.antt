use Rattle.std.proofs.Common.{◌∙◌, sym}
use Rattle.guest_erasing.specs.Lifting.{most_steps}
use Rattle.lift_schedule.specs.Lifting.{blocks_in}
use Rattle.lift_schedule.specs.Running.{goes}
use Rattle.lift_schedule.specs.Standing.{table_goes, thread_count}
use Rattle.lift_schedule.proofs.Climbing.{lifted_same}
use Rattle.lift_schedule.proofs.Tables.{table_counts, table_tells}
use Rattle.lift_schedule.proofs.lifting.step_woven.Goals as goal

pub returns-in-Ok : goal.returns-in-Ok
returns-in-Ok g c =
    let client = g.S.Steps.program c.args.of.now.client.now in
    let woven = g.S.Steps.program c.args.of.now.woven.now in
    let sites = blocks_in c.args.of.now.policy.now c.args.of.now.mode in
    let table = c.args.standings.now in
    sym (lifted_same woven c.args.index (λ way. table_goes way table) (goes sites client woven) (thread_count table) (most_steps sites client woven)
    (λ way machine number. table_tells sites client woven way machine number table c.requires) (λ machine number. table_counts sites client woven machine number table c.requires)
    c.args.step c.args.run.now) ∙ c.in-Ok.ensures

pub returns-in-Err : goal.returns-in-Err
returns-in-Err g c = λ other.
    let client = g.S.Steps.program c.args.of.now.client.now in
    let woven = g.S.Steps.program c.args.of.now.woven.now in
    let sites = blocks_in c.args.of.now.policy.now c.args.of.now.mode in
    let table = c.args.standings.now in
    sym (lifted_same woven c.args.index (λ way. table_goes way table) (goes sites client woven) (thread_count table) (most_steps sites client woven)
    (λ way machine number. table_tells sites client woven way machine number table c.requires) (λ machine number. table_counts sites client woven machine number table c.requires)
    c.args.step c.args.run.now) ∙ c.in-Err.ensures other

use Rattle.guest_replay.proofs.Runs.{replays_are_runs}
use Rattle.guest_replay.proofs.replaying.replays_are_runs.Goals as goal

pub returns : goal.returns
returns c = record { runs = replays_are_runs }

use Rattle.event_record.proofs.RunLines.{Laws, lines_of_runs_are_told, records_of_runs_again}
use Rattle.event_record.proofs.writing.lines_of_runs_are_told.Goals as goal

pub returns : goal.returns
returns c =
    let laws : Laws = record {
      enabled = c.steps_are_enabled.ensures.enabled;
      one = c.steps_add_one.ensures.one;
      own = c.events_are_of_their_thread.ensures.own;
      words = c.numbers_are_of_32_bits.ensures.given;
      shown = c.steps_add_one.ensures.shown;
      range = c.sees_numbers_in_range.ensures.sees;
      given = c.sees_what_is_given.ensures.sees;
      listed = c.sees_what_is_given.ensures.listed;
    } in
    record { told = lines_of_runs_are_told laws; again = records_of_runs_again laws }

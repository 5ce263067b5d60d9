-- What a sink in memory is seen as, and what a call makes of it. (docs/PROMISES.md)
use Rattle.std.specs.Prelude.{ℕ, List, ◌++◌, Bool, ◌==◌}
use Rattle.std.specs.List.{list_any}
use Rattle.mon_store.specs.Store.{one_more}

-- Its text, the numbers of the calls that fail, and how many calls and faults there were.
pub record SinkState : Type 0 where
  pub text : List ℕ
  pub fail : List ℕ
  pub calls : ℕ
  pub faults : ℕ

-- Is the next call one of those that fail?
abbrev pub is_failing : SinkState → Bool
is_failing sink = list_any (λ number. number == sink.calls) sink.fail

-- the sink after a call that took this piece
abbrev pub passed : SinkState → List ℕ → SinkState
passed sink piece = record sink { text = sink.text ++ piece; calls = one_more sink.calls }

-- the sink after a call that failed
abbrev pub failed : SinkState → SinkState
failed sink = record sink { calls = one_more sink.calls; faults = one_more sink.faults }

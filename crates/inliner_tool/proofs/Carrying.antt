-- How a command comes to its outcome: what it makes of its files is written, and then answered.
use Rattle.std.proofs.Common.{◌≡◌, inl, inr, ℕ, ◌≤◌, List, Result, Ok, Err, sym, ap, ◌∙◌, arith, ⊎_elim}
use Rattle.std.specs.Prelude.{IfOk}
use Rattle.api_shelf.specs.Shelf.{View}
use Rattle.command_inputs.specs.InlineWords.{NamedInline}
use Rattle.command_inputs.specs.ReplayWords.{NamedReplay}
use Rattle.command_inputs.specs.GenWords.{NamedGen}
use Rattle.command_inputs.specs.Words.{Check, Gen, Inline, Lift, Load, NamedCheck, NamedCommand, NamedRun, Policy, Race, Replay, Run, Show}
use Rattle.command_inputs.specs.declared.files.Stop.{Stop}
use Rattle.command_inputs.specs.declared.files.Stop.TheVariants as stops
use Rattle.command_inputs.specs.Forms.{Count, Then, Yields, since}
use Rattle.command_inputs.specs.Told.{IsSo}
use Rattle.mon_store.specs.Outputs.{all_written}
use Rattle.mon_store.specs.Store.{Files, Rose}
use Rattle.inliner_tool.specs.declared.answer.Answer.{Answer}
use Rattle.inliner_tool.specs.declared.answer.Made.{Made}
use Rattle.inliner_tool.specs.declared.refusal.Ended.{Ended}
use Rattle.inliner_tool.specs.declared.refusal.Ended.TheVariants as ends
use Rattle.inliner_tool.specs.Commands.{Makes, readings_of}
use Rattle.inliner_tool.specs.Inline.{IsInlined, IsReadyToWrite}
use Rattle.inliner_tool.specs.Load.{IsLoaded, IsReadyToLoad}
use Rattle.inliner_tool.specs.Replay.{ReplayedRuns}
use Rattle.inliner_tool.specs.Run.{IsKept, Told}
use Rattle.inliner_tool.specs.Seen.{Seen}
use Rattle.inliner_tool.specs.Steps.{Reading, Step, UnlessMemory, stopped}
use Rattle.inliner_tool.specs.Tool.{Holds}
use Rattle.inliner_tool.specs.Writing.{Begins, CarriesOut, HaveBegun, Untouched, Writes}
use Rattle.inliner_tool.proofs.Planning.{later}

-- ---- reading

-- What was read of told files is what they are.
module _ {A B : Type 0} (Reads : Result A Stop → Type 0) (read : Result A Stop) (so : (r : Result A Stop) → Reads r → IsSo read r) (Second : A → Step B → Type 0) where
  stops_so : (e : Ended) → (e ≡ ends.Memory → ⊥) → (stop : Stop) → Reads (Err stop) → e ≡ stopped stop → Reading (λ r. r ≡ read) (Err e)
  stops_so e other (stops.Input name fault) reads is = (stops.Input name fault, sym (so (Err (stops.Input name fault)) reads), is)
  stops_so e other (stops.Unread name) reads is = (stops.Unread name, sym (so (Err (stops.Unread name)) reads), is)
  stops_so e other stops.Memory reads is = absurd (other is)

  pub told_so : (step : Step B) → (step ≡ Err ends.Memory → ⊥) → Then (Reading Reads) Second step → Then (Reading (λ r. r ≡ read)) Second step
  told_so (Ok b) other (inputs, reads, second) = (inputs, sym (so (Ok inputs) reads), second)
  told_so (Err e) other (inl (stop, reads, is)) = inl (stops_so e (λ same. other (ap (λ (x : Ended). Err x) same)) stop reads is)
  told_so (Err e) other (inr (inputs, reads, second)) = inr (inputs, sym (so (Ok inputs) reads), second)

-- ---- what does not depend on the faults that were counted

pub made_still : (files new after : Files) (count again : Count) (named : NamedCommand) (made : Made) → Makes (readings_of (record { old = files; new = new; count = count })) named (Ok made)
    → Makes (readings_of (record { old = files; new = after; count = again })) named (Ok made)
made_still files new after count again (Check named) made makes = makes
made_still files new after count again (Show named) made makes = makes
made_still files new after count again (Policy named) made makes = makes
made_still files new after count again (Race named) made makes = makes
made_still files new after count again (Inline named) made makes = makes
made_still files new after count again (Replay named) made makes = makes
made_still files new after count again (Lift named) made makes = makes
made_still files new after count again (Gen named) made makes = makes
made_still files new after count again (Load named) made makes = makes
made_still files new after count again (Run named) made makes = makes

pub holds_still : (files new after : Files) (count again : Count) (named : NamedCheck) → Holds (record { old = files; new = new; count = count }) named → Holds (record { old = files; new = after; count = again }) named
holds_still files new after count again named h = record { inputs = h.inputs; read = h.read; encodes = h.encodes; checked = h.checked }

pub runs_still : (files new after : Files) (count again : Count) (named : NamedReplay) → ReplayedRuns (record { old = files; new = new; count = count }) named → ReplayedRuns (record { old = files; new = after; count = again }) named
runs_still files new after count again named r = record { inputs = r.inputs; read = r.read; run = r.run }

pub kept_still : (files new after : Files) (count again : Count) (named : NamedRun) (slots : List View) (told : Told) → IsKept (record { old = files; new = new; count = count }) named slots told
    → IsKept (record { old = files; new = after; count = again }) named slots told
kept_still files new after count again named slots told k = record { inputs = k.inputs; read = k.read; is = k.is }

-- What was ready is written.
pub inlined_so : (files new after : Files) (count again : Count) (named : NamedInline) (made : Made) → IsReadyToWrite (record { old = files; new = new; count = count }) named made
    → after ≡ all_written files made.outputs → IsInlined (record { old = files; new = after; count = again }) named
inlined_so files new after count again named made r written =
    record { inputs = r.inputs; read = r.read; woven = record { ready = r.ready; planned = r.planned; written = written ∙ ap (λ (m : Made). all_written files m.outputs) r.is } }

pub inlined_if : (files middle new : Files) (count again whole : Count) (named : NamedInline) (made : Made) → IsReadyToWrite (record { old = files; new = middle; count = count }) named made → middle ≡ files
    → (r : Step Answer) → UnlessMemory (Writes (record { old = middle; new = new; count = again }) made) r → IfOk r (λ (answer : Answer). IsInlined (record { old = files; new = new; count = whole }) named)
inlined_if files middle new count again whole named made ready same (Ok answer) writes =
    inlined_so files middle new count whole named made ready (writes.1 ∙ ap (λ (f : Files). all_written f made.outputs) same)
inlined_if files middle new count again whole named made ready same (Err e) writes = tt

-- So it is of what was to be loaded.
pub loaded_if : (files middle new : Files) (again whole : Count) (named : NamedGen) (made : Made) → IsReadyToLoad named made → middle ≡ files
    → (r : Step Answer) → UnlessMemory (Writes (record { old = middle; new = new; count = again }) made) r → IfOk r (λ (answer : Answer). IsLoaded (record { old = files; new = new; count = whole }) named)
loaded_if files middle new again whole named made r same (Ok answer) writes = record {
  inputs = r.inputs;
  bundled = r.bundled;
  woven = record {
    ready = r.ready;
    planned = r.planned;
    written = writes.1 ∙ ap (λ (f : Files). all_written f made.outputs) same ∙ ap (λ (m : Made). all_written files m.outputs) r.is;
  };
}
loaded_if files middle new again whole named made ready same (Err e) writes = tt

-- ---- one after the other

rose_since : (first mid now : ℕ) → first ≤ mid → Rose mid now → Rose first now
rose_since first mid now le (inl less) = inl (omega (arith, le, less))
rose_since first mid now le (inr top) = inr top

writes_since : (files new : Files) (first mid now : ℕ) (last : List ℕ) → first ≤ mid → (made : Made) (result : Step Answer) → UnlessMemory (Writes (record { old = files; new = new; count = since mid now last }) made) result
    → UnlessMemory (Writes (record { old = files; new = new; count = since first now last }) made) result
writes_since files new first mid now last le made (Ok answer) is = is
writes_since files new first mid now last le made (Err e) (inl (name, is, stops, caused)) = inl (name, is, stops, record { rose = rose_since first mid now le caused.rose; named = caused.named })
writes_since files new first mid now last le made (Err e) (inr memory) = inr memory

-- where nothing is made
pub ends_so : (seen : Seen) (named : NamedCommand) (e : Ended) → seen.new ≡ seen.old → UnlessMemory (Makes (readings_of seen) named) (Err e) → UnlessMemory (CarriesOut seen named) (Err e)
ends_so seen named e same told = ⊎_elim (λ h. inl (inl (h, same))) (λ h. inr h) told

-- where what was made is written
pub carries_on : (files middle new : Files) (first mid now : ℕ) (before last : List ℕ) → first ≤ mid → (named : NamedCommand) (made : Made)
    → Makes (readings_of (record { old = files; new = middle; count = since first mid before })) named (Ok made) → (result : Step Answer)
    → UnlessMemory (Writes (record { old = files; new = new; count = since mid now last }) made) result → UnlessMemory (CarriesOut (record { old = files; new = new; count = since first now last }) named) result
carries_on files middle new first mid now before last le named made makes result writes =
    let whole : Seen = record { old = files; new = new; count = since first now last } in
    later (Untouched whole (Makes (readings_of whole) named)) (Writes whole) made (made_still files middle new (since first mid before) (since first now last) named made makes) result
    (writes_since files new first mid now last le made result writes)

pub begins_so : (files middle new : Files) (first mid now : ℕ) (before last : List ℕ) (named : NamedCommand) (made : Made)
    → Makes (readings_of (record { old = files; new = middle; count = since first mid before })) named (Ok made)
    → HaveBegun (record { old = files; new = new; count = since mid now last }) made.outputs → Begins (record { old = files; new = new; count = since first now last }) named
begins_so files middle new first mid now before last named made makes begun = inr (made, made_still files middle new (since first mid before) (since first now last) named made makes, begun)

-- ---- without a fault of the store

-- What is made is answered.
pub no_rise_so : (seen : Seen) (named : NamedCommand) → (Rose seen.count.before seen.count.now → ⊥) → (step : Step Answer) → CarriesOut seen named step
    → Then (Makes (readings_of seen) named) (λ made. Yields made.answer) step
no_rise_so seen named no_rise (Ok answer) (made, makes, (is, written)) = (made, makes, is)
no_rise_so seen named no_rise (Err e) (inl (makes, same)) = inl makes
no_rise_so seen named no_rise (Err e) (inr (made, makes, (name, is, stops, caused))) = absurd (no_rise caused.rose)

-- Writing several files, one after the other.
use Rattle.std.proofs.Common.{◌≡◌, ℕ, List, [], ◌∷◌, ◌++◌, Err, refl, sym, ap, subst, ◌∙◌, append_assoc}
use Rattle.mon_store.specs.declared.outputs.Output.{Output}
use Rattle.mon_store.specs.declared.outputs.WriteFault.{WriteFault}
use Rattle.mon_store.specs.declared.outputs.WriteFault.TheVariants.{Failed, Memory}
use Rattle.mon_store.specs.Outputs.{Stands, StopsAt, WritesOne, all_written}
use Rattle.mon_store.specs.Store.{Files, IsTorn, written}

-- These are left of the files that are to be written, and those before them are written.
pub record HaveWritten (old : Files) (outputs left : List Output) (now : Files) : Type 0 where
  pub before : List Output
  pub whole : outputs ≡ before ++ left
  pub stands : now ≡ all_written old before

all_written-push : (files : Files) (outputs : List Output) (output : Output) → all_written files (outputs ++ output ∷ []) ≡ written (all_written files outputs) output.name output.bytes
all_written-push files [] output = refl
all_written-push files (first ∷ outputs) output = all_written-push (written files first.name first.bytes) outputs output

module _ (old : Files) (outputs left : List Output) (output : Output) (later : List Output) (apart : left ≡ output ∷ later) (now new : Files) (had : HaveWritten old outputs left now) where
  whole : outputs ≡ had.before ++ output ∷ later
  whole = had.whole ∙ ap (λ (l : List Output). had.before ++ l) apart

  pub one_written : new ≡ written now output.name output.bytes → HaveWritten old outputs later new
  one_written is = record {
    before = had.before ++ output ∷ [];
    whole = whole ∙ sym (append_assoc had.before (output ∷ []) later);
    stands = is ∙ ap (λ (f : Files). written f output.name output.bytes) had.stands ∙ sym (all_written-push old had.before output);
  }

  stops : (name : List ℕ) → output.name ≡ name → IsTorn now new output.name output.bytes → StopsAt old outputs name new
  stops name named torn = record {
    before = had.before;
    output = output;
    later = later;
    whole = whole;
    named = named;
    torn = subst (λ (f : Files). IsTorn f new output.name output.bytes) had.stands torn;
  }

  -- the file at which the writing stops
  pub one_stops : (fault : WriteFault) → WritesOne {A = Unit {0}} now output (Err fault) new → Stands {A = Unit {0}} old outputs (Err fault) new
  one_stops (Failed name) is = stops name is.0 is.1
  one_stops Memory is = (output.name, stops output.name refl is)

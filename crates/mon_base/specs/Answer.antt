-- How a call answers what a definition gives: want of memory alone is free. `memory` is the fault that tells it.
-- (docs/ARCHITECTURE.md)
use Rattle.std.specs.Prelude.{◌≡◌, ◌≢◌, Result, Ok, Err}
use Rattle.mon_base.specs.Reading.{Place}

-- A fault is the one that is given, unless memory ran out.
abbrev pub Fails : {X E : Type 0} → E → E → Result X E → Type 0
Fails memory fault given = fault ≢ memory → given ≡ Err fault

-- An answer is the one that is given, unless memory ran out.
abbrev pub Answers : {X E : Type 0} → E → Result X E → Result X E → Type 0
Answers memory (Ok x) given = given ≡ Ok x
Answers memory (Err fault) given = Fails memory fault given

-- the same of an answer that is seen by view
abbrev pub AnswersAs : {X Y E : Type 0} → E → (X → Y) → Result X E → Result Y E → Type 0
AnswersAs memory view (Ok x) given = given ≡ Ok (view x)
AnswersAs memory view (Err fault) given = Fails memory fault given

-- An answer, and the place after what was read, are those that are given, unless memory ran out.
abbrev pub Reads : {X E : Type 0} → E → Result X E → Result (X × Place) E → Place → Type 0
Reads memory (Ok x) given new = given ≡ Ok (x, new)
Reads memory (Err fault) given new = Fails memory fault given

-- the same of an answer that is seen by view
abbrev pub ReadsAs : {X Y E : Type 0} → E → (X → Y) → Result X E → Result (Y × Place) E → Place → Type 0
ReadsAs memory view (Ok x) given new = given ≡ Ok (view x, new)
ReadsAs memory view (Err fault) given new = Fails memory fault given

-- A fault that is told is this one, unless memory ran out.
abbrev pub TellsFault : {E : Type 0} → E → E → E → Type 0
TellsFault memory told fault = told ≢ memory → told ≡ fault

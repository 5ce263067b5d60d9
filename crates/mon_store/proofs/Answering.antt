-- What a told store answers follows from when each answer comes.
use Rattle.std.proofs.Common.{◌≡◌, ◌⊎◌, ◌<◌, ◌≤◌, ◌+◌, ℕ, List, length, true, false, nat_le, Option, Some, None, Result, Ok, Err, IfSome, IsSomeAnd, IfOk, IsErrOf, inl, inr, refl, ap, subst, ◌∙◌, arith}
use Rattle.std.proofs.lemmas.Bool.Decides.{nat_tests}
use Rattle.mon_store.specs.Store.{Files, Rose, Caused, HasFile, OfFile, Lacks}
use Rattle.mon_store.proofs.StoreLaws.{Rose-since, Caused-since}
use Rattle.mon_store.specs.Read.{Answers, Asked, answer_for}
use Rattle.mon_store.specs.declared.read.ReadFault.{ReadFault}
use Rattle.mon_store.specs.declared.read.ReadFault.TheVariants.{Absent, Failed, TooLong, Memory}

no_longer : (file : Option (List ℕ)) (n limit len : ℕ) → IsSomeAnd file (λ bytes. n ≡ length bytes) → n ≤ limit
    → len ≡ limit + 1 → IfSome file (λ bytes. len ≤ length bytes) → IsSomeAnd file (λ bytes. len ≡ length bytes)
no_longer None n limit len has le is long = has
no_longer (Some bytes) n limit len has le is long = absurd (omega arith)

has_no_longer : (files : Files) (name : List ℕ) (n limit len : ℕ) → HasFile files name (λ bytes. n ≡ length bytes)
    → n ≤ limit → len ≡ limit + 1 → OfFile files name (λ bytes. len ≤ length bytes)
    → HasFile files name (λ bytes. len ≡ length bytes)
has_no_longer None name n limit len has le is long = tt
has_no_longer (Some told) name n limit len has le is long = no_longer (told name) n limit len has le is long

-- a file whose size is within the limit does not go on past it
pub HasFile-no_longer : (before now : Files) (name : List ℕ) (n limit len : ℕ) → now ≡ before
    → HasFile before name (λ bytes. n ≡ length bytes) → n ≤ limit → len ≡ limit + 1
    → OfFile now name (λ bytes. len ≤ length bytes) → HasFile before name (λ bytes. len ≡ length bytes)
HasFile-no_longer before now name n limit len same has le is long =
    has_no_longer before name n limit len has le is (subst (λ (f : Files). OfFile f name (λ bytes. len ≤ length bytes)) same long)

answer_ok : (file : Option (List ℕ)) (limit : ℕ) (b : List ℕ) → IsSomeAnd file (λ bytes. b ≡ bytes) → length b ≤ limit
    → Ok b ≡ answer_for file limit
answer_ok None limit b has le = absurd has
answer_ok (Some bytes) limit b has le =
    let test : nat_le (length bytes) limit ≡ true = let e = ap length has in grind (arith, nat_tests) in
    rw (test, has) refl

answer_too_long : (file : Option (List ℕ)) (limit len : ℕ)
    → (limit < len) × IsSomeAnd file (λ bytes. len ≡ length bytes) → Err (TooLong len) ≡ answer_for file limit
answer_too_long None limit len long = absurd long.1
answer_too_long (Some bytes) limit len long =
    let above = long.0 in
    let is = long.1 in
    let test : nat_le (length bytes) limit ≡ false = grind (arith, nat_tests) in
    rw (test, is) refl

answer_absent : (file : Option (List ℕ)) (limit : ℕ) → file ≡ None → Err Absent ≡ answer_for file limit
answer_absent file limit lacks = rw lacks refl

told_answer : (told : List ℕ
    → Option (List ℕ)) (name : List ℕ) (limit : ℕ) (result : Result (List ℕ) ReadFault) (otherwise : Type 0)
    → IfOk result (λ b. HasFile (Some told) name (λ bytes. b ≡ bytes))
    → IfOk result (λ b. length b ≤ limit)
    → (IsErrOf result Failed → otherwise)
    → (IsErrOf result Absent → otherwise ⊎ Lacks (Some told) name)
    → (IsErrOf result Memory → otherwise)
    → ((len : ℕ) → IsErrOf result (TooLong len) → (limit < len) × HasFile (Some told) name (λ bytes. len ≡ length bytes))
    → Answers (Some told) name limit result otherwise
told_answer told name limit (Ok b) otherwise ok within failed absent memory long = inl (answer_ok (told name) limit b ok within)
told_answer told name limit (Err Absent) otherwise ok within failed absent memory long =
    elim (absent refl) [ inl reason ↦ inr reason | inr lacks ↦ inl (answer_absent (told name) limit lacks) ]
told_answer told name limit (Err Failed) otherwise ok within failed absent memory long = inr (failed refl)
told_answer told name limit (Err (TooLong len)) otherwise ok within failed absent memory long =
    inl (answer_too_long (told name) limit len (long len refl))
told_answer told name limit (Err Memory) otherwise ok within failed absent memory long = inr (memory refl)

by_cases : (files : Files) (name : List ℕ) (limit : ℕ) (result : Result (List ℕ) ReadFault) (otherwise : Type 0)
    → IfOk result (λ b. HasFile files name (λ bytes. b ≡ bytes))
    → IfOk result (λ b. length b ≤ limit)
    → (IsErrOf result Failed → otherwise)
    → (IsErrOf result Absent → otherwise ⊎ Lacks files name)
    → (IsErrOf result Memory → otherwise)
    → ((len : ℕ) → IsErrOf result (TooLong len) → (limit < len) × HasFile files name (λ bytes. len ≡ length bytes))
    → Answers files name limit result otherwise
by_cases None name limit result otherwise ok within failed absent memory long = tt
by_cases (Some told) name limit result otherwise ok within failed absent memory long =
    told_answer told name limit result otherwise ok within failed absent memory long

-- what a read after a size within the limit answers is the answer for the file
pub Answers-after_size : (before now : Files) (name : List ℕ) (size limit : ℕ) (result : Result (List ℕ) ReadFault)
    (first second third : ℕ) (last : List ℕ)
    → now ≡ before
    → first ≤ second
    → HasFile before name (λ bytes. size ≡ length bytes)
    → size ≤ limit
    → IfOk result (λ b. HasFile now name (λ bytes. b ≡ bytes))
    → IfOk result (λ b. length b ≤ limit)
    → (IsErrOf result Failed → Caused second third last name)
    → (IsErrOf result Absent → Caused second third last name ⊎ Lacks now name)
    → ((len : ℕ) → IsErrOf result (TooLong len) → (len ≡ limit + 1) × OfFile now name (λ bytes. len ≤ length bytes))
    → Answers before name limit result (Rose first third ⊎ IsErrOf result Memory)
Answers-after_size before now name size limit result first second third last same le has within_limit ok within failed absent long =
    by_cases before name limit result (Rose first third ⊎ IsErrOf result Memory)
    (subst (λ (f : Files). IfOk result (λ b. HasFile f name (λ bytes. b ≡ bytes))) same ok)
    within
    (λ is. inl (Rose-since first second third le (failed is).rose))
    (λ is. elim (absent is) [
      | inl caused ↦ inl (inl (Rose-since first second third le caused.rose))
      | inr lacks ↦ inr (subst (λ (f : Files). Lacks f name) same lacks)
    ])
    (λ is. inr is)
    (λ len is.
    let it = long len is in
    let past = it.0 in
    (omega arith, HasFile-no_longer before now name size limit len same has within_limit past it.1))

-- what was asked of a store later was asked of it since the first count, whose files it had
pub Asked-since : {X Y : Type 0} (old now new : Files) (first second third : ℕ) (last name : List ℕ)
    (later : Result X ReadFault) (result : Result Y ReadFault)
    → now ≡ old → first ≤ second
    → (IsErrOf result Failed → IsErrOf later Failed) → (IsErrOf result Absent → IsErrOf later Absent)
    → Asked now new second third last name later → Asked old new first third last name result
Asked-since old now new first second third last name later result same le failed absent asked = record {
  files = asked.files ∙ same;
  faults = let since = asked.faults in omega arith;
  failed = λ is. Caused-since first second third last name le (asked.failed (failed is));
  absent = λ is. elim (asked.absent (absent is)) [
    | inl caused ↦ inl (Caused-since first second third last name le caused)
    | inr lacks ↦ inr (subst (λ (f : Files). Lacks f name) same lacks)
  ];
}

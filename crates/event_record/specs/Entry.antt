-- The lines of a record, each by itself: how its words are read. (docs/RECORDS.md)
use Rattle.std.specs.Prelude.{ℕ, ◌-◌, ◌==◌, ◌||◌, ◌&&◌, Bool, true, false, nat_lt, bytes_eq, codes, List, [], ◌∷◌, ◌++◌, length, drop, Option, Some, None, Ok, Err, ok_or, if◌then◌else◌}
use Rattle.std.specs.Option.{option_map_or}
use Rattle.mon_base.specs.Reading.{◌>>=◌, need}
use Rattle.mon_base.specs.declared.method.MethodId.{MethodId}
use Rattle.api_listing.specs.Fault.{Read}
use Rattle.api_listing.specs.declared.events.ApiAnswer.{ApiAnswer}
use Rattle.api_listing.specs.declared.events.ApiAnswer.TheVariants as answers
use Rattle.api_listing.specs.declared.events.ApiValue.{ApiValue}
use Rattle.api_listing.specs.declared.events.Event.TheVariants.{Call, Return, Except}
use Rattle.api_listing.specs.declared.fault.FormFault.TheVariants.{NoForm}
use Rattle.event_record.specs.declared.entry.Entry.{Entry}
use Rattle.event_record.specs.declared.entry.Entry.TheVariants.{Go, Answer, Seen, End}
use Rattle.event_record.specs.Library.{Library}
use Rattle.event_record.specs.Number.{number_of, int_of, index_of, as_count}
use Rattle.event_record.specs.Value.{value_at, hex_at}

abbrev pub is : List ℕ → List ℕ → Bool
is word text = bytes_eq word text

abbrev pub listed_index : List ℕ → Read ℕ
listed_index word = ok_or (index_of word) NoForm

-- ---- steps

-- plain steps of a thread, at least one
unfoldable pub go_line : List ℕ → List ℕ → List (List ℕ) → Read Entry
go_line thread count rest = do
  t ← listed_index thread
  n ← listed_index count
  ended ← need (nat_lt 0 n && length rest == 0) NoForm
  Ok (Go t n)

-- an answer of one word
unfoldable pub bare_answer : List ℕ → Read ApiAnswer
bare_answer kind =
    if is kind (codes "nothing") then Ok answers.Nothing
    else if is kind (codes "null") then Ok answers.Null
    else if is kind (codes "receiver") then Ok answers.Receiver
    else Err NoForm

-- an answer with a word after it; its classes are known
unfoldable pub int_answer : List ℕ → Read ApiAnswer
int_answer word = ok_or (int_of word) NoForm >>= λ n. Ok (answers.Int n)

unfoldable pub text_answer : List ℕ → Read ApiAnswer
text_answer word = hex_at word >>= λ bytes. Ok (answers.Text bytes)

unfoldable pub fresh_answer : Library → List ℕ → Read ApiAnswer
fresh_answer library word = need (library.knows word) NoForm >>= λ known. Ok (answers.Fresh word)

unfoldable pub throws_answer : Library → List ℕ → Read ApiAnswer
throws_answer library word = need (library.knows word) NoForm >>= λ known. Ok (answers.Throws word)

unfoldable pub arg_answer : List ℕ → Read ApiAnswer
arg_answer word = listed_index word >>= λ i. Ok (answers.Arg i)

unfoldable pub answer_with : Library → List ℕ → List ℕ → Read ApiAnswer
answer_with library kind word =
    if is kind (codes "int") then int_answer word
    else if is kind (codes "text") then text_answer word
    else if is kind (codes "fresh") then fresh_answer library word
    else if is kind (codes "arg") then arg_answer word
    else if is kind (codes "throws") then throws_answer library word
    else Err NoForm

unfoldable pub answer_of : Library → List ℕ → List (List ℕ) → Read ApiAnswer
answer_of library kind [] = bare_answer kind
answer_of library kind (word ∷ []) = answer_with library kind word
answer_of library kind (word ∷ other ∷ rest) = Err NoForm

unfoldable pub answer_line : Library → List ℕ → List ℕ → List (List ℕ) → Read Entry
answer_line library thread kind rest = do
  t ← listed_index thread
  a ← answer_of library kind rest
  Ok (Answer t a)

-- ---- events

-- the values after these
abbrev pub values_from : List ApiValue → List (List ℕ) → Read (List ApiValue)
values_from values [] = Ok values
values_from values (word ∷ words) = value_at word >>= λ value. values_from (values ++ value ∷ []) words

-- The descriptor is that of a method without a result.
abbrev pub gives_nothing : List ℕ → Bool
gives_nothing desc = is (drop (length desc - 2) desc) (codes ")V")

unfoldable pub result_of : Bool → List (List ℕ) → Read (Option ApiValue)
result_of void [] = if void then Ok None else Err NoForm
result_of void (word ∷ []) = if void then Err NoForm else (value_at word >>= λ value. Ok (Some value))
result_of void (word ∷ other ∷ rest) = Err NoForm

unfoldable pub call_event : ℕ → ℕ → List (List ℕ) → Read Entry
call_event thread method values = values_from [] values >>= λ args. Ok (Seen (Call thread method args))

unfoldable pub return_event : ℕ → ℕ → Bool → List (List ℕ) → Read Entry
return_event thread method void values = result_of void values >>= λ value. Ok (Seen (Return thread method value))

unfoldable pub except_event : ℕ → ℕ → List (List ℕ) → Read Entry
except_event thread method values = need (length values == 0) NoForm >>= λ ended. Ok (Seen (Except thread method))

unfoldable pub event_of : List ℕ → ℕ → ℕ → Bool → List (List ℕ) → Read Entry
event_of verb thread method void values =
    if is verb (codes "call") then call_event thread method values
    else if is verb (codes "return") then return_event thread method void values
    else if is verb (codes "except") then except_event thread method values
    else Err NoForm

abbrev pub id_of : List ℕ → List ℕ → List ℕ → MethodId
id_of class name desc = record { class = class; name = name; desc = desc }

-- an event of a method of the library
unfoldable pub method_event : Library → List ℕ → List ℕ → MethodId → List (List ℕ) → Read Entry
method_event library verb thread id values = do
  t ← listed_index thread
  m ← ok_or (library.finds id) NoForm
  event_of verb t m (gives_nothing id.desc) values

unfoldable pub event_line : Library → List ℕ → List ℕ → List ℕ → List (List ℕ) → Read Entry
event_line library verb thread class (name ∷ desc ∷ values) = method_event library verb thread (id_of class name desc) values
event_line library verb thread class rest = Err NoForm

-- ---- the end

-- a word that is the end line's second, where it has three
abbrev pub is_end : List ℕ → Bool
is_end kind =
    is kind (codes "finished") || (is kind (codes "deadlock") || (is kind (codes "budget") || (is kind (codes "device") || is kind (codes "running"))))

abbrev pub is_count : List ℕ → Bool
is_count word = option_map_or as_count (number_of word) false

abbrev pub is_int : List ℕ → Bool
is_int word = option_map_or (λ n. true) (int_of word) false

abbrev pub ends : List ℕ → List ℕ → List (List ℕ) → Bool
ends kind second [] = is_end kind && is_count second
ends kind second (third ∷ []) = is kind (codes "stopped") && (is_int second && is_count third)
ends kind second (third ∷ other ∷ rest) = false

unfoldable pub end_line : List ℕ → List ℕ → List (List ℕ) → Read Entry
end_line kind second rest = need (ends kind second rest) NoForm >>= λ so. Ok End

-- ---- any line

unfoldable pub line_of : Library → List ℕ → List ℕ → List ℕ → List (List ℕ) → Read Entry
line_of library verb second third rest =
    if is verb (codes "go") then go_line second third rest
    else if is verb (codes "answer") then answer_line library second third rest
    else if is verb (codes "end") then end_line second third rest
    else event_line library verb second third rest

-- what the words of a line tell
unfoldable pub entry_of : Library → List (List ℕ) → Read Entry
entry_of library (verb ∷ second ∷ third ∷ rest) = line_of library verb second third rest
entry_of library words = Err NoForm

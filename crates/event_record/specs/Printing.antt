-- Values and events as they are printed. (docs/RECORDS.md)
use Rattle.std.specs.Prelude.{◌≡◌, ◌≢◌, ◌<◌, ◌^◌, FitsSigned, ℕ, ◌++◌, decimal, codes, true, false, List, [], ◌∷◌, map, Option, Some, None, slice_get}
use Rattle.std.specs.Int.{w32}
use Rattle.std.specs.List.{AllByRecursion, flat_map}
use Rattle.std.specs.Option.{option_map_or}
use Rattle.api_listing.specs.declared.events.ApiValue.{ApiValue}
use Rattle.api_listing.specs.declared.events.ApiValue.TheVariants.{Int, Null, Text, Obj, Class}
use Rattle.api_listing.specs.declared.events.Event.{Event}
use Rattle.api_listing.specs.declared.events.Event.TheVariants.{Call, Return, Except}
use Rattle.api_listing.specs.declared.types.ListedMethod.{ListedMethod}
use Rattle.mon_base.specs.declared.method.MethodId.{MethodId}
use Rattle.guest_model.specs.Seeing.{thread_of}
use Rattle.event_record.specs.Entry.{gives_nothing}
use Rattle.event_record.specs.Library.{Library}
use Rattle.event_record.specs.Value.{value_word}

-- a space and a word
abbrev pub following : List ℕ → List ℕ
following word = 32 ∷ word

abbrev pub value_after : ApiValue → List ℕ
value_after value = following (value_word value)

abbrev pub result_after : Option ApiValue → List ℕ
result_after None = []
result_after (Some value) = value_after value

abbrev pub method_after : ListedMethod → List ℕ
method_after m = following m.id.class ++ following m.id.name ++ following m.id.desc

-- the class, name and descriptor of the method with this index
abbrev pub named_after : List ListedMethod → ℕ → List ℕ
named_after methods method = option_map_or method_after (slice_get methods method) []

abbrev pub head_text : List ℕ → ℕ → List ListedMethod → ℕ → List ℕ
head_text verb thread methods method = verb ++ following (decimal thread) ++ named_after methods method

abbrev pub event_text : List ListedMethod → Event → List ℕ
event_text methods (Call thread method args) = head_text (codes "call") thread methods method ++ flat_map value_after args
event_text methods (Return thread method value) = head_text (codes "return") thread methods method ++ result_after value
event_text methods (Except thread method) = head_text (codes "except") thread methods method

-- the event without its thread
abbrev pub threadless_text : List ListedMethod → Event → List ℕ
threadless_text methods (Call thread method args) = codes "call" ++ named_after methods method ++ flat_map value_after args
threadless_text methods (Return thread method value) = codes "return" ++ named_after methods method ++ result_after value
threadless_text methods (Except thread method) = codes "except" ++ named_after methods method

-- the line of an event
abbrev pub event_line : List ListedMethod → Event → List ℕ
event_line methods event = event_text methods event ++ 10 ∷ []

-- ---- what can be printed and read again

-- The word has no space and no newline.
abbrev pub HasNoBreak : List ℕ → Type 0
HasNoBreak word = AllByRecursion (λ b. (b ≢ 32) × (b ≢ 10)) word

-- Its numbers have 32 bits, its bytes are bytes, and its class is a word without a break, and not empty.
abbrev pub IsValue : ApiValue → Type 0
IsValue (Int n) = FitsSigned w32 n
IsValue Null = Unit {0}
IsValue (Text bytes) = AllByRecursion (λ b. b < 256) bytes
IsValue (Obj class at) = (class ≢ []) × HasNoBreak class × (at < 2 ^ 32)
IsValue (Class class) = (class ≢ []) × HasNoBreak class

abbrev pub result_words : Option ApiValue → List (List ℕ)
result_words None = []
result_words (Some value) = value_word value ∷ []

-- the words of an event of the method
abbrev pub event_words : MethodId → Event → List (List ℕ)
event_words id (Call thread method args) = codes "call" ∷ decimal thread ∷ id.class ∷ id.name ∷ id.desc ∷ map value_word args
event_words id (Return thread method value) = codes "return" ∷ decimal thread ∷ id.class ∷ id.name ∷ id.desc ∷ result_words value
event_words id (Except thread method) = codes "except" ∷ decimal thread ∷ id.class ∷ id.name ∷ id.desc ∷ []

abbrev pub method_listed : Event → ℕ
method_listed (Call thread method args) = method
method_listed (Return thread method value) = method
method_listed (Except thread method) = method

-- A method without a result gives none, and any other gives a value.
abbrev pub IsGiven : List ℕ → Event → Type 0
IsGiven desc (Call thread method args) = AllByRecursion IsValue args
IsGiven desc (Return thread method None) = gives_nothing desc ≡ true
IsGiven desc (Return thread method (Some value)) = (gives_nothing desc ≡ false) × IsValue value
IsGiven desc (Except thread method) = Unit {0}

-- The event is one of the method, which the library has under its index.
pub record IsEventOf (library : Library) (id : MethodId) (event : Event) : Type 0 where
  pub there : library.finds id ≡ Some (method_listed event)
  pub numbered : thread_of event < 2 ^ 32
  pub given : IsGiven id.desc event

-- The class, the name and the descriptor are words without a break.
pub record IsInWords (id : MethodId) : Type 0 where
  pub class : HasNoBreak id.class
  pub name : HasNoBreak id.name
  pub desc : HasNoBreak id.desc

-- The handlers of an exception table, found by spans of 64 instructions. (docs/LINKING.md)
use Rattle.std.specs.Prelude.{◌≡◌, ℕ, ◌/◌, ◌^◌, ◌<◌, ◌⊎◌, length, false, List, [], ◌∷◌, ◌++◌, get_or, slice_get, filter, filter_map}
use Rattle.bytecode_model.specs.declared.program.Handler.{Handler}
use Rattle.bytecode_model.specs.Rules.{covers}

-- the places that are listed for the span of an instruction
abbrev pub places_near : List (List ℕ) → ℕ → List ℕ
places_near spans at = get_or spans (at / 64) []

-- the handlers at these places of a table
abbrev pub handlers_at : List Handler → List ℕ → List Handler
handlers_at table places = filter_map (slice_get table) places

-- Near each instruction all handlers are listed that cover it, in the table's order.
abbrev pub AreListed : List (List ℕ) → List Handler → Type 0
AreListed spans table = (at : ℕ) → filter (covers at) (handlers_at table (places_near spans at)) ≡ filter (covers at) table

-- A place has 32 bits.
pub record IsTable (spans : List (List ℕ)) (table : List Handler) : Type 0 where
  pub few : length table < 2 ^ 32
  pub listed : AreListed spans table

-- The place of a handler is listed after the others near each instruction that it covers.
abbrev pub IsAdded : Handler → ℕ → List (List ℕ) → List (List ℕ) → Type 0
IsAdded handler place old new =
    (at : ℕ) → (places_near new at ≡ places_near old at ++ place ∷ []) ⊎ ((covers at handler ≡ false) × (places_near new at ≡ places_near old at))

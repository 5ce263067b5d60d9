-- Pairs of digits.
use Rattle.std.proofs.Common.{◌≡◌, ℕ, ◌-◌, ◌≤◌, List, [], ◌∷◌, ◌++◌, length, get_or, take, drop, Ok, refl, sym, ap, ◌∙◌, arith}
use Rattle.std.proofs.lemmas.List.{take_all}
use Rattle.mon_base.specs.Reading.{◌>>=◌}
use Rattle.api_listing.specs.Fault.{Read}
use Rattle.event_record.specs.Value.{byte_at, bytes_from}

-- the first two of a list, and the others
pub two_front : (xs : List ℕ) → 2 ≤ length xs → xs ≡ get_or xs 0 0 ∷ get_or xs 1 0 ∷ take (length xs - 2) (drop 2 xs)
two_front [] long = absurd (omega arith)
two_front (x ∷ []) long = absurd (omega arith)
two_front (x ∷ y ∷ xs) long =
    let all : take (length (x ∷ y ∷ xs) - 2) xs ≡ xs = take_all (length (x ∷ y ∷ xs) - 2) xs (omega arith) in
    rw all refl

-- one byte more
pub byte_more : (bytes left rest : List ℕ) (high low b : ℕ) (total : Read (List ℕ)) → left ≡ high ∷ low ∷ rest → byte_at high low ≡ Ok b → bytes_from bytes left ≡ total → bytes_from (bytes ++ b ∷ []) rest ≡ total
byte_more bytes left rest high low b total split read before =
    sym (ap (λ (r : Read ℕ). r >>= λ x. bytes_from (bytes ++ x ∷ []) rest) read) ∙ ap (bytes_from bytes) (sym split) ∙ before

-- Where a loop stands that takes items of one length.
use Rattle.std.proofs.Common.{◌≡◌, ℕ, ◌+◌, ◌*◌, List, [], ◌∷◌, ◌++◌, length, add-one, arith}
use Rattle.std.proofs.Math.Nat.{mul-suc}
use Rattle.std.proofs.lemmas.List.{length-append}

-- Where the items of front were taken, and one more.
pub counts_on : {X : Type 0} (len : ℕ) (front : List X) (x : X) (start at next : ℕ) → at ≡ start + len * length front
    → next ≡ at + len → next ≡ start + len * length (front ++ x ∷ [])
counts_on len front x start at next here moved =
    let more : length (front ++ x ∷ []) ≡ length front + 1 = length-append front (x ∷ []) in
    let all : len * (length front + 1) ≡ len * length front + len = rw add-one (mul-suc len (length front)) in
    rw more (rw all (omega arith))

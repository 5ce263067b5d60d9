-- A file that is read piece by piece: what was read is its front, and all of it once a piece is empty.
use Rattle.std.proofs.Common.{◌≡◌, ◌<◌, ◌≤◌, ◌+◌, ◌-◌, ℕ, List, ◌++◌, length, take, drop, Option, Some, None, IfSome, IsSomeAnd, ap, subst, arith, length-append}
use Rattle.std.proofs.Math.Seq.{take-add}
use Rattle.std.proofs.lemmas.List.{length-take-le, length-take}
use Rattle.mon_store.specs.Store.{Files, HasFile, OfFile, Copies}
use Rattle.mon_store.specs.Read.{Begins}

-- the front grows by the piece that was copied
grown : (bytes front into new : List ℕ) (n : ℕ) → Copies bytes (length front) n into → n ≤ length into → new ≡ front ++ take n into → front ≡ take (length front) bytes → new ≡ take (length new) bytes
grown bytes front into new n copies le is begins =
    let len : length new ≡ length front + n = omega (arith, ap length is, length-append front (take n into), length-take-le n into le) in
    let same : take (length new) bytes ≡ take (length front + n) bytes = ap (λ k. take k bytes) len in
    let parts = take-add (length front) n bytes in
    let piece = copies.same in
    cc

grown_in : (file : Option (List ℕ)) (front into new : List ℕ) (n : ℕ) → IsSomeAnd file (λ bytes. Copies bytes (length front) n into) → n ≤ length into → new ≡ front ++ take n into → IfSome file (λ bytes. front ≡ take (length front) bytes) → IfSome file (λ bytes. new ≡ take (length new) bytes)
grown_in None front into new n copies le is begins = tt
grown_in (Some bytes) front into new n copies le is begins = grown bytes front into new n copies le is begins

pub Begins-grown : (files : Files) (name front into new : List ℕ) (at n : ℕ) → at ≡ length front → HasFile files name (λ bytes. Copies bytes at n into) → n ≤ length into → new ≡ front ++ take n into → Begins files name front → Begins files name new
Begins-grown None name front into new at n here copies le is begins = tt
Begins-grown (Some told) name front into new at n here copies le is begins =
    grown_in (told name) front into new n (subst (λ (k : ℕ). IsSomeAnd (told name) (λ bytes. Copies bytes k n into)) here copies) le is begins

-- What a caller of several calls wants of them: a fault that was counted late was counted since the first call, and a
-- file that was written is there.
use Rattle.std.proofs.Common.{◌≤◌, ℕ, List, inl, inr, arith}
use Rattle.mon_store.specs.Store.{Rose, Caused}

-- what rose since a later count rose since the first
pub Rose-since : (first second third : ℕ) → first ≤ second → Rose second third → Rose first third
Rose-since first second third le (inl rose) = inl (omega arith)
Rose-since first second third le (inr top) = inr top

pub Caused-since : (first second third : ℕ) (last name : List ℕ) → first ≤ second → Caused second third last name
    → Caused first third last name
Caused-since first second third last name le caused =
    record { rose = Rose-since first second third le caused.rose; named = caused.named }

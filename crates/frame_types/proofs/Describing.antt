-- The types that a descriptor tells, one after the other.
use Rattle.std.proofs.Common.{◌≡◌, ℕ, zero, suc, ◌+◌, ◌-◌, ◌<◌, ◌≤◌, List, [], ◌∷◌, Some, None, refl, arith}
use Rattle.bytecode_model.specs.Described.{Descriptor, next_type, types_at}

-- with i of n types after, one more
pub types_some : (n i : ℕ) (text : List ℕ) (r : Descriptor × List ℕ) → i < n → next_type text ≡ Some r → types_at (n - i) text ≡ r.0 ∷ types_at (n - (i + 1)) r.1
unfolding types_at
types_some n i text r less e =
    let k : n - i ≡ suc (n - (i + 1)) = omega arith in
    rw (k, e) refl

pub types_end : (n : ℕ) (text : List ℕ) → next_type text ≡ None → types_at n text ≡ []
unfolding types_at
types_end zero text e = refl
types_end (suc n) text e = rw e refl

pub types_over : (n i : ℕ) (text : List ℕ) → n ≤ i → types_at (n - i) text ≡ []
unfolding types_at
types_over n i text less =
    let none : n - i ≡ 0 = omega arith in
    rw none refl

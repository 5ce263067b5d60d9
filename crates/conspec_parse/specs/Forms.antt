-- The forms in which tokens are read, one after another. (docs/POLICIES.md)
use Rattle.std.specs.Prelude.{ℕ, zero, suc, Bool, List, length, drop, nat_le, Option, ok_or, Ok, Err, if◌then◌else◌}
use Rattle.mon_base.specs.Reading.{◌>>=◌}
use Rattle.conspec_tokens.specs.declared.token.Token.{Token}
use Rattle.conspec_tokens.specs.Front.{front_at, is_next, next_name, next_number}
use Rattle.conspec_parse.specs.declared.fault.PolicyFault.TheVariants.{Syntax}
use Rattle.conspec_parse.specs.Fault.{Judged}

-- what is read at the front of the tokens, and the tokens after it
abbrev pub Parsed : Type 0 → Type 0
Parsed X = Judged (X × List Token)

-- The tokens after this keyword or sign, which has to stand first.
abbrev pub following : List ℕ → List Token → Judged (List Token)
following text tokens = if is_next text tokens then Ok (drop 1 tokens) else Err (Syntax (front_at tokens))

-- a token that has to stand first
abbrev pub taken : {X : Type 0} → Option X → List Token → Parsed X
taken found tokens = ok_or found (Syntax (front_at tokens)) >>= λ x. Ok (x, drop 1 tokens)

abbrev pub name_at : List Token → Parsed (List ℕ)
name_at tokens = taken (next_name tokens) tokens

abbrev pub number_at : List Token → Parsed ℕ
number_at tokens = taken (next_number tokens) tokens

-- At most 64 bytes are not too many for a name.
abbrev pub is_short : List ℕ → Bool
is_short name = nat_le (length name) 64

-- As long as more of them stand here, but at most n times: another part, onto what was read before.
unfoldable pub repeated : {S : Type 0} → (List Token → Bool) → (S → List Token → Parsed S) → ℕ → S → List Token → Parsed S
repeated more part zero done tokens = Ok (done, tokens)
repeated more part (suc n) done tokens = if more tokens then (part done tokens >>= λ r. repeated more part n r.0 r.1) else Ok (done, tokens)

-- as many parts as stand here: each has a token at least
abbrev pub each : {S : Type 0} → (List Token → Bool) → (S → List Token → Parsed S) → S → List Token → Parsed S
each more part done tokens = repeated more part (length tokens) done tokens

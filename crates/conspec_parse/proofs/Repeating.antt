-- Parts that are read as long as more of them stand there, as loops do.
use Rattle.std.proofs.Common.{◌≡◌, ℕ, suc, ◌+◌, ◌-◌, ◌<◌, ◌≤◌, Bool, true, false, List, Ok, Err, refl, sym, ◌∙◌, arith}
use Rattle.conspec_tokens.specs.declared.token.Token.{Token}
use Rattle.conspec_parse.specs.declared.fault.PolicyFault.{PolicyFault}
use Rattle.conspec_parse.specs.declared.fault.PolicyFault.TheVariants as faults
use Rattle.mon_base.specs.Answer.{Fails}
use Rattle.conspec_parse.specs.Forms.{Parsed, repeated}

pub again : {S : Type 0} (more : List Token → Bool) (part : S → List Token → Parsed S) (n i : ℕ) (done next : S) (left rest : List Token) (total : Parsed S)
    → i < n → more left ≡ true → part done left ≡ Ok (next, rest) → repeated more part (n - i) done left ≡ total → repeated more part (n - (i + 1)) next rest ≡ total
unfolding repeated
again more part n i done next left rest total lt goes read so_far =
    let k : n - i ≡ suc (n - (i + 1)) = omega arith in
    let step : repeated more part (n - i) done left ≡ repeated more part (n - (i + 1)) next rest = rw (k, goes, read) refl in
    sym step ∙ so_far

pub stops : {S : Type 0} (more : List Token → Bool) (part : S → List Token → Parsed S) (n i : ℕ) (done : S) (left : List Token) (total : Parsed S)
    → i < n → more left ≡ false → repeated more part (n - i) done left ≡ total → total ≡ Ok (done, left)
unfolding repeated
stops more part n i done left total lt ended so_far =
    let k : n - i ≡ suc (n - (i + 1)) = omega arith in
    let step : repeated more part (n - i) done left ≡ Ok (done, left) = rw (k, ended) refl in
    sym so_far ∙ step

pub all_read : {S : Type 0} (more : List Token → Bool) (part : S → List Token → Parsed S) (n i : ℕ) (done : S) (left : List Token) (total : Parsed S)
    → n ≤ i → repeated more part (n - i) done left ≡ total → total ≡ Ok (done, left)
unfolding repeated
all_read more part n i done left total le so_far =
    let k : n - i ≡ 0 = omega arith in
    let step : repeated more part (n - i) done left ≡ Ok (done, left) = rw k refl in
    sym so_far ∙ step

failing : {S : Type 0} (more : List Token → Bool) (part : S → List Token → Parsed S) (n i : ℕ) (done : S) (left : List Token) (total : Parsed S) (e : PolicyFault)
    → i < n → more left ≡ true → part done left ≡ Err e → repeated more part (n - i) done left ≡ total → total ≡ Err e
unfolding repeated
failing more part n i done left total e lt goes failed so_far =
    let k : n - i ≡ suc (n - (i + 1)) = omega arith in
    let step : repeated more part (n - i) done left ≡ Err e = rw (k, goes, failed) refl in
    sym so_far ∙ step

pub fails : {S : Type 0} (more : List Token → Bool) (part : S → List Token → Parsed S) (n i : ℕ) (done : S) (left : List Token) (total : Parsed S) (e : PolicyFault)
    → i < n → more left ≡ true → Fails faults.Memory e (part done left) → repeated more part (n - i) done left ≡ total → Fails faults.Memory e total
fails more part n i done left total e lt goes failed so_far is_told = failing more part n i done left total e lt goes (failed is_told) so_far

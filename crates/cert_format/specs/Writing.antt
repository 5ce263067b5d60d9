-- Which certificates are too long to be written. (docs/CERTIFICATES.md)
use Rattle.std.specs.Prelude.{◌≡◌, ℕ, ◌<◌, ⊤}
use Rattle.cert_format.specs.declared.fault.CertLong.{CertLong}
use Rattle.cert_format.specs.declared.fault.CertLong.TheVariants.{Certificate, Memory}

-- The fault tells the length, and it is more than 67,108,864; or memory ran out.
abbrev pub IsTooLong : CertLong → ℕ → Type 0
IsTooLong (Certificate value) len = (value ≡ len) × (67108864 < len)
IsTooLong Memory len = ⊤

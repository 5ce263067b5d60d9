-- Which types are those of objects that are not made yet. (The Java Virtual Machine Specification, section 4.10.2.4.)
use Rattle.std.specs.Prelude.{Bool, true, false}
use Rattle.cert_format.specs.declared.typing.VType.{VType}
use Rattle.cert_format.specs.declared.typing.VType.TheVariants as types

abbrev pub is_unmade : VType → Bool
is_unmade types.UninitThis = true
is_unmade (types.Uninit at) = true
is_unmade other = false

-- Types that are borrowed, and the type that each is. (docs/TYPING.md)
use Rattle.cert_format.specs.declared.typing.VType.{VType}
use Rattle.cert_format.specs.declared.typing.VType.TheVariants as types
use Rattle.bytecode_model.specs.declared.borrowing.TypeRef.{TypeRef}
use Rattle.bytecode_model.specs.declared.borrowing.TypeRef.TheVariants as borrowed
use Rattle.bytecode_model.specs.Arrays.{array_of}

abbrev pub type_borrowed : TypeRef → VType
type_borrowed borrowed.Top = types.Top
type_borrowed borrowed.Int = types.Int
type_borrowed borrowed.Null = types.Null
type_borrowed (borrowed.Ref name) = types.Ref name.now
type_borrowed (borrowed.Shared name) = types.Ref name.now
type_borrowed (borrowed.ArrayOf item) = types.Ref (array_of item.now)
type_borrowed borrowed.UninitThis = types.UninitThis
type_borrowed (borrowed.Uninit at) = types.Uninit at

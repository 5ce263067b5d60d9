-- The first code of a method is short.
use Rattle.std.proofs.Common.{◌≡◌, ◌≤◌, ◌<◌, ◌^◌, List, [], ◌∷◌, true, length, Some, subst}
use Rattle.std.specs.List.{slice_get, filter_map, AllByRecursion}
use Rattle.class_codec.specs.declared.tree.Const.{Const}
use Rattle.class_codec.specs.declared.tree.Code.{Code}
use Rattle.class_codec.specs.declared.tree.Attr.{Attr}
use Rattle.class_codec.specs.declared.tree.Attr.TheVariants as attributes
use Rattle.class_codec.specs.Fits.{FitsAttr}
use Rattle.bytecode_model.specs.Conditions.{code_in}

-- the first code of a method has few bytes
pub code_short : (pool : List Const) (attrs : List Attr) (code : Code) → AllByRecursion (FitsAttr pool true) attrs → slice_get (filter_map code_in attrs) 0 ≡ Some code → length code.code ≤ 65535
code_short pool [] code fits e = absurd cc
code_short pool (attributes.Code c ∷ attrs) code fits e =
    let same : c ≡ code = cc in
    subst (λ (x : Code). length x.code ≤ 65535) same fits.0.1.short
code_short pool (attributes.Other o ∷ attrs) code fits e = code_short pool attrs code fits.1 e

-- and few handlers
pub code_few : (pool : List Const) (attrs : List Attr) (code : Code) → AllByRecursion (FitsAttr pool true) attrs → slice_get (filter_map code_in attrs) 0 ≡ Some code → length code.table < 2 ^ 16
code_few pool [] code fits e = absurd cc
code_few pool (attributes.Code c ∷ attrs) code fits e =
    let same : c ≡ code = cc in
    subst (λ (x : Code). length x.table < 2 ^ 16) same fits.0.1.table.count
code_few pool (attributes.Other o ∷ attrs) code fits e = code_few pool attrs code fits.1 e

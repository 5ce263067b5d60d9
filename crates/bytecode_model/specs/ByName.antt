-- Maps by names. (docs/TYPING.md)
use Rattle.std.specs.Prelude.{ℕ, List, Option, Vec}
use Rattle.std.specs.Ordering.{nat_cmp}
use Rattle.std.specs.Cmp.Lexicographic.{slice_cmp}
use Rattle.std.specs.BTreeMap.{BTreeMap, get_by}
use Rattle.std.specs.Global.{Global}

-- what is noted by the name
abbrev pub noted : {X : Type 0} → BTreeMap (Vec ℕ Global) X → List ℕ → Option X
noted names name = get_by (λ (k : Vec ℕ Global). slice_cmp nat_cmp name k.items) names

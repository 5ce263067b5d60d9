-- A pool to which entries were added can be encoded, if it is not too long.
use Rattle.std.proofs.Common.{◌≡◌, ℕ, zero, suc, Bool, true, false, List, [], ◌∷◌, ◌++◌, Option, Some, None, refl, sym, ap, ◌∙◌}
use Rattle.std.specs.Prelude.{slice_get, ◌||◌, ◌==◌}
use Rattle.std.specs.List.{AllByRecursion}
use Rattle.class_codec.specs.declared.pool.ConstKind.{ConstKind}
use Rattle.class_codec.specs.declared.pool.ConstKind.TheVariants as kinds
use Rattle.class_codec.specs.declared.tree.Const.{Const}
use Rattle.class_codec.specs.declared.tree.Const.TheVariants as constants
use Rattle.class_codec.specs.declared.tree.TableEntry.{TableEntry}
use Rattle.class_codec.specs.declared.tree.Other.{Other}
use Rattle.class_codec.specs.declared.tree.Code.{Code}
use Rattle.class_codec.specs.declared.tree.Attr.{Attr}
use Rattle.class_codec.specs.declared.tree.Attr.TheVariants as attributes
use Rattle.class_codec.specs.declared.tree.Member.{Member}
use Rattle.class_codec.specs.Pool.{is_of, is_one_of, names, utf8_at, text_of}
use Rattle.class_codec.specs.Fits.{FitCounted, IsNamed, IsIndex, FitsTableEntry, FitsOther, FitsCode, FitsAttr, FitsMember, is_read_as_code}

-- ---- what stays as the pool grows

pub get_on : {X : Type 0} (xs ys : List X) (i : ℕ) (x : X) → slice_get xs i ≡ Some x → slice_get (xs ++ ys) i ≡ Some x
get_on [] ys i x e = absurd cc
get_on (y ∷ xs) ys zero x e = e
get_on (y ∷ xs) ys (suc i) x e = get_on xs ys i x e

one_of : (kind : ConstKind) (o : Option Const) → is_one_of kind o ≡ true → (c : Const) × ((o ≡ Some c) × (is_of kind c ≡ true))
one_of kind None e = absurd cc
one_of kind (Some c) e = (c, (refl, e))

-- an index names what it named
pub names_on : (kind : ConstKind) (pool more : List Const) (i : ℕ) → names kind pool i ≡ true → names kind (pool ++ more) i ≡ true
unfolding names
names_on kind pool more i e =
    let one = one_of kind (slice_get pool i) e in
    ap (is_one_of kind) (get_on pool more i one.0 one.1.0) ∙ one.1.1

pub utf8_on : (pool more : List Const) (i : ℕ) → names kinds.Utf8 pool i ≡ true → utf8_at (pool ++ more) i ≡ utf8_at pool i
unfolding names utf8_at
utf8_on pool more i e =
    let one = one_of kinds.Utf8 (slice_get pool i) e in
    ap text_of (get_on pool more i one.0 one.1.0) ∙ sym (ap text_of one.1.0)

pub index_on : (kind : ConstKind) (pool more : List Const) (i : ℕ) → IsIndex kind pool i → IsIndex kind (pool ++ more) i
index_on kind pool more i x = record { fits = x.fits; named = names_on kind pool more i x.named }

pub each_on : {X : Type 0} (P Q : X → Type 0) → ((x : X) → P x → Q x) → (xs : List X) → AllByRecursion P xs → AllByRecursion Q xs
each_on P Q f [] h = tt
each_on P Q f (x ∷ xs) h = (f x h.0, each_on P Q f xs h.1)

pub counted_on : {X : Type 0} (P Q : X → Type 0) → ((x : X) → P x → Q x) → (xs : List X) → FitCounted P xs → FitCounted Q xs
counted_on P Q f xs h = record { count = h.count; each = each_on P Q f xs h.each }

pub named_on : (pool more : List Const) (c : Const) → IsNamed pool c → IsNamed (pool ++ more) c
named_on pool more (constants.Class name) h = names_on kinds.Utf8 pool more name h
named_on pool more (constants.Str text) h = names_on kinds.Utf8 pool more text h
named_on pool more (constants.Field class name) h = (names_on kinds.Class pool more class h.0, names_on kinds.NameAndType pool more name h.1)
named_on pool more (constants.Method class name) h = (names_on kinds.Class pool more class h.0, names_on kinds.NameAndType pool more name h.1)
named_on pool more (constants.IMethod class name) h = (names_on kinds.Class pool more class h.0, names_on kinds.NameAndType pool more name h.1)
named_on pool more (constants.NameAndType name desc) h = (names_on kinds.Utf8 pool more name h.0, names_on kinds.Utf8 pool more desc h.1)
named_on pool more (constants.Utf8 text) h = tt
named_on pool more (constants.Integer n) h = tt
named_on pool more (constants.Float n) h = tt
named_on pool more (constants.Long n) h = tt
named_on pool more (constants.Double n) h = tt
named_on pool more constants.Second h = tt

caught_on : (pool more : List Const) (class : ℕ) → ((class == 0) || names kinds.Class pool class) ≡ true → ((class == 0) || names kinds.Class (pool ++ more) class) ≡ true
caught_on pool more class h = by (class == 0) h
  where
    by : (b : Bool) → (b || names kinds.Class pool class) ≡ true → (b || names kinds.Class (pool ++ more) class) ≡ true
    by true e = refl
    by false e = names_on kinds.Class pool more class e

pub entry_on : (pool more : List Const) (e : TableEntry) → FitsTableEntry pool e → FitsTableEntry (pool ++ more) e
entry_on pool more e h = record { from = h.from; to = h.to; at = h.at; class = h.class; named = caught_on pool more e.class h.named }

pub other_on : (pool more : List Const) (o : Other) → FitsOther pool o → FitsOther (pool ++ more) o
other_on pool more o h = record { name = index_on kinds.Utf8 pool more o.name h.name; bytes = h.bytes }

pub code_on : (pool more : List Const) (c : Code) → FitsCode pool c → FitsCode (pool ++ more) c
code_on pool more c h = record {
  name = index_on kinds.Utf8 pool more c.name h.name;
  max_stack = h.max_stack;
  max_locals = h.max_locals;
  some = h.some;
  short = h.short;
  table = counted_on (FitsTableEntry pool) (FitsTableEntry (pool ++ more)) (entry_on pool more) c.table h.table;
  attrs = counted_on (FitsOther pool) (FitsOther (pool ++ more)) (other_on pool more) c.attrs h.attrs;
  len = h.len;
}

pub read_on : (pool more : List Const) (of_method b : Bool) (name : ℕ) → names kinds.Utf8 pool name ≡ true → is_read_as_code pool of_method name ≡ b → is_read_as_code (pool ++ more) of_method name ≡ b
read_on pool more of_method b name named h = rw (utf8_on pool more name named) h

pub attr_on : (pool more : List Const) (of_method : Bool) (a : Attr) → FitsAttr pool of_method a → FitsAttr (pool ++ more) of_method a
attr_on pool more of_method (attributes.Code c) h = (read_on pool more of_method true c.name h.1.name.named h.0, code_on pool more c h.1)
attr_on pool more of_method (attributes.Other o) h = (read_on pool more of_method false o.name h.1.name.named h.0, other_on pool more o h.1)

pub attrs_on : (pool more : List Const) (of_method : Bool) (attrs : List Attr) → FitCounted (FitsAttr pool of_method) attrs → FitCounted (FitsAttr (pool ++ more) of_method) attrs
attrs_on pool more of_method attrs h = counted_on (FitsAttr pool of_method) (FitsAttr (pool ++ more) of_method) (attr_on pool more of_method) attrs h

pub member_on : (pool more : List Const) (of_method : Bool) (m : Member) → FitsMember pool of_method m → FitsMember (pool ++ more) of_method m
member_on pool more of_method m h = record {
  flags = h.flags;
  name = index_on kinds.Utf8 pool more m.name h.name;
  desc = index_on kinds.Utf8 pool more m.desc h.desc;
  attrs = attrs_on pool more of_method m.attrs h.attrs;
}

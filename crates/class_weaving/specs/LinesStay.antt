-- Line numbers stay with their instructions. (docs/BLOCKS.md)
use Rattle.std.specs.Prelude.{◌≡◌, ℕ, ◌≤◌, ◌^◌, codes, List, length, slice_get, slice_index, Contains, Some}
use Rattle.std.specs.List.{AllByRecursion}
use Rattle.class_codec.specs.declared.tree.Attr.TheVariants as attributes
use Rattle.class_codec.specs.declared.tree.ClassFile.{ClassFile}
use Rattle.class_codec.specs.declared.tree.Code.{Code}
use Rattle.class_codec.specs.declared.tree.Const.{Const}
use Rattle.class_codec.specs.declared.tree.Member.{Member}
use Rattle.class_codec.specs.declared.tree.Other.{Other}
use Rattle.class_codec.specs.Fits.{EncodesClass}
use Rattle.insn_codec.specs.Encoding.{starts_of}
use Rattle.bytecode_model.specs.declared.program.Method.{Method}
use Rattle.bytecode_model.specs.Heads.{text_at}
use Rattle.offset_patch.specs.Lines.{Line, lines_of, table}
use Rattle.offset_patch.specs.Plan.{Plan}
use Rattle.offset_patch.specs.Splicing.{begins, fronts_of}
use Rattle.class_weaving.specs.Outcome.{Each, attrs_woven, insns_woven}
use Rattle.class_weaving.specs.Woven.{sites_of}

-- The table is whole: it has as many lines as its count tells and nothing after them, and each begins where an instruction does.
pub record IsWholeTable (method : Method) (bytes : List ℕ) (lines : List Line) : Type 0 where
  pub are : lines_of bytes ≡ Some lines
  pub begin : AllByRecursion (λ (one : Line). Contains (begins method.insns) one.0) lines

-- The line began where an instruction did, and begins at the front of that, with its number.
pub record IsLineMoved (plan : Plan) (pool : List Const) (method : Method) (old new : Line) : Type 0 where
  pub index : ℕ
  pub began : slice_get (begins method.insns) index ≡ Some old.0
  pub begins_now : new.0 ≡ slice_index (starts_of (insns_woven plan pool method)) (slice_index (fronts_of (sites_of plan method.max_locals method)) index)
  pub number : new.1 ≡ old.1

-- Of a class file that was read, which has a MiB at most, each whole table of line numbers stays with blocks.
abbrev pub LinesStay : Type 0
LinesStay =
    (bytes : List ℕ) (file : ClassFile) (member : Member) (code : Code) (attr : Other) (lines : List Line) (plan : Plan) (pool : List Const) (method : Method)
    → EncodesClass bytes file → length bytes ≤ 2 ^ 20 → Contains file.methods member → Contains member.attrs (attributes.Code code) → Contains code.attrs attr
    → text_at pool attr.name ≡ codes "LineNumberTable" → IsWholeTable method attr.bytes lines
    → (moved : List Line) × Each (IsLineMoved plan pool method) lines moved
    × Contains (attrs_woven plan pool method code.attrs) (record { name = attr.name; bytes = table moved })

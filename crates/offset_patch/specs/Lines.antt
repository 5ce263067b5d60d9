-- The line numbers of a code with blocks: each line begins at the front of the instruction at which it began.
-- (The Java Virtual Machine Specification, section 4.7.8.)
use Rattle.std.specs.Prelude.{ℕ, ◌*◌, ◌+◌, ◌-◌, ◌^◌, ◌≤◌, ◌==◌, nat_lt, ⊤, Bool, true, false, bytes_eq, codes, List, [], ◌∷◌, ◌++◌, length, slice_index, if◌then◌else◌, Option, Some, None, option_map, option_and_then}
use Rattle.std.specs.List.{flat_map, filter_map, position_from}
use Rattle.byteorder.specs.Endian.{big_bytes, big_number}
use Rattle.class_codec.specs.declared.tree.Const.{Const}
use Rattle.class_codec.specs.declared.tree.Other.{Other}
use Rattle.bytecode_model.specs.Heads.{text_at}

-- where a line begins, and its number
abbrev pub Line : Type 0
Line = ℕ × ℕ

-- ---- the attribute

abbrev pub line : Line → List ℕ
line one = big_bytes 2 one.0 ++ big_bytes 2 one.1

-- the lines after their count
abbrev pub table : List Line → List ℕ
table lines = big_bytes 2 (length lines) ++ flat_map line lines

-- four bytes are a line
unfoldable pub lines_in : List ℕ → List Line
lines_in [] = []
lines_in (a ∷ []) = []
lines_in (a ∷ b ∷ []) = []
lines_in (a ∷ b ∷ c ∷ []) = []
lines_in (a ∷ b ∷ c ∷ d ∷ bytes) = (big_number 2 (a ∷ b ∷ []), big_number 2 (c ∷ d ∷ [])) ∷ lines_in bytes

-- the lines of a table, where it has as many as its count tells and nothing is after them
abbrev pub lines_of : List ℕ → Option (List Line)
lines_of [] = None
lines_of (a ∷ []) = None
lines_of (a ∷ b ∷ bytes) = if length bytes == big_number 2 (a ∷ b ∷ []) * 4 then Some (lines_in bytes) else None

-- ---- what becomes of it

-- a line that begins where another instruction stands now
abbrev pub line_moved : (ℕ → Option ℕ) → Line → Option Line
line_moved moved one = option_map (λ start. (start, one.1)) (moved one.0)

abbrev pub before : Line → Option (List Line) → Option (List Line)
before one others = option_map (λ (lines : List Line). one ∷ lines) others

-- each, or nothing where one of them begins at no instruction
unfoldable pub lines_moved : (ℕ → Option ℕ) → List Line → Option (List Line)
lines_moved moved [] = Some []
lines_moved moved (one ∷ lines) = option_and_then (λ first. before first (lines_moved moved lines)) (line_moved moved one)

-- A table that is not whole, or one line of which begins at no instruction, is dropped.
abbrev pub table_moved : (ℕ → Option ℕ) → List ℕ → Option (List ℕ)
table_moved moved bytes = option_map table (option_and_then (lines_moved moved) (lines_of bytes))

-- Line numbers are kept; any other attribute of the code is dropped.
abbrev pub attr_kept : List Const → (ℕ → Option ℕ) → Other → Option Other
attr_kept pool moved attr =
    if bytes_eq (text_at pool attr.name) (codes "LineNumberTable") then option_map (λ bytes. record { name = attr.name; bytes = bytes }) (table_moved moved attr.bytes)
    else None

-- whether attributes have at most so many bytes, each with its name and length
abbrev pub are_within : ℕ → List Other → Bool
are_within room [] = true
are_within room (attr ∷ attrs) = if nat_lt room (6 + length attr.bytes) then false else are_within (room - (6 + length attr.bytes)) attrs

abbrev pub each_kept : List Const → (ℕ → Option ℕ) → List Other → List Other
each_kept pool moved attrs = filter_map (attr_kept pool moved) attrs

-- Line numbers are so few that four bytes count the code's attribute, or are all dropped.
abbrev pub few_attrs : List Other → List Other
few_attrs attrs = if are_within (2 ^ 31) attrs then attrs else []

abbrev pub attrs_kept : List Const → (ℕ → Option ℕ) → List Other → List Other
attrs_kept pool moved attrs = few_attrs (each_kept pool moved attrs)

-- ---- positions

-- Where the front of the instruction begins that began at this position: `olds` are the positions of the client's
-- instructions, `news` those of the code with blocks.
abbrev pub start_moved : List ℕ → List ℕ → List ℕ → ℕ → Option ℕ
start_moved olds fronts news start = option_map (λ index. slice_index news (slice_index fronts index)) (position_from (λ old. old == start) 0 olds)

-- the positions of a code, the front of each, and the positions of the code with blocks
pub record Positions : Type 0 where
  pub olds : List ℕ
  pub fronts : List ℕ
  pub news : List ℕ

abbrev pub moved_in : Positions → ℕ → Option ℕ
moved_in moves start = start_moved moves.olds moves.fronts moves.news start

-- Each number is more than the one before it, and the first at least this.
abbrev pub RiseFrom : ℕ → List ℕ → Type 0
RiseFrom least [] = ⊤
RiseFrom least (n ∷ numbers) = (least ≤ n) × RiseFrom (n + 1) numbers

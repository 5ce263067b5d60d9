-- The tables of the code are the table of the opcodes.
use Rattle.std.proofs.Common.{◌≡◌, ℕ, zero, suc, ◌<◌, ◌≤◌, nat_le, Bool, true, List, [], ◌∷◌, ◌++◌, ◌-◌, length, replicate, map, refl, ap, sym, ◌∙◌, arith}
use Rattle.std.proofs.lemmas.Bool.{leb-true}
use Rattle.std.specs.Prelude.{slice_index_or}
use Rattle.insn_codec.specs.declared.opcode.Operands.{Operands}
use Rattle.insn_codec.specs.declared.name.TheConstants.{NAMES}
use Rattle.insn_codec.specs.declared.opcode.TheConstants.{OPCODES}
use Rattle.insn_codec.specs.Opcodes.{Opcode, opcodes, opcode_at, operands_of, is_frame_only, goes_on, name_of, unknown}

abbrev columns : Opcode → Operands × Bool × Bool
columns o = (o.operands, o.is_frame_only, o.goes_on)

index_of_map : {X Y : Type 0} (f : X → Y) (xs : List X) (i : ℕ) (d : X) (e : Y) → i < length xs
    → slice_index_or (map f xs) i e ≡ f (slice_index_or xs i d)
index_of_map f [] i d e lt = absurd (omega arith)
index_of_map f (x ∷ xs) zero d e lt = refl
index_of_map f (x ∷ xs) (suc i) d e lt = index_of_map f xs i d e (omega arith)

index_past : {X : Type 0} (xs : List X) (i : ℕ) (d : X) → length xs ≤ i → slice_index_or xs i d ≡ d
index_past [] i d le = refl
index_past (x ∷ xs) zero d le = absurd (omega arith)
index_past (x ∷ xs) (suc i) d le = index_past xs i d (omega arith)

the_columns : OPCODES ≡ map columns opcodes
the_columns = refl

pub columns_of : (op : ℕ) (e : Operands × Bool × Bool) → op < 202
    → slice_index_or OPCODES op e ≡ (operands_of op, is_frame_only op, goes_on op)
unfolding opcode_at
columns_of op e lt = ap (λ (xs : List (Operands × Bool × Bool)). slice_index_or xs op e) the_columns ∙ index_of_map columns opcodes op (unknown []) e lt

abbrev padded : Opcode → ℕ × List ℕ
padded o = (length o.name, o.name ++ replicate (15 - length o.name) 32)

the_names : NAMES ≡ map padded opcodes
the_names = refl

pub name_at : (op : ℕ) (e : ℕ × List ℕ) → op < 202
    → slice_index_or NAMES op e ≡ (length (name_of op), name_of op ++ replicate (15 - length (name_of op)) 32)
unfolding opcode_at
name_at op e lt = ap (λ (xs : List (ℕ × List ℕ)). slice_index_or xs op e) the_names ∙ index_of_map padded opcodes op (unknown []) e lt

index_of_replicate : {X : Type 0} (x : X) (n i : ℕ) (d : X) → i < n → slice_index_or (replicate n x) i d ≡ x
index_of_replicate x zero i d lt = absurd (omega arith)
index_of_replicate x (suc n) zero d lt = refl
index_of_replicate x (suc n) (suc i) d lt = index_of_replicate x n i d (omega arith)

abbrev is_short : Opcode → Bool
is_short o = nat_le (length o.name) 15

all_are_short : map is_short opcodes ≡ replicate 202 true
all_are_short = refl

pub name_is_short : (op : ℕ) → op < 202 → length (name_of op) ≤ 15
unfolding opcode_at
name_is_short op lt = leb-true (length (name_of op)) 15
    (sym (index_of_map is_short opcodes op (unknown []) true lt) ∙ ap (λ (xs : List Bool). slice_index_or xs op true) all_are_short ∙ index_of_replicate true 202 op true lt)

pub no_opcode : (op : ℕ) → 202 ≤ op → opcode_at op ≡ unknown []
unfolding opcode_at
no_opcode op le = index_past opcodes op (unknown []) le

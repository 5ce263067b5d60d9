-- A code with blocks is read as the instructions that were put together.
use Rattle.std.proofs.Common.{◌≡◌, ℕ, ℤ, ◌+◌, ◌≤◌, ◌<◌, ◌^◌, Bool, true, false, List, [], ◌∷◌, length, Option, Result, Ok, Err, refl, sym, ap, ◌∙◌, FitsSigned, arith}
use Rattle.std.specs.Prelude.{nat_le}
use Rattle.std.specs.Int.{w16, w32}
use Rattle.std.specs.List.{AllByRecursion}
use Rattle.std.proofs.lemmas.Int.{ints}
use Rattle.std.proofs.lemmas.List.{length-map}
use Rattle.mon_base.specs.Reading.{◌>>=◌, need}
use Rattle.mon_base.proofs.Reading.{bind_ok, ok_is, need_ok}
use Rattle.class_codec.specs.declared.tree.Code.{Code}
use Rattle.class_codec.specs.declared.tree.Const.{Const}
use Rattle.insn_codec.specs.declared.fault.CodeOverflow.{CodeOverflow}
use Rattle.insn_codec.specs.declared.fault.CodeOverflow.TheVariants as overflows
use Rattle.insn_codec.specs.declared.insn.Insn.{Insn}
use Rattle.insn_codec.specs.declared.insn.Insn.TheVariants.{Plain, Byte, Short, Ldc, Pool, Iface, Local, Inc, Branch, GotoW, NewArray, Table, Lookup}
use Rattle.insn_codec.specs.Fits.{IsInsn, AimsWithin, Ends, Reaches, ReachFrom}
use Rattle.insn_codec.specs.Reading.{code_of}
use Rattle.insn_codec.specs.Encoding.{size, offset, starts_of, len_from, encoding}
use Rattle.insn_codec.specs.Writing.{held_by_2, held_by_4, near, far, all_far, reach, reach_from, written}
use Rattle.insn_codec.proofs.CodeLaws.{encoded_code}
use Rattle.bytecode_model.specs.declared.program.Method.{Method}
use Rattle.class_linking.proofs.Lengths.{count_len}
use Rattle.bytecode_model.specs.Sound.{IsSoundMethod}
use Rattle.offset_patch.specs.Fits.{IsSite}
use Rattle.offset_patch.specs.Plan.{Plan, IsGood}
use Rattle.offset_patch.specs.declared.block.Block.{Block}
use Rattle.offset_patch.specs.declared.fault.Size.TheVariants as sizes
use Rattle.offset_patch.specs.declared.fault.SpliceFault.{SpliceFault}
use Rattle.offset_patch.specs.Fault.{fitted, code_fitted}
use Rattle.offset_patch.specs.Splicing.{attrs_spliced, grown, fronts_of, catching, operands_needed, spliced, table_spliced, code_with, bytes_spliced, code_spliced}
use Rattle.offset_patch.proofs.CodeFits.{room_is, pool_short, rows_short, written_is}
use Rattle.offset_patch.proofs.InsnFits.{wants_there, parts_fit}
use Rattle.class_weaving.proofs.CodeCases.{with_blocks, IsPut, put_cases}
use Rattle.class_weaving.specs.Woven.{WovenCode, sites_of, locals_of, blocks_put}
use Rattle.woven_linking.proofs.Aims.{LastAlone, spliced_aims, spliced_ends}
use Rattle.class_weaving.proofs.Sites.{refs_fit}

-- ---- offsets

held_2 : (z : ℤ) → held_by_2 z ≡ true → FitsSigned w16 z
held_2 z e = grind (arith, ints)

held_4 : (z : ℤ) → held_by_4 z ≡ true → FitsSigned w32 z
held_4 z e = grind (arith, ints)

need_is : (b : Bool) (fault : CodeOverflow) → need b fault ≡ Ok tt → b ≡ true
need_is true fault e = refl
need_is false fault e = absurd cc

near_held : (starts : List ℕ) (at to : ℕ) → near starts at to ≡ Ok tt → FitsSigned w16 (offset starts at to)
unfolding near
near_held starts at to e = held_2 (offset starts at to) (need_is (held_by_2 (offset starts at to)) (overflows.Branch (offset starts at to)) e)

far_held : (starts : List ℕ) (at to : ℕ) → far starts at to ≡ Ok tt → FitsSigned w32 (offset starts at to)
unfolding far
far_held starts at to e = held_4 (offset starts at to) (need_is (held_by_4 (offset starts at to)) (overflows.Branch (offset starts at to)) e)

all_held : (starts : List ℕ) (at : ℕ) (targets : List ℕ) → all_far starts at targets ≡ Ok tt → AllByRecursion (λ to. FitsSigned w32 (offset starts at to)) targets
unfolding all_far
all_held starts at [] e = tt
all_held starts at (to ∷ targets) e =
    let one = bind_ok (far starts at to) (λ _. all_far starts at targets) tt e in
    (far_held starts at to one.1, all_held starts at targets one.2)

switch_held : (starts : List ℕ) (at other : ℕ) (targets : List ℕ) → (far starts at other >>= λ _. all_far starts at targets) ≡ Ok tt
    → FitsSigned w32 (offset starts at other) × AllByRecursion (λ to. FitsSigned w32 (offset starts at to)) targets
switch_held starts at other targets e =
    let one = bind_ok (far starts at other) (λ _. all_far starts at targets) tt e in
    (far_held starts at other one.1, all_held starts at targets one.2)

insn_held : (starts : List ℕ) (at : ℕ) (x : Insn) → reach starts at x ≡ Ok tt → Reaches starts at x
insn_held starts at (Branch op to) e = near_held starts at to e
insn_held starts at (GotoW to) e = far_held starts at to e
insn_held starts at (Table other low targets) e = switch_held starts at other targets e
insn_held starts at (Lookup other keys targets) e = switch_held starts at other targets e
insn_held starts at (Plain op) e = tt
insn_held starts at (Byte n) e = tt
insn_held starts at (Short n) e = tt
insn_held starts at (Ldc index) e = tt
insn_held starts at (Pool op index) e = tt
insn_held starts at (Iface index count) e = tt
insn_held starts at (Local op slot wide) e = tt
insn_held starts at (Inc slot by wide) e = tt
insn_held starts at (NewArray kind) e = tt

insns_held : (starts : List ℕ) (at : ℕ) (xs : List Insn) → reach_from starts at xs ≡ Ok tt → ReachFrom starts at xs
unfolding reach_from
insns_held starts at [] e = tt
insns_held starts at (x ∷ xs) e =
    let one = bind_ok (reach starts at x) (λ _. reach_from starts (at + size at x) xs) tt e in
    (insn_held starts at x one.1, insns_held starts (at + size at x) xs one.2)

-- what is written reaches its targets, and is the encoding
written_reaches : (xs : List Insn) (bytes : List ℕ) → written xs ≡ Ok bytes → ReachFrom (starts_of xs) 0 xs × (encoding xs ≡ bytes)
unfolding written
written_reaches xs bytes e =
    let one = need_ok (nat_le (len_from 0 xs) 65535) (overflows.Length (len_from 0 xs)) (λ short. reach_from (starts_of xs) 0 xs >>= λ held. Ok (encoding xs)) bytes e in
    let two = bind_ok (reach_from (starts_of xs) 0 xs) (λ held. Ok (encoding xs)) bytes one.1 in
    (insns_held (starts_of xs) 0 xs two.1, ok_is CodeOverflow (encoding xs) bytes two.2)

-- what is written of instructions that aim within themselves is read again
written_reads : (xs : List Insn) (bytes : List ℕ) → AllByRecursion IsInsn xs → AllByRecursion (AimsWithin (length xs)) xs → Ends xs → written xs ≡ Ok bytes → code_of bytes ≡ Ok xs
written_reads xs bytes each aims ends e =
    let h = written_reaches xs bytes e in
    encoded_code bytes xs (record { fits = record { each = each; targets = aims; offsets = h.0; ends = ends }; is = sym h.1 })

-- ---- a code with blocks

-- What was made of a code, by parts.
pub record IsMadeOf (pool : List Const) (method : Method) (code : Code) (locals : ℕ) (sites : List (Option Block)) (new : Code) : Type 0 where
  pub bytes : List ℕ
  pub short : length pool ≤ 65535
  pub written : written (spliced pool method.insns sites) ≡ Ok bytes
  pub is : code_with pool method code locals sites (spliced pool method.insns sites) bytes ≡ new

code_is : (class : List ℕ) (method : ℕ) (r : Result (List ℕ) CodeOverflow) (bytes : List ℕ) → code_fitted class method r ≡ Ok bytes → r ≡ Ok bytes
code_is class method (Ok x) bytes e = ap Ok (ok_is SpliceFault x bytes e)
code_is class method (Err (overflows.Length value)) bytes e = absurd cc
code_is class method (Err (overflows.Branch value)) bytes e = absurd cc
code_is class method (Err overflows.Memory) bytes e = absurd cc

pub made_of : (class : List ℕ) (number : ℕ) (pool : List Const) (method : Method) (code : Code) (locals : ℕ) (sites : List (Option Block)) (new : Code)
    → code_spliced class number pool method code locals sites ≡ Ok new → IsMadeOf pool method code locals sites new
made_of class number pool method code locals sites new e =
    let insns = spliced pool method.insns sites in
    let made : List ℕ → Code = λ bytes. code_with pool method code locals sites insns bytes in
    let last = bytes_spliced class number pool method code locals sites in
    let one = bind_ok (fitted class number sizes.Entries (length code.table + catching sites)) (λ entries. fitted class number sizes.Pool (length pool) >>= λ count. last) new e in
    let two = bind_ok (fitted class number sizes.Pool (length pool)) (λ count. last) new one.2 in
    let three = bind_ok (code_fitted class number (written insns)) (λ bytes. Ok (made bytes)) new two.2 in
    record {
      bytes = three.0;
      short = pool_short class number pool method code locals sites new e;
      written = code_is class number (written insns) three.0 three.1;
      is = ok_is SpliceFault (made three.0) new three.2;
    }

-- Each instruction is one, and control stays in the code.
pub record IsSoundCode (insns : List Insn) : Type 0 where
  pub few : length insns < 2 ^ 16
  pub each : AllByRecursion IsInsn insns
  pub targets : AllByRecursion (AimsWithin (length insns)) insns
  pub ends : Ends insns

-- What is read of a code that was woven with these blocks.
pub record IsRead (pool : List Const) (method : Method) (code : Code) (locals : ℕ) (sites : List (Option Block)) (w : WovenCode) : Type 0 where
  pub fits : AllByRecursion IsSite sites
  pub entries : w.entries ≡ grown pool sites
  pub insns : code_of w.made.code.code ≡ Ok (spliced w.entries method.insns sites)
  pub table : w.made.code.table ≡ table_spliced (starts_of (spliced w.entries method.insns sites)) sites method.handlers code.table
  pub name : w.made.code.name ≡ code.name
  pub attrs : w.made.code.attrs ≡ attrs_spliced w.entries method.insns (spliced w.entries method.insns sites) sites code.attrs
  pub max_stack : w.made.code.max_stack ≡ code.max_stack + operands_needed
  pub max_locals : w.made.code.max_locals ≡ code.max_locals + locals
  pub stack : code.max_stack + operands_needed < 2 ^ 16
  pub slots : code.max_locals + locals < 2 ^ 16
  pub rows : length w.made.code.table < 2 ^ 16
  pub sound : IsSoundCode (spliced w.entries method.insns sites)

pub put_reads : (kinds : List Bool) (plan : Plan) → IsGood kinds plan → (state : ℕ) (class : List ℕ) (number : ℕ) (pool : List Const) (method : Method) (code : Code) (w : WovenCode) → IsSoundMethod method
    → LastAlone (sites_of plan code.max_locals method) → blocks_put plan state class number pool method code (sites_of plan code.max_locals method) ≡ Ok w
    → IsRead pool method code (locals_of plan method) (sites_of plan code.max_locals method) w
put_reads kinds plan good state class number pool method code w sound last =
    put_cases plan state class number pool method code (IsRead pool method code (locals_of plan method) (sites_of plan code.max_locals method)) w of_blocks
  where
    of_blocks : (new : Code) → IsPut plan state class number pool method code new → IsRead pool method code (locals_of plan method) (sites_of plan code.max_locals method) (with_blocks plan state pool method code new)
    of_blocks new put =
        let locals = locals_of plan method in
        let sites = sites_of plan code.max_locals method in
        let all = grown pool sites in
        let roomy = room_is class number code locals put.0 in
        let h = made_of class number all method code locals sites new put.1 in
        let fit = refs_fit kinds plan good code.max_locals method.refs (omega (arith, roomy.1)) in
        let count : length sites ≡ length method.insns = length-map method.refs (plan.block code.max_locals) ∙ sound.refs in
        let each = parts_fit all (fronts_of sites) 0 method.insns sites h.short sound.insns fit (wants_there sites pool) in
        let insns = spliced all method.insns sites in
        let targets = spliced_aims all method.insns sites count sound.targets last fit in
        let ends = spliced_ends all method.insns sites count sound.ends last fit in
        let reads = written_reads insns h.bytes each targets ends h.written in
        let rows = rows_short class number all method code locals sites new put.1 in
        let few = (written_is insns h.bytes h.written).0 in
        let there : code_of new.code ≡ Ok (spliced all method.insns sites) = ap (λ (c : Code). code_of c.code) (sym h.is) ∙ reads in
        record {
          fits = fit;
          entries = refl;
          insns = there;
          table = ap (λ (c : Code). c.table) (sym h.is);
          name = ap (λ (c : Code). c.name) (sym h.is);
          attrs = ap (λ (c : Code). c.attrs) (sym h.is);
          max_stack = ap (λ (c : Code). c.max_stack) (sym h.is);
          max_locals = ap (λ (c : Code). c.max_locals) (sym h.is);
          stack = omega (arith, roomy.0);
          slots = omega (arith, roomy.1);
          rows = omega (arith, rows);
          sound = record { few = omega (arith, few, count_len 0 insns); each = each; targets = targets; ends = ends };
        }

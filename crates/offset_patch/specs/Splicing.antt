-- Blocks in the code of a method: each stands in the place of the instruction that it is for, and what goes to that
-- instruction goes to the front of its block. (docs/BLOCKS.md)
use Rattle.std.specs.Prelude.{ℕ, zero, suc, ◌+◌, ◌≤◌, ⊤, Bool, true, false, codes, is_some, List, [], ◌∷◌, ◌++◌, length, map, take, slice_index, Option, Some, None, option_and_then, Ok}
use Rattle.std.specs.List.{flat_map, filter_map, list_any, enumerate_from}
use Rattle.mon_base.specs.Reading.{◌>>=◌}
use Rattle.mon_base.specs.declared.method.MethodId.{MethodId}
use Rattle.class_codec.specs.declared.tree.Code.{Code}
use Rattle.class_codec.specs.declared.tree.Const.{Const}
use Rattle.class_codec.specs.declared.tree.Other.{Other}
use Rattle.class_codec.specs.declared.tree.TableEntry.{TableEntry}
use Rattle.insn_codec.specs.declared.insn.Insn.{Insn}
use Rattle.insn_codec.specs.declared.insn.Insn.TheVariants as insns
use Rattle.insn_codec.specs.Encoding.{starts_of}
use Rattle.insn_codec.specs.Writing.{written}
use Rattle.bytecode_model.specs.declared.program.Handler.{Handler}
use Rattle.bytecode_model.specs.declared.program.Method.{Method}
use Rattle.bytecode_model.specs.declared.program.Target.{Target}
use Rattle.bytecode_model.specs.declared.program.Target.TheVariants as target
use Rattle.offset_patch.specs.declared.block.Block.{Block}
use Rattle.offset_patch.specs.declared.block.BlockInsn.{BlockInsn}
use Rattle.offset_patch.specs.declared.block.BlockInsn.TheVariants.{Plain, Byte, Short, Local, Want, Jump, Call}
use Rattle.bytecode_model.specs.declared.origin.Origin.{Origin}
use Rattle.bytecode_model.specs.declared.origin.Origin.TheVariants as origin
use Rattle.offset_patch.specs.declared.block.PoolWant.{PoolWant}
use Rattle.offset_patch.specs.declared.block.PoolWant.TheVariants as wants
use Rattle.offset_patch.specs.declared.fault.Size.TheVariants as sizes
use Rattle.offset_patch.specs.declared.splicing.Spliced.{Spliced}
use Rattle.offset_patch.specs.Entries.{state_name, with_wants, place_in, IsThere}
use Rattle.offset_patch.specs.Fault.{Fitting, fitted, code_fitted}
use Rattle.offset_patch.specs.Lines.{attrs_kept, start_moved}

-- what stands for an instruction: its block, or the instruction alone
abbrev pub part_of : Option Block → List BlockInsn
part_of None = Call ∷ []
part_of (Some block) = block.insns

abbrev pub has_block : List (Option Block) → Bool
has_block sites = list_any is_some sites

-- ---- fronts

-- where the part of each instruction begins, and where the last one ends
abbrev pub fronts_from : ℕ → List (Option Block) → List ℕ
fronts_from at [] = at ∷ []
fronts_from at (site ∷ sites) = at ∷ fronts_from (at + length (part_of site)) sites

abbrev pub fronts_of : List (Option Block) → List ℕ
fronts_of sites = fronts_from 0 sites

-- the instruction, with each target at its front
abbrev pub aimed : List ℕ → Insn → Insn
aimed fronts (insns.Branch op to) = insns.Branch op (slice_index fronts to)
aimed fronts (insns.GotoW to) = insns.GotoW (slice_index fronts to)
aimed fronts (insns.Table other low targets) = insns.Table (slice_index fronts other) low (map (slice_index fronts) targets)
aimed fronts (insns.Lookup other keys targets) = insns.Lookup (slice_index fronts other) keys (map (slice_index fronts) targets)
aimed fronts other = other

-- ---- instructions

-- an instruction of the part, which begins at `begin`, of a client's instruction
abbrev pub put : List Const → List ℕ → ℕ → Insn → BlockInsn → Insn
put pool fronts begin own (Plain op) = insns.Plain op
put pool fronts begin own (Byte n) = insns.Byte n
put pool fronts begin own (Short n) = insns.Short n
put pool fronts begin own (Local op slot wide) = insns.Local op slot wide
put pool fronts begin own (Want op want) = insns.Pool op (place_in pool want)
put pool fronts begin own (Jump op place) = insns.Branch op (begin + place)
put pool fronts begin own Call = aimed fronts own

-- the parts one after another, of which the first begins at `begin`
abbrev pub parts_from : List Const → List ℕ → ℕ → List Insn → List (Option Block) → List Insn
parts_from pool fronts begin [] sites = []
parts_from pool fronts begin (insn ∷ others) [] = []
parts_from pool fronts begin (insn ∷ others) (site ∷ sites) =
    map (put pool fronts begin insn) (part_of site) ++ parts_from pool fronts (begin + length (part_of site)) others sites

-- the instructions with the blocks in their places
abbrev pub spliced : List Const → List Insn → List (Option Block) → List Insn
spliced pool insns sites = parts_from pool (fronts_of sites) 0 insns sites

-- How many instructions the parts have.
abbrev pub count_of : List (Option Block) → ℕ
count_of [] = 0
count_of (site ∷ sites) = length (part_of site) + count_of sites

-- What the instruction names is in the pool, and where it goes is in its part, which has so many instructions.
abbrev pub CanStand : List Const → ℕ → BlockInsn → Type 0
CanStand pool count (Want op want) = IsThere pool want
CanStand pool count (Jump op place) = place ≤ count
CanStand pool count other = ⊤

-- ---- origins

-- where an instruction of the part of the client's instruction `site` comes from
abbrev pub origin_of : ℕ → ℕ × BlockInsn → Origin
origin_of site (place, Call) = origin.Client site
origin_of site (place, other) = origin.Block site place

abbrev pub part_origins : ℕ × Option Block → List Origin
part_origins site = map (origin_of site.0) (enumerate_from 0 (part_of site.1))

abbrev pub origins_of : List (Option Block) → List Origin
origins_of sites = flat_map part_origins (enumerate_from 0 sites)

-- ---- the constant pool

abbrev pub want_of : BlockInsn → Option PoolWant
want_of (Want op want) = Some want
want_of other = None

-- what a block names in the constant pool
abbrev pub block_wants : Option Block → List PoolWant
block_wants site = filter_map want_of (part_of site)

abbrev pub wants_of : List (Option Block) → List PoolWant
wants_of sites = flat_map block_wants sites

abbrev pub grown : List Const → List (Option Block) → List Const
grown pool sites = with_wants pool (wants_of sites)

-- ---- the exception table

abbrev pub is_call : BlockInsn → Bool
is_call Call = true
is_call other = false

-- the place of the client's instruction in its part
unfoldable pub call_place : List BlockInsn → ℕ
call_place [] = zero
call_place (Call ∷ insns) = zero
call_place (insn ∷ insns) = suc (call_place insns)

-- A block that begins at `begin` catches at this place of it what its call throws, of any class.
abbrev pub own_entry : List ℕ → ℕ → List BlockInsn → ℕ → TableEntry
own_entry starts begin insns place = record {
  from = slice_index starts (begin + call_place insns);
  to = slice_index starts (begin + call_place insns + 1);
  at = slice_index starts (begin + place);
  class = 0;
}

abbrev pub caught_by : List ℕ → ℕ → List BlockInsn → Option ℕ → List TableEntry
caught_by starts begin insns None = []
caught_by starts begin insns (Some place) = own_entry starts begin insns place ∷ []

abbrev pub site_entries : List ℕ → ℕ → Option Block → List TableEntry
site_entries starts begin None = []
site_entries starts begin (Some block) = caught_by starts begin block.insns block.handler

-- those of the blocks, where the part of the first instruction begins at `begin`
abbrev pub own_entries : List ℕ → ℕ → List (Option Block) → List TableEntry
own_entries starts begin [] = []
own_entries starts begin (site ∷ sites) = site_entries starts begin site ++ own_entries starts (begin + length (part_of site)) sites

-- how many these are
abbrev pub handler_of : Option Block → Option ℕ
handler_of site = option_and_then (λ (block : Block). block.handler) site

abbrev pub catching : List (Option Block) → ℕ
catching sites = length (filter_map handler_of sites)

-- An entry covers the fronts of what it covered, where the instructions begin at these bytes.
abbrev pub moved : List ℕ → List ℕ → Handler × TableEntry → TableEntry
moved starts fronts (handler, entry) = record {
  from = slice_index starts (slice_index fronts handler.from);
  to = slice_index starts (slice_index fronts handler.to);
  at = slice_index starts (slice_index fronts handler.at);
  class = entry.class;
}

abbrev pub table_moved : List ℕ → List ℕ → List Handler → List TableEntry → List TableEntry
table_moved starts fronts [] entries = []
table_moved starts fronts (handler ∷ handlers) [] = []
table_moved starts fronts (handler ∷ handlers) (entry ∷ entries) = moved starts fronts (handler, entry) ∷ table_moved starts fronts handlers entries

-- The blocks' entries come first: what a block's call throws is caught in the block.
abbrev pub table_spliced : List ℕ → List (Option Block) → List Handler → List TableEntry → List TableEntry
table_spliced starts sites handlers entries = own_entries starts 0 sites ++ table_moved starts (fronts_of sites) handlers entries

-- ---- handlers

-- the handler with its bounds and its target at their fronts
abbrev pub at_fronts : List ℕ → Handler → Handler
at_fronts fronts handler = record {
  from = slice_index fronts handler.from;
  to = slice_index fronts handler.to;
  at = slice_index fronts handler.at;
  class = handler.class;
}

-- A block that begins at `begin` catches at this place of it what its call throws, of any class.
abbrev pub own_handler : ℕ → List BlockInsn → ℕ → Handler
own_handler begin insns place = record { from = begin + call_place insns; to = begin + call_place insns + 1; at = begin + place; class = None }

abbrev pub handlers_by : ℕ → List BlockInsn → Option ℕ → List Handler
handlers_by begin insns None = []
handlers_by begin insns (Some place) = own_handler begin insns place ∷ []

abbrev pub site_handlers : ℕ → Option Block → List Handler
site_handlers begin None = []
site_handlers begin (Some block) = handlers_by begin block.insns block.handler

-- those of the blocks, where the part of the first instruction begins at `begin`
abbrev pub own_handlers : ℕ → List (Option Block) → List Handler
own_handlers begin [] = []
own_handlers begin (site ∷ sites) = site_handlers begin site ++ own_handlers (begin + length (part_of site)) sites

-- The blocks' handlers come first.
abbrev pub handlers_with : List (Option Block) → List Handler → List Handler
handlers_with sites handlers = own_handlers 0 sites ++ map (at_fronts (fronts_of sites)) handlers

-- ---- what operands name

-- the method that stops the program
abbrev pub way_out : MethodId
way_out = record { class = codes "java/lang/System"; name = codes "exit"; desc = codes "(I)V" }

-- the place of that method in the table of the built-in ones
abbrev pub way_out_index : ℕ
way_out_index = 7

-- what an entry that a block names is, where conspec/State is the class of the index `state`
abbrev pub want_named : ℕ → PoolWant → Target
want_named state wants.StateClass = target.ClassName state_name
want_named state (wants.StateField var is_bool) = target.Field state var
want_named state wants.Exit = target.Builtin way_out_index
want_named state (wants.Integer n) = target.Number n

-- what the operand of an instruction of a part names, where that of the client's instruction names `own`
abbrev pub part_named : ℕ → Target → BlockInsn → Target
part_named state own (Want op want) = want_named state want
part_named state own Call = own
part_named state own (Plain op) = target.None
part_named state own (Byte n) = target.None
part_named state own (Short n) = target.None
part_named state own (Local op slot wide) = target.None
part_named state own (Jump op place) = target.None

-- the operands of the parts one after another
abbrev pub parts_named : ℕ → List Target → List (Option Block) → List Target
parts_named state [] sites = []
parts_named state (own ∷ refs) [] = []
parts_named state (own ∷ refs) (site ∷ sites) = map (part_named state own) (part_of site) ++ parts_named state refs sites

-- ---- a method with a block

-- how many operands a block needs beside the client's
abbrev pub operands_needed : ℕ
operands_needed = 3

-- the room that blocks need, which use this many locals at most
abbrev pub room : List ℕ → ℕ → Code → ℕ → Fitting (Unit {0})
room class method code locals = do
  stack ← fitted class method sizes.Stack (code.max_stack + operands_needed)
  fitted class method sizes.Locals (code.max_locals + locals)

-- where instructions begin, without the end of the code
abbrev pub begins : List Insn → List ℕ
begins insns = take (length insns) (starts_of insns)

-- the line numbers of the code, where its instructions are these now
abbrev pub attrs_spliced : List Const → List Insn → List Insn → List (Option Block) → List Other → List Other
attrs_spliced pool olds news sites attrs = attrs_kept pool (start_moved (begins olds) (fronts_of sites) (starts_of news)) attrs

-- the code with these instructions and bytes; of its attributes the line numbers are kept
abbrev pub code_with : List Const → Method → Code → ℕ → List (Option Block) → List Insn → List ℕ → Code
code_with pool method code locals sites insns bytes = record {
  name = code.name;
  max_stack = code.max_stack + operands_needed;
  max_locals = code.max_locals + locals;
  code = bytes;
  table = table_spliced (starts_of insns) sites method.handlers code.table;
  attrs = attrs_spliced pool method.insns insns sites code.attrs;
}

-- the code with the blocks, in a pool that has what they name, where the pool and the table fit
abbrev pub bytes_spliced : List ℕ → ℕ → List Const → Method → Code → ℕ → List (Option Block) → Fitting Code
bytes_spliced class number pool method code locals sites = do
  bytes ← code_fitted class number (written (spliced pool method.insns sites))
  Ok (code_with pool method code locals sites (spliced pool method.insns sites) bytes)

-- the code with the blocks, in a pool that has what they name
abbrev pub code_spliced : List ℕ → ℕ → List Const → Method → Code → ℕ → List (Option Block) → Fitting Code
code_spliced class number pool method code locals sites = do
  entries ← fitted class number sizes.Entries (length code.table + catching sites)
  count ← fitted class number sizes.Pool (length pool)
  bytes_spliced class number pool method code locals sites

-- ---- what splicing gives

-- the method with the blocks, as a linked program has it, where this is its code; conspec/State is the class of the index `state`
abbrev pub method_spliced : ℕ → List Const → Method → List (Option Block) → Code → Method
method_spliced state pool method sites code = record {
  flags = method.flags;
  name = method.name;
  desc = method.desc;
  max_stack = code.max_stack;
  max_locals = code.max_locals;
  insns = spliced pool method.insns sites;
  refs = parts_named state method.refs sites;
  handlers = handlers_with sites method.handlers;
}

-- the method, where its instructions come from, and its code
abbrev pub as_spliced : ℕ → List Const → Method → List (Option Block) → Code → Spliced
as_spliced state pool method sites code = record { method = method_spliced state pool method sites code; origins = origins_of sites; code = code }

-- the same with the blocks, in a pool that has what they name; or the first size that does not fit
abbrev pub splice : ℕ → List ℕ → ℕ → List Const → Method → Code → ℕ → List (Option Block) → Fitting Spliced
splice state class number pool method code locals sites = do
  new ← code_spliced class number pool method code locals sites
  Ok (as_spliced state pool method sites new)

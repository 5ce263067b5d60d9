-- The exception table of a code with blocks links to the handlers at their fronts.
use Rattle.std.proofs.Common.{◌≡◌, ℕ, zero, suc, ◌+◌, ◌<◌, ◌≤◌, Bool, true, false, List, [], ◌∷◌, length, map, Option, Some, None, Result, Ok, refl, ap, ◌∙◌, zero-add, arith}
use Rattle.std.specs.Prelude.{IfSome, slice_index, nat_lt, ◌==◌, ◌||◌, if◌then◌else◌, option_and_then}
use Rattle.std.specs.List.{AllByRecursion, position_from}
use Rattle.std.proofs.lemmas.Bool.Decides.{nat_tests}
use Rattle.mon_base.specs.Reading.{◌>>=◌}
use Rattle.mon_base.proofs.Reading.{bind_ok, ok_is}
use Rattle.class_codec.specs.declared.pool.ConstKind.TheVariants as kinds
use Rattle.class_codec.specs.declared.tree.ClassFile.{ClassFile}
use Rattle.class_codec.specs.declared.tree.Const.{Const}
use Rattle.class_codec.specs.declared.tree.TableEntry.{TableEntry}
use Rattle.class_codec.specs.Fits.{FitsPool, FitsTableEntry}
use Rattle.class_codec.specs.Pool.{names}
use Rattle.insn_codec.specs.declared.insn.Insn.{Insn}
use Rattle.insn_codec.specs.Encoding.{size, starts_from, starts_of}
use Rattle.insn_codec.proofs.Standing.{size-some}
use Rattle.api_listing.specs.declared.types.Listing.{Listing}
use Rattle.class_linking.proofs.Parts.{handler_parts}
use Rattle.class_linking.specs.declared.fault.LinkFault.{LinkFault}
use Rattle.class_linking.specs.declared.operand_fault.OperandFault.{OperandFault}
use Rattle.bytecode_model.specs.declared.program.Handler.{Handler}
use Rattle.bytecode_model.specs.declared.program.Target.{Target}
use Rattle.bytecode_model.specs.Starts.{index_at, insn_at}
use Rattle.class_linking.specs.Handlers.{caught, handler_linked, handlers_linked}
use Rattle.bytecode_model.specs.Heads.{class_at}
use Rattle.class_linking.specs.Operands.{class_linked, told_at}
use Rattle.bytecode_model.specs.Operands.{known_in}
use Rattle.bytecode_model.specs.Sound.{IsWithin}
use Rattle.offset_patch.specs.declared.block.Block.{Block}
use Rattle.offset_patch.specs.declared.block.BlockInsn.{BlockInsn}
use Rattle.offset_patch.specs.declared.block.BlockInsn.TheVariants.{Plain, Byte, Short, Local, Want, Jump, Call}
use Rattle.offset_patch.specs.Fits.{calls_in, IsSite}
use Rattle.offset_patch.specs.Splicing.{part_of, count_of, call_place, caught_by, site_entries, own_entries, table_moved}
use Rattle.offset_patch.specs.Splicing.{at_fronts, handlers_by, site_handlers, own_handlers}
use Rattle.class_weaving.specs.Outcome.{Each}
use Rattle.woven_linking.proofs.Kept.{IsLonger}
use Rattle.woven_linking.proofs.Named.{IsAdded, class_still, told_ok}
use Rattle.woven_linking.proofs.Pairs.{each_append, each_linked, linked_each}
use Rattle.woven_linking.proofs.Same.{class_longer}

-- ---- where instructions begin

start_after : (xs : List Insn) (base i : ℕ) → i ≤ length xs → base ≤ slice_index (starts_from base xs) i
unfolding starts_from
start_after [] base zero h = omega arith
start_after [] base (suc i) h = absurd (omega arith)
start_after (x ∷ xs) base zero h = omega arith
start_after (x ∷ xs) base (suc i) h = omega (arith, start_after xs (base + size base x) i (omega arith))

same_number : (n : ℕ) → (n == n) ≡ true
same_number n = grind (arith, nat_tests)

below_not : (a b : ℕ) → a < b → (a == b) ≡ false
below_not a b h = grind (arith, nat_tests)

-- the instruction that begins where one begins is that one
index_back : (xs : List Insn) (base at i : ℕ) → i ≤ length xs → position_from (λ start. start == slice_index (starts_from base xs) i) at (starts_from base xs) ≡ Some (at + i)
unfolding starts_from
index_back [] base at zero h =
    let n : at ≡ at + 0 = omega arith in
    rw (same_number base) (ap Some n)
index_back [] base at (suc i) h = absurd (omega arith)
index_back (x ∷ xs) base at zero h =
    let n : at ≡ at + 0 = omega arith in
    rw (same_number base) (ap Some n)
index_back (x ∷ xs) base at (suc i) h =
    let after = base + size base x in
    let far = start_after xs after i (omega arith) in
    let not : (base == slice_index (starts_from after xs) i) ≡ false = below_not base (slice_index (starts_from after xs) i) (omega (arith, far, size-some base x)) in
    let n : at + 1 + i ≡ at + suc i = omega arith in
    rw not (index_back xs after (at + 1) i (omega arith) ∙ ap Some n)

starts_count : (at : ℕ) (xs : List Insn) → length (starts_from at xs) ≡ length xs + 1
unfolding starts_from
starts_count at [] = refl
starts_count at (x ∷ xs) = omega (arith, starts_count (at + size at x) xs)

-- the front of an instruction, and one of an instruction or the end
there_again : (xs : List Insn) (i : ℕ) → i ≤ length xs → index_at (starts_of xs) (slice_index (starts_of xs) i) ≡ Some i
there_again xs i few = index_back xs 0 0 i few ∙ ap Some (zero-add i)

insn_again : (xs : List Insn) (i : ℕ) → i < length xs → insn_at (starts_of xs) (slice_index (starts_of xs) i) ≡ Some i
insn_again xs i few =
    let less : nat_lt (i + 1) (length (starts_of xs)) ≡ true = ap (nat_lt (i + 1)) (starts_count 0 xs) ∙ before i (length xs) few in
    ap (option_and_then (λ index. if nat_lt (index + 1) (length (starts_of xs)) then Some index else None)) (there_again xs i (omega arith)) ∙ ap (λ (b : Bool). if b then Some i else None) less
  where
    before : (a b : ℕ) → a < b → nat_lt (a + 1) (b + 1) ≡ true
    before a b h = grind (arith, nat_tests)

-- ---- a handler

abbrev IsCaught : List ClassFile → Listing → List Const → ℕ → Option (List ℕ) → Type 0
IsCaught files listing pool index c =
    ◌≡◌ {A = Result (Option (List ℕ)) OperandFault}
    (if index == 0 then Ok None else (class_linked true (known_in files listing) (class_at pool index) >>= λ (t : Target). Ok (Some (class_at pool index)))) (Ok c)

-- An entry is linked to the handler, wherever it stands.
pub record IsHandlerOf (files : List ClassFile) (listing : Listing) (pool : List Const) (starts : List ℕ) (entry : TableEntry) (h : Handler) : Type 0 where
  pub from : insn_at starts entry.from ≡ Some h.from
  pub to : index_at starts entry.to ≡ Some h.to
  pub at : insn_at starts entry.at ≡ Some h.at
  pub class : IsCaught files listing pool entry.class h.class

module _ (files : List ClassFile) (listing : Listing) (class : List ℕ) (pool : List Const) (method end : ℕ) (starts : List ℕ) where
  caught_is : (at index : ℕ) (c : Option (List ℕ)) → caught files listing class pool method at index ≡ Ok c → IsCaught files listing pool index c
  caught_is at index c e = by (index == 0) e
    where
      by : (b : Bool) → (if b then Ok None else (told_at class method at (class_linked true (known_in files listing) (class_at pool index)) >>= λ (t : Target). Ok (Some (class_at pool index)))) ≡ Ok c
          → ◌≡◌ {A = Result (Option (List ℕ)) OperandFault} (if b then Ok None else (class_linked true (known_in files listing) (class_at pool index) >>= λ (t : Target). Ok (Some (class_at pool index)))) (Ok c)
      by true f = ap Ok (ok_is LinkFault None c f)
      by false f =
          let a = bind_ok (told_at class method at (class_linked true (known_in files listing) (class_at pool index))) (λ (t : Target). Ok (Some (class_at pool index))) c f in
          let known = told_ok class method at (class_linked true (known_in files listing) (class_at pool index)) a.0 a.1 in
          rw known (ap Ok (ok_is LinkFault (Some (class_at pool index)) c a.2))

  is_caught : (at index : ℕ) (c : Option (List ℕ)) → IsCaught files listing pool index c → caught files listing class pool method at index ≡ Ok c
  is_caught at index c e = by (index == 0) e
    where
      by : (b : Bool) → ◌≡◌ {A = Result (Option (List ℕ)) OperandFault} (if b then Ok None else (class_linked true (known_in files listing) (class_at pool index) >>= λ (t : Target). Ok (Some (class_at pool index)))) (Ok c)
          → (if b then Ok None else (told_at class method at (class_linked true (known_in files listing) (class_at pool index)) >>= λ (t : Target). Ok (Some (class_at pool index)))) ≡ Ok c
      by true f = ap Ok (ok_is OperandFault None c f)
      by false f =
          let a = bind_ok (class_linked true (known_in files listing) (class_at pool index)) (λ (t : Target). Ok (Some (class_at pool index))) c f in
          rw a.1 (ap Ok (ok_is OperandFault (Some (class_at pool index)) c a.2))

  handler_of : (entry : TableEntry) (h : Handler) → handler_linked files listing class pool method end starts entry ≡ Ok h → IsHandlerOf files listing pool starts entry h
  handler_of entry h e =
      let parts = handler_parts files listing class pool method end starts entry h e in
      record { from = parts.from; to = parts.to; at = parts.at; class = caught_is end entry.class h.class parts.catches }

  of_handler : (entry : TableEntry) (h : Handler) → IsHandlerOf files listing pool starts entry h → handler_linked files listing class pool method end starts entry ≡ Ok h
  of_handler entry h e = rw (e.from, e.to, e.at, is_caught end entry.class h.class e.class) refl

  pub handlers_of : (entries : List TableEntry) (hs : List Handler) → handlers_linked files listing class pool method end starts entries ≡ Ok hs → Each (IsHandlerOf files listing pool starts) entries hs
  handlers_of entries hs e =
      each_linked (λ i. handler_linked files listing class pool method end starts) (IsHandlerOf files listing pool starts) (λ at. handler_of) 0 entries hs e

  pub of_handlers : (entries : List TableEntry) (hs : List Handler) → Each (IsHandlerOf files listing pool starts) entries hs → handlers_linked files listing class pool method end starts entries ≡ Ok hs
  of_handlers entries hs e =
      linked_each (λ i. handler_linked files listing class pool method end starts) (IsHandlerOf files listing pool starts) (λ at. of_handler) 0 entries hs e

-- ---- the handlers of blocks

call_within : (part : List BlockInsn) → 1 ≤ calls_in part → call_place part < length part
unfolding call_place
call_within [] h = absurd (omega arith)
call_within (Plain op ∷ part) h = omega (arith, call_within part h)
call_within (Byte n ∷ part) h = omega (arith, call_within part h)
call_within (Short n ∷ part) h = omega (arith, call_within part h)
call_within (Local op slot wide ∷ part) h = omega (arith, call_within part h)
call_within (Want op want ∷ part) h = omega (arith, call_within part h)
call_within (Jump op place ∷ part) h = omega (arith, call_within part h)
call_within (Call ∷ part) h = omega arith

module _ (files : List ClassFile) (listing : Listing) (pool : List Const) (xs : List Insn) where
  site_caught : (begin : ℕ) (site : Option Block) → IsSite site → begin + length (part_of site) ≤ length xs
      → Each (IsHandlerOf files listing pool (starts_of xs)) (site_entries (starts_of xs) begin site) (site_handlers begin site)
  site_caught begin None h few = tt
  site_caught begin (Some block) h few = by block.handler h.catches where
    by : (o : Option ℕ) → IfSome o (λ place. place < length block.insns) → Each (IsHandlerOf files listing pool (starts_of xs)) (caught_by (starts_of xs) begin block.insns o) (handlers_by begin block.insns o)
    by None c = tt
    by (Some place) c =
        let call = call_within block.insns (omega (arith, h.once)) in (
          record {
            from = insn_again xs (begin + call_place block.insns) (omega (arith, few, call));
            to = there_again xs (begin + call_place block.insns + 1) (omega (arith, few, call));
            at = insn_again xs (begin + place) (omega (arith, few, c));
            class = refl;
          },
          tt,
        )

  pub sites_caught : (begin : ℕ) (sites : List (Option Block)) → AllByRecursion IsSite sites → begin + count_of sites ≤ length xs
      → Each (IsHandlerOf files listing pool (starts_of xs)) (own_entries (starts_of xs) begin sites) (own_handlers begin sites)
  sites_caught begin [] h few = tt
  sites_caught begin (site ∷ sites) h few =
      let after = begin + length (part_of site) in
      each_append (IsHandlerOf files listing pool (starts_of xs)) (site_entries (starts_of xs) begin site) (own_entries (starts_of xs) after sites) (site_handlers begin site) (own_handlers after sites)
      (site_caught begin site h.0 (omega (arith, few))) (sites_caught after sites h.1 (omega (arith, few)))

-- ---- what was moved

module _ (types : List Bool) (files others : List ClassFile) (listing : Listing) (added : IsAdded types files others listing) (pool new : List Const) (p : FitsPool pool) (longer : IsLonger pool new) where
  class_kept : (entry : TableEntry) (c : Option (List ℕ)) → FitsTableEntry pool entry → IsCaught files listing pool entry.class c → IsCaught others listing new entry.class c
  class_kept entry c fits e = by (entry.class == 0) fits.named e
    where
      by : (b : Bool) → (b || names kinds.Class pool entry.class) ≡ true
          → ◌≡◌ {A = Result (Option (List ℕ)) OperandFault} (if b then Ok None else (class_linked true (known_in files listing) (class_at pool entry.class) >>= λ (t : Target). Ok (Some (class_at pool entry.class)))) (Ok c)
          → ◌≡◌ {A = Result (Option (List ℕ)) OperandFault} (if b then Ok None else (class_linked true (known_in others listing) (class_at new entry.class) >>= λ (t : Target). Ok (Some (class_at new entry.class)))) (Ok c)
      by true named f = f
      by false named f =
          let name = class_at pool entry.class in
          let same : class_at new entry.class ≡ name = class_longer pool new entry.class longer p named in
          let a = bind_ok (class_linked true (known_in files listing) name) (λ (t : Target). Ok (Some name)) c f in
          let still = class_still types files others listing added true name a.0 a.1 in
          rw (same, still) a.2

  -- of the same code
  pub handlers_kept : (starts : List ℕ) (entries : List TableEntry) (hs : List Handler) → AllByRecursion (FitsTableEntry pool) entries → Each (IsHandlerOf files listing pool starts) entries hs
      → Each (IsHandlerOf others listing new starts) entries hs
  handlers_kept starts [] [] fits a = tt
  handlers_kept starts [] (h ∷ hs) fits a = absurd a
  handlers_kept starts (entry ∷ entries) [] fits a = absurd a
  handlers_kept starts (entry ∷ entries) (h ∷ hs) fits a =
      (record { from = a.0.from; to = a.0.to; at = a.0.at; class = class_kept entry h.class fits.0 a.0.class }, handlers_kept starts entries hs fits.1 a.1)

  -- of a code with blocks
  pub handlers_moved : (starts fronts : List ℕ) (count : ℕ) (xs : List Insn) → ((to : ℕ) → to < count → slice_index fronts to < length xs) → ((to : ℕ) → to ≤ count → slice_index fronts to ≤ length xs)
      → (entries : List TableEntry) (hs : List Handler) → AllByRecursion (IsWithin count) hs → AllByRecursion (FitsTableEntry pool) entries → Each (IsHandlerOf files listing pool starts) entries hs
      → Each (IsHandlerOf others listing new (starts_of xs)) (table_moved (starts_of xs) fronts hs entries) (map (at_fronts fronts) hs)
  handlers_moved starts fronts count xs below few [] [] within fits a = tt
  handlers_moved starts fronts count xs below few [] (h ∷ hs) within fits a = absurd a
  handlers_moved starts fronts count xs below few (entry ∷ entries) [] within fits a = absurd a
  handlers_moved starts fronts count xs below few (entry ∷ entries) (h ∷ hs) within fits a = (
    record {
      from = insn_again xs (slice_index fronts h.from) (below h.from within.0.from);
      to = there_again xs (slice_index fronts h.to) (few h.to within.0.to);
      at = insn_again xs (slice_index fronts h.at) (below h.at within.0.at);
      class = class_kept entry h.class fits.0 a.0.class;
    },
    handlers_moved starts fronts count xs below few entries hs within.1 fits.1 a.1,
  )

-- Where the client's instruction stands in its part, and how long its code was.
use Rattle.std.proofs.Common.{◌≡◌, ℕ, suc, ◌+◌, ◌*◌, ◌<◌, ◌≤◌, ◌^◌, true, false, List, [], ◌∷◌, length, Option, Some, None, refl, ap, ◌∙◌, arith}
use Rattle.std.specs.List.{AllByRecursion}
use Rattle.insn_codec.specs.declared.insn.Insn.{Insn}
use Rattle.insn_codec.specs.declared.insn.Insn.TheVariants as insns
use Rattle.insn_codec.specs.Encoding.{padding, size, len_from}
use Rattle.insn_codec.proofs.Standing.{len_first, len_none}
use Rattle.offset_patch.specs.declared.block.Block.{Block}
use Rattle.offset_patch.specs.declared.block.BlockInsn.{BlockInsn}
use Rattle.offset_patch.specs.declared.block.BlockInsn.TheVariants.{Plain, Byte, Short, Local, Want, Jump, Call}
use Rattle.offset_patch.specs.Fits.{calls_in, IsSite}
use Rattle.offset_patch.specs.Length.{size_in, part_end, end_from, length_of}
use Rattle.offset_patch.specs.Splicing.{part_of, is_call, call_place}

-- ---- its place

pub place_none : (insns : List BlockInsn) → insns ≡ [] → call_place insns ≡ 0
unfolding call_place
place_none insns e = ap call_place e

pub place_here : (all rest : List BlockInsn) (insn : BlockInsn) → all ≡ insn ∷ rest → is_call insn ≡ true → call_place all ≡ 0
unfolding call_place
place_here all rest insn e c = ap call_place e ∙ by insn c
  where
    by : (x : BlockInsn) → is_call x ≡ true → call_place (x ∷ rest) ≡ 0
    by Call c = refl
    by x c = absurd cc

pub place_later : (all rest : List BlockInsn) (insn : BlockInsn) → all ≡ insn ∷ rest → is_call insn ≡ false → call_place all ≡ 1 + call_place rest
unfolding call_place
place_later all rest insn e c = ap call_place e ∙ by insn c
  where
    more : suc (call_place rest) ≡ 1 + call_place rest
    more = omega arith

    by : (x : BlockInsn) → is_call x ≡ false → call_place (x ∷ rest) ≡ 1 + call_place rest
    by Call c = absurd cc
    by (Plain op) c = more
    by (Byte n) c = more
    by (Short n) c = more
    by (Local op slot wide) c = more
    by (Want op want) c = more
    by (Jump op place) c = more

-- ---- the code without blocks is not much longer than with them

pads : (a b : ℕ) → padding a ≤ padding b + 3
pads a b = omega arith

size_near : (a b : ℕ) (x : Insn) → size a x ≤ size b x + 3
size_near a b (insns.Table other low targets) = omega (arith, pads a b)
size_near a b (insns.Lookup other keys targets) = omega (arith, pads a b)
size_near a b (insns.Plain op) = omega arith
size_near a b (insns.Byte n) = omega arith
size_near a b (insns.Short n) = omega arith
size_near a b (insns.Ldc index) = omega arith
size_near a b (insns.Pool op index) = omega arith
size_near a b (insns.Iface index count) = omega arith
size_near a b (insns.Local op slot false) = omega arith
size_near a b (insns.Local op slot true) = omega arith
size_near a b (insns.Inc slot by false) = omega arith
size_near a b (insns.Inc slot by true) = omega arith
size_near a b (insns.Branch op to) = omega arith
size_near a b (insns.GotoW to) = omega arith
size_near a b (insns.NewArray kind) = omega arith

part_on : (own : Insn) (at : ℕ) (part : List BlockInsn) → at ≤ part_end own at part
part_on own at [] = omega arith
part_on own at (x ∷ part) = omega (arith, part_on own (at + size_in own at x) part)

part_least : (own : Insn) (a at : ℕ) (part : List BlockInsn) → 1 ≤ calls_in part → size a own + at ≤ part_end own at part + 3
part_least own a at [] h = absurd (omega arith)
part_least own a at (Call ∷ part) h = omega (arith, size_near a at own, part_on own (at + size at own) part)
part_least own a at (Plain op ∷ part) h = omega (arith, part_least own a (at + size_in own at (Plain op)) part h)
part_least own a at (Byte n ∷ part) h = omega (arith, part_least own a (at + size_in own at (Byte n)) part h)
part_least own a at (Short n ∷ part) h = omega (arith, part_least own a (at + size_in own at (Short n)) part h)
part_least own a at (Local op slot wide ∷ part) h = omega (arith, part_least own a (at + size_in own at (Local op slot wide)) part h)
part_least own a at (Want op want ∷ part) h = omega (arith, part_least own a (at + size_in own at (Want op want)) part h)
part_least own a at (Jump op place ∷ part) h = omega (arith, part_least own a (at + size_in own at (Jump op place)) part h)

site_calls : (site : Option Block) → IsSite site → 1 ≤ calls_in (part_of site)
site_calls None h = omega arith
site_calls (Some block) h = omega (arith, h.once)

own_least : (a at : ℕ) (own : List Insn) (sites : List (Option Block)) → AllByRecursion IsSite sites → length sites ≡ length own → len_from a own + at ≤ end_from at own sites + 3 * length own
own_least a at [] sites s e = omega (arith, len_none a)
own_least a at (x ∷ own) [] s e = absurd (omega arith)
own_least a at (x ∷ own) (site ∷ sites) s e =
    let here = part_least x a at (part_of site) (site_calls site s.0) in
    let rest = own_least (a + size a x) (part_end x at (part_of site)) own sites s.1 (omega arith) in
    omega (arith, here, rest, len_first a x own)

-- so its length has 32 bits where the other has 16
pub own_short : (own : List Insn) (sites : List (Option Block)) → AllByRecursion IsSite sites → length sites ≡ length own → length own < 2 ^ 16 → length_of own sites < 2 ^ 16 → len_from 0 own < 2 ^ 32
own_short own sites s e few short = omega (arith, own_least 0 0 own sites s e)

use Rattle.std.proofs.Common.{◌≡◌, ◌≤◌, ◌-◌, length}
use Rattle.mon_base.proofs.Loop.{with_front}
use Rattle.insn_codec.specs.Encoding.{len_from}
use Rattle.insn_codec.specs.Reading.{end_of, insns_at}
use Rattle.insn_codec.specs.Targets.{finds}
use Rattle.insn_codec.proofs.reading.insns.Given as goal

abbrev pub invariant-loop : goal.invariant-loop
invariant-loop l = (with_front l.insns.items (insns_at (finds l.targets) (length l.code - l.counter) l.from)
    ≡ insns_at (finds l.targets) (length l.code) (record { at = 0; rest = l.code }))
    × (l.from.at ≡ len_from 0 l.insns.items)
    × (end_of l.from ≡ length l.code)
    × (l.counter ≤ l.from.at)

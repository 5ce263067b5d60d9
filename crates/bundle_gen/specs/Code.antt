-- Codes that are written whole: none of their sizes can be too large. (docs/GENERATED.md)
use Rattle.std.specs.Prelude.{◌≤◌, List}
use Rattle.insn_codec.specs.declared.insn.Insn.{Insn}
use Rattle.insn_codec.specs.Encoding.{len_from}
use Rattle.insn_codec.specs.Fits.{IsEncodable}

pub record IsShortCode (insns : List Insn) : Type 0 where
  pub encodable : IsEncodable insns
  pub short : len_from 0 insns ≤ 65535

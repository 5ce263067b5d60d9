use Rattle.std.proofs.Common.{ℕ, List, sym, ap, subst, ◌∙◌, arith}
use Rattle.std.specs.List.{AllByRecursion}
use Rattle.mon_base.specs.Widths.{IsU2}
use Rattle.insn_codec.specs.Encoding.{len_from}
use Rattle.offset_patch.proofs.Putting.{starts_two}
use Rattle.offset_patch.proofs.splicing.code_with.Goals as goal

pub table_spliced-requires-clause-starts : goal.table_spliced-requires-clause-starts
table_spliced-requires-clause-starts c =
    let P : List ℕ → Type 0 = AllByRecursion IsU2 in
    subst P (sym (c.as_slice-starts.ensures ∙ c.in_ok-starts.ensures)) (starts_two 0 c.args.insns.now (omega (arith, c.requires.short)))

pub attrs_spliced-requires-clause-short : goal.attrs_spliced-requires-clause-short
attrs_spliced-requires-clause-short c = omega (arith, c.requires.own, ap (len_from 0) c.as_slice-owns.ensures)

pub attrs_spliced-requires-clause-news : goal.attrs_spliced-requires-clause-news
attrs_spliced-requires-clause-news c =
    let P : List ℕ → Type 0 = AllByRecursion IsU2 in
    subst P (sym (c.as_slice-starts.ensures ∙ c.in_ok-starts.ensures)) (starts_two 0 c.args.insns.now (omega (arith, c.requires.short)))

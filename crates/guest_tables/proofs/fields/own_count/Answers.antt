use Rattle.std.proofs.Common.{◌≡◌, ◌+◌, List, ℕ, length, take, ap, arith, ◌∙◌}
use Rattle.std.specs.Prelude.{filter, slice_index_or}
use Rattle.class_codec.specs.declared.tree.Member.{Member}
use Rattle.guest_model.specs.Layout.{is_in_objects}
use Rattle.guest_tables.specs.Layout.{counts_from}
use Rattle.guest_tables.proofs.ObjectFields.{count_at, counts_length, none_before, take_past}
use Rattle.guest_tables.proofs.fields.own_count.Goals as goal

pub bounds-counts-last : goal.bounds-counts-last
bounds-counts-last c =
    let count : length c.args.counts.now ≡ length c.args.fields.now + 1 = ap length c.requires ∙ counts_length c.args.fields.now 0 in
    omega arith

pub returns : goal.returns
returns c =
    let fields = c.args.fields.now in
    let same : slice_index_or c.args.counts.now (length fields) 0 ≡ slice_index_or (counts_from 0 fields) (length fields) 0 = ap (λ (xs : List ℕ). slice_index_or xs (length fields) 0) c.requires in
    let count : slice_index_or (counts_from 0 fields) (length fields) 0 ≡ 0 + length (filter is_in_objects (take (length fields) fields)) = count_at fields 0 (length fields) (omega arith) in
    same ∙ count ∙ none_before _ ∙ ap (λ (xs : List Member). length (filter is_in_objects xs)) (take_past fields (length fields) (omega arith))

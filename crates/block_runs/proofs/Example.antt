-- The block of three calls, run.
use Rattle.std.proofs.Common.{◌≡◌, pos, true, false, refl, subst}
use Rattle.std.proofs.lemmas.Bool.{eq-eqb}
use Rattle.cert_format.specs.declared.certificate.Mode.TheVariants.{Hold, Release}
use Rattle.offset_patch.specs.declared.block.Block.{Block}
use Rattle.block_template.specs.Blocks.{block_with, bools_of, clauses_of}
use Rattle.guest_heap.specs.declared.value.Value.TheVariants as values
use Rattle.block_runs.specs.Example.{ArgumentsAreGivenBack, FourthIsRefused, ThirdIsCalled, counting, passing, short_texts, three_calls}
use Rattle.block_runs.specs.Running.{Called, Stopped, block_run, run_from}

abbrev the_block : Block
the_block = block_with Hold (bools_of three_calls) 1 (clauses_of three_calls 0)

pub third_is_called : ThirdIsCalled
unfolding block_run
third_is_called state made e =
    let same : the_block ≡ made = cc in
    subst (λ (m : Block). run_from state m.insns 0 (counting (pos 2) false) ≡ Called 17 (counting (pos 3) true)) same
    (rw (eq-eqb state state refl) refl)

pub fourth_is_refused : FourthIsRefused
unfolding block_run
fourth_is_refused state made e =
    let same : the_block ≡ made = cc in
    subst (λ (m : Block). run_from state m.insns 0 (counting (pos 3) false) ≡ Stopped (pos 77)) same
    (rw (eq-eqb state state refl) refl)

abbrev the_other : Block
the_other = block_with Release (bools_of short_texts) 1 (clauses_of short_texts 0)

pub arguments_are_given_back : ArgumentsAreGivenBack
unfolding block_run
arguments_are_given_back state made e =
    let same : the_other ≡ made = cc in
    subst
    (λ (m : Block). run_from state m.insns 0 (passing values.Null values.Null) ≡ Called 16 (passing (values.Ref 5) (values.Int (pos 7)))) same
    (rw (eq-eqb state state refl) (rw (eq-eqb state state refl) refl))

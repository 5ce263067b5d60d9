use Rattle.guest_model.proofs.Arithmetic.{made_of_one_fits, made_of_two_fits}
use Rattle.guest_model.proofs.Numbers.{answer_is_word}
use Rattle.guest_model.proofs.laws.numbers_are_of_32_bits.Goals as goal

pub returns : goal.returns
returns c = record { two = made_of_two_fits; one = made_of_one_fits; given = answer_is_word }

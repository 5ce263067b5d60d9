use Rattle.conspec_parse.proofs.AgainPolicy.{policy_again, answers}
use Rattle.conspec_parse.proofs.FoundPolicy.{policy_found}
use Rattle.conspec_parse.proofs.Made.{answered}
use Rattle.conspec_parse.proofs.SoundClauses.{policy_sound}
use Rattle.conspec_parse.proofs.reading.parse.Goals as goal

pub returns-clause-found : goal.returns-clause-found
returns-clause-found c =
    let read = rw (c.as_slice.ensures, c.as_slice-2.ensures, c.in_ok-tokens.ensures) at c.policy_at.ensures in
    answered c.policy_at.result (policy_found c.args.text.now c.args.listing.now) read

pub returns-clause-only : goal.returns-clause-only
returns-clause-only c =
    let read = rw (c.as_slice.ensures, c.as_slice-2.ensures, c.in_ok-tokens.ensures) at c.policy_at.ensures in
    λ t encoded. answers c.policy_at.result _ t read (policy_again c.args.text.now c.args.listing.now t encoded)

pub returns-clause-sound : goal.returns-clause-sound
returns-clause-sound c =
    let read = rw (c.as_slice.ensures, c.as_slice-2.ensures, c.in_ok-tokens.ensures) at c.policy_at.ensures in
    answered c.policy_at.result (policy_sound c.args.text.now c.args.listing.now) read

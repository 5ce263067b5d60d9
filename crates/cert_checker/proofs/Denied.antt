-- A program that begins with a call that its policy refuses does not obey.
use Rattle.std.proofs.Common.{[], ◌∷◌, None, refl, subst}
use Rattle.api_listing.specs.declared.events.Event.TheVariants as events
use Rattle.conspec_automaton.specs.Next.{initial}
use Rattle.conspec_automaton.specs.Obeys.{Obeys}
use Rattle.conspec_automaton.specs.Refused.{RefusedCallsDisobey}
use Rattle.guest_model.specs.First.{goes_on, is_done, SeesFirstCall}
use Rattle.cert_checker.specs.Denied.{DisobeysAtOnce}

pub disobeys_at_once : RefusedCallsDisobey → SeesFirstCall → DisobeysAtOnce
disobeys_at_once disobey sees mode program policy index listed begins at_once refused secure =
    disobey mode policy [] (events.Return 0 listed None ∷ []) (events.Call 0 listed [])
    (record { state = initial policy; accepted = refl; refused = refused }) refl
    (subst (Obeys mode policy) (sees program index listed begins at_once) (secure (goes_on ∷ is_done ∷ [])))

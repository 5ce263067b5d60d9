-- What a typed client begins without a call can be begun, and its names are named.
use Rattle.std.proofs.Common.{◌≡◌, ◌<◌, List, [], ◌∷◌, length, Option, Some, None, refl, sym, ap, ap₂, subst, ◌∙◌, arith}
use Rattle.std.specs.List.{AllByRecursion}
use Rattle.std.specs.Option.{option_to_list}
use Rattle.std.proofs.lemmas.Option.{slice_get_within}
use Rattle.cert_format.specs.declared.typing.Typing.{Typing}
use Rattle.bytecode_model.specs.declared.program.Method.{Method}
use Rattle.bytecode_model.specs.declared.program.Program.{Program}
use Rattle.bytecode_model.specs.declared.program.Side.{Side}
use Rattle.bytecode_model.specs.LinkedClasses.{IsLinkedOf}
use Rattle.guest_heap.specs.declared.frame.Frame.{Frame}
use Rattle.guest_heap.specs.declared.object.Object.{Object}
use Rattle.guest_model.specs.Changes.{frame_begun, rests}
use Rattle.guest_model.specs.Finding.{Given}
use Rattle.guest_model.specs.Places.{method_at}
use Rattle.guest_model.specs.Runs.{start_of}
use Rattle.guest_model.proofs.Options.{map_of, some_is}
use Rattle.guest_erasing.specs.Adding.{IsNamedClient, LinkedClientsAreNamed}
use Rattle.guest_erasing.specs.Mirrors.{CanBegin}
use Rattle.guest_erasing.specs.Starting.{begun_by}
use Rattle.typed_runs.specs.Frames.{AreRunning}
use Rattle.typed_runs.specs.Machines.{CanBegin as CanBeginTyped, ThreadFits}
use Rattle.typed_runs.specs.Runs.{RunsFit}
use Rattle.typed_runs.proofs.Rows.{method_is}
use Rattle.block_runs.specs.Clients.{IsTypedClient}
use Rattle.block_runs.proofs.Clients.Machines.{all_so, begins_so}
use Rattle.block_runs.proofs.Clients.Roomy.{takes_calls}

pub client_named_so : LinkedClientsAreNamed → (client : Program) (typing : Typing) → IsTypedClient client typing → IsNamedClient client
client_named_so law client typing is =
    let links = is.program.links in
    law links.text links.main client links.listed
    (subst (λ (side : Side). IsLinkedOf side client.listing links.main client) is.original links.linked) links.sound links.order

module _ (client : Program) (typing : Typing) (is : IsTypedClient client typing) (heap : List Object) where
  -- the frame stands at an instruction of the method that is begun
  begun_so : (next : Given) (o : Option Frame) → frame_begun client next ≡ o → AreRunning client typing heap (option_to_list o)
      → CanBegin client next
  begun_so next None e r = absurd r
  begun_so next (Some f) e r =
      let s = r.0.stands in
      let m = map_of _ (method_at client next.0 next.1) f e in
      let class : f.class ≡ next.0 = ap (λ (g : Frame). g.class) (sym m.2) in
      let method : f.method ≡ next.1 = ap (λ (g : Frame). g.method) (sym m.2) in
      let same : s.method ≡ m.0 = some_is s.method m.0
      (sym (method_is client typing is.program f s) ∙ ap₂ (method_at client) class method ∙ m.1) in
      let code : 0 < length m.0.insns =
      subst (λ (x : Method). 0 < length x.insns) same (omega (arith, slice_get_within s.method.insns f.at s.insn s.next)) in
      record { method = m.0; there = m.1; takes = takes_calls client typing is next.0 next.1 m.0 m.1 code }

  all_begin : (to_begin : List Given) → ThreadFits client typing heap (rests client to_begin) → AllByRecursion (CanBegin client) to_begin
  all_begin [] fits = tt
  all_begin (next ∷ later) fits = (
    begun_so next (frame_begun client next) refl fits.frames,
    all_so (CanBeginTyped client) (CanBegin client) later
        (begins_so client typing is) fits.to_begin,
  )

pub starts_begin : RunsFit → (client : Program) (typing : Typing) → IsTypedClient client typing
    → AllByRecursion (CanBegin client) (begun_by client)
starts_begin fit client typing is =
    all_begin client typing is (start_of client).heap (begun_by client) (fit client typing is.program []).threads.0

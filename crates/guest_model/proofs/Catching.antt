-- What a handler covers.
use Rattle.std.proofs.Common.{◌≡◌, ℕ, true, List, Some}
use Rattle.std.specs.Prelude.{◌<◌, ◌≤◌, Contains, find, nat_le, nat_lt}
use Rattle.std.proofs.lemmas.Bool.{and_from, and_parts, le-leb, leb-true, lt-ltb, ltb-true}
use Rattle.bytecode_model.specs.declared.program.Handler.{Handler}
use Rattle.bytecode_model.specs.declared.program.Method.{Method}
use Rattle.bytecode_model.specs.declared.program.Program.{Program}
use Rattle.bytecode_model.specs.Rules.{covers}
use Rattle.bytecode_model.specs.SearchOrder.{Name}
use Rattle.guest_model.specs.Places.{method_at}
use Rattle.guest_model.specs.Throwing.{CoveringIsFound, HandlersCover, catches, takes}
use Rattle.guest_model.proofs.Options.{and_then_of, find_is, found_some}

-- the handler that is found is one of these, and covers the instruction
pub caught_at : (program : Program) (at : ℕ) (class : Name) (handlers : List Handler) (handler : Handler)
    → find (catches program at class) handlers ≡ Some handler → Contains handlers handler × (handler.from ≤ at) × (at < handler.to)
caught_at program at class handlers handler e =
    let l = find_is (catches program at class) handlers handler e in
    let a = and_parts (covers at handler) (takes program class handler) l.1 in
    let b = and_parts (nat_le handler.from at) (nat_lt at handler.to) a.0 in
    (l.0, leb-true handler.from at b.0, ltb-true at handler.to b.1)

pub handlers_cover : HandlersCover
handlers_cover program frame class handler e =
    let m = and_then_of (λ (method : Method). find (catches program frame.at class) method.handlers)
    (method_at program frame.class frame.method) handler e in
    let caught = caught_at program frame.at class m.0.handlers handler m.2 in
    (caught.1, caught.2)

pub covering_is_found : CoveringIsFound
covering_is_found program frame class method handler there has from to takes_it =
    let covered : covers frame.at handler ≡ true =
    and_from (nat_le handler.from frame.at) (nat_lt frame.at handler.to) (le-leb handler.from frame.at from) (lt-ltb frame.at handler.to to) in
    let caught : catches program frame.at class handler ≡ true =
    and_from (covers frame.at handler) (takes program class handler) covered takes_it in
    rw there (found_some (catches program frame.at class) method.handlers handler has caught)

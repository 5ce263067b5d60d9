use Rattle.std.proofs.Common.{◌≡◌, ◌∙◌, sym, ap}
use Rattle.bytecode_model.specs.Makes.{topmost, type_at}
use Rattle.type_infer.proofs.Lists.{type_at-read}
use Rattle.type_infer.proofs.leaving.is_stored.Goals as goal

pub returns-in-Some : goal.returns-in-Some
returns-in-Some c h =
    let frame = c.args.frame.now in
    let taken = c.split_top.result.1.now in
    let first : type_at taken 0 ≡ c.first-item.result = type_at-read taken 0 c.first-item.result c.in-len1-up.len_at_least c.first-item.is in
    let top : taken ≡ topmost 1 frame.stack = c.split_top.ensures.topmost ∙ ap (topmost 1) c.as_slice.ensures in
    let same : c.first-item.result ≡ c.in-Some.local.now = c.is_same_type.ensures.0 h in
    let local : type_at frame.locals c.args.slot ≡ c.in-Some.local.now =
    rw c.as_slice-2.ensures at (type_at-read c.as_slice-2.result.now c.args.slot c.in-Some.local.now c.in-Some.ensures.lookup.3.0 c.in-Some.ensures.lookup.1) in
    ap (λ l. type_at l 0) (sym top) ∙ first ∙ same ∙ sym local

use Rattle.std.proofs.Common.{◌≡◌, ℕ, ◌≤◌, false, List, length, sym, ap, ◌∙◌, arith}
use Rattle.cert_format.specs.declared.typing.VType.{VType}
use Rattle.insn_codec.specs.declared.shape.Shape.{Shape}
use Rattle.insn_codec.specs.Shapes.{shape_of}
use Rattle.code_typing.specs.Changing.{change_told, local_told}
use Rattle.bytecode_model.specs.Makes.{changed, topmost, stores}
use Rattle.bytecode_model.specs.Rules.{taken}
use Rattle.code_typing.proofs.Afterwards.{pushed_each, each_local, local_same}
use Rattle.code_typing.proofs.after.locals_after.Goals as goal

pub loop-j-preserved : goal.loop-j-preserved
loop-j-preserved c =
    pushed_each (local_told c.shape-shape.result c.change_of-change.result c.as_slice-found.result.now c.split_top.result.1.now) c.loop-j.locals _ _ c.loop-j.j c.in_ok-push.ensures.ok
    c.loop-j.invariant.0 (c.in_ok-local.ensures ∙ c.local_told.ensures) c.loop-j.invariant.1

pub returns-clause-are : goal.returns-clause-are
returns-clause-are c j =
    let place = c.args.place.now in
    let frame = c.args.frame.now in
    let change = c.change_of-change.result in
    let found = c.as_slice-found.result.now in
    let operands = c.split_top.result.1.now in
    let top : operands ≡ taken place frame =
    c.split_top.ensures.topmost ∙ ap (topmost c.count_taken.result) c.as_slice.ensures ∙ ap (λ (n : ℕ). topmost n frame.stack) c.count_taken.ensures in
    let told : (t : VType) → change_told change t ≡ changed place (taken place frame) t =
    λ t. c.change_of-change.ensures t ∙ ap (λ (s : List VType). changed place s t) top in
    let shape : c.shape-shape.result ≡ shape_of place.insn = c.shape-shape.ensures in
    let few : length frame.locals ≤ c.loop-j.j = omega (arith, ap length c.as_slice-found.ensures, c.count_after-j-end.ensures.found, c.loop-j-test.false) in
    let stored : (k : ℕ) → c.loop-j.j ≤ k → stores (shape_of place.insn) k ≡ false =
    λ k above. ap (λ (s : Shape). stores s k) (sym shape) ∙ c.count_after-j-end.ensures.stored k (omega (arith, above, c.loop-j-test.false)) in
    each_local place frame.locals (taken place frame) c.loop-j.locals c.loop-j.j c.loop-j.invariant.0 few stored
    (λ k below.
    c.loop-j.invariant.1 k below ∙ ap (λ (s : Shape). local_told s change found operands k) shape
    ∙ ap (λ (l : List VType). local_told (shape_of place.insn) change l operands k) c.as_slice-found.ensures
    ∙ ap (λ (l : List VType). local_told (shape_of place.insn) change frame.locals l k) top
    ∙ local_same place change frame.locals (taken place frame) k told)
    j

use Rattle.std.proofs.Common.{◌≡◌, ℕ, ◌-◌, min, length, Some, sym, ap, ap₂, ◌∙◌, arith}
use Rattle.std.specs.Prelude.{slice_get}
use Rattle.type_lattice.specs.SkipPointers.{path_up}
use Rattle.type_lattice.proofs.Ascending.{rest_is, stays_in, up_to_height, as_high, both_on, further_on, apart_at_top, met}
use Rattle.type_lattice.proofs.skip_pointers.SkipPointers.meeting.Goals as goal

pub loop-one-init : goal.loop-one-init
loop-one-init c =
    let ps = c.args.self.now in
    let parents = c.kept-low.ensures.parents in
    let low = c.kept-low.ensures.path_up.height in
    let high = c.kept-high.ensures.path_up.height in
    let h = c.min-height.result in
    let lower : h ≡ min (length (path_up ps c.args.a)) (length (path_up ps c.args.b)) = c.min-height.ensures ∙ ap₂ min low high in
    let one : slice_get (path_up ps c.args.a) (length (path_up ps c.args.a) - h) ≡ Some c.in_ok-one.one = ap (λ (n : ℕ). slice_get (path_up ps c.args.a) (n - h)) (sym low) ∙ sym c.up.ensures ∙ c.in_ok-one.was in
    let other : slice_get (path_up ps c.args.b) (length (path_up ps c.args.b) - h) ≡ Some c.in_ok-other.other = ap (λ (n : ℕ). slice_get (path_up ps c.args.b) (n - h)) (sym high) ∙ sym c.up-2.ensures ∙ c.in_ok-other.was in
    record {
      found = up_to_height ps parents c.args.a c.args.b c.in_ok-one.one h lower one;
      on = (length (path_up ps c.args.b) - h, other);
      level = as_high ps parents c.args.a c.in_ok-one.one h (omega arith) one ∙ sym (as_high ps parents c.args.b c.in_ok-other.other h (omega arith) other);
      one_within = stays_in ps parents _ c.args.a c.in_ok-one.one c.requires.a one;
      other_within = stays_in ps parents _ c.args.b c.in_ok-other.other c.requires.b other;
    }

pub loop-one-preserved : goal.loop-one-preserved
loop-one-preserved c =
    let ps = c.args.self.now in
    let parents = c.kept-low.ensures.parents in
    let inv = c.loop-one.invariant in
    let up = rw c.in_ok-above.was at c.both_up.ensures in
    let one = rest_is ps parents up.gone c.loop-one.one c.in_ok-above.above up.one in
    let other = rest_is ps parents up.gone c.loop-one.other c.in_ok-above.beyond up.other in
    record {
      found = sym (both_on ps parents c.args.b c.loop-one.other inv.on.0 inv.on.1 c.loop-one.one c.in_ok-above.above c.in_ok-above.beyond up inv.level) ∙ inv.found;
      on = (_, further_on ps parents c.args.b c.loop-one.other inv.on.0 inv.on.1 up.gone c.in_ok-above.beyond up.other);
      level = omega (arith, inv.level);
      one_within = stays_in ps parents up.gone c.loop-one.one c.in_ok-above.above inv.one_within up.one;
      other_within = stays_in ps parents up.gone c.loop-one.other c.in_ok-above.beyond inv.other_within up.other;
    }

pub loop-one-smaller : goal.loop-one-smaller
loop-one-smaller c =
    let ps = c.args.self.now in
    let up = rw c.in_ok-above.was at c.both_up.ensures in
    let one = rest_is ps c.kept-low.ensures.parents up.gone c.loop-one.one c.in_ok-above.above up.one in
    omega (arith, up.some)

pub returns-in_err-above : goal.returns-in_err-above
returns-in_err-above c =
    let ps = c.args.self.now in
    let inv = c.loop-one.invariant in
    let top = rw c.in_err-above.was at c.both_up.ensures in
    c.from_residual-in_err-above.ensures
    ∙ sym (apart_at_top ps c.kept-low.ensures.parents c.args.b c.loop-one.other inv.on.0 inv.on.1 c.loop-one.one inv.level top c.loop-one-test.true)
    ∙ inv.found

pub returns : goal.returns
returns c =
    let ps = c.args.self.now in
    let inv = c.loop-one.invariant in
    sym (met ps c.kept-low.ensures.parents c.args.b c.loop-one.one inv.on.0 (inv.on.1 ∙ ap Some (sym c.loop-one-test.false))) ∙ inv.found

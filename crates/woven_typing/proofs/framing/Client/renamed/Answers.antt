use Rattle.std.proofs.Common.{◌≡◌, ℕ, List, ap, subst, ◌∙◌}
use Rattle.std.specs.Prelude.{IfOk}
use Rattle.offset_patch.specs.Splicing.{fronts_of}
use Rattle.block_template.specs.Blocks.{Planned, plan_of}
use Rattle.class_weaving.specs.Woven.{sites_of}
use Rattle.woven_typing.specs.Framing.{front_in, moved_by}
use Rattle.woven_typing.specs.Renaming.{frame_renamed}
use Rattle.woven_typing.proofs.framing.Client.renamed.Goals as goal

pub returns : goal.returns
returns c =
    let inside = c.self.inside in
    let of : Planned = inside.weaving.now.items.now in
    let fronts : List ℕ = fronts_of (sites_of (plan_of of.policy of.mode) inside.method.now.max_locals inside.method.now) in
    let moved : moved_by inside.fronts.list inside.fronts.count ≡ front_in c.args.self.now =
    ap (λ (l : List ℕ). moved_by l inside.fronts.count) c.self.invariant.0 ∙ ap (moved_by fronts) c.self.invariant.1 ∙ ap front_in c.self.view_is in
    subst (λ (f : ℕ → ℕ). IfOk c.frame_renamed.result (λ made. made ≡ frame_renamed f c.args.frame.now)) moved c.frame_renamed.ensures

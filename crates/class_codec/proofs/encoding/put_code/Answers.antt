use Rattle.std.proofs.Common.{◌≡◌, ℕ, List, ◌++◌, ◌∙◌, OnOk, subst}
use Rattle.mon_base.specs.Widths.{u2}
use Rattle.class_codec.specs.Encoding.{block}
use Rattle.class_codec.proofs.encoding.put_code.Goals as goal

pub returns : goal.returns
returns c = subst (λ (bytes : List ℕ). OnOk c.put_named.result (c.put_named.new.out ≡ c.args.out.now ++ (u2 c.args.code.now.name ++ block bytes)))
    (c.as_slice.ensures ∙ c.in_ok-inner.ensures) c.put_named.ensures

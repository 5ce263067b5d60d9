use Rattle.std.proofs.Common.{◌≡◌, ◌∙◌, ap, refl, ◌++◌, ◌∷◌, []}
use Rattle.mon_base.specs.declared.method.MethodId.{MethodId}
use Rattle.api_listing.specs.BuiltIn.{is_method}
use Rattle.listing_text.proofs.Growing.{any_agrees}
use Rattle.listing_text.proofs.draft.add_field.Goals as goal

pub returns : goal.returns
returns c =
    let is : c.push.new.self ≡ c.args.draft.now.listing.fields ++ c.args.id.now ∷ [] = c.in_ok-push.ensures.ok ∙ ap (λ x. c.args.draft.now.listing.fields ++ x ∷ []) c.in_ok-copy.ensures in (
      record {
        names = c.requires.names;
        methods = c.requires.methods;
        fields = λ q. any_agrees (λ (m : MethodId). is_method q.class q.name q.desc m) c.args.draft.now.listing.fields c.push.new.self c.args.id.now _ _ _ is refl (c.requires.fields q) (c.in_ok-add_id.ensures q);
      },
      rw is refl,
    )

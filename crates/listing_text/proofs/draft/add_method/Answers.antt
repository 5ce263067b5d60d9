use Rattle.std.proofs.Common.{◌≡◌, ◌∙◌, ap, refl, ◌++◌, ◌∷◌, []}
use Rattle.api_listing.specs.declared.types.ListedMethod.{ListedMethod}
use Rattle.api_listing.specs.BuiltIn.{is_method}
use Rattle.listing_text.proofs.Growing.{any_agrees}
use Rattle.listing_text.proofs.draft.add_method.Goals as goal

pub returns : goal.returns
returns c =
    let is : c.push.new.self ≡ c.args.draft.now.listing.methods ++ c.args.method.now ∷ [] = c.in_ok-push.ensures.ok ∙ ap (λ x. c.args.draft.now.listing.methods ++ x ∷ []) c.in_ok-copy.ensures in (
      record {
        names = c.requires.names;
        methods = λ q. any_agrees (λ (m : ListedMethod). is_method q.class q.name q.desc m.id) c.args.draft.now.listing.methods c.push.new.self c.args.method.now _ _ _ is refl (c.requires.methods q) (c.in_ok-add_id.ensures q);
        fields = c.requires.fields;
      },
      rw is refl,
    )

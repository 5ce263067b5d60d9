use Rattle.std.proofs.Common.{◌≡◌, ◌∙◌, ap, refl, ◌++◌, ◌∷◌, []}
use Rattle.std.specs.Prelude.{bytes_eq}
use Rattle.api_listing.specs.declared.types.ListedClass.{ListedClass}
use Rattle.listing_text.proofs.Growing.{any_agrees}
use Rattle.listing_text.proofs.draft.add_class.Goals as goal

pub returns : goal.returns
returns c =
    let is : c.push.new.self ≡ c.args.draft.now.listing.classes ++ c.args.class.now ∷ [] = c.in_ok-push.ensures.ok ∙ ap (λ x. c.args.draft.now.listing.classes ++ x ∷ []) c.in_ok-copy.ensures in (
      record {
        names = λ q. any_agrees (λ (x : ListedClass). bytes_eq x.name q) c.args.draft.now.listing.classes c.push.new.self c.args.class.now _ _ _ is refl (c.requires.names q) (c.in_ok-add_name.ensures q);
        methods = c.requires.methods;
        fields = c.requires.fields;
      },
      rw is refl,
    )

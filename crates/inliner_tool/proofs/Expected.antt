-- What is woven of inputs is typed and accepted, and its certificate can be encoded.
use Rattle.std.proofs.Common.{◌≡◌, ℕ, zero, suc, ◌+◌, ◌<◌, ◌≤◌, Bool, true, false, List, [], ◌∷◌, length, Some, Ok, refl, ap, sym, subst, ◌∙◌, arith}
use Rattle.std.specs.Prelude.{◌&&◌, is_some, slice_get}
use Rattle.std.proofs.lemmas.Option.{slice_get_within}
use Rattle.api_listing.specs.declared.types.Listing.{Listing}
use Rattle.api_listing.specs.Listing.{EncodesListing}
use Rattle.block_logic.specs.Accepted.{IsAccepted}
use Rattle.block_template.specs.Blocks.{plan_of}
use Rattle.block_template.specs.Good.{PlansAreGood}
use Rattle.bytecode_model.specs.declared.program.Program.{Program}
use Rattle.bytecode_model.specs.declared.program.Side.TheVariants.{Inlined, Original}
use Rattle.bytecode_model.specs.declared.program.Target.TheVariants as target
use Rattle.bytecode_model.specs.Named.{AreRightOperands}
use Rattle.bytecode_model.specs.Layout.{IsLaidOut}
use Rattle.bytecode_model.specs.Order.{IsInOrder}
use Rattle.bytecode_model.specs.Sound.{IsSound, IsSoundClass, IsSoundMethod}
use Rattle.bytecode_model.specs.LinkedClasses.{IsLinkedOf}
use Rattle.bytecode_model.specs.Typed.{IsTyped}
use Rattle.bytecode_model.proofs.Lists.{all_get}
use Rattle.cert_format.specs.declared.certificate.Mode.{Mode}
use Rattle.cert_format.specs.declared.typing.Typing.{Typing}
use Rattle.cert_checker.proofs.Telling.{fits_listing}
use Rattle.cert_maker.specs.Accepting.{IsStopped, WovenIsAccepted}
use Rattle.class_linking.specs.Laws.{LinkedAreNamed, LinkedIsInOrder, LinkedOperandsAreRight}
use Rattle.class_linking.specs.Linking.{linked}
use Rattle.class_weaving.specs.declared.woven.Woven.{Woven}
use Rattle.class_weaving.specs.Outcome.{IsWoven}
use Rattle.class_weaving.specs.Woven.{woven}
use Rattle.conspec_automaton.specs.declared.policy.Policy.{Policy}
use Rattle.conspec_automaton.specs.Building.{built}
use Rattle.conspec_parse.specs.Telling.{KindsAreTold, ResultsAreTold}
use Rattle.command_inputs.specs.declared.inline_inputs.InlineInputs.{InlineInputs}
use Rattle.command_inputs.specs.InlineInputs.{InlineSound}
use Rattle.cert_maker.specs.CanonicalIsTyped.{IsTypedStill, CanonicalIsTyped}
use Rattle.woven_linking.specs.Links.{OriginalIsFree, WovenLinks}
use Rattle.woven_linking.specs.Program.{IsWovenOf, WovenFilesComeBack, WovenFilesHaveRoom, WovenProgramIsLinked, WovenProgramIsSound}
use Rattle.command_outputs.specs.Outputs.{is_written}
use Rattle.cert_maker.specs.Canonical.{FitsTyping, canonical}
use Rattle.cert_format.specs.Fits as encode
use Rattle.class_codec.specs.Fits.{IsEncodable}
use Rattle.std.specs.List.{AllByRecursion}
use Rattle.typed_runs.specs.Programs.{IsLinkedProgram}
use Rattle.woven_typing.specs.Framing.{typing_of}
use Rattle.woven_typing.specs.Telling.{ListingsKnowThrowable, PoliciesTell, TellsKinds}
use Rattle.woven_typing.specs.WovenTyping.{BlocksAreReachedSo, IsGiven, IsTypedSo, WovenIsTyped, front, is_reached, kept_frame}
use Rattle.inliner_tool.specs.declared.inline.Given.{Given}
use Rattle.inliner_tool.specs.Expected.{IsExpected, woven_program}
use Rattle.inliner_tool.specs.Policy.{IsSoundFor}
use Rattle.inliner_tool.specs.Programs.{woven_links}
use Rattle.inliner_tool.specs.Weaving.{certificate_for}
use Rattle.inliner_tool.proofs.Blocks.{numbers, of_inputs, remade, same_program}
use Rattle.inliner_tool.proofs.Counting.{assembled_of}
use Rattle.inliner_tool.proofs.Encoded.{is_encodable}

and_false : (b : Bool) → (b && false) ≡ false
and_false true = refl
and_false false = refl

there : {A : Type 0} (list : List A) (at : ℕ) → at < length list → (x : A) × (slice_get list at ≡ Some x)
there [] at lt = absurd (omega (arith, lt))
there (x ∷ list) zero lt = (x, refl)
there (x ∷ list) (suc at) lt = there list at (omega (arith, lt))

-- ---- what is never reached

module _ (old new : Program) (policy : Policy) (mode : Mode) (typing : Typing) (reaches : BlocksAreReachedSo) (given : IsGiven old new policy mode) (shaped : IsLaidOut old typing.frames)
    (still : IsTypedStill new (typing_of old policy mode typing)) where
  pub stopped : IsStopped old policy mode new (canonical new (typing_of old policy mode typing))
  stopped own index i callee k class method item class_there method_there ref_there has item_there role =
      let sound_class = all_get IsSoundClass old.classes own class given.sound.classes class_there in
      let sound_method = all_get IsSoundMethod class.methods index method sound_class.methods method_there in
      let insn = there method.insns i (omega (arith, sound_method.refs, slice_get_within method.refs i (target.ApiMethod callee) ref_there)) in
      let is = reaches old new policy mode typing given shaped own index i class method insn.0 callee
      (record { class_there = class_there; method_there = method_there; insn_there = insn.1; ref_there = ref_there }) has k item item_there in
      let never : is_reached item.role ≡ false = ap is_reached role in
      still.reached own index (front policy mode method i + k) (is ∙ ap (λ (b : Bool). is_some (kept_frame typing own class index method i) && b) never ∙ and_false _)

-- ---- what is expected

module _ (links : WovenLinks) (good : PlansAreGood) (free : OriginalIsFree) (order : LinkedIsInOrder) (right : LinkedOperandsAreRight)
    (kinds : KindsAreTold) (results : ResultsAreTold) (tells : PoliciesTell) (knows : ListingsKnowThrowable) (types : WovenIsTyped) (reaches : BlocksAreReachedSo)
    (stays : CanonicalIsTyped) (accepts : WovenIsAccepted) (linked_so : WovenProgramIsLinked) (back : WovenFilesComeBack) (room : WovenFilesHaveRoom) (sound_so : WovenProgramIsSound)
    (named : LinkedAreNamed)
    (inputs : InlineInputs) (known : InlineSound inputs) (main : List ℕ) (given : Given) (made : Woven)
    (client_links : linked inputs.classes.files inputs.listing main Original ≡ Ok given.client) (sound : IsSound given.client) (of : IsLinkedOf Original inputs.listing main given.client)
    (is : given.policy ≡ built inputs.policy) (sound_for : IsSoundFor given.client.listing given.policy) (weaves : woven given.client (plan_of given.policy given.mode) given.policy.vars ≡ Ok made)
    (typed : IsTyped given.client given.typing) (shaped : IsLaidOut given.client given.typing.frames)
    (fits : AllByRecursion IsEncodable made.files) (few : length made.files ≤ 1001) where
  new : (p : Program) × ((woven_links made.files inputs.listing main ≡ Ok p) × IsWoven given.client (plan_of given.policy given.mode) given.policy.vars p)
  new = remade links good inputs known main given made client_links sound is sound_for.read weaves

  told_kinds : TellsKinds given.client.listing given.policy
  told_kinds =
      let a : TellsKinds inputs.listing (built inputs.policy) =
      tells known.listed.text inputs.listing inputs.policy known.listed.encodes (kinds known.policy.text inputs.listing inputs.policy known.policy.encodes)
      (results known.policy.text inputs.listing inputs.policy known.policy.encodes) in
      let b : TellsKinds inputs.listing given.policy = subst (λ (x : Policy). TellsKinds inputs.listing x) (sym is) a in
      subst (λ (l : Listing). TellsKinds l given.policy) (sym of.listing_is) b

  operands : AreRightOperands given.client
  operands = right inputs.classes.files inputs.listing main Original given.client (assembled_of inputs.classes.files inputs.listing main Original given.client client_links) sound

  so : IsGiven given.client new.0 given.policy given.mode
  so = record {
    read = sound_for.read;
    tells = told_kinds;
    sound = sound;
    right = operands;
    throws = knows known.listed.text given.client (subst (λ (l : Listing). EncodesListing known.listed.text l) (sym of.listing_is) known.listed.encodes);
    woven = new.1.1;
    order = order known.listed.text inputs.listing made.files main Inlined new.0 known.listed.encodes new.1.0;
  }

  typed_here : IsTypedSo given.client new.0 given.policy given.mode given.typing
  typed_here = types given.client new.0 given.policy given.mode given.typing so typed shaped

  still : IsTypedStill new.0 (typing_of given.client given.policy given.mode given.typing)
  still = stays new.0 (typing_of given.client given.policy given.mode given.typing) typed_here.typed typed_here.shaped

  accepted : IsSound new.0 → IsAccepted new.0 given.policy (certificate_for given new.0)
  accepted new_sound =
      accepts given.client new.0 given.policy given.mode (canonical new.0 (typing_of given.client given.policy given.mode given.typing)) sound_for.read
      (fits_listing given.client.listing given.policy.clauses sound_for.told) sound new_sound operands
      (free known.listed.text inputs.listing inputs.classes.files main given.client known.listed.encodes (assembled_of inputs.classes.files inputs.listing main Original given.client client_links))
      new.1.1 still.typed still.shaped
      (stopped given.client new.0 given.policy given.mode given.typing reaches so shaped still)

  woven_of : IsWovenOf inputs.listing inputs.classes.files main given.client (plan_of given.policy given.mode) given.policy.vars made
  woven_of = of_inputs links good inputs known main given made client_links sound is sound_for.read weaves

  linked_again : woven_links made.files inputs.listing main ≡ Ok (woven_program given made)
  linked_again = linked_so inputs.listing inputs.classes.files main given.client (plan_of given.policy given.mode) given.policy.vars made woven_of

  same : new.0 ≡ woven_program given made
  same = same_program (woven_links made.files inputs.listing main) new.0 (woven_program given made) new.1.0 linked_again

  new_sound : IsSound (woven_program given made)
  new_sound = sound_so inputs.listing inputs.classes.files main given.client (plan_of given.policy given.mode) given.policy.vars made woven_of fits few

  encoded : IsSound new.0 → FitsTyping (certificate_for given new.0).typing → is_written (certificate_for given new.0) ≡ true → encode.IsEncodable (length given.policy.vars) (certificate_for given new.0)
  encoded sound_new fits written =
      is_encodable given.client new.0 given.policy given.mode (canonical new.0 (typing_of given.client given.policy given.mode given.typing)) sound_for.read
      (numbers links good inputs known main given made client_links sound is sound_for.read weaves) sound of.standing sound_new
      (accepted sound_new).frames (accepted sound_new).notes fits written

  accepted_again : IsAccepted (woven_program given made) given.policy (certificate_for given (woven_program given made))
  accepted_again = subst (λ (p : Program). IsSound p → IsAccepted p given.policy (certificate_for given p)) same accepted new_sound

  order_again : IsInOrder (woven_program given made)
  order_again = order known.listed.text inputs.listing made.files main Inlined (woven_program given made) known.listed.encodes linked_again

  linked_of_new : IsLinkedOf Inlined inputs.listing main (woven_program given made)
  linked_of_new = named made.files inputs.listing main Inlined (woven_program given made) linked_again new_sound

  linked_program : IsLinkedProgram (woven_program given made)
  linked_program = record {
    side = Inlined;
    main = main;
    text = known.listed.text;
    listed = subst (EncodesListing known.listed.text) (sym linked_of_new.listing_is) known.listed.encodes;
    linked = subst (λ (l : Listing). IsLinkedOf Inlined l main (woven_program given made)) (sym linked_of_new.listing_is) linked_of_new;
    sound = new_sound;
    order = order_again;
  }

  pub expected : IsExpected main given made
  expected = record {
    client = sound;
    room = room inputs.listing inputs.classes.files main given.client (plan_of given.policy given.mode) given.policy.vars made woven_of fits;
    links = ap (λ (l : Listing). woven_links made.files l main) of.listing_is ∙ linked_again;
    back = back inputs.listing inputs.classes.files main given.client (plan_of given.policy given.mode) given.policy.vars made woven_of;
    linked = linked_program;
    accepted = accepted_again;
    encodes = subst (λ (p : Program). IsSound p → FitsTyping (certificate_for given p).typing → is_written (certificate_for given p) ≡ true → encode.IsEncodable (length given.policy.vars) (certificate_for given p)) same encoded new_sound;
  }

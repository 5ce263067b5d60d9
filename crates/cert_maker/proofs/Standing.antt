-- What comes next in a woven method meets what is asked: a front is in no block, and in a block the roles tell.
use Rattle.std.proofs.Common.{◌≡◌, ◌≢◌, ℕ, zero, suc, ◌+◌, ◌<◌, ◌≤◌, Bool, true, false, List, [], ◌∷◌, ◌++◌, length, map, Option, Some, None, refl, sym, ap, subst, ◌∙◌, inl, inr, arith}
use Rattle.std.specs.Prelude.{◌&&◌, Contains, is_some, nat_le, nat_lt, not, slice_get, slice_index}
use Rattle.std.specs.List.{AllByRecursion, list_all}
use Rattle.std.specs.Option.{option_map_or}
use Rattle.std.proofs.lemmas.Bool.{cases_Bool, false≢true, leb-true, ltb-true, and_parts}
use Rattle.std.proofs.lemmas.Bool.Decides.{nat_tests}
use Rattle.std.proofs.lemmas.Option.{slice_get_within}
use Rattle.insn_codec.specs.declared.insn.Insn.{Insn}
use Rattle.insn_codec.specs.declared.shape.Heap.TheVariants as heap
use Rattle.insn_codec.specs.declared.shape.How.{How}
use Rattle.insn_codec.specs.declared.shape.Shape.TheVariants as shapes
use Rattle.insn_codec.specs.Control.{successors}
use Rattle.insn_codec.specs.Shapes.{shape_of}
use Rattle.bytecode_model.specs.declared.program.Handler.{Handler}
use Rattle.bytecode_model.specs.declared.program.Target.{Target}
use Rattle.bytecode_model.specs.declared.program.Target.TheVariants as target
use Rattle.bytecode_model.specs.Rules.{covers, frame_of}
use Rattle.bytecode_model.specs.Sound.{IsWithin}
use Rattle.cert_format.specs.declared.certificate.Mode.{Mode}
use Rattle.cert_format.specs.declared.certificate.Mode.TheVariants.{Hold, Release}
use Rattle.cert_format.specs.declared.note.Note.{Note}
use Rattle.cert_format.specs.declared.note.Note.TheVariants as notes
use Rattle.cert_format.specs.declared.note.Phase8.TheVariants as sites
use Rattle.cert_format.specs.declared.typing.FrameType.{FrameType}
use Rattle.conspec_tree.specs.declared.types.Phase.{Phase}
use Rattle.conspec_tree.specs.declared.types.Phase.TheVariants.{Before}
use Rattle.conspec_automaton.specs.declared.policy.Clause.{Clause}
use Rattle.conspec_automaton.specs.Next.{has_clauses}
use Rattle.conspec_automaton.specs.Sound.{IsPolicy}
use Rattle.block_template.specs.declared.item.Item.{Item}
use Rattle.block_template.specs.declared.item.Role.{Role}
use Rattle.block_template.specs.declared.item.Role.TheVariants as roles
use Rattle.block_template.specs.Blocks.{has_block}
use Rattle.block_template.specs.Blocks.{clause_at as clause_in_block}
use Rattle.block_template.specs.Flow.{entered, saving}
use Rattle.block_template.proofs.BlockFlows.{blocks_flow}
use Rattle.block_template.proofs.ItemsTyped.{clauses_are_asked}
use Rattle.block_logic.specs.Annotations.{held_in}
use Rattle.block_logic.specs.Clauses.{clause_at, needs, result_kind}
use Rattle.block_logic.specs.Notes.{handlers_of, meets, note_passes}
use Rattle.block_logic.specs.Operands.{is_state_name, variable_named}
use Rattle.block_logic.specs.Rows.{Asked, Open, Rules}
use Rattle.block_logic.specs.Weakening.{is_open}
use Rattle.class_weaving.specs.Outcome.{at_fronts, own_handlers}
use Rattle.cert_maker.specs.declared.called.Called.{Called}
use Rattle.cert_maker.specs.Noting.{method_notes, site_of}
use Rattle.block_template.proofs.Plans.{items_of, part_length, some}
use Rattle.class_weaving.proofs.Bodies.{end_is, fronts_are, handlers_are, same_length}
use Rattle.cert_maker.proofs.Body.{Body, base, front, fronts, n, note_there, refs, sites as sites_in, weaves}
use Rattle.cert_maker.proofs.Checks.{Arrives, Blocked, Inside, clauses, note, rules}
use Rattle.cert_maker.proofs.ClausesAlike.{clause_alike}
use Rattle.cert_maker.proofs.Covering.{AllMiss, missed}
use Rattle.class_weaving.proofs.Lists.{slice_there}
use Rattle.cert_maker.proofs.Plans.{note_alone, note_item}
use Rattle.cert_maker.proofs.Roles.{call_note, count_is}
use Rattle.cert_maker.proofs.Rules.{caught_all}

-- ---- lists

pub each_with : {X : Type 0} (P Q : X → Type 0) (xs : List X) → AllByRecursion P xs → ((x : X) → Contains xs x → P x → Q x) → AllByRecursion Q xs
each_with P Q [] all f = tt
each_with P Q (x ∷ xs) all f = (f x (0, omega arith, refl) all.0, each_with P Q xs all.1 (λ y c p. f y (suc c.0, omega (arith, c.1), c.2) p))

pub contained_right : {X : Type 0} (xs ys : List X) (y : X) → Contains ys y → Contains (xs ++ ys) y
contained_right [] ys y c = c
contained_right (x ∷ xs) ys y c =
    let later = contained_right xs ys y c in
    (suc later.0, omega (arith, later.1), later.2)

-- ---- what is known of a method

-- The operands name nothing of conspec/State; a call of a listed method is one, and what its clauses tell of its result is alike;
-- where control goes from an instruction with a frame is one with a frame; and no instruction of a block that is not reached has one.
pub record IsReady (b : Body) (frames : List (Option FrameType)) : Type 0 where
  pub read : IsPolicy b.policy
  pub unnamed : (i : ℕ) (ref : Target) → slice_get b.method.refs i ≡ Some ref → is_state_name ref ≡ false
  pub untouched : (i : ℕ) (ref : Target) → slice_get b.method.refs i ≡ Some ref → is_some (variable_named b.state ref) ≡ false
  pub few : (i callee : ℕ) → slice_get b.method.refs i ≡ Some (target.ApiMethod callee) → callee ≤ 65535
  pub calls : (i callee : ℕ) (insn : Insn) → slice_get b.method.insns i ≡ Some insn → slice_get b.method.refs i ≡ Some (target.ApiMethod callee)
      → (how : How) × (shape_of insn ≡ shapes.Heap (heap.Call how))
  pub alike : (i callee : ℕ) → slice_get b.method.refs i ≡ Some (target.ApiMethod callee) → has_clauses b.policy callee ≡ true
      → (p : Phase) (c : Clause) → clause_in_block b.policy callee p ≡ Some c → is_some (result_kind b.policy callee) ≡ is_some c.result
  pub long : length frames ≡ length b.made.insns
  pub next : (at : ℕ) (insn : Insn) → slice_get b.made.insns at ≡ Some insn → is_some (frame_of frames at) ≡ true
      → (to : ℕ) → Contains (successors at insn) to → is_some (frame_of frames to) ≡ true
  pub caught : (at : ℕ) (insn : Insn) (handler : Handler) → slice_get b.made.insns at ≡ Some insn → is_some (frame_of frames at) ≡ true
      → Contains b.made.handlers handler → handler.from ≤ at → at < handler.to → is_some (frame_of frames handler.at) ≡ true
  pub stopped : (i callee k : ℕ) (item : Item) → slice_get b.method.refs i ≡ Some (target.ApiMethod callee) → has_clauses b.policy callee ≡ true
      → slice_get (items_of b.policy b.mode (base b) callee) k ≡ Some item → item.role ≡ roles.Unreached
      → is_some (frame_of frames (slice_index (fronts b) i + k)) ≡ false

-- ---- how a block is entered

module _ (k : Blocked) where
  opens : (b : Bool) (x y : Bool) → b ≡ true → x ≡ false → y ≡ true → (b && (not x && (y && true))) ≡ true
  opens b x y e f g = rw (e, f, g) refl

  entered_by : (mode : Mode) → k.mode ≡ mode → (o : Option Clause) → (clauses k).before ≡ o → is_open (held_in k.mode) k.policy (note k (entered mode o)) ≡ true
  entered_by Release e None none =
      let has : has_clauses k.policy (site_of k.call Before).method ≡ true = ap (has_clauses k.policy) k.few ∙ k.has in
      let no : is_some (clause_at k.policy (site_of k.call Before).method sites.Before) ≡ false =
      ap is_some (ap (λ (m : ℕ). clause_at k.policy m sites.Before) k.few ∙ clause_alike k.policy k.call.callee Before ∙ none) in
      let zero_is : needs k.policy (site_of k.call Before).method ≡ 0 =
      count_is k ∙ ap (λ (o : Option Clause). length (option_map_or (λ (c : Clause). c.args) o [])) none in
      ap (is_open (held_in k.mode) k.policy) (call_note k false)
      ∙ ap (λ (count : ℕ). is_open (held_in k.mode) k.policy (notes.Granted (site_of k.call Before) false count false)) zero_is
      ∙ ap (λ (m : Mode). is_open (held_in m) k.policy (notes.Granted (site_of k.call Before) false 0 false)) e ∙ rw (has, no) refl
  entered_by Hold e None none = refl
  entered_by Release e (Some clause) some = saves (length clause.args)
    where
      saves : (count : ℕ) → is_open (held_in k.mode) k.policy (note k (saving count)) ≡ true
      saves zero = refl
      saves (suc count) = refl
  entered_by Hold e (Some clause) some = saves (length clause.args)
    where
      saves : (count : ℕ) → is_open (held_in k.mode) k.policy (note k (saving count)) ≡ true
      saves zero = refl
      saves (suc count) = refl

  -- Where a block begins its thread is in no block.
  pub entered_opens : is_open (held_in k.mode) k.policy (note k (entered k.mode (clauses k).before)) ≡ true
  entered_opens = entered_by k.mode refl (clauses k).before refl

  -- Where control comes, the note is as it is asked for.
  pub inside : (wants : Asked) (role : Role) → role ≢ roles.Unreached → Arrives k wants role → Inside k wants role
  inside wants roles.Unreached reached arrives = absurd (reached refl)
  inside wants roles.Leave reached arrives = ap (λ (w : Asked). meets (rules k) w notes.Free) arrives
  inside wants (roles.Save left) reached arrives = arrives
  inside wants (roles.Lock phase pushed) reached arrives = arrives
  inside wants (roles.Ask phase branch atom done) reached arrives = arrives
  inside wants (roles.Update phase branch update done) reached arrives = arrives
  inside wants (roles.Taken phase branch) reached arrives = arrives
  inside wants (roles.Stop phase done) reached arrives = arrives
  inside wants (roles.Unlock phase checked pushed) reached arrives = arrives
  inside wants (roles.Load count locked) reached arrives = arrives
  inside wants (roles.Call locked) reached arrives = arrives
  inside wants (roles.Keep locked) reached arrives = arrives
  inside wants roles.Give reached arrives = arrives
  inside wants roles.Rethrow reached arrives = arrives

module _ (b : Body) (frames : List (Option FrameType)) (ready : IsReady b frames) where
  abbrev pub canonical : List Note
  canonical = method_notes b.policy b.mode b.method frames

  abbrev pub rules_in : Rules
  rules_in = record { held = held_in b.mode; policy = b.policy; state = b.state }

  abbrev pub Reached : ℕ → Type 0
  Reached at = is_some (frame_of frames at) ≡ true

  abbrev pub Passes : Asked → ℕ → Type 0
  Passes wants at = note_passes (meets rules_in) canonical wants at ≡ true

  typed_here : (at : ℕ) → Reached at → at < length frames
  typed_here at reached = by (slice_get frames at) refl reached
    where
      by : (o : Option (Option FrameType)) → slice_get frames at ≡ o → is_some (option_map_or (λ (f : Option FrameType). f) o None) ≡ true
          → at < length frames
      by None e f = absurd cc
      by (Some frame) e f = slice_get_within frames at frame e

  pub within : (at : ℕ) → Reached at → at < length b.made.insns
  within at reached = omega (arith, typed_here at reached, ready.long)

  -- ---- a call with a block

  module _ (i callee : ℕ) (names : slice_get (refs b) i ≡ Some (target.ApiMethod callee)) (has : has_clauses b.policy callee ≡ true) where
    abbrev pub call : Called
    call = record { callee = callee; base = base b }

    pub few : (site_of call Before).method ≡ callee
    few = omega (arith, ready.few i callee names)

    abbrev pub blocked : Blocked
    blocked = record {
      policy = b.policy;
      mode = b.mode;
      state = b.state;
      call = call;
      read = ready.read;
      few = few;
      has = has;
      alike = ready.alike i callee names has;
    }

    abbrev pub all : List Item
    all = items_of b.policy b.mode (base b) callee

    -- The note of an item.
    pub item_told : (k : ℕ) (item : Item) → slice_get all k ≡ Some item → Reached (front b i + k)
        → slice_get canonical (front b i + k) ≡ Some (note blocked item.role)
    item_told k item e reached =
        note_there b frames i k (target.ApiMethod callee) (note blocked item.role) names (note_item b.policy b.mode (base b) callee has k item e) reached

    pub less : i < n b
    less = omega (arith, slice_get_within (refs b) i (target.ApiMethod callee) names, same_length (weaves b))

    pub item_reached : (k : ℕ) (item : Item) → slice_get all k ≡ Some item → Reached (front b i + k) → item.role ≢ roles.Unreached
    item_reached k item e reached none =
        let no = ready.stopped i callee k item names has e none in
        let at : slice_index (fronts b) i ≡ front b i = fronts_are (weaves b) i (omega (arith, less)) in
        false≢true (sym no ∙ ap (λ (f : ℕ). is_some (frame_of frames (f + k))) at ∙ reached)

    pub entered_at : (item : Item) → slice_get all 0 ≡ Some item → item.role ≡ entered b.mode (clauses blocked).before
    entered_at item e =
        let flows = blocks_flow b.mode _ (base b) (clauses blocked) (clauses_are_asked b.policy callee ready.read).phases in
        sym (ap (λ (o : Option Item). option_map_or (λ (x : Item). x.role) o roles.Leave) e) ∙ flows.begins

  -- ---- fronts

  pub record IsOpenAt (at : ℕ) : Type 0 where
    pub note : Note
    pub there : slice_get canonical at ≡ Some note
    pub opens : is_open (held_in b.mode) b.policy note ≡ true

  open_alone : (j : ℕ) (ref : Target) → slice_get (refs b) j ≡ Some ref → has_block b.policy ref ≡ false → Reached (front b j + 0) → IsOpenAt (front b j + 0)
  open_alone j ref e none reached = record {
    note = notes.Free;
    there = note_there b frames j 0 ref notes.Free e (ap (λ (ns : List Note). slice_get ns 0) (note_alone b.policy b.mode (base b) ref none)) reached;
    opens = refl;
  }

  open_block : (j callee : ℕ) → slice_get (refs b) j ≡ Some (target.ApiMethod callee) → has_clauses b.policy callee ≡ true → Reached (front b j + 0)
      → IsOpenAt (front b j + 0)
  open_block j callee e has reached =
      let item = slice_there (all j callee e has) 0
      (omega (arith, part_length b.policy b.mode (base b) callee has, some b.policy b.mode (base b) (target.ApiMethod callee))) in
      let role = entered_at j callee e has item.0 item.1 in
      let k = blocked j callee e has in
      record {
        note = note k item.0.role;
        there = item_told j callee e has 0 item.0 item.1 reached;
        opens = ap (λ (r : Role). is_open (held_in b.mode) b.policy (note k r)) role ∙ entered_opens k;
      }

  open_at : (j : ℕ) (ref : Target) → slice_get (refs b) j ≡ Some ref → (c : Bool) → has_block b.policy ref ≡ c → Reached (front b j + 0)
      → IsOpenAt (front b j + 0)
  open_at j ref e false none reached = open_alone j ref e none reached
  open_at j (target.ApiMethod callee) e true has reached = open_block j callee e has reached
  open_at j target.None e true has reached = absurd (false≢true has)
  open_at j (target.Builtin i) e true has reached = absurd (false≢true has)
  open_at j (target.Method c m) e true has reached = absurd (false≢true has)
  open_at j (target.Field c f) e true has reached = absurd (false≢true has)
  open_at j (target.ApiField i) e true has reached = absurd (false≢true has)
  open_at j (target.ClassName name) e true has reached = absurd (false≢true has)
  open_at j (target.Number m) e true has reached = absurd (false≢true has)
  open_at j (target.Literal i) e true has reached = absurd (false≢true has)

  pub open_front : (j : ℕ) → j ≤ n b → Reached (front b j) → IsOpenAt (front b j)
  open_front j le reached =
      elim (cases_Bool (nat_lt j (n b))) [
        | inl is ↦
            let ref = slice_there (refs b) j (omega (arith, ltb-true _ _ is, same_length (weaves b))) in
            let at : front b j + 0 ≡ front b j = omega arith in
            subst IsOpenAt at (open_at j ref.0 ref.1 (has_block b.policy ref.0) refl (subst Reached (sym at) reached))
        | inr fails ↦
            let last : j ≡ n b = grind (arith, nat_tests) in
            absurd (omega (arith, within (front b j) reached, ap (front b) last, end_is (weaves b)))
      ]

  -- A front is in no block.
  pub front_passes : (j : ℕ) → j ≤ n b → Reached (front b j) → Passes Open (front b j)
  front_passes j le reached =
      let o = open_front j le reached in
      ap (λ (x : Option Note). option_map_or (meets rules_in Open) x false) o.there ∙ o.opens

  -- ---- handlers

  -- What is thrown to the client is caught in no block.
  pub client_catches : (at : ℕ) (insn : Insn) → slice_get b.made.insns at ≡ Some insn → Reached at → AllMiss at (own_handlers 0 (sites_in b))
      → list_all (note_passes (meets rules_in) canonical Open) (handlers_of at b.made.handlers) ≡ true
  client_catches at insn there reached miss =
      ap (λ (hs : List Handler). list_all (note_passes (meets rules_in) canonical Open) (handlers_of at hs)) (handlers_are (weaves b))
      ∙ ap (list_all (note_passes (meets rules_in) canonical Open)) (missed at (own_handlers 0 (sites_in b)) (map (at_fronts (fronts b)) b.method.handlers) miss)
      ∙ caught_all (note_passes (meets rules_in) canonical Open) at (map (at_fronts (fronts b)) b.method.handlers)
      (each_with AtFront (λ (h : Handler). covers at h ≡ true → Passes Open h.at) (map (at_fronts (fronts b)) b.method.handlers)
      (all_fronts b.method.handlers b.sound.handlers)
      (λ h c is covered. passes h c is covered))
    where
      AtFront : Handler → Type 0
      AtFront h = (j : ℕ) × (j ≤ n b) × (h.at ≡ front b j)

      all_fronts : (handlers : List Handler) → AllByRecursion (IsWithin (n b)) handlers → AllByRecursion AtFront (map (at_fronts (fronts b)) handlers)
      all_fronts [] all = tt
      all_fronts (h ∷ handlers) all = ((h.at, omega (arith, all.0.at), fronts_are (weaves b) h.at (omega (arith, all.0.at))), all_fronts handlers all.1)

      passes : (h : Handler) → Contains (map (at_fronts (fronts b)) b.method.handlers) h → AtFront h → covers at h ≡ true → Passes Open h.at
      passes h c is covered =
          let both = and_parts (nat_le h.from at) (nat_lt at h.to) covered in
          let inside_of : Contains b.made.handlers h =
          subst (λ (hs : List Handler). Contains hs h) (sym (handlers_are (weaves b))) (contained_right (own_handlers 0 (sites_in b)) _ h c) in
          let reached_there : Reached h.at = ready.caught at insn h there reached inside_of (leb-true _ _ both.0) (ltb-true _ _ both.1) in
          subst (Passes Open) (sym is.2) (front_passes is.0 is.1 (subst Reached is.2 reached_there))

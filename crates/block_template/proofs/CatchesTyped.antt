-- What the client catches in a block, and the call itself.
use Rattle.std.proofs.Common.{
  ◌≡◌,
  ℕ,
  zero,
  suc,
  ◌+◌,
  ◌-◌,
  ◌<◌,
  Bool,
  true,
  false,
  cond,
  List,
  [],
  ◌∷◌,
  ◌++◌,
  length,
  map,
  replicate,
  Option,
  Some,
  None,
  refl,
  sym,
  ap,
  subst,
  ◌∙◌,
  ◌⊎◌,
  inl,
  inr,
  arith,
  length-append,
}
use Rattle.std.specs.Prelude.{◌&&◌, IfSome, is_some, nat_le}
use Rattle.std.specs.Option.{option_map_or}
use Rattle.std.proofs.lemmas.Bool.{and_from, and_parts, le-leb}
use Rattle.std.proofs.lemmas.List.{length-map}
use Rattle.api_listing.specs.BuiltIn.{throwable}
use Rattle.cert_format.specs.declared.certificate.Mode.{Mode}
use Rattle.cert_format.specs.declared.certificate.Mode.TheVariants.{Hold, Release}
use Rattle.cert_format.specs.declared.typing.FrameType.{FrameType}
use Rattle.cert_format.specs.declared.typing.VType.{VType}
use Rattle.cert_format.specs.declared.typing.VType.TheVariants as types
use Rattle.insn_codec.specs.declared.shape.Shape.{Shape}
use Rattle.insn_codec.specs.Shapes.{shape_of}
use Rattle.bytecode_model.specs.declared.program.Handler.{Handler}
use Rattle.bytecode_model.specs.declared.program.Program.{Program}
use Rattle.bytecode_model.specs.Assigning.{assignable}
use Rattle.bytecode_model.specs.Makes.{below, changed, local_after, stack_after, stores, topmost, type_at, yields_of}
use Rattle.bytecode_model.specs.InsnPlace.{InsnPlace}
use Rattle.bytecode_model.specs.Rules.{
  Depth,
  Local,
  Made,
  catches_well,
  goes_well,
  is_alone,
  local_caught,
  locals_fit,
  made_well,
  stack_fits,
  taken,
  uses_local,
  when_thrown,
}
use Rattle.bytecode_model.specs.Wants.{takes}
use Rattle.conspec_tree.specs.declared.types.Phase.{Phase}
use Rattle.conspec_tree.specs.declared.types.Phase.TheVariants.{Before, After, Exceptional}
use Rattle.conspec_automaton.specs.declared.policy.Clause.{Clause}
use Rattle.block_template.specs.declared.item.Role.{Role}
use Rattle.block_template.specs.declared.item.Role.TheVariants as roles
use Rattle.block_template.specs.Blocks.{Clauses, is_locked}
use Rattle.block_template.specs.Flow.{check_after, keeps_result, after_return, thrown}
use Rattle.block_template.specs.Frames.{Around, frame, frame_at, kept_types, padded, phase_frame, saved_locals}
use Rattle.block_template.specs.Typed.{
  CallIsTyped,
  CallsAreTyped,
  CatchesAreTyped,
  FitsAround,
  HasRoom,
  IsCallOf,
  client_locals,
  phase_locals,
}
use Rattle.block_template.proofs.FramesAt as at
use Rattle.block_template.proofs.Types.{locals_are, stack_itself, type_left}

-- ---- locals that are caught

-- What takes the one takes the other, which is the same, or anything where the one tells nothing.
takes_more : (program : Program) (f g : ℕ → VType) → ((j : ℕ) → (f j ≡ g j) ⊎ (g j ≡ types.Top)) → (j : ℕ) (to : List VType)
    → locals_fit program g j to ≡ true → locals_fit program f j to ≡ true
takes_more program f g same j [] e = refl
takes_more program f g same j (t ∷ to) e =
    let parts = and_parts (assignable program (g j) t) (locals_fit program g (j + 1) to) e in
    and_from (assignable program (f j) t) (locals_fit program f (j + 1) to) (by (same j) t parts.0)
    (takes_more program f g same (j + 1) to parts.1)
  where
    from_nothing : (u t : VType) → assignable program types.Top t ≡ true → assignable program u t ≡ true
    from_nothing u types.Top e = refl
    from_nothing u types.Int e = absurd cc
    from_nothing u types.Null e = absurd cc
    from_nothing u (types.Ref name) e = absurd cc
    from_nothing u types.UninitThis e = absurd cc
    from_nothing u (types.Uninit i) e = absurd cc

    by : {x y : VType} → (x ≡ y) ⊎ (y ≡ types.Top) → (t : VType) → assignable program y t ≡ true → assignable program x t ≡ true
    by (inl e) t fits = ap (λ (u : VType). assignable program u t) e ∙ fits
    by {x} (inr e) t fits = from_nothing x t (subst (λ (u : VType). assignable program u t ≡ true) e fits)

-- a local of a list with others after it
front_or_nothing : (xs ys : List VType) (j : ℕ) → (type_at (xs ++ ys) j ≡ type_at xs j) ⊎ (type_at xs j ≡ types.Top)
front_or_nothing [] ys j = inr refl
front_or_nothing (t ∷ xs) ys zero = inl refl
front_or_nothing (t ∷ xs) ys (suc j) = front_or_nothing xs ys j

thrown_twice : (t : VType) → when_thrown (when_thrown t) ≡ when_thrown t
thrown_twice types.Top = refl
thrown_twice types.Int = refl
thrown_twice types.Null = refl
thrown_twice (types.Ref name) = refl
thrown_twice types.UninitThis = refl
thrown_twice (types.Uninit i) = refl

thrown_all : (xs : List VType) (j : ℕ) → type_at (map when_thrown xs) j ≡ when_thrown (type_at xs j)
thrown_all [] j = refl
thrown_all (t ∷ xs) zero = refl
thrown_all (t ∷ xs) (suc j) = thrown_all xs j

-- What is caught of the client's locals is caught of these.
abbrev Catches : List VType → List VType → Type 0
Catches locals client =
    (program : Program) (to : List VType) → locals_fit program (local_caught client) 0 to ≡ true
    → locals_fit program (local_caught locals) 0 to ≡ true

caught_front : (client more : List VType) → Catches (client ++ more) client
caught_front client more program to =
    takes_more program (local_caught (client ++ more)) (local_caught client)
    (λ j. by (type_at (client ++ more) j) (type_at client j) (front_or_nothing client more j)) 0 to
  where
    by : (t u : VType) → (t ≡ u) ⊎ (u ≡ types.Top) → (when_thrown t ≡ when_thrown u) ⊎ (when_thrown u ≡ types.Top)
    by t u (inl e) = inl (ap when_thrown e)
    by t u (inr e) = inr (ap when_thrown e)

caught_more : (client more others : List VType) → Catches ((client ++ more) ++ others) client
caught_more client more others program to e = caught_front (client ++ more) others program to (caught_front client more program to e)

caught_thrown : (client more : List VType) → Catches (map when_thrown (client ++ more)) client
caught_thrown client more program to e =
    takes_more program (local_caught (map when_thrown (client ++ more))) (local_caught (client ++ more))
    (λ j. inl (ap when_thrown (thrown_all (client ++ more) j) ∙ thrown_twice (type_at (client ++ more) j))) 0 to
    (caught_front client more program to e)

module _ (clauses : Clauses) (around : Around) where
  -- So it is of the types of a role.
  abbrev Told : Role → Type 0
  Told role = IfSome (frame_at clauses around role) (λ f. Catches f.locals (client_locals around role))

  abbrev filled : List VType → List VType
  filled locals = replicate (around.base - length locals) types.Top

  phase_caught : (phase : Phase) → Catches (phase_frame clauses around phase).locals (phase_locals around phase)
  phase_caught Before = caught_more around.before.locals (filled around.before.locals) _
  phase_caught After = caught_more around.after.locals (filled around.after.locals) _
  phase_caught Exceptional = caught_thrown around.before.locals (filled around.before.locals)

  role_caught : (role : Role) → Told role
  role_caught (roles.Save left) = caught_more around.before.locals (filled around.before.locals) _
  role_caught (roles.Lock phase pushed) = phase_caught phase
  role_caught (roles.Ask phase branch atom done) = phase_caught phase
  role_caught (roles.Update phase branch update done) = phase_caught phase
  role_caught (roles.Taken phase branch) = phase_caught phase
  role_caught (roles.Stop phase done) = phase_caught phase
  role_caught (roles.Unlock phase checked pushed) = phase_caught phase
  role_caught (roles.Load n locked) = caught_more around.before.locals (filled around.before.locals) _
  role_caught (roles.Call locked) = caught_more around.before.locals (filled around.before.locals) _
  role_caught (roles.Keep locked) = caught_front around.after.locals (filled around.after.locals)
  role_caught roles.Give = phase_caught After
  role_caught roles.Leave = caught_front around.after.locals (filled around.after.locals)
  role_caught roles.Rethrow = phase_caught Exceptional
  role_caught roles.Unreached = tt

pub catches_are_typed : CatchesAreTyped
catches_are_typed program clauses around role f to told =
    subst (λ (o : Option FrameType). IfSome o (λ x. Catches x.locals (client_locals around role))) told
    (role_caught clauses around role) program to

-- ---- the call

padded_same : (xs : List VType) (k j : ℕ) → type_at (xs ++ replicate k types.Top) j ≡ type_at xs j
padded_same [] zero j = refl
padded_same [] (suc k) zero = refl
padded_same [] (suc k) (suc j) = padded_same [] k j
padded_same (t ∷ xs) k zero = refl
padded_same (t ∷ xs) k (suc j) = padded_same xs k j

module _ (mode : Mode) (clauses : Clauses) (around : Around) (locked : Bool) (fits : FitsAround clauses around) (place : InsnPlace)
    (call : IsCallOf around place) (room : HasRoom clauses around place.method) where
  abbrev locals : List VType
  locals = saved_locals clauses around 0

  abbrev stack : List VType
  stack = around.before.stack

  abbrev these : FrameType
  these = frame locals stack

  abbrev padded_before : List VType
  padded_before = padded around.base around.before.locals

  long : length padded_before ≡ around.base
  long = at.padded_length clauses around fits around.before.locals fits.before

  abbrev top : List VType
  top = topmost (length (takes place)) stack

  -- What a call pushes is told without the locals.
  same_yields : yields_of place locals top (shape_of place.insn) ≡ yields_of place around.before.locals top (shape_of place.insn)
  same_yields =
      ap (yields_of place locals top) call.call ∙ sym (ap (yields_of place around.before.locals top) call.call)

  same_stack : stack_after place locals (length (takes place)) stack ≡ stack_after place around.before.locals (length (takes place)) stack
  same_stack = ap (λ (new : List VType). map (changed place top) (below (length (takes place)) stack) ++ new) same_yields

  depth : Depth place around.before ≡ true → Depth place these ≡ true
  depth e = ap (λ (s : List VType). nat_le (length (takes place)) (length stack) && nat_le (length s) place.method.max_stack) same_stack ∙ e

  local : Local place these ≡ true
  local =
      and_from (nat_le (length locals) place.method.max_locals) (uses_local place.method locals (shape_of place.insn))
      (le-leb (length locals) place.method.max_locals
      (omega (arith, long, room.arguments, at.kept_length clauses around fits, length-append padded_before (kept_types clauses around))))
      (ap (uses_local place.method locals) call.call)

  made : Made place around.before ≡ true → Made place these ≡ true
  made e = ap (made_well place these) call.call ∙ sym (ap (made_well place around.before) call.call) ∙ e

  -- ---- where it returns

  abbrev left : Option FrameType
  left = Some (frame (padded around.base around.after.locals) around.after.stack)

  returned_of : (o : Option Clause) → clauses.after ≡ o → frame_at clauses around (after_return mode o) ≡ left
  returned_of None e =
      let none : keeps_result clauses ≡ false = ap (λ (o : Option Clause). option_map_or (λ (c : Clause). is_some c.result) o false) e in
      by mode (at.nothing_pushed clauses around fits (phase_frame clauses around After) ∙ ap Some (at.not_kept clauses around fits none))
    where
      by : (m : Mode) → frame_at clauses around (roles.Unlock After false false) ≡ left → frame_at clauses around (after_return m None) ≡ left
      by Release is = refl
      by Hold is = is
  returned_of (Some clause) e =
      by mode (is_some clause.result)
      (λ no. at.after_enters clauses around fits mode After clause ∙ ap Some (at.not_kept clauses around fits (keeps ∙ no))) refl
    where
      keeps : keeps_result clauses ≡ is_some clause.result
      keeps = ap (λ (o : Option Clause). option_map_or (λ (c : Clause). is_some c.result) o false) e

      by : (m : Mode) (b : Bool) → (b ≡ false → frame_at clauses around (check_after m After clause) ≡ left) → is_some clause.result ≡ b
          → frame_at clauses around (cond b (roles.Keep (is_locked m)) (check_after m After clause)) ≡ left
      by m true following is = refl
      by m false following is = following refl

  before_same : (j : ℕ) → j < around.base → type_at locals j ≡ type_at around.before.locals j
  before_same j lt =
      type_left padded_before (kept_types clauses around) j (omega (arith, lt, long))
      ∙ padded_same around.before.locals (around.base - length around.before.locals) j

  stores_none : (j : ℕ) → stores (shape_of place.insn) j ≡ false
  stores_none j = ap (λ (shape : Shape). stores shape j) call.call

  returns_locals : locals_fit place.program (local_after place locals (taken place these)) 0 (padded around.base around.after.locals) ≡ true
  returns_locals =
      locals_are place.program (local_after place locals (taken place these)) 0 (padded around.base around.after.locals)
      (λ j lt.
      let same : type_at locals j ≡ type_at around.before.locals j =
      before_same j (omega (arith, lt, at.padded_length clauses around fits around.after.locals fits.after)) in
      ap (local_after place locals top) (nothing j)
      ∙ ap (λ (t : VType). cond (stores (shape_of place.insn) j) (type_at top 0) (changed place top t)) same
      ∙ sym (call.locals j) ∙ sym (padded_same around.after.locals (around.base - length around.after.locals) j))
    where
      nothing : (j : ℕ) → 0 + j ≡ j
      nothing j = omega arith

  returns_well : goes_well place these (frame (padded around.base around.after.locals) around.after.stack) ≡ true
  returns_well =
      and_from (stack_fits place.program (stack_after place locals (length (takes place)) stack) around.after.stack)
      (locals_fit place.program (local_after place locals (taken place these)) 0 (padded around.base around.after.locals))
      (ap (λ (s : List VType). stack_fits place.program s around.after.stack) (same_stack ∙ sym call.stack)
      ∙ stack_itself place.program around.after.stack) returns_locals

  returns : IfSome (frame_at clauses around (after_return mode clauses.after)) (λ to. goes_well place these to ≡ true)
  returns =
      subst (λ (o : Option FrameType). IfSome o (λ to. goes_well place these to ≡ true)) (sym (returned_of clauses.after refl)) returns_well

  -- ---- where it throws

  thrown_of : (o : Option Clause)
      → (frame_at clauses around (thrown mode o) ≡ None) ⊎
      (frame_at clauses around (thrown mode o) ≡ Some (phase_frame clauses around Exceptional))
  thrown_of None = by mode
    where
      by : (m : Mode)
          → (frame_at clauses around (thrown m None) ≡ None) ⊎
          (frame_at clauses around (thrown m None) ≡ Some (phase_frame clauses around Exceptional))
      by Release = inl refl
      by Hold = inr (at.nothing_pushed clauses around fits (phase_frame clauses around Exceptional))
  thrown_of (Some clause) = inr (at.after_enters clauses around fits mode Exceptional clause)

  throws_well : (handler : Handler) → handler.class ≡ None
      → catches_well place these handler (phase_frame clauses around Exceptional) ≡ true
  throws_well handler any =
      and_from (is_alone (option_map_or (λ (class : List ℕ). class) handler.class throwable) (types.Ref throwable ∷ []))
      (locals_fit place.program (local_caught locals) 0 (map when_thrown padded_before))
      (ap (λ (c : Option (List ℕ)). is_alone (option_map_or (λ (class : List ℕ). class) c throwable) (types.Ref throwable ∷ [])) any)
      (locals_are place.program (local_caught locals) 0 (map when_thrown padded_before)
      (λ j lt.
      ap (local_caught locals) (nothing j)
      ∙ ap when_thrown (type_left padded_before (kept_types clauses around) j (omega (arith, lt, length-map padded_before when_thrown)))
      ∙ sym (thrown_all padded_before j)))
    where
      nothing : (j : ℕ) → 0 + j ≡ j
      nothing j = omega arith

  throws : (handler : Handler) → handler.class ≡ None
      → IfSome (frame_at clauses around (thrown mode clauses.exceptional)) (λ to. catches_well place these handler to ≡ true)
  throws handler any = by (thrown_of clauses.exceptional)
    where
      by : (frame_at clauses around (thrown mode clauses.exceptional) ≡ None) ⊎
          (frame_at clauses around (thrown mode clauses.exceptional) ≡ Some (phase_frame clauses around Exceptional))
          → IfSome (frame_at clauses around (thrown mode clauses.exceptional)) (λ to. catches_well place these handler to ≡ true)
      by (inl e) = subst (λ (o : Option FrameType). IfSome o (λ to. catches_well place these handler to ≡ true)) (sym e) tt
      by (inr e) =
          subst (λ (o : Option FrameType). IfSome o (λ to. catches_well place these handler to ≡ true)) (sym e) (throws_well handler any)

  pub call_typed : CallIsTyped mode clauses around locked place
  call_typed = record {
    types = these;
    told = refl;
    depth = depth;
    operand = λ e. e;
    local = local;
    made = made;
    returns = returns;
    throws = throws;
  }

pub calls_are_typed : CallsAreTyped
calls_are_typed mode clauses around locked fits place call room = call_typed mode clauses around locked fits place call room

-- Where the lock is let go round some calls, the step of one thread keeps the agreement of what happened with what is recorded: what
-- other threads are granted and owe may turn with its event.
use Rattle.std.proofs.Common.{◌≡◌, ◌≢◌, ◌⊎◌, ℕ, zero, suc, true, false, List, [], ◌∷◌, ◌++◌, take, drop, Option, Some, None, refl, sym, ap, subst, ◌∙◌, append-nil, append_assoc, arith, inl, inr}
use Rattle.std.specs.Prelude.{IfSome, IsSome, IsTrue, is_some, option_and_then, slice_get, slice_set}
use Rattle.std.specs.List.{AllByRecursion}
use Rattle.std.specs.Option.{option_to_list}
use Rattle.api_listing.specs.declared.events.Event.{Event}
use Rattle.conspec_automaton.specs.declared.policy.Policy.{Policy}
use Rattle.conspec_automaton.specs.Next.{Values, initial, method_of, next}
use Rattle.conspec_automaton.specs.Obeys.{after, is_return}
use Rattle.conspec_automaton.specs.Range.{in_range}
use Rattle.conspec_automaton.specs.Turning.{IsTaken, Keeps, Turns as MayTurn}
use Rattle.block_logic.specs.Agreement.{Agree, Clear, Granted, Owed, Part, Settles, Tells, Turns, all_granted, all_owed, granted_by, owed_by}
use Rattle.block_logic.specs.Annotations.{holds_round}
use Rattle.block_logic.specs.declared.held_calls.HeldCalls.{HeldCalls}
use Rattle.block_logic.proofs.Agreement.{SeenIsEnough}
use Rattle.block_logic.proofs.Orders.{Agrees, calls as calls_turn, ends as ends_turn, grants as grants_turn, joins, parted, records as records_turn}

-- ---- the thread of a step among the others

granted_both : (first second : List Part) → all_granted (first ++ second) ≡ all_granted first ++ all_granted second
granted_both [] second = refl
granted_both (p ∷ first) second = ap (λ (es : List Event). granted_by p ++ es) (granted_both first second) ∙ sym (append_assoc (granted_by p) (all_granted first) (all_granted second))

owed_both : (first second : List Part) → all_owed (first ++ second) ≡ all_owed first ++ all_owed second
owed_both [] second = refl
owed_both (p ∷ first) second = ap (λ (es : List Event). owed_by p ++ es) (owed_both first second) ∙ sym (append_assoc (owed_by p) (all_owed first) (all_owed second))

pub split_at : (among : List Part) (own : ℕ) (part : Part) → slice_get among own ≡ Some part → among ≡ take own among ++ part ∷ drop (suc own) among
split_at [] own part there = absurd cc
split_at (p ∷ among) zero part there = let same : p ≡ part = cc in rw same refl
split_at (p ∷ among) (suc own) part there = ap (λ (ps : List Part). p ∷ ps) (split_at among own part there)

pub set_at : (among : List Part) (own : ℕ) (part due : Part) → slice_get among own ≡ Some part → slice_set among own due ≡ take own among ++ due ∷ drop (suc own) among
set_at [] own part due there = absurd cc
set_at (p ∷ among) zero part due there = refl
set_at (p ∷ among) (suc own) part due there = ap (λ (ps : List Part). p ∷ ps) (set_at among own part due there)

-- what is so of all others, in lists
each_of : (P : Part → Type 0) (among : List Part) → ((n : ℕ) (q : Part) → slice_get among n ≡ Some q → P q) → AllByRecursion P among
each_of P [] each = tt
each_of P (p ∷ among) each = (each 0 p refl, each_of P among (λ n q is. each (suc n) q is))

pub each_other : (P : Part → Type 0) (among : List Part) (own : ℕ) → ((n : ℕ) (q : Part) → n ≢ own → slice_get among n ≡ Some q → P q)
    → AllByRecursion P (take own among) × AllByRecursion P (drop (suc own) among)
each_other P [] zero each = (tt, tt)
each_other P [] (suc own) each = (tt, tt)
each_other P (p ∷ among) zero each = (tt, each_of P among (λ n q is. each (suc n) q (λ e. absurd (omega (arith, e))) is))
each_other P (p ∷ among) (suc own) each =
    let rest = each_other P among own (λ n q differ is. each (suc n) q (λ e. differ (omega (arith, e))) is) in
    ((each 0 p (λ e. absurd (omega (arith, e))) refl, rest.0), rest.1)

-- ---- events that may turn

-- `Fit` are events that a program can make.
module _ (policy : Policy) (held : HeldCalls) (Fit : Event → Type 0) where
  -- Round calls of its method the lock is not held.
  abbrev pub IsLooseEvent : Event → Type 0
  IsLooseEvent e = holds_round held (method_of e) ≡ false

  abbrev pub IsLoose : Part → Type 0
  IsLoose Clear = Unit {0}
  IsLoose (Granted call) = IsLooseEvent call
  IsLoose (Owed end) = IsLooseEvent end

  -- A call is granted, and an end owed.
  abbrev pub IsGood : Part → Type 0
  IsGood Clear = Unit {0}
  IsGood (Granted call) = Fit call × (is_return call ≡ false)
  IsGood (Owed end) = Fit end × (is_return end ≡ true)

  abbrev OneLoose : Event → Event → Type 0
  OneLoose c d = IsLooseEvent c ⊎ IsLooseEvent d

  abbrev May : Event → Event → Type 0
  May = MayTurn (next policy) (in_range policy)

  -- Ends are never refused; of two events of which one is of a method round whose calls the lock is not held, calls turn, ends turn,
  -- and an end may come before a call.
  pub record Turning : Type 0 where
    pub taken : (end : Event) → Fit end → is_return end ≡ true → IsTaken (next policy) (in_range policy) end
    pub calls : (c d : Event) → OneLoose c d → Fit c → Fit d → is_return c ≡ false → is_return d ≡ false → May c d
    pub ends : (c d : Event) → OneLoose c d → Fit c → Fit d → is_return c ≡ true → is_return d ≡ true → May c d
    pub across : (c d : Event) → OneLoose c d → Fit c → Fit d → is_return c ≡ false → is_return d ≡ true → May c d

  -- the events of one thread and of another's part
  abbrev WithOne : Event → Part → Type 0
  WithOne e Clear = Unit {0}
  WithOne e (Granted call) = OneLoose call e
  WithOne e (Owed end) = OneLoose end e

  loose_own : (e : Event) (ps : List Part) → IsLooseEvent e → AllByRecursion (WithOne e) ps
  loose_own e [] loose = tt
  loose_own e (Clear ∷ ps) loose = (tt, loose_own e ps loose)
  loose_own e (Granted call ∷ ps) loose = (inr loose, loose_own e ps loose)
  loose_own e (Owed end ∷ ps) loose = (inr loose, loose_own e ps loose)

  loose_other : (e : Event) (ps : List Part) → AllByRecursion IsLoose ps → AllByRecursion (WithOne e) ps
  loose_other e [] loose = tt
  loose_other e (Clear ∷ ps) loose = (tt, loose_other e ps loose.1)
  loose_other e (Granted call ∷ ps) loose = (inl loose.0, loose_other e ps loose.1)
  loose_other e (Owed end ∷ ps) loose = (inl loose.0, loose_other e ps loose.1)

  module _ (may : Turning) where
    -- ---- lists of them

    calls_with : (c : Event) (ps : List Part) → Fit c → is_return c ≡ false → AllByRecursion IsGood ps → AllByRecursion (WithOne c) ps
        → AllByRecursion (λ d. May d c) (all_granted ps)
    calls_with c [] fit call good one = tt
    calls_with c (Clear ∷ ps) fit call good one = calls_with c ps fit call good.1 one.1
    calls_with c (Granted d ∷ ps) fit call good one = (may.calls d c one.0 good.0.0 fit good.0.1 call, calls_with c ps fit call good.1 one.1)
    calls_with c (Owed d ∷ ps) fit call good one = calls_with c ps fit call good.1 one.1

    call_with_ends : (c : Event) (ps : List Part) → Fit c → is_return c ≡ false → AllByRecursion IsGood ps → AllByRecursion (WithOne c) ps
        → AllByRecursion (λ d. May c d) (all_owed ps)
    call_with_ends c [] fit call good one = tt
    call_with_ends c (Clear ∷ ps) fit call good one = call_with_ends c ps fit call good.1 one.1
    call_with_ends c (Granted d ∷ ps) fit call good one = call_with_ends c ps fit call good.1 one.1
    call_with_ends c (Owed d ∷ ps) fit call good one = (may.across c d (other_way one.0) fit good.0.0 call good.0.1, call_with_ends c ps fit call good.1 one.1) where
      other_way : OneLoose d c → OneLoose c d
      other_way (inl loose) = inr loose
      other_way (inr loose) = inl loose

    ends_with : (r : Event) (ps : List Part) → Fit r → is_return r ≡ true → AllByRecursion IsGood ps → AllByRecursion (WithOne r) ps
        → AllByRecursion (λ d. May d r) (all_owed ps)
    ends_with r [] fit end good one = tt
    ends_with r (Clear ∷ ps) fit end good one = ends_with r ps fit end good.1 one.1
    ends_with r (Granted d ∷ ps) fit end good one = ends_with r ps fit end good.1 one.1
    ends_with r (Owed d ∷ ps) fit end good one = (may.ends d r one.0 good.0.0 fit good.0.1 end, ends_with r ps fit end good.1 one.1)

    calls_with_end : (r : Event) (ps : List Part) → Fit r → is_return r ≡ true → AllByRecursion IsGood ps → AllByRecursion (WithOne r) ps
        → AllByRecursion (λ d. May d r) (all_granted ps)
    calls_with_end r [] fit end good one = tt
    calls_with_end r (Clear ∷ ps) fit end good one = calls_with_end r ps fit end good.1 one.1
    calls_with_end r (Granted d ∷ ps) fit end good one = (may.across d r one.0 good.0.0 fit good.0.1 end, calls_with_end r ps fit end good.1 one.1)
    calls_with_end r (Owed d ∷ ps) fit end good one = calls_with_end r ps fit end good.1 one.1

    both_lists : (P : Event → Type 0) (xs ys : List Event) → AllByRecursion P xs → AllByRecursion P ys → AllByRecursion P (xs ++ ys)
    both_lists P [] ys first second = second
    both_lists P (x ∷ xs) ys first second = (first.0, both_lists P xs ys first.1 second)

    -- what is owed is never refused
    all_taken : (keeps : Keeps (next policy) (in_range policy)) (state : Values) (ps : List Part) → IsTrue (in_range policy state) → AllByRecursion IsGood ps
        → (end : Values) × (after (next policy) state (all_owed ps) ≡ Some end) × IsTrue (in_range policy end)
    all_taken keeps state [] ranged good = (state, refl, ranged)
    all_taken keeps state (Clear ∷ ps) ranged good = all_taken keeps state ps ranged good.1
    all_taken keeps state (Granted d ∷ ps) ranged good = all_taken keeps state ps ranged good.1
    all_taken keeps state (Owed d ∷ ps) ranged good =
        by (next policy state d) refl (may.taken d good.0.0 good.0.1 state ranged) (λ s in_range_s. all_taken keeps s ps in_range_s good.1) where
          by : (o : Option Values) → next policy state d ≡ o → IsSome o
              → ((s : Values) → IsTrue (in_range policy s) → (end : Values) × (after (next policy) s (all_owed ps) ≡ Some end) × IsTrue (in_range policy end))
              → (end : Values) × (after (next policy) state (d ∷ all_owed ps) ≡ Some end) × IsTrue (in_range policy end)
          by None is some each = absurd cc
          by (Some s) is some each =
              let later = each s (keeps state s d ranged is) in
              (later.0, ap (option_and_then (λ (reached : Values). after (next policy) reached (all_owed ps))) is ∙ later.1, later.2)

    all_taken_both : (keeps : Keeps (next policy) (in_range policy)) (state : Values) (ps qs : List Part) → IsTrue (in_range policy state)
        → AllByRecursion IsGood ps → AllByRecursion IsGood qs
        → (end : Values) × (after (next policy) state (all_owed ps ++ all_owed qs) ≡ Some end)
    all_taken_both keeps state ps qs ranged good goods =
        let first = all_taken keeps state ps ranged good in
        let second = all_taken keeps first.0 qs first.2 goods in
        (second.0, joins (next policy) (in_range policy) keeps state first.0 second.0 (all_owed ps) (all_owed qs) first.1 second.1)

    -- ---- the step of one thread

    module _ (enough : SeenIsEnough) (keeps : Keeps (next policy) (in_range policy)) (starts : IsTrue (in_range policy (initial policy)))
        (traced : List Event) (recorded now : Values) (ranged : IsTrue (in_range policy recorded))
        (front back : List Part) (good_front : AllByRecursion IsGood front) (good_back : AllByRecursion IsGood back) where
      abbrev Agreed : List Event → Values → Part → Type 0
      Agreed events state part =
          Agrees (next policy) (in_range policy) keeps (initial policy) events state (all_granted front ++ (granted_by part ++ all_granted back)) (all_owed front ++ (owed_by part ++ all_owed back))

      -- it goes by its own event, or by all others
      abbrev Apart : Event → Type 0
      Apart e = AllByRecursion (WithOne e) front × AllByRecursion (WithOne e) back

      granted : (c : Event) → Fit c → is_return c ≡ false → Apart c → next policy recorded c ≡ Some now → IsTrue (in_range policy now)
          → Agreed traced recorded Clear → Agreed traced now (Granted c)
      granted c fit call apart taken in_range_now a =
          let end = all_taken_both keeps now front back in_range_now good_front good_back in
          grants_turn (next policy) (in_range policy) keeps (initial policy) starts traced recorded ranged (all_granted front) (all_granted back) (all_owed front ++ all_owed back) c now taken end.0 end.1
          (both_lists (λ d. May c d) (all_owed front) (all_owed back) (call_with_ends c front fit call good_front apart.0) (call_with_ends c back fit call good_back apart.1))
          (calls_with c back fit call good_back apart.1) a

      called : (c e : Event) → Fit c → is_return c ≡ false → Apart c → ((state : Values) → next policy state e ≡ next policy state c)
          → Agreed traced recorded (Granted c) → Agreed (traced ++ e ∷ []) recorded Clear
      called c e fit call apart alike_so a =
          let made = calls_turn (next policy) (in_range policy) keeps (initial policy) starts traced recorded ranged (all_granted front) (all_granted back) (all_owed front ++ all_owed back) c
          (calls_with c front fit call good_front apart.0) a in
          let p = parted (next policy) (in_range policy) keeps (initial policy) (traced ++ c ∷ []) (all_granted front ++ all_granted back) made.end starts made.happened in
          let q = parted (next policy) (in_range policy) keeps (initial policy) traced (c ∷ []) p.between starts p.to in
          let one : after (next policy) q.between (e ∷ []) ≡ Some p.between = ap (option_and_then (λ (s : Values). Some s)) (alike_so q.between) ∙ q.from in
          let to : after (next policy) (initial policy) (traced ++ e ∷ []) ≡ Some p.between = joins (next policy) (in_range policy) keeps (initial policy) q.between p.between traced (e ∷ []) q.to one in
          record {
            end = made.end;
            happened = joins (next policy) (in_range policy) keeps (initial policy) p.between made.end (traced ++ e ∷ []) (all_granted front ++ all_granted back) to p.from;
            due = made.due;
          }

      ended : (r : Event) → Fit r → is_return r ≡ true → Apart r → Agreed traced recorded Clear → Agreed (traced ++ r ∷ []) recorded (Owed r)
      ended r fit end apart a =
          ends_turn (next policy) (in_range policy) keeps (initial policy) starts traced recorded ranged (all_granted front ++ all_granted back) (all_owed front) (all_owed back) r (may.taken r fit end)
          (both_lists (λ d. May d r) (all_granted front) (all_granted back) (calls_with_end r front fit end good_front apart.0) (calls_with_end r back fit end good_back apart.1))
          (ends_with r back fit end good_back apart.1) a

      recorded_now : (events : List Event) (r : Event) → Fit r → is_return r ≡ true → Apart r → next policy recorded r ≡ Some now → Agreed events recorded (Owed r) → Agreed events now Clear
      recorded_now events r fit end apart taken a =
          records_turn (next policy) (in_range policy) keeps (initial policy) starts events recorded ranged (all_granted front ++ all_granted back) (all_owed front) (all_owed back) r now taken
          (ends_with r front fit end good_front apart.0) a

      -- the events of the step, of which one side is loose
      abbrev pub OwnLoose : Part → Option Event → Part → Type 0
      OwnLoose part event due = IsLoose part × IsLoose due × IfSome event IsLooseEvent

      abbrev pub OthersLoose : Type 0
      OthersLoose = AllByRecursion IsLoose front × AllByRecursion IsLoose back

      apart : (e : Event) → IsLooseEvent e ⊎ OthersLoose → Apart e
      apart e (inl own) = (loose_own e front own, loose_own e back own)
      apart e (inr others) = (loose_other e front others.0, loose_other e back others.1)

      -- what is loose of an event of the step
      either : {A B C : Type 0} → (A → B) → A ⊎ C → B ⊎ C
      either f (inl a) = inl (f a)
      either f (inr c) = inr c

      settled : (in_range_now : IsTrue (in_range policy now)) (part due : Part) → IsGood part → IsGood due → OwnLoose part None due ⊎ OthersLoose → Settles policy recorded part now due
          → Agreed traced recorded part → Agreed traced now due
      settled in_range_now Clear Clear good good_due loose turns a = subst (λ (s : Values). Agreed traced s Clear) (sym turns) a
      settled in_range_now Clear (Granted c) good good_due loose turns a =
          granted c good_due.0 good_due.1 (apart c (either (λ (own : OwnLoose Clear None (Granted c)). own.1) loose)) turns in_range_now a
      settled in_range_now Clear (Owed r) good good_due loose turns a = absurd turns
      settled in_range_now (Granted c) Clear good good_due loose turns a = absurd turns
      settled in_range_now (Granted c) (Granted d) good good_due loose turns a = rw (turns.0, turns.1) a
      settled in_range_now (Granted c) (Owed r) good good_due loose turns a = absurd turns
      settled in_range_now (Owed r) Clear good good_due loose turns a =
          recorded_now traced r good.0 good.1 (apart r (either (λ (own : OwnLoose (Owed r) None Clear). own.0) loose)) turns a
      settled in_range_now (Owed r) (Granted c) good good_due loose turns a = absurd turns
      settled in_range_now (Owed r) (Owed s) good good_due loose turns a = rw (turns.0, turns.1) a

      told : (part : Part) (e : Event) (due : Part) → IsGood part → Fit e → OwnLoose part (Some e) due ⊎ OthersLoose → Tells policy recorded part e now due
          → Agreed traced recorded part → Agreed (traced ++ e ∷ []) now due
      told Clear e Clear good fit loose turns a =
          let one = apart e (either (λ (own : OwnLoose Clear (Some e) Clear). own.2) loose) in
          recorded_now (traced ++ e ∷ []) e fit turns.0 one turns.1 (ended e fit turns.0 one a)
      told Clear e (Granted c) good fit loose turns a = absurd turns
      told Clear e (Owed r) good fit loose turns a =
          let one = apart e (either (λ (own : OwnLoose Clear (Some e) (Owed r)). own.2) loose) in
          let same : Agreed (traced ++ e ∷ []) recorded (Owed e) = ended e fit turns.0 one a in
          rw (turns.1, turns.2) same
      told (Granted c) e Clear good fit loose turns a =
          let made = called c e good.0 good.1 (apart c (either (λ (own : OwnLoose (Granted c) (Some e) Clear). own.0) loose)) (λ state. enough policy state e c turns.1) a in
          subst (λ (s : Values). Agreed (traced ++ e ∷ []) s Clear) (sym turns.0) made
      told (Granted c) e (Granted d) good fit loose turns a = absurd turns
      told (Granted c) e (Owed r) good fit loose turns a = absurd turns
      told (Owed r) e due good fit loose turns a = absurd turns

      pub turned : (in_range_now : IsTrue (in_range policy now)) (part : Part) (event : Option Event) (due : Part) → IsGood part → IsGood due → IfSome event Fit
          → OwnLoose part event due ⊎ OthersLoose → Turns policy recorded part event now due
          → Agreed traced recorded part → Agreed (traced ++ option_to_list event) now due
      turned in_range_now part None due good good_due fit loose turns a =
          subst (λ (es : List Event). Agreed es now due) (sym (append-nil traced)) (settled in_range_now part due good good_due loose turns a)
      turned in_range_now part (Some e) due good good_due fit loose turns a = told part e due good fit loose turns a

    -- ---- the same of all threads

    module _ (enough : SeenIsEnough) (keeps : Keeps (next policy) (in_range policy)) (starts : IsTrue (in_range policy (initial policy)))
        (traced : List Event) (recorded now : Values) (ranged : IsTrue (in_range policy recorded)) (in_range_now : IsTrue (in_range policy now))
        (among : List Part) (own : ℕ) (part due : Part) (event : Option Event) (there : slice_get among own ≡ Some part)
        (good : IsGood part) (good_due : IsGood due) (fit : IfSome event Fit) (goods : (n : ℕ) (q : Part) → n ≢ own → slice_get among n ≡ Some q → IsGood q)
        (loose : (IsLoose part × IsLoose due × IfSome event IsLooseEvent) ⊎ ((n : ℕ) (q : Part) → n ≢ own → slice_get among n ≡ Some q → IsLoose q))
        (turns : Turns policy recorded part event now due)
        (agree : Agree (next policy) (initial policy) traced recorded (all_granted among) (all_owed among)) where
      abbrev front : List Part
      front = take own among

      abbrev back : List Part
      back = drop (suc own) among

      good_sides : AllByRecursion IsGood front × AllByRecursion IsGood back
      good_sides = each_other IsGood among own goods

      whole : (p : Part) → all_granted (front ++ p ∷ back) ≡ all_granted front ++ (granted_by p ++ all_granted back)
      whole p = granted_both front (p ∷ back)

      whole_owed : (p : Part) → all_owed (front ++ p ∷ back) ≡ all_owed front ++ (owed_by p ++ all_owed back)
      whole_owed p = owed_both front (p ∷ back)

      owed_leads : (end : Values) × (after (next policy) recorded (all_owed front ++ (owed_by part ++ all_owed back)) ≡ Some end)
      owed_leads = all_taken_both keeps recorded front (part ∷ back) ranged good_sides.0 (good, good_sides.1)

      before : Agrees (next policy) (in_range policy) keeps (initial policy) traced recorded (all_granted front ++ (granted_by part ++ all_granted back)) (all_owed front ++ (owed_by part ++ all_owed back))
      before =
          let is = split_at among own part there in
          let granted_is : all_granted among ≡ all_granted front ++ (granted_by part ++ all_granted back) = ap all_granted is ∙ whole part in
          let owed_is : all_owed among ≡ all_owed front ++ (owed_by part ++ all_owed back) = ap all_owed is ∙ whole_owed part in
          record {
            end = owed_leads.0;
            happened = ap (λ (es : List Event). after (next policy) (initial policy) (traced ++ es)) (sym granted_is) ∙ agree ∙ ap (after (next policy) recorded) owed_is ∙ owed_leads.1;
            due = owed_leads.1;
          }

      sides : (IsLoose part × IsLoose due × IfSome event IsLooseEvent) ⊎ (AllByRecursion IsLoose front × AllByRecursion IsLoose back)
      sides = by loose where
        by : (IsLoose part × IsLoose due × IfSome event IsLooseEvent) ⊎ ((n : ℕ) (q : Part) → n ≢ own → slice_get among n ≡ Some q → IsLoose q)
            → (IsLoose part × IsLoose due × IfSome event IsLooseEvent) ⊎ (AllByRecursion IsLoose front × AllByRecursion IsLoose back)
        by (inl mine) = inl mine
        by (inr others) = inr (each_other IsLoose among own others)

      following : Agrees (next policy) (in_range policy) keeps (initial policy) (traced ++ option_to_list event) now (all_granted front ++ (granted_by due ++ all_granted back)) (all_owed front ++ (owed_by due ++ all_owed back))
      following = turned enough keeps starts traced recorded now ranged front back good_sides.0 good_sides.1 in_range_now part event due good good_due fit sides turns before

      -- The agreement is kept, and the events so far are accepted.
      pub keeps_agreement : Agree (next policy) (initial policy) (traced ++ option_to_list event) now (all_granted (slice_set among own due)) (all_owed (slice_set among own due))
          × IsSome (after (next policy) (initial policy) (traced ++ option_to_list event))
      keeps_agreement =
          let is = set_at among own part due there in
          let granted_is : all_granted (slice_set among own due) ≡ all_granted front ++ (granted_by due ++ all_granted back) = ap all_granted is ∙ whole due in
          let owed_is : all_owed (slice_set among own due) ≡ all_owed front ++ (owed_by due ++ all_owed back) = ap all_owed is ∙ whole_owed due in
          let b = following in
          let p = parted (next policy) (in_range policy) keeps (initial policy) (traced ++ option_to_list event) (all_granted front ++ (granted_by due ++ all_granted back)) b.end starts b.happened in
          (rw (granted_is, owed_is) (b.happened ∙ sym b.due), ap is_some p.to)

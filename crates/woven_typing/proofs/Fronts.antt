-- The types at the front of a block: those before its call, with locals that nothing is known of after them.
use Rattle.std.proofs.Common.{◌≡◌, ℕ, zero, suc, ◌+◌, ◌-◌, ◌≤◌, Bool, true, false, List, [], ◌∷◌, ◌++◌, length, drop, replicate, Option, Some, None, refl, sym, ap, ◌∙◌, append-nil, append_assoc, arith}
use Rattle.std.specs.Prelude.{◌&&◌, ◌==◌, nat_le}
use Rattle.std.specs.List.{AllByRecursion}
use Rattle.std.specs.Option.{option_map_or}
use Rattle.std.proofs.lemmas.Bool.{and_from, and_parts}
use Rattle.cert_format.specs.declared.certificate.Mode.{Mode}
use Rattle.cert_format.specs.declared.certificate.Mode.TheVariants.{Hold, Release}
use Rattle.cert_format.specs.declared.typing.FrameType.{FrameType}
use Rattle.cert_format.specs.declared.typing.VType.{VType}
use Rattle.cert_format.specs.declared.typing.VType.TheVariants as types
use Rattle.bytecode_model.specs.declared.program.Handler.{Handler}
use Rattle.bytecode_model.specs.declared.program.Program.{Program}
use Rattle.bytecode_model.specs.Assigning.{assignable}
use Rattle.bytecode_model.specs.Makes.{below, local_after, stack_after, type_at}
use Rattle.bytecode_model.specs.InsnPlace.{InsnPlace}
use Rattle.bytecode_model.specs.Rules.{Entry, catches_well, class_caught, entry_locals, goes_well, is_alone, local_caught, locals_fit, stack_fits, taken}
use Rattle.bytecode_model.specs.Wants.{takes}
use Rattle.conspec_tree.specs.declared.types.Phase.TheVariants.{Before}
use Rattle.conspec_automaton.specs.declared.policy.Clause.{Clause}
use Rattle.block_template.specs.declared.item.Role.{Role}
use Rattle.block_template.specs.declared.item.Role.TheVariants as roles
use Rattle.block_template.specs.Blocks.{Clauses}
use Rattle.block_template.specs.Flow.{entered, saving}
use Rattle.block_template.specs.Frames.{Around, frame, frame_at, kept_arguments, kept_types, saved_locals}
use Rattle.block_template.proofs.Types.{below_none, topmost_few}

-- The operands are the same, and so are the locals, after which there may be some that nothing is known of.
pub record IsFrontOf (f g : FrameType) : Type 0 where
  pub stack : g.stack ≡ f.stack
  pub more : List VType
  pub locals : g.locals ≡ f.locals ++ more
  pub unknown : AllByRecursion (λ (t : VType). t ≡ types.Top) more

pub front_itself : (f : FrameType) → IsFrontOf f f
front_itself f = record { stack = refl; more = []; locals = sym (append-nil f.locals); unknown = tt }

-- ---- what takes the one takes the other

unknown_fit : (program : Program) (from : ℕ → VType) (j : ℕ) (more : List VType) → AllByRecursion (λ (t : VType). t ≡ types.Top) more
    → locals_fit program from j more ≡ true
unknown_fit program from j [] all = refl
unknown_fit program from j (t ∷ more) all =
    and_from (assignable program (from j) t) (locals_fit program from (j + 1) more) (ap (assignable program (from j)) all.0)
    (unknown_fit program from (j + 1) more all.1)

more_fit : (program : Program) (from : ℕ → VType) (j : ℕ) (to more : List VType) → AllByRecursion (λ (t : VType). t ≡ types.Top) more
    → locals_fit program from j to ≡ true → locals_fit program from j (to ++ more) ≡ true
more_fit program from j [] more all e = unknown_fit program from j more all
more_fit program from j (t ∷ to) more all e =
    let parts = and_parts (assignable program (from j) t) (locals_fit program from (j + 1) to) e in
    and_from (assignable program (from j) t) (locals_fit program from (j + 1) (to ++ more)) parts.0
    (more_fit program from (j + 1) to more all parts.1)

module _ (f g : FrameType) (front : IsFrontOf f g) where
  pub locals_front : (program : Program) (from : ℕ → VType) → locals_fit program from 0 f.locals ≡ true
      → locals_fit program from 0 g.locals ≡ true
  locals_front program from e =
      ap (locals_fit program from 0) front.locals ∙ more_fit program from 0 f.locals front.more front.unknown e

  pub goes_front : (place : InsnPlace) (frame : FrameType) → goes_well place frame f ≡ true → goes_well place frame g ≡ true
  goes_front place frame e =
      let left : List VType = stack_after place frame.locals (length (takes place)) frame.stack in
      let parts = and_parts (stack_fits place.program left f.stack) (locals_fit place.program (local_after place frame.locals (taken place frame)) 0 f.locals) e in
      and_from (stack_fits place.program left g.stack) (locals_fit place.program (local_after place frame.locals (taken place frame)) 0 g.locals)
      (ap (stack_fits place.program left) front.stack ∙ parts.0)
      (locals_front place.program (local_after place frame.locals (taken place frame)) parts.1)

  pub catches_front : (place : InsnPlace) (frame : FrameType) (handler : Handler) → catches_well place frame handler f ≡ true
      → catches_well place frame handler g ≡ true
  catches_front place frame handler e =
      let parts = and_parts (is_alone (class_caught handler) f.stack) (locals_fit place.program (local_caught frame.locals) 0 f.locals) e in
      and_from (is_alone (class_caught handler) g.stack) (locals_fit place.program (local_caught frame.locals) 0 g.locals)
      (ap (is_alone (class_caught handler)) front.stack ∙ parts.0)
      (locals_front place.program (local_caught frame.locals) parts.1)

  pub entry_front : (place : InsnPlace) → Entry place f ≡ true → Entry place g ≡ true
  entry_front place e =
      let few : Bool = nat_le (length (entry_locals place)) place.method.max_locals in
      let first = and_parts few (locals_fit place.program (type_at (entry_locals place)) 0 f.locals && (length f.stack == 0)) e in
      let rest = and_parts (locals_fit place.program (type_at (entry_locals place)) 0 f.locals) (length f.stack == 0) first.1 in
      and_from few (locals_fit place.program (type_at (entry_locals place)) 0 g.locals && (length g.stack == 0)) first.0
      (and_from (locals_fit place.program (type_at (entry_locals place)) 0 g.locals) (length g.stack == 0)
      (locals_front place.program (type_at (entry_locals place)) rest.0)
      (ap (λ (s : List VType). length s == 0) front.stack ∙ rest.1))

-- ---- the front of a block

drop_past : (n : ℕ) (xs : List VType) → length xs ≤ n → drop n xs ≡ []
drop_past zero [] le = refl
drop_past zero (x ∷ xs) le = absurd (omega (arith, le))
drop_past (suc n) [] le = refl
drop_past (suc n) (x ∷ xs) le = drop_past n xs (omega (arith, le))

tops : (n : ℕ) (rest : List VType) → AllByRecursion (λ (t : VType). t ≡ types.Top) rest
    → AllByRecursion (λ (t : VType). t ≡ types.Top) (replicate n types.Top ++ rest)
tops zero rest all = all
tops (suc n) rest all = (refl, tops n rest all)

module _ (clauses : Clauses) (around : Around) where
  -- what is so where nothing is kept yet
  unsaved : (n : ℕ) (stack : List VType) → kept_arguments clauses ≤ n → stack ≡ around.before.stack
      → IsFrontOf around.before (frame (saved_locals clauses around n) stack)
  unsaved n stack le same =
      let spare : List VType = replicate (around.base - length around.before.locals) types.Top in
      let none : drop n (kept_types clauses around) ≡ [] =
      drop_past n (kept_types clauses around) (omega (arith, le, topmost_few (kept_arguments clauses) around.before.stack)) in
      record {
        stack = same;
        more = spare ++ (replicate n types.Top ++ []);
        locals =
            ap (λ (xs : List VType). (around.before.locals ++ spare) ++ (replicate n types.Top ++ xs)) none
            ∙ append_assoc around.before.locals spare (replicate n types.Top ++ []);
        unknown = tops (around.base - length around.before.locals) (replicate n types.Top ++ []) (tops n [] tt);
      }

  pub record IsEntered (role : Role) : Type 0 where
    pub types : FrameType
    pub told : frame_at clauses around role ≡ Some types
    pub front : IsFrontOf around.before types

  none_below : (n : ℕ) → n ≡ 0 → below n around.before.stack ≡ around.before.stack
  none_below n e = ap (λ (m : ℕ). below m around.before.stack) e ∙ below_none around.before.stack

  locked : kept_arguments clauses ≡ 0 → IsEntered (roles.Lock Before false)
  locked e = record {
    types = frame (saved_locals clauses around 0) (below (kept_arguments clauses) around.before.stack ++ []);
    told = refl;
    front = unsaved 0 (below (kept_arguments clauses) around.before.stack ++ []) (omega (arith, e))
        (append-nil (below (kept_arguments clauses) around.before.stack) ∙ none_below (kept_arguments clauses) e);
  }

  saved : (n : ℕ) → kept_arguments clauses ≡ n → IsEntered (saving n)
  saved zero e = locked e
  saved (suc left) e =
      record {
        types = frame (saved_locals clauses around (suc left)) (below (kept_arguments clauses - suc left) around.before.stack);
        told = refl;
        front = unsaved (suc left) (below (kept_arguments clauses - suc left) around.before.stack) (omega (arith, e))
            (none_below (kept_arguments clauses - suc left) (omega (arith, e)));
      }

  pub entered_is : (mode : Mode) → IsEntered (entered mode clauses.before)
  entered_is mode = by mode clauses.before refl
    where
      count : (o : Option Clause) → clauses.before ≡ o
          → kept_arguments clauses ≡ length (option_map_or (λ (c : Clause). c.args) o [])
      count o e = ap (λ (x : Option Clause). length (option_map_or (λ (c : Clause). c.args) x [])) e

      by : (mode : Mode) (o : Option Clause) → clauses.before ≡ o → IsEntered (entered mode o)
      by Release None e =
          record {
            types = frame (saved_locals clauses around 0) around.before.stack;
            told = refl;
            front = unsaved 0 around.before.stack (omega (arith, count None e)) refl;
          }
      by Hold None e = locked (count None e)
      by Release (Some clause) e = saved (length clause.args) (count (Some clause) e)
      by Hold (Some clause) e = saved (length clause.args) (count (Some clause) e)

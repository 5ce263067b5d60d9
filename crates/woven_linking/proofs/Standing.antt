-- The classes of woven files meet the conditions of classes.
use Rattle.std.proofs.Common.{◌≡◌, ◌≢◌, ℕ, suc, Bool, true, false, ◌||◌, ◌&&◌, List, [], ◌∷◌, ◌++◌, length, Option, Some, None, Ok, refl, sym, ap, ◌∙◌, arith}
use Rattle.std.specs.Prelude.{bytes_eq, not}
use Rattle.std.specs.List.{AllByRecursion, list_all, list_any}
use Rattle.std.specs.Option.{option_map_or, option_or}
use Rattle.std.proofs.lemmas.Bool.{false≢true}
use Rattle.std.proofs.lemmas.List.{length-append}
use Rattle.std.proofs.lemmas.List.Folds.{find-append, list_any-append}
use Rattle.mon_base.specs.Reading.{◌>>=◌, need}
use Rattle.mon_base.proofs.Reading.{bind_ok, need_ok}
use Rattle.class_codec.specs.declared.tree.ClassFile.{ClassFile}
use Rattle.class_codec.specs.declared.tree.Member.{Member}
use Rattle.class_codec.specs.Fits.{IsEncodable}
use Rattle.class_codec.specs.Pool.{class_name_at, utf8_at}
use Rattle.api_listing.specs.declared.types.ListedClass.{ListedClass}
use Rattle.api_listing.specs.BuiltIn.{object}
use Rattle.api_listing.specs.Listing.{is_known}
use Rattle.api_listing.specs.Nearest.{class_named}
use Rattle.api_listing.specs.Words.{is_class_name}
use Rattle.class_linking.specs.declared.fault.LinkFault.{LinkFault}
use Rattle.class_linking.specs.declared.fault.LinkFault.TheVariants as faults
use Rattle.bytecode_model.specs.declared.program.Side.TheVariants as sides
use Rattle.class_linking.specs.Fault.{Linked}
use Rattle.bytecode_model.specs.Conditions.{is_free, names_own_class, may_be_extended, has_interface, is_super, is_above, stays_within, runs_in_circle, stands_below, is_good_interface, is_below_own, has_supers}
use Rattle.class_linking.specs.ClassConditions.{class_linked, classes_linked}
use Rattle.bytecode_model.specs.Heads.{head_of, heads_of}
use Rattle.bytecode_model.proofs.Lists.{not_true}
use Rattle.offset_patch.specs.Entries.{state_name}
use Rattle.class_weaving.specs.Outcome.{Each}
use Rattle.woven_linking.proofs.Above.{and_both, has_name, find_none, other_name, no_circle}
use Rattle.woven_linking.proofs.Free.{IsFree, class_free}
use Rattle.woven_linking.proofs.Kept.{IsKept}
use Rattle.conspec_tree.specs.declared.types.Var.{Var}
use Rattle.class_weaving.specs.State.{state_file}
use Rattle.woven_linking.proofs.Same.{head_kept}

-- ---- tests

and_holds : (a b : Bool) → a ≡ true → b ≡ true → (a && b) ≡ true
and_holds true b e f = f
and_holds false b e f = absurd (false≢true e)

pub or_left : (a b : Bool) → a ≡ true → (a || b) ≡ true
or_left true b e = refl
or_left false b e = absurd (false≢true e)

pub or_right : (a b : Bool) → b ≡ true → (a || b) ≡ true
or_right true b e = refl
or_right false b e = e

or_still : (a b c : Bool) → (a ≡ true → b ≡ true) → (a || c) ≡ true → (b || c) ≡ true
or_still true b c f e = or_left b c (f refl)
or_still false b c f e = or_right b c e

need_is : (b : Bool) (fault : LinkFault) → need b fault ≡ Ok tt → b ≡ true
need_is true fault e = refl
need_is false fault e = absurd cc

-- ---- conspec/State

pub state_head : ListedClass
state_head = record { name = state_name; parent = object; interfaces = []; is_interface = false }

pub state_says : (vars : List Var) → head_of (state_file vars) ≡ state_head
unfolding class_name_at utf8_at state_head
state_says vars = refl

pub state_head_name : state_head.name ≡ state_name
unfolding state_head
state_head_name = refl

pub state_head_alone : state_head.interfaces ≡ []
unfolding state_head
state_head_alone = refl

pub state_head_parent : state_head.parent ≡ object
unfolding state_head
state_head_parent = refl

pub state_head_is_class : state_head.is_interface ≡ false
unfolding state_head
state_head_is_class = refl

-- ---- the conditions of a class

-- What holds of a class of a compiler's file, beside that its name is new.
pub record IsGoodClass (heads : List ListedClass) (file : ClassFile) : Type 0 where
  pub named : is_class_name (head_of file).name ≡ true
  pub free : IsFree file.pool
  pub supers : has_supers heads (head_of file) file.fields ≡ true

one_good : (heads : List ListedClass) (taken : Bool) (file : ClassFile) → class_linked sides.Original heads taken (head_of file) file ≡ Ok tt → IsGoodClass heads file × (taken ≡ false)
one_good heads taken file e =
    let c = head_of file in
    let last = need (has_supers heads c file.fields) (faults.SuperLeftOut c.name) in
    let a = need_ok (is_class_name c.name) (faults.Name c.name) (λ named. need (not taken) (faults.Twice c.name) >>= λ once. need (is_free sides.Original file) (faults.NameTaken c.name) >>= λ free. last) tt e in
    let b = need_ok (not taken) (faults.Twice c.name) (λ once. need (is_free sides.Original file) (faults.NameTaken c.name) >>= λ free. last) tt a.1 in
    let d = need_ok (is_free sides.Original file) (faults.NameTaken c.name) (λ free. last) tt b.1 in
    (record { named = a.0; free = not_true (list_any names_own_class file.pool) d.0; supers = need_is (has_supers heads c file.fields) (faults.SuperLeftOut c.name) d.1 }, not_true taken b.0)

module _ (heads : List ListedClass) where
  -- of a first class and the others
  first_good : (taken : List ListedClass) (file : ClassFile) (files : List ClassFile) → classes_linked sides.Original heads taken (file ∷ files) ≡ Ok tt
      → IsGoodClass heads file × (is_known taken (head_of file).name ≡ false) × (classes_linked sides.Original heads (head_of file ∷ taken) files ≡ Ok tt)
  first_good taken file files e =
      let a = bind_ok (class_linked sides.Original heads (is_known taken (head_of file).name) (head_of file) file) (λ _. classes_linked sides.Original heads (head_of file ∷ taken) files) tt e in
      let one = one_good heads (is_known taken (head_of file).name) file a.1 in
      (one.0, one.1, a.2)

  pub all_good : (taken : List ListedClass) (files : List ClassFile) → classes_linked sides.Original heads taken files ≡ Ok tt → AllByRecursion (IsGoodClass heads) files
  all_good taken [] e = tt
  all_good taken (file ∷ files) e =
      let a = first_good taken file files e in
      (a.0, all_good (head_of file ∷ taken) files a.2)

  -- no class has a name that is taken
  pub none_taken : (taken : List ListedClass) (name : List ℕ) → is_known taken name ≡ true → (files : List ClassFile) → classes_linked sides.Original heads taken files ≡ Ok tt → is_known (heads_of files) name ≡ false
  none_taken taken name known [] e = refl
  none_taken taken name known (file ∷ files) e =
      let a = first_good taken file files e in
      let other : bytes_eq (head_of file).name name ≡ false = other_name (head_of file).name name (λ same. false≢true (sym a.1 ∙ ap (is_known taken) same ∙ known)) in
      let rest = none_taken (head_of file ∷ taken) name (or_right (bytes_eq (head_of file).name name) (is_known taken name) known) files a.2 in
      rw (other, rest) refl

-- ---- with one class more

module _ (vars : List Var) (heads : List ListedClass) (parents : AllByRecursion (λ (c : ListedClass). c.parent ≢ state_head.name) heads) where
  known_still : (name : List ℕ) → is_known heads name ≡ true → is_known (heads ++ state_head ∷ []) name ≡ true
  known_still name e = list_any-append (has_name name) heads (state_head ∷ []) ∙ or_left (is_known heads name) (is_known (state_head ∷ []) name) e

  interface_still : (name : List ℕ) → has_interface heads name ≡ true → has_interface (heads ++ state_head ∷ []) name ≡ true
  interface_still name e = by (class_named heads name) refl e where
    by : (o : Option ListedClass) → class_named heads name ≡ o → option_map_or (λ (c : ListedClass). c.is_interface) o false ≡ true
        → has_interface (heads ++ state_head ∷ []) name ≡ true
    by None none e = absurd (false≢true e)
    by (Some c) found e =
        ap (λ (o : Option ListedClass). option_map_or (λ (c : ListedClass). c.is_interface) o false) (find-append (has_name name) heads (state_head ∷ []) ∙ ap (λ (o : Option ListedClass). option_or o (class_named (state_head ∷ []) name)) found) ∙ e

  above_still : (names : List (List ℕ)) → list_all (is_above heads) names ≡ true → list_all (is_above (heads ++ state_head ∷ [])) names ≡ true
  above_still [] e = refl
  above_still (name ∷ names) e =
      let both = and_both (is_above heads name) (list_all (is_above heads) names) e in
      and_holds (is_above (heads ++ state_head ∷ []) name) (list_all (is_above (heads ++ state_head ∷ [])) names)
      (or_still (has_interface heads name) (has_interface (heads ++ state_head ∷ []) name) _ (interface_still name) both.0) (above_still names both.1)

  supers_still : (c : ListedClass) (fields : List Member) → c.name ≢ state_head.name → has_supers heads c fields ≡ true → has_supers (heads ++ state_head ∷ []) c fields ≡ true
  supers_still c fields other e =
      let all = heads ++ state_head ∷ [] in
      let rest = is_good_interface c fields && not (is_below_own c) in
      let a = and_both (stands_below heads c) rest e in
      let b = and_both (is_super heads c.parent) (list_all (is_above heads) c.interfaces && not (runs_in_circle heads c.name)) a.0 in
      let d = and_both (list_all (is_above heads) c.interfaces) (not (runs_in_circle heads c.name)) b.1 in
      let circle = no_circle heads state_head parents c.name other (not_true (runs_in_circle heads c.name) d.1) in
      and_holds (stands_below all c) rest
      (and_holds (is_super all c.parent) (list_all (is_above all) c.interfaces && not (runs_in_circle all c.name))
      (or_still (is_known heads c.parent) (is_known all c.parent) (may_be_extended c.parent) (known_still c.parent) b.0)
      (and_holds (list_all (is_above all) c.interfaces) (not (runs_in_circle all c.name)) (above_still c.interfaces d.0) (ap not circle))) a.1

  -- conspec/State stands below Object, which is not given
  state_supers : is_known heads state_head.name ≡ false → is_known heads object ≡ false → has_supers (heads ++ state_head ∷ []) state_head (state_file vars).fields ≡ true
  unfolding state_head
  state_supers own above =
      let all = heads ++ state_head ∷ [] in
      let count : length all ≡ suc (length heads) = omega (arith, length-append heads (state_head ∷ [])) in
      let found : class_named all state_name ≡ Some state_head =
      find-append (has_name state_name) heads (state_head ∷ []) ∙ ap (λ (o : Option ListedClass). option_or o (Some state_head)) (find_none (has_name state_name) heads own) in
      let none : class_named all object ≡ None = find-append (has_name object) heads (state_head ∷ []) ∙ ap (λ (o : Option ListedClass). option_or o None) (find_none (has_name object) heads above) in
      let once : stays_within (suc (length all)) all state_name ≡ stays_within (length all) all object = ap (λ (o : Option ListedClass). option_map_or (λ (c : ListedClass). stays_within (length all) all c.parent) o false) found in
      let twice : stays_within (length all) all object ≡ false = ap (λ (n : ℕ). stays_within n all object) count
      ∙ ap (λ (o : Option ListedClass). option_map_or (λ (c : ListedClass). stays_within (length heads) all c.parent) o false) none in
      let below : is_super all object ≡ true = or_right (is_known all object) (may_be_extended object) refl in
      let circle : not (runs_in_circle all state_name) ≡ true = ap not (once ∙ twice) in
      rw (below, circle) refl

  named_state : is_class_name state_head.name ≡ true
  unfolding state_head
  named_state = refl

  one_still : (taken : List ListedClass) (old new : ClassFile) → IsEncodable old → IsKept old new → IsGoodClass heads old → is_known taken (head_of old).name ≡ false
      → class_linked sides.Inlined (heads ++ state_head ∷ []) (is_known taken (head_of new).name) (head_of new) new ≡ Ok tt
  one_still taken old new fits kept good once =
      let all = heads ++ state_head ∷ [] in
      let c = head_of old in
      let other : c.name ≢ state_head.name = λ e. class_free old.pool old.this_class good.free (e ∙ state_head_name) in
      let supers = supers_still c old.fields other good.supers in
      ap (λ (x : ListedClass). class_linked sides.Inlined all (is_known taken x.name) x new) (head_kept old new fits kept)
      ∙ ap (λ (b : Bool). need b (faults.Name c.name) >>= λ named. need (not (is_known taken c.name)) (faults.Twice c.name) >>= λ once. need (has_supers all c new.fields) (faults.SuperLeftOut c.name)) good.named
      ∙ ap (λ (b : Bool). need (not b) (faults.Twice c.name) >>= λ once. need (has_supers all c new.fields) (faults.SuperLeftOut c.name)) once
      ∙ ap (λ (fields : List Member). need (has_supers all c fields) (faults.SuperLeftOut c.name)) kept.fields ∙ ap (λ (b : Bool). need b (faults.SuperLeftOut c.name)) supers

  state_stands : (taken : List ListedClass) → is_known taken state_head.name ≡ false → has_supers (heads ++ state_head ∷ []) state_head (state_file vars).fields ≡ true
      → class_linked sides.Inlined (heads ++ state_head ∷ []) (is_known taken (head_of (state_file vars)).name) (head_of (state_file vars)) (state_file vars) ≡ Ok tt
  state_stands taken free supers =
      let all = heads ++ state_head ∷ [] in
      let c = state_head in
      ap (λ (x : ListedClass). class_linked sides.Inlined all (is_known taken x.name) x (state_file vars)) (state_says vars)
      ∙ ap (λ (b : Bool). need b (faults.Name c.name) >>= λ named. need (not (is_known taken c.name)) (faults.Twice c.name) >>= λ once. need (has_supers all c (state_file vars).fields) (faults.SuperLeftOut c.name)) named_state
      ∙ ap (λ (b : Bool). need (not b) (faults.Twice c.name) >>= λ once. need (has_supers all c (state_file vars).fields) (faults.SuperLeftOut c.name)) free
      ∙ ap (λ (b : Bool). need b (faults.SuperLeftOut c.name)) supers

  stand : (taken : List ListedClass) (olds news : List ClassFile) → AllByRecursion IsEncodable olds → Each IsKept olds news → classes_linked sides.Original heads taken olds ≡ Ok tt
      → is_known taken state_head.name ≡ false → has_supers (heads ++ state_head ∷ []) state_head (state_file vars).fields ≡ true
      → classes_linked sides.Inlined (heads ++ state_head ∷ []) taken (news ++ (state_file vars) ∷ []) ≡ Ok tt
  stand taken [] [] fits kept e free supers =
      ap (λ (r : Linked (Unit {0})). r >>= λ _. Ok tt) (state_stands taken free supers)
  stand taken [] (new ∷ news) fits kept e free supers = absurd kept
  stand taken (old ∷ olds) [] fits kept e free supers = absurd kept
  stand taken (old ∷ olds) (new ∷ news) fits kept e free supers =
      let all = heads ++ state_head ∷ [] in
      let a = first_good heads taken old olds e in
      let one = one_still taken old new fits.0 kept.0 a.0 a.1 in
      let other : bytes_eq (head_of old).name state_head.name ≡ false = other_name (head_of old).name state_head.name (λ same. class_free old.pool old.this_class a.0.free (same ∙ state_head_name)) in
      let free' : is_known (head_of old ∷ taken) state_head.name ≡ false = ap (λ (b : Bool). b || is_known taken state_head.name) other ∙ free in
      let rest = stand (head_of old ∷ taken) olds news fits.1 kept.1 a.2 free' supers in
      ap (λ (r : Linked (Unit {0})). r >>= λ _. classes_linked sides.Inlined all (head_of new ∷ taken) (news ++ (state_file vars) ∷ [])) one
      ∙ ap (λ (h : ListedClass). classes_linked sides.Inlined all (h ∷ taken) (news ++ (state_file vars) ∷ [])) (head_kept old new fits.0 kept.0) ∙ rest

  pub classes_stand : (listed : List ListedClass) (olds news : List ClassFile) → AllByRecursion IsEncodable olds → Each IsKept olds news → classes_linked sides.Original heads listed olds ≡ Ok tt
      → is_known listed state_name ≡ false → is_known heads state_name ≡ false → is_known heads object ≡ false
      → classes_linked sides.Inlined (heads ++ state_head ∷ []) listed (news ++ (state_file vars) ∷ []) ≡ Ok tt
  classes_stand listed olds news fits kept e free own above =
      stand listed olds news fits kept e (ap (is_known listed) state_head_name ∙ free) (state_supers (ap (is_known heads) state_head_name ∙ own) above)

-- Files that were woven link to the program with its blocks.
use Rattle.std.proofs.Common.{◌≡◌, ℕ, ◌+◌, Bool, true, List, [], ◌∷◌, ◌++◌, length, map, Option, Some, None, Ok, refl, sym, ap, subst, ◌∙◌, append_assoc, append-nil}
use Rattle.std.specs.Prelude.{slice_get}
use Rattle.std.specs.List.{AllByRecursion}
use Rattle.std.proofs.lemmas.List.{length-append, length-map}
use Rattle.mon_base.specs.Reading.{◌>>=◌}
use Rattle.mon_base.proofs.Reading.{bind_ok, ok_is}
use Rattle.class_codec.specs.declared.tree.ClassFile.{ClassFile}
use Rattle.class_codec.specs.declared.tree.Const.{Const}
use Rattle.class_codec.specs.declared.tree.Member.{Member}
use Rattle.class_codec.specs.Fits.{IsEncodable, FitsMember, FitsPool}
use Rattle.api_listing.specs.declared.types.ListedClass.{ListedClass}
use Rattle.api_listing.specs.declared.types.Listing.{Listing}
use Rattle.class_linking.specs.declared.fault.LinkFault.{LinkFault}
use Rattle.bytecode_model.specs.declared.program.LinkedClass.{LinkedClass}
use Rattle.bytecode_model.specs.declared.program.Method.{Method}
use Rattle.bytecode_model.specs.declared.program.Program.{Program}
use Rattle.bytecode_model.specs.declared.program.Side.{Side}
use Rattle.bytecode_model.specs.declared.program.Side.TheVariants as sides
use Rattle.class_linking.specs.ClassConditions.{classes_linked}
use Rattle.class_linking.specs.Fault.{Linked, linked_from}
use Rattle.bytecode_model.specs.Heads.{class_at, head_of, heads_of}
use Rattle.bytecode_model.specs.LeftMethods.{left_to_library}
use Rattle.bytecode_model.specs.Operands.{literals_of}
use Rattle.class_linking.specs.Linking.{method_linked, each_method_linked, methods_linked, each_linked, class_with, classes_with, main_of, assembled}
use Rattle.bytecode_model.specs.Sound.{IsSoundMethod, IsSoundClass}
use Rattle.conspec_tree.specs.declared.types.Var.{Var}
use Rattle.offset_patch.specs.Plan.{Plan, IsGood}
use Rattle.offset_patch.specs.declared.fault.SpliceFault.{SpliceFault}
use Rattle.offset_patch.specs.Entries.{with_wants}
use Rattle.offset_patch.proofs.Pieces.{wants_append}
use Rattle.class_weaving.specs.State.{state_file}
use Rattle.class_weaving.specs.declared.woven.Members.{Members}
use Rattle.class_weaving.specs.declared.woven.Woven.{Woven}
use Rattle.class_weaving.specs.Woven.{folded, first_code, body_woven, member_woven, none_made}
use Rattle.class_weaving.specs.Outcome.{AreWovenMembers, Each, wants_woven, class_wants, IsWovenMethod, IsWovenClass, IsWoven}
use Rattle.woven_linking.specs.Links.{WovenLinks}
use Rattle.woven_linking.specs.Program.{MethodHasRoom, IsWovenOf}
use Rattle.woven_linking.proofs.ByPlan as by_plan
use Rattle.woven_linking.proofs.Made.{class_is, HaveMethodsRoom, with_state}
use Rattle.woven_linking.proofs.Added.{is_added, new_stand}
use Rattle.woven_linking.proofs.Free.{IsFree, class_free}
use Rattle.woven_linking.proofs.Kept.{IsLonger, IsKept, IsFileOf, file_kept, file_is, files_made}
use Rattle.woven_linking.proofs.Listed.{listed}
use Rattle.woven_linking.proofs.Named.{IsAdded}
use Rattle.class_linking.proofs.Loop.{first_linked}
use Rattle.class_linking.proofs.Parts.{class_parts, program_parts}
use Rattle.woven_linking.proofs.Same.{head_kept, literals_kept, main_kept, state_strings}
use Rattle.woven_linking.proofs.Standing.{IsGoodClass, all_good, state_says, state_head_name}
use Rattle.woven_linking.proofs.Steps.{one_step}

-- ---- lists

pub get_after : {X : Type 0} (xs : List X) (x : X) (ys : List X) → slice_get (xs ++ x ∷ ys) (length xs) ≡ Some x
get_after [] x ys = refl
get_after (z ∷ xs) x ys = get_after xs x ys

-- ---- the methods of a class

module _ (kinds : List Bool) (plan : Plan) (good : IsGood kinds plan) (class : LinkedClass) (new : ClassFile) (files others : List ClassFile) (listing : Listing) (added : IsAdded kinds files others listing)
    (p : FitsPool class.file.pool) (free : IsFree class.file.pool) (longer : IsLonger class.file.pool new.pool) (named : (head_of new).name ≡ (head_of class.file).name) (state : ℕ) where
  -- What the members that are left make of what was made, and what these link to.
  record IsRest (made last : Members) (members : List Member) (left : List Method) : Type 0 where
    items : List Member
    are : last.items ≡ made.items ++ items
    more : (xs : List Const) × (last.entries ≡ made.entries ++ xs)
    wanted : last.entries ≡ with_wants made.entries (class_wants plan left)
    linked : List Method
    links : linked_from (method_linked others listing new) made.number items ≡ Ok linked
    each : Each (IsWovenMethod plan (length files) new.pool) left linked
    sound : AllByRecursion IsSoundMethod linked
    room : AllByRecursion (MethodHasRoom plan new.pool) left
    kept : AreWovenMembers plan new.pool left members items

  none_left : (made : Members) → IsRest made made [] []
  none_left made = record { items = []; are = sym (append-nil made.items); more = ([], sym (append-nil made.entries)); wanted = refl; linked = []; links = refl; each = tt; sound = tt; room = tt; kept = tt }

  members_rest : (members : List Member) (made last : Members) (done left : List Method) → class.methods ≡ done ++ left → length done ≡ made.number → AllByRecursion IsSoundMethod left
      → AllByRecursion (FitsMember class.file.pool true) members → linked_from (method_linked files listing class.file) made.number members ≡ Ok left
      → folded (member_woven plan state class) made members ≡ Ok last → last.entries ≡ new.pool → (xs : List Const) × (made.entries ≡ class.file.pool ++ xs) → IsRest made last members left
  members_rest [] made last done left split count sound fits e w pool begins =
      let none : [] ≡ left = ok_is LinkFault [] left e in
      subst (IsRest made last []) none (subst (λ (x : Members). IsRest made x [] []) (ok_is SpliceFault made last w) (none_left made))
  members_rest (member ∷ members) made last done left split count sound fits e w pool begins =
      let a = first_linked (method_linked files listing class.file) made.number member members left e in
      let m = a.0 in
      let rest = a.1 in
      let sound' : AllByRecursion IsSoundMethod (m ∷ rest) = subst (AllByRecursion IsSoundMethod) (sym a.4) sound in
      let split' : class.methods ≡ done ++ m ∷ rest = split ∙ ap (λ (xs : List Method). done ++ xs) (sym a.4) in
      let here : slice_get class.methods made.number ≡ Some m = ap (λ (n : ℕ). slice_get class.methods n) (sym count) ∙ ap (λ (xs : List Method). slice_get xs (length done)) split' ∙ get_after done m rest in
      let one = bind_ok (member_woven plan state class made member) (λ next. folded (member_woven plan state class) next members) last w in
      let next = one.0 in
      let woven : body_woven plan state class.name made member (Some m) (first_code member.attrs) ≡ Ok next =
      ap (λ (o : Option Method). body_woven plan state class.name made member o (first_code member.attrs)) (sym here) ∙ one.1 in
      let step = one_step kinds plan good class.file new files others listing added p free longer named state class.name made next member m fits.0 sound'.0 a.2 begins woven in
      let linked' : linked_from (method_linked files listing class.file) next.number members ≡ Ok rest = ap (λ (n : ℕ). linked_from (method_linked files listing class.file) n members) step.number ∙ a.3 in
      let count' : length (done ++ m ∷ []) ≡ next.number = length-append done (m ∷ []) ∙ ap (λ (n : ℕ). n + 1) count ∙ sym step.number in
      let begins' : (xs : List Const) × (next.entries ≡ class.file.pool ++ xs) = (
        begins.0 ++ step.more.0,
        step.more.1 ∙ ap (λ (q : List Const). q ++ step.more.0) begins.1 ∙ append_assoc class.file.pool begins.0 step.more.0,
      ) in
      let later = members_rest members next last (done ++ m ∷ []) rest (split' ∙ sym (append_assoc done (m ∷ []) rest)) count' sound'.1 fits.1 linked' one.2 pool begins' in
      let first = step.is later.more.0 (sym pool ∙ later.more.1) made.number in
      let again : linked_from (method_linked others listing new) (made.number + 1) later.items ≡ Ok later.linked =
      ap (λ (n : ℕ). linked_from (method_linked others listing new) n later.items) (sym step.number) ∙ later.links in
      let both : IsRest made last (member ∷ members) (m ∷ rest) = record {
        items = step.item ∷ later.items;
        are = later.are ∙ ap (λ (xs : List Member). xs ++ later.items) step.items ∙ append_assoc made.items (step.item ∷ []) later.items;
        more = (step.more.0 ++ later.more.0, later.more.1 ∙ ap (λ (xs : List Const). xs ++ later.more.0) step.more.1 ∙ append_assoc made.entries step.more.0 later.more.0);
        wanted = later.wanted ∙ ap (λ (p : List Const). with_wants p (class_wants plan rest)) step.wanted ∙ sym (wants_append made.entries (wants_woven plan m) (class_wants plan rest));
        linked = first.0 ∷ later.linked;
        links = ap (λ (r : Linked Method). r >>= λ x. linked_from (method_linked others listing new) (made.number + 1) later.items >>= λ xs. Ok (x ∷ xs)) first.1
            ∙ ap (λ (r : Linked (List Method)). r >>= λ xs. Ok (first.0 ∷ xs)) again;
        each = (first.2, later.each);
        sound = (first.3, later.sound);
        room = (step.room later.more.0 (sym pool ∙ later.more.1), later.room);
        kept = (step.kept later.more.0 (sym pool ∙ later.more.1), later.kept);
      } in
      subst (IsRest made last (member ∷ members)) a.4 both

-- ---- a class

-- What a class was linked of.
pub record IsOf (files : List ClassFile) (listing : Listing) (class : LinkedClass) : Type 0 where
  pub name : class.name ≡ class_at class.file.pool class.file.this_class
  pub parent : class.parent ≡ class_at class.file.pool class.file.super_class
  pub methods : methods_linked files listing class.file ≡ Ok class.methods

-- The methods link where each does and none is left to the library.
methods_link : (files : List ClassFile) (listing : Listing) (file : ClassFile) (methods : List Method) → each_method_linked files listing file ≡ Ok methods → left_to_library files listing (head_of file) ≡ None
    → methods_linked files listing file ≡ Ok methods
methods_link files listing file methods each none = rw (each, none) refl

module _ (kinds : List Bool) (plan : Plan) (good : IsGood kinds plan) (vars : List Var) (files others : List ClassFile) (listing : Listing) (added : IsAdded kinds files others listing) where
  -- conspec/State has no method, and leaves none to the library.
  state_links : methods_linked others listing (state_file vars) ≡ Ok []
  state_links =
      methods_link others listing (state_file vars) [] refl (ap (left_to_library others listing) (state_says vars) ∙ added.state_left)

  class_joined : (state : ℕ) (old : LinkedClass) (new : ClassFile) → IsSoundClass old → IsFree old.file.pool → IsOf files listing old → IsFileOf plan state old new
      → (methods : List Method) × (methods_linked others listing new ≡ Ok methods) × IsWovenClass plan (length files) old (class_with new methods)
      × AllByRecursion IsSoundMethod methods × AllByRecursion (MethodHasRoom plan new.pool) old.methods
  class_joined state old new sound free of w =
      let k = file_kept plan state old new w in
      let head : head_of new ≡ head_of old.file = head_kept old.file new sound.fits k in
      let named : (head_of new).name ≡ (head_of old.file).name = ap (λ (c : ListedClass). c.name) head in
      let pool : w.made.entries ≡ new.pool = ap (λ (f : ClassFile). f.pool) w.is in
      let parts = class_parts files listing old.file old.methods of.methods in
      let rest = members_rest kinds plan good old new files others listing added sound.fits.pool free k.longer named state old.file.methods (none_made old.file.pool) w.made [] old.methods refl refl sound.methods
      sound.fits.methods.each parts.each w.all pool ([], sym (append-nil old.file.pool)) in
      let items : new.methods ≡ rest.items = ap (λ (f : ClassFile). f.methods) (sym w.is) ∙ rest.are in
      let each : each_method_linked others listing new ≡ Ok rest.linked = ap (linked_from (method_linked others listing new) 0) items ∙ rest.links in
      let left : left_to_library others listing (head_of new) ≡ None =
      ap (left_to_library others listing) head ∙ added.left (head_of old.file) (class_free old.file.pool old.file.this_class free) ∙ parts.left in
      let links : methods_linked others listing new ≡ Ok rest.linked = methods_link others listing new rest.linked each left in (
        rest.linked,
        links,
        record {
          name = named ∙ sym of.name;
          parent = ap (λ (c : ListedClass). c.parent) head ∙ sym of.parent;
          head = head;
          added = k.longer.more;
          pool = k.longer.is;
          wanted = sym pool ∙ rest.wanted;
          file = file_is plan state old new w;
          members = subst (AreWovenMembers plan new.pool old.methods old.file.methods) (sym items) rest.kept;
          methods = rest.each;
        },
        rest.sound,
        rest.room,
      )

  -- What the files link to, after which conspec/State stands.
  record AreJoined (at : ℕ) (olds : List LinkedClass) (news : List ClassFile) : Type 0 where
    methods : List (List Method)
    links : linked_from (λ i. methods_linked others listing) at (news ++ state_file vars ∷ []) ≡ Ok methods
    own : List LinkedClass
    are : classes_with (news ++ state_file vars ∷ []) methods ≡ own ++ class_with (state_file vars) [] ∷ []
    classes : Each (IsWovenClass plan (length files)) olds own
    with : classes_with (news ++ state_file vars ∷ []) methods ≡ by_plan.classes_with plan (length files) olds (news ++ state_file vars ∷ [])
    sound : AllByRecursion (AllByRecursion IsSoundMethod) methods
    room : Each (λ (old : LinkedClass) (new : ClassFile). AllByRecursion (MethodHasRoom plan new.pool) old.methods) olds news

  state_linked : (at : ℕ) → linked_from (λ i. methods_linked others listing) at (state_file vars ∷ []) ≡ Ok ([] ∷ [])
  state_linked at = ap (λ (r : Linked (List Method)). r >>= λ x. Ok (x ∷ [])) state_links

  classes_joined : (state at : ℕ) (olds : List LinkedClass) (news : List ClassFile) → AllByRecursion IsSoundClass olds → AllByRecursion (λ (c : LinkedClass). IsFree c.file.pool) olds
      → AllByRecursion (IsOf files listing) olds → Each (IsFileOf plan state) olds news → AreJoined at olds news
  classes_joined state at [] [] sound free of w = record { methods = [] ∷ []; links = state_linked at; own = []; are = refl; classes = tt; with = refl; sound = (tt, tt); room = tt }
  classes_joined state at [] (new ∷ news) sound free of w = absurd w
  classes_joined state at (old ∷ olds) [] sound free of w = absurd w
  classes_joined state at (old ∷ olds) (new ∷ news) sound free of w =
      let one = class_joined state old new sound.0 free.0 of.0 w.0 in
      let rest = classes_joined state (at + 1) olds news sound.1 free.1 of.1 w.1 in
      record {
        methods = one.0 ∷ rest.methods;
        links = ap (λ (r : Linked (List Method)). r >>= λ x. linked_from (λ i. methods_linked others listing) (at + 1) (news ++ state_file vars ∷ []) >>= λ xs. Ok (x ∷ xs)) one.1
            ∙ ap (λ (r : Linked (List (List Method))). r >>= λ xs. Ok (one.0 ∷ xs)) rest.links;
        own = class_with new one.0 ∷ rest.own;
        are = ap (λ (xs : List LinkedClass). class_with new one.0 ∷ xs) rest.are;
        classes = (one.2, rest.classes);
        with = ap (λ (c : LinkedClass). c ∷ classes_with (news ++ state_file vars ∷ []) rest.methods) (class_is plan (length files) old (class_with new one.0) one.2)
            ∙ ap (λ (cs : List LinkedClass). by_plan.class_with plan (length files) old new ∷ cs) rest.with;
        sound = (one.3, rest.sound);
        room = (one.4, rest.room);
      }

-- ---- a program that was linked

abbrev pub files_of : List LinkedClass → List ClassFile
files_of classes = map (λ (c : LinkedClass). c.file) classes

module _ (files : List ClassFile) (listing : Listing) where
  classes_of : (at : ℕ) (some : List ClassFile) (methods : List (List Method)) → linked_from (λ i. methods_linked files listing) at some ≡ Ok methods
      → AllByRecursion (IsOf files listing) (classes_with some methods) × (files_of (classes_with some methods) ≡ some)
  classes_of at [] methods e = (tt, refl)
  classes_of at (file ∷ some) [] e =
      let a = first_linked (λ i. methods_linked files listing) at file some [] e in
      absurd (cc (a.4))
  classes_of at (file ∷ some) (first ∷ methods) e =
      let a = first_linked (λ i. methods_linked files listing) at file some (first ∷ methods) e in
      let front : a.0 ≡ first = cc (a.4) in
      let rest : a.1 ≡ methods = cc (a.4) in
      let later = classes_of (at + 1) some methods (a.3 ∙ ap Ok rest) in
      ((record { name = refl; parent = refl; methods = a.2 ∙ ap Ok front }, later.0), ap (λ (xs : List ClassFile). file ∷ xs) later.1)

-- What was linked.
pub record IsProgramOf (files : List ClassFile) (listing : Listing) (main : List ℕ) (side : Side) (p : Program) : Type 0 where
  pub good : classes_linked side (heads_of files) listing.classes files ≡ Ok tt
  pub classes : AllByRecursion (IsOf files listing) p.classes
  pub files_are : files_of p.classes ≡ files
  pub begin : (b : ℕ × ℕ) × (main_of files main ≡ Some b)
  pub listing_is : p.listing ≡ listing
  pub literals_are : p.literals ≡ literals_of files
  pub main_class_is : p.main_class ≡ begin.0.0
  pub main_method_is : p.main_method ≡ begin.0.1

pub program_of : (files : List ClassFile) (listing : Listing) (main : List ℕ) (side : Side) (p : Program) → assembled files listing main side ≡ Ok p → IsProgramOf files listing main side p
program_of files listing main side p e =
    let parts = program_parts files listing main side p e in
    let of = classes_of files listing 0 files parts.methods parts.each in
    subst (IsProgramOf files listing main side) parts.is (record {
      good = parts.good;
      classes = of.0;
      files_are = of.1;
      begin = (parts.begin, parts.begins);
      listing_is = refl;
      literals_are = refl;
      main_class_is = refl;
      main_method_is = refl;
    })

pub assembled_by : (files : List ClassFile) (listing : Listing) (main : List ℕ) (side : Side) (methods : List (List Method)) (begin : ℕ × ℕ)
    → classes_linked side (heads_of files) listing.classes files ≡ Ok tt → each_linked files listing files ≡ Ok methods → main_of files main ≡ Some begin
    → assembled files listing main side ≡ Ok (record { classes = classes_with files methods; listing = listing; literals = literals_of files; main_class = begin.0; main_method = begin.1 })
assembled_by files listing main side methods begin good each is = rw (good, each, is) refl

-- ---- the program

module _ (plan : Plan) where
  all_kept : (state : ℕ) (classes : List LinkedClass) (news : List ClassFile) → Each (IsFileOf plan state) classes news → Each IsKept (files_of classes) news
  all_kept state [] [] w = tt
  all_kept state [] (new ∷ news) w = absurd w
  all_kept state (class ∷ classes) [] w = absurd w
  all_kept state (class ∷ classes) (new ∷ news) w = (file_kept plan state class new w.0, all_kept state classes news w.1)

all_fit : (classes : List LinkedClass) → AllByRecursion IsSoundClass classes → AllByRecursion IsEncodable (files_of classes)
all_fit [] h = tt
all_fit (class ∷ classes) h = (h.0.fits, all_fit classes h.1)

all_free : (heads : List ListedClass) (classes : List LinkedClass) → AllByRecursion (IsGoodClass heads) (files_of classes) → AllByRecursion (λ (c : LinkedClass). IsFree c.file.pool) classes
all_free heads [] h = tt
all_free heads (class ∷ classes) h = (h.0.free, all_free heads classes h.1)

pub free_classes : (files : List ClassFile) (listing : Listing) (main : List ℕ) (p : Program) → IsProgramOf files listing main sides.Original p → AllByRecursion (λ (c : LinkedClass). IsFree c.file.pool) p.classes
free_classes files listing main p h =
    all_free (heads_of files) p.classes (subst (AllByRecursion (IsGoodClass (heads_of files))) (sym h.files_are) (all_good (heads_of files) listing.classes files h.good))

-- What woven files link to: classes that are sound and have room for their blocks, which make up the woven program.
pub record IsRelinked (listing : Listing) (main : List ℕ) (old : Program) (plan : Plan) (vars : List Var) (files : List ClassFile) : Type 0 where
  pub methods : List (List Method)
  pub begin : ℕ × ℕ
  pub good : classes_linked sides.Inlined (heads_of files) listing.classes files ≡ Ok tt
  pub each : each_linked files listing files ≡ Ok methods
  pub begins : main_of files main ≡ Some begin
  pub woven : IsWoven old plan vars (record { classes = classes_with files methods; listing = listing; literals = literals_of files; main_class = begin.0; main_method = begin.1 })
  pub with : classes_with files methods ≡ by_plan.classes_with plan (length old.classes) old.classes files
  pub sound : AllByRecursion (AllByRecursion IsSoundMethod) methods
  pub room : HaveMethodsRoom plan old.classes files

pub relinked : (listing : Listing) (files : List ClassFile) (main : List ℕ) (old : Program) (plan : Plan) (vars : List Var) (made : Woven) → IsWovenOf listing files main old plan vars made
    → IsRelinked listing main old plan vars made.files
relinked listing files main old plan vars made of =
    let kinds = map (λ (v : Var). v.is_bool) vars in
    let p = program_of files listing main sides.Original old of.links in
    let all = files_made plan vars old made of.woven in
    let news = all.0 in
    let state = state_file vars in
    let others = news ++ state ∷ [] in
    let fits : AllByRecursion IsEncodable files = subst (AllByRecursion IsEncodable) p.files_are (all_fit old.classes of.sound.classes) in
    let kept : Each IsKept files news = subst (λ (fs : List ClassFile). Each IsKept fs news) p.files_are (all_kept plan (length old.classes) old.classes news all.2) in
    let l = listed of.text listing of.listed in
    let added = is_added vars of.few listing l files news fits kept p.good in
    let free = free_classes files listing main old p in
    let joined = classes_joined kinds plan of.good vars files others listing added (length old.classes) 0 old.classes news of.sound.classes free p.classes all.2 in
    let begin = p.begin.0 in
    let count : length files ≡ length old.classes = sym (ap length p.files_are) ∙ length-map old.classes (λ (c : LinkedClass). c.file) in
    let new : Program = record { classes = classes_with others joined.methods; listing = listing; literals = literals_of others; main_class = begin.0; main_method = begin.1 } in
    let is_woven : IsWoven old plan vars new = record {
      own = joined.own;
      state = class_with state [];
      are = joined.are;
      classes = subst (λ (n : ℕ). Each (IsWovenClass plan n) old.classes joined.own) count joined.classes;
      last = record { name = ap (λ (c : ListedClass). c.name) (state_says vars) ∙ state_head_name; file = refl; methods = refl };
      listing = sym p.listing_is;
      literals = literals_kept state (state_strings vars) files news fits kept ∙ sym p.literals_are;
      main_class = sym p.main_class_is;
      main_method = sym p.main_method_is;
    } in
    subst (IsRelinked listing main old plan vars) (sym all.1) (record {
      methods = joined.methods;
      begin = begin;
      good = new_stand vars of.few listing l files news fits kept p.good;
      each = joined.links;
      begins = main_kept state main begin 0 files news fits kept p.begin.1;
      woven = is_woven;
      with = subst (λ (n : ℕ). classes_with others joined.methods ≡ by_plan.classes_with plan n old.classes others) count joined.with;
      sound = joined.sound;
      room = with_state plan old.classes news state joined.room;
    })

-- ---- the laws

pub links : WovenLinks
links text listing files main old plan vars made encoded first sound good few w =
    let of : IsWovenOf listing files main old plan vars made = record { text = text; listed = encoded; links = first; sound = sound; good = good; few = few; woven = w } in
    let h = relinked listing files main old plan vars made of in
    (_, (assembled_by made.files listing main sides.Inlined h.methods h.begin h.good h.each h.begins, h.woven))

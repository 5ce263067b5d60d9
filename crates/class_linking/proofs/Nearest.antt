-- What a look-up among declarations finds, and where declarations stand.
use Rattle.std.proofs.Common.{◌≡◌, ℕ, suc, ◌+◌, Bool, true, false, cond, ◌||◌, List, [], ◌∷◌, Option, Some, None, Result, Ok, refl, sym, ap, subst, ◌∙◌, arith}
use Rattle.std.specs.Prelude.{slice_get, bytes_eq, ok_or}
use Rattle.std.specs.List.{AllByRecursion}
use Rattle.std.specs.Option.{option_or}
use Rattle.std.proofs.lemmas.Slice.Eq.{bytes_eq-Decides}
use Rattle.mon_base.specs.declared.method.MethodId.{MethodId}
use Rattle.mon_base.specs.Reading.{◌>>=◌, need}
use Rattle.mon_base.proofs.Reading.{bind_ok, need_ok, ok_is, ok_or_ok}
use Rattle.class_codec.specs.declared.tree.Const.{Const}
use Rattle.class_codec.specs.declared.tree.ClassFile.{ClassFile}
use Rattle.class_codec.specs.declared.tree.Member.{Member}
use Rattle.api_listing.specs.declared.types.ListedMethod.{ListedMethod}
use Rattle.api_listing.specs.declared.types.Listing.{Listing}
use Rattle.api_listing.specs.BuiltIn.{MethodRow, method_rows, is_method}
use Rattle.bytecode_model.specs.declared.members.Found.{Found}
use Rattle.bytecode_model.specs.declared.members.MemberKind.{MemberKind}
use Rattle.bytecode_model.specs.declared.members.MemberKind.TheVariants as kinds
use Rattle.bytecode_model.specs.declared.program.Target.{Target}
use Rattle.bytecode_model.specs.declared.program.Target.TheVariants as target
use Rattle.bytecode_model.specs.Heads.{class_at}
use Rattle.bytecode_model.specs.Members.{Declared, member_declared, members_from, members_of, file_members, given_from, listed_from, listed_fields_from, row_declared, rows_from, methods_declared, fields_declared, first_of, first_found, in_class}
use Rattle.bytecode_model.specs.SearchOrder.{Name, is_one_of}
use Rattle.class_linking.specs.declared.operand_fault.OperandFault.{OperandFault}
use Rattle.class_linking.specs.declared.operand_fault.OperandFault.TheVariants as operand
use Rattle.bytecode_model.proofs.Lists.{some_is, all_append}
use Rattle.bytecode_model.proofs.Names.{same_id}

-- ---- parts of lists

-- These items stand in a list from this place on.
abbrev pub StandFrom : {X : Type 0} → List X → ℕ → List X → Type 0
StandFrom all at some = (j : ℕ) → slice_get some j ≡ slice_get all (at + j)

pub front_stands : {X : Type 0} (all some : List X) (at : ℕ) (x : X) → StandFrom all at (x ∷ some) → slice_get all at ≡ Some x
front_stands all some at x there =
    let none : at + 0 ≡ at = omega arith in
    ap (slice_get all) (sym none) ∙ sym (there 0)

pub rest_stand : {X : Type 0} (all some : List X) (at : ℕ) (x : X) → StandFrom all at (x ∷ some) → StandFrom all (at + 1) some
rest_stand all some at x there j =
    let more : at + suc j ≡ at + 1 + j = omega arith in
    there (suc j) ∙ ap (slice_get all) more

all_stand : {X : Type 0} (all : List X) → StandFrom all 0 all
all_stand all j =
    let front : 0 + j ≡ j = omega arith in
    ap (slice_get all) (sym front)

-- ---- look-ups

pub one_more : (a b : Bool) → b ≡ true → (a || b) ≡ true
one_more true b e = refl
one_more false b e = e

pub is_itself : (name : Name) → bytes_eq name name ≡ true
is_itself name = (bytes_eq-Decides name name).1 refl

pub front_is_one : (name : Name) (names : List Name) → is_one_of (name ∷ names) name ≡ true
front_is_one name names = ap (λ (b : Bool). b || is_one_of names name) (is_itself name)

-- what is found under a name is declared under it
first_said : (P : Declared → Type 0) (id : MethodId) (found : Found) (declared : List Declared) → AllByRecursion P declared → first_of declared id ≡ Some found → P (id, found)
first_said P id found [] all e = absurd cc
first_said P id found (d ∷ declared) all e = by (is_method id.class id.name id.desc d.0) refl e (first_said P id found declared all.1) where
  by : (b : Bool) → is_method id.class id.name id.desc d.0 ≡ b → cond b (Some d.1) (first_of declared id) ≡ Some found → (first_of declared id ≡ Some found → P (id, found)) → P (id, found)
  by true is e later =
      let same : d.1 ≡ found = some_is d.1 found e in
      let key : d.0 ≡ id = same_id d.0 id is in
      subst (λ (i : MethodId). P (i, found)) key (subst (λ (f : Found). P (d.0, f)) same all.0)
  by false is e later = later e

-- It is declared under the name, as a member of one of the classes.
pub record IsNear (P : Declared → Type 0) (id : MethodId) (found : Found) (names : List Name) : Type 0 where
  pub declaring : Name
  pub above : is_one_of names declaring ≡ true
  pub said : P (in_class id declaring, found)

pub near_said : (P : Declared → Type 0) (declared : List Declared) (id : MethodId) (found : Found) (names : List Name) → AllByRecursion P declared
    → first_found (first_of declared) id names ≡ Some found → IsNear P id found names
near_said P declared id found [] all e = absurd cc
near_said P declared id found (name ∷ names) all e = by (first_of declared (in_class id name)) refl e (near_said P declared id found names all) where
  by : (o : Option Found) → first_of declared (in_class id name) ≡ o → option_or o (first_found (first_of declared) id names) ≡ Some found
      → (first_found (first_of declared) id names ≡ Some found → IsNear P id found names) → IsNear P id found (name ∷ names)
  by None is e later =
      let l = later e in
      record { declaring = l.declaring; above = one_more (bytes_eq name l.declaring) (is_one_of names l.declaring) l.above; said = l.said }
  by (Some f) is e later =
      let same : f ≡ found = some_is f found e in
      record { declaring = name; above = front_is_one name names; said = first_said P (in_class id name) found declared all (is ∙ ap Some same) }

-- What links is the target of what is looked up, which fits.
pub record LooksUp (described : Bool) (looked : Option Found) (fits : Found → Bool) (ref : Target) : Type 0 where
  pub found : Found
  pub typed : described ≡ true
  pub there : looked ≡ Some found
  pub fit : fits found ≡ true
  pub is : found.target ≡ ref

pub looked_up : (described : Bool) (looked : Option Found) (fits : Found → Bool) (missing : OperandFault) (ref : Target)
    → (need described operand.Wrong >>= λ _. ok_or looked missing >>= λ found. need (fits found) missing >>= λ _. Ok found.target) ≡ Ok ref → LooksUp described looked fits ref
looked_up described looked fits missing ref e =
    let target_of : Found → Result Target OperandFault = λ found. need (fits found) missing >>= λ _. Ok found.target in
    let a = need_ok described operand.Wrong (λ _. ok_or looked missing >>= target_of) ref e in
    let b = bind_ok (ok_or looked missing) target_of ref a.1 in
    let c = need_ok (fits b.0) missing (λ _. Ok b.0.target) ref b.2 in
    record { found = b.0; typed = a.0; there = ok_or_ok looked missing b.0 b.1; fit = c.0; is = ok_is OperandFault b.0.target ref c.1 }

-- ---- what is declared

-- what holds of each declaration, by its place
module _ (P : Declared → Type 0) where
  members_said : (kind : MemberKind) (name : Name) (pool : List Const) (class : ℕ) (all : List Member) (index : ℕ) (members : List Member) → StandFrom all index members
      → ((j : ℕ) (member : Member) → slice_get all j ≡ Some member → P (member_declared kind name pool class j member)) → AllByRecursion P (members_from kind name pool class index members)
  members_said kind name pool class all index [] there each = tt
  members_said kind name pool class all index (m ∷ members) there each = (
    each index m (front_stands all members index m there),
    members_said kind name pool class all (index + 1) members (rest_stand all members index m there) each,
  )

  given_said : (kind : MemberKind) (all : List ClassFile) (class : ℕ) (files : List ClassFile) → StandFrom all class files
      → ((i j : ℕ) (file : ClassFile) (member : Member) → slice_get all i ≡ Some file → slice_get (members_of kind file) j ≡ Some member
      → P (member_declared kind (class_at file.pool file.this_class) file.pool i j member)) → AllByRecursion P (given_from kind class files)
  given_said kind all class [] there each = tt
  given_said kind all class (file ∷ files) there each =
      let here : slice_get all class ≡ Some file = front_stands all files class file there in
      let members = members_of kind file in
      let name = class_at file.pool file.this_class in
      all_append P (file_members kind class file) (given_from kind (class + 1) files)
      (members_said kind name file.pool class members 0 members (all_stand members) (λ j member e. each class j file member here e))
      (given_said kind all (class + 1) files (rest_stand all files class file there) each)

  listed_said : (all : List ListedMethod) (index : ℕ) (methods : List ListedMethod) → StandFrom all index methods
      → ((i : ℕ) (m : ListedMethod) → slice_get all i ≡ Some m → P (m.id, record { target = target.ApiMethod i; is_static = m.is_static })) → AllByRecursion P (listed_from index methods)
  listed_said all index [] there each = tt
  listed_said all index (m ∷ methods) there each = (each index m (front_stands all methods index m there), listed_said all (index + 1) methods (rest_stand all methods index m there) each)

  fields_said : (all : List MethodId) (index : ℕ) (fields : List MethodId) → StandFrom all index fields
      → ((i : ℕ) (id : MethodId) → slice_get all i ≡ Some id → P (id, record { target = target.ApiField i; is_static = true })) → AllByRecursion P (listed_fields_from index fields)
  fields_said all index [] there each = tt
  fields_said all index (id ∷ fields) there each = (each index id (front_stands all fields index id there), fields_said all (index + 1) fields (rest_stand all fields index id there) each)

  rows_said : (all : List MethodRow) (index : ℕ) (rows : List MethodRow) → StandFrom all index rows
      → ((i : ℕ) (row : MethodRow) → slice_get all i ≡ Some row → P (row_declared i row)) → AllByRecursion P (rows_from index rows)
  rows_said all index [] there each = tt
  rows_said all index (row ∷ rows) there each = (each index row (front_stands all rows index row there), rows_said all (index + 1) rows (rest_stand all rows index row there) each)

  module _ (files : List ClassFile) (listing : Listing) where
    -- what is said of the members of the files
    abbrev pub SaidOfEach : MemberKind → Type 0
    SaidOfEach kind =
        (i j : ℕ) (file : ClassFile) (member : Member) → slice_get files i ≡ Some file → slice_get (members_of kind file) j ≡ Some member
        → P (member_declared kind (class_at file.pool file.this_class) file.pool i j member)

    pub all_methods_said : SaidOfEach kinds.Method
        → ((i : ℕ) (m : ListedMethod) → slice_get listing.methods i ≡ Some m → P (m.id, record { target = target.ApiMethod i; is_static = m.is_static }))
        → ((i : ℕ) (row : MethodRow) → slice_get method_rows i ≡ Some row → P (row_declared i row)) → AllByRecursion P (methods_declared files listing)
    all_methods_said given listed rows =
        all_append P (given_from kinds.Method 0 files) _ (given_said kinds.Method files 0 files (all_stand files) given)
        (all_append P (listed_from 0 listing.methods) _ (listed_said listing.methods 0 listing.methods (all_stand listing.methods) listed)
        (rows_said method_rows 0 method_rows (all_stand method_rows) rows))

    pub all_fields_said : SaidOfEach kinds.Field
        → ((i : ℕ) (id : MethodId) → slice_get listing.fields i ≡ Some id → P (id, record { target = target.ApiField i; is_static = true })) → AllByRecursion P (fields_declared files listing)
    all_fields_said given listed =
        all_append P (given_from kinds.Field 0 files) _ (given_said kinds.Field files 0 files (all_stand files) given) (fields_said listing.fields 0 listing.fields (all_stand listing.fields) listed)

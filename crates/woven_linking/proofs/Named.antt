-- What operands name: a client's the same as before, and a block's what it wants.
use Rattle.std.proofs.Common.{◌≡◌, ◌≢◌, ℕ, ◌+◌, Bool, true, false, List, [], ◌∷◌, length, map, Option, Some, None, Result, Ok, Err, refl, sym, ap, subst, ◌∙◌}
use Rattle.std.specs.Prelude.{ℤ, ◌==◌, ◌||◌, IsTrue, slice_get, if◌then◌else◌, ◌&&◌, ok_or, is_ok}
use Rattle.std.proofs.lemmas.Bool.{eqb-true}
use Rattle.std.specs.Bool.{beq}
use Rattle.std.specs.List.{AllByRecursion, filter_map}
use Rattle.mon_base.specs.Reading.{◌>>=◌, need}
use Rattle.mon_base.specs.declared.method.MethodId.{MethodId}
use Rattle.mon_base.proofs.Reading.{bind_ok, ok_is, ok_or_ok}
use Rattle.class_codec.specs.declared.tree.ClassFile.{ClassFile}
use Rattle.class_codec.specs.declared.tree.Const.{Const}
use Rattle.class_codec.specs.declared.tree.Const.TheVariants as constants
use Rattle.class_codec.specs.Fits.{FitsPool, IsNamed}
use Rattle.insn_codec.specs.declared.insn.Insn.{Insn}
use Rattle.insn_codec.specs.declared.insn.Insn.TheVariants as insns
use Rattle.api_listing.specs.declared.descriptor.Element.{Element}
use Rattle.api_listing.specs.declared.descriptor.Element.TheVariants as elements
use Rattle.api_listing.specs.declared.descriptor.FieldType.{FieldType}
use Rattle.api_listing.specs.declared.types.ListedClass.{ListedClass}
use Rattle.api_listing.specs.declared.types.Listing.{Listing}
use Rattle.api_listing.specs.Descriptor.{method_type, whole_type}
use Rattle.api_listing.specs.Descriptor as descriptors
use Rattle.api_listing.specs.Fault.{Read}
use Rattle.bytecode_model.specs.declared.members.Found.{Found}
use Rattle.class_linking.specs.declared.fault.LinkFault.{LinkFault}
use Rattle.class_linking.specs.declared.operand_fault.OperandFault.{OperandFault}
use Rattle.class_linking.specs.declared.operand_fault.OperandFault.TheVariants as operand
use Rattle.bytecode_model.specs.declared.operand.Use.{Use}
use Rattle.bytecode_model.specs.declared.operand.Use.TheVariants as uses
use Rattle.bytecode_model.specs.declared.program.Target.{Target}
use Rattle.bytecode_model.specs.declared.program.Target.TheVariants as target
use Rattle.bytecode_model.specs.Heads.{all_classes, text_at}
use Rattle.bytecode_model.specs.LeftMethods.{left_to_library}
use Rattle.bytecode_model.specs.Members.{methods_declared, method_of, field_of}
use Rattle.bytecode_model.specs.Arrays.{is_array}
use Rattle.bytecode_model.specs.Operands.{known_in, literals_of, element_is_known, id_at, use_of, index_of}
use Rattle.class_linking.specs.Operands.{array_linked, class_linked, field_fits, field_linked, call_linked, loaded, used, is_nothing, operand_linked, told_at}
use Rattle.bytecode_model.specs.SearchOrder.{search_order}
use Rattle.bytecode_model.proofs.Lists.{all_append, all_get}
use Rattle.offset_patch.specs.declared.block.Block.{Block}
use Rattle.offset_patch.specs.declared.block.BlockInsn.{BlockInsn}
use Rattle.offset_patch.specs.declared.block.BlockInsn.TheVariants.{Plain, Byte, Short, Local, Want, Jump, Call}
use Rattle.offset_patch.specs.declared.block.PoolWant.{PoolWant}
use Rattle.offset_patch.specs.declared.block.PoolWant.TheVariants as wants
use Rattle.offset_patch.specs.Entries.{state_name, variable_name, variable_type, place_in, IsThere}
use Rattle.offset_patch.specs.Splicing.{part_of, aimed, put, parts_from, want_of, block_wants, wants_of}
use Rattle.offset_patch.proofs.InsnFits.{split_all, site_part}
use Rattle.offset_patch.proofs.PoolFits.{get_on}
use Rattle.offset_patch.specs.Splicing.{way_out, way_out_index, want_named, part_named, parts_named}
use Rattle.class_weaving.specs.Outcome.{Each}
use Rattle.offset_patch.specs.Fits.{takes, IsBlockInsn, IsSite}
use Rattle.offset_patch.specs.Plan.{Plan, IsGood, NamesVariable}
use Rattle.insn_codec.specs.declared.opcodes.TheConstants.{LDC_W, GETSTATIC, PUTSTATIC, INVOKESTATIC}
use Rattle.woven_linking.proofs.Free.{IsFree, class_free}
use Rattle.woven_linking.proofs.Kept.{IsLonger}
use Rattle.woven_linking.proofs.Pairs.{each_append}
use Rattle.woven_linking.proofs.Same.{text_longer}
use Rattle.woven_linking.proofs.Standing.{state_head}
use Rattle.woven_linking.proofs.Texts.{id_on}
use Rattle.class_weaving.proofs.Wanted.{name_told, id_told, state_there, field_there, exit_there, number_there}

-- What of others is as it is of the files, and what they have beside it.
pub record IsAdded (kinds : List Bool) (files others : List ClassFile) (listing : Listing) : Type 0 where
  pub known : (name : List ℕ) → known_in files listing name ≡ true → known_in others listing name ≡ true
  pub state : known_in others listing state_name ≡ true
  pub order : (name : List ℕ) → name ≢ state_name → search_order (all_classes listing others) name ≡ search_order (all_classes listing files) name
  pub methods : methods_declared others listing ≡ methods_declared files listing
  pub fields : (id : MethodId) → id.class ≢ state_name → field_of others listing id ≡ field_of files listing id
  pub variables : (var : ℕ) (is_bool : Bool) → slice_get kinds var ≡ Some is_bool
      → field_of others listing (record { class = state_name; name = variable_name var; desc = variable_type is_bool }) ≡ Some (record { target = target.Field (length files) var; is_static = true })
  pub literals : literals_of others ≡ literals_of files
  pub out : method_of others listing way_out ≡ Some (record { target = target.Builtin way_out_index; is_static = true })
  pub left : (head : ListedClass) → head.name ≢ state_name → left_to_library others listing head ≡ left_to_library files listing head
  pub state_left : left_to_library others listing state_head ≡ None

if_still : {X E : Type 0} (b c : Bool) (x t : X) (fault : E) → (b ≡ true → c ≡ true) → ◌≡◌ {A = Result X E} (if b then Ok x else Err fault) (Ok t) → ◌≡◌ {A = Result X E} (if c then Ok x else Err fault) (Ok t)
if_still true c x t fault f e = rw (f refl) e
if_still false c x t fault f e = absurd cc

and_still : (a b c : Bool) → (b ≡ true → c ≡ true) → (a && b) ≡ true → (a && c) ≡ true
and_still true b c f e = f e
and_still false b c f e = e

module _ (kinds : List Bool) (files others : List ClassFile) (listing : Listing) (added : IsAdded kinds files others listing) where
  -- ---- classes, fields and methods

  element_still : (e : Element) → element_is_known (known_in files listing) e ≡ true → element_is_known (known_in others listing) e ≡ true
  element_still (elements.Class name) h = added.known name h
  element_still e h = h

  pub class_still : (arrays : Bool) (text : List ℕ) (t : Target) → class_linked arrays (known_in files listing) text ≡ Ok t → class_linked arrays (known_in others listing) text ≡ Ok t
  class_still arrays text t e = by (is_array text) (whole_type text) e where
    by : (b : Bool) (r : Read FieldType)
        → (if b then array_linked arrays (known_in files listing) text r else if known_in files listing text then Ok (target.ClassName text) else Err (operand.Missing text)) ≡ Ok t
        → (if b then array_linked arrays (known_in others listing) text r else if known_in others listing text then Ok (target.ClassName text) else Err (operand.Missing text)) ≡ Ok t
    by true (Err fault) f = absurd cc
    by true (Ok type) f =
        let old = element_is_known (known_in files listing) type.element in
        let new = element_is_known (known_in others listing) type.element in
        if_still (arrays && old) (arrays && new) (target.ClassName text) t (operand.Missing text) (and_still arrays old new (element_still type.element)) f
    by false r f = if_still (known_in files listing text) (known_in others listing text) (target.ClassName text) t (operand.Missing text) (added.known text) f

  method_same : (id : MethodId) → id.class ≢ state_name → method_of others listing id ≡ method_of files listing id
  method_same id other = rw (added.methods, added.order id.class other) refl

  call_same : (static : Bool) (id : MethodId) → id.class ≢ state_name → call_linked others listing static id ≡ call_linked files listing static id
  call_same static id other =
      ap (λ (o : Option Found). need (is_ok (method_type id.desc)) operand.Wrong >>= λ described. ok_or o (operand.Missing id.name) >>= λ found. need (beq found.is_static static) (operand.Missing id.name) >>= λ fits. Ok found.target)
      (method_same id other)

  access_same : (static writes : Bool) (id : MethodId) → id.class ≢ state_name → field_linked others listing static writes id ≡ field_linked files listing static writes id
  access_same static writes id other =
      ap (λ (o : Option Found). need (is_ok (whole_type id.desc)) operand.Wrong >>= λ described. ok_or o (operand.Missing id.name) >>= λ found. need (field_fits static writes found) (operand.Missing id.name) >>= λ fits. Ok found.target)
      (added.fields id other)

  -- ---- a client's operand

  module _ (pool new : List Const) (fits : FitsPool pool) (free : IsFree pool) (longer : IsLonger pool new) where
    id_same : (class member : ℕ) → IsNamed pool (constants.Method class member) → id_at new class member ≡ id_at pool class member
    id_same class member named = ap (λ (p : List Const). id_at p class member) longer.is ∙ id_on pool longer.more class member fits named.0 named.1

    called_same : (static : Bool) (class member : ℕ) → IsNamed pool (constants.Method class member) → call_linked others listing static (id_at new class member) ≡ call_linked files listing static (id_at pool class member)
    called_same static class member named = ap (call_linked others listing static) (id_same class member named) ∙ call_same static (id_at pool class member) (class_free pool class free)

    accessed_same : (static writes : Bool) (class member : ℕ) → IsNamed pool (constants.Method class member)
        → field_linked others listing static writes (id_at new class member) ≡ field_linked files listing static writes (id_at pool class member)
    accessed_same static writes class member named =
        ap (field_linked others listing static writes) (id_same class member named) ∙ access_same static writes (id_at pool class member) (class_free pool class free)

    named_still : (arrays : Bool) (name : ℕ) (t : Target) → IsNamed pool (constants.Class name) → class_linked arrays (known_in files listing) (text_at pool name) ≡ Ok t
        → class_linked arrays (known_in others listing) (text_at new name) ≡ Ok t
    named_still arrays name t named e = ap (class_linked arrays (known_in others listing)) (text_longer pool new name longer named) ∙ class_still arrays (text_at pool name) t e

    used_still : (u : Use) (c : Const) (t : Target) → IsNamed pool c → used files listing pool u c ≡ Ok t → used others listing new u c ≡ Ok t
    used_still uses.Nothing c t named e = e
    used_still uses.Load (constants.Integer n) t named e = e
    used_still uses.Load (constants.Str text) t named e = rw (text_longer pool new text longer named, added.literals) e
    used_still uses.Load (constants.Class name) t named e = named_still false name t named e
    used_still uses.Load c t named e = absurd cc
    used_still (uses.Field static writes) (constants.Field class member) t named e = accessed_same static writes class member named ∙ e
    used_still (uses.Field static writes) c t named e = absurd cc
    used_still (uses.Call static false) (constants.Method class member) t named e = called_same static class member named ∙ e
    used_still (uses.Call static true) (constants.IMethod class member) t named e = called_same static class member named ∙ e
    used_still (uses.Call static false) c t named e = absurd cc
    used_still (uses.Call static true) c t named e = absurd cc
    used_still uses.New (constants.Class name) t named e = named_still false name t named e
    used_still uses.New c t named e = absurd cc
    used_still uses.Type (constants.Class name) t named e = named_still true name t named e
    used_still uses.Type c t named e = absurd cc

    pub operand_still : (x : Insn) (t : Target) → operand_linked files listing pool x ≡ Ok t → operand_linked others listing new x ≡ Ok t
    operand_still x t e = by (is_nothing (use_of x)) e where
      by : (b : Bool) → (if b then Ok target.None else (ok_or (slice_get pool (index_of x)) operand.Wrong >>= used files listing pool (use_of x))) ≡ Ok t
          → (if b then Ok target.None else (ok_or (slice_get new (index_of x)) operand.Wrong >>= used others listing new (use_of x))) ≡ Ok t
      by true f = f
      by false f =
          let a = bind_ok (ok_or (slice_get pool (index_of x)) operand.Wrong) (used files listing pool (use_of x)) t f in
          let there = ok_or_ok (slice_get pool (index_of x)) operand.Wrong a.0 a.1 in
          let later : slice_get new (index_of x) ≡ Some a.0 = ap (λ (p : List Const). slice_get p (index_of x)) longer.is ∙ get_on pool longer.more (index_of x) a.0 there in
          let named = all_get (IsNamed pool) pool (index_of x) a.0 fits.named there in
          ap (λ (o : Option Const). ok_or o operand.Wrong >>= used others listing new (use_of x)) later ∙ used_still (use_of x) a.0 t named a.2

  -- ---- the operands of a block

  module _ (pool : List Const) (fronts : List ℕ) where
    aimed_same : (x : Insn) → operand_linked others listing pool (aimed fronts x) ≡ operand_linked others listing pool x
    aimed_same (insns.Branch op to) = refl
    aimed_same (insns.GotoW to) = refl
    aimed_same (insns.Table other low targets) = refl
    aimed_same (insns.Lookup other keys targets) = refl
    aimed_same x = refl

    abbrev Names : Insn → Target → Type 0
    Names x t = operand_linked others listing pool x ≡ Ok t

    -- by an opcode that a constant is loaded by
    loads : (place : ℕ) (c : Const) (t : Target) → slice_get pool place ≡ Some c → loaded others listing pool c ≡ Ok t → Names (insns.Pool LDC_W place) t
    loads place c t there is = ap (λ (o : Option Const). ok_or o operand.Wrong >>= used others listing pool uses.Load) there ∙ is

    lock_named : IsThere pool wants.StateClass → Names (insns.Pool LDC_W (place_in pool wants.StateClass)) (target.ClassName state_name)
    lock_named there =
        let c = state_there pool there in
        let named : class_linked false (known_in others listing) state_name ≡ Ok (target.ClassName state_name) = rw added.state refl in
        loads (place_in pool wants.StateClass) (constants.Class c.at) (target.ClassName state_name) c.there (ap (class_linked false (known_in others listing)) (name_told pool c.at state_name c.named) ∙ named)

    number_named : (n : ℤ) → IsThere pool (wants.Integer n) → Names (insns.Pool LDC_W (place_in pool (wants.Integer n))) (target.Number n)
    number_named n there = loads (place_in pool (wants.Integer n)) (constants.Integer n) (target.Number n) (number_there pool n there) refl

    way_out_described : is_ok (method_type way_out.desc) ≡ true
    unfolding method_type descriptors.after_first descriptors.arguments_at descriptors.type_at descriptors.element_at descriptors.result_of
    way_out_described = refl

    stop_named : IsThere pool wants.Exit → Names (insns.Pool INVOKESTATIC (place_in pool wants.Exit)) (target.Builtin way_out_index)
    stop_named there =
        let m = exit_there pool there in
        let found : call_linked others listing true way_out ≡ Ok (target.Builtin way_out_index) =
        ap (λ (o : Option Found). need (is_ok (method_type way_out.desc)) operand.Wrong >>= λ described. ok_or o (operand.Missing way_out.name) >>= λ found. need (beq found.is_static true) (operand.Missing way_out.name) >>= λ fits. Ok found.target)
        added.out
        ∙ ap (λ (b : Bool). need b operand.Wrong >>= λ described. Ok (target.Builtin way_out_index)) way_out_described in
        ap (λ (o : Option Const). ok_or o operand.Wrong >>= used others listing pool (uses.Call true false)) m.there
        ∙ ap (call_linked others listing true) (id_told constants.Method pool (place_in pool wants.Exit) way_out.class way_out.name way_out.desc m) ∙ found

    type_described : (is_bool : Bool) → is_ok (whole_type (variable_type is_bool)) ≡ true
    unfolding whole_type descriptors.type_at descriptors.element_at
    type_described true = refl
    type_described false = refl

    -- a variable is read, and it is written
    variable_linked : (writes : Bool) (var : ℕ) (is_bool : Bool) → slice_get kinds var ≡ Some is_bool
        → field_linked others listing true writes (record { class = state_name; name = variable_name var; desc = variable_type is_bool }) ≡ Ok (target.Field (length files) var)
    variable_linked writes var is_bool e =
        let missing = operand.Missing (variable_name var) in
        ap (λ (o : Option Found). need (is_ok (whole_type (variable_type is_bool))) operand.Wrong >>= λ described. ok_or o missing >>= λ found. need (field_fits true writes found) missing >>= λ fits. Ok found.target)
        (added.variables var is_bool e)
        ∙ ap (λ (b : Bool). need b operand.Wrong >>= λ described. need (field_fits true writes (record { target = target.Field (length files) var; is_static = true })) missing >>= λ fits. Ok (target.Field (length files) var))
        (type_described is_bool) ∙ by writes
      where
        by : (w : Bool) → (need (field_fits true w (record { target = target.Field (length files) var; is_static = true })) (operand.Missing (variable_name var)) >>= λ fits. Ok (target.Field (length files) var))
            ≡ Ok (target.Field (length files) var)
        by true = refl
        by false = refl

    variable_named : (var : ℕ) (is_bool : Bool) → slice_get kinds var ≡ Some is_bool → IsThere pool (wants.StateField var is_bool)
        → Names (insns.Pool GETSTATIC (place_in pool (wants.StateField var is_bool))) (target.Field (length files) var)
        × Names (insns.Pool PUTSTATIC (place_in pool (wants.StateField var is_bool))) (target.Field (length files) var)
    variable_named var is_bool e there =
        let f = field_there pool var is_bool there in
        let id = id_told constants.Field pool (place_in pool (wants.StateField var is_bool)) state_name (variable_name var) (variable_type is_bool) f in (
          ap (λ (o : Option Const). ok_or o operand.Wrong >>= used others listing pool (uses.Field true false)) f.there ∙ ap (field_linked others listing true false) id ∙ variable_linked false var is_bool e,
          ap (λ (o : Option Const). ok_or o operand.Wrong >>= used others listing pool (uses.Field true true)) f.there ∙ ap (field_linked others listing true true) id ∙ variable_linked true var is_bool e,
        )

    -- the opcode is the one that is meant
    by_opcode : (op code place : ℕ) (t : Target) → (op == code) ≡ true → Names (insns.Pool code place) t → Names (insns.Pool op place) t
    by_opcode op code place t e h = subst (λ (n : ℕ). Names (insns.Pool n place) t) (sym (eqb-true op code e)) h

    wanted_named : (op : ℕ) (want : PoolWant) → IsTrue (takes want op) → NamesVariable kinds want → IsThere pool want → Names (insns.Pool op (place_in pool want)) (want_named (length files) want)
    wanted_named op wants.StateClass is n there = by_opcode op LDC_W (place_in pool wants.StateClass) (target.ClassName state_name) is (lock_named there)
    wanted_named op wants.Exit is n there = by_opcode op INVOKESTATIC (place_in pool wants.Exit) (target.Builtin way_out_index) is (stop_named there)
    wanted_named op (wants.Integer k) is n there = by_opcode op LDC_W (place_in pool (wants.Integer k)) (target.Number k) is (number_named k there)
    wanted_named op (wants.StateField var is_bool) is n there = by (op == GETSTATIC) refl is where
      both : Names (insns.Pool GETSTATIC (place_in pool (wants.StateField var is_bool))) (target.Field (length files) var)
          × Names (insns.Pool PUTSTATIC (place_in pool (wants.StateField var is_bool))) (target.Field (length files) var)
      both = variable_named var is_bool n there

      by : (b : Bool) → (op == GETSTATIC) ≡ b → (b || (op == PUTSTATIC)) ≡ true → Names (insns.Pool op (place_in pool (wants.StateField var is_bool))) (target.Field (length files) var)
      by true e f = by_opcode op GETSTATIC (place_in pool (wants.StateField var is_bool)) (target.Field (length files) var) e both.0
      by false e f = by_opcode op PUTSTATIC (place_in pool (wants.StateField var is_bool)) (target.Field (length files) var) f both.1

    part_is_named : (begin : ℕ) (own : Insn) (t : Target) (part : List BlockInsn) → Names own t → AllByRecursion IsBlockInsn part → AllByRecursion (NamesVariable kinds) (filter_map want_of part)
        → AllByRecursion (IsThere pool) (filter_map want_of part) → Each Names (map (put pool fronts begin own) part) (map (part_named (length files) t) part)
    part_is_named begin own t [] h fits n w = tt
    part_is_named begin own t (Plain op ∷ part) h fits n w = (refl, part_is_named begin own t part h fits.1 n w)
    part_is_named begin own t (Byte k ∷ part) h fits n w = (refl, part_is_named begin own t part h fits.1 n w)
    part_is_named begin own t (Short k ∷ part) h fits n w = (refl, part_is_named begin own t part h fits.1 n w)
    part_is_named begin own t (Local op slot wide ∷ part) h fits n w = (refl, part_is_named begin own t part h fits.1 n w)
    part_is_named begin own t (Want op want ∷ part) h fits n w = (wanted_named op want fits.0.0 n.0 w.0, part_is_named begin own t part h fits.1 n.1 w.1)
    part_is_named begin own t (Jump op place ∷ part) h fits n w = (refl, part_is_named begin own t part h fits.1 n w)
    part_is_named begin own t (Call ∷ part) h fits n w = (aimed_same own ∙ h, part_is_named begin own t part h fits.1 n w)

    pub parts_are_named : (begin : ℕ) (own : List Insn) (ts : List Target) (sites : List (Option Block)) → Each Names own ts → AllByRecursion IsSite sites
        → AllByRecursion (NamesVariable kinds) (wants_of sites) → AllByRecursion (IsThere pool) (wants_of sites)
        → Each Names (parts_from pool fronts begin own sites) (parts_named (length files) ts sites)
    parts_are_named begin [] [] sites h fits n w = tt
    parts_are_named begin [] (t ∷ ts) sites h fits n w = absurd h
    parts_are_named begin (x ∷ own) [] sites h fits n w = absurd h
    parts_are_named begin (x ∷ own) (t ∷ ts) [] h fits n w = tt
    parts_are_named begin (x ∷ own) (t ∷ ts) (site ∷ sites) h fits n w =
        let named = split_all (NamesVariable kinds) (block_wants site) (wants_of sites) n in
        let there = split_all (IsThere pool) (block_wants site) (wants_of sites) w in
        let after = begin + length (part_of site) in
        each_append Names (map (put pool fronts begin x) (part_of site)) (parts_from pool fronts after own sites) (map (part_named (length files) t) (part_of site)) (parts_named (length files) ts sites)
        (part_is_named begin x t (part_of site) h.0 (site_part site fits.0) named.0 there.0) (parts_are_named after own ts sites h.1 fits.1 named.1 there.1)

-- ---- the variables that blocks name

pub sites_name : (kinds : List Bool) (plan : Plan) → IsGood kinds plan → (base : ℕ) (refs : List Target) → AllByRecursion (NamesVariable kinds) (wants_of (map (plan.block base) refs))
sites_name kinds plan good base [] = tt
sites_name kinds plan good base (ref ∷ refs) =
    all_append (NamesVariable kinds) (block_wants (plan.block base ref)) (wants_of (map (plan.block base) refs)) (good.names base ref) (sites_name kinds plan good base refs)

-- ---- where an operand is told

pub told_ok : {X : Type 0} (class : List ℕ) (method at : ℕ) (r : Result X OperandFault) (x : X) → told_at class method at r ≡ Ok x → r ≡ Ok x
told_ok class method at (Ok y) x e = ap Ok (ok_is LinkFault y x e)
told_ok class method at (Err fault) x e = absurd cc

pub ok_told : {X : Type 0} (class : List ℕ) (method at : ℕ) (r : Result X OperandFault) (x : X) → r ≡ Ok x → told_at class method at r ≡ Ok x
ok_told class method at r x e = rw e refl

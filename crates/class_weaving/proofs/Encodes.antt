-- The files of a program that was woven can be encoded.
use Rattle.std.proofs.Common.{◌≡◌, ℕ, zero, suc, ◌+◌, ◌≤◌, Bool, true, false, List, [], ◌∷◌, ◌++◌, length, map, Option, Some, None, Ok, Err, refl, sym, ap, subst, ◌∙◌, FitsSigned, append_assoc, append-nil, arith}
use Rattle.std.specs.Int.{w32}
use Rattle.std.specs.Prelude.{slice_get, IfOk}
use Rattle.std.specs.List.{AllByRecursion}
use Rattle.std.proofs.lemmas.List.{length-append, length-map}
use Rattle.mon_base.proofs.Reading.{bind_ok, ok_is}
use Rattle.class_codec.specs.declared.tree.Attr.{Attr}
use Rattle.class_codec.specs.declared.tree.Attr.TheVariants as attributes
use Rattle.class_codec.specs.declared.tree.ClassFile.{ClassFile}
use Rattle.class_codec.specs.declared.tree.Code.{Code}
use Rattle.class_codec.specs.declared.tree.Const.{Const}
use Rattle.class_codec.specs.declared.tree.Member.{Member}
use Rattle.class_codec.specs.declared.pool.ConstKind.TheVariants as kinds
use Rattle.class_codec.specs.Fits.{FitsPool, FitsCode, FitsAttr, FitsMember, FitCounted, IsIndex, IsEncodable, is_read_as_code}
use Rattle.bytecode_model.specs.declared.program.LinkedClass.{LinkedClass}
use Rattle.bytecode_model.specs.declared.program.Method.{Method}
use Rattle.bytecode_model.specs.declared.program.Program.{Program}
use Rattle.bytecode_model.specs.Sound.{IsSoundMethod, IsSoundClass, IsSound}
use Rattle.offset_patch.specs.Plan.{Plan, IsGood}
use Rattle.conspec_tree.specs.declared.types.Var.{Var}
use Rattle.offset_patch.specs.declared.fault.SpliceFault.{SpliceFault}
use Rattle.mon_base.specs.Answer.{Answers}
use Rattle.offset_patch.specs.declared.fault.SpliceFault.TheVariants as faults
use Rattle.offset_patch.specs.Fault.{Fitting}
use Rattle.offset_patch.specs.Splicing.{grown, wants_of, fronts_of}
use Rattle.offset_patch.proofs.Lists.{all_append}
use Rattle.offset_patch.proofs.PoolFits.{code_on, member_on, attrs_on, index_on, counted_on, each_on, read_on}
use Rattle.offset_patch.proofs.EntryFits.{wants_grow, wants_fit}
use Rattle.offset_patch.proofs.InsnFits.{wants_there, wants_are, parts_fit, parts_some}
use Rattle.offset_patch.proofs.CodeFits.{room_is, code_fits, code_named, pool_short}
use Rattle.class_weaving.specs.State.{state_file}
use Rattle.class_weaving.proofs.Sites.{refs_fit, refs_some}
use Rattle.class_weaving.proofs.StateFits.{state_fits}
use Rattle.class_weaving.specs.declared.woven.Members.{Members}
use Rattle.class_weaving.specs.declared.woven.Woven.{Woven}
use Rattle.class_weaving.proofs.CodeCases.{with_blocks, IsPut, code_cases}
use Rattle.class_weaving.proofs.FirstCode.{first_fits}
use Rattle.class_weaving.specs.Woven.{WovenCode, folded, is_woven, sites_of, locals_of, code_woven, first_code, attr_with, member_with, bare_put, code_put, body_woven, member_woven, members_woven, none_made, file_with, file_put, class_woven, classes_woven, nothing_woven, state_put, woven}

-- ---- the code of a method

-- What was made of a code: the pool grew, and both can be encoded.
record IsCode (pool : List Const) (code : Code) (w : WovenCode) : Type 0 where
  grown : (more : List Const) × (w.entries ≡ pool ++ more)
  pool_fits : FitsPool w.entries
  code_fits : FitsCode w.entries w.made.code
  named : w.made.code.name ≡ code.name

put_fits : (kinds : List Bool) (plan : Plan) (good : IsGood kinds plan) (state : ℕ) (class : List ℕ) (number : ℕ) (pool : List Const) (method : Method) (code : Code) → FitsPool pool → FitsCode pool code → IsSoundMethod method
    → is_woven plan method ≡ true → (new : Code) → IsPut plan state class number pool method code new → IsCode pool code (with_blocks plan state pool method code new)
put_fits kinds plan good state class number pool method code p h sound some new put =
    let locals = locals_of plan method in
    let sites = sites_of plan code.max_locals method in
    let all = grown pool sites in
    let roomy = room_is class number code locals put.0 in
    let short = pool_short class number all method code locals sites new put.1 in
    let fit = refs_fit kinds plan good code.max_locals method.refs (omega (arith, roomy.1)) in
    let more = wants_grow (wants_of sites) pool in
    let refs = refs_some plan.has_block method.refs some in
    let count : length sites ≡ length method.refs = length-map method.refs (plan.block code.max_locals) in
    let same = sound.refs in
    let each = parts_fit all (fronts_of sites) 0 method.insns sites short sound.insns fit (wants_there sites pool) in
    let there = parts_some all (fronts_of sites) 0 method.insns sites fit (omega arith) (omega arith) in
    let here = subst (λ (q : List Const). FitsCode q code) (sym more.1) (code_on pool more.0 code h) in
    record {
      grown = more;
      pool_fits = wants_fit (wants_of sites) (wants_are sites fit) pool p short;
      code_fits = code_fits class number all method code locals sites new here put.0 put.1 each there;
      named = code_named class number all method code locals sites new put.1;
    }

woven_fits : (kinds : List Bool) (plan : Plan) (good : IsGood kinds plan) (state : ℕ) (class : List ℕ) (number : ℕ) (pool : List Const) (method : Method) (code : Code) (w : WovenCode) → FitsPool pool → FitsCode pool code → IsSoundMethod method
    → code_woven plan state class number pool method code ≡ Ok w → IsCode pool code w
woven_fits kinds plan good state class number pool method code w p h sound =
    code_cases plan state class number pool method code (IsCode pool code) w (put_fits kinds plan good state class number pool method code p h sound)
    (λ none. record { grown = ([], sym (append-nil pool)); pool_fits = p; code_fits = h; named = refl })

-- ---- members

with_all : (pool : List Const) (code : Code) → FitsAttr pool true (attributes.Code code) → (attrs : List Attr) → AllByRecursion (FitsAttr pool true) attrs
    → AllByRecursion (FitsAttr pool true) (map (attr_with code) attrs)
with_all pool code c [] h = tt
with_all pool code c (attributes.Code old ∷ attrs) h = (c, with_all pool code c attrs h.1)
with_all pool code c (attributes.Other o ∷ attrs) h = (h.0, with_all pool code c attrs h.1)

with_fits : (pool : List Const) (member : Member) (code : Code) → FitsMember pool true member → FitsAttr pool true (attributes.Code code) → FitsMember pool true (member_with member code)
with_fits pool member code h c =
    let n = length-map member.attrs (attr_with code) in
    let few = h.attrs.count in
    record { flags = h.flags; name = h.name; desc = h.desc; attrs = record { count = omega arith; each = with_all pool code c member.attrs h.attrs.each } }

-- What is made of the members so far, of a class with this pool.
record IsMade (pool : List Const) (made : Members) : Type 0 where
  grown : (more : List Const) × (made.entries ≡ pool ++ more)
  fits : FitsPool made.entries
  items : AllByRecursion (FitsMember made.entries true) made.items

bare_fits : (pool : List Const) (made : Members) (member : Member) (method : Option Method) → IsMade pool made → FitsMember pool true member
    → IsMade pool (bare_put made member method)
bare_fits pool made member method m h =
    let here = subst (λ (q : List Const). FitsMember q true member) (sym m.grown.1) (member_on pool m.grown.0 true member h) in
    record { grown = m.grown; fits = m.fits; items = all_append (FitsMember made.entries true) made.items (member ∷ []) m.items (here, tt) }

coded_fits : (kinds : List Bool) (plan : Plan) (good : IsGood kinds plan) (state : ℕ) (class : List ℕ) (pool : List Const) (made : Members) (member : Member) (method : Method) (code : Code) (w : WovenCode) → IsMade pool made → FitsMember pool true member
    → IsSoundMethod method → first_code member.attrs ≡ Some code → code_woven plan state class made.number made.entries method code ≡ Ok w → IsMade pool (code_put made member w)
coded_fits kinds plan good state class pool made member method code w m h sound first e =
    let here = subst (λ (q : List Const). FitsMember q true member) (sym m.grown.1) (member_on pool m.grown.0 true member h) in
    let old = first_fits made.entries member.attrs code here.attrs.each first in
    let c = woven_fits kinds plan good state class made.number made.entries method code w m.fits old.1 sound e in
    let more = c.grown.0 in
    let on = λ (x : Member) (f : FitsMember made.entries true x). subst (λ (q : List Const). FitsMember q true x) (sym c.grown.1) (member_on made.entries more true x f) in
    let read : is_read_as_code w.entries true w.made.code.name ≡ true =
    ap (is_read_as_code w.entries true) c.named ∙ ap (λ (q : List Const). is_read_as_code q true code.name) c.grown.1 ∙ read_on made.entries more true true code.name old.1.name.named old.0 in
    let one = with_fits w.entries member w.made.code (on member here) (read, c.code_fits) in
    record {
      grown = (m.grown.0 ++ more, c.grown.1 ∙ ap (λ (q : List Const). q ++ more) m.grown.1 ∙ append_assoc pool m.grown.0 more);
      fits = c.pool_fits;
      items = all_append (FitsMember w.entries true) made.items (member_with member w.made.code ∷ [])
          (each_on (FitsMember made.entries true) (FitsMember w.entries true) on made.items m.items) (one, tt);
    }

all_at : {X : Type 0} (P : X → Type 0) (xs : List X) (i : ℕ) (x : X) → AllByRecursion P xs → slice_get xs i ≡ Some x → P x
all_at P [] i x h e = absurd cc
all_at P (y ∷ xs) zero x h e =
    let is : y ≡ x = cc in
    subst P is h.0
all_at P (y ∷ xs) (suc i) x h e = all_at P xs i x h.1 e

body_fits : (kinds : List Bool) (plan : Plan) (good : IsGood kinds plan) (state : ℕ) (class : List ℕ) (pool : List Const) (made next : Members) (member : Member) (methods : List Method) → IsMade pool made → FitsMember pool true member
    → AllByRecursion IsSoundMethod methods → (m : Option Method) (c : Option Code) → slice_get methods made.number ≡ m → first_code member.attrs ≡ c
    → body_woven plan state class made member m c ≡ Ok next → IsMade pool next × (length next.items ≡ length made.items + 1)
body_fits kinds plan good state class pool made next member methods i h sound (Some method) (Some code) m c e =
    let one = bind_ok (code_woven plan state class made.number made.entries method code) (λ w. Ok (code_put made member w)) next e in
    let is : code_put made member one.0 ≡ next = ok_is SpliceFault (code_put made member one.0) next one.2 in
    let P : Members → Type 0 = λ x. IsMade pool x × (length x.items ≡ length made.items + 1) in
    subst P is (coded_fits kinds plan good state class pool made member method code one.0 i h (all_at IsSoundMethod methods made.number method sound m) c one.1, length-append made.items (member_with member one.0.made.code ∷ []))
body_fits kinds plan good state class pool made next member methods i h sound None c m d e =
    let is : bare_put made member None ≡ next = ok_is SpliceFault (bare_put made member None) next e in
    let P : Members → Type 0 = λ x. IsMade pool x × (length x.items ≡ length made.items + 1) in
    subst P is (bare_fits pool made member None i h, length-append made.items (member ∷ []))
body_fits kinds plan good state class pool made next member methods i h sound (Some method) None m d e =
    let is : bare_put made member (Some method) ≡ next = ok_is SpliceFault (bare_put made member (Some method)) next e in
    let P : Members → Type 0 = λ x. IsMade pool x × (length x.items ≡ length made.items + 1) in
    subst P is (bare_fits pool made member (Some method) i h, length-append made.items (member ∷ []))

members_fit : (kinds : List Bool) (plan : Plan) (good : IsGood kinds plan) (state : ℕ) (class : LinkedClass) (pool : List Const) (made last : Members) (members : List Member) → AllByRecursion IsSoundMethod class.methods → IsMade pool made
    → AllByRecursion (FitsMember pool true) members → folded (member_woven plan state class) made members ≡ Ok last → IsMade pool last × (length last.items ≡ length made.items + length members)
members_fit kinds plan good state class pool made last [] sound i h e =
    let is : made ≡ last = ok_is SpliceFault made last e in
    let P : Members → Type 0 = λ x. IsMade pool x × (length x.items ≡ length made.items + 0) in
    subst P is (i, omega arith)
members_fit kinds plan good state class pool made last (member ∷ members) sound i h e =
    let one = bind_ok (member_woven plan state class made member) (λ next. folded (member_woven plan state class) next members) last e in
    let here = body_fits kinds plan good state class.name pool made one.0 member class.methods i h.0 sound (slice_get class.methods made.number) (first_code member.attrs) refl refl one.1 in
    let later = members_fit kinds plan good state class pool one.0 last members sound here.0 h.1 one.2 in
    (later.0, omega (arith, here.1, later.1))

-- ---- classes

file_fits : (file : ClassFile) (made : Members) → IsEncodable file → IsMade file.pool made → length made.items ≡ length file.methods → IsEncodable (file_with file made.entries made.items)
file_fits file made h m count =
    let more = m.grown.0 in
    let fields = counted_on (FitsMember file.pool false) (FitsMember (file.pool ++ more) false) (member_on file.pool more false) file.fields h.fields in
    let interfaces = counted_on (IsIndex kinds.Class file.pool) (IsIndex kinds.Class (file.pool ++ more)) (index_on kinds.Class file.pool more) file.interfaces h.interfaces in
    let few = h.methods.count in
    record {
      minor = h.minor;
      pool = m.fits;
      flags = h.flags;
      this_class = subst (λ (q : List Const). IsIndex kinds.Class q file.this_class) (sym m.grown.1) (index_on kinds.Class file.pool more file.this_class h.this_class);
      super_class = subst (λ (q : List Const). IsIndex kinds.Class q file.super_class) (sym m.grown.1) (index_on kinds.Class file.pool more file.super_class h.super_class);
      interfaces = subst (λ (q : List Const). FitCounted (IsIndex kinds.Class q) file.interfaces) (sym m.grown.1) interfaces;
      fields = subst (λ (q : List Const). FitCounted (FitsMember q false) file.fields) (sym m.grown.1) fields;
      methods = record { count = omega arith; each = m.items };
      attrs = subst (λ (q : List Const). FitCounted (FitsAttr q false) file.attrs) (sym m.grown.1) (attrs_on file.pool more false file.attrs h.attrs);
    }

none_fits : (pool : List Const) → FitsPool pool → IsMade pool (none_made pool)
none_fits pool p = record { grown = ([], sym (append-nil pool)); fits = p; items = tt }

classes_fit : (kinds : List Bool) (plan : Plan) (good : IsGood kinds plan) (state : ℕ) (made last : Woven) (classes : List LinkedClass) → AllByRecursion IsSoundClass classes → AllByRecursion IsEncodable made.files
    → folded (class_woven plan state) made classes ≡ Ok last → AllByRecursion IsEncodable last.files
classes_fit kinds plan good state made last [] sound h e = subst (λ (x : Woven). AllByRecursion IsEncodable x.files) (ok_is SpliceFault made last e) h
classes_fit kinds plan good state made last (class ∷ classes) sound h e =
    let one = bind_ok (class_woven plan state made class) (λ next. folded (class_woven plan state) next classes) last e in
    let two = bind_ok (members_woven plan state class (none_made class.file.pool) class.file.methods) (λ done. Ok (file_put made class done)) one.0 one.1 in
    let fits = sound.0.fits in
    let all = members_fit kinds plan good state class class.file.pool (none_made class.file.pool) two.0 class.file.methods sound.0.methods (none_fits class.file.pool fits.pool) fits.methods.each two.1 in
    let file = file_fits class.file two.0 fits all.0 (all.1 ∙ omega arith) in
    let is : file_put made class two.0 ≡ one.0 = ok_is SpliceFault (file_put made class two.0) one.0 two.2 in
    let here : AllByRecursion IsEncodable (file_put made class two.0).files = all_append IsEncodable made.files (file_with class.file two.0.entries two.0.items ∷ []) h (file, tt) in
    classes_fit kinds plan good state one.0 last classes sound.1 (subst (λ (x : Woven). AllByRecursion IsEncodable x.files) is here) one.2

-- ---- the program

pub woven_encodes : (program : Program) (plan : Plan) (vars : List Var) (w : Woven) → IsSound program → IsGood (map (λ (v : Var). v.is_bool) vars) plan → length vars ≤ 16
    → AllByRecursion (λ (v : Var). FitsSigned w32 v.first) vars → woven program plan vars ≡ Ok w → AllByRecursion IsEncodable w.files
woven_encodes program plan vars w sound good few firsts e =
    let state = length program.classes in
    let one = bind_ok (classes_woven plan state nothing_woven program.classes) (λ made. Ok (state_put vars made)) w e in
    let is : state_put vars one.0 ≡ w = ok_is SpliceFault (state_put vars one.0) w one.2 in
    let all = classes_fit (map (λ (v : Var). v.is_bool) vars) plan good state nothing_woven one.0 program.classes sound.classes tt one.1 in
    subst (λ (x : Woven). AllByRecursion IsEncodable x.files) is (all_append IsEncodable one.0.files (state_file vars ∷ []) all (state_fits vars few firsts, tt))

pub encodes_if : (program : Program) (plan : Plan) (vars : List Var) (r : Fitting Woven) → IsSound program → IsGood (map (λ (v : Var). v.is_bool) vars) plan → length vars ≤ 16
    → Answers faults.Memory r (woven program plan vars) → AllByRecursion (λ (v : Var). FitsSigned w32 v.first) vars → IfOk r (λ w. AllByRecursion IsEncodable w.files)
encodes_if program plan vars (Ok w) sound good few told firsts = woven_encodes program plan vars w sound good few firsts told
encodes_if program plan vars (Err e) sound good few told firsts = tt

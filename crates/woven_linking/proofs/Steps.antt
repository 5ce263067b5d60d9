-- What becomes of a method: its member before and after weaving, and what each links to.
use Rattle.std.proofs.Common.{◌≡◌, ℕ, ◌+◌, ◌<◌, ◌^◌, Bool, true, false, List, [], ◌∷◌, ◌++◌, length, map, Option, Some, None, Result, Ok, refl, sym, ap, subst, ◌∙◌, append_assoc, append-nil, arith}
use Rattle.std.specs.Prelude.{slice_get, bytes_eq, ◌==◌, ◌&&◌, ◌≤◌, if◌then◌else◌, not}
use Rattle.std.specs.List.{AllByRecursion, Contains, filter_map}
use Rattle.mon_base.specs.Reading.{◌>>=◌}
use Rattle.mon_base.proofs.Reading.{bind_ok, ok_is}
use Rattle.class_codec.specs.declared.tree.Attr.{Attr}
use Rattle.class_codec.specs.declared.tree.Attr.TheVariants as attributes
use Rattle.class_codec.specs.declared.tree.ClassFile.{ClassFile}
use Rattle.class_codec.specs.declared.tree.Code.{Code}
use Rattle.class_codec.specs.declared.tree.Const.{Const}
use Rattle.class_codec.specs.declared.tree.Member.{Member}
use Rattle.class_codec.specs.Fits.{FitsMember, FitsOther}
use Rattle.insn_codec.specs.declared.fault.CodeFault.{CodeFault}
use Rattle.insn_codec.specs.declared.insn.Insn.{Insn}
use Rattle.insn_codec.specs.Reading.{code_of}
use Rattle.insn_codec.specs.Encoding.{starts_of}
use Rattle.api_listing.specs.declared.types.Listing.{Listing}
use Rattle.class_linking.proofs.Parts.{code_parts, method_parts}
use Rattle.class_linking.specs.declared.fault.LinkFault.{LinkFault}
use Rattle.bytecode_model.specs.declared.program.Handler.{Handler}
use Rattle.bytecode_model.specs.declared.program.Method.{Method}
use Rattle.bytecode_model.specs.declared.program.Target.{Target}
use Rattle.bytecode_model.specs.Conditions.{code_in, codes_of, describes_method, has_good_flags, has_its_code, is_allowed, is_begun_unlocked, is_good_initialiser, overrides, overrides_in, id_of}
use Rattle.bytecode_model.specs.Heads.{head_of, all_classes, name_of, desc_of, is_abstract, is_static, maker}
use Rattle.class_linking.specs.Operands.{operand_linked, operand_at, operands_linked}
use Rattle.bytecode_model.specs.SearchOrder.{Name}
use Rattle.class_linking.specs.Handlers.{handlers_linked}
use Rattle.class_linking.proofs.Loop.{same_length}
use Rattle.class_linking.proofs.Sound.{handlers_within}
use Rattle.class_linking.specs.Linking.{bare, with_code, read_of, code_linked, body_linked, method_linked}
use Rattle.bytecode_model.specs.Sound.{IsSoundMethod}
use Rattle.offset_patch.specs.Plan.{Plan, IsGood}
use Rattle.offset_patch.specs.declared.block.Block.{Block}
use Rattle.offset_patch.specs.declared.block.BlockInsn.{BlockInsn}
use Rattle.offset_patch.specs.declared.block.BlockInsn.TheVariants.{Plain, Byte, Short, Local, Want, Jump, Call}
use Rattle.offset_patch.specs.declared.block.PoolWant.{PoolWant}
use Rattle.offset_patch.specs.declared.fault.SpliceFault.{SpliceFault}
use Rattle.offset_patch.specs.Entries.{Placed, wanted, with_wants, place_in, IsThere}
use Rattle.offset_patch.specs.Lines.{attrs_kept, start_moved}
use Rattle.offset_patch.specs.Splicing.{attrs_spliced, begins as begins_at, part_of, fronts_of, put, parts_from, spliced, want_of, block_wants, wants_of, grown}
use Rattle.offset_patch.proofs.EntryFits.{wants_grow}
use Rattle.offset_patch.proofs.InsnFits.{split_all, wants_there}
use Rattle.offset_patch.proofs.Steady.{steady_wanted}
use Rattle.class_weaving.specs.declared.woven.Members.{Members}
use Rattle.class_weaving.specs.Woven.{WovenCode, is_woven, sites_of, locals_of, as_it_is, blocks_put, code_woven, first_code, attr_with, member_with, bare_put, code_put, body_woven}
use Rattle.offset_patch.specs.Splicing.{way_out, at_fronts, own_handlers, handlers_with, parts_named}
use Rattle.class_weaving.specs.Outcome.{Each, wants_woven, insns_woven, stack_woven, locals_woven, handlers_woven, refs_woven, IsWovenBody, IsWovenMember, IsWovenMethod}
use Rattle.woven_linking.specs.Program.{HasRoom, MethodHasRoom}
use Rattle.woven_linking.proofs.Again.{IsSoundCode, put_reads}
use Rattle.woven_linking.proofs.Attributes.{attrs_same, attrs_with, lines_same}
use Rattle.woven_linking.proofs.Aims.{GoesOn, last_alone, spliced_below, spliced_count, spliced_within}
use Rattle.woven_linking.proofs.Calls.{call_goes}
use Rattle.woven_linking.proofs.Free.{IsFree, class_free}
use Rattle.woven_linking.proofs.Kept.{IsLonger, IsKeptMember, same_member, with_kept}
use Rattle.woven_linking.proofs.Named.{IsAdded, operand_still, parts_are_named, sites_name, told_ok, ok_told}
use Rattle.woven_linking.proofs.Pairs.{each_as, each_append, each_linked, linked_each}
use Rattle.woven_linking.proofs.Same.{name_kept, desc_kept}
use Rattle.class_weaving.proofs.FirstCode.{first_fits}
use Rattle.woven_linking.proofs.Tables.{IsHandlerOf, handlers_of, of_handlers, sites_caught, handlers_kept, handlers_moved}
use Rattle.class_weaving.proofs.Wanted.{exit_there, reference_told, there_on, all_of}
use Rattle.std.proofs.lemmas.List.{length-map}
use Rattle.std.proofs.lemmas.Bool.{and_parts}
use Rattle.std.proofs.lemmas.Bool.Decides.{nat_tests}
use Rattle.class_codec.specs.declared.tree.TableEntry.{TableEntry}
use Rattle.class_codec.specs.Fits.{FitCounted, FitsPool, FitsTableEntry}
use Rattle.class_codec.specs.Pool.{reference_at}
use Rattle.offset_patch.specs.Splicing.{operands_needed, own_entries, table_moved, table_spliced}
use Rattle.offset_patch.specs.declared.block.PoolWant.TheVariants as wants
use Rattle.offset_patch.proofs.PoolFits.{each_on}

-- ---- a block in a pool that grew

place_on : (want : PoolWant) (pool more : List Const) → IsThere pool want → place_in pool want ≡ place_in (pool ++ more) want
place_on want pool more there =
    let here : wanted want pool ≡ (pool, place_in pool want) = ap (λ (p : List Const). (p, place_in pool want)) there.same in
    let stays : wanted want (pool ++ more) ≡ (pool ++ more, place_in pool want) = (steady_wanted want).stays pool more (place_in pool want) here in
    ap (λ (z : Placed). z.1) (sym stays)

part_on : (pool more : List Const) (fronts : List ℕ) (begin : ℕ) (own : Insn) (part : List BlockInsn) → AllByRecursion (IsThere pool) (filter_map want_of part)
    → map (put pool fronts begin own) part ≡ map (put (pool ++ more) fronts begin own) part
part_on pool more fronts begin own [] w = refl
part_on pool more fronts begin own (Plain op ∷ part) w = rw (part_on pool more fronts begin own part w) refl
part_on pool more fronts begin own (Byte n ∷ part) w = rw (part_on pool more fronts begin own part w) refl
part_on pool more fronts begin own (Short n ∷ part) w = rw (part_on pool more fronts begin own part w) refl
part_on pool more fronts begin own (Local op slot wide ∷ part) w = rw (part_on pool more fronts begin own part w) refl
part_on pool more fronts begin own (Want op want ∷ part) w = rw (part_on pool more fronts begin own part w.1, place_on want pool more w.0) refl
part_on pool more fronts begin own (Jump op place ∷ part) w = rw (part_on pool more fronts begin own part w) refl
part_on pool more fronts begin own (Call ∷ part) w = rw (part_on pool more fronts begin own part w) refl

parts_on : (pool more : List Const) (fronts : List ℕ) (begin : ℕ) (own : List Insn) (sites : List (Option Block)) → AllByRecursion (IsThere pool) (wants_of sites)
    → parts_from pool fronts begin own sites ≡ parts_from (pool ++ more) fronts begin own sites
parts_on pool more fronts begin [] sites w = refl
parts_on pool more fronts begin (insn ∷ own) [] w = refl
parts_on pool more fronts begin (insn ∷ own) (site ∷ sites) w =
    let wants = split_all (IsThere pool) (block_wants site) (wants_of sites) w in
    rw (part_on pool more fronts begin insn (part_of site) wants.0, parts_on pool more fronts (begin + length (part_of site)) own sites wants.1) refl

pub spliced_on : (pool more : List Const) (own : List Insn) (sites : List (Option Block)) → spliced (grown pool sites) own sites ≡ spliced (grown pool sites ++ more) own sites
spliced_on pool more own sites = parts_on (grown pool sites) more (fronts_of sites) 0 own sites (wants_there sites pool)

-- ---- the first code

pub first_is : (attrs : List Attr) → slice_get (filter_map code_in attrs) 0 ≡ first_code attrs
first_is [] = refl
first_is (attributes.Code code ∷ attrs) = refl
first_is (attributes.Other other ∷ attrs) = first_is attrs

first_with : (new code : Code) (attrs : List Attr) → first_code attrs ≡ Some code → first_code (map (attr_with new) attrs) ≡ Some new
first_with new code [] e = absurd cc
first_with new code (attributes.Code old ∷ attrs) e = refl
first_with new code (attributes.Other other ∷ attrs) e = first_with new code attrs e

-- ---- what a member was linked to

-- What a method is that was linked of a member with this code.
pub record IsCoded (files : List ClassFile) (listing : Listing) (file : ClassFile) (member : Member) (code : Code) (m : Method) : Type 0 where
  pub flags : m.flags ≡ member.flags
  pub name : m.name ≡ name_of file.pool member
  pub desc : m.desc ≡ desc_of file.pool member
  pub max_stack : m.max_stack ≡ code.max_stack
  pub max_locals : m.max_locals ≡ code.max_locals
  pub insns : code_of code.code ≡ Ok m.insns
  pub refs : Each (λ (x : Insn) (t : Target). operand_linked files listing file.pool x ≡ Ok t) m.insns m.refs
  pub handlers : Each (IsHandlerOf files listing file.pool (starts_of m.insns)) code.table m.handlers

pub coded : (files : List ClassFile) (listing : Listing) (file : ClassFile) (at : ℕ) (member : Member) (code : Code) (m : Method) → code_linked files listing file at member code ≡ Ok m
    → IsCoded files listing file member code m
coded files listing file at member code m e =
    let class = (head_of file).name in
    let parts = code_parts files listing file at member code m e in
    subst (IsCoded files listing file member code) parts.is (record {
      flags = refl;
      name = refl;
      desc = refl;
      max_stack = refl;
      max_locals = refl;
      insns = parts.read;
      refs = each_linked (operand_at files listing class file.pool at) (λ (x : Insn) (t : Target). operand_linked files listing file.pool x ≡ Ok t)
          (λ i x t. told_ok class at i (operand_linked files listing file.pool x) t) 0 parts.insns parts.refs parts.operands;
      handlers = handlers_of files listing class file.pool at (length parts.insns) (starts_of parts.insns) code.table parts.handlers parts.table;
    })

-- what is linked of a sound code is sound
sound_of : (files : List ClassFile) (listing : Listing) (file : ClassFile) (at : ℕ) (member : Member) (code : Code) (insns : List Insn) (refs : List Target) (handlers : List Handler) → IsSoundCode insns
    → length code.table < 2 ^ 16 → operands_linked files listing (head_of file).name file.pool at insns ≡ Ok refs
    → handlers_linked files listing (head_of file).name file.pool at (length insns) (starts_of insns) code.table ≡ Ok handlers → IsSoundMethod (with_code file member code insns refs handlers)
sound_of files listing file at member code insns refs handlers sound rows operands table =
    let class = (head_of file).name in
    let within = handlers_within files listing class file.pool at (length insns) insns code.table handlers table in
    record {
      few = sound.few;
      refs = same_length (operand_at files listing class file.pool at) 0 insns refs operands;
      insns = sound.each;
      targets = sound.targets;
      ends = sound.ends;
      few_handlers = omega (arith, rows, within.0);
      handlers = within.1;
    }

-- the conditions that a method meets, and its body
pub conditions_of : (files : List ClassFile) (listing : Listing) (file : ClassFile) (at : ℕ) (member : Member) (m : Method) → method_linked files listing file at member ≡ Ok m
    → (is_allowed file.pool member ≡ true) × (not (overrides (all_classes listing files) listing (head_of file).name file.pool member) ≡ true)
    × (body_linked files listing file at member (first_code member.attrs) ≡ Ok m)
conditions_of files listing file at member m e =
    let parts = method_parts files listing file at member m e in
    (parts.allowed, parts.own, ap (body_linked files listing file at member) (sym (first_is member.attrs)) ∙ parts.body)

-- a member that is allowed has one code at most
one_code : (pool : List Const) (member : Member) → is_allowed pool member ≡ true → length (codes_of member) ≤ 1
one_code pool member e =
    let one = and_parts (has_good_flags pool member) _ e in
    let two = and_parts (is_good_initialiser pool member) _ one.1 in
    let three = and_parts (is_begun_unlocked pool member) _ two.1 in
    let four = and_parts (describes_method (desc_of pool member)) (has_its_code member) three.1 in
    by (is_abstract member.flags) four.1
  where
    by : (b : Bool) → (length (codes_of member) == (if b then 0 else 1)) ≡ true → length (codes_of member) ≤ 1
    by true h = grind (arith, nat_tests)
    by false h = grind (arith, nat_tests)

-- ---- one member

module _ (kinds : List Bool) (plan : Plan) (good : IsGood kinds plan) (file new : ClassFile) (files others : List ClassFile) (listing : Listing) (added : IsAdded kinds files others listing)
    (p : FitsPool file.pool) (free : IsFree file.pool) (longer : IsLonger file.pool new.pool) (named : (head_of new).name ≡ (head_of file).name) where
  allowed_kept : (member item : Member) → FitsMember file.pool true member → IsKeptMember member item → is_allowed new.pool item ≡ is_allowed file.pool member
  allowed_kept member item fits kept =
      rw (kept.flags, name_kept file.pool new.pool member item true longer fits kept, desc_kept file.pool new.pool member item true longer fits kept, kept.codes) refl

  overrides_kept : (member item : Member) → FitsMember file.pool true member → IsKeptMember member item
      → overrides (all_classes listing others) listing (head_of new).name new.pool item ≡ overrides (all_classes listing files) listing (head_of file).name file.pool member
  overrides_kept member item fits kept =
      let class = (head_of file).name in
      ap (λ (c : List ℕ). overrides (all_classes listing others) listing c new.pool item) named
      ∙ ap (λ (names : List Name). not (is_static item.flags) && (not (bytes_eq (name_of new.pool item) maker) && overrides_in listing (id_of class new.pool item) names)) (added.order class (class_free file.pool file.this_class free))
      ∙ rw (kept.flags, name_kept file.pool new.pool member item true longer fits kept, desc_kept file.pool new.pool member item true longer fits kept) refl

  -- the conditions hold of the member that it became
  links : (at here : ℕ) (member item : Member) (m other : Method) → FitsMember file.pool true member → IsKeptMember member item → method_linked files listing file here member ≡ Ok m
      → body_linked others listing new at item (first_code item.attrs) ≡ Ok other → method_linked others listing new at item ≡ Ok other
  links at here member item m other fits kept linked body =
      let was = conditions_of files listing file here member m linked in
      let allowed : is_allowed new.pool item ≡ true = allowed_kept member item fits kept ∙ was.0 in
      let own : not (overrides (all_classes listing others) listing (head_of new).name new.pool item) ≡ true = ap not (overrides_kept member item fits kept) ∙ was.1 in
      rw (allowed, own, first_is item.attrs) body

  -- What one member more makes of what was made.
  pub record IsStep (made next : Members) (member : Member) (m : Method) : Type 0 where
    pub item : Member
    pub items : next.items ≡ made.items ++ item ∷ []
    pub number : next.number ≡ made.number + 1
    pub more : (xs : List Const) × (next.entries ≡ made.entries ++ xs)
    pub wanted : next.entries ≡ with_wants made.entries (wants_woven plan m)
    pub is : (ys : List Const) → new.pool ≡ next.entries ++ ys → (at : ℕ) → (other : Method) × (method_linked others listing new at item ≡ Ok other) × IsWovenMethod plan (length files) new.pool m other
        × IsSoundMethod other
    pub room : (ys : List Const) → new.pool ≡ next.entries ++ ys → MethodHasRoom plan new.pool m
    pub kept : (ys : List Const) → new.pool ≡ next.entries ++ ys → IsWovenMember plan new.pool m member item

  bare_step : (made : Members) (member : Member) (m : Method) → FitsMember file.pool true member → method_linked files listing file made.number member ≡ Ok m → first_code member.attrs ≡ None
      → bare file member ≡ m → IsStep made (bare_put made member (Some m)) member m
  bare_step made member m fits linked none is = record {
    item = member;
    items = refl;
    number = refl;
    more = ([], sym (append-nil made.entries));
    wanted = ap (λ (x : Method). with_wants made.entries (wants_woven plan x)) is;
    is = λ ys grown at.
        let body : body_linked others listing new at member (first_code member.attrs) ≡ Ok (bare new member) = ap (body_linked others listing new at member) none in
        let same : IsWovenMethod plan (length files) new.pool (bare file member) (bare new member) = record {
          flags = refl;
          name = name_kept file.pool new.pool member member true longer fits (same_member member);
          desc = desc_kept file.pool new.pool member member true longer fits (same_member member);
          max_stack = refl;
          max_locals = refl;
          insns = refl;
          handlers = refl;
          refs = refl;
          out = λ c. absurd (omega (arith, c.1));
        } in (
          bare new member,
          links at made.number member member m (bare new member) fits (same_member member) linked body,
          subst (λ (x : Method). IsWovenMethod plan (length files) new.pool x (bare new member)) is same,
          record { few = omega arith; refs = refl; insns = tt; targets = tt; ends = tt; few_handlers = omega arith; handlers = tt },
        );
    room = λ ys grown. subst (MethodHasRoom plan new.pool) is (λ woven. absurd cc);
    kept = λ ys grown. record { flags = refl; name = refl; desc = refl; attrs = attrs_same plan new.pool m member.attrs none };
  }

  abbrev Names : Insn → Target → Type 0
  Names x t = operand_linked others listing new.pool x ≡ Ok t

  -- what a code was woven to
  record IsWovenCode (pool : List Const) (m : Method) (code : Code) (w : WovenCode) : Type 0 where
    more : (xs : List Const) × (w.entries ≡ pool ++ xs)
    wanted : w.entries ≡ with_wants pool (wants_woven plan m)
    insns : (ys : List Const) → new.pool ≡ w.entries ++ ys → code_of w.made.code.code ≡ Ok (insns_woven plan new.pool m)
    max_stack : w.made.code.max_stack ≡ stack_woven plan m
    max_locals : w.made.code.max_locals ≡ locals_woven plan m
    refs : (ys : List Const) → new.pool ≡ w.entries ++ ys → Each Names (insns_woven plan new.pool m) (refs_woven plan (length files) m)
    handlers : (ys : List Const) → new.pool ≡ w.entries ++ ys → Each (IsHandlerOf others listing new.pool (starts_of (insns_woven plan new.pool m))) w.made.code.table (handlers_woven plan m)
    out : (ys : List Const) → new.pool ≡ w.entries ++ ys → Contains (wants_woven plan m) wants.Exit → reference_at new.pool (place_in new.pool wants.Exit) ≡ Some way_out
    rows : length w.made.code.table < 2 ^ 16
    sound : (ys : List Const) → new.pool ≡ w.entries ++ ys → IsSoundCode (insns_woven plan new.pool m)
    room : (ys : List Const) → new.pool ≡ w.entries ++ ys → MethodHasRoom plan new.pool m
    body : (ys : List Const) → new.pool ≡ w.entries ++ ys → IsWovenBody plan new.pool m code w.made.code

  -- the constants that the methods before added
  abbrev pub Begins : List Const → Type 0
  Begins pool = (xs : List Const) × (pool ≡ file.pool ++ xs)

  woven_is : (state : ℕ) (class : List ℕ) (number : ℕ) (pool : List Const) (m : Method) (member : Member) (code : Code) (w : WovenCode) → IsSoundMethod m → IsCoded files listing file member code m
      → FitCounted (FitsTableEntry file.pool) code.table → AllByRecursion (FitsOther file.pool) code.attrs → Begins pool → code_woven plan state class number pool m code ≡ Ok w
      → IsWovenCode pool m code w
  woven_is state class number pool m member code w sound old fits attrs begins = by (is_woven plan m) refl
    where
      refs_still : Each Names m.insns m.refs
      refs_still = each_as (λ (x : Insn) (t : Target). operand_linked files listing file.pool x ≡ Ok t) Names (operand_still kinds files others listing added file.pool new.pool p free longer) m.insns m.refs old.refs

      by : (b : Bool) → is_woven plan m ≡ b
          → (if b then blocks_put plan state class number pool m code (sites_of plan code.max_locals m) else Ok (record { made = as_it_is m code; entries = pool })) ≡ Ok w
          → IsWovenCode pool m code w
      by true some e =
          let sites = sites_of plan code.max_locals m in
          let calls = each_as (λ (x : Insn) (t : Target). operand_linked files listing file.pool x ≡ Ok t) GoesOn (call_goes files listing file.pool) m.insns m.refs old.refs in
          let h = put_reads kinds plan good state class number pool m code w sound (last_alone kinds plan good code.max_locals m.insns m.refs sound.ends calls) e in
          let fronts = fronts_of sites in
          let xs = spliced new.pool m.insns sites in
          let more = wants_grow (wants_of sites) pool in
          let same : sites_of plan m.max_locals m ≡ sites = ap (λ (n : ℕ). sites_of plan n m) old.max_locals in
          let insns_is : insns_woven plan new.pool m ≡ xs =
          ap (λ (b : Bool). if b then spliced new.pool m.insns (sites_of plan m.max_locals m) else m.insns) some ∙ ap (spliced new.pool m.insns) same in
          let refs_is : refs_woven plan (length files) m ≡ parts_named (length files) m.refs sites =
          ap (λ (b : Bool). if b then parts_named (length files) m.refs (sites_of plan m.max_locals m) else m.refs) some ∙ ap (parts_named (length files) m.refs) same in
          let handlers_is : handlers_woven plan m ≡ handlers_with sites m.handlers =
          ap (λ (b : Bool). if b then handlers_with (sites_of plan m.max_locals m) m.handlers else m.handlers) some ∙ ap (λ (q : List (Option Block)). handlers_with q m.handlers) same in
          let wants_is : wants_woven plan m ≡ wants_of sites = ap (λ (b : Bool). if b then wants_of (sites_of plan m.max_locals m) else []) some ∙ ap wants_of same in
          let there : (ys : List Const) → new.pool ≡ w.entries ++ ys → AllByRecursion (IsThere new.pool) (wants_of sites) = λ ys grown.
          let all = each_on (IsThere (grown_by sites)) (IsThere (grown_by sites ++ ys)) (λ want. there_on want (grown_by sites) ys) (wants_of sites) (wants_there sites pool) in
          subst (λ (q : List Const). AllByRecursion (IsThere q) (wants_of sites)) (sym (grown ∙ ap (λ (q : List Const). q ++ ys) h.entries)) all in
          let spliced_same : (ys : List Const) → new.pool ≡ w.entries ++ ys → spliced w.entries m.insns sites ≡ xs = λ ys grown.
          let one : spliced w.entries m.insns sites ≡ spliced (w.entries ++ ys) m.insns sites =
          subst (λ (q : List Const). spliced q m.insns sites ≡ spliced (q ++ ys) m.insns sites) (sym h.entries) (spliced_on pool ys m.insns sites) in
          one ∙ ap (λ (q : List Const). spliced q m.insns sites) (sym grown) in
          let count : length sites ≡ length m.insns = length-map m.refs (plan.block code.max_locals) ∙ sound.refs in
          record {
            more = (more.0, h.entries ∙ more.1);
            wanted = h.entries ∙ ap (λ (q : List (Option Block)). with_wants pool (wants_of q)) (sym same)
                ∙ ap (λ (b : Bool). with_wants pool (if b then wants_of (sites_of plan m.max_locals m) else [])) (sym some);
            insns = λ ys grown. h.insns ∙ ap Ok (spliced_same ys grown ∙ sym insns_is);
            max_stack = h.max_stack ∙ ap (λ (n : ℕ). n + operands_needed) (sym old.max_stack) ∙ sym (ap (λ (b : Bool). if b then m.max_stack + operands_needed else m.max_stack) some);
            max_locals = h.max_locals ∙ ap (λ (n : ℕ). n + locals_of plan m) (sym old.max_locals) ∙ sym (ap (λ (b : Bool). if b then m.max_locals + locals_of plan m else m.max_locals) some);
            refs = λ ys grown.
                let all = parts_are_named kinds files others listing added new.pool fronts 0 m.insns m.refs sites refs_still h.fits (sites_name kinds plan good code.max_locals m.refs) (there ys grown) in
                subst (λ (q : List Insn). Each Names q (refs_woven plan (length files) m)) (sym insns_is) (subst (Each Names xs) (sym refs_is) all);
            handlers = λ ys grown.
                let below = spliced_below new.pool m.insns sites count h.fits in
                let within = spliced_within new.pool m.insns sites count in
                let starts = starts_of xs in
                let Handled : TableEntry → Handler → Type 0 = IsHandlerOf others listing new.pool starts in
                let moved = handlers_moved kinds files others listing added file.pool new.pool p longer (starts_of m.insns) fronts (length m.insns) xs below within code.table m.handlers sound.handlers fits.each old.handlers in
                let own = sites_caught others listing new.pool xs 0 sites h.fits (omega (arith, spliced_count new.pool m.insns sites count)) in
                let all = each_append Handled (own_entries starts 0 sites) (table_moved starts fronts m.handlers code.table) (own_handlers 0 sites) (map (at_fronts fronts) m.handlers) own moved in
                let table : w.made.code.table ≡ table_spliced starts sites m.handlers code.table = h.table ∙ ap (λ (q : List Insn). table_spliced (starts_of q) sites m.handlers code.table) (spliced_same ys grown) in
                let one : Each Handled w.made.code.table (handlers_woven plan m) =
                subst (λ (t : List TableEntry). Each Handled t (handlers_woven plan m)) (sym table) (subst (Each Handled (table_spliced starts sites m.handlers code.table)) (sym handlers_is) all) in
                subst (λ (q : List Insn). Each (IsHandlerOf others listing new.pool (starts_of q)) w.made.code.table (handlers_woven plan m)) (sym insns_is) one;
            out = λ ys grown wanted.
                let among : Contains (wants_of sites) wants.Exit = subst (λ (ws : List PoolWant). Contains ws wants.Exit) wants_is wanted in
                let exit = exit_there new.pool (all_of (IsThere new.pool) (wants_of sites) wants.Exit (there ys grown) among) in
                reference_told new.pool (place_in new.pool wants.Exit) way_out.class way_out.name way_out.desc exit;
            rows = h.rows;
            sound = λ ys grown. subst IsSoundCode (spliced_same ys grown ∙ sym insns_is) h.sound;
            room = λ ys grown woven.
                let stack = h.stack in
                let slots = h.slots in
                let few = h.sound.few in
                subst (HasRoom plan new.pool m) (sym same) (record {
                  stack = omega (arith, old.max_stack, stack);
                  locals = omega (arith, old.max_locals, slots);
                  insns = omega (arith, spliced_count w.entries m.insns sites count, few);
                  there = there ys grown;
                });
            body = λ ys grown. record {
              same = λ fails. absurd cc;
              name = h.name;
              attrs = λ woven.
                  let moved = start_moved (begins_at m.insns) (fronts_of sites) (starts_of xs) in
                  let following = begins.0 ++ more.0 in
                  let entries : w.entries ≡ file.pool ++ following =
                  h.entries ∙ more.1 ∙ ap (λ (q : List Const). q ++ more.0) begins.1 ∙ append_assoc file.pool begins.0 more.0 in
                  let stay : attrs_kept w.entries moved code.attrs ≡ attrs_kept new.pool moved code.attrs =
                  ap (λ (q : List Const). attrs_kept q moved code.attrs) entries ∙ lines_same file.pool following ys moved code.attrs attrs
                  ∙ ap (λ (q : List Const). attrs_kept (q ++ ys) moved code.attrs) (sym entries) ∙ ap (λ (q : List Const). attrs_kept q moved code.attrs) (sym grown) in
                  h.attrs ∙ ap (λ (q : List Insn). attrs_spliced w.entries m.insns q sites code.attrs) (spliced_same ys grown) ∙ stay
                  ∙ ap (λ (q : List Insn). attrs_spliced new.pool m.insns q sites code.attrs) (sym insns_is)
                  ∙ ap (λ (q : List (Option Block)). attrs_spliced new.pool m.insns (insns_woven plan new.pool m) q code.attrs) (sym same);
            };
          }
        where
          grown_by : List (Option Block) → List Const
          grown_by sites = grown pool sites
      by false none e =
          let same : WovenCode = record { made = as_it_is m code; entries = pool } in
          let insns_is : insns_woven plan new.pool m ≡ m.insns = ap (λ (b : Bool). if b then spliced new.pool m.insns (sites_of plan m.max_locals m) else m.insns) none in
          let refs_is : refs_woven plan (length files) m ≡ m.refs = ap (λ (b : Bool). if b then parts_named (length files) m.refs (sites_of plan m.max_locals m) else m.refs) none in
          let handlers_is : handlers_woven plan m ≡ m.handlers = ap (λ (b : Bool). if b then handlers_with (sites_of plan m.max_locals m) m.handlers else m.handlers) none in
          subst (IsWovenCode pool m code) (ok_is SpliceFault same w e) (record {
            more = ([], sym (append-nil pool));
            wanted = ap (λ (b : Bool). with_wants pool (if b then wants_of (sites_of plan m.max_locals m) else [])) (sym none);
            insns = λ ys grown. old.insns ∙ ap Ok (sym insns_is);
            max_stack = sym old.max_stack ∙ sym (ap (λ (b : Bool). if b then m.max_stack + operands_needed else m.max_stack) none);
            max_locals = sym old.max_locals ∙ sym (ap (λ (b : Bool). if b then m.max_locals + locals_of plan m else m.max_locals) none);
            refs = λ ys grown. subst (λ (q : List Insn). Each Names q (refs_woven plan (length files) m)) (sym insns_is) (subst (Each Names m.insns) (sym refs_is) refs_still);
            handlers = λ ys grown.
                let all = handlers_kept kinds files others listing added file.pool new.pool p longer (starts_of m.insns) code.table m.handlers fits.each old.handlers in
                subst (λ (q : List Insn). Each (IsHandlerOf others listing new.pool (starts_of q)) code.table (handlers_woven plan m)) (sym insns_is)
                (subst (Each (IsHandlerOf others listing new.pool (starts_of m.insns)) code.table) (sym handlers_is) all);
            out = λ ys grown wanted.
                let nothing : wants_woven plan m ≡ [] = ap (λ (b : Bool). if b then wants_of (sites_of plan m.max_locals m) else []) none in
                absurd (omega (arith, ap length nothing, wanted.1));
            rows = fits.count;
            sound = λ ys grown. subst IsSoundCode (sym insns_is) (record { few = sound.few; each = sound.insns; targets = sound.targets; ends = sound.ends });
            room = λ ys grown woven. absurd cc;
            body = λ ys grown. record { same = λ fails. refl; name = refl; attrs = λ woven. absurd cc };
          })

  coded_step : (state : ℕ) (class : List ℕ) (made : Members) (member : Member) (m : Method) (code : Code) (w : WovenCode) → FitsMember file.pool true member → IsSoundMethod m
      → method_linked files listing file made.number member ≡ Ok m → first_code member.attrs ≡ Some code → IsCoded files listing file member code m
      → Begins made.entries → code_woven plan state class made.number made.entries m code ≡ Ok w → IsStep made (code_put made member w) member m
  coded_step state class made member m code w fits sound linked first old begins e =
      let fits_code = (first_fits file.pool member.attrs code fits.attrs.each first).1 in
      let h = woven_is state class made.number made.entries m member code w sound old fits_code.table fits_code.attrs.each begins e in
      let one = one_code file.pool member (conditions_of files listing file made.number member m linked).0 in
      record {
        item = member_with member w.made.code;
        items = refl;
        number = refl;
        more = h.more;
        wanted = h.wanted;
        is = λ ys grown at.
            let item = member_with member w.made.code in
            let kept = with_kept member w.made.code in
            let name = (head_of new).name in
            let insns = insns_woven plan new.pool m in
            let refs = refs_woven plan (length files) m in
            let handlers = handlers_woven plan m in
            let other = with_code new item w.made.code insns refs handlers in
            let operands : operands_linked others listing name new.pool at insns ≡ Ok refs =
            linked_each (operand_at others listing name new.pool at) Names (λ i x t. ok_told name at i (operand_linked others listing new.pool x) t) 0 insns refs (h.refs ys grown) in
            let table : handlers_linked others listing name new.pool at (length insns) (starts_of insns) w.made.code.table ≡ Ok handlers =
            of_handlers others listing name new.pool at (length insns) (starts_of insns) w.made.code.table handlers (h.handlers ys grown) in
            let coded_is : code_linked others listing new at item w.made.code ≡ Ok other = code_links at item w.made.code insns refs handlers (h.insns ys grown) operands table in
            let body : body_linked others listing new at item (first_code item.attrs) ≡ Ok other = ap (body_linked others listing new at item) (first_with w.made.code code member.attrs first) ∙ coded_is in (
              other,
              links at made.number member item m other fits kept linked body,
              record {
                flags = sym old.flags;
                name = name_kept file.pool new.pool member item true longer fits kept ∙ sym old.name;
                desc = desc_kept file.pool new.pool member item true longer fits kept ∙ sym old.desc;
                max_stack = h.max_stack;
                max_locals = h.max_locals;
                insns = refl;
                handlers = refl;
                refs = refl;
                out = h.out ys grown;
              },
              sound_of others listing new at item w.made.code insns refs handlers (h.sound ys grown) h.rows operands table,
            );
        room = h.room;
        kept = λ ys grown. record { flags = refl; name = refl; desc = refl; attrs = attrs_with plan new.pool m w.made.code code member.attrs first one (h.body ys grown) };
      }
    where
      code_links : (at : ℕ) (item : Member) (code : Code) (insns : List Insn) (refs : List Target) (handlers : List Handler) → code_of code.code ≡ Ok insns
          → operands_linked others listing (head_of new).name new.pool at insns ≡ Ok refs
          → handlers_linked others listing (head_of new).name new.pool at (length insns) (starts_of insns) code.table ≡ Ok handlers
          → code_linked others listing new at item code ≡ Ok (with_code new item code insns refs handlers)
      code_links at item code insns refs handlers a b c =
          let class = (head_of new).name in
          let table_of : List Insn → Result (List Handler) LinkFault = λ xs. handlers_linked others listing class new.pool at (length xs) (starts_of xs) code.table in
          let ending : List Insn → List Target → Result Method LinkFault = λ xs ts. table_of xs >>= λ hs. Ok (with_code new item code xs ts hs) in
          ap (λ (r : Result (List Insn) CodeFault). read_of class at r >>= λ xs. operands_linked others listing class new.pool at xs >>= λ ts. ending xs ts) a
          ∙ ap (λ (r : Result (List Target) LinkFault). r >>= λ ts. ending insns ts) b ∙ ap (λ (r : Result (List Handler) LinkFault). r >>= λ hs. Ok (with_code new item code insns refs hs)) c

  pub one_step : (state : ℕ) (class : List ℕ) (made next : Members) (member : Member) (m : Method) → FitsMember file.pool true member → IsSoundMethod m
      → method_linked files listing file made.number member ≡ Ok m → Begins made.entries → body_woven plan state class made member (Some m) (first_code member.attrs) ≡ Ok next
      → IsStep made next member m
  one_step state class made next member m fits sound linked begins = by (first_code member.attrs) refl (conditions_of files listing file made.number member m linked).2
    where
      by : (c : Option Code) → first_code member.attrs ≡ c → body_linked files listing file made.number member c ≡ Ok m → body_woven plan state class made member (Some m) c ≡ Ok next → IsStep made next member m
      by None none body e =
          subst (λ (x : Members). IsStep made x member m) (ok_is SpliceFault (bare_put made member (Some m)) next e) (bare_step made member m fits linked none (ok_is LinkFault (bare file member) m body))
      by (Some code) first body e =
          let one = bind_ok (code_woven plan state class made.number made.entries m code) (λ w. Ok (code_put made member w)) next e in
          let old = coded files listing file made.number member code m body in
          subst (λ (x : Members). IsStep made x member m) (ok_is SpliceFault (code_put made member one.0) next one.2) (coded_step state class made member m code one.0 fits sound linked first old begins one.1)

-- What a handler, a method and a program that link are made of.
use Rattle.std.proofs.Common.{◌≡◌, ℕ, true, not, List, length, Option, Some, None, Result, Ok, Err, refl, ap, subst, ◌∙◌}
use Rattle.std.specs.Prelude.{slice_get, ok_or}
use Rattle.mon_base.specs.Reading.{◌>>=◌, need}
use Rattle.mon_base.proofs.Reading.{bind_ok, need_ok, ok_is, ok_or_ok}
use Rattle.class_codec.specs.declared.tree.ClassFile.{ClassFile}
use Rattle.class_codec.specs.declared.tree.Code.{Code}
use Rattle.class_codec.specs.declared.tree.Const.{Const}
use Rattle.class_codec.specs.declared.tree.Member.{Member}
use Rattle.class_codec.specs.declared.tree.TableEntry.{TableEntry}
use Rattle.insn_codec.specs.declared.fault.CodeFault.{CodeFault}
use Rattle.insn_codec.specs.declared.insn.Insn.{Insn}
use Rattle.insn_codec.specs.Reading.{code_of}
use Rattle.insn_codec.specs.Encoding.{starts_of}
use Rattle.api_listing.specs.declared.types.Listing.{Listing}
use Rattle.class_linking.specs.declared.fault.LinkFault.{LinkFault}
use Rattle.class_linking.specs.declared.fault.LinkFault.TheVariants as faults
use Rattle.bytecode_model.specs.declared.program.Handler.{Handler}
use Rattle.bytecode_model.specs.declared.program.Method.{Method}
use Rattle.bytecode_model.specs.declared.program.Program.{Program}
use Rattle.bytecode_model.specs.declared.program.Side.{Side}
use Rattle.bytecode_model.specs.declared.program.Target.{Target}
use Rattle.bytecode_model.specs.Conditions.{is_allowed, overrides, codes_of}
use Rattle.bytecode_model.specs.Heads.{head_of, heads_of, all_classes, name_of}
use Rattle.bytecode_model.specs.Operands.{literals_of}
use Rattle.bytecode_model.specs.Starts.{index_at, insn_at}
use Rattle.class_linking.specs.ClassConditions.{classes_linked}
use Rattle.class_linking.specs.Fault.{Linked}
use Rattle.class_linking.specs.Handlers.{caught, handler_linked, handlers_linked}
use Rattle.bytecode_model.specs.LeftMethods.{left_to_library}
use Rattle.class_linking.specs.Linking.{with_code, read_of, code_linked, body_linked, method_linked, each_method_linked, methods_linked, nothing_left}
use Rattle.class_linking.specs.Linking.{each_linked, classes_with, members_of, main_of, assembled}
use Rattle.class_linking.specs.Operands.{operands_linked}

-- ---- a handler

pub record HandlerParts (files : List ClassFile) (listing : Listing) (class : List ℕ) (pool : List Const) (method end : ℕ) (starts : List ℕ) (entry : TableEntry) (h : Handler) : Type 0 where
  pub from : insn_at starts entry.from ≡ Some h.from
  pub to : index_at starts entry.to ≡ Some h.to
  pub at : insn_at starts entry.at ≡ Some h.at
  pub catches : caught files listing class pool method end entry.class ≡ Ok h.class

pub handler_parts : (files : List ClassFile) (listing : Listing) (class : List ℕ) (pool : List Const) (method end : ℕ) (starts : List ℕ) (entry : TableEntry) (h : Handler)
    → handler_linked files listing class pool method end starts entry ≡ Ok h → HandlerParts files listing class pool method end starts entry h
handler_parts files listing class pool method end starts entry h e =
    let fault = faults.Operand class method end in
    let made : ℕ → ℕ → ℕ → Option (List ℕ) → Handler = λ from to at catches. record { from = from; to = to; at = at; class = catches } in
    let a = bind_ok (ok_or (insn_at starts entry.from) fault) (λ from. ok_or (index_at starts entry.to) fault >>= λ to. ok_or (insn_at starts entry.at) fault >>= λ at. caught files listing class pool method end entry.class >>= λ catches. Ok (made from to at catches)) h e in
    let b = bind_ok (ok_or (index_at starts entry.to) fault) (λ to. ok_or (insn_at starts entry.at) fault >>= λ at. caught files listing class pool method end entry.class >>= λ catches. Ok (made a.0 to at catches)) h a.2 in
    let d = bind_ok (ok_or (insn_at starts entry.at) fault) (λ at. caught files listing class pool method end entry.class >>= λ catches. Ok (made a.0 b.0 at catches)) h b.2 in
    let g = bind_ok (caught files listing class pool method end entry.class) (λ catches. Ok (made a.0 b.0 d.0 catches)) h d.2 in
    let is : made a.0 b.0 d.0 g.0 ≡ h = ok_is LinkFault (made a.0 b.0 d.0 g.0) h g.2 in
    subst (HandlerParts files listing class pool method end starts entry) is (record {
      from = ok_or_ok (insn_at starts entry.from) fault a.0 a.1;
      to = ok_or_ok (index_at starts entry.to) fault b.0 b.1;
      at = ok_or_ok (insn_at starts entry.at) fault d.0 d.1;
      catches = g.1;
    })

-- ---- a method

read_some : (class : List ℕ) (method : ℕ) (read : Result (List Insn) CodeFault) (insns : List Insn) → read_of class method read ≡ Ok insns → read ≡ Ok insns
read_some class method (Ok xs) insns e = cc
read_some class method (Err fault) insns e = absurd cc

-- What a code links to.
pub record CodeParts (files : List ClassFile) (listing : Listing) (file : ClassFile) (index : ℕ) (member : Member) (code : Code) (method : Method) : Type 0 where
  pub insns : List Insn
  pub refs : List Target
  pub handlers : List Handler
  pub read : code_of code.code ≡ Ok insns
  pub operands : operands_linked files listing (head_of file).name file.pool index insns ≡ Ok refs
  pub table : handlers_linked files listing (head_of file).name file.pool index (length insns) (starts_of insns) code.table ≡ Ok handlers
  pub is : with_code file member code insns refs handlers ≡ method

pub code_parts : (files : List ClassFile) (listing : Listing) (file : ClassFile) (index : ℕ) (member : Member) (code : Code) (method : Method) → code_linked files listing file index member code ≡ Ok method
    → CodeParts files listing file index member code method
code_parts files listing file index member code method e =
    let name = (head_of file).name in
    let table : List Insn → Linked (List Handler) = λ insns. handlers_linked files listing name file.pool index (length insns) (starts_of insns) code.table in
    let last : List Insn → List Target → Linked Method = λ insns refs. table insns >>= λ hs. Ok (with_code file member code insns refs hs) in
    let a = bind_ok (read_of name index (code_of code.code)) (λ insns. operands_linked files listing name file.pool index insns >>= last insns) method e in
    let b = bind_ok (operands_linked files listing name file.pool index a.0) (last a.0) method a.2 in
    let c = bind_ok (table a.0) (λ hs. Ok (with_code file member code a.0 b.0 hs)) method b.2 in
    record {
      insns = a.0;
      refs = b.0;
      handlers = c.0;
      read = read_some name index (code_of code.code) a.0 a.1;
      operands = b.1;
      table = c.1;
      is = ok_is LinkFault (with_code file member code a.0 b.0 c.0) method c.2;
    }

-- The conditions that a method meets, and its body.
pub record MethodParts (files : List ClassFile) (listing : Listing) (file : ClassFile) (index : ℕ) (member : Member) (method : Method) : Type 0 where
  pub allowed : is_allowed file.pool member ≡ true
  pub own : not (overrides (all_classes listing files) listing (head_of file).name file.pool member) ≡ true
  pub body : body_linked files listing file index member (slice_get (codes_of member) 0) ≡ Ok method

pub method_parts : (files : List ClassFile) (listing : Listing) (file : ClassFile) (index : ℕ) (member : Member) (method : Method) → method_linked files listing file index member ≡ Ok method
    → MethodParts files listing file index member method
method_parts files listing file index member method e =
    let class = (head_of file).name in
    let name = name_of file.pool member in
    let taken = overrides (all_classes listing files) listing class file.pool member in
    let body = body_linked files listing file index member (slice_get (codes_of member) 0) in
    let a = need_ok (is_allowed file.pool member) (faults.Method class name) (λ _. need (not taken) (faults.Overrides class name) >>= λ _. body) method e in
    let b = need_ok (not taken) (faults.Overrides class name) (λ _. body) method a.1 in
    record { allowed = a.0; own = b.0; body = b.1 }

-- ---- the program

abbrev Members : Type 0
Members = List (List Method) × List (List ℕ)

-- ---- the methods of a class

-- Each of the methods links, and none is left to the library.
pub record ClassParts (files : List ClassFile) (listing : Listing) (file : ClassFile) (methods : List Method) : Type 0 where
  pub each : each_method_linked files listing file ≡ Ok methods
  pub left : left_to_library files listing (head_of file) ≡ None

none_left : (class : List ℕ) (left : Option (List ℕ)) (x : Unit {0}) → nothing_left class left ≡ Ok x → left ≡ None
none_left class None x e = refl
none_left class (Some name) x e = absurd cc

pub class_parts : (files : List ClassFile) (listing : Listing) (file : ClassFile) (methods : List Method) → methods_linked files listing file ≡ Ok methods → ClassParts files listing file methods
class_parts files listing file methods e =
    let class = (head_of file).name in
    let left = left_to_library files listing (head_of file) in
    let a = bind_ok (each_method_linked files listing file) (λ (ms : List Method). nothing_left class left >>= λ _. Ok ms) methods e in
    let b = bind_ok (nothing_left class left) (λ _. Ok a.0) methods a.2 in
    subst (ClassParts files listing file) (ok_is LinkFault a.0 methods b.2) (record { each = a.1; left = none_left class left b.0 b.1 })

pub members_are : (files : List ClassFile) (listing : Listing) (members : Members) → members_of files listing ≡ Ok members → (each_linked files listing files ≡ Ok members.0) × (literals_of files ≡ members.1)
members_are files listing members e =
    let pair : List (List Method) → Members = λ methods. (methods, literals_of files) in
    let each = bind_ok (each_linked files listing files) (λ methods. Ok (pair methods)) members e in
    let is : pair each.0 ≡ members = ok_is LinkFault (pair each.0) members each.2 in
    (each.1 ∙ ap Ok (ap (λ (z : Members). z.0) is), ap (λ (z : Members). z.1) is)

abbrev pub program_with : List ClassFile → Listing → List (List Method) → List (List ℕ) → ℕ × ℕ → Program
program_with files listing methods literals begin = record { classes = classes_with files methods; listing = listing; literals = literals; main_class = begin.0; main_method = begin.1 }

pub record ProgramParts (files : List ClassFile) (listing : Listing) (main : List ℕ) (side : Side) (program : Program) : Type 0 where
  pub methods : List (List Method)
  pub begin : ℕ × ℕ
  pub good : classes_linked side (heads_of files) listing.classes files ≡ Ok tt
  pub each : each_linked files listing files ≡ Ok methods
  pub begins : main_of files main ≡ Some begin
  pub is : program_with files listing methods (literals_of files) begin ≡ program

pub program_parts : (files : List ClassFile) (listing : Listing) (main : List ℕ) (side : Side) (program : Program) → assembled files listing main side ≡ Ok program → ProgramParts files listing main side program
program_parts files listing main side program e =
    let made : Members → ℕ × ℕ → Program = λ members. program_with files listing members.0 members.1 in
    let ending : Members → Linked Program = λ members. ok_or (main_of files main) faults.NoMain >>= λ begin. Ok (made members begin) in
    let good = bind_ok (classes_linked side (heads_of files) listing.classes files) (λ _. members_of files listing >>= ending) program e in
    let members = bind_ok (members_of files listing) ending program good.2 in
    let begin = bind_ok (ok_or (main_of files main) faults.NoMain) (λ begin. Ok (made members.0 begin)) program members.2 in
    let are = members_are files listing members.0 members.1 in
    let is : made members.0 begin.0 ≡ program = ok_is LinkFault (made members.0 begin.0) program begin.2 in
    record {
      methods = members.0.0;
      begin = begin.0;
      good = good.1;
      each = are.0;
      begins = ok_or_ok (main_of files main) faults.NoMain begin.0 begin.1;
      is = ap (λ (texts : List (List ℕ)). program_with files listing members.0.0 texts begin.0) are.1 ∙ is;
    }

-- What holds of each program that links.
use Rattle.std.proofs.Common.{◌≡◌, ℕ, ◌+◌, ◌≤◌, ◌<◌, ◌^◌, Bool, true, false, cond, List, [], ◌∷◌, length, Option, Some, None, Ok, refl, subst, arith}
use Rattle.std.specs.Prelude.{◌==◌, option_and_then, nat_lt, if◌then◌else◌}
use Rattle.std.specs.List.{AllByRecursion}
use Rattle.std.proofs.lemmas.Bool.Decides.{nat_tests}
use Rattle.mon_base.proofs.Lists.{position_below}
use Rattle.class_codec.specs.declared.tree.Const.{Const}
use Rattle.class_codec.specs.declared.tree.Code.{Code}
use Rattle.class_codec.specs.declared.tree.TableEntry.{TableEntry}
use Rattle.class_codec.specs.declared.tree.Member.{Member}
use Rattle.class_codec.specs.declared.tree.ClassFile.{ClassFile}
use Rattle.class_codec.specs.Fits.{IsEncodable}
use Rattle.insn_codec.specs.declared.insn.Insn.{Insn}
use Rattle.insn_codec.specs.Fits as code
use Rattle.insn_codec.specs.Encoding.{size, starts_from, starts_of}
use Rattle.api_listing.specs.declared.types.Listing.{Listing}
use Rattle.api_listing.specs.Listing.{IsFew}
use Rattle.bytecode_model.specs.declared.program.Handler.{Handler}
use Rattle.bytecode_model.specs.declared.program.Method.{Method}
use Rattle.bytecode_model.specs.declared.program.Target.{Target}
use Rattle.class_linking.specs.Fault.{Linked, linked_from}
use Rattle.bytecode_model.specs.Heads.{head_of}
use Rattle.class_linking.specs.Operands.{operand_at, operands_linked}
use Rattle.bytecode_model.specs.Starts.{index_at, insn_at}
use Rattle.class_linking.specs.Handlers.{handler_linked, handlers_linked}
use Rattle.class_linking.specs.Linking.{with_code, method_linked, methods_linked, class_with, classes_with, members_of, main_of}
use Rattle.bytecode_model.specs.Sound.{IsWithin, IsSoundMethod, IsSoundClass, IsSound}
use Rattle.class_linking.proofs.Beginning.{main_has_code}
use Rattle.bytecode_model.proofs.Lists.{some_is}
use Rattle.class_linking.proofs.Loop.{both_linked, same_length, each_of}
use Rattle.class_linking.proofs.Parts.{class_parts, handler_parts, members_are}

-- ---- places

starts_len : (at : ℕ) (insns : List Insn) → length (starts_from at insns) ≡ length insns + 1
unfolding starts_from
starts_len at [] = refl
starts_len at (x ∷ xs) = omega (arith, starts_len (at + size at x) xs)

below_some : (i n j : ℕ) → cond (nat_lt (i + 1) n) (Some i) None ≡ Some j → j + 1 < n
below_some i n j e = by (nat_lt (i + 1) n) refl e where
  by : (b : Bool) → nat_lt (i + 1) n ≡ b → cond b (Some i) None ≡ Some j → j + 1 < n
  by true is e =
      let same : i ≡ j = some_is i j e in
      subst (λ (k : ℕ). k + 1 < n) same (grind (arith, nat_tests))
  by false is e = absurd cc

insn_below : (starts : List ℕ) (byte i : ℕ) → insn_at starts byte ≡ Some i → i + 1 < length starts
insn_below starts byte i e = by (index_at starts byte) e where
  by : (o : Option ℕ) → option_and_then (λ index. if nat_lt (index + 1) (length starts) then Some index else None) o ≡ Some i → i + 1 < length starts
  by None e = absurd cc
  by (Some j) e = below_some j (length starts) i e

-- ---- handlers

module _ (files : List ClassFile) (listing : Listing) (class : List ℕ) (pool : List Const) (method end : ℕ) (insns : List Insn) where
  handler_within : (entry : TableEntry) (h : Handler) → handler_linked files listing class pool method end (starts_of insns) entry ≡ Ok h → IsWithin (length insns) h
  handler_within entry h e =
      let starts = starts_of insns in
      let many : length starts ≡ length insns + 1 = starts_len 0 insns in
      let parts = handler_parts files listing class pool method end starts entry h e in
      let from : h.from + 1 < length starts = insn_below starts entry.from h.from parts.from in
      let to : h.to < 0 + length starts = position_below (λ start. start == entry.to) 0 starts h.to parts.to in
      let at : h.at + 1 < length starts = insn_below starts entry.at h.at parts.at in
      record { from = omega (arith, from, many); to = omega (arith, to, many); at = omega (arith, at, many) }

  pub handlers_within : (entries : List TableEntry) (hs : List Handler) → handlers_linked files listing class pool method end (starts_of insns) entries ≡ Ok hs
      → (length hs ≡ length entries) × AllByRecursion (IsWithin (length insns)) hs
  handlers_within entries hs e =
      let one : ℕ → TableEntry → Linked Handler = λ at. handler_linked files listing class pool method end (starts_of insns) in
      (same_length one 0 entries hs e, each_of one (IsWithin (length insns)) (λ at. handler_within) 0 entries hs e)

-- ---- a method

-- a method with code
pub sound_code : (files : List ClassFile) (listing : Listing) (file : ClassFile) (method end : ℕ) (member : Member) (given : Code) (insns : List Insn) (refs : List Target) (handlers : List Handler)
    → length insns ≤ 65535 → code.IsEncodable insns → length given.table < 2 ^ 16 → operands_linked files listing (head_of file).name file.pool method insns ≡ Ok refs
    → handlers_linked files listing (head_of file).name file.pool method end (starts_of insns) given.table ≡ Ok handlers → IsSoundMethod (with_code file member given insns refs handlers)
sound_code files listing file method end member given insns refs handlers few fits short operands table =
    let class = (head_of file).name in
    let h = handlers_within files listing class file.pool method end insns given.table handlers table in
    record {
      few = omega (arith, few);
      refs = same_length (operand_at files listing class file.pool method) 0 insns refs operands;
      insns = fits.each;
      targets = fits.targets;
      ends = fits.ends;
      few_handlers = omega (arith, short, h.0);
      handlers = h.1;
    }

-- ---- classes

abbrev pub SoundMethods : List Method → Type 0
SoundMethods methods = AllByRecursion IsSoundMethod methods

module _ (files : List ClassFile) (listing : Listing) where
  sound_class : (file : ClassFile) (methods : List Method) → IsEncodable file → methods_linked files listing file ≡ Ok methods → SoundMethods methods → IsSoundClass (class_with file methods)
  sound_class file methods fits made sound =
      let many = same_length (method_linked files listing file) 0 file.methods methods (class_parts files listing file methods made).each in
      record { fits = fits; name = refl; parent = refl; few = omega (arith, many, fits.methods.count); methods = sound }

  sound_classes : (at : ℕ) (some : List ClassFile) (methods : List (List Method)) → AllByRecursion IsEncodable some → linked_from (λ i. methods_linked files listing) at some ≡ Ok methods
      → AllByRecursion SoundMethods methods → AllByRecursion IsSoundClass (classes_with some methods)
  sound_classes at [] methods fit made sound = tt
  sound_classes at (file ∷ others) [] fit made sound = tt
  sound_classes at (file ∷ others) (first ∷ methods) fit made sound =
      let both = both_linked (λ i. methods_linked files listing) at file others first methods made in
      (sound_class file first fit.0 both.0 sound.0, sound_classes (at + 1) others methods fit.1 both.1 sound.1)

few_classes : (files : List ClassFile) (methods : List (List Method)) → length (classes_with files methods) ≤ length files
few_classes [] methods = omega arith
few_classes (file ∷ files) [] = omega arith
few_classes (file ∷ files) (first ∷ methods) = omega (arith, few_classes files methods)

-- ---- the program

pub is_sound : (files : List ClassFile) (listing : Listing) (main : List ℕ) (methods : List (List Method)) (literals : List (List ℕ)) (class method : ℕ) → length files ≤ 1001 → IsFew listing
    → AllByRecursion IsEncodable files → members_of files listing ≡ Ok (methods, literals) → AllByRecursion SoundMethods methods → main_of files main ≡ Some (class, method)
    → IsSound (record { classes = classes_with files methods; listing = listing; literals = literals; main_class = class; main_method = method })
is_sound files listing main methods literals class method few listed fit made sound begin =
    let each = (members_are files listing (methods, literals) made).0 in
    record {
      few = omega (arith, few, few_classes files methods);
      listed = listed;
      classes = sound_classes files listing 0 files methods fit each sound;
      main = main_has_code files listing main methods class method fit each begin;
    }

-- What the classes of a generated bundle link to.
use Rattle.std.proofs.Common.{◌≡◌, ℕ, ◌+◌, ◌≤◌, true, false, List, [], ◌∷◌, Ok, refl}
use Rattle.class_codec.specs.declared.tree.ClassFile.{ClassFile}
use Rattle.class_codec.specs.declared.tree.Code.{Code}
use Rattle.class_codec.specs.Pool.{class_name_at, utf8_at}
use Rattle.insn_codec.specs.declared.insn.Insn.{Insn}
use Rattle.insn_codec.specs.Encoding as insns
use Rattle.api_listing.specs.Descriptor.{after_first, arguments_at, class_at, element_at, method_type, result_of, type_at}
use Rattle.bytecode_model.specs.Conditions.{is_allowed, overrides}
use Rattle.bytecode_model.specs.Heads.{all_classes}
use Rattle.bytecode_model.specs.SearchOrder.{search_order}
use Rattle.class_linking.specs.Linking.{method_linked, methods_linked}
use Rattle.bundle_gen.specs.Generated.{files_of, init_code, init_method, main_class, main_code, main_method, run_code, run_method, thread_class, thread_name}
use Rattle.bundle_gen.specs.Linked.{init_refs, linked_init, linked_main, linked_run, main_refs, net_listing, run_refs}
use Rattle.bundle_gen.proofs.ShortCodes.{init_short, main_short, read_again, run_short}
use Rattle.bundle_linking.proofs.Codes.{init_named, main_named, run_named}
use Rattle.bundle_linking.proofs.Lists.{linked_more}
use Rattle.bundle_linking.proofs.Methods.{code_links, each_class, method_links, methods_link, run_in_none}
use Rattle.bundle_linking.proofs.Operands.{main_pool, thread_pool}

-- ---- conditions of methods

-- `<init>` of a thread is a method as it may be.
init_allowed : (index : ℕ) → is_allowed (thread_pool index) init_method ≡ true
unfolding utf8_at method_type after_first arguments_at result_of
init_allowed index = refl

-- So is its `run`.
run_allowed : (index state sites : ℕ) → is_allowed (thread_pool index) (run_method state sites) ≡ true
unfolding utf8_at method_type after_first arguments_at result_of
run_allowed index state sites = refl

-- So is `main`.
main_allowed : (n classes : ℕ) → is_allowed (main_pool n) (main_method classes) ≡ true
unfolding utf8_at method_type after_first arguments_at result_of type_at element_at class_at
main_allowed n classes = refl

-- `<init>` overrides nothing.
init_own : (files : List ClassFile) (index : ℕ) → overrides (all_classes net_listing files) net_listing (thread_name index) (thread_pool index) init_method ≡ false
unfolding utf8_at
init_own files index = refl

-- `run` overrides nothing of the library's.
run_own : (files : List ClassFile) (index state sites : ℕ) → overrides (all_classes net_listing files) net_listing (thread_name index) (thread_pool index) (run_method state sites) ≡ false
unfolding utf8_at
run_own files index state sites = run_in_none (thread_name index) (search_order (all_classes net_listing files) (thread_name index))

-- a code without an exception table, whose text `Code` has this place
abbrev code : ℕ → ℕ → List Insn → Code
code place max_stack list = record { name = place; max_stack = max_stack; max_locals = 1; code = insns.encoding list; table = []; attrs = [] }

-- ---- methods, in the program with so many threads, from this state on

module _ (state sites n : ℕ) (few : n ≤ 200) where
  -- what `<init>` links to
  init_links : (index from count : ℕ) → method_linked (files_of state n sites) net_listing (thread_class index from count) 0 init_method ≡ Ok linked_init
  unfolding thread_class class_name_at utf8_at
  init_links index from count =
      method_links (files_of state n sites) (thread_class index from count) 0 init_method linked_init (init_allowed index) (init_own (files_of state n sites) index)
      (code_links (files_of state n sites) (thread_class index from count) 0 init_method (code 10 1 init_code) init_code init_refs refl (read_again init_code init_short) (init_named state sites n few index))

  -- what `run` links to
  run_links : (index from count : ℕ) → method_linked (files_of state n sites) net_listing (thread_class index from count) (0 + 1) (run_method from count) ≡ Ok (linked_run from count)
  unfolding thread_class class_name_at utf8_at
  run_links index from count =
      method_links (files_of state n sites) (thread_class index from count) (0 + 1) (run_method from count) (linked_run from count) (run_allowed index from count) (run_own (files_of state n sites) index from count)
      (code_links (files_of state n sites) (thread_class index from count) (0 + 1) (run_method from count) (code 10 1 (run_code from count)) (run_code from count) (run_refs from count) refl
      (read_again (run_code from count) (run_short from count)) (run_named state sites n few index from count))

  -- what `main` links to
  main_links : method_linked (files_of state n sites) net_listing (main_class n) 0 (main_method n) ≡ Ok (linked_main n)
  unfolding main_class class_name_at utf8_at
  main_links =
      method_links (files_of state n sites) (main_class n) 0 (main_method n) (linked_main n) (main_allowed n n) refl
      (code_links (files_of state n sites) (main_class n) 0 (main_method n) (code 7 2 (main_code n)) (main_code n) (main_refs n) refl (read_again (main_code n) (main_short n few)) (main_named state sites n few))

  -- ---- classes

  -- the methods of the class of a thread
  pub thread_links : (index from count : ℕ) → methods_linked (files_of state n sites) net_listing (thread_class index from count) ≡ Ok (linked_init ∷ linked_run from count ∷ [])
  unfolding thread_class
  thread_links index from count =
      methods_link (files_of state n sites) (thread_class index from count) (linked_init ∷ linked_run from count ∷ [])
      (linked_more (method_linked (files_of state n sites) net_listing (thread_class index from count)) 0 init_method (run_method from count ∷ []) linked_init (linked_run from count ∷ [])
      (init_links index from count)
      (linked_more (method_linked (files_of state n sites) net_listing (thread_class index from count)) (0 + 1) (run_method from count) [] (linked_run from count) []
      (run_links index from count) refl))
      refl (each_class 0 state sites n n)

  -- those of the main class
  pub main_class_links : methods_linked (files_of state n sites) net_listing (main_class n) ≡ Ok (linked_main n ∷ [])
  unfolding main_class
  main_class_links =
      methods_link (files_of state n sites) (main_class n) (linked_main n ∷ [])
      (linked_more (method_linked (files_of state n sites) net_listing (main_class n)) 0 (main_method n) [] (linked_main n) [] main_links refl)
      refl (each_class 0 state sites n n)

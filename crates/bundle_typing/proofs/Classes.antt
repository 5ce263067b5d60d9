-- Each method of each class of a generated program can be typed.
use Rattle.std.proofs.Common.{◌≡◌, ℕ, zero, suc, ◌+◌, ◌++◌, List, [], ◌∷◌, length, Some, subst}
use Rattle.std.specs.Prelude.{slice_get}
use Rattle.std.specs.List.{AllByRecursion}
use Rattle.bundle_gen.specs.Draws.{state_after}
use Rattle.bytecode_model.specs.declared.program.LinkedClass.{LinkedClass}
use Rattle.bytecode_model.specs.declared.program.Method.{Method}
use Rattle.bytecode_model.specs.declared.program.Program.{Program}
use Rattle.bundle_gen.specs.Linked.{generated_program, linked_from, linked_init, linked_main, linked_run, linked_starter, linked_thread}
use Rattle.bundle_typing.specs.Laws.{EachCanBeMet}
use Rattle.bundle_typing.specs.Laws.{CanBeMet}
use Rattle.bundle_typing.proofs.Starter.{main_can}
use Rattle.bundle_typing.proofs.Threads.{init_can, run_can}

-- What holds of each element holds of the one at an index.
all_at : {X : Type 0} (P : X → Type 0) (xs : List X) (index : ℕ) (x : X) → AllByRecursion P xs → slice_get xs index ≡ Some x → P x
all_at P [] index x all h = absurd cc
all_at P (y ∷ xs) zero x all h = let same : y ≡ x = cc in subst P same all.0
all_at P (y ∷ xs) (suc index) x all h = all_at P xs index x all.1 h

module _ (program : Program) where
  -- Each method of the class can be typed, wherever the class stands.
  AllCan : LinkedClass → Type 0
  AllCan class = (own index : ℕ) (method : Method) → slice_get class.methods index ≡ Some method → CanBeMet program own class method (length method.insns)

  -- So it is of a thread's class,
  thread_can : (place state sites : ℕ) → AllCan (linked_thread place state sites)
  unfolding AllCan linked_thread
  thread_can place state sites own zero method h =
      let same : linked_init ≡ method = cc in
      subst (λ (m : Method). CanBeMet program own (linked_thread place state sites) m (length m.insns)) same (init_can program own place state sites)
  thread_can place state sites own (suc zero) method h =
      let same : linked_run state sites ≡ method = cc in
      subst (λ (m : Method). CanBeMet program own (linked_thread place state sites) m (length m.insns)) same (run_can program own place state sites)
  thread_can place state sites own (suc (suc index)) method h = absurd cc

  -- and of the class that begins the threads.
  starter_can : (classes : ℕ) → AllCan (linked_starter classes)
  unfolding AllCan linked_starter
  starter_can classes own zero method h =
      let same : linked_main classes ≡ method = cc in
      subst (λ (m : Method). CanBeMet program own (linked_starter classes) m (length m.insns)) same (main_can program own classes)
  starter_can classes own (suc index) method h = absurd cc

  -- So it is of all these classes,
  classes_can : (n place state sites classes : ℕ) → AllByRecursion AllCan (linked_from place state sites n ++ linked_starter classes ∷ [])
  unfolding linked_from
  classes_can zero place state sites classes = (starter_can classes, tt)
  classes_can (suc n) place state sites classes = (thread_can place state sites, classes_can n (place + 1) (state_after state sites) sites classes)

  -- at each place among them.
  each_can : (seed classes sites own index : ℕ) (class : LinkedClass) (method : Method)
      → slice_get (linked_from 0 seed sites classes ++ linked_starter classes ∷ []) own ≡ Some class → slice_get class.methods index ≡ Some method
      → CanBeMet program own class method (length method.insns)
  unfolding AllCan
  each_can seed classes sites own index class method there here =
      all_at AllCan (linked_from 0 seed sites classes ++ linked_starter classes ∷ []) own class (classes_can classes 0 seed sites classes) there own index method here

-- So it is of the program of a bundle.
pub bundle_can : (seed classes sites : ℕ) → EachCanBeMet (generated_program seed classes sites)
unfolding generated_program
bundle_can seed classes sites own index class method there here = each_can (generated_program seed classes sites) seed classes sites own index class method there here

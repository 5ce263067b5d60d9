-- How many class files are woven, and what files link to of which there are few enough.
use Rattle.std.proofs.Common.{◌≡◌, ℕ, ◌+◌, ◌≤◌, List, [], ◌∷◌, length, Ok, sym, ap, ◌∙◌, inl, inr, arith, length-append}
use Rattle.std.specs.Prelude.{nat_lt, not}
use Rattle.std.proofs.lemmas.Bool.{cases_Bool, ltb-true}
use Rattle.mon_base.specs.Reading.{◌>>=◌, need}
use Rattle.mon_base.proofs.Reading.{bind_ok, need_ok, ok_is}
use Rattle.api_listing.specs.declared.types.Listing.{Listing}
use Rattle.bytecode_model.specs.declared.program.LinkedClass.{LinkedClass}
use Rattle.bytecode_model.specs.declared.program.Program.{Program}
use Rattle.bytecode_model.specs.declared.program.Side.{Side}
use Rattle.bytecode_model.specs.Files.{max_files}
use Rattle.class_codec.specs.declared.tree.ClassFile.{ClassFile}
use Rattle.class_linking.specs.declared.fault.LinkFault.TheVariants as faults
use Rattle.class_linking.specs.Linking.{assembled, linked}
use Rattle.conspec_tree.specs.declared.types.Var.{Var}
use Rattle.offset_patch.specs.declared.fault.SpliceFault.{SpliceFault}
use Rattle.offset_patch.specs.Plan.{Plan}
use Rattle.class_weaving.specs.declared.woven.Woven.{Woven}
use Rattle.class_weaving.specs.Woven.{class_woven, classes_woven, file_put, file_with, members_woven, none_made, nothing_woven, state_put, woven}
use Rattle.class_weaving.specs.State.{state_file}

-- ---- woven files

module _ (plan : Plan) where
  classes_counted : (state : ℕ) (before last : Woven) (classes : List LinkedClass) → classes_woven plan state before classes ≡ Ok last
      → length last.files ≡ length before.files + length classes
  classes_counted state before last [] e = ap (λ (w : Woven). length w.files) (sym (ok_is SpliceFault before last e)) ∙ omega arith
  classes_counted state before last (class ∷ classes) e =
      let one = bind_ok (class_woven plan state before class) (λ next. classes_woven plan state next classes) last e in
      let members = members_woven plan state class (none_made class.file.pool) class.file.methods in
      let made = bind_ok members (λ made. Ok (file_put before class made)) one.0 one.1 in
      let file : ClassFile = file_with class.file made.0.entries made.0.items in
      let first : length one.0.files ≡ length before.files + 1 =
      ap (λ (w : Woven). length w.files) (sym (ok_is SpliceFault (file_put before class made.0) one.0 made.2))
      ∙ length-append before.files (file ∷ []) in
      classes_counted state one.0 last classes one.2 ∙ omega (arith, first)

  -- One class is added.
  pub files_counted : (vars : List Var) (program : Program) (made : Woven) → woven program plan vars ≡ Ok made
      → length made.files ≡ length program.classes + 1
  files_counted vars program made e =
      let state = length program.classes in
      let own = bind_ok (classes_woven plan state nothing_woven program.classes) (λ w. Ok (state_put vars w)) made e in
      ap (λ (w : Woven). length w.files) (sym (ok_is SpliceFault (state_put vars own.0) made own.2))
      ∙ length-append own.0.files (state_file vars ∷ []) ∙ omega (arith, classes_counted state nothing_woven own.0 program.classes own.1)

-- ---- linking

module _ (files : List ClassFile) (listing : Listing) (main : List ℕ) (side : Side) (program : Program) where
  pub assembled_of : linked files listing main side ≡ Ok program → assembled files listing main side ≡ Ok program
  assembled_of e =
      let fewer = not (nat_lt max_files (length files)) in
      (need_ok fewer (faults.TooMany (length files)) (λ few. assembled files listing main side) program e).1

  pub linked_of : length files ≤ max_files → assembled files listing main side ≡ Ok program → linked files listing main side ≡ Ok program
  linked_of few e =
      elim (cases_Bool (nat_lt max_files (length files))) [
        | inl is ↦ absurd (omega (arith, few, ltb-true _ _ is))
        | inr fails ↦ ap (λ b. need (not b) (faults.TooMany (length files)) >>= λ few. assembled files listing main side) fails ∙ e
      ]

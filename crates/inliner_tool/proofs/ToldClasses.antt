-- What is read of class files that the store tells, without a fault.
use Rattle.std.proofs.Common.{◌≡◌, ℕ, List, [], ◌∷◌, ◌++◌, Ok, Err, refl, sym, ap, subst, ◌∙◌}
use Rattle.std.specs.Prelude.{IsSome}
use Rattle.class_codec.specs.declared.tree.ClassFile.{ClassFile}
use Rattle.mon_store.specs.Store.{Files, Rose}
use Rattle.command_inputs.specs.declared.files.Stop.{Stop}
use Rattle.command_inputs.specs.declared.files.Stop.TheVariants as stops
use Rattle.command_inputs.specs.declared.forms.ReadClass.{ReadClass}
use Rattle.command_inputs.specs.declared.named.ReadClasses.{ReadClasses as Classes}
use Rattle.command_inputs.specs.Forms.{Count}
use Rattle.command_inputs.specs.Kinds.{class_form}
use Rattle.command_inputs.specs.Named.{AreClasses, ReadsClasses, StopsAmong, told_sum}
use Rattle.inliner_tool.proofs.Told.{MayRead, may_read, stops_once, tree_once}

-- The files of these names are these class files, with so many bytes in all, or for want of memory none.
abbrev pub MayClasses : Files → List (List ℕ) → List ClassFile → ℕ → Type 0
MayClasses files [] [] total = total ≡ 0
MayClasses files [] (class ∷ classes) total = ⊥
MayClasses files (name ∷ names) [] total = ⊥
MayClasses files (name ∷ names) (class ∷ classes) total =
    (len : ℕ) × (rest : ℕ) × (total ≡ told_sum len rest) × MayRead files name class_form (record { file = class; len = len }) × MayClasses files names classes rest

pub may_classes : (files : Files) (names : List (List ℕ)) (classes : List ClassFile) (total : ℕ) → AreClasses files names classes total → MayClasses files names classes total
may_classes files [] [] total are = are
may_classes files [] (class ∷ classes) total are = absurd are
may_classes files (name ∷ names) [] total are = absurd are
may_classes files (name ∷ names) (class ∷ classes) total are =
    (are.0, are.1, are.2, may_read files name class_form (record { file = class; len = are.0 }) are.3, may_classes files names classes are.1 are.4)

-- one class file among those that are read
record OneRead (files : Files) (name : List ℕ) : Type 0 where
  class : ReadClass
  read : MayRead files name class_form class

one_of : (files : Files) (before : List (List ℕ)) (name : List ℕ) (later : List (List ℕ)) (classes : List ClassFile) (total : ℕ) → MayClasses files (before ++ name ∷ later) classes total → OneRead files name
one_of files [] name later [] total are = absurd are
one_of files [] name later (class ∷ classes) total are = record { class = record { file = class; len = are.0 }; read = are.3 }
one_of files (first ∷ before) name later [] total are = absurd are
one_of files (first ∷ before) name later (class ∷ classes) total are = one_of files before name later classes are.1 are.4

module _ (files : Files) (count : Count) (told : IsSome files) (no_rise : Rose count.before count.now → ⊥) where
  -- what else the files are read as is the same
  pub classes_once : (names : List (List ℕ)) (cs ds : List ClassFile) (m n : ℕ) → AreClasses files names cs m → MayClasses files names ds n → (cs ≡ ds) × (m ≡ n)
  classes_once [] [] [] m n a b = (refl, a ∙ sym b)
  classes_once [] [] (y ∷ ds) m n a b = absurd b
  classes_once [] (x ∷ cs) ds m n a b = absurd a
  classes_once (name ∷ names) [] ds m n a b = absurd a
  classes_once (name ∷ names) (x ∷ cs) [] m n a b = absurd b
  classes_once (name ∷ names) (x ∷ cs) (y ∷ ds) m n a b =
      let first : ReadClass = record { file = x; len = a.0 } in
      let second : ReadClass = record { file = y; len = b.0 } in
      let same : first ≡ second = tree_once files count name class_form second told b.3 no_rise first a.3 in
      let file : x ≡ y = ap (λ (c : ReadClass). c.file) same in
      let len : a.0 ≡ b.0 = ap (λ (c : ReadClass). c.len) same in
      let others = classes_once names cs ds a.1 b.1 a.4 b.4 in
      let sum : told_sum a.0 a.1 ≡ told_sum b.0 b.1 = rw (len, others.1) refl in
      (rw (file, others.0) refl, a.2 ∙ sum ∙ sym b.2)

  -- the class files that are read are these
  pub same_classes : (names : List (List ℕ)) (classes known : Classes) → ReadsClasses files count names (Ok classes) → MayClasses files names known.files known.total → classes ≡ known
  same_classes names classes known read may =
      let both = classes_once names classes.files known.files classes.total known.total read may in
      rw (← both.0, ← both.1) refl

  -- only memory stops the reading of them
  among : (names : List (List ℕ)) (classes : List ClassFile) (total : ℕ) (stop : Stop) → MayClasses files names classes total → StopsAmong files count names stop → stop ≡ stops.Memory
  among names classes total stop are stops =
      let one = one_of files stops.before stops.name stops.later classes total (subst (λ (ns : List (List ℕ)). MayClasses files ns classes total) stops.whole are) in
      stops_once files count stops.name class_form one.class told one.read no_rise stop stops.stops

  pub classes_stop : (names : List (List ℕ)) (classes : List ClassFile) (total : ℕ) (stop : Stop) → MayClasses files names classes total → ReadsClasses files count names (Err stop) → stop ≡ stops.Memory
  classes_stop names classes total (stops.Input bad fault) are reads = among names classes total (stops.Input bad fault) are reads
  classes_stop names classes total (stops.Unread bad) are reads = among names classes total (stops.Unread bad) are reads
  classes_stop names classes total stops.Memory are reads = refl

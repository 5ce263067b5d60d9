-- What is read of told files, without a fault of the store, is what they are.
use Rattle.std.proofs.Common.{◌≡◌, inl, inr, ℕ, ◌<◌, ◌≤◌, nat_lt, Bool, true, false, cond, List, [], ◌∷◌, ◌++◌, length, Option, Some, None, Result, Ok, Err, refl, sym, ap, subst, ◌∙◌, arith}
use Rattle.std.proofs.lemmas.Bool.Decides.{nat_tests}
use Rattle.std.specs.Prelude.{IsSomeAnd}
use Rattle.class_codec.specs.declared.tree.ClassFile.{ClassFile}
use Rattle.mon_base.specs.Reading.{◌>>=◌}
use Rattle.mon_store.specs.Store.{Rose}
use Rattle.command_inputs.specs.declared.fault.InputFault.{InputFault}
use Rattle.command_inputs.specs.declared.fault.InputFault.TheVariants as faults
use Rattle.command_inputs.specs.declared.files.Stop.{Stop}
use Rattle.command_inputs.specs.declared.files.Stop.TheVariants as stops
use Rattle.command_inputs.specs.declared.forms.ReadClass.{ReadClass}
use Rattle.command_inputs.specs.declared.named.ReadClasses.{ReadClasses as Classes}
use Rattle.command_inputs.specs.Contents.{Contents, bytes_read, classes_read, file_read, named, stop_at}
use Rattle.command_inputs.specs.Forms.{Count, Form, IsNoMemory, IsRead, IsRefused, ReadsForm, Then, Yields}
use Rattle.command_inputs.specs.Kinds.{class_form}
use Rattle.command_inputs.specs.Named.{AreClasses, ReadsClasses, StopsAmong, told_sum}
use Rattle.command_inputs.specs.Told.{IsSo, ToldAreRead}

-- ---- one thing after the other

then_so : {A B : Type 0} (First : Result A Stop → Type 0) (Second : A → Result B Stop → Type 0) (f : Result A Stop) (g : A → Result B Stop) → ((r : Result A Stop) → First r → IsSo f r)
    → ((a : A) (r : Result B Stop) → Second a r → IsSo (g a) r) → (r : Result B Stop) → Then First Second r → IsSo (f >>= g) r
then_so {A = A} {B = B} First Second f g first second (Ok b) (a, one, two) = ap (λ (x : Result A Stop). x >>= g) (first (Ok a) one) ∙ second a (Ok b) two
then_so {A = A} {B = B} First Second f g first second (Err (stops.Input bad fault)) (inl one) = ap (λ (x : Result A Stop). x >>= g) (first (Err (stops.Input bad fault)) one)
then_so {A = A} {B = B} First Second f g first second (Err (stops.Unread bad)) (inl one) = ap (λ (x : Result A Stop). x >>= g) (first (Err (stops.Unread bad)) one)
then_so {A = A} {B = B} First Second f g first second (Err stops.Memory) told = tt
then_so {A = A} {B = B} First Second f g first second (Err (stops.Input bad fault)) (inr (a, one, two)) =
    ap (λ (x : Result A Stop). x >>= g) (first (Ok a) one) ∙ second a (Err (stops.Input bad fault)) two
then_so {A = A} {B = B} First Second f g first second (Err (stops.Unread bad)) (inr (a, one, two)) =
    ap (λ (x : Result A Stop). x >>= g) (first (Ok a) one) ∙ second a (Err (stops.Unread bad)) two

yields_so : {A : Type 0} (a : A) (r : Result A Stop) → Yields a r → IsSo (Ok a) r
yields_so a (Ok b) is = ap Ok (sym is)
yields_so a (Err stop) none = absurd none

-- ---- one file

module _ {A : Type 0} (name : List ℕ) (form : Form A) where
  -- a file that is not too long is read
  short_read : (o : Option (List ℕ)) (text : List ℕ) → IsSomeAnd o (λ bytes. text ≡ bytes) → length text ≤ form.limit → bytes_read name form o ≡ named name (form.reads text)
  short_read None text told short = absurd told
  short_read (Some bytes) text told short = by (nat_lt form.limit (length bytes)) refl
    where
      by : (b : Bool) → nat_lt form.limit (length bytes) ≡ b → cond b (Err (stops.Input name (faults.TooLong (length bytes)))) (named name (form.reads bytes)) ≡ named name (form.reads text)
      by true above =
          let small : length bytes ≤ form.limit = subst (λ (t : List ℕ). length t ≤ form.limit) told short in
          absurd (grind (arith, nat_tests))
      by false within = ap (λ (t : List ℕ). named name (form.reads t)) (sym told)

  long_read : (o : Option (List ℕ)) (len : ℕ) → IsSomeAnd o (λ bytes. len ≡ length bytes) → form.limit < len → bytes_read name form o ≡ Err (stops.Input name (faults.TooLong len))
  long_read None len told above = absurd told
  long_read (Some bytes) len told above = by (nat_lt form.limit (length bytes)) refl
    where
      by : (b : Bool) → nat_lt form.limit (length bytes) ≡ b → cond b (Err (stops.Input name (faults.TooLong (length bytes)))) (named name (form.reads bytes)) ≡ Err (stops.Input name (faults.TooLong len))
      by true over = ap (λ (n : ℕ). Err (stops.Input name (faults.TooLong n))) (sym told)
      by false within =
          let large : form.limit < length bytes = subst (λ (n : ℕ). form.limit < n) told above in
          absurd (grind (arith, nat_tests))

  -- a fault that is not want of memory is of the name
  stops_so : (fault : InputFault) → IsNoMemory fault → stop_at name fault ≡ stops.Input name fault
  stops_so (faults.TooLong len) other = refl
  stops_so (faults.Listing fault) other = refl
  stops_so (faults.Policy fault) other = refl
  stops_so (faults.Certificate fault) other = refl
  stops_so (faults.Class fault) other = refl
  stops_so (faults.Record fault) other = refl
  stops_so faults.Memory other = absurd other

  module _ (contents : Contents) (count : Count) (no_rise : Rose count.before count.now → ⊥) where
    refused_so : (fault : InputFault) → IsNoMemory fault → IsRefused (Some contents) name form fault → file_read contents name form ≡ Err (stops.Input name fault)
    refused_so fault other (inl long) = long_read (contents name) long.len long.told long.above ∙ ap (λ (f : InputFault). Err (stops.Input name f)) (sym long.says)
    refused_so fault other (inr wrong) =
        short_read (contents name) wrong.text wrong.told wrong.short ∙ ap (named name) wrong.reads ∙ ap Err (stops_so fault other)

    pub file_so : (r : Result A Stop) → ReadsForm (Some contents) count name form r → IsSo (file_read contents name form) r
    file_so (Ok tree) read = short_read (contents name) read.text read.told read.short ∙ ap (named name) read.reads
    file_so (Err (stops.Input bad fault)) (same, refused, other) = refused_so fault other refused ∙ ap (λ (n : List ℕ). Err (stops.Input n fault)) (sym same)
    file_so (Err (stops.Unread bad)) (same, inl caused) = absurd (no_rise caused.rose)
    file_so (Err (stops.Unread bad)) (same, inr lacks) = ap (bytes_read name form) lacks ∙ ap (λ (n : List ℕ). Err (stops.Unread n)) (sym same)
    file_so (Err stops.Memory) read = tt

-- ---- class files

module _ (contents : Contents) (count : Count) (no_rise : Rose count.before count.now → ⊥) where
  read_once : (name : List ℕ) (class : ClassFile) (len : ℕ) → IsRead (Some contents) name class_form (Ok (record { file = class; len = len }))
      → file_read contents name class_form ≡ Ok (record { file = class; len = len })
  read_once name class len read = file_so name class_form contents count no_rise (Ok (record { file = class; len = len })) read

  abbrev one_more : List ℕ → List (List ℕ) → ReadClass → Result Classes Stop
  one_more name names class = classes_read contents names >>= (λ others. Ok (record { files = class.file ∷ others.files; total = told_sum class.len others.total }))

  all_so : (names : List (List ℕ)) (files : List ClassFile) (total : ℕ) → AreClasses (Some contents) names files total → classes_read contents names ≡ Ok (record { files = files; total = total })
  all_so [] [] total are = ap (λ (n : ℕ). Ok (record { files = []; total = n })) (sym are)
  all_so [] (class ∷ files) total are = absurd are
  all_so (name ∷ names) [] total are = absurd are
  all_so (name ∷ names) (class ∷ files) total (len, rest, sum, read, others) =
      ap (λ (x : Result ReadClass Stop). x >>= one_more name names) (read_once name class len read)
      ∙ ap (λ (x : Result Classes Stop). x >>= (λ others. Ok (record { files = class ∷ others.files; total = told_sum len others.total }))) (all_so names files rest others)
      ∙ ap (λ (n : ℕ). Ok (record { files = class ∷ files; total = n })) (sym sum)

  among_so : (before : List (List ℕ)) (name : List ℕ) (later : List (List ℕ)) (files : List ClassFile) (total : ℕ) (stop : Stop) → AreClasses (Some contents) before files total
      → file_read contents name class_form ≡ Err stop → classes_read contents (before ++ name ∷ later) ≡ Err stop
  among_so [] name later files total stop are fails = ap (λ (x : Result ReadClass Stop). x >>= one_more name later) fails
  among_so (first ∷ before) name later [] total stop are fails = absurd are
  among_so (first ∷ before) name later (class ∷ files) total stop (len, rest, sum, read, others) fails =
      ap (λ (x : Result ReadClass Stop). x >>= one_more first (before ++ name ∷ later)) (read_once first class len read)
      ∙ ap (λ (x : Result Classes Stop). x >>= (λ others. Ok (record { files = class ∷ others.files; total = told_sum len others.total }))) (among_so before name later files rest stop others fails)

  stopped_so : (names : List (List ℕ)) (stop : Stop) → (among : StopsAmong (Some contents) count names stop) → file_read contents among.name class_form ≡ Err stop → classes_read contents names ≡ Err stop
  stopped_so names stop among fails = ap (classes_read contents) among.whole ∙ among_so among.before among.name among.later among.classes among.total stop among.read fails

  pub classes_so : (names : List (List ℕ)) (r : Result Classes Stop) → ReadsClasses (Some contents) count names r → IsSo (classes_read contents names) r
  classes_so names (Ok classes) are = all_so names classes.files classes.total are
  classes_so names (Err (stops.Input bad fault)) among = stopped_so names (stops.Input bad fault) among (file_so among.name class_form contents count no_rise (Err (stops.Input bad fault)) among.stops)
  classes_so names (Err (stops.Unread bad)) among = stopped_so names (stops.Unread bad) among (file_so among.name class_form contents count no_rise (Err (stops.Unread bad)) among.stops)
  classes_so names (Err stops.Memory) read = tt

-- ---- the files of each command

pub told_are_read : ToldAreRead
told_are_read = record {
  check = λ contents count named result no_rise.
      then_so _ _ _ _ (file_so named.listing _ contents count no_rise) (λ listing.
      then_so _ _ _ _ (file_so named.policy _ contents count no_rise) (λ policy.
      then_so _ _ _ _ (file_so named.certificate _ contents count no_rise) (λ certificate.
      then_so _ _ _ _ (classes_so contents count no_rise named.classes) (λ classes. yields_so _)))) result;
  show = λ contents count named result no_rise.
      then_so _ _ _ _ (file_so named.listing _ contents count no_rise) (λ listing.
      then_so _ _ _ _ (classes_so contents count no_rise named.classes) (λ classes. yields_so _)) result;
  policy = λ contents count named result no_rise.
      then_so _ _ _ _ (file_so named.listing _ contents count no_rise) (λ listing.
      then_so _ _ _ _ (file_so named.policy _ contents count no_rise) (λ policy.
      then_so _ _ _ _ (file_so named.recorded _ contents count no_rise) (λ recorded. yields_so _))) result;
  race = λ contents count named result no_rise.
      then_so _ _ _ _ (file_so named.listing _ contents count no_rise) (λ listing.
      then_so _ _ _ _ (file_so named.policy _ contents count no_rise) (λ policy. yields_so _)) result;
  inline = λ contents count named result no_rise.
      then_so _ _ _ _ (file_so named.listing _ contents count no_rise) (λ listing.
      then_so _ _ _ _ (file_so named.policy _ contents count no_rise) (λ policy.
      then_so _ _ _ _ (classes_so contents count no_rise named.classes) (λ classes. yields_so _))) result;
  replay = λ contents count named result no_rise.
      then_so _ _ _ _ (file_so named.listing _ contents count no_rise) (λ listing.
      then_so _ _ _ _ (file_so named.recorded _ contents count no_rise) (λ recorded.
      then_so _ _ _ _ (classes_so contents count no_rise named.classes) (λ classes. yields_so _))) result;
  lift = λ contents count named result no_rise.
      then_so _ _ _ _ (file_so named.listing _ contents count no_rise) (λ listing.
      then_so _ _ _ _ (file_so named.policy _ contents count no_rise) (λ policy.
      then_so _ _ _ _ (file_so named.recorded _ contents count no_rise) (λ recorded.
      then_so _ _ _ _ (classes_so contents count no_rise named.classes) (λ classes. yields_so _)))) result;
}

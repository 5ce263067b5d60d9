-- What stands in the files once outputs are written.
use Rattle.std.proofs.Common.{◌≡◌, ◌≢◌, ℕ, zero, suc, ◌<◌, Bool, true, false, cond, List, [], ◌∷◌, ◌++◌, map, Some, None, refl, sym, ap, subst, ◌∙◌, append_assoc, arith}
use Rattle.std.specs.Prelude.{IsSome, IsSomeAnd, bytes_eq, codes, get_or, reverse, slice_get}
use Rattle.std.specs.List.{AllByRecursion}
use Rattle.std.proofs.lemmas.List.{append_cancel_left, append_cancel_right, reverse-append}
use Rattle.std.proofs.lemmas.Slice.Eq.{bytes_eq-Decides}
use Rattle.bytecode_model.specs.declared.program.LinkedClass.{LinkedClass}
use Rattle.class_codec.specs.Encoding.{encoding}
use Rattle.mon_store.specs.declared.outputs.Output.{Output}
use Rattle.mon_store.specs.Outputs.{all_written}
use Rattle.mon_store.specs.Store.{Files, written}
use Rattle.command_inputs.specs.Forms.{HasText}
use Rattle.command_outputs.specs.Outputs.{certificate_name, class_name, class_output}

-- ---- names

names_equal : (a b : List ℕ) → bytes_eq a b ≡ true → a ≡ b
names_equal a b e = (bytes_eq-Decides a b).0 e

name_is : (a : List ℕ) → bytes_eq a a ≡ true
name_is a = (bytes_eq-Decides a a).1 refl

names_differ : (a b : List ℕ) → a ≢ b → bytes_eq a b ≡ false
names_differ a b other = by (bytes_eq a b) refl where
  by : (t : Bool) → bytes_eq a b ≡ t → t ≡ false
  by true is = absurd (other (names_equal a b is))
  by false is = refl

-- ---- one file

some_written : (files : Files) (name bytes : List ℕ) → IsSome files → IsSome (written files name bytes)
some_written None name bytes told = absurd cc
some_written (Some f) name bytes told = refl

this_written : (files : Files) (name bytes : List ℕ) → HasText (written files name bytes) name bytes
this_written None name bytes = tt
this_written (Some f) name bytes = subst (λ (t : Bool). IsSomeAnd (cond t (Some bytes) (f name)) (λ b. bytes ≡ b)) (sym (name_is name)) refl

other_written : (files : Files) (name bytes other text : List ℕ) → name ≢ other → HasText files other text → HasText (written files name bytes) other text
other_written None name bytes other text apart has = tt
other_written (Some f) name bytes other text apart has = subst (λ (t : Bool). IsSomeAnd (cond t (Some bytes) (f other)) (λ b. text ≡ b)) (sym (names_differ name other apart)) has

-- ---- several

pub all_told : (outputs : List Output) (files : Files) → IsSome files → IsSome (all_written files outputs)
all_told [] files told = told
all_told (o ∷ outputs) files told = all_told outputs (written files o.name o.bytes) (some_written files o.name o.bytes told)

-- what stands stays, where no output has its name
kept : (outputs : List Output) (files : Files) (name text : List ℕ) → AllByRecursion (λ (o : Output). o.name ≢ name) outputs → HasText files name text → HasText (all_written files outputs) name text
kept [] files name text apart has = has
kept (o ∷ outputs) files name text apart has = kept outputs (written files o.name o.bytes) name text apart.1 (other_written files o.name o.bytes name text apart.0 has)

-- the last output stands
pub last_written : (outputs : List Output) (o : Output) (files : Files) → HasText (all_written files (outputs ++ o ∷ [])) o.name o.bytes
last_written [] o files = this_written files o.name o.bytes
last_written (x ∷ outputs) o files = last_written outputs o (written files x.name x.bytes)

-- ---- class files

same_class : (folder : List ℕ) (c d : LinkedClass) → class_name folder c ≡ class_name folder d → c.name ≡ d.name
same_class folder c d e =
    let front : folder ++ (47 ∷ c.name) ≡ folder ++ (47 ∷ d.name) = append_cancel_right (folder ++ (47 ∷ c.name)) (folder ++ (47 ∷ d.name)) (codes ".class") e in
    let names : 47 ∷ c.name ≡ 47 ∷ d.name = append_cancel_left folder (47 ∷ c.name) (47 ∷ d.name) front in
    cc

pub no_certificate : (folder : List ℕ) (c : LinkedClass) → certificate_name folder ≢ class_name folder c
no_certificate folder c e =
    let rest : codes "/certificate" ≡ (47 ∷ c.name) ++ codes ".class" = append_cancel_left folder (codes "/certificate") ((47 ∷ c.name) ++ codes ".class") (e ∙ append_assoc folder (47 ∷ c.name) (codes ".class")) in
    let back : reverse (codes "/certificate") ≡ reverse (codes ".class") ++ reverse (47 ∷ c.name) = ap reverse rest ∙ reverse-append (47 ∷ c.name) (codes ".class") in
    let last : 101 ≡ 115 = ap (λ (l : List ℕ). get_or l 0 0) back in
    absurd (omega (arith, last))

-- the names of classes after one are others
module _ (folder : List ℕ) where
  apart : (c : LinkedClass) (classes : List LinkedClass) (o : Output) → o.name ≢ class_name folder c
      → ((j : ℕ) (d : LinkedClass) → slice_get classes j ≡ Some d → d.name ≢ c.name) → AllByRecursion (λ (x : Output). x.name ≢ class_name folder c) (map (class_output folder) classes ++ o ∷ [])
  apart c [] o last others = (last, tt)
  apart c (d ∷ classes) o last others = (λ e. others zero d refl (same_class folder d c e), apart c classes o last (λ j x e. others (suc j) x e))

  -- Where no two classes have one name, each class file stands.
  pub class_written : (classes : List LinkedClass) (o : Output) (files : Files) (i : ℕ) (c : LinkedClass) → slice_get classes i ≡ Some c → o.name ≢ class_name folder c
      → ((j : ℕ) (d : LinkedClass) → i < j → slice_get classes j ≡ Some d → d.name ≢ c.name)
      → HasText (all_written files (map (class_output folder) classes ++ o ∷ [])) (class_name folder c) (encoding c.file)
  class_written [] o files i c there last others = absurd cc
  class_written (x ∷ classes) o files zero c there last others =
      let same : x ≡ c = cc in
      subst (λ (y : LinkedClass). HasText (all_written files (map (class_output folder) (y ∷ classes) ++ o ∷ [])) (class_name folder c) (encoding c.file)) (sym same)
      (kept (map (class_output folder) classes ++ o ∷ []) (written files (class_name folder c) (encoding c.file)) (class_name folder c) (encoding c.file)
      (apart c classes o last (λ j d e. others (suc j) d (omega arith) e)) (this_written files (class_name folder c) (encoding c.file)))
  class_written (x ∷ classes) o files (suc i) c there last others =
      class_written classes o (written files (class_name folder x) (encoding x.file)) i c there last (λ j d lt e. others (suc j) d (omega (arith, lt)) e)

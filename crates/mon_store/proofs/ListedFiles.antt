-- A list of files, as a map from names to bytes.
use Rattle.std.proofs.Common.{◌≡◌, ◌<◌, ◌≤◌, ◌+◌, ◌-◌, ℕ, List, [], ◌∷◌, ◌++◌, length, Bool, true, false, cond, Option, Some, None, bytes_eq, slice_set, refl, sym, ◌∙◌, ap, arith, if◌then◌else◌, suc, zero, Contains, slice_index_or, is_none, ◌&&◌}
use Rattle.std.specs.List.{position_from}
use Rattle.std.proofs.lemmas.Slice.Eq.{bytes_eq-Decides}
use Rattle.mon_store.specs.Store.{written}
use Rattle.mon_store.specs.MemStore.{Listed, told, with_file, names_differ}

-- the file at this place, counted from another on, is in the list, and this is the list once it is replaced
pub record IsAt (files wanted : Listed) (file : List ℕ × List ℕ) (from at : ℕ) : Type 0 where
  pub above : from ≤ at
  pub below : at - from < length files
  pub set : slice_set files (at - from) file ≡ wanted

at_front : (file : List ℕ × List ℕ) (files : Listed) (next : List ℕ × List ℕ) (from at : ℕ) → from ≡ at
    → IsAt (file ∷ files) (next ∷ files) next from at
at_front file files next from at is =
    let none : at - from ≡ 0 = omega arith in
    record { above = omega arith; below = omega arith; set = rw none refl }

following : (file : List ℕ × List ℕ) (files wanted : Listed) (next : List ℕ × List ℕ) (from at : ℕ)
    → IsAt files wanted next (from + 1) at → IsAt (file ∷ files) (file ∷ wanted) next from at
following file files wanted next from at there =
    let more : at - from ≡ suc (at - (from + 1)) = omega (arith, there.above) in
    let set_after = ap (λ (l : Listed). file ∷ l) there.set in
    record { above = omega (arith, there.above); below = omega (arith, there.below); set = rw more set_after }

found : (files : Listed) (name bytes : List ℕ) (from at : ℕ)
    → position_from (λ file. bytes_eq file.0 name) from files ≡ Some at
    → IsAt files (with_file files name bytes) (name, bytes) from at
found [] name bytes from at is = cc
found (file ∷ files) name bytes from at is =
    (elim (bytes_eq file.0 name) as (λ b. cond b (Some from) (position_from (λ f. bytes_eq f.0 name) (from + 1) files) ≡ Some at
    → IsAt (file ∷ files) (if b then (name, bytes) ∷ files else file ∷ with_file files name bytes) (name, bytes) from at) [
      | true ↦ λ e. at_front file files (name, bytes) from at (cc)
      | false ↦ λ e. following file files (with_file files name bytes) (name, bytes) from at (found files name bytes (from + 1) at e)
    ]) is

missing : (files : Listed) (name bytes : List ℕ) (from : ℕ)
    → position_from (λ file. bytes_eq file.0 name) from files ≡ None
    → files ++ (name, bytes) ∷ [] ≡ with_file files name bytes
missing [] name bytes from is = refl
missing (file ∷ files) name bytes from is =
    (elim (bytes_eq file.0 name) as (λ b. cond b (Some from) (position_from (λ f. bytes_eq f.0 name) (from + 1) files) ≡ None
    → (file ∷ files) ++ (name, bytes) ∷ [] ≡ (if b then (name, bytes) ∷ files else file ∷ with_file files name bytes)) [
      | true ↦ λ e. cc
      | false ↦ λ e. ap (λ (l : Listed). file ∷ l) (missing files name bytes (from + 1) e)
    ]) is

pub with_file-found : (seen files : Listed) (name bytes : List ℕ) (at : ℕ) → seen ≡ files
    → Some at ≡ position_from (λ file. bytes_eq file.0 name) 0 seen
    → (at < length files) × (slice_set files at (name, bytes) ≡ with_file files name bytes)
with_file-found seen files name bytes at same is =
    let there = found files name bytes 0 at (rw same at (sym is)) in
    let here : at - 0 ≡ at = omega arith in
    (omega (arith, there.below), rw here at there.set)

pub with_file-missing : (seen files : Listed) (name bytes : List ℕ) → seen ≡ files
    → None ≡ position_from (λ file. bytes_eq file.0 name) 0 seen
    → files ++ (name, bytes) ∷ [] ≡ with_file files name bytes
with_file-missing seen files name bytes same is = missing files name bytes 0 (rw same at (sym is))

cond_again : {X : Type 0} (b : Bool) (x y z : X) → cond b x z ≡ cond b x (cond b y z)
cond_again true x y z = refl
cond_again false x y z = refl

cond_swapped : {X : Type 0} (b c : Bool) (x y z : X) → (b ≡ true → c ≡ true → ⊥)
    → cond b x (cond c y z) ≡ cond c y (cond b x z)
cond_swapped true true x y z apart = absurd (apart refl refl)
cond_swapped true false x y z apart = refl
cond_swapped false true x y z apart = refl
cond_swapped false false x y z apart = refl

names_apart : (first second other : List ℕ) → bytes_eq first second ≡ false → bytes_eq first other ≡ true
    → bytes_eq second other ≡ true → ⊥
names_apart first second other apart one two =
    let same_one = (bytes_eq-Decides first other).0 one in
    let same_two = (bytes_eq-Decides second other).0 two in
    let same : bytes_eq first second ≡ true = (bytes_eq-Decides first second).1 (same_one ∙ sym same_two) in
    cc

-- the file that is written has these bytes, and each other name has what it had
told-with_file : (files : Listed) (name bytes other : List ℕ)
    → told (with_file files name bytes) other ≡ (if bytes_eq name other then Some bytes else told files other)
told-with_file [] name bytes other = refl
told-with_file (file ∷ files) name bytes other =
    (elim (bytes_eq file.0 name) as (λ b. bytes_eq file.0 name ≡ b
    → told (if b then (name, bytes) ∷ files else file ∷ with_file files name bytes) other
    ≡ (if bytes_eq name other then Some bytes else (if bytes_eq file.0 other then Some file.1 else told files other))) [
      | true ↦ λ e.
          let equal = (bytes_eq-Decides file.0 name).0 e in
          let same : bytes_eq file.0 other ≡ bytes_eq name other = ap (λ (l : List ℕ). bytes_eq l other) equal in
          rw same (cond_again (bytes_eq name other) (Some bytes) (Some file.1) (told files other))
      | false ↦ λ e.
          rw (told-with_file files name bytes other)
          (cond_swapped (bytes_eq file.0 other) (bytes_eq name other) (Some file.1) (Some bytes) (told files other)
          (names_apart file.0 name other e))
    ]) refl

pub written-with_file : (files : Listed) (name bytes : List ℕ)
    → Some (told (with_file files name bytes)) ≡ written (Some (told files)) name bytes
written-with_file files name bytes = ap Some (λ i other. told-with_file files name bytes other i)

apart : (name other bytes : List ℕ) (files : Listed) → told files name ≡ None → told files other ≡ Some bytes
    → bytes_eq name other ≡ true → ⊥
apart name other bytes files none some same =
    let equal = (bytes_eq-Decides name other).0 same in
    let told_same = ap (told files) equal in
    cc

both : (a b : Bool) → (a && b) ≡ true → (a ≡ true) × (b ≡ true)
both true b is = (refl, is)
both false b is = cc

none_of : (file : Option (List ℕ)) → is_none file ≡ true → file ≡ None
none_of None is = refl
none_of (Some bytes) is = cc

told_at : (files : Listed) (name bytes : List ℕ) (k : ℕ) → names_differ files ≡ true → k < length files
    → slice_index_or files k (name, bytes) ≡ (name, bytes) → told files name ≡ Some bytes
told_at [] name bytes k differ below is = absurd (omega arith)
told_at (file ∷ files) name bytes zero differ below is =
    let test : bytes_eq file.0 name ≡ true = (bytes_eq-Decides file.0 name).1 (ap (λ (f : List ℕ × List ℕ). f.0) is) in
    rw test (ap (λ (f : List ℕ × List ℕ). Some f.1) is)
told_at (file ∷ files) name bytes (suc k) differ below is =
    let parts = both (is_none (told files file.0)) (names_differ files) differ in
    let rest = told_at files name bytes k parts.1 (omega arith) is in
    (elim (bytes_eq file.0 name) as (λ b. bytes_eq file.0 name ≡ b → (if b then Some file.1 else told files name) ≡ Some bytes) [
      | true ↦ λ same. absurd (apart file.0 name bytes files (none_of (told files file.0) parts.0) rest same)
      | false ↦ λ other. rest
    ]) refl

-- where no name stands twice, each listed file is told
pub told-listed : (files : Listed) (name bytes : List ℕ) → names_differ files ≡ true → Contains files (name, bytes)
    → told files name ≡ Some bytes
told-listed files name bytes differ listed = told_at files name bytes listed.0 differ listed.1 listed.2

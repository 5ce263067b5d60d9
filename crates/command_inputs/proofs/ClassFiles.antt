-- Reading class files, one after the other.
use Rattle.std.proofs.Common.{◌≡◌, ℕ, ◌+◌, ◌≤◌, ◌<◌, ◌-◌, ◌^◌, min, suc, List, [], ◌∷◌, ◌++◌, length, get_or, take, take_all, drop, Ok, Err, refl, sym, ap, subst, ◌∙◌, append_assoc, arith}
use Rattle.std.specs.List.{AllByRecursion}
use Rattle.class_codec.specs.Fits.{EncodesClass}
use Rattle.mon_store.specs.Store.{Files, HasFile}
use Rattle.command_inputs.specs.Encoded.{AreEncoded}
use Rattle.class_codec.specs.declared.tree.ClassFile.{ClassFile}
use Rattle.command_inputs.specs.declared.files.Stop.{Stop}
use Rattle.command_inputs.specs.declared.files.Stop.TheVariants.{Input, Unread, Memory}
use Rattle.command_inputs.specs.Forms.{Count, IsRead, ReadsForm}
use Rattle.command_inputs.specs.Named.{AreClasses, StopsAmong, ReadsClasses, told_sum}
use Rattle.command_inputs.specs.Kinds.{class_form}
use Rattle.command_inputs.proofs.ReadFiles.{counted, stops_since}

-- the class files that were read, and the names that are left
pub record HaveRead (files : Files) (names : List (List ℕ)) (classes : List ClassFile) (total : ℕ) (left : List (List ℕ)) : Type 0 where
  pub before : List (List ℕ)
  pub whole : names ≡ before ++ left
  pub read : AreClasses files before classes total
  pub encoded : AreEncoded files before classes

-- sums of sums that are told so are told alike
sums_apart : (most a b c : ℕ) → min (min (a + b) most + c) most ≡ min (a + min (b + c) most) most
sums_apart most a b c = grind arith

push : (files : Files) (names : List (List ℕ)) (classes : List ClassFile) (total : ℕ) (name : List ℕ) (class : ClassFile) (len : ℕ) → AreClasses files names classes total
    → IsRead files name class_form (Ok (record { file = class; len = len })) → AreClasses files (names ++ name ∷ []) (classes ++ class ∷ []) (told_sum total len)
push files [] [] total name class len read one = (len, 0, ap (λ (n : ℕ). told_sum n len) read ∙ ap (λ (n : ℕ). min n (2 ^ 64 - 1)) (omega arith), one, refl)
push files [] (c ∷ cs) total name class len read one = absurd read
push files (n ∷ ns) [] total name class len read one = absurd read
push files (n ∷ ns) (c ∷ cs) total name class len read one =
    (read.0, told_sum read.1 len, ap (λ (n : ℕ). told_sum n len) read.2 ∙ sums_apart (2 ^ 64 - 1) read.0 read.1 len, read.3, push files ns cs read.1 name class len read.4 one)

push_encoded : (files : Files) (names : List (List ℕ)) (classes : List ClassFile) (name : List ℕ) (class : ClassFile) → AreEncoded files names classes → HasFile files name (λ bytes. EncodesClass bytes class)
    → AreEncoded files (names ++ name ∷ []) (classes ++ class ∷ [])
push_encoded files [] [] name class are one = (one, tt)
push_encoded files [] (c ∷ cs) name class are one = absurd are
push_encoded files (n ∷ ns) [] name class are one = absurd are
push_encoded files (n ∷ ns) (c ∷ cs) name class are one = (are.0, push_encoded files ns cs name class are.1 one)

pub one_read : (files : Files) (names : List (List ℕ)) (classes : List ClassFile) (total : ℕ) (name : List ℕ) (left : List (List ℕ)) (class : ClassFile) (len : ℕ)
    → HaveRead files names classes total (name ∷ left) → IsRead files name class_form (Ok (record { file = class; len = len })) → HasFile files name (λ bytes. EncodesClass bytes class) → HaveRead files names (classes ++ class ∷ []) (told_sum total len) left
one_read files names classes total name left class len had one encodes = record {
  before = had.before ++ name ∷ [];
  whole = had.whole ∙ sym (append_assoc had.before (name ∷ []) left);
  read = push files had.before classes total name class len had.read one;
  encoded = push_encoded files had.before classes name class had.encoded encodes;
}

-- the class file at which the reading ends
stops_among : (files : Files) (names : List (List ℕ)) (classes : List ClassFile) (total : ℕ) (name : List ℕ) (left : List (List ℕ)) (count : Count) (stop : Stop)
    → HaveRead files names classes total (name ∷ left) → ReadsForm files count name class_form (Err stop) → StopsAmong files count names stop
stops_among files names classes total name left count stop had stops = record {
  before = had.before;
  name = name;
  later = left;
  classes = classes;
  total = total;
  whole = had.whole;
  read = had.read;
  stops = stops;
}

pub class_stops : (files : Files) (names : List (List ℕ)) (classes : List ClassFile) (total : ℕ) (name : List ℕ) (left : List (List ℕ)) (first begun now : ℕ) (last : List ℕ) (stop : Stop) → first ≤ begun
    → HaveRead files names classes total (name ∷ left) → ReadsForm files (counted begun now last) name class_form (Err stop) → ReadsClasses files (counted first now last) names (Err stop)
class_stops files names classes total name left first begun now last (Input bad fault) le had stops =
    stops_among files names classes total name left (counted first now last) (Input bad fault) had stops
class_stops files names classes total name left first begun now last (Unread bad) le had stops =
    stops_among files names classes total name left (counted first now last) (Unread bad) had (stops_since files class_form name first begun now last (Unread bad) le stops)
class_stops files names classes total name left first begun now last Memory le had stops = tt

-- a list is its first item and the others, as a loop takes them apart
pub taken_apart : {A : Type 0} (left : List A) (first : A) → 0 < length left → first ≡ get_or left 0 first → left ≡ first ∷ take (length left - 1) (drop 1 left)
taken_apart [] first some is = absurd (omega (arith, some))
taken_apart (x ∷ xs) first some is =
    let count : suc (length xs) - 1 ≡ length xs = omega arith in
    rw (count, take_all (length xs) xs (omega arith)) (ap (λ (y : _). y ∷ xs) (sym is))

AllByRecursion-push : {A : Type 0} (P : A → Type 0) (xs : List A) (x : A) → AllByRecursion P xs → P x → AllByRecursion P (xs ++ x ∷ [])
AllByRecursion-push P [] x all one = (one, tt)
AllByRecursion-push P (y ∷ ys) x all one = (all.0, AllByRecursion-push P ys x all.1 one)

pub sound_pushed : {A : Type 0} (P : A → Type 0) (xs ys : List A) (x : A) → ys ≡ xs ++ x ∷ [] → AllByRecursion P xs → P x → AllByRecursion P ys
sound_pushed P xs ys x is all one = subst (AllByRecursion P) (sym is) (AllByRecursion-push P xs x all one)

-- class files at which a later call stopped
pub among_since : (files : Files) (names : List (List ℕ)) (first begun now : ℕ) (last : List ℕ) (stop : Stop) → first ≤ begun
    → ReadsClasses files (counted begun now last) names (Err stop) → ReadsClasses files (counted first now last) names (Err stop)
among_since files names first begun now last (Input bad fault) le among = since files names first begun now last (Input bad fault) le among where
  since : (files : Files) (names : List (List ℕ)) (first begun now : ℕ) (last : List ℕ) (stop : Stop) → first ≤ begun → StopsAmong files (counted begun now last) names stop → StopsAmong files (counted first now last) names stop
  since files names first begun now last stop le among = record {
    before = among.before;
    name = among.name;
    later = among.later;
    classes = among.classes;
    total = among.total;
    whole = among.whole;
    read = among.read;
    stops = stops_since files class_form among.name first begun now last stop le among.stops;
  }
among_since files names first begun now last (Unread bad) le among = record {
  before = among.before;
  name = among.name;
  later = among.later;
  classes = among.classes;
  total = among.total;
  whole = among.whole;
  read = among.read;
  stops = stops_since files class_form among.name first begun now last (Unread bad) le among.stops;
}
among_since files names first begun now last Memory le among = tt

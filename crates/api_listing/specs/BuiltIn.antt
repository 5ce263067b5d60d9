-- The classes that every program has without declaring them, and their methods. (docs/LISTINGS.md)
use Rattle.std.specs.Prelude.{ℕ, Bool, true, false, List, [], ◌∷◌, ◌&&◌, bytes_eq, codes, map, if◌then◌else◌}
use Rattle.std.specs.List.{flat_map, list_any}
use Rattle.mon_base.specs.declared.method.MethodId.{MethodId}
use Rattle.api_listing.specs.declared.types.ListedClass.{ListedClass}

abbrev pub object : List ℕ
object = codes "java/lang/Object"

abbrev pub thread : List ℕ
thread = codes "java/lang/Thread"

abbrev pub runnable : List ℕ
runnable = codes "java/lang/Runnable"

abbrev pub throwable : List ℕ
throwable = codes "java/lang/Throwable"

abbrev pub exception : List ℕ
exception = codes "java/lang/Exception"

abbrev pub unchecked : List ℕ
unchecked = codes "java/lang/RuntimeException"

abbrev pub bad_index : List ℕ
bad_index = codes "java/lang/IndexOutOfBoundsException"

abbrev pub bad_argument : List ℕ
bad_argument = codes "java/lang/IllegalArgumentException"

-- each built-in class with its superclass; Object has none
unfoldable pub class_rows : List (List ℕ × List ℕ)
class_rows =
    (object, [])
    ∷ (codes "java/lang/Class", object)
    ∷ (codes "java/lang/String", object)
    ∷ (codes "java/lang/System", object)
    ∷ (thread, object)
    ∷ (throwable, object)
    ∷ (runnable, object)
    ∷ (exception, throwable)
    ∷ (unchecked, exception)
    ∷ (codes "java/lang/InterruptedException", exception)
    ∷ (codes "java/lang/NullPointerException", unchecked)
    ∷ (codes "java/lang/ArithmeticException", unchecked)
    ∷ (codes "java/lang/ClassCastException", unchecked)
    ∷ (codes "java/lang/ArrayStoreException", unchecked)
    ∷ (codes "java/lang/NegativeArraySizeException", unchecked)
    ∷ (codes "java/lang/IllegalMonitorStateException", unchecked)
    ∷ (bad_index, unchecked)
    ∷ (bad_argument, unchecked)
    ∷ (codes "java/lang/ArrayIndexOutOfBoundsException", bad_index)
    ∷ (codes "java/lang/IllegalThreadStateException", bad_argument)
    ∷ []

-- A Thread is a Runnable, and Runnable is the one interface.
abbrev pub class_of_row : List ℕ × List ℕ → ListedClass
class_of_row row = record {
  name = row.0;
  parent = row.1;
  interfaces = if bytes_eq row.0 thread then runnable ∷ [] else [];
  is_interface = bytes_eq row.0 runnable;
}

abbrev pub built_in_classes : List ListedClass
built_in_classes = map class_of_row class_rows

-- a method of a class, with its descriptor and whether it is static
abbrev pub MethodRow : Type 0
MethodRow = List ℕ × List ℕ × List ℕ × Bool

-- the classes whose objects can be thrown
abbrev pub throwables : List (List ℕ)
throwables =
    throwable ∷ exception ∷ unchecked
    ∷ codes "java/lang/InterruptedException"
    ∷ codes "java/lang/NullPointerException"
    ∷ codes "java/lang/ArithmeticException"
    ∷ codes "java/lang/ClassCastException"
    ∷ codes "java/lang/ArrayStoreException"
    ∷ codes "java/lang/NegativeArraySizeException"
    ∷ codes "java/lang/IllegalMonitorStateException"
    ∷ bad_index
    ∷ bad_argument
    ∷ codes "java/lang/ArrayIndexOutOfBoundsException"
    ∷ codes "java/lang/IllegalThreadStateException"
    ∷ []

abbrev pub constructors : List ℕ → List MethodRow
constructors class =
    (class, codes "<init>", codes "()V", false)
    ∷ (class, codes "<init>", codes "(Ljava/lang/String;)V", false)
    ∷ []

unfoldable pub method_rows : List MethodRow
method_rows =
    (object, codes "<init>", codes "()V", false)
    ∷ (thread, codes "<init>", codes "()V", false)
    ∷ (thread, codes "<init>", codes "(Ljava/lang/Runnable;)V", false)
    ∷ (thread, codes "start", codes "()V", false)
    ∷ (thread, codes "run", codes "()V", false)
    ∷ (thread, codes "join", codes "()V", false)
    ∷ (runnable, codes "run", codes "()V", false)
    ∷ (codes "java/lang/System", codes "exit", codes "(I)V", true)
    ∷ (codes "java/lang/String", codes "length", codes "()I", false)
    ∷ flat_map constructors throwables

abbrev pub is_method : List ℕ → List ℕ → List ℕ → MethodId → Bool
is_method class name desc id = bytes_eq id.class class && (bytes_eq id.name name && bytes_eq id.desc desc)

abbrev pub is_row : List ℕ → List ℕ → List ℕ → MethodRow → Bool
is_row class name desc row = bytes_eq row.0 class && (bytes_eq row.1 name && bytes_eq row.2 desc)

-- whether the class has the method built in
abbrev pub is_built_in : List ℕ → List ℕ → List ℕ → Bool
is_built_in class name desc = list_any (is_row class name desc) method_rows

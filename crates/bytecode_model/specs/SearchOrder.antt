-- The classes in which a member is looked for, the nearest first. For a method: the class, its superclasses, and then their
-- interfaces and the interfaces of these, level by level. For a field: the class, its interfaces and those above them, and
-- then its superclass in the same way. (The Java Virtual Machine Specification, sections 5.4.3.2 and 5.4.3.3.)
use Rattle.std.specs.Prelude.{ℕ, zero, suc, ◌+◌, Bool, bytes_eq, if◌then◌else◌, List, [], ◌∷◌, ◌++◌, length}
use Rattle.std.specs.List.{list_any}
use Rattle.std.specs.Option.{option_map_or}
use Rattle.api_listing.specs.declared.types.ListedClass.{ListedClass}
use Rattle.api_listing.specs.Nearest.{class_named, upwards, names_of, interfaces_of}

abbrev pub Name : Type 0
Name = List ℕ

-- whether the name is one of these
abbrev pub is_one_of : List Name → Name → Bool
is_one_of names name = list_any (λ other. bytes_eq other name) names

-- the interfaces that the class of the name has itself
abbrev pub interfaces_above : List ListedClass → Name → List Name
interfaces_above classes name = option_map_or (λ (c : ListedClass). c.interfaces) (class_named classes name) []

-- the names, and then this one if it is new
abbrev pub with_name : List Name → Name → List Name
with_name names name = if is_one_of names name then names else names ++ name ∷ []

-- after those that wait, the interfaces of a new name
abbrev pub with_above : List ListedClass → List Name → Name → List Name → List Name
with_above classes found name waiting = if is_one_of found name then waiting else waiting ++ interfaces_above classes name

-- The names that are reached, each once: those that wait are taken in order, and a new one's interfaces wait after
-- the others. At most n are taken.
abbrev pub reached : ℕ → List ListedClass → List Name → List Name → List Name
reached zero classes found waiting = found
reached (suc n) classes found [] = found
reached (suc n) classes found (name ∷ waiting) = reached n classes (with_name found name) (with_above classes found name waiting)

-- how many names can come to wait after these
abbrev pub most : List ListedClass → List Name → ℕ
most classes waiting = length waiting + length (interfaces_of classes)

abbrev pub interfaces_from : List ListedClass → List Name → List Name
interfaces_from classes names = reached (most classes names) classes [] names

-- the class and its superclasses
abbrev pub superclasses : List ListedClass → Name → List ListedClass
superclasses classes name = upwards (length classes) classes name

abbrev pub search_order : List ListedClass → Name → List Name
search_order classes name = names_of (superclasses classes name) ++ interfaces_from classes (interfaces_of (superclasses classes name))

-- ---- fields

-- before those that wait, the interfaces of a new name
abbrev pub above_first : List ListedClass → List Name → Name → List Name → List Name
above_first classes found name waiting = if is_one_of found name then waiting else interfaces_above classes name ++ waiting

-- The names that are reached, each once: a new one's interfaces are taken before those that wait. At most n are taken.
abbrev pub reached_in_turn : ℕ → List ListedClass → List Name → List Name → List Name
reached_in_turn zero classes found waiting = found
reached_in_turn (suc n) classes found [] = found
reached_in_turn (suc n) classes found (name ∷ waiting) = reached_in_turn n classes (with_name found name) (above_first classes found name waiting)

-- after these names a class, and then its interfaces and those above them in turn
abbrev pub with_interfaces : List ListedClass → List Name → ListedClass → List Name
with_interfaces classes found c = reached_in_turn (most classes c.interfaces) classes (with_name found c.name) c.interfaces

-- after these names some classes, each with its interfaces
abbrev pub each_with_interfaces : List ListedClass → List Name → List ListedClass → List Name
each_with_interfaces classes found [] = found
each_with_interfaces classes found (c ∷ cs) = each_with_interfaces classes (with_interfaces classes found c) cs

abbrev pub field_order : List ListedClass → Name → List Name
field_order classes name = each_with_interfaces classes [] (superclasses classes name)

-- How many string constants files have, and where they stand.
use Rattle.std.proofs.Common.{◌≡◌, ℕ, ◌+◌, ◌*◌, ◌<◌, ◌≤◌, ◌^◌, Bool, true, false, cond, List, [], ◌∷◌, ◌++◌, length, Option, Some, None, refl, arith, length-append}
use Rattle.std.specs.Prelude.{bytes_eq}
use Rattle.std.specs.List.{AllByRecursion, flat_map, fold, position_from}
use Rattle.std.specs.Option.{option_map_or}
use Rattle.mon_base.proofs.Lists.{length-filter_map, position_below}
use Rattle.class_codec.specs.declared.tree.ClassFile.{ClassFile}
use Rattle.class_codec.specs.Fits.{IsEncodable}
use Rattle.bytecode_model.specs.Operands.{literals_of, place_of, strings_in, text_of_string}
use Rattle.bytecode_model.specs.SearchOrder.{Name, is_one_of, with_name}

-- ---- how many there are

length-with_name : (names : List Name) (name : Name) → length (with_name names name) ≤ length names + 1
length-with_name names name = by (is_one_of names name) where
  by : (b : Bool) → length (cond b names (names ++ name ∷ [])) ≤ length names + 1
  by true = omega arith
  by false = omega (arith, length-append names (name ∷ []))

length-with_names : (names others : List Name) → length (fold with_name names others) ≤ length names + length others
length-with_names names [] = omega arith
length-with_names names (name ∷ others) = omega (arith, length-with_name names name, length-with_names (with_name names name) others)

length-strings : (files : List ClassFile) → AllByRecursion IsEncodable files → length (flat_map strings_in files) ≤ 65535 * length files
length-strings [] fit = omega arith
length-strings (file ∷ files) fit =
    omega (
      arith,
      length-append (strings_in file) (flat_map strings_in files),
      length-filter_map (text_of_string file.pool) file.pool,
      fit.0.pool.count,
      length-strings files fit.1,
    )

-- A number of 32 bits counts them.
pub literals_few : (files : List ClassFile) → AllByRecursion IsEncodable files → length files ≤ 1001 → length (literals_of files) < 2 ^ 32
literals_few files fit few = omega (arith, length-with_names [] (flat_map strings_in files), length-strings files fit, few)

-- ---- where one stands

pub place_within : (names : List Name) (name : Name) → place_of names name ≤ length names
place_within names name = by (position_from (λ other. bytes_eq other name) 0 names) refl where
  by : (o : Option ℕ) → position_from (λ other. bytes_eq other name) 0 names ≡ o → option_map_or (λ (i : ℕ). i) o 0 ≤ length names
  by None is = omega arith
  by (Some i) is = omega (arith, position_below (λ other. bytes_eq other name) 0 names i is)

-- Arrays of what is found in classes and their superclasses.
use Rattle.std.proofs.Common.{◌≡◌, ℕ, zero, suc, ◌-◌, ◌≤◌, ◌^◌, Bool, true, false, cond, List, [], ◌∷◌, length, Option, Some, None, refl, sym, ap, subst, ◌∙◌, arith}
use Rattle.std.specs.Prelude.{bytes_eq, is_some, slice_get}
use Rattle.std.specs.BTreeMap.{btree_map_len}
use Rattle.std.specs.Option.{option_and_then, option_map_or, option_or}
use Rattle.mon_base.specs.declared.method.MethodId.{MethodId}
use Rattle.api_listing.specs.declared.types.ListedClass.{ListedClass}
use Rattle.api_listing.specs.Nearest.{class_named, names_of, upwards}
use Rattle.bytecode_model.specs.declared.members.Found.{Found}
use Rattle.bytecode_model.specs.ByName.{noted}
use Rattle.bytecode_model.specs.Members.{first_found, in_class}
use Rattle.bytecode_model.specs.SearchOrder.{superclasses}
use Rattle.bytecode_model.proofs.Lists.{some_is}
use Rattle.bytecode_model.proofs.Placing.{same_name}
use Rattle.mon_base.specs.Persistent.{item_at, has_number, Keeps, PutsEach}
use Rattle.class_index.specs.Nearest.{Numbers, item_tells, Tells, IsVersion, AreVersions}
use Rattle.mon_base.specs.declared.persistent.Halves.{Halves}
use Rattle.class_index.specs.declared.nearest.Version.{Version}
use Rattle.class_index.specs.declared.nearest.Versions.{Versions}
use Rattle.mon_base.proofs.Putting.{keeps_item, zeros}
use Rattle.class_index.proofs.Reaching.{named_is, up_front}

module _ (look : MethodId → Option Found) (numbers : Numbers) (classes : List ListedClass) where
  -- where there is no class nothing is found
  pub no_class : (versions : Versions) (name : List ℕ) → class_named classes name ≡ None → AreVersions look numbers classes versions → IsVersion look numbers classes versions name (record { root = 0; height = 0 })
  no_class versions name none are id n e = record {
    item = 0;
    there = zeros versions.nodes are.empty versions.depth n (omega (arith, are.numbered.below (in_class id []) n e, are.enough));
    tells = λ m le. sym (ap (λ (l : List ListedClass). first_found look id (names_of l)) (none_up m));
  } where
    none_up : (m : ℕ) → upwards m classes name ≡ []
    none_up zero = refl
    none_up (suc m) = ap (λ (o : Option ListedClass). option_map_or (λ (c : ListedClass). c ∷ upwards m classes c.parent) o []) none

  -- the array of a class is that of its superclass with what the class has put in
  pub tells_up : (old new : List Halves) (depth place item root : ℕ) (name : List ℕ) (c : ListedClass) (above below : Version) (own : List ℕ) → class_named classes name ≡ Some c → slice_get classes place ≡ Some c
      → item ≡ suc place → below.root ≡ root → below.height ≡ suc above.height → PutsEach old new depth above.root own item root
      → (id : MethodId) (n : ℕ) → has_number own n ≡ is_some (look (in_class id name)) → Tells look classes old depth c.parent above id n → Tells look classes new depth name below id n
  tells_up old new depth place item root name c above below own some placed is rooted high puts id n has t = record {
    item = cond (has_number own n) item t.item;
    there = ap (λ (r : ℕ). item_at new depth r n) rooted ∙ puts n t.item t.there;
    tells = λ m le.
        let one : m ≡ suc (m - 1) = omega (arith, le, high) in
        by (look (in_class id name)) refl (first_found look id (names_of (upwards (m - 1) classes c.parent))) (t.tells (m - 1) (omega (arith, le, high)))
        ∙ sym (ap (λ (k : ℕ). first_found look id (names_of (upwards k classes name))) one ∙ up_front look id classes (m - 1) name c some);
  } where
    here : item_tells look classes id item ≡ look (in_class id name)
    here =
        ap (item_tells look classes id) is ∙ ap (λ (o : Option ListedClass). option_and_then (λ (x : ListedClass). look (in_class id x.name)) o) placed
        ∙ ap (λ (q : List ℕ). look (in_class id q)) (named_is classes name c some)

    by : (o : Option Found) → look (in_class id name) ≡ o → (rest : Option Found) → item_tells look classes id t.item ≡ rest
        → item_tells look classes id (cond (has_number own n) item t.item) ≡ option_or (look (in_class id name)) rest
    by (Some f) found rest e =
        ap (λ (b : Bool). item_tells look classes id (cond b item t.item)) (has ∙ ap is_some found) ∙ here ∙ found ∙ sym (ap (λ (o : Option Found). option_or o rest) found)
    by None found rest e =
        ap (λ (b : Bool). item_tells look classes id (cond b item t.item)) (has ∙ ap is_some found) ∙ e ∙ sym (ap (λ (o : Option Found). option_or o rest) found)

  tells_kept : (old new : List Halves) (depth : ℕ) (name : List ℕ) (version : Version) (id : MethodId) (n : ℕ) → Keeps old new → Tells look classes old depth name version id n → Tells look classes new depth name version id n
  tells_kept old new depth name version id n keeps t = record {
    item = t.item;
    there = keeps_item old new keeps depth version.root n t.item t.there;
    tells = t.tells;
  }

  -- one array more
  pub with_version : (old new : Versions) (name : List ℕ) (version : Version) → AreVersions look numbers classes old → new.depth ≡ old.depth → Keeps old.nodes new.nodes
      → IsVersion look numbers classes new name version → ((q : List ℕ) → noted new.places q ≡ option_or (noted old.places q) (cond (bytes_eq name q) (Some version) None))
      → AreVersions look numbers classes new
  with_version old new name version are deep keeps here puts = record {
    numbered = are.numbered;
    enough = subst (λ (d : ℕ). btree_map_len numbers ≤ 2 ^ d) (sym deep) are.enough;
    empty = keeps 0 (record { even = 0; odd = 0 }) are.empty;
    known = λ q v found. by q v (noted old.places q) (bytes_eq name q) refl refl (sym (puts q) ∙ found);
  } where
    by : (q : List ℕ) (v : Version) (o : Option Version) (b : Bool) → noted old.places q ≡ o → bytes_eq name q ≡ b → option_or o (cond b (Some version) None) ≡ Some v
        → IsVersion look numbers classes new q v
    by q v (Some w) b was same e id n f =
        subst (λ (d : ℕ). Tells look classes new.nodes d q v id n) (sym deep)
        (tells_kept old.nodes new.nodes old.depth q v id n keeps (are.known q v (was ∙ ap Some (some_is w v e)) id n f))
    by q v None true was same e id n f =
        subst (λ (w : Version). Tells look classes new.nodes new.depth q w id n) (some_is version v e)
        (subst (λ (x : List ℕ). Tells look classes new.nodes new.depth x version id n) (same_name name q same) (here id n f))
    by q v None false was same e id n f = absurd cc

  -- what the item of a class's array tells
  pub declares : (versions : Versions) (name : List ℕ) (version : Version) (id : MethodId) (n item place : ℕ) (c : ListedClass) → Tells look classes versions.nodes versions.depth name version id n
      → version.height ≤ length classes → item_at versions.nodes versions.depth version.root n ≡ Some item → item ≡ suc place → slice_get classes place ≡ Some c
      → look (in_class id c.name) ≡ first_found look id (names_of (superclasses classes name))
  declares versions name version id n item place c t few read is placed =
      let same : t.item ≡ suc place = some_is t.item item (sym t.there ∙ read) ∙ is in
      sym (ap (item_tells look classes id) same ∙ ap (λ (o : Option ListedClass). option_and_then (λ (x : ListedClass). look (in_class id x.name)) o) placed) ∙ t.tells (length classes) few

-- What an instruction takes is what it takes elsewhere.
use Rattle.std.proofs.Common.{◌≡◌, ℕ, zero, suc, Bool, true, false, cond, List, [], ◌∷◌, map, replicate, Option, Some, None, refl, sym, ap, subst, ◌∙◌}
use Rattle.std.specs.Prelude.{bytes_eq, codes, ⊤}
use Rattle.std.specs.Option.{option_map_or}
use Rattle.api_listing.specs.BuiltIn.{object, throwable}
use Rattle.cert_format.specs.declared.typing.VType.{VType}
use Rattle.cert_format.specs.declared.typing.VType.TheVariants as types
use Rattle.bytecode_model.specs.Heads.{maker}
use Rattle.insn_codec.specs.declared.shape.Heap.{Heap}
use Rattle.insn_codec.specs.declared.shape.Heap.TheVariants as heap
use Rattle.insn_codec.specs.declared.shape.Item.{Item}
use Rattle.insn_codec.specs.declared.shape.Item.TheVariants as items
use Rattle.insn_codec.specs.declared.shape.ValueKind.{ValueKind}
use Rattle.insn_codec.specs.declared.shape.ValueKind.TheVariants as kinds
use Rattle.insn_codec.specs.declared.shape.Shape.{Shape}
use Rattle.insn_codec.specs.declared.shape.Shape.TheVariants as shapes
use Rattle.insn_codec.specs.Forms.{depth_of}
use Rattle.insn_codec.specs.Shapes.{shape_of}
use Rattle.insn_codec.specs.declared.shape.How.{How}
use Rattle.insn_codec.specs.declared.shape.How.TheVariants as hows
use Rattle.bytecode_model.specs.Assigning.{assignable}
use Rattle.bytecode_model.specs.Described.{type_described, result_type, result_text, arguments}
use Rattle.bytecode_model.specs.InsnPlace.{InsnPlace, class_referred, desc_referred, calls_maker, is_own_field}
use Rattle.bytecode_model.specs.Wants.{Want, anything, is_number, is_reference, is_made, is_array_type, is_this, of_kind, to_type, to_class, to_array, to_item, to_written, to_own, to_receiver, to_described, to_arguments, to_result, call_takes, heap_takes, takes_of, takes, all_met}
use Rattle.woven_typing.specs.Renaming.{renamed}
use Rattle.woven_typing.proofs.Kept.{IsKept, retargeted, same_class, same_name, same_desc, described_stays, or_kept, and_kept}

module _ (moved : ℕ → ℕ) (p q : InsnPlace) (kept : IsKept moved p q) where
  -- What the one want is met by, the other is, renamed.
  abbrev pub WantKept : Want → Want → Type 0
  WantKept w v = (t : VType) → w t ≡ true → v (renamed moved t) ≡ true

  abbrev pub WantsKept : List Want → List Want → Type 0
  WantsKept [] [] = ⊤
  WantsKept [] (v ∷ vs) = ⊥
  WantsKept (w ∷ ws) [] = ⊥
  WantsKept (w ∷ ws) (v ∷ vs) = WantKept w v × WantsKept ws vs

  pub wants_met : (ws vs : List Want) → WantsKept ws vs → (ts : List VType) → all_met ws ts ≡ true → all_met vs (map (renamed moved) ts) ≡ true
  wants_met [] [] k [] e = refl
  wants_met [] [] k (t ∷ ts) e = absurd cc
  wants_met [] (v ∷ vs) k ts e = absurd k
  wants_met (w ∷ ws) [] k ts e = absurd k
  wants_met (w ∷ ws) (v ∷ vs) k [] e = absurd cc
  wants_met (w ∷ ws) (v ∷ vs) k (t ∷ ts) e = and_kept (w t) (all_met ws ts) _ _ (k.0 t) (wants_met ws vs k.1 ts) e

  -- ---- single wants

  number : WantKept is_number is_number
  number types.Int e = refl
  number types.Top e = absurd cc
  number types.Null e = absurd cc
  number (types.Ref name) e = absurd cc
  number types.UninitThis e = absurd cc
  number (types.Uninit i) e = absurd cc

  reference : WantKept is_reference is_reference
  reference types.Int e = absurd cc
  reference types.Top e = absurd cc
  reference types.Null e = refl
  reference (types.Ref name) e = refl
  reference types.UninitThis e = refl
  reference (types.Uninit i) e = refl

  made : WantKept is_made is_made
  made types.Int e = absurd cc
  made types.Top e = absurd cc
  made types.Null e = refl
  made (types.Ref name) e = refl
  made types.UninitThis e = absurd cc
  made (types.Uninit i) e = absurd cc

  array : WantKept is_array_type is_array_type
  array types.Int e = absurd cc
  array types.Top e = absurd cc
  array types.Null e = refl
  array (types.Ref name) e = e
  array types.UninitThis e = absurd cc
  array (types.Uninit i) e = absurd cc

  this : WantKept is_this is_this
  this types.Int e = absurd cc
  this types.Top e = absurd cc
  this types.Null e = absurd cc
  this (types.Ref name) e = absurd cc
  this types.UninitThis e = refl
  this (types.Uninit i) e = absurd cc

  pub kind : (k : ValueKind) → WantKept (of_kind k) (of_kind k)
  kind kinds.Int = number
  kind kinds.Reference = reference

  typed : (r : VType) → renamed moved r ≡ r → WantKept (to_type p.program r) (to_type q.program r)
  typed r same t e = subst (λ (u : VType). assignable q.program (renamed moved t) u ≡ true) same (kept.assigns t r e)

  class : (name : List ℕ) → WantKept (to_class p.program name) (to_class q.program name)
  class name t e = kept.assigns t (types.Ref name) e

  described : (desc : List ℕ) → WantKept (to_described p.program desc) (to_described q.program desc)
  described desc = typed (type_described desc) (described_stays moved desc)

  item_array : (item : Item) → WantKept (to_array p.program item) (to_array q.program item)
  item_array items.Int = class (codes "[I")
  item_array items.Reference = class (codes "[Ljava/lang/Object;")
  item_array items.Byte = λ t. or_kept _ _ _ _ (class (codes "[B") t) (class (codes "[Z") t)
  item_array items.Char = class (codes "[C")
  item_array items.Short = class (codes "[S")

  one_item : (item : Item) → WantKept (to_item p.program item) (to_item q.program item)
  one_item items.Reference = class object
  one_item items.Int = number
  one_item items.Byte = number
  one_item items.Char = number
  one_item items.Short = number

  referred_class : WantKept (to_class p.program (class_referred p)) (to_class q.program (class_referred q))
  referred_class = subst (λ (name : List ℕ). WantKept (to_class p.program (class_referred p)) (to_class q.program name)) (sym (same_class moved p q kept)) (class (class_referred p))

  referred_type : WantKept (to_described p.program (desc_referred p)) (to_described q.program (desc_referred q))
  referred_type =
      subst (λ (desc : List ℕ). WantKept (to_described p.program (desc_referred p)) (to_described q.program desc)) (sym (same_desc moved p q kept))
      (described (desc_referred p))

  same_field : is_own_field q.own q.ref ≡ is_own_field p.own p.ref
  same_field = rw (kept.own, kept.ref) refl

  written : WantKept (to_written p) (to_written q)
  written t =
      or_kept _ _ _ _
      (and_kept _ _ _ _ (λ own. same_field ∙ own) (this t))
      (referred_class t)

  pub same_maker : calls_maker q ≡ calls_maker p
  same_maker = ap (λ (name : List ℕ). bytes_eq name maker) (same_name moved p q kept)

  own : (how : How) → WantKept (to_own p how) (to_own q how)
  own hows.Virtual t e = refl
  own hows.Special t e = subst (λ (name : List ℕ). to_class q.program name (renamed moved t) ≡ true) (sym kept.class) (class p.class.name t e)
  own hows.Static t e = refl
  own hows.Interface t e = refl

  receiver : (how : How) → WantKept (to_receiver p how) (to_receiver q how)
  receiver how t = or_kept _ _ _ _ (λ makes. same_maker ∙ makes) (and_kept _ _ _ _ (referred_class t) (own how t))

  each_described : (descs : List (List ℕ)) → WantsKept (map (to_described p.program) descs) (map (to_described q.program) descs)
  each_described [] = tt
  each_described (d ∷ descs) = (described d, each_described descs)

  all_arguments : WantsKept (to_arguments p) (to_arguments q)
  all_arguments =
      subst (λ (desc : List ℕ). WantsKept (to_arguments p) (map (to_described q.program) (arguments desc))) (sym (same_desc moved p q kept))
      (each_described (arguments (desc_referred p)))

  call : (how : How) → WantsKept (call_takes p how) (call_takes q how)
  call hows.Virtual = (receiver hows.Virtual, all_arguments)
  call hows.Special = (receiver hows.Special, all_arguments)
  call hows.Static = all_arguments
  call hows.Interface = (receiver hows.Interface, all_arguments)

  result_of : (o : Option VType) → ((r : VType) → o ≡ Some r → renamed moved r ≡ r)
      → WantKept (λ t. option_map_or (λ (r : VType). to_type p.program r t) o false) (λ t. option_map_or (λ (r : VType). to_type q.program r t) o false)
  result_of None same t e = absurd cc
  result_of (Some r) same t e = typed r (same r refl) t e

  choice_of : (b : Bool) (d : List ℕ) (r : VType) → cond b None (Some (type_described d)) ≡ Some r → renamed moved r ≡ r
  choice_of true d r e = absurd cc
  choice_of false d r e =
      let same : type_described d ≡ r = cc in
      subst (λ (u : VType). renamed moved u ≡ u) same (described_stays moved d)

  result : WantKept (to_result p) (to_result q)
  result =
      subst (λ (desc : List ℕ). WantKept (to_result p) (λ t. option_map_or (λ (r : VType). to_type q.program r t) (result_type desc) false)) (sym kept.desc)
      (result_of (result_type p.method.desc) (choice_of (bytes_eq (result_text p.method.desc) (codes "V")) (result_text p.method.desc)))

  -- ---- shapes

  heap_kept : (what : Heap) → WantsKept (heap_takes p what) (heap_takes q what)
  heap_kept heap.Constant = tt
  heap_kept (heap.ReadItem item) = (item_array item, (number, tt))
  heap_kept (heap.WriteItem item) = (item_array item, (number, (one_item item, tt)))
  heap_kept (heap.Divide remainder) = (number, (number, tt))
  heap_kept heap.ReadStatic = tt
  heap_kept heap.WriteStatic = (referred_type, tt)
  heap_kept heap.ReadField = (referred_class, tt)
  heap_kept heap.WriteField = (written, (referred_type, tt))
  heap_kept (heap.Call how) = call how
  heap_kept heap.New = tt
  heap_kept (heap.NewArray kind) = (number, tt)
  heap_kept heap.NewArrayOf = (number, tt)
  heap_kept heap.Length = (array, tt)
  heap_kept heap.Throw = (class throwable, tt)
  heap_kept heap.Cast = (made, tt)
  heap_kept heap.IsInstance = (made, tt)
  heap_kept heap.Enter = (made, tt)
  heap_kept heap.Exit = (made, tt)
  heap_kept (heap.Return None) = tt
  heap_kept (heap.Return (Some kind)) = (result, tt)

  any_kept : (n : ℕ) → WantsKept (replicate n anything) (replicate n anything)
  any_kept zero = tt
  any_kept (suc n) = (λ t e. refl, any_kept n)

  shape_kept : (to : ℕ → ℕ) (shape : Shape) → WantsKept (takes_of p shape) (takes_of q (retargeted to shape))
  shape_kept to shapes.Nothing = tt
  shape_kept to (shapes.Push n) = tt
  shape_kept to shapes.PushNull = tt
  shape_kept to (shapes.Load k slot) = tt
  shape_kept to (shapes.Store k slot) = (kind k, tt)
  shape_kept to (shapes.Move form) = any_kept (depth_of form)
  shape_kept to (shapes.Two op) = (number, (number, tt))
  shape_kept to (shapes.One op) = (number, tt)
  shape_kept to (shapes.Increment slot by) = tt
  shape_kept to (shapes.Test relation from) = (number, tt)
  shape_kept to (shapes.Compare relation from) = (number, (number, tt))
  shape_kept to (shapes.CompareReferences same from) = (made, (made, tt))
  shape_kept to (shapes.TestNull null from) = (made, tt)
  shape_kept to (shapes.Goto from) = tt
  shape_kept to shapes.Switch = (number, tt)
  shape_kept to (shapes.Heap what) = heap_kept what

  pub takes_kept : WantsKept (takes p) (takes q)
  takes_kept = subst (λ (s : Shape). WantsKept (takes p) (takes_of q s)) (sym kept.shape) (shape_kept kept.to (shape_of p.insn))

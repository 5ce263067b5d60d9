-- Lists that are made from the front, one thing or some after the other.
use Rattle.std.proofs.Common.{◌≡◌, ℕ, zero, suc, ◌+◌, ◌-◌, ◌<◌, List, [], ◌∷◌, ◌++◌, sym, ap, ◌∙◌, append_assoc, append-nil, arith}
use Rattle.class_codec.specs.declared.tree.ClassFile.{ClassFile}
use Rattle.class_codec.specs.declared.tree.Const.{Const}
use Rattle.insn_codec.specs.declared.insn.Insn.{Insn}
use Rattle.bundle_gen.specs.Draws.{next_state, draw, state_after}
use Rattle.bundle_gen.specs.Generated.{site, sites_from, thread_class, classes_from, named, named_from, thread_begun, begun_from}

-- one thing more
pub pushed : {X : Type 0} (base xs old new : List X) (x : X) → old ≡ base ++ xs → new ≡ old ++ x ∷ [] → new ≡ base ++ (xs ++ x ∷ [])
pushed base xs old new x before now = now ∙ ap (λ l. l ++ x ∷ []) before ∙ append_assoc base xs (x ∷ [])

-- some more, of those that are still to come
onto : {X : Type 0} (xs new zs ys all total : List X) → new ≡ xs ++ zs → all ≡ zs ++ ys → xs ++ all ≡ total → new ++ ys ≡ total
onto xs new zs ys all total is split so_far = ap (λ l. l ++ ys) is ∙ append_assoc xs zs ys ∙ ap (λ l. xs ++ l) (sym split) ∙ so_far

less : (left : ℕ) → left ≡ suc left - 1
less left = omega arith

-- ---- sites

sites_at : (state left : ℕ) → 0 < left → sites_from state left ≡ site (draw (next_state state)) ++ sites_from (next_state state) (left - 1)
unfolding sites_from
sites_at state zero some = absurd (omega (arith, some))
sites_at state (suc left) some = ap (λ (n : ℕ). site (draw (next_state state)) ++ sites_from (next_state state) n) (less left)

after_at : (state left : ℕ) → 0 < left → state_after state left ≡ state_after (next_state state) (left - 1)
unfolding state_after
after_at state zero some = absurd (omega (arith, some))
after_at state (suc left) some = ap (λ (n : ℕ). state_after (next_state state) n) (less left)

pub sites_more : (state next left : ℕ) (code new total : List Insn) → 0 < left → next ≡ next_state state → new ≡ code ++ site (draw next)
    → code ++ sites_from state left ≡ total → new ++ sites_from next (left - 1) ≡ total
sites_more state next left code new total some is put so_far =
    onto code new (site (draw next)) (sites_from next (left - 1)) (sites_from state left) total put
    (sites_at state left some ∙ ap (λ s. site (draw s) ++ sites_from s (left - 1)) (sym is)) so_far

pub after_more : (state next left total : ℕ) → 0 < left → next ≡ next_state state → state_after state left ≡ total → state_after next (left - 1) ≡ total
after_more state next left total some is so_far = ap (λ s. state_after s (left - 1)) is ∙ sym (after_at state left some) ∙ so_far

pub sites_none : (state left : ℕ) (code total : List Insn) → left ≡ 0 → code ++ sites_from state left ≡ total → code ≡ total
unfolding sites_from
sites_none state zero code total none so_far = sym (append-nil code) ∙ so_far
sites_none state (suc left) code total none so_far = absurd (omega (arith, none))

pub after_none : (state left total : ℕ) → left ≡ 0 → state_after state left ≡ total → state ≡ total
unfolding state_after
after_none state zero total none so_far = so_far
after_none state (suc left) total none so_far = absurd (omega (arith, none))

-- ---- classes

class_at : (index state sites left : ℕ) → 0 < left
    → classes_from index state sites left ≡ thread_class index state sites ∷ classes_from (index + 1) (state_after state sites) sites (left - 1)
unfolding classes_from
class_at index state sites zero some = absurd (omega (arith, some))
class_at index state sites (suc left) some =
    ap (λ (n : ℕ). thread_class index state sites ∷ classes_from (index + 1) (state_after state sites) sites n) (less left)

pub class_more : (index state next sites left : ℕ) (files new total : List ClassFile) → 0 < left → next ≡ state_after state sites
    → new ≡ files ++ thread_class index state sites ∷ [] → files ++ classes_from index state sites left ≡ total
    → new ++ classes_from (index + 1) next sites (left - 1) ≡ total
class_more index state next sites left files new total some is put so_far =
    onto files new (thread_class index state sites ∷ []) (classes_from (index + 1) next sites (left - 1)) (classes_from index state sites left) total put
    (class_at index state sites left some ∙ ap (λ s. thread_class index state sites ∷ classes_from (index + 1) s sites (left - 1)) (sym is)) so_far

pub class_none : (index state sites left : ℕ) (files total : List ClassFile) → left ≡ 0 → files ++ classes_from index state sites left ≡ total → files ≡ total
unfolding classes_from
class_none index state sites zero files total none so_far = sym (append-nil files) ∙ so_far
class_none index state sites (suc left) files total none so_far = absurd (omega (arith, none))

-- ---- what the main class has for each class

named_at : (index left : ℕ) → 0 < left → named_from index left ≡ named index ++ named_from (index + 1) (left - 1)
unfolding named_from
named_at index zero some = absurd (omega (arith, some))
named_at index (suc left) some = ap (λ (n : ℕ). named index ++ named_from (index + 1) n) (less left)

pub named_more : (index left : ℕ) (pool new total : List Const) → 0 < left → new ≡ pool ++ named index → pool ++ named_from index left ≡ total
    → new ++ named_from (index + 1) (left - 1) ≡ total
named_more index left pool new total some put so_far =
    onto pool new (named index) (named_from (index + 1) (left - 1)) (named_from index left) total put (named_at index left some) so_far

pub named_none : (index left : ℕ) (pool total : List Const) → left ≡ 0 → pool ++ named_from index left ≡ total → pool ≡ total
unfolding named_from
named_none index zero pool total none so_far = sym (append-nil pool) ∙ so_far
named_none index (suc left) pool total none so_far = absurd (omega (arith, none))

begun_at : (index left : ℕ) → 0 < left → begun_from index left ≡ thread_begun index ++ begun_from (index + 1) (left - 1)
unfolding begun_from
begun_at index zero some = absurd (omega (arith, some))
begun_at index (suc left) some = ap (λ (n : ℕ). thread_begun index ++ begun_from (index + 1) n) (less left)

pub begun_more : (index left : ℕ) (code new total : List Insn) → 0 < left → new ≡ code ++ thread_begun index → code ++ begun_from index left ≡ total
    → new ++ begun_from (index + 1) (left - 1) ≡ total
begun_more index left code new total some put so_far =
    onto code new (thread_begun index) (begun_from (index + 1) (left - 1)) (begun_from index left) total put (begun_at index left some) so_far

pub begun_none : (index left : ℕ) (code total : List Insn) → left ≡ 0 → code ++ begun_from index left ≡ total → code ≡ total
unfolding begun_from
begun_none index zero code total none so_far = sym (append-nil code) ∙ so_far
begun_none index (suc left) code total none so_far = absurd (omega (arith, none))

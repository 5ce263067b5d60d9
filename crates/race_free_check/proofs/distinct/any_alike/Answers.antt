use Rattle.std.proofs.Common.{◌≡◌, ◌-◌, Bool, false, List, ◌∷◌, length, drop, take, get_or, map, sym, ap, ◌∙◌}
use Rattle.std.specs.Prelude.{◌||◌}
use Rattle.std.specs.List.{list_any}
use Rattle.conspec_automaton.proofs.Ranges.{front_at}
use Rattle.race_free_check.specs.Distinct.{are_alike, digest_of}
use Rattle.race_free_check.proofs.Grown.{front_is}
use Rattle.race_free_check.proofs.distinct.any_alike.Goals as goal

-- the first of two lists of which one is mapped, and what is left of them
record Fronts {X Y : Type 0} (f : X → Y) (xs : List X) (ys : List Y) (x : X) (y : Y) : Type 0 where
  pub first : y ≡ f x
  pub rest : ys ≡ map f xs

fronts : {X Y : Type 0} (f : X → Y) (left xs : List X) (others ys : List Y) (x : X) (y : Y) → left ≡ x ∷ xs → others ≡ y ∷ ys → others ≡ map f left → Fronts f xs ys x y
fronts f left xs others ys x y front first mapped =
    let same : y ∷ ys ≡ f x ∷ map f xs = sym first ∙ mapped ∙ ap (map f) front in
    record { first = cc; rest = cc }

any_more : {X : Type 0} (test : X → Bool) (left rest : List X) (x : X) (all : Bool) → left ≡ x ∷ rest → test x ≡ false → list_any test left ≡ all → list_any test rest ≡ all
any_more test left rest x all front fails e = ap (λ (b : Bool). b || list_any test rest) (sym fails) ∙ ap (list_any test) (sym front) ∙ e

pub is_like-requires : goal.is_like-requires
is_like-requires c =
    let seen = c.loop-seen.seen.now in
    let digests = c.loop-seen.digests.now in
    let front = front_is seen c.other-item.result c.other-item.result c.in-len1-up.len_at_least c.other-item.is in
    let first = front_at digests 0 c.in-len1-up-digests.len_at_least in
    record {
      digest = c.requires.digest;
      known = (fronts (digest_of c.args.atoms.now) seen (take (length seen - 1) (drop 1 seen)) digests (take (length digests - 1) (drop 1 digests)) c.other-item.result (get_or digests 0 0) front first c.loop-seen.invariant.digests).first;
    }

pub loop-seen-preserved : goal.loop-seen-preserved
loop-seen-preserved c =
    let seen = c.loop-seen.seen.now in
    let digests = c.loop-seen.digests.now in
    let rest = take (length seen - 1) (drop 1 seen) in
    let front = front_is seen c.other-item.result c.other-item.result c.in-len1-up.len_at_least c.other-item.is in
    let first = front_at digests 0 c.in-len1-up-digests.len_at_least in
    record {
      is = any_more (are_alike c.args.atoms.now c.args.value.now) seen rest c.other-item.result (list_any (are_alike c.args.atoms.now c.args.value.now) c.args.seen.now) front (sym c.is_like.ensures ∙ c.if-is_like.false) c.loop-seen.invariant.is;
      digests = (fronts (digest_of c.args.atoms.now) seen rest digests (take (length digests - 1) (drop 1 digests)) c.other-item.result (get_or digests 0 0) front first c.loop-seen.invariant.digests).rest;
    }

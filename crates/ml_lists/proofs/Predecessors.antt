-- A finite set in which each member has a predecessor has a loop.
--
-- The relation is transitive, as reachability in one or more steps is. The set is a list, and nothing is asked
-- about equality of its members. The induction drops the first member of the list: whoever had it as predecessor
-- takes its predecessor instead.
--
--   Before R xs y == some member x of xs has R x y
--   Loop R xs     == some member x of xs has R x x
--   has_loop      == if R is transitive and each member of xs, one at least, has a predecessor in xs, xs has a loop
use Rattle.std.proofs.Common.{◌≡◌, ◌⊎◌, inl, inr, List, [], ◌∷◌, refl, subst}
use Rattle.ml_lists.specs.Member.{IsMember}

-- some member x of xs has R x y
pub record Before {X : Type 0} (R : X → X → Type 0) (xs : List X) (y : X) : Type 0 where
  pub from : X
  pub member : IsMember from xs
  pub holds : R from y

-- some member x of xs has R x x
pub record Loop {X : Type 0} (R : X → X → Type 0) (xs : List X) : Type 0 where
  pub at : X
  pub member : IsMember at xs
  pub holds : R at at

module _ {X : Type 0} (R : X → X → Type 0) (transitive : (x y z : X) → R x y → R y z → R x z) where
  -- a predecessor among z and zs is z or one among zs
  first_or_later : (z : X) (zs : List X) (y : X) → Before R (z ∷ zs) y → R z y ⊎ Before R zs y
  first_or_later z zs y b = by_place b.member
    where
      by_place : (b.from ≡ z) ⊎ IsMember b.from zs → R z y ⊎ Before R zs y
      by_place (inl same) = inl (subst (λ v. R v y) same b.holds)
      by_place (inr m) = inr (record { from = b.from; member = m; holds = b.holds })

  -- a predecessor z is replaced by a predecessor of z
  past_first : (z : X) (zs : List X) (y : X) → Before R zs z → R z y ⊎ Before R zs y → Before R zs y
  past_first z zs y earlier (inl step) =
      record { from = earlier.from; member = earlier.member; holds = transitive earlier.from z y earlier.holds step }
  past_first z zs y earlier (inr b) = b

  longer : (z : X) (zs : List X) → Loop R zs → Loop R (z ∷ zs)
  longer z zs l = record { at = l.at; member = inr l.member; holds = l.holds }

  smaller : (z : X) (zs : List X)
      → Before R zs z
      → ((y : X) → IsMember y (z ∷ zs) → Before R (z ∷ zs) y)
      → (y : X)
      → IsMember y zs
      → Before R zs y
  smaller z zs earlier closed y m = past_first z zs y earlier (first_or_later z zs y (closed y (inr m)))

  -- if each member of xs has a predecessor in xs, and there is a member, then xs has a loop
  pub has_loop : (xs : List X) (x : X) → IsMember x xs → ((y : X) → IsMember y xs → Before R xs y) → Loop R xs
  has_loop [] x m closed = absurd m
  has_loop (z ∷ zs) x m closed = by_case (first_or_later z zs z (closed z (inl refl))) (has_loop zs)
    where
      by_case : R z z ⊎ Before R zs z
          → ((y : X) → IsMember y zs → ((v : X) → IsMember v zs → Before R zs v) → Loop R zs)
          → Loop R (z ∷ zs)
      by_case (inl loop) rest = record { at = z; member = inl refl; holds = loop }
      by_case (inr earlier) rest = longer z zs (rest earlier.from earlier.member (smaller z zs earlier closed))

-- A number that is allowed, and one that is not.
--
--   numbered        == a position with a number that is allowed
--   no_room         == a position with a number that isn't allowed is a new one
--   for_ok, for_err == the same of the answer of a call
use Rattle.std.proofs.Common.{ℕ, ◌≡◌, ◌<◌, ◌≤◌, ◌⊎◌, inl, inr, List, [], ◌∷◌, ◌++◌, length, length-append, slice_get, Some, Result, Ok, Err, sym, ap, ◌∙◌, subst, arith}
use Rattle.std.specs.Result.{IfOk, IsErrOf}
use Rattle.std.proofs.lemmas.Option.{slice_get_within}
use Rattle.ml_lists.specs.Member.{IsMember}
use Rattle.ml_product.specs.Position.{Position}
use Rattle.ml_product.specs.declared.pool.Pool.{Pool}
use Rattle.ml_product.specs.declared.refusals.ExploreRefusal.{ExploreRefusal}
use Rattle.ml_product.specs.declared.refusals.ExploreRefusal.TheVariants as refusal
use Rattle.ml_product.specs.private.Pools.{positions_of, IsInterned}
use Rattle.ml_product.specs.private.Exploring.{IsNumbered, HasNoRoom}
use Rattle.ml_lists.proofs.Member.{member_of_get}
use Rattle.ml_lists.proofs.Added.{last_or}

module _ (limit : ℕ) (a : Pool) (p : Position) (b : Pool) (n : ℕ) (few : length (positions_of a) ≤ limit)
    (is : IsInterned a p b n) where
  abbrev ps : List Position
  ps = positions_of a

  -- a position with a number that is allowed
  pub numbered : n < limit → IsNumbered limit a p b n
  numbered low =
      record { is_pool = is.is_pool; added = is.added; stored = is.stored; few = by_kind is.added.grown }
    where
      by_place : (positions_of b ≡ ps ++ p ∷ [])
          → ¬ (IsMember p ps)
          → (slice_get ps n ≡ Some p) ⊎ ((n ≡ length ps) × (p ≡ p))
          → length (positions_of b) ≤ limit
      by_place whole new (inl there) = absurd (new (member_of_get ps n p there))
      by_place whole new (inr end) = let e = ap length whole ∙ length-append ps (p ∷ []) in omega (arith, end.0)

      by_kind : (positions_of b ≡ ps) ⊎ ((positions_of b ≡ ps ++ p ∷ []) × ¬ (IsMember p ps))
          → length (positions_of b) ≤ limit
      by_kind (inl old) = let e = ap length old in omega arith
      by_kind (inr new) =
          by_place new.0 new.1 (last_or ps p p n (subst (λ xs. slice_get xs n ≡ Some p) new.0 is.added.stands))

  -- a position with a number that isn't allowed is a new one
  pub no_room : limit ≤ n → HasNoRoom limit (positions_of a) p
  no_room high = by_kind is.added.grown
    where
      by_kind : (positions_of b ≡ ps) ⊎ ((positions_of b ≡ ps ++ p ∷ []) × ¬ (IsMember p ps)) → HasNoRoom limit ps p
      by_kind (inl old) =
          let low = slice_get_within (positions_of b) n p is.added.stands in
          let e = ap length old in absurd (omega arith)
      by_kind (inr new) =
          let low = slice_get_within (positions_of b) n p is.added.stands in
          let e = ap length new.0 ∙ length-append ps (p ∷ []) in
          record { full = omega arith; is_new = new.1 }

  -- the same of the answer of a call
  pub for_ok : (r : Result ℕ ExploreRefusal) → IfOk r (λ v. (v ≡ n) × (v < limit)) → IfOk r (IsNumbered limit a p b)
  for_ok (Ok v) i = subst (IsNumbered limit a p b) (sym i.0) (let e = i.0 in let l = i.1 in numbered (omega arith))
  for_ok (Err x) i = tt

  pub for_err : (r : Result ℕ ExploreRefusal) → (IsErrOf r refusal.Passed → limit ≤ n) → IsErrOf r refusal.Passed
      → HasNoRoom limit (positions_of a) p
  for_err r high e = no_room (high e)

-- a position that is made of another one
module _ (limit : ℕ) (a : Pool) (v : ℕ) (made : Position → Position) (b : Pool) (n : ℕ)
    (few : length (positions_of a) ≤ limit)
    (is : (p : Position) → slice_get (positions_of a) v ≡ Some p → IsInterned a (made p) b n) where
  pub beside_ok : (r : Result ℕ ExploreRefusal) → IfOk r (λ w. (w ≡ n) × (w < limit))
      → IfOk r (λ w. (p : Position) → slice_get (positions_of a) v ≡ Some p → IsNumbered limit a (made p) b w)
  beside_ok (Ok w) i = λ p at. for_ok limit a (made p) b n few (is p at) (Ok w) i
  beside_ok (Err x) i = tt

-- an answer that hands on another's refusal refuses for the same cause
pub handed_on : {X Y : Type 0} (r : Result X ExploreRefusal) (x : ExploreRefusal)
    → ((y : ExploreRefusal) × (r ≡ Err y) × (y ≡ x))
    → IsErrOf r refusal.Passed
    → IsErrOf {T = Y} (Err x) refusal.Passed
handed_on r x (y, is, same) e = let passed : y ≡ refusal.Passed = err_same y (sym is ∙ e) in ap Err (sym same ∙ passed)
  where
    err_same : {Z : Type 0} (z : ExploreRefusal) → IsErrOf {T = Z} (Err z) refusal.Passed → z ≡ refusal.Passed
    err_same z f = cc

-- What tests of a refutation's parts come to.
--
--   All-mapped  == what holds of the images of all entries
--   above_rise  == items each of which comes behind the one before it are above one another
use Rattle.std.proofs.Common.{ℕ, suc, Some, None, ◌≡◌, ◌+◌, List, [], ◌∷◌, get_or, map, All, IsTrue, sym, subst, arith}
use Rattle.ml_lists.proofs.Member.{All-member, member-All, member-map_from, Image}
use Rattle.ml_refutation.specs.Refutation.{AreAbove, comes_before}
use Rattle.ml_refutation.specs.Views.{item_of}
use Rattle.ml_refutation.specs.declared.refutation.Item.{Item}
use Rattle.ml_search.specs.private.Checked.{Rise, state_in}

pub All-mapped : {X Y : Type 0} (P : Y → Type 0) (f : X → Y) (xs : List X) → All (λ x. P (f x)) xs → All P (map f xs)
All-mapped {Y = Y} P f xs all = member-All P (map f xs) (λ y m. of_image y (member-map_from f y xs m))
  where
    of_image : (y : Y) → Image f y xs → P y
    of_image y i = subst P (sym i.holds) (All-member (λ x. P (f x)) xs all i.from i.member)

rise-tail : (a b : Item) (items : List Item) → Rise (a ∷ (b ∷ items)) → Rise (b ∷ items)
rise-tail a b items rises i d within =
    let e : suc i + 1 ≡ suc (i + 1) = omega arith in
    subst
    (λ (j : ℕ). IsTrue (comes_before (state_in (get_or (b ∷ items) i d)) (state_in (get_or (a ∷ (b ∷ items)) j d))))
    e (rises (suc i) d (omega (arith, within)))

above_from : (stacks : List (List ℕ)) (a : Item) (items : List Item) → Rise (a ∷ items)
    → AreAbove (Some (state_in a)) (map (λ x. x.state) (map (item_of stacks) items))
above_from stacks a [] rises = tt
above_from stacks a (b ∷ items) rises = (rises 0 a (omega arith), above_from stacks b items (rise-tail a b items rises))

pub above_rise : (stacks : List (List ℕ)) (items : List Item)
    → Rise items
    → AreAbove None (map (λ x. x.state) (map (item_of stacks) items))
above_rise stacks [] rises = tt
above_rise stacks (a ∷ items) rises = (tt, above_from stacks a items rises)

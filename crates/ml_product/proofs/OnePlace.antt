-- What there is one of: the spread of a sequent under a choice, and the place of a position among different ones.
--
--   same_spread   == a set of nodes has one spread under a choice
--   same_place    == different positions have different places
--   place_of      == a member stands at a place
use Rattle.std.proofs.Common.{ℕ, zero, suc, ◌≡◌, List, [], ◌∷◌, slice_get, Some, refl, sym, ap, ◌∙◌, subst}
use Rattle.std.proofs.lemmas.Option.{slice_get-get_or}
use Rattle.ml_lists.specs.Member.{IsMember}
use Rattle.ml_lists.proofs.Ascending.{ascending_same}
use Rattle.ml_lists.proofs.Member.{Place, member-place}
use Rattle.ml_graph.specs.Graph.{Graph}
use Rattle.ml_sequent.specs.declared.choice.Side.{Side}
use Rattle.ml_sequent.specs.Spread.{SpreadList, IsSpreadOf}
use Rattle.ml_product.specs.Position.{Position}
use Rattle.ml_product.specs.DecisionGame.{AreDifferent}
use Rattle.ml_lists.proofs.Member.{member_of_get}

-- a set of nodes has one spread under a choice
pub same_spread : (g : Graph) (c : List ℕ) (h : List (ℕ × Side)) (x y : SpreadList)
    → IsSpreadOf g c h x
    → IsSpreadOf g c h y
    → x ≡ y
same_spread g c h x y at_x at_y = λ i. record { nodes = nodes i; choice = choices i }
  where
    nodes : x.nodes ≡ y.nodes
    nodes =
        ascending_same x.nodes y.nodes at_x.ascends at_y.ascends
        (λ n m. (at_y.nodes n).1 ((at_x.nodes n).0 m))
        (λ n m. (at_x.nodes n).1 ((at_y.nodes n).0 m))

    choices : x.choice ≡ y.choice
    choices = at_x.choice ∙ sym at_y.choice

-- different positions have different places
pub same_place : (ps : List Position) → AreDifferent ps → (i j : ℕ) (p : Position)
    → slice_get ps i ≡ Some p
    → slice_get ps j ≡ Some p
    → i ≡ j
same_place [] apart i j p e f = cc
same_place (x ∷ xs) apart zero zero p e f = refl
same_place (x ∷ xs) apart zero (suc j) p e f =
    let same : p ≡ x = cc in
    absurd (apart.0 (subst (λ y. IsMember y xs) same (member_of_get xs j p f)))
same_place (x ∷ xs) apart (suc i) zero p e f =
    let same : p ≡ x = cc in
    absurd (apart.0 (subst (λ y. IsMember y xs) same (member_of_get xs i p e)))
same_place (x ∷ xs) apart (suc i) (suc j) p e f = ap suc (same_place xs apart.1 i j p e f)

-- a member stands at a place
pub record PlaceOf {X : Type 0} (x : X) (xs : List X) : Type 0 where
  pub place : ℕ
  pub stands : slice_get xs place ≡ Some x

pub place_of : {X : Type 0} (x : X) (xs : List X) → IsMember x xs → PlaceOf x xs
place_of x xs inside = from (member-place x xs inside)
  where
    from : Place x xs → PlaceOf x xs
    from p = record { place = p.place; stands = slice_get-get_or xs p.place x p.below ∙ ap Some (p.holds x) }

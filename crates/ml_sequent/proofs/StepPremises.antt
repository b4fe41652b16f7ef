-- What callers have in hand meets what a step asks.
--
--   own_choice  == a spread under a choice is one under the choice that it tells
--   diamond_of  == each of the diamonds of a spread is a diamond node of it
use Rattle.std.proofs.Common.{ℕ, ◌≡◌, ◌<◌, List, length, get_or, filter, sym, subst}
use Rattle.ml_lists.specs.Member.{IsMember}
use Rattle.ml_lists.proofs.Member.{member-filter_from, place-member}
use Rattle.ml_graph.specs.Graph.{Graph, node_at}
use Rattle.ml_sequent.specs.declared.choice.Side.{Side}
use Rattle.ml_sequent.specs.Spread.{SpreadList, IsSpreadOf, is_diamond}
use Rattle.ml_sequent.specs.Step.{IsDiamondOf}

-- a spread under a choice is one under the choice that it tells
pub own_choice : (g : Graph) (C : List ℕ) (c : List (ℕ × Side)) (sp : SpreadList)
    → IsSpreadOf g C c sp
    → IsSpreadOf g C sp.choice sp
own_choice g C c sp is = subst (λ ch. IsSpreadOf g C ch sp) (sym is.choice) is

-- each of the diamonds of a spread is a diamond node of it
pub diamond_of : (g : Graph) (sp : SpreadList) (diamonds : List ℕ) (i d : ℕ)
    → diamonds ≡ filter (λ n. is_diamond (node_at g n)) sp.nodes
    → i < length diamonds
    → IsDiamondOf g sp (get_or diamonds i d)
diamond_of g sp diamonds i d are low =
    let found = member-filter_from (λ n. is_diamond (node_at g n)) (get_or diamonds i d) sp.nodes (subst (IsMember (get_or diamonds i d)) are (place-member diamonds i d low)) in
    record { member = found.0; holds = found.1 }

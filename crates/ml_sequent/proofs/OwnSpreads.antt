-- Spreads: their nodes, and what callers have in hand.
--
--   spread_low, spread_all == the nodes of a spread are nodes
--   spread_closed == they have their local children
--   own_spread, own_spread_ok == the spread of a set is the spread of its own nodes; so is the one that a call answers
--   longer_ok == and one that is the spread of each set of which another one was
use Rattle.std.proofs.Common.{ℕ, ◌<◌, List, length, get_or, All, Result, Ok, Err, IfOk, refl, subst}
use Rattle.ml_lists.specs.Member.{IsMember}
use Rattle.ml_lists.proofs.Member.{place-member, member-All}
use Rattle.ml_graph.specs.Graph.{Graph, size, priority_at}
use Rattle.ml_sequent.specs.declared.choice.Side.{Side}
use Rattle.ml_sequent.specs.LocalWalk.{LocalWalk, stays, children}
use Rattle.ml_sequent.specs.Spread.{SpreadList, IsSpreadOf, IsSpread}
use Rattle.ml_sequent.specs.private.ConnectedParts.{IsClosedIn}
use Rattle.ml_sequent.proofs.LocalWalks.{stays_inside, spread_is_least}

-- the nodes of a spread are nodes
pub spread_low : (g : Graph) (sp : SpreadList)
    → IsSpread g sp
    → (k d : ℕ)
    → k < length sp.nodes
    → get_or sp.nodes k d < size g
spread_low g sp is k d low = is.low (get_or sp.nodes k d) (place-member sp.nodes k d low)

-- so all of them are
pub spread_all : (g : Graph) (sp : SpreadList) → IsSpread g sp → All (λ n. n < size g) sp.nodes
spread_all g sp is = member-All (λ n. n < size g) sp.nodes is.low

-- the spread of a set is the spread of its own nodes
pub own_spread : (g : Graph) (C : List ℕ) (c : List (ℕ × Side)) (sp : SpreadList) → IsSpreadOf g C c sp → IsSpread g sp
own_spread g C c sp is = record {
  choice = refl;
  ascends = is.ascends;
  low = is.low;
  nodes = λ m. (
    (λ h. record { from = m; member = h; lowest = priority_at g m; walk = stays m }),
    (λ s. stays_inside g c sp.nodes closed s.from s.lowest m (subst (λ ch. LocalWalk g ch s.from s.lowest m) is.choice s.walk) s.member),
  );
}
  where
    closed : (n m : ℕ) → IsMember n sp.nodes → IsMember m (children g c n) → IsMember m sp.nodes
    closed n m h child = (is.nodes m).1 ((spread_is_least g c C).closed n m ((is.nodes n).0 h) child)

-- so is the one that a call answers
pub own_spread_ok : {E : Type 0} → (g : Graph) (C : List ℕ) (c : List (ℕ × Side)) (answer : Result SpreadList E)
    → IfOk answer (IsSpreadOf g C c)
    → IfOk answer (IsSpread g)
own_spread_ok g C c (Ok sp) is = own_spread g C c sp is
own_spread_ok g C c (Err e) is = is

-- and one that is the spread of each set of which another one was
pub longer_ok : {E : Type 0} → (g : Graph) (sp : SpreadList) (c : List (ℕ × Side)) (answer : Result SpreadList E)
    → IsSpread g sp
    → IfOk answer (λ longer. (C : List ℕ) → IsSpreadOf g C sp.choice sp → IsSpreadOf g C c longer)
    → IfOk answer (IsSpread g)
longer_ok g sp c (Ok longer) is of = own_spread g sp.nodes c longer (of sp.nodes is)
longer_ok g sp c (Err e) is of = of

-- the nodes of a spread are closed
pub spread_closed : (g : Graph) (sp : SpreadList) → IsSpread g sp → IsClosedIn g sp.choice sp.nodes
spread_closed g sp is = record {
  low = is.low;
  closed = λ n m h child. (is.nodes m).1 ((spread_is_least g sp.choice sp.nodes).closed n m ((is.nodes n).0 h) child);
}

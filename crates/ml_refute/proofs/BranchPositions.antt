-- A branch at a position of the arena, and with a side more.
--
--   side_more    == of the or-node that is open at the position, a side leads to the position that the arena has for it
--   spread_more  == the branch with this side has the spread of that position
--   begun_spread == the branch that was begun has the spread of a position without a choice
use Rattle.std.proofs.Common.{ℕ, ◌≡◌, List, [], sym, ap, ◌∙◌, subst}
use Rattle.ml_graph.specs.Graph.{Graph}
use Rattle.ml_parity.specs.Solution.{GameSolution}
use Rattle.ml_sequent.specs.declared.choice.Side.{Side}
use Rattle.ml_sequent.specs.Branch.{BranchList}
use Rattle.ml_sequent.specs.Choice.{with_side}
use Rattle.ml_sequent.specs.Spread.{SpreadList, IsSpread, IsSpreadOf, IsOpenOr}
use Rattle.ml_product.specs.Arena.{Arena}
use Rattle.ml_product.specs.Position.{Position, with_chosen}
use Rattle.ml_product.proofs.OnePlace.{same_spread}
use Rattle.ml_refute.specs.declared.lost_game.LostTurn.TheVariants as turn
use Rattle.ml_refute.specs.private.Found.{IsSpreadAt, IsTurnAt, position_at}

-- of the or-node that is open at the position, a side leads to the position that the arena has for it
pub side_more : (g : Graph) (a : Arena) (s : GameSolution) (v w o : ℕ) (side : Side) (x : BranchList)
    → x.graph ≡ g
    → x.sequent ≡ (position_at g a v).sequent
    → IsSpreadAt g a v x.spread
    → IsTurnAt g a s v (turn.Open o)
    → position_at g a w ≡ with_chosen g (position_at g a v) o side
    → IsSpreadOf x.graph x.sequent x.spread.choice x.spread
    × IsOpenOr x.graph x.spread o
    × (x.sequent ≡ (position_at g a w).sequent)
    × (with_side x.spread.choice o side ≡ (position_at g a w).choice)
side_more g a s v w o side x graph sequent at open_at place =
    let p = position_at g a v in
    let same = same_spread g p.sequent p.choice open_at.spread x.spread open_at.is_spread at.of in
    let is_open : IsOpenOr g x.spread o = subst (λ (sp : SpreadList). IsOpenOr g sp o) same open_at.holds.1.is_open in
    let own : IsSpreadOf g x.sequent x.spread.choice x.spread =
    subst (λ ns. IsSpreadOf g ns x.spread.choice x.spread) (sym sequent)
    (subst (λ c. IsSpreadOf g p.sequent c x.spread) (sym at.of.choice) at.of) in (
      subst (λ h. IsSpreadOf h x.sequent x.spread.choice x.spread) (sym graph) own,
      subst (λ h. IsOpenOr h x.spread o) (sym graph) is_open,
      sequent ∙ ap (λ (q : Position). q.sequent) (sym place),
      ap (λ c. with_side c o side) at.of.choice ∙ ap (λ (q : Position). q.choice) (sym place),
    )

-- the branch with this side has the spread of that position
pub spread_more : (g h : Graph) (a : Arena) (w o : ℕ) (side : Side) (C : List ℕ) (sp sp2 : SpreadList)
    → h ≡ g
    → IsSpreadOf h C sp.choice sp
    → C ≡ (position_at g a w).sequent
    → with_side sp.choice o side ≡ (position_at g a w).choice
    → ((D : List ℕ) → IsSpreadOf h D sp.choice sp → IsSpreadOf h D (with_side sp.choice o side) sp2)
    → IsSpread h sp2
    → IsSpreadAt g a w sp2
spread_more g h a w o side C sp sp2 graph is sequent choice longer own = record {
  is = subst (λ k. IsSpread k sp2) graph own;
  of = subst (λ k. IsSpreadOf k (position_at g a w).sequent (position_at g a w).choice sp2) graph
      (subst (λ c. IsSpreadOf h (position_at g a w).sequent c sp2) choice
      (subst (λ ns. IsSpreadOf h ns (with_side sp.choice o side) sp2) sequent (longer C is)));
}

-- the branch that was begun has the spread of a position without a choice
pub begun_spread : (g h : Graph) (a : Arena) (v : ℕ) (C : List ℕ) (sp : SpreadList)
    → h ≡ g
    → C ≡ (position_at g a v).sequent
    → (position_at g a v).choice ≡ []
    → IsSpread h sp
    → IsSpreadOf h C [] sp
    → IsSpreadAt g a v sp
begun_spread g h a v C sp graph sequent none own is = record {
  is = subst (λ k. IsSpread k sp) graph own;
  of = subst (λ k. IsSpreadOf k (position_at g a v).sequent (position_at g a v).choice sp) graph
      (subst (λ c. IsSpreadOf h (position_at g a v).sequent c sp) (sym none)
      (subst (λ ns. IsSpreadOf h ns [] sp) sequent is));
}

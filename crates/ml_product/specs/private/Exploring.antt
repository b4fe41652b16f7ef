-- The steps of the exploration.
--
--   AreTerms g t       == t has the odd priorities of g, and its neutral priority
--   Explores g limit b == what a pool keeps while g is explored: its positions are reached, and at most limit
--   IsNumbered         == a position got a number, and there are no more positions than are allowed
--   HasNoRoom          == it is a new one, and there are as many positions as are allowed
--   at_place g ps v    == the position at place v of ps; past the end, where nobody asks, the start
--   Becomes g limit a b == the pool a has become b, which keeps what it has to
--   IsAt g limit b v sp == sp is the spread of the position at v
--   target_of x        == the target that is the position made as x
--   IsLed              == the vertices are those of the moves from the position at v, along diamonds
--   IsTurned           == the pool that was has become that which is, and what is found at the position at v was recorded
--   Extends c d        == all sides of c are sides of d
--   IsBelow p q        == q has the sequent and the history of p, and all of its sides
--   HasNoneBelow ps p  == no other choice below p is among ps
--   AddsBelow ps p qs  == those of qs that aren't among ps have no choice, or are below p
--   AddsUnchosen g ps b == no side is chosen at the positions that are new
--   IsEnded            == so it was, and no side is chosen next
--   IsOpened           == so it was, and sides are chosen at this or-node, which leads to these numbers
--   IsOpen             == sides are to be chosen at this or-node
--   IsTurnOf           == no side is chosen next, or sides are to be chosen
--   IsWaiting rs v     == nothing was recorded yet of the position at v
--   Records rs v r ts  == ts is rs with r recorded at v
--   Repeats rs v w ts  == ts is rs with what was found at the position at w recorded at v
--   IsUnderway g limit b rs == what was recorded so far is right
--   AreWaiting g b rs ws == a position of which nothing was recorded is one of ws, or has no choice
--   IsExplored g limit b rs v d ts == the exploration went on from the position at v, until nothing waits behind it but
--                         positions without a choice
--   IsRoot xs rs s w   == the exploration went on from the position at w, which has no choice, and the sequent and the
--                         history of s
--   AreRooted xs rs ks ns == it went on from a position with the sequent and the history of each that has a choice; their
--                         numbers are ks, with those of the positions, ns
--   IsStarted g b      == the pool has the start alone
--   arena_of b rs      == the arena of the pool with what was recorded
--   AreTurned          == so it was for all positions with numbers below that of what was recorded
use Rattle.std.specs.Prelude.{ℕ, ◌≡◌, ◌<◌, ◌≤◌, ◌⊎◌, List, [], ◌∷◌, length, map, slice_get, get_or, Some}
use Rattle.std.specs.Global.{Vec}
use Rattle.ml_lists.specs.Member.{IsMember}
use Rattle.ml_graph.specs.Graph.{Graph, odd_priorities}
use Rattle.ml_sequent.specs.declared.choice.Side.{Side}
use Rattle.ml_sequent.specs.declared.choice.Side.TheVariants.{Left, Right}
use Rattle.ml_sequent.specs.Choice.{side_of}
use Rattle.ml_sequent.specs.Spread.{SpreadList, IsSpreadOf, IsCause, IsOpenOr, IsLeastOpenOr}
use Rattle.ml_sequent.specs.declared.clashes.ClashCause.{ClashCause}
use Rattle.ml_product.specs.Position.{Position, start_of, neutral, with_chosen}
use Rattle.ml_product.specs.DecisionGame.{Target, To, IsReached}
use Rattle.ml_product.specs.Arena.{Arena}
use Rattle.ml_product.specs.declared.following.Terms.{Terms}
use Rattle.ml_product.specs.declared.pool.Fresh.{Fresh}
use Rattle.ml_product.specs.declared.pool.Pool.{Pool}
use Rattle.ml_product.specs.declared.recorded.Recorded.{Recorded}
use Rattle.ml_product.specs.declared.recorded.Recorded.TheVariants as recorded
use Rattle.ml_product.specs.declared.stored.Site.{Site}
use Rattle.ml_product.specs.declared.turns.Turn.{Turn}
use Rattle.ml_product.specs.declared.turns.Turn.TheVariants as turn
use Rattle.ml_product.specs.private.Numbers.{IsTopAt}
use Rattle.ml_product.specs.Placed.{Placed}
use Rattle.ml_product.specs.private.Links.{site_of}
use Rattle.ml_product.specs.private.Pools.{positions_of, position_of, KeepsPool, IsLonger}
use Rattle.ml_lists.specs.Added.{IsAdded}
use Rattle.ml_product.specs.private.Recorded.{owner_of, moves_of, IsLike, IsRecorded}

-- the odd priorities of the graph, and its neutral priority
pub record AreTerms (g : Graph) (t : Terms) : Type 0 where
  pub odds : t.odds.items ≡ odd_priorities g
  pub neutral_is : t.neutral ≡ neutral g

-- what a pool keeps while the graph is explored
pub record Explores (g : Graph) (limit : ℕ) (b : Pool) : Type 0 where
  pub is_pool : KeepsPool b
  pub are_reached : (p : Position) → IsMember p (positions_of b) → IsReached g p
  pub few : length (positions_of b) ≤ limit

-- a position got a number
pub record IsNumbered (limit : ℕ) (a : Pool) (p : Position) (b : Pool) (v : ℕ) : Type 0 where
  pub is_pool : KeepsPool b
  pub added : IsAdded (positions_of a) p (positions_of b) v
  pub stored : IsLonger a.positions b.positions
  pub few : length (positions_of b) ≤ limit

-- it is a new one, and there are as many as are allowed
pub record HasNoRoom (limit : ℕ) (ps : List Position) (p : Position) : Type 0 where
  pub full : length ps ≡ limit
  pub is_new : ¬ (IsMember p ps)

-- the position at a place
abbrev pub at_place : Graph → List Position → ℕ → Position
at_place g ps v = get_or ps v (start_of g)

-- the pool that was has become that which is
pub record Becomes (g : Graph) (limit : ℕ) (a b : Pool) : Type 0 where
  pub explores : Explores g limit b
  pub longer : IsLonger (positions_of a) (positions_of b)
  pub stored : IsLonger a.positions b.positions

-- the spread is that of the position at v
pub record IsAt (g : Graph) (limit : ℕ) (b : Pool) (v : ℕ) (sp : SpreadList) : Type 0 where
  pub explores : Explores g limit b
  pub number : v < length (positions_of b)
  pub is_spread : IsSpreadOf g (at_place g (positions_of b) v).sequent (at_place g (positions_of b) v).choice sp

-- the target of a position that was made
abbrev pub target_of : Fresh → Target
target_of x = To (position_of x)

-- all sides that are chosen in the one choice are in the other
abbrev pub Extends : List (ℕ × Side) → List (ℕ × Side) → Type 0
Extends c d = (n : ℕ) (s : Side) → side_of c n ≡ Some s → side_of d n ≡ Some s

-- q has the sequent and the history of p, and all of its sides
pub record IsBelow (p q : Position) : Type 0 where
  pub sequent : q.sequent ≡ p.sequent
  pub history : q.history ≡ p.history
  pub sides : Extends p.choice q.choice

-- no position has more sides than p
abbrev pub HasNoneBelow : List Position → Position → Type 0
HasNoneBelow ps p = (q : Position) → IsMember q ps → IsBelow p q → q.choice ≡ p.choice

-- those that are new have no choice, or all sides of p
abbrev pub AddsBelow : List Position → Position → List Position → Type 0
AddsBelow ps p qs = (q : Position) → IsMember q qs → IsMember q ps ⊎ (q.choice ≡ []) ⊎ IsBelow p q

-- no side is chosen at the positions that are new
abbrev pub AddsUnchosen : Graph → List Position → Pool → Type 0
AddsUnchosen g ps b = (w : ℕ) → length ps ≤ w → w < length (positions_of b) →
    (at_place g (positions_of b) w).choice ≡ []

-- and the vertices are those of the moves from the position at v, along diamonds
pub record IsLed (g : Graph) (limit : ℕ) (a : Pool) (v : ℕ) (b : Pool) (vs : Vec ℕ) : Type 0 where
  pub becomes : Becomes g limit a b
  pub recorded : IsRecorded g (positions_of b) (at_place g (positions_of a) v) (recorded.Led vs)
  pub unchosen : AddsUnchosen g (positions_of a) b

-- and what is found at the position at v was recorded
pub record IsTurned (g : Graph) (limit : ℕ) (a : Pool) (v : ℕ) (b : Pool) (r : Recorded) : Type 0 where
  pub becomes : Becomes g limit a b
  pub recorded : IsRecorded g (positions_of b) (at_place g (positions_of a) v) r

-- and no side is chosen next
pub record IsEnded (g : Graph) (limit : ℕ) (a : Pool) (v : ℕ) (b : Pool) (r : Recorded) : Type 0 where
  pub turned : IsTurned g limit a v b r
  pub is_found : r ≡ recorded.Waiting → ⊥
  pub unchosen : AddsUnchosen g (positions_of a) b

-- and sides are chosen at this or-node, which leads to these numbers
pub record IsOpened (g : Graph) (limit : ℕ) (a : Pool) (v : ℕ) (sp : SpreadList) (b : Pool)
    (node l r : ℕ) : Type 0 where
  pub turned : IsTurned g limit a v b (recorded.Chosen (l ∷ r ∷ []))
  pub is_open : IsOpenOr g sp node
  pub left : slice_get (positions_of b) l ≡ Some (with_chosen g (at_place g (positions_of a) v) node Left)
  pub right : slice_get (positions_of b) r ≡ Some (with_chosen g (at_place g (positions_of a) v) node Right)
  pub only : (w : ℕ) → length (positions_of a) ≤ w → w < length (positions_of b) → (w ≡ l) ⊎ (w ≡ r)

-- sides are to be chosen at this or-node
pub record IsOpen (g : Graph) (sp : SpreadList) (node : ℕ) : Type 0 where
  pub no_clash : (x : ClashCause) → ¬ (IsCause g sp x)
  pub least : IsLeastOpenOr g sp node

-- no side is chosen next, or sides are to be chosen
abbrev pub IsTurnOf : Graph → ℕ → Pool → ℕ → SpreadList → Pool → Turn → Type 0
IsTurnOf g limit a v sp b (turn.Ended r) = IsEnded g limit a v b r
IsTurnOf g limit a v sp b (turn.Open node) = IsOpen g sp node × (b ≡ a)

-- nothing was recorded yet of the position at v
abbrev pub IsWaiting : List Recorded → ℕ → Type 0
IsWaiting rs v = get_or rs v recorded.Waiting ≡ recorded.Waiting

-- ts is rs with r recorded at v
pub record Records (rs : List Recorded) (v : ℕ) (r : Recorded) (ts : List Recorded) : Type 0 where
  pub here : get_or ts v recorded.Waiting ≡ r
  pub others : (w : ℕ) → (w ≡ v → ⊥) → get_or ts w recorded.Waiting ≡ get_or rs w recorded.Waiting
  pub few : (n : ℕ) → length rs ≤ n → v < n → length ts ≤ n

-- ts is rs with what was found at the position at w recorded at v
pub record Repeats (rs : List Recorded) (v w : ℕ) (ts : List Recorded) : Type 0 where
  pub found : Recorded
  pub like : IsLike found (get_or rs w recorded.Waiting)
  pub records : Records rs v found ts

-- what was recorded so far is right
pub record IsUnderway (g : Graph) (limit : ℕ) (b : Pool) (rs : List Recorded) : Type 0 where
  pub explores : Explores g limit b
  pub starts : slice_get (positions_of b) 0 ≡ Some (start_of g)
  pub within : length rs ≤ length (positions_of b)
  pub recorded : (v : ℕ) → (IsWaiting rs v → ⊥)
      → IsRecorded g (positions_of b) (at_place g (positions_of b) v) (get_or rs v recorded.Waiting)

-- a position of which nothing was recorded is one of ws, or has no choice
abbrev pub AreWaiting : Graph → Pool → List Recorded → List ℕ → Type 0
AreWaiting g b rs ws = (v : ℕ) → v < length (positions_of b) → IsWaiting rs v
    → IsMember v ws ⊎ ((at_place g (positions_of b) v).choice ≡ [])

-- the exploration went on from the position at v
pub record IsExplored (g : Graph) (limit : ℕ) (b : Pool) (rs : List Recorded) (v : ℕ) (d : Pool)
    (ts : List Recorded) : Type 0 where
  pub underway : IsUnderway g limit d ts
  pub longer : IsLonger (positions_of b) (positions_of d)
  pub stored : IsLonger b.positions d.positions
  pub kept : (w : ℕ) → (IsWaiting rs w → ⊥) → IsWaiting ts w → ⊥
  pub done : IsWaiting ts v → ⊥
  pub waiting : (ws : List ℕ) → AreWaiting g b rs (v ∷ ws) → AreWaiting g d ts ws
  pub adds : AddsBelow (positions_of b) (at_place g (positions_of b) v) (positions_of d)

-- the exploration went on from the position at w, which has no choice, and the sequent and the history of s
pub record IsRoot (xs : List Placed) (rs : List Recorded) (s : Site) (w : ℕ) : Type 0 where
  pub is_top : IsTopAt site_of xs s w
  pub found : IsWaiting rs w → ⊥

-- the table has the sequent and the history of each position with a choice, and the numbers of roots
pub record AreRooted (xs : List Placed) (rs : List Recorded) (ks : List Site) (ns : List ℕ) : Type 0 where
  pub even : length ks ≡ length ns
  pub roots : (i : ℕ) (s : Site) → slice_get ks i ≡ Some s → IsRoot xs rs s (get_or ns i 0)
  pub all : (v : ℕ) (x : Placed) → slice_get xs v ≡ Some x → (x.choice ≡ [] → ⊥) → IsMember (site_of x) ks

-- so it was for all positions with numbers below that of what was recorded
pub record AreTurned (g : Graph) (limit : ℕ) (b : Pool) (rs : List Recorded) : Type 0 where
  pub explores : Explores g limit b
  pub starts : slice_get (positions_of b) 0 ≡ Some (start_of g)
  pub within : length rs ≤ length (positions_of b)
  pub recorded : (v : ℕ) → v < length rs
      → IsRecorded g (positions_of b) (at_place g (positions_of b) v) (get_or rs v recorded.Lost)

-- the pool has the start alone
pub record IsStarted (g : Graph) (b : Pool) : Type 0 where
  pub is_pool : KeepsPool b
  pub alone : positions_of b ≡ start_of g ∷ []

-- the arena of what was recorded
abbrev pub arena_of : Pool → List Recorded → Arena
arena_of b rs = record {
  positions = positions_of b;
  owners = map owner_of rs;
  moves = map (moves_of (length (positions_of b))) rs;
}

-- When an automaton follows another one.
--
-- Of two automata over the same propositions, some states of the second one follow states of the first, at a rank. Under each
-- letter, each edge of the state that is followed is answered by one of the state that follows: to a state that follows the
-- target, and either it accepts, or the rank doesn't rise there, and falls where the edge that is answered accepts. So a run
-- that accepts again and again is answered by one that does, since ranks can't fall for ever. Where all ranks are alike, an
-- answer accepts whenever what it answers does: that is direct simulation. In general it is fair simulation, with the ranks of
-- a progress measure.
--
--   rank_of ranks p x         == the rank at which the state x follows the state p, if it does
--   Falls r s b c             == from the rank r to s an edge that accepts as c says may answer one that does so as b says
--   Answers ranks r e f       == from the rank r the edge f answers the edge e
--   IsAnswered ranks r props letter e fs == under the letter some edge of fs does
--   AreAnswered ranks r es fs == so each of es is answered under each letter that it fits
--   Follows ranks rows others == where the ranks say that a state follows another one, it does
use Rattle.std.specs.Prelude.{ℕ, ◌≡◌, ◌<◌, ◌≤◌, ◌⊎◌, Bool, true, List, [], length, map, get_or, Option, None, Some}
use Rattle.std.specs.Global.{Vec}
use Rattle.ml_lists.specs.Member.{IsMember}
use Rattle.ml_labelled.specs.Labelled.{Edge, Fits, Letter}
use Rattle.ml_labelled.specs.declared.following.Ranks.{Ranks}

abbrev pub row_items : Vec (Option ℕ) → List (Option ℕ)
row_items row = row.items

abbrev pub rank_of : Ranks → ℕ → ℕ → Option ℕ
rank_of ranks p x = get_or (get_or (map row_items ranks.rows.items) p []) x None

-- ---- answers

abbrev pub Falls : (r s : ℕ) (followed follows : Bool) → Type 0
Falls r s followed follows = (follows ≡ true) ⊎ ((s ≤ r) × (followed ≡ true → s < r))

pub record Answers (ranks : Ranks) (r : ℕ) (e f : Edge) : Type 0 where
  pub rank : ℕ
  pub is_rank : rank_of ranks e.to f.to ≡ Some rank
  pub falls : Falls r rank e.accepting f.accepting

pub record IsAnswered (ranks : Ranks) (r : ℕ) (props : List (List ℕ)) (letter : Letter) (e : Edge) (fs : List Edge) : Type 0 where
  pub edge : Edge
  pub is_edge : IsMember edge fs
  pub fits : Fits props letter edge.cube
  pub answers : Answers ranks r e edge

abbrev pub Answered : Ranks → ℕ → Edge → List Edge → Type 0
Answered ranks r e fs =
    (props : List (List ℕ)) (letter : Letter) → Fits props letter e.cube → IsAnswered ranks r props letter e fs

abbrev pub AreAnswered : Ranks → ℕ → (es fs : List Edge) → Type 0
AreAnswered ranks r es fs = (e : Edge) → IsMember e es → Answered ranks r e fs

-- ---- all pairs

abbrev pub PairFollows : Ranks → (p x : ℕ) → (es fs : List Edge) → Type 0
PairFollows ranks p x es fs = (r : ℕ) → rank_of ranks p x ≡ Some r → AreAnswered ranks r es fs

abbrev pub StateFollowed : Ranks → ℕ → List Edge → List (List Edge) → Type 0
StateFollowed ranks p es others = (x : ℕ) → x < length others → PairFollows ranks p x es (get_or others x [])

abbrev pub Follows : Ranks → (rows others : List (List Edge)) → Type 0
Follows ranks rows others = (p : ℕ) → p < length rows → StateFollowed ranks p (get_or rows p []) others

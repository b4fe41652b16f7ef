-- Who wins each vertex: the determinacy law, in the form that later proofs cite.
--
-- A parity game has a map of its winners and one choice for both players: each vertex is won by the player whom the map
-- names, by that choice, and by nobody else. Nobody else, since a strategy of each player from one vertex make together
-- a play that both follow, and it has one winner. All theorems about winning are proved of the map, which is a function.
--
--   clash      == strategies of two opponents do not both win from a vertex
--   Winners g  == the winners of g as a map, with one choice for both players
--   winners    == each parity game has it
--   law        == the determinacy law
use Rattle.std.proofs.Common.{ℕ, ◌≡◌, ◌<◌, cond, ◌⊎◌, inl, inr, ⊎_elim, arith, subst, sym, ◌∙◌, get_or, ltb-true, lt-ltb}
use Rattle.std.proofs.lemmas.Bool.{cond-true, cond-false}
use Rattle.ml_lists.specs.Lasso.{round}
use Rattle.ml_lists.proofs.Counting.{count_le}
use Rattle.ml_lists.proofs.Walks.{WalkLasso, walk_lasso}
use Rattle.ml_parity.specs.declared.players.Player.{Player}
use Rattle.ml_parity.specs.declared.players.Player.TheVariants.{Even}
use Rattle.ml_parity.specs.Player.{opponent}
use Rattle.ml_parity.specs.Game.{ParityGame, IsGame, HasMove, owner_of, moves_of, size}
use Rattle.ml_parity.specs.Winner.{IsPlay, WinsFrom, Wins}
use Rattle.ml_parity.specs.Law.{DeterminacyLaw}
use Rattle.ml_parity.specs.private.Sinks.{Holds, GoodMove, Solution}
use Rattle.ml_parity.specs.private.SinkGame.{board_of}
use Rattle.ml_parity.proofs.Opponents.{cases_player, no_own_opponent, same_player, same_player-true, same_player-false}
use Rattle.ml_parity.proofs.Sinks.{solution}
use Rattle.ml_parity.proofs.Boards.{decides, first_move, all_live, solution_wins}

-- ---- two strategies together

-- the choice of s at the vertices of p, and that of t at the others
abbrev pub together : ParityGame → Player → (ℕ → ℕ) → (ℕ → ℕ) → ℕ → ℕ
together g p s t x = cond (same_player (owner_of g x) p) (s x) (t x)

-- at a vertex of p's it is the choice of s
pub together-own : (g : ParityGame) (p : Player) (s t : ℕ → ℕ) (x : ℕ) → owner_of g x ≡ p → together g p s t x ≡ s x
together-own g p s t x own = cond-true (same_player (owner_of g x) p) (s x) (t x)
    (same_player-true (owner_of g x) p own)

-- at a vertex of the opponent's it is the choice of t
pub together-other : (g : ParityGame) (p : Player) (s t : ℕ → ℕ) (x : ℕ) → owner_of g x ≡ opponent p
    → together g p s t x ≡ t x
together-other g p s t x own =
    cond-false (same_player (owner_of g x) p) (s x) (t x)
    (same_player-false (owner_of g x) p (λ o. no_own_opponent p (sym o ∙ own)))

-- strategies of two opponents do not both win from a vertex
pub clash : (g : ParityGame) → IsGame g → (p : Player) (v : ℕ) → v < size g → Wins g p v → Wins g (opponent p) v → ⊥
clash g ok p v low a b = from (walk_lasso next (λ x. x < size g) (size g) (λ x h. h)
    (λ x h. ok.in_range x (next x) (move x h)) v low)
  where
    next : ℕ → ℕ
    next = together g p a.strategy b.strategy

    move : (x : ℕ) → x < size g → HasMove g x (next x)
    move x below = ⊎_elim
        (λ (own : owner_of g x ≡ p). subst (HasMove g x) (sym (together-own g p a.strategy b.strategy x own))
        (a.is_strategy x below own))
        (λ (own : owner_of g x ≡ opponent p).
        subst (HasMove g x) (sym (together-other g p a.strategy b.strategy x own)) (b.is_strategy x below own))
        (cases_player (owner_of g x) p)

    from : WalkLasso next (λ x. x < size g) v → ⊥
    from l =
        let play : IsPlay g l.lasso = record {
          starts = l.starts;
          joined = λ k below. subst (HasMove g (get_or (round l.lasso) k 0)) (sym (l.steps k below))
              (move (get_or (round l.lasso) k 0) (l.inside k (omega arith)));
        } in
        let for_p = a.wins l.lasso play l.begins
        (λ k below own. l.steps k below
        ∙ together-own g p a.strategy b.strategy (get_or (round l.lasso) k 0) own) in
        let for_other = b.wins l.lasso play l.begins
        (λ k below own. l.steps k below
        ∙ together-other g p a.strategy b.strategy (get_or (round l.lasso) k 0) own) in
        no_own_opponent p (sym for_p ∙ for_other)

-- ---- the winners as a map

-- the winners of g as a map, with one choice for both players, which is a move at each vertex
pub record Winners (g : ParityGame) : Type 0 where
  pub win : ℕ → Player
  pub choice : ℕ → ℕ
  pub moves : (v : ℕ) → v < size g → HasMove g v (choice v)
  pub wins : (v : ℕ) → v < size g → WinsFrom g (win v) choice v
  pub keeps : (v : ℕ) → v < size g → Holds (board_of g) win (win v) (choice v) v
  pub only : (v : ℕ) (p : Player) → v < size g → Wins g p v → win v ≡ p

-- the choice of a solution where the owner wins, and the first successor elsewhere
abbrev pub filled : ParityGame → (ℕ → Player) → (ℕ → ℕ) → ℕ → ℕ
filled g win s v = cond (same_player (owner_of g v) (win v)) (s v) (get_or (moves_of g v) 0 0)

pub filled-own : (g : ParityGame) (win : ℕ → Player) (s : ℕ → ℕ) (v : ℕ) → owner_of g v ≡ win v
    → filled g win s v ≡ s v
filled-own g win s v own = cond-true (same_player (owner_of g v) (win v)) (s v) (get_or (moves_of g v) 0 0)
    (same_player-true (owner_of g v) (win v) own)

pub filled-other : (g : ParityGame) (win : ℕ → Player) (s : ℕ → ℕ) (v : ℕ) → owner_of g v ≡ opponent (win v)
    → filled g win s v ≡ get_or (moves_of g v) 0 0
filled-other g win s v own =
    cond-false (same_player (owner_of g v) (win v)) (s v) (get_or (moves_of g v) 0 0)
    (same_player-false (owner_of g v) (win v) (λ o. no_own_opponent (win v) (sym o ∙ own)))

-- a map that is right about each vertex leaves nobody else
only_winner : (g : ParityGame) → IsGame g → (win : ℕ → Player) (choice : ℕ → ℕ)
    → ((v : ℕ) → v < size g → HasMove g v (choice v)) → ((v : ℕ) → v < size g → WinsFrom g (win v) choice v)
    → (v : ℕ) (p : Player) → v < size g → Wins g p v → win v ≡ p
only_winner g ok win choice moves wins v p low a = by_case (cases_player (win v) p)
  where
    by_case : (win v ≡ p) ⊎ (win v ≡ opponent p) → win v ≡ p
    by_case (inl same) = same
    by_case (inr other) = absurd (clash g ok p v low a (record {
      strategy = choice;
      is_strategy = λ x below own. moves x below;
      wins = subst (λ q. WinsFrom g q choice v) other (wins v low);
    }))

-- each parity game has its winners as a map
pub winners : (g : ParityGame) → IsGame g → Winners g
winners g ok = from (solution (board_of g) (decides g) (size g) (size g) (all_live g) (λ v. Even)
    (count_le (all_live g) (size g)) (λ v alive. ltb-true v (size g) alive))
  where
    from : Solution (board_of g) (all_live g) (λ v. Even) → Winners g
    from r = record {
      win = r.win;
      choice = choice;
      moves = moves;
      wins = wins;
      keeps = keeps;
      only = only_winner g ok r.win choice moves wins;
    }
      where
        choice : ℕ → ℕ
        choice = filled g r.win r.choice

        held : (v : ℕ) → v < size g → Holds (board_of g) r.win (r.win v) (r.choice v) v
        held v low = r.solves.keeps v (lt-ltb v (size g) low)

        moves : (v : ℕ) → v < size g → HasMove g v (choice v)
        moves v low = ⊎_elim
            (λ (own : owner_of g v ≡ r.win v).
            subst (HasMove g v) (sym (filled-own g r.win r.choice v own)) ((held v low).own own).move)
            (λ (own : owner_of g v ≡ opponent (r.win v)). subst (HasMove g v)
            (sym (filled-other g r.win r.choice v own)) (first_move g ok v low))
            (cases_player (owner_of g v) (r.win v))

        keeps : (v : ℕ) → v < size g → Holds (board_of g) r.win (r.win v) (choice v) v
        keeps v low = record {
          own = λ own. subst (λ x. GoodMove (board_of g) r.win (r.win v) x v) (sym (filled-own g r.win r.choice v own))
              ((held v low).own own);
          other = (held v low).other;
        }

        wins : (v : ℕ) → v < size g → WinsFrom g (r.win v) choice v
        wins = solution_wins g ok (λ v. Even) r.win r.choice choice r.solves
            (λ v low own. filled-own g r.win r.choice v own)

-- a vertex is won by whom the map names
pub won : (g : ParityGame) (w : Winners g) (p : Player) (v : ℕ) → v < size g → w.win v ≡ p → Wins g p v
won g w p v low is = record {
  strategy = w.choice;
  is_strategy = λ x below own. w.moves x below;
  wins = subst (λ q. WinsFrom g q w.choice v) is (w.wins v low);
}

-- each vertex is won by the one player or by the other
pub won_by_either : (g : ParityGame) → IsGame g → (p : Player) (v : ℕ) → v < size g
    → Wins g p v ⊎ Wins g (opponent p) v
won_by_either g ok p v low =
    let w = winners g ok in
    ⊎_elim (λ (mine : w.win v ≡ p). inl (won g w p v low mine))
    (λ (other : w.win v ≡ opponent p). inr (won g w (opponent p) v low other)) (cases_player (w.win v) p)

-- each parity game is determined, with positional strategies
pub law : DeterminacyLaw
law g ok = record {
  one = won_by_either g ok Even;
  not_both = clash g ok Even;
  best = λ p. record {
    strategy = (winners g ok).choice;
    is_strategy = λ x below own. (winners g ok).moves x below;
    wins = λ v low a. subst (λ q. WinsFrom g q (winners g ok).choice v) ((winners g ok).only v p low a)
        ((winners g ok).wins v low);
  };
}

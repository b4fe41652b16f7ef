-- The game of ways.
--
-- From a vertex that is claimed for a player its moves are the ways, and all belong to the opponent. So the player wins such a
-- vertex exactly where each lasso of ways from it has a lowest priority that is good for the player.
--
--   ways_go_on, ways_low == each vertex has a way or a move, and all lead to vertices
--   is_game              == so it is a game
--   move_of_way, way_of_move == from a vertex with a claim the moves are the ways
--   leads                == a way leads to a vertex that is claimed for the same player
--   no_bad_cycle         == where each player wins what is claimed for the player, no claim breaks the fourth rule
--   lost_breaks          == from a vertex that the opponent wins, the choices lead to a cycle on which the fourth rule is
--                           broken
use Rattle.std.proofs.Common.{ℕ, zero, suc, ◌≡◌, ◌+◌, ◌<◌, ◌≤◌, ◌⊎◌, List, [], ◌∷◌, Option, Some, None, length, get_or, inl, inr, ⊎_elim, refl, sym, ap, ◌∙◌, subst, subst₂, arith}
use Rattle.std.specs.Global.{Vec}
use Rattle.std.specs.List.{Contains}
use Rattle.std.specs.Prelude.{MatchOption}
use Rattle.std.proofs.lemmas.Bool.{cases_lt}
use Rattle.std.proofs.lemmas.List.{get_or_default, get_or_past}
use Rattle.ml_lists.specs.Lasso.{Lasso, entry, lowest_on_loop, round}
use Rattle.ml_lists.specs.Walk.{walk}
use Rattle.ml_lists.proofs.Lasso.{lasso_of, lasso_of-entry, lasso_of-length, lasso_of-round, lasso_of_is, lowest_on_loop_is, round-entry}
use Rattle.ml_lists.proofs.Members.{contains_cases, contains_head, contains_none}
use Rattle.ml_lists.proofs.Walks.{walk-add-one}
use Rattle.ml_parity.specs.declared.players.Player.{Player}
use Rattle.ml_parity.specs.declared.players.Player.TheVariants.{Even, Odd}
use Rattle.ml_parity.specs.Game.{ParityGame, IsGame, HasMove, moves_of, owner_of, priority_of, size}
use Rattle.ml_parity.specs.Player.{opponent, side}
use Rattle.ml_parity.specs.Refusal.{game_of, lists_of}
use Rattle.ml_parity.specs.Solution.{GameSolution, IsSolution, choice_at, winner_at}
use Rattle.ml_parity.specs.Winner.{WinsFrom, winner}
use Rattle.ml_parity.proofs.AlongPlays.{kept_by_move}
use Rattle.ml_parity.proofs.Opponents.{cases_player, is_or_not, no_own_opponent}
use Rattle.ml_game_check.specs.RightClaims.{BreaksFour, Claims, IsClaimed, IsMoved, IsWay, claim, claim_at}
use Rattle.ml_game_check.specs.private.Cycles.{IsLowestFrom}
use Rattle.ml_game_check.specs.private.Early.{KeepsEarly}
use Rattle.ml_game_check.specs.private.Fourth.{TellsFour}
use Rattle.ml_game_check.specs.private.WayGame.{AreOwners, AreWays, IsLost, IsWayGame, LeadsRound, one_or, own_move, way_owner, ways_of}
use Rattle.ml_game_check.specs.declared.claims.Claim.{Claim}
use Rattle.ml_game_check.proofs.FirstRules.{claimed_low, kept}
use Rattle.ml_game_check.proofs.OfSolutions.{same_move as same_move_to, same_number}
use Rattle.ml_game_check.proofs.Rounds.{Round, lowest_round}
use Rattle.ml_game_check.proofs.Won.{claimed_or_not, has_move_or_not}

ways_own : (p : Player) (w : ℕ) (moves : List ℕ) → one_or (own_move p p (Some w)) moves ≡ w ∷ []
ways_own Even w moves = refl
ways_own Odd w moves = refl

ways_other : (o p : Player) (to : Option ℕ) (moves : List ℕ) → (o ≡ p → ⊥) → one_or (own_move o p to) moves ≡ moves
ways_other Even Even to moves other = absurd (other refl)
ways_other Even Odd to moves other = refl
ways_other Odd Even to moves other = refl
ways_other Odd Odd to moves other = absurd (other refl)

only : (w x : ℕ) → Contains (w ∷ []) x → x ≡ w
only w x has = ⊎_elim (λ (same : w ≡ x). sym same) (λ (none : Contains [] x). absurd (contains_none x none)) (contains_cases w [] x has)

module _ (g : ParityGame) (cs : Claims) (ok : IsGame g) (early : KeepsEarly g cs) where
  pub low : (p : Player) (v : ℕ) → IsClaimed cs p v → v < size g
  low p v claimed = omega (arith, claimed_low cs p v claimed, early.places)

  leads : (p : Player) (v w : ℕ) → IsWay g cs p v w → IsClaimed cs p w
  leads p v w way =
      ⊎_elim (λ (is : IsClaimed cs p w). is)
      (λ (none : ¬ (IsClaimed cs p w)). absurd (kept g cs early v (inr (inr (p, (w, way, none))))))
      (claimed_or_not cs p w)

  -- what the ways from a vertex that is claimed for p are
  data Ways (p : Player) (v : ℕ) : List ℕ → Type 0 where
    one : (w : ℕ) → owner_of g v ≡ p → IsMoved cs p v w → HasMove g v w → Ways p v (w ∷ [])
    all : (owner_of g v ≡ p → ⊥) → Ways p v (moves_of g v)

  ways_are : (p : Player) (v : ℕ) (to : Option ℕ) → claim_at cs v ≡ Some (claim p to)
      → Ways p v (ways_of (owner_of g v) (claim_at cs v) (moves_of g v))
  ways_are p v to is =
      subst (λ o. Ways p v (ways_of (owner_of g v) o (moves_of g v))) (sym is)
      (by_owner to is (is_or_not (owner_of g v) p))
    where
      there : (w : ℕ) → owner_of g v ≡ p → IsMoved cs p v w → HasMove g v w
      there w own moved =
          ⊎_elim (λ (has : HasMove g v w). has)
          (λ (none : ¬ (HasMove g v w)). absurd (kept g cs early v (inr (inl (p, (own, (w, moved, none)))))))
          (has_move_or_not g v w)

      by_owner : (o : Option ℕ) → claim_at cs v ≡ Some (claim p o) → (owner_of g v ≡ p) ⊎ (owner_of g v ≡ p → ⊥)
          → Ways p v (one_or (own_move (owner_of g v) p o) (moves_of g v))
      by_owner None here (inl own) = absurd (kept g cs early v (inl (p, (own, here))))
      by_owner (Some w) here (inl own) =
          subst (Ways p v) (sym (ap (λ q. one_or (own_move q p (Some w)) (moves_of g v)) own ∙ ways_own p w (moves_of g v)))
          (one w own here (there w own here))
      by_owner o here (inr other) = subst (Ways p v) (sym (ways_other (owner_of g v) p o (moves_of g v) other)) (all other)

  -- ---- it is a game

  pub record Good (moves : List ℕ) : Type 0 where
    pub some : 0 < length moves
    pub within : (w : ℕ) → Contains moves w → w < size g

  ways_good : (v : ℕ) → v < size g → Good (ways_of (owner_of g v) (claim_at cs v) (moves_of g v))
  ways_good v below = by_claim (claim_at cs v) refl
    where
      of_ways : (p : Player) (xs : List ℕ) → Ways p v xs → Good xs
      of_ways p _ (one w own moved has) = record {
        some = omega arith;
        within = λ x has_x. subst (λ y. y < size g) (sym (only w x has_x)) (ok.in_range v w has);
      }
      of_ways p _ (all other) = record { some = ok.goes_on v below; within = λ w has. ok.in_range v w has }

      by_claim : (o : Option Claim) → claim_at cs v ≡ o → Good (ways_of (owner_of g v) (claim_at cs v) (moves_of g v))
      by_claim None is =
          subst (λ o. Good (ways_of (owner_of g v) o (moves_of g v))) (sym is)
          (record { some = ok.goes_on v below; within = λ w has. ok.in_range v w has })
      by_claim (Some c) is = of_ways c.winner _ (ways_are c.winner v c.move_to is)

  module _ (h : ParityGame) (is : IsWayGame g cs h) where
    pub moves_good : (v : ℕ) → v < size g → Good (moves_of h v)
    moves_good v below = subst Good (sym (is.moves v below)) (ways_good v below)

    -- ---- moves and ways

    module _ (p : Player) where
      ways_at : (v : ℕ) → IsClaimed cs p v → Ways p v (moves_of h v)
      ways_at v claimed = subst (Ways p v) (sym (is.moves v (low p v claimed))) (ways_are p v claimed.0 claimed.1)

      way_of_move : (v w : ℕ) → IsClaimed cs p v → HasMove h v w → IsWay g cs p v w
      way_of_move v w claimed move = of (moves_of h v) (ways_at v claimed) move
        where
          of : (xs : List ℕ) → Ways p v xs → Contains xs w → IsWay g cs p v w
          of _ (one x own moved has) there =
              (claimed, inl (own, subst (IsMoved cs p v) (sym (only x w there)) moved))
          of _ (all other) there = (claimed, inr (other, there))

      same_move : (v w x : ℕ) → IsMoved cs p v w → IsMoved cs p v x → w ≡ x
      same_move v w x a b = same_number w x (same_move_to p p (Some w) (Some x) (sym a ∙ b))

      move_of_way : (v w : ℕ) → IsWay g cs p v w → HasMove h v w
      move_of_way v w (claimed, how) = of (moves_of h v) (ways_at v claimed) how
        where
          of : (xs : List ℕ) → Ways p v xs
              → ((owner_of g v ≡ p) × IsMoved cs p v w) ⊎ ((owner_of g v ≡ p → ⊥) × HasMove g v w) → Contains xs w
          of _ (one x own moved has) (inl (own_too, here)) = subst (λ y. Contains (y ∷ []) w) (same_move v w x here moved) (contains_head w [])
          of _ (one x own moved has) (inr (other, move)) = absurd (other own)
          of _ (all other) (inl (own, here)) = absurd (other own)
          of _ (all other) (inr (other_too, move)) = move

      owner_is : (v : ℕ) → IsClaimed cs p v → owner_of h v ≡ opponent p
      owner_is v claimed = is.owners v (low p v claimed) ∙ ap (way_owner (owner_of g v)) claimed.1

      not_own : (v : ℕ) → IsClaimed cs p v → owner_of h v ≡ p → ⊥
      not_own v claimed own = no_own_opponent p (sym own ∙ owner_is v claimed)

      same_priority : (v : ℕ) → priority_of h v ≡ priority_of g v
      same_priority v = ap (λ (ps : List ℕ). get_or ps v 0) is.priorities

      module _ (win : ℕ → Player) (next : ℕ → ℕ)
          (chosen : (v : ℕ) → v < size h → HasMove h v (next v))
          (winning : (v : ℕ) → v < size h → WinsFrom h (win v) next v)
        where
          -- where p wins what is claimed for p, no claim for p breaks the fourth rule
          pub no_bad_cycle : ((v : ℕ) → IsClaimed cs p v → win v ≡ opponent p → ⊥) → (v : ℕ) → BreaksFour g cs p v → ⊥
          no_bad_cycle none_lost v (claimed, b) = no_own_opponent p (sym good ∙ ap side lowest_is ∙ b.bad)
            where
              l : Lasso
              l = b.cycle

              at : ℕ → ℕ
              at k = get_or (round l) k 0

              first : IsClaimed cs p (at 0)
              first = (b.ways.joined 0 (omega (arith, b.ways.starts))).0

              won : win (at 0) ≡ p
              won =
                  ⊎_elim (λ (same : win (at 0) ≡ p). same)
                  (λ (other : win (at 0) ≡ opponent p). absurd (none_lost (at 0) first other))
                  (cases_player (win (at 0)) p)

              wins : WinsFrom h p next (at 0)
              wins =
                  subst (λ q. WinsFrom h q next (at 0)) won
                  (winning (at 0) (omega (arith, is.sizes, low p (at 0) first)))

              good : winner h l ≡ p
              good =
                  wins l
                  (record { starts = b.ways.starts; joined = λ k below. move_of_way (at k) (at (k + 1)) (b.ways.joined k below) })
                  (sym (round-entry l 0 (omega (arith, b.ways.starts))))
                  (λ k below own. absurd (not_own (at k) (b.ways.joined k below).0 own))

              lowest_is : lowest_on_loop (priority_of h) l ≡ priority_of g v
              lowest_is = ap (λ (ps : List ℕ). lowest_on_loop (λ x. get_or ps x 0) l) is.priorities ∙ b.lowest

          -- from a vertex that the opponent wins the choices lead to a cycle that is bad for p
          module _ (v : ℕ) (claimed : IsClaimed cs p v) (lost : win v ≡ opponent p) where
            record On (x : ℕ) : Type 0 where
              pub claimed_too : IsClaimed cs p x
              pub wins : WinsFrom h (opponent p) next x

            move : (x : ℕ) → IsClaimed cs p x → HasMove h x (next x)
            move x here = chosen x (omega (arith, is.sizes, low p x here))

            goes_on : (x : ℕ) → On x → On (next x)
            goes_on x on = record {
              claimed_too = leads p x (next x) (way_of_move x (next x) on.claimed_too (move x on.claimed_too));
              wins = kept_by_move h (opponent p) next x (next x) on.wins (move x on.claimed_too) (λ own. refl);
            }

            at_first : On v
            at_first = record {
              claimed_too = claimed;
              wins =
                  subst (λ q. WinsFrom h q next v) lost
                  (winning v (omega (arith, is.sizes, low p v claimed)));
            }

            along : (x : ℕ) → On x → (k : ℕ) → On (walk next x k)
            along x on zero = on
            along x on (suc k) = goes_on (walk next x k) (along x on k)

            pub within : (k : ℕ) → walk next v k < size g
            within k = low p (walk next v k) (along v at_first k).claimed_too

            pub lost_breaks : (x : ℕ) → IsLowestFrom next (priority_of h) (size g) v x → BreaksFour g cs p x
            lost_breaks x lowest = from (lowest_round next (priority_of h) (size g) v x within lowest)
              where
                on : On x
                on = subst On lowest.there (along v at_first lowest.steps)

                from : Round next (priority_of h) x → BreaksFour g cs p x
                from r = (
                  on.claimed_too,
                  record {
                    cycle = l;
                    ways = lasso_of_is (IsWay g cs p) c 0 r.length_of r.some (sym r.closed)
                        (λ k below. subst (IsWay g cs p (c k)) (sym (walk-add-one next x k))
                        (way_of_move (c k) (next (c k)) (along x on k).claimed_too (move (c k) (along x on k).claimed_too)));
                    place = 0;
                    on_loop = omega arith;
                    in_list = omega (arith, r.some, lasso_of-length c 0 r.length_of);
                    here = first;
                    lowest = lowest_of (priority_of g) (λ k. subst₂ (λ a b. a ≤ b) (same_priority x) (same_priority (c k)) (r.lowest k));
                    bad =
                        ap side (sym (same_priority x) ∙ sym (lowest_of (priority_of h) r.lowest))
                        ∙ on.wins l
                        (lasso_of_is (HasMove h) c 0 r.length_of r.some (sym r.closed)
                        (λ k below. subst (HasMove h (c k)) (sym (walk-add-one next x k)) (move (c k) (along x on k).claimed_too)))
                        first
                        (λ k below own.
                        lasso_of-round c 0 r.length_of (k + 1) r.some (sym r.closed) (omega (arith, lasso_of-length c 0 r.length_of))
                        ∙ walk-add-one next x k
                        ∙ ap next (sym (lasso_of-round c 0 r.length_of k r.some (sym r.closed) (omega (arith, lasso_of-length c 0 r.length_of)))));
                  },
                )
                  where
                    c : ℕ → ℕ
                    c = walk next x

                    l : Lasso
                    l = lasso_of c 0 r.length_of

                    first : entry l 0 ≡ x
                    first = lasso_of-entry c 0 r.length_of 0 r.some

                    lowest_of : (f : ℕ → ℕ) → ((k : ℕ) → f x ≤ f (c k)) → lowest_on_loop f l ≡ f x
                    lowest_of f least =
                        lowest_on_loop_is f l 0 (omega arith) (omega (arith, r.some, lasso_of-length c 0 r.length_of))
                        (λ j later below.
                        subst₂ (λ a b. f a ≤ f b) (sym first)
                        (sym (lasso_of-entry c 0 r.length_of j (omega (arith, lasso_of-length c 0 r.length_of)))) (least j))
                        ∙ ap f first

-- the game of ways is a game
pub is_game : (g : ParityGame) (cs : Claims)
    → IsGame g
    → KeepsEarly g cs
    → (h : ParityGame)
    → IsWayGame g cs h
    → length h.successors ≡ size h
    → IsGame h
is_game g cs ok early h is lists = record {
  priorities = ap length is.priorities ∙ ok.priorities ∙ sym is.sizes;
  lists = lists;
  goes_on = λ v below. (moves_good g cs ok early h is v (omega (arith, is.sizes))).some;
  in_range = λ v w move. in_range v w move (cases_lt v (size h));
}
  where
    in_range : (v w : ℕ) → HasMove h v w → (v < size h) ⊎ (size h ≤ v) → w < size h
    in_range v w move (inl below) =
        omega (arith, (moves_good g cs ok early h is v (omega (arith, is.sizes))).within w move, is.sizes)
    in_range v w move (inr past) =
        absurd (contains_none w (subst (λ xs. Contains xs w) (get_or_past h.successors v [] (omega (arith, lists))) move))

-- so is what the program made of its fields
pub made_is_game : (g : ParityGame) (cs : Claims)
    → IsGame g
    → KeepsEarly g cs
    → (owner : Vec Player) (priority : Vec ℕ) (successors : Vec (Vec ℕ)) (a b : List Player) (moves : List (Vec ℕ))
    → a ≡ g.owner
    → b ≡ g.owner
    → lists_of moves ≡ g.successors
    → priority.items ≡ g.priority
    → AreOwners a cs owner.items (length a)
    → AreWays b (lists_of moves) cs (lists_of successors.items) (length b)
    → IsGame (game_of owner priority successors)
made_is_game g cs ok early owner priority successors a b moves is_a is_b are_moves are_priorities of_a of_b =
    let owners = subst (λ xs. AreOwners xs cs owner.items (length xs)) is_a of_a in
    let ways =
    subst (λ ys. AreWays g.owner ys cs (lists_of successors.items) (size g)) are_moves
    (subst (λ xs. AreWays xs (lists_of moves) cs (lists_of successors.items) (length xs)) is_b of_b)
    in
    is_game g cs ok early (game_of owner priority successors)
    (record { sizes = owners.many; owners = owners.at; priorities = are_priorities; moves = ways.at })
    (ways.many ∙ sym owners.many)

-- each choice of a solution is a move
choices_move : (h : ParityGame) (s : GameSolution)
    → IsSolution h s
    → (v : ℕ)
    → v < size h
    → HasMove h v (choice_at s.choice v)
choices_move h s solves v below = solves.strategies (owner_of h v) v below refl

-- so it is a vertex
pub choices_low : (h : ParityGame) (s : GameSolution) → IsGame h → IsSolution h s → (k d : ℕ) → k < length s.choice
    → get_or s.choice k d < length s.choice
choices_low h s ok solves k d below =
    let inside : k < size h = omega (arith, solves.choices) in
    let there = ok.in_range k (get_or s.choice k 0) (choices_move h s solves k inside) in
    let same = get_or_default s.choice k 0 d below in
    omega (arith, solves.choices)

-- what is told of the winners, the choices and the priorities, where they are equal lists
pub told_of : (cs : Claims) (o : Option ℕ) {a b : List Player} {x y i j : List ℕ}
    → a ≡ b
    → x ≡ y
    → i ≡ j
    → MatchOption o
    ((v : ℕ) → IsLost cs a v → ⊥)
    (LeadsRound cs a (choice_at x) (λ v. get_or i v 0) (length cs))
    → MatchOption o
    ((v : ℕ) → IsLost cs b v → ⊥)
    (LeadsRound cs b (choice_at y) (λ v. get_or j v 0) (length cs))
told_of cs o {a} {b} {x} {y} {i} {j} winners choices priorities told =
    subst (λ zs. MatchOption o ((v : ℕ) → IsLost cs b v → ⊥) (LeadsRound cs b (choice_at y) (λ v. get_or zs v 0) (length cs))) priorities
    (subst (λ zs. MatchOption o ((v : ℕ) → IsLost cs b v → ⊥) (LeadsRound cs b (choice_at zs) (λ v. get_or i v 0) (length cs))) choices
    (subst (λ zs. MatchOption o ((v : ℕ) → IsLost cs zs v → ⊥) (LeadsRound cs zs (choice_at x) (λ v. get_or i v 0) (length cs))) winners told))

-- what the solution of the game of ways tells of the fourth rule
pub tells_four : (g : ParityGame) (cs : Claims) (h : ParityGame) (s : GameSolution)
    → IsGame g
    → KeepsEarly g cs
    → IsWayGame g cs h
    → IsSolution h s
    → (o : Option ℕ)
    → MatchOption o
    ((v : ℕ) → IsLost cs s.winner v → ⊥)
    (LeadsRound cs s.winner (choice_at s.choice) (priority_of h) (length cs))
    → TellsFour g cs o
tells_four g cs h s ok early is solves None none =
    λ p v. no_bad_cycle g cs ok early h is p (winner_at s.winner) (choice_at s.choice) (choices_move h s solves) solves.wins
    (λ x claimed lost. none x (p, claimed, lost)) v
tells_four g cs h s ok early is solves (Some x) leads = (
  leads.is_lost.0,
  lost_breaks g cs ok early h is leads.is_lost.0 (winner_at s.winner) (choice_at s.choice) (choices_move h s solves)
      solves.wins leads.start leads.is_lost.1 leads.is_lost.2 x
      (subst (λ n. IsLowestFrom (choice_at s.choice) (priority_of h) n leads.start x) early.places leads.lowest),
)

-- A program's node is won by the player of its sign exactly where a run of it leads to where the continuation is won.
--
--   program_told  == it is
--   repeat_told   == and an infinite repetition exactly where its program can be run for ever
use Rattle.std.proofs.Common.{◌≡◌, ℕ, ◌+◌, ◌*◌, ◌<◌, ◌≤◌, Bool, true, false, min, refl, ap, ◌∙◌, ⊎_elim, arith}
use Rattle.std.proofs.lemmas.Bool.{cases_Bool}
use Rattle.ml_base.specs.Structure.{Structure, IsStructure, is_member}
use Rattle.ml_parity.specs.declared.players.Player.{Player}
use Rattle.ml_parity.specs.Player.{opponent, side}
use Rattle.ml_parity.specs.Game.{priority_of}
use Rattle.ml_parity.specs.Winner.{IsStrategyOf, WinsFrom, Wins}
use Rattle.ml_parity.proofs.FollowedWalks.{before, won_behind, won_at_end}
use Rattle.ml_parity.proofs.Opponents.{same_player, same_player-true, same_player-from_true}
use Rattle.ml_parity.proofs.Winners.{Winners, winners, won}
use Rattle.ml_graph.specs.declared.node.Node.TheVariants as node
use Rattle.ml_graph.specs.Graph.{Graph, IsGraph, size, node_at, priority_at}
use Rattle.ml_graph.specs.CheckingGame.{Pair, checking_game}
use Rattle.ml_graph.proofs.CheckingGame.{priority_is, is_game}
use Rattle.ml_graph.proofs.OneStep.{vertex_low}
use Rattle.ml_pdl.specs.Formula.{Program, Repeat, program_occurrences}
use Rattle.ml_pdl.specs.Meaning.{meaning, relation}
use Rattle.ml_pdl.proofs.RunsInto.{into, run_of}
use Rattle.ml_pdl.proofs.StarRelations.{repeat_goes_on, repeat_has}
use Rattle.ml_nodes.proofs.EndlessWalks.{Join, Onward, never_for_ever}
use Rattle.ml_pdl_graph.proofs.NoRuns.{unmet_lost}
use Rattle.ml_pdl_graph.proofs.Players.{player_of, node_of, node_range, at, WinsAt, Tells, never_both, one_of_both, tells_leads}
use Rattle.ml_pdl.proofs.SomeOccurrence.{some_program_occurrence}
use Rattle.ml_pdl_graph.proofs.ProgramNodes.{NodesAt, Tests}
use Rattle.ml_pdl_graph.proofs.Runs.{walked, single_move}

module _ (g : Graph) (m : Structure) (g_ok : IsGraph g) (m_ok : IsStructure m) (e : Bool) where
  abbrev place : ℕ → ℕ → ℕ
  place = at g m g_ok m_ok

  abbrev us : Player
  us = player_of e

  abbrev them : Player
  them = opponent (player_of e)

  node_low : (i n : ℕ) → 1 ≤ n → 2 * (i + n) ≤ size g → node_of e i < size g
  node_low i n some room = let range = node_range e i in omega (arith, range.1, room, some)

  module _ (p : Program) (i k : ℕ) (K : ℕ → Bool) (w : NodesAt g e i k p) (tests : Tests g m g_ok m_ok e i p)
      (room : 2 * (i + program_occurrences p) ≤ size g)
      (known : (t : ℕ) → t < m.states → Tells g m g_ok m_ok us t k (K t)) (k_low : k < size g) where
    pub program_told : (s : ℕ) → s < m.states → Tells g m g_ok m_ok us s (node_of e i) (into m (relation m p) K s)
    program_told s s_low = (there, back)
      where
        there : WinsAt g m g_ok m_ok us s (node_of e i) → into m (relation m p) K s ≡ true
        there wins =
            ⊎_elim
            (λ (is : into m (relation m p) K s ≡ true). is)
            (λ (never : into m (relation m p) K s ≡ false). absurd
            (unmet_lost g m g_ok m_ok e p i k K w tests room known k_low s s_low never wins))
            (cases_Bool (into m (relation m p) K s))

        -- the opponent's strategy can't keep a run from where the continuation is won
        lost : into m (relation m p) K s ≡ true → WinsAt g m g_ok m_ok them s (node_of e i) → ⊥
        lost is theirs =
            let some = run_of m (relation m p) K s is in
            let way = walked g m g_ok m_ok e theirs.strategy theirs.is_strategy p i k w tests room s some.state s_low
            some.low some.run theirs.wins in
            let there_too : Wins (checking_game g m) them (place some.state k) = record {
              strategy = theirs.strategy;
              is_strategy = theirs.is_strategy;
              wins =
                  won_at_end (checking_game g m) them theirs.strategy (place s (node_of e i)) way.lowest
                  (place some.state k) way.way theirs.wins;
            } in
            never_both g m g_ok m_ok us (Pair some.state k) (some.low, k_low)
            ((known some.state some.low).1 some.inside) there_too

        back : into m (relation m p) K s ≡ true → WinsAt g m g_ok m_ok us s (node_of e i)
        back is =
            ⊎_elim
            (λ (ours : WinsAt g m g_ok m_ok us s (node_of e i)). ours)
            (λ (theirs : WinsAt g m g_ok m_ok them s (node_of e i)). absurd (lost is theirs))
            (one_of_both g m g_ok m_ok us (Pair s (node_of e i))
            (s_low, node_low i (program_occurrences p) (some_program_occurrence p) room))

  abbrev pub repeat_priority : Bool → ℕ
  repeat_priority true = 0
  repeat_priority false = 1

  module _ (p : Program) (i : ℕ) (leads : node_at g (node_of e i) ≡ node.And (node_of e (i + 1)) (node_of e (i + 1)))
      (priority : priority_at g (node_of e i) ≡ repeat_priority e) (w : NodesAt g e (i + 1) (node_of e i) p)
      (tests : Tests g m g_ok m_ok e (i + 1) p) (room : 2 * (i + (1 + program_occurrences p)) ≤ size g) where
    abbrev own : ℕ
    own = node_of e i

    own_low : own < size g
    own_low = node_low i (1 + program_occurrences p) (omega arith) room

    -- at which states the player wins, as a test
    who : Winners (checking_game g m)
    who = winners (checking_game g m) (is_game g m g_ok m_ok)

    abbrev K : ℕ → Bool
    K s = same_player (who.win (place s own)) us

    K_says : (s : ℕ) → s < m.states → Tells g m g_ok m_ok us s own (K s)
    K_says s s_low = (
      λ wins. same_player-true (who.win (place s own)) us
          (who.only (place s own) us (vertex_low g m g_ok m_ok (Pair s own) (s_low, own_low)) wins),
      λ is. won (checking_game g m) who us (place s own) (vertex_low g m g_ok m_ok (Pair s own) (s_low, own_low))
          (same_player-from_true (who.win (place s own)) us is),
    )

    round_says : (s : ℕ) → s < m.states → Tells g m g_ok m_ok us s own (into m (relation m p) K s)
    round_says s s_low =
        tells_leads g m g_ok m_ok s own s_low own_low e (node_of e (i + 1)) (into m (relation m p) K s) leads
        (program_told p (i + 1) own K w tests (omega (arith, room)) K_says own_low s s_low)

    there : (s : ℕ) → s < m.states → WinsAt g m g_ok m_ok us s own → is_member (meaning m (Repeat p)) s ≡ true
    there s s_low wins =
        repeat_has m p K (λ t t_low is. (round_says t t_low).0 ((K_says t t_low).1 is)) s s_low
        ((K_says s s_low).0 wins)

    module _ (strategy : ℕ → ℕ) (is_strategy : IsStrategyOf (checking_game g m) them strategy) where
      record Round : Type 0 where
        pub state : ℕ
        pub low : state < m.states
        pub inside : is_member (meaning m (Repeat p)) state ≡ true
        pub lost : WinsFrom (checking_game g m) them strategy (place state own)

      abbrev vertex : Round → ℕ
      vertex x = place x.state own

      abbrev Known : ℕ → ℕ → ℕ → Type 0
      Known v k x = k ≡ repeat_priority e

      joined : Join Known
      joined v j x k y a b = omega (arith, a, b)

      good_side : (d : Bool) → side (repeat_priority d) ≡ opponent (opponent (player_of d))
      good_side true = refl
      good_side false = refl

      small : (d : Bool) → repeat_priority d ≤ 1
      small true = omega arith
      small false = omega arith

      next : (x : Round) → Onward (checking_game g m) them strategy Known Round vertex x
      next x =
          let some = run_of m (relation m p) (is_member (meaning m (Repeat p))) x.state
          (repeat_goes_on m p x.state x.low x.inside) in
          let begin = single_move g m g_ok m_ok e strategy is_strategy x.state own (node_of e (i + 1)) x.low own_low
          leads in
          let behind = won_behind (checking_game g m) them strategy (vertex x) (place x.state (node_of e (i + 1))) begin
          x.lost in
          let way = walked g m g_ok m_ok e strategy is_strategy p (i + 1) own w tests (omega (arith, room)) x.state
          some.state x.low some.low some.run behind in
          let lost = won_at_end (checking_game g m) them strategy (place x.state (node_of e (i + 1))) way.lowest
          (place some.state own) way.way behind in
          record {
            to = record { state = some.state; low = some.low; inside = some.inside; lost = lost };
            stretch = record {
              lowest = min (priority_of (checking_game g m) (vertex x)) way.lowest;
              way = before (vertex x) (place x.state (node_of e (i + 1))) begin way.way;
              known =
                  let one =
                  small e in omega (
                    arith,
                    priority_is g m (Pair x.state own) (x.low, own_low),
                    priority,
                    one,
                    way.high,
                  );
            };
          }

      pub never_kept : (s : ℕ)
          → s < m.states
          → is_member (meaning m (Repeat p)) s ≡ true
          → WinsFrom (checking_game g m) them strategy (place s own)
          → ⊥
      never_kept s s_low inside lost =
          never_for_ever (checking_game g m) them strategy Known Round vertex
          (λ x. vertex_low g m g_ok m_ok (Pair x.state own) (x.low, own_low))
          joined (λ v k is. ap side is ∙ good_side e) next
          (record { state = s; low = s_low; inside = inside; lost = lost }) lost

    pub repeat_told : (s : ℕ) → s < m.states → Tells g m g_ok m_ok us s own (is_member (meaning m (Repeat p)) s)
    repeat_told s s_low = (
      there s s_low,
      λ is. ⊎_elim
          (λ (ours : WinsAt g m g_ok m_ok us s own). ours)
          (λ (theirs : WinsAt g m g_ok m_ok them s own). absurd
          (never_kept theirs.strategy theirs.is_strategy s s_low is theirs.wins))
          (one_of_both g m g_ok m_ok us (Pair s own) (s_low, own_low)),
    )

-- A play that follows a winning strategy of Odd's leaves each state.
--
-- Suppose that it made as many local moves at a state as there are nodes. Then it came to a node twice, and between
-- the two times there is a closed local walk. Since Odd wins, its lowest priority is odd; then some node on it is on
-- an odd cycle, which would be a clash of the state's spread.
--
--   Course          == a local walk all of whose moves follow Odd's strategy
--   OnWay           == one of at least one move
--   lowest_occurs   == the lowest priority of a local walk of the spread is one of the graph's
--   no_return       == it doesn't come back to where it began
--   Leaving, leave  == a course to a node from which the play crosses to a next state
use Rattle.std.proofs.Common.{ℕ, zero, suc, ◌≡◌, ◌+◌, ◌-◌, ◌<◌, ◌≤◌, ◌%◌, ◌⊎◌, inl, inr, min, eqb, eq-eqb, refl, sym, ap, ◌∙◌, subst, arith}
use Rattle.std.proofs.lemmas.Bool.{cases_eq, cond-true}
use Rattle.ml_lists.specs.Member.{IsMember}
use Rattle.ml_lists.specs.Pigeons.{Twice}
use Rattle.ml_lists.proofs.Member.{place-member}
use Rattle.ml_lists.proofs.Pigeons.{pigeons}
use Rattle.ml_lists.proofs.Reach.{in_front}
use Rattle.ml_graph.specs.Graph.{size, priority_at}
use Rattle.ml_graph.specs.CheckingGame.{Pair, checking_game}
use Rattle.ml_graph.proofs.CheckingGame.{priority_is}
use Rattle.ml_parity.specs.declared.players.Player.TheVariants.{Even, Odd}
use Rattle.ml_parity.specs.Player.{side}
use Rattle.ml_parity.proofs.FollowedWalks.{last, walks_joined, won_behind, closed_walk_good}
use Rattle.ml_sequent.specs.declared.clashes.ClashCause.TheVariants as cause
use Rattle.ml_sequent.specs.LocalWalk.{LocalWalk, stays, goes, children}
use Rattle.ml_sequent.proofs.LocalWalks.{walk_more}
use Rattle.ml_extract.proofs.Setting.{Setting}
use Rattle.ml_sequent.proofs.LocalLoops.{CycleOn, lowest_on_cycle, lowest_node}
use Rattle.ml_extract.proofs.Numbering.{state_low}
use Rattle.ml_extract.proofs.AtNodes.{Rival, pair, OddMove, OddWalk, OddWins, AtState, resolved_at, child_in, Crossing, AtNode, inside, crosses, at_node}

-- a number that is good for Odd is odd
pub odd_side : (k : ℕ) → side k ≡ Odd → k % 2 ≡ 1
odd_side k good = by_case (cases_eq (k % 2) 0)
  where
    by_case : (k % 2 ≡ 0) ⊎ (k % 2 ≡ 0 → ⊥) → k % 2 ≡ 1
    by_case (inl even) =
        let other : side k ≡ Even = cond-true (eqb (k % 2) 0) Even Odd (eq-eqb (k % 2) 0 even) in
        let wrong : Even ≡ Odd = sym other ∙ good in
        absurd (cc)
    by_case (inr other) = omega (arith, other)

module _ (S : Setting) (R : Rival S) (t : AtState S) where
  abbrev local : ℕ → ℕ → ℕ → Type 0
  local n k m = LocalWalk S.g t.state.spread.choice n k m

  -- a local walk all of whose moves follow Odd's strategy
  pub record Course (n k m : ℕ) : Type 0 where
    pub walk : LocalWalk S.g t.state.spread.choice n k m
    pub plays : (w : ℕ) → OddMove S R (pair S t.number m) w → OddWalk S R (pair S t.number n) k w

  node_low : (n : ℕ) → IsMember n t.state.spread.nodes → n < size S.g
  node_low n member = (resolved_at S t).is_spread.low n member

  priority_here : (n : ℕ) → IsMember n t.state.spread.nodes → (w : ℕ) → OddMove S R (pair S t.number n) w
      → OddWalk S R (pair S t.number n) (priority_at S.g n) w
  priority_here n member w move =
      subst (λ k. OddWalk S R (pair S t.number n) k w)
      (priority_is S.g S.m (Pair t.number n) (state_low S t.number t.state t.is_state, node_low n member))
      (last (pair S t.number n) w move)

  course_stays : (n : ℕ) → IsMember n t.state.spread.nodes → Course n (priority_at S.g n) n
  course_stays n member = record { walk = stays n; plays = priority_here n member }

  -- one move more at the end
  course_more : (n k m e : ℕ)
      → IsMember e t.state.spread.nodes
      → Course n k m
      → IsMember e (children S.g t.state.spread.choice m)
      → OddMove S R (pair S t.number m) (pair S t.number e) → Course n (min k (priority_at S.g e)) e
  course_more n k m e member c child move = record {
    walk = walk_more S.g t.state.spread.choice n k m e c.walk child;
    plays = λ w onward.
        walks_joined (checking_game S.g S.m) Odd R.moves (pair S t.number n) k (pair S t.number e) (priority_at S.g e) w
        (c.plays (pair S t.number e) move) (priority_here e member w onward);
  }

  -- and in front
  course_behind : (n e k m : ℕ) → IsMember n t.state.spread.nodes → IsMember e (children S.g t.state.spread.choice n)
      → OddMove S R (pair S t.number n) (pair S t.number e) → Course e k m → Course n (min (priority_at S.g n) k) m
  course_behind n e k m member child move c = record {
    walk = goes n e child c.walk;
    plays = λ w onward.
        walks_joined (checking_game S.g S.m) Odd R.moves (pair S t.number n) (priority_at S.g n) (pair S t.number e) k w
        (priority_here n member (pair S t.number e) move) (c.plays w onward);
  }

  -- one of at least one move
  pub record OnWay (v n : ℕ) : Type 0 where
    pub next : ℕ
    pub child : IsMember next (children S.g t.state.spread.choice v)
    pub move : OddMove S R (pair S t.number v) (pair S t.number next)
    pub lowest : ℕ
    pub course : Course next lowest n

  -- where a local walk comes from the spread, it stays in it
  along_walk : (a k b : ℕ)
      → LocalWalk S.g t.state.spread.choice a k b
      → IsMember a t.state.spread.nodes
      → IsMember b t.state.spread.nodes
  along_walk a k b (stays _) here = here
  along_walk a k b (goes {k = j} _ e child w) here = along_walk e j b w (child_in S t a e here child)

  -- and its lowest priority is one of the graph's
  pub lowest_occurs : (n k m : ℕ)
      → LocalWalk S.g t.state.spread.choice n k m
      → IsMember n t.state.spread.nodes
      → IsMember k S.g.priorities
  lowest_occurs n k m w member =
      let l = lowest_node S.g t.state.spread.choice n k m w in
      let low = node_low l.node (along_walk n l.before l.node l.to member) in
      subst (λ i. IsMember i S.g.priorities) l.exact (place-member S.g.priorities l.node 0
      (omega (arith, S.g_ok.priorities)))

  -- it doesn't come back to where it began
  no_return : (n : ℕ) → IsMember n t.state.spread.nodes → OddWins S R t.number n → OnWay n n → ⊥
  no_return n member wins o =
      on_cycle (lowest_on_cycle S.g t.state.spread.choice n o.next o.lowest o.child o.course.walk)
    where
      odd : o.lowest % 2 ≡ 1
      odd =
          let next_wins =
          won_behind (checking_game S.g S.m) Odd R.moves (pair S t.number n) (pair S t.number o.next) o.move wins in
          odd_side o.lowest
          (closed_walk_good (checking_game S.g S.m) Odd R.moves (pair S t.number o.next) o.lowest
          (o.course.plays (pair S t.number o.next) o.move) next_wins)

      on_cycle : CycleOn S.g t.state.spread.choice o.next o.lowest → ⊥
      on_cycle c =
          let there = along_walk o.next c.before c.node c.to (child_in S t n o.next member o.child) in
          (resolved_at S t).resolved.no_clash (cause.Cycle c.node) (there, (ap (λ k. k % 2) c.exact ∙ odd, c.cycle))

  -- ---- leaving the state

  -- a course to a node from which the play crosses to a next state
  pub record Leaving (n : ℕ) : Type 0 where
    pub lowest : ℕ
    pub exit : ℕ
    pub course : Course n lowest exit
    pub crossing : Crossing S t R exit

  record LocalMove (n e : ℕ) : Type 0 where
    pub child : IsMember e (children S.g t.state.spread.choice n)
    pub move : OddMove S R (pair S t.number n) (pair S t.number e)

  record Known (n : ℕ) : Type 0 where
    pub member : IsMember n t.state.spread.nodes
    pub wins : OddWins S R t.number n

  -- so many local moves
  record Staying (moves n : ℕ) : Type 0 where
    pub way : ℕ → ℕ
    pub begins : way 0 ≡ n
    pub known : (k : ℕ) → k ≤ moves → Known (way k)
    pub steps : (k : ℕ) → k < moves → LocalMove (way k) (way (k + 1))

  known_behind : (n e : ℕ) → Known n → LocalMove n e → Known e
  known_behind n e known m = record {
    member = child_in S t n e known.member m.child;
    wins = won_behind (checking_game S.g S.m) Odd R.moves (pair S t.number n) (pair S t.number e) m.move known.wins;
  }

  stays_longer : (moves n e : ℕ) → Known n → LocalMove n e → Staying moves e → Staying (suc moves) n
  stays_longer moves n e known first s =
      record { way = in_front n s.way; begins = refl; known = all_known; steps = steps }
    where
      all_known : (k : ℕ) → k ≤ suc moves → Known (in_front n s.way k)
      all_known zero low = known
      all_known (suc k) low = s.known k (omega arith)

      steps : (k : ℕ) → k < suc moves → LocalMove (in_front n s.way k) (in_front n s.way (k + 1))
      steps zero low = subst (LocalMove n) (sym s.begins) first
      steps (suc k) low =
          let e : suc (k + 1) ≡ suc k + 1 = omega arith in
          subst (λ i. LocalMove (s.way k) (in_front n s.way i)) e (s.steps k (omega arith))

  leaves_later : (n e : ℕ) → Known n → LocalMove n e → Leaving e → Leaving n
  leaves_later n e known first l = record {
    lowest = min (priority_at S.g n) l.lowest;
    exit = l.exit;
    course = course_behind n e l.lowest l.exit known.member first.child first.move l.course;
    crossing = l.crossing;
  }

  leaves_or_stays : (moves n : ℕ) → Known n → Leaving n ⊎ Staying moves n
  leaves_or_stays zero n known =
      inr (record { way = λ k. n; begins = refl; known = λ k low. known; steps = λ k low. absurd (omega arith) })
  leaves_or_stays (suc moves) n known =
      by_node (at_node S t R n known.member known.wins) (λ e later. leaves_or_stays moves e later)
    where
      by_node : AtNode S t R n → ((e : ℕ) → Known e → Leaving e ⊎ Staying moves e) → Leaving n ⊎ Staying (suc moves) n
      by_node (crosses x) again =
          inl (record { lowest = priority_at S.g n; exit = n; course = course_stays n known.member; crossing = x })
      by_node (inside e child move) again =
          joined (again e (known_behind n e known (record { child = child; move = move })))
        where
          joined : Leaving e ⊎ Staying moves e → Leaving n ⊎ Staying (suc moves) n
          joined (inl l) = inl (leaves_later n e known (record { child = child; move = move }) l)
          joined (inr s) = inr (stays_longer moves n e known (record { child = child; move = move }) s)

  on_way : (moves n : ℕ) (s : Staying moves n) (k d : ℕ) → k + suc d ≤ moves → OnWay (s.way k) (s.way (k + suc d))
  on_way moves n s k zero low =
      let first = s.steps k (omega arith) in
      let there = s.known (k + 1) (omega arith) in
      let e : k + 1 ≡ k + suc zero = omega arith in
      subst (λ i. OnWay (s.way k) (s.way i)) e (record {
        next = s.way (k + 1);
        child = first.child;
        move = first.move;
        lowest = priority_at S.g (s.way (k + 1));
        course = course_stays (s.way (k + 1)) there.member;
      })
  on_way moves n s k (suc d) low =
      let so_far = on_way moves n s k d (omega arith) in
      let more = s.steps (k + suc d) (omega arith) in
      let there = s.known (k + suc d + 1) (omega arith) in
      let e : k + suc d + 1 ≡ k + suc (suc d) = omega arith in
      subst (λ i. OnWay (s.way k) (s.way i)) e (record {
        next = so_far.next;
        child = so_far.child;
        move = so_far.move;
        lowest = min so_far.lowest (priority_at S.g (s.way (k + suc d + 1)));
        course =
            course_more so_far.next so_far.lowest (s.way (k + suc d)) (s.way (k + suc d + 1)) there.member
            so_far.course more.child more.move;
      })

  not_staying : (n : ℕ) → Staying (size S.g) n → ⊥
  not_staying n s = from (pigeons (size S.g) s.way (λ k low. node_low (s.way k) (s.known k low).member))
    where
      from : Twice s.way (size S.g) → ⊥
      from twice =
          let d : ℕ = twice.second - suc twice.first in
          let far : twice.first + suc d ≡ twice.second = omega (arith, twice.apart) in
          let round = on_way (size S.g) n s twice.first d (omega (arith, twice.apart, twice.within)) in
          let known = s.known twice.first (omega (arith, twice.apart, twice.within)) in
          no_return (s.way twice.first) known.member known.wins (subst (OnWay (s.way twice.first))
          (ap s.way far ∙ sym twice.same) round)

  -- a play that follows a winning strategy of Odd's leaves the state
  pub leave : (n : ℕ) → IsMember n t.state.spread.nodes → OddWins S R t.number n → Leaving n
  leave n member wins = from (leaves_or_stays (size S.g) n (record { member = member; wins = wins }))
    where
      from : Leaving n ⊎ Staying (size S.g) n → Leaving n
      from (inl l) = l
      from (inr s) = absurd (not_staying n s)

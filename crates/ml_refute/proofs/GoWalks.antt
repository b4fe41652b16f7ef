-- A go as a walk of the decision game that follows Odd's choices.
--
-- From an entry the choices on a branch are moves of Even's, and the go is the solution's own choice. All positions
-- between have the neutral priority, so the lowest priority on the way is that of the entry, or neutral.
--
--   GoWalk v p f m   == a walk from the vertex v of p to that of the entry f, which has the number of the mark m
--   ArcWalk          == the same, for an arc
--   walk_of_arc      == each arc of a decision has one
--   arc_to           == each entry to which a decision leads has an arc
use Rattle.std.proofs.Common.{ℕ, ◌≡◌, ◌<◌, ◌≤◌, ◌⊎◌, inl, inr, min, [], ◌∷◌, Some, slice_get, refl, sym, ap, ◌∙◌, subst, arith, length-append}
use Rattle.ml_lists.specs.Member.{IsMember}
use Rattle.ml_lists.proofs.Member.{member-append, member-append_left, member-append_right}
use Rattle.ml_parity.specs.declared.one_sided.graph.Arc.{Arc}
use Rattle.ml_parity.specs.declared.players.Player.TheVariants.{Even, Odd}
use Rattle.ml_parity.specs.Game.{owner_of, priority_of, size, HasMove}
use Rattle.ml_parity.specs.Solution.{IsSolution, choice_at}
use Rattle.ml_parity.proofs.FollowedWalks.{FollowedMove, FollowedWalk, last, before}
use Rattle.ml_product.specs.Arena.{game_of}
use Rattle.ml_product.specs.Position.{Position, neutral, with_chosen}
use Rattle.ml_refutation.specs.Refutation.{Decision, Split, Clash, Go}
use Rattle.ml_sequent.specs.declared.choice.Side.{Side}
use Rattle.ml_sequent.specs.declared.choice.Side.TheVariants.{Left, Right}
use Rattle.ml_trace.specs.declared.marks.Mark.{Mark}
use Rattle.ml_trace.specs.Marks.{priority}
use Rattle.ml_refute.specs.Extracted.{leads_to, IsGo, IsDecisionAt, arcs_of}
use Rattle.ml_refute.proofs.Decisions.{GoIn, above_split}
use Rattle.ml_refute.proofs.Entries.{Extraction}
use Rattle.std.proofs.lemmas.Option.{slice_get_within}
use Rattle.ml_product.proofs.ArenaGame.{priority_at}
use Rattle.ml_product.proofs.OnePlace.{same_place}
use Rattle.ml_refute.proofs.Turns.{SplitAt, split_at, odd_at}

-- each entry to which a decision leads has an arc
pub record ArcTo (top e : ℕ) (d : Decision) (f : ℕ) : Type 0 where
  pub mark : Mark
  pub inside : IsMember (record { from = e; priority = priority top mark; to = f }) (arcs_of top e d)

pub arc_to : (top e : ℕ) (d : Decision) (f : ℕ) → IsMember f (leads_to d) → ArcTo top e d f
arc_to top e (Split o left right) f inside =
    by_side (member-append f (leads_to left) (leads_to right) inside) (arc_to top e left f) (arc_to top e right f)
  where
    by_side : IsMember f (leads_to left) ⊎ IsMember f (leads_to right)
        → (IsMember f (leads_to left) → ArcTo top e left f)
        → (IsMember f (leads_to right) → ArcTo top e right f) → ArcTo top e (Split o left right) f
    by_side (inl l) at_left at_right =
        let arc = at_left l in
        record {
          mark = arc.mark;
          inside = member-append_left
              (record { from = e; priority = priority top arc.mark; to = f }) (arcs_of top e left) (arcs_of top e right)
              arc.inside;
        }
    by_side (inr r) at_left at_right =
        let arc = at_right r in
        record {
          mark = arc.mark;
          inside = member-append_right
              (record { from = e; priority = priority top arc.mark; to = f }) (arcs_of top e left) (arcs_of top e right)
              arc.inside;
        }
arc_to top e (Clash x) f inside = absurd inside
arc_to top e (Go d k m) f (inl same) =
    record { mark = m; inside = inl (ap (λ x. record { from = e; priority = priority top m; to = x }) same) }
arc_to top e (Go d k m) f (inr none) = absurd none

module _ (X : Extraction) (solution : IsSolution (game_of X.a) X.s) where
  abbrev pub Move : ℕ → ℕ → Type 0
  Move v w = FollowedMove (game_of X.a) Odd (choice_at X.s.choice) v w

  abbrev pub Walk : ℕ → ℕ → ℕ → Type 0
  Walk v k w = FollowedWalk (game_of X.a) Odd (choice_at X.s.choice) v k w

  -- a walk from the vertex v of p to that of the entry f, which has the number of the mark m
  pub record GoWalk (v : ℕ) (p : Position) (f : ℕ) (m : Mark) : Type 0 where
    pub go : GoIn X.g X.a X.s X.o.positions p f m
    pub vertex : ℕ
    pub stands : slice_get X.a.positions vertex ≡ Some go.is_go.next
    pub lowest : ℕ
    pub walk : Walk v lowest vertex
    pub low : lowest ≤ p.priority
    pub high : (k : ℕ) → k ≤ p.priority → k ≤ neutral X.g → k ≤ lowest

  pub record ArcWalk (top e v : ℕ) (p : Position) (arc : Arc) : Type 0 where
    pub entry : ℕ
    pub mark : Mark
    pub arc_is : arc ≡ record { from = e; priority = priority top mark; to = entry }
    pub walk : GoWalk v p entry mark

  go_walk : (v : ℕ) (p : Position)
      → slice_get X.a.positions v ≡ Some p
      → (d f : ℕ) (m : Mark)
      → IsDecisionAt X.g X.a X.s X.o.positions p (Go d f m)
      → GoWalk v p f m
  go_walk v p placed d f m at = record {
    go = record {
      here = p;
      spread = at.spread;
      diamond = d;
      same_sequent = refl;
      same_history = refl;
      is_spread = at.is_spread;
      is_resolved = at.holds.0;
      is_go = at.holds.1;
    };
    vertex = choice_at X.s.choice v;
    stands = subst (λ x. slice_get X.a.positions (choice_at X.s.choice x) ≡ Some go.next)
        (sym here) go.is_choice.chosen;
    lowest = priority_of (game_of X.a) v;
    walk = last v (choice_at X.s.choice v) (record {
      move = solution.strategies Odd v v_low is_odd;
      chosen =
          λ own. refl;
    });
    low = omega (arith, is_priority);
    high = λ k below within. omega (arith, is_priority);
  }
    where
      go : IsGo X.g X.a X.s X.o.positions p at.spread d f m
      go = at.holds.1

      here : v ≡ go.is_choice.vertex
      here = same_place X.a.positions X.arena.are_different v go.is_choice.vertex p placed go.is_choice.is_here

      is_odd : owner_of (game_of X.a) v ≡ Odd
      is_odd = odd_at X.g X.a X.arena v p placed d at.spread at.is_spread at.holds.0 go.is_diamond.is_diamond

      is_priority : priority_of (game_of X.a) v ≡ p.priority
      is_priority = priority_at X.g X.a X.arena v p placed

      v_low : v < size (game_of X.a)
      v_low =
          let low = slice_get_within X.a.positions v p placed in
          omega (arith, X.arena.an_owner_each, length-append X.a.owners (Even ∷ Even ∷ []))

  -- a move of Even's in front
  behind_side : (top e v w : ℕ) (p : Position) (n : ℕ) (x : Side) (arc : Arc)
      → slice_get X.a.positions v ≡ Some p
      → Move v w
      → ArcWalk top e w (with_chosen X.g p n x) arc
      → ArcWalk top e v p arc
  behind_side top e v w p n x arc placed move i =
      let is_priority = priority_at X.g X.a X.arena v p placed in
      record {
        entry = i.entry;
        mark = i.mark;
        arc_is = i.arc_is;
        walk = record {
          go = above_split X.g X.a X.s X.o.positions p n x i.entry i.mark i.walk.go;
          vertex = i.walk.vertex;
          stands = i.walk.stands;
          lowest = min (priority_of (game_of X.a) v) i.walk.lowest;
          walk = before v w move i.walk.walk;
          low = omega (arith, is_priority);
          high = λ k below within. let rest = i.walk.high k within within in omega (arith, is_priority, rest);
        };
      }

  even_move : (v w : ℕ)
      → owner_of (game_of X.a) v ≡ Even
      → HasMove (game_of X.a) v w
      → Move v w
  even_move v w even move =
      record { move = move; chosen = λ own. let wrong : Even ≡ Odd = sym even ∙ own in cc }

  -- each arc of a decision has one
  pub walk_of_arc : (top e : ℕ) (d : Decision) (v : ℕ) (p : Position)
      → slice_get X.a.positions v ≡ Some p
      → IsDecisionAt X.g X.a X.s X.o.positions p d
      → (arc : Arc) → IsMember arc (arcs_of top e d) → ArcWalk top e v p arc
  walk_of_arc top e (Split n left right) v p placed at arc inside =
      by_side (member-append arc (arcs_of top e left) (arcs_of top e right) inside)
      (behind_side top e v sides.left p n Left arc placed (even_move v sides.left sides.is_even sides.to_left))
      (behind_side top e v sides.right p n Right arc placed (even_move v sides.right sides.is_even sides.to_right))
      (walk_of_arc top e left sides.left (with_chosen X.g p n Left) sides.left_is at.1 arc)
      (walk_of_arc top e right sides.right (with_chosen X.g p n Right) sides.right_is at.2 arc)
    where
      sides : SplitAt X.g X.a X.arena v p placed n
      sides = split_at X.g X.a X.arena v p placed n at.0.spread at.0.is_spread at.0.holds

      by_side : IsMember arc (arcs_of top e left) ⊎ IsMember arc (arcs_of top e right)
          → (ArcWalk top e sides.left (with_chosen X.g p n Left) arc → ArcWalk top e v p arc)
          → (ArcWalk top e sides.right (with_chosen X.g p n Right) arc → ArcWalk top e v p arc)
          → (IsMember arc (arcs_of top e left) → ArcWalk top e sides.left (with_chosen X.g p n Left) arc)
          → (IsMember arc (arcs_of top e right) → ArcWalk top e sides.right (with_chosen X.g p n Right) arc)
          → ArcWalk top e v p arc
      by_side (inl l) from_left from_right at_left at_right = from_left (at_left l)
      by_side (inr right_side) from_left from_right at_left at_right = from_right (at_right right_side)
  walk_of_arc top e (Clash x) v p placed at arc inside = absurd inside
  walk_of_arc top e (Go d f m) v p placed at arc (inl same) =
      record { entry = f; mark = m; arc_is = same; walk = go_walk v p placed d f m at }
  walk_of_arc top e (Go d f m) v p placed at arc (inr none) = absurd none

-- Where Odd wins the start, no cycle of go's is even.
--
-- The go's of a cycle are walks that follow Odd's choices, so the cycle is a closed walk from a vertex that Odd wins,
-- and its lowest priority is odd. This is the number of its lowest mark in the game, where neutral is above all marks
-- of the automaton; in the refutation neutral is just above its own names. Both orders agree.
--
--   numbers_agree   == the order of the marks' numbers doesn't depend on the number of neutral
--   entry_won       == Odd wins the vertex of each entry
--   ArcsWalk, walk_of_arcs == the arcs of a walk, as a walk of the game
--   no_even_cycle   == the theorem
use Rattle.std.proofs.Common.{ℕ, suc, ◌≡◌, ◌*◌, ◌<◌, ◌≤◌, ◌%◌, ◌⊎◌, inl, inr, min, eqb, eq-eqb, List, [], ◌∷◌, Some, length, slice_get, sym, ap, ◌∙◌, subst, arith, length-append}
use Rattle.std.proofs.lemmas.Bool.{cases_eq, cond-true}
use Rattle.ml_lists.specs.Member.{IsMember}
use Rattle.ml_lists.proofs.Members.{member_of_contains}
use Rattle.ml_parity.specs.declared.one_sided.graph.Arc.{Arc}
use Rattle.ml_parity.specs.declared.players.Player.TheVariants.{Even, Odd}
use Rattle.ml_parity.specs.Player.{side}
use Rattle.ml_parity.specs.OneSided.{IsWalk, count_at, IsEvenCycle, EvenCycleIn}
use Rattle.ml_parity.specs.Solution.{IsSolution, choice_at, winner_at}
use Rattle.ml_parity.specs.Winner.{WinsFrom}
use Rattle.ml_parity.proofs.FollowedWalks.{won_behind, walks_joined, closed_walk_good}
use Rattle.ml_parity.proofs.HeightWalks.{counts-none}
use Rattle.ml_product.specs.Arena.{game_of}
use Rattle.ml_product.specs.Position.{Position, neutral}
use Rattle.ml_refutation.specs.Acceptance.{entry_at}
use Rattle.ml_trace.specs.declared.marks.Mark.{Mark}
use Rattle.ml_trace.specs.declared.marks.Mark.TheVariants.{Red, Green, Neutral}
use Rattle.ml_trace.specs.Marks.{priority}
use Rattle.ml_trace.specs.MarkOrder.{FitsBelow}
use Rattle.std.proofs.lemmas.Option.{slice_get_within}
use Rattle.ml_refute.specs.Extracted.{arcs_of, go_graph}
use Rattle.ml_refute.proofs.Decisions.{GoIn}
use Rattle.ml_refute.proofs.EntryVertices.{Entered, entered, walk_on, entry_keeps}
use Rattle.ml_refute.proofs.Entries.{Extraction, At}
use Rattle.ml_refute.proofs.GoGraph.{GoArc, go_arc, mark_low}
use Rattle.ml_refute.proofs.GoSteps.{number_fits}
use Rattle.ml_refute.proofs.GoWalks.{Walk, ArcWalk}
use Rattle.ml_product.proofs.OnePlace.{same_place}
use Rattle.ml_trace.proofs.Priorities.{priority-most}

-- ---- marks

-- the order of the marks' numbers doesn't depend on the number of neutral
pub numbers_agree : (top other : ℕ) (m n : Mark) → FitsBelow top m → FitsBelow top n → FitsBelow other m
    → priority top m ≤ priority top n
    → priority other m ≤ priority other n
numbers_agree top other (Red x) (Red y) low high fits le = omega arith
numbers_agree top other (Red x) (Green y) low high fits le = omega arith
numbers_agree top other (Red x) Neutral low high fits le = omega arith
numbers_agree top other (Green x) (Red y) low high fits le = omega arith
numbers_agree top other (Green x) (Green y) low high fits le = omega arith
numbers_agree top other (Green x) Neutral low high fits le = omega arith
numbers_agree top other Neutral (Red y) low high fits le = absurd (omega arith)
numbers_agree top other Neutral (Green y) low high fits le = absurd (omega arith)
numbers_agree top other Neutral Neutral low high fits le = omega arith

-- nor that a number is even, where neutral is even
even_agrees : (top other : ℕ) (m : Mark) → other % 2 ≡ 0 → priority top m % 2 ≡ 0 → priority other m % 2 ≡ 0
even_agrees top other (Red x) even is = is
even_agrees top other (Green x) even is = is
even_agrees top other Neutral even is = even

-- a mark that fits has a number up to neutral

-- an even priority isn't good for Odd
even_is_not_odd : (k : ℕ) → k % 2 ≡ 0 → side k ≡ Odd → ⊥
even_is_not_odd k even odd =
    let good : side k ≡ Even = cond-true (eqb (k % 2) 0) Even Odd (eq-eqb (k % 2) 0 even) in
    let wrong : Even ≡ Odd = sym good ∙ odd in
    absurd (cc)

module _ (X : Extraction) (solution : IsSolution (game_of X.a) X.s) (odd : winner_at X.s.winner 0 ≡ Odd) where
  abbrev top : ℕ
  top = 2 * X.r.names

  abbrev Won : ℕ → Type 0
  Won v = WinsFrom (game_of X.a) Odd (choice_at X.s.choice) v

  -- Odd wins the vertex of each entry
  entry_won : (e : ℕ) (p : Position)
      → slice_get X.o.positions e ≡ Some p
      → (v : ℕ)
      → slice_get X.a.positions v ≡ Some p
      → Won v
  entry_won e p placed v stands =
      entry_keeps X solution Won at_start (won_behind (game_of X.a) Odd (choice_at X.s.choice)) (suc e) e (omega arith)
      p placed v stands
    where
      at_start : Won 0
      at_start = subst (λ x. WinsFrom (game_of X.a) x (choice_at X.s.choice) 0) odd
          (solution.wins 0 (omega (arith, length-append X.a.owners (Even ∷ Even ∷ []))))

  -- ---- walks of arcs

  abbrev at_entry : (e : ℕ) (p : Position) → slice_get X.o.positions e ≡ Some p → At X e
  at_entry e p placed = record { position = p; placed = placed; is_entry = X.o.are_entries e p placed }

  entry_in : (e : ℕ) (p : Position) → slice_get X.o.positions e ≡ Some p → e < length X.r.entries
  entry_in e p placed = omega (arith, slice_get_within X.o.positions e p placed, X.o.a_position_each)

  -- an arc from the entry e, as a walk from its vertex
  arc_walk : (x : Arc) (e v : ℕ) (p : Position)
      → slice_get X.o.positions e ≡ Some p
      → slice_get X.a.positions v ≡ Some p
      → IsMember x (go_graph X.r).arcs
      → x.from ≡ e
      → ArcWalk X solution top e v p x
  arc_walk x e v p placed stands inside leaves = from (go_arc X x inside)
    where
      from : GoArc X x → ArcWalk X solution top e v p x
      from i =
          let here : i.begins ≡ e = sym (ap (λ (y : Arc). y.from) i.arc_is.arc_is) ∙ leaves in
          walk_on X solution e (at_entry e p placed) v stands x
          (subst (λ k. IsMember x (arcs_of top k (entry_at X.r k).decision))
          here i.inside)

  -- the mark of a go of the entry fits
  go_fits : (e : ℕ) (p : Position) (f : ℕ) (m : Mark)
      → slice_get X.o.positions e ≡ Some p
      → GoIn X.g X.a X.s X.o.positions p f m
      → FitsBelow top m
  go_fits e p f m placed go =
      number_fits X.r.names top m (omega arith) (mark_low X e (at_entry e p placed) (entry_in e p placed) f m go)

  -- let the mark have the lowest number on the way
  module _ (lowest_mark : Mark) (fits_top : FitsBelow top lowest_mark)
      (fits_game : FitsBelow (neutral X.g) lowest_mark) where
    abbrev in_file : ℕ
    in_file = priority top lowest_mark

    abbrev in_game : ℕ
    in_game = priority (neutral X.g) lowest_mark

    -- where an arc of no lower number leads, the priority is no lower
    arc_high : (x : Arc)
        → IsMember x (go_graph X.r).arcs
        → in_file ≤ x.priority
        → (q : Position)
        → slice_get X.o.positions x.to ≡ Some q
        → in_game ≤ q.priority
    arc_high x inside high q placed = from (go_arc X x inside)
      where
        from : GoArc X x → in_game ≤ q.priority
        from i =
            let m = i.arc_is.mark in
            let go = i.arc_is.go in
            let to_is : x.to ≡ i.arc_is.entry = ap (λ (y : Arc). y.to) i.arc_is.arc_is in
            let number_is : x.priority ≡ priority top m = ap (λ (y : Arc). y.priority) i.arc_is.arc_is in
            let same_next : Some go.is_go.next ≡ Some q = sym go.is_go.is_entry ∙ ap (slice_get X.o.positions)
            (sym to_is) ∙ placed in
            let same : go.is_go.next ≡ q = cc in
            let up = numbers_agree top (neutral X.g) lowest_mark m fits_top
            (go_fits i.begins i.here.position i.arc_is.entry m i.here.placed go) fits_game
            (omega (arith, number_is, high)) in
            let here : q.priority ≡ priority (neutral X.g) m = ap (λ (y : Position). y.priority) (sym same)
            ∙ go.is_go.marked in
            omega (arith, up, here)

    -- the end of a walk of arcs has no lower priority
    ends_high : (xs : List Arc) (x : Arc) (e w : ℕ) → IsWalk (go_graph X.r) in_file e (x ∷ xs) w → (q : Position)
        → slice_get X.o.positions w ≡ Some q → in_game ≤ q.priority
    ends_high [] x e w walk q placed =
        arc_high x (member_of_contains x (go_graph X.r).arcs walk.0.member) walk.0.high q
        (subst (λ k. slice_get X.o.positions k ≡ Some q) (sym walk.1) placed)
    ends_high (y ∷ ys) x e w walk q placed = ends_high ys y x.to w walk.1 q placed

    -- arcs from the vertex v of p to the entry w, as a walk of the game
    record ArcsWalk (v : ℕ) (p : Position) (xs : List Arc) (w : ℕ) : Type 0 where
      pub end : Position
      pub vertex : ℕ
      pub is_entry : slice_get X.o.positions w ≡ Some end
      pub stands : slice_get X.a.positions vertex ≡ Some end
      pub lowest : ℕ
      pub walk : Walk X solution v lowest vertex
      pub high : in_game ≤ lowest
      pub low : lowest ≤ p.priority
      pub meets : 0 < count_at in_file xs → (lowest ≤ in_game) ⊎ (end.priority ≡ in_game)

    one_arc : (x : Arc) (e v : ℕ) (p : Position)
        → slice_get X.o.positions e ≡ Some p
        → slice_get X.a.positions v ≡ Some p
        → in_game ≤ p.priority
        → IsMember x (go_graph X.r).arcs
        → x.from ≡ e
        → ArcsWalk v p (x ∷ []) x.to
    one_arc x e v p placed stands high inside leaves = from (arc_walk x e v p placed stands inside leaves)
      where
        from : ArcWalk X solution top e v p x → ArcsWalk v p (x ∷ []) x.to
        from w = record {
          end = w.walk.go.is_go.next;
          vertex = w.walk.vertex;
          is_entry = subst (λ k. slice_get X.o.positions k ≡ Some w.walk.go.is_go.next)
              (sym to_is) w.walk.go.is_go.is_entry;
          stands = w.walk.stands;
          lowest = w.walk.lowest;
          walk = w.walk.walk;
          high = w.walk.high in_game high (priority-most (neutral X.g) lowest_mark fits_game);
          low = w.walk.low;
          meets = λ some. inr (met (cases_eq x.priority in_file) some);
        }
          where
            to_is : x.to ≡ w.entry
            to_is = ap (λ (y : Arc). y.to) w.arc_is

            number_is : x.priority ≡ priority top w.mark
            number_is = ap (λ (y : Arc). y.priority) w.arc_is

            fits : FitsBelow top w.mark
            fits = go_fits e p w.entry w.mark placed w.walk.go

            met : (x.priority ≡ in_file) ⊎ (x.priority ≡ in_file → ⊥) → 0 < count_at in_file (x ∷ [])
                → w.walk.go.is_go.next.priority ≡ in_game
            met (inl same) some =
                let up = numbers_agree top (neutral X.g) lowest_mark w.mark fits_top fits fits_game
                (omega (arith, number_is, same)) in
                let down = numbers_agree top (neutral X.g) w.mark lowest_mark fits fits_top w.walk.go.is_go.is_mark
                (omega (arith, number_is, same)) in
                omega (arith, up, down, w.walk.go.is_go.marked)
            met (inr other) some = absurd (omega (arith, some, counts-none in_file x [] other))

    joined : (x y : Arc) (ys : List Arc) (v : ℕ) (p : Position) (e w : ℕ) (first : ArcsWalk v p (x ∷ []) e)
        → ArcsWalk first.vertex first.end (y ∷ ys) w → ArcsWalk v p (x ∷ (y ∷ ys)) w
    joined x y ys v p e w first rest = record {
      end = rest.end;
      vertex = rest.vertex;
      is_entry = rest.is_entry;
      stands = rest.stands;
      lowest = min first.lowest rest.lowest;
      walk = walks_joined (game_of X.a) Odd (choice_at X.s.choice) v first.lowest first.vertex rest.lowest rest.vertex
          first.walk rest.walk;
      high = omega (arith, first.high, rest.high);
      low = omega (arith, first.low);
      meets = λ some. meets (cases_eq (count_at in_file (x ∷ [])) 0) some;
    }
      where
        by_first : (first.lowest ≤ in_game) ⊎ (first.end.priority ≡ in_game)
            → (min first.lowest rest.lowest ≤ in_game) ⊎ (rest.end.priority ≡ in_game)
        by_first (inl le) = inl (omega (arith, le))
        by_first (inr here) = inl (omega (arith, here, rest.low))

        by_rest : (rest.lowest ≤ in_game) ⊎ (rest.end.priority ≡ in_game)
            → (min first.lowest rest.lowest ≤ in_game) ⊎ (rest.end.priority ≡ in_game)
        by_rest (inl le) = inl (omega (arith, le))
        by_rest (inr here) = inr here

        meets : (count_at in_file (x ∷ []) ≡ 0) ⊎ (count_at in_file (x ∷ []) ≡ 0 → ⊥)
            → 0 < count_at in_file (x ∷ (y ∷ ys))
            → (min first.lowest rest.lowest ≤ in_game) ⊎ (rest.end.priority ≡ in_game)
        meets (inl none) some = by_rest (rest.meets (omega (arith, some, none)))
        meets (inr other) some = by_first (first.meets (omega (arith, other)))

    walk_of_arcs : (xs : List Arc) (x : Arc) (e v : ℕ) (p : Position)
        → slice_get X.o.positions e ≡ Some p
        → slice_get X.a.positions v ≡ Some p
        → in_game ≤ p.priority
        → (w : ℕ)
        → IsWalk (go_graph X.r) in_file e (x ∷ xs) w
        → ArcsWalk v p (x ∷ xs) w
    walk_of_arcs [] x e v p placed stands high w walk =
        subst (ArcsWalk v p (x ∷ [])) walk.1
        (one_arc x e v p placed stands high (member_of_contains x (go_graph X.r).arcs walk.0.member) walk.0.leaves)
    walk_of_arcs (y ∷ ys) x e v p placed stands high w walk =
        let inside = member_of_contains x (go_graph X.r).arcs walk.0.member in
        let first = one_arc x e v p placed stands high inside walk.0.leaves in
        joined x y ys v p x.to w first (walk_of_arcs ys y x.to first.vertex first.end first.is_entry first.stands
        (arc_high x inside walk.0.high first.end first.is_entry) w walk.1)

    -- so no cycle has this lowest number, if it is even
    no_cycle : priority top lowest_mark % 2 ≡ 0
        → (x : Arc) (xs : List Arc) (b : ℕ)
        → IsWalk (go_graph X.r) in_file b (x ∷ xs) b
        → 0 < count_at in_file (x ∷ xs) → ⊥
    no_cycle even x xs b walk some = from (go_arc X x (member_of_contains x (go_graph X.r).arcs walk.0.member))
      where
        from : GoArc X x → ⊥
        from i = of_entry (entered X solution b
            (subst (λ k. k < length X.r.entries) (sym (ap (λ (y : Arc). y.from) i.arc_is.arc_is) ∙ walk.0.leaves)
            i.is_entry))
          where
            of_entry : Entered X solution b → ⊥
            of_entry h = of_walk (walk_of_arcs xs x b h.vertex h.here.position h.here.placed h.stands
                (ends_high xs x b b walk h.here.position h.here.placed) b walk)
              where
                of_walk : ArcsWalk h.vertex h.here.position (x ∷ xs) b → ⊥
                of_walk c =
                    let same_end : Some c.end ≡ Some h.here.position = sym c.is_entry ∙ h.here.placed in
                    let end_is : c.end ≡ h.here.position = cc in
                    let back : c.vertex ≡ h.vertex = same_place X.a.positions X.arena.are_different c.vertex h.vertex
                    h.here.position (c.stands ∙ ap Some end_is) h.stands in
                    let exact : c.lowest ≡ in_game = lowest_is (ap (λ (y : Position). y.priority) end_is)
                    (c.meets some) in
                    let good = closed_walk_good (game_of X.a) Odd (choice_at X.s.choice) h.vertex c.lowest
                    (subst (Walk X solution h.vertex c.lowest) back c.walk)
                    (entry_won b h.here.position h.here.placed h.vertex h.stands) in
                    even_is_not_odd in_game (even_agrees top (neutral X.g) lowest_mark (omega arith) even)
                    (sym (ap side exact) ∙ good)
                  where
                    lowest_is : c.end.priority ≡ h.here.position.priority
                        → (c.lowest ≤ in_game) ⊎ (c.end.priority ≡ in_game)
                        → c.lowest ≡ in_game
                    lowest_is same (inl le) = omega (arith, le, c.high)
                    lowest_is same (inr at_end) = omega (arith, at_end, same, c.low, c.high)

  -- ---- the theorem

  -- an arc of the walk with the number
  record Met (q : ℕ) : Type 0 where
    pub arc : Arc
    pub inside : IsMember arc (go_graph X.r).arcs
    pub number : arc.priority ≡ q

  met_on : (q : ℕ) (xs : List Arc) (e w : ℕ) → IsWalk (go_graph X.r) q e xs w → 0 < count_at q xs → Met q
  met_on q [] e w walk some = absurd (omega arith)
  met_on q (x ∷ xs) e w walk some = by_first (cases_eq x.priority q) (met_on q xs x.to w walk.1)
    where
      by_first : (x.priority ≡ q) ⊎ (x.priority ≡ q → ⊥) → (0 < count_at q xs → Met q) → Met q
      by_first (inl same) rest =
          record { arc = x; inside = member_of_contains x (go_graph X.r).arcs walk.0.member; number = same }
      by_first (inr other) rest = rest (omega (arith, some, counts-none q x xs other))

  pub no_even_cycle : EvenCycleIn (go_graph X.r) → ⊥
  no_even_cycle cycle = from cycle.arcs cycle.is_even
    where
      from : (xs : List Arc) → IsEvenCycle (go_graph X.r) xs → ⊥
      from [] c = absurd (omega (arith, c.met))
      from (x ∷ xs) c = of_arc (met_on c.lowest (x ∷ xs) c.begins c.begins c.leads_back c.met)
        where
          of_arc : Met c.lowest → ⊥
          of_arc m = of_go (go_arc X m.arc m.inside)
            where
              of_go : GoArc X m.arc → ⊥
              of_go i =
                  let number_is : c.lowest ≡ priority top i.arc_is.mark = sym m.number ∙ ap (λ (y : Arc). y.priority)
                  i.arc_is.arc_is in
                  no_cycle i.arc_is.mark (go_fits i.begins i.here.position i.arc_is.entry i.arc_is.mark i.here.placed
                  i.arc_is.go) i.arc_is.go.is_go.is_mark
                  (subst (λ k. k % 2 ≡ 0) number_is c.even) x xs c.begins
                  (subst (λ k. IsWalk (go_graph X.r) k c.begins (x ∷ xs) c.begins) number_is c.leads_back)
                  (subst (λ k. 0 < count_at k (x ∷ xs)) number_is c.met)

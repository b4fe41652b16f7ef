-- The vertices of entries: what moves that follow Odd's choices keep is true of them.
--
--   Entered, entered == an entry with its vertex
--   walk_on          == each arc of an entry is a walk from its vertex
--   along_walk       == what moves keep, walks keep
--   entry_keeps      == what is true of the start, and kept by moves, is true of the vertices of all entries
use Rattle.std.proofs.Common.{ℕ, zero, suc, ◌≡◌, ◌*◌, ◌<◌, Some, length, slice_get, sym, ap, ◌∙◌, subst, arith}
use Rattle.ml_lists.specs.Member.{IsMember}
use Rattle.ml_parity.specs.declared.one_sided.graph.Arc.{Arc}
use Rattle.ml_parity.specs.declared.players.Player.TheVariants.{Odd}
use Rattle.ml_parity.specs.Solution.{IsSolution, choice_at}
use Rattle.ml_product.specs.Arena.{game_of}
use Rattle.ml_product.specs.Position.{Position}
use Rattle.ml_refutation.specs.Acceptance.{entry_at}
use Rattle.ml_trace.specs.Marks.{priority}
use Rattle.std.proofs.lemmas.Option.{slice_get_within}
use Rattle.ml_product.proofs.OnePlace.{PlaceOf, place_of}
use Rattle.ml_refute.specs.Extracted.{arcs_of}
use Rattle.ml_refute.proofs.Entries.{Extraction, At, position_at, LedFrom, led_from, is_reached}
use Rattle.ml_refute.proofs.GoWalks.{ArcTo, arc_to, ArcWalk, walk_of_arc}
use Rattle.ml_product.proofs.OnePlace.{same_place}
use Rattle.ml_parity.proofs.FollowedWalks.{FollowedMove, FollowedWalk, last, before}

module _ (X : Extraction) (solution : IsSolution (game_of X.a) X.s) where
  abbrev top : ℕ
  top = 2 * X.r.names

  -- ---- entries and their vertices

  -- an entry with its vertex
  pub record Entered (e : ℕ) : Type 0 where
    pub here : At X e
    pub vertex : ℕ
    pub stands : slice_get X.a.positions vertex ≡ Some here.position

  pub entered : (e : ℕ) → e < length X.r.entries → Entered e
  entered e low = from (position_at X e low)
    where
      from : At X e → Entered e
      from h = with_place (place_of h.position X.a.positions
          ((X.arena.are_reached h.position).1 (is_reached X e h.position h.placed)))
        where
          with_place : PlaceOf h.position X.a.positions → Entered e
          with_place p = record { here = h; vertex = p.place; stands = p.stands }

  -- the walk to an entry to which an entry leads
  pub walk_on : (e : ℕ) (h : At X e) (v : ℕ) → slice_get X.a.positions v ≡ Some h.position → (arc : Arc)
      → IsMember arc (arcs_of top e (entry_at X.r e).decision)
      → ArcWalk X solution top e v h.position arc
  walk_on e h v stands arc inside =
      walk_of_arc X solution top e (entry_at X.r e).decision v h.position stands h.is_entry.decision arc inside

  module _ (P : ℕ → Type 0) (starts : P 0)
      (kept : (v w : ℕ) → FollowedMove (game_of X.a) Odd (choice_at X.s.choice) v w → P v → P w) where
    -- what moves keep, walks keep
    along_walk : (v k w : ℕ) → FollowedWalk (game_of X.a) Odd (choice_at X.s.choice) v k w → P v → P w
    along_walk v k w (last _ _ move) here = kept v w move here
    along_walk v k w (before {k = i} _ next move walk) here = along_walk next i w walk (kept v next move here)

    -- what is true of the start, and kept by moves, is true of the vertices of all entries; n is above the entry
    pub entry_keeps : (n e : ℕ)
        → e < n
        → (p : Position)
        → slice_get X.o.positions e ≡ Some p
        → (v : ℕ)
        → slice_get X.a.positions v ≡ Some p
        → P v
    entry_keeps zero e low p placed v stands = absurd (omega arith)
    entry_keeps (suc n) zero low p placed v stands = subst P (sym at_start) starts
      where
        at_start : v ≡ 0
        at_start = same_place X.a.positions X.arena.are_different v 0 p stands (sym X.o.starts ∙ placed)
    entry_keeps (suc n) (suc k) low p placed v stands =
        from (led_from X k (omega (arith, slice_get_within X.o.positions (suc k) p placed, X.o.a_position_each)))
        (λ e early. entry_keeps n e (omega arith))
      where
        of_arc : (l : LedFrom X (suc k)) (u : ℕ)
            → slice_get X.a.positions u ≡ Some l.before_at.position
            → P u
            → ArcTo top l.before (entry_at X.r l.before).decision (suc k)
            → P v
        of_arc l u u_stands u_has arc =
            along (walk_on l.before l.before_at u u_stands
            (record { from = l.before; priority = priority top arc.mark; to = suc k }) arc.inside)
          where
            along : ArcWalk X solution top l.before u l.before_at.position
                (record { from = l.before; priority = priority top arc.mark; to = suc k })
                → P v
            along w =
                let entry_is : suc k ≡ w.entry = ap (λ (x : Arc). x.to) w.arc_is in
                let same_next : Some w.walk.go.is_go.next ≡ Some p = sym w.walk.go.is_go.is_entry ∙ ap
                (slice_get X.o.positions) (sym entry_is) ∙ placed in
                let same : w.walk.go.is_go.next ≡ p = cc in
                let here : w.walk.vertex ≡ v = same_place X.a.positions X.arena.are_different w.walk.vertex v p
                (w.walk.stands ∙ ap Some same) stands in
                subst P here (along_walk u w.walk.lowest w.walk.vertex w.walk.walk u_has)

        from : LedFrom X (suc k)
            → ((e : ℕ) → e < suc k → (q : Position) → slice_get X.o.positions e ≡ Some q → (u : ℕ)
            → slice_get X.a.positions u ≡ Some q → P u)
            → P v
        from l earlier_has =
            of_vertex (entered l.before
            (omega (arith, l.earlier, slice_get_within X.o.positions (suc k) p placed, X.o.a_position_each)))
          where
            of_vertex : Entered l.before → P v
            of_vertex b =
                let same : Some b.here.position ≡ Some l.before_at.position = sym b.here.placed ∙ l.before_at.placed in
                let u_stands : slice_get X.a.positions b.vertex ≡ Some l.before_at.position = b.stands ∙ same in
                of_arc l b.vertex u_stands (earlier_has l.before l.earlier l.before_at.position l.before_at.placed
                b.vertex u_stands)
                (arc_to top l.before (entry_at X.r l.before).decision (suc k) l.leads)

-- The graph of the go's of an extracted refutation.
--
--   arc_in, Arcs_at, arc_from == the arcs of the graph are those of the entries' decisions
--   go_arc                    == each arc is that of a go of an entry
--   mark_low                  == the mark of a go has one of the refutation's names
--   is_one_sided              == the go's are a one-sided graph
--   falls                     == where the heights are the longest counts, they fall along each arc
use Rattle.std.proofs.Common.{ℕ, zero, suc, ◌≡◌, ◌+◌, ◌*◌, ◌<◌, ◌≤◌, ◌⊎◌, inl, inr, List, [], ◌∷◌, length, get_or, sym, ap, subst, arith, None}
use Rattle.ml_lists.specs.Member.{IsMember}
use Rattle.ml_lists.proofs.Member.{member-append, member-append_left, member-append_right, member-All, All-member, place-member}
use Rattle.ml_history.specs.HistoryStep.{live}
use Rattle.ml_parity.specs.declared.one_sided.graph.Arc.{Arc}
use Rattle.ml_parity.specs.Heights.{FallsAlong}
use Rattle.ml_parity.specs.OneSided.{IsOneSided, AreLongest, AreHeights}
use Rattle.ml_parity.proofs.HeightTables.{longest_heights}
use Rattle.ml_product.specs.Position.{Position}
use Rattle.ml_product.proofs.Reached.{Facts, numbered, IsTraced}
use Rattle.ml_refutation.specs.Acceptance.{entry_at, no_entry, heights_of}
use Rattle.ml_refutation.specs.Refutation.{Entry, IsMarkOf}
use Rattle.ml_trace.specs.declared.marks.Mark.{Mark}
use Rattle.ml_trace.specs.declared.marks.Mark.TheVariants.{Red, Green, Neutral}
use Rattle.ml_trace.specs.Marks.{priority}
use Rattle.std.proofs.lemmas.Option.{slice_get_within}
use Rattle.ml_lists.specs.Ascending.{IsAscending}
use Rattle.ml_history.specs.CycleLaws.{HasState}
use Rattle.ml_history.specs.History.{IsHistory}
use Rattle.ml_refute.specs.Extracted.{arcs_of, arcs_from, go_graph}
use Rattle.ml_refute.proofs.Decisions.{GoIn, ArcOf, go_of_arc}
use Rattle.ml_refute.proofs.Entries.{Extraction, At, position_at, facts_at}
use Rattle.ml_refute.proofs.GoSteps.{go_mark_in_use}

-- ---- arcs of a list of entries

-- an arc of the entry with the number base + k
pub arc_in : (top base : ℕ) (xs : List Entry) (k : ℕ) (arc : Arc) → k < length xs
    → IsMember arc (arcs_of top (base + k) (get_or xs k no_entry).decision) → IsMember arc (arcs_from top base xs)
arc_in top base [] k arc low inside = absurd (omega arith)
arc_in top base (x ∷ xs) zero arc low inside =
    let same : base + zero ≡ base = omega arith in
    member-append_left arc (arcs_of top base x.decision) (arcs_from top (base + 1) xs)
    (subst (λ e. IsMember arc (arcs_of top e x.decision)) same inside)
arc_in top base (x ∷ xs) (suc k) arc low inside =
    let same : base + suc k ≡ base + 1 + k = omega arith in
    member-append_right arc (arcs_of top base x.decision) (arcs_from top (base + 1) xs)
    (arc_in top (base + 1) xs k arc (omega arith)
    (subst (λ e. IsMember arc (arcs_of top e (get_or xs k no_entry).decision)) same inside))

-- the entry whose arc it is
pub record ArcAt (top base : ℕ) (xs : List Entry) (arc : Arc) : Type 0 where
  pub place : ℕ
  pub below : place < length xs
  pub inside : IsMember arc (arcs_of top (base + place) (get_or xs place no_entry).decision)

pub arc_at : (top base : ℕ) (xs : List Entry) (arc : Arc) → IsMember arc (arcs_from top base xs) → ArcAt top base xs arc
arc_at top base [] arc inside = absurd inside
arc_at top base (x ∷ xs) arc inside =
    by_part (member-append arc (arcs_of top base x.decision) (arcs_from top (base + 1) xs) inside)
    (arc_at top (base + 1) xs arc)
  where
    by_part : IsMember arc (arcs_of top base x.decision) ⊎ IsMember arc (arcs_from top (base + 1) xs)
        → (IsMember arc (arcs_from top (base + 1) xs) → ArcAt top (base + 1) xs arc)
        → ArcAt top base (x ∷ xs) arc
    by_part (inl here) rest =
        let same : base ≡ base + zero = omega arith in
        record {
          place = zero;
          below = omega arith;
          inside = subst (λ e. IsMember arc (arcs_of top e x.decision)) same
              here;
        }
    by_part (inr later) rest =
        let l = rest later in
        let same : base + 1 + l.place ≡ base + suc l.place = omega arith in
        record {
          place = suc l.place;
          below = omega (arith, l.below);
          inside = subst (λ e. IsMember arc (arcs_of top e (get_or xs l.place no_entry).decision)) same l.inside;
        }

-- the number of a mark with one of so many names is at most that of neutral
pub mark_at_most : (names : ℕ) (m : Mark) → IsMarkOf names m → priority (2 * names) m ≤ 2 * names
mark_at_most names (Red x) low = omega arith
mark_at_most names (Green x) low = omega arith
mark_at_most names Neutral low = omega arith

pub more_names : (live names : ℕ) (m : Mark) → live ≤ names → IsMarkOf live m → IsMarkOf names m
more_names live names (Red x) le low = omega arith
more_names live names (Green x) le low = omega arith
more_names live names Neutral le low = tt

-- ---- those of an extracted refutation

module _ (X : Extraction) where
  -- each arc is that of a go of an entry
  pub record GoArc (arc : Arc) : Type 0 where
    pub begins : ℕ
    pub is_entry : begins < length X.r.entries
    pub here : At X begins
    pub inside : IsMember arc (arcs_of (2 * X.r.names) begins (entry_at X.r begins).decision)
    pub arc_is : ArcOf X.g X.a X.s X.o.positions (2 * X.r.names) begins here.position arc

  pub go_arc : (arc : Arc) → IsMember arc (go_graph X.r).arcs → GoArc arc
  go_arc arc inside = from (arc_at (2 * X.r.names) 0 X.r.entries arc inside)
    where
      from : ArcAt (2 * X.r.names) 0 X.r.entries arc → GoArc arc
      from i =
          let here = position_at X i.place i.below in
          let same : 0 + i.place ≡ i.place = omega arith in
          let inside_here = subst (λ e. IsMember arc (arcs_of (2 * X.r.names) e (entry_at X.r i.place).decision)) same
          i.inside in
          record {
            begins = i.place;
            is_entry = i.below;
            here = here;
            inside = inside_here;
            arc_is = go_of_arc X.g X.a X.s X.o.positions (2 * X.r.names) i.place here.position
                (entry_at X.r i.place).decision here.is_entry.decision arc inside_here;
          }

  -- the names in use at an entry are among those of the refutation
  pub live_within : (e : ℕ) (h : At X e) → e < length X.r.entries → live h.position.history ≤ X.r.names
  live_within e h low =
      let within : (entry_at X.r e).traces.live ≤ X.r.names =
      All-member (λ (x : Entry). x.traces.live ≤ X.r.names) X.r.entries X.o.names.bounds (entry_at X.r e)
      (place-member X.r.entries e no_entry low) in
      let same : (entry_at X.r e).traces.live ≡ live h.position.history = ap (λ t. t.live) h.is_entry.traces in
      omega (arith, within, same)

  -- the facts at a go
  pub facts_below : (p : Position) (f : ℕ) (m : Mark) (go : GoIn X.g X.a X.s X.o.positions p f m)
      → Facts X.g p
      → Facts X.g go.here
  facts_below p f m go facts = record {
    ascends = subst IsAscending (sym go.same_sequent) facts.ascends;
    stands = λ n i. subst (λ h. HasState h (numbered X.g n None)) (sym go.same_history)
        (facts.stands n (subst (λ c. IsMember n c) go.same_sequent i));
    traced = λ b i. subst (λ c. IsTraced X.g c b) (sym go.same_sequent)
        (facts.traced b (subst (λ h. IsMember b h) go.same_history i));
    is_history = subst IsHistory (sym go.same_history) facts.is_history;
  }

  -- the mark of a go has one of the refutation's names
  pub mark_low : (e : ℕ) (h : At X e)
      → e < length X.r.entries
      → (f : ℕ) (m : Mark)
      → GoIn X.g X.a X.s X.o.positions h.position f m
      → IsMarkOf X.r.names m
  mark_low e h low f m go =
      let facts = facts_below h.position f m go (facts_at X e h.position h.placed) in
      let in_use = go_mark_in_use X.g go.here go.is_go.next go.spread go.diamond go.is_go.is_diamond.leads facts
      go.is_spread m go.is_go.marked go.is_go.is_mark in
      more_names (live go.here.history) X.r.names m (subst (λ k. live k ≤ X.r.names) (sym go.same_history)
      (live_within e h low)) in_use

  -- the entry of a go is one
  pub entry_low : (p : Position) (f : ℕ) (m : Mark) → GoIn X.g X.a X.s X.o.positions p f m → f < length X.r.entries
  entry_low p f m go = let low = slice_get_within X.o.positions f go.is_go.next go.is_go.is_entry in
      omega (arith, low, X.o.a_position_each)

  -- the go's are a one-sided graph
  pub is_one_sided : IsOneSided (go_graph X.r)
  is_one_sided = record {
    even = omega arith;
    priorities = member-All (λ (x : Arc). x.priority ≤ 2 * X.r.names) (go_graph X.r).arcs
        (λ x i. priority_low x (go_arc x i));
    begins = member-All (λ (x : Arc). x.from < length X.r.entries) (go_graph X.r).arcs
        (λ x i. begins_low x (go_arc x i));
    ends = member-All (λ (x : Arc). x.to < length X.r.entries) (go_graph X.r).arcs (λ x i. ends_low x (go_arc x i));
  }
    where
      priority_low : (x : Arc) → GoArc x → x.priority ≤ 2 * X.r.names
      priority_low x i =
          subst (λ (y : Arc). y.priority ≤ 2 * X.r.names) (sym i.arc_is.arc_is)
          (mark_at_most X.r.names i.arc_is.mark (mark_low i.begins i.here i.is_entry i.arc_is.entry i.arc_is.mark
          i.arc_is.go))

      begins_low : (x : Arc) → GoArc x → x.from < length X.r.entries
      begins_low x i = subst (λ (y : Arc). y.from < length X.r.entries) (sym i.arc_is.arc_is) i.is_entry

      ends_low : (x : Arc) → GoArc x → x.to < length X.r.entries
      ends_low x i =
          subst (λ (y : Arc). y.to < length X.r.entries) (sym i.arc_is.arc_is)
          (entry_low i.here.position i.arc_is.entry i.arc_is.mark i.arc_is.go)

  -- where the heights are the longest counts, they fall along each arc of an entry
  pub falls : AreLongest (go_graph X.r) (heights_of X.r) → (e : ℕ) → e < length X.r.entries → (arc : Arc)
      → IsMember arc (arcs_of (2 * X.r.names) e (entry_at X.r e).decision)
      → FallsAlong (heights_of X.r) arc
  falls longest e low arc inside =
      let heights : AreHeights (go_graph X.r) (heights_of X.r) = longest_heights (go_graph X.r) (heights_of X.r)
      is_one_sided longest in
      let same : e ≡ 0 + e = omega arith in
      All-member (FallsAlong (heights_of X.r)) (go_graph X.r).arcs heights.along arc
      (arc_in (2 * X.r.names) 0 X.r.entries e arc low
      (subst (λ k. IsMember arc (arcs_of (2 * X.r.names) k (entry_at X.r e).decision)) same inside))

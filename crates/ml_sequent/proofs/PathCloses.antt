-- The last frame of a walk along a path ends.
--
--   Dropped, dropped_or  == a node of the frame; each node is one or isn't
--   dropped_done, kept   == these are done, and how far others are stays
--   close_keeps          == what is said of the walk stays true
--   stays_done           == a walk from a node that is done leads to such nodes alone
--   none_on_cycle        == a single node that is no child of its own is on no cycle
--   all_on_cycle         == the nodes of a cyclic part are on cycles
--   close_least          == the least loop of those that are done
use Rattle.std.proofs.Common.{ℕ, ◌≡◌, ◌+◌, ◌-◌, ◌<◌, ◌≤◌, ◌⊎◌, inl, inr, ⊎_elim, min, List, [], ◌∷◌, length, get_or, take, drop, Option, refl, sym, ap, ◌∙◌, subst, arith}
use Rattle.std.proofs.lemmas.Bool.{cases_lt, cases_eq}
use Rattle.std.proofs.lemmas.List.{get_or-take, get_or-drop, length-take-le, length-drop}
use Rattle.ml_lists.specs.Member.{IsMember}
use Rattle.ml_lists.proofs.Member.{member-place, place-member, Place}
use Rattle.ml_graph.specs.Graph.{Graph, priority_at}
use Rattle.ml_sequent.specs.declared.choice.Side.{Side}
use Rattle.ml_sequent.specs.declared.parts.Frame.{Frame}
use Rattle.ml_sequent.specs.declared.parts.Stage.{Stage}
use Rattle.ml_sequent.specs.declared.parts.Stage.TheVariants.{New, On, Done}
use Rattle.ml_sequent.specs.LocalWalk.{LocalWalk, stays, goes, children}
use Rattle.ml_sequent.specs.Spread.{OnCycle}
use Rattle.ml_sequent.specs.private.ConnectedParts.{IsChild, Reaches, WalkList, stage_of, IsFramed, AreTogether, Led, is_done, is_on, waits, looked_at}
use Rattle.ml_sequent.specs.private.ConnectedParts.{Owner, IsUnder, shut, IsLeast, IsLoop, IsDoneLoop, IsCyclic, IsClosedIn, offered}
use Rattle.ml_sequent.proofs.FrameLists.{all_done_here, all_done_other, all_done_length}
use Rattle.ml_sequent.proofs.LeastLoops.{same_least, offered_least}
use Rattle.ml_sequent.proofs.LocalWalks.{walk_low, walk_joined}
use Rattle.ml_sequent.proofs.PathWalks.{framed_below, same_place}

module _ (g : Graph) (c : List (ℕ × Side)) (d : ℕ) (N : List ℕ) (set_is : IsClosedIn g c N) (x : WalkList)
    (is : IsUnder g c d N [] x) (f : Frame) (rest : List Frame) (frames_are : x.frames ≡ f ∷ rest)
    (none_waits : length x.waiting ≤ f.waits) where
  framed : IsFramed (length x.path) (length x.waiting) (f ∷ rest)
  framed = subst (IsFramed (length x.path) (length x.waiting)) frames_are is.framed

  f_in : IsMember f x.frames
  f_in = subst (IsMember f) (sym frames_are) (inl refl)

  rest_in : (h : Frame) → IsMember h rest → IsMember h x.frames
  rest_in h m = subst (IsMember h) (sym frames_are) (inr m)

  begins : f.first < length x.path
  begins = framed.0

  waits_are : length x.waiting ≡ f.waits
  waits_are = omega (arith, framed.1)

  short : length (take f.first x.path) ≡ f.first
  short = length-take-le f.first x.path (omega (arith, begins))

  earlier : (p : ℕ) → p < f.first → get_or (take f.first x.path) p 0 ≡ get_or x.path p 0
  earlier p low = get_or-take f.first x.path p 0 low

  -- a node of the frame
  pub record Dropped (n : ℕ) : Type 0 where
    pub place : ℕ
    pub behind : f.first ≤ place
    pub low : place < length x.path
    pub holds : get_or x.path place 0 ≡ n

  dropped_on : (n : ℕ) (at : Dropped n) → stage_of x n ≡ On at.place
  dropped_on n at = subst (λ k. stage_of x k ≡ On at.place) at.holds (is.inside at.place at.low).2

  dropped_member : (n : ℕ) → Dropped n → IsMember n N
  dropped_member n at = subst (λ k. IsMember k N) at.holds (is.inside at.place at.low).0

  in_drop : (n : ℕ) → Dropped n → IsMember n (drop f.first x.path)
  in_drop n at =
      let split : f.first + (at.place - f.first) ≡ at.place = omega (arith, at.behind) in
      let here : get_or (drop f.first x.path) (at.place - f.first) 0 ≡ n =
      get_or-drop f.first x.path (at.place - f.first) 0 ∙ ap (λ k. get_or x.path k 0) split ∙ at.holds
      in
      subst (λ k. IsMember k (drop f.first x.path)) here
      (place-member (drop f.first x.path) (at.place - f.first) 0
      (omega (arith, at.low, at.behind, length-drop f.first x.path)))

  from_drop : (n : ℕ) → IsMember n (drop f.first x.path) → Dropped n
  from_drop n m = from (member-place n (drop f.first x.path) m)
    where
      from : Place n (drop f.first x.path) → Dropped n
      from p = record {
        place = f.first + p.place;
        behind = omega arith;
        low = omega (arith, p.below, length-drop f.first x.path);
        holds = sym (get_or-drop f.first x.path p.place 0) ∙ p.holds 0;
      }

  -- these are done
  dropped_done : (n : ℕ) → Dropped n → stage_of (shut f rest x) n ≡ Done
  dropped_done n at =
      all_done_here (drop f.first x.path) x.stages n (omega (arith, is.sized, set_is.low n (dropped_member n at)))
      (in_drop n at)

  -- and how far others are stays
  kept : (n : ℕ) → (Dropped n → ⊥) → stage_of (shut f rest x) n ≡ stage_of x n
  kept n other = all_done_other (drop f.first x.path) x.stages n (λ m. other (from_drop n m))

  not_dropped : (n : ℕ) (s : Stage) → stage_of x n ≡ s → ((p : ℕ) → s ≡ On p → f.first ≤ p → ⊥) → Dropped n → ⊥
  not_dropped n s e other at = other at.place (sym e ∙ dropped_on n at) at.behind

  -- each node is one of the frame, or isn't
  dropped_or : (n : ℕ) → IsMember n N → Dropped n ⊎ (Dropped n → ⊥)
  dropped_or n n_in = by_stage (stage_of x n) refl
    where
      by_stage : (s : Stage) → stage_of x n ≡ s → Dropped n ⊎ (Dropped n → ⊥)
      by_stage New e = inr (not_dropped n New e (λ p same behind. absurd (cc)))
      by_stage Done e = inr (not_dropped n Done e (λ p same behind. absurd (cc)))
      by_stage (On p) e = ⊎_elim
          (λ (before : p < f.first). inr (not_dropped n (On p) e
          (λ q same behind. let at = same_place p q same in omega arith)))
          (λ (behind : f.first ≤ p).
          let at = is.placed n p n_in e in inl (record { place = p; behind = behind; low = at.0; holds = at.1 }))
          (cases_lt p f.first)

  -- what was done is done
  done_kept : (n : ℕ) → stage_of x n ≡ Done → stage_of (shut f rest x) n ≡ Done
  done_kept n e = kept n (not_dropped n Done e (λ p same behind. absurd (cc))) ∙ e

  child_in : (n m : ℕ) → IsMember n N → IsChild g c d n m → IsMember m N
  child_in n m n_in child = set_is.closed n m n_in child.0

  -- the children of a node of the frame are done
  frame_child : (n m : ℕ) → Dropped n → IsChild g c d n m → stage_of (shut f rest x) m ≡ Done
  frame_child n m at child =
      from (is.leads f f_in at.place m at.behind at.low (subst (λ k. IsChild g c d k m) (sym at.holds) child))
    where
      from : Led x [] f m → stage_of (shut f rest x) m ≡ Done
      from (is_done e) = done_kept m e
      from (is_on q e behind) =
          let place = is.placed m q (child_in n m (dropped_member n at) child) e in
          dropped_done m (record { place = q; behind = behind; low = place.0; holds = place.1 })
      from (waits k after low e) = absurd (omega arith)
      from (looked_at none) = absurd none

  close_inside : (p : ℕ) → p < f.first
      → IsMember (get_or (take f.first x.path) p 0) N
      × (d ≤ priority_at g (get_or (take f.first x.path) p 0))
      × (stage_of (shut f rest x) (get_or (take f.first x.path) p 0) ≡ On p)
  close_inside p low =
      let old = is.inside p (omega (arith, begins)) in
      let stage =
      kept (get_or x.path p 0)
      (not_dropped (get_or x.path p 0) (On p) old.2 (λ q same behind. let at = same_place p q same in omega arith))
      ∙ old.2
      in
      subst (λ n. IsMember n N × (d ≤ priority_at g n) × (stage_of (shut f rest x) n ≡ On p)) (sym (earlier p low))
      (old.0, old.1, stage)

  close_placed : (n p : ℕ) → IsMember n N → stage_of (shut f rest x) n ≡ On p
      → (p < f.first) × (get_or (take f.first x.path) p 0 ≡ n)
  close_placed n p n_in on = from (dropped_or n n_in)
    where
      from : Dropped n ⊎ (Dropped n → ⊥) → (p < f.first) × (get_or (take f.first x.path) p 0 ≡ n)
      from (inl at) = let both = sym (dropped_done n at) ∙ on in absurd (cc)
      from (inr other) =
          let old = is.placed n p n_in (sym (kept n other) ∙ on) in
          ⊎_elim
          (λ (before : p < f.first). (before, earlier p before ∙ old.1))
          (λ (behind : f.first ≤ p). absurd (other (record { place = p; behind = behind; low = old.0; holds = old.1 })))
          (cases_lt p f.first)

  close_leads : (h : Frame) → IsMember h rest → (p m : ℕ) → h.first ≤ p → p < f.first
      → IsChild g c d (get_or (take f.first x.path) p 0) m
      → Led (shut f rest x) [] h m
  close_leads h h_in p m at low child = from (is.leads h (rest_in h h_in) p m at (omega (arith, begins)) old_child)
    where
      old_child : IsChild g c d (get_or x.path p 0) m
      old_child = subst (λ n. IsChild g c d n m) (earlier p low) child

      m_in : IsMember m N
      m_in = child_in (get_or x.path p 0) m (is.inside p (omega (arith, begins))).0 old_child

      from : Led x [] h m → Led (shut f rest x) [] h m
      from (is_done e) = is_done (done_kept m e)
      from (is_on q e behind) = by_drop (dropped_or m m_in)
        where
          by_drop : Dropped m ⊎ (Dropped m → ⊥) → Led (shut f rest x) [] h m
          by_drop (inl gone) = is_done (dropped_done m gone)
          by_drop (inr other) = is_on q (kept m other ∙ e) behind
      from (waits k after k_low e) = waits k after k_low e
      from (looked_at none) = absurd none

  close_owned : (k : ℕ) → k < length x.waiting → Owner g c d x k → Owner g c d (shut f rest x) k
  close_owned k low o = record {
    place = o.place;
    low = omega (arith, short, before);
    child = subst (λ n. IsChild g c d n (get_or x.waiting k 0)) (sym (earlier o.place before)) o.child;
    framed = λ h h_in. o.framed h (rest_in h h_in);
  }
    where
      before : o.place < f.first
      before = (o.framed f f_in).1 (omega (arith, waits_are))

  together_old : (p q : ℕ) → q < f.first → AreTogether rest p q → AreTogether x.frames p q
  together_old p q low together h h_in = from (subst (IsMember h) frames_are h_in)
    where
      from : (h ≡ f) ⊎ IsMember h rest → (h.first ≤ p) ⊎ (q < h.first)
      from (inl same) = let first : h.first ≡ f.first = ap (λ (e : Frame). e.first) same in inr (omega arith)
      from (inr later) = together h later

  close_closed : (n m : ℕ)
      → IsMember n N
      → stage_of (shut f rest x) n ≡ Done
      → IsChild g c d n m
      → stage_of (shut f rest x) m ≡ Done
  close_closed n m n_in ended child = from (dropped_or n n_in)
    where
      from : Dropped n ⊎ (Dropped n → ⊥) → stage_of (shut f rest x) m ≡ Done
      from (inl at) = frame_child n m at child
      from (inr other) = done_kept m (is.closed n m n_in (sym (kept n other) ∙ ended) child)

  -- what is said of the walk stays true
  pub close_keeps : IsUnder g c d N [] (shut f rest x)
  close_keeps = record {
    sized = all_done_length (drop f.first x.path) x.stages ∙ is.sized;
    inside = λ p low. close_inside p (omega (arith, short));
    placed = λ n p n_in on. let at = close_placed n p n_in on in (omega (arith, short, at.0), at.1);
    forth = λ p q order low.
        let q_low : q < f.first = omega (arith, short) in
        subst (λ n. Reaches g c d n (get_or (take f.first x.path) q 0)) (sym (earlier p (omega arith)))
        (subst (λ n. Reaches g c d (get_or x.path p 0) n) (sym (earlier q q_low))
        (is.forth p q order (omega (arith, begins))));
    back = λ p q order low together.
        let q_low : q < f.first = omega (arith, short) in
        subst (λ n. Reaches g c d n (get_or (take f.first x.path) p 0)) (sym (earlier q q_low))
        (subst (λ n. Reaches g c d (get_or x.path q 0) n) (sym (earlier p (omega arith)))
        (is.back p q order (omega (arith, begins)) (together_old p q q_low together)));
    closed = close_closed;
    leads = λ h h_in p m at low child. close_leads h h_in p m at (omega (arith, short)) child;
    owned = λ k low. close_owned k low (is.owned k low);
    framed = subst (λ n. IsFramed n (length x.waiting) rest) (sym short)
        (subst (λ k. IsFramed f.first k rest) (sym waits_are) framed.2);
  }

  -- ---- cycles

  -- a walk from a node that is done leads to such nodes alone
  stays_done : (n k m : ℕ) → LocalWalk g c n k m → d ≤ k → IsMember n N → stage_of x n ≡ Done → stage_of x m ≡ Done
  stays_done n k m (stays _) high n_in ended = ended
  stays_done n k m (goes {k = j} _ next child w) high n_in ended =
      let low = walk_low g c next j m w in
      let is_child : IsChild g c d n next = (child, omega arith) in
      stays_done next j m w (omega arith) (set_is.closed n next n_in child) (is.closed n next n_in ended is_child)

  -- a single node that is no child of its own is on no cycle
  none_on_cycle : length x.path ≡ f.first + 1
      → (IsMember (get_or x.path f.first 0) (children g c (get_or x.path f.first 0)) → ⊥)
      → (n : ℕ)
      → Dropped n
      → IsLoop g c d n
      → ⊥
  none_on_cycle single none n at loop =
      let child : IsChild g c d n loop.1.next = (loop.1.child, omega (arith, low)) in
      from (is.leads f f_in at.place loop.1.next at.behind at.low
      (subst (λ k. IsChild g c d k loop.1.next) (sym at.holds) child))
    where
      low : priority_at g n ≤ priority_at g loop.1.next
      low = omega (arith, walk_low g c loop.1.next loop.1.lowest n loop.1.walk, loop.1.high)

      here : n ≡ get_or x.path f.first 0
      here = let same : at.place ≡ f.first = omega (arith, at.behind, at.low) in
          sym at.holds ∙ ap (λ k. get_or x.path k 0) same

      n_in : IsMember n N
      n_in = dropped_member n at

      from : Led x [] f loop.1.next → ⊥
      from (is_done e) =
          let ended =
          stays_done loop.1.next loop.1.lowest n loop.1.walk (omega (arith, loop.0, loop.1.high))
          (set_is.closed n loop.1.next n_in loop.1.child) e
          in
          let both = sym ended ∙ dropped_on n at in
          absurd (cc)
      from (is_on q e behind) =
          let place = is.placed loop.1.next q (set_is.closed n loop.1.next n_in loop.1.child) e in
          let same : q ≡ f.first = omega (arith, place.0) in
          let next_is : loop.1.next ≡ get_or x.path f.first 0 = sym place.1 ∙ ap (λ k. get_or x.path k 0) same in
          none
          (subst (λ k. IsMember k (children g c (get_or x.path f.first 0))) next_is
          (subst (λ k. IsMember loop.1.next (children g c k)) here loop.1.child))
      from (waits k after k_low e) = absurd (omega arith)
      from (looked_at none_here) = absurd none_here

  -- all frames begin before a place of the last one
  together_here : (p q : ℕ) → f.first ≤ p → AreTogether x.frames p q
  together_here p q behind h h_in = from (subst (IsMember h) frames_are h_in)
    where
      from : (h ≡ f) ⊎ IsMember h rest → (h.first ≤ p) ⊎ (q < h.first)
      from (inl same) = let first : h.first ≡ f.first = ap (λ (e : Frame). e.first) same in inl (omega arith)
      from (inr later) = let below = framed_below f.first f.waits rest framed.2 h later in inl (omega (arith, below.0))

  -- two nodes of the frame lead to one another
  to_each : (p q : ℕ) → f.first ≤ p → p < length x.path → f.first ≤ q → q < length x.path
      → Reaches g c d (get_or x.path p 0) (get_or x.path q 0)
  to_each p q p_behind p_low q_behind q_low = ⊎_elim
      (λ (before : p < q). is.forth p q (omega arith) q_low)
      (λ (after : q ≤ p). is.back q p after p_low (together_here q p q_behind))
      (cases_lt p q)

  apart : (p q : ℕ) → p < length x.path → q < length x.path → (p ≡ q → ⊥) → get_or x.path p 0 ≡ get_or x.path q 0 → ⊥
  apart p q p_low q_low differ same =
      differ (same_place p q (sym (is.inside p p_low).2 ∙ ap (stage_of x) same ∙ (is.inside q q_low).2))

  -- there and back is a cycle
  cycle_of : (n m : ℕ) → priority_at g n ≡ d → (n ≡ m → ⊥) → Reaches g c d n m → Reaches g c d m n → OnCycle g c n
  cycle_of n m high differ there back = from m there.lowest there.walk there.high differ back
    where
      from : (m k : ℕ) → LocalWalk g c n k m → d ≤ k → (n ≡ m → ⊥) → Reaches g c d m n → OnCycle g c n
      from m k (stays _) low other home = absurd (other refl)
      from m k (goes {k = j} _ next child w) low other home = record {
        next = next;
        child = child;
        lowest = min j home.lowest;
        walk = walk_joined g c next j m home.lowest n w home.walk;
        high = omega (arith, home.high);
      }

  -- the nodes of a frame of two nodes or more are on cycles
  two_on_cycle : 1 < length (drop f.first x.path) → (n : ℕ) → Dropped n → priority_at g n ≡ d → OnCycle g c n
  two_on_cycle more n at high = ⊎_elim
      (λ (first : at.place ≡ f.first). with_other (f.first + 1) (omega arith)
      (omega (arith, length-drop f.first x.path)) (omega arith))
      (λ (other : at.place ≡ f.first → ⊥). with_other f.first (omega arith) begins (omega (arith, at.behind)))
      (cases_eq at.place f.first)
    where
      with_other : (q : ℕ) → f.first ≤ q → q < length x.path → (at.place ≡ q → ⊥) → OnCycle g c n
      with_other q behind low differ =
          cycle_of n (get_or x.path q 0) high
          (λ same. apart at.place q at.low low differ (at.holds ∙ same))
          (subst (λ k. Reaches g c d k (get_or x.path q 0)) at.holds (to_each at.place q at.behind at.low behind low))
          (subst (λ k. Reaches g c d (get_or x.path q 0) k) at.holds (to_each q at.place behind low at.behind at.low))

  -- the nodes of a cyclic part are on cycles
  all_on_cycle : IsCyclic g c (drop f.first x.path) → (n : ℕ) → Dropped n → priority_at g n ≡ d → OnCycle g c n
  all_on_cycle (inl more) n at high = two_on_cycle more n at high
  all_on_cycle (inr own) n at high = ⊎_elim
      (λ (single : length x.path < f.first + 2). by_self single)
      (λ (more : f.first + 2 ≤ length x.path). two_on_cycle (omega (arith, length-drop f.first x.path)) n at high)
      (cases_lt (length x.path) (f.first + 2))
    where
      by_self : length x.path < f.first + 2 → OnCycle g c n
      by_self single =
          let place : at.place ≡ f.first + 0 = omega (arith, at.behind, at.low) in
          let here : n ≡ get_or (drop f.first x.path) 0 0 =
          sym at.holds ∙ ap (λ k. get_or x.path k 0) place ∙ sym (get_or-drop f.first x.path 0 0) in
          let child : IsMember n (children g c n) = subst (λ k. IsMember k (children g c k)) (sym here) own in
          record { next = n; child = child; lowest = priority_at g n; walk = stays n; high = omega arith }

  -- the least loop of those that are done, where the part is cyclic
  pub close_cyclic : (best : Option ℕ) → IsCyclic g c (drop f.first x.path) → IsLeast (IsDoneLoop g c d N x) best
      → IsLeast (IsDoneLoop g c d N (shut f rest x)) (offered g d (drop f.first x.path) best)
  close_cyclic best cyclic is_least =
      same_least (λ n. IsDoneLoop g c d N x n ⊎ (IsMember n (drop f.first x.path) × (priority_at g n ≡ d)))
      (IsDoneLoop g c d N (shut f rest x)) (offered g d (drop f.first x.path) best) to from
      (offered_least g d (drop f.first x.path) (IsDoneLoop g c d N x) best is_least)
    where
      to : (n : ℕ)
          → IsDoneLoop g c d N x n ⊎ (IsMember n (drop f.first x.path) × (priority_at g n ≡ d))
          → IsDoneLoop g c d N (shut f rest x) n
      to n (inl old) = (old.0, done_kept n old.1, old.2)
      to n (inr new) =
          let at = from_drop n new.0 in
          (dropped_member n at, dropped_done n at, (new.1, all_on_cycle cyclic n at new.1))

      from : (n : ℕ)
          → IsDoneLoop g c d N (shut f rest x) n
          → IsDoneLoop g c d N x n ⊎ (IsMember n (drop f.first x.path) × (priority_at g n ≡ d))
      from n loop = by_drop (dropped_or n loop.0)
        where
          by_drop : Dropped n ⊎ (Dropped n → ⊥)
              → IsDoneLoop g c d N x n ⊎ (IsMember n (drop f.first x.path) × (priority_at g n ≡ d))
          by_drop (inl at) = inr (in_drop n at, loop.2.0)
          by_drop (inr other) = inl (loop.0, sym (kept n other) ∙ loop.1, loop.2)

  -- and where it isn't
  pub close_plain : (best : Option ℕ) → (IsCyclic g c (drop f.first x.path) → ⊥) → IsLeast (IsDoneLoop g c d N x) best
      → IsLeast (IsDoneLoop g c d N (shut f rest x)) best
  close_plain best plain is_least =
      same_least (IsDoneLoop g c d N x) (IsDoneLoop g c d N (shut f rest x)) best to from is_least
    where
      to : (n : ℕ) → IsDoneLoop g c d N x n → IsDoneLoop g c d N (shut f rest x) n
      to n old = (old.0, done_kept n old.1, old.2)

      single : length x.path ≡ f.first + 1
      single = ⊎_elim
          (λ (more : 1 < length (drop f.first x.path)). absurd (plain (inl more)))
          (λ (few : length (drop f.first x.path) ≤ 1). omega (arith, begins, length-drop f.first x.path))
          (cases_lt 1 (length (drop f.first x.path)))

      no_child : IsMember (get_or x.path f.first 0) (children g c (get_or x.path f.first 0)) → ⊥
      no_child m =
          let end : f.first ≡ f.first + 0 = omega arith in
          let here : get_or x.path f.first 0 ≡ get_or (drop f.first x.path) 0 0 =
          ap (λ k. get_or x.path k 0) end ∙ sym (get_or-drop f.first x.path 0 0)
          in
          plain (inr (subst (λ k. IsMember k (children g c k)) here m))

      from : (n : ℕ) → IsDoneLoop g c d N (shut f rest x) n → IsDoneLoop g c d N x n
      from n loop = by_drop (dropped_or n loop.0)
        where
          by_drop : Dropped n ⊎ (Dropped n → ⊥) → IsDoneLoop g c d N x n
          by_drop (inl at) = absurd (none_on_cycle single no_child n at loop.2)
          by_drop (inr other) = (loop.0, sym (kept n other) ∙ loop.1, loop.2)

  -- nothing new is new
  pub close_fresh : (n : ℕ) → IsMember n N → stage_of (shut f rest x) n ≡ New → stage_of x n ≡ New
  close_fresh n n_in new = from (dropped_or n n_in)
    where
      from : Dropped n ⊎ (Dropped n → ⊥) → stage_of x n ≡ New
      from (inl at) = let both = sym (dropped_done n at) ∙ new in absurd (cc)
      from (inr other) = sym (kept n other) ∙ new

-- The search along local walks: what its parts do to what was found.
--
--   one_code         == two places with one number are one
--   nothing_marked   == where nothing is found, nothing is marked
--   newly_marked     == one place more
--   found_before     == a place whose number is marked was found
--   all_unmarked, unmarked_more == where all that was found is unmarked, nothing is marked; one mark less
--   visited_none, visited_join == no place visited; two visits, one behind the other
--   visited_old, visited_new   == a place that was found before, and one that wasn't
--   has_room, node_low == places of nodes of the graph have room, and what has room is such a place
--   found_low        == what a search found are places of the graph
--   some_rank        == a graph with a node has a rank
--   finished         == what a finished search answers
--   visited_two, visited_more == places in two parts, and the places of one node more
--   search_begins    == when the first places are visited
--   search_continues == the same, where the first ones of them lead to no others than these
--   search_goes_on   == when the places behind one more are visited
--   search_ends      == when all that was found went on
use Rattle.std.proofs.Common.{ℕ, ◌≡◌, ◌+◌, ◌*◌, ◌<◌, ◌≤◌, ◌⊎◌, inl, inr, ⊎_elim, Bool, true, false, not, List, [], ◌∷◌, ◌++◌}
use Rattle.std.proofs.Common.{length, get_or, set, map, take, replicate, refl, sym, ap, ◌∙◌, subst, arith, length-append}
use Rattle.std.proofs.Common.{append_assoc, append-nil, mul-le-mul_left, Result, Ok, Err, OnOk, All}
use Rattle.std.proofs.lemmas.Bool.{cases_eq, cases_lt}
use Rattle.std.proofs.lemmas.List.{take_more, map-append, get_or-set_same, get_or-set_other, get_or_past, get_or-replicate, length-set, length-replicate, get_or_default, get_or_append_left}
use Rattle.ml_lists.specs.Member.{IsMember}
use Rattle.ml_lists.proofs.Counting.{count_strict, count_le}
use Rattle.ml_lists.proofs.Member.{member-append, member-append_left, member-append_right, member-place, place-member, member-All}
use Rattle.ml_graph.specs.Graph.{Graph, size}
use Rattle.ml_sequent.specs.declared.reach.Visit.{Visit}
use Rattle.ml_sequent.specs.private.Reach.{Leads, ends, moves, IsReached, code, mark, unmarked, HasCode, IsMarked, IsVisited, IsSearch, HasReached, ReachList, LevelList, IsRanked, HasRoom}

-- ---- marks

-- two places with one number are one
pub one_code : (width : ℕ) (v w : Visit) → v.rank < width → w.rank < width → code width v ≡ code width w → v ≡ w
one_code width v w v_low w_low e =
    ⊎_elim
    (λ (less : v.node < w.node). let next : v.node + 1 ≤ w.node = omega arith in
    let step : width * (v.node + 1) ≤ width * w.node = mul-le-mul_left width next in absurd (omega arith))
    (λ (rest : w.node ≤ v.node). ⊎_elim
    (λ (more : w.node < v.node). let next : w.node + 1 ≤ v.node = omega arith in
    let step : width * (w.node + 1) ≤ width * v.node = mul-le-mul_left width next in absurd (omega arith))
    (λ (back : v.node ≤ w.node).
    let nodes : v.node ≡ w.node = omega arith in
    let products : width * v.node ≡ width * w.node = ap (λ n. width * n) nodes in
    let ranks : v.rank ≡ w.rank = omega arith in
    λ i. record { node = nodes i; rank = ranks i })
    (cases_lt w.node v.node))
    (cases_lt v.node w.node)

-- marked numbers are in range
marked_low : (marks : List Bool) (m : ℕ) → mark marks m ≡ true → m < length marks
marked_low marks m is = ⊎_elim
    (λ (low : m < length marks). low)
    (λ (high : length marks ≤ m). let none = get_or_past marks m false high in absurd (cc))
    (cases_lt m (length marks))

-- where nothing is found, nothing is marked
pub nothing_marked : (width : ℕ) (marks : List Bool) → ((m : ℕ) → mark marks m ≡ true → ⊥) → IsMarked width marks []
nothing_marked width marks none = record {
  marked = λ v h. absurd h;
  only = λ m h. absurd (none m h);
  low = λ v h. absurd h;
  counted = omega (arith, count_le (λ m. not (mark marks m)) (length marks));
}

pub none_replicated : (n m : ℕ) → mark (replicate n false) m ≡ true → ⊥
none_replicated n m h =
    let low = marked_low (replicate n false) m h in
    let none = get_or-replicate n m false false (omega (arith, length-replicate n false)) in
    cc

-- one place more
pub newly_marked : (width : ℕ) (marks : List Bool) (found : List Visit) (v : Visit)
    → IsMarked width marks found
    → v.rank < width
    → code width v < length marks
    → mark marks (code width v) ≡ false
    → IsMarked width (set marks (code width v) true) (found ++ v ∷ [])
newly_marked width marks found v is rank room fresh = record {
  marked = λ w h. to_mark w (member-append w found (v ∷ []) h);
  only = λ m h. to_found m h (cases_eq m (code width v));
  low = λ w h. low w (member-append w found (v ∷ []) h);
  counted = omega (arith, length-append found (v ∷ []), length-set marks (code width v) true, is.counted, fewer);
}
  where
    here : mark (set marks (code width v) true) (code width v) ≡ true
    here = get_or-set_same marks (code width v) true false room

    there : (m : ℕ) → (m ≡ code width v → ⊥) → mark (set marks (code width v) true) m ≡ mark marks m
    there m other = get_or-set_other marks (code width v) m true false other

    to_found : (m : ℕ) → mark (set marks (code width v) true) m ≡ true
        → (m ≡ code width v) ⊎ (m ≡ code width v → ⊥) → HasCode width (found ++ v ∷ []) m
    to_found m h (inl e) = record { visit = v; member = member-append_right v found (v ∷ []) (inl refl); holds = e }
    to_found m h (inr other) =
        let p = is.only m (sym (there m other) ∙ h) in
        record { visit = p.visit; member = member-append_left p.visit found (v ∷ []) p.member; holds = p.holds }

    kept : (m : ℕ) → mark marks m ≡ true → mark (set marks (code width v) true) m ≡ true
    kept m h = ⊎_elim
        (λ (e : m ≡ code width v). subst (λ x. mark (set marks (code width v) true) x ≡ true) (sym e) here)
        (λ (other : m ≡ code width v → ⊥). there m other ∙ h)
        (cases_eq m (code width v))

    to_mark : (w : Visit) → IsMember w found ⊎ IsMember w (v ∷ [])
        → mark (set marks (code width v) true) (code width w) ≡ true
    to_mark w (inl old) = kept (code width w) (is.marked w old)
    to_mark w (inr (inl e)) = subst (λ x. mark (set marks (code width v) true) (code width x) ≡ true) (sym e) here
    to_mark w (inr (inr none)) = absurd none

    low : (w : Visit) → IsMember w found ⊎ IsMember w (v ∷ [])
        → (w.rank < width) × (code width w < length (set marks (code width v) true))
    low w (inl old) = let l = is.low w old in (l.0, omega (arith, l.1, length-set marks (code width v) true))
    low w (inr (inl e)) =
        subst (λ x. (x.rank < width) × (code width x < length (set marks (code width v) true))) (sym e)
        (rank, omega (arith, length-set marks (code width v) true))
    low w (inr (inr none)) = absurd none

    stronger : (k : ℕ)
        → k < length marks
        → not (mark (set marks (code width v) true) k) ≡ true
        → not (mark marks k) ≡ true
    stronger k k_low h = by_mark (mark marks k) refl
      where
        by_mark : (b : Bool) → mark marks k ≡ b → not (mark marks k) ≡ true
        by_mark true e = let now = ap not (kept k e) in cc
        by_mark false e = ap not e

    fewer : unmarked (length (set marks (code width v) true)) (set marks (code width v) true) + 1 ≤ unmarked (length marks) marks
    fewer =
        let strict =
        count_strict (λ m. not (mark (set marks (code width v) true) m)) (λ m. not (mark marks m)) (length marks)
        stronger (code width v) room (ap not here) (ap not fresh)
        in
        let same = ap (λ n. unmarked n (set marks (code width v) true)) (length-set marks (code width v) true) in
        omega arith

-- a place whose number is marked was found
pub found_before : (width : ℕ) (marks : List Bool) (found : List Visit) (v : Visit)
    → IsMarked width marks found
    → v.rank < width
    → mark marks (code width v) ≡ true
    → IsMember v found
found_before width marks found v is rank h =
    let p = is.only (code width v) h in
    subst (λ w. IsMember w found) (sym (one_code width v p.visit rank (is.low p.visit p.member).0 p.holds)) p.member

-- where all that was found is unmarked, nothing is marked
pub all_unmarked : (width : ℕ) (marks marks2 : List Bool) (found : List Visit) → IsMarked width marks found
    → ((m : ℕ) → mark marks2 m ≡ true → (mark marks m ≡ true) × ((v : Visit) → IsMember v found → m ≡ code width v → ⊥))
    → IsMarked width marks2 []
all_unmarked width marks marks2 found is left = nothing_marked width marks2 (λ m h.
    let old = left m h in
    let p = is.only m old.0 in
    old.1 p.visit p.member p.holds)

-- one mark less
pub unmarked_more : (width : ℕ) (marks marks2 : List Bool) (found : List Visit) (i : ℕ) (d : Visit) → i < length found
    → code width (get_or found i d) < length marks2
    → ((m : ℕ) → mark marks2 m ≡ true → (mark marks m ≡ true) × ((v : Visit) → IsMember v (take i found) → m ≡ code width v → ⊥))
    → (m : ℕ) → mark (set marks2 (code width (get_or found i d)) false) m ≡ true
    → (mark marks m ≡ true) × ((v : Visit) → IsMember v (take (i + 1) found) → m ≡ code width v → ⊥)
unmarked_more width marks marks2 found i d low room before m h = at (cases_eq m (code width (get_or found i d)))
  where
    at : (m ≡ code width (get_or found i d)) ⊎ (m ≡ code width (get_or found i d) → ⊥)
        → (mark marks m ≡ true) × ((v : Visit) → IsMember v (take (i + 1) found) → m ≡ code width v → ⊥)
    at (inl e) =
        let now : mark (set marks2 (code width (get_or found i d)) false) m ≡ false =
        ap (mark (set marks2 (code width (get_or found i d)) false)) e ∙ get_or-set_same marks2 (code width (get_or found i d)) false false room
        in
        absurd (cc)
    at (inr other) =
        let old = before m (sym (get_or-set_other marks2 (code width (get_or found i d)) m false false other) ∙ h) in (
          old.0,
          λ v v_in e. ⊎_elim
              (λ (earlier : IsMember v (take i found)). old.1 v earlier e)
              (λ (here : IsMember v (get_or found i d ∷ [])).
              ⊎_elim (λ (same : v ≡ get_or found i d). other (e ∙ ap (code width) same))
              (λ (none : IsMember v []). none) here)
              (member-append v (take i found) (get_or found i d ∷ []) (subst (IsMember v) (take_more found i d low) v_in)),
        )

-- ---- visits

pub visited_none : (found : List Visit) → IsVisited [] found found
visited_none found = record { new = []; grown = sym (append-nil found); all = λ k h. absurd h; only = λ k h. absurd h }

pub visited_join : (ks js found found2 found3 : List Visit)
    → IsVisited ks found found2
    → IsVisited js found2 found3
    → IsVisited (ks ++ js) found found3
visited_join ks js found found2 found3 one two = record {
  new = one.new ++ two.new;
  grown = two.grown ∙ ap (λ xs. xs ++ two.new) one.grown ∙ append_assoc found one.new two.new;
  all = λ k h. ⊎_elim (λ (left : IsMember k ks). kept k (one.all k left)) (λ (right : IsMember k js). two.all k right) (member-append k ks js h);
  only =
      λ k h. ⊎_elim (λ (left : IsMember k one.new). member-append_left k ks js (one.only k left))
      (λ (right : IsMember k two.new). member-append_right k ks js (two.only k right))
      (member-append k one.new two.new h);
}
  where
    kept : (k : Visit) → IsMember k found2 → IsMember k found3
    kept k h = subst (IsMember k) (sym two.grown) (member-append_left k found2 two.new h)

-- a place that was found before
pub visited_old : (found : List Visit) (v : Visit) → IsMember v found → IsVisited (v ∷ []) found found
visited_old found v h = record { new = []; grown = sym (append-nil found); all = all; only = λ k none. absurd none }
  where
    all : (k : Visit) → IsMember k (v ∷ []) → IsMember k found
    all k (inl e) = subst (λ x. IsMember x found) (sym e) h
    all k (inr none) = absurd none

-- and one that wasn't
pub visited_new : (found : List Visit) (v : Visit) → IsVisited (v ∷ []) found (found ++ v ∷ [])
visited_new found v = record { new = v ∷ []; grown = refl; all = λ k h. member-append_right k found (v ∷ []) h; only = λ k h. h }

-- places in two parts, where the second visit is the answer
pub visited_two : {T E : Type 0} → (as' bs ks found found2 found3 : List Visit) (answer : Result T E)
    → IsVisited as' found found2
    → OnOk answer (IsVisited bs found2 found3)
    → ks ≡ as' ++ bs
    → OnOk answer (IsVisited ks found found3)
visited_two as' bs ks found found2 found3 (Ok u) one two is =
    subst (λ js. IsVisited js found found3) (sym is) (visited_join as' bs found found2 found3 one two)
visited_two as' bs ks found found2 found3 (Err e) one two is = two

-- what was found stays
pub visited_kept : (ks found found2 : List Visit)
    → IsVisited ks found found2
    → (w : Visit)
    → IsMember w found
    → IsMember w found2
visited_kept ks found found2 v w h = subst (IsMember w) (sym v.grown) (member-append_left w found v.new h)

-- ---- room

-- places of nodes of the graph have room, and what has room is a place of such a node
pub has_room : (g : Graph) (levels : LevelList) (reach : ReachList) (n r : ℕ) → HasRoom g levels reach
    → n < size g
    → r < length levels.priorities
    → (r < reach.width) × (reach.width * n + r < reach.room)
has_room g levels reach n r room n_low r_low =
    let next : n + 1 ≤ size g = omega arith in
    let step : length levels.priorities * (n + 1) ≤ length levels.priorities * size g = mul-le-mul_left (length levels.priorities) next in
    let same : reach.width * n ≡ length levels.priorities * n = ap (λ w. w * n) room.width in
    (omega (arith, room.width), omega (arith, room.room))

pub node_low : (g : Graph) (levels : LevelList) (reach : ReachList) (v : Visit) → HasRoom g levels reach
    → code reach.width v < reach.room
    → v.node < size g
node_low g levels reach v room low = ⊎_elim
    (λ (less : v.node < size g). less)
    (λ (more : size g ≤ v.node).
    let step : length levels.priorities * size g ≤ length levels.priorities * v.node = mul-le-mul_left (length levels.priorities) more in
    let same : reach.width * v.node ≡ length levels.priorities * v.node = ap (λ w. w * v.node) room.width in
    absurd (omega (arith, room.room)))
    (cases_lt v.node (size g))

-- what a search found are places of the graph
pub found_low : (g : Graph) (levels : LevelList) (reach : ReachList) (found : List Visit) → HasRoom g levels reach
    → ((v : Visit) → IsMember v found → (v.rank < reach.width) × (code reach.width v < reach.room))
    → All (λ v. (v.node < size g) × (v.rank < length levels.priorities)) found
found_low g levels reach found room low =
    member-All (λ v. (v.node < size g) × (v.rank < length levels.priorities)) found
    (λ v h. let l = low v h in (node_low g levels reach v room l.1, omega (arith, l.0, room.width)))

-- the rank of a node of the graph, and the lowest one, are ranks
pub some_rank : (g : Graph) (levels : LevelList) (n : ℕ) → IsRanked g levels → n < size g → 0 < length levels.priorities
some_rank g levels n is low = let rank = is.low n low in omega arith

-- ---- searches

-- what a finished search answers, of one that is known to have begun
pub finished : {T E : Type 0} → (next : Visit → List Visit) (C : List Visit) (i : ℕ) (found found2 : List Visit)
    (answer : Result T E)
    → OnOk answer ((D : List Visit) → IsSearch next D i found → HasReached next D found2)
    → IsSearch next C i found
    → OnOk answer (HasReached next C found2)
finished next C i found found2 (Ok u) f s = f C s
finished next C i found found2 (Err e) f s = f

-- the places of one node more
pub visited_more : (ks : List ℕ) (i : ℕ) (f : ℕ → Visit) (found found2 : List Visit) → i < length ks
    → IsVisited (map f (take i ks)) [] found
    → IsVisited (f (get_or ks i 0) ∷ []) found found2
    → IsVisited (map f (take (i + 1) ks)) [] found2
visited_more ks i f found found2 low before one =
    subst (λ js. IsVisited js [] found2) (sym (ap (map f) (take_more ks i 0 low) ∙ map-append f (take i ks) (get_or ks i 0 ∷ [])))
    (visited_join (map f (take i ks)) (f (get_or ks i 0) ∷ []) [] found found2 before one)

module _ (next : Visit → List Visit) (C : List Visit) where
  -- what is reached, and a place behind it
  reached_more : (v w : Visit) → IsReached next C v → IsMember w (next v) → IsReached next C w
  reached_more v w r h = record { from = r.from; member = r.member; way = longer r.from r.way }
    where
      longer : (u : Visit) → Leads next u v → Leads next u w
      longer u (ends _) = moves u w h (ends w)
      longer u (moves _ x m way) = moves u x m (longer x way)

  -- when the first places are visited
  pub search_begins : (found : List Visit) → IsVisited C [] found → IsSearch next C 0 found
  search_begins found v = record {
    within = omega arith;
    sound = λ w h. record { from = w; member = v.only w (subst (IsMember w) v.grown h); way = ends w };
    closed = λ k d low e h. absurd (omega arith);
    seeded = v.all;
  }

  -- when the first places are visited, of which the first ones lead to no others than these
  pub search_continues : (i : ℕ) (found : List Visit) → IsVisited C [] found → i ≤ length found
      → ((k : ℕ) (d : Visit) → k < i → (e : Visit) → IsMember e (next (get_or found k d)) → IsMember e C)
      → IsSearch next C i found
  search_continues i found v within closed = record {
    within = within;
    sound = λ w h. record { from = w; member = v.only w (subst (IsMember w) v.grown h); way = ends w };
    closed = λ k d low e h. v.all e (closed k d low e h);
    seeded = v.all;
  }

  -- when the places behind one more are visited
  pub search_goes_on : (i : ℕ) (found found2 : List Visit) (d : Visit) → IsSearch next C i found → i < length found
      → IsVisited (next (get_or found i d)) found found2
      → IsSearch next C (i + 1) found2
  search_goes_on i found found2 d s low v = record {
    within = omega (arith, s.within, ap length v.grown, length-append found v.new);
    sound = λ w h. ⊎_elim
        (λ (old : IsMember w found). s.sound w old)
        (λ (new : IsMember w v.new). reached_more (get_or found i d) w (s.sound (get_or found i d) (place-member found i d low)) (v.only w new))
        (member-append w found v.new (subst (IsMember w) v.grown h));
    closed = closed;
    seeded = λ w h. visited_kept (next (get_or found i d)) found found2 v w (s.seeded w h);
  }
    where
      same : (k : ℕ) (f : Visit) → k < length found → get_or found2 k f ≡ get_or found k f
      same k f k_low = ap (λ xs. get_or xs k f) v.grown ∙ get_or_append_left found v.new f k k_low

      closed : (k : ℕ) (f : Visit) → k < i + 1 → (e : Visit) → IsMember e (next (get_or found2 k f)) → IsMember e found2
      closed k f k_low e h = by_place (cases_eq k i) (subst (λ x. IsMember e (next x)) (same k f (omega arith)) h)
        where
          by_place : (k ≡ i) ⊎ (k ≡ i → ⊥) → IsMember e (next (get_or found k f)) → IsMember e found2
          by_place (inl is) g =
              let here : get_or found k f ≡ get_or found i d = ap (λ j. get_or found j f) is ∙ get_or_default found i f d low in
              v.all e (subst (λ x. IsMember e (next x)) here g)
          by_place (inr other) g = visited_kept (next (get_or found i d)) found found2 v e (s.closed k f (omega arith) e g)

  -- when all that was found went on
  pub search_ends : (i : ℕ) (found : List Visit) → IsSearch next C i found → length found ≤ i → HasReached next C found
  search_ends i found s all w = (s.sound w, λ r. along r.from r.way (s.seeded r.from r.member))
    where
      along : (u : Visit) → Leads next u w → IsMember u found → IsMember w found
      along u (ends _) h = h
      along u (moves _ x m way) h =
          let place = member-place u found h in
          along x way (s.closed place.place u (omega (arith, place.below)) x (subst (λ y. IsMember x (next y)) (sym (place.holds u)) m))

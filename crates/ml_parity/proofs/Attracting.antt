-- Attractors that are being made: one vertex after another is followed backwards.
--
--   began       == at first the gathered vertices alone are attracted
--   followed    == the vertex at the next place is taken up, with all its predecessors still to be seen
--   stays       == a predecessor that stands behind already, or is not attracted
--   attracted   == a predecessor that is attracted, and goes to the end of what is left
--   finished    == when all is followed, the attractor is made
use Rattle.std.proofs.Common.{ℕ, ◌≡◌, ◌+◌, ◌<◌, ◌≤◌, ◌⊎◌, inl, inr, ⊎_elim, Bool, arith, List, [], ◌∷◌, get_or, nat_eq, ap, sym, ◌∙◌, subst, eq-eqb, lt-ltb}
use Rattle.std.proofs.lemmas.Bool.{cases_eq, cases_lt}
use Rattle.std.specs.List.{count_by}
use borrow.Author.Tests.{ltb-true}
use Rattle.ml_parity.specs.declared.players.Player.{Player}
use Rattle.ml_parity.specs.Player.{opponent}
use Rattle.ml_parity.specs.Game.{ParityGame, HasMove, size, owner_of, moves_of}
use Rattle.ml_parity.specs.private.SinkGame.{board_of}
use Rattle.ml_parity.specs.private.Parts.{part, MoveInto, IsPart, LeadsBack, IsAttracted}
use Rattle.ml_parity.specs.private.SolverSteps.{times, moves_before, IsLeft, IsRemoved, IsAttracting}
use Rattle.ml_parity.proofs.Boards.{move_to}
use Rattle.ml_parity.proofs.Opponents.{not_both}
use Rattle.ml_parity.proofs.Occurrences.{times_here, times_other, counts_entry, contains_counts, before_next, same_part}

-- a move in front of the place is counted
pub move_before : (g : ParityGame) (place : ℕ → ℕ) (n v w : ℕ)
    → HasMove g v w
    → place w < n
    → 0 < moves_before g place n v
move_before g place n v w move inside = contains_counts (part place n) (moves_of g v) w move (lt-ltb (place w) n inside)

-- where some move is counted, there is one
pub before_move : (g : ParityGame) (place : ℕ → ℕ) (n v : ℕ)
    → 0 < moves_before g place n v
    → MoveInto (board_of g) place n v
before_move g place n v some =
    let f = counts_entry (part place n) (moves_of g v) some in
    record {
      to = get_or (moves_of g v) f.place 0;
      move = move_to g v f.place f.below;
      inside = ltb-true (place (get_or (moves_of g v) f.place 0)) n f.holds;
    }

-- at first the gathered vertices alone are attracted
pub began : (g : ParityGame) (place : ℕ → ℕ) (n mid : ℕ) (q : Player) (win : ℕ → Player) (s left : ℕ → ℕ) → mid ≤ n
    → ((v : ℕ) → place v < n → v < size g) → IsPart (board_of g) place n win → IsLeft g place n left
    → IsAttracting g place n mid mid n q s left []
began g place n mid q win s left fits low is_part is_left = record {
  low = omega arith;
  high = fits;
  reached = fits;
  within = omega arith;
  lefts = λ v below. let e = is_left v below in omega arith;
  own = λ v late early own. absurd (omega arith);
  other = λ v w late early other move inside. absurd (omega arith);
  seen_own = λ v w early own move inside. inl inside;
  seen_other = λ v early other.
      let m = is_part.stays v (omega arith) in
      let e = is_left v (low v (omega arith)) in
      let some = move_before g place n v m.to m.move m.inside in
      omega arith;
}

-- the vertex at the next place is taken up, with all its predecessors still to be seen
pub followed : (g : ParityGame) (place : ℕ → ℕ) (n mid rest a : ℕ) (q : Player) (s left : ℕ → ℕ) (w : ℕ)
    (preds : List ℕ)
    → IsAttracting g place n mid rest (a + 1) q s left [] → rest ≤ a → place w ≡ a → ((x : ℕ) → place x ≡ a → x ≡ w)
    → ((u : ℕ) → times u preds ≡ times w (moves_of g u)) → IsAttracting g place n mid rest a q s left preds
followed g place n mid rest a q s left w preds before reached here one each = record {
  low = before.low;
  high = before.high;
  reached = reached;
  within = omega (arith, before.within);
  lefts = λ v below.
      let e = before.lefts v below in
      let next = before_next place a w here one (moves_of g v) in
      let p = each v in
      omega arith;
  own = before.own;
  other = before.other;
  seen_own = λ v x early own move inside.
      seen v x move (before.seen_own v x early own move inside) (cases_lt (place x) a);
  seen_other = before.seen_other;
}
  where
    seen : (v x : ℕ)
        → HasMove g v x
        → (place x < a + 1) ⊎ (0 < times v [])
        → (place x < a) ⊎ (a ≤ place x)
        → (place x < a) ⊎ (0 < times v preds)
    seen v x move o (inl low) = inl low
    seen v x move (inr some) (inr late) = absurd (omega arith)
    seen v x move (inl low) (inr late) =
        let same : x ≡ w = one x (omega arith) in
        let some : 0 < times w (moves_of g v) =
        contains_counts (λ y. nat_eq y w) (moves_of g v) x move (eq-eqb x w same) in
        let p = each v in
        inr (omega arith)

-- when all is followed, the attractor is made
pub finished : (g : ParityGame) (place : ℕ → ℕ) (n mid rest : ℕ) (q : Player) (s left : ℕ → ℕ)
    → ((v : ℕ) → place v < n → v < size g)
    → IsAttracting g place n mid rest rest q s left [] → IsAttracted (board_of g) place n mid rest q s
finished g place n mid rest q s left vertex a = record {
  low = a.low;
  high = a.high;
  own = a.own;
  other = a.other;
  closed_own = λ v w early own move inside. ⊎_elim
      (λ (low : place w < rest). low)
      (λ (some : 0 < times v []). absurd (omega arith))
      (a.seen_own v w early own move inside);
  closed_other = λ v early other.
      let some = a.seen_other v early other in
      let e = a.lefts v (vertex v (omega (arith, a.low, a.high))) in
      before_move g place rest v (omega arith);
}

module _ (g : ParityGame) (place : ℕ → ℕ) (n mid rest a : ℕ) (q : Player) (s left left2 : ℕ → ℕ) (u : ℕ) (todo : List ℕ)
    (before : IsAttracting g place n mid rest a q s left (u ∷ todo))
    (here : left2 u + 1 ≡ left u) (others : (v : ℕ) → (v ≡ u → ⊥) → left2 v ≡ left v) where
  -- the counts, with one predecessor less to be seen
  lefts : (v : ℕ) → v < size g → left2 v ≡ moves_before g place a v + times v todo
  lefts v low = by_case (cases_eq v u) (before.lefts v low)
    where
      by_case : (v ≡ u) ⊎ (v ≡ u → ⊥) → left v ≡ moves_before g place a v + times v (u ∷ todo)
          → left2 v ≡ moves_before g place a v + times v todo
      by_case (inl same) e =
          let t = times_here v u todo (sym same) in
          let l : left2 v + 1 ≡ left v = ap (λ x. left2 x + 1) same ∙ here ∙ sym (ap left same) in
          omega arith
      by_case (inr other) e =
          let t = times_other v u todo (λ same. other (sym same)) in
          let l = others v other in
          omega arith

  -- what was to be seen for another vertex is so still
  still : (v w : ℕ) → (v ≡ u → ⊥) → (place w < a) ⊎ (0 < times v (u ∷ todo)) → (place w < a) ⊎ (0 < times v todo)
  still v w other (inl low) = inl low
  still v w other (inr some) = let t = times_other v u todo (λ same. other (sym same)) in inr (omega arith)

  -- a predecessor that stands behind already, or whose owner is the opponent and that has other moves
  pub stays : (rest ≤ place u) ⊎ ((owner_of g u ≡ opponent q) × (0 < left2 u))
      → IsAttracting g place n mid rest a q s left2 todo
  stays why = record {
    low = before.low;
    high = before.high;
    reached = before.reached;
    within = before.within;
    lefts = lefts;
    own = before.own;
    other = before.other;
    seen_own = λ v w early own move inside.
        still v w (λ same. not_own v early own same why) (before.seen_own v w early own move inside);
    seen_other = λ v early other. seen v early other (cases_eq v u) why;
  }
    where
      not_own : (v : ℕ)
          → place v < rest
          → owner_of g v ≡ q
          → v ≡ u
          → (rest ≤ place u) ⊎ ((owner_of g u ≡ opponent q) × (0 < left2 u))
          → ⊥
      not_own v early own same (inl late) = omega (arith, ap place same)
      not_own v early own same (inr m) = not_both (owner_of g v) q own (ap (owner_of g) same ∙ m.0)

      seen : (v : ℕ) → place v < rest → owner_of g v ≡ opponent q → (v ≡ u) ⊎ (v ≡ u → ⊥)
          → (rest ≤ place u) ⊎ ((owner_of g u ≡ opponent q) × (0 < left2 u)) → 0 < left2 v
      seen v early other (inl same) (inl late) = absurd (omega (arith, ap place same))
      seen v early other (inl same) (inr m) = omega (arith, ap left2 same, m.1)
      seen v early other (inr differs) m = omega (arith, others v differs, before.seen_other v early other)

  -- a predecessor that is attracted, and goes to the end of what is left
  module _ (place2 : ℕ → ℕ) (rest2 : ℕ) (s2 : ℕ → ℕ) (w : ℕ) (removed : IsRemoved place place2 rest u)
      (less : rest2 + 1 ≡ rest)
      (at : place w ≡ a) (inside_a : a < n) (move : HasMove g u w) (chooses : s2 u ≡ w)
      (keeps : (v : ℕ) → (v ≡ u → ⊥) → s2 v ≡ s v)
      (why : (owner_of g u ≡ q) ⊎ (left2 u ≡ 0)) (vertex : u < size g) where
    -- parts from a on are the same
    part_in : (m v : ℕ) → rest ≤ m → place v < m → place2 v < m
    part_in m v fits low = by_case (cases_eq v u) (cases_lt (place v) rest)
      where
        by_case : (v ≡ u) ⊎ (v ≡ u → ⊥) → (place v < rest) ⊎ (rest ≤ place v) → place2 v < m
        by_case (inl same) t = omega (arith, ap place2 same, removed.here)
        by_case (inr other) (inl early) = omega (arith, removed.kept v other early)
        by_case (inr other) (inr late) = omega (arith, removed.behind v late)

    part_out : (m v : ℕ) → rest ≤ m → m ≤ place v → m ≤ place2 v
    part_out m v fits late = omega (arith, removed.behind v (omega arith))

    part_from : (m v : ℕ) → rest ≤ m → place2 v < m → place v < m
    part_from m v fits low = ⊎_elim (λ (h : place v < m). h)
        (λ (h : m ≤ place v). absurd (omega (arith, part_out m v fits h))) (cases_lt (place v) m)

    -- a vertex of what is left now is another one, and was of what was left
    left_now : (v : ℕ) → place2 v < rest2 → (v ≡ u → ⊥) × (place v < rest)
    left_now v low = (
      (λ same. omega (arith, ap place2 same, removed.here)),
      part_from rest v (omega arith) (omega arith),
    )

    -- any other vertex that is behind was behind
    behind_now : (v : ℕ) → (v ≡ u → ⊥) → rest2 ≤ place2 v → rest ≤ place v
    behind_now v other late = ⊎_elim (λ (h : place v < rest). absurd (omega (arith, removed.kept v other h)))
        (λ (h : rest ≤ place v). h) (cases_lt (place v) rest)

    -- where no move is left, each move leads to where it was followed
    all_seen : left2 u ≡ 0 → (x : ℕ) → HasMove g u x → a ≤ place x
    all_seen none x m = ⊎_elim
        (λ (h : place x < a).
        let some = move_before g place a u x m h in
        let e = lefts u vertex in
        absurd (omega arith))
        (λ (h : a ≤ place x). h)
        (cases_lt (place x) a)

    pub attracted : IsAttracting g place2 n mid rest2 a q s2 left2 todo
    attracted = record {
      low = omega (arith, before.low);
      high = before.high;
      reached = omega (arith, before.reached);
      within = before.within;
      lefts = λ v low.
          lefts v low ∙ ap (λ (test : ℕ → Bool). count_by test (moves_of g v) + times v todo)
          (sym (same_part place place2 a (λ x. part_in a x before.reached) (λ x. part_out a x before.reached)));
      own = λ v late low mine. own v late low mine (cases_eq v u);
      other = λ v x late low theirs m inside. other v x late low theirs m inside (cases_eq v u);
      seen_own = λ v x low mine m inside.
          let l = left_now v low in
          ⊎_elim
          (λ (h : place x < a). inl (part_in a x before.reached h))
          (λ (h : 0 < times v todo). inr h)
          (still v x l.0 (before.seen_own v x l.1 mine m
          (part_from n x (omega (arith, before.reached, before.within)) inside)));
      seen_other = λ v low other.
          let l = left_now v low in
          let e = others v l.0 in
          let some = before.seen_other v l.1 other in
          omega arith;
    }
      where
        own : (v : ℕ) → rest2 ≤ place2 v → place2 v < mid → owner_of g v ≡ q → (v ≡ u) ⊎ (v ≡ u → ⊥)
            → LeadsBack (board_of g) place2 n v (s2 v)
        own v late low mine (inl same) =
            let moved : place2 w ≡ place w = removed.behind w (omega (arith, before.reached)) in
            let back : LeadsBack (board_of g) place2 n u w = record {
              move = move;
              behind = omega (arith, removed.here, before.reached);
              inside = omega arith;
            } in
            subst (λ x. LeadsBack (board_of g) place2 n x (s2 x)) (sym same)
            (subst (λ x. LeadsBack (board_of g) place2 n u x) (sym chooses) back)
        own v late low mine (inr other) =
            let was : rest ≤ place v = behind_now v other late in
            let same = removed.behind v was in
            let m = before.own v was (omega arith) mine in
            let there = removed.behind (s v) (omega (arith, m.behind)) in
            let back : LeadsBack (board_of g) place2 n v (s v) = record {
              move = m.move;
              behind = omega (arith, m.behind);
              inside = omega (arith, m.inside);
            } in
            subst (λ x. LeadsBack (board_of g) place2 n v x) (sym (keeps v other)) back

        other : (v x : ℕ) → rest2 ≤ place2 v → place2 v < mid → owner_of g v ≡ opponent q → HasMove g v x → place2 x < n
            → (v ≡ u) ⊎ (v ≡ u → ⊥) → place2 v < place2 x
        other v x late low theirs m inside (inl same) = by_why why
          where
            by_why : (owner_of g u ≡ q) ⊎ (left2 u ≡ 0) → place2 v < place2 x
            by_why (inl mine) = absurd (not_both (owner_of g u) q mine (ap (owner_of g) (sym same) ∙ theirs))
            by_why (inr none) =
                let far : a ≤ place x = all_seen none x (subst (λ y. HasMove g y x) same m) in
                omega (
                  arith,
                  ap place2 same,
                  removed.here,
                  removed.behind x (omega (arith, before.reached)),
                  before.reached,
                )
        other v x late low theirs m inside (inr differs) =
            let was : rest ≤ place v = behind_now v differs late in
            let same = removed.behind v was in
            let further = before.other v x was (omega arith) theirs m
            (part_from n x (omega (arith, before.reached, before.within)) inside) in
            omega (arith, removed.behind x (omega arith))

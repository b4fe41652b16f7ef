-- Marks that spread along edges, until all states that are reached are marked.
--
--   spread_none, spread_known, spread_new, spread_both == what was visited, one number after the other
--   walk_begins, walk_goes_on, walk_less, walk_ends    == a walk through an automaton
--   waits_below, row_held == what a program reads of it
use Rattle.std.proofs.Common.{ℕ, ◌≡◌, ◌+◌, ◌*◌, ◌<◌, ◌≤◌, ◌⊎◌, inl, inr, ⊎_elim, arith, Bool, true, false, not, List, [], ◌∷◌, ◌++◌, length, map, get_or, set, replicate, refl, sym, ap, ◌∙◌, subst, length-append}
use Rattle.std.proofs.lemmas.Bool.{cases_Bool, cases_eq, cases_lt, true≢false}
use Rattle.std.proofs.lemmas.List.{get_or-map, get_or-replicate, get_or-set_other, get_or-set_same, get_or_past, length-replicate, length-set}
use Rattle.ml_lists.specs.Counting.{count}
use Rattle.ml_lists.specs.Member.{IsMember}
use Rattle.ml_lists.proofs.Counting.{count_strict}
use Rattle.ml_lists.proofs.Member.{member-append, member-append_left, member-append_right}
use Rattle.ml_labelled.specs.Labelled.{Automaton, Edge, IsLabelled, IsReached, along, begins, edges_of}
use Rattle.ml_labelled.specs.private.Reaching.{AreMarked, IsSpread, IsWalk, left, mark, targets}
use Rattle.std.specs.Global.{Vec}
use Rattle.ml_labelled.specs.private.Views.{edge_of, edges_in, rows_of}
use Rattle.ml_labelled.specs.declared.labelled.CubeEdge.{CubeEdge}

pub spread_none : (ms : List Bool) (ws : List ℕ) → IsSpread [] ms ws ms ws
spread_none ms ws = record {
  as_long = refl;
  kept = λ n m. m;
  visited = λ n m. absurd m;
  from = λ n m. inl m;
  still = λ n m. m;
  new_wait = λ n m. inl m;
  waits = λ n m. inl m;
  less = omega arith;
}

pub spread_known : (n : ℕ) (ms : List Bool) (ws : List ℕ) → mark ms n ≡ true → IsSpread (n ∷ []) ms ws ms ws
spread_known n ms ws known = record {
  as_long = refl;
  kept = λ k m. m;
  visited = λ k m. by k m;
  from = λ k m. inl m;
  still = λ k m. m;
  new_wait = λ k m. inl m;
  waits = λ k m. inl m;
  less = omega arith;
}
  where
    by : (k : ℕ) → IsMember k (n ∷ []) → mark ms k ≡ true
    by k (inl same) = ap (mark ms) same ∙ known
    by k (inr none) = absurd none

pub spread_new : (n : ℕ) (ms : List Bool) (ws : List ℕ)
    → n < length ms
    → mark ms n ≡ false
    → IsSpread (n ∷ []) ms ws (set ms n true) (ws ++ n ∷ [])
spread_new n ms ws low new = record {
  as_long = length-set ms n true;
  kept = kept;
  visited = λ k m. visited k m;
  from = λ k m. from k m (cases_eq k n);
  still = λ k m. member-append_left k ws (n ∷ []) m;
  new_wait = λ k m. new_wait k m (cases_eq k n);
  waits = λ k m. member-append k ws (n ∷ []) m;
  less =
      let strict =
      count_strict (λ m. not (mark (set ms n true) m)) (λ m. not (mark ms m)) (length ms) stronger n low
      (ap not here) (ap not new) in
      let same = ap (count (λ m. not (mark (set ms n true) m))) (length-set ms n true) in
      omega (arith, strict, same, length-append ws (n ∷ []));
}
  where
    here : mark (set ms n true) n ≡ true
    here = get_or-set_same ms n true false low

    other : (k : ℕ) → (k ≡ n → ⊥) → mark (set ms n true) k ≡ mark ms k
    other k not_n = get_or-set_other ms n k true false not_n

    kept : (k : ℕ) → mark ms k ≡ true → mark (set ms n true) k ≡ true
    kept k m =
        ⊎_elim (λ (same : k ≡ n). ap (mark (set ms n true)) same ∙ here) (λ (not_n : k ≡ n → ⊥). other k not_n ∙ m)
        (cases_eq k n)

    visited : (k : ℕ) → IsMember k (n ∷ []) → mark (set ms n true) k ≡ true
    visited k (inl same) = ap (mark (set ms n true)) same ∙ here
    visited k (inr none) = absurd none

    from : (k : ℕ) → mark (set ms n true) k ≡ true → (k ≡ n) ⊎ (k ≡ n → ⊥) → (mark ms k ≡ true) ⊎ IsMember k (n ∷ [])
    from k m (inl same) = inr (inl same)
    from k m (inr not_n) = inl (sym (other k not_n) ∙ m)

    new_wait : (k : ℕ) → mark (set ms n true) k ≡ true → (k ≡ n) ⊎ (k ≡ n → ⊥)
        → (mark ms k ≡ true) ⊎ IsMember k (ws ++ n ∷ [])
    new_wait k m (inl same) = inr (member-append_right k ws (n ∷ []) (inl same))
    new_wait k m (inr not_n) = inl (sym (other k not_n) ∙ m)

    stronger : (k : ℕ) → k < length ms → not (mark (set ms n true) k) ≡ true → not (mark ms k) ≡ true
    stronger k below e =
        ⊎_elim (λ (m : mark ms k ≡ true). absurd (true≢false (sym e ∙ ap not (kept k m))))
        (λ (m : mark ms k ≡ false). ap not m) (cases_Bool (mark ms k))

pub spread_both : (ts us : List ℕ) (ms ns os : List Bool) (ws vs xs : List ℕ)
    → IsSpread ts ms ws ns vs
    → IsSpread us ns vs os xs
    → IsSpread (ts ++ us) ms ws os xs
spread_both ts us ms ns os ws vs xs first second = record {
  as_long = second.as_long ∙ first.as_long;
  kept = λ n m. second.kept n (first.kept n m);
  visited = λ n m. visited n (member-append n ts us m);
  from = λ n m. from n (second.from n m);
  still = λ n m. second.still n (first.still n m);
  new_wait = λ n m. new_wait n (second.new_wait n m);
  waits = λ n m. waits n (second.waits n m);
  less = let one = first.less in let two = second.less in omega arith;
}
  where
    visited : (n : ℕ) → IsMember n ts ⊎ IsMember n us → mark os n ≡ true
    visited n (inl m) = second.kept n (first.visited n m)
    visited n (inr m) = second.visited n m

    from : (n : ℕ) → (mark ns n ≡ true) ⊎ IsMember n us → (mark ms n ≡ true) ⊎ IsMember n (ts ++ us)
    from n (inr m) = inr (member-append_right n ts us m)
    from n (inl m) = earlier (first.from n m)
      where
        earlier : (mark ms n ≡ true) ⊎ IsMember n ts → (mark ms n ≡ true) ⊎ IsMember n (ts ++ us)
        earlier (inl k) = inl k
        earlier (inr k) = inr (member-append_left n ts us k)

    new_wait : (n : ℕ) → (mark ns n ≡ true) ⊎ IsMember n xs → (mark ms n ≡ true) ⊎ IsMember n xs
    new_wait n (inr m) = inr m
    new_wait n (inl m) = earlier (first.new_wait n m)
      where
        earlier : (mark ms n ≡ true) ⊎ IsMember n vs → (mark ms n ≡ true) ⊎ IsMember n xs
        earlier (inl k) = inl k
        earlier (inr k) = inr (second.still n k)

    waits : (n : ℕ) → IsMember n vs ⊎ IsMember n us → IsMember n ws ⊎ IsMember n (ts ++ us)
    waits n (inr m) = inr (member-append_right n ts us m)
    waits n (inl m) = earlier (first.waits n m)
      where
        earlier : IsMember n ws ⊎ IsMember n ts → IsMember n ws ⊎ IsMember n (ts ++ us)
        earlier (inl k) = inl k
        earlier (inr k) = inr (member-append_left n ts us k)

-- ---- walks

module _ (a : Automaton) (is : IsLabelled a) where
  pub walk_begins : (ms : List Bool) (ws : List ℕ)
      → IsSpread (0 ∷ []) (replicate (length a.edges) false) [] ms ws
      → IsWalk a ms ws
  walk_begins ms ws s = record {
    as_long = s.as_long ∙ length-replicate (length a.edges) false;
    started = s.visited 0 (inl refl);
    reached = λ n m. reached n (s.from n m);
    states = λ n m. state n (s.waits n m);
    are_reached = λ n m. waiting n (s.waits n m);
    closed = λ n e m k. closed n e (s.new_wait n m);
  }
    where
      none : (n : ℕ) → mark (replicate (length a.edges) false) n ≡ true → ⊥
      none n m =
          ⊎_elim (λ (low : n < length a.edges). let e = get_or-replicate (length a.edges) n false false low in true≢false (sym m ∙ e))
          (λ (high : length a.edges ≤ n).
          let long = length-replicate (length a.edges) false in
          let e = get_or_past (replicate (length a.edges) false) n false (omega (arith, long, high)) in true≢false (sym m ∙ e))
          (cases_lt n (length a.edges))

      zero_reached : (n : ℕ) → IsMember n (0 ∷ []) → IsReached a n
      zero_reached n (inl same) = subst (IsReached a) (sym same) begins
      zero_reached n (inr k) = absurd k

      reached : (n : ℕ) → (mark (replicate (length a.edges) false) n ≡ true) ⊎ IsMember n (0 ∷ []) → IsReached a n
      reached n (inl m) = absurd (none n m)
      reached n (inr m) = zero_reached n m

      waiting : (n : ℕ) → IsMember n [] ⊎ IsMember n (0 ∷ []) → IsReached a n
      waiting n (inl m) = absurd m
      waiting n (inr m) = zero_reached n m

      state : (n : ℕ) → IsMember n [] ⊎ IsMember n (0 ∷ []) → n < length a.edges
      state n (inl m) = absurd m
      state n (inr (inl same)) = subst (λ k. k < length a.edges) (sym same) is.some_state
      state n (inr (inr m)) = absurd m

      closed : (n : ℕ) (e : Edge)
          → (mark (replicate (length a.edges) false) n ≡ true) ⊎ IsMember n ws
          → IsMember n ws ⊎ (mark ms e.to ≡ true)
      closed n e (inl m) = absurd (none n m)
      closed n e (inr m) = inl m

  -- the edges of a state, as a program holds them
  module _ (p : ℕ) (es : List CubeEdge) (row : map edge_of es ≡ edges_of a p) where
    target : (n : ℕ) (es : List CubeEdge) → IsMember n (targets es) → (e : Edge) × IsMember e (map edge_of es) × (e.to ≡ n)
    target n [] m = absurd m
    target n (e ∷ es) (inl same) = (edge_of e, inl refl, sym same)
    target n (e ∷ es) (inr m) = let t = target n es m in (t.0, inr t.1, t.2)

    of_edge : (es : List CubeEdge) (e : Edge) → IsMember e (map edge_of es) → IsMember e.to (targets es)
    of_edge [] e m = absurd m
    of_edge (f ∷ es) e (inl same) = inl (ap (λ (x : Edge). x.to) same)
    of_edge (f ∷ es) e (inr m) = inr (of_edge es e m)

    pub target_state : (n : ℕ) → IsMember n (targets es) → n < length a.edges
    target_state n m =
        let t = target n es m in
        let low = (is.edges p t.0 (subst (IsMember t.0) row t.1)).to_state in
        subst (λ k. k < length a.edges) t.2 low

    pub walk_goes_on : (ms ns : List Bool) (ws us vs : List ℕ)
        → vs ≡ ws ++ p ∷ []
        → IsWalk a ms vs
        → IsSpread (targets es) ms ws ns us
        → IsWalk a ns us
    walk_goes_on ms ns ws us vs popped w s = record {
      as_long = s.as_long ∙ w.as_long;
      started = s.kept 0 w.started;
      reached = λ n m. reached n (s.from n m);
      states = λ n m. state n (s.waits n m);
      are_reached = λ n m. waits n (s.waits n m);
      closed = λ n e m k. closed n e k (s.new_wait n m);
    }
      where
        there : (n : ℕ) → IsMember n ws → IsMember n vs
        there n m = subst (IsMember n) (sym popped) (member-append_left n ws (p ∷ []) m)

        here : IsReached a p
        here = w.are_reached p (subst (IsMember p) (sym popped) (member-append_right p ws (p ∷ []) (inl refl)))

        behind : (n : ℕ) → IsMember n (targets es) → IsReached a n
        behind n m = let t = target n es m in subst (IsReached a) t.2 (along p t.0 here (subst (IsMember t.0) row t.1))

        reached : (n : ℕ) → (mark ms n ≡ true) ⊎ IsMember n (targets es) → IsReached a n
        reached n (inl m) = w.reached n m
        reached n (inr m) = behind n m

        waits : (n : ℕ) → IsMember n ws ⊎ IsMember n (targets es) → IsReached a n
        waits n (inl m) = w.are_reached n (there n m)
        waits n (inr m) = behind n m

        state : (n : ℕ) → IsMember n ws ⊎ IsMember n (targets es) → n < length a.edges
        state n (inl m) = w.states n (there n m)
        state n (inr m) = target_state n m

        closed : (n : ℕ) (e : Edge)
            → IsMember e (edges_of a n)
            → (mark ms n ≡ true) ⊎ IsMember n us
            → IsMember n us ⊎ (mark ns e.to ≡ true)
        closed n e k (inr m) = inl m
        closed n e k (inl m) = by (w.closed n e m k)
          where
            waited : IsMember n ws ⊎ IsMember n (p ∷ []) → IsMember n us ⊎ (mark ns e.to ≡ true)
            waited (inl i) = inl (s.still n i)
            waited (inr (inl same)) =
                inr (s.visited e.to
                (of_edge es e (subst (IsMember e) (ap (edges_of a) same ∙ sym row) k)))
            waited (inr (inr i)) = absurd i

            by : IsMember n vs ⊎ (mark ms e.to ≡ true) → IsMember n us ⊎ (mark ns e.to ≡ true)
            by (inl i) = waited (member-append n ws (p ∷ []) (subst (IsMember n) popped i))
            by (inr t) = inr (s.kept e.to t)

    pub walk_less : (ms ns : List Bool) (ws us vs : List ℕ)
        → vs ≡ ws ++ p ∷ []
        → IsSpread (targets es) ms ws ns us
        → 2 * left ns + length us < 2 * left ms + length vs
    walk_less ms ns ws us vs popped s =
        let less = s.less in
        let long : length vs ≡ length ws + 1 = ap length popped ∙ length-append ws (p ∷ []) in
        omega arith

  pub walk_ends : (ms : List Bool) (ws : List ℕ) → ws ≡ [] → IsWalk a ms ws → AreMarked a ms
  walk_ends ms ws none w = record {
    as_long = w.as_long;
    started = w.started;
    reached = w.reached;
    closed = λ n e m k. by n e (w.closed n e m k);
  }
    where
      by : (n : ℕ) (e : Edge) → IsMember n ws ⊎ (mark ms e.to ≡ true) → mark ms e.to ≡ true
      by n e (inl m) = absurd (subst (IsMember n) none m)
      by n e (inr t) = t

-- what waits last is a state
pub waits_below : (a : Automaton) (p : ℕ) (ms : List Bool) (ws vs : List ℕ)
    → vs ≡ ws ++ p ∷ []
    → IsWalk a ms vs
    → p < length a.edges
waits_below a p ms ws vs popped w =
    w.states p (subst (IsMember p) (sym popped) (member-append_right p ws (p ∷ []) (inl refl)))

-- the edges of a state, where a program reads them
pub row_held : (a : Automaton) (p : ℕ) (rows : List (Vec CubeEdge)) (row : Vec CubeEdge) (es : List CubeEdge)
    → rows_of rows ≡ a.edges
    → p < length rows
    → row ≡ get_or rows p row
    → es ≡ row.items
    → map edge_of es ≡ edges_of a p
row_held a p rows row es all low is read =
    ap (map edge_of) read
    ∙ ap edges_in is
    ∙ sym (get_or-map edges_in rows p row [] low)
    ∙ ap (λ es. get_or es p []) all

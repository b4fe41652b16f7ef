-- A walk from a state, node by node, and the transitions with which it ends.
--
--   is_last_true, last_is == the state from which a walk came last, and the test for it
--   visited, kept, seen_before, fewer, unchanged == what was seen behind a visit
--   walk_begins           == a walk begins
--   walk_passes           == a node that was seen from this state is passed by
--   walk_goes_on          == from another one it goes on
--   passes_less, goes_less == so it ends some time
--   passed, passed_less, went_on, went_less == the same of what a program holds
--   walk_ends             == then its transitions were added
--   none_below, more_below == transitions of the states, one by one
use Rattle.std.proofs.Common.{ℕ, ◌≡◌, ◌+◌, ◌*◌, ◌<◌, ◌≤◌, ◌⊎◌, ◌↔◌, inl, inr, ⊎_elim, arith, Bool, true, false, not, List, [], ◌∷◌, ◌++◌, Option, Some, None, length, get_or, set, refl, sym, ap, ◌∙◌, subst, eqb-true, eq-eqb, length-append}
use Rattle.std.proofs.lemmas.Bool.{cases_eq, false≢true}
use Rattle.std.proofs.lemmas.List.{get_or-set_other, get_or-set_same, length-set, set-get_or}
use Rattle.std.proofs.lemmas.Option.{same_Some}
use Rattle.ml_lists.specs.Counting.{count}
use Rattle.ml_lists.specs.Member.{IsMember}
use Rattle.ml_lists.proofs.Counting.{count_strict}
use Rattle.ml_lists.proofs.Member.{member-append, member-append_left, member-append_right}
use Rattle.ml_trace.specs.declared.letters.Transition.{Transition}
use Rattle.ml_word_automaton.specs.private.Walking.{AreAdded, AreThoseBelow, Comes, itself, further, Ends, IsSeenMore, IsWalk, is_last, last, unseen}

pub is_last_true : (p : ℕ) (o : Option ℕ) → is_last p o ≡ true → o ≡ Some p
is_last_true p None e = absurd (false≢true e)
is_last_true p (Some q) e = ap Some (eqb-true q p e)

pub last_is : (p : ℕ) (o : Option ℕ) → o ≡ Some p → is_last p o ≡ true
last_is p o e = ap (is_last p) e ∙ eq-eqb p p refl

-- ---- visits

module _ (p n : ℕ) (seen : List (Option ℕ)) (low : n < length seen) where
  abbrev more : List (Option ℕ)
  more = set seen n (Some p)

  pub visited : last more n ≡ Some p
  visited = get_or-set_same seen n (Some p) None low

  pub kept : (m : ℕ) → last seen m ≡ Some p → last more m ≡ Some p
  kept m e =
      ⊎_elim (λ (is : m ≡ n). ap (last more) is ∙ visited)
      (λ (other : m ≡ n → ⊥). get_or-set_other seen n m (Some p) None other ∙ e)
      (cases_eq m n)

  -- what was seen last from a state was seen before, or is the node
  pub seen_before : (m q : ℕ) → last more m ≡ Some q → (last seen m ≡ Some q) ⊎ ((m ≡ n) × (q ≡ p))
  seen_before m q e =
      ⊎_elim
      (λ (is : m ≡ n). inr (is, same_Some q p (sym e ∙ ap (last more) is ∙ visited)))
      (λ (other : m ≡ n → ⊥). inl (sym (get_or-set_other seen n m (Some p) None other) ∙ e))
      (cases_eq m n)

  -- one node less is to be seen
  pub fewer : is_last p (last seen n) ≡ false → unseen p more < unseen p seen
  fewer new =
      let strict =
      count_strict (λ m. not (is_last p (last more m))) (λ m. not (is_last p (last seen m))) (length seen) stronger n low
      (ap not (last_is p (last more n) visited)) (ap not new) in
      let same = ap (count (λ m. not (is_last p (last more m)))) (length-set seen n (Some p)) in
      omega (arith, strict, same)
    where
      stronger : (m : ℕ) → m < length seen → not (is_last p (last more m)) ≡ true → not (is_last p (last seen m)) ≡ true
      stronger m m_low e = by_test (is_last p (last seen m)) refl
        where
          by_test : (b : Bool) → is_last p (last seen m) ≡ b → not (is_last p (last seen m)) ≡ true
          by_test false f = ap not f
          by_test true t =
              let is = last_is p (last more m) (kept m (is_last_true p (last seen m) t)) in
              absurd (false≢true (ap not (sym is) ∙ e))

  -- where the node was seen from the state, nothing changes
  pub unchanged : last seen n ≡ Some p → more ≡ seen
  unchanged e = ap (set seen n) (sym e) ∙ set-get_or seen n None

-- ---- a walk

module _ (next : ℕ → List ℕ) (ends : ℕ → List Transition) (p s : ℕ)
    (before : List (Option ℕ)) (old : List Transition) where
  pub walk_begins : ((n : ℕ) → last before n ≡ Some p → ⊥) → IsWalk next ends p s before old before (s ∷ []) old
  walk_begins new = record {
    seen_more = record { as_long = refl; others = λ n q e. inl e };
    seen_come = λ n e. absurd (new n e);
    waiting_come = λ n m. at_start n m;
    started = inr (inl refl);
    closed = λ n m e more. absurd (new n e);
    transitions = λ t. (
      (λ m. inl m),
      (λ both. ⊎_elim (λ (m : IsMember t old). m)
          (λ (some : (n : ℕ) × (last before n ≡ Some p) × IsMember t (ends n)). absurd (new some.0 some.1)) both),
    );
  }
    where
      at_start : (n : ℕ) → IsMember n (s ∷ []) → Comes next s n
      at_start n (inl is) = subst (Comes next s) (sym is) itself
      at_start n (inr none) = absurd none

  pub walk_ends : (seen : List (Option ℕ)) (ts : List Transition)
      → IsWalk next ends p s before old seen [] ts
      → AreAdded next ends s old ts
  walk_ends seen ts W t = (there, back)
    where
      nothing_waits : (n : ℕ) → (last seen n ≡ Some p) ⊎ IsMember n [] → last seen n ≡ Some p
      nothing_waits n (inl e) = e
      nothing_waits n (inr none) = absurd none

      all_seen : (n : ℕ) → Comes next s n → last seen n ≡ Some p
      all_seen _ itself = nothing_waits s W.started
      all_seen m (further n _ comes more) = nothing_waits m (W.closed n m (all_seen n comes) more)

      there : IsMember t ts → IsMember t old ⊎ Ends next ends s t
      there m =
          ⊎_elim (λ (was : IsMember t old). inl was)
          (λ (some : (n : ℕ) × (last seen n ≡ Some p) × IsMember t (ends n)).
          inr (record { at = some.0; comes = W.seen_come some.0 some.1; is_one = some.2 }))
          ((W.transitions t).0 m)

      back : IsMember t old ⊎ Ends next ends s t → IsMember t ts
      back (inl m) = (W.transitions t).1 (inl m)
      back (inr e) = (W.transitions t).1 (inr (e.at, all_seen e.at e.comes, e.is_one))

  module _ (seen : List (Option ℕ)) (waiting front : List ℕ) (ts : List Transition) (n : ℕ)
      (is : waiting ≡ front ++ n ∷ [])
      (W : IsWalk next ends p s before old seen waiting ts) where
    pub comes_next : Comes next s n
    comes_next = W.waiting_come n (subst (IsMember n) (sym is) (member-append_right n front (n ∷ []) (inl refl)))

    front_waits : (m : ℕ) → IsMember m front → IsMember m waiting
    front_waits m i = subst (IsMember m) (sym is) (member-append_left m front (n ∷ []) i)

    module _ (low : n < length seen) where
      abbrev then_seen : List (Option ℕ)
      then_seen = set seen n (Some p)

      -- what was met before is met still
      met : (m : ℕ) → (last seen m ≡ Some p) ⊎ IsMember m waiting → (last then_seen m ≡ Some p) ⊎ IsMember m front
      met m (inl e) = inl (kept p n seen low m e)
      met m (inr w) = by_part (member-append m front (n ∷ []) (subst (IsMember m) is w))
        where
          by_part : IsMember m front ⊎ IsMember m (n ∷ []) → (last then_seen m ≡ Some p) ⊎ IsMember m front
          by_part (inl i) = inr i
          by_part (inr (inl same)) = inl (ap (last then_seen) same ∙ visited p n seen low)
          by_part (inr (inr none)) = absurd none

      pub walk_passes : is_last p (last seen n) ≡ true → IsWalk next ends p s before old then_seen front ts
      walk_passes e =
          let was = is_last_true p (last seen n) e in
          let same = unchanged p n seen low was in
          record {
            seen_more = subst (IsSeenMore p before) (sym same) W.seen_more;
            seen_come = λ m f. W.seen_come m (sym (ap (λ xs. last xs m) same) ∙ f);
            waiting_come = λ m i. W.waiting_come m (front_waits m i);
            started = met s W.started;
            closed = λ m k f more. met k (W.closed m k (sym (ap (λ xs. last xs m) same) ∙ f) more);
            transitions = subst
                (λ (xs : List (Option ℕ)). (t : Transition)
                → IsMember t ts ↔ (IsMember t old ⊎ ((m : ℕ) × (last xs m ≡ Some p) × IsMember t (ends m))))
                (sym same) W.transitions;
          }

      pub passes_less : is_last p (last seen n) ≡ true
          → 2 * unseen p then_seen + length front < 2 * unseen p seen + length waiting
      passes_less e =
          let same = ap (unseen p) (unchanged p n seen low (is_last_true p (last seen n) e)) in
          let long = ap length is ∙ length-append front (n ∷ []) in
          omega (arith, same, long)

      pub walk_goes_on : IsWalk next ends p s before old then_seen (front ++ next n) (ts ++ ends n)
      walk_goes_on = record {
        seen_more = record {
          as_long = length-set seen n (Some p) ∙ (W.seen_more).as_long;
          others = λ m q e. others m q (seen_before p n seen low m q e);
        };
        seen_come = λ m e. seen_come m (seen_before p n seen low m p e);
        waiting_come = λ m i. waiting_come m (member-append m front (next n) i);
        started = met_more s (met s W.started);
        closed = λ m k e more. closed m k more (seen_before p n seen low m p e);
        transitions = λ t. ((λ i. there t (member-append t ts (ends n) i)), back t);
      }
        where
          others : (m q : ℕ) → (last seen m ≡ Some q) ⊎ ((m ≡ n) × (q ≡ p)) → (last before m ≡ Some q) ⊎ (q ≡ p)
          others m q (inl e) = (W.seen_more).others m q e
          others m q (inr both) = inr both.1

          seen_come : (m : ℕ) → (last seen m ≡ Some p) ⊎ ((m ≡ n) × (p ≡ p)) → Comes next s m
          seen_come m (inl e) = W.seen_come m e
          seen_come m (inr both) = subst (Comes next s) (sym both.0) comes_next

          waiting_come : (m : ℕ) → IsMember m front ⊎ IsMember m (next n) → Comes next s m
          waiting_come m (inl i) = W.waiting_come m (front_waits m i)
          waiting_come m (inr i) = further n m comes_next i

          met_more : (m : ℕ)
              → (last then_seen m ≡ Some p) ⊎ IsMember m front
              → (last then_seen m ≡ Some p) ⊎ IsMember m (front ++ next n)
          met_more m (inl e) = inl e
          met_more m (inr i) = inr (member-append_left m front (next n) i)

          closed : (m k : ℕ) → IsMember k (next m) → (last seen m ≡ Some p) ⊎ ((m ≡ n) × (p ≡ p))
              → (last then_seen k ≡ Some p) ⊎ IsMember k (front ++ next n)
          closed m k more (inl e) = met_more k (met k (W.closed m k e more))
          closed m k more (inr both) =
              inr (member-append_right k front (next n) (subst (λ j. IsMember k (next j)) both.0 more))

          there : (t : Transition) → IsMember t ts ⊎ IsMember t (ends n)
              → IsMember t old ⊎ ((m : ℕ) × (last then_seen m ≡ Some p) × IsMember t (ends m))
          there t (inl i) =
              ⊎_elim (λ (was : IsMember t old). inl was)
              (λ (some : (m : ℕ) × (last seen m ≡ Some p) × IsMember t (ends m)).
              inr (some.0, kept p n seen low some.0 some.1, some.2))
              ((W.transitions t).0 i)
          there t (inr i) = inr (n, visited p n seen low, i)

          back : (t : Transition) → IsMember t old ⊎ ((m : ℕ) × (last then_seen m ≡ Some p) × IsMember t (ends m))
              → IsMember t (ts ++ ends n)
          back t (inl i) = member-append_left t ts (ends n) ((W.transitions t).1 (inl i))
          back t (inr some) =
              ⊎_elim
              (λ (e : last seen some.0 ≡ Some p).
              member-append_left t ts (ends n) ((W.transitions t).1 (inr (some.0, e, some.2))))
              (λ (both : (some.0 ≡ n) × (p ≡ p)).
              member-append_right t ts (ends n) (subst (λ m. IsMember t (ends m)) both.0 some.2))
              (seen_before p n seen low some.0 p some.1)

      pub goes_less : is_last p (last seen n) ≡ false
          → length (next n) ≤ 2
          → 2 * unseen p then_seen + length (front ++ next n) < 2 * unseen p seen + length waiting
      goes_less e short =
          let less = fewer p n seen low e in
          let long = ap length is ∙ length-append front (n ∷ []) in
          let more = length-append front (next n) in
          omega (arith, less, long, more, short)

      -- the same of what a program holds
      module _ (seen2 : List (Option ℕ)) (visit : seen2 ≡ set seen n (Some p)) where
        pub passed : is_last p (last seen n) ≡ true → IsWalk next ends p s before old seen2 front ts
        passed e = subst (λ xs. IsWalk next ends p s before old xs front ts) (sym visit) (walk_passes e)

        pub passed_less : is_last p (last seen n) ≡ true
            → 2 * unseen p seen2 + length front < 2 * unseen p seen + length waiting
        passed_less e =
            subst (λ xs. 2 * unseen p xs + length front < 2 * unseen p seen + length waiting) (sym visit) (passes_less e)

        module _ (waiting2 : List ℕ) (longer : waiting2 ≡ front ++ next n) where
          pub went_on : (ts2 : List Transition)
              → ts2 ≡ ts ++ ends n
              → IsWalk next ends p s before old seen2 waiting2 ts2
          went_on ts2 more =
              subst (λ us. IsWalk next ends p s before old seen2 waiting2 us) (sym more)
              (subst (λ xs. IsWalk next ends p s before old seen2 xs (ts ++ ends n)) (sym longer)
              (subst (λ xs. IsWalk next ends p s before old xs (front ++ next n) (ts ++ ends n)) (sym visit) walk_goes_on))

          pub went_less : is_last p (last seen n) ≡ false
              → length (next n) ≤ 2
              → 2 * unseen p seen2 + length waiting2 < 2 * unseen p seen + length waiting
          went_less e short =
              let less = goes_less e short in
              let unseen_is = ap (unseen p) visit in
              let long = ap length longer in
              omega (arith, less, unseen_is, long)

-- ---- all states

module _ (next : ℕ → List ℕ) (ends : ℕ → ℕ → List Transition) (states : List ℕ) where
  pub none_below : AreThoseBelow 0 next ends states []
  none_below t = ((λ m. absurd m), (λ some. let low = some.1 in absurd (omega (arith, low))))

  pub more_below : (i : ℕ) (old ts : List Transition)
      → AreThoseBelow i next ends states old
      → AreAdded next (ends i) (get_or states i 0) old ts
      → AreThoseBelow (i + 1) next ends states ts
  more_below i old ts before added t = (there, back)
    where
      there : IsMember t ts → (p : ℕ) × (p < i + 1) × Ends next (ends p) (get_or states p 0) t
      there m =
          ⊎_elim
          (λ (was : IsMember t old).
          let some = (before t).0 was in let low = some.1 in (some.0, omega (arith, low), some.2))
          (λ (new : Ends next (ends i) (get_or states i 0) t). (i, omega arith, new))
          ((added t).0 m)

      back : (p : ℕ) × (p < i + 1) × Ends next (ends p) (get_or states p 0) t → IsMember t ts
      back (p, low, e) =
          ⊎_elim
          (λ (is : p ≡ i). (added t).1 (inr (subst (λ q. Ends next (ends q) (get_or states q 0) t) is e)))
          (λ (other : p ≡ i → ⊥). (added t).1 (inl ((before t).1 (p, omega (arith, low, other), e))))
          (cases_eq p i)

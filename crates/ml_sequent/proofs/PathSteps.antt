-- The three steps of a walk along a path.
--
--   folded_member, folded_low, folded_framed == frames that are left are old ones, begin at the place or before it, and
--                       divide the path; one that isn't left begins behind it
--   fold_keeps       == a target on the path joins the frames behind it
--   enter_keeps      == a new one goes behind the path, and its children wait
--   Dropped, stage_kept == a node of the frame that ends; how far others are stays
--   close_keeps      == the last frame ends
use Rattle.std.proofs.Common.{ℕ, ◌≡◌, ◌+◌, ◌-◌, ◌<◌, ◌≤◌, ◌⊎◌, inl, inr, ⊎_elim, true, false, nat_lt, nat_le, List, [], ◌∷◌, ◌++◌, length, get_or, refl, sym, ap, ◌∙◌, subst, arith, length-append}
use Rattle.std.proofs.lemmas.Bool.{cases_Bool, cases_lt, cases_eq, cond-true, cond-false}
use Rattle.std.proofs.lemmas.Bool.Decides.{nat_tests}
use Rattle.std.proofs.lemmas.List.{get_or_append_left, get_or-append-add, get_or-set_same, get_or-set_other, length-set}
use Rattle.ml_lists.specs.Member.{IsMember}
use Rattle.ml_lists.proofs.Member.{member-filter, member-filter_from, member-place, place-member, Place}
use Rattle.ml_graph.specs.Graph.{Graph, size, priority_at}
use Rattle.ml_sequent.specs.declared.choice.Side.{Side}
use Rattle.ml_sequent.specs.declared.parts.Frame.{Frame}
use Rattle.ml_sequent.specs.declared.parts.Stage.{Stage}
use Rattle.ml_sequent.specs.declared.parts.Stage.TheVariants.{New, On, Done}
use Rattle.ml_sequent.specs.LocalWalk.{children}
use Rattle.ml_sequent.specs.private.ConnectedParts.{IsChild, Reaches, WalkList, stage_of, IsFramed, AreTogether, Led, is_done, is_on, waits}
use Rattle.ml_sequent.specs.private.ConnectedParts.{looked_at, Owner, IsUnder, Coming, high_children, entered, folded, folded_to}
use Rattle.ml_sequent.proofs.PathWalks.{at_end, framed_below, reaches_self, reaches_joined, same_reaches, coming_reach, same_place}

-- ---- frames that are left

pub folded_member : (w : ℕ) (frames : List Frame) (f : Frame) → IsMember f (folded w frames) → IsMember f frames
folded_member w [] f m = m
folded_member w (e ∷ fs) f m = by_test (cases_Bool (nat_lt w e.first)) (folded_member w fs f)
  where
    by_test : (nat_lt w e.first ≡ true) ⊎ (nat_lt w e.first ≡ false)
        → (IsMember f (folded w fs) → IsMember f fs)
        → IsMember f (e ∷ fs)
    by_test (inl behind) rest =
        inr (rest (subst (IsMember f) (cond-true (nat_lt w e.first) (folded w fs) (e ∷ fs) behind) m))
    by_test (inr before) rest = subst (IsMember f) (cond-false (nat_lt w e.first) (folded w fs) (e ∷ fs) before) m

-- one that isn't left begins behind the place
pub left_or_behind : (w : ℕ) (frames : List Frame) (f : Frame)
    → IsMember f frames
    → IsMember f (folded w frames) ⊎ (w < f.first)
left_or_behind w [] f m = absurd m
left_or_behind w (e ∷ fs) f m = by_test (cases_Bool (nat_lt w e.first)) m (left_or_behind w fs f)
  where
    by_test : (nat_lt w e.first ≡ true) ⊎ (nat_lt w e.first ≡ false)
        → (f ≡ e) ⊎ IsMember f fs
        → (IsMember f fs → IsMember f (folded w fs) ⊎ (w < f.first))
        → IsMember f (folded w (e ∷ fs)) ⊎ (w < f.first)
    by_test (inl behind) (inl same) rest =
        let first : f.first ≡ e.first = ap (λ (h : Frame). h.first) same in
        inr (let less : w < f.first = grind (arith, nat_tests) in less)
    by_test (inl behind) (inr later) rest = from (rest later)
      where
        from : IsMember f (folded w fs) ⊎ (w < f.first) → IsMember f (folded w (e ∷ fs)) ⊎ (w < f.first)
        from (inl left) =
            inl (subst (IsMember f) (sym (cond-true (nat_lt w e.first) (folded w fs) (e ∷ fs) behind)) left)
        from (inr gone) = inr gone
    by_test (inr before) at rest =
        inl (subst (IsMember f) (sym (cond-false (nat_lt w e.first) (folded w fs) (e ∷ fs) before)) at)

-- frames that are left begin at the place or before it
pub folded_low : (w n k : ℕ) (frames : List Frame)
    → IsFramed n k frames
    → (f : Frame)
    → IsMember f (folded w frames)
    → f.first ≤ w
folded_low w n k [] is f m = absurd m
folded_low w n k (e ∷ fs) is f m = by_test (cases_Bool (nat_lt w e.first)) (folded_low w e.first e.waits fs is.2 f)
  where
    by_test : (nat_lt w e.first ≡ true) ⊎ (nat_lt w e.first ≡ false)
        → (IsMember f (folded w fs) → f.first ≤ w)
        → f.first ≤ w
    by_test (inl behind) rest =
        rest (subst (IsMember f) (cond-true (nat_lt w e.first) (folded w fs) (e ∷ fs) behind) m)
    by_test (inr before) rest =
        from (subst (IsMember f) (cond-false (nat_lt w e.first) (folded w fs) (e ∷ fs) before) m)
      where
        low : e.first ≤ w
        low = grind (arith, nat_tests)

        from : (f ≡ e) ⊎ IsMember f fs → f.first ≤ w
        from (inl same) = let first : f.first ≡ e.first = ap (λ (h : Frame). h.first) same in omega (arith, low)
        from (inr later) = let below = framed_below e.first e.waits fs is.2 f later in omega (arith, below.0, low)

-- and divide the path
pub folded_framed : (w n k : ℕ) (frames : List Frame) → w < n → IsFramed n k frames → IsFramed n k (folded w frames)
folded_framed w n k [] low is = is
folded_framed w n k (e ∷ fs) low is = by_test (cases_Bool (nat_lt w e.first)) (folded_framed w e.first e.waits fs)
  where
    wider : (gs : List Frame) → IsFramed e.first e.waits gs → w < e.first → IsFramed n k gs
    wider [] f less = absurd (omega (arith, f.0))
    wider (h ∷ hs) f less = (omega (arith, f.0, is.0), omega (arith, f.1, is.1), f.2)

    by_test : (nat_lt w e.first ≡ true) ⊎ (nat_lt w e.first ≡ false)
        → (w < e.first → IsFramed e.first e.waits fs → IsFramed e.first e.waits (folded w fs))
        → IsFramed n k (folded w (e ∷ fs))
    by_test (inl behind) rest =
        let less : w < e.first = grind (arith, nat_tests) in
        subst (IsFramed n k) (sym (cond-true (nat_lt w e.first) (folded w fs) (e ∷ fs) behind))
        (wider (folded w fs) (rest less is.2) less)
    by_test (inr before) rest =
        subst (IsFramed n k) (sym (cond-false (nat_lt w e.first) (folded w fs) (e ∷ fs) before)) is

module _ (g : Graph) (c : List (ℕ × Side)) (d : ℕ) (N : List ℕ) where
  -- ---- a target on the path

  pub fold_keeps : (x : WalkList) (m w : ℕ)
      → IsMember m N
      → IsUnder g c d N (m ∷ []) x
      → Coming g c d x m
      → stage_of x m ≡ On w
      → IsUnder g c d N [] (folded_to w x)
  fold_keeps x m w inside is to on = record {
    sized = is.sized;
    inside = is.inside;
    placed = is.placed;
    forth = is.forth;
    back = back;
    closed = is.closed;
    leads = λ f f_in p k at low child. still f (old f f_in) (low_first f f_in) k
        (is.leads f (old f f_in) p k at low child);
    owned = λ k low. owner k (is.owned k low);
    framed = folded_framed w (length x.path) (length x.waiting) x.frames place.0 is.framed;
  }
    where
      place : (w < length x.path) × (get_or x.path w 0 ≡ m)
      place = is.placed m w inside on

      old : (f : Frame) → IsMember f (folded w x.frames) → IsMember f x.frames
      old f f_in = folded_member w x.frames f f_in

      low_first : (f : Frame) → IsMember f (folded w x.frames) → f.first ≤ w
      low_first f f_in = folded_low w (length x.path) (length x.waiting) x.frames is.framed f f_in

      still : (f : Frame)
          → IsMember f x.frames
          → f.first ≤ w
          → (k : ℕ)
          → Led x (m ∷ []) f k
          → Led (folded_to w x) [] f k
      still f f_in first k (is_done e) = is_done e
      still f f_in first k (is_on q e at) = is_on q e at
      still f f_in first k (waits j from low e) = waits j from low e
      still f f_in first k (looked_at (inl same)) = is_on w (subst (λ j. stage_of x j ≡ On w) (sym same) on) first
      still f f_in first k (looked_at (inr none)) = absurd none

      owner : (k : ℕ) → Owner g c d x k → Owner g c d (folded_to w x) k
      owner k o = record { place = o.place; low = o.low; child = o.child; framed = λ f f_in. o.framed f (old f f_in) }

      -- each node on the path leads to the target
      to_target : (q : ℕ) → q < length x.path → Reaches g c d (get_or x.path q 0) (get_or x.path w 0)
      to_target q low = same_reaches g c d (get_or x.path q 0) (get_or x.path w 0) (get_or x.path q 0) m refl place.1
          (coming_reach g c d N (m ∷ []) x m is to q low)

      together_before : (p q : ℕ) → q ≤ w → AreTogether (folded w x.frames) p q → AreTogether x.frames p q
      together_before p q order together f f_in = from (left_or_behind w x.frames f f_in)
        where
          from : IsMember f (folded w x.frames) ⊎ (w < f.first) → (f.first ≤ p) ⊎ (q < f.first)
          from (inl left) = together f left
          from (inr behind) = inr (omega arith)

      -- from the target to each node behind the frames that are left
      from_target : (p : ℕ) → p < length x.path → ((f : Frame) → IsMember f (folded w x.frames) → f.first ≤ p)
          → Reaches g c d (get_or x.path w 0) (get_or x.path p 0)
      from_target p low firsts = ⊎_elim
          (λ (before : p < w). is.back p w (omega arith) place.0
          (λ f f_in. by_left f (left_or_behind w x.frames f f_in)))
          (λ (behind : w ≤ p). is.forth w p behind low)
          (cases_lt p w)
        where
          by_left : (f : Frame) → IsMember f (folded w x.frames) ⊎ (w < f.first) → (f.first ≤ p) ⊎ (w < f.first)
          by_left f (inl left) = inl (firsts f left)
          by_left f (inr behind) = inr behind

      back : (p q : ℕ) → p ≤ q → q < length x.path → AreTogether (folded w x.frames) p q
          → Reaches g c d (get_or x.path q 0) (get_or x.path p 0)
      back p q order low together = ⊎_elim
          (λ (behind : w < q).
          reaches_joined g c d (get_or x.path q 0) (get_or x.path w 0) (get_or x.path p 0) (to_target q low)
          (from_target p (omega arith) (λ f f_in. first_before f f_in behind (together f f_in))))
          (λ (before : q ≤ w). is.back p q order low (together_before p q before together))
          (cases_lt w q)
        where
          first_before : (f : Frame)
              → IsMember f (folded w x.frames)
              → w < q
              → (f.first ≤ p) ⊎ (q < f.first)
              → f.first ≤ p
          first_before f f_in behind (inl is_before) = is_before
          first_before f f_in behind (inr after) = absurd (omega (arith, low_first f f_in))

  -- ---- a new node

  module _ (x : WalkList) (m : ℕ) (inside : IsMember m N) (high : d ≤ priority_at g m) (m_low : m < size g)
      (is : IsUnder g c d N (m ∷ []) x) (new : stage_of x m ≡ New)
      (reach : (p : ℕ) → p < length x.path → Reaches g c d (get_or x.path p 0) m) where
    here : stage_of (entered g c d m x) m ≡ On (length x.path)
    here = get_or-set_same x.stages m (On (length x.path)) New (omega (arith, is.sized))

    other : (n : ℕ) → (n ≡ m → ⊥) → stage_of (entered g c d m x) n ≡ stage_of x n
    other n apart = get_or-set_other x.stages m n (On (length x.path)) New apart

    not_new : (n : ℕ) (s : Stage) → stage_of x n ≡ s → (s ≡ New → ⊥) → n ≡ m → ⊥
    not_new n s is_s old same = old (sym is_s ∙ ap (stage_of x) same ∙ new)

    done_old : Done ≡ New → ⊥
    done_old e = cc

    on_old : (p : ℕ) → On p ≡ New → ⊥
    on_old p e = cc

    done_kept : (n : ℕ) → stage_of x n ≡ Done → stage_of (entered g c d m x) n ≡ Done
    done_kept n is_done_so = other n (not_new n Done is_done_so done_old) ∙ is_done_so

    on_kept : (n p : ℕ) → stage_of x n ≡ On p → stage_of (entered g c d m x) n ≡ On p
    on_kept n p on = other n (not_new n (On p) on (on_old p)) ∙ on

    long : length (x.path ++ m ∷ []) ≡ length x.path + 1
    long = length-append x.path (m ∷ [])

    kids : List ℕ
    kids = high_children g c d m

    enter_inside : (p : ℕ) → p < length x.path + 1
        → IsMember (get_or (x.path ++ m ∷ []) p 0) N
        × (d ≤ priority_at g (get_or (x.path ++ m ∷ []) p 0))
        × (stage_of (entered g c d m x) (get_or (x.path ++ m ∷ []) p 0) ≡ On p)
    enter_inside p low = from (at_end x.path m p low)
      where
        Fits : ℕ → Type 0
        Fits n = IsMember n N × (d ≤ priority_at g n) × (stage_of (entered g c d m x) n ≡ On p)

        from : ((p < length x.path) × (get_or (x.path ++ m ∷ []) p 0 ≡ get_or x.path p 0))
            ⊎ ((p ≡ length x.path) × (get_or (x.path ++ m ∷ []) p 0 ≡ m))
            → IsMember (get_or (x.path ++ m ∷ []) p 0) N
            × (d ≤ priority_at g (get_or (x.path ++ m ∷ []) p 0))
            × (stage_of (entered g c d m x) (get_or (x.path ++ m ∷ []) p 0) ≡ On p)
        from (inl before) =
            let old = is.inside p before.0 in
            subst (λ n. IsMember n N × (d ≤ priority_at g n) × (stage_of (entered g c d m x) n ≡ On p)) (sym before.1)
            (old.0, old.1, on_kept (get_or x.path p 0) p old.2)
        from (inr last) =
            subst (λ n. IsMember n N × (d ≤ priority_at g n) × (stage_of (entered g c d m x) n ≡ On p)) (sym last.1)
            (inside, high, here ∙ ap On (sym last.0))

    enter_placed : (n p : ℕ) → IsMember n N → stage_of (entered g c d m x) n ≡ On p
        → (p < length x.path + 1) × (get_or (x.path ++ m ∷ []) p 0 ≡ n)
    enter_placed n p n_in on = from (cases_eq n m)
      where
        from : (n ≡ m) ⊎ (n ≡ m → ⊥) → (p < length x.path + 1) × (get_or (x.path ++ m ∷ []) p 0 ≡ n)
        from (inl same) =
            let at : length x.path ≡ p =
            same_place (length x.path) p (sym here ∙ ap (stage_of (entered g c d m x)) (sym same) ∙ on) in
            let end : p ≡ length x.path + 0 = omega arith in (
              omega arith,
              ap (λ k. get_or (x.path ++ m ∷ []) k 0) end ∙ get_or-append-add x.path (m ∷ []) 0 0
                  ∙ sym same,
            )
        from (inr apart) =
            let old = is.placed n p n_in (sym (other n apart) ∙ on) in
            (omega (arith, old.0), get_or_append_left x.path (m ∷ []) 0 p old.0 ∙ old.1)

    enter_forth : (p q : ℕ) → p ≤ q → q < length x.path + 1
        → Reaches g c d (get_or (x.path ++ m ∷ []) p 0) (get_or (x.path ++ m ∷ []) q 0)
    enter_forth p q order low = from (at_end x.path m p (omega arith)) (at_end x.path m q low)
      where
        from : ((p < length x.path) × (get_or (x.path ++ m ∷ []) p 0 ≡ get_or x.path p 0))
            ⊎ ((p ≡ length x.path) × (get_or (x.path ++ m ∷ []) p 0 ≡ m))
            → ((q < length x.path) × (get_or (x.path ++ m ∷ []) q 0 ≡ get_or x.path q 0))
            ⊎ ((q ≡ length x.path) × (get_or (x.path ++ m ∷ []) q 0 ≡ m))
            → Reaches g c d (get_or (x.path ++ m ∷ []) p 0) (get_or (x.path ++ m ∷ []) q 0)
        from (inl a) (inl b) =
            same_reaches g c d _ _ (get_or x.path p 0) (get_or x.path q 0) a.1 b.1 (is.forth p q order b.0)
        from (inl a) (inr b) = same_reaches g c d _ _ (get_or x.path p 0) m a.1 b.1 (reach p a.0)
        from (inr a) (inl b) = absurd (omega (arith, a.0, b.0))
        from (inr a) (inr b) = same_reaches g c d _ _ m m a.1 b.1 (reaches_self g c d m high)

    last_frame : Frame
    last_frame = record { first = length x.path; waits = length x.waiting }

    enter_back : (p q : ℕ) → p ≤ q → q < length x.path + 1
        → AreTogether (record { first = length x.path; waits = length x.waiting } ∷ x.frames) p q
        → Reaches g c d (get_or (x.path ++ m ∷ []) q 0) (get_or (x.path ++ m ∷ []) p 0)
    enter_back p q order low together =
        from (at_end x.path m p (omega arith)) (at_end x.path m q low)
        (together (record { first = length x.path; waits = length x.waiting }) (inl refl))
      where
        from : ((p < length x.path) × (get_or (x.path ++ m ∷ []) p 0 ≡ get_or x.path p 0))
            ⊎ ((p ≡ length x.path) × (get_or (x.path ++ m ∷ []) p 0 ≡ m))
            → ((q < length x.path) × (get_or (x.path ++ m ∷ []) q 0 ≡ get_or x.path q 0))
            ⊎ ((q ≡ length x.path) × (get_or (x.path ++ m ∷ []) q 0 ≡ m))
            → (length x.path ≤ p) ⊎ (q < length x.path)
            → Reaches g c d (get_or (x.path ++ m ∷ []) q 0) (get_or (x.path ++ m ∷ []) p 0)
        from (inl a) (inl b) at =
            same_reaches g c d _ _ (get_or x.path q 0) (get_or x.path p 0) b.1 a.1
            (is.back p q order b.0 (λ f f_in. together f (inr f_in)))
        from (inl a) (inr b) (inl behind) = absurd (omega (arith, a.0))
        from (inl a) (inr b) (inr before) = absurd (omega (arith, b.0))
        from (inr a) (inl b) at = absurd (omega (arith, a.0, b.0))
        from (inr a) (inr b) at = same_reaches g c d _ _ m m b.1 a.1 (reaches_self g c d m high)

    enter_closed : (n k : ℕ)
        → IsMember n N
        → stage_of (entered g c d m x) n ≡ Done
        → IsChild g c d n k
        → stage_of (entered g c d m x) k ≡ Done
    enter_closed n k n_in ended child = from (cases_eq n m)
      where
        from : (n ≡ m) ⊎ (n ≡ m → ⊥) → stage_of (entered g c d m x) k ≡ Done
        from (inl same) = let on = sym here ∙ ap (stage_of (entered g c d m x)) (sym same) ∙ ended in absurd (cc)
        from (inr apart) = done_kept k (is.closed n k n_in (sym (other n apart) ∙ ended) child)

    -- the children of the node wait
    child_waits : (f : Frame) (k : ℕ) → f.waits ≤ length x.waiting → IsChild g c d m k → Led (entered g c d m x) [] f k
    child_waits f k below child =
        from
        (member-place k (high_children g c d m)
        (member-filter (λ j. nat_le d (priority_at g j)) k (children g c m) child.0
        (let test : nat_le d (priority_at g k) ≡ true = grind (arith, nat_tests, child.1) in test)))
      where
        from : Place k (high_children g c d m) → Led (entered g c d m x) [] f k
        from at = waits (length x.waiting + at.place) (omega arith)
            (omega (arith, at.below, length-append x.waiting (high_children g c d m)))
            (get_or-append-add x.waiting (high_children g c d m) at.place 0 ∙ at.holds 0)

    enter_still : (f : Frame) → IsMember f x.frames → (k : ℕ) → Led x (m ∷ []) f k → Led (entered g c d m x) [] f k
    enter_still f f_in k (is_done e) = is_done (done_kept k e)
    enter_still f f_in k (is_on q e at) = is_on q (on_kept k q e) at
    enter_still f f_in k (waits j from low e) =
        waits j from (omega (arith, length-append x.waiting (high_children g c d m)))
        (get_or_append_left x.waiting (high_children g c d m) 0 j low ∙ e)
    enter_still f f_in k (looked_at (inl same)) =
        let below = framed_below (length x.path) (length x.waiting) x.frames is.framed f f_in in
        is_on (length x.path) (ap (stage_of (entered g c d m x)) same ∙ here) (omega (arith, below.0))
    enter_still f f_in k (looked_at (inr none)) = absurd none

    enter_leads : (f : Frame) → IsMember f (record { first = length x.path; waits = length x.waiting } ∷ x.frames)
        → (p k : ℕ)
        → f.first ≤ p
        → p < length x.path + 1
        → IsChild g c d (get_or (x.path ++ m ∷ []) p 0) k
        → Led (entered g c d m x) [] f k
    enter_leads f f_in p k at low child = from f_in (at_end x.path m p low)
      where
        from : (f ≡ record { first = length x.path; waits = length x.waiting }) ⊎ IsMember f x.frames
            → ((p < length x.path) × (get_or (x.path ++ m ∷ []) p 0 ≡ get_or x.path p 0))
            ⊎ ((p ≡ length x.path) × (get_or (x.path ++ m ∷ []) p 0 ≡ m))
            → Led (entered g c d m x) [] f k
        from (inl same) (inl before) =
            let first : f.first ≡ length x.path = ap (λ (h : Frame). h.first) same in absurd (omega (arith, before.0))
        from (inl same) (inr last) =
            let wait : f.waits ≡ length x.waiting = ap (λ (h : Frame). h.waits) same in
            child_waits f k (omega arith) (subst (λ n. IsChild g c d n k) last.1 child)
        from (inr old) (inl before) =
            enter_still f old k (is.leads f old p k at before.0 (subst (λ n. IsChild g c d n k) before.1 child))
        from (inr old) (inr last) =
            child_waits f k (framed_below (length x.path) (length x.waiting) x.frames is.framed f old).1
            (subst (λ n. IsChild g c d n k) last.1 child)

    -- a target that waits is a child of an old node, or of the new one
    enter_owned : (k : ℕ) → k < length (x.waiting ++ high_children g c d m) → Owner g c d (entered g c d m x) k
    enter_owned k low = ⊎_elim
        (λ (less : k < length x.waiting). from_old less (is.owned k less))
        (λ (more : length x.waiting ≤ k). from_new more)
        (cases_lt k (length x.waiting))
      where
        from_old : k < length x.waiting → Owner g c d x k → Owner g c d (entered g c d m x) k
        from_old less o = record {
          place = o.place;
          low = omega (arith, o.low, long);
          child = child;
          framed = framed;
        }
          where
            child : IsChild g c d (get_or (x.path ++ m ∷ []) o.place 0)
                (get_or (x.waiting ++ high_children g c d m) k 0)
            child =
                subst (λ j. IsChild g c d (get_or (x.path ++ m ∷ []) o.place 0) j)
                (sym (get_or_append_left x.waiting (high_children g c d m) 0 k less))
                (subst (λ n. IsChild g c d n (get_or x.waiting k 0))
                (sym (get_or_append_left x.path (m ∷ []) 0 o.place o.low)) o.child)

            framed : (f : Frame) → IsMember f (record { first = length x.path; waits = length x.waiting } ∷ x.frames)
                → (f.waits ≤ k → f.first ≤ o.place) × (k < f.waits → o.place < f.first)
            framed f (inl same) =
                let wait : f.waits ≡ length x.waiting = ap (λ (h : Frame). h.waits) same in
                let first : f.first ≡ length x.path = ap (λ (h : Frame). h.first) same in
                ((λ after. absurd (omega arith)), (λ before. omega (arith, o.low)))
            framed f (inr old) = o.framed f old

        from_new : length x.waiting ≤ k → Owner g c d (entered g c d m x) k
        from_new more = record {
          place = length x.path;
          low = omega (arith, long);
          child = child;
          framed = framed;
        }
          where
            j : ℕ
            j = k - length x.waiting

            at : get_or (x.waiting ++ high_children g c d m) k 0
                ≡ get_or (high_children g c d m) (k - length x.waiting) 0
            at =
                let split : k ≡ length x.waiting + (k - length x.waiting) = omega arith in
                ap (λ i. get_or (x.waiting ++ high_children g c d m) i 0) split
                ∙ get_or-append-add x.waiting (high_children g c d m) (k - length x.waiting) 0

            child : IsChild g c d (get_or (x.path ++ m ∷ []) (length x.path) 0)
                (get_or (x.waiting ++ high_children g c d m) k 0)
            child =
                let end : length x.path ≡ length x.path + 0 = omega arith in
                let node = ap (λ i. get_or (x.path ++ m ∷ []) i 0) end ∙ get_or-append-add x.path (m ∷ []) 0 0 in
                let few : k - length x.waiting < length (high_children g c d m) =
                omega (arith, length-append x.waiting (high_children g c d m)) in
                let kid =
                member-filter_from (λ i. nat_le d (priority_at g i))
                (get_or (high_children g c d m) (k - length x.waiting) 0) (children g c m)
                (place-member (high_children g c d m) (k - length x.waiting) 0 few)
                in
                let at_least : d ≤ priority_at g (get_or (high_children g c d m) (k - length x.waiting) 0) =
                grind (arith, nat_tests, kid.1) in
                subst (λ n. IsChild g c d n (get_or (x.waiting ++ high_children g c d m) k 0)) (sym node)
                (subst (λ i. IsChild g c d m i) (sym at) (kid.0, at_least))

            framed : (f : Frame) → IsMember f (record { first = length x.path; waits = length x.waiting } ∷ x.frames)
                → (f.waits ≤ k → f.first ≤ length x.path) × (k < f.waits → length x.path < f.first)
            framed f (inl same) =
                let wait : f.waits ≡ length x.waiting = ap (λ (h : Frame). h.waits) same in
                let first : f.first ≡ length x.path = ap (λ (h : Frame). h.first) same in
                ((λ after. omega arith), (λ before. absurd (omega arith)))
            framed f (inr old) =
                let below = framed_below (length x.path) (length x.waiting) x.frames is.framed f old in
                ((λ after. omega (arith, below.0)), (λ before. absurd (omega (arith, below.1))))

    pub enter_keeps : IsUnder g c d N [] (entered g c d m x)
    enter_keeps = record {
      sized = length-set x.stages m (On (length x.path)) ∙ is.sized;
      inside = λ p low. enter_inside p (omega (arith, long));
      placed = λ n p n_in on. let at = enter_placed n p n_in on in (omega (arith, at.0, long), at.1);
      forth = λ p q order low. enter_forth p q order (omega (arith, long));
      back = λ p q order low together. enter_back p q order (omega (arith, long)) together;
      closed = enter_closed;
      leads = λ f f_in p k at low child. enter_leads f f_in p k at (omega (arith, long)) child;
      owned = enter_owned;
      framed = (omega (arith, long), omega (arith, length-append x.waiting (high_children g c d m)), is.framed);
    }

-- The line of names: each name right behind its parent, by age.
--
--   put_behind-member, member-put_behind, put_behind-has, put_behind-length == the line with one name more
--   put_behind-order   == it stands in an order in which the name comes right behind its parent
--   put_behind-links   == links with one name more
--   line-member, member-line, line-length, line-head  == which names stand in the line
--   line-apart         == each once
--   line-links         == links with one name more, as a program sets them
--   links-at, order-at == two entries of the line
use Rattle.std.proofs.Common.{ℕ, zero, suc, ◌≡◌, ◌+◌, ◌-◌, ◌<◌, ◌≤◌, ◌⊎◌, inl, inr, arith, true, false, eqb, List, [], ◌∷◌, length, get_or, refl, sym, subst, ap, ◌∙◌}
use Rattle.std.proofs.Math.ListN.{set, length-set}
use Rattle.std.proofs.lemmas.Bool.{cases_Bool, cases_lt, cond-true, cond-false, eqb-true, eqb-false}
use Rattle.std.proofs.lemmas.List.{get_or-set_same, get_or-set_other}
use Rattle.ml_lists.specs.Member.{IsMember}
use Rattle.ml_lists.proofs.Member.{place-member}
use Rattle.ml_history.specs.private.Line.{put_behind, line, Links, parent_in, IsTree}
use Rattle.ml_lists.proofs.InOrder.{InOrder}

-- the two forms of the line with y right behind p
module _ (p y x : ℕ) (xs : List ℕ) where
  behind-here : eqb x p ≡ true → put_behind p y (x ∷ xs) ≡ x ∷ (y ∷ xs)
  behind-here t = cond-true (eqb x p) (x ∷ (y ∷ xs)) (x ∷ put_behind p y xs) t

  behind-later : eqb x p ≡ false → put_behind p y (x ∷ xs) ≡ x ∷ put_behind p y xs
  behind-later f = cond-false (eqb x p) (x ∷ (y ∷ xs)) (x ∷ put_behind p y xs) f

pub put_behind-member : (p y v : ℕ) (xs : List ℕ) → IsMember v (put_behind p y xs) → (v ≡ y) ⊎ IsMember v xs
put_behind-member p y v [] m = absurd m
put_behind-member p y v (x ∷ xs) m = by_test (cases_Bool (eqb x p)) (put_behind-member p y v xs)
  where
    here : IsMember v (x ∷ (y ∷ xs)) → (v ≡ y) ⊎ IsMember v (x ∷ xs)
    here (inl e) = inr (inl e)
    here (inr (inl e)) = inl e
    here (inr (inr k)) = inr (inr k)

    later : (IsMember v (put_behind p y xs) → (v ≡ y) ⊎ IsMember v xs)
        → IsMember v (x ∷ put_behind p y xs)
        → (v ≡ y) ⊎ IsMember v (x ∷ xs)
    later rest (inl e) = inr (inl e)
    later rest (inr k) = further (rest k)
      where
        further : (v ≡ y) ⊎ IsMember v xs → (v ≡ y) ⊎ IsMember v (x ∷ xs)
        further (inl e) = inl e
        further (inr j) = inr (inr j)

    by_test : (eqb x p ≡ true) ⊎ (eqb x p ≡ false)
        → (IsMember v (put_behind p y xs) → (v ≡ y) ⊎ IsMember v xs)
        → (v ≡ y) ⊎ IsMember v (x ∷ xs)
    by_test (inl t) rest = here (subst (IsMember v) (behind-here p y x xs t) m)
    by_test (inr f) rest = later rest (subst (IsMember v) (behind-later p y x xs f) m)

pub member-put_behind : (p y v : ℕ) (xs : List ℕ) → IsMember v xs → IsMember v (put_behind p y xs)
member-put_behind p y v [] m = absurd m
member-put_behind p y v (x ∷ xs) m = by_test (cases_Bool (eqb x p)) (member-put_behind p y v xs)
  where
    here : IsMember v (x ∷ xs) → IsMember v (x ∷ (y ∷ xs))
    here (inl e) = inl e
    here (inr k) = inr (inr k)

    later : (IsMember v xs → IsMember v (put_behind p y xs)) → IsMember v (x ∷ xs) → IsMember v (x ∷ put_behind p y xs)
    later rest (inl e) = inl e
    later rest (inr k) = inr (rest k)

    by_test : (eqb x p ≡ true) ⊎ (eqb x p ≡ false)
        → (IsMember v xs → IsMember v (put_behind p y xs))
        → IsMember v (put_behind p y (x ∷ xs))
    by_test (inl t) rest = subst (IsMember v) (sym (behind-here p y x xs t)) (here m)
    by_test (inr f) rest = subst (IsMember v) (sym (behind-later p y x xs f)) (later rest m)

-- the parent stands behind a first entry that is another one
still_behind : (p x : ℕ) (xs : List ℕ) → eqb x p ≡ false → IsMember p (x ∷ xs) → IsMember p xs
still_behind p x xs f (inl e) = absurd (eqb-false x p f (sym e))
still_behind p x xs f (inr m) = m

pub put_behind-has : (p y : ℕ) (xs : List ℕ) → IsMember p xs → IsMember y (put_behind p y xs)
put_behind-has p y [] m = absurd m
put_behind-has p y (x ∷ xs) m = by_test (cases_Bool (eqb x p)) (put_behind-has p y xs)
  where
    by_test : (eqb x p ≡ true) ⊎ (eqb x p ≡ false)
        → (IsMember p xs → IsMember y (put_behind p y xs))
        → IsMember y (put_behind p y (x ∷ xs))
    by_test (inl t) rest = subst (IsMember y) (sym (behind-here p y x xs t)) (inr (inl refl))
    by_test (inr f) rest = subst (IsMember y) (sym (behind-later p y x xs f)) (inr (rest (still_behind p x xs f m)))

pub put_behind-length : (p y : ℕ) (xs : List ℕ) → IsMember p xs → length (put_behind p y xs) ≡ suc (length xs)
put_behind-length p y [] m = absurd m
put_behind-length p y (x ∷ xs) m = by_test (cases_Bool (eqb x p)) (put_behind-length p y xs)
  where
    by_test : (eqb x p ≡ true) ⊎ (eqb x p ≡ false)
        → (IsMember p xs → length (put_behind p y xs) ≡ suc (length xs))
        → length (put_behind p y (x ∷ xs)) ≡ suc (suc (length xs))
    by_test (inl t) rest = ap length (behind-here p y x xs t)
    by_test (inr f) rest = ap length (behind-later p y x xs f) ∙ ap suc (rest (still_behind p x xs f m))

put_behind-head : (p y x : ℕ) (xs : List ℕ) → get_or (put_behind p y (x ∷ xs)) 0 0 ≡ x
put_behind-head p y x xs = by_test (cases_Bool (eqb x p))
  where
    by_test : (eqb x p ≡ true) ⊎ (eqb x p ≡ false) → get_or (put_behind p y (x ∷ xs)) 0 0 ≡ x
    by_test (inl t) = ap (λ l. get_or l 0 0) (behind-here p y x xs t)
    by_test (inr f) = ap (λ l. get_or l 0 0) (behind-later p y x xs f)

-- the line stands in an order in which y comes right behind p
pub put_behind-order : (R : ℕ → ℕ → Type 0) (p y : ℕ) (xs : List ℕ) → InOrder R xs → IsMember p xs → R p y
    → ((x : ℕ) → IsMember x xs → R x p → R x y) → ((z : ℕ) → IsMember z xs → R p z → R y z)
    → InOrder R (put_behind p y xs)
put_behind-order R p y [] order m here before after = tt
put_behind-order R p y (x ∷ xs) order m here before after = by_test (cases_Bool (eqb x p)) (put_behind-order R p y xs)
  where
    first : x ≡ p → InOrder R (x ∷ (y ∷ xs))
    first e = ((λ v k. from v k), ((λ v k. after v (inr k) (subst (λ u. R u v) e (order.0 v k))), order.1))
      where
        from : (v : ℕ) → (v ≡ y) ⊎ IsMember v xs → R x v
        from v (inl is) = subst (R x) (sym is) (subst (λ u. R u y) (sym e) here)
        from v (inr k) = order.0 v k

    beyond : IsMember p xs → (v : ℕ) → (v ≡ y) ⊎ IsMember v xs → R x v
    beyond k v (inl is) = subst (R x) (sym is) (before x (inl refl) (order.0 p k))
    beyond k v (inr j) = order.0 v j

    by_test : (eqb x p ≡ true) ⊎ (eqb x p ≡ false)
        → (InOrder R xs → IsMember p xs → R p y → ((x : ℕ) → IsMember x xs → R x p → R x y)
        → ((z : ℕ) → IsMember z xs → R p z → R y z) → InOrder R (put_behind p y xs))
        → InOrder R (put_behind p y (x ∷ xs))
    by_test (inl t) rest = subst (InOrder R) (sym (behind-here p y x xs t)) (first (eqb-true x p t))
    by_test (inr f) rest =
        let k = still_behind p x xs f m in
        subst (InOrder R) (sym (behind-later p y x xs f)) (
          (λ v j. beyond k v (put_behind-member p y v xs j)),
          rest order.1 k here (λ u j. before u (inr j)) (λ z j. after z (inr j)),
        )

-- ---- links

links_same : (next next' : ℕ → ℕ) (xs : List ℕ)
    → ((v : ℕ) → IsMember v xs → next' v ≡ next v)
    → Links next xs
    → Links next' xs
links_same next next' [] same l = tt
links_same next next' (x ∷ []) same l = tt
links_same next next' (x ∷ (z ∷ zs)) same l =
    (same x (inl refl) ∙ l.0, links_same next next' (z ∷ zs) (λ v m. same v (inr m)) l.1)

-- one entry in front of a list that is known to begin with another
links-cons : (next : ℕ → ℕ) (x z : ℕ) (zs : List ℕ)
    → get_or zs 0 z ≡ z
    → next x ≡ z
    → Links next zs
    → Links next (x ∷ zs)
links-cons next x z [] head is l = tt
links-cons next x z (u ∷ us) head is l = (is ∙ sym head, l)

abbrev Differ : ℕ → ℕ → Type 0
Differ a b = a ≡ b → ⊥

-- links with one name more
pub put_behind-links : (next next' : ℕ → ℕ) (p y : ℕ) (xs : List ℕ) → InOrder Differ xs → (IsMember y xs → ⊥)
    → next' p ≡ y → next' y ≡ next p → ((v : ℕ) → Differ v p → Differ v y → next' v ≡ next v)
    → Links next xs → Links next' (put_behind p y xs)
put_behind-links next next' p y [] apart new at_p at_y other l = tt
put_behind-links next next' p y (x ∷ []) apart new at_p at_y other l = by_test (cases_Bool (eqb x p))
  where
    by_test : (eqb x p ≡ true) ⊎ (eqb x p ≡ false) → Links next' (put_behind p y (x ∷ []))
    by_test (inl t) = subst (Links next') (sym (behind-here p y x [] t)) (ap next' (eqb-true x p t) ∙ at_p, tt)
    by_test (inr f) = subst (Links next') (sym (behind-later p y x [] f)) tt
put_behind-links next next' p y (x ∷ (z ∷ zs)) apart new at_p at_y other l =
    by_test (cases_Bool (eqb x p)) (put_behind-links next next' p y (z ∷ zs))
  where
    outside : (v : ℕ) → x ≡ p → IsMember v (z ∷ zs) → next' v ≡ next v
    outside v e m = other v (λ is. apart.0 v m (e ∙ sym is)) (λ is. new (inr (subst (λ u. IsMember u (z ∷ zs)) is m)))

    by_test : (eqb x p ≡ true) ⊎ (eqb x p ≡ false)
        → (InOrder Differ (z ∷ zs) → (IsMember y (z ∷ zs) → ⊥) → next' p ≡ y → next' y ≡ next p
        → ((v : ℕ) → Differ v p → Differ v y → next' v ≡ next v) → Links next (z ∷ zs)
        → Links next' (put_behind p y (z ∷ zs)))
        → Links next' (put_behind p y (x ∷ (z ∷ zs)))
    by_test (inl t) rest =
        let e = eqb-true x p t in
        subst (Links next') (sym (behind-here p y x (z ∷ zs) t))
        (ap next' e ∙ at_p, (at_y ∙ ap next (sym e) ∙ l.0, links_same next next' (z ∷ zs) (λ v m. outside v e m) l.1))
    by_test (inr f) rest =
        let is : next' x ≡ z = other x (eqb-false x p f) (λ e. new (inl (sym e))) ∙ l.0 in
        let head : get_or (put_behind p y (z ∷ zs)) 0 z ≡ z = by_head (cases_Bool (eqb z p)) in
        subst (Links next') (sym (behind-later p y x (z ∷ zs) f))
        (links-cons next' x z (put_behind p y (z ∷ zs)) head is (rest apart.1 (λ m. new (inr m)) at_p at_y other l.1))
      where
        by_head : (eqb z p ≡ true) ⊎ (eqb z p ≡ false) → get_or (put_behind p y (z ∷ zs)) 0 z ≡ z
        by_head (inl t) = ap (λ v. get_or v 0 z) (behind-here p y z zs t)
        by_head (inr g) = ap (λ v. get_or v 0 z) (behind-later p y z zs g)

-- ---- two entries

pub links-at : (next : ℕ → ℕ) (xs : List ℕ) (k : ℕ)
    → Links next xs
    → k + 1 < length xs
    → next (get_or xs k 0) ≡ get_or xs (k + 1) 0
links-at next [] k l low = absurd (omega arith)
links-at next (x ∷ []) k l low = absurd (omega arith)
links-at next (x ∷ (z ∷ zs)) zero l low = l.0
links-at next (x ∷ (z ∷ zs)) (suc k) l low =
    let e : suc (k + 1) ≡ suc k + 1 = omega arith in
    links-at next (z ∷ zs) k l.1 (omega arith) ∙ ap (λ j. get_or (x ∷ (z ∷ zs)) j 0) e

pub order-at : (R : ℕ → ℕ → Type 0) (xs : List ℕ) (j k : ℕ)
    → InOrder R xs
    → j < k
    → k < length xs
    → R (get_or xs j 0) (get_or xs k 0)
order-at R [] j k order less low = absurd (omega arith)
order-at R (x ∷ xs) j zero order less low = absurd (omega arith)
order-at R (x ∷ xs) zero (suc k) order less low = order.0 (get_or xs k 0) (place-member xs k 0 (omega arith))
order-at R (x ∷ xs) (suc j) (suc k) order less low = order-at R xs j k order.1 (omega arith) (omega arith)

-- ---- the line

module _ (parent : ℕ → ℕ) (r : ℕ) where
  -- each parent is older, or stands for none
  abbrev pub Older : ℕ → Type 0
  Older n = (y : ℕ) → y < n → (parent y < y) ⊎ (parent y ≡ r)

  pub line-member : (n v : ℕ) → IsMember v (line parent r n) → (v ≡ r) ⊎ (v < n)
  line-member zero v (inl e) = inl e
  line-member zero v (inr none) = absurd none
  line-member (suc y) v m = by_part (put_behind-member (parent y) y v (line parent r y) m) (line-member y v)
    where
      further : (v ≡ r) ⊎ (v < y) → (v ≡ r) ⊎ (v < suc y)
      further (inl e) = inl e
      further (inr low) = inr (omega arith)

      by_part : (v ≡ y) ⊎ IsMember v (line parent r y)
          → (IsMember v (line parent r y) → (v ≡ r) ⊎ (v < y))
          → (v ≡ r) ⊎ (v < suc y)
      by_part (inl e) rest = inr (omega arith)
      by_part (inr k) rest = further (rest k)

  pub root-line : (n : ℕ) → IsMember r (line parent r n)
  root-line zero = inl refl
  root-line (suc y) = member-put_behind (parent y) y r (line parent r y) (root-line y)

  -- the parent of the next name stands in the line
  parent-here : (y : ℕ)
      → ((v : ℕ) → v < y → IsMember v (line parent r y))
      → (parent y < y) ⊎ (parent y ≡ r)
      → IsMember (parent y) (line parent r y)
  parent-here y all (inl low) = all (parent y) low
  parent-here y all (inr e) = subst (λ v. IsMember v (line parent r y)) (sym e) (root-line y)

  pub member-line : (n : ℕ) → Older n → (v : ℕ) → v < n → IsMember v (line parent r n)
  member-line zero older v low = absurd (omega arith)
  member-line (suc y) older v low = by_place (cases_lt v y) (member-line y (λ z k. older z (omega arith)))
    where
      by_place : (v < y) ⊎ (y ≤ v)
          → ((u : ℕ) → u < y → IsMember u (line parent r y))
          → IsMember v (line parent r (suc y))
      by_place (inl l) rest = member-put_behind (parent y) y v (line parent r y) (rest v l)
      by_place (inr l) rest =
          let e : y ≡ v = omega arith in
          subst (λ u. IsMember u (line parent r (suc y))) e
          (put_behind-has (parent y) y (line parent r y) (parent-here y rest (older y (omega arith))))

  pub parent-line : (y : ℕ) → Older (suc y) → IsMember (parent y) (line parent r y)
  parent-line y older = parent-here y (member-line y (λ z k. older z (omega arith))) (older y (omega arith))

  pub line-length : (n : ℕ) → Older n → length (line parent r n) ≡ suc n
  line-length zero older = refl
  line-length (suc y) older = put_behind-length (parent y) y (line parent r y) (parent-line y older)
      ∙ ap suc (line-length y (λ z k. older z (omega arith)))

  -- the next name does not stand in the line yet
  pub line-new : (y : ℕ) → y < r → IsMember y (line parent r y) → ⊥
  line-new y low m = by_part (line-member y y m)
    where
      by_part : (y ≡ r) ⊎ (y < y) → ⊥
      by_part (inl e) = omega arith
      by_part (inr l) = omega arith

  -- a line of names in an order in which each name comes right behind its parent
  pub line-order : (R : ℕ → ℕ → Type 0) (n : ℕ) → n ≤ r → Older n
      → ((y : ℕ) → y < n → R (parent y) y)
      → ((x y : ℕ) → y < n → IsMember x (line parent r y) → R x (parent y) → R x y)
      → ((y z : ℕ) → y < n → IsMember z (line parent r y) → R (parent y) z → R y z)
      → InOrder R (line parent r n)
  line-order R zero few older here before after = ((λ y m. absurd m), tt)
  line-order R (suc y) few older here before after =
      put_behind-order R (parent y) y (line parent r y)
      (line-order R y (omega arith) (λ z k. older z (omega arith)) (λ z k. here z (omega arith))
      (λ x z k. before x z (omega arith)) (λ x z k. after x z (omega arith)))
      (parent-line y older) (here y (omega arith))
      (λ x m. before x y (omega arith) m)
      (λ z m. after y z (omega arith) m)

  -- each name stands in it once
  pub line-apart : (n : ℕ) → n ≤ r → Older n → InOrder Differ (line parent r n)
  line-apart n few older =
      line-order Differ n few older (λ y low e. not_parent y low (older y low) e)
      (λ x y low m apart e. line-new y (omega arith) (subst (λ v. IsMember v (line parent r y)) e m))
      (λ y z low m apart e. line-new y (omega arith) (subst (λ v. IsMember v (line parent r y)) (sym e) m))
    where
      not_parent : (y : ℕ) → y < n → (parent y < y) ⊎ (parent y ≡ r) → parent y ≡ y → ⊥
      not_parent y low (inl l) e = omega arith
      not_parent y low (inr is) e = omega arith

-- the line begins with r
pub line-head : (parent : ℕ → ℕ) (r n : ℕ) → get_or (line parent r n) 0 0 ≡ r
line-head parent r zero = refl
line-head parent r (suc y) = step (line parent r y) (line-head parent r y) (root-line parent r y)
  where
    step : (xs : List ℕ) → get_or xs 0 0 ≡ r → IsMember r xs → get_or (put_behind (parent y) y xs) 0 0 ≡ r
    step [] is m = absurd m
    step (x ∷ xs) is m = put_behind-head (parent y) y x xs ∙ is

-- links with one name more, as a program sets them
pub line-links : (next parents : List ℕ) (y : ℕ)
    → IsTree parents
    → y < length parents
    → length next ≡ length parents + 1
    → Links (λ v. get_or next v 0) (line (parent_in parents) (length parents) y)
    → Links (λ v. get_or (set (set next y (get_or next (get_or parents y 0) 0)) (get_or parents y 0) y) v 0)
    (line (parent_in parents) (length parents) (y + 1))
line-links next parents y tree low long l =
    let e : suc y ≡ y + 1 = omega arith in
    subst (λ n. Links (λ v. get_or (set first p y) v 0) (line (parent_in parents) r n)) e
    (put_behind-links (λ v. get_or next v 0) (λ v. get_or (set first p y) v 0) p y (line (parent_in parents) r y)
    (line-apart (parent_in parents) r y (omega arith) (λ z k. tree z (omega arith)))
    (line-new (parent_in parents) r y low)
    (get_or-set_same first p y 0 (omega (arith, in_first, p_low)))
    (get_or-set_other first p y y 0 (λ is. not_p is) ∙ get_or-set_same next y (get_or next p 0) 0 (omega arith))
    (λ v no_p no_y. get_or-set_other first p v y 0 no_p ∙ get_or-set_other next y v (get_or next p 0) 0 no_y)
    l)
  where
    r : ℕ
    r = length parents

    p : ℕ
    p = get_or parents y 0

    first : List ℕ
    first = set next y (get_or next p 0)

    in_first : length first ≡ length parents + 1
    in_first = length-set next y (get_or next p 0) ∙ long

    p_low : p < length parents + 1
    p_low = by_part (tree y low)
      where
        by_part : (get_or parents y 0 < y) ⊎ (get_or parents y 0 ≡ length parents) → p < length parents + 1
        by_part (inl l) = omega arith
        by_part (inr l) = omega arith

    not_p : y ≡ p → ⊥
    not_p is = by_part (tree y low)
      where
        by_part : (get_or parents y 0 < y) ⊎ (get_or parents y 0 ≡ length parents) → ⊥
        by_part (inl l) = omega arith
        by_part (inr l) = omega arith

-- ---- the walk along the line

module _ (parents : List ℕ) (tree : IsTree parents) where
  -- the line of all names
  abbrev pub names_line : List ℕ
  names_line = line (parent_in parents) (length parents) (length parents)

  pub names_line-length : length names_line ≡ length parents + 1
  names_line-length = let e = line-length (parent_in parents) (length parents) (length parents) tree in omega arith

  pub names_line-apart : InOrder Differ names_line
  names_line-apart = line-apart (parent_in parents) (length parents) (length parents) (omega arith) tree

  -- behind its head stand names
  pub names_line-low : (k : ℕ) → k < length parents → get_or names_line (k + 1) 0 < length parents
  names_line-low k low = by_part (line-member (parent_in parents) (length parents) (length parents)
      (get_or names_line (k + 1) 0) (place-member names_line (k + 1) 0 (omega (arith, names_line-length))))
    where
      by_part : (get_or names_line (k + 1) 0 ≡ length parents) ⊎ (get_or names_line (k + 1) 0 < length parents)
          → get_or names_line (k + 1) 0 < length parents
      by_part (inl e) =
          absurd (order-at Differ names_line 0 (k + 1) names_line-apart (omega arith) (omega (arith, names_line-length))
          (line-head (parent_in parents) (length parents) (length parents) ∙ sym e))
      by_part (inr l) = l

  pub names_line-within : (k : ℕ) → k ≤ length parents → get_or names_line k 0 ≤ length parents
  names_line-within zero le = omega (arith, line-head (parent_in parents) (length parents) (length parents))
  names_line-within (suc k) le =
      let e : k + 1 ≡ suc k = omega arith in
      let low : get_or names_line (suc k) 0 < length parents =
      subst (λ j. get_or names_line j 0 < length parents) e (names_line-low k (omega arith)) in
      omega arith

  -- the places with one more
  pub places_next : (places : List ℕ) (k : ℕ) → k < length parents → length places ≡ length parents
      → ((j : ℕ) → j < k → get_or places (get_or names_line (j + 1) 0) 0 ≡ length parents - 1 - j)
      → (j : ℕ) → j < k + 1 → get_or (set places (get_or names_line (k + 1) 0) (length parents - 1 - k))
      (get_or names_line (j + 1) 0) 0 ≡ length parents - 1 - j
  places_next places k low long before j less = by_place (cases_lt j k)
    where
      by_place : (j < k) ⊎ (k ≤ j)
          → get_or (set places (get_or names_line (k + 1) 0) (length parents - 1 - k)) (get_or names_line (j + 1) 0) 0
          ≡ length parents - 1 - j
      by_place (inl l) =
          get_or-set_other places (get_or names_line (k + 1) 0) (get_or names_line (j + 1) 0) (length parents - 1 - k) 0
          (order-at Differ names_line (j + 1) (k + 1) names_line-apart (omega arith) (omega (arith, names_line-length)))
          ∙ before j l
      by_place (inr l) =
          let e : k ≡ j = omega arith in
          let at : get_or names_line (k + 1) 0 < length places = let low' = names_line-low k low in omega arith in
          subst (λ i. get_or (set places (get_or names_line (k + 1) 0) (length parents - 1 - k))
          (get_or names_line (i + 1) 0) 0 ≡ length parents - 1 - i) e
          (get_or-set_same places (get_or names_line (k + 1) 0) (length parents - 1 - k) 0 at)

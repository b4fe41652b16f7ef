-- The line of names is the order of offers, backwards; so places along it tell which stacks beat which.
--
-- A name in use has one path: the stack that ends in it. The path of a name is the path of its parent with the name
-- behind it, and a stack that ends in a name is its path.
--
--   beats-from, beats-extends, beats-longer, beats-younger == when one stack beats another
--   last_two          == the last name of a stack, and the one before it
--   before_last-at    == the name before the last one, by its place
--   same_end          == stacks of a history that end in one name are one
--   path_in, path_in-is, path_in-none == the path of a name
--   IsPaths, paths    == what paths and parents have in common
--   tree_of           == each name's parent is older, or it has none
--   parents_next, parents_all == parents, as a program finds them stack by stack
--   tell_offers       == places along the line tell which stacks beat which
use Rattle.std.proofs.Common.{ℕ, zero, suc, ◌≡◌, ◌≢◌, ◌+◌, ◌-◌, ◌<◌, ◌≤◌, ◌⊎◌, inl, inr, arith, true, false, cond, eqb, ltb, List, [], ◌∷◌, ◌++◌, length, get_or, refl, sym, subst, ap, ◌∙◌}
use Rattle.std.proofs.lemmas.Bool.{cases_Bool, cases_eq, cases_lt, cond-true, cond-false, eqb-true, eq-eqb, ne_eqb, lt-ltb, le-ltb}
use Rattle.std.proofs.Math.ListN.{set}
use Rattle.std.proofs.lemmas.List.{length-append, get_or-set_same, get_or-set_other}
use Rattle.ml_lists.specs.Ascending.{IsAscending}
use Rattle.ml_lists.specs.Member.{IsMember}
use Rattle.ml_lists.proofs.Member.{Place, member-place, member-append, place-member}
use Rattle.ml_trace.specs.Stack.{Item, has, ends_in}
use Rattle.ml_trace.proofs.Stacks.{ends-has, ends-cons, has-member, member-has}
use Rattle.ml_history.specs.History.{IsHistory, up_to}
use Rattle.ml_history.specs.HistoryStep.{beats, last_name, live}
use Rattle.ml_history.specs.private.Keys.{stack_at, TellOffers}
use Rattle.ml_history.specs.private.Line.{before_last, AreParents, parent_in, line, IsTree, ArePlaces}
use Rattle.ml_history.proofs.definition.OrderOfOffers.{beats-cases, beats_irreflexive, beats_asymmetric}
use Rattle.ml_lists.proofs.InOrder.{InOrder}
use Rattle.ml_history.proofs.arrays.NameLine.{line-order, line-member, member-line, line-head, order-at, names_line-length}
use Rattle.ml_history.proofs.definition.NamesInUse.{live-has}
use Rattle.ml_history.proofs.definition.OfferedStacks.{last_name-ends, up_to-append, up_to-end}

-- ---- stacks that beat

pub beats-from : (x y : ℕ) (xs ys : List ℕ)
    → ((x ≡ y) × (beats xs ys ≡ true)) ⊎ (x < y)
    → beats (x ∷ xs) (y ∷ ys) ≡ true
beats-from x y xs ys (inl same) = cond-true (eqb x y) (beats xs ys) (ltb x y) (eq-eqb x y same.0) ∙ same.1
beats-from x y xs ys (inr low) =
    let ne : x ≡ y → ⊥ = λ e. omega arith in
    cond-false (eqb x y) (beats xs ys) (ltb x y) (ne_eqb x y ne) ∙ lt-ltb x y low

-- a stack beats the one that it extends
pub beats-extends : (t : List ℕ) (x : ℕ) → beats (t ++ x ∷ []) t ≡ true
beats-extends [] x = refl
beats-extends (y ∷ ys) x = beats-from y y (ys ++ x ∷ []) ys (inl (refl, beats-extends ys x))

-- a longer stack beats what the stack beats
pub beats-longer : (s t u : List ℕ) → beats s t ≡ true → beats (s ++ u) t ≡ true
beats-longer [] t u b = absurd (cc)
beats-longer (x ∷ xs) [] u b = refl
beats-longer (x ∷ xs) (y ∷ ys) u b = by_part (beats-cases x y xs ys b) (beats-longer xs ys u)
  where
    by_part : ((x ≡ y) × (beats xs ys ≡ true)) ⊎ (x < y)
        → (beats xs ys ≡ true → beats (xs ++ u) ys ≡ true)
        → beats (x ∷ (xs ++ u)) (y ∷ ys) ≡ true
    by_part (inl same) rest = beats-from x y (xs ++ u) ys (inl (same.0, rest same.1))
    by_part (inr low) rest = beats-from x y (xs ++ u) ys (inr low)

-- a stack that beats another beats it too with a name behind it that is greater than all of its own
pub beats-younger : (s t : List ℕ) (y : ℕ)
    → beats s t ≡ true
    → ((z : ℕ) → IsMember z s → z < y)
    → beats s (t ++ y ∷ []) ≡ true
beats-younger [] t y b low = absurd (cc)
beats-younger (x ∷ xs) [] y b low = beats-from x y xs [] (inr (low x (inl refl)))
beats-younger (x ∷ xs) (w ∷ ws) y b low = by_part (beats-cases x w xs ws b) (beats-younger xs ws y)
  where
    by_part : ((x ≡ w) × (beats xs ws ≡ true)) ⊎ (x < w)
        → (beats xs ws ≡ true → ((z : ℕ) → IsMember z xs → z < y) → beats xs (ws ++ y ∷ []) ≡ true)
        → beats (x ∷ xs) (w ∷ (ws ++ y ∷ [])) ≡ true
    by_part (inl same) rest = beats-from x w xs (ws ++ y ∷ []) (inl (same.0, rest same.1 (λ z m. low z (inr m))))
    by_part (inr less) rest = beats-from x w xs (ws ++ y ∷ []) (inr less)

-- ---- the end of a stack

-- the stack is a front and its last name; the name before the last one ends the front, where there is one
pub record LastTwo (r : ℕ) (s : List ℕ) : Type 0 where
  pub front : List ℕ
  pub is : s ≡ front ++ last_name s ∷ []
  pub before : ((front ≡ []) × (before_last r s ≡ r)) ⊎ (ends_in (before_last r s) front ≡ true)

pub last_two : (r x : ℕ) (xs : List ℕ) → LastTwo r (x ∷ xs)
last_two r x [] = record { front = []; is = refl; before = inl (refl, refl) }
last_two r x (y ∷ []) = record { front = x ∷ []; is = refl; before = inr (eq-eqb x x refl) }
last_two r x (y ∷ (z ∷ zs)) = longer (last_two r y (z ∷ zs))
  where
    further : (t : LastTwo r (y ∷ (z ∷ zs)))
        → ((t.front ≡ []) × (before_last r (y ∷ (z ∷ zs)) ≡ r))
        ⊎ (ends_in (before_last r (y ∷ (z ∷ zs))) t.front ≡ true)
        → ends_in (before_last r (y ∷ (z ∷ zs))) (x ∷ t.front) ≡ true
    further t (inl none) =
        let long = ap length t.is in
        let short = length-append t.front (last_name (y ∷ (z ∷ zs)) ∷ []) in
        let empty = ap length none.0 in
        absurd (omega arith)
    further t (inr e) = ends-cons (before_last r (y ∷ (z ∷ zs))) x t.front e

    longer : LastTwo r (y ∷ (z ∷ zs)) → LastTwo r (x ∷ (y ∷ (z ∷ zs)))
    longer t = record { front = x ∷ t.front; is = ap (λ l. x ∷ l) t.is; before = inr (further t t.before) }

-- the name before the last one, by its place
pub before_last-short : (r : ℕ) (s : List ℕ) → length s < 2 → before_last r s ≡ r
before_last-short r [] low = refl
before_last-short r (x ∷ []) low = refl
before_last-short r (x ∷ (y ∷ ys)) low = absurd (omega arith)

pub before_last-at : (r : ℕ) (s : List ℕ) → 2 ≤ length s → get_or s (length s - 2) 0 ≡ before_last r s
before_last-at r [] high = absurd (omega arith)
before_last-at r (x ∷ []) high = absurd (omega arith)
before_last-at r (x ∷ (y ∷ [])) high = refl
before_last-at r (x ∷ (y ∷ (z ∷ zs))) high =
    let e : suc (suc (suc (length zs))) - 2 ≡ suc (suc (suc (length zs)) - 2) = omega arith in
    ap (λ k. get_or (x ∷ (y ∷ (z ∷ zs))) k 0) e ∙ before_last-at r (y ∷ (z ∷ zs)) (omega arith)

-- a stack that ends in a name has it as its last one
pub ends-last : (y : ℕ) (s : List ℕ) → ends_in y s ≡ true → last_name s ≡ y
ends-last y [] e = absurd (cc)
ends-last y (x ∷ []) e = eqb-true x y e
ends-last y (x ∷ (z ∷ zs)) e = ends-last y (z ∷ zs) e

-- a front of a list that ascends ascends, and is below what stands behind it
pub front-ascends : (s : List ℕ) (x : ℕ) → IsAscending (s ++ x ∷ []) → IsAscending s × ((y : ℕ) → IsMember y s → y < x)
front-ascends [] x up = (tt, λ y m. absurd m)
front-ascends (z ∷ zs) x up =
    let rest = front-ascends zs x up.1 in
    (((λ y m. up.0 y (left y zs m)), rest.0), λ y m. below y m rest.1)
  where
    left : (y : ℕ) (us : List ℕ) → IsMember y us → IsMember y (us ++ x ∷ [])
    left y [] m = absurd m
    left y (u ∷ us) (inl e) = inl e
    left y (u ∷ us) (inr m) = inr (left y us m)

    last : (us : List ℕ) → IsMember x (us ++ x ∷ [])
    last [] = inl refl
    last (u ∷ us) = inr (last us)

    below : (y : ℕ) → (y ≡ z) ⊎ IsMember y zs → ((v : ℕ) → IsMember v zs → v < x) → y < x
    below y (inl e) rest = subst (λ v. v < x) (sym e) (up.0 x (last zs))
    below y (inr m) rest = rest y m

-- ---- paths

-- the stack that ends in the name, or the empty one
abbrev pub path_in : List (Item ℕ) → ℕ → List ℕ
path_in [] y = []
path_in (a ∷ as') y = cond (ends_in y a.stack) a.stack (path_in as' y)

path_in-same : (h : List (Item ℕ)) (y : ℕ) (s : List ℕ)
    → ((b : Item ℕ) → IsMember b h → ends_in y b.stack ≡ true → b.stack ≡ s)
    → (a : Item ℕ)
    → IsMember a h
    → ends_in y a.stack ≡ true
    → path_in h y ≡ s
path_in-same [] y s all a m e = absurd m
path_in-same (b ∷ bs) y s all a m e =
    by_test (cases_Bool (ends_in y b.stack)) m (path_in-same bs y s (λ c k. all c (inr k)) a)
  where
    later : ends_in y b.stack ≡ false
        → (a ≡ b) ⊎ IsMember a bs
        → (IsMember a bs → ends_in y a.stack ≡ true → path_in bs y ≡ s)
        → path_in bs y ≡ s
    later f (inl is) rest = let t : ends_in y b.stack ≡ true = subst (λ (c : Item ℕ). ends_in y c.stack ≡ true) is e in
        absurd (cc)
    later f (inr k) rest = rest k e

    by_test : (ends_in y b.stack ≡ true) ⊎ (ends_in y b.stack ≡ false)
        → (a ≡ b) ⊎ IsMember a bs
        → (IsMember a bs → ends_in y a.stack ≡ true → path_in bs y ≡ s)
        → path_in (b ∷ bs) y ≡ s
    by_test (inl t) k rest = cond-true (ends_in y b.stack) b.stack (path_in bs y) t ∙ all b (inl refl) t
    by_test (inr f) k rest = cond-false (ends_in y b.stack) b.stack (path_in bs y) f ∙ later f k rest

path_in-none : (h : List (Item ℕ)) (y : ℕ)
    → ((a : Item ℕ) → IsMember a h → ends_in y a.stack ≡ false)
    → path_in h y ≡ []
path_in-none [] y none = refl
path_in-none (a ∷ as') y none = cond-false (ends_in y a.stack) a.stack (path_in as' y) (none a (inl refl))
    ∙ path_in-none as' y (λ b m. none b (inr m))

-- what paths and parents have in common
pub record IsPaths (path : ℕ → List ℕ) (parents : List ℕ) : Type 0 where
  pub none : path (length parents) ≡ []
  pub grows : (y : ℕ) → y < length parents → path y ≡ path (parent_in parents y) ++ y ∷ []
  pub older : IsTree parents
  pub low : (y z : ℕ) → y < length parents → IsMember z (path y) → z ≤ y

module _ (h : List (Item ℕ)) (history : IsHistory h) where
  -- stacks that end in one name are one
  pub same_end : (a b : Item ℕ) (y : ℕ)
      → IsMember a h
      → IsMember b h
      → ends_in y a.stack ≡ true
      → ends_in y b.stack ≡ true
      → a.stack ≡ b.stack
  same_end a b y ma mb ea eb =
      sym (up_to-end y a.stack (history.stacks_ascend a ma) ea)
      ∙ history.agree a b y ma mb (ends-has y a.stack ea) (ends-has y b.stack eb)
      ∙ up_to-end y b.stack (history.stacks_ascend b mb) eb

  pub path_in-is : (a : Item ℕ) (y : ℕ) → IsMember a h → ends_in y a.stack ≡ true → path_in h y ≡ a.stack
  path_in-is a y m e = path_in-same h y a.stack (λ b k f. same_end b a y k m f e) a m e

  -- no stack ends in a name that is not in use
  unused : (y : ℕ) → live h ≤ y → (a : Item ℕ) → IsMember a h → ends_in y a.stack ≡ false
  unused y high a m = by_test (cases_Bool (ends_in y a.stack))
    where
      by_test : (ends_in y a.stack ≡ true) ⊎ (ends_in y a.stack ≡ false) → ends_in y a.stack ≡ false
      by_test (inl t) = let low = live-has h y a m (ends-has y a.stack t) in absurd (omega arith)
      by_test (inr f) = f

  -- the last two names of a stack of the history
  two_of : (a : Item ℕ) → IsMember a h → LastTwo (live h) a.stack
  two_of a m = of a.stack (history.not_empty a m)
    where
      of : (s : List ℕ) → s ≢ [] → LastTwo (live h) s
      of [] full = absurd (full refl)
      of (x ∷ xs) full = last_two (live h) x xs

  -- the path of the name before the last one is the front of the stack
  front_path : (a : Item ℕ)
      → IsMember a h
      → (t : LastTwo (live h) a.stack)
      → path_in h (before_last (live h) a.stack) ≡ t.front
  front_path a m t = by_part t.before
    where
      x : ℕ
      x = before_last (live h) a.stack

      up : IsAscending t.front
      up = (front-ascends t.front (last_name a.stack) (subst IsAscending t.is (history.stacks_ascend a m))).0

      stands : ends_in x t.front ≡ true → has x a.stack ≡ true
      stands e = subst (λ s. has x s ≡ true) (sym t.is)
          (member-has x (t.front ++ last_name a.stack ∷ [])
          (left t.front (has-member x t.front (ends-has x t.front e))))
        where
          left : (us : List ℕ) → IsMember x us → IsMember x (us ++ last_name a.stack ∷ [])
          left [] k = absurd k
          left (u ∷ us) (inl is) = inl is
          left (u ∷ us) (inr k) = inr (left us k)

      by_other : ends_in x t.front ≡ true → (b : Item ℕ) → IsMember b h → ends_in x b.stack ≡ true → b.stack ≡ t.front
      by_other e b mb eb =
          sym (up_to-end x b.stack (history.stacks_ascend b mb) eb)
          ∙ history.agree b a x mb m (ends-has x b.stack eb) (stands e)
          ∙ ap (up_to x) t.is
          ∙ up_to-append x t.front (last_name a.stack ∷ []) (ends-has x t.front e)
          ∙ up_to-end x t.front up e

      by_part : ((t.front ≡ []) × (before_last (live h) a.stack ≡ live h))
          ⊎ (ends_in (before_last (live h) a.stack) t.front ≡ true)
          → path_in h (before_last (live h) a.stack) ≡ t.front
      by_part (inl none) = ap (path_in h) none.1 ∙ path_in-none h (live h) (λ b mb. unused (live h) (omega arith) b mb)
          ∙ sym none.0
      by_part (inr e) =
          let b = history.each_ends x (live-has h x a m (stands e)) in
          path_in-is b.0 x b.1 b.2 ∙ by_other e b.0 b.1 b.2

  pub paths : (parents : List ℕ) → AreParents parents h → IsPaths (path_in h) parents
  paths parents p = record {
    none = path_in-none h (length parents) (λ b mb. unused (length parents) (omega (arith, p.count)) b mb);
    grows = λ y low. grown y (history.each_ends y (subst (λ n. y < n) p.count low));
    older = λ y low. older y (history.each_ends y (subst (λ n. y < n) p.count low));
    low = λ y z low m. lower y z (history.each_ends y (subst (λ n. y < n) p.count low)) m;
  }
    where
      parent_is : (y : ℕ)
          → (a : Item ℕ)
          → IsMember a h
          → ends_in y a.stack ≡ true
          → parent_in parents y ≡ before_last (live h) a.stack
      parent_is y a m e = ap (λ n. get_or parents n 0) (sym (ends-last y a.stack e)) ∙ p.are a m

      grown : (y : ℕ)
          → (a : Item ℕ) × IsMember a h × (ends_in y a.stack ≡ true)
          → path_in h y ≡ path_in h (parent_in parents y) ++ y ∷ []
      grown y e =
          let t = two_of e.0 e.1 in
          path_in-is e.0 y e.1 e.2
          ∙ t.is
          ∙ ap (λ n. t.front ++ n ∷ []) (ends-last y e.0.stack e.2)
          ∙ ap (λ s. s ++ y ∷ []) (sym (front_path e.0 e.1 t) ∙ ap (path_in h) (sym (parent_is y e.0 e.1 e.2)))

      below_last : (a : Item ℕ)
          → IsMember a h
          → (t : LastTwo (live h) a.stack)
          → (z : ℕ)
          → IsMember z t.front
          → z < last_name a.stack
      below_last a m t z k = (front-ascends t.front (last_name a.stack)
          (subst IsAscending t.is (history.stacks_ascend a m))).1 z k

      older : (y : ℕ)
          → (a : Item ℕ) × IsMember a h × (ends_in y a.stack ≡ true)
          → (get_or parents y 0 < y) ⊎ (get_or parents y 0 ≡ length parents)
      older y e = by_part (two_of e.0 e.1) (two_of e.0 e.1).before
        where
          x : ℕ
          x = before_last (live h) e.0.stack

          by_part : (t : LastTwo (live h) e.0.stack)
              → ((t.front ≡ []) × (x ≡ live h)) ⊎ (ends_in x t.front ≡ true)
              → (get_or parents y 0 < y) ⊎ (get_or parents y 0 ≡ length parents)
          by_part t (inl none) = inr (parent_is y e.0 e.1 e.2 ∙ none.1 ∙ sym p.count)
          by_part t (inr f) =
              let low = below_last e.0 e.1 t x (has-member x t.front (ends-has x t.front f)) in
              inl (omega (arith, low, ends-last y e.0.stack e.2, parent_is y e.0 e.1 e.2))

      lower : (y z : ℕ) → (a : Item ℕ) × IsMember a h × (ends_in y a.stack ≡ true) → IsMember z (path_in h y) → z ≤ y
      lower y z e m =
          let t = two_of e.0 e.1 in
          let last = ends-last y e.0.stack e.2 in
          by_part t (member-append z t.front (last_name e.0.stack ∷ [])
          (subst (IsMember z) (path_in-is e.0 y e.1 e.2 ∙ t.is) m))
        where
          by_part : (t : LastTwo (live h) e.0.stack) → IsMember z t.front ⊎ ((z ≡ last_name e.0.stack) ⊎ ⊥) → z ≤ y
          by_part t (inl k) = let low = below_last e.0 e.1 t z k in omega (arith, ends-last y e.0.stack e.2)
          by_part t (inr (inl is)) = omega (arith, is, ends-last y e.0.stack e.2)
          by_part t (inr (inr none)) = absurd none

-- ---- the order

-- the path of y beats that of x
abbrev pub Worse : (ℕ → List ℕ) → ℕ → ℕ → Type 0
Worse path x y = beats (path y) (path x) ≡ true

-- the line stands by paths, worst first
pub line-worse : (path : ℕ → List ℕ) (parents : List ℕ)
    → IsPaths path parents
    → InOrder (Worse path) (line (parent_in parents) (length parents) (length parents))
line-worse path parents p =
    line-order (parent_in parents) (length parents) (Worse path) (length parents) (omega arith) p.older
    (λ y low. subst (λ s. beats s (path (parent_in parents y)) ≡ true) (sym (p.grows y low))
    (beats-extends (path (parent_in parents y)) y))
    (λ x y low m w. subst (λ s. beats s (path x) ≡ true) (sym (p.grows y low))
    (beats-longer (path (parent_in parents y)) (path x) (y ∷ []) w))
    (λ y z low m w. subst (λ s. beats (path z) s ≡ true) (sym (p.grows y low))
    (after y z (line-member (parent_in parents) (length parents) y z m) low w))
  where
    after : (y z : ℕ)
        → (z ≡ length parents) ⊎ (z < y)
        → y < length parents
        → beats (path z) (path (parent_in parents y)) ≡ true
        → beats (path z) (path (parent_in parents y) ++ y ∷ []) ≡ true
    after y z (inl e) low w =
        let wrong : beats [] (path (parent_in parents y)) ≡ true =
        subst (λ s. beats s (path (parent_in parents y)) ≡ true) (ap path e ∙ p.none) w in
        absurd (cc)
    after y z (inr less) low w = beats-younger (path z) (path (parent_in parents y)) y w
        (λ v k. let le = p.low z v (omega arith) k in omega arith)

-- places along the line tell which stacks beat which
pub tell_offers : (h : List (Item ℕ)) (parents places : List ℕ)
    → IsHistory h
    → AreParents parents h
    → ArePlaces places parents
    → TellOffers places h
tell_offers h parents places history p at = record { count = at.count ∙ p.count; tell = tell }
  where
    r : ℕ
    r = length parents

    names : List ℕ
    names = line (parent_in parents) (length parents) (length parents)

    all : IsPaths (path_in h) parents
    all = paths h history parents p

    long : length names ≡ length parents + 1
    long = names_line-length parents all.older

    ends : (a : Item ℕ) → IsMember a h → ends_in (last_name a.stack) a.stack ≡ true
    ends a m = last_name-ends a.stack (history.not_empty a m)

    path_is : (a : Item ℕ) → IsMember a h → path_in h (last_name a.stack) ≡ a.stack
    path_is a m = path_in-is h history a (last_name a.stack) m (ends a m)

    last_low : (a : Item ℕ) → IsMember a h → last_name a.stack < length parents
    last_low a m = let low = live-has h (last_name a.stack) a m (ends-has (last_name a.stack) a.stack (ends a m)) in
        omega (arith, p.count)

    place_of : (a : Item ℕ) → IsMember a h → Place (last_name a.stack) names
    place_of a m = member-place (last_name a.stack) names
        (member-line (parent_in parents) (length parents) (length parents) all.older (last_name a.stack) (last_low a m))

    -- a name stands behind the head
    behind : (a : Item ℕ) → IsMember a h → (k : Place (last_name a.stack) names) → 1 ≤ k.place
    behind a m k = by_place k.place (k.holds 0)
      where
        by_place : (j : ℕ) → get_or names j 0 ≡ last_name a.stack → 1 ≤ j
        by_place zero e = let low = last_low a m in let head =
            line-head (parent_in parents) (length parents) (length parents) in absurd (omega arith)
        by_place (suc j) e = omega arith

    -- the place of a name, by its entry in the line
    fallen : (a : Item ℕ)
        → IsMember a h
        → (k : Place (last_name a.stack) names)
        → get_or places (last_name a.stack) 0 ≡ length parents - k.place
    fallen a m k =
        let one = behind a m k in
        let low = k.below in
        let e : (k.place - 1) + 1 ≡ k.place = omega arith in
        let f : length parents - 1 - (k.place - 1) ≡ length parents - k.place = omega arith in
        ap (λ n. get_or places n 0) (sym (k.holds 0) ∙ ap (λ j. get_or names j 0) (sym e))
        ∙ at.fall (k.place - 1) (omega (arith, long)) ∙ f

    -- of two entries the later one beats the earlier one
    later_beats : (a b : Item ℕ)
        → IsMember a h
        → IsMember b h
        → (j : Place (last_name a.stack) names) (k : Place (last_name b.stack) names)
        → j.place < k.place
        → beats b.stack a.stack ≡ true
    later_beats a b ma mb j k less =
        let w : beats (path_in h (get_or names k.place 0)) (path_in h (get_or names j.place 0)) ≡ true =
        order-at (Worse (path_in h)) names j.place k.place (line-worse (path_in h) parents all) less k.below in
        subst (λ s. beats s a.stack ≡ true) (ap (path_in h) (k.holds 0) ∙ path_is b mb)
        (subst (λ s. beats (path_in h (get_or names k.place 0)) s ≡ true) (ap (path_in h) (j.holds 0) ∙ path_is a ma) w)

    compare : (a b : Item ℕ)
        → IsMember a h
        → IsMember b h
        → (j : Place (last_name a.stack) names) (k : Place (last_name b.stack) names)
        → (j.place < k.place) ⊎ (k.place ≤ j.place)
        → (j.place ≡ k.place) ⊎ (j.place ≡ k.place → ⊥)
        → beats a.stack b.stack ≡ ltb (get_or places (last_name a.stack) 0) (get_or places (last_name b.stack) 0)
    compare a b ma mb j k (inl less) eq =
        beats_asymmetric b.stack a.stack (later_beats a b ma mb j k less)
        ∙ sym (le-ltb (get_or places (last_name a.stack) 0) (get_or places (last_name b.stack) 0)
        (omega (arith, fallen a ma j, fallen b mb k)))
    compare a b ma mb j k (inr le) (inl eq) =
        let names_same : last_name a.stack ≡ last_name b.stack = sym (j.holds 0) ∙ ap (λ i. get_or names i 0) eq
        ∙ k.holds 0 in
        let same : a.stack ≡ b.stack = sym (path_is a ma) ∙ ap (path_in h) names_same ∙ path_is b mb in
        ap (λ s. beats s b.stack) same ∙ beats_irreflexive b.stack
        ∙ sym (le-ltb (get_or places (last_name a.stack) 0) (get_or places (last_name b.stack) 0)
        (omega (arith, fallen a ma j, fallen b mb k, eq)))
    compare a b ma mb j k (inr le) (inr ne) =
        later_beats b a mb ma k j (omega arith)
        ∙ sym (lt-ltb (get_or places (last_name a.stack) 0) (get_or places (last_name b.stack) 0)
        (let low = j.below in omega (arith, fallen a ma j, fallen b mb k, long)))

    tell : (a b : Item ℕ)
        → IsMember a h
        → IsMember b h
        → beats a.stack b.stack ≡ ltb (get_or places (last_name a.stack) 0) (get_or places (last_name b.stack) 0)
    tell a b ma mb =
        let j = place_of a ma in
        let k = place_of b mb in
        compare a b ma mb j k (cases_lt j.place k.place) (cases_eq j.place k.place)

-- ---- parents, as a program finds them

module _ (h : List (Item ℕ)) (history : IsHistory h) where
  at_member : (i : ℕ) → i < length h → IsMember (get_or h i (record { state = 0; stack = [] })) h
  at_member i low = place-member h i (record { state = 0; stack = [] }) low

  at_ends : (i : ℕ) → i < length h → ends_in (last_name (stack_at h i)) (stack_at h i) ≡ true
  at_ends i low = last_name-ends (stack_at h i)
      (history.not_empty (get_or h i (record { state = 0; stack = [] })) (at_member i low))

  pub last-low : (i : ℕ) → i < length h → last_name (stack_at h i) < live h
  last-low i low =
      live-has h (last_name (stack_at h i)) (get_or h i (record { state = 0; stack = [] })) (at_member i low)
      (ends-has (last_name (stack_at h i)) (stack_at h i) (at_ends i low))

  -- the parents with that of one more stack
  pub parents_next : (parents : List ℕ) (i : ℕ) → i < length h → length parents ≡ live h
      → ((j : ℕ) → j < i → get_or parents (last_name (stack_at h j)) 0 ≡ before_last (live h) (stack_at h j))
      → (j : ℕ) → j < i + 1 → get_or (set parents (last_name (stack_at h i)) (before_last (live h) (stack_at h i)))
      (last_name (stack_at h j)) 0 ≡ before_last (live h) (stack_at h j)
  parents_next parents i low long before j less =
      by_name (cases_eq (last_name (stack_at h j)) (last_name (stack_at h i)))
    where
      earlier : (last_name (stack_at h j) ≡ last_name (stack_at h i) → ⊥) → j < i
      earlier ne = by_place (cases_lt j i)
        where
          by_place : (j < i) ⊎ (i ≤ j) → j < i
          by_place (inl l) = l
          by_place (inr l) = let e : j ≡ i = omega arith in absurd (ne (ap (λ k. last_name (stack_at h k)) e))

      by_name : (last_name (stack_at h j) ≡ last_name (stack_at h i))
          ⊎ (last_name (stack_at h j) ≡ last_name (stack_at h i) → ⊥)
          → get_or (set parents (last_name (stack_at h i)) (before_last (live h) (stack_at h i)))
          (last_name (stack_at h j)) 0 ≡ before_last (live h) (stack_at h j)
      by_name (inl e) =
          let j_low : j < length h = omega arith in
          let same : stack_at h i ≡ stack_at h j =
          same_end h history (get_or h i (record { state = 0; stack = [] }))
          (get_or h j (record { state = 0; stack = [] })) (last_name (stack_at h i)) (at_member i low)
          (at_member j j_low) (at_ends i low) (subst (λ n. ends_in n (stack_at h j) ≡ true) e (at_ends j j_low)) in
          ap (λ n. get_or (set parents (last_name (stack_at h i)) (before_last (live h) (stack_at h i))) n 0) e
          ∙ get_or-set_same parents (last_name (stack_at h i)) (before_last (live h) (stack_at h i)) 0
          (let l = last-low i low in omega arith)
          ∙ ap (before_last (live h)) same
      by_name (inr ne) =
          get_or-set_other parents (last_name (stack_at h i)) (last_name (stack_at h j))
          (before_last (live h) (stack_at h i)) 0 ne ∙ before j (earlier ne)

-- parents that are known at each place are those of all items
pub parents_all : (h : List (Item ℕ)) (parents : List ℕ) (i : ℕ) → length h ≤ i → length parents ≡ live h
    → ((j : ℕ) → j < i → get_or parents (last_name (stack_at h j)) 0 ≡ before_last (live h) (stack_at h j))
    → AreParents parents h
parents_all h parents i all long known = record { count = long; are = λ a m. at a (member-place a h m) }
  where
    at : (a : Item ℕ) → Place a h → get_or parents (last_name a.stack) 0 ≡ before_last (live h) a.stack
    at a p =
        let is : stack_at h p.place ≡ a.stack =
        ap (λ (b : Item ℕ). b.stack) (p.holds (record { state = 0; stack = [] })) in
        let low = p.below in
        subst (λ s. get_or parents (last_name s) 0 ≡ before_last (live h) s) is (known p.place (omega arith))

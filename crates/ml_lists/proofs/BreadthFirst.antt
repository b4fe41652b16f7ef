-- A breadth-first list is determined by its start and the rows of its entries.
--
--   member-each_once, each_once-member == a list with each entry once has the same members
--   row_inside          == what an entry leads to is an entry
--   AreOnce, each_once-is == nothing stands in it twice
--   each_once-front     == that of a longer list begins with it
--   one_breadth_first   == two breadth-first lists whose entries are known by their numbers are one
use Rattle.std.proofs.Common.{ℕ, ◌≡◌, ◌+◌, ◌<◌, ◌==◌, ◌⊎◌, inl, inr, Bool, true, false, not, List, [], ◌∷◌, ◌++◌, length, get_or}
use Rattle.std.proofs.Common.{map, refl, sym, ap, ◌∙◌, subst, arith, append_assoc, append-nil, length-append}
use Rattle.std.specs.List.{flat_map, filter}
use Rattle.std.proofs.lemmas.Bool.{cases_eq, cases_Bool, cond-true, cond-false}
use Rattle.std.proofs.lemmas.Bool.Decides.{nat_tests, Decides-eqb}
use Rattle.std.proofs.lemmas.Grind.{flat_map-append}
use Rattle.std.proofs.lemmas.List.{append_cancel_left, get_or_append_left, get_or-append-add, length-map, map-append}
use Rattle.std.proofs.lemmas.List.Elements.{filter-append}
use Rattle.ml_lists.specs.BreadthFirst.{each_once, IsBreadthFirst}
use Rattle.ml_lists.specs.Member.{IsMember}
use Rattle.ml_lists.proofs.Member.{member-append_left, member-append_right, member-filter, member-filter_from, member-flat_map, place-member}

-- a list with each entry once has the same members
pub member-each_once : (v : ℕ) (xs : List ℕ) → IsMember v xs → IsMember v (each_once xs)
member-each_once v [] m = absurd m
member-each_once v (x ∷ xs) m = by_case (cases_eq v x) m (member-each_once v xs)
  where
    by_case : (v ≡ x) ⊎ (v ≡ x → ⊥)
        → (v ≡ x) ⊎ IsMember v xs
        → (IsMember v xs → IsMember v (each_once xs))
        → IsMember v (each_once (x ∷ xs))
    by_case (inl same) i later = inl same
    by_case (inr other) (inl same) later = absurd (other same)
    by_case (inr other) (inr i) later =
        let passes : not (v == x) ≡ true = grind (arith, nat_tests) in
        inr (member-filter (λ y. not (y == x)) v (each_once xs) (later i) passes)

pub each_once-member : (v : ℕ) (xs : List ℕ) → IsMember v (each_once xs) → IsMember v xs
each_once-member v [] m = absurd m
each_once-member v (x ∷ xs) (inl same) = inl same
each_once-member v (x ∷ xs) (inr m) =
    inr (each_once-member v xs (member-filter_from (λ y. not (y == x)) v (each_once xs) m).0)

-- what an entry leads to is an entry
pub row_inside : (start : ℕ) (rows : List (List ℕ)) (xs : List ℕ)
    → IsBreadthFirst start rows xs
    → (row : List ℕ)
    → IsMember row rows
    → (v : ℕ)
    → IsMember v row
    → IsMember v xs
row_inside start rows xs order row inside v m =
    subst (IsMember v) (sym order.in_order)
    (member-each_once v (start ∷ flat_map (λ r. r) rows) (inr (member-flat_map (λ r. r) row v rows inside m)))

-- nothing stands there twice
abbrev pub AreOnce : List ℕ → Type 0
AreOnce [] = Unit {0}
AreOnce (x ∷ xs) = (IsMember x xs → ⊥) × AreOnce xs

filter_once : (test : ℕ → Bool) (xs : List ℕ) → AreOnce xs → AreOnce (filter test xs)
filter_once test [] once = tt
filter_once test (x ∷ xs) once = by_test (cases_Bool (test x)) (filter_once test xs once.1)
  where
    by_test : (test x ≡ true) ⊎ (test x ≡ false) → AreOnce (filter test xs) → AreOnce (filter test (x ∷ xs))
    by_test (inl passes) rest =
        subst AreOnce (sym (cond-true (test x) (x ∷ filter test xs) (filter test xs) passes))
        ((λ m. once.0 (member-filter_from test x xs m).0), rest)
    by_test (inr fails) rest =
        subst AreOnce (sym (cond-false (test x) (x ∷ filter test xs) (filter test xs) fails)) rest

pub each_once-is : (xs : List ℕ) → AreOnce (each_once xs)
each_once-is [] = tt
each_once-is (x ∷ xs) = (apart, filter_once (λ y. not (y == x)) (each_once xs) (each_once-is xs))
  where
    apart : IsMember x (filter (λ y. not (y == x)) (each_once xs)) → ⊥
    apart m =
        let passes = (member-filter_from (λ y. not (y == x)) x (each_once xs) m).1 in
        let same : (x == x) ≡ true = (Decides-eqb x x).1 refl in
        let wrong : false ≡ true = ap not (sym same) ∙ passes in
        absurd (cc)

-- that of a longer list begins with it
pub each_once-front : (xs ys : List ℕ) → (rest : List ℕ) × (each_once (xs ++ ys) ≡ each_once xs ++ rest)
each_once-front [] ys = (each_once ys, refl)
each_once-front (x ∷ xs) ys =
    let test : ℕ → Bool = λ y. not (y == x) in
    let r = each_once-front xs ys in
    (filter test r.0, ap (λ zs. x ∷ filter test zs) r.1 ∙ ap (λ zs. x ∷ zs) (filter-append test (each_once xs) r.0))

-- what stands behind a front isn't in it
once_apart : (front : List ℕ) (x : ℕ) (back : List ℕ) → AreOnce (front ++ x ∷ back) → IsMember x front → ⊥
once_apart [] x back once m = absurd m
once_apart (y ∷ front) x back once (inl same) =
    once.0 (subst (λ z. IsMember z (front ++ x ∷ back)) same (member-append_right x front (x ∷ back) (inl refl)))
once_apart (y ∷ front) x back once (inr m) = once_apart front x back once.1 m

-- of two fronts of a list one begins with the other
data Fronts (xs ys : List ℕ) : Type 0 where
  shorter : (rest : List ℕ) → xs ≡ ys ++ rest → Fronts xs ys
  longer : (z : ℕ) (rest : List ℕ) → ys ≡ xs ++ z ∷ rest → Fronts xs ys

fronts : (xs back ys behind : List ℕ) → xs ++ back ≡ ys ++ behind → Fronts xs ys
fronts [] back [] behind e = shorter [] refl
fronts [] back (y ∷ ys) behind e = longer y ys refl
fronts (x ∷ xs) back [] behind e = shorter (x ∷ xs) refl
fronts (x ∷ xs) back (y ∷ ys) behind e =
    let head : x ≡ y = cc in
    let tail : xs ++ back ≡ ys ++ behind = cc in
    from head (fronts xs back ys behind tail)
  where
    from : x ≡ y → Fronts xs ys → Fronts (x ∷ xs) (y ∷ ys)
    from head (shorter rest is) = shorter rest (ap (λ z. z ∷ xs) head ∙ ap (λ zs. y ∷ zs) is)
    from head (longer z rest is) = longer z rest (ap (λ k. k ∷ ys) (sym head) ∙ ap (λ zs. x ∷ zs) is)

module _ {X : Type 0} (key : X → ℕ) (row : X → List ℕ) (start : ℕ) where
  abbrev pub Ordered : List X → Type 0
  Ordered xs = IsBreadthFirst start (map row xs) (map key xs)

  -- what these entries lead to, with the start
  abbrev found : List X → List ℕ
  found xs = each_once (start ∷ flat_map (λ r. r) (map row xs))

  -- an entry behind some front is found from it
  next_found : (front : List X) (x : X) (back : List X)
      → Ordered (front ++ x ∷ back)
      → 0 < length front
      → IsMember (key x) (found front)
  next_found front x back o some = from (o.from_earlier (length front) some within)
    where
      keys : map key (front ++ x ∷ back) ≡ map key front ++ key x ∷ map key back
      keys = map-append key front (x ∷ back)

      within : length front < length (map key (front ++ x ∷ back))
      within = omega (arith, length-map (front ++ x ∷ back) key, length-append front (x ∷ back))

      key_is : get_or (map key (front ++ x ∷ back)) (length front) 0 ≡ key x
      key_is =
          let at : length front ≡ length (map key front) + 0 = omega (arith, length-map front key) in
          ap (λ ks. get_or ks (length front) 0) keys
          ∙ ap (λ k. get_or (map key front ++ key x ∷ map key back) k 0) at
          ∙ get_or-append-add (map key front) (key x ∷ map key back) 0 0

      from : ((j : ℕ) × (j < length front) × IsMember (get_or (map key (front ++ x ∷ back)) (length front) 0)
          (get_or (map row (front ++ x ∷ back)) j []))
          → IsMember (key x) (found front)
      from (j, earlier, m) =
          let low : j < length (map row front) = omega (arith, length-map front row) in
          let row_is : get_or (map row (front ++ x ∷ back)) j [] ≡ get_or (map row front) j [] =
          ap (λ rs. get_or rs j []) (map-append row front (x ∷ back)) ∙ get_or_append_left (map row front)
          (map row (x ∷ back)) [] j low in
          let here =
          subst (IsMember (key x)) row_is (subst (λ k. IsMember k (get_or (map row (front ++ x ∷ back)) j []))
          key_is m) in
          member-each_once (key x) (start ∷ flat_map (λ r. r) (map row front))
          (inr (member-flat_map (λ r. r) (get_or (map row front) j []) (key x) (map row front)
          (place-member (map row front) j [] low) here))

  -- what a front leads to begins the list
  found_first : (front rest : List X)
      → Ordered (front ++ rest)
      → (more : List ℕ) × (map key (front ++ rest) ≡ found front ++ more)
  found_first front rest o =
      let whole = flat_map (λ (r : List ℕ). r) (map row front) in
      let r = each_once-front (start ∷ whole) (flat_map (λ r. r) (map row rest)) in
      let rows : flat_map (λ (r : List ℕ). r) (map row (front ++ rest)) ≡ whole ++ flat_map (λ r. r) (map row rest) =
      ap (flat_map (λ (r : List ℕ). r)) (map-append row front rest) ∙ flat_map-append (λ (r : List ℕ). r)
      (map row front) (map row rest) in
      (r.0, o.in_order ∙ ap (λ zs. each_once (start ∷ zs)) rows ∙ r.1)

  -- the next entry is what is found next
  next_is : (front : List X) (x : X) (back : List X)
      → Ordered (front ++ x ∷ back)
      → 0 < length front
      → (rest : List ℕ) × (found front ≡ map key front ++ key x ∷ rest)
  next_is front x back o some = from (found_first front (x ∷ back) o)
    where
      keys : map key (front ++ x ∷ back) ≡ map key front ++ key x ∷ map key back
      keys = map-append key front (x ∷ back)

      once : AreOnce (map key front ++ key x ∷ map key back)
      once =
          subst AreOnce (sym o.in_order ∙ keys) (each_once-is (start ∷ flat_map (λ r. r) (map row (front ++ x ∷ back))))

      by_front : (more : List ℕ)
          → map key front ++ key x ∷ map key back ≡ found front ++ more
          → Fronts (map key front) (found front)
          → (rest : List ℕ) × (found front ≡ map key front ++ key x ∷ rest)
      by_front more e (shorter rest is) =
          let inside =
          subst (IsMember (key x)) (sym is) (member-append_left (key x) (found front) rest
          (next_found front x back o some)) in
          absurd (once_apart (map key front) (key x) (map key back) once inside)
      by_front more e (longer z rest is) =
          let both : map key front ++ key x ∷ map key back ≡ map key front ++ (z ∷ rest ++ more) =
          e ∙ ap (λ zs. zs ++ more) is ∙ append_assoc (map key front) (z ∷ rest) more in
          let tails = append_cancel_left (map key front) (key x ∷ map key back) (z ∷ rest ++ more) both in
          let same : z ≡ key x = cc in
          (rest, is ∙ ap (λ k. map key front ++ k ∷ rest) same)

      from : ((more : List ℕ) × (map key (front ++ x ∷ back) ≡ found front ++ more))
          → (rest : List ℕ) × (found front ≡ map key front ++ key x ∷ rest)
      from (more, e) =
          let whole = sym keys ∙ e in
          by_front more whole (fronts (map key front) (key x ∷ map key back) (found front) more whole)

  -- where the list ends, nothing more is found
  nothing_behind : (front : List X) (y : X) (ys : List X)
      → Ordered (front ++ [])
      → Ordered (front ++ y ∷ ys)
      → 0 < length front
      → ⊥
  nothing_behind front y ys ended o some =
      let next = next_is front y ys o some in
      let whole = subst Ordered (append-nil front) ended in
      let sizes : length (map key front) ≡ length (map key front ++ key y ∷ next.0) =
      ap length (whole.in_order ∙ next.1) in
      omega (arith, length-append (map key front) (key y ∷ next.0))

  module _ (P : X → Type 0) (one : (x y : X) → P x → P y → key x ≡ key y → x ≡ y) where
    same_rest : (front xs ys : List X)
        → Ordered (front ++ xs)
        → Ordered (front ++ ys)
        → 0 < length front
        → ((x : X) → IsMember x xs → P x)
        → ((y : X) → IsMember y ys → P y)
        → xs ≡ ys
    same_rest front [] [] o p some all_x all_y = refl
    same_rest front [] (y ∷ ys) o p some all_x all_y = absurd (nothing_behind front y ys o p some)
    same_rest front (x ∷ xs) [] o p some all_x all_y = absurd (nothing_behind front x xs p o some)
    same_rest front (x ∷ xs) (y ∷ ys) o p some all_x all_y =
        let next_x = next_is front x xs o some in
        let next_y = next_is front y ys p some in
        let tails =
        append_cancel_left (map key front) (key x ∷ next_x.0) (key y ∷ next_y.0) (sym next_x.1 ∙ next_y.1) in
        let keys : key x ≡ key y = cc in
        let same : x ≡ y = one x y (all_x x (inl refl)) (all_y y (inl refl)) keys in
        let o_next = subst Ordered (sym (append_assoc front (x ∷ []) xs)) o in
        let p_next =
        subst Ordered (sym (append_assoc front (x ∷ []) ys)) (subst (λ z. Ordered (front ++ z ∷ ys)) (sym same)
        p) in
        let rest =
        same_rest (front ++ x ∷ []) xs ys o_next p_next (omega (arith, length-append front (x ∷ [])))
        (λ z m. all_x z (inr m)) (λ z m. all_y z (inr m)) in
        ap (λ z. z ∷ xs) same ∙ ap (λ zs. y ∷ zs) rest

    -- two breadth-first lists whose entries are known by their numbers are one
    pub one_breadth_first : (xs ys : List X)
        → Ordered xs
        → Ordered ys
        → ((x : X) → IsMember x xs → P x)
        → ((y : X) → IsMember y ys → P y)
        → xs ≡ ys
    one_breadth_first [] ys o p all_x all_y = let e = o.in_order in cc
    one_breadth_first (x ∷ xs) [] o p all_x all_y = let e = p.in_order in cc
    one_breadth_first (x ∷ xs) (y ∷ ys) o p all_x all_y =
        let first = o.in_order in
        let other = p.in_order in
        let x_is : key x ≡ start = cc in
        let y_is : key y ≡ start = cc in
        let same : x ≡ y = one x y (all_x x (inl refl)) (all_y y (inl refl)) (x_is ∙ sym y_is) in
        let rest =
        same_rest (x ∷ []) xs ys o (subst (λ z. Ordered (z ∷ ys)) (sym same) p) (omega arith)
        (λ z m. all_x z (inr m)) (λ z m. all_y z (inr m)) in
        ap (λ z. z ∷ xs) same ∙ ap (λ zs. y ∷ zs) rest

-- Histories have one numbering at most.
--
-- What a front of a numbering leads to begins the numbering. It has more than the front, as long as not all that is
-- reached stands there; so the next one is known.
--
--   Fronts xs ys    == xs begins with ys, or ys begins with xs and has more
--   Whole xs        == xs is what is met from it, and each is reached
--   next_is         == the next one is what is met next
--   one_whole       == two such lists are one
--   one_numbering   == the law
use Rattle.std.proofs.Common.{ℕ, ◌≡◌, ◌+◌, inl, inr, arith, Bool, List, [], ◌∷◌, ◌++◌, length, refl, sym, ap, ◌∙◌, subst, append_assoc, append-nil, length-append}
use Rattle.std.specs.Bool.{Decides}
use Rattle.std.specs.List.{flat_map}
use Rattle.std.proofs.lemmas.Grind.{flat_map-append}
use Rattle.std.proofs.lemmas.List.{append_cancel_left}
use Rattle.ml_lists.specs.Member.{IsMember}
use Rattle.ml_lists.proofs.BreadthFirstSearch.{met}
use Rattle.ml_lists.proofs.FirstEntries.{AreApart, firsts, firsts-apart, firsts-front, member-firsts}
use Rattle.ml_lists.proofs.Member.{member-append_left, member-append_right, member-flat_map, member-map}
use Rattle.ml_trace.specs.declared.letters.Transition.{Transition}
use Rattle.ml_trace.specs.Stack.{Item}
use Rattle.ml_history.specs.HistoryStep.{start}
use Rattle.ml_history.specs.HistoryOrder.{history_eq, history_eq-decides}
use Rattle.ml_history.specs.HistoryStep.{stepped}
use Rattle.ml_determinise.specs.Numbering.{IsReached, at_start, along, OneNumbering, successors}

data Fronts {X : Type 0} (xs ys : List X) : Type 0 where
  shorter : (rest : List X) → xs ≡ ys ++ rest → Fronts xs ys
  longer : (z : X) (rest : List X) → ys ≡ xs ++ z ∷ rest → Fronts xs ys

-- of two fronts of a list one begins with the other
fronts : {X : Type 0} (xs back ys behind : List X) → xs ++ back ≡ ys ++ behind → Fronts xs ys
fronts [] back [] behind e = shorter [] refl
fronts [] back (y ∷ ys) behind e = longer y ys refl
fronts (x ∷ xs) back [] behind e = shorter (x ∷ xs) refl
fronts {X = X} (x ∷ xs) back (y ∷ ys) behind e =
    let head : x ≡ y = cc in let tail : xs ++ back ≡ ys ++ behind = cc in from head (fronts xs back ys behind tail)
  where
    from : x ≡ y → Fronts xs ys → Fronts (x ∷ xs) (y ∷ ys)
    from head (shorter rest is) = shorter rest (ap (λ z. z ∷ xs) head ∙ ap (λ zs. y ∷ zs) is)
    from head (longer z rest is) = longer z rest (ap (λ k. k ∷ ys) (sym head) ∙ ap (λ zs. x ∷ zs) is)

-- what stands behind a front of different values isn't in it
behind_front : {X : Type 0} (front : List X) (p : X) (rest : List X)
    → AreApart (front ++ p ∷ rest)
    → IsMember p front
    → ⊥
behind_front [] p rest apart m = absurd m
behind_front {X = X} (y ∷ front) p rest apart (inl same) =
    apart.0 (subst (λ (z : X). IsMember z (front ++ p ∷ rest)) same (member-append_right p front (p ∷ rest) (inl refl)))
behind_front (y ∷ front) p rest apart (inr m) = behind_front front p rest apart.1 m

module _ {X : Type 0} (eq : X → X → Bool) (tells : (x y : X) → Decides (eq x y) (x ≡ y)) (next : X → List X) (first : X)
    (R : X → Type 0)
    (least : (zs : List X)
    → IsMember first zs
    → ((x y : X) → IsMember x zs → IsMember y (next x) → IsMember y zs)
    → (x : X)
    → R x
    → IsMember x zs) where
  abbrev met_from : List X → List X
  met_from front = met eq next first front

  pub record Whole (xs : List X) : Type 0 where
    pub in_order : xs ≡ met_from xs
    pub reached : (x : X) → IsMember x xs → R x

  -- where what is met from a front stands there, all that is reached does
  closed : (front : List X)
      → ((x : X) → IsMember x (met_from front) → IsMember x front)
      → (x : X)
      → R x
      → IsMember x front
  closed front inside =
      least front (inside first (member-firsts eq tells first (first ∷ flat_map next front) (inl refl)))
      (λ x y m i. inside y (member-firsts eq tells y (first ∷ flat_map next front)
      (inr (member-flat_map next x y front m i))))

  next_is : (front : List X) (p : X) (rest : List X)
      → Whole (front ++ p ∷ rest)
      → (more : List X) × (met_from front ≡ front ++ p ∷ more)
  next_is front p rest w = by_fronts (fronts front (p ∷ rest) (met_from front) begun.0 (w.in_order ∙ begins))
    where
      begun : (more : List X)
          × (firsts eq ((first ∷ flat_map next front) ++ flat_map next (p ∷ rest)) ≡ met_from front ++ more)
      begun = firsts-front eq (first ∷ flat_map next front) (flat_map next (p ∷ rest))

      begins : met_from (front ++ p ∷ rest) ≡ met_from front ++ begun.0
      begins = ap (λ zs. firsts eq (first ∷ zs)) (flat_map-append next front (p ∷ rest)) ∙ begun.1

      apart : AreApart (front ++ p ∷ rest)
      apart =
          subst AreApart (sym w.in_order) (firsts-apart eq tells (first ∷ flat_map next (front ++ p ∷ rest)))

      by_fronts : Fronts front (met_from front) → (more : List X) × (met_from front ≡ front ++ p ∷ more)
      by_fronts (shorter more is) =
          absurd (behind_front front p rest apart
          (closed front (λ x m. subst (IsMember x) (sym is) (member-append_left x (met_from front) more m)) p
          (w.reached p (member-append_right p front (p ∷ rest) (inl refl)))))
      by_fronts (longer z more is) =
          let both : front ++ p ∷ rest ≡ front ++ (z ∷ more ++ begun.0) =
          w.in_order ∙ begins ∙ ap (λ zs. zs ++ begun.0) is ∙ append_assoc front (z ∷ more) begun.0 in
          let tails = append_cancel_left front (p ∷ rest) (z ∷ more ++ begun.0) both in
          let same : z ≡ p = cc in
          (more, is ∙ ap (λ x. front ++ x ∷ more) same)

  -- where a list ends, nothing more is met
  none_behind : (front : List X) (y : X) (ys : List X) → Whole (front ++ []) → Whole (front ++ y ∷ ys) → ⊥
  none_behind front y ys ended w =
      let more = next_is front y ys w in
      let whole = subst Whole (append-nil front) ended in
      let long : length front ≡ length front + length (y ∷ more.0) =
      ap length (whole.in_order ∙ more.1) ∙ length-append front (y ∷ more.0) in
      omega arith

  pub one_whole : (front xs ys : List X) → Whole (front ++ xs) → Whole (front ++ ys) → xs ≡ ys
  one_whole front [] [] v w = refl
  one_whole front [] (y ∷ ys) v w = absurd (none_behind front y ys v w)
  one_whole front (x ∷ xs) [] v w = absurd (none_behind front x xs w v)
  one_whole front (x ∷ xs) (y ∷ ys) v w =
      let here = next_is front x xs v in
      let there = next_is front y ys w in
      let tails = append_cancel_left front (x ∷ here.0) (y ∷ there.0) (sym here.1 ∙ there.1) in
      let same : x ≡ y = cc in
      let v_next = subst Whole (sym (append_assoc front (x ∷ []) xs)) v in
      let w_next = subst Whole (sym (append_assoc front (x ∷ []) ys))
      (subst (λ z. Whole (front ++ z ∷ ys)) (sym same) w) in
      let rest = one_whole (front ++ x ∷ []) xs ys v_next w_next in
      λ i. same i ∷ rest i

-- a set with the start that what is behind its members belongs to has all that is reached
all_inside : (row : List (List Transition)) (q : ℕ) (zs : List (List (Item ℕ)))
    → IsMember (start q) zs
    → ((h k : List (Item ℕ)) → IsMember h zs → IsMember k (successors row h) → IsMember k zs)
    → (h : List (Item ℕ))
    → IsReached row q h
    → IsMember h zs
all_inside row q zs begins stays h at_start = begins
all_inside row q zs begins stays k (along h letter r m) =
    stays h k (all_inside row q zs begins stays h r) (member-map (stepped h) letter row m)

pub one_numbering : OneNumbering
one_numbering row q hs ks n m =
    one_whole history_eq history_eq-decides (successors row) (start q) (IsReached row q) (all_inside row q) [] hs ks
    (record { in_order = n.in_order; reached = n.are_reached })
    (record { in_order = m.in_order; reached = m.are_reached })

-- Cubes with one literal more.
--
--   members_inserted == what is put into a list stands there, with all that stood there
--   ascends_inserted == where its proposition has its place, the list ascends still
--   joined_new       == a literal of a new proposition joins a cube
--   joined_known     == so does one that it has
--   not_joined       == one of the other sign doesn't
--   fits_joined      == a cube with a literal more fits a letter where both do
--   some_joined      == where both do, there is such a cube
--   joined_or_not    == a literal joins a cube, or there is no such cube
use Rattle.std.proofs.Common.{ℕ, zero, suc, ◌≡◌, ◌≢◌, ◌<◌, ◌≤◌, ◌⊎◌, ◌↔◌, inl, inr, arith, Bool, true, false, not, List, [], ◌∷◌, ◌++◌, length, take, drop, get_or, refl, sym, ap, ◌∙◌, subst}
use Rattle.std.specs.Bool.{beq}
use Rattle.std.proofs.lemmas.Bool.{cases_eq, cases_lt}
use Rattle.std.proofs.lemmas.List.{get_or_default, take-append-drop}
use Rattle.ml_lists.specs.Ascending.{IsAscending}
use Rattle.ml_lists.specs.Member.{IsMember}
use Rattle.ml_lists.proofs.Deciding.{decided_truth}
use Rattle.ml_lists.proofs.Member.{member-append, member-append_left, member-append_right, member-map, member-map_from, place-member}
use Rattle.ml_labelled.specs.declared.labelled.Literal.{Literal}
use Rattle.ml_labelled.specs.Labelled.{Fits, IsTrueIn, Letter, has}
use Rattle.ml_translate.specs.Places.{IsJoined}
use Rattle.ml_translate.specs.private.Finding.{IsSplit, inserted, props_of}

-- ---- what is put into a list

pub members_inserted : (c : List Literal) (at : ℕ) (l m : Literal)
    → IsMember m (inserted c at l) ↔ (IsMember m c ⊎ (m ≡ l))
members_inserted c at l m = (there, back)
  where
    whole : take at c ++ drop at c ≡ c
    whole = take-append-drop at c

    parts : IsMember m (take at c) ⊎ IsMember m (l ∷ drop at c) → IsMember m c ⊎ (m ≡ l)
    parts (inl k) = inl (subst (IsMember m) whole (member-append_left m (take at c) (drop at c) k))
    parts (inr (inl same)) = inr same
    parts (inr (inr k)) = inl (subst (IsMember m) whole (member-append_right m (take at c) (drop at c) k))

    there : IsMember m (inserted c at l) → IsMember m c ⊎ (m ≡ l)
    there k = parts (member-append m (take at c) (l ∷ drop at c) k)

    old : IsMember m (take at c) ⊎ IsMember m (drop at c) → IsMember m (inserted c at l)
    old (inl k) = member-append_left m (take at c) (l ∷ drop at c) k
    old (inr k) = member-append_right m (take at c) (l ∷ drop at c) (inr k)

    back : IsMember m c ⊎ (m ≡ l) → IsMember m (inserted c at l)
    back (inl k) = old (member-append m (take at c) (drop at c) (subst (IsMember m) (sym whole) k))
    back (inr same) = member-append_right m (take at c) (l ∷ drop at c) (inl same)

-- all propositions of a list that ascends from x are above it
pub prop_above : (x : ℕ) (c : List Literal)
    → ((y : ℕ) → IsMember y (props_of c) → x < y)
    → (m : Literal) → IsMember m c → x < m.prop
prop_above x c above m k = above m.prop (member-map (λ (l : Literal). l.prop) m c k)

pub ascends_inserted : (c : List Literal) (at : ℕ) (l : Literal)
    → IsAscending (props_of c)
    → ((k : ℕ) (d : Literal) → k < at → k < length c → (get_or c k d).prop < l.prop)
    → ((d : Literal) → at < length c → l.prop < (get_or c at d).prop)
    → IsAscending (props_of (inserted c at l))
ascends_inserted [] zero l ascend low high = ((λ y m. absurd m), tt)
ascends_inserted [] (suc at) l ascend low high = ((λ y m. absurd m), tt)
ascends_inserted (x ∷ xs) zero l (above, ascend) low high =
    ((λ y m. by y m (high x (omega arith))), (above, ascend))
  where
    by : (y : ℕ) → IsMember y (props_of (x ∷ xs)) → l.prop < x.prop → l.prop < y
    by y (inl same) less = subst (λ z. l.prop < z) (sym same) less
    by y (inr m) less = let more = above y m in omega arith
ascends_inserted (x ∷ xs) (suc at) l (above, ascend) low high = (
  (λ y m. by y (member-map_from (λ (k : Literal). k.prop) y (inserted xs at l) m).from
      (member-map_from (λ (k : Literal). k.prop) y (inserted xs at l) m).member
      (member-map_from (λ (k : Literal). k.prop) y (inserted xs at l) m).holds (low zero x (omega arith) (omega arith))),
  ascends_inserted xs at l ascend (λ k d less within. low (suc k) d (omega arith) (omega arith))
      (λ d within. high d (omega arith)),
)
  where
    parts : (m : Literal) → IsMember m xs ⊎ (m ≡ l) → x.prop < l.prop → x.prop < m.prop
    parts m (inl k) less = prop_above x.prop xs above m k
    parts m (inr same) less = subst (λ (n : Literal). x.prop < n.prop) (sym same) less

    by : (y : ℕ) (m : Literal) → IsMember m (inserted xs at l) → y ≡ m.prop → x.prop < l.prop → x.prop < y
    by y m k is less = subst (λ z. x.prop < z) (sym is) (parts m ((members_inserted xs at l m).0 k) less)

-- ---- cubes of a program

-- in a cube a proposition has one sign
pub one_literal : (d : List Literal) (m n : Literal)
    → IsAscending (props_of d)
    → IsMember m d
    → IsMember n d
    → m.prop ≡ n.prop
    → m ≡ n
one_literal [] m n ascend i j same = absurd i
one_literal (x ∷ xs) m n (above, ascend) (inl i) (inl j) same = i ∙ sym j
one_literal (x ∷ xs) m n (above, ascend) (inl i) (inr j) same =
    let less = prop_above x.prop xs above n j in
    let e : m.prop ≡ x.prop = ap (λ (l : Literal). l.prop) i in absurd (omega arith)
one_literal (x ∷ xs) m n (above, ascend) (inr i) (inl j) same =
    let less = prop_above x.prop xs above m i in
    let e : n.prop ≡ x.prop = ap (λ (l : Literal). l.prop) j in absurd (omega arith)
one_literal (x ∷ xs) m n (above, ascend) (inr i) (inr j) same = one_literal xs m n ascend i j same

pub joined_new : (c : List Literal) (at : ℕ) (l : Literal)
    → IsAscending (props_of c)
    → IsSplit c l.prop at
    → ((d : Literal) → at < length c → (get_or c at d).prop ≢ l.prop)
    → IsJoined c l (inserted c at l)
joined_new c at l ascend s new = record {
  ascends =
      ascends_inserted c at l ascend (λ k d less within. s.below k d less)
      (λ d within.
      let behind = s.behind d within in
      let other : (get_or c at d).prop ≡ l.prop → ⊥ = new d within in omega arith);
  literals = λ m. members_inserted c at l m;
}

pub joined_known : (c : List Literal) (l : Literal) → IsAscending (props_of c) → IsMember l c → IsJoined c l c
joined_known c l ascend there = record {
  ascends = ascend;
  literals = λ m. ((λ k. inl k), (λ k. by m k));
}
  where
    by : (m : Literal) → IsMember m c ⊎ (m ≡ l) → IsMember m c
    by m (inl k) = k
    by m (inr same) = subst (λ (n : Literal). IsMember n c) (sym same) there

pub not_joined : (c d : List Literal) (l m : Literal)
    → IsMember m c
    → m.prop ≡ l.prop
    → m.positive ≢ l.positive
    → IsJoined c l d
    → ⊥
not_joined c d l m there same other j =
    other (ap (λ (n : Literal). n.positive)
    (one_literal d m l j.ascends ((j.literals m).1 (inl there)) ((j.literals l).1 (inr refl)) same))

-- ---- letters

pub fits_joined : (props : List (List ℕ)) (letter : Letter) (c d : List Literal) (l : Literal)
    → IsJoined c l d
    → Fits props letter c
    → IsTrueIn props letter l
    → Fits props letter d
fits_joined props letter c d l j fits is_true m k = by ((j.literals m).0 k)
  where
    by : IsMember m c ⊎ (m ≡ l) → IsTrueIn props letter m
    by (inl i) = fits m i
    by (inr same) = subst (IsTrueIn props letter) (sym same) is_true

-- how many literals have lower propositions
split_at : (c : List Literal) (p : ℕ) → IsAscending (props_of c) → (at : ℕ) × IsSplit c p at
split_at [] p ascend = (0, record { within = omega arith; below = λ k d less. absurd (omega arith); behind = λ d less. absurd (omega arith) })
split_at (x ∷ xs) p (above, ascend) = by (cases_lt x.prop p) (split_at xs p ascend)
  where
    by : (x.prop < p) ⊎ (p ≤ x.prop) → (at : ℕ) × IsSplit xs p at → (at : ℕ) × IsSplit (x ∷ xs) p at
    by (inl low) (at, s) = (
      suc at,
      record {
        within = let within = s.within in omega arith;
        below = below;
        behind = λ d less. s.behind d (omega arith);
      },
    )
      where
        below : (k : ℕ) (d : Literal) → k < suc at → (get_or (x ∷ xs) k d).prop < p
        below zero d less = low
        below (suc k) d less = s.below k d (omega arith)
    by (inr high) (at, s) =
        (0, record { within = omega arith; below = λ k d less. absurd (omega arith); behind = λ d less. high })

pub some_joined : (props : List (List ℕ)) (letter : Letter) (c : List Literal) (l : Literal)
    → IsAscending (props_of c)
    → Fits props letter c
    → IsTrueIn props letter l
    → (d : List Literal) × IsJoined c l d
some_joined props letter c l ascend fits is_true =
    let s = split_at c l.prop ascend in by s.0 s.1 (cases_lt s.0 (length c))
  where
    by : (at : ℕ) → IsSplit c l.prop at → (at < length c) ⊎ (length c ≤ at) → (d : List Literal) × IsJoined c l d
    by at s (inr past) = (inserted c at l, joined_new c at l ascend s (λ d within. absurd (omega arith)))
    by at s (inl low) = at_place (cases_eq (get_or c at l).prop l.prop)
      where
        there : IsMember (get_or c at l) c
        there = place-member c at l low

        same_literal : (get_or c at l).prop ≡ l.prop → get_or c at l ≡ l
        same_literal same =
            let m = get_or c at l in
            let sign : m.positive ≡ l.positive =
            sym (fits m there) ∙ ap (λ n. has letter (get_or props n [])) same ∙ is_true in
            λ i. record { prop = same i; positive = sign i }

        at_place : ((get_or c at l).prop ≡ l.prop) ⊎ ((get_or c at l).prop ≡ l.prop → ⊥) → (d : List Literal) × IsJoined c l d
        at_place (inl same) = (c, joined_known c l ascend (subst (λ (n : Literal). IsMember n c) (same_literal same) there))
        at_place (inr other) = (
          inserted c at l,
          joined_new c at l ascend s
              (λ d within. subst (λ (n : Literal). n.prop ≢ l.prop) (get_or_default c at l d low) other),
        )

-- ---- what a program reads

-- where the literal at a place has another proposition, so it is whatever the default
pub new_at : (c : List Literal) (at : ℕ) (l d : Literal)
    → at < length c
    → (get_or c at d).prop ≢ l.prop
    → (e : Literal) → at < length c → (get_or c at e).prop ≢ l.prop
new_at c at l d low other e within = subst (λ (n : Literal). n.prop ≢ l.prop) (get_or_default c at d e low) other

pub one_of_both : (l known : Literal) → known.prop ≡ l.prop → known.positive ≡ l.positive → known ≡ l
one_of_both l known same sign = λ i. record { prop = same i; positive = sign i }

pub other_sign : (x y : Bool) → not (beq x y) ≡ true → x ≢ y
other_sign true true e same = absurd (cc)
other_sign true false e same = absurd (cc)
other_sign false true e same = absurd (cc)
other_sign false false e same = absurd (cc)

pub same_sign : (x y : Bool) → not (beq x y) ≡ false → x ≡ y
same_sign true true e = refl
same_sign true false e = absurd (cc)
same_sign false true e = absurd (cc)
same_sign false false e = refl

-- ---- whether a literal joins

pub joined_or_not : (c : List Literal) (l : Literal)
    → IsAscending (props_of c)
    → ((d : List Literal) × IsJoined c l d) ⊎ ((d : List Literal) → ¬ (IsJoined c l d))
joined_or_not c l ascend = let s = split_at c l.prop ascend in by s.0 s.1 (cases_lt s.0 (length c))
  where
    by : (at : ℕ) → IsSplit c l.prop at → (at < length c) ⊎ (length c ≤ at)
        → ((d : List Literal) × IsJoined c l d) ⊎ ((d : List Literal) → ¬ (IsJoined c l d))
    by at s (inr past) = inl (inserted c at l, joined_new c at l ascend s (λ d within. absurd (omega arith)))
    by at s (inl low) = at_place (cases_eq (get_or c at l).prop l.prop) (decided_truth (get_or c at l).positive l.positive)
      where
        there : IsMember (get_or c at l) c
        there = place-member c at l low

        at_place : ((get_or c at l).prop ≡ l.prop) ⊎ ((get_or c at l).prop ≡ l.prop → ⊥)
            → ((get_or c at l).positive ≡ l.positive) ⊎ ¬ ((get_or c at l).positive ≡ l.positive)
            → ((d : List Literal) × IsJoined c l d) ⊎ ((d : List Literal) → ¬ (IsJoined c l d))
        at_place (inr other) sign = inl (inserted c at l, joined_new c at l ascend s (new_at c at l l low other))
        at_place (inl same) (inl sign) =
            inl (c, joined_known c l ascend (subst (λ (n : Literal). IsMember n c) (one_of_both l (get_or c at l) same sign) there))
        at_place (inl same) (inr other) = inr (λ d j. not_joined c d l (get_or c at l) there same other j)

-- Names among others, each once.
--
--   is_among ps p           == is p one of the names ps?
--   added_among, kept_among == a name that is added is among them, and one that was stays
--   distinct_with           == no name stands twice when one is added
--   place_found             == a name among others stands at its place
--   with_length             == there is one name more at most when one is added
--   names_append            == to add two lists of names is to add the one and then the other
--   kept_names, added_names, distinct_names, few_names == the same of a list of names that is added
use Rattle.std.proofs.Common.{◌≡◌, ℕ, ◌+◌, ◌<◌, ◌≤◌, Bool, true, false, ◌||◌, List, [], ◌∷◌, ◌++◌, length, get_or, Some, None, refl, sym}
use Rattle.std.proofs.Common.{◌∙◌, ap, subst, ⊎_elim, arith, cond, bytes_eq, unwrap_or, not, nat_lt, lt-ltb, length-append}
use Rattle.std.specs.Cmp.Lexicographic.{nat_list_eq_equiv}
use Rattle.std.specs.List.{AllByRecursion, IsDistinct, list_any, position, position_or_len}
use Rattle.std.proofs.lemmas.Bool.{cases_Bool, cond-true, cond-false, or_left, or_parts, or_right}
use Rattle.std.proofs.lemmas.List.Folds.{list_any-append}
use Rattle.std.proofs.lemmas.List.Quantifiers.{position-Some}
use Rattle.std.proofs.lemmas.Map.Keys.{IsDistinct-cons, IsDistinct-head, IsDistinct-tail}
use Rattle.std.proofs.lemmas.Slice.Eq.{bytes_eq-Decides}
use Rattle.ml_text.specs.NameLists.{with_name, with_names, place_of}

abbrev pub is_among : List (List ℕ) → List ℕ → Bool
is_among ps p = list_any (bytes_eq p) ps

pub same_name : (p : List ℕ) → bytes_eq p p ≡ true
same_name p = (bytes_eq-Decides p p).1 refl

among_more : (ps : List (List ℕ)) (p q : List ℕ) → is_among ps p ≡ true → is_among (ps ++ q ∷ []) p ≡ true
among_more ps p q is = list_any-append (bytes_eq p) ps (q ∷ []) ∙ or_left (is_among ps p) (is_among (q ∷ []) p) is

pub kept_among : (ps : List (List ℕ)) (p q : List ℕ) → is_among ps p ≡ true → is_among (with_name ps q) p ≡ true
kept_among ps p q is =
    ⊎_elim
    (λ (there : is_among ps q ≡ true). ap (λ l. is_among l p) (cond-true (is_among ps q) ps (ps ++ q ∷ []) there) ∙ is)
    (λ (fresh : is_among ps q ≡ false).
    ap (λ l. is_among l p) (cond-false (is_among ps q) ps (ps ++ q ∷ []) fresh) ∙ among_more ps p q is)
    (cases_Bool (is_among ps q))

pub added_among : (ps : List (List ℕ)) (p : List ℕ) → is_among (with_name ps p) p ≡ true
added_among ps p =
    ⊎_elim
    (λ (there : is_among ps p ≡ true).
    ap (λ l. is_among l p) (cond-true (is_among ps p) ps (ps ++ p ∷ []) there) ∙ there)
    (λ (fresh : is_among ps p ≡ false).
    ap (λ l. is_among l p) (cond-false (is_among ps p) ps (ps ++ p ∷ []) fresh)
    ∙ list_any-append (bytes_eq p) ps (p ∷ [])
    ∙ or_right (is_among ps p) (is_among (p ∷ []) p) (or_left (bytes_eq p p) false (same_name p)))
    (cases_Bool (is_among ps p))

-- ---- no name twice

all_more : (q p : List ℕ) (ps : List (List ℕ))
    → AllByRecursion (λ y. bytes_eq q y ≡ false) ps
    → bytes_eq q p ≡ false
    → AllByRecursion (λ y. bytes_eq q y ≡ false) (ps ++ p ∷ [])
all_more q p [] all other = (other, tt)
all_more q p (r ∷ ps) all other = (all.0, all_more q p ps all.1 other)

distinct_more : (ps : List (List ℕ)) (p : List ℕ)
    → IsDistinct bytes_eq ps
    → is_among ps p ≡ false
    → IsDistinct bytes_eq (ps ++ p ∷ [])
distinct_more [] p distinct fresh = IsDistinct-cons bytes_eq p [] tt distinct
distinct_more (q ∷ ps) p distinct fresh =
    let parts = or_parts (bytes_eq p q) (is_among ps p) fresh in
    let other : bytes_eq q p ≡ false = nat_list_eq_equiv.symm q p ∙ parts.0 in
    IsDistinct-cons bytes_eq q (ps ++ p ∷ []) (all_more q p ps (IsDistinct-head bytes_eq q ps distinct) other)
    (distinct_more ps p (IsDistinct-tail bytes_eq q ps distinct) parts.1)

pub distinct_with : (ps : List (List ℕ)) (p : List ℕ) → IsDistinct bytes_eq ps → IsDistinct bytes_eq (with_name ps p)
distinct_with ps p distinct =
    ⊎_elim
    (λ (there : is_among ps p ≡ true).
    subst (IsDistinct bytes_eq) (sym (cond-true (is_among ps p) ps (ps ++ p ∷ []) there)) distinct)
    (λ (fresh : is_among ps p ≡ false).
    subst (IsDistinct bytes_eq) (sym (cond-false (is_among ps p) ps (ps ++ p ∷ []) fresh))
    (distinct_more ps p distinct fresh))
    (cases_Bool (is_among ps p))

-- ---- places

pub record Found (ps : List (List ℕ)) (p : List ℕ) : Type 0 where
  pub below : place_of ps p < length ps
  pub named : get_or ps (place_of ps p) [] ≡ p

first_below : (p : List ℕ) (ps : List (List ℕ)) → is_among ps p ≡ true → position_or_len (bytes_eq p) ps < length ps
first_below p [] is = absurd (cc)
first_below p (q ∷ ps) is =
    ⊎_elim
    (λ (here : bytes_eq p q ≡ true).
    let first = ap (λ b. cond (not b) (1 + position_or_len (bytes_eq p) ps) 0) here in omega (arith, first))
    (λ (other : bytes_eq p q ≡ false).
    let later = first_below p ps (sym (ap (λ b. b || is_among ps p) other) ∙ is) in
    let next = ap (λ b. cond (not b) (1 + position_or_len (bytes_eq p) ps) 0) other in
    omega (arith, later, next))
    (cases_Bool (bytes_eq p q))

some_place : (ps : List (List ℕ)) (p : List ℕ) → is_among ps p ≡ true → (i : ℕ) × (position (bytes_eq p) ps ≡ Some i)
some_place ps p is =
    let at = position_or_len (bytes_eq p) ps in
    (at, cond-true (nat_lt at (length ps)) (Some at) None (lt-ltb at (length ps) (first_below p ps is)))

pub place_found : (ps : List (List ℕ)) (p : List ℕ) → is_among ps p ≡ true → Found ps p
place_found ps p is =
    let at = some_place ps p is in
    let here = position-Some (bytes_eq p) ps at.0 [] at.1 in
    let place : place_of ps p ≡ at.0 = ap (λ o. unwrap_or o 0) at.1 in
    record {
      below = subst (λ n. n < length ps) (sym place) here.0;
      named = ap (λ n. get_or ps n []) place ∙ sym ((bytes_eq-Decides p (get_or ps at.0 [])).0 here.1);
    }

-- ---- how many

pub with_length : (ps : List (List ℕ)) (p : List ℕ) → length (with_name ps p) ≤ length ps + 1
with_length ps p =
    ⊎_elim
    (λ (there : is_among ps p ≡ true).
    let same = ap length (cond-true (is_among ps p) ps (ps ++ p ∷ []) there) in omega (arith, same))
    (λ (fresh : is_among ps p ≡ false).
    let more = ap length (cond-false (is_among ps p) ps (ps ++ p ∷ []) fresh) in
    omega (arith, more, length-append ps (p ∷ [])))
    (cases_Bool (is_among ps p))

-- ---- lists that are added

-- to add two lists is to add the one and then the other
pub names_append : (ps qs rs : List (List ℕ)) → with_names ps (qs ++ rs) ≡ with_names (with_names ps qs) rs
names_append ps [] rs = refl
names_append ps (q ∷ qs) rs = names_append (with_name ps q) qs rs

pub kept_names : (ps qs : List (List ℕ)) (p : List ℕ) → is_among ps p ≡ true → is_among (with_names ps qs) p ≡ true
kept_names ps [] p is = is
kept_names ps (q ∷ qs) p is = kept_names (with_name ps q) qs p (kept_among ps p q is)

pub distinct_names : (ps qs : List (List ℕ)) → IsDistinct bytes_eq ps → IsDistinct bytes_eq (with_names ps qs)
distinct_names ps [] distinct = distinct
distinct_names ps (q ∷ qs) distinct = distinct_names (with_name ps q) qs (distinct_with ps q distinct)

pub few_names : (ps qs : List (List ℕ)) → length (with_names ps qs) ≤ length ps + length qs
few_names ps [] = omega arith
few_names ps (q ∷ qs) = omega (arith, with_length ps q, few_names (with_name ps q) qs)

-- a name that is added is among them
pub added_names : (ps qs : List (List ℕ)) → AllByRecursion (λ q. is_among (with_names ps qs) q ≡ true) qs
added_names ps [] = tt
added_names ps (q ∷ qs) =
    (kept_names (with_name ps q) qs q (added_among ps q), added_names (with_name ps q) qs)

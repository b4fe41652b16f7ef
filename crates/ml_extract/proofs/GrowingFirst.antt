-- Breadth-first lists as they grow. It would belong to `ml_lists`.
--
--   pushed            == of a list with an entry more each entry once: the entry stays away if it was there
--   added             == so it is with a row more
--   begun_none        == with no row it is the start alone
--   begun_more        == with the row of the next entry more
--   begun_done        == when each entry has its row, it is the breadth-first list
--   few_below         == numbers below n of which none stands twice are at most n
use Rattle.std.proofs.Common.{ℕ, zero, suc, ◌≡◌, ◌+◌, ◌-◌, ◌<◌, ◌≤◌, ◌==◌, ◌⊎◌, inl, inr, Bool, true, false, not, ◌||◌}
use Rattle.std.proofs.Common.{List, [], ◌∷◌, ◌++◌, length, get_or, nat_eq, take, refl, sym, ap, ◌∙◌, subst, arith, append_assoc, append-nil, length-append}
use Rattle.std.specs.List.{flat_map, filter, list_any}
use Rattle.std.proofs.lemmas.Bool.{cases_eq, cases_lt, cases_Bool, cond-true, cond-false, eq-eqb}
use Rattle.std.proofs.lemmas.Bool.Decides.{nat_tests}
use Rattle.std.proofs.lemmas.Grind.{flat_map-append, fold-append}
use Rattle.std.proofs.lemmas.List.{get_or_append_left, get_or-append-add, get_or_past, take_more}
use Rattle.std.proofs.lemmas.List.Elements.{filter-append}
use Rattle.ml_lists.specs.BreadthFirst.{each_once, IsBreadthFirst}
use Rattle.ml_lists.specs.Member.{IsMember}
use Rattle.ml_lists.proofs.BreadthFirst.{member-each_once, AreOnce, each_once-is, each_once-member}
use Rattle.ml_lists.proofs.Member.{member-list_any, place-member}
use Rattle.ml_lists.proofs.Pigeons.{pigeons_list}
use Rattle.indexmap.specs.IndexSet.{insert_key, insert_all}
use Rattle.ml_extract.specs.private.Begun.{seen, IsBegun}

-- ---- one entry more

other_false : (v y : ℕ) → (v ≡ y → ⊥) → nat_eq v y ≡ false
other_false v y n = grind (arith, nat_tests)

-- a number that a list has, or hasn't
pub known : (v : ℕ) (ks : List ℕ) → IsMember v ks → list_any (nat_eq v) ks ≡ true
known v ks m = member-list_any (nat_eq v) v ks m (eq-eqb v v refl)

pub unknown : (v : ℕ) (ks : List ℕ) → (IsMember v ks → ⊥) → list_any (nat_eq v) ks ≡ false
unknown v [] none = refl
unknown v (k ∷ ks) none =
    let here : nat_eq v k ≡ false = other_false v k (λ e. none (inl e)) in
    let later = unknown v ks (λ m. none (inr m)) in
    ap (λ b. b || list_any (nat_eq v) ks) here ∙ later

is_member : (v : ℕ) (ks : List ℕ) → IsMember v ks ⊎ (IsMember v ks → ⊥)
is_member v [] = inr (λ m. m)
is_member v (k ∷ ks) = by_case (cases_eq v k) (is_member v ks)
  where
    by_case : (v ≡ k) ⊎ (v ≡ k → ⊥) → IsMember v ks ⊎ (IsMember v ks → ⊥)
        → IsMember v (k ∷ ks) ⊎ (IsMember v (k ∷ ks) → ⊥)
    by_case (inl same) later = inl (inl same)
    by_case (inr other) (inl m) = inl (inr m)
    by_case (inr other) (inr none) = inr not_there
      where
        not_there : IsMember v (k ∷ ks) → ⊥
        not_there (inl same) = other same
        not_there (inr m) = none m

-- each entry once, of a list with an entry more
once_more_new : (xs : List ℕ) (v : ℕ) → (IsMember v xs → ⊥) → each_once (xs ++ v ∷ []) ≡ each_once xs ++ v ∷ []
once_more_new [] v none = refl
once_more_new (x ∷ xs) v none =
    let test : ℕ → Bool = λ y. not (y == x) in
    let passes : not (v == x) ≡ true = ap not (other_false v x (λ e. none (inl e))) in
    let one : filter test (v ∷ []) ≡ v ∷ [] = cond-true (test v) (v ∷ []) [] passes in
    ap (λ ys. x ∷ filter test ys) (once_more_new xs v (λ m. none (inr m)))
    ∙ ap (λ ys. x ∷ ys) (filter-append test (each_once xs) (v ∷ []) ∙ ap (λ ys. filter test (each_once xs) ++ ys) one)

once_more_known : (xs : List ℕ) (v : ℕ) → IsMember v xs → each_once (xs ++ v ∷ []) ≡ each_once xs
once_more_known [] v m = absurd m
once_more_known (x ∷ xs) v m = by_case (is_member v xs) m (once_more_known xs v)
  where
    by_case : IsMember v xs ⊎ (IsMember v xs → ⊥)
        → (v ≡ x) ⊎ IsMember v xs
        → (IsMember v xs → each_once (xs ++ v ∷ []) ≡ each_once xs)
        → each_once (x ∷ xs ++ v ∷ []) ≡ each_once (x ∷ xs)
    by_case (inl i) h again = ap (λ ys. x ∷ filter (λ y. not (y == x)) ys) (again i)
    by_case (inr none) (inr i) again = absurd (none i)
    by_case (inr none) (inl same) again =
        let test : ℕ → Bool = λ y. not (y == x) in
        let fails : not (v == x) ≡ false = ap not (eq-eqb v x same) in
        let one : filter test (v ∷ []) ≡ [] = cond-false (test v) (v ∷ []) [] fails in
        ap (λ ys. x ∷ filter test ys) (once_more_new xs v none)
        ∙ ap (λ ys. x ∷ ys)
        (filter-append test (each_once xs) (v ∷ []) ∙ ap (λ ys. filter test (each_once xs) ++ ys) one
        ∙ append-nil (filter test (each_once xs)))

-- of a list with an entry more: the entry goes last, unless it was there
pub pushed : (xs : List ℕ) (v : ℕ) → each_once (xs ++ v ∷ []) ≡ insert_key nat_eq (each_once xs) v
pushed xs v = by_case (is_member v xs)
  where
    by_case : IsMember v xs ⊎ (IsMember v xs → ⊥) → each_once (xs ++ v ∷ []) ≡ insert_key nat_eq (each_once xs) v
    by_case (inl m) =
        once_more_known xs v m
        ∙ sym (cond-true (list_any (nat_eq v) (each_once xs)) (each_once xs) (each_once xs ++ v ∷ [])
        (known v (each_once xs) (member-each_once v xs m)))
    by_case (inr none) =
        once_more_new xs v none
        ∙ sym (cond-false (list_any (nat_eq v) (each_once xs)) (each_once xs) (each_once xs ++ v ∷ [])
        (unknown v (each_once xs) (λ m. none (each_once-member v xs m))))

-- so it is with a row more
pub added : (xs row : List ℕ) → each_once (xs ++ row) ≡ insert_all nat_eq (each_once xs) row
added xs [] = ap each_once (append-nil xs)
added xs (v ∷ row) =
    ap each_once (sym (append_assoc xs (v ∷ []) row))
    ∙ added (xs ++ v ∷ []) row
    ∙ ap (λ ks. insert_all nat_eq ks row) (pushed xs v)

-- and so with one number of a row more
pub added_next : (ks row : List ℕ) (i x : ℕ)
    → i < length row
    → x ≡ get_or row i x
    → insert_all nat_eq ks (take (i + 1) row) ≡ insert_key nat_eq (insert_all nat_eq ks (take i row)) x
added_next ks row i x low is =
    ap (insert_all nat_eq ks) (take_more row i x low)
    ∙ fold-append (insert_key nat_eq) ks (take i row) (get_or row i x ∷ [])
    ∙ ap (insert_key nat_eq (insert_all nat_eq ks (take i row))) (sym is)

-- ---- a row more

pub begun_none : (start : ℕ) → IsBegun start [] (start ∷ [])
begun_none start =
    record { few = omega arith; in_order = refl; from_earlier = λ k behind low. absurd (omega arith) }

seen_more : (start : ℕ) (rows : List (List ℕ)) (row : List ℕ) → seen start (rows ++ row ∷ []) ≡ seen start rows ++ row
seen_more start rows row =
    ap (λ ys. start ∷ ys)
    (flat_map-append (λ (r : List ℕ). r) rows (row ∷ [])
    ∙ ap (λ ys. flat_map (λ (r : List ℕ). r) rows ++ ys) (append-nil row))

-- what was put behind a list: numbers of the row
pub record Behind (xs row : List ℕ) : Type 0 where
  pub new : List ℕ
  pub is : insert_all nat_eq xs row ≡ xs ++ new
  pub of_row : (v : ℕ) → IsMember v new → IsMember v row

pub behind : (xs row : List ℕ) → Behind xs row
behind xs [] = record { new = []; is = sym (append-nil xs); of_row = λ v m. m }
behind xs (v ∷ row) = by_test (cases_Bool (list_any (nat_eq v) xs)) (behind xs row) (behind (xs ++ v ∷ []) row)
  where
    by_test : (list_any (nat_eq v) xs ≡ true) ⊎ (list_any (nat_eq v) xs ≡ false)
        → Behind xs row
        → Behind (xs ++ v ∷ []) row
        → Behind xs (v ∷ row)
    by_test (inl there) same more = record {
      new = same.new;
      is = ap (λ ks. insert_all nat_eq ks row) (cond-true (list_any (nat_eq v) xs) xs (xs ++ v ∷ []) there) ∙ same.is;
      of_row = λ w m. inr (same.of_row w m);
    }
    by_test (inr away) same more = record {
      new = v ∷ more.new;
      is =
          ap (λ ks. insert_all nat_eq ks row) (cond-false (list_any (nat_eq v) xs) xs (xs ++ v ∷ []) away)
          ∙ more.is ∙ append_assoc xs (v ∷ []) more.new;
      of_row = of_row;
    }
      where
        of_row : (w : ℕ) → IsMember w (v ∷ more.new) → IsMember w (v ∷ row)
        of_row w (inl same_one) = inl same_one
        of_row w (inr m) = inr (more.of_row w m)

-- the entry stands in the row of an earlier one
abbrev FromEarlier : List (List ℕ) → List ℕ → ℕ → Type 0
FromEarlier rows xs k = (j : ℕ) × (j < k) × IsMember (get_or xs k 0) (get_or rows j [])

pub begun_more : (start : ℕ) (rows : List (List ℕ)) (row xs ys : List ℕ)
    → IsBegun start rows xs
    → length rows < length xs
    → ys ≡ insert_all nat_eq xs row
    → IsBegun start (rows ++ row ∷ []) ys
begun_more start rows row xs ys old room is = record {
  few = omega (arith, long, sizes, length-append rows (row ∷ []));
  in_order =
      is ∙ ap (λ ks. insert_all nat_eq ks row) old.in_order ∙ sym (added (seen start rows) row)
      ∙ ap each_once (sym (seen_more start rows row));
  from_earlier = λ k some low. from_earlier k some low (cases_lt k (length xs));
}
  where
    b : Behind xs row
    b = behind xs row

    whole : ys ≡ xs ++ b.new
    whole = is ∙ b.is

    sizes : length ys ≡ length xs + length b.new
    sizes = ap length whole ∙ length-append xs b.new

    long : length xs ≤ length ys
    long = omega (arith, sizes)

    by_row : (k j : ℕ) → j < k → k < length xs → IsMember (get_or xs k 0) (get_or rows j [])
        → (j < length rows) ⊎ (length rows ≤ j)
        → FromEarlier (rows ++ row ∷ []) ys k
    by_row k j less low m (inr past) =
        absurd (subst (IsMember (get_or xs k 0)) (get_or_past rows j [] past) m)
    by_row k j less low m (inl inside) =
        let entry : get_or xs k 0 ≡ get_or ys k 0 =
        sym (ap (λ zs. get_or zs k 0) whole ∙ get_or_append_left xs b.new 0 k low) in
        let there : get_or rows j [] ≡ get_or (rows ++ row ∷ []) j [] =
        sym (get_or_append_left rows (row ∷ []) [] j inside) in (
          j,
          less,
          subst (λ v. IsMember v (get_or (rows ++ row ∷ []) j [])) entry (subst (IsMember
              (get_or xs k 0)) there m),
        )

    from_earlier : (k : ℕ) → 0 < k → k < length ys → (k < length xs) ⊎ (length xs ≤ k)
        → FromEarlier (rows ++ row ∷ []) ys k
    from_earlier k some low (inl inside) =
        let old_one = old.from_earlier k some inside in
        by_row k old_one.0 old_one.1 inside old_one.2 (cases_lt old_one.0 (length rows))
    from_earlier k some low (inr far) =
        let d : ℕ = k - length xs in
        let k_is : k ≡ length xs + d = omega arith in
        let d_low : d < length b.new = omega (arith, sizes) in
        let entry : get_or ys k 0 ≡ get_or b.new d 0 =
        ap (λ zs. get_or zs k 0) whole ∙ ap (λ i. get_or (xs ++ b.new) i 0) k_is ∙ get_or-append-add xs b.new d 0 in
        let row_at : length rows ≡ length rows + 0 = omega arith in
        let there : get_or (rows ++ row ∷ []) (length rows) [] ≡ row =
        ap (λ i. get_or (rows ++ row ∷ []) i []) row_at ∙ get_or-append-add rows (row ∷ []) 0 [] in
        let m = b.of_row (get_or b.new d 0) (place-member b.new d 0 d_low) in (
          length rows,
          omega arith,
          subst (λ v. IsMember v (get_or (rows ++ row ∷ []) (length rows) [])) (sym entry)
              (subst (IsMember (get_or b.new d 0)) (sym there) m),
        )

-- when each entry has its row, it is the breadth-first list
pub begun_done : (start : ℕ) (rows : List (List ℕ)) (xs : List ℕ)
    → IsBegun start rows xs
    → length rows ≡ length xs
    → IsBreadthFirst start rows xs
begun_done start rows xs b all = record { a_row_each = all; in_order = b.in_order; from_earlier = b.from_earlier }

-- ---- how long it gets

pub once_differ : (xs : List ℕ) → AreOnce xs → (i j : ℕ) → i < j → j < length xs → get_or xs i 0 ≡ get_or xs j 0 → ⊥
once_differ [] once i j less low same = omega arith
once_differ (x ∷ xs) once i zero less low same = omega arith
once_differ (x ∷ xs) once zero (suc j) less low same =
    once.0 (subst (λ v. IsMember v xs) (sym same) (place-member xs j 0 (omega arith)))
once_differ (x ∷ xs) once (suc i) (suc j) less low same = once_differ xs once.1 i j (omega arith) (omega arith) same

-- numbers below n of which none stands twice are at most n
pub few_below : (n : ℕ) (xs : List ℕ) → AreOnce xs → ((v : ℕ) → IsMember v xs → v < n) → length xs ≤ n
few_below n xs once low = by_case (cases_lt n (length xs))
  where
    by_case : (n < length xs) ⊎ (length xs ≤ n) → length xs ≤ n
    by_case (inl many) =
        let t = pigeons_list n xs many (λ k inside. low (get_or xs k 0) (place-member xs k 0 inside)) in
        absurd (once_differ xs once t.first t.second t.apart t.within (t.same 0))
    by_case (inr few) = few

-- so it is of a list that grows
pub begun_few : (n start : ℕ) (rows : List (List ℕ)) (xs : List ℕ)
    → IsBegun start rows xs
    → ((v : ℕ) → IsMember v xs → v < n)
    → length xs ≤ n
begun_few n start rows xs b low =
    few_below n xs (subst AreOnce (sym b.in_order) (each_once-is (seen start rows))) low

-- Names that get their numbers part by part, each part from its end on.
--
--   part_none, part_more == no name has its number yet, and one more has it
--   part_stop            == where a name is its own number, all before it in its part have theirs
--   part_joins           == a part behind those that have their numbers
--   part_whole           == all names have their numbers
--   laid_parts           == the stacks of arrays are such parts
--   stays_counted        == where the number of a name is how many pass below it, and it is its own, so are the older ones
use Rattle.std.proofs.Common.{ℕ, ◌≡◌, ◌+◌, ◌-◌, ◌<◌, ◌≤◌, ◌⊎◌, inl, inr, arith, Bool, true, false, List, [], ◌∷◌, length, get_or, drop, map, refl, sym, subst, ap, ◌∙◌}
use Rattle.std.proofs.Math.ListN.{set, length-set}
use Rattle.std.proofs.lemmas.Bool.{cases_Bool, cases_eq, cases_lt}
use Rattle.std.proofs.lemmas.Grind.{same_number_lists}
use Rattle.std.proofs.lemmas.List.{length-drop, length-map, length-take-le, get_or_default, get_or-drop, get_or-map, get_or-set_same, get_or-set_other, get_or-take}
use Rattle.ml_lists.specs.Ascending.{IsAscending}
use Rattle.ml_lists.specs.Counting.{count}
use Rattle.ml_lists.proofs.Ascending.{ascending-apart}
use Rattle.ml_lists.proofs.Member.{place-member}
use Rattle.ml_lists.proofs.Ranks.{count_all, count_lost}
use Rattle.ml_trace.specs.Stack.{Item}
use Rattle.ml_history.specs.HistoryOrder.{names_of}
use Rattle.ml_history.specs.private.Arrays.{starts_from, part, AreLaidOut, AreParts, StaysBelow, IsNumberedPart}
use Rattle.ml_history.specs.private.Keys.{item_at}
use Rattle.ml_history.specs.private.Ways.{AreWays}
use Rattle.ml_history.proofs.arrays.StackLayout.{StackAt, laid-stack, laid-starts_length}

-- ---- one part

-- no name has its number yet
pub part_none : (number : ℕ → ℕ) (start end : ℕ) (names : List ℕ)
    → end ≤ start
    → IsNumberedPart number start end names names
part_none number start end names none = record {
  count = refl;
  inside = λ k low high. absurd (omega arith);
  before = λ k low. refl;
  behind = λ k high. refl;
}

-- one more has it
pub part_more : (number : ℕ → ℕ) (i end : ℕ) (old names : List ℕ) (v : ℕ)
    → i < end
    → end ≤ length old
    → v ≡ number (get_or names i 0)
    → IsNumberedPart number (i + 1) end old names
    → IsNumberedPart number i end old (set names i v)
part_more number i end old names v low fits is p = record {
  count = length-set names i v ∙ p.count;
  inside = λ k from to. by_place k from to (cases_eq k i);
  before = λ k less. other k (inl less) ∙ p.before k (omega arith);
  behind = λ k high. other k (inr (omega arith)) ∙ p.behind k high;
}
  where
    other : (k : ℕ) → (k < i) ⊎ (i < k) → get_or (set names i v) k 0 ≡ get_or names k 0
    other k (inl less) = get_or-set_other names i k v 0 (λ e. omega (arith, less, e))
    other k (inr more) = get_or-set_other names i k v 0 (λ e. omega (arith, more, e))

    by_place : (k : ℕ) → i ≤ k → k < end → (k ≡ i) ⊎ (k ≡ i → ⊥) → get_or (set names i v) k 0 ≡ number (get_or old k 0)
    by_place k from to (inl e) =
        ap (λ j. get_or (set names i v) j 0) e
        ∙ get_or-set_same names i v 0 (omega (arith, low, fits, p.count))
        ∙ is ∙ ap number (p.before i (omega arith)) ∙ ap (λ j. number (get_or old j 0)) (sym e)
    by_place k from to (inr ne) = later (cases_lt i k)
      where
        later : (i < k) ⊎ (k ≤ i) → get_or (set names i v) k 0 ≡ number (get_or old k 0)
        later (inl more) = other k (inr more) ∙ p.inside k (omega arith) to
        later (inr less) = absurd (ne (omega arith))

-- where a name is its own number, all before it in its part have theirs
pub part_stop : (number : ℕ → ℕ) (start i end n : ℕ) (old names : List ℕ)
    → start ≤ i
    → i < end
    → ((j k : ℕ) → start ≤ j → j < k → k < end → get_or old j 0 < get_or old k 0)
    → StaysBelow number n
    → get_or old i 0 < n
    → number (get_or names i 0) ≡ get_or names i 0
    → IsNumberedPart number (i + 1) end old names
    → IsNumberedPart number start end old names
part_stop number start i end n old names from to ascend stays low own p = record {
  count = p.count;
  inside = λ k after high. by_place k after high (cases_lt i k);
  before = λ k less. p.before k (omega arith);
  behind = p.behind;
}
  where
    same : get_or names i 0 ≡ get_or old i 0
    same = p.before i (omega arith)

    itself : number (get_or old i 0) ≡ get_or old i 0
    itself = ap number (sym same) ∙ own ∙ same

    in_front : (k : ℕ) → start ≤ k → (k < i) ⊎ (i ≤ k) → k ≤ i → number (get_or old k 0) ≡ get_or old k 0
    in_front k after (inl less) le = stays (get_or old k 0) (get_or old i 0) (ascend k i after less to) low itself
    in_front k after (inr ge) le = let e : i ≡ k = omega arith in
        subst (λ j. number (get_or old j 0) ≡ get_or old j 0) e itself

    by_place : (k : ℕ) → start ≤ k → k < end → (i < k) ⊎ (k ≤ i) → get_or names k 0 ≡ number (get_or old k 0)
    by_place k after high (inl more) = p.inside k (omega arith) high
    by_place k after high (inr le) = p.before k (omega arith) ∙ sym (in_front k after (cases_lt k i) le)

-- ---- all parts

-- a part behind those that have their numbers
pub part_joins : (number : ℕ → ℕ) (a b : ℕ) (old names names' : List ℕ)
    → a ≤ b
    → IsNumberedPart number 0 a old names
    → IsNumberedPart number a b names names'
    → IsNumberedPart number 0 b old names'
part_joins number a b old names names' le p q = record {
  count = q.count ∙ p.count;
  inside = λ k from to. by_place k to (cases_lt k a);
  before = λ k none. absurd (omega arith);
  behind = λ k high. q.behind k high ∙ p.behind k (omega arith);
}
  where
    by_place : (k : ℕ) → k < b → (k < a) ⊎ (a ≤ k) → get_or names' k 0 ≡ number (get_or old k 0)
    by_place k to (inl less) = q.before k less ∙ p.inside k (omega arith) less
    by_place k to (inr ge) = q.inside k ge to ∙ ap number (p.behind k ge)

-- all names have their numbers
pub part_whole : (number : ℕ → ℕ) (a : ℕ) (old names : List ℕ)
    → length old ≤ a
    → IsNumberedPart number 0 a old names
    → names ≡ map number old
part_whole number a old names all p =
    same_number_lists names (map number old) (p.count ∙ sym (length-map old number))
    (λ k low. let inside : k < length old = omega (arith, low, p.count) in
    p.inside k (omega arith) (omega arith) ∙ sym (get_or-map number old k 0 0 inside))

-- ---- the stacks of arrays are such parts

pub laid_parts : (states starts names : List ℕ) (h : List (Item ℕ))
    → AreLaidOut states starts names h
    → AreWays h
    → AreParts starts names
laid_parts states starts names h l ways = record {
  first = subst (λ b. get_or b 0 (length names) ≡ 0) (sym l.starts_are)
      (subst (λ ns. get_or (starts_from 0 h) 0 (length ns) ≡ 0) (sym l.names_are) (first h));
  rise = λ i low. let at = at_place i low in let e = start_is i low in omega (arith, at.up, e);
  fit = λ i low. (at_place i low).fits;
  ascend = λ i j k low from less to. ascends i j k low from less to;
}
  where
    first : (g : List (Item ℕ)) → get_or (starts_from 0 g) 0 (length (names_of g)) ≡ 0
    first [] = refl
    first (a ∷ as') = refl

    inside : (i : ℕ) → i < length starts → i < length h
    inside i low = omega (arith, low, laid-starts_length states starts names h l)

    at_place : (i : ℕ) → i < length starts → StackAt starts names h i
    at_place i low = laid-stack states starts names h i l (inside i low)

    start_is : (i : ℕ) → i < length starts → get_or starts i (length names) ≡ get_or starts i 0
    start_is i low = get_or_default starts i (length names) 0 low

    part-at : (a b j : ℕ) → a ≤ j → j < b → get_or (part names a b) (j - a) 0 ≡ get_or names j 0
    part-at a b j from to =
        let e : a + (j - a) ≡ j = omega arith in
        get_or-take (b - a) (drop a names) (j - a) 0 (omega arith) ∙ get_or-drop a names (j - a) 0
        ∙ ap (λ k. get_or names k 0) e

    part-length : (a b : ℕ) → a ≤ b → b ≤ length names → length (part names a b) ≡ b - a
    part-length a b le fits = length-take-le (b - a) (drop a names) (omega (arith, length-drop a names, le, fits))

    ascends : (i j k : ℕ)
        → i < length starts
        → get_or starts i (length names) ≤ j
        → j < k
        → k < get_or starts (i + 1) (length names)
        → get_or names j 0 < get_or names k 0
    ascends i j k low from less to =
        let at = at_place i low in
        let a = get_or starts i 0 in
        let b = get_or starts (i + 1) (length names) in
        let start : a ≤ j = omega (arith, from, start_is i low) in
        let up : IsAscending (part names a b) = subst IsAscending (sym at.stack_is) (ways.ascend (item_at h i)
        (place-member h i (record { state = 0; stack = [] }) (inside i low))) in
        let apart = ascending-apart (part names a b) (j - a) (k - a) 0 up (omega arith)
        (omega (arith, part-length a b at.up at.fits, start, less, to)) in
        let ej = part-at a b j start (omega arith) in
        let ek = part-at a b k (omega arith) to in
        omega (arith, apart, ej, ek)

-- where the number of a name is how many pass below it, and it is its own number, so are the older ones
pub stays_counted : (test : ℕ → Bool) (number : ℕ → ℕ) (n : ℕ)
    → ((y : ℕ) → y < n → number y ≡ count test y)
    → StaysBelow number n
stays_counted test number n counted y z low high own =
    counted y (omega arith) ∙ count_all test y (λ k below. passes k below (cases_Bool (test k)))
  where
    passes : (k : ℕ) → k < y → (test k ≡ true) ⊎ (test k ≡ false) → test k ≡ true
    passes k below (inl t) = t
    passes k below (inr f) = absurd (omega (arith, count_lost test k z (omega arith) f, counted z high, own))

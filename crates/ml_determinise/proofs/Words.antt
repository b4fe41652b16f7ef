-- Words that are put together, and runs along them.
--
--   map-repeated        == a list several times over, entry by entry
--   repeated-repeated   == several times over, several times over
--   repeated-some       == a list with an entry, once over or more, has one
--   run-mapped, accepting-mapped == a run along the letters with these numbers is one along these numbers
--   run-times           == a run back to its state, any number of times over
--   accepting-times     == an accepting one, once over or more
--   lowest_is           == what `lowest` gives is the lowest number
--   one_lowest          == a list has one lowest number
use Rattle.std.proofs.Common.{◌≡◌, ◌≢◌, ◌⊎◌, inl, inr, ℕ, zero, suc, ◌+◌, ◌*◌, ◌<◌, ◌≤◌, min, Bool, List, [], ◌∷◌, ◌++◌, map, ⊎_elim, refl, sym, ap, ◌∙◌, subst, arith}
use Rattle.std.proofs.lemmas.Bool.{cases_lt}
use Rattle.std.proofs.lemmas.List.{map-append}
use Rattle.ml_lists.specs.Lowest.{lowest}
use Rattle.ml_lists.specs.Member.{IsMember}
use Rattle.ml_lists.specs.Repeated.{repeated}
use Rattle.ml_lists.proofs.Member.{All-member, member-All}
use Rattle.ml_lists.proofs.Repeated.{repeated-add}
use Rattle.ml_trace.specs.Run.{Run, AcceptingRun}
use Rattle.ml_trace.specs.WordAutomata.{IsLowest}
use Rattle.ml_trace.proofs.Runs.{run-append, accepting-append, accepting-is_run}

-- ---- lists

pub map-repeated : {X Y : Type 0} → (f : X → Y) (k : ℕ) (xs : List X) → map f (repeated k xs) ≡ repeated k (map f xs)
map-repeated f zero xs = refl
map-repeated f (suc k) xs = map-append f xs (repeated k xs) ∙ ap (λ ys. map f xs ++ ys) (map-repeated f k xs)

pub repeated-repeated : {X : Type 0} → (j k : ℕ) (xs : List X) → repeated j (repeated k xs) ≡ repeated (j * k) xs
repeated-repeated zero k xs = let none : 0 ≡ 0 * k = omega arith in ap (λ n. repeated n xs) none
repeated-repeated (suc j) k xs =
    let count : k + j * k ≡ suc j * k = omega arith in
    ap (λ ys. repeated k xs ++ ys) (repeated-repeated j k xs) ∙ repeated-add k (j * k) xs ∙ ap (λ n. repeated n xs) count

pub repeated-some : {X : Type 0} → (k : ℕ) (xs : List X) → 1 ≤ k → xs ≢ [] → repeated k xs ≢ []
repeated-some zero xs once some = absurd (omega (arith, once))
repeated-some (suc k) [] once some = absurd (some refl)
repeated-some (suc k) (x ∷ xs) once some = λ e. absurd (cc)

-- ---- runs

module _ {S L M : Type 0} (leads : M → S → S → Bool → Type 0) (f : L → M) where
  pub run-mapped : (u : List L) (p q : S) → Run leads (map f u) p q → Run (λ l. leads (f l)) u p q
  run-mapped [] p q run = run
  run-mapped (l ∷ u) p q run = (run.0, run.1, run.2, run-mapped u run.0 q run.3)

  pub accepting-mapped : (u : List L) (p q : S) → AcceptingRun leads (map f u) p q → AcceptingRun (λ l. leads (f l)) u p q
  accepting-mapped [] p q run = run
  accepting-mapped (l ∷ u) p q (inl here) = inl (here.0, here.1, run-mapped u here.0 q here.2)
  accepting-mapped (l ∷ u) p q (inr later) = inr (later.0, later.1, later.2, accepting-mapped u later.0 q later.3)

  pub mapped-run : (u : List L) (p q : S) → Run (λ l. leads (f l)) u p q → Run leads (map f u) p q
  mapped-run [] p q run = run
  mapped-run (l ∷ u) p q run = (run.0, run.1, run.2, mapped-run u run.0 q run.3)

  pub mapped-accepting : (u : List L) (p q : S) → AcceptingRun (λ l. leads (f l)) u p q → AcceptingRun leads (map f u) p q
  mapped-accepting [] p q run = run
  mapped-accepting (l ∷ u) p q (inl here) = inl (here.0, here.1, mapped-run u here.0 q here.2)
  mapped-accepting (l ∷ u) p q (inr later) = inr (later.0, later.1, later.2, mapped-accepting u later.0 q later.3)

module _ {S L : Type 0} (leads : L → S → S → Bool → Type 0) where
  pub run-times : (k : ℕ) (u : List L) (p : S) → Run leads u p p → Run leads (repeated k u) p p
  run-times zero u p run = refl
  run-times (suc k) u p run = run-append leads u (repeated k u) p p p run (run-times k u p run)

  pub accepting-times : (k : ℕ) (u : List L) (p : S) → 1 ≤ k → AcceptingRun leads u p p
      → AcceptingRun leads (repeated k u) p p
  accepting-times zero u p once run = absurd (omega (arith, once))
  accepting-times (suc k) u p once run =
      accepting-append leads u (repeated k u) p p p run (run-times k u p (accepting-is_run leads u p p run))

-- ---- lowest numbers

min_is : (a b : ℕ) → (min a b ≡ a) ⊎ (min a b ≡ b)
min_is a b = ⊎_elim (λ (less : a < b). inl (omega (arith, less))) (λ (more : b ≤ a). inr (omega (arith, more))) (cases_lt a b)

lowest_member : (x : ℕ) (xs : List ℕ) → IsMember (lowest x xs) (x ∷ xs)
lowest_member x [] = inl refl
lowest_member x (y ∷ ys) = by_order (min_is x (lowest y ys)) (lowest_member y ys)
  where
    by_order : (min x (lowest y ys) ≡ x) ⊎ (min x (lowest y ys) ≡ lowest y ys)
        → IsMember (lowest y ys) (y ∷ ys)
        → IsMember (lowest x (y ∷ ys)) (x ∷ y ∷ ys)
    by_order (inl same) rest = inl same
    by_order (inr same) rest = inr (subst (λ n. IsMember n (y ∷ ys)) (sym same) rest)

lowest_low : (x : ℕ) (xs : List ℕ) (z : ℕ) → IsMember z (x ∷ xs) → lowest x xs ≤ z
lowest_low x [] z (inl same) = omega (arith, same)
lowest_low x [] z (inr none) = absurd none
lowest_low x (y ∷ ys) z (inl same) = omega (arith, same)
lowest_low x (y ∷ ys) z (inr later) = omega (arith, lowest_low y ys z later)

pub lowest_is : (x : ℕ) (xs : List ℕ) → IsLowest (lowest x xs) (x ∷ xs)
lowest_is x xs = record {
  is_one = lowest_member x xs;
  is_low = member-All (λ z. lowest x xs ≤ z) (x ∷ xs) (lowest_low x xs);
}

pub one_lowest : (m n : ℕ) (xs : List ℕ) → IsLowest m xs → IsLowest n xs → m ≡ n
one_lowest m n xs a b =
    let below = All-member (λ z. m ≤ z) xs a.is_low n b.is_one in
    let above = All-member (λ z. n ≤ z) xs b.is_low m a.is_one in
    omega (arith, below, above)

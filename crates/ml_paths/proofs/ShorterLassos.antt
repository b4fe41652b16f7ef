-- Lassos that are made shorter, and those that can't be.
--
--   loop_cut          == with the least period of the loop in place of the loop, a lasso stands for the same sequence
--   rolled_alike      == so it does where the loop begins one place earlier, if the entry before it is its last one
--   rolled_none, rolled_read == a lasso is rolled back by no place, or by one more
--   short_lasso       == a loop with no shorter period, which begins as early as it can, makes the shortest lasso
--   shortened         == so what is cut and then rolled back is the shortest
use Rattle.std.proofs.Common.{ℕ, zero, suc, ◌≡◌, ◌+◌, ◌-◌, ◌*◌, ◌/◌, ◌%◌, ◌<◌, ◌≤◌, ◌⊎◌, inl, inr, arith, refl, List, length, get_or, take, drop, subst, sym, ap, ◌∙◌, length-drop}
use Rattle.std.proofs.Math.Nat.{div-add-mod', dvd_of_mod-eq-zero, mod-eq-zero_of_dvd, dvd_trans, le_of_dvd}
use Rattle.std.proofs.lemmas.Bool.{cases_lt}
use Rattle.std.proofs.lemmas.List.{get_or-drop, get_or-take, get_or_default, length-take-le, take_all}
use Rattle.ml_lists.specs.Lasso.{Lasso, entry, unrolled}
use Rattle.ml_lists.proofs.Lasso.{loop_length}
use Rattle.ml_paths.specs.Shortest.{UnrollAlike, IsShortest}
use Rattle.ml_paths.specs.private.Shortening.{BeginsEarly, HasLeastPeriod, IsLeastPeriod, IsLoopCut, IsPeriodFrom, IsRolled, IsRolledBack, IsShortened, Repeats}
use Rattle.ml_paths.proofs.EndlessSequences.{unrolled_front, unrolled_is, unrolled_period}
use Rattle.ml_paths.proofs.Periods.{Common, common_period, period_sooner, period_times}

-- ---- the loop

module _ (l : Lasso) (starts : l.start < length l.entries) (d : ℕ) (least : IsLeastPeriod (drop l.start l.entries) d) where
  abbrev pub cut : Lasso
  cut = record { entries = take (l.start + d) l.entries; start = l.start }

  loop_long : length (drop l.start l.entries) ≡ loop_length l
  loop_long = length-drop l.start l.entries

  whole : loop_length l / d * d ≡ loop_length l
  whole =
      let divided = div-add-mod' (loop_length l) d in
      let none : loop_length l % d ≡ 0 = ap (λ n. n % d) (sym loop_long) ∙ least.divides in
      omega (arith, divided, none)

  fits : l.start + d ≤ length l.entries
  fits = by_size (cases_lt (loop_length l) d)
    where
      by_size : (loop_length l < d) ⊎ (d ≤ loop_length l) → l.start + d ≤ length l.entries
      by_size (inl less) = absurd (let long = loop_long in let le = small in omega (arith, le, long, less))
        where
          small : d ≤ length (drop l.start l.entries)
          small =
              le_of_dvd (omega (arith, loop_long, starts))
              (dvd_of_mod-eq-zero d {n = length (drop l.start l.entries)} least.divides)
      by_size (inr le) = omega (arith, le, starts)

  cut_long : length (cut).entries ≡ l.start + d
  cut_long = length-take-le (l.start + d) l.entries fits

  cut_starts : l.start < length (cut).entries
  cut_starts = let some = least.some in let long = cut_long in omega (arith, some, long)

  cut_loop : loop_length cut ≡ d
  cut_loop = let long = cut_long in omega (arith, long)

  -- d entries later on the loop the same one stands
  later_same : (k : ℕ) → l.start ≤ k → k + d < length l.entries → entry l (k + d) ≡ entry l k
  later_same k late low =
      let there : l.start + ((k - l.start) + d) ≡ k + d = omega (arith, late) in
      let here : l.start + (k - l.start) ≡ k = omega (arith, late) in
      let long = loop_long in
      ap (entry l) (sym there)
      ∙ sym (get_or-drop l.start l.entries ((k - l.start) + d) 0)
      ∙ least.repeats (k - l.start) (omega (arith, late, low, long))
      ∙ get_or-drop l.start l.entries (k - l.start) 0
      ∙ ap (entry l) here

  cut_period : IsPeriodFrom (unrolled cut) l.start d
  cut_period = subst (IsPeriodFrom (unrolled cut) l.start) cut_loop (unrolled_period cut cut_starts)

  -- the sequence of the lasso that is cut begins with the entries of the other
  cut_front : (n k : ℕ) → k < n → k < length l.entries → unrolled cut k ≡ entry l k
  cut_front zero k before low = absurd (omega (arith, before))
  cut_front (suc n) k before low = by_place (cases_lt k (l.start + d)) (cut_front n)
    where
      by_place : (k < l.start + d) ⊎ (l.start + d ≤ k)
          → ((k : ℕ) → k < n → k < length l.entries → unrolled cut k ≡ entry l k)
          → unrolled cut k ≡ entry l k
      by_place (inl inside) rest =
          let long = cut_long in
          unrolled_front cut cut_starts k (omega (arith, inside, long))
          ∙ get_or-take (l.start + d) l.entries k 0 inside
      by_place (inr behind) rest =
          let some = least.some in
          let back : (k - d) + d ≡ k = omega (arith, behind) in
          ap (unrolled cut) (sym back)
          ∙ cut_period (k - d) (omega (arith, behind))
          ∙ rest (k - d) (omega (arith, behind, before, some)) (omega (arith, low))
          ∙ sym (later_same (k - d) (omega (arith, behind)) (omega (arith, low, back)))
          ∙ ap (entry l) back

  cut_alike : UnrollAlike cut l
  cut_alike =
      unrolled_is l starts (unrolled cut) (λ k low. cut_front (suc k) k (omega arith) low)
      (subst (IsPeriodFrom (unrolled cut) l.start) whole
      (period_times (unrolled cut) l.start d cut_period (loop_length l / d)))

  cut_least : HasLeastPeriod cut
  cut_least e some divides period =
      let e_d : d % e ≡ 0 = ap (λ n. n % e) (sym cut_loop) ∙ divides in
      let all : length (drop l.start l.entries) % e ≡ 0 =
      mod-eq-zero_of_dvd e
      (dvd_trans e (dvd_of_mod-eq-zero e e_d)
      (dvd_of_mod-eq-zero d {n = length (drop l.start l.entries)} least.divides))
      in
      subst (λ n. n ≤ e) (sym cut_loop) (least.least e some all repeats)
    where
      is_entry : (k : ℕ) → l.start + k < length l.entries → get_or (drop l.start l.entries) k 0 ≡ unrolled cut (l.start + k)
      is_entry k low =
          get_or-drop l.start l.entries k 0 ∙ sym (unrolled_front l starts (l.start + k) low) ∙ sym (cut_alike (l.start + k))

      repeats : Repeats (drop l.start l.entries) e
      repeats k low =
          let long = loop_long in
          let far : l.start + (k + e) ≡ (l.start + k) + e = omega arith in
          is_entry (k + e) (omega (arith, low, long))
          ∙ ap (unrolled cut) far
          ∙ period (l.start + k) (omega arith)
          ∙ sym (is_entry k (omega (arith, low, long)))

  pub loop_cut : IsLoopCut cut l
  loop_cut = record { starts = cut_starts; alike = cut_alike; least = cut_least }

-- so it is where the loop is read as the last entries
pub cut_read : (xs tail ys : List ℕ) (s d : ℕ) → s < length xs → tail ≡ take (length xs - s) (drop s xs)
    → IsLeastPeriod tail d
    → ys ≡ take (s + d) xs
    → IsLoopCut (record { entries = ys; start = s }) (record { entries = xs; start = s })
cut_read xs tail ys s d starts read least taken =
    subst (λ zs. IsLoopCut (record { entries = zs; start = s }) (record { entries = xs; start = s })) (sym taken)
    (loop_cut (record { entries = xs; start = s }) starts d
    (subst (λ zs. IsLeastPeriod zs d)
    (read ∙ take_all (length xs - s) (drop s xs) (let long = length-drop s xs in omega (arith, long))) least))

-- ---- the start

module _ (l : Lasso) (t : ℕ) (before : suc t ≡ l.start) (starts : l.start < length l.entries)
    (same : entry l t ≡ entry l (length l.entries - 1)) where
  abbrev pub rolled : Lasso
  rolled = record { entries = take (length l.entries - 1) l.entries; start = t }

  rolled_long : length (rolled).entries ≡ length l.entries - 1
  rolled_long = length-take-le (length l.entries - 1) l.entries (omega arith)

  pub rolled_starts : t < length (rolled).entries
  rolled_starts = let long = rolled_long in omega (arith, long, before, starts)

  pub rolled_loop : loop_length rolled ≡ loop_length l
  rolled_loop = let long = rolled_long in omega (arith, long, before, starts)

  period : IsPeriodFrom (unrolled l) t (loop_length l)
  period k late = by_place (cases_lt t k)
    where
      by_place : (t < k) ⊎ (k ≤ t) → unrolled l (k + loop_length l) ≡ unrolled l k
      by_place (inl behind) = unrolled_period l starts k (omega (arith, behind, before))
      by_place (inr le) =
          let here : k ≡ t = omega (arith, le, late) in
          let last : k + loop_length l ≡ length l.entries - 1 = omega (arith, here, before, starts) in
          ap (unrolled l) last
          ∙ unrolled_front l starts (length l.entries - 1) (omega (arith, starts))
          ∙ sym same
          ∙ sym (unrolled_front l starts t (omega (arith, before, starts)))
          ∙ ap (unrolled l) (sym here)

  front : (k : ℕ) → k < length (rolled).entries → unrolled l k ≡ entry rolled k
  front k low =
      let long = rolled_long in
      unrolled_front l starts k (omega (arith, low, long))
      ∙ sym (get_or-take (length l.entries - 1) l.entries k 0 (omega (arith, low, long)))

  pub rolled_alike : UnrollAlike rolled l
  rolled_alike k =
      sym (unrolled_is rolled rolled_starts (unrolled l) front
      (subst (IsPeriodFrom (unrolled l) t) (sym rolled_loop) period) k)

-- a lasso is rolled back by no place, or by one more
pub rolled_none : (l : Lasso) → l.start < length l.entries → IsRolled l l
rolled_none l starts = record { starts = starts; alike = λ n. refl; earlier = omega arith; one_loop = refl }

rolled_more : (l k : Lasso) (xs : List ℕ) (t : ℕ) → IsRolled k l → suc t ≡ k.start
    → entry k t ≡ entry k (length k.entries - 1)
    → xs ≡ take (length k.entries - 1) k.entries
    → IsRolled (record { entries = xs; start = t }) l
rolled_more l k xs t is before same taken =
    subst (λ ys. IsRolled (record { entries = ys; start = t }) l) (sym taken)
    (record {
      starts = rolled_starts k t before is.starts same;
      alike = λ n. rolled_alike k t before is.starts same n ∙ is.alike n;
      earlier = let e = is.earlier in omega (arith, e, before);
      one_loop = rolled_loop k t before is.starts same ∙ is.one_loop;
    })

-- so it is where the entry x before the loop and the last one y are read
pub rolled_read : (l : Lasso) (xs ys : List ℕ) (s n x y : ℕ)
    → IsRolled (record { entries = xs; start = s }) l
    → 0 < s
    → n ≡ length xs
    → x ≡ get_or xs (s - 1) x
    → y ≡ get_or xs (n - 1) y
    → x ≡ y
    → ys ≡ take (n - 1) xs
    → IsRolled (record { entries = ys; start = s - 1 }) l
rolled_read l xs ys s n x y is some size x_is y_is same taken =
    let low = is.starts in
    rolled_more l (record { entries = xs; start = s }) ys (s - 1) is (omega (arith, some))
    (get_or_default xs (s - 1) 0 x (omega (arith, low)) ∙ sym x_is ∙ same ∙ y_is ∙ ap (λ k. get_or xs (k - 1) y) size
    ∙ get_or_default xs (length xs - 1) y 0 (omega (arith, low)))
    (taken ∙ ap (λ k. take (k - 1) xs) size)

-- ---- the shortest

module _ (l : Lasso) (starts : l.start < length l.entries) (least : HasLeastPeriod l) (early : BeginsEarly l)
    (k : Lasso) (k_starts : k.start < length k.entries) (alike : UnrollAlike k l) where
  its_period : IsPeriodFrom (unrolled l) k.start (loop_length k)
  its_period n late = sym (alike (n + loop_length k)) ∙ unrolled_period k k_starts n late ∙ alike n

  same_period : IsPeriodFrom (unrolled l) l.start (loop_length k)
  same_period =
      period_sooner (unrolled l) l.start (loop_length l) k.start (loop_length k) (omega (arith, starts))
      (unrolled_period l starts) its_period

  no_shorter_loop : loop_length l ≤ loop_length k
  no_shorter_loop =
      by_common
      (common_period (unrolled l) l.start (loop_length l) (loop_length k) (omega (arith, starts))
      (omega (arith, k_starts)) (unrolled_period l starts) same_period)
    where
      by_common : Common (unrolled l) l.start (loop_length l) (loop_length k) → loop_length l ≤ loop_length k
      by_common (g, is) =
          let up = least g is.some (mod-eq-zero_of_dvd g is.is_gcd.0) is.is_period in
          let down : g ≤ loop_length k = le_of_dvd (omega (arith, k_starts)) is.is_gcd.1 in
          omega (arith, up, down)

  no_earlier_start : l.start ≤ k.start
  no_earlier_start = by_place (cases_lt k.start l.start)
    where
      by_place : (k.start < l.start) ⊎ (l.start ≤ k.start) → l.start ≤ k.start
      by_place (inr le) = le
      by_place (inl less) =
          let some : 0 < l.start = omega (arith, less) in
          let last : (l.start - 1) + loop_length l ≡ length l.entries - 1 = omega (arith, some, starts) in
          absurd (early some
          (sym (unrolled_front l starts (l.start - 1) (omega (arith, starts)))
          ∙ sym (period_sooner (unrolled l) k.start (loop_length k) l.start (loop_length l) (omega (arith, k_starts))
          its_period (unrolled_period l starts) (l.start - 1) (omega (arith, less)))
          ∙ ap (unrolled l) last
          ∙ unrolled_front l starts (length l.entries - 1) (omega (arith, starts))))

  no_shorter : length l.entries ≤ length k.entries
  no_shorter = let loop = no_shorter_loop in let start = no_earlier_start in omega (arith, loop, start, starts, k_starts)

pub short_lasso : (l : Lasso) → l.start < length l.entries → HasLeastPeriod l → BeginsEarly l → IsShortest l
short_lasso l starts least early k k_starts alike = no_shorter l starts least early k k_starts alike

-- what is cut and then rolled back is the shortest
pub shortened : (l mid k : Lasso) → IsLoopCut mid l → IsRolledBack k mid → IsShortened k l
shortened l mid k is_cut back = record {
  starts = is_rolled.starts;
  alike = λ n. is_rolled.alike n ∙ is_cut.alike n;
  shortest = short_lasso k is_rolled.starts still_least back.early;
}
  where
    is_rolled : IsRolled k mid
    is_rolled = back.is_rolled

    still_least : HasLeastPeriod k
    still_least e some divides period =
        subst (λ n. n ≤ e) (sym is_rolled.one_loop)
        (is_cut.least e some (ap (λ n. n % e) (sym is_rolled.one_loop) ∙ divides)
        (λ n late. sym (is_rolled.alike (n + e))
        ∙ period n (let sooner = is_rolled.earlier in omega (arith, late, sooner))
        ∙ is_rolled.alike n))

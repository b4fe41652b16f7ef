-- U and R at all places of a path: looked up ahead at one place, and from there computed from the last place back.
--
--   next_inner, next_last, next_low == the place after a place
--   known_there      == where a value is known from one place, it is the one that is looked for
--   unknown_there    == and where it isn't, that at the next place is
--   none_left        == behind all places it is the one of no place
--   none_computed, place_back == the values computed back begin, and go on by one place
--   constant_left, weak_is == what is computed for F, G and W
use Rattle.std.proofs.Common.{ℕ, suc, ◌≡◌, ◌-◌, ◌+◌, ◌<◌, ◌≤◌, ◌||◌, ◌⊎◌, inl, inr, Bool, true, false, List, length, replicate, set, ltb, refl, sym, ap, ◌∙◌, subst, arith}
use Rattle.std.specs.Bool.{beq}
use Rattle.std.specs.Cmp.{booleans_Decides}
use Rattle.std.proofs.lemmas.Bool.{cases_lt, cond-true, cond-false, lt-ltb, le-ltb, true≢false}
use Rattle.std.proofs.lemmas.List.{get_or-replicate}
use Rattle.ml_word_check.specs.declared.cycles.Cycle.{Cycle}
use Rattle.ml_word_check.specs.declared.cycles.Cycle.TheVariants.{Release}
use Rattle.ml_word_check.specs.private.Truths.{ChangedBack, at, base, cycles, next_in, step}
use Rattle.ml_word_check.proofs.Changes.{none_back, one_back}
use Rattle.ml_word_check.proofs.TruthValues.{known, same_cycles, unknown}
use Rattle.ml_word_check.proofs.TruthValues as truths

-- ---- places

next_inner : (n start i : ℕ) → suc i < n → next_in n start i ≡ suc i
next_inner n start i low = cond-true (ltb (suc i) n) (suc i) start (lt-ltb (suc i) n low)

pub next_last : (n start i : ℕ) → n ≤ suc i → next_in n start i ≡ start
next_last n start i past = cond-false (ltb (suc i) n) (suc i) start (le-ltb (suc i) n past)

pub next_low : (n start : ℕ) → start < n → (i : ℕ) → i < n → next_in n start i < n
next_low n start starts i low = by_case (cases_lt (suc i) n)
  where
    by_case : (suc i < n) ⊎ (n ≤ suc i) → next_in n start i < n
    by_case (inl inner) = omega (arith, next_inner n start i inner)
    by_case (inr last) = omega (arith, next_last n start i last)

-- ---- looked up ahead

module _ (c : Cycle) (next : ℕ → ℕ) (f g : ℕ → Bool) (x : Bool) (n looked i : ℕ)
    (is : x ≡ cycles c next f g (n - looked) i) where
  pub none_left : n ≤ looked → base c ≡ x
  none_left past = let none : n - looked ≡ 0 = omega arith in sym (is ∙ ap (λ k. cycles c next f g k i) none)

  module _ (some : looked < n) (low high : Bool) (low_is : low ≡ step c (f i) (g i) false)
      (high_is : high ≡ step c (f i) (g i) true) where
    later : x ≡ step c (f i) (g i) (cycles c next f g (n - (looked + 1)) (next i))
    later =
        let one : n - looked ≡ suc (n - (looked + 1)) = omega arith in
        is ∙ ap (λ k. cycles c next f g k i) one

    pub known_there : beq low high ≡ true → low ≡ x
    known_there same =
        let values = sym low_is ∙ (booleans_Decides low high).0 same ∙ high_is in
        low_is ∙ sym (later ∙ known c (f i) (g i) (cycles c next f g (n - (looked + 1)) (next i)) values)

    pub unknown_there : beq low high ≡ false → (j : ℕ) → j ≡ next i → x ≡ cycles c next f g (n - (looked + 1)) j
    unknown_there differ j place =
        let values : step c (f i) (g i) false ≡ step c (f i) (g i) true → ⊥ =
        λ same. true≢false (sym ((booleans_Decides low high).1 (low_is ∙ same ∙ sym high_is)) ∙ differ) in
        later
        ∙ unknown c (f i) (g i) (cycles c next f g (n - (looked + 1)) (next i)) values
        ∙ ap (cycles c next f g (n - (looked + 1))) (sym place)

-- ---- computed back

-- the values behind a place are those of U or R, and later is the value at the place after it
pub record ComputedBack (c : Cycle) (start : ℕ) (f old new : List Bool) (later : Bool) (behind : ℕ) : Type 0 where
  pub changed : ChangedBack (cycles c (next_in (length old) start) (at f) (at old) (length old)) old new behind
  pub next_value : (p : ℕ) → p + behind + 1 ≡ length old
      → later ≡ cycles c (next_in (length old) start) (at f) (at old) (length old) (next_in (length old) start p)

module _ (c : Cycle) (start : ℕ) (f old : List Bool) (starts : start < length old) where
  abbrev value : ℕ → Bool
  value = cycles c (next_in (length old) start) (at f) (at old) (length old)

  pub none_computed : (first : Bool) → first ≡ value start → ComputedBack c start f old old first 0
  none_computed first is = record {
    changed = none_back value old;
    next_value = λ p last. is ∙ ap value (sym (next_last (length old) start p (omega (arith, last))));
  }

  pub place_back : (new : List Bool) (later : Bool) (behind p : ℕ) (here : Bool)
      → ComputedBack c start f old new later behind
      → p + behind + 1 ≡ length old
      → here ≡ step c (at f p) (at new p) later
      → ComputedBack c start f old (set new p here) here (behind + 1)
  place_back new later behind p here b place is = record {
    changed = one_back value old new behind p here b.changed place here_is;
    next_value = λ q next.
        here_is ∙ ap value (omega (arith, next, place, next_inner (length old) start q (omega (arith, next))));
  }
    where
      here_is : here ≡ value p
      here_is =
          is
          ∙ ap (λ x. step c (at f p) x later) (b.changed.rest p (omega (arith, place)))
          ∙ ap (step c (at f p) (at old p)) (b.next_value p place)
          ∙ sym (truths.one_more (next_in (length old) start) (at f) (at old) (length old)
          (next_low (length old) start starts) p (omega (arith, place)) c)

-- ---- operators of formulas

-- an operand that is one value at all places
pub constant_left : (c : Cycle) (b : Bool) (f g : List Bool) (n start : ℕ)
    → start < n
    → f ≡ replicate n b
    → (i : ℕ)
    → i < n
    → cycles c (next_in n start) (at f) (at g) n i ≡ cycles c (next_in n start) (λ j. b) (at g) n i
constant_left c b f g n start starts is i low =
    same_cycles c (next_in n start) (at f) (at g) (λ j. b) (at g) n (next_low n start starts)
    (λ j under. ap (λ xs. at xs j) is ∙ get_or-replicate n j b false under) (λ j under. refl) n i low

-- W as R, whose operands are the right one and either of them
pub weak_is : (f g either new : List Bool) (n start : ℕ)
    → start < n
    → length either ≡ n
    → ((i : ℕ) → i < n → at either i ≡ (at f i || at g i))
    → ((i : ℕ) → i < length either
    → at new i ≡ cycles Release (next_in (length either) start) (at g) (at either) (length either) i)
    → (i : ℕ)
    → i < n
    → at new i ≡ cycles Release (next_in n start) (at g) (λ j. at f j || at g j) n i
weak_is f g either new n start starts long joined values i low =
    subst (λ k. at new i ≡ cycles Release (next_in k start) (at g) (at either) k i) long
    (values i (omega (arith, low, long)))
    ∙ same_cycles Release (next_in n start) (at g) (at either) (at g) (λ j. at f j || at g j) n (next_low n start starts)
    (λ j under. refl) joined n i low

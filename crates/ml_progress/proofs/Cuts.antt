-- Cut lists of different lengths.
--
--   take_less          == the first of the first numbers
--   shorter            == of two lists, no higher in the longer cut, the first is no higher in the shorter cut
--   cut_up             == a higher priority has the longer cut
--   cut_past           == a number up to the priority counts
--   bad_side           == a priority is bad for p, or good for p
use Rattle.std.proofs.Common.{ℕ, zero, suc, ◌≡◌, ◌+◌, ◌<◌, ◌≤◌, ◌⊎◌, inl, inr, arith, true, false, cond, eqb, leb, List, [], ◌∷◌, count_by, take, Option, Some, None, refl, ap, ◌∙◌, le-leb, ◌%◌}
use Rattle.std.proofs.lemmas.Bool.{cond-true, cond-false, lt-leb, eqb-true, eqb-false, eq-eqb, ne_eqb, cases_lt}
use Rattle.std.proofs.lemmas.List.Recursion.{is_count_by}
use Rattle.ml_parity.specs.declared.players.Player.{Player}
use Rattle.ml_parity.specs.declared.players.Player.TheVariants.{Even, Odd}
use Rattle.ml_parity.specs.Player.{side, opponent}
use Rattle.ml_parity.specs.Game.{ParityGame, priority_of}
use Rattle.ml_progress.specs.Measure.{is_bad, bad_priorities}
use Rattle.ml_progress.specs.private.Codes.{space, code, FitsIn, level, cut_level}
use Rattle.ml_progress.specs.private.Bounds.{cut_length}
use Rattle.ml_progress.proofs.Codes.{fits_take}
use Rattle.ml_progress.proofs.Levels.{cut_mono}

-- the first of the first numbers
pub take_less : (c d : ℕ) (xs : List ℕ) → c ≤ d → take c (take d xs) ≡ take c xs
take_less zero d xs low = refl
take_less (suc c) zero xs low = absurd (omega arith)
take_less (suc c) (suc d) [] low = refl
take_less (suc c) (suc d) (x ∷ xs) low = ap (λ ys. x ∷ ys) (take_less c d xs (omega arith))

abbrev cut_in : ℕ → Option (List ℕ) → Option (List ℕ)
cut_in d None = None
cut_in d (Some xs) = Some (take d xs)

module _ (c d : ℕ) (bs : List ℕ) (low : c ≤ d) where
  cut_fits : (o : Option (List ℕ)) → FitsIn bs o → FitsIn (take d bs) (cut_in d o)
  cut_fits None f = tt
  cut_fits (Some xs) f = fits_take d bs xs f

  cut_of_cut : (o : Option (List ℕ)) → cut_level c (take d bs) (cut_in d o) ≡ cut_level c bs o
  cut_of_cut None = ap space (take_less c d bs low)
  cut_of_cut (Some xs) =
      ap (λ ys. code ys (take c (take d xs))) (take_less c d bs low)
      ∙ ap (code (take c bs)) (take_less c d xs low)

  level_of_cut : (o : Option (List ℕ)) → level (take d bs) (cut_in d o) ≡ cut_level d bs o
  level_of_cut None = refl
  level_of_cut (Some xs) = refl

  -- of two lists, no higher in the longer cut, the first is no higher in the shorter cut
  pub shorter : (a b : Option (List ℕ))
      → FitsIn bs a
      → FitsIn bs b
      → cut_level d bs a ≤ cut_level d bs b
      → cut_level c bs a ≤ cut_level c bs b
  shorter a b f h under = omega (
    arith,
    cut_of_cut a,
    cut_of_cut b,
    cut_mono c (take d bs) (cut_in d a) (cut_in d b) (cut_fits a f) (cut_fits b h)
        (omega (arith, under, level_of_cut a, level_of_cut b)),
  )

-- ---- how much is cut

-- how many numbers are at most m, by recursion
abbrev pub up_to : ℕ → List ℕ → ℕ
up_to m [] = 0
up_to m (k ∷ ks) = cond (leb k m) (1 + up_to m ks) (up_to m ks)

pub up_to-is : (m : ℕ) (ks : List ℕ) → up_to m ks ≡ count_by (λ k. leb k m) ks
up_to-is m ks = is_count_by (up_to m) (λ k. leb k m) refl (λ k rest. refl) ks

pub up_to-within : (m k : ℕ) (ks : List ℕ) → k ≤ m → up_to m (k ∷ ks) ≡ 1 + up_to m ks
up_to-within m k ks low = cond-true (leb k m) (1 + up_to m ks) (up_to m ks) (le-leb k m low)

pub up_to-above : (m k : ℕ) (ks : List ℕ) → m < k → up_to m (k ∷ ks) ≡ up_to m ks
up_to-above m k ks high = cond-false (leb k m) (1 + up_to m ks) (up_to m ks) (lt-leb k m high)

up_to-more : (m n : ℕ) (ks : List ℕ) → m ≤ n → up_to m ks ≤ up_to n ks
up_to-more m n [] low = omega arith
up_to-more m n (k ∷ ks) low = by_case (up_to-more m n ks low) (cases_lt m k) (cases_lt n k)
  where
    by_case : up_to m ks ≤ up_to n ks → (m < k) ⊎ (k ≤ m) → (n < k) ⊎ (k ≤ n) → up_to m (k ∷ ks) ≤ up_to n (k ∷ ks)
    by_case rest (inl a) (inl b) = omega (arith, up_to-above m k ks a, up_to-above n k ks b)
    by_case rest (inl a) (inr b) = omega (arith, up_to-above m k ks a, up_to-within n k ks b)
    by_case rest (inr a) (inl b) = absurd (omega arith)
    by_case rest (inr a) (inr b) = omega (arith, up_to-within m k ks a, up_to-within n k ks b)

-- a higher priority has the longer cut
pub cut_up : (g : ParityGame) (p : Player) (v w : ℕ) → priority_of g v ≤ priority_of g w
    → cut_length g p v ≤ cut_length g p w
cut_up g p v w low = omega (
  arith,
  up_to-is (priority_of g v) (bad_priorities g p),
  up_to-is (priority_of g w) (bad_priorities g p),
  up_to-more (priority_of g v) (priority_of g w) (bad_priorities g p) low,
)

-- a priority that isn't bad for p is good for p
pub good_side : (p : Player) (k : ℕ) → is_bad p k ≡ false → side k ≡ p
good_side Even k good = cond-true (eqb (k % 2) 0) Even Odd (eq-eqb (k % 2) 0 (omega (arith, eqb-false (k % 2) 1 good)))
good_side Odd k good = cond-false (eqb (k % 2) 0) Even Odd good

-- one that is bad for p is good for the opponent
pub bad_side : (p : Player) (k : ℕ) → is_bad p k ≡ true → side k ≡ opponent p
bad_side Even k bad = cond-false (eqb (k % 2) 0) Even Odd (ne_eqb (k % 2) 0 (λ e. omega (arith, eqb-true (k % 2) 1 bad)))
bad_side Odd k bad = cond-true (eqb (k % 2) 0) Even Odd bad

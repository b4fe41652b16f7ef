-- Truth values at the places of a path. Only private contracts cite this.
--
--   next_in n start i      == the place after i among n places, of which the last one is followed by start
--   at fs i                == the value at the place i
--   base c, step c f g later == the value of U or R before any place is looked at, and by one place more
--   cycles c next f g k i  == by k places from i on
--   tense_in t n start g i, paired_in p n start f g i == an operator, from the values of its operands at n places
--   ChangedTo h old new k, ChangedBack h old new k == the first k values were changed to those of h, and the last k
--   AreTruths m l f fs     == fs are the truth values of f at the places of l
use Rattle.std.specs.Prelude.{ℕ, zero, suc, ◌≡◌, ◌+◌, ◌<◌, ◌≤◌, ◌&&◌, ◌||◌, Bool, true, false, List, length, get_or, cond, ltb}
use Rattle.ml_base.specs.Structure.{Structure}
use Rattle.ml_ctl.specs.Formula.{Formula}
use Rattle.ml_ctl.specs.Paths.{places}
use Rattle.ml_ctl.specs.declared.term.Tense.{Tense}
use Rattle.ml_ctl.specs.declared.term.Tense.TheVariants as tense
use Rattle.ml_ctl.specs.declared.term.Pairing.{Pairing}
use Rattle.ml_ctl.specs.declared.term.Pairing.TheVariants as pairing
use Rattle.ml_lists.specs.Lasso.{Lasso}
use Rattle.ml_word_graph.proofs.Values.{truth}
use Rattle.ml_word_check.specs.declared.cycles.Cycle.{Cycle}
use Rattle.ml_word_check.specs.declared.cycles.Cycle.TheVariants.{Until, Release}

abbrev pub next_in : ℕ → ℕ → ℕ → ℕ
next_in n start i = cond (ltb (suc i) n) (suc i) start

abbrev pub at : List Bool → ℕ → Bool
at fs i = get_or fs i false

abbrev pub base : Cycle → Bool
base Until = false
base Release = true

abbrev pub step : Cycle → Bool → Bool → Bool → Bool
step Until f g later = g || (f && later)
step Release f g later = g && (f || later)

abbrev pub cycles : Cycle → (ℕ → ℕ) → (f g : ℕ → Bool) → ℕ → ℕ → Bool
cycles c next f g zero i = base c
cycles c next f g (suc k) i = step c (f i) (g i) (cycles c next f g k (next i))

abbrev pub tense_in : Tense → ℕ → ℕ → (ℕ → Bool) → ℕ → Bool
tense_in tense.Next n start g i = g (next_in n start i)
tense_in tense.Finally n start g i = cycles Until (next_in n start) (λ j. true) g n i
tense_in tense.Globally n start g i = cycles Release (next_in n start) (λ j. false) g n i

abbrev pub paired_in : Pairing → ℕ → ℕ → (f g : ℕ → Bool) → ℕ → Bool
paired_in pairing.Until n start f g i = cycles Until (next_in n start) f g n i
paired_in pairing.Release n start f g i = cycles Release (next_in n start) f g n i
paired_in pairing.Weak n start f g i = cycles Release (next_in n start) g (λ j. f j || g j) n i

-- the first k values were changed to those of h, and the others weren't
pub record ChangedTo (h : ℕ → Bool) (old new : List Bool) (k : ℕ) : Type 0 where
  pub long : length new ≡ length old
  pub done : (i : ℕ) → i < k → at new i ≡ h i
  pub rest : (i : ℕ) → k ≤ i → at new i ≡ at old i

-- so were the last k values
pub record ChangedBack (h : ℕ → Bool) (old new : List Bool) (k : ℕ) : Type 0 where
  pub long : length new ≡ length old
  pub done : (i : ℕ) → i < length old → length old ≤ i + k → at new i ≡ h i
  pub rest : (i : ℕ) → i + k < length old → at new i ≡ at old i

pub record AreTruths (m : Structure) (l : Lasso) (f : Formula) (fs : List Bool) : Type 0 where
  pub each_place : length fs ≡ places l
  pub are : (i : ℕ) → i < places l → at fs i ≡ truth m l f i

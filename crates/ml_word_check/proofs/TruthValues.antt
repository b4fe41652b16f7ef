-- The truth of a formula at the places of a path, from that of its operands.
--
--   untils_are, releases_are == cycles are what the meaning of U and R computes
--   one_more        == among n places, a place more makes no difference
--   same_cycles     == nor do values past the places
--   known, unknown  == where the value at a place is known without the next one, and where it is that of the next one
--   tense_truths, paired_truths == the truth of a temporal formula, from its operands'
use Rattle.std.proofs.Common.{ℕ, zero, suc, ◌≡◌, ◌<◌, ◌&&◌, ◌||◌, Bool, true, false, List, length, refl, sym, ap, ◌∙◌, subst, arith}
use Rattle.ml_base.specs.Structure.{Structure}
use Rattle.ml_lists.specs.Lasso.{Lasso, next_place}
use Rattle.ml_lists.proofs.Unrolling.{next_place_low}
use Rattle.ml_ctl.specs.Formula.{Formula, Temporal, Paired}
use Rattle.ml_ctl.specs.Paths.{places}
use Rattle.ml_ctl.specs.declared.term.Tense.{Tense}
use Rattle.ml_ctl.specs.declared.term.Tense.TheVariants as tense
use Rattle.ml_ctl.specs.declared.term.Pairing.{Pairing}
use Rattle.ml_ctl.specs.declared.term.Pairing.TheVariants as pairing
use Rattle.ml_ctl.proofs.Iterated.{until_steps, release_steps}
use Rattle.ml_word_graph.proofs.Values.{Says, equal_values, pairing_value, releases, releases_say, tense_value, truth, untils, untils_say}
use Rattle.ml_word_check.specs.declared.cycles.Cycle.{Cycle}
use Rattle.ml_word_check.specs.declared.cycles.Cycle.TheVariants.{Until, Release}
use Rattle.ml_word_check.specs.private.Truths.{AreTruths, at, cycles, paired_in, step, tense_in}

-- ---- cycles

module _ (next : ℕ → ℕ) (f g : ℕ → Bool) where
  pub untils_are : (k i : ℕ) → cycles Until next f g k i ≡ untils next f g k i
  untils_are zero i = refl
  untils_are (suc k) i = ap (λ x. g i || (f i && x)) (untils_are k (next i))

  pub releases_are : (k i : ℕ) → cycles Release next f g k i ≡ releases next f g k i
  releases_are zero i = refl
  releases_are (suc k) i = ap (λ x. g i && (f i || x)) (releases_are k (next i))

  F : ℕ → Type 0
  F i = f i ≡ true

  G : ℕ → Type 0
  G i = g i ≡ true

  f_says : (i : ℕ) → Says (F i) (f i)
  unfolding F
  f_says i = (λ e. e, λ e. e)

  g_says : (i : ℕ) → Says (G i) (g i)
  unfolding G
  g_says i = (λ e. e, λ e. e)

  module _ (n : ℕ) (closed : (i : ℕ) → i < n → next i < n) (i : ℕ) (low : i < n) where
    until_more : untils next f g n i ≡ untils next f g (suc n) i
    until_more =
        equal_values (untils next f g n i) (untils next f g (suc n) i) (until_steps next F G n closed i low)
        (untils_say next F G f g f_says g_says n i) (untils_say next F G f g f_says g_says (suc n) i)

    release_more : releases next f g n i ≡ releases next f g (suc n) i
    release_more =
        equal_values (releases next f g n i) (releases next f g (suc n) i) (release_steps next F G n closed i low)
        (releases_say next F G f g f_says g_says n i) (releases_say next F G f g f_says g_says (suc n) i)

    -- among n places, a place more makes no difference
    pub one_more : (c : Cycle) → cycles c next f g n i ≡ cycles c next f g (suc n) i
    one_more Until = untils_are n i ∙ until_more ∙ sym (untils_are (suc n) i)
    one_more Release = releases_are n i ∙ release_more ∙ sym (releases_are (suc n) i)

-- values past the places make none
pub same_cycles : (c : Cycle) (next : ℕ → ℕ) (f g h k : ℕ → Bool) (n : ℕ)
    → ((i : ℕ) → i < n → next i < n)
    → ((i : ℕ) → i < n → f i ≡ h i)
    → ((i : ℕ) → i < n → g i ≡ k i)
    → (j i : ℕ)
    → i < n
    → cycles c next f g j i ≡ cycles c next h k j i
same_cycles c next f g h k n closed same also zero i low = refl
same_cycles c next f g h k n closed same also (suc j) i low =
    λ t. step c (same i low t) (also i low t) (same_cycles c next f g h k n closed same also j (next i) (closed i low) t)

-- the value is known, or it is that of the next place
pub known : (c : Cycle) (f g x : Bool) → step c f g false ≡ step c f g true → step c f g x ≡ step c f g false
known c f g false same = refl
known c f g true same = sym same

pub unknown : (c : Cycle) (f g x : Bool) → (step c f g false ≡ step c f g true → ⊥) → step c f g x ≡ x
unknown Until true true x other = absurd (other refl)
unknown Until false true x other = absurd (other refl)
unknown Until true false x other = refl
unknown Until false false x other = absurd (other refl)
unknown Release true true x other = absurd (other refl)
unknown Release false true x other = refl
unknown Release true false x other = absurd (other refl)
unknown Release false false x other = absurd (other refl)

-- ---- formulas

module _ (m : Structure) (l : Lasso) (starts : l.start < places l) where
  closed : (i : ℕ) → i < places l → next_place l i < places l
  closed i low = next_place_low l starts i low

  module _ (f g : Formula) (fs gs : List Bool) (x : AreTruths m l f fs) (y : AreTruths m l g gs) where
    paired_is : (p : Pairing) (i : ℕ)
        → i < places l
        → paired_in p (places l) l.start (at fs) (at gs) i ≡ pairing_value p l (truth m l f) (truth m l g) i
    paired_is pairing.Until i low =
        same_cycles Until (next_place l) (at fs) (at gs) (truth m l f) (truth m l g) (places l) closed x.are y.are
        (places l) i low
        ∙ untils_are (next_place l) (truth m l f) (truth m l g) (places l) i
    paired_is pairing.Release i low =
        same_cycles Release (next_place l) (at fs) (at gs) (truth m l f) (truth m l g) (places l) closed x.are y.are
        (places l) i low
        ∙ releases_are (next_place l) (truth m l f) (truth m l g) (places l) i
    paired_is pairing.Weak i low =
        same_cycles Release (next_place l) (at gs) (λ j. at fs j || at gs j) (truth m l g)
        (λ j. truth m l f j || truth m l g j) (places l) closed y.are (λ j under t. x.are j under t || y.are j under t) (places l) i low
        ∙ releases_are (next_place l) (truth m l g) (λ j. truth m l f j || truth m l g j) (places l) i

    pub paired_truths : (p : Pairing) (rs : List Bool)
        → length rs ≡ length gs
        → ((i : ℕ) → i < length gs → at rs i ≡ paired_in p (length gs) l.start (at fs) (at gs) i)
        → AreTruths m l (Paired p f g) rs
    paired_truths p rs long values = record {
      each_place = long ∙ y.each_place;
      are = λ i low.
          subst (λ n. at rs i ≡ paired_in p n l.start (at fs) (at gs) i) y.each_place
          (values i (omega (arith, low, y.each_place)))
          ∙ paired_is p i low;
    }

  module _ (g : Formula) (gs : List Bool) (y : AreTruths m l g gs) where
    tense_is : (t : Tense) (i : ℕ)
        → i < places l
        → tense_in t (places l) l.start (at gs) i ≡ tense_value t l (truth m l g) i
    tense_is tense.Next i low = y.are (next_place l i) (closed i low)
    tense_is tense.Finally i low =
        same_cycles Until (next_place l) (λ j. true) (at gs) (λ j. true) (truth m l g) (places l) closed
        (λ j under. refl) y.are (places l) i low
        ∙ untils_are (next_place l) (λ j. true) (truth m l g) (places l) i
    tense_is tense.Globally i low =
        same_cycles Release (next_place l) (λ j. false) (at gs) (λ j. false) (truth m l g) (places l) closed
        (λ j under. refl) y.are (places l) i low
        ∙ releases_are (next_place l) (λ j. false) (truth m l g) (places l) i

    pub tense_truths : (t : Tense) (rs : List Bool)
        → length rs ≡ length gs
        → ((i : ℕ) → i < length gs → at rs i ≡ tense_in t (length gs) l.start (at gs) i)
        → AreTruths m l (Temporal t g) rs
    tense_truths t rs long values = record {
      each_place = long ∙ y.each_place;
      are = λ i low.
          subst (λ n. at rs i ≡ tense_in t n l.start (at gs) i) y.each_place (values i (omega (arith, low, y.each_place)))
          ∙ tense_is t i low;
    }

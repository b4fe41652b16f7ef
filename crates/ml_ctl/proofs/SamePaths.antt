-- A formula is true alike at places from which the same states are passed.
--
--   follows_the_path  == the law
use Rattle.std.proofs.Common.{ℕ, ◌≡◌, ◌+◌, ◌<◌, ◌⊎◌, true, inl, inr, sym, ap, subst, ◌∙◌, ⊎_elim}
use Rattle.ml_lists.specs.Lasso.{Lasso, entry, next_place}
use Rattle.ml_lists.proofs.Walks.{walk_keeps}
use Rattle.ml_text.specs.declared.token.Operator.TheVariants as operator
use Rattle.ml_base.specs.Structure.{lists}
use Rattle.ml_ctl.specs.Formula as plain
use Rattle.ml_ctl.specs.declared.term.Tense.TheVariants as tense
use Rattle.ml_ctl.specs.declared.term.Pairing.TheVariants as pairing
use Rattle.ml_ctl.specs.Laws.{FollowsThePath, PassSame}
use Rattle.ml_ctl.specs.Meaning as meaning
use Rattle.ml_ctl.specs.Meaning.{Nowhere, Everywhere, TruthAt, quantified}
use Rattle.ml_ctl.specs.Paths.{places}
use Rattle.ml_ctl.specs.Unrolled.{IsPlace, after}
use Rattle.ml_ctl.proofs.Iterated.{Meets, Met, until_exactly, release_exactly}
use Rattle.ml_lists.proofs.Walks.{walk-sum}
use Rattle.ml_ctl.proofs.StepByStep.{closed}

pub after_is_place : (l : Lasso) (i d : ℕ) → IsPlace l i → IsPlace l (after l i d)
after_is_place l i d (starts, low) = (starts, walk_keeps (next_place l) (λ p. p < places l) (closed l starts) i low d)

pass_after : (l k : Lasso) (i j d : ℕ) → PassSame l i k j → PassSame l (after l i d) k (after k j d)
pass_after l k i j d pass n =
    ap (entry l) (walk-sum (next_place l) i d n) ∙ pass (d + n) ∙ sym (ap (entry k) (walk-sum (next_place k) j d n))

-- what is true along the one path is true along the other
module _ (l k : Lasso) (i j : ℕ) (here : IsPlace l i) (there : IsPlace k j) (F G P Q : ℕ → Type 0)
    (f : (d : ℕ) → F (after l i d) → P (after k j d)) (g : (d : ℕ) → G (after l i d) → Q (after k j d)) where
  meets_there : Meets (next_place l) F G i → Meets (next_place k) P Q j
  meets_there (d, at, before) = (d, g d at, λ h low. f h (before h low))

  pub until_there : meaning.Until l F G i → meaning.Until k P Q j
  until_there u =
      (until_exactly (next_place k) P Q (places k) (closed k there.0) j there.1).1
      (meets_there ((until_exactly (next_place l) F G (places l) (closed l here.0) i here.1).0 u))

  keeps_there : (d : ℕ) → Met (next_place l) F G i d ⊎ G (after l i d) → Met (next_place k) P Q j d ⊎ Q (after k j d)
  keeps_there d (inl (h, low, met)) = inl (h, low, f h met)
  keeps_there d (inr at) = inr (g d at)

  pub release_there : meaning.Release l F G i → meaning.Release k P Q j
  release_there r =
      (release_exactly (next_place k) P Q (places k) (closed k there.0) j there.1).1
      (λ d. keeps_there d ((release_exactly (next_place l) F G (places l) (closed l here.0) i here.1).0 r d))

pub follows_the_path : FollowsThePath
follows_the_path m (plain.Const b) l k i j here there pass t = t
follows_the_path m (plain.Prop p) l k i j here there pass t = subst (λ s. lists m s p ≡ true) (pass 0) t
follows_the_path m (plain.Not f) l k i j here there pass t =
    λ back. t (follows_the_path m f k l j i there here (λ n. sym (pass n)) back)
follows_the_path m (plain.Binary operator.And f g) l k i j here there pass t =
    (follows_the_path m f l k i j here there pass t.0, follows_the_path m g l k i j here there pass t.1)
follows_the_path m (plain.Binary operator.Or f g) l k i j here there pass t =
    ⊎_elim (λ (a : TruthAt m l f i). inl (follows_the_path m f l k i j here there pass a))
    (λ (b : TruthAt m l g i). inr (follows_the_path m g l k i j here there pass b)) t
follows_the_path m (plain.Binary operator.Implies f g) l k i j here there pass t =
    λ a. follows_the_path m g l k i j here there pass (t (follows_the_path m f k l j i there here (λ n. sym (pass n)) a))
follows_the_path m (plain.Binary operator.Iff f g) l k i j here there pass t = (
  (λ a. follows_the_path m g l k i j here there pass (t.0 (follows_the_path m f k l j i there here (λ n. sym (pass n)) a))),
  (λ b. follows_the_path m f l k i j here there pass (t.1 (follows_the_path m g k l j i there here (λ n. sym (pass n)) b))),
)
follows_the_path m (plain.Temporal tense.Next g) l k i j here there pass t =
    follows_the_path m g l k (after l i 1) (after k j 1) (after_is_place l i 1 here) (after_is_place k j 1 there)
    (pass_after l k i j 1 pass) t
follows_the_path m (plain.Temporal tense.Finally g) l k i j here there pass t =
    until_there l k i j here there Everywhere (TruthAt m l g) Everywhere (TruthAt m k g) (λ d u. u)
    (λ d. follows_the_path m g l k (after l i d) (after k j d) (after_is_place l i d here) (after_is_place k j d there)
    (pass_after l k i j d pass)) t
follows_the_path m (plain.Temporal tense.Globally g) l k i j here there pass t =
    release_there l k i j here there Nowhere (TruthAt m l g) Nowhere (TruthAt m k g) (λ d none. none)
    (λ d. follows_the_path m g l k (after l i d) (after k j d) (after_is_place l i d here) (after_is_place k j d there)
    (pass_after l k i j d pass)) t
follows_the_path m (plain.Paired pairing.Until f g) l k i j here there pass t =
    until_there l k i j here there (TruthAt m l f) (TruthAt m l g) (TruthAt m k f) (TruthAt m k g)
    (λ d. follows_the_path m f l k (after l i d) (after k j d) (after_is_place l i d here) (after_is_place k j d there)
    (pass_after l k i j d pass))
    (λ d. follows_the_path m g l k (after l i d) (after k j d) (after_is_place l i d here) (after_is_place k j d there)
    (pass_after l k i j d pass)) t
follows_the_path m (plain.Paired pairing.Release f g) l k i j here there pass t =
    release_there l k i j here there (TruthAt m l f) (TruthAt m l g) (TruthAt m k f) (TruthAt m k g)
    (λ d. follows_the_path m f l k (after l i d) (after k j d) (after_is_place l i d here) (after_is_place k j d there)
    (pass_after l k i j d pass))
    (λ d. follows_the_path m g l k (after l i d) (after k j d) (after_is_place l i d here) (after_is_place k j d there)
    (pass_after l k i j d pass)) t
follows_the_path m (plain.Paired pairing.Weak f g) l k i j here there pass t =
    release_there l k i j here there
    (TruthAt m l g) (λ x. TruthAt m l f x ⊎ TruthAt m l g x) (TruthAt m k g) (λ x. TruthAt m k f x ⊎ TruthAt m k g x)
    (λ d. follows_the_path m g l k (after l i d) (after k j d) (after_is_place l i d here) (after_is_place k j d there)
    (pass_after l k i j d pass))
    (λ d. ⊎_elim
    (λ (a : TruthAt m l f (after l i d)). inl (follows_the_path m f l k (after l i d) (after k j d) (after_is_place l i d here)
    (after_is_place k j d there) (pass_after l k i j d pass) a))
    (λ (b : TruthAt m l g (after l i d)). inr (follows_the_path m g l k (after l i d) (after k j d) (after_is_place l i d here)
    (after_is_place k j d there) (pass_after l k i j d pass) b))) t
follows_the_path m (plain.Quantified q f) l k i j here there pass t =
    subst (λ s. quantified q m s (λ path. TruthAt m path f 0)) (pass 0) t

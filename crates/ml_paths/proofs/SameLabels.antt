-- What is true along a path of a formula of LTL depends on the labels of its states alone.
--
--   until_alike, release_alike == where their operands are alike, so are U and R
--   truth_alike       == formulas are true alike along paths with the same labels, place by place
--   satisfied_along   == the path satisfies what the word does
use Rattle.std.proofs.Common.{ℕ, zero, suc, ◌≡◌, ◌<◌, ◌⊎◌, ◌↔◌, inl, inr, arith, Bool, true, false, ltb, cond, List, [], ◌∷◌, length, map, get_or, slice_index_or, refl, sym, ap, ◌∙◌, subst}
use Rattle.std.proofs.lemmas.Bool.{and_parts}
use Rattle.std.proofs.lemmas.List.{length-map}
use Rattle.std.proofs.lemmas.List.FromFn.{get_or-range_with_len, length-range_with_len}
use Rattle.ml_base.specs.Structure.{Structure, lists}
use Rattle.ml_ctl.specs.Formula as plain
use Rattle.ml_ctl.specs.Formula.{Formula}
use Rattle.ml_ctl.specs.Meaning as meaning
use Rattle.ml_ctl.specs.Meaning.{Everywhere, Nowhere, Satisfies, TruthAt, iterate_of, release_step, until_step}
use Rattle.ml_ctl.specs.Paths.{places}
use Rattle.ml_ctl.specs.Sorts.{is_linear}
use Rattle.ml_ctl.specs.declared.term.Pairing.TheVariants as pairing
use Rattle.ml_ctl.specs.declared.term.Tense.TheVariants as tense
use Rattle.ml_lists.specs.Lasso.{Lasso, entry, next_place}
use Rattle.ml_lists.proofs.Unrolling.{next_place_low}
use Rattle.ml_ltl.specs.Problem.{in_sense}
use Rattle.ml_text.specs.declared.token.Operator.TheVariants as operator
use Rattle.ml_trace.specs.WordAutomata.{WordLasso}
use Rattle.ml_word_automaton.specs.Words.{Letter, SatisfiedBy, word_path, word_structure}
use Rattle.ml_paths.specs.Paths.{labels_at}
use Rattle.ml_paths.specs.Runs.{word_along}

module _ (m n : Structure) (l k : Lasso) (long : places l ≡ places k) (one : l.start ≡ k.start)
    (starts : l.start < places l)
    (same : (i : ℕ) → i < places l → (p : List ℕ) → lists m (entry l i) p ≡ lists n (entry k i) p) where
  next_same : (i : ℕ) → next_place l i ≡ next_place k i
  next_same i = λ j. cond (ltb (suc i) (long j)) (suc i) (one j)

  -- two properties of places are true together
  abbrev Alike : (ℕ → Type 0) → (ℕ → Type 0) → Type 0
  Alike F P = (i : ℕ) → i < places l → F i ↔ P i

  -- ---- U and R

  until_more : (F G P Q A B : ℕ → Type 0) → Alike F P → Alike G Q → Alike A B
      → Alike (until_step (next_place l) F G A) (until_step (next_place k) P Q B)
  until_more F G P Q A B f g a i low = (there, back)
    where
      there : G i ⊎ (F i × A (next_place l i)) → Q i ⊎ (P i × B (next_place k i))
      there (inl now) = inl ((g i low).0 now)
      there (inr (now, later)) =
          inr ((f i low).0 now, subst B (next_same i) ((a (next_place l i) (next_place_low l starts i low)).0 later))

      back : Q i ⊎ (P i × B (next_place k i)) → G i ⊎ (F i × A (next_place l i))
      back (inl now) = inl ((g i low).1 now)
      back (inr (now, later)) =
          inr ((f i low).1 now, (a (next_place l i) (next_place_low l starts i low)).1 (subst B (sym (next_same i)) later))

  release_more : (F G P Q A B : ℕ → Type 0) → Alike F P → Alike G Q → Alike A B
      → Alike (release_step (next_place l) F G A) (release_step (next_place k) P Q B)
  release_more F G P Q A B f g a i low = (
    λ h. ((g i low).0 h.0, there h.1),
    λ h. ((g i low).1 h.0, back h.1),
  )
    where
      there : F i ⊎ A (next_place l i) → P i ⊎ B (next_place k i)
      there (inl now) = inl ((f i low).0 now)
      there (inr later) = inr (subst B (next_same i) ((a (next_place l i) (next_place_low l starts i low)).0 later))

      back : P i ⊎ B (next_place k i) → F i ⊎ A (next_place l i)
      back (inl now) = inl ((f i low).1 now)
      back (inr later) = inr ((a (next_place l i) (next_place_low l starts i low)).1 (subst B (sym (next_same i)) later))

  module _ (F G P Q : ℕ → Type 0) (f : Alike F P) (g : Alike G Q) where
    untils : (c : ℕ)
        → Alike (iterate_of c (until_step (next_place l) F G) Nowhere) (iterate_of c (until_step (next_place k) P Q) Nowhere)
    untils zero i low = (λ none. none, λ none. none)
    untils (suc c) i low =
        until_more F G P Q (iterate_of c (until_step (next_place l) F G) Nowhere)
        (iterate_of c (until_step (next_place k) P Q) Nowhere) f g (untils c) i low

    releases : (c : ℕ)
        → Alike (iterate_of c (release_step (next_place l) F G) Everywhere)
        (iterate_of c (release_step (next_place k) P Q) Everywhere)
    releases zero i low = (λ all. all, λ all. all)
    releases (suc c) i low =
        release_more F G P Q (iterate_of c (release_step (next_place l) F G) Everywhere)
        (iterate_of c (release_step (next_place k) P Q) Everywhere) f g (releases c) i low

    until_alike : Alike (meaning.Until l F G) (meaning.Until k P Q)
    until_alike =
        subst (λ c. Alike (meaning.Until l F G) (iterate_of c (until_step (next_place k) P Q) Nowhere)) long
        (untils (places l))

    release_alike : Alike (meaning.Release l F G) (meaning.Release k P Q)
    release_alike =
        subst (λ c. Alike (meaning.Release l F G) (iterate_of c (release_step (next_place k) P Q) Everywhere)) long
        (releases (places l))

  -- ---- formulas

  abbrev IsAlike : Formula → Type 0
  IsAlike f = Alike (TruthAt m l f) (TruthAt n k f)

  either_alike : (F G P Q : ℕ → Type 0) → Alike F P → Alike G Q → Alike (λ i. F i ⊎ G i) (λ i. P i ⊎ Q i)
  either_alike F G P Q f g i low = (there, back)
    where
      there : F i ⊎ G i → P i ⊎ Q i
      there (inl x) = inl ((f i low).0 x)
      there (inr x) = inr ((g i low).0 x)

      back : P i ⊎ Q i → F i ⊎ G i
      back (inl x) = inl ((f i low).1 x)
      back (inr x) = inr ((g i low).1 x)

  pub truth_alike : (f : Formula) → is_linear f ≡ true → IsAlike f
  truth_alike (plain.Const b) linear i low = (λ t. t, λ t. t)
  truth_alike (plain.Prop p) linear i low = (λ t. sym (same i low p) ∙ t, λ t. same i low p ∙ t)
  truth_alike (plain.Not f) linear i low =
      let a = truth_alike f linear i low in (λ none t. none (a.1 t), λ none t. none (a.0 t))
  truth_alike (plain.Binary operator.And f g) linear i low =
      let parts = and_parts (is_linear f) (is_linear g) linear in
      let a = truth_alike f parts.0 i low in
      let b = truth_alike g parts.1 i low in
      (λ t. (a.0 t.0, b.0 t.1), λ t. (a.1 t.0, b.1 t.1))
  truth_alike (plain.Binary operator.Or f g) linear i low =
      let parts = and_parts (is_linear f) (is_linear g) linear in
      either_alike (TruthAt m l f) (TruthAt m l g) (TruthAt n k f) (TruthAt n k g) (truth_alike f parts.0)
      (truth_alike g parts.1) i low
  truth_alike (plain.Binary operator.Implies f g) linear i low =
      let parts = and_parts (is_linear f) (is_linear g) linear in
      let a = truth_alike f parts.0 i low in
      let b = truth_alike g parts.1 i low in
      (λ t x. b.0 (t (a.1 x)), λ t x. b.1 (t (a.0 x)))
  truth_alike (plain.Binary operator.Iff f g) linear i low =
      let parts = and_parts (is_linear f) (is_linear g) linear in
      let a = truth_alike f parts.0 i low in
      let b = truth_alike g parts.1 i low in (
        λ t. (λ x. b.0 (t.0 (a.1 x)), λ x. a.0 (t.1 (b.1 x))),
        λ t. (λ x. b.1 (t.0 (a.0 x)), λ x. a.1 (t.1 (b.0 x))),
      )
  truth_alike (plain.Temporal tense.Next g) linear i low =
      let a = truth_alike g linear (next_place l i) (next_place_low l starts i low) in (
        λ t. subst (TruthAt n k g) (next_same i) (a.0 t),
        λ t. a.1 (subst (TruthAt n k g) (sym (next_same i)) t),
      )
  truth_alike (plain.Temporal tense.Finally g) linear i low =
      until_alike Everywhere (TruthAt m l g) Everywhere (TruthAt n k g) (λ j inside. (λ u. u, λ u. u))
      (truth_alike g linear) i low
  truth_alike (plain.Temporal tense.Globally g) linear i low =
      release_alike Nowhere (TruthAt m l g) Nowhere (TruthAt n k g) (λ j inside. (λ none. none, λ none. none))
      (truth_alike g linear) i low
  truth_alike (plain.Paired pairing.Until f g) linear i low =
      let parts = and_parts (is_linear f) (is_linear g) linear in
      until_alike (TruthAt m l f) (TruthAt m l g) (TruthAt n k f) (TruthAt n k g) (truth_alike f parts.0)
      (truth_alike g parts.1) i low
  truth_alike (plain.Paired pairing.Release f g) linear i low =
      let parts = and_parts (is_linear f) (is_linear g) linear in
      release_alike (TruthAt m l f) (TruthAt m l g) (TruthAt n k f) (TruthAt n k g) (truth_alike f parts.0)
      (truth_alike g parts.1) i low
  truth_alike (plain.Paired pairing.Weak f g) linear i low =
      let parts = and_parts (is_linear f) (is_linear g) linear in
      let a = truth_alike f parts.0 in
      let b = truth_alike g parts.1 in
      release_alike (TruthAt m l g) (λ i. TruthAt m l f i ⊎ TruthAt m l g i) (TruthAt n k g)
      (λ i. TruthAt n k f i ⊎ TruthAt n k g i) b
      (either_alike (TruthAt m l f) (TruthAt m l g) (TruthAt n k f) (TruthAt n k g) a b) i low
  truth_alike (plain.Quantified q f) linear i low = absurd (cc)

-- ---- the word along a lasso

labels_along : (m : Structure) (xs : List ℕ) (i : ℕ) → i < length xs
    → slice_index_or (map (labels_at m) xs) i [] ≡ labels_at m (get_or xs i 0)
labels_along m [] i low = absurd (omega (arith, low))
labels_along m (x ∷ xs) zero low = refl
labels_along m (x ∷ xs) (suc i) low = labels_along m xs i (omega (arith, low))

pub sense_linear : (negated : Bool) (f : Formula) → is_linear f ≡ true → is_linear (in_sense negated f) ≡ true
sense_linear false f linear = linear
sense_linear true f linear = linear

pub satisfied_along : (m : Structure) (l : Lasso) (f : Formula) → l.start < places l → is_linear f ≡ true
    → Satisfies m l f ↔ SatisfiedBy (word_along m l) f
satisfied_along m l f starts linear =
    truth_alike m (word_structure w) l (word_path w) long refl starts same f linear 0 (omega (arith, starts))
  where
    w : WordLasso Letter
    w = word_along m l

    size : length w.word ≡ places l
    size = length-map l.entries (labels_at m)

    long : places l ≡ places (word_path w)
    long = sym (length-range_with_len 0 (length w.word) ∙ size)

    same : (i : ℕ) → i < places l → (p : List ℕ)
        → lists m (entry l i) p ≡ lists (word_structure w) (entry (word_path w) i) p
    same i low p =
        let here : entry (word_path w) i ≡ i =
        get_or-range_with_len 0 (length w.word) i 0 (omega (arith, low, size)) ∙ omega arith in
        ap (λ ls. lists (record { states = m.states; labels = ls ∷ []; edges = [] }) 0 p) (sym (labels_along m l.entries i low))
        ∙ ap (λ s. lists (word_structure w) s p) (sym here)

-- The formula of an enumeration says that exactly one of its propositions is true.
--
--   says_none, says_one == what is made of the halves of a list says that none of it, or one, is true at a place
--   paths_have_one, states_have_one == the laws
use Rattle.std.proofs.Common.{◌≡◌, ℕ, zero, suc, ◌+◌, ◌/◌, ◌≤◌, ◌⊎◌, ◌↔◌, inl, inr, Bool, true, false, cond, List, [], ◌∷◌, filter, length, refl, sym, ap, ◌∙◌, arith}
use Rattle.std.proofs.lemmas.Bool.{false≢true}
use Rattle.std.proofs.lemmas.List.{length-append, take-append-drop}
use Rattle.std.proofs.lemmas.List.Elements.{filter-append}
use Rattle.ml_base.specs.Structure.{Structure, lists}
use Rattle.ml_ctl.specs.Enumerations.{first_half, none_in, one, one_in, second_half}
use Rattle.ml_ctl.specs.Formula.{Temporal}
use Rattle.ml_ctl.specs.Meaning.{TruthAt}
use Rattle.ml_ctl.specs.Unrolled.{after}
use Rattle.ml_ctl.specs.declared.term.Tense.TheVariants.{Globally}
use Rattle.ml_ctl.proofs.Halves.{first_is_shorter, second_is_shorter}
use Rattle.ml_ctl.proofs.StepByStep.{read_ahead}
use Rattle.ml_lists.specs.Lasso.{entry, unrolled, Lasso}
use Rattle.ml_spec.specs.ExactlyOne.{HasOne, HasOneAlong, PathsHaveOne, StatesHaveOne}

module _ (m : Structure) (l : Lasso) (i : ℕ) where
  -- how many of the propositions are true at the place
  abbrev count : List (List ℕ) → ℕ
  count ps = length (filter (lists m (entry l i)) ps)

  count_halves : (ps : List (List ℕ)) → count (first_half ps) + count (second_half ps) ≡ count ps
  count_halves ps =
      sym (length-append (filter (lists m (entry l i)) (first_half ps)) (filter (lists m (entry l i)) (second_half ps)))
      ∙ ap length (sym (filter-append (lists m (entry l i)) (first_half ps) (second_half ps)))
      ∙ ap count (take-append-drop ((length ps + 1) / 2) ps)

  abbrev SaysNone : ℕ → List (List ℕ) → Type 0
  SaysNone k ps = TruthAt m l (none_in k ps) i ↔ (count ps ≡ 0)

  abbrev SaysOne : ℕ → List (List ℕ) → Type 0
  SaysOne k ps = TruthAt m l (one_in k ps) i ↔ (count ps ≡ 1)

  alone_none : (b : Bool) (p : List ℕ) → ((b ≡ true) → ⊥) ↔ (length (cond b (p ∷ []) []) ≡ 0)
  alone_none true p = ((λ none. absurd (none refl)), (λ e. absurd (omega (arith, e))))
  alone_none false p = ((λ none. refl), (λ e is. absurd (false≢true is)))

  alone_one : (b : Bool) (p : List ℕ) → (b ≡ true) ↔ (length (cond b (p ∷ []) []) ≡ 1)
  alone_one true p = ((λ is. refl), (λ e. refl))
  alone_one false p = ((λ is. absurd (false≢true is)), (λ e. absurd (omega (arith, e))))

  says_none : (k : ℕ) (ps : List (List ℕ)) → length ps ≤ k → SaysNone k ps
  says_none k [] low = ((λ is. refl), (λ e. refl))
  says_none k (p ∷ []) low = alone_none (lists m (entry l i) p) p
  says_none zero (p ∷ q ∷ ps) low = absurd (omega (arith, low))
  says_none (suc k) (p ∷ q ∷ ps) low =
      let A = first_half (p ∷ q ∷ ps) in
      let B = second_half (p ∷ q ∷ ps) in
      let a = says_none k A (omega (arith, low, first_is_shorter p q ps)) in
      let b = says_none k B (omega (arith, low, second_is_shorter p q ps)) in
      let both = count_halves (p ∷ q ∷ ps) in (
        (λ (x, y). let no_first = a.0 x in let no_second = b.0 y in omega (arith, both, no_first, no_second)),
        (λ e. (a.1 (omega (arith, both, e)), b.1 (omega (arith, both, e)))),
      )

  says_one : (k : ℕ) (ps : List (List ℕ)) → length ps ≤ k → SaysOne k ps
  says_one k [] low = ((λ is. absurd (false≢true is)), (λ e. absurd (omega (arith, e))))
  says_one k (p ∷ []) low = alone_one (lists m (entry l i) p) p
  says_one zero (p ∷ q ∷ ps) low = absurd (omega (arith, low))
  says_one (suc k) (p ∷ q ∷ ps) low =
      let A = first_half (p ∷ q ∷ ps) in
      let B = second_half (p ∷ q ∷ ps) in
      let in_first : length A ≤ k = omega (arith, low, first_is_shorter p q ps) in
      let in_second : length B ≤ k = omega (arith, low, second_is_shorter p q ps) in (
        there A B (says_one k A in_first) (says_one k B in_second) (says_none k A in_first) (says_none k B in_second)
            (count_halves (p ∷ q ∷ ps)),
        back A B (says_one k A in_first) (says_one k B in_second) (says_none k A in_first) (says_none k B in_second)
            (count_halves (p ∷ q ∷ ps)) (count A) refl,
      )
    where
      there : (A B : List (List ℕ)) → SaysOne k A → SaysOne k B → SaysNone k A → SaysNone k B
          → count A + count B ≡ count (p ∷ q ∷ ps)
          → (TruthAt m l (one_in k A) i × TruthAt m l (none_in k B) i) ⊎ (TruthAt m l (none_in k A) i × TruthAt m l (one_in k B) i)
          → count (p ∷ q ∷ ps) ≡ 1
      there A B one_a one_b none_a none_b both (inl (x, y)) =
          let first = one_a.0 x in let second = none_b.0 y in omega (arith, both, first, second)
      there A B one_a one_b none_a none_b both (inr (x, y)) =
          let first = none_a.0 x in let second = one_b.0 y in omega (arith, both, first, second)

      back : (A B : List (List ℕ)) → SaysOne k A → SaysOne k B → SaysNone k A → SaysNone k B
          → count A + count B ≡ count (p ∷ q ∷ ps)
          → (a : ℕ) → count A ≡ a
          → count (p ∷ q ∷ ps) ≡ 1
          → (TruthAt m l (one_in k A) i × TruthAt m l (none_in k B) i) ⊎ (TruthAt m l (none_in k A) i × TruthAt m l (one_in k B) i)
      back A B one_a one_b none_a none_b both zero is e =
          inr (none_a.1 is, one_b.1 (omega (arith, both, is, e)))
      back A B one_a one_b none_a none_b both (suc zero) is e =
          inl (one_a.1 is, none_b.1 (omega (arith, both, is, e)))
      back A B one_a one_b none_a none_b both (suc (suc a)) is e = absurd (omega (arith, both, is, e))

pub paths_have_one : PathsHaveOne
paths_have_one m l ps path = (there, back)
  where
    ahead : TruthAt m l (Temporal Globally (one ps)) 0 ↔ ((k : ℕ) → TruthAt m l (one ps) (after l 0 k))
    ahead = (read_ahead m l (one ps) (one ps) 0 (path.starts, omega (arith, path.starts))).globally

    at_place : (k : ℕ) → TruthAt m l (one ps) (after l 0 k) ↔ HasOne m (unrolled l k) ps
    at_place k = says_one m l (after l 0 k) (length ps) ps (omega arith)

    there : TruthAt m l (Temporal Globally (one ps)) 0 → HasOneAlong m l ps
    there holds = λ k. (at_place k).0 (ahead.0 holds k)

    back : HasOneAlong m l ps → TruthAt m l (Temporal Globally (one ps)) 0
    back has = ahead.1 (λ k. (at_place k).1 (has k))

pub states_have_one : StatesHaveOne
states_have_one m s ps = (
  (λ holds l from. (paths_have_one m l ps from.is_path).0 (holds l from)),
  (λ has l from. (paths_have_one m l ps from.is_path).1 (has l from)),
)

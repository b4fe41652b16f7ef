-- Statements that mean too large a formula: the first of them.
--
--   known_more     == what is known behind one statement more
--   large_more     == one of several statements is large, or the one behind them
--   large_now      == the first one that is large stays the first
--   large_answer   == one of the statements of a text is the first that is large, or none is
--   large_first    == the first one begins before the others
use Rattle.std.proofs.Common.{◌≡◌, ℕ, ◌+◌, ◌<◌, ◌≤◌, ◌⊎◌, List, [], ◌∷◌, ◌++◌, length, Option, Some, None, inl, inr, refl, sym, ap, subst, ◌∙◌, arith, append_assoc}
use Rattle.std.proofs.lemmas.List.{append-nil}
use Rattle.ml_lists.proofs.Decided.{Decided, decided_less}
use Rattle.ml_text.specs.Limits.{most_occurrences}
use Rattle.ml_front.specs.Connectives.{occurrences}
use Rattle.ml_front.specs.Replaced.{Definition}
use Rattle.ml_front.specs.declared.logic.Logic.{Logic}
use Rattle.ml_front.specs.declared.problem.AnyFormula.{AnyFormula}
use Rattle.ml_spec.specs.Items.{ItemText}
use Rattle.ml_spec.specs.Known.{known, known_behind, known_from, nothing, Known}
use Rattle.ml_spec.specs.Laws.{AreApart}
use Rattle.ml_spec.specs.Meaning.{formula_of, HasLarge, IsLarge}
use Rattle.ml_spec.specs.Statements.{AreStatements, Saying, Statement}
use Rattle.ml_spec.specs.private.Stages.{IsFirstLarge}

known_from_more : (k : Known) (ss : List Statement) (s : Statement)
    → known_from k (ss ++ s ∷ []) ≡ known_behind (known_from k ss) s.says
known_from_more k [] s = refl
known_from_more k (t ∷ ts) s = known_from_more (known_behind k t.says) ts s

pub known_more : (ss : List Statement) (s : Statement) → known (ss ++ s ∷ []) ≡ known_behind (known ss) s.says
known_more ss s = known_from_more nothing ss s

-- ---- one by one

module _ (l : Logic) where
  abbrev pub LargeFrom : Known → List Statement → ℕ → Type 0
  LargeFrom k [] at = ⊥
  LargeFrom k (s ∷ ss) at = (IsLarge l k.definitions s.says × (at ≡ s.at)) ⊎ LargeFrom (known_behind k s.says) ss at

  from_split : (k : Known) (before : List Statement) (s : Statement) (after : List Statement) (at : ℕ)
      → IsLarge l (known_from k before).definitions s.says
      → at ≡ s.at
      → LargeFrom k (before ++ s ∷ after) at
  from_split k [] s after at large is = inl (large, is)
  from_split k (t ∷ ts) s after at large is = inr (from_split (known_behind k t.says) ts s after at large is)

  one_by_one : (ss : List Statement) (at : ℕ) → HasLarge l ss at → LargeFrom nothing ss at
  one_by_one ss at has =
      subst (λ ts. LargeFrom nothing ts at) (sym has.are_statements)
      (from_split nothing has.before has.statement has.after at has.is_large has.is_at)

  pub back : (done ss : List Statement) (at : ℕ) → LargeFrom (known done) ss at → HasLarge l (done ++ ss) at
  back done [] at large = absurd large
  back done (s ∷ ss) at (inl (large, is)) = record {
    before = done;
    statement = s;
    after = ss;
    are_statements = refl;
    is_large = large;
    is_at = is;
  }
  back done (s ∷ ss) at (inr later) =
      subst (λ ts. HasLarge l ts at) (append_assoc done (s ∷ []) ss)
      (back (done ++ s ∷ []) ss at (subst (λ k. LargeFrom k ss at) (sym (known_more done s)) later))

  parts : (k : Known) (ss ts : List Statement) (at : ℕ)
      → LargeFrom k (ss ++ ts) at
      → LargeFrom k ss at ⊎ LargeFrom (known_from k ss) ts at
  parts k [] ts at large = inr large
  parts k (s ∷ ss) ts at (inl here) = inl (inl here)
  parts k (s ∷ ss) ts at (inr later) = by (parts (known_behind k s.says) ss ts at later)
    where
      by : LargeFrom (known_behind k s.says) ss at ⊎ LargeFrom (known_from (known_behind k s.says) ss) ts at
          → LargeFrom k (s ∷ ss) at ⊎ LargeFrom (known_from k (s ∷ ss)) ts at
      by (inl one) = inl (inr one)
      by (inr other) = inr other

  pub none_more : (ss : List Statement) (s : Statement)
      → ((at : ℕ) → ¬ (HasLarge l ss at))
      → ¬ (IsLarge l (known ss).definitions s.says)
      → (at : ℕ)
      → ¬ (HasLarge l (ss ++ s ∷ []) at)
  none_more ss s none small at has = by (parts nothing ss (s ∷ []) at (one_by_one (ss ++ s ∷ []) at has))
    where
      by : LargeFrom nothing ss at ⊎ LargeFrom (known ss) (s ∷ []) at → ⊥
      by (inl large) = none at (back [] ss at large)
      by (inr (inl here)) = small here.0
      by (inr (inr later)) = later

  pub none_at_first : (at : ℕ) → ¬ (HasLarge l [] at)
  none_at_first at has = one_by_one [] at has

  pub large_now : (ss : List Statement) (s : Statement)
      → ((at : ℕ) → ¬ (HasLarge l ss at))
      → IsLarge l (known ss).definitions s.says
      → IsFirstLarge l (ss ++ s ∷ []) s.at
  large_now ss s none large = record {
    before = ss;
    statement = s;
    after = [];
    are_statements = refl;
    is_large = large;
    is_at = refl;
    none_before = none;
  }

  pub large_stays : (ss : List Statement) (s : Statement) (at : ℕ) → IsFirstLarge l ss at → IsFirstLarge l (ss ++ s ∷ []) at
  large_stays ss s at first = record {
    before = first.before;
    statement = first.statement;
    after = first.after ++ s ∷ [];
    are_statements =
        ap (λ ts. ts ++ s ∷ []) first.are_statements ∙ append_assoc first.before (first.statement ∷ first.after) (s ∷ []);
    is_large = first.is_large;
    is_at = first.is_at;
    none_before = first.none_before;
  }

  pub has_first : (ss : List Statement) (at : ℕ) → IsFirstLarge l ss at → HasLarge l ss at
  has_first ss at first = record {
    before = first.before;
    statement = first.statement;
    after = first.after;
    are_statements = first.are_statements;
    is_large = first.is_large;
    is_at = first.is_at;
  }

  -- ---- some answer

  decided_large : (ds : List Definition) (s : Saying) → Decided (IsLarge l ds s)
  decided_large ds s = by (formula_of l ds s) refl
    where
      no_formula : (f : AnyFormula) → None ≡ Some f → ⊥
      no_formula f e = cc

      one_formula : (f g : AnyFormula) → Some f ≡ Some g → f ≡ g
      one_formula f g e = cc

      by : (o : Option AnyFormula) → formula_of l ds s ≡ o → Decided (IsLarge l ds s)
      by None is = inr (λ large. no_formula large.formula (sym is ∙ large.means))
      by (Some f) is = go (decided_less most_occurrences (occurrences f))
        where
          go : Decided (most_occurrences < occurrences f) → Decided (IsLarge l ds s)
          go (inl large) = inl (record { formula = f; means = is; is_large = large })
          go (inr small) =
              inr (
              λ large.
              small
              (subst (λ g. most_occurrences < occurrences g) (one_formula large.formula f (sym large.means ∙ is)) large.is_large)
              )

  abbrev pub IsAnswered : List Statement → Type 0
  IsAnswered ss = ((at : ℕ) → ¬ (HasLarge l ss at)) ⊎ ((at : ℕ) × IsFirstLarge l ss at)

  answer_from : (done ss : List Statement) → IsAnswered done → IsAnswered (done ++ ss)
  answer_from done [] is = subst IsAnswered (sym (append-nil done)) is
  answer_from done (s ∷ ss) is =
      subst IsAnswered (append_assoc done (s ∷ []) ss)
      (answer_from (done ++ s ∷ []) ss (by is (decided_large (known done).definitions s.says)))
    where
      by : IsAnswered done → Decided (IsLarge l (known done).definitions s.says) → IsAnswered (done ++ s ∷ [])
      by (inr (at, first)) large = inr (at, large_stays done s at first)
      by (inl none) (inl large) = inr (s.at, large_now done s none large)
      by (inl none) (inr small) = inl (none_more done s none small)

  pub large_answer : (ss : List Statement) → IsAnswered ss
  large_answer ss = answer_from [] ss (inl none_at_first)

  -- ---- places

  later_place : (k : Known) (p : ℕ) (is : List ItemText) (ss : List Statement) (at : ℕ)
      → AreApart p is
      → AreStatements l is ss
      → LargeFrom k ss at
      → p ≤ at
  later_place k p [] [] at apart are large = absurd large
  later_place k p [] (s ∷ ss) at apart are large = absurd are
  later_place k p (i ∷ is) [] at apart are large = absurd are
  later_place k p (i ∷ is) (s ∷ ss) at apart are (inl here) = omega (arith, apart.0, here.1, are.0.is_at)
  later_place k p (i ∷ is) (s ∷ ss) at apart are (inr later) =
      let behind = later_place (known_behind k s.says) (i.at + length i.bytes + 1) is ss at apart.1 are.1 later in
      omega (arith, behind, apart.0)

  first_behind : (k : Known) (p : ℕ) (is : List ItemText) (before : List Statement) (s : Statement) (after : List Statement) (at : ℕ)
      → AreApart p is
      → AreStatements l is (before ++ s ∷ after)
      → (LargeFrom k before at → ⊥)
      → LargeFrom k (before ++ s ∷ after) at
      → s.at ≤ at
  first_behind k p [] [] s after at apart are none large = absurd are
  first_behind k p [] (t ∷ ts) s after at apart are none large = absurd are
  first_behind k p (i ∷ is) [] s after at apart are none (inl here) = omega (arith, here.1)
  first_behind k p (i ∷ is) [] s after at apart are none (inr later) =
      let behind = later_place (known_behind k s.says) (i.at + length i.bytes + 1) is after at apart.1 are.1 later in
      omega (arith, behind, are.0.is_at)
  first_behind k p (i ∷ is) (t ∷ ts) s after at apart are none (inl here) = absurd (none (inl here))
  first_behind k p (i ∷ is) (t ∷ ts) s after at apart are none (inr later) =
      first_behind (known_behind k t.says) (i.at + length i.bytes + 1) is ts s after at apart.1 are.1 (λ large. none (inr large)) later

  pub large_first : (p : ℕ) (is : List ItemText) (ss : List Statement) (at k : ℕ)
      → AreApart p is
      → AreStatements l is ss
      → IsFirstLarge l ss at
      → HasLarge l ss k
      → at ≤ k
  large_first p is ss at k apart are first has =
      let le =
      first_behind nothing p is first.before first.statement first.after k apart
      (subst (AreStatements l is) first.are_statements are)
      (λ large. first.none_before k (back [] first.before k large))
      (subst (λ ts. LargeFrom nothing ts k) first.are_statements (one_by_one ss k has)) in
      omega (arith, le, first.is_at)

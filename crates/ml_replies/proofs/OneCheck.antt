-- Exactly one thing comes of checking a structure.
--
--   some_check == something comes of it
--   one_check  == and one thing alone
use Rattle.std.proofs.Common.{◌≡◌, ◌≢◌, ℕ, ◌<◌, ◌≤◌, ◌⊎◌, inl, inr, List, [], ◌∷◌, refl, sym, subst, arith}
use Rattle.std.specs.List.{AllByRecursion}
use Rattle.std.proofs.lemmas.Bool.{cases_lt}
use Rattle.ml_lists.proofs.Decided.{Decided}
use Rattle.ml_lists.proofs.Members.{contains_head, contains_later}
use Rattle.ml_base.specs.Structure.{Structure}
use Rattle.ml_text.specs.Limits.{most_occurrences}
use Rattle.ml_graph.specs.Graph.{Graph}
use Rattle.ml_front.specs.Connectives.{occurrences}
use Rattle.ml_front.specs.Graphs.{HasLargeClosure, IsGraphOf}
use Rattle.ml_front.specs.Logics.{logic_of, IsWellFormed}
use Rattle.ml_front.specs.Problems.{HoldsAt, IsAdmitted}
use Rattle.ml_front.specs.declared.logic.Logic.{Logic}
use Rattle.ml_front.specs.declared.logic.Logic.TheVariants as logic
use Rattle.ml_front.specs.declared.problem.Problem.{Problem}
use Rattle.ml_front.specs.declared.problem.TheConstants.{MOST_NODES}
use Rattle.ml_front.proofs.Graphs.{admitted_or_not, holds_or_fails, meaningful, never_both, IsFirstUnfit}
use Rattle.ml_front.proofs.SomeGraph.{some_graph}
use Rattle.ml_replies.specs.Laws.{OneCheck, SomeCheck}
use Rattle.ml_replies.specs.Meeting.{problem_of, problems_of, IsHeld, IsSmall}
use Rattle.ml_replies.specs.Replies.{not_admitted, MeetsAs}
use Rattle.ml_replies.specs.declared.outcome.Meets.{Meets}
use Rattle.ml_replies.specs.declared.outcome.Meets.TheVariants.{Yes, No, Unknown}
use Rattle.ml_replies.specs.private.Checks.{EachAs, JoinedAs, OneAs}
use Rattle.ml_replies.proofs.Chosen.{joined_in}
use Rattle.ml_replies.proofs.ProblemLogics.{all_admitted, IsAdmittedBy}
use Rattle.ml_replies.proofs.Verdicts.{all_if_small, as_joined, by_each_failed, by_each_met, from_joined, shown_or_fails}
use Rattle.ml_replies.proofs.WellFormedJoins.{joined_well, problems_well, IsOfWell}

-- ---- something

module _ (m : Structure) (s : ℕ) (below : s < m.states) where
  one : (p : Problem) → IsWellFormed p.formula → IsAdmitted (logic_of p.formula) m → (r : Meets) × OneAs p m s r
  one p well ok = by_closure (some_graph MOST_NODES p.negated p.formula)
    where
      by_holding : IsSmall p → Decided (HoldsAt m s p) → (r : Meets) × OneAs p m s r
      by_holding small (inl holds) = (Yes, (small, holds))
      by_holding small (inr fails) = (No, (small, fails))

      by_closure : ((g : Graph) × IsGraphOf g p × IsSmall p) ⊎ HasLargeClosure p MOST_NODES → (r : Meets) × OneAs p m s r
      by_closure (inl (g, is_graph, small)) =
          by_holding small (holds_or_fails p g m s (meaningful p.formula well) is_graph ok below)
      by_closure (inr large) = (Unknown, large)

  behind : (p : Problem) (ps : List Problem) → EachAs ps m s No → EachAs (p ∷ ps) m s No
  behind p ps (x, among, small, fails) = (x, contains_later p ps x among, small, fails)

  both : (p : Problem) (ps : List Problem) (a b : Meets) → OneAs p m s a → EachAs ps m s b → (r : Meets) × EachAs (p ∷ ps) m s r
  both p ps No b here rest = (No, (p, contains_head p ps, here.0, here.1))
  both p ps Yes No here rest = (No, behind p ps rest)
  both p ps Unknown No here rest = (No, behind p ps rest)
  both p ps Yes Yes here rest = (Yes, ((here.0, rest.0), (here.1, rest.1)))
  both p ps Yes Unknown here rest = (Unknown, ((λ all. rest.0 all.1), ((λ small. here.1), rest.1)))
  both p ps Unknown Yes here rest =
      (Unknown, ((λ all. all.0 here), ((λ small. absurd (small here)), all_if_small m s ps rest.1)))
  both p ps Unknown Unknown here rest =
      (Unknown, ((λ all. all.0 here), ((λ small. absurd (small here)), rest.1)))

  each : (ps : List Problem)
      → AllByRecursion IsOfWell ps
      → AllByRecursion (IsAdmittedBy m) ps
      → (r : Meets) × EachAs ps m s r
  each [] well ok = (Yes, (tt, tt))
  each (p ∷ ps) well ok =
      let here = one p well.0 ok.0 in let rest = each ps well.1 ok.1 in both p ps here.0 rest.0 here.1 rest.1

ltl_or_not : (l : Logic) → (l ≡ logic.Ltl) ⊎ (l ≢ logic.Ltl)
ltl_or_not logic.Ltl = inl refl
ltl_or_not logic.Mu = inr (λ e. cc)
ltl_or_not logic.Pdl = inr (λ e. cc)
ltl_or_not logic.Ctl = inr (λ e. cc)
ltl_or_not logic.Word = inr (λ e. cc)

pub some_check : SomeCheck
some_check l xs S q m s specified well is structure below = by_admitted (admitted_or_not l m structure)
  where
    joined_of_held : IsAdmitted l m → IsHeld (problem_of l xs S q) → (r : Meets) × JoinedAs (problem_of l xs S q) m s r
    joined_of_held ok held =
        let found = one m s below (problem_of l xs S q) (joined_well l xs S q well is held)
        (subst (λ k. IsAdmitted k m) (sym (joined_in l S xs specified q is)) ok) in
        (found.0, as_joined m s (problem_of l xs S q) found.0 held found.1)

    joined_by_size : IsAdmitted l m
        → (most_occurrences < occurrences (problem_of l xs S q).formula)
        ⊎ (occurrences (problem_of l xs S q).formula ≤ most_occurrences)
        → (r : Meets) × JoinedAs (problem_of l xs S q) m s r
    joined_by_size ok (inl long) = (Unknown, λ x. let held = x.0 in absurd (omega (arith, long, held)))
    joined_by_size ok (inr held) = joined_of_held ok held

    by_joined_alone : IsAdmitted l m → (l ≢ logic.Ltl → EachAs (problems_of xs S q) m s Unknown)
        → (r : Meets) × MeetsAs l xs S q m s r
    by_joined_alone ok none =
        let found = joined_by_size ok (cases_lt most_occurrences (occurrences (problem_of l xs S q).formula)) in
        (found.0, from_joined l xs S q m s specified is ok below none found.0 found.1)

    by_each : IsAdmitted l m → l ≢ logic.Ltl → (r : Meets) → EachAs (problems_of xs S q) m s r
        → (r : Meets) × MeetsAs l xs S q m s r
    by_each ok other Yes all = (Yes, by_each_met l xs S q m s specified is ok below other all)
    by_each ok other No some = (No, by_each_failed l xs S q m s specified is ok below other some)
    by_each ok other Unknown none = by_joined_alone ok (λ o. none)

    by_logic : IsAdmitted l m → (l ≡ logic.Ltl) ⊎ (l ≢ logic.Ltl) → (r : Meets) × MeetsAs l xs S q m s r
    by_logic ok (inl e) = by_joined_alone ok (λ other. absurd (other e))
    by_logic ok (inr other) =
        let found = each m s below (problems_of xs S q) (problems_well xs S q well is) (all_admitted l xs S q m specified is ok) in
        by_each ok other found.0 found.1

    by_admitted : IsAdmitted l m ⊎ ((t : ℕ) × IsFirstUnfit l m t) → (r : Meets) × MeetsAs l xs S q m s r
    by_admitted (inl ok) = by_logic ok (ltl_or_not l)
    by_admitted (inr (t, unfit)) = (No, not_admitted (λ ok. never_both l m t ok unfit))

-- ---- one thing

pub one_check : OneCheck
one_check l xs S q m s Yes Yes specified is x y = refl
one_check l xs S q m s No No specified is x y = refl
one_check l xs S q m s Unknown Unknown specified is x y = refl
one_check l xs S q m s Yes No specified is x y = absurd (shown_or_fails l xs S q m s specified is x y)
one_check l xs S q m s No Yes specified is x y = absurd (shown_or_fails l xs S q m s specified is y x)
one_check l xs S q m s Yes Unknown specified is x y = absurd (y.0 x)
one_check l xs S q m s Unknown Yes specified is x y = absurd (x.0 y)
one_check l xs S q m s No Unknown specified is x y = absurd (y.1 x)
one_check l xs S q m s Unknown No specified is x y = absurd (x.1 y)

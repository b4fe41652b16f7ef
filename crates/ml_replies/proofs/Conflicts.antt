-- Conflicts, one after the other.
--
--   reply_same, conflicts_same == what answers a question asked of some requirements answers it asked of others, where these
--                      are the same items
--   not_empty       == a conflict of requirements alone has a member
--   conflicts_are_apart == no two conflicts have one in common
use Rattle.std.proofs.Common.{◌≡◌, ℕ, ◌<◌, ◌⊎◌, inl, inr, Bool, true, false, not, ◌&&◌, List, [], ◌∷◌, ◌++◌, length, refl, sym, ap, subst, ◌∙◌, arith}
use Rattle.std.specs.List.{AllByRecursion}
use Rattle.std.proofs.lemmas.Bool.{and_parts}
use Rattle.ml_front.specs.Connectives.{joined}
use Rattle.ml_front.specs.Problems.{HoldsAt, IsSatisfiable}
use Rattle.ml_front.specs.declared.logic.Logic.{Logic}
use Rattle.ml_front.specs.declared.problem.AnyFormula.{AnyFormula}
use Rattle.ml_spec.specs.Joined.{requirements}
use Rattle.ml_spec.specs.Questions.{asked_by, chosen, is_in}
use Rattle.ml_spec.specs.declared.question.Question.{Question}
use Rattle.ml_spec.specs.declared.question.Question.TheVariants.{Consistent, Rest}
use Rattle.ml_spec.specs.declared.specification.Item.{Item}
use Rattle.ml_replies.specs.Laws.{conflicts_of, with_conflict, AreApart, ConflictsAreApart, IsApartFrom}
use Rattle.ml_replies.specs.Meeting.{beside, everything, plain, by_all, by_each, CanBeChecked, CanStayOpen, IsHeld, IsSmall}
use Rattle.ml_replies.specs.Replies.{AreBehind, AreConflicts, AreOfAll, Core, IsCore, IsReply, Replied, Reply, LeftOpen, Met, Unmet}
use Rattle.ml_replies.proofs.Chosen.{none_chosen, problem_same, problems_same}
use Rattle.ml_replies.proofs.Taken.{past_end, some_or_none}
use Rattle.ml_replies.proofs.Truth.{truth_met}

-- ---- of the same items

module _ (l : Logic) (xs : List Item) (n : ℕ) where
  abbrev pub AreSame : (ℕ → Bool) → (ℕ → Bool) → Type 0
  AreSame S T = (k : ℕ) → k < length xs → S k ≡ T k

  check_same : (S T : ℕ → Bool) (q : Question) → AreSame S T → CanBeChecked l xs S q → CanBeChecked l xs T q
  check_same S T q same (by_each other small) =
      by_each other (subst (AllByRecursion IsSmall) (problems_same xs S T q same) small)
  check_same S T q same (by_all held small) =
      by_all (subst IsHeld (problem_same l xs S T q same) held) (subst IsSmall (problem_same l xs S T q same) small)

  pub reply_same : (S T : ℕ → Bool) (q : Question) (r : Reply) → AreSame S T → IsReply l xs n S q r → IsReply l xs n T q r
  reply_same S T q (Met m s) same is = (
    check_same S T q same is.0,
    record {
      is_admitted = is.1.is_admitted;
      is_state = is.1.is_state;
      holds = subst (HoldsAt m s) (problem_same l xs S T q same) is.1.holds;
    },
  )
  reply_same S T q (Unmet c) same is = record {
    are_told = is.are_told;
    are_among = λ k taken.
        sym (same k (omega (arith, past_end c.taken k taken, is.are_told))) ∙ is.are_among k taken;
    is_held = is.is_held;
    is_small = is.is_small;
    is_refuted = is.is_refuted;
    are_parts = is.are_parts;
    are_so = is.are_so;
  }
  reply_same S T q LeftOpen same is = subst (CanStayOpen n) (problem_same l xs S T q same) is

  beside_same : (S T U : ℕ → Bool) → AreSame S T → AreSame (beside S U) (beside T U)
  beside_same S T U same k within = ap (λ b. b && not (U k)) (same k within)

  pub conflicts_same : (S T : ℕ → Bool) (q : Question) (rs : List Replied)
      → AreSame S T
      → AreConflicts l xs n S q rs
      → AreConflicts l xs n T q rs
  conflicts_same S T q [] same are = are
  conflicts_same S T q (r ∷ rs) same are =
      (are.0, reply_same S T q r.reply same are.1, by r.reply are.2 (λ V W. conflicts_same V W Rest rs))
    where
      by : (o : Reply)
          → AreBehind l xs n S o rs
          → ((V W : ℕ → Bool) → AreSame V W → AreConflicts l xs n V Rest rs → AreConflicts l xs n W Rest rs)
          → AreBehind l xs n T o rs
      by (Met m s) behind again = behind
      by (Unmet c) behind again =
          again (beside S (is_in c.taken)) (beside T (is_in c.taken)) (beside_same S T (is_in c.taken) same) behind
      by LeftOpen behind again = behind

  -- ---- a conflict of requirements alone isn't empty

  pub not_empty : (S : ℕ → Bool) (q : Question) (c : Core)
      → asked_by xs q ≡ []
      → IsCore l xs n S q c
      → (k : ℕ) × (k < length xs) × (is_in c.taken k ≡ true)
  not_empty S q c nothing core = by (some_or_none c.taken)
    where
      by : ((k : ℕ) × (is_in c.taken k ≡ true)) ⊎ ((k : ℕ) → is_in c.taken k ≡ false)
          → (k : ℕ) × (k < length xs) × (is_in c.taken k ≡ true)
      by (inl (k, taken)) = (k, omega (arith, past_end c.taken k taken, core.are_told), taken)
      by (inr none) =
          let fs : requirements (chosen (is_in c.taken) xs) ++ asked_by xs q ≡ [] =
          ap (λ ys. requirements ys ++ asked_by xs q) (none_chosen (is_in c.taken) xs none) ∙ nothing in
          absurd (core.is_refuted.is_unsatisfiable
          (subst (λ gs. IsSatisfiable (plain (joined l gs))) (sym fs) (truth_met l)))

  -- ---- conflicts are apart

  abbrev IsWithin : (ℕ → Bool) → Core → Type 0
  IsWithin S c = (k : ℕ) → is_in c.taken k ≡ true → S k ≡ true

  narrower : (S T : ℕ → Bool) → ((k : ℕ) → S k ≡ true → T k ≡ true) → (cs : List Core)
      → AllByRecursion (IsWithin S) cs
      → AllByRecursion (IsWithin T) cs
  narrower S T fewer [] all = tt
  narrower S T fewer (c ∷ cs) all = ((λ k taken. fewer k (all.0 k taken)), narrower S T fewer cs all.1)

  in_beside : (S T : ℕ → Bool) (k : ℕ) → beside S T k ≡ true → (S k ≡ true) × (not (T k) ≡ true)
  in_beside S T k is = let parts = and_parts (S k) (not (T k)) is in (parts.0, parts.1)

  apart_all : (S : ℕ → Bool) (c : Core) (cs : List Core)
      → AllByRecursion (IsWithin (beside S (is_in c.taken))) cs
      → AllByRecursion (IsApartFrom c) cs
  apart_all S c [] all = tt
  apart_all S c (d ∷ cs) all = ((λ k taken. at k taken (is_in d.taken k) refl), apart_all S c cs all.1)
    where
      at : (k : ℕ) → is_in c.taken k ≡ true → (b : Bool) → is_in d.taken k ≡ b → is_in d.taken k ≡ false
      at k taken false e = e
      at k taken true e =
          let out = (in_beside S (is_in c.taken) k (all.0 k e)).1 in
          let wrong : false ≡ true = sym (ap not taken) ∙ out in
          absurd (cc)

  apart_from : (S : ℕ → Bool) (q : Question) (rs : List Replied)
      → AreConflicts l xs n S q rs
      → AllByRecursion (IsWithin S) (conflicts_of rs) × AreApart (conflicts_of rs)
  apart_from S q [] are = absurd are
  apart_from S q (r ∷ rs) are = by r.reply are.1 are.2 (λ T. apart_from T Rest rs)
    where
      alone : rs ≡ [] → AllByRecursion (IsWithin S) (conflicts_of rs) × AreApart (conflicts_of rs)
      alone none = subst (λ os. AllByRecursion (IsWithin S) (conflicts_of os) × AreApart (conflicts_of os)) (sym none) (tt, tt)

      by : (o : Reply)
          → IsReply l xs n S q o
          → AreBehind l xs n S o rs
          → ((T : ℕ → Bool) → AreConflicts l xs n T Rest rs
          → AllByRecursion (IsWithin T) (conflicts_of rs) × AreApart (conflicts_of rs))
          → AllByRecursion (IsWithin S) (with_conflict o (conflicts_of rs)) × AreApart (with_conflict o (conflicts_of rs))
      by (Met m s) is behind again = alone behind
      by LeftOpen is behind again = alone behind
      by (Unmet c) is behind again =
          let T = beside S (is_in c.taken) in
          let rest = again T behind in (
            (is.are_among, narrower T S (λ k in_rest. (in_beside S (is_in c.taken) k in_rest).0) (conflicts_of rs) rest.0),
            (apart_all S c (conflicts_of rs) rest.0, rest.1),
          )

pub conflicts_are_apart : ConflictsAreApart
conflicts_are_apart l xs n rs x = by (requirements xs) x.are_conflicts
  where
    by : (fs : List AnyFormula) → AreOfAll l xs n fs x.conflicts → AreApart (conflicts_of x.conflicts)
    by [] none = subst (λ os. AreApart (conflicts_of os)) (sym none) tt
    by (f ∷ fs) are = (apart_from l xs n everything Consistent x.conflicts are).1

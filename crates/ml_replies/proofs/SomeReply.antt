-- Each question has an answer.
--
-- Each problem that the program holds has an answer. Where all requirements can't be met, one is left out while the others have
-- a refutation too: fewer and fewer are taken, and in the end each that is left has a structure for the others, or that stays
-- open.
--
--   numbers_within  == the numbers of the requirements in a set are numbers of items, and in the set
--   parts_or_less   == each requirement of some has a part, or some one can be left out
--   some_core       == of requirements that can't be met together there is a core
--   some_reply      == the law
use Rattle.std.proofs.Common.{◌≡◌, ℕ, zero, suc, ◌+◌, ◌<◌, ◌≤◌, ◌^◌, ◌⊎◌, ◌&&◌, Bool, true, false, cond, List, [], ◌∷◌, length, map, set, inl, inr, refl, sym, ap, subst, ◌∙◌, arith, length-set}
use Rattle.std.specs.List.{AllByRecursion}
use Rattle.std.proofs.lemmas.Bool.{cases_lt}
use Rattle.ml_base.specs.Structure.{Structure}
use Rattle.ml_text.specs.Limits.{most_occurrences}
use Rattle.ml_decide.specs.Decision.{IsMetBy, IsRefutedBy}
use Rattle.ml_decide.specs.Laws.{HasAnswer, by_refutation, by_structure, left_open}
use Rattle.ml_decide.specs.declared.way.Way.TheVariants.{Search}
use Rattle.ml_decide.proofs.SomeDecision.{some_decision}
use Rattle.ml_front.specs.Connectives.{occurrences}
use Rattle.ml_front.specs.Problems.{IsAdmitted}
use Rattle.ml_front.specs.declared.logic.Logic.{Logic}
use Rattle.ml_refutation.specs.Refutation.{Refutation}
use Rattle.ml_spec.specs.Kinds.{is_requirement}
use Rattle.ml_spec.specs.Questions.{is_in, IsQuestion}
use Rattle.ml_spec.specs.Specification.{IsSpecified}
use Rattle.ml_spec.specs.declared.question.Question.{Question}
use Rattle.ml_spec.specs.declared.specification.Item.{Item}
use Rattle.ml_replies.specs.Laws.{SomeReply}
use Rattle.ml_replies.specs.Meeting.{numbers_from, numbers_in, problem_of, without, by_all, AreWellFormed, IsHeld, IsSmall}
use Rattle.ml_replies.specs.Replies.{Core, IsCore, IsPart, IsReply, IsShown, IsWithout, LeftOpen, Met, Part, Reply, StillMet, StillOpen, Unmet, Without}
use Rattle.ml_replies.proofs.Chosen.{joined_in, problem_same}
use Rattle.ml_replies.proofs.Taken.{count, count_less, flags, flags_among, flags_are, left_same, length-flags, without_fewer, without_one}
use Rattle.ml_replies.proofs.WellFormedJoins.{joined_well}

-- ---- numbers of requirements

abbrev pub IsTaken : (ℕ → Bool) → ℕ → ℕ → Type 0
IsTaken S n k = (k < n) × (S k ≡ true)

numbers_within_from : (S : ℕ → Bool) (n m : ℕ) (xs : List Item)
    → n + length xs ≡ m
    → AllByRecursion (IsTaken S m) (numbers_from S n xs)
numbers_within_from S n m [] sum = tt
numbers_within_from S n m (x ∷ xs) sum = by (S n) refl (is_requirement x.kind) (numbers_within_from S (n + 1) m xs later)
  where
    later : n + 1 + length xs ≡ m
    later = omega (arith, sum)

    low : n < m
    low = omega (arith, sum)

    by : (b : Bool) → S n ≡ b → (c : Bool)
        → AllByRecursion (IsTaken S m) (numbers_from S (n + 1) xs)
        → AllByRecursion (IsTaken S m) (cond (b && c) (n ∷ numbers_from S (n + 1) xs) (numbers_from S (n + 1) xs))
    by true e true rest = ((low, e), rest)
    by true e false rest = rest
    by false e c rest = rest

numbers_within : (S : ℕ → Bool) (xs : List Item) → AllByRecursion (IsTaken S (length xs)) (numbers_in S xs)
numbers_within S xs = numbers_within_from S 0 (length xs) xs (omega arith)

module _ (l : Logic) (xs : List Item) (n : ℕ) (small : n < 2 ^ 32) (specified : IsSpecified l xs) (well : AreWellFormed xs)
    (q : Question) (is : IsQuestion xs q) where
  -- a problem that is held, and refuted
  abbrev IsRefuted : (ℕ → Bool) → Refutation → Type 0
  IsRefuted S r = IsHeld (problem_of l xs S q) × IsSmall (problem_of l xs S q) × IsRefutedBy (problem_of l xs S q) r

  -- ---- what is known of requirements together

  shown : (S : ℕ → Bool) (m : Structure) (s : ℕ)
      → IsHeld (problem_of l xs S q)
      → IsSmall (problem_of l xs S q)
      → IsMetBy (problem_of l xs S q) m s
      → IsShown l xs S q m s
  shown S m s held closed met = (
    by_all held closed,
    record {
      is_admitted = subst (λ k. IsAdmitted k m) (joined_in l S xs specified q is) met.is_admitted;
      is_state = met.is_state;
      holds = met.holds;
    },
  )

  abbrev Known : (ℕ → Bool) → Type 0
  Known S = ((w : Without) × IsWithout l xs n S q w) ⊎ ((r : Refutation) × IsRefuted S r)

  known : (S : ℕ → Bool) → Known S
  known S = by_size (cases_lt most_occurrences (occurrences (problem_of l xs S q).formula))
    where
      by_answer : IsHeld (problem_of l xs S q) → HasAnswer Search n (problem_of l xs S q) → Known S
      by_answer held (by_structure is_closed m s met can_be_written is_ordered) = inl (StillMet m s, shown S m s held is_closed met)
      by_answer held (by_refutation is_closed r refuted) = inr (r, (held, is_closed, refuted))
      by_answer held (left_open c stays) = inl (StillOpen, inr (c, stays))

      by_size : (most_occurrences < occurrences (problem_of l xs S q).formula)
          ⊎ (occurrences (problem_of l xs S q).formula ≤ most_occurrences)
          → Known S
      by_size (inl long) = inl (StillOpen, inl long)
      by_size (inr held) = by_answer held (some_decision Search n (problem_of l xs S q) small (joined_well l xs S q well is held))

  -- ---- parts

  record Parts (S : ℕ → Bool) (ks : List ℕ) : Type 0 where
    parts : List Part
    are_parts : map (λ p. p.requirement) parts ≡ ks
    are_so : AllByRecursion (IsPart l xs n S q) parts

  record Less (S : ℕ → Bool) : Type 0 where
    number : ℕ
    is_taken : IsTaken S (length xs) number
    refutation : Refutation
    is_refuted : IsRefuted (without S number) refutation

  parts_or_less : (S : ℕ → Bool) (ks : List ℕ) → AllByRecursion (IsTaken S (length xs)) ks → Parts S ks ⊎ Less S
  parts_or_less S [] are = inl (record { parts = []; are_parts = refl; are_so = tt })
  parts_or_less S (k ∷ ks) are = by (known (without S k)) (parts_or_less S ks are.1)
    where
      by : Known (without S k) → Parts S ks ⊎ Less S → Parts S (k ∷ ks) ⊎ Less S
      by (inr (r, refuted)) rest = inr (record { number = k; is_taken = are.0; refutation = r; is_refuted = refuted })
      by (inl so) (inr less) = inr less
      by (inl (w, so)) (inl rest) =
          inl (record {
            parts = record { requirement = k; without = w } ∷ rest.parts;
            are_parts = ap (λ js. k ∷ js) rest.are_parts;
            are_so = (so, rest.are_so);
          })

  -- ---- a core

  module _ (S : ℕ → Bool) where
    abbrev SomeCore : Type 0
    SomeCore = (c : Core) × IsCore l xs n S q c

    record Conflict (bs : List Bool) : Type 0 where
      are_told : length bs ≡ length xs
      are_among : (k : ℕ) → is_in bs k ≡ true → S k ≡ true
      refutation : Refutation
      is_refuted : IsRefuted (is_in bs) refutation

    -- where a requirement can be left out, there are fewer
    step : (bs : List Bool)
        → Conflict bs
        → ((cs : List Bool) → count (is_in cs) (length xs) < count (is_in bs) (length xs) → Conflict cs → SomeCore)
        → SomeCore
    step bs c again = by (parts_or_less (is_in bs) (numbers_in (is_in bs) xs) (numbers_within (is_in bs) xs))
      where
        by : Parts (is_in bs) (numbers_in (is_in bs) xs) ⊎ Less (is_in bs) → SomeCore
        by (inl found) = (
          record { taken = bs; parts = found.parts; refutation = c.refutation },
          record {
            are_told = c.are_told;
            are_among = c.are_among;
            is_held = c.is_refuted.0;
            is_small = c.is_refuted.1;
            is_refuted = c.is_refuted.2;
            are_parts = found.are_parts;
            are_so = found.are_so;
          },
        )
        by (inr less) =
            let k = less.number in
            let within : k < length bs = omega (arith, c.are_told, less.is_taken.0) in
            let same = left_same bs k within in
            let fewer = count_less (is_in bs) (without (is_in bs) k) (length xs) k
            (λ j taken. without_fewer (is_in bs) k j taken) less.is_taken.0 less.is_taken.1 (without_one (is_in bs) k) in
            again (set bs k false)
            (subst (λ T. count T (length xs) < count (is_in bs) (length xs)) (sym same) fewer)
            (record {
              are_told = length-set bs k false ∙ c.are_told;
              are_among = λ j taken. c.are_among j (without_fewer (is_in bs) k j (subst (λ T. T j ≡ true) same taken));
              refutation = less.refutation;
              is_refuted = subst (λ T. IsRefuted T less.refutation) (sym same) less.is_refuted;
            })

    some_core_by : (fuel : ℕ) (bs : List Bool) → count (is_in bs) (length xs) ≤ fuel → Conflict bs → SomeCore
    some_core_by zero bs few c = step bs c (λ cs less d. absurd (omega (arith, few, less)))
    some_core_by (suc fuel) bs few c = step bs c (λ cs less d. some_core_by fuel cs (omega (arith, few, less)) d)

    some_core : (r : Refutation) → IsRefuted S r → SomeCore
    some_core r refuted =
        let bs = flags S (length xs) in
        let same = problem_same l xs S (is_in bs) q (λ k below. sym (flags_are S (length xs) k below)) in
        some_core_by (count (is_in bs) (length xs)) bs (omega arith)
        (record {
          are_told = length-flags S (length xs);
          are_among = λ k taken. flags_among S (length xs) k taken;
          refutation = r;
          is_refuted = subst (λ p. IsHeld p × IsSmall p × IsRefutedBy p r) same refuted;
        })

    one_reply : (r : Reply) × IsReply l xs n S q r
    one_reply = by (known S)
      where
        by_without : (w : Without) → IsWithout l xs n S q w → (r : Reply) × IsReply l xs n S q r
        by_without (StillMet m s) so = (Met m s, so)
        by_without StillOpen so = (LeftOpen, so)

        by : Known S → (r : Reply) × IsReply l xs n S q r
        by (inl (w, so)) = by_without w so
        by (inr (r, refuted)) = let core = some_core r refuted in (Unmet core.0, core.1)

pub some_reply : SomeReply
some_reply l xs n S q small specified well is = one_reply l xs n small specified well q is S

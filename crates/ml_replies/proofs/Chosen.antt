-- Which items are chosen, and what is joined of them.
--
--   chosen_from_same, chosen_same == sets that agree on the numbers of items choose the same items
--   problem_same, problems_same == so their problems are the same
--   none_chosen     == where no number is in a set, no item is chosen
--   joined_in       == what is joined for a question is of the logic
--   asked_in        == so is what a question asks for
--   problem_is      == the problem that is made of them
--   required_plain  == the problem of a requirement is plain
use Rattle.std.proofs.Common.{◌≡◌, ℕ, suc, ◌+◌, ◌<◌, Bool, true, false, cond, List, [], ◌∷◌, ◌++◌, length, map, refl, sym, ap, ◌∙◌, arith}
use Rattle.ml_lists.proofs.AllOf.{all_parts}
use Rattle.ml_front.specs.Connectives.{joined, AreOf}
use Rattle.ml_front.specs.Logics.{logic_of}
use Rattle.ml_front.specs.declared.logic.Logic.{Logic}
use Rattle.ml_front.specs.declared.problem.Problem.{Problem}
use Rattle.ml_front.proofs.Connected.{joined_logic}
use Rattle.ml_spec.specs.Joined.{requirements}
use Rattle.ml_spec.specs.Questions.{asked_by, chosen, chosen_from, joined_of, parts_of, IsQuestion}
use Rattle.ml_spec.specs.Specification.{IsSpecified}
use Rattle.ml_spec.specs.Kinds.{is_requirement}
use Rattle.ml_spec.specs.declared.kind.Kind.{Kind}
use Rattle.ml_spec.specs.declared.kind.Kind.TheVariants as kind
use Rattle.ml_spec.specs.declared.question.Question.{Question}
use Rattle.ml_spec.specs.declared.specification.Item.{Item}
use Rattle.ml_spec.proofs.ChosenItems.{parts_in}
use Rattle.ml_replies.specs.Meeting.{is_negated, plain, problem_by_item, problem_of, problems_asked, problems_of}

pub chosen_from_same : (S T : ℕ → Bool) (n : ℕ) (xs : List Item)
    → ((k : ℕ) → k < length xs → S (n + k) ≡ T (n + k))
    → chosen_from S n xs ≡ chosen_from T n xs
chosen_from_same S T n [] same = refl
chosen_from_same S T n (x ∷ xs) same =
    by (S n) (T n) here (chosen_from S (n + 1) xs) (chosen_from T (n + 1) xs)
    (chosen_from_same S T (n + 1) xs
    (λ k below. let e : n + 1 + k ≡ n + suc k = omega arith in
    ap S e ∙ same (suc k) (omega (arith, below)) ∙ ap T (sym e)))
  where
    here : S n ≡ T n
    here = let e : n ≡ n + 0 = omega arith in ap S e ∙ same 0 (omega arith) ∙ ap T (sym e)

    by : (b c : Bool) → b ≡ c → (ys zs : List Item) → ys ≡ zs → cond b (x ∷ ys) ys ≡ cond c (x ∷ zs) zs
    by b c e ys zs are = ap (λ d. cond d (x ∷ ys) ys) e ∙ ap (λ ws. cond c (x ∷ ws) ws) are

pub chosen_same : (S T : ℕ → Bool) (xs : List Item)
    → ((k : ℕ) → k < length xs → S k ≡ T k)
    → chosen S xs ≡ chosen T xs
chosen_same S T xs same =
    chosen_from_same S T 0 xs (λ k below. let e : 0 + k ≡ k = omega arith in ap S e ∙ same k below ∙ ap T (sym e))

pub problem_same : (l : Logic) (xs : List Item) (S T : ℕ → Bool) (q : Question)
    → ((k : ℕ) → k < length xs → S k ≡ T k)
    → problem_of l xs S q ≡ problem_of l xs T q
problem_same l xs S T q same =
    let items = chosen_same S T xs same in
    λ i. record { formula = joined l (requirements (items i) ++ asked_by xs q); negated = false }

pub problems_same : (xs : List Item) (S T : ℕ → Bool) (q : Question)
    → ((k : ℕ) → k < length xs → S k ≡ T k)
    → problems_of xs S q ≡ problems_of xs T q
problems_same xs S T q same =
    ap (λ ys. problems_asked xs q ++ map plain (requirements ys)) (chosen_same S T xs same)

none_from : (S : ℕ → Bool) (n : ℕ) (xs : List Item) → ((k : ℕ) → S k ≡ false) → chosen_from S n xs ≡ []
none_from S n [] none = refl
none_from S n (x ∷ xs) none =
    ap (λ b. cond b (x ∷ chosen_from S (n + 1) xs) (chosen_from S (n + 1) xs)) (none n) ∙ none_from S (n + 1) xs none

pub none_chosen : (S : ℕ → Bool) (xs : List Item) → ((k : ℕ) → S k ≡ false) → chosen S xs ≡ []
none_chosen S xs none = none_from S 0 xs none

pub joined_in : (l : Logic) (S : ℕ → Bool) (xs : List Item)
    → IsSpecified l xs
    → (q : Question)
    → IsQuestion xs q
    → logic_of (joined_of l S xs q) ≡ l
joined_in l S xs specified q is = joined_logic l (parts_of S xs q) (parts_in l S xs specified q is)

pub asked_in : (l : Logic) (S : ℕ → Bool) (xs : List Item)
    → IsSpecified l xs
    → (q : Question)
    → IsQuestion xs q
    → AreOf l (requirements (chosen S xs)) × AreOf l (asked_by xs q)
asked_in l S xs specified q is =
    all_parts (λ f. logic_of f ≡ l) (requirements (chosen S xs)) (asked_by xs q) (parts_in l S xs specified q is)

-- the problem of a requirement is plain
pub required_plain : (x : Item) → is_requirement x.kind ≡ true → problem_by_item x ≡ plain x.formula
required_plain x required = λ i. record { formula = x.formula; negated = (plain_kind x.kind required) i }
  where
    plain_kind : (k : Kind) → is_requirement k ≡ true → is_negated k ≡ false
    plain_kind kind.Require e = refl
    plain_kind kind.Possible e = refl
    plain_kind kind.Follows e = let wrong : false ≡ true = e in absurd (cc)

-- the problem that is made of requirements and a question
pub problem_is : (l : Logic) (xs : List Item) (S : ℕ → Bool) (q : Question) (p : Problem)
    → p.formula ≡ joined_of l S xs q
    → p.negated ≡ false
    → p ≡ problem_of l xs S q
problem_is l xs S q p formula plain = λ i. record { formula = formula i; negated = plain i }

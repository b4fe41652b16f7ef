-- What holds of answers by their definitions.
--
--   ChecksAreEnough  == in all logics but LTL of paths a joined formula holds where each of its formulas does, and only there
--   MetIsMet         == where a structure answers, the requirements can be met where the question is asked
--   UnmetIsRefuted   == where it is a conflict, its requirements can't be met together where the question is asked
--   NeededOnesAre    == without one of them beside which a structure stands, the others can
--   FewerAreMet      == fewer requirements can be met wherever more of them can
--   NeverBoth        == no question is answered by a structure and by a conflict, asked of the same requirements, with
--                       whichever limits
--   AreApart cs      == no two of the conflicts cs have a requirement in common
--   conflicts_of rs  == the conflicts among the answers rs
--   ConflictsAreApart == the conflicts that are told of all requirements are apart
--   SomeCheck, OneCheck == exactly one thing comes of checking a structure: it meets requirements and a question, or fails to,
--                       or that can't be told
--   SomeReply        == each question has an answer, asked of whichever requirements, with each limit of 32 bits
--   SomeReplies      == each specification has answers
use Rattle.std.specs.Prelude.{ℕ, ◌≡◌, ◌≢◌, ◌<◌, ◌^◌, ◌↔◌, ⊤, Bool, true, false, List, [], ◌∷◌}
use Rattle.std.specs.List.{AllByRecursion}
use Rattle.ml_base.specs.Structure.{Structure, IsStructure}
use Rattle.ml_front.specs.Problems.{HoldsAt, IsAdmitted}
use Rattle.ml_front.specs.declared.logic.Logic.{Logic}
use Rattle.ml_front.specs.declared.logic.Logic.TheVariants.{Ltl}
use Rattle.ml_spec.specs.Questions.{is_in, IsQuestion}
use Rattle.ml_spec.specs.Specification.{IsSpecified}
use Rattle.ml_spec.specs.declared.question.Question.{Question}
use Rattle.ml_spec.specs.declared.specification.Item.{Item}
use Rattle.ml_replies.specs.Meeting.{problem_of, problems_of, AreWellFormed, CanMeet}
use Rattle.ml_replies.specs.Replies.{AreReplies, Core, IsReply, IsWithout, MeetsAs, Replied, Reply, Met, StillMet, Unmet}
use Rattle.ml_replies.specs.declared.outcome.Meets.{Meets}

abbrev pub ChecksAreEnough : Type 0
ChecksAreEnough = (l : Logic) (xs : List Item) (S : ℕ → Bool) (q : Question) (m : Structure) (s : ℕ)
    → IsSpecified l xs
    → IsQuestion xs q
    → l ≢ Ltl
    → IsAdmitted l m
    → s < m.states
    → HoldsAt m s (problem_of l xs S q) ↔ AllByRecursion (HoldsAt m s) (problems_of xs S q)

abbrev pub MetIsMet : Type 0
MetIsMet = (l : Logic) (xs : List Item) (n : ℕ) (S : ℕ → Bool) (q : Question) (m : Structure) (s : ℕ)
    → IsSpecified l xs
    → IsQuestion xs q
    → IsReply l xs n S q (Met m s)
    → CanMeet l xs S q

abbrev pub UnmetIsRefuted : Type 0
UnmetIsRefuted = (l : Logic) (xs : List Item) (n : ℕ) (S : ℕ → Bool) (q : Question) (c : Core)
    → IsReply l xs n S q (Unmet c) → ¬ (CanMeet l xs (is_in c.taken) q)

abbrev pub NeededOnesAre : Type 0
NeededOnesAre = (l : Logic) (xs : List Item) (n : ℕ) (S : ℕ → Bool) (q : Question) (m : Structure) (s : ℕ)
    → IsSpecified l xs
    → IsQuestion xs q
    → IsWithout l xs n S q (StillMet m s)
    → CanMeet l xs S q

abbrev pub FewerAreMet : Type 0
FewerAreMet = (l : Logic) (xs : List Item) (q : Question) (S T : ℕ → Bool)
    → IsSpecified l xs
    → IsQuestion xs q
    → ((k : ℕ) → T k ≡ true → S k ≡ true)
    → CanMeet l xs S q
    → CanMeet l xs T q

abbrev pub NeverBoth : Type 0
NeverBoth = (l : Logic) (xs : List Item) (q : Question) (n k : ℕ) (S : ℕ → Bool) (m : Structure) (s : ℕ) (c : Core)
    → IsSpecified l xs
    → IsQuestion xs q
    → IsReply l xs n S q (Met m s)
    → IsReply l xs k S q (Unmet c)
    → ⊥

-- ---- conflicts

abbrev pub IsApartFrom : Core → Core → Type 0
IsApartFrom c d = (k : ℕ) → is_in c.taken k ≡ true → is_in d.taken k ≡ false

abbrev pub AreApart : List Core → Type 0
AreApart [] = ⊤
AreApart (c ∷ cs) = AllByRecursion (IsApartFrom c) cs × AreApart cs

abbrev pub with_conflict : Reply → List Core → List Core
with_conflict (Unmet c) cs = c ∷ cs
with_conflict r cs = cs

abbrev pub conflicts_of : List Replied → List Core
conflicts_of [] = []
conflicts_of (r ∷ rs) = with_conflict r.reply (conflicts_of rs)

abbrev pub ConflictsAreApart : Type 0
ConflictsAreApart = (l : Logic) (xs : List Item) (n : ℕ) (rs : List Replied) (x : AreReplies l xs n rs)
    → AreApart (conflicts_of x.conflicts)

-- ---- checks

abbrev pub SomeCheck : Type 0
SomeCheck = (l : Logic) (xs : List Item) (S : ℕ → Bool) (q : Question) (m : Structure) (s : ℕ)
    → IsSpecified l xs
    → AreWellFormed xs
    → IsQuestion xs q
    → IsStructure m
    → s < m.states
    → (r : Meets) × MeetsAs l xs S q m s r

abbrev pub OneCheck : Type 0
OneCheck = (l : Logic) (xs : List Item) (S : ℕ → Bool) (q : Question) (m : Structure) (s : ℕ) (r t : Meets)
    → IsSpecified l xs
    → IsQuestion xs q
    → MeetsAs l xs S q m s r
    → MeetsAs l xs S q m s t
    → r ≡ t

-- ---- some answer

abbrev pub SomeReply : Type 0
SomeReply = (l : Logic) (xs : List Item) (n : ℕ) (S : ℕ → Bool) (q : Question)
    → n < 2 ^ 32
    → IsSpecified l xs
    → AreWellFormed xs
    → IsQuestion xs q
    → (r : Reply) × IsReply l xs n S q r

abbrev pub SomeReplies : Type 0
SomeReplies = (l : Logic) (xs : List Item) (n : ℕ)
    → n < 2 ^ 32
    → IsSpecified l xs
    → AreWellFormed xs
    → (rs : List Replied) × AreReplies l xs n rs

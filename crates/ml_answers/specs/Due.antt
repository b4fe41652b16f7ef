-- Which questions are due, and which answers may stand in their lines.
--
-- First, where there are requirements, it is told whether they are consistent; behind each conflict, whether the rest is, which
-- is the requirements that no conflict before it names; and then the further questions are answered, in their order.
--
--   Due                == the rest, and the questions that are due, in their order
--   asked_of R q       == the requirements of which q is asked, where R is the rest
--   begun xs           == what is due at first, of the items xs
--   behind d r         == what is due behind the answer r, where it answers the first question that is due in d
--   is_required xs k   == is the item with this number a requirement?
--   is_of_conflict q   == does q ask whether requirements are consistent?
--   FitsCore xs S q c  == the requirements of c are some of those in S, and its parts are these, in order; where it is asked
--                         whether they are consistent, there is one
--   Fits xs S q r      == the answer r may stand in a line of the question q, asked of the requirements in S
--   MayStand xs d r    == r answers the first question that is due in d, by an answer that may stand there
--   LeadTo xs d rs e   == so does each of the answers rs, one by one, and behind them e is due
--   AreAll xs rs       == the answers rs may stand one by one, and behind them no question is due
use Rattle.std.specs.Prelude.{ℕ, ◌≡◌, ◌≢◌, ◌&&◌, ⊤, Bool, true, false, List, [], ◌∷◌, Option, None, Some, drop, length, map, slice_get}
use Rattle.ml_front.specs.declared.problem.AnyFormula.{AnyFormula}
use Rattle.ml_spec.specs.Joined.{requirements}
use Rattle.ml_spec.specs.Kinds.{is_requirement}
use Rattle.ml_spec.specs.Questions.{asking, is_in}
use Rattle.ml_spec.specs.declared.question.Question.{Question}
use Rattle.ml_spec.specs.declared.question.Question.TheVariants.{Consistent, Rest, Asks}
use Rattle.ml_spec.specs.declared.specification.Item.{Item}
use Rattle.ml_replies.specs.Meeting.{beside, everything, numbers_in}
use Rattle.ml_replies.specs.Replies.{Core, Replied, Reply, Unmet}

-- ---- what is due

pub record Due : Type 0 where
  pub rest : ℕ → Bool
  pub questions : List Question

abbrev pub asked_of : (ℕ → Bool) → Question → ℕ → Bool
asked_of R (Asks n) = everything
asked_of R q = R

abbrev pub with_consistency : List AnyFormula → List Question → List Question
with_consistency [] qs = qs
with_consistency (f ∷ fs) qs = Consistent ∷ qs

abbrev pub begun : List Item → Due
begun xs = record { rest = everything; questions = with_consistency (requirements xs) (asking xs) }

-- only conflicts change the rest, and want a line of it
abbrev pub rest_behind : (ℕ → Bool) → Question → Reply → ℕ → Bool
rest_behind R (Asks n) r = R
rest_behind R q (Unmet c) = beside R (is_in c.taken)
rest_behind R q r = R

abbrev pub due_behind : Question → Reply → List Question → List Question
due_behind (Asks n) r qs = qs
due_behind q (Unmet c) qs = Rest ∷ qs
due_behind q r qs = qs

abbrev pub behind : Due → Replied → Due
behind d r = record {
  rest = rest_behind d.rest r.question r.reply;
  questions = due_behind r.question r.reply (drop 1 d.questions);
}

-- ---- what may stand there

abbrev pub item_is_required : Option Item → Bool
item_is_required None = false
item_is_required (Some x) = is_requirement x.kind

abbrev pub is_required : List Item → ℕ → Bool
is_required xs k = item_is_required (slice_get xs k)

abbrev pub is_of_conflict : Question → Bool
is_of_conflict (Asks n) = false
is_of_conflict q = true

pub record FitsCore (xs : List Item) (S : ℕ → Bool) (q : Question) (c : Core) : Type 0 where
  pub are_told : length c.taken ≡ length xs
  pub are_among : (k : ℕ) → is_in c.taken k ≡ true → (is_required xs k && S k) ≡ true
  pub are_parts : map (λ p. p.requirement) c.parts ≡ numbers_in (is_in c.taken) xs
  pub some_named : is_of_conflict q ≡ true → c.parts ≢ []

abbrev pub Fits : List Item → (ℕ → Bool) → Question → Reply → Type 0
Fits xs S q (Unmet c) = FitsCore xs S q c
Fits xs S q r = ⊤

abbrev pub MayStandFirst : List Item → (ℕ → Bool) → List Question → Replied → Type 0
MayStandFirst xs R [] r = ⊥
MayStandFirst xs R (q ∷ qs) r = (r.question ≡ q) × Fits xs (asked_of R q) q r.reply

abbrev pub MayStand : List Item → Due → Replied → Type 0
MayStand xs d r = MayStandFirst xs d.rest d.questions r

-- ---- all answers

abbrev pub LeadTo : List Item → Due → List Replied → Due → Type 0
LeadTo xs d [] e = d ≡ e
LeadTo xs d (r ∷ rs) e = MayStand xs d r × LeadTo xs (behind d r) rs e

abbrev pub AreAll : List Item → List Replied → Type 0
AreAll xs rs = (d : Due) × LeadTo xs (begun xs) rs d × (d.questions ≡ [])

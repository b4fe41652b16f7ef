-- Answers that are all shown are those of the specification.
--
--   reply_so      == an answer that is shown, and may stand in its line, is right, whichever the limit
--   others_so     == so are those to the questions of the items
--   conflicts_so  == and those that tell of conflicts
--   replies_so    == so they are the answers of the specification
use Rattle.std.proofs.Common.{◌≡◌, ◌≢◌, ℕ, ◌+◌, Bool, true, false, cond, List, [], ◌∷◌, ◌++◌, length, map, refl, sym, ap, subst, ◌∙◌, arith}
use Rattle.std.specs.Prelude.{⊤}
use Rattle.std.specs.List.{AllByRecursion}
use Rattle.std.proofs.lemmas.Bool.{and_parts, false≢true}
use Rattle.ml_front.specs.Problems.{IsSatisfiable}
use Rattle.ml_front.specs.declared.logic.Logic.{Logic}
use Rattle.ml_front.specs.declared.problem.AnyFormula.{AnyFormula}
use Rattle.ml_refutation.specs.Refutation.{Refutation, IsRefutation}
use Rattle.ml_spec.specs.Joined.{requirements}
use Rattle.ml_spec.specs.Questions.{asking, asking_from, is_in, IsQuestion}
use Rattle.ml_spec.specs.Kinds.{is_requirement}
use Rattle.ml_spec.specs.declared.question.Question.{Question}
use Rattle.ml_spec.specs.declared.question.Question.TheVariants.{Consistent, Rest, Asks}
use Rattle.ml_spec.specs.declared.specification.Item.{Item}
use Rattle.ml_replies.specs.Meeting.{beside, everything, problem_of, without}
use Rattle.ml_replies.specs.Replies as replies
use Rattle.ml_replies.specs.Replies.{AreBehind, AreConflicts, AreOfAll, AreReplies, IsPart, IsReply, Part, Replied, Reply, LeftOpen, Met, StillMet, StillOpen, Unmet, Without}
use Rattle.ml_replies.proofs.SomeReplies.{all_asked}
use Rattle.ml_answers.specs.Checked.{placed, AreShown, IsRefuted, IsShownAt, IsShownBy, IsShownWithout}
use Rattle.ml_answers.specs.Documents.{AreBlocks, IsBody}
use Rattle.ml_answers.specs.Due.{asked_of, begun, due_behind, is_of_conflict, is_required, rest_behind, with_consistency, Due, Fits, LeadTo}

-- the refutations of a document are such
abbrev pub HasRefutation : Reply → Type 0
HasRefutation (Unmet c) = IsRefutation c.refutation
HasRefutation r = ⊤

body_has : (xs : List Item) (r : Reply) (text : List ℕ) → IsBody xs r text → HasRefutation r
body_has xs (Met m s) text is = tt
body_has xs (Unmet c) text is = is.is_first.0
body_has xs LeftOpen text is = tt

pub blocks_have : (xs : List Item) (rs : List Replied) (text : List ℕ)
    → AreBlocks xs rs text
    → AllByRecursion (λ r. HasRefutation r.reply) rs
blocks_have xs [] text is = tt
blocks_have xs (r ∷ rs) text is =
    (body_has xs r.reply is.is_first.second is.is_first.is_second, blocks_have xs rs is.second is.is_second)

-- what an accepted refutation tells
abbrev pub Sound : Logic → List Item → Type 0
Sound l xs = (S : ℕ → Bool) (q : Question) (r : Refutation)
    → IsQuestion xs q
    → IsRefutation r
    → IsRefuted (problem_of l xs S q) r
    → ¬ (IsSatisfiable (problem_of l xs S q))

module _ (l : Logic) (xs : List Item) (n : ℕ) (sound : Sound l xs) where
  parts_so : (S : ℕ → Bool) (q : Question) (ps : List Part) → AreShown l xs S q ps → AllByRecursion (IsPart l xs n S q) ps
  parts_so S q [] shown = tt
  parts_so S q (p ∷ ps) shown = (by p.without shown.0, parts_so S q ps shown.1)
    where
      by : (w : Without)
          → IsShownWithout l xs (without S p.requirement) q w
          → replies.IsWithout l xs n (without S p.requirement) q w
      by (StillMet m s) shown = shown
      by StillOpen shown = absurd shown

  pub reply_so : (S : ℕ → Bool) (q : Question) (r : Reply)
      → IsQuestion xs q
      → Fits xs S q r
      → HasRefutation r
      → IsShownBy l xs S q r
      → IsReply l xs n S q r
  reply_so S q (Met m s) question fits has shown = shown
  reply_so S q (Unmet c) question fits has shown = record {
    are_told = fits.are_told;
    are_among = λ k e. (and_parts (is_required xs k) (S k) (fits.are_among k e)).1;
    is_held = shown.0.is_held;
    is_small = shown.0.is_small;
    is_refuted = record {
      is_refutation = has;
      is_accepted = shown.0.is_accepted;
      is_unsatisfiable = sound (is_in c.taken) q c.refutation question has shown.0;
    };
    are_parts = fits.are_parts;
    are_so = parts_so (is_in c.taken) q c.parts shown.1;
  }
  reply_so S q LeftOpen question fits has shown = absurd shown

  -- ---- the further questions

  abbrev AreOfItems : List Question → Type 0
  AreOfItems qs = AllByRecursion (λ q. IsQuestion xs q × (is_of_conflict q ≡ false)) qs

  abbrev AllShown : (ℕ → Bool) → List Replied → List ℕ → Type 0
  AllShown R rs ks = AllByRecursion (IsShownAt l xs) (placed R rs ks)

  pub record AreOthers (qs : List Question) (rs : List Replied) : Type 0 where
    pub are_questions : map (λ r. r.question) rs ≡ qs
    pub are_answers : AllByRecursion (λ r. IsReply l xs n everything r.question r.reply) rs

  pub others_so : (R : ℕ → Bool) (qs : List Question) (rs : List Replied) (ks : List ℕ) (e : Due)
      → length ks ≡ length rs
      → LeadTo xs (record { rest = R; questions = qs }) rs e
      → e.questions ≡ []
      → AreOfItems qs
      → AllByRecursion (λ r. HasRefutation r.reply) rs
      → AllShown R rs ks
      → AreOthers qs rs
  others_so R qs [] ks e told lead end of has shown = record {
    are_questions = sym (ap (λ d. d.questions) lead ∙ end);
    are_answers = tt;
  }
  others_so R qs (r ∷ rs) [] e told lead end of has shown = absurd (omega (arith, told))
  others_so R [] (r ∷ rs) (k ∷ ks) e told lead end of has shown = absurd lead.0
  others_so R (Consistent ∷ qs) (r ∷ rs) (k ∷ ks) e told lead end of has shown = absurd (false≢true (sym of.0.1))
  others_so R (Rest ∷ qs) (r ∷ rs) (k ∷ ks) e told lead end of has shown = absurd (false≢true (sym of.0.1))
  others_so R (Asks m ∷ qs) (r ∷ rs) (k ∷ ks) e told lead end of has shown =
      let is = lead.0.0 in
      let later : LeadTo xs (record { rest = R; questions = qs }) rs e =
      subst
      (λ q. LeadTo xs (record { rest = rest_behind R q r.reply; questions = due_behind q r.reply qs }) rs e)
      is lead.1 in
      let rest_shown : AllShown R rs ks = subst (λ q. AllShown (rest_behind R q r.reply) rs ks) is shown.1 in
      let here : IsShownBy l xs everything (Asks m) r.reply =
      subst (λ q. IsShownBy l xs (asked_of R q) q r.reply) is shown.0 in
      let rest = others_so R qs rs ks e (omega (arith, told)) later end of.1 has.1 rest_shown in
      record {
        are_questions =
            ap (λ q. q ∷ map (λ r. r.question) rs) is ∙ ap (λ ps. Asks m ∷ ps) rest.are_questions;
        are_answers = (
          subst (λ q. IsReply l xs n everything q r.reply) (sym is)
              (reply_so everything (Asks m) r.reply of.0.0 lead.0.1 has.0 here),
          rest.are_answers,
        );
      }

  -- ---- conflicts

  pub record AreTold (R : ℕ → Bool) (q : Question) (qs : List Question) (rs : List Replied) : Type 0 where
    pub conflicts : List Replied
    pub others : List Replied
    pub are_both : rs ≡ conflicts ++ others
    pub are_conflicts : AreConflicts l xs n R q conflicts
    pub are_others : AreOthers qs others

  -- an answer that is no conflict ends them
  last_told : (R : ℕ → Bool) (q : Question) (qs : List Question) (r : Replied) (rs : List Replied)
      → r.question ≡ q
      → IsReply l xs n R q r.reply
      → AreBehind l xs n R r.reply []
      → AreOthers qs rs
      → AreTold R q qs (r ∷ rs)
  last_told R q qs r rs is reply behind others = record {
    conflicts = r ∷ [];
    others = rs;
    are_both = refl;
    are_conflicts = (is, reply, behind);
    are_others = others;
  }

  pub conflicts_so : (R : ℕ → Bool) (q : Question) (qs : List Question) (rs : List Replied) (ks : List ℕ) (e : Due)
      → length ks ≡ length rs
      → is_of_conflict q ≡ true
      → LeadTo xs (record { rest = R; questions = q ∷ qs }) rs e
      → e.questions ≡ []
      → AreOfItems qs
      → AllByRecursion (λ r. HasRefutation r.reply) rs
      → AllShown R rs ks
      → AreTold R q qs rs
  conflicts_so R q qs [] ks e told conflict lead end of has shown =
      let none : q ∷ qs ≡ [] = ap (λ d. d.questions) lead ∙ end in absurd cc
  conflicts_so R q qs (r ∷ rs) [] e told conflict lead end of has shown = absurd (omega (arith, told))
  conflicts_so R q qs (r ∷ rs) (k ∷ ks) e told conflict lead end of has shown =
      let is = lead.0.0 in
      go q conflict r.reply is lead.0.1
      (subst (λ q. LeadTo xs (record { rest = rest_behind R q r.reply; questions = due_behind q r.reply qs }) rs e) is lead.1)
      (subst (λ q. IsShownBy l xs (asked_of R q) q r.reply) is shown.0)
      (subst (λ q. AllShown (rest_behind R q r.reply) rs ks) is shown.1)
      has.0
      (λ S told lead shown. conflicts_so S Rest qs rs ks e told refl lead end of has.1 shown)
    where
      has_rest : AllByRecursion (λ r. HasRefutation r.reply) rs
      has_rest = has.1

      go : (q : Question)
          → is_of_conflict q ≡ true
          → (rep : Reply)
          → r.question ≡ q
          → Fits xs (asked_of R q) q rep
          → LeadTo xs (record { rest = rest_behind R q rep; questions = due_behind q rep qs }) rs e
          → IsShownBy l xs (asked_of R q) q rep
          → AllShown (rest_behind R q rep) rs ks
          → HasRefutation rep
          → ((S : ℕ → Bool)
          → length ks ≡ length rs
          → LeadTo xs (record { rest = S; questions = Rest ∷ qs }) rs e
          → AllShown S rs ks
          → AreTold S Rest qs rs)
          → AreTold R q qs (record { question = r.question; reply = rep } ∷ rs)
      go (Asks m) of_conflict rep is fits later here behind has rest = absurd (false≢true of_conflict)
      go Consistent of_conflict (Met m s) is fits later here behind has rest =
          last_told R Consistent qs (record { question = r.question; reply = Met m s }) rs is here refl
          (others_so R qs rs ks e (omega (arith, told)) later end of has_rest behind)
      go Consistent of_conflict LeftOpen is fits later here behind has rest = absurd here
      go Consistent of_conflict (Unmet c) is fits later here behind has rest =
          let more = rest (beside R (is_in c.taken)) (omega (arith, told)) later behind in
          record {
            conflicts = record { question = r.question; reply = Unmet c } ∷ more.conflicts;
            others = more.others;
            are_both = ap (λ ss. record { question = r.question; reply = Unmet c } ∷ ss) more.are_both;
            are_conflicts = (is, reply_so R Consistent (Unmet c) tt fits has here, more.are_conflicts);
            are_others = more.are_others;
          }
      go Rest of_conflict (Met m s) is fits later here behind has rest =
          last_told R Rest qs (record { question = r.question; reply = Met m s }) rs is here refl
          (others_so R qs rs ks e (omega (arith, told)) later end of has_rest behind)
      go Rest of_conflict LeftOpen is fits later here behind has rest = absurd here
      go Rest of_conflict (Unmet c) is fits later here behind has rest =
          let more = rest (beside R (is_in c.taken)) (omega (arith, told)) later behind in
          record {
            conflicts = record { question = r.question; reply = Unmet c } ∷ more.conflicts;
            others = more.others;
            are_both = ap (λ ss. record { question = r.question; reply = Unmet c } ∷ ss) more.are_both;
            are_conflicts = (is, reply_so R Rest (Unmet c) tt fits has here, more.are_conflicts);
            are_others = more.are_others;
          }

  -- ---- all answers

  pub replies_so : (rs : List Replied) (ks : List ℕ) (e : Due)
      → length ks ≡ length rs
      → LeadTo xs (begun xs) rs e
      → e.questions ≡ []
      → AreOfItems (asking xs)
      → AllByRecursion (λ r. HasRefutation r.reply) rs
      → AllShown everything rs ks
      → AreReplies l xs n rs
  replies_so rs ks e told lead end of has shown = go (requirements xs) refl lead
    where
      go : (fs : List AnyFormula)
          → requirements xs ≡ fs
          → LeadTo xs (record { rest = everything; questions = with_consistency fs (asking xs) }) rs e
          → AreReplies l xs n rs
      go [] is lead =
          let others = others_so everything (asking xs) rs ks e told lead end of has shown in
          record {
            conflicts = [];
            others = rs;
            are_both = refl;
            are_conflicts = subst (λ fs. AreOfAll l xs n fs []) (sym is) refl;
            are_questions = others.are_questions;
            are_answers = others.are_answers;
          }
      go (f ∷ fs) is lead =
          let all = conflicts_so everything Consistent (asking xs) rs ks e told refl lead end of has shown in
          record {
            conflicts = all.conflicts;
            others = all.others;
            are_both = all.are_both;
            are_conflicts = subst (λ fs. AreOfAll l xs n fs all.conflicts) (sym is) all.are_conflicts;
            are_questions = all.are_others.are_questions;
            are_answers = all.are_others.are_answers;
          }

asking_of_items : (xs : List Item) (n : ℕ) (ys : List Item) → AllByRecursion (λ q. is_of_conflict q ≡ false) (asking_from n ys)
asking_of_items xs n [] = tt
asking_of_items xs n (y ∷ ys) = go (is_requirement y.kind) (asking_of_items xs (n + 1) ys)
  where
    go : (b : Bool)
        → AllByRecursion (λ q. is_of_conflict q ≡ false) (asking_from (n + 1) ys)
        → AllByRecursion (λ q. is_of_conflict q ≡ false) (cond b (asking_from (n + 1) ys) (Asks n ∷ asking_from (n + 1) ys))
    go true rest = rest
    go false rest = (refl, rest)

both_all : (P Q : Question → Type 0) (qs : List Question)
    → AllByRecursion P qs
    → AllByRecursion Q qs
    → AllByRecursion (λ q. P q × Q q) qs
both_all P Q [] one other = tt
both_all P Q (q ∷ qs) one other = ((one.0, other.0), both_all P Q qs one.1 other.1)

pub asking_both : (xs : List Item) → AllByRecursion (λ q. IsQuestion xs q × (is_of_conflict q ≡ false)) (asking xs)
asking_both xs = both_all (IsQuestion xs) (λ q. is_of_conflict q ≡ false) (asking xs) (all_asked xs) (asking_of_items xs 0 xs)

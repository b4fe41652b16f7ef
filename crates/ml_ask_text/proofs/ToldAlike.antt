-- Two things that are told of one text.
--
--   all_agree      == of answers to the same questions it isn't so that all say yes and some one says no
--   first_agree    == nor is it of those that tell whether requirements are consistent
--   never_against  == of two verdicts of a text it isn't so that one is as it is meant and the other against it
--   told_alike     == the law
use Rattle.std.proofs.Common.{◌≡◌, ℕ, ◌⊎◌, ◌||◌, Bool, true, false, cond, List, [], ◌∷◌, ◌++◌, map, inl, inr, refl, sym, ap, subst, ◌∙◌}
use Rattle.std.specs.List.{AllByRecursion, list_any}
use Rattle.std.proofs.lemmas.List.Folds.{list_any-append}
use Rattle.ml_front.specs.declared.logic.Logic.{Logic}
use Rattle.ml_front.specs.declared.problem.AnyFormula.{AnyFormula}
use Rattle.ml_spec.specs.Joined.{requirements}
use Rattle.ml_spec.specs.Questions.{asking, IsQuestion}
use Rattle.ml_spec.specs.Specification.{IsSpecified}
use Rattle.ml_spec.specs.declared.question.Question.{Question}
use Rattle.ml_spec.specs.declared.question.Question.TheVariants.{Consistent}
use Rattle.ml_spec.specs.declared.specification.Item.{Item}
use Rattle.ml_spec.proofs.OneAnswer as spec
use Rattle.ml_spec.proofs.SpecifiedItems.{specified}
use Rattle.ml_replies.proofs.NeverBoth.{never_both}
use Rattle.ml_replies.proofs.SomeReplies.{all_asked}
use Rattle.ml_replies.specs.Meeting.{everything}
use Rattle.ml_replies.specs.Replies.{AreBehind, AreConflicts, AreOfAll, AreReplies, IsReply, LeftOpen, Met, Replied, Reply, Unmet}
use Rattle.ml_answers.specs.Lines.{wants_structure}
use Rattle.ml_ask_text.specs.Laws.{ToldAlike}
use Rattle.ml_ask_text.specs.Told.{is_against, is_left_open, says_no, stays_open, verdict_of, IsAnswered}
use Rattle.ml_ask_text.specs.declared.told.Form.{Form}
use Rattle.ml_ask_text.specs.declared.told.Told.TheVariants.{Answered, Refused}
use Rattle.ml_ask_text.specs.declared.told.Verdict.TheVariants.{AsMeant, Against, Open}

or_false : (a b : Bool) → (a || b) ≡ false → (a ≡ false) × (b ≡ false)
or_false true b is = absurd (cc)
or_false false b is = (refl, is)

or_true : (a b : Bool) → (a || b) ≡ true → (a ≡ true) ⊎ (b ≡ true)
or_true true b is = inl refl
or_true false b is = inr is

module _ (l : Logic) (xs : List Item) (given : IsSpecified l xs) (n k : ℕ) where
  clash : (q : Question) (r o : Reply)
      → IsQuestion xs q
      → IsReply l xs n everything q r
      → IsReply l xs k everything q o
      → (wants : Bool)
      → says_no wants r ≡ false
      → stays_open r ≡ false
      → says_no wants o ≡ true
      → ⊥
  clash q (Met m s) (Unmet c) is_question met unmet wants yes_said settled no_said =
      never_both l xs q n k everything m s c given is_question met unmet
  clash q (Unmet c) (Met m s) is_question unmet met wants yes_said settled no_said =
      never_both l xs q k n everything m s c given is_question met unmet
  clash q (Met m s) (Met j t) is_question met other wants yes_said settled no_said =
      let wrong : true ≡ false = sym no_said ∙ yes_said in absurd (cc)
  clash q (Unmet c) (Unmet d) is_question unmet other wants yes_said settled no_said =
      let wrong : true ≡ false = sym no_said ∙ yes_said in absurd (cc)
  clash q (Met m s) LeftOpen is_question met other wants yes_said settled no_said = absurd (cc)
  clash q (Unmet d) LeftOpen is_question unmet other wants yes_said settled no_said = absurd (cc)
  clash q LeftOpen o is_question stays other wants yes_said settled no_said = absurd (cc)

  all_agree : (qs : List Question) (rs os : List Replied)
      → AllByRecursion (IsQuestion xs) qs
      → map (λ r. r.question) rs ≡ qs
      → map (λ r. r.question) os ≡ qs
      → AllByRecursion (λ r. IsReply l xs n everything r.question r.reply) rs
      → AllByRecursion (λ r. IsReply l xs k everything r.question r.reply) os
      → list_any (is_against xs) rs ≡ false
      → list_any is_left_open rs ≡ false
      → list_any (is_against xs) os ≡ true
      → ⊥
  all_agree qs rs [] are asked too those others none settled some = absurd (cc)
  all_agree [] rs (o ∷ os) are asked too those others none settled some = absurd (cc)
  all_agree (q ∷ qs) [] (o ∷ os) are asked too those others none settled some = absurd (cc)
  all_agree (q ∷ qs) (r ∷ rs) (o ∷ os) are asked too those others none settled some =
      by (or_true (is_against xs o) (list_any (is_against xs) os) some)
      (all_agree qs rs os are.1 (ap rest asked) (ap rest too) those.1 others.1 none_two.1 settled_two.1)
    where
      rest : List Question → List Question
      rest [] = []
      rest (p ∷ ps) = ps

      first : List Question → Question
      first [] = q
      first (p ∷ ps) = p

      none_two : (is_against xs r ≡ false) × (list_any (is_against xs) rs ≡ false)
      none_two = or_false (is_against xs r) (list_any (is_against xs) rs) none

      settled_two : (is_left_open r ≡ false) × (list_any is_left_open rs ≡ false)
      settled_two = or_false (is_left_open r) (list_any is_left_open rs) settled

      same : o.question ≡ r.question
      same = ap first too ∙ sym (ap first asked)

      by : (is_against xs o ≡ true) ⊎ (list_any (is_against xs) os ≡ true)
          → (list_any (is_against xs) os ≡ true → ⊥)
          → ⊥
      by (inl here) later =
          clash r.question r.reply o.reply (subst (IsQuestion xs) (sym (ap first asked)) are.0) those.0
          (subst (λ p. IsReply l xs k everything p o.reply) same others.0) (wants_structure xs r.question) none_two.0 settled_two.0
          (ap (λ p. says_no (wants_structure xs p) o.reply) (sym same) ∙ here)
      by (inr there) later = later there

  -- what tells that requirements are consistent in one run tells of no conflict in the other
  one_agrees : (r : Reply) (o : Reply) (os : List Replied)
      → IsReply l xs n everything Consistent r
      → IsReply l xs k everything Consistent o
      → AreBehind l xs k everything o os
      → says_no true r ≡ false
      → stays_open r ≡ false
      → (says_no true o || list_any (is_against xs) os) ≡ false
  one_agrees (Unmet c) o os unmet is behind yes_said settled = let wrong : true ≡ false = yes_said in absurd (cc)
  one_agrees LeftOpen o os stays is behind yes_said settled = let wrong : true ≡ false = settled in absurd (cc)
  one_agrees (Met m s) (Met j t) os met is behind yes_said settled = ap (list_any (is_against xs)) behind
  one_agrees (Met m s) LeftOpen os met is behind yes_said settled = ap (list_any (is_against xs)) behind
  one_agrees (Met m s) (Unmet c) os met unmet behind yes_said settled =
      absurd (never_both l xs Consistent n k everything m s c given tt met unmet)

  against_here : (q : Question) (r : Reply) → q ≡ Consistent → says_no (wants_structure xs q) r ≡ says_no true r
  against_here q r is = ap (λ p. says_no (wants_structure xs p) r) is

  all_consistent : (rs os : List Replied)
      → AreConflicts l xs n everything Consistent rs
      → AreConflicts l xs k everything Consistent os
      → list_any (is_against xs) rs ≡ false
      → list_any is_left_open rs ≡ false
      → list_any (is_against xs) os ≡ false
  all_consistent [] os are those none settled = absurd are
  all_consistent (r ∷ rs) [] are those none settled = absurd those
  all_consistent (r ∷ rs) (o ∷ os) are those none settled =
      let yes_said = or_false (is_against xs r) (list_any (is_against xs) rs) none in
      let settled_two = or_false (is_left_open r) (list_any is_left_open rs) settled in
      ap (λ b. b || list_any (is_against xs) os) (against_here o.question o.reply those.0)
      ∙ one_agrees r.reply o.reply os are.1 those.1 those.2 (sym (against_here r.question r.reply are.0) ∙ yes_said.0) settled_two.0

  first_agree : (fs : List AnyFormula) (rs os : List Replied)
      → AreOfAll l xs n fs rs
      → AreOfAll l xs k fs os
      → list_any (is_against xs) rs ≡ false
      → list_any is_left_open rs ≡ false
      → list_any (is_against xs) os ≡ false
  first_agree [] rs os are those none settled = ap (list_any (is_against xs)) those
  first_agree (f ∷ fs) rs os are those none settled = all_consistent rs os are those none settled

  replies_agree : (rs os : List Replied)
      → AreReplies l xs n rs
      → AreReplies l xs k os
      → list_any (is_against xs) rs ≡ false
      → list_any is_left_open rs ≡ false
      → list_any (is_against xs) os ≡ true
      → ⊥
  replies_agree rs os are those none settled some =
      all_agree (asking xs) are.others those.others (all_asked xs) are.are_questions those.are_questions are.are_answers
      those.are_answers none_two.1 settled_two.1 (later (or_true _ _ (sym (split (is_against xs) those.conflicts those.others those.are_both) ∙ some)))
    where
      split : (f : Replied → Bool) (cs ds : List Replied) {ts : List Replied}
          → ts ≡ cs ++ ds
          → list_any f ts ≡ (list_any f cs || list_any f ds)
      split f cs ds both = ap (list_any f) both ∙ list_any-append f cs ds

      none_two : (list_any (is_against xs) are.conflicts ≡ false) × (list_any (is_against xs) are.others ≡ false)
      none_two = or_false _ _ (sym (split (is_against xs) are.conflicts are.others are.are_both) ∙ none)

      settled_two : (list_any is_left_open are.conflicts ≡ false) × (list_any is_left_open are.others ≡ false)
      settled_two = or_false _ _ (sym (split is_left_open are.conflicts are.others are.are_both) ∙ settled)

      later : (list_any (is_against xs) those.conflicts ≡ true) ⊎ (list_any (is_against xs) those.others ≡ true)
          → list_any (is_against xs) those.others ≡ true
      later (inr there) = there
      later (inl here) =
          let wrong : true ≡ false =
          sym here
          ∙ first_agree (requirements xs) are.conflicts those.conflicts are.are_conflicts those.are_conflicts none_two.0
          settled_two.0 in
          absurd (cc)

-- ---- verdicts

is_as_meant : (b c : Bool) → cond b Against (cond c Open AsMeant) ≡ AsMeant → (b ≡ false) × (c ≡ false)
is_as_meant true c is = let wrong : Against ≡ AsMeant = is in absurd (cc)
is_as_meant false true is = let wrong : Open ≡ AsMeant = is in absurd (cc)
is_as_meant false false is = (refl, refl)

is_against_all : (b c : Bool) → cond b Against (cond c Open AsMeant) ≡ Against → b ≡ true
is_against_all true c is = refl
is_against_all false true is = let wrong : Open ≡ Against = is in absurd (cc)
is_against_all false false is = let wrong : AsMeant ≡ Against = is in absurd (cc)

never_against : (f g : Form) (text : List ℕ) (n k : ℕ) (out other : List ℕ)
    → IsAnswered f text n AsMeant out
    → IsAnswered g text k Against other
    → ⊥
never_against f g text n k out other x y =
    let one = spec.one_specification text x.logic y.logic x.items y.items x.is_specification y.is_specification in
    let l = y.logic in
    let xs = y.items in
    let mine : AreReplies l xs n x.replies =
    subst (λ j. AreReplies j xs n x.replies) one.0 (subst (λ ys. AreReplies x.logic ys n x.replies) one.1 x.are_replies) in
    let meant = is_as_meant (list_any (is_against xs) x.replies) (list_any is_left_open x.replies)
    (sym (x.is_verdict ∙ ap (λ ys. verdict_of ys x.replies) one.1)) in
    replies_agree l xs (specified text l xs y.is_specification) n k x.replies y.replies mine y.are_replies meant.0 meant.1
    (is_against_all (list_any (is_against xs) y.replies) (list_any is_left_open y.replies) (sym y.is_verdict))

pub told_alike : ToldAlike
told_alike f g text n k (Answered AsMeant out) (Answered Against other) x y = never_against f g text n k out other x y
told_alike f g text n k (Answered Against out) (Answered AsMeant other) x y = never_against g f text k n other out y x
told_alike f g text n k (Answered AsMeant out) (Answered AsMeant other) x y = tt
told_alike f g text n k (Answered AsMeant out) (Answered Open other) x y = tt
told_alike f g text n k (Answered Against out) (Answered Against other) x y = tt
told_alike f g text n k (Answered Against out) (Answered Open other) x y = tt
told_alike f g text n k (Answered Open out) (Answered AsMeant other) x y = tt
told_alike f g text n k (Answered Open out) (Answered Against other) x y = tt
told_alike f g text n k (Answered Open out) (Answered Open other) x y = tt
told_alike f g text n k (Refused line column rule) (Refused row place other) x y =
    spec.one_refusal text line column rule row place other x y
told_alike f g text n k (Answered v out) (Refused line column rule) x y =
    spec.never_both text x.logic x.items line column rule x.is_specification y
told_alike f g text n k (Refused line column rule) (Answered v out) x y =
    spec.never_both text y.logic y.items line column rule y.is_specification x

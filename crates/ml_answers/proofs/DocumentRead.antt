-- Documents of answers, read answer by answer.
--
--   answer_taken, answer_refused, line_refused, line_missing == one answer
--   shorter                 == less is left behind it
--   read_begin, read_more   == what is read, with another answer behind it
--   read_fault              == a fault behind it
--   InConflicts             == where a line of a conflict is due
--   agree_all               == flags that are all set agree with all requirements
--   conflict_none, conflict_first, conflict_more, conflict_last, conflict_fault == lines of conflicts
--   other_begin, other_skip, other_more, other_end, other_fault == the further questions
--   end_missing, end_followed, end_taken, read_whole, end_fault == `end`
--   title_taken, no_title, behind_title, fault_behind_title == the title
use Rattle.std.proofs.Common.{◌≡◌, ◌≢◌, ℕ, ◌+◌, ◌<◌, ◌≤◌, ◌&&◌, ◌||◌, Bool, true, false, not, cond, List, [], ◌∷◌, ◌++◌, codes, length, map, drop, filter, replicate, inl, inr, refl, sym, ap, subst, ◌∙◌, arith}
use Rattle.std.specs.List.{join_with_byte, list_any}
use Rattle.std.proofs.lemmas.Bool.{false≢true}
use Rattle.std.proofs.lemmas.List.{append-nil, append_assoc, drop_all, get_or-replicate, length-append, map-append}
use Rattle.ml_base.specs.declared.doc_refusal.DocRefusal.{DocRefusal}
use Rattle.ml_base.specs.declared.doc_refusal.DocRefusal.TheVariants as refusal
use Rattle.ml_front.specs.declared.problem.AnyFormula.{AnyFormula}
use Rattle.ml_lines.specs.Lines.{Line, line_text}
use Rattle.ml_lines.specs.Reading.{words_of}
use Rattle.ml_lines.proofs.LineFronts.{line_front}
use Rattle.ml_lists.specs.Documents.{IsFirstBroken}
use Rattle.ml_spec.specs.Joined.{requirements}
use Rattle.ml_spec.specs.Kinds.{is_requirement}
use Rattle.ml_spec.specs.Questions.{asking, asking_from, is_in}
use Rattle.ml_spec.specs.declared.question.Question.{Question}
use Rattle.ml_spec.specs.declared.question.Question.TheVariants.{Consistent, Rest, Asks}
use Rattle.ml_spec.specs.declared.specification.Item.{Item}
use Rattle.ml_replies.specs.Answers.{reply_of}
use Rattle.ml_replies.specs.Meeting.{everything}
use Rattle.ml_replies.specs.Replies.{Replied, Reply, LeftOpen, Met, Unmet}
use Rattle.ml_answers.specs.Checked.{lines_from, AreTexts}
use Rattle.ml_answers.specs.Documents.{last_line, title_line, AreBlocks, IsBlock, IsBody}
use Rattle.ml_answers.specs.Due.{asked_of, begun, is_of_conflict, rest_behind, with_consistency, Due, Fits, LeadTo, MayStand}
use Rattle.ml_answers.specs.Due as due
use Rattle.ml_answers.specs.Lines.{line_of, question_words}
use Rattle.ml_answers.specs.RuleNumbers.{rule_number}
use Rattle.ml_answers.specs.Rules.{answer_rules, fixed_rules, replied, IsAnswerFault, IsAnswersFault, IsBehind, IsBodyFault, IsDueFault, IsEndFault, IsLineFault, IsMore}
use Rattle.ml_answers.specs.Texts.{first_of, line_count, next_line, one_text, IsLine, IsThen}
use Rattle.ml_answers.specs.declared.line.ToldLine.{ToldLine}
use Rattle.ml_answers.specs.declared.rest.Rest as declared
use Rattle.ml_answers.specs.declared.rule.AnswersRule.TheVariants.{OfKind}
use Rattle.ml_answers.specs.declared.stated.Stated.{Stated}
use Rattle.ml_answers.specs.Stated.{replied_of, replies_of}
use Rattle.ml_answers.specs.private.Reads.{AreRead, AreReadBehind, HasRoom, IsConflict, IsFaultBehind, IsMadeOf, IsNext, IsReadTo, IsReadUpTo, IsTold, Takes, TellsFault}
use Rattle.ml_answers.specs.private.Words.{Agrees}
use Rattle.ml_answers.proofs.AnswerTexts.{blocks_of, lines_more, one_text_more, texts_more}
use Rattle.ml_answers.proofs.AnswerLines.{made_fits, not_of_kind, some_made}
use Rattle.ml_answers.proofs.Reading.{count_append, fault_as, fault_behind, other_line, takes_both, told_here}

-- ---- one answer

module _ (xs : List Item) (S : ℕ → Bool) (q : Question) (at : declared.Rest) where
  pub line_missing : (e : DocRefusal)
      → e ≡ refusal.Fault (record { line = at.line; rule = rule_number OfKind })
      → next_line at.text.now ≡ []
      → TellsFault (IsAnswerFault xs S q) at e
  line_missing e is none =
      fault_as (IsLineFault (answer_rules xs S q)) (IsAnswerFault xs S q) at e (λ fault it. inl it)
      (told_here (answer_rules xs S q) at e (rule_number OfKind) is
      (not_of_kind xs q (next_line at.text.now) S
      (λ kind. let line : [] ≡ question_words xs q ++ kind.answer = sym none ∙ kind.is_line in absurd cc)))

  pub line_refused : (line : List ℕ) (mid : declared.Rest) (e : DocRefusal) (n : ℕ)
      → IsNext at line mid
      → e ≡ refusal.Fault (record { line = at.line; rule = n })
      → IsFirstBroken (answer_rules xs S q) (words_of line) n
      → TellsFault (IsAnswerFault xs S q) at e
  line_refused line mid e n next is broken =
      fault_as (IsLineFault (answer_rules xs S q)) (IsAnswerFault xs S q) at e (λ fault it. inl it)
      (told_here (answer_rules xs S q) at e n is
      (subst (λ ws. IsFirstBroken (answer_rules xs S q) ws n) (sym next.has_words) broken))

  pub answer_taken : (line : List ℕ) (mid rest : declared.Rest) (t : ToldLine) (r : Reply)
      → IsNext at line mid
      → IsTold xs S q (words_of line) t
      → IsMadeOf t r
      → Takes (IsBody xs r) mid rest
      → Takes (IsBlock xs (replied q r)) at rest
  answer_taken line mid rest t r next told made body =
      let is = (made_fits xs S q (words_of line) t r told made).1 in
      takes_both (IsLine (line_of xs (replied q r))) (IsBody xs r) at rest mid
      (subst (λ ws. Takes (IsLine ws) at mid) is next.takes) body

  pub answer_refused : (line : List ℕ) (mid : declared.Rest) (t : ToldLine) (e : DocRefusal)
      → IsNext at line mid
      → IsTold xs S q (words_of line) t
      → ((r : Reply) → IsMadeOf t r → TellsFault (IsBodyFault xs r) mid e)
      → TellsFault (IsAnswerFault xs S q) at e
  answer_refused line mid t e next told tells =
      let made = some_made t in
      let fits = made_fits xs S q (words_of line) t made.0 told made.1 in
      fault_as (IsBehind (IsLine (line_of xs (replied q made.0))) (IsBodyFault xs made.0)) (IsAnswerFault xs S q) at e
      (λ fault it. inr (made.0, fits.0, it))
      (fault_behind (IsLine (line_of xs (replied q made.0))) (IsBodyFault xs made.0) at mid e
      (subst (λ ws. Takes (IsLine ws) at mid) fits.1 next.takes) (tells made.0 made.1))

-- a line has an LF
some_line : (ws : Line) → 0 < length (line_text ws)
some_line ws = let lf : List ℕ = 10 ∷ [] in omega (arith, length-append (join_with_byte 32 ws) lf)

pub shorter : (line : List ℕ) (at mid rest : declared.Rest) (P : List ℕ → Type 0)
    → IsNext at line mid
    → Takes P mid rest
    → length rest.text.now < length at.text.now
shorter line at mid rest P next takes =
    omega (
      arith,
      ap length next.takes.are_both,
      length-append next.takes.front mid.text.now,
      ap length next.takes.is_front,
      some_line (words_of line),
      ap length takes.are_both,
      length-append takes.front rest.text.now,
    )

-- ---- what is read

lead_more : (xs : List Item) (d e : Due) (rs : List Replied) (r : Replied)
    → LeadTo xs d rs e
    → MayStand xs e r
    → LeadTo xs d (rs ++ r ∷ []) (due.behind e r)
lead_more xs d e [] r lead may = (subst (λ f. MayStand xs f r) (sym lead) may, ap (λ f. due.behind f r) lead)
lead_more xs d e (s ∷ rs) r lead may = (lead.0, lead_more xs (due.behind d s) e rs r lead.1 may)

pub read_begin : (xs : List Item) (at : declared.Rest) → IsReadTo xs at [] at (begun xs)
read_begin xs at = record {
  texts = [];
  are_texts = tt;
  are_both = refl;
  is_line = omega arith;
  are_lines = refl;
  lead = refl;
}

module _ (xs : List Item) (at : declared.Rest) (stated : List Stated) (rest : declared.Rest) (d : Due) (is : IsReadTo xs at stated rest d) where
  pub read_more : (s : Stated) (end : declared.Rest)
      → MayStand xs d (replied_of s)
      → s.line ≡ rest.line
      → Takes (IsBlock xs (replied_of s)) rest end
      → IsReadTo xs at (stated ++ s ∷ []) end (due.behind d (replied_of s))
  read_more s end may line takes =
      let replies : replies_of (stated ++ s ∷ []) ≡ replies_of stated ++ replied_of s ∷ [] =
      map-append replied_of stated (s ∷ []) in
      record {
        texts = is.texts ++ takes.front ∷ [];
        are_texts =
            subst (λ rs. AreTexts xs rs (is.texts ++ takes.front ∷ [])) (sym replies)
            (texts_more xs (replies_of stated) is.texts (replied_of s) takes.front is.are_texts takes.is_front);
        are_both =
            is.are_both
            ∙ ap (λ t. one_text is.texts ++ t) takes.are_both
            ∙ sym (append_assoc (one_text is.texts) takes.front end.text.now)
            ∙ ap (λ t. t ++ end.text.now) (sym (one_text_more is.texts takes.front));
        is_line = omega (
          arith,
          is.is_line,
          takes.is_line,
          ap line_count (one_text_more is.texts takes.front),
          count_append (one_text is.texts) takes.front,
        );
        are_lines =
            map-append (λ a. a.line) stated (s ∷ [])
            ∙ ap (λ ks. ks ++ s.line ∷ []) is.are_lines
            ∙ ap (λ n. lines_from at.line is.texts ++ n ∷ []) (line ∙ is.is_line)
            ∙ sym (lines_more at.line is.texts takes.front);
        lead =
            subst (λ rs. LeadTo xs (begun xs) rs (due.behind d (replied_of s))) (sym replies)
            (lead_more xs (begun xs) d (replies_of stated) (replied_of s) is.lead may);
      }

  pub read_fault : (e : DocRefusal) → TellsFault (IsDueFault xs d) rest e → TellsFault (IsFaultBehind xs) at e
  read_fault refusal.NoMemory tells = tt
  read_fault (refusal.Fault fault) tells = record {
    replies = replies_of stated;
    due = d;
    lead = is.lead;
    is_fault = record {
      front = one_text is.texts;
      rest = rest.text.now;
      are_both = is.are_both;
      is_front = blocks_of xs (replies_of stated) is.texts is.are_texts;
      is_fault = subst (λ k. IsDueFault xs d k rest.text.now fault) is.is_line tells;
    };
  }

-- ---- conflicts

no_requirements : (xs : List Item) → list_any (λ x. is_requirement x.kind) xs ≡ false → requirements xs ≡ []
no_requirements [] none = refl
no_requirements (x ∷ xs) none = go (is_requirement x.kind) none (no_requirements xs)
  where
    go : (b : Bool)
        → (b || list_any (λ x. is_requirement x.kind) xs) ≡ false
        → (list_any (λ x. is_requirement x.kind) xs ≡ false → requirements xs ≡ [])
        → map (λ x. x.formula) (cond b (x ∷ filter (λ x. is_requirement x.kind) xs) (filter (λ x. is_requirement x.kind) xs)) ≡ []
    go true none rest = absurd (false≢true (sym none))
    go false none rest = rest none

some_requirements : (xs : List Item)
    → list_any (λ x. is_requirement x.kind) xs ≡ true
    → (f : AnyFormula) × (fs : List AnyFormula) × (requirements xs ≡ f ∷ fs)
some_requirements [] some = absurd (false≢true some)
some_requirements (x ∷ xs) some = go (is_requirement x.kind) some (some_requirements xs)
  where
    go : (b : Bool)
        → (b || list_any (λ x. is_requirement x.kind) xs) ≡ true
        → (list_any (λ x. is_requirement x.kind) xs ≡ true
        → (f : AnyFormula) × (fs : List AnyFormula) × (requirements xs ≡ f ∷ fs))
        → (f : AnyFormula) × (fs : List AnyFormula)
        × (map (λ x. x.formula) (cond b (x ∷ filter (λ x. is_requirement x.kind) xs) (filter (λ x. is_requirement x.kind) xs))
        ≡ f ∷ fs)
    go true some rest = (x.formula, map (λ x. x.formula) (filter (λ x. is_requirement x.kind) xs), refl)
    go false some rest = rest some

-- where a question of conflicts is due, in front of those of the items
pub record InConflicts (xs : List Item) (at : declared.Rest) (stated : List Stated) (rest : declared.Rest) (q : Question) (among : List Bool) : Type 0 where
  pub left : ℕ → Bool
  pub is_read : IsReadTo xs at stated rest (record { rest = left; questions = q ∷ asking xs })
  pub agrees : Agrees xs left among
  pub of_conflict : is_of_conflict q ≡ true
  pub told : length among ≡ length xs
  pub has_room : HasRoom rest

all_agree : (xs : List Item) → Agrees xs everything (replicate (length xs) true)
all_agree xs = λ k low. sym (get_or-replicate (length xs) k true false low)

pub agree_all : (xs : List Item) (all : List Bool) → all ≡ replicate (length xs) true → Agrees xs everything all
agree_all xs all is = subst (Agrees xs everything) (sym is) (all_agree xs)

pub conflict_none : (xs : List Item) (at : declared.Rest)
    → list_any (λ x. is_requirement x.kind) xs ≡ false
    → IsReadUpTo xs at [] at (asking xs)
conflict_none xs at none = record {
  among = everything;
  is_read =
      subst (IsReadTo xs at [] at)
      (ap (λ fs. record { rest = everything; questions = with_consistency fs (asking xs) }) (no_requirements xs none))
      (read_begin xs at);
}

pub conflict_first : (xs : List Item) (at : declared.Rest) (all : List Bool)
    → list_any (λ x. is_requirement x.kind) xs ≡ true
    → all ≡ replicate (length xs) true
    → length all ≡ length xs
    → HasRoom at
    → InConflicts xs at [] at Consistent all
conflict_first xs at all some is told room =
    let fs = some_requirements xs some in
    record {
      left = everything;
      is_read =
          subst (IsReadTo xs at [] at)
          (ap (λ fs. record { rest = everything; questions = with_consistency fs (asking xs) }) fs.2)
          (read_begin xs at);
      agrees = agree_all xs all is;
      of_conflict = refl;
      told = told;
      has_room = room;
    }

module _ (xs : List Item) (at : declared.Rest) (stated : List Stated) (rest : declared.Rest) (q : Question) (among : List Bool) (is : InConflicts xs at stated rest q among) where
  asked_left : (q : Question) → is_of_conflict q ≡ true → asked_of is.left q ≡ is.left
  asked_left Consistent of = refl
  asked_left Rest of = refl
  asked_left (Asks n) of = absurd (false≢true of)

  pub conflict_fault : (e : DocRefusal) → TellsFault (IsAnswerFault xs is.left q) rest e → TellsFault (IsFaultBehind xs) at e
  conflict_fault e tells =
      read_fault xs at stated rest (record { rest = is.left; questions = q ∷ asking xs }) is.is_read e
      (fault_as (IsAnswerFault xs is.left q) (IsDueFault xs (record { rest = is.left; questions = q ∷ asking xs })) rest e
      (λ fault it. subst (λ S. IsAnswerFault xs S q rest.line rest.text.now fault) (sym (asked_left q is.of_conflict)) it)
      tells)

  -- what is due behind an answer
  behind_conflict : (q : Question) (r : Reply)
      → is_of_conflict q ≡ true
      → IsConflict true r
      → due.behind (record { rest = is.left; questions = q ∷ asking xs }) (replied q r)
      ≡ record { rest = rest_behind is.left Rest r; questions = Rest ∷ asking xs }
  behind_conflict Consistent (Unmet c) of conflict = refl
  behind_conflict Rest (Unmet c) of conflict = refl
  behind_conflict (Asks n) r of conflict = absurd (false≢true of)
  behind_conflict Consistent (Met m s) of conflict = absurd (false≢true (sym conflict))
  behind_conflict Rest (Met m s) of conflict = absurd (false≢true (sym conflict))
  behind_conflict Consistent LeftOpen of conflict = absurd (false≢true (sym conflict))
  behind_conflict Rest LeftOpen of conflict = absurd (false≢true (sym conflict))

  behind_other : (q : Question) (r : Reply)
      → is_of_conflict q ≡ true
      → IsConflict false r
      → due.behind (record { rest = is.left; questions = q ∷ asking xs }) (replied q r)
      ≡ record { rest = is.left; questions = asking xs }
  behind_other Consistent (Unmet c) of conflict = absurd (false≢true conflict)
  behind_other Rest (Unmet c) of conflict = absurd (false≢true conflict)
  behind_other (Asks n) r of conflict = absurd (false≢true of)
  behind_other Consistent (Met m s) of conflict = refl
  behind_other Rest (Met m s) of conflict = refl
  behind_other Consistent LeftOpen of conflict = refl
  behind_other Rest LeftOpen of conflict = refl

  module _ (s : Stated) (end : declared.Rest)
      (is_question : s.question ≡ q)
      (fits : (S : ℕ → Bool) → Agrees xs S among → Fits xs S q (reply_of s.statement))
      (line : s.line ≡ rest.line)
      (takes : Takes (IsBlock xs (replied q (reply_of s.statement))) rest end) where
    same : replied_of s ≡ replied q (reply_of s.statement)
    same = ap (λ k. replied k (reply_of s.statement)) is_question

    more : IsReadTo xs at (stated ++ s ∷ []) end
        (due.behind (record { rest = is.left; questions = q ∷ asking xs }) (replied q (reply_of s.statement)))
    more =
        subst (λ r. IsReadTo xs at (stated ++ s ∷ []) end (due.behind (record { rest = is.left; questions = q ∷ asking xs }) r))
        same
        (read_more xs at stated rest (record { rest = is.left; questions = q ∷ asking xs }) is.is_read s end (
          is_question,
          subst (λ S. Fits xs S q (reply_of s.statement)) (sym (asked_left q is.of_conflict))
              (fits is.left is.agrees),
        )
        line
        (subst (λ r. Takes (IsBlock xs r) rest end) (sym same) takes))

    pub conflict_more : (later : List Bool)
        → IsConflict true (reply_of s.statement)
        → length later ≡ length among
        → ((k : ℕ) → is_in later k ≡ rest_behind (is_in among) Rest (reply_of s.statement) k)
        → HasRoom end
        → InConflicts xs at (stated ++ s ∷ []) end Rest later
    conflict_more later conflict told now room = record {
      left = rest_behind is.left Rest (reply_of s.statement);
      is_read =
          subst (IsReadTo xs at (stated ++ s ∷ []) end)
          (behind_conflict q (reply_of s.statement) is.of_conflict conflict) more;
      agrees = left_agrees (reply_of s.statement) now;
      of_conflict = refl;
      told = told ∙ is.told;
      has_room = room;
    }
      where
        left_agrees : (r : Reply)
            → ((k : ℕ) → is_in later k ≡ rest_behind (is_in among) Rest r k)
            → Agrees xs (rest_behind is.left Rest r) later
        left_agrees (Met m t) now = λ k low. is.agrees k low ∙ sym (now k)
        left_agrees LeftOpen now = λ k low. is.agrees k low ∙ sym (now k)
        left_agrees (Unmet c) now = λ k low.
            ap (λ b. b && not (is_in c.taken k)) (is.agrees k low) ∙ sym (now k)

    pub conflict_last : IsConflict false (reply_of s.statement)
        → IsReadUpTo xs at (stated ++ s ∷ []) end (asking xs)
    conflict_last conflict = record {
      among = is.left;
      is_read =
          subst (IsReadTo xs at (stated ++ s ∷ []) end)
          (behind_other q (reply_of s.statement) is.of_conflict conflict) more;
    }

-- ---- the further questions

module _ (xs : List Item) (at : declared.Rest) (stated : List Stated) (rest : declared.Rest) (n : ℕ) where
  abbrev pub Others : Type 0
  Others = IsReadUpTo xs at stated rest (asking_from n (drop n xs))

  -- what is due from the next item on
  due_now : (x : Item) → drop n xs ≡ x ∷ drop (n + 1) xs
      → asking_from n (drop n xs)
      ≡ cond (is_requirement x.kind) (asking_from (n + 1) (drop (n + 1) xs)) (Asks n ∷ asking_from (n + 1) (drop (n + 1) xs))
  due_now x is = ap (asking_from n) is

  pub other_skip : (x : Item)
      → drop n xs ≡ x ∷ drop (n + 1) xs
      → is_requirement x.kind ≡ true
      → Others
      → IsReadUpTo xs at stated rest (asking_from (n + 1) (drop (n + 1) xs))
  other_skip x is_next required others =
      subst (IsReadUpTo xs at stated rest)
      (due_now x is_next
      ∙ ap (λ b. cond b (asking_from (n + 1) (drop (n + 1) xs)) (Asks n ∷ asking_from (n + 1) (drop (n + 1) xs))) required)
      others

  next_due : (x : Item)
      → drop n xs ≡ x ∷ drop (n + 1) xs
      → is_requirement x.kind ≡ false
      → Others
      → IsReadUpTo xs at stated rest (Asks n ∷ asking_from (n + 1) (drop (n + 1) xs))
  next_due x is_next required others =
      subst (IsReadUpTo xs at stated rest)
      (due_now x is_next
      ∙ ap (λ b. cond b (asking_from (n + 1) (drop (n + 1) xs)) (Asks n ∷ asking_from (n + 1) (drop (n + 1) xs))) required)
      others

  pub other_fault : (x : Item) (e : DocRefusal)
      → drop n xs ≡ x ∷ drop (n + 1) xs
      → is_requirement x.kind ≡ false
      → Others
      → TellsFault (IsAnswerFault xs everything (Asks n)) rest e
      → TellsFault (IsFaultBehind xs) at e
  other_fault x e is_next required others tells =
      let read = next_due x is_next required others in
      read_fault xs at stated rest
      (record { rest = read.among; questions = Asks n ∷ asking_from (n + 1) (drop (n + 1) xs) }) read.is_read e
      (fault_as (IsAnswerFault xs everything (Asks n))
      (IsDueFault xs (record { rest = read.among; questions = Asks n ∷ asking_from (n + 1) (drop (n + 1) xs) })) rest e
      (λ fault it. it) tells)

  pub other_more : (x : Item) (s : Stated) (end : declared.Rest)
      → drop n xs ≡ x ∷ drop (n + 1) xs
      → is_requirement x.kind ≡ false
      → Others
      → s.question ≡ Asks n
      → Fits xs everything (Asks n) (reply_of s.statement)
      → s.line ≡ rest.line
      → Takes (IsBlock xs (replied (Asks n) (reply_of s.statement))) rest end
      → IsReadUpTo xs at (stated ++ s ∷ []) end (asking_from (n + 1) (drop (n + 1) xs))
  other_more x s end is_next required others is_question fits line takes =
      let read = next_due x is_next required others in
      let d : Due = record { rest = read.among; questions = Asks n ∷ asking_from (n + 1) (drop (n + 1) xs) } in
      let same : replied_of s ≡ replied (Asks n) (reply_of s.statement) =
      ap (λ k. replied k (reply_of s.statement)) is_question in
      record {
        among = read.among;
        is_read =
            subst (λ r. IsReadTo xs at (stated ++ s ∷ []) end (due.behind d r)) same
            (read_more xs at stated rest d read.is_read s end (is_question, fits) line
            (subst (λ r. Takes (IsBlock xs r) rest end) (sym same) takes));
      }

pub other_begin : (xs : List Item) (at : declared.Rest) (stated : List Stated) (rest : declared.Rest)
    → IsReadUpTo xs at stated rest (asking xs)
    → Others xs at stated rest 0
other_begin xs at stated rest is = is

pub other_end : (xs : List Item) (at : declared.Rest) (stated : List Stated) (rest : declared.Rest) (n : ℕ)
    → length xs ≤ n
    → Others xs at stated rest n
    → IsReadUpTo xs at stated rest []
other_end xs at stated rest n past is =
    subst (λ ys. IsReadUpTo xs at stated rest (asking_from n ys)) (drop_all n xs past) is

-- ---- the end

module _ (at : declared.Rest) (e : DocRefusal) where
  pub end_missing : e ≡ refusal.Fault (record { line = at.line; rule = rule_number OfKind })
      → ¬ (next_line at.text.now ≡ last_line)
      → TellsFault IsEndFault at e
  end_missing is ne =
      fault_as (IsLineFault (fixed_rules last_line)) IsEndFault at e (λ fault it. inl it)
      (told_here (fixed_rules last_line) at e (rule_number OfKind) is (other_line (next_line at.text.now) last_line ne))

  pub end_followed : (mid : declared.Rest)
      → Takes (IsLine last_line) at mid
      → e ≡ refusal.Fault (record { line = mid.line; rule = rule_number OfKind })
      → mid.text.now ≢ []
      → TellsFault IsEndFault at e
  end_followed mid takes is more =
      fault_as (IsBehind (IsLine last_line) IsMore) IsEndFault at e (λ fault it. inr it)
      (fault_behind (IsLine last_line) IsMore at mid e takes
      (subst (TellsFault IsMore mid) (sym is) (more, refl, refl)))

pub end_taken : (at mid : declared.Rest)
    → Takes (IsLine last_line) at mid
    → mid.text.now ≡ []
    → at.text.now ≡ line_text last_line
end_taken at mid takes none =
    takes.are_both
    ∙ ap (λ t. takes.front ++ t) none
    ∙ append-nil takes.front
    ∙ takes.is_front

pub read_whole : (xs : List Item) (at : declared.Rest) (stated : List Stated) (end : declared.Rest)
    → IsReadUpTo xs at stated end []
    → end.text.now ≡ line_text last_line
    → AreRead xs at stated
read_whole xs at stated end is text = record {
  texts = is.is_read.texts;
  are_all = (record { rest = is.among; questions = [] }, is.is_read.lead, refl);
  are_texts = is.is_read.are_texts;
  is_text = is.is_read.are_both ∙ ap (λ t. one_text is.is_read.texts ++ t) text;
  are_lines = is.is_read.are_lines;
}

pub end_fault : (xs : List Item) (at : declared.Rest) (stated : List Stated) (end : declared.Rest) (e : DocRefusal)
    → IsReadUpTo xs at stated end []
    → TellsFault IsEndFault end e
    → TellsFault (IsFaultBehind xs) at e
end_fault xs at stated end e is tells =
    read_fault xs at stated end (record { rest = is.among; questions = [] }) is.is_read e
    (fault_as IsEndFault (IsDueFault xs (record { rest = is.among; questions = [] })) end e (λ fault it. it) tells)

-- ---- the title

title_next : (more : List ℕ) → next_line (line_text title_line ++ more) ≡ title_line
title_next more = ap first_of (line_front (codes "mlsolver answers 1") more refl).0

pub title_taken : (at mid : declared.Rest) (line : List ℕ)
    → IsThen (IsLine title_line) (λ t. Unit {0}) at.text.now
    → IsNext at line mid
    → Takes (IsLine title_line) at mid
title_taken at mid line title next =
    let is : words_of line ≡ title_line =
    sym next.has_words
    ∙ ap next_line (title.are_both ∙ ap (λ t. t ++ title.second) title.is_first)
    ∙ title_next title.second in
    subst (λ ws. Takes (IsLine ws) at mid) is next.takes

pub no_title : (at : declared.Rest) → IsThen (IsLine title_line) (λ t. Unit {0}) at.text.now → next_line at.text.now ≡ [] → ⊥
no_title at title none =
    let is : [] ≡ title_line =
    sym none
    ∙ ap next_line (title.are_both ∙ ap (λ t. t ++ title.second) title.is_first)
    ∙ title_next title.second in
    absurd cc

pub behind_title : (xs : List Item) (at mid : declared.Rest) (stated : List Stated)
    → Takes (IsLine title_line) at mid
    → AreRead xs mid stated
    → AreReadBehind xs at stated
behind_title xs at mid stated takes read =
    let one : line_count (line_text title_line) ≡ 1 = refl in
    let line : mid.line ≡ at.line + 1 = omega (arith, takes.is_line, ap line_count takes.is_front, one) in
    record {
      texts = read.texts;
      are_all = read.are_all;
      are_texts = read.are_texts;
      is_text =
          takes.are_both
          ∙ ap (λ t. t ++ mid.text.now) takes.is_front
          ∙ ap (λ t. line_text title_line ++ t) read.is_text;
      are_lines = read.are_lines ∙ ap (λ k. lines_from k read.texts) line;
    }

pub fault_behind_title : (xs : List Item) (at mid : declared.Rest) (e : DocRefusal)
    → Takes (IsLine title_line) at mid
    → TellsFault (IsFaultBehind xs) mid e
    → TellsFault (IsAnswersFault xs) at e
fault_behind_title xs at mid refusal.NoMemory takes tells = tt
fault_behind_title xs at mid (refusal.Fault fault) takes tells = (
  tells.replies,
  tells.due,
  tells.lead,
  record {
    front = takes.front;
    rest = mid.text.now;
    are_both = takes.are_both;
    is_front = takes.is_front;
    is_fault =
        subst (λ k. IsBehind (AreBlocks xs tells.replies) (IsDueFault xs tells.due) k mid.text.now fault) takes.is_line
        tells.is_fault;
  },
)

-- A head, read line by line.
--
--   formula_refused             == a line whose text the parser refuses breaks the second rule
--   SoFar, begin, one_more      == what is known of the rest behind good lines
--   tells                       == a bad line there is the first bad one
--   behind_title, ..            == the rest behind each line of a head
--   whole_head                  == five good lines are a head
use Rattle.std.proofs.Common.{◌≡◌, ◌≢◌, ℕ, ◌+◌, ◌⊎◌, Bool, List, [], ◌∷◌, ◌++◌, length, codes, slice_index_or, refl, sym, ap, subst, ◌∙◌, inl, inr, arith}
use Rattle.std.specs.List.{join_with_byte}
use Rattle.std.proofs.lemmas.List.Splits.{join_with_byte-slice_split}
use Rattle.ml_base.specs.declared.doc_fault.DocFault.{DocFault}
use Rattle.ml_base.specs.declared.doc_refusal.DocRefusal.{DocRefusal}
use Rattle.ml_base.specs.declared.doc_refusal.DocRefusal.TheVariants as refused
use Rattle.ml_base.specs.declared.parse_refusal.ParseRefusal.{ParseRefusal}
use Rattle.ml_base.specs.declared.parse_refusal.ParseRefusal.TheVariants as parser
use Rattle.ml_base.specs.declared.version.Version.{Version}
use Rattle.ml_lines.specs.Lines.{Line, text_of}
use Rattle.ml_lines.specs.Faults.{IsFault}
use Rattle.ml_lines.specs.Reading.{lines_of, left_of, words_of, is_blank}
use Rattle.ml_lines.specs.private.Fronts.{GoesOn}
use Rattle.ml_lines.proofs.Cuts.{some_part}
use Rattle.ml_lines.proofs.Faults.{fault_here, fault_missing, fault_behind}
use Rattle.ml_lines.proofs.WrittenLines.{text_read}
use Rattle.ml_lists.specs.Documents.{IsGood}
use Rattle.ml_lists.specs.Readings.{nothing_read, line_read}
use Rattle.ml_front.specs.Head.{title_line, answer_line, logic_line, sense_line}
use Rattle.ml_front.specs.HeadRules.{IsHead, IsHeadFault, IsFormulaOf, HeadPlace, AtTitle, AtAnswer, AtLogic, AtSense, AtFormula, after, head}
use Rattle.ml_front.specs.RuleNumbers.{rule_number}
use Rattle.ml_front.specs.private.HeadParts.{first_line, Breaks, IsFormulaRead, TellsHead, TellsFormula, formula_refusal}
use Rattle.ml_front.specs.declared.answer.Answer.{Answer}
use Rattle.ml_front.specs.declared.head_rule.HeadRule.{HeadRule}
use Rattle.ml_front.specs.declared.head_rule.HeadRule.TheVariants.{Parses}
use Rattle.ml_front.specs.declared.logic.Logic.{Logic}
use Rattle.ml_front.specs.declared.problem.AnyFormula.{AnyFormula}
use Rattle.ml_lines.specs.declared.refusal.LineRefusal.TheVariants as formula
use Rattle.ml_front.specs.Logics.{logic_of, IsParsedAs, IsRefusedBy}
use Rattle.ml_front.proofs.Logics.{formula_or_refused, logic_read}
use Rattle.ml_front.proofs.ReadableHeads.{Begins, formula_line, head_of_lines}

-- ---- the formula

unparsed : (a : Answer) (l : Logic) (text given : List ℕ)
    → first_line text ≡ codes "formula" ∷ words_of given
    → ¬ (IsFormulaOf l given)
    → Breaks a (AtFormula l) (first_line text) Parses
unparsed a l text given is never =
    subst (λ line. Breaks a (AtFormula l) line Parses) (sym is)
    (inr (
      formula_line (words_of given) (some_part is_blank given),
      inl (refl, λ parsed. never (subst (IsFormulaOf l) (join_with_byte-slice_split 32 given) parsed)),
    ))

-- want of memory alone is no refusal of the text
refusal_told : (e : ParseRefusal)
    → (e ≡ parser.NoMemory) ⊎ ((e ≢ parser.NoMemory) × (formula_refusal e ≡ formula.Breaks Parses))
refusal_told parser.NoMemory = inl refl
refusal_told (parser.Syntax at) = inr (λ is. cc, refl)
refusal_told (parser.Unbound at) = inr (λ is. cc, refl)
refusal_told (parser.NotPositive at) = inr (λ is. cc, refl)
refusal_told (parser.TooMany at) = inr (λ is. cc, refl)
refusal_told (parser.TooNested at) = inr (λ is. cc, refl)
refusal_told (parser.NameTooLong at) = inr (λ is. cc, refl)

pub formula_refused : (a : Answer) (l : Logic) (text given : List ℕ) (more : List Line) (e : ParseRefusal)
    → lines_of text ≡ (codes "formula" ∷ words_of given) ∷ more
    → IsRefusedBy l given e
    → TellsFormula a l text (formula_refusal e)
formula_refused a l text given more e begins refuses = go (refusal_told e)
  where
    go : (e ≡ parser.NoMemory) ⊎ ((e ≢ parser.NoMemory) × (formula_refusal e ≡ formula.Breaks Parses))
        → TellsFormula a l text (formula_refusal e)
    go (inl is) = subst (λ r. TellsFormula a l text (formula_refusal r)) (sym is) tt
    go (inr (other, told)) =
        subst (TellsFormula a l text) (sym told)
        (unparsed a l text given (ap (λ lines. slice_index_or lines 0 []) begins)
        (λ (f, of_logic, parsed). other (formula_or_refused l given f e of_logic parsed refuses)))

-- ---- the first bad line

module _ (a : Answer) (text : List ℕ) where
  -- good so far: where the rest, whose first line stands at a place and has the number k, has a first bad line, so has
  -- the whole text
  abbrev pub SoFar : ℕ → HeadPlace → List ℕ → Type 0
  SoFar k place rest = (fault : DocFault) → IsFault (λ left. head a) k place rest fault → IsHeadFault a text fault

  module _ (k : ℕ) (place : HeadPlace) (rest : List ℕ) (so_far : SoFar k place rest) where
    pub one_more : (line : Line) (behind : List ℕ) → GoesOn rest (line ∷ []) behind → IsGood (head a) place line
        → SoFar (k + 1) (after place line) behind
    one_more line behind goes good fault found =
        so_far fault
        (fault_behind (λ left. head a) k place rest (line ∷ []) behind (k + 1) (after place line) fault goes
        (line_read k place line (lines_of behind) nothing_read good) found)

    -- the first line of the rest, or a missing one, breaks a rule
    pub tells : (r : HeadRule) (told : DocRefusal) → Breaks a place (first_line rest) r
        → told ≡ refused.Fault (record { line = k; rule = rule_number r }) → TellsHead a text told
    tells r told breaks is = subst (TellsHead a text) (sym is) (so_far (record { line = k; rule = rule_number r }) (go (lines_of rest) refl))
      where
        go : (lines : List Line) → lines_of rest ≡ lines → IsFault (λ left. head a) k place rest (record { line = k; rule = rule_number r })
        go [] none =
            fault_missing (λ left. head a) k place rest (rule_number r) none
            (subst (λ ls. Breaks a place (slice_index_or ls 0 []) r) none breaks)
        go (line ∷ lines) begins =
            fault_here (λ left. head a) k place rest (rule_number r) line lines begins
            (subst (λ ls. Breaks a place (slice_index_or ls 0 []) r) begins breaks)

  pub begin : SoFar 1 AtTitle text
  begin fault found = found

  module _ (v : Version) (r1 : List ℕ) (first : GoesOn text (title_line v ∷ []) r1) where
    pub behind_title : SoFar 2 AtAnswer r1
    behind_title = one_more 1 AtTitle text begin (title_line v) r1 first ((v, refl), tt)

    module _ (r2 : List ℕ) (second : GoesOn r1 (answer_line a ∷ []) r2) where
      pub behind_answer : SoFar 3 AtLogic r2
      behind_answer = one_more 2 AtAnswer r1 behind_title (answer_line a) r2 second ((a, refl), (refl, tt))

      module _ (l : Logic) (r3 : List ℕ) (third : GoesOn r2 (logic_line l ∷ []) r3) where
        pub behind_logic : SoFar 4 (AtSense l) r3
        behind_logic =
            subst (λ k. SoFar 4 (AtSense k) r3) (logic_read l)
            (one_more 3 AtLogic r2 behind_answer (logic_line l) r3 third ((l, refl), tt))

        module _ (negated : Bool) (r4 : List ℕ) (fourth : GoesOn r3 (sense_line negated ∷ []) r4) where
          pub behind_sense : SoFar 5 (AtFormula l) r4
          behind_sense = one_more 4 (AtSense l) r3 behind_logic (sense_line negated) r4 fourth ((negated, refl), tt)

          pub whole_head : (f : AnyFormula) (rest : List ℕ) → IsFormulaRead l r4 f rest
              → IsHead a text v (record { formula = f; negated = negated }) rest
          whole_head f rest last = go (words_of last.given) refl
            where
              lines : lines_of text
                  ≡ title_line v ∷ answer_line a ∷ logic_line (logic_of f) ∷ sense_line negated
                  ∷ (codes "formula" ∷ words_of last.given) ∷ lines_of rest
              lines =
                  first.lines_are ∙ ap (λ ls. title_line v ∷ ls) (second.lines_are ∙ ap (λ ls. answer_line a ∷ ls)
                  (third.lines_are ∙ ap (λ k. logic_line k ∷ lines_of r3) (sym last.of_logic)
                  ∙ ap (λ ls. logic_line (logic_of f) ∷ ls) (fourth.lines_are ∙ ap (λ ls. sense_line negated ∷ ls) last.goes.lines_are)))

              left : left_of rest ≡ left_of text
              left = sym (first.left_is ∙ second.left_is ∙ third.left_is ∙ fourth.left_is ∙ last.goes.left_is)

              go : (ws : Line) → words_of last.given ≡ ws → IsHead a text v (record { formula = f; negated = negated }) rest
              go [] none = let some = some_part is_blank last.given in absurd (omega (arith, some, ap length none))
              go (w ∷ ws) is =
                  let begins : Begins a (lines_of text) = record {
                    version = v;
                    negated = negated;
                    w = w;
                    ws = ws;
                    f = f;
                    more = lines_of rest;
                    lines_are =
                        lines
                        ∙ ap
                        (λ vs. title_line v ∷ answer_line a ∷ logic_line (logic_of f) ∷ sense_line negated
                        ∷ (codes "formula" ∷ vs) ∷ lines_of rest)
                        is;
                    is_parsed =
                        subst (λ t. IsParsedAs t f) (sym (join_with_byte-slice_split 32 last.given) ∙ ap (join_with_byte 32) is) last.is_parsed;
                  } in
                  head_of_lines a text rest begins (sym (text_read rest) ∙ ap (λ l. text_of (lines_of rest) ++ l) left)

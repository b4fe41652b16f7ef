-- A text is readable as a head exactly where it is one.
--
--   formula_line      == `formula` and some words are the line of a formula
--   behind_readable   == behind a head anything is readable
--   head_readable     == a head is readable
--   head_of_lines     == a text with the lines of a head, and then others, is a head
--   readable_head     == what is readable is a head
use Rattle.std.proofs.Common.{◌≡◌, ℕ, ◌<◌, Bool, List, [], ◌∷◌, ◌++◌, length, codes, refl, sym, ap, subst, ◌∙◌, append_assoc, arith}
use Rattle.std.specs.List.{join_with_byte, AllByRecursion}
use Rattle.std.proofs.lemmas.Grind.{flat_map-append}
use Rattle.std.proofs.lemmas.List.Splits.{join_with_byte-slice_split}
use Rattle.ml_base.specs.declared.version.Version.{Version}
use Rattle.ml_lines.specs.Lines.{Word, Line, line_text, text_of}
use Rattle.ml_lines.specs.Reading.{lines_of, left_of, words_of, word, is_blank}
use Rattle.ml_lines.proofs.Cuts.{some_part}
use Rattle.ml_lines.proofs.LineFronts.{IsInLine, lines_plain}
use Rattle.ml_lines.proofs.WrittenLines.{text_read}
use Rattle.ml_lists.specs.Documents.{IsGood}
use Rattle.ml_lists.specs.Readings.{IsReadable}
use Rattle.ml_front.specs.Head.{title_line, answer_line, logic_line, sense_line, lines_about}
use Rattle.ml_front.specs.HeadRules.{IsHead, AtTitle, AtSense, AtFormula, Behind, formula_bytes, IsFormulaLine, head}
use Rattle.ml_front.specs.Logics.{some_logic, logic_of, logic_word, IsParsedAs}
use Rattle.ml_front.specs.declared.answer.Answer.{Answer}
use Rattle.ml_front.specs.declared.logic.Logic.{Logic}
use Rattle.ml_front.specs.declared.problem.AnyFormula.{AnyFormula}
use Rattle.ml_front.specs.declared.problem.Problem.{Problem}
use Rattle.ml_front.proofs.HeadLines.{head_read}
use Rattle.ml_front.proofs.Logics.{logic_read}

pub formula_line : (ws : Line) → 0 < length ws → IsFormulaLine (codes "formula" ∷ ws)
formula_line [] some = absurd (omega arith)
formula_line (w ∷ ws) some = (w, ws, refl)

module _ (a : Answer) where
  -- ---- a head is readable

  pub behind_readable : (lines : List Line) → IsReadable (head a) Behind lines
  behind_readable [] = tt
  behind_readable (line ∷ lines) = (tt, behind_readable lines)

  good_formula : (text : List ℕ) (f : AnyFormula)
      → IsParsedAs text f
      → IsGood (head a) (AtFormula (logic_of f)) (codes "formula" ∷ words_of text)
  good_formula text f parsed = (
    formula_line (words_of text) (some_part is_blank text),
    ((f, refl, subst (λ t. IsParsedAs t f) (sym (join_with_byte-slice_split 32 text)) parsed), tt),
  )

  behind_logic : (l : Logic) (negated : Bool) (line : Line) (more : List Line)
      → IsGood (head a) (AtFormula l) line
      → IsReadable (head a) (AtSense (some_logic (logic_word l))) (sense_line negated ∷ line ∷ more)
  behind_logic l negated line more good =
      subst (λ k. IsReadable (head a) (AtSense k) (sense_line negated ∷ line ∷ more)) (sym (logic_read l))
      (((negated, refl), tt), (good, behind_readable more))

  pub head_readable : (text : List ℕ) (v : Version) (p : Problem) (rest : List ℕ)
      → IsHead a text v p rest
      → IsReadable (head a) AtTitle (lines_of text)
  head_readable text v p rest h =
      let formula = good_formula h.formula_text p.formula h.is_parsed in
      let l = logic_of p.formula in
      subst (IsReadable (head a) AtTitle) (sym (head_read a text v p rest h)) (
        ((v, refl), tt),
        (
          ((a, refl), (refl, tt)),
          (
            ((l, refl), tt),
            behind_logic l p.negated (codes "formula" ∷ words_of h.formula_text) (lines_of rest) formula,
          ),
        ),
      )

  -- ---- what is readable is a head

  -- lines that begin as a head, and go on
  pub record Begins (lines : List Line) : Type 0 where
    pub version : Version
    pub negated : Bool
    pub w : Word
    pub ws : Line
    pub f : AnyFormula
    pub more : List Line
    pub lines_are : lines
        ≡ title_line version ∷ answer_line a ∷ logic_line (logic_of f) ∷ sense_line negated ∷ (codes "formula" ∷ w ∷ ws) ∷ more
    pub is_parsed : IsParsedAs (join_with_byte 32 (w ∷ ws)) f

  begins : (lines : List Line) → IsReadable (head a) AtTitle lines → Begins lines
  begins [] r = let apart : [] ≡ title_line r.0.0 = r.0.1 in absurd (cc)
  begins (l1 ∷ []) r = let apart : [] ≡ answer_line a = r.1.1.0 in absurd (cc)
  begins (l1 ∷ l2 ∷ []) r = let apart : [] ≡ logic_line r.1.1.0.0 = r.1.1.0.1 in absurd (cc)
  begins (l1 ∷ l2 ∷ l3 ∷ []) r = let apart : [] ≡ sense_line r.1.1.1.0.0 = r.1.1.1.0.1 in absurd (cc)
  begins (l1 ∷ l2 ∷ l3 ∷ l4 ∷ []) r =
      let kind = r.1.1.1.1.0 in let apart : [] ≡ codes "formula" ∷ kind.0 ∷ kind.1 = kind.2 in absurd (cc)
  begins (l1 ∷ l2 ∷ l3 ∷ l4 ∷ l5 ∷ more) (title, (answer, (logic, (sense, (formula, behind))))) =
      let kind = formula.0 in
      let is : l5 ≡ codes "formula" ∷ kind.0 ∷ kind.1 = kind.2 in
      let is_title : l1 ≡ title_line title.0.0 = title.0.1 in
      let is_answer : l2 ≡ answer_line a = answer.1.0 in
      let told : l3 ≡ logic_line logic.0.0 = logic.0.1 in
      let f = formula.1.0.0 in
      let same : logic_of f ≡ logic.0.0 = formula.1.0.1 ∙ ap (λ l. some_logic (word l 1)) told ∙ logic_read logic.0.0 in
      let is_logic : l3 ≡ logic_line (logic_of f) = told ∙ ap logic_line (sym same) in record {
        version = title.0.0;
        negated = sense.0.0;
        w = kind.0;
        ws = kind.1;
        f = f;
        more = more;
        lines_are = (λ i. is_title i ∷ is_answer i ∷ is_logic i ∷ sense.0.1 i ∷ is i ∷ more);
        is_parsed = subst (λ l. IsParsedAs (formula_bytes l) f) is formula.1.0.2;
      }

  pub head_of_lines : (text rest : List ℕ) (b : Begins (lines_of text)) → rest ≡ text_of b.more ++ left_of text
      → IsHead a text b.version (record { formula = b.f; negated = b.negated }) rest
  head_of_lines text rest b is_rest =
      let plain = subst (AllByRecursion (λ line. IsInLine (join_with_byte 32 line))) b.lines_are (lines_plain text) in
      let five = lines_about b.version a (logic_of b.f) b.negated (join_with_byte 32 (b.w ∷ b.ws)) in record {
        formula_text = join_with_byte 32 (b.w ∷ b.ws);
        in_one_line = plain.1.1.1.1.0;
        is_text =
            sym (text_read text) ∙ ap (λ ls. text_of ls ++ left_of text) b.lines_are
            ∙ ap (λ t. t ++ left_of text) (flat_map-append line_text five b.more)
            ∙ append_assoc (text_of five) (text_of b.more) (left_of text) ∙ ap (λ t. text_of five ++ t) (sym is_rest);
        is_parsed = b.is_parsed;
      }

  pub readable_head : (text : List ℕ)
      → IsReadable (head a) AtTitle (lines_of text)
      → (v : Version) × (p : Problem) × (rest : List ℕ) × IsHead a text v p rest
  readable_head text readable =
      let b = begins (lines_of text) readable in
      let rest = text_of b.more ++ left_of text in
      (b.version, record { formula = b.f; negated = b.negated }, rest, head_of_lines text rest b refl)

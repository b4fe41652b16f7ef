use Rattle.std.proofs.Common.{◌≡◌, ℕ, List, [], ◌∷◌, ◌++◌, codes, ap, ◌∙◌}
use Rattle.std.proofs.lemmas.Result.{on_ok_weaker}
use Rattle.ml_base.specs.declared.version.Version.TheVariants.{Two}
use Rattle.ml_lines.specs.Lines.{Word, Line, line_text, text_of}
use Rattle.ml_lines.proofs.Lines.{text_of-more, text_of-last}
use Rattle.ml_front.specs.Head.{title_line, answer_line, logic_line, sense_line}
use Rattle.ml_front.specs.Logics.{canonical_text, logic_of, logic_word}
use Rattle.ml_front.proofs.writing.append_lines.Goals as goal

-- five lines, one behind the other
five_lines : (o o1 o2 o3 o4 o5 : List ℕ) (l1 l2 l3 l4 l5 : Line)
    → o1 ≡ o ++ line_text l1
    → o2 ≡ o1 ++ line_text l2
    → o3 ≡ o2 ++ line_text l3
    → o4 ≡ o3 ++ line_text l4
    → o5 ≡ o4 ++ line_text l5
    → o5 ≡ o ++ text_of (l1 ∷ l2 ∷ l3 ∷ l4 ∷ l5 ∷ [])
five_lines o o1 o2 o3 o4 o5 l1 l2 l3 l4 l5 is1 is2 is3 is4 is5 =
    text_of-more o o1 o5 l1 (l2 ∷ l3 ∷ l4 ∷ l5 ∷ []) is1
    (text_of-more o1 o2 o5 l2 (l3 ∷ l4 ∷ l5 ∷ []) is2
    (text_of-more o2 o3 o5 l3 (l4 ∷ l5 ∷ []) is3
    (text_of-more o3 o4 o5 l4 (l5 ∷ []) is4 (text_of-last o4 o5 l5 is5))))

-- a line of two words, of which the second is known
pair : (before after : List ℕ) (first given second : Word)
    → after ≡ before ++ line_text (first ∷ given ∷ []) → given ≡ second
    → after ≡ before ++ line_text (first ∷ second ∷ [])
pair before after first given second written is =
    written ∙ ap (λ word. before ++ line_text (first ∷ word ∷ [])) is

pub returns-clause-text : goal.returns-clause-text
returns-clause-text c =
    let p = c.args.problem.now in
    on_ok_weaker c.append_formula.result
    (five_lines _ _ _ _ _ _ (title_line Two) (answer_line c.args.answer) (logic_line (logic_of p.formula))
    (sense_line p.negated) (codes "formula" ∷ canonical_text p.formula ∷ [])
    (pair _ _ (codes "mlsolver") _ _ c.in_ok-append_pair.ensures.text c.version_word.ensures)
    (pair _ _ (codes "answer") _ _ c.in_ok-append_pair-2.ensures.text c.word.ensures)
    (pair _ _ (codes "logic") _ _ c.in_ok-append_pair-3.ensures.text (c.word-2.ensures ∙ ap logic_word c.logic.ensures))
    (pair _ _ (codes "sense") _ _ c.in_ok-append_pair-4.ensures.text c.sense_word.ensures))
    c.append_formula.ensures.text

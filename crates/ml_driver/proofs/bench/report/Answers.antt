-- The lines one behind the other are the text.
use Rattle.std.proofs.Common.{◌≡◌, ◌++◌, [], ◌∷◌, codes, refl, ap, ◌∙◌}
use Rattle.ml_front.specs.Head.{answer_line, answer_word}
use Rattle.ml_lines.specs.Lines.{Line, line_text, number, text_of}
use Rattle.ml_lines.proofs.Lines.{text_of-last, text_of-more}
use Rattle.ml_decide.specs.Measures.{answer_of}
use Rattle.ml_driver.specs.Bench.{found_lines}
use Rattle.ml_driver.specs.private.Findings.{nodes_line, positions_line}
use Rattle.ml_gen.specs.Families.{family_word}
use Rattle.ml_decide.specs.declared.finding.Finding.{Finding}
use Rattle.ml_decide.specs.declared.finding.Finding.TheVariants.{Decided, GamePassed, ClosurePassed}
use Rattle.ml_driver.proofs.bench.report.Goals as goal

two_lines : (x : Finding) → nodes_line x ∷ positions_line x ∷ [] ≡ found_lines x
two_lines (Decided nodes positions satisfiable) = refl
two_lines (GamePassed nodes) = refl
two_lines ClosurePassed = refl

pub returns : goal.returns
returns c =
    let x = c.args.finding in
    let request : Line = codes "bench" ∷ family_word c.args.family ∷ number c.args.n ∷ [] in
    let count : Line = codes "occurrences" ∷ number c.args.count ∷ [] in
    let answer : Line = answer_line (answer_of x) in
    let one = c.append_request.new.lines.items in
    let two = c.append_number.new.lines.items in
    let three = c.append_nodes.new.lines.items in
    let four = c.append_positions.new.lines.items in
    let five = c.append_word.new.lines.items in
    let word = c.word.ensures ∙ ap answer_word c.answer.ensures in
    text_of-more [] one five request (count ∷ nodes_line x ∷ positions_line x ∷ answer ∷ [])
    (c.in_ok-append_request.ensures ∙ ap (λ t. t ++ line_text request) c.new-lines.ensures.items)
    (text_of-more one two five count (nodes_line x ∷ positions_line x ∷ answer ∷ []) c.in_ok-append_number.ensures
    (text_of-more two three five (nodes_line x) (positions_line x ∷ answer ∷ []) c.in_ok-append_nodes.ensures
    (text_of-more three four five (positions_line x) (answer ∷ []) c.in_ok-append_positions.ensures
    (text_of-last four five answer
    (c.in_ok-append_word.ensures ∙ ap (λ w. four ++ line_text (codes "answer" ∷ w ∷ [])) word)))))
    ∙ ap (λ ls. text_of (request ∷ count ∷ (ls ++ (answer ∷ [])))) (two_lines x)

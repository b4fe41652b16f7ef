-- Words and numbers one behind the other are the line.
use Rattle.std.proofs.Common.{◌≡◌, ◌++◌, ◌∙◌, ℕ, List, [], ◌∷◌, ap, append_assoc, codes, sym}
use Rattle.std.proofs.lemmas.Result.{IfOk-weaker}
use Rattle.ml_lines.specs.Lines.{line_text, number}
use Rattle.ml_driver.specs.Said.{said_text}
use Rattle.ml_driver.proofs.said.Said.text.Goals as goal

-- two words at which the line is stuck, with something between them
two : (front a middle b : List ℕ) → front ++ (a ++ (middle ++ (b ++ 10 ∷ []))) ≡ front ++ ((a ++ (middle ++ b)) ++ 10 ∷ [])
two front a middle b =
    ap (λ t. front ++ t)
    (ap (λ t. a ++ t) (sym (append_assoc middle b (10 ∷ []))) ∙ sym (append_assoc a (middle ++ b) (10 ∷ [])))

pub returns-in-RejectedLine : goal.returns-in-RejectedLine
returns-in-RejectedLine c =
    IfOk-weaker c.format-in-RejectedLine.result _ _
    (λ text is. is ∙ two (codes "rejected line ") (number c.in-RejectedLine.line) (codes " rule ") (number c.in-RejectedLine.rule)
    ∙ ap said_text (sym c.in-RejectedLine.is))
    c.format-in-RejectedLine.ensures.ok

-- and three
three : (front a middle b next d : List ℕ)
    → front ++ (a ++ (middle ++ (b ++ (next ++ (d ++ 10 ∷ [])))))
    ≡ front ++ ((a ++ (middle ++ (b ++ (next ++ d)))) ++ 10 ∷ [])
three front a middle b next d =
    ap (λ t. front ++ (a ++ (middle ++ t))) (two [] b next d) ∙ two front a middle (b ++ (next ++ d))

pub returns-in-RefusedDocument : goal.returns-in-RefusedDocument
returns-in-RefusedDocument c =
    let fault = c.in-RefusedDocument.fault in
    IfOk-weaker c.format-in-RefusedDocument.result _ _
    (λ text is. is ∙ two (codes "refused document line ") (number fault.line) (codes " rule ") (number fault.rule)
    ∙ ap said_text (sym c.in-RefusedDocument.is))
    c.format-in-RefusedDocument.ensures.ok

pub returns-in-RejectedVertex : goal.returns-in-RejectedVertex
returns-in-RejectedVertex c =
    let id = c.in-RejectedVertex.id in
    IfOk-weaker c.format-in-RejectedVertex.result _ _
    (λ text is. is ∙ two (codes "rejected vertex ") (number id) (codes " rule ") (number c.number-in-RejectedVertex.result)
    ∙ ap (λ n. line_text (codes "rejected" ∷ codes "vertex" ∷ number id ∷ codes "rule" ∷ number n ∷ []))
    c.number-in-RejectedVertex.ensures
    ∙ ap said_text (sym c.in-RejectedVertex.is))
    c.format-in-RejectedVertex.ensures.ok

pub returns-in-RefusedText : goal.returns-in-RefusedText
returns-in-RefusedText c =
    let at = number c.in-RefusedText.at in
    let rule = number c.in-RefusedText.rule in
    IfOk-weaker c.format-in-RefusedText.result _ _
    (λ text is. is ∙ three (codes "refused ") c.word.result.now (codes " rule ") rule (codes " at ") at
    ∙ ap (λ w. line_text (codes "refused" ∷ w ∷ codes "rule" ∷ rule ∷ codes "at" ∷ at ∷ [])) c.word.ensures
    ∙ ap said_text (sym c.in-RefusedText.is))
    c.format-in-RefusedText.ensures.ok

pub returns-in-RefusedRequirements : goal.returns-in-RefusedRequirements
returns-in-RefusedRequirements c =
    let line = number c.in-RefusedRequirements.line in
    let column = number c.in-RefusedRequirements.column in
    IfOk-weaker c.format-in-RefusedRequirements.result _ _
    (λ text is. is
    ∙ three (codes "refused line ") line (codes " column ") column (codes " rule ") (number c.number.result)
    ∙ ap (λ n. line_text (codes "refused" ∷ codes "line" ∷ line ∷ codes "column" ∷ column ∷ codes "rule" ∷ number n ∷ []))
    c.number.ensures
    ∙ ap said_text (sym c.in-RefusedRequirements.is))
    c.format-in-RefusedRequirements.ensures.ok

pub returns-in-NoAnswers : goal.returns-in-NoAnswers
returns-in-NoAnswers c =
    let line = number c.in-NoAnswers.line in
    let column = number c.in-NoAnswers.column in
    IfOk-weaker c.format-in-NoAnswers.result _ _
    (λ text is. is
    ∙ three (codes "refused line ") line (codes " column ") column (codes " rule ") (number c.number-in-NoAnswers.result)
    ∙ ap (λ n. line_text (codes "refused" ∷ codes "line" ∷ line ∷ codes "column" ∷ column ∷ codes "rule" ∷ number n ∷ []))
    c.number-in-NoAnswers.ensures
    ∙ ap said_text (sym c.in-NoAnswers.is))
    c.format-in-NoAnswers.ensures.ok

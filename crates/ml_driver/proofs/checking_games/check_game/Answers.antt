-- What is found is said, or why the text is refused.
use Rattle.std.proofs.Common.{◌∙◌, Some, ap, option_map, sym}
use Rattle.std.proofs.lemmas.Result.{IfOk-weaker}
use Rattle.ml_driver.specs.CheckedGames.{if_found, if_unread}
use Rattle.ml_driver.specs.Said.{said_text}
use Rattle.ml_driver.proofs.checking_games.check_game.Goals as goal

pub returns-in-Ok-clause-answer : goal.returns-in-Ok-clause-answer
returns-in-Ok-clause-answer c =
    IfOk-weaker c.finding_said.result _ _ (λ output said. if_found c.in-Ok.finding c.in-Ok.ensures said) c.finding_said.ensures.said

pub returns-in-Some-clause-answer : goal.returns-in-Some-clause-answer
returns-in-Some-clause-answer c =
    IfOk-weaker c.refused.result _ _
    (λ output both.
    if_unread c.in-Err.refusal c.in-Err.ensures both.0
    (ap Some both.1 ∙ ap (option_map said_text) (sym c.in-Some.is ∙ c.game_refused.ensures.said)))
    c.refused.ensures.both

-- The verdict of answers.
--
--   verdict_is == by whether some answer says no, and whether some one stays open
use Rattle.std.proofs.Common.{◌≡◌, Bool, cond, List, map, ap, sym, ◌∙◌}
use Rattle.std.specs.List.{list_any}
use Rattle.ml_spec.specs.declared.specification.Item.{Item}
use Rattle.ml_replies.specs.declared.answer.Answered as asked
use Rattle.ml_ask_text.specs.Told.{is_against, is_left_open, verdict_of}
use Rattle.ml_ask_text.specs.declared.told.Verdict.TheVariants.{AsMeant, Against, Open}
use Rattle.ml_replies.specs.Answers.{replied_of}
use Rattle.ml_ask_text.proofs.Lists.{any_map}

pub verdict_is : (xs : List Item) (answers : List asked.Answered) (b c : Bool)
    → b ≡ list_any (λ a. is_against xs (replied_of a)) answers
    → c ≡ list_any (λ a. is_left_open (replied_of a)) answers
    → cond b Against (cond c Open AsMeant) ≡ verdict_of xs (map replied_of answers)
verdict_is xs answers b c against left_open =
    ap (λ t. cond t Against (cond c Open AsMeant)) (against ∙ sym (any_map (is_against xs) replied_of answers))
    ∙ ap (λ t. cond (list_any (is_against xs) (map replied_of answers)) Against (cond t Open AsMeant))
    (left_open ∙ sym (any_map is_left_open replied_of answers))

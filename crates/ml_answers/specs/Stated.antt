-- What is read of a document, as plain values.
--
--   replied_of a  == the plain value of the answer a that is stated
--   replies_of as == the plain answers of what is stated
--   lines_of as   == the numbers of their lines
use Rattle.std.specs.Prelude.{ℕ, List, map}
use Rattle.ml_replies.specs.Answers.{reply_of}
use Rattle.ml_replies.specs.Replies.{Replied}
use Rattle.ml_answers.specs.declared.stated.Stated.{Stated}

abbrev pub replied_of : Stated → Replied
replied_of a = record { question = a.question; reply = reply_of a.statement }

abbrev pub replies_of : List Stated → List Replied
replies_of stated = map replied_of stated

abbrev pub lines_of : List Stated → List ℕ
lines_of stated = map (λ a. a.line) stated

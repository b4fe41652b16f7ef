use Rattle.ml_replies.proofs.SomeReplies.{some_replies}
use Rattle.ml_replies.proofs.SomeReply as reply
use Rattle.ml_replies.proofs.laws.some_reply.Goals as goal

pub returns : goal.returns
returns c = record { one = reply.some_reply; all = some_replies }

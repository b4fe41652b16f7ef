use Rattle.ml_refute.proofs.NamedLists.{named_more, put_behind}
use Rattle.ml_refute.proofs.tables.Tables.push.Goals as goal

pub returns-clause-named : goal.returns-clause-named
returns-clause-named c =
    named_more _ _ _ _ _ _ _ _ _ _ _ c.in_ok-entry.ensures c.requires.named c.in_ok-push.ensures.items

pub returns-clause-put : goal.returns-clause-put
returns-clause-put c =
    put_behind _ _ _ _ _ _ _ _ _ _ _ c.in_ok-entry.ensures c.requires.named c.in_ok-push.ensures.items

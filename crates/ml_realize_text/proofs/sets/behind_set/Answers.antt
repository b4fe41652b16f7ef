use Rattle.ml_lines.specs.Reading.{words_of}
use Rattle.ml_realize_text.proofs.SetReads.{dash_behind, members_behind}
use Rattle.ml_realize_text.proofs.sets.behind_set.Goals as goal

pub returns-then-set-eq0 : goal.returns-then-set-eq0
returns-then-set-eq0 c =
    dash_behind (λ x. words_of x.now) c.args.names.now c.args.set (words_of c.args.text.now) c.text_behind.result c.if-set-eq0.true
    c.text_behind.ensures

pub returns-else-set-eq0 : goal.returns-else-set-eq0
returns-else-set-eq0 c =
    members_behind (λ x. words_of x.now) c.args.names.now c.args.set (words_of c.args.text.now) c.behind_members.result c.requires
    c.if-set-eq0.false c.behind_members.ensures

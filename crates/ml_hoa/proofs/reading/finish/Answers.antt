use Rattle.std.proofs.Common.{sym, subst}
use Rattle.ml_hoa.specs.Refusals.{IsReadAs}
use Rattle.ml_hoa.specs.private.Views.{state_of}
use Rattle.ml_hoa.proofs.Answered.{answered_whole, answered_range, answered_early}
use Rattle.ml_hoa.proofs.reading.finish.Goals as goal

pub new-requires : goal.new-requires
new-requires c = (answered_whole c.args.text.now (state_of c.args.reader) c.requires c.in-Done.is c.in-None.is).good

pub returns-in-Done : goal.returns-in-Done
returns-in-Done c =
    answered_range c.args.text.now (state_of c.args.reader) c.in-Some.at c.requires c.in-Done.is c.in-Some.is

pub returns-in-None : goal.returns-in-None
returns-in-None c =
    subst (IsReadAs c.args.text.now) (sym c.new.ensures)
    (answered_whole c.args.text.now (state_of c.args.reader) c.requires c.in-Done.is c.in-None.is).read

pub returns : goal.returns
returns c = answered_early c.args.text.now (state_of c.args.reader) c.requires c.in_default.not-Done

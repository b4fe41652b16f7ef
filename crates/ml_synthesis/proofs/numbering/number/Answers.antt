use Rattle.std.proofs.Common.{nat_eq}
use Rattle.std.proofs.lemmas.Bool.{eqb-true}
use Rattle.std.proofs.lemmas.Cmp.{nat_eq_equiv}
use Rattle.ml_lists.proofs.Added.{added}
use Rattle.ml_synthesis.proofs.numbering.number.Goals as goal

pub returns : goal.returns
returns c =
    added nat_eq eqb-true nat_eq_equiv.refl c.args.states.now.keys c.insert_full.new.self.keys c.args.state
    c.in_ok-number.number c.in_ok-number.ensures.keys c.in_ok-number.ensures.stored

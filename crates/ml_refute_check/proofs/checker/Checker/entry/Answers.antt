use Rattle.ml_refute_check.proofs.EntryFound.{entry_of_index}
use Rattle.ml_refute_check.proofs.checker.Checker.entry.Goals as goal

pub returns : goal.returns
returns c =
    let refutation = c.args.self.now.refutation.now in
    entry_of_index c.args.self.now.graph.now refutation c.args.place c.index.result.now c.requires c.index.ensures

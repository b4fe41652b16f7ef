use Rattle.std.proofs.Common.{ap}
use Rattle.ml_hoa.specs.private.Views.{state_of}
use Rattle.ml_hoa.proofs.LastEdges.{last_marked}
use Rattle.ml_hoa.proofs.reader.Reader.mark_last.Goals as goal

pub returns-in_ok-push : goal.returns-in_ok-push
returns-in_ok-push c =
    ap (λ es. record (state_of c.args.self.now) { edges = es })
    (last_marked c.args.self.now.edges.items c.pop.new.self.items c.push.new.self.items c.in-Some.edge
    c.in-Some.ensures.items c.in_ok-push.ensures.items)

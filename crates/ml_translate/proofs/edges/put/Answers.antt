use Rattle.ml_translate.proofs.EdgesMade.{put_made}
use Rattle.ml_translate.proofs.edges.put.Goals as goal

pub returns : goal.returns
returns c =
    put_made c.args.rows.now.items c.args.place c.args.to c.args.accepting c.push.new.self c.index_mut.result.now
    c.index_mut.result.now c.into_literals.result c.requires c.index_mut.ensures.value c.in_ok-push.ensures.items
    c.into_literals.ensures

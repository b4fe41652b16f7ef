use Rattle.std.proofs.Common.{◌∙◌, get_or, set, List, ap}
use Rattle.std.proofs.lemmas.List.{length-set}
use Rattle.ml_sequent.specs.declared.parts.Stage.{Stage}
use Rattle.ml_sequent.specs.declared.parts.Stage.TheVariants.{Done}
use Rattle.ml_sequent.proofs.FrameLists.{all_done_more}
use Rattle.ml_sequent.proofs.parts.finish.Goals as goal

pub loop-node-preserved : goal.loop-node-preserved
loop-node-preserved c =
    let n = get_or c.args.nodes.now c.loop-node.node-index 0 in
    record {
      sized = length-set c.loop-node.stages.items n Done ∙ c.loop-node.invariant.sized;
      done =
          ap (λ (xs : List Stage). set xs n Done) c.loop-node.invariant.done
          ∙ all_done_more c.args.nodes.now c.loop-node.node-index c.args.stages.now.items c.loop-node-test.true;
    }

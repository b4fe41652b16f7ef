use Rattle.std.proofs.Common.{◌∙◌}
use Rattle.ml_paths.proofs.Gathered.{edges_more}
use Rattle.ml_paths.proofs.runs.edges_of.Goals as goal

pub loop-place-preserved : goal.loop-place-preserved
loop-place-preserved c =
    let place = c.loop-place.place in
    edges_more c.args.places c.args.loop_start place c.loop-place.edges.items c.push.new.self.items
    (record { source = place; action = c.in_ok-copy.field-0; target = c.next.result }) c.loop-place.invariant
    c.in_ok-push.ensures.items
    (λ j. record {
      source = place;
      action = (c.in_ok-copy.ensures ∙ c.in_ok-blank.ensures) j;
      target = c.next.ensures j;
    })

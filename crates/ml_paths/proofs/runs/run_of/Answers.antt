use Rattle.ml_paths.proofs.Gathered.{none_bad, run_is}
use Rattle.ml_paths.proofs.runs.run_of.Goals as goal

pub built-requires-clause-inside : goal.built-requires-clause-inside
built-requires-clause-inside c =
    none_bad c.args.places c.args.loop_start c.args.labels.items c.in_ok-edges.edges.items c.requires.loops c.requires.inside
    c.in_ok-edges.ensures

pub returns : goal.returns
returns c =
    run_is c.args.places c.args.loop_start c.args.labels.items c.in_ok-edges.edges.items c.in_ok-structure.structure
    c.in_ok-edges.ensures c.in_ok-structure.ensures.built

use Rattle.ml_front.proofs.LinearGraphs.{linear_agrees, word_agrees}
use Rattle.ml_front.proofs.problem.graph.Goals as goal

-- src/problem.rt:132:1
pub returns-in-Ltl-clause-agrees : goal.returns-in-Ltl-clause-agrees
returns-in-Ltl-clause-agrees c =
    linear_agrees c.args.problem.now c.in-Ltl.formula c.ltl_graph_of.result c.in-Ltl.is c.ltl_graph_of.ensures.agrees

-- src/problem.rt:136:1
pub returns-in_ok-graph_of-in-Word-clause-agrees : goal.returns-in_ok-graph_of-in-Word-clause-agrees
returns-in_ok-graph_of-in-Word-clause-agrees c =
    word_agrees c.args.problem.now c.in-Word.formula c.in_ok-graph_of-in-Word.field-0 c.in-Word.is
    c.in_ok-graph_of-in-Word.ensures.agrees

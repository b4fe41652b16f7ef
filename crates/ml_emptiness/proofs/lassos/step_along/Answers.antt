use Rattle.std.proofs.Common.{◌<◌, length, get_or, sym, subst}
use Rattle.std.proofs.lemmas.Option.{get_or_from_slice_get}
use Rattle.ml_emptiness.specs.Systems.{table_of}
use Rattle.ml_emptiness.specs.declared.pairs.Pair.{Pair}
use Rattle.ml_emptiness.proofs.Between.{joint_between, step_made}
use Rattle.ml_emptiness.proofs.Tables.{goes_low, table_long}
use Rattle.ml_emptiness.proofs.lassos.step_along.Goals as goal

pub letter_between-requires-clause-state : goal.letter_between-requires-clause-state
letter_between-requires-clause-state c =
    let j = c.requires.joint in
    let system = c.args.both.now.system.now in
    let low = goes_low (table_of system) j.source.state j.letter j.target.state j.joins.goes in
    subst (λ (x : Pair). x.state < length system)
    (sym (get_or_from_slice_get c.args.pairs.now c.args.arc.from j.source (record { state = 0; at = 0 }) j.is_source))
    (subst (λ n. j.source.state < n) (table_long system) low)

pub unreachable-requires : goal.unreachable-requires
unreachable-requires c =
    let j = c.requires.joint in
    c.in-None.ensures j.letter
    (joint_between c.args.both.now.letters.now (table_of c.args.both.now.system.now) c.args.pairs.now c.args.arc
    (record { state = 0; at = 0 }) j)

pub returns : goal.returns
returns c = (
  (get_or c.args.pairs.now c.args.arc.from (record { state = 0; at = 0 })).state,
  c.in-Some.letter,
  c.in_ok-add_step-in-Some.ensures,
  step_made c.args.both.now.letters.now (table_of c.args.both.now.system.now) c.args.pairs.now c.args.arc
      (record { state = 0; at = 0 }) c.in-Some.letter c.requires.joint c.in-Some.ensures,
)

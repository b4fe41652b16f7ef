use Rattle.std.proofs.Common.{ℕ, true, get_or, ap, ◌∙◌, arith}
use Rattle.std.proofs.Math.ListN.{length-set}
use Rattle.std.proofs.lemmas.List.{take_all}
use Rattle.ml_trace.specs.Stack.{has}
use Rattle.ml_lists.proofs.Member.{place-member}
use Rattle.ml_history.proofs.trees.FlagsOfNames.{flags_next}
use Rattle.ml_history.proofs.names.flags_of.Goals as goal

pub index_mut-requires : goal.index_mut-requires
index_mut-requires c =
    let low = c.requires (get_or c.args.names.now c.loop-name.name-index 0)
    (place-member c.args.names.now c.loop-name.name-index 0 c.loop-name-test.true) in
    omega (arith, low, c.loop-name.invariant.0, c.loop-name.flags.ok.0)

pub loop-name-preserved : goal.loop-name-preserved
loop-name-preserved c =
    let low = c.requires (get_or c.args.names.now c.loop-name.name-index 0)
    (place-member c.args.names.now c.loop-name.name-index 0 c.loop-name-test.true) in (
      length-set c.loop-name.flags.items (get_or c.args.names.now c.loop-name.name-index 0) true
          ∙ c.loop-name.invariant.0,
      flags_next c.loop-name.flags.items c.args.names.now c.loop-name.name-index c.loop-name-test.true
          (omega (arith, low, c.loop-name.invariant.0)) c.loop-name.invariant.1,
    )

pub returns-clause-flags : goal.returns-clause-flags
returns-clause-flags c =
    c.loop-name.invariant.1 ∙ ap (λ xs. λ (y : ℕ). has y xs)
    (take_all c.loop-name.name-index c.args.names.now
    (omega (arith, c.loop-name-test.false, c.loop-name.auto.name-index-end)))

use Rattle.std.proofs.Common.{subst, arith}
use Rattle.std.proofs.lemmas.Grind.{common_steps}
use Rattle.ml_base.specs.Name.{IsName}
use Rattle.ml_lists.proofs.Members.{All-more_read}
use Rattle.ml_translate.proofs.propositions.copied.Goals as goal

pub loop-name-preserved : goal.loop-name-preserved
loop-name-preserved c = (
  grind (arith, common_steps),
  All-more_read IsName c.as_slice-name-items.result.now c.loop-name.name-index c.name-item.result c.loop-name-test.true c.name-item.is
      (subst IsName c.bytes-bytes.ensures.value c.bytes-bytes.ensures.is_name) c.loop-name.invariant.1,
)

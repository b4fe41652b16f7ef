use Rattle.std.proofs.Common.{refl}
use Rattle.ml_refute_check.specs.private.Sources.{led}
use Rattle.ml_refute_check.proofs.FoundByNode.{led_into}
use Rattle.ml_refute_check.proofs.NamesTraced.{kept_names}
use Rattle.ml_refute_check.proofs.names.keeps_names.Goals as goal

pub returns : goal.returns
returns c g step sources odds_are next_is stand told =
    let into = led c.args.next.now c.args.made.now in
    kept_names c.args.stacks.now g step c.args.mark c.args.odds.now c.args.next.now sources c.args.made.now into into
    c.args.before.now.live c.args.behind.now.live c.bound_of-bound.result c.green_of-green.result
    c.args.before.now.items.items c.deref.result.now c.args.behind.now.items.items c.deref-2.result.now
    c.are_in_use.result c.items_traced.result odds_are next_is stand told (led_into c.args.next.now c.args.made.now) refl
    c.deref.ensures.value c.deref-2.ensures.value c.bound_of-bound.ensures c.green_of-green.ensures
    c.are_in_use.ensures
    c.if-not-are_in_use.false c.items_traced.ensures

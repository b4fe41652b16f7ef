use Rattle.std.proofs.Common.{length, refl, sym, ap, subst, ◌∙◌, arith}
use Rattle.ml_spec.specs.Faults.{end_of}
use Rattle.ml_spec.specs.Known.{with_all}
use Rattle.ml_spec.specs.Scan.{item_text}
use Rattle.ml_spec.specs.Words.{words_of}
use Rattle.ml_spec.specs.declared.context.Declared.TheVariants.{Signal}
use Rattle.ml_spec.specs.private.Lists.{AreListed, IsMadeBehind, TellsInList}
use Rattle.ml_spec.proofs.PartSizes.{kind_fits}
use Rattle.ml_spec.proofs.Steps.{signals_stepped}
use Rattle.ml_spec.proofs.Told.{signals_told}
use Rattle.ml_spec.proofs.WordPlaces.{behind_filled, is_filled}
use Rattle.ml_spec.proofs.WordSteps.{words_at}
use Rattle.ml_spec.proofs.statement.read_signals.Goals as goal
use Rattle.ml_written.specs.Propositions.{is_proposition}

pub add_signals-requires-clause-within : goal.add_signals-requires-clause-within
add_signals-requires-clause-within c = omega (arith, kind_fits (item_text c.args.item.now), ap length c.requires.behind)

pub add_signals-requires-clause-front : goal.add_signals-requires-clause-front
add_signals-requires-clause-front c = subst is_filled (sym c.requires.behind) (behind_filled (item_text c.args.item.now).bytes)

pub returns-in-Ok : goal.returns-in-Ok
returns-in-Ok c =
    λ ss room context.
    let l = c.args.logic in
    let i = item_text c.args.item.now in
    let ds = c.args.context.now.declared.entries in
    signals_stepped l ss i room c.args.context.now _ context c.requires.kind.0
    (subst (λ t. AreListed (is_proposition l) (IsMadeBehind ds) 1 (words_at i t)) c.requires.behind c.in-Ok.ensures.listed)
    refl
    (c.in-Ok.ensures.declared ∙ ap (λ t. with_all ds Signal (words_of (words_at i t))) c.requires.behind)
    refl refl refl

pub returns-in-Err : goal.returns-in-Err
returns-in-Err c =
    λ ss room context.
    let l = c.args.logic in
    let i = item_text c.args.item.now in
    let ds = c.args.context.now.declared.entries in
    signals_told l ss i ds context.are_declared room c.requires.kind.0 c.in-Err.fault
    (subst (λ t. TellsInList (is_proposition l) (IsMadeBehind ds) 1 (words_at i t) (end_of i) c.in-Err.fault) c.requires.behind
    c.in-Err.ensures.refused)

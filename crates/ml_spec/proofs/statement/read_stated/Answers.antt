use Rattle.std.proofs.Common.{◌++◌, ◌∷◌, [], Contains, refl, sym, ap, subst, ◌∙◌}
use Rattle.ml_spec.specs.Scan.{item_text}
use Rattle.ml_spec.specs.Statements as says
use Rattle.ml_spec.specs.private.Stages.{AreMeant}
use Rattle.ml_spec.proofs.Steps.{stated_stepped}
use Rattle.ml_spec.proofs.Told.{stated_taken}
use Rattle.ml_spec.proofs.statement.read_stated.Goals as goal

pub returns-in_default : goal.returns-in_default
returns-in_default c =
    λ ss room context.
    let named = c.in_ok-name.ensures in
    stated_taken c.args.logic ss (item_text c.args.item.now) room c.args.context.now context c.in_ok-name.name.now named.name
    c.place_of.result c.args.behind_kind.now c.place_of.ensures c.requires.behind c.args.kind named.has_name
    (rw c.in_default.is at c.in_ok-name-2.ensures.new)

pub add_stated-requires : goal.add_stated-requires
add_stated-requires c = c.in_ok-written.ensures.written.0 ∙ sym c.requires.definitions

pub returns : goal.returns
returns c =
    λ ss room context.
    let l = c.args.logic in
    let i = item_text c.args.item.now in
    let old = c.args.context.now in
    let m = old.meanings in
    let named = c.in_ok-name.ensures.name in
    let new = rw c.in-Some.is at c.in_ok-name-2.ensures.new in
    let seen = rw c.in-Some.is at c.in_ok-name-2.ensures.seen in
    let w = c.in_ok-written.written in
    let e = c.add_stated.new.meanings in
    let before = subst (λ g. AreMeant g ss m.items.items m.definitions m.large) (sym context.of_logic) context.are_meant in
    let behind = c.in_ok-add_stated.ensures.meant ss before in
    let meant =
    subst (λ g. AreMeant g (ss ++ record { at = i.at; says = says.Stated c.args.kind c.in-Some.name w } ∷ []) e.items.items e.definitions e.large)
    context.of_logic behind in
    stated_stepped l ss i room old _ context c.args.kind w (c.in_ok-text.ensures.colon, refl) c.in_ok-written.ensures.written
    (subst (λ n. ¬ (Contains old.names.keys n)) named new.1) c.in_ok-check_declared.ensures.declared
    (seen ∙ ap (λ n. old.names.keys ++ n ∷ []) named) refl c.in_ok-add_propositions.ensures refl
    (c.in_ok-add_stated.ensures.logic ∙ context.of_logic)
    (subst (λ n. AreMeant l (ss ++ record { at = i.at; says = says.Stated c.args.kind n w } ∷ []) e.items.items e.definitions e.large)
    (new.0 ∙ named) meant)

use Rattle.std.proofs.Common.{refl, sym, subst, ⊎_elim}
use Rattle.ml_lists.specs.Member.{IsMember}
use Rattle.ml_spec.specs.Scan.{item_text}
use Rattle.ml_spec.proofs.Told.{definition_own, definition_reached, member_added, member_with}
use Rattle.ml_spec.proofs.statement.note_formula.Goals as goal
use Rattle.ml_written.specs.Propositions.{propositions}

pub returns-then-is_among-clause-refused : goal.returns-then-is_among-clause-refused
returns-then-is_among-clause-refused c =
    λ ss room context.
    let n = c.args.name.now in
    let w = c.args.written.now in
    let old = c.args.context.now.spoken.keys in
    let spoken = c.is_among.ensures.there c.if-is_among.true in
    let among = member_with old (propositions w) n (subst (IsMember n) c.in_ok-add_propositions.ensures spoken) in
    definition_own c.args.logic ss (item_text c.args.item.now) room c.args.context.now context n c.requires.name
    c.place_of.result c.args.behind_kind.now c.place_of.ensures c.requires.behind w c.requires.has_text c.requires.written
    c.requires.fresh.is_new
    (⊎_elim (λ (there : IsMember n old). absurd (c.requires.fresh.is_early there)) (λ (own : IsMember n (propositions w)). own) among)

pub returns-in-Ok-clause-noted : goal.returns-in-Ok-clause-noted
returns-in-Ok-clause-noted c =
    let n = c.args.name.now in
    let old = c.args.context.now.spoken.keys in
    let ps = propositions c.args.written.now in
    record {
      are_names = refl;
      are_declared = refl;
      are_spoken = c.in_ok-add_propositions.ensures;
      are_signals = refl;
      are_meanings = refl;
      is_other = λ own.
          c.is_among.ensures.not_there c.if-is_among.false
          (subst (IsMember n) (sym c.in_ok-add_propositions.ensures) (member_added old ps n own));
      all_declared = c.in-Ok.ensures.declared;
    }

pub returns-in-Err-clause-refused : goal.returns-in-Err-clause-refused
returns-in-Err-clause-refused c =
    λ ss room context.
    let n = c.args.name.now in
    let old = c.args.context.now.spoken.keys in
    let ps = propositions c.args.written.now in
    let i = item_text c.args.item.now in
    c.in-Err.ensures.refused ss
    (definition_reached c.args.logic ss i room c.args.context.now context n c.requires.name c.requires.fresh.is_new
    c.requires.fresh.is_early)
    (λ e own.
    c.is_among.ensures.not_there c.if-is_among.false
    (subst (IsMember n) (sym c.in_ok-add_propositions.ensures)
    (member_added old ps n (subst (λ k. IsMember k ps) (sym c.requires.name) own))))
    (sym context.are_signals) (sym context.are_declared)

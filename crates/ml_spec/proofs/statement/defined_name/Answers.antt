use Rattle.std.proofs.Common.{sym, subst, ◌∙◌}
use Rattle.ml_base.specs.Name.{IsName}
use Rattle.ml_spec.specs.ItemParts.{name_of}
use Rattle.ml_spec.specs.Scan.{item_text}
use Rattle.ml_spec.proofs.Propositions.{proposition_name}
use Rattle.ml_spec.proofs.Told.{definition_late, definition_taken}
use Rattle.ml_spec.proofs.statement.defined_name.Goals as goal

pub from_bytes-requires : goal.from_bytes-requires
from_bytes-requires c = subst IsName (sym c.requires.bytes) (proposition_name c.args.logic (name_of (item_text c.args.item.now)) c.requires.name.1)

pub returns-then-is_declared-clause-refused : goal.returns-then-is_declared-clause-refused
returns-then-is_declared-clause-refused c =
    λ ss room context.
    definition_taken c.args.logic ss (item_text c.args.item.now) room c.args.context.now context c.in_ok-name.name
    (c.in_ok-name.ensures ∙ c.requires.bytes) c.place_of.result c.args.behind_kind.now c.place_of.ensures c.requires.behind
    c.requires.name (c.is_declared.ensures.there c.if-is_declared.true)

pub returns-then-is_among-clause-refused : goal.returns-then-is_among-clause-refused
returns-then-is_among-clause-refused c =
    λ ss room context.
    definition_late c.args.logic ss (item_text c.args.item.now) room c.args.context.now context c.in_ok-name.name
    (c.in_ok-name.ensures ∙ c.requires.bytes) c.place_of-then-is_among.result c.args.behind_kind.now c.place_of-then-is_among.ensures c.requires.behind
    c.requires.name (c.is_declared.ensures.not_there c.if-is_declared.false) (c.is_among.ensures.there c.if-is_among.true)

pub returns-clause-fresh : goal.returns-clause-fresh
returns-clause-fresh c = record {
  is_new = c.is_declared.ensures.not_there c.if-is_declared.false;
  is_early = c.is_among.ensures.not_there c.if-is_among.false;
}

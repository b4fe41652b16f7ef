use Rattle.std.proofs.Common.{Contains, sym, subst, ◌∙◌}
use Rattle.std.proofs.lemmas.Map.Views.{Contains-from_any}
use Rattle.std.proofs.lemmas.Slice.Eq.{bytes_eq-Decides}
use Rattle.ml_spec.proofs.statement.new_name.Goals as goal

pub returns-then-contains-clause-new : goal.returns-then-contains-clause-new
returns-then-contains-clause-new c =
    subst (λ n. Contains c.args.seen.now.keys n) c.in_ok-name.ensures
    (Contains-from_any (λ x y e. (bytes_eq-Decides x y).0 e) c.in_ok-name.name c.args.seen.now.keys
    (sym c.contains.ensures ∙ c.if-contains.true))

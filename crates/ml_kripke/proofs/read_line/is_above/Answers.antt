use Rattle.std.proofs.Common.{◌≡◌, Some, None, sym, subst, ◌∙◌}
use Rattle.std.specs.Ordering.{nat_cmp}
use Rattle.std.specs.Cmp.Lexicographic.{slice_cmp}
use Rattle.std.proofs.lemmas.Bool.{true≢false}
use Rattle.ml_lists.specs.Last.{last_of}
use Rattle.ml_lists.specs.Chains.{Above}
use Rattle.ml_lists.proofs.Chains.{last_is}
use Rattle.ml_kripke.proofs.read_line.is_above.Goals as goal

pub returns-in-Less-clause-yes : goal.returns-in-Less-clause-yes
returns-in-Less-clause-yes c =
    let last : last_of None c.args.labels.now ≡ Some c.in-Some.last.now = last_is c.args.labels.now ∙ sym c.in-Some.ensures.value in
    λ yes. subst (λ l. Above (slice_cmp nat_cmp) l c.args.label.now) (sym last) (sym c.cmp.ensures ∙ c.in-Less.is)

pub returns-in_default : goal.returns-in_default
returns-in_default c =
    let last : last_of None c.args.labels.now ≡ Some c.in-Some.last.now = last_is c.args.labels.now ∙ sym c.in-Some.ensures.value in
    record {
      yes = λ is. absurd (true≢false (sym is));
      otherwise = λ is above.
          c.in_default.not-Less (c.cmp.ensures ∙ subst (λ l. Above (slice_cmp nat_cmp) l c.args.label.now) last above);
    }

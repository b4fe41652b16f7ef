use Rattle.std.proofs.Common.{rules, sym, subst}
use Rattle.std.proofs.lemmas.Result.{on_ok_weaker}
use Rattle.ml_translate.specs.private.Finding.{IsGrown, Overflows, places_in}
use Rattle.ml_translate.proofs.FoundPlaces.{grown_both, overflows_first, overflows_later, overflows_one}
use Rattle.ml_translate.proofs.finding.add_all.Goals as goal

pub returns-in_err-add-in-Two-clause-passed : goal.returns-in_err-add-in-Two-clause-passed
returns-in_err-add-in-Two-clause-passed c = λ e.
    subst (λ b. Overflows c.args.limit (places_in b) c.args.places.now.keys) (sym c.in-Two.is)
    (overflows_first c.args.limit c.args.places.now.keys c.in-Two.left c.in-Two.right
    (c.in_err-add-in-Two.ensures.passed (search rules)))

pub returns-in-One-clause-passed : goal.returns-in-One-clause-passed
returns-in-One-clause-passed c = λ e.
    subst (λ b. Overflows c.args.limit (places_in b) c.args.places.now.keys) (sym c.in-One.is)
    (overflows_one c.args.limit c.args.places.now.keys c.in-One.place (c.add.ensures.passed e))

pub returns-in_ok-add-in-Two-clause-grown : goal.returns-in_ok-add-in-Two-clause-grown
returns-in_ok-add-in-Two-clause-grown c =
    on_ok_weaker c.add-in-Two-2.result
    (λ grown.
    subst (λ b. IsGrown (places_in b) c.args.places.now.keys c.add-in-Two-2.new.places.keys) (sym c.in-Two.is)
    (grown_both c.args.places.now.keys c.add-in-Two.new.places.keys c.add-in-Two-2.new.places.keys c.in-Two.left c.in-Two.right
    c.in_ok-add-in-Two.ensures.grown grown))
    c.add-in-Two-2.ensures.grown

pub returns-in_ok-add-in-Two-clause-passed : goal.returns-in_ok-add-in-Two-clause-passed
returns-in_ok-add-in-Two-clause-passed c = λ e.
    subst (λ b. Overflows c.args.limit (places_in b) c.args.places.now.keys) (sym c.in-Two.is)
    (overflows_later c.args.limit c.args.places.now.keys c.add-in-Two.new.places.keys c.in-Two.left c.in-Two.right
    c.in_ok-add-in-Two.ensures.grown (c.add-in-Two-2.ensures.passed e))

use Rattle.std.proofs.Common.{arith, subst}
use Rattle.std.specs.List.Sorted.{IsBinarySearchResult}
use Rattle.std.specs.Ordering.{nat_cmp}
use Rattle.ml_base.proofs.IdSets.{missing_member}
use Rattle.ml_pgsolver.proofs.Places.{too_large}
use Rattle.ml_pgsolver.proofs.assembling.place_of.Goals as goal

pub returns-then-id-from : goal.returns-then-id-from
returns-then-id-from c = too_large c.args.ids.now c.args.id (λ i. let fits = c.type_inv.ids i in omega (arith, fits)) (omega arith)

pub returns-in-Err : goal.returns-in-Err
returns-in-Err c =
    missing_member c.args.ids.now c.args.id c.in-Err.field-0 c.requires
    (subst (IsBinarySearchResult (λ y. nat_cmp y c.args.id) c.args.ids.now) c.in-Err.is c.binary_search.ensures.position)

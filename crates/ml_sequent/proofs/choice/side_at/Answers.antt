use Rattle.std.proofs.Common.{rules, ◌<◌, ℕ, subst, length, Result}
use Rattle.std.specs.List.Sorted.{IsSearchInRange, IsBinarySearchResult}
use Rattle.std.specs.Ordering.{nat_cmp}
use Rattle.std.proofs.lemmas.List.Sorted.{answers_always}
use Rattle.ml_sequent.specs.declared.choice.Side.{Side}
use Rattle.ml_sequent.specs.declared.choice.Side.TheVariants.{Left}
use Rattle.ml_sequent.proofs.Choices.{side_found, side_missing}
use Rattle.ml_sequent.proofs.choice.side_at.Goals as goal

pub returns-in-Ok : goal.returns-in-Ok
returns-in-Ok c =
    let pairs = c.args.pairs.now in
    let position = c.binary_search_by_key.ensures.position (λ (p : ℕ × Side). p.0) (answers_always _ _ _ (λ f a r g called. search rules)) in
    let found = subst (λ (r : Result ℕ ℕ). IsBinarySearchResult (λ (p : ℕ × Side). nat_cmp p.0 c.args.node) pairs r) c.in-Ok.is position in
    let low : c.in-Ok.place < length pairs = subst (λ (r : Result ℕ ℕ). IsSearchInRange r (length pairs)) c.in-Ok.is c.binary_search_by_key.ensures.bound in
    side_found pairs c.requires c.args.node c.in-Ok.place (0, Left) found low

pub returns-in-Err : goal.returns-in-Err
returns-in-Err c =
    let pairs = c.args.pairs.now in
    let position = c.binary_search_by_key.ensures.position (λ (p : ℕ × Side). p.0) (answers_always _ _ _ (λ f a r g called. search rules)) in
    let missing = subst (λ (r : Result ℕ ℕ). IsBinarySearchResult (λ (p : ℕ × Side). nat_cmp p.0 c.args.node) pairs r) c.in-Err.is position in
    side_missing pairs c.requires c.args.node c.in-Err.field-0 missing

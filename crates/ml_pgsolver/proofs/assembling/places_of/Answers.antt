use Rattle.std.proofs.Common.{◌≡◌, ◌<◌, length, length-set, get_or, ◌∙◌, subst, arith}
use Rattle.std.proofs.lemmas.List.{get_or_default}
use Rattle.ml_lists.specs.Member.{IsMember}
use Rattle.ml_pgsolver.proofs.Places.{place_more, left_more, unknown_here}
use Rattle.ml_pgsolver.proofs.assembling.places_of.Goals as goal

pub loop-i-preserved : goal.loop-i-preserved
loop-i-preserved c =
    let now = c.loop-i.successors.items in
    let old = c.args.successors.items in
    let i = c.loop-i.i in
    let inside : i < length now = omega (arith, c.loop-i.invariant.as_many) in
    record {
      as_many = length-set now i c.in-Some.place ∙ c.loop-i.invariant.as_many;
      done = place_more c.args.ids.now now old i c.in-Some.place inside c.loop-i.invariant.done
          c.loop-i.invariant.left c.in-Some.ensures.0
          (c.in-Some.ensures.1 ∙ c.index.ensures ∙ get_or_default now i c.index.result.now 0 inside);
      left = left_more now old i c.in-Some.place inside c.loop-i.invariant.left;
    }

pub returns-in-None : goal.returns-in-None
returns-in-None c =
    let ids = c.args.ids.now in
    let now = c.loop-i.successors.items in
    let i = c.loop-i.i in
    let inside : i < length now = omega (arith, c.loop-i.invariant.as_many) in
    let is : c.index.result.now ≡ get_or now i 0 = c.index.ensures ∙ get_or_default now i c.index.result.now 0 inside in
    unknown_here ids now c.args.successors.items i inside c.loop-i.invariant.left
    (subst (λ n. IsMember n ids → ⊥) is c.in-None.ensures)

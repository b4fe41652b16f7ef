use Rattle.std.proofs.Common.{rules, ◌≡◌, ◌<◌, ◌++◌, ◌∷◌, [], ◌+◌, List, length, take, drop, get_or, refl, sym, ◌∙◌}
use Rattle.std.proofs.lemmas.Iterator.Adapters.{YieldsList-from_vec}
use Rattle.std.proofs.lemmas.Iterator.Consumers.{YieldsList-so_far, YieldsList-turn}
use Rattle.std.proofs.lemmas.List.{map-id}
use Rattle.ml_front.specs.declared.problem.AnyFormula.{AnyFormula}
use Rattle.ml_front.proofs.Connected.{front_more, with_fits, with_joined, with_large}
use Rattle.ml_front.proofs.connecting.joined.Goals as goal

pub with-requires : goal.with-requires
with-requires c =
    let xs = c.args.parts.items in
    let ys = c.loop-part.yielded in
    let g = c.in-Some.part in
    let given = YieldsList-from_vec {s = c.into_iter-part-iterator.result} xs (search rules) (search rules) in
    let front : ys ≡ take (length ys) xs = sym (map-id ys) ∙ YieldsList-so_far given ys c.loop-part.part-iterator c.loop-part.yielded_by in
    let next = YieldsList-turn given ys c.loop-part.part-iterator c.loop-part.yielded_by c.next.result c.next.new.self g c.in-Some.is c.next.ensures.steps in
    with_fits c.args.logic xs ys (drop (length ys + 1) xs) g (front_more xs ys g front next) c.loop-part.joined c.requires c.loop-part.invariant

pub loop-part-preserved : goal.loop-part-preserved
loop-part-preserved c =
    with_joined c.args.logic c.loop-part.yielded c.in-Some.part c.loop-part.joined
    c.in_ok-more.field-0 c.in-Some-2.more c.loop-part.invariant c.in_ok-more.ensures c.in-Some-2.is

pub returns-in-None-2 : goal.returns-in-None-2
returns-in-None-2 c =
    let xs = c.args.parts.items in
    let ys = c.loop-part.yielded in
    let g = c.in-Some.part in
    let given = YieldsList-from_vec {s = c.into_iter-part-iterator.result} xs (search rules) (search rules) in
    let front : ys ≡ take (length ys) xs = sym (map-id ys) ∙ YieldsList-so_far given ys c.loop-part.part-iterator c.loop-part.yielded_by in
    let next = YieldsList-turn given ys c.loop-part.part-iterator c.loop-part.yielded_by c.next.result c.next.new.self g c.in-Some.is c.next.ensures.steps in
    with_large c.args.logic xs ys (drop (length ys + 1) xs) g (front_more xs ys g front next) c.loop-part.joined c.in_ok-more.field-0
    c.loop-part.invariant c.in_ok-more.ensures c.in-None-2.is

-- A predecessor stands behind already, is not attracted, or is.
use Rattle.std.proofs.Common.{rules, arith, ◌+◌, ◌≡◌, ◌<◌, ◌⊎◌, inl, inr, ◌∙◌, ◌-◌, set, get_or-set_same, length-set}
use Rattle.std.proofs.lemmas.List.{get_or_default}
use Rattle.ml_parity.specs.Game.{owner_of}
use Rattle.ml_parity.specs.Solution.{choice_at}
use Rattle.ml_parity.specs.private.SolverSteps.{place_of, number_at}
use Rattle.ml_parity.proofs.Opponents.{other_player}
use Rattle.ml_parity.proofs.Attracting.{stays, attracted}
use Rattle.ml_parity.proofs.AttractLoops.{left_here, left_elsewhere}
use Rattle.ml_parity.proofs.zielonka.attractor.attract_one.Goals as goal
use Rattle.ml_parity.proofs.zielonka.attractor.attract_one.Goals.{else-ne-via-then-ne+else-index-gt0, else-ne-via-else-ne}

pub returns-then-index-count-clause-attracts : goal.returns-then-index-count-clause-attracts
returns-then-index-count-clause-attracts c = λ n mid a todo here inside move before.
    let less : c.index_mut.result.now - 1 + 1 ≡ number_at c.args.work.now.left.items c.args.from =
    (let e = c.index_mut.ensures.value
    ∙ get_or_default c.args.work.now.left.items c.args.from _ 0
    (omega (arith, c.requires.vertex, c.requires.work.counts)) in omega (arith, c.requires.some)) in
    let read : c.index.result.now ≡ place_of c.args.work.now.row.place.items c.args.from = c.index.ensures
    ∙ get_or_default c.args.work.now.row.place.items c.args.from _ _
    (omega (arith, c.requires.vertex, c.requires.work.vertices)) in
    stays c.args.game.now (place_of c.args.work.now.row.place.items) n mid c.args.count a c.args.player
    (choice_at c.args.work.now.choice.items) (number_at c.args.work.now.left.items)
    (number_at (set c.args.work.now.left.items c.args.from (c.index_mut.result.now - 1))) c.args.from todo before
    (left_here c.args.work.now.left.items c.args.from (c.index_mut.result.now - 1) less)
    (left_elsewhere c.args.work.now.left.items c.args.from _) (inl (omega (arith, c.if-index-count.true)))

pub returns-then-index-gt0-clause-attracts : goal.returns-then-index-gt0-clause-attracts
returns-then-index-gt0-clause-attracts c = λ n mid a todo here inside move before.
    let less : c.index_mut.result.now - 1 + 1 ≡ number_at c.args.work.now.left.items c.args.from =
    (let e = c.index_mut.ensures.value
    ∙ get_or_default c.args.work.now.left.items c.args.from _ 0
    (omega (arith, c.requires.vertex, c.requires.work.counts)) in omega (arith, c.requires.some)) in
    let differs : owner_of c.args.game.now c.args.from ≡ c.args.player → ⊥ =
    search (rules, c.ne.ensures, c.if-ne.true, c.owner_at.ensures) in
    let some : 0 < number_at (set c.args.work.now.left.items c.args.from (c.index_mut.result.now - 1)) c.args.from =
    (let e = c.index-then-ne.ensures
    ∙ get_or_default (set c.args.work.now.left.items c.args.from (c.index_mut.result.now - 1)) c.args.from _ 0
    (omega (
      arith,
      length-set c.args.work.now.left.items c.args.from (c.index_mut.result.now - 1),
      c.requires.vertex,
      c.requires.work.counts,
    )) in omega (arith, c.if-index-gt0.true)) in
    stays c.args.game.now (place_of c.args.work.now.row.place.items) n mid c.args.count a c.args.player
    (choice_at c.args.work.now.choice.items) (number_at c.args.work.now.left.items)
    (number_at (set c.args.work.now.left.items c.args.from (c.index_mut.result.now - 1))) c.args.from todo before
    (left_here c.args.work.now.left.items c.args.from (c.index_mut.result.now - 1) less)
    (left_elsewhere c.args.work.now.left.items c.args.from _)
    (inr (other_player (owner_of c.args.game.now c.args.from) c.args.player differs, some))

pub returns-clause-attracts : goal.returns-clause-attracts
returns-clause-attracts c = λ n mid a todo here inside move before.
    let less : c.index_mut.result.now - 1 + 1 ≡ number_at c.args.work.now.left.items c.args.from =
    (let e = c.index_mut.ensures.value
    ∙ get_or_default c.args.work.now.left.items c.args.from _ 0
    (omega (arith, c.requires.vertex, c.requires.work.counts)) in omega (arith, c.requires.some)) in
    let why : (owner_of c.args.game.now c.args.from ≡ c.args.player)
    ⊎ (number_at (set c.args.work.now.left.items c.args.from (c.index_mut.result.now - 1)) c.args.from ≡ 0) =
    elim c.else-ne.branch [
      | else-ne-via-then-ne+else-index-gt0 w ↦
          inr (let e = w.index-then-ne.ensures
          ∙ get_or_default (set c.args.work.now.left.items c.args.from (c.index_mut.result.now - 1)) c.args.from _ 0
          (omega (
            arith,
            length-set c.args.work.now.left.items c.args.from (c.index_mut.result.now - 1),
            c.requires.vertex,
            c.requires.work.counts,
          )) in omega (arith, w.if-index-gt0.false))
      | else-ne-via-else-ne w ↦
          inl (search (rules, c.ne.ensures, w.if-ne.false, c.owner_at.ensures))
    ] in
    attracted c.args.game.now (place_of c.args.work.now.row.place.items) n mid c.args.count a c.args.player
    (choice_at c.args.work.now.choice.items) (number_at c.args.work.now.left.items)
    (number_at (set c.args.work.now.left.items c.args.from (c.index_mut.result.now - 1))) c.args.from todo before
    (left_here c.args.work.now.left.items c.args.from (c.index_mut.result.now - 1) less)
    (left_elsewhere c.args.work.now.left.items c.args.from _)
    (place_of c.remove.new.row.place.items) c.remove.result
    (choice_at (set c.args.work.now.choice.items c.args.from c.args.to)) c.args.to c.remove.ensures.removed
    c.remove.ensures.count here inside move (get_or-set_same c.args.work.now.choice.items c.args.from c.args.to 0
    (omega (arith, c.requires.vertex, c.requires.work.chosen)))
    (left_elsewhere c.args.work.now.choice.items c.args.from c.args.to) why c.requires.vertex

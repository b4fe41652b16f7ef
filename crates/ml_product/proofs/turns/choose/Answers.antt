-- What is known of the position where the spread was made; and what a call answers when there is no room.
use Rattle.std.proofs.lemmas.Result.{err_from_is_err_and}
use Rattle.ml_sequent.specs.declared.choice.Side.TheVariants.{Left, Right}
use Rattle.ml_product.specs.private.Pools.{positions_of}
use Rattle.ml_product.specs.private.Exploring.{at_place, IsAt}
use Rattle.ml_product.proofs.Numbering.{handed_on}
use Rattle.ml_product.proofs.Turning.{stands_at, still_chosen, unchosen_at, first_new, second_new, chosen_passed, both_opened}
use Rattle.ml_product.proofs.turns.choose.Goals as goal

pub chosen-requires-clause-unchosen : goal.chosen-requires-clause-unchosen
chosen-requires-clause-unchosen c =
    unchosen_at c.args.branch.now.graph c.args.limit c.args.pool.now c.args.v c.args.branch.now.spread c.requires.at
    c.args.terms.now.neutral c.requires.terms.neutral_is c.args.node c.requires.is_open.no_clash c.requires.is_open.least

pub chosen-requires-clause-is_new : goal.chosen-requires-clause-is_new
chosen-requires-clause-is_new c =
    first_new c.args.branch.now.graph c.args.limit c.args.pool.now c.args.v c.args.branch.now.spread c.requires.at
    c.args.terms.now.neutral c.requires.terms.neutral_is c.args.node c.requires.is_open.no_clash c.requires.is_open.least c.requires.fresh

pub chosen-requires-2-clause-is_new : goal.chosen-requires-2-clause-is_new
chosen-requires-2-clause-is_new c =
    second_new c.args.branch.now.graph c.args.limit c.args.pool.now c.chosen.new.pool c.args.v
    c.args.branch.now.spread c.args.terms.now.neutral c.args.node c.in_ok-left.left c.requires.at
    c.requires.terms.neutral_is c.requires.is_open.no_clash c.requires.is_open.least c.requires.fresh c.in_ok-left.ensures.ok

pub returns-in_err-left-clause-passed : goal.returns-in_err-left-clause-passed
returns-in_err-left-clause-passed c = λ e.
    let g = c.args.branch.now.graph in
    let b = c.args.pool.now in
    let v = c.args.v in
    let sp = c.args.branch.now.spread in
    let at = c.requires.at in
    let p = err_from_is_err_and c.from_residual.result c.from_residual.ensures.1 in
    chosen_passed g c.args.limit b v sp at c.args.terms.now.neutral c.requires.terms.neutral_is c.args.node
    c.requires.is_open.no_clash c.requires.is_open.least Left
    (c.in_err-left.ensures.passed (handed_on c.from_residual.result c.in_err-left.field-0.0 p e)
    (at_place g (positions_of b) v) (stands_at g c.args.limit b v sp at))

-- what the first side makes of the pool
once : (c : goal.After-chosen-arg-2-1) → IsAt c.args.branch.now.graph c.args.limit c.chosen.new.pool c.args.v
    c.args.branch.now.spread
once c =
    still_chosen c.args.branch.now.graph c.args.limit c.args.pool.now c.chosen.new.pool c.args.v
    c.args.branch.now.spread
    c.args.terms.now.neutral c.args.node c.in_ok-left.left c.requires.at c.requires.terms.neutral_is
    c.requires.is_open.no_clash c.requires.is_open.least c.in_ok-left.ensures.ok

pub chosen-requires-2-clause-pool : goal.chosen-requires-2-clause-pool
chosen-requires-2-clause-pool c = (once c).explores.is_pool

pub chosen-requires-2-clause-few : goal.chosen-requires-2-clause-few
chosen-requires-2-clause-few c = (once c).explores.few

pub chosen-requires-2-clause-number : goal.chosen-requires-2-clause-number
chosen-requires-2-clause-number c = (once c).number

pub chosen-requires-2-clause-unchosen : goal.chosen-requires-2-clause-unchosen
chosen-requires-2-clause-unchosen c =
    unchosen_at c.args.branch.now.graph c.args.limit c.chosen.new.pool c.args.v c.args.branch.now.spread (once c)
    c.args.terms.now.neutral c.requires.terms.neutral_is c.args.node c.requires.is_open.no_clash c.requires.is_open.least

pub returns-in_err-right-clause-passed : goal.returns-in_err-right-clause-passed
returns-in_err-right-clause-passed c = λ e.
    let g = c.args.branch.now.graph in
    let b = c.chosen.new.pool in
    let v = c.args.v in
    let sp = c.args.branch.now.spread in
    let k = c.args.terms.now.neutral in
    let at =
    still_chosen g c.args.limit c.args.pool.now b v sp k c.args.node c.in_ok-left.left c.requires.at
    c.requires.terms.neutral_is c.requires.is_open.no_clash c.requires.is_open.least c.in_ok-left.ensures.ok in
    let p = err_from_is_err_and c.from_residual-in_err-right.result c.from_residual-in_err-right.ensures.1 in
    chosen_passed g c.args.limit b v sp at k c.requires.terms.neutral_is c.args.node
    c.requires.is_open.no_clash c.requires.is_open.least Right
    (c.in_err-right.ensures.passed (handed_on c.from_residual-in_err-right.result c.in_err-right.field-0.0 p e)
    (at_place g (positions_of b) v) (stands_at g c.args.limit b v sp at))

pub returns-clause-opened : goal.returns-clause-opened
returns-clause-opened c =
    both_opened c.args.branch.now.graph c.args.limit c.args.pool.now c.chosen.new.pool c.chosen-2.new.pool c.args.v
    c.args.branch.now.spread c.args.terms.now.neutral c.args.node c.in_ok-left.left c.in_ok-right.right c.requires.at
    c.requires.terms.neutral_is c.requires.is_open.no_clash c.requires.is_open.least c.in_ok-left.ensures.ok c.in_ok-right.ensures.ok

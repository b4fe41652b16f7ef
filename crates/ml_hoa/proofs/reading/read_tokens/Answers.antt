use Rattle.std.proofs.Common.{rules, ap, sym, ◌∙◌, arith}
use Rattle.ml_hoa.specs.Tokens.{Piece}
use Rattle.ml_hoa.specs.private.Machine.{outcome}
use Rattle.ml_hoa.specs.private.Views.{state_of, piece_of}
use Rattle.ml_hoa.proofs.Pieces.{tokens_start}
use Rattle.ml_hoa.proofs.TokenSteps.{whole_step, whole_stop, whole_end, size_within, told_along, open_behind}
use Rattle.ml_hoa.proofs.reading.read_tokens.Goals as goal

pub loop-at-init : goal.loop-at-init
loop-at-init c = record {
  within = omega arith;
  none_closes = λ still. absurd (cc);
  comes = ap (outcome (state_of c.args.reader.now)) (tokens_start c.args.text.now);
}

pub returns-in_err-take_piece : goal.returns-in_err-take_piece
returns-in_err-take_piece c =
    let refused = told_along c.in_err-take_piece.field-0.0 _ _ c.loop-at.invariant.comes
    (whole_stop c.args.text.now c.loop-at.at (piece_of c.front_piece-piece.result) (state_of c.loop-at.reader)
    c.in_err-take_piece.field-0.0 c.loop-at-test.true c.front_piece-piece.ensures c.in_err-take_piece.ensures) in search rules

pub overflow_add-at : goal.overflow_add-at
overflow_add-at c =
    let w = size_within c.args.text.now c.loop-at.at (piece_of c.front_piece-piece.result) c.loop-at-test.true
    c.front_piece-piece.ensures in
    omega (arith, w.fits)

pub loop-at-smaller : goal.loop-at-smaller
loop-at-smaller c =
    let w = size_within c.args.text.now c.loop-at.at (piece_of c.front_piece-piece.result) c.loop-at-test.true
    c.front_piece-piece.ensures in
    omega (arith, w.some, w.fits)

pub loop-at-preserved : goal.loop-at-preserved
loop-at-preserved c =
    let text = c.args.text.now in
    let at = c.loop-at.at in
    let p = piece_of c.front_piece-piece.result in
    let is = c.front_piece-piece.ensures in
    let w = size_within text at p c.loop-at-test.true is in
    record {
      within = omega (arith, w.fits);
      none_closes = λ still. open_behind text at p.size c.loop-at.is_open c.loop-at-test.true (ap (λ (q : Piece). q.size) is) w.some
          c.loop-at.invariant.none_closes (sym c.stays_open-is_open.ensures ∙ still);
      comes = c.loop-at.invariant.comes
          ∙ whole_step text at p (state_of c.loop-at.reader) (state_of c.take_piece.new.reader) c.loop-at-test.true is c.in_ok-take_piece.ensures;
    }

pub returns : goal.returns
returns c = c.loop-at.invariant.comes ∙ whole_end c.args.text.now c.loop-at.at (state_of c.loop-at.reader) c.loop-at-test.false

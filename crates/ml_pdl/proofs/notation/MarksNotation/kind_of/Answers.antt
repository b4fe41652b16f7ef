use Rattle.std.proofs.Common.{◌∙◌, ap, arith}
use Rattle.ml_text.specs.Items.{bytes_of}
use Rattle.ml_text.proofs.NamedSigns.{can_name, short_name, spelled_sign}
use Rattle.ml_pdl.specs.Marks.{is_test_behind, with_mark}
use Rattle.ml_pdl.specs.Signs.{own}
use Rattle.ml_pdl.specs.Text.{sign_at, sign_by, signs_behind}
use Rattle.ml_pdl.proofs.ReadNames.{short_mark, spelled_mark}
use Rattle.ml_pdl.proofs.MarkBytes.{mark_right, token_within}
use Rattle.ml_pdl.proofs.notation.MarksNotation.kind_of.Goals as goal

pub is_test-requires : goal.is_test-requires
is_test-requires c =
    let place = c.requires.place in
    omega (arith, token_within c.args.text.now c.args.placed place.0 place.1 c.requires.spells, c.requires.made.0)

pub returns-clause-sign : goal.returns-clause-sign
returns-clause-sign c =
    let text = c.args.text.now in
    let p = c.args.placed in
    c.marked.ensures (bytes_of text p)
    ∙ ap (with_mark c.is_test.result) c.kind_of-kind.ensures
    ∙ ap (λ b. with_mark b (sign_by text p)) c.is_test.ensures
    ∙ mark_right c.args.self.now.flags.items text p c.requires.made c.requires.place.0 c.requires.place.1 c.requires.spells

pub returns-clause-can_name : goal.returns-clause-can_name
returns-clause-can_name c =
    let text = c.args.text.now in
    let p = c.args.placed in
    let bytes = bytes_of text p in
    let mark = is_test_behind 0 (signs_behind text p.end) in
    can_name own c.marked.result text p (sign_at text p) c.requires.place.0 c.requires.place.1 (returns-clause-sign c)
    (spelled_mark mark (sign_by text p) (spelled_sign own p.token bytes))
    (λ short size. short_mark mark (sign_by text p) (short_name own p.token bytes _ short size))

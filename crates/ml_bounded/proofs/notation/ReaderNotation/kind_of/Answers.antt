-- A sign can be made of each token.
use Rattle.std.proofs.Common.{◌∙◌, ap, drop}
use Rattle.ml_text.specs.Items.{bytes_of}
use Rattle.ml_text.proofs.NamedSigns.{can_name, short_name, spelled_sign}
use Rattle.ml_bounded.specs.Numbers.{begins_number, number_at}
use Rattle.ml_bounded.specs.Signs.{numbered, own}
use Rattle.ml_bounded.specs.Text.{sign_at, sign_by}
use Rattle.ml_bounded.proofs.ReadNames.{short_number, spelled_number}
use Rattle.ml_bounded.proofs.notation.ReaderNotation.kind_of.Goals as goal

pub returns-clause-sign : goal.returns-clause-sign
returns-clause-sign c =
    let text = c.args.text.now in
    let p = c.args.placed in
    c.numbered.ensures (bytes_of text p)
    ∙ ap (numbered (begins_number text p.start) (number_at (drop p.start text))) c.kind_of-kind.ensures

pub returns-clause-can_name : goal.returns-clause-can_name
returns-clause-can_name c =
    let text = c.args.text.now in
    let p = c.args.placed in
    let bytes = bytes_of text p in
    let b = begins_number text p.start in
    let n = number_at (drop p.start text) in
    can_name own c.numbered.result text p (sign_at text p) c.requires.place.0 c.requires.place.1 (returns-clause-sign c)
    (spelled_number b n (sign_by text p) (spelled_sign own p.token bytes))
    (λ short size. short_number b n (sign_by text p) (short_name own p.token bytes _ short size))

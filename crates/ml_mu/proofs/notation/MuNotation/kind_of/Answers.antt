-- A sign can be made of each token.
use Rattle.ml_text.specs.Items.{bytes_of}
use Rattle.ml_text.proofs.NamedSigns.{can_name, short_name, spelled_sign}
use Rattle.ml_mu.specs.Signs.{own}
use Rattle.ml_mu.specs.Text.{sign_at}
use Rattle.ml_mu.proofs.notation.MuNotation.kind_of.Goals as goal

pub returns-clause-can_name : goal.returns-clause-can_name
returns-clause-can_name c =
    let text = c.args.text.now in
    let p = c.args.placed in
    let bytes = bytes_of text p in
    can_name own c.kind_of.result text p (sign_at text p) c.requires.place.0 c.requires.place.1 c.kind_of.ensures
    (spelled_sign own p.token bytes) (λ short size. short_name own p.token bytes _ short size)

use Rattle.ml_bisim.specs.declared.numbering.Numbering.{Numbering}
use Rattle.ml_bisim.specs.private.Numbers.{AreNumbers}
use Rattle.ml_bisim.specs.private.Signatures.{AreParts}
use Rattle.ml_bisim.proofs.Parts.{are_parts, signature_eq}
use Rattle.ml_bisim.proofs.Passed.{ok_then}
use Rattle.ml_bisim.proofs.signatures.parts.Goals as goal

pub returns : goal.returns
returns c =
    let m = c.args.structure.now in
    let ks = c.in_ok-signatures.signatures.items in
    ok_then (λ (n : Numbering). AreNumbers signature_eq ks n.numbers.items n.count)
    (λ (n : Numbering). AreParts m c.args.class.now c.args.states.now n.numbers.items n.count)
    (λ (n : Numbering) are. are_parts m c.args.edges.now c.requires.edges c.args.class.now c.args.states.now ks
    n.numbers.items n.count c.in_ok-signatures.ensures are) c.numbered.result c.numbered.ensures

use Rattle.std.proofs.Common.{◌≡◌, ℕ, ◌+◌, ◌-◌, min, List, drop, length, take, ap, sym, subst, ◌∙◌, arith, length-drop, length-take}
use Rattle.ml_spec.specs.ItemParts.{place_of}
use Rattle.ml_spec.specs.Scan.{item_text}
use Rattle.ml_spec.specs.private.Stages.{IsFirstInItem}
use Rattle.ml_spec.proofs.ItemFaults.{first_refused}
use Rattle.ml_spec.proofs.PartSizes.{text_fits}
use Rattle.ml_spec.proofs.head.text_fault.Goals as goal
use Rattle.ml_written.specs.Written.{IsRefusedIn}

pub place_of-requires-clause-end : goal.place_of-requires-clause-end
place_of-requires-clause-end c =
    let n = c.min.result in
    omega (
      arith,
      length-take (length c.args.text.now - n) (drop n c.args.text.now),
      length-drop n c.args.text.now,
      text_fits (item_text c.args.item.now),
      ap length c.requires.text,
    )

-- where the rest of a text begins, whichever way it is cut off
place_same : (at size m offset : ℕ) (text : List ℕ)
    → m ≡ min (length text) offset
    → at + (size - length (take (length text - m) (drop m text))) ≡ at + (size - length (drop offset text))
place_same at size m offset text is =
    omega (
      arith,
      length-take (length text - m) (drop m text),
      length-drop m text,
      length-drop offset text,
    )

pub returns-in-Some : goal.returns-in-Some
returns-in-Some c =
    λ ss reached.
    let l = c.args.logic in
    let i = item_text c.args.item.now in
    let q = c.args.kind in
    let text = c.requires.has_text in
    let refused = subst (λ t. IsRefusedIn l t c.args.refusal) c.requires.text c.requires.refused in
    let place = c.place_of.ensures
    ∙ place_same i.at (length i.bytes) c.min.result c.in-Some.offset c.args.text.now c.min.ensures
    ∙ ap (λ t. place_of i (drop c.in-Some.offset t)) c.requires.text in
    subst (IsFirstInItem l ss i c.in-Some.rule) (sym place)
    (first_refused l ss i reached.has_room q text.0.0.0 text.0.0 reached.is_new reached.is_early text c.in-Some.rule
    c.in-Some.offset (c.args.refusal, c.in-Some.ensures, refused))

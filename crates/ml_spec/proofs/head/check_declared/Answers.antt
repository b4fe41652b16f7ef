use Rattle.std.proofs.Common.{◌≡◌, ℕ, ◌+◌, ◌-◌, min, List, drop, length, take, ap, sym, subst, ◌∙◌, arith, length-drop, length-take}
use Rattle.std.specs.Map.{keys_of}
use Rattle.ml_spec.specs.ItemParts.{place_of, text_of}
use Rattle.ml_spec.specs.Scan.{item_text}
use Rattle.ml_spec.specs.Statements.{IsWrittenIn}
use Rattle.ml_spec.specs.declared.rule.SpecRule.TheVariants.{Undeclared}
use Rattle.ml_spec.specs.private.Stages.{IsFirstInItem}
use Rattle.ml_spec.proofs.ItemFaults.{first_undeclared}
use Rattle.ml_spec.proofs.PartSizes.{text_fits}
use Rattle.ml_spec.proofs.head.check_declared.Goals as goal
use Rattle.ml_written.specs.Places.{IsFirstUndeclared}

pub place_of-requires-clause-end : goal.place_of-requires-clause-end
place_of-requires-clause-end c =
    let n = c.min.result in
    omega (
      arith,
      length-take (length c.args.text.now - n) (drop n c.args.text.now),
      length-drop n c.args.text.now,
      text_fits (item_text c.args.item.now),
      ap length c.requires.text,
    )

-- where the rest of a text begins, whichever way it is cut off
place_same : (at size m offset : ℕ) (text : List ℕ)
    → m ≡ min (length text) offset
    → at + (size - length (take (length text - m) (drop m text))) ≡ at + (size - length (drop offset text))
place_same at size m offset text is =
    omega (
      arith,
      length-take (length text - m) (drop m text),
      length-drop m text,
      length-drop offset text,
    )

pub returns-in-Some-clause-refused : goal.returns-in-Some-clause-refused
returns-in-Some-clause-refused c =
    λ ss reached other signals declared.
    let l = c.args.logic in
    let i = item_text c.args.item.now in
    let q = c.args.kind in
    let w = c.args.written.now in
    let text = c.requires.has_text in
    let place = c.place_of.ensures
    ∙ place_same i.at (length i.bytes) c.min.result c.in-Some.offset c.args.text.now c.min.ensures
    ∙ ap (λ t. place_of i (drop c.in-Some.offset t)) c.requires.text in
    subst (IsFirstInItem l ss i Undeclared) (sym place)
    (first_undeclared l ss i reached.has_room q text.0.0.0 text.0.0 reached.is_new reached.is_early text w c.in-Some.offset
    (subst (λ t. IsWrittenIn l t w) c.requires.text c.requires.written) other (signals ∙ c.if-not-has_signals.false)
    (subst (λ ds. IsFirstUndeclared (keys_of ds) (text_of i) w c.in-Some.offset) (sym declared)
    (subst (λ t. IsFirstUndeclared (keys_of c.args.declared.now.entries) t w c.in-Some.offset) c.requires.text c.in-Some.ensures)))

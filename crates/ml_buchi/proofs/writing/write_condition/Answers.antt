use Rattle.std.proofs.Common.{◌-◌, [], ◌∷◌, ◌++◌, ap, ◌∙◌}
use Rattle.std.specs.List.{flat_map, range_with_len}
use Rattle.std.proofs.lemmas.Result.{on_ok_weaker}
use Rattle.ml_buchi.specs.WrittenText.{alone, operand_text}
use Rattle.ml_buchi.specs.private.Openings.{closings, opening}
use Rattle.ml_buchi.proofs.Conditions.{openings_and_closings}
use Rattle.ml_lists.proofs.WrittenParts.{both}
use Rattle.ml_buchi.proofs.writing.write_condition.Goals as goal

pub returns : goal.returns
returns c =
    let top = c.args.top in
    let count = c.saturating_sub.result in
    let openings = flat_map (opening top) (range_with_len 0 (top - 1)) in
    let last = operand_text (alone (top - 1)) in
    on_ok_weaker c.write_closings.result
    (λ end.
    both c.args.out.now.items (32 ∷ []) (openings ++ (last ++ closings count)) c.in_ok-write_word.ensures.ok
    (both c.write_word.new.out.items openings (last ++ closings count) c.in_ok-write_openings.ensures
    (both c.write_openings.new.out.items last (closings count) c.in_ok-write_alone.ensures end))
    ∙ ap (λ text. c.args.out.now.items ++ 32 ∷ text)
    (openings_and_closings top count c.requires c.saturating_sub.ensures))
    c.write_closings.ensures

use Rattle.std.proofs.Common.{rules, ◌≡◌, ◌∷◌, ◌++◌, [], length, sym, ◌∙◌, ap, subst, arith}
use Rattle.ml_text.specs.Grammar.{More}
use Rattle.ml_text.specs.Items.{item_at, items, items_from, noted_from}
use Rattle.ml_text.specs.Tokens.{tokens, tokens_from}
use Rattle.ml_text.specs.private.Progress.{IsRefusal, outcome_from}
use Rattle.ml_text.specs.private.Reading.{outcome}
use Rattle.ml_text.specs.private.Views.{stack_view}
use Rattle.ml_text.proofs.ItemSteps.{noted_more}
use Rattle.ml_text.proofs.NextToken.{first_is_next}
use Rattle.ml_text.proofs.reading.read.Goals as goal

pub loop-placed-init : goal.loop-placed-init
unfolding tokens
loop-placed-init g c =
    let t = g.L.Notation.tables in
    let text = c.args.text.now in
    let toks = tokens_from t.signs.words text 0 in
    record {
      limits = omega arith;
      within = omega arith;
      comes =
          ap (λ q. outcome t.grammar (length text) (More q) [] 0 0 (items t.signs text))
          (sym (c.start.ensures ∙ ap t.grammar.start c.whole.ensures))
          ∙ ap (λ fs. outcome t.grammar (length text) (More (t.wait c.start.result)) (stack_view t fs) 0 0
          (items t.signs text)) (sym c.new.ensures.items)
          ∙ ap (λ k. outcome t.grammar (length text) (More (t.wait c.start.result)) (stack_view t c.new.result.items) 0
          0 (items_from t.signs text k toks)) (sym c.first.ensures);
      places =
          ap (λ k. noted_from t.signs k (items_from t.signs text k toks)) (sym c.first.ensures)
          ∙ ap (λ xs. xs ++ noted_from t.signs c.first.result (items_from t.signs text c.first.result toks))
          (sym c.new-2.ensures.items);
    }

pub read_item-requires-clause-spells : goal.read_item-requires-clause-spells
read_item-requires-clause-spells g c =
    let t = g.L.Notation.tables in
    let text = c.args.text.now in
    let placed = c.in-Some.placed in
    let split : tokens_from t.signs.words text c.loop-placed.at ≡ placed ∷ tokens_from t.signs.words text placed.end =
    subst (λ w. tokens_from w text c.loop-placed.at ≡ placed ∷ tokens_from w text placed.end) c.words.ensures
    c.in-Some.ensures.tokens in
    (first_is_next t.signs.words text c.loop-placed.at placed (tokens_from t.signs.words text placed.end)
    split).longest.spells

pub returns-in_err-progress : goal.returns-in_err-progress
returns-in_err-progress g c =
    let t = g.L.Notation.tables in
    let text = c.args.text.now in
    let placed = c.in-Some.placed in
    let p = c.loop-placed.progress in
    let split : tokens_from t.signs.words text c.loop-placed.at ≡ placed ∷ tokens_from t.signs.words text placed.end =
    subst (λ w. tokens_from w text c.loop-placed.at ≡ placed ∷ tokens_from w text placed.end) c.words.ensures
    c.in-Some.ensures.tokens in
    let item = item_at t.signs text p.context placed in
    let rest = items_from t.signs text (t.signs.behind item.sign) (tokens_from t.signs.words text placed.end) in
    let same = c.loop-placed.invariant.comes
    ∙ ap (λ ps. outcome_from t (length text) p (items_from t.signs text p.context ps)) split in
    let refused = subst (IsRefusal c.in_err-progress.field-0.0) (sym same)
    (c.in_err-progress.ensures (length text) rest) in
    search rules

pub loop-placed-preserved : goal.loop-placed-preserved
loop-placed-preserved g c =
    let t = g.L.Notation.tables in
    let text = c.args.text.now in
    let placed = c.in-Some.placed in
    let p = c.loop-placed.progress in
    let next = c.in_ok-progress.progress in
    let goes = c.in_ok-progress.ensures in
    let split : tokens_from t.signs.words text c.loop-placed.at ≡ placed ∷ tokens_from t.signs.words text placed.end =
    subst (λ w. tokens_from w text c.loop-placed.at ≡ placed ∷ tokens_from w text placed.end) c.words.ensures
    c.in-Some.ensures.tokens in
    let item = item_at t.signs text p.context placed in
    let left = tokens_from t.signs.words text placed.end in
    let rest = items_from t.signs text (t.signs.behind item.sign) left in
    record {
      limits = goes.limits;
      within = c.in-Some.ensures.place.2;
      comes =
          c.loop-placed.invariant.comes
          ∙ ap (λ ps. outcome_from t (length text) p (items_from t.signs text p.context ps)) split
          ∙ goes.comes (length text) rest
          ∙ ap (λ k. outcome_from t (length text) next (items_from t.signs text k left)) (sym goes.context);
      places =
          c.loop-placed.invariant.places
          ∙ ap (λ ps. p.places.items ++ noted_from t.signs p.context (items_from t.signs text p.context ps)) split
          ∙ noted_more (t.signs.is_noted p.context item.sign) item.at p.places.items
          (noted_from t.signs (t.signs.behind item.sign) rest)
          ∙ ap (λ xs. xs ++ noted_from t.signs (t.signs.behind item.sign) rest) (sym goes.places)
          ∙ ap (λ k. next.places.items ++ noted_from t.signs k (items_from t.signs text k left)) (sym goes.context);
    }

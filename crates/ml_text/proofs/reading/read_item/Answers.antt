use Rattle.std.proofs.Common.{◌≡◌, ◌+◌, ◌-◌, ◌++◌, ◌∷◌, [], if◌then◌else◌, false, sym, ◌∙◌, ap, take, drop, arith}
use Rattle.ml_text.specs.Items as text_items
use Rattle.ml_text.specs.NotedItems as noted_items
use Rattle.ml_text.specs.Refusals as limit
use Rattle.ml_text.specs.private.Tables.{IsLike}
use Rattle.ml_text.specs.private.Views.{mode_view, stack_view}
use Rattle.ml_text.proofs.ItemSteps.{goes_as, like_of, limited_like, short_bytes, stuck_like}
use Rattle.ml_text.proofs.reading.read_item.Goals as goal

pub returns-in_default : goal.returns-in_default
returns-in_default g c =
    let t = g.L.Notation.tables in
    let p = c.args.progress in
    let text = c.args.text.now in
    let kind = c.kind_of-kind.result in
    let item = text_items.item_at t.signs text p.context c.args.placed in
    let like : IsLike t.grammar item.sign (t.sign c.in_ok-sign.sign) =
    like_of t.grammar (t.named kind) (g.met.L.Notation.alike kind) item.sign (t.sign c.in_ok-sign.sign)
    (text_items.bytes_of text c.args.placed) _ c.kind_of-kind.ensures.sign c.in_ok-sign.ensures in
    let step = rw c.in_default.is at c.in_ok-mode.ensures in
    λ end rest. stuck_like t.grammar end (mode_view t p.mode) (stack_view t p.stack.items) p.count p.depth item rest
    (t.sign c.in_ok-sign.sign) like step

pub returns-in-Some-limit_refusal : goal.returns-in-Some-limit_refusal
returns-in-Some-limit_refusal g c =
    let t = g.L.Notation.tables in
    let p = c.args.progress in
    let text = c.args.text.now in
    let kind = c.kind_of-kind.result in
    let item = text_items.item_at t.signs text p.context c.args.placed in
    let like : IsLike t.grammar item.sign (t.sign c.in_ok-sign.sign) =
    like_of t.grammar (t.named kind) (g.met.L.Notation.alike kind) item.sign (t.sign c.in_ok-sign.sign)
    (text_items.bytes_of text c.args.placed) _ c.kind_of-kind.ensures.sign c.in_ok-sign.ensures in
    let step = rw c.in-Some.is at c.in_ok-mode.ensures in
    let sum = ap (λ n. p.count + n) (c.weight.ensures.weight (text_items.bytes_of text c.args.placed)
    ∙ ap (t.signs.weight p.context) c.kind_of-kind.ensures.sign) in
    let deep = c.depth_behind-depth.ensures.depth
    ∙ ap (λ b. limit.open_behind_one b p.depth)
    (c.bracket.ensures (text_items.bytes_of text c.args.placed) ∙ ap t.signs.bracket c.kind_of-kind.ensures.sign) in
    λ end rest. limited_like t.grammar end (mode_view t p.mode) (stack_view t p.stack.items) p.count p.depth item rest
    (t.sign c.in_ok-sign.sign) _ (p.count + c.weight.result) c.depth_behind-depth.result c.is_long.result
    c.in-Some-limit_refusal.refusal like step sum deep c.is_long.ensures
    (sym c.in-Some-limit_refusal.is ∙ c.limit_refusal.ensures)

pub returns : goal.returns
returns g c =
    let t = g.L.Notation.tables in
    let p = c.args.progress in
    let text = c.args.text.now in
    let kind = c.kind_of-kind.result in
    let whole = text_items.bytes_of text c.args.placed in
    let item = text_items.item_at t.signs text p.context c.args.placed in
    let is = c.kind_of-kind.ensures.sign in
    let step = rw c.in-Some.is at c.in_ok-mode.ensures in
    let sum = ap (λ n. p.count + n) (c.weight.ensures.weight whole ∙ ap (t.signs.weight p.context) is) in
    let deep = c.depth_behind-depth.ensures.depth
    ∙ ap (λ b. limit.open_behind_one b p.depth) (c.bracket.ensures whole ∙ ap t.signs.bracket is) in
    let sliced : c.args.placed.start + c.name_size.result - c.args.placed.start ≡ noted_items.name_size c.args.placed =
    omega (arith, c.name_size.ensures.size) in
    let name = λ (short : c.is_long.result ≡ false). ap (λ n. take n (drop c.args.placed.start text)) sliced
    ∙ short_bytes text c.args.placed (sym c.is_long.ensures ∙ short) in
    let same = λ (short : c.is_long.result ≡ false). c.in_ok-sign.ensures ∙ ap (t.named kind) (name short) ∙ is in
    let kept = goes_as t.grammar (mode_view t p.mode) (stack_view t p.stack.items) p.count p.depth item
    (t.sign c.in_ok-sign.sign) _ (p.count + c.weight.result) c.depth_behind-depth.result c.is_long.result same step
    sum deep c.is_long.ensures (sym c.in_default-limit_refusal.is ∙ c.limit_refusal.ensures) in
    let wanted = c.is_noted.ensures whole ∙ ap (t.signs.is_noted p.context) is in
    record {
      limits = (kept.few, kept.flat);
      context = c.behind.ensures whole ∙ ap t.signs.behind is;
      places =
          c.in_ok-note.ensures {u = tt} ∙ ap (λ b.
          if b then p.places.items ++ c.args.placed.start ∷ [] else p.places.items) wanted;
      comes = kept.comes;
    }

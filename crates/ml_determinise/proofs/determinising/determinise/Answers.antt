-- Letters are followed from one history more, and at the end they were from all.
use Rattle.std.proofs.Common.{◌≡◌, ◌<◌, ◌≤◌, List, [], ◌++◌, length, sym, ap, ◌∙◌, subst, arith}
use Rattle.std.proofs.lemmas.List.{length-map, map_push}
use Rattle.std.proofs.lemmas.Result.{err_from_is_err_and}
use Rattle.std.specs.Global.{Vec}
use Rattle.ml_lists.proofs.FirstEntries.{firsts}
use Rattle.ml_lists.proofs.Member.{place-member}
use Rattle.ml_history.specs.HistoryOrder.{history_eq}
use Rattle.ml_determinise.specs.Numbering.{rows_of, successors}
use Rattle.ml_determinise.specs.private.Walk.{history_at, IsPartway}
use Rattle.ml_determinise.specs.declared.moves.DetMove.{DetMove}
use Rattle.ml_determinise.proofs.HandedOn.{handed_on}
use Rattle.ml_determinise.proofs.Numberings.{never_both}
use Rattle.ml_determinise.proofs.ReachedHistories.{reached_fits}
use Rattle.ml_determinise.proofs.WalkedHistories.{walked_apart, walked_ended, walked_more, walked_numbering, walked_passed, walked_reached}
use Rattle.ml_determinise.proofs.determinising.determinise.Goals as goal

abbrev moves_in : Vec DetMove → List DetMove
moves_in moves = moves.items

pub follow_all-requires-clause-fit : goal.follow_all-requires-clause-fit
follow_all-requires-clause-fit c = λ letter m.
    let l = c.loop-alloc in
    let hs = l.histories.keys in
    let v = c.len-v.result in
    let low : v < length hs = omega arith in
    let row = c.args.letters.now in
    let h = history_at hs v in
    reached_fits c.args.states row c.args.start c.requires.stays c.requires.starts h letter
    (walked_reached c.args.states row c.args.start c.args.limit hs (rows_of l.all.items) l.invariant h
    (place-member hs v [] low)) m

pub follow_all-requires-clause-apart : goal.follow_all-requires-clause-apart
follow_all-requires-clause-apart c =
    let l = c.loop-alloc in
    let row = c.args.letters.now in
    walked_apart c.args.states row c.args.start c.args.limit l.histories.keys (rows_of l.all.items) l.invariant

pub returns-in_err-follow_all-clause-passed : goal.returns-in_err-follow_all-clause-passed
returns-in_err-follow_all-clause-passed c = λ e.
    let l = c.loop-alloc in
    let hs = l.histories.keys in
    let row = c.args.letters.now in
    let all = rows_of l.all.items in
    let here : length all ≡ c.len-v.result = length-map l.all.items moves_in ∙ sym (c.len-v.ensures ∙ l.all.ok.0) in
    let low : length all < length hs = omega arith in
    let p = err_from_is_err_and c.from_residual-in_err-follow_all.result c.from_residual-in_err-follow_all.ensures.1 in
    walked_passed c.args.states row c.args.start c.args.limit hs all l.invariant low
    (subst (λ n. c.args.limit < length (firsts history_eq (hs ++ successors row (history_at hs n)))) (sym here)
    (c.in_err-follow_all.ensures.passed
    (handed_on c.from_residual-in_err-follow_all.result c.in_err-follow_all.field-0.0 p e)))

pub loop-alloc-preserved : goal.loop-alloc-preserved
loop-alloc-preserved c =
    let l = c.loop-alloc in
    let hs = l.histories.keys in
    let ks = c.follow_all.new.histories.keys in
    let row = c.args.letters.now in
    let all = rows_of l.all.items in
    let moves = c.in_ok-follow_all.field-0 in
    let here : length all ≡ c.len-v.result = length-map l.all.items moves_in ∙ sym (c.len-v.ensures ∙ l.all.ok.0) in
    let low : length all < length hs = omega arith in
    walked_more c.args.states row c.args.start c.args.limit hs all l.invariant low ks moves.items
    (rows_of c.push.new.self.items)
    (subst (λ n. IsPartway c.args.states c.args.limit hs (history_at hs n) row ks moves.items) (sym here)
    c.in_ok-follow_all.ensures.followed)
    (ap rows_of c.in_ok-push.ensures.items ∙ map_push moves_in l.all.items moves)

pub returns-clause-numbered : goal.returns-clause-numbered
returns-clause-numbered c =
    let l = c.loop-alloc in
    let all = rows_of l.all.items in
    let here = length-map l.all.items moves_in in
    let whole : length l.histories.keys ≤ length all = omega arith in
    walked_ended c.args.states c.args.letters.now c.args.start c.args.limit l.histories.keys all l.invariant whole

pub returns-clause-not_passed : goal.returns-clause-not_passed
returns-clause-not_passed c =
    let l = c.loop-alloc in
    let all = rows_of l.all.items in
    let here = length-map l.all.items moves_in in
    let whole : length l.histories.keys ≤ length all = omega arith in
    never_both c.args.letters.now c.args.start c.args.limit l.histories.keys
    (walked_numbering c.args.states c.args.letters.now c.args.start c.args.limit l.histories.keys all l.invariant whole)

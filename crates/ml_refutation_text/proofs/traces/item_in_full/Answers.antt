use Rattle.std.proofs.Common.{sym, subst}
use Rattle.std.specs.Option.{option_copied}
use Rattle.ml_lines.specs.Reading.{words_of}
use Rattle.ml_refutation.specs.Refutation.{IsAbove}
use Rattle.ml_refutation_text.specs.private.ItemReads.{AreNames, before_of}
use Rattle.ml_refutation_text.proofs.ReadWords.{some_word}
use Rattle.ml_refutation_text.proofs.ItemLines.{full_no_numbers, full_no_names, full_is, full_spelt, full_some}
use Rattle.ml_refutation_text.proofs.traces.item_in_full.Goals as goal
use Rattle.ml_refutation_text.proofs.traces.item_in_full.Goals.{else-comes_behind-via-then-comes_behind+else-are_names, else-comes_behind-via-else-comes_behind}

pub returns-then-are_names-clause-read : goal.returns-then-are_names-clause-read
returns-then-are_names-clause-read c =
    let line = words_of c.args.line.now in
    let node = c.in-Some-read_state.node in
    let odd = c.in-Some-read_state.odd in
    let state = c.in-Some-read_state.ensures in
    let stack = rw c.in-Some-2.is at c.in_ok-stack-in-Some-read_state.ensures in
    let ns = c.in-Some-2.stack.items in
    full_is line c.args.live (before_of (option_copied c.args.before)) (record { node = node; odd = odd }) ns
    (full_spelt line c.in-Some.node.now c.in-Some.guess.now c.in-Some.rest.now node odd ns c.in-Some.ensures.1 state.0 state.2 stack.0)
    (full_some line c.in-Some.node.now c.in-Some.guess.now c.in-Some.rest.now node odd ns c.in-Some.ensures.1 state.0 state.2 stack.0)
    state.1 state.3 (c.comes_behind.ensures.yes c.if-comes_behind.true)
    (subst (AreNames c.args.live) c.deref.ensures.value (c.are_names.ensures.yes c.if-are_names.true))

pub returns-else-comes_behind-clause-refused : goal.returns-else-comes_behind-clause-refused
returns-else-comes_behind-clause-refused c =
    let line = words_of c.args.line.now in
    let node = c.in-Some-read_state.node in
    let odd = c.in-Some-read_state.odd in
    let state = c.in-Some-read_state.ensures in
    let stack = rw c.in-Some-2.is at c.in_ok-stack-in-Some-read_state.ensures in
    let ns = c.in-Some-2.stack.items in
    let before = before_of (option_copied c.args.before) in
    let none : ¬ (IsAbove before (record { node = node; odd = odd }) × AreNames c.args.live ns) =
    elim c.else-comes_behind.branch [
      | else-comes_behind-via-then-comes_behind+else-are_names w ↦ λ both.
          w.are_names.ensures.otherwise w.if-are_names.false (subst (AreNames c.args.live) (sym w.deref.ensures.value) both.1)
      | else-comes_behind-via-else-comes_behind w ↦ λ both. c.comes_behind.ensures.otherwise w.if-comes_behind.false both.0
    ] in
    λ names wanted es q traces no_heights stand.
    full_no_names names wanted es q traces line c.args.live before (record { node = node; odd = odd }) ns stand
    (full_spelt line c.in-Some.node.now c.in-Some.guess.now c.in-Some.rest.now node odd ns c.in-Some.ensures.1 state.0 state.2 stack.0)
    (full_some line c.in-Some.node.now c.in-Some.guess.now c.in-Some.rest.now node odd ns c.in-Some.ensures.1 state.0 state.2 stack.0)
    stack.1 state.1 state.3 none

pub returns-in-None-2-clause-refused : goal.returns-in-None-2-clause-refused
returns-in-None-2-clause-refused c =
    let bad = rw c.in-None-2.is at c.in_ok-stack-in-Some-read_state.ensures in
    λ names wanted es q traces no_heights stand.
    full_no_numbers names wanted es q traces (words_of c.args.line.now) (words_of c.in-Some.rest.now) c.in-Some.node.now
    c.in-Some.guess.now c.in-Some.ensures.1 (some_word c.in-Some.rest.now) c.in-Some.ensures.0 (λ both. bad both.1)

pub returns-in-None-read_state-clause-refused : goal.returns-in-None-read_state-clause-refused
returns-in-None-read_state-clause-refused c =
    λ names wanted es q traces no_heights stand.
    full_no_numbers names wanted es q traces (words_of c.args.line.now) (words_of c.in-Some.rest.now) c.in-Some.node.now
    c.in-Some.guess.now c.in-Some.ensures.1 (some_word c.in-Some.rest.now) c.in-Some.ensures.0
    (λ both. c.in-None-read_state.ensures both.0)

use Rattle.std.proofs.Common.{◌↔◌, ◌∙◌, length, IsTrue, ap, refl, subst, sym, arith}
use Rattle.ml_sequent.specs.declared.choice.Side.TheVariants.{Left, Right}
use Rattle.ml_refute_check.specs.private.Stepping.{KeptList}
use Rattle.ml_sequent.specs.Choice.{with_side}
use Rattle.ml_sequent.specs.Spread.{IsSpread, IsOpenOr}
use Rattle.ml_refutation.specs.Refutation.{IsDecided}
use Rattle.ml_refutation.specs.Views.{decision_of}
use Rattle.ml_refute_check.specs.private.Parts.{question, Finds, Stands, branch_parts, count_branches}
use Rattle.ml_refute_check.proofs.BranchesFound.{found_same, split_refused, split_left, split_right, split_kept, left_less, right_less}
use Rattle.ml_refute_check.proofs.TakenBack.{taken_back, chosen_stands}
use Rattle.ml_refute_check.proofs.checker.Checker.+deciding.Goals as goal

pub check_decision-returns-then-not-is_open_or-clause-found :
    goal.check_decision-returns-then-not-is_open_or-clause-found
check_decision-returns-then-not-is_open_or-clause-found t c =
    let q = question c.args.self.now.graph.now c.args.self.now.refutation.now in
    found_same q c.args.place c.args.branch.now.on.spread.choice (sym c.in-Split.is) refl
    (split_refused q _ _ _ c.requires.asks.is_graph c.requires.stands c.in-Split.node
    (decision_of c.in-Split.left.value) (decision_of c.in-Split.right.value) c.is_open_or.result
    (subst (λ g. IsTrue c.is_open_or.result ↔ IsOpenOr g c.args.branch.now.on.spread c.in-Split.node) c.requires.graph c.is_open_or.ensures) c.if-not-is_open_or.true)

pub check_decision-check_side-requires : goal.check_decision-check_side-requires
check_decision-check_side-requires t c =
    let count = length c.args.self.now.refutation.now.entries.items in
    let names = c.args.self.now.refutation.now.names in
    let whole = subst (IsDecided names count) (ap decision_of c.in-Split.is) c.requires.decided in
    let decided = subst (λ d. IsDecided names count (decision_of d)) (sym c.deref.ensures) whole.1 in
    let less =
    left_less (decision_of c.args.decision.now) (decision_of c.in-Split.left.value) (decision_of c.in-Split.right.value)
    (decision_of c.deref.result.now) c.in-Split.node (ap decision_of c.in-Split.is)
    (ap decision_of c.deref.ensures) in (
      omega (arith, less, c.decreases),
      (
        c.requires.asks,
        (
          c.requires.graph,
          (
            c.requires.entry,
            (c.requires.items, (c.requires.stands, (c.is_open_or.ensures.0 c.if-not-is_open_or.false, decided))),
          ),
        ),
      ),
    )

pub check_decision-check_side-requires-in-None : goal.check_decision-check_side-requires-in-None
check_decision-check_side-requires-in-None t c =
    let q = question c.args.self.now.graph.now c.args.self.now.refutation.now in
    let same = c.in_ok-bad-in-Split.ensures.same in
    let count = length c.args.self.now.refutation.now.entries.items in
    let names = c.args.self.now.refutation.now.names in
    let whole = subst (IsDecided names count) (ap decision_of c.in-Split.is) c.requires.decided in
    let decided = subst (λ d. IsDecided names count (decision_of d)) (sym c.deref-in-None.ensures) whole.2 in
    let less =
    right_less (decision_of c.args.decision.now) (decision_of c.in-Split.left.value)
    (decision_of c.in-Split.right.value)
    (decision_of c.deref-in-None.result.now) c.in-Split.node (ap decision_of c.in-Split.is)
    (ap decision_of c.deref-in-None.ensures) in (
      omega (arith, less, c.decreases),
      (
        c.requires.asks,
        (
          ap (λ (b : KeptList). b.on.graph) same ∙ c.requires.graph,
          (
            c.requires.entry,
            (
              c.requires.items,
              (
                subst (λ (b : KeptList). Stands q c.args.place b.on.sequent b.on.spread) (sym same) c.requires.stands,
                (
                  subst (λ (b : KeptList). IsOpenOr b.on.graph b.on.spread c.in-Split.node) (sym same)
                      (c.is_open_or.ensures.0 c.if-not-is_open_or.false),
                  decided,
                ),
              ),
            ),
          ),
        ),
      ),
    )

pub check_decision-returns-in_ok-later-in-Some-clause-found : goal.check_decision-returns-in_ok-later-in-Some-clause-found
check_decision-returns-in_ok-later-in-Some-clause-found t c =
    let q = question c.args.self.now.graph.now c.args.self.now.refutation.now in
    let left = with_side c.args.branch.now.on.spread.choice c.in-Split.node Left in
    found_same q c.args.place c.args.branch.now.on.spread.choice (sym c.in-Split.is) refl
    (split_left q _ _ _ c.requires.asks.is_graph c.requires.stands c.in-Split.node (decision_of c.in-Split.left.value)
    (decision_of c.in-Split.right.value) c.is_open_or.result
    (subst (λ g. IsTrue c.is_open_or.result ↔ IsOpenOr g c.args.branch.now.on.spread c.in-Split.node) c.requires.graph c.is_open_or.ensures)
    c.if-not-is_open_or.false left c.in-Some.bad c.in_ok-later-in-Some.field-0 refl
    c.in_ok-later-in-Some.ensures.part c.in_ok-later-in-Some.ensures.rule
    (found_same q c.args.place left c.deref.ensures c.in-Some.is c.in_ok-bad-in-Split.ensures.found))

pub check_decision-returns-in_ok-later-in-Some-2-2-clause-found : goal.check_decision-returns-in_ok-later-in-Some-2-2-clause-found
check_decision-returns-in_ok-later-in-Some-2-2-clause-found t c =
    let q = question c.args.self.now.graph.now c.args.self.now.refutation.now in
    let left = with_side c.args.branch.now.on.spread.choice c.in-Split.node Left in
    let right = with_side c.args.branch.now.on.spread.choice c.in-Split.node Right in
    found_same q c.args.place c.args.branch.now.on.spread.choice (sym c.in-Split.is) refl
    (split_right q _ _ _ c.requires.asks.is_graph c.requires.stands c.in-Split.node (decision_of c.in-Split.left.value)
    (decision_of c.in-Split.right.value) c.is_open_or.result
    (subst (λ g. IsTrue c.is_open_or.result ↔ IsOpenOr g c.args.branch.now.on.spread c.in-Split.node) c.requires.graph c.is_open_or.ensures)
    c.if-not-is_open_or.false left right
    c.in-Some-2.bad c.in_ok-later-in-Some-2.field-0 c.in_ok-later-in-Some-2-2.field-0
    c.in_ok-count_branches-in-Some-2.field-0 refl refl
    (c.in_ok-count_branches-in-Some-2.ensures ∙ ap (λ d. count_branches (decision_of d)) c.deref-in-Some-2.ensures)
    c.in_ok-later-in-Some-2.ensures.part c.in_ok-later-in-Some-2.ensures.rule c.in_ok-later-in-Some-2-2.ensures.part
    c.in_ok-later-in-Some-2-2.ensures.rule
    (found_same q c.args.place left c.deref.ensures c.in-None.is c.in_ok-bad-in-Split.ensures.found)
    (found_same q c.args.place right c.deref-in-None.ensures c.in-Some-2.is
    (subst (λ (b : KeptList). Finds q c.args.place (branch_parts (with_side b.on.spread.choice c.in-Split.node Right) (decision_of c.deref-in-None.result.now)) c.in_ok-bad-in-None.field-0)
    c.in_ok-bad-in-Split.ensures.same c.in_ok-bad-in-None.ensures.found)))

pub check_decision-returns-in-None-2-clause-found : goal.check_decision-returns-in-None-2-clause-found
check_decision-returns-in-None-2-clause-found t c =
    let q = question c.args.self.now.graph.now c.args.self.now.refutation.now in
    let left = with_side c.args.branch.now.on.spread.choice c.in-Split.node Left in
    let right = with_side c.args.branch.now.on.spread.choice c.in-Split.node Right in
    found_same q c.args.place c.args.branch.now.on.spread.choice (sym c.in-Split.is) refl
    (split_kept q _ _ _ c.requires.asks.is_graph c.requires.stands c.in-Split.node (decision_of c.in-Split.left.value)
    (decision_of c.in-Split.right.value) c.is_open_or.result
    (subst (λ g. IsTrue c.is_open_or.result ↔ IsOpenOr g c.args.branch.now.on.spread c.in-Split.node) c.requires.graph c.is_open_or.ensures)
    c.if-not-is_open_or.false left right refl refl
    (found_same q c.args.place left c.deref.ensures c.in-None.is c.in_ok-bad-in-Split.ensures.found)
    (found_same q c.args.place right c.deref-in-None.ensures c.in-None-2.is
    (subst (λ (b : KeptList). Finds q c.args.place (branch_parts (with_side b.on.spread.choice c.in-Split.node Right) (decision_of c.deref-in-None.result.now)) c.in_ok-bad-in-None.field-0)
    c.in_ok-bad-in-Split.ensures.same c.in_ok-bad-in-None.ensures.found)))

pub check_side-choose-requires-clause-spread : goal.check_side-choose-requires-clause-spread
check_side-choose-requires-clause-spread t c =
    subst (λ g. IsSpread g c.args.branch.now.on.spread) (sym c.requires.graph) c.requires.stands.is_own

pub check_side-check_decision-requires : goal.check_side-check_decision-requires
check_side-check_decision-requires t c =
    let q = question c.args.self.now.graph.now c.args.self.now.refutation.now in
    let longer =
    chosen_stands q c.args.place c.args.branch.now.on c.choose.new.self.on c.args.node c.args.side c.requires.asks.is_graph
    c.requires.graph c.requires.stands c.choose.ensures.sequent c.in_ok-choose.ensures.of c.in_ok-choose.ensures.is_spread in (
      omega (arith, c.decreases),
      (
        c.requires.asks,
        (c.choose.ensures.graph ∙ c.requires.graph, (c.requires.entry, (c.requires.items, (longer.0, c.requires.decided)))),
      ),
    )

pub check_side-returns-clause-same : goal.check_side-returns-clause-same
check_side-returns-clause-same t c =
    taken_back c.args.branch.now c.choose.new.self c.check_decision.new.branch c.undo.new.self c.choose.ensures.graph
    c.choose.ensures.sequent c.in_ok-choose.ensures.before c.choose.ensures.sequents c.in_ok-found.ensures.same
    c.undo.ensures.branch c.undo.ensures.sequents

pub check_side-returns-clause-found : goal.check_side-returns-clause-found
check_side-returns-clause-found t c =
    let q = question c.args.self.now.graph.now c.args.self.now.refutation.now in
    let longer =
    chosen_stands q c.args.place c.args.branch.now.on c.choose.new.self.on c.args.node c.args.side c.requires.asks.is_graph
    c.requires.graph c.requires.stands c.choose.ensures.sequent c.in_ok-choose.ensures.of c.in_ok-choose.ensures.is_spread in
    subst (λ made. Finds q c.args.place (branch_parts made (decision_of c.args.decision.now)) c.in_ok-found.found) longer.1
    c.in_ok-found.ensures.found

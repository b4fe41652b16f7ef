use Rattle.std.proofs.Common.{ℕ, List, ap, ◌∙◌, ◌≡◌, sym, subst, All, map, length, arith}
use Rattle.std.proofs.lemmas.List.{length-map}
use Rattle.ml_parity.specs.OneSided.{AreLongest, AtMost, IsOneSided, EvenCycleIn}
use Rattle.ml_parity.specs.Refusal.{lists_of}
use Rattle.ml_refutation.specs.Acceptance.{IsAccepted}
use Rattle.ml_refutation.specs.Refutation.{Fits}
use Rattle.ml_refutation.specs.Views.{decision_of, of_parts}
use Rattle.ml_refutation.specs.declared.refutation.Decision.{Decision}
use Rattle.ml_refute.specs.private.Found.{OddWins}
use Rattle.ml_refute.specs.private.PutTogether.{HasMarksOf, go_graph_of}
use Rattle.ml_refute.proofs.FoundEntries.{looked_few}
use Rattle.ml_refute.proofs.PuttingTogether.{names_here, marks_here, one_sided_here, no_cycle_here, is_held, is_accepted, is_refutation}
use Rattle.ml_refute.proofs.making.refutation_of.Goals as goal

-- longest counts, with decisions and rows that are the same
still_longest : (n : ℕ) {ds ds' : List Decision} {rows rows' : List (List ℕ)}
    → ds ≡ ds'
    → rows ≡ rows'
    → AreLongest (go_graph_of n (map decision_of ds)) rows
    → AreLongest (go_graph_of n (map decision_of ds')) rows'
still_longest n {ds' = ds'} {rows = rows} same rows_are longest =
    subst (AreLongest (go_graph_of n (map decision_of ds'))) rows_are
    (subst (λ xs. AreLongest (go_graph_of n (map decision_of xs)) rows) same longest)

pub heights_of-requires-clause-few : goal.heights_of-requires-clause-few
heights_of-requires-clause-few c =
    let odd : OddWins c.args.graph.now c.args.arena.now c.args.solution.now =
    record { arena = c.requires.arena; solution = c.requires.solution; wins = c.requires.wins } in
    let few =
    names_here _ _ _ odd _ _ c.in_ok-found.ensures.looked
    (length-map c.in_ok-found.found.decisions.items decision_of ∙ c.in_ok-found.ensures.all) _ c.names_of-names.ensures
    c.keeps.ensures.is_graph c.requires.small in
    omega (arith, few)

pub heights_of-requires-clause-marks : goal.heights_of-requires-clause-marks
heights_of-requires-clause-marks c =
    let odd : OddWins c.args.graph.now c.args.arena.now c.args.solution.now =
    record { arena = c.requires.arena; solution = c.requires.solution; wins = c.requires.wins } in
    subst (λ xs. All (HasMarksOf c.names_of-names.result) (map decision_of xs)) (sym c.deref.ensures.value)
    (marks_here _ _ _ odd _ _ c.in_ok-found.ensures.looked
    (length-map c.in_ok-found.found.decisions.items decision_of ∙ c.in_ok-found.ensures.all) _ c.names_of-names.ensures
    c.keeps.ensures.is_graph c.requires.small)

pub heights_of-requires-clause-one_sided : goal.heights_of-requires-clause-one_sided
heights_of-requires-clause-one_sided c =
    let odd : OddWins c.args.graph.now c.args.arena.now c.args.solution.now =
    record { arena = c.requires.arena; solution = c.requires.solution; wins = c.requires.wins } in
    subst (λ xs. IsOneSided (go_graph_of c.names_of-names.result (map decision_of xs))) (sym c.deref.ensures.value)
    (one_sided_here _ _ _ odd _ _ c.in_ok-found.ensures.looked
    (length-map c.in_ok-found.found.decisions.items decision_of ∙ c.in_ok-found.ensures.all) _ c.names_of-names.ensures)

pub heights_of-requires-clause-no_cycle : goal.heights_of-requires-clause-no_cycle
heights_of-requires-clause-no_cycle c =
    let odd : OddWins c.args.graph.now c.args.arena.now c.args.solution.now =
    record { arena = c.requires.arena; solution = c.requires.solution; wins = c.requires.wins } in
    subst (λ xs. EvenCycleIn (go_graph_of c.names_of-names.result (map decision_of xs)) → ⊥)
    (sym c.deref.ensures.value)
    (no_cycle_here _ _ _ odd _ _ c.in_ok-found.ensures.looked
    (length-map c.in_ok-found.found.decisions.items decision_of ∙ c.in_ok-found.ensures.all) _ c.names_of-names.ensures)

pub entries_of-requires-clause-low : goal.entries_of-requires-clause-low
entries_of-requires-clause-low c p v =
    let rows_are : c.in_ok-heights.heights ≡ lists_of c.deref-3.result.now =
    sym (ap lists_of c.deref-3.ensures.value ∙ c.heights.view_is) in
    let most : AtMost (length c.deref.result.now) (lists_of c.deref-3.result.now) =
    subst (AtMost (length c.deref.result.now)) rows_are c.in_ok-heights.ensures.low in
    let odd : OddWins c.args.graph.now c.args.arena.now c.args.solution.now =
    record { arena = c.requires.arena; solution = c.requires.solution; wins = c.requires.wins } in
    let few = looked_few _ _ _ odd _ _ c.in_ok-found.ensures.looked in
    omega (
      arith,
      most p v,
      few,
      c.in_ok-found.ensures.all,
      ap length c.deref.ensures.value,
      c.size-positions.ensures,
      c.size-positions.type_inv,
    )

pub new-requires : goal.new-requires
new-requires c =
    let odd : OddWins c.args.graph.now c.args.arena.now c.args.solution.now =
    record { arena = c.requires.arena; solution = c.requires.solution; wins = c.requires.wins } in
    let longest =
    still_longest c.names_of-names.result c.deref.ensures.value
    (sym (ap lists_of c.deref-3.ensures.value ∙ c.heights.view_is)) c.in_ok-heights.ensures.longest in
    is_held _ _ _ odd _ _ c.in_ok-found.ensures.looked
    (length-map c.in_ok-found.found.decisions.items decision_of ∙ c.in_ok-found.ensures.all) _ c.names_of-names.ensures
    _ _ c.in_ok-tables.ensures longest c.keeps.ensures.is_graph c.requires.small
    (subst (All Fits) c.priorities.ensures c.fit.ensures)
    (omega (arith, c.size-positions.ensures, c.size-positions.type_inv))

pub returns-clause-is : goal.returns-clause-is
returns-clause-is c =
    let odd : OddWins c.args.graph.now c.args.arena.now c.args.solution.now =
    record { arena = c.requires.arena; solution = c.requires.solution; wins = c.requires.wins } in
    let longest =
    still_longest c.names_of-names.result c.deref.ensures.value
    (sym (ap lists_of c.deref-3.ensures.value ∙ c.heights.view_is)) c.in_ok-heights.ensures.longest in
    let made =
    is_refutation _ _ _ odd _ _ c.in_ok-found.ensures.looked
    (length-map c.in_ok-found.found.decisions.items decision_of ∙ c.in_ok-found.ensures.all) _ c.names_of-names.ensures
    _ _ c.in_ok-tables.ensures longest in
    rw (c.new.ensures.names, c.new.ensures.sequents, c.new.ensures.stacks, c.new.ensures.entries) made

pub returns-clause-accepted : goal.returns-clause-accepted
returns-clause-accepted c =
    let odd : OddWins c.args.graph.now c.args.arena.now c.args.solution.now =
    record { arena = c.requires.arena; solution = c.requires.solution; wins = c.requires.wins } in
    let longest =
    still_longest c.names_of-names.result c.deref.ensures.value
    (sym (ap lists_of c.deref-3.ensures.value ∙ c.heights.view_is)) c.in_ok-heights.ensures.longest in
    let made =
    is_accepted _ _ _ odd _ _ c.in_ok-found.ensures.looked
    (length-map c.in_ok-found.found.decisions.items decision_of ∙ c.in_ok-found.ensures.all) _ c.names_of-names.ensures
    _ _ c.in_ok-tables.ensures longest in
    let same : of_parts c.new.result.names c.new.result.sequents c.new.result.stacks c.new.result.entries
    ≡ of_parts c.names_of-names.result c.in_ok-tables.tables.sequents c.in_ok-tables.tables.stacks
    c.in_ok-tables.tables.entries =
    λ i. of_parts (c.new.ensures.names i) (c.new.ensures.sequents i) (c.new.ensures.stacks i) (c.new.ensures.entries i) in
    subst (IsAccepted c.args.graph.now) (sym same) made

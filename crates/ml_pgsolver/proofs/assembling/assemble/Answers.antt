use Rattle.std.proofs.Common.{◌≡◌, ◌≤◌, ◌-◌, map, length, All, sym, subst, ap, ◌∙◌}
use Rattle.ml_lists.specs.Ascending.{IsAscending}
use Rattle.ml_parity.specs.Refusal.{game_of, lists_of}
use Rattle.ml_pgsolver.specs.GameText.{NamedGame, IsGameOf, IsLeastEvenFrom}
use Rattle.ml_pgsolver.specs.Refusals.{greatest_number}
use Rattle.ml_pgsolver.specs.declared.reader.Row.{Row}
use Rattle.ml_pgsolver.specs.private.Assembled.{AreGiven, HasUnknownIn}
use Rattle.ml_pgsolver.specs.private.Rows.{rows_view}
use Rattle.ml_pgsolver.proofs.SortedRows.{AreSorted, sorted_small, sorted_ascend, sorted_unknown, sorted_is_game, sorted_has_ids, sorted_game}
use Rattle.ml_pgsolver.proofs.assembling.assemble.Goals as goal
use Rattle.ml_pgsolver.proofs.assembling.assemble.Goals.{After-sort_by_id, In_ok-ids, In_ok-priority, In-Some}

sorted : (c : After-sort_by_id) → AreSorted c.args.rows.items c.sort_by_id.new.rows.items
sorted c = record { readable = c.requires; same = c.sort_by_id.ensures.permutation; rise = c.sort_by_id.ensures.rise }

ids_are : (c : In_ok-ids) → c.in_ok-ids.ids.items ≡ map (λ r. r.id) c.sort_by_id.new.rows.items
ids_are c = c.in_ok-ids.ensures ∙ ap (map (λ (r : Row). r.id)) c.deref.ensures.value

ids_ascend : (c : In_ok-ids) → IsAscending c.in_ok-ids.ids.items
ids_ascend c = subst IsAscending (sym (ids_are c))
    (sorted_ascend c.args.rows.items c.sort_by_id.new.rows.items (sorted (goal.at.In_ok-ids c).After-sort_by_id))

given_there : (c : In-Some) → AreGiven c.in_ok-ids.ids.items (lists_of c.in-Some.successors.items) (rows_view c.sort_by_id.new.rows.items)
given_there c = subst (λ xs. AreGiven xs (lists_of c.in-Some.successors.items) (rows_view c.sort_by_id.new.rows.items))
    c.deref-5.ensures.value (rw c.in-Some.is at c.in_ok-successors.ensures)

owners_are : (c : In_ok-priority) → c.in_ok-owner.owner.items ≡ map (λ r. r.owner) c.sort_by_id.new.rows.items
owners_are c = c.in_ok-owner.ensures ∙ ap (map (λ (r : Row). r.owner)) c.deref-3.ensures.value

priorities_are : (c : In_ok-priority)
    → c.in_ok-priority.priority.items ≡ map (λ r. c.least_even_from-top.result - r.priority) c.sort_by_id.new.rows.items
priorities_are c = c.in_ok-priority.ensures
    ∙ ap (map (λ (r : Row). c.least_even_from-top.result - r.priority)) c.deref-4.ensures.value

pub least_even_from-top-requires : goal.least_even_from-top-requires
least_even_from-top-requires c =
    subst (All (λ (r : Row). r.priority ≤ greatest_number)) (sym c.deref-2.ensures.value)
    (sorted_small c.args.rows.items c.sort_by_id.new.rows.items (sorted (goal.at.least_even_from-top-requires c).After-sort_by_id))

pub successors_of-requires : goal.successors_of-requires
successors_of-requires c =
    subst IsAscending (sym c.deref-5.ensures.value) (ids_ascend (goal.at.successors_of-requires c).In_ok-ids)

pub from_ascending-requires : goal.from_ascending-requires
from_ascending-requires c = ids_ascend (goal.at.from_ascending-requires c).In_ok-ids

pub returns-in_default : goal.returns-in_default
returns-in_default c =
    let w = goal.at.returns-in_default c in
    let now = c.sort_by_id.new.rows.items in
    let unknown = subst (λ xs. HasUnknownIn xs (rows_view now)) c.deref-5.ensures.value
    (rw c.in_default.is at c.in_ok-successors.ensures) in
    sorted_unknown c.args.rows.items now (sorted w.After-sort_by_id) c.in_ok-ids.ids.items (ids_are w.In_ok-ids) unknown

pub invariant_of-game : goal.invariant_of-game
invariant_of-game c =
    let w = goal.at.invariant_of-game c in
    let now = c.sort_by_id.new.rows.items in
    sorted_is_game c.args.rows.items now (sorted w.After-sort_by_id) c.in_ok-ids.ids.items c.in_ok-owner.owner
    c.in_ok-priority.priority c.in-Some.successors c.least_even_from-top.result (ids_are w.In_ok-ids)
    (owners_are w.In_ok-priority) (priorities_are w.In_ok-priority) (given_there w.In-Some)

pub new-requires : goal.new-requires
new-requires c =
    let w = goal.at.new-requires c in
    let now = c.sort_by_id.new.rows.items in
    let has = sorted_has_ids c.args.rows.items now (sorted w.After-sort_by_id) c.in_ok-ids.ids.items c.in_ok-owner.owner
    c.in_ok-priority.priority c.in-Some.successors c.least_even_from-top.result (ids_are w.In_ok-ids)
    (owners_are w.In_ok-priority) (priorities_are w.In_ok-priority) (given_there w.In-Some) in
    (ap length c.from_ascending.ensures ∙ has.0, has.1)

pub returns : goal.returns
returns c =
    let w = goal.at.returns c in
    let rows = c.args.rows.items in
    let now = c.sort_by_id.new.rows.items in
    let game = game_of c.in_ok-owner.owner c.in_ok-priority.priority c.in-Some.successors in
    let least = subst (λ rs. IsLeastEvenFrom (map (λ (r : Row). r.priority) rs) c.least_even_from-top.result)
    c.deref-2.ensures.value c.least_even_from-top.ensures in
    let is = sorted_game rows now (sorted w.After-sort_by_id) c.in_ok-ids.ids.items c.in_ok-owner.owner
    c.in_ok-priority.priority c.in-Some.successors c.least_even_from-top.result (ids_are w.In_ok-ids)
    (owners_are w.In_ok-priority) (priorities_are w.In_ok-priority) (given_there w.In-Some) least in
    let same = c.new.ensures ∙ ap (λ ids. let n : NamedGame = record { ids = ids; game = game } in n) c.from_ascending.ensures in
    subst (IsGameOf (rows_view rows)) (sym same) is

use Rattle.std.proofs.Common.{MatchOption, length, subst, sym}
use Rattle.ml_emptiness.specs.Emptiness.{IsEmpty, IsFound}
use Rattle.ml_emptiness.specs.Systems.{IsSystem, table_of}
use Rattle.ml_paths.specs.private.Systems.{IsSystemOf, path_from}
use Rattle.ml_paths.proofs.AsSystem.{is_system, none_of, shown_of}
use Rattle.ml_paths.proofs.ShortPaths.{found_starts, still_shown}
use Rattle.ml_paths.proofs.finding.path_in.Goals as goal

pub accepted_lasso-requires : goal.accepted_lasso-requires
accepted_lasso-requires c =
    let m = c.args.structure.now in
    let start = c.args.start in
    let numbers = c.in_ok-letters.letters.numbers.items in
    let row = c.in_ok-letters.letters.row.items in
    let s = table_of c.in_ok-system.system.items in
    subst (λ r. IsSystem (length r) (table_of c.deref-2.result.now)) (sym c.deref-3.ensures.value)
    (subst (λ xs. IsSystem (length row) (table_of xs)) (sym c.deref-2.ensures.value)
    (is_system m c.keeps.ensures.is_structure start c.requires.start numbers s
    (subst (λ ns. IsSystemOf m start ns m.edges s) c.deref.ensures.value c.in_ok-system.ensures) c.args.formula.now
    c.args._negated c.root-root.ensures.well_formed.is_of_logic c.args.automaton.now c.requires.automaton row
    c.in_ok-letters.ensures))

pub path_of-requires : goal.path_of-requires
path_of-requires c =
    found_starts c.deref-3.result.now (table_of c.deref-2.result.now) c.in_ok-lasso.field-0 c.in-Some.lasso c.in-Some.is
    c.in_ok-lasso.ensures

pub returns-in-Some : goal.returns-in-Some
returns-in-Some c =
    let m = c.args.structure.now in
    let start = c.args.start in
    let numbers = c.in_ok-letters.letters.numbers.items in
    let row = c.in_ok-letters.letters.row.items in
    let s = table_of c.in_ok-system.system.items in
    let o = c.in_ok-lasso.field-0 in
    still_shown m start c.args.formula.now c.args._negated (path_from start c.in-Some.lasso) c.in_ok-path_of-in-Some.field-0
    (shown_of m c.keeps.ensures.is_structure start c.requires.start numbers s
    (subst (λ ns. IsSystemOf m start ns m.edges s) c.deref.ensures.value c.in_ok-system.ensures) c.args.formula.now
    c.args._negated c.root-root.ensures.well_formed.is_of_logic c.args.automaton.now c.requires.automaton row
    c.in_ok-letters.ensures o c.in-Some.lasso c.in-Some.is
    (subst (λ r. MatchOption o (IsEmpty r s) (λ l. IsFound r s l.states.items l.letters.items l.loop_start))
    c.deref-3.ensures.value
    (subst
    (λ xs. MatchOption o (IsEmpty c.deref-3.result.now (table_of xs))
    (λ l. IsFound c.deref-3.result.now (table_of xs) l.states.items l.letters.items l.loop_start))
    c.deref-2.ensures.value c.in_ok-lasso.ensures)))
    c.in_ok-path_of-in-Some.ensures

pub returns : goal.returns
returns c =
    let m = c.args.structure.now in
    let start = c.args.start in
    let numbers = c.in_ok-letters.letters.numbers.items in
    let row = c.in_ok-letters.letters.row.items in
    let s = table_of c.in_ok-system.system.items in
    let o = c.in_ok-lasso.field-0 in
    none_of m c.keeps.ensures.is_structure start c.requires.start numbers s
    (subst (λ ns. IsSystemOf m start ns m.edges s) c.deref.ensures.value c.in_ok-system.ensures) c.args.formula.now
    c.args._negated c.root-root.ensures.well_formed.is_of_logic c.args.automaton.now c.requires.automaton row
    c.in_ok-letters.ensures o c.in-None.is
    (subst (λ r. MatchOption o (IsEmpty r s) (λ l. IsFound r s l.states.items l.letters.items l.loop_start))
    c.deref-3.ensures.value
    (subst
    (λ xs. MatchOption o (IsEmpty c.deref-3.result.now (table_of xs))
    (λ l. IsFound c.deref-3.result.now (table_of xs) l.states.items l.letters.items l.loop_start))
    c.deref-2.ensures.value c.in_ok-lasso.ensures))

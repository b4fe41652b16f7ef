-- The states with an edge by an action into a set, edge by edge.
--
--   edge_runs               == of a structure these are the states from which runs of the action lead into the set
--   all_edges               == behind all edges: runs of the action
use Rattle.std.proofs.Common.{◌≡◌, ◌==◌, ℕ, ◌≤◌, true, ◌&&◌, List, length, take, set, refl, sym, ap, ◌∙◌, subst, arith}
use Rattle.std.specs.Str.{bytes_eq}
use Rattle.std.proofs.lemmas.Bool.{and_parts, and_from, eqb-true, eq-eqb}
use Rattle.std.proofs.lemmas.List.{take_all}
use Rattle.ml_lists.proofs.Member.{list_any-member, member-list_any}
use Rattle.ml_lists.proofs.Tables.{table_same}
use Rattle.ml_lists.proofs.Says.{same_truth}
use Rattle.ml_base.specs.declared.structure.Edge.{Edge}
use Rattle.ml_base.specs.Structure.{Structure, StateSet, is_member}
use Rattle.ml_base.proofs.EdgeSets.{some_of, some_states}
use Rattle.ml_base.proofs.StateSets.{member_below}
use Rattle.ml_pdl.specs.declared.term.Modality.TheVariants.{Diamond}
use Rattle.ml_pdl.specs.Meaning.{has_edge, some_run, modal}
use Rattle.ml_pdl.proofs.RunsInto.{run_of, of_run}

pub edge_runs : (m : Structure) (a : List ℕ) (flags : StateSet) → length flags ≡ m.states
    → some_states m.edges a flags m.states ≡ modal m Diamond (has_edge m a) flags
edge_runs m a flags long =
    table_same (some_of m.edges a flags) (some_run m (has_edge m a) flags) 0 m.states
    (λ s. same_truth (some_of m.edges a flags s) (some_run m (has_edge m a) flags s) (to s) (from s))
  where
    to : (s : ℕ) → some_of m.edges a flags s ≡ true → some_run m (has_edge m a) flags s ≡ true
    to s is =
        let some = list_any-member (λ e. (e.source == s) && bytes_eq e.action a && is_member flags e.target) m.edges is in
        let front = (some.item.source == s) && bytes_eq some.item.action a in
        let parts = and_parts front (is_member flags some.item.target) some.passes in
        let low = member_below flags some.item.target parts.1 in
        of_run m (has_edge m a) (is_member flags) s some.item.target (omega (arith, low, long))
        (member-list_any (λ e. (e.source == s) && bytes_eq e.action a && (e.target == some.item.target)) some.item
        m.edges some.member
        (and_from front (some.item.target == some.item.target) parts.0 (eq-eqb some.item.target some.item.target refl)))
        parts.1

    from : (s : ℕ) → some_run m (has_edge m a) flags s ≡ true → some_of m.edges a flags s ≡ true
    from s is =
        let run = run_of m (has_edge m a) (is_member flags) s is in
        let some =
        list_any-member (λ e. (e.source == s) && bytes_eq e.action a && (e.target == run.state)) m.edges run.run
        in
        let front = (some.item.source == s) && bytes_eq some.item.action a in
        let parts = and_parts front (some.item.target == run.state) some.passes in
        member-list_any (λ e. (e.source == s) && bytes_eq e.action a && is_member flags e.target) some.item m.edges some.member
        (and_from front (is_member flags some.item.target) parts.0
        (subst (λ t. is_member flags t ≡ true) (sym (eqb-true some.item.target run.state parts.1)) run.inside))

pub all_edges : (m : Structure) (es : List Edge) (a : List ℕ) (flags set : StateSet) (i : ℕ)
    → length flags ≡ m.states
    → es ≡ m.edges
    → length es ≤ i
    → set ≡ some_states (take i es) a flags m.states
    → set ≡ modal m Diamond (has_edge m a) flags
all_edges m es a flags set i long es_are end is =
    is
    ∙ ap (λ ds. some_states ds a flags m.states) (take_all i es end ∙ es_are)
    ∙ edge_runs m a flags long

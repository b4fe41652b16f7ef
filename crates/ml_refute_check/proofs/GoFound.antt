-- What the tests of a `go` tell of its rules.
--
--   rows_told   == rows of heights fall exactly where the heights fall along the arc
--   reached_targets, targets_told == nodes to which traces of a step lead are targets; all targets, where they are known, tell
--                 exactly whether nodes are among them
--   AtGo, at_go == leaving an entry by a step along a diamond of a spread of it, to another entry
--   within_told, names_told, falls_told == the tests tell exactly whether the rules are kept
use Rattle.std.proofs.Common.{◌≡◌, ◌↔◌, ℕ, ◌*◌, ◌/◌, Bool, List, [], All, get_or, IsTrue, sym, ap, ◌∙◌, subst, arith}
use Rattle.std.proofs.Math.ListN.{get_or-map}
use Rattle.ml_lists.specs.Member.{IsMember}
use Rattle.ml_graph.specs.Graph.{Graph, IsGraph, odd_priorities}
use Rattle.ml_parity.specs.declared.one_sided.graph.Arc.{Arc}
use Rattle.ml_parity.specs.Heights.{FallsAlong}
use Rattle.ml_parity.specs.HeightLists.{RowsFall}
use Rattle.ml_parity.proofs.HeightRows.{rows_stay}
use Rattle.ml_trace.specs.declared.letters.Triple.{Triple}
use Rattle.ml_trace.specs.declared.marks.Mark.{Mark}
use Rattle.ml_trace.specs.Marks.{priority}
use Rattle.ml_trace.specs.NamesCondition.{NamesCondition}
use Rattle.ml_sequent.specs.Spread.{SpreadList}
use Rattle.ml_sequent.specs.Step.{IsTarget, IsTrace}
use Rattle.ml_refutation.specs.declared.refutation.Item.{Item}
use Rattle.ml_refutation.specs.Refutation.{Entry, Refutation}
use Rattle.ml_refutation.specs.GoStep.{GoStep, HasTransition}
use Rattle.ml_refutation.specs.Acceptance.{entry_at, no_entry, heights_of, LeadsWithinTargets, TracesNames, HeightsFall}
use Rattle.ml_refute_check.specs.declared.stepping.KeptStep.{KeptStep}
use Rattle.ml_refute_check.specs.private.Parts.{Question, Stands, IsEntryOf}
use Rattle.ml_refute_check.specs.private.Sources.{StandAmong, IsReached}
use Rattle.ml_refute_check.specs.private.Stepping.{IsStepFrom, AreTargets}
use Rattle.ml_refute_check.proofs.BranchesFound.{of_spread_has, of_spread_is}

rows_there : (rows : List (List ℕ)) (a : Arc)
    → RowsFall a.priority (get_or rows a.from []) (get_or rows a.to [])
    → FallsAlong rows a
rows_there rows a f = record { stays = λ p even low. f.stays (p / 2) (omega arith); falls = f.falls }

rows_back : (rows : List (List ℕ)) (a : Arc)
    → FallsAlong rows a
    → RowsFall a.priority (get_or rows a.from []) (get_or rows a.to [])
rows_back rows a f = record { stays = rows_stay rows a f; falls = f.falls }

heights_at : (r : Refutation) (e : ℕ) → get_or (heights_of r) e [] ≡ (entry_at r e).heights
heights_at r e = get_or-map (λ (x : Entry). x.heights) r.entries e no_entry

pub falls_told : {q : Question} {e f : ℕ} {entry behind : Entry} → IsEntryOf q e entry → IsEntryOf q f behind
    → (m : Mark) (b : Bool) {p : ℕ} {from to : List ℕ}
    → p ≡ priority (2 * q.refutation.names) m
    → from ≡ entry.heights
    → to ≡ behind.heights
    → (IsTrue b ↔ RowsFall p from to)
    → IsTrue b ↔ HeightsFall q.refutation e f m
falls_told {q = q} {e = e} {f = f} here there m b {p = p} {from = from} {to = to} p_is from_is to_is told = (
  λ h. rows_there (heights_of q.refutation) (record { from = e; priority = priority (2 * q.refutation.names) m; to = f }) (falls (told.0 h)),
  λ h. told.1 (back (rows_back (heights_of q.refutation) (record { from = e; priority = priority (2 * q.refutation.names) m; to = f }) h)),
)
  where
    from_at : from ≡ get_or (heights_of q.refutation) e []
    from_at = from_is ∙ sym (ap (λ (x : Entry). x.heights) here.is) ∙ sym (heights_at q.refutation e)

    to_at : to ≡ get_or (heights_of q.refutation) f []
    to_at = to_is ∙ sym (ap (λ (x : Entry). x.heights) there.is) ∙ sym (heights_at q.refutation f)

    falls : RowsFall p from to
        → RowsFall (priority (2 * q.refutation.names) m) (get_or (heights_of q.refutation) e []) (get_or (heights_of q.refutation) f [])
    falls h =
        subst (λ k. RowsFall k (get_or (heights_of q.refutation) e []) (get_or (heights_of q.refutation) f [])) p_is
        (subst (λ xs. RowsFall p xs (get_or (heights_of q.refutation) f [])) from_at
        (subst (λ ys. RowsFall p from ys) to_at h))

    back : RowsFall (priority (2 * q.refutation.names) m) (get_or (heights_of q.refutation) e []) (get_or (heights_of q.refutation) f [])
        → RowsFall p from to
    back h =
        subst (λ ys. RowsFall p from ys) (sym to_at)
        (subst (λ xs. RowsFall p xs (get_or (heights_of q.refutation) f [])) (sym from_at)
        (subst (λ k. RowsFall k (get_or (heights_of q.refutation) e []) (get_or (heights_of q.refutation) f [])) (sym p_is) h))

-- nodes to which traces of a step lead are targets
pub reached_targets : {g : Graph} {C : List ℕ} {sp : SpreadList} {s : KeptStep}
    → IsStepFrom g C sp s
    → (nodes : List ℕ)
    → All (IsReached s.traces.items) nodes
    → All (IsTarget g sp s.diamond) nodes
reached_targets {g = g} {sp = sp} {s = s} step nodes all k d low =
    let r = all k d low in
    let trace = ((step.traces r.0).0 r.1.0).1 in
    subst (IsTarget g sp s.diamond) r.1.1 (record { leaving = trace.leaving; leads = trace.leads })

-- where all targets are known, they tell
pub targets_told : {g : Graph} {sp : SpreadList} {d : ℕ} {targets : List ℕ}
    → AreTargets g sp d targets
    → (b : Bool) (nodes : List ℕ) {values : List ℕ}
    → values ≡ targets
    → (IsTrue b ↔ All (λ m. IsMember m values) nodes)
    → IsTrue b ↔ All (IsTarget g sp d) nodes
targets_told are b nodes same told = (
  λ h k z low. (are (get_or nodes k z)).0 (subst (IsMember (get_or nodes k z)) same (told.0 h k z low)),
  λ all. told.1 (λ k z low. subst (IsMember (get_or nodes k z)) (sym same) ((are (get_or nodes k z)).1 (all k z low))),
)

-- leaving an entry by a step along a diamond of a spread of it, to another entry
pub record AtGo (q : Question) (e f : ℕ) (nodes : List ℕ) (sp : SpreadList) (step : KeptStep) (behind : Entry) : Type 0 where
  pub is_graph : IsGraph q.graph
  pub stands : Stands q e nodes sp
  pub there : IsEntryOf q f behind
  pub is_step : IsStepFrom q.graph nodes sp step

pub at_go : {q : Question} {e f : ℕ} {nodes : List ℕ} {sp : SpreadList} {step : KeptStep} {behind : Entry} {g : Graph}
    → Stands q e nodes sp
    → IsGraph q.graph
    → IsEntryOf q f behind
    → g ≡ q.graph
    → IsStepFrom g nodes sp step
    → AtGo q e f nodes sp step behind
at_go {nodes = nodes} {sp = sp} {step = step} stands is_graph there same is_step = record {
  is_graph = is_graph;
  stands = stands;
  there = there;
  is_step = subst (λ g. IsStepFrom g nodes sp step) same is_step;
}

module _ {q : Question} {e f : ℕ} {nodes : List ℕ} {sp : SpreadList} {step : KeptStep} {behind : Entry}
    (w : AtGo q e f nodes sp step behind) where
  abbrev d : ℕ
  d = step.diamond

  abbrev Within : Type 0
  Within = LeadsWithinTargets (entry_at q.refutation e).sequent sp.choice d (entry_at q.refutation f).sequent q.graph

  abbrev next_is : behind.sequent ≡ (entry_at q.refutation f).sequent
  next_is = sym (ap (λ (x : Entry). x.sequent) w.there.is)

  pub within_told : (b : Bool) {next : List ℕ}
      → next ≡ behind.sequent
      → (IsTrue b ↔ All (IsTarget q.graph sp d) next)
      → IsTrue b ↔ Within
  within_told b next_are told = (
    λ h. of_spread_has q e nodes sp w.is_graph w.stands Leads (subst (All (IsTarget q.graph sp d)) (next_are ∙ next_is) (told.0 h)),
    λ within. told.1 (subst (All (IsTarget q.graph sp d)) (sym (next_are ∙ next_is))
        (of_spread_is q e nodes sp w.is_graph w.stands Leads within)),
  )
    where
      Leads : SpreadList → Type 0
      Leads s = All (IsTarget q.graph s d) (entry_at q.refutation f).sequent

  pub names_told : {entry : Entry} → IsEntryOf q e entry → (m : Mark) (b : Bool) (items : List Item) {odds next : List ℕ}
      {triples : List Triple}
      → odds ≡ odd_priorities q.graph
      → next ≡ behind.sequent
      → triples ≡ step.traces.items
      → StandAmong step.sources items
      → ((g : Graph) (go : GoStep) (sources : List ℕ) → odds ≡ odd_priorities g → next ≡ go.next
      → StandAmong sources items
      → ((t : Triple) → IsMember t triples ↔ (IsMember t.from sources × IsTrace g go.sequent go.spread go.diamond t))
      → IsTrue b ↔ NamesCondition (HasTransition g) go m entry.traces behind.traces)
      → IsTrue b ↔ TracesNames (entry_at q.refutation e) sp.choice d (entry_at q.refutation f) m q.graph
  names_told {entry = entry} here m b items {triples = triples} odds_are next_are triples_are stand told = (
    λ h. of_spread_has q e nodes sp w.is_graph w.stands Condition (now.0 h),
    λ n. now.1 (of_spread_is q e nodes sp w.is_graph w.stands Condition n),
  )
    where
      go_step : SpreadList → GoStep
      go_step s = record {
        sequent = (entry_at q.refutation e).sequent;
        spread = s;
        diamond = d;
        next = (entry_at q.refutation f).sequent;
      }

      Condition : SpreadList → Type 0
      Condition s =
          NamesCondition (HasTransition q.graph) (go_step s) m (entry_at q.refutation e).traces
          (entry_at q.refutation f).traces

      is_trace : (t : Triple) → IsMember t triples
          ↔ (IsMember t.from step.sources × IsTrace q.graph (entry_at q.refutation e).sequent sp d t)
      is_trace t =
          subst (λ ns. IsMember t triples ↔ (IsMember t.from step.sources × IsTrace q.graph ns sp d t)) w.stands.of_entry
          (subst (λ ts. IsMember t ts ↔ (IsMember t.from step.sources × IsTrace q.graph nodes sp d t)) (sym triples_are)
          (w.is_step.traces t))

      now : IsTrue b ↔ Condition sp
      now =
          subst (λ (x : Entry). IsTrue b ↔ NamesCondition (HasTransition q.graph) (go_step sp) m
          (entry_at q.refutation e).traces x.traces) (sym w.there.is)
          (subst (λ (x : Entry). IsTrue b ↔ NamesCondition (HasTransition q.graph) (go_step sp) m x.traces behind.traces)
          (sym here.is) (told q.graph (go_step sp) step.sources odds_are (next_are ∙ next_is) stand is_trace))

-- A side that was chosen on a branch is taken back.
--
--   taken_back   == behind a choice that is taken back a branch is as before
--   chosen_stands == the branch with a side more stands for the same entry
use Rattle.std.proofs.Common.{◌≡◌, ℕ, ◌∷◌, List, sym, ap, ◌∙◌, subst}
use Rattle.ml_graph.specs.Graph.{IsGraph}
use Rattle.ml_sequent.specs.declared.choice.Side.{Side}
use Rattle.ml_sequent.specs.Branch.{BranchList, undone, undone_to}
use Rattle.ml_sequent.specs.Choice.{with_side}
use Rattle.ml_sequent.specs.Spread.{IsSpread, IsSpreadOf}
use Rattle.ml_refute_check.specs.private.Stepping.{KeptList}
use Rattle.ml_refute_check.specs.private.Parts.{Question, Stands}
use Rattle.ml_refute_check.proofs.BranchesFound.{longer_stands}

-- behind a choice that is taken back a branch is as before
pub taken_back : (old longer later back : KeptList)
    → longer.on.graph ≡ old.on.graph
    → longer.on.sequent ≡ old.on.sequent
    → longer.on.before ≡ old.on.spread ∷ old.on.before
    → longer.sequents ≡ old.sequents
    → later ≡ longer
    → back.on ≡ undone later.on
    → back.sequents ≡ later.sequents
    → back ≡ old
taken_back old longer later back graph sequent before sequents same is kept =
    λ i. record { on = branch i; sequents = lists i }
  where
    branch : back.on ≡ old.on
    branch =
        is ∙ ap (λ (b : KeptList). undone b.on) same ∙ ap (undone_to longer.on) before
        ∙ (λ i. record { graph = graph i; sequent = sequent i; spread = old.on.spread; before = old.on.before })

    lists : back.sequents ≡ old.sequents
    lists = kept ∙ ap (λ (b : KeptList). b.sequents) same ∙ sequents

-- the branch with a side more stands for the same entry
pub chosen_stands : (q : Question) (e : ℕ) (old longer : BranchList) (n : ℕ) (s : Side)
    → IsGraph q.graph
    → old.graph ≡ q.graph
    → Stands q e old.sequent old.spread
    → longer.sequent ≡ old.sequent
    → ((C : List ℕ) → IsSpreadOf old.graph C old.spread.choice old.spread → IsSpreadOf old.graph C (with_side old.spread.choice n s) longer.spread)
    → IsSpread old.graph longer.spread
    → Stands q e longer.sequent longer.spread × (longer.spread.choice ≡ with_side old.spread.choice n s)
chosen_stands q e old longer n s ok same stands sequent of own =
    let l = longer_stands q e old.sequent old.spread ok stands n s longer.spread old.graph same of own in
    (subst (λ ns. Stands q e ns longer.spread) (sym sequent) l.stands_on, l.choice)

-- Branches that began with a sequent.
--
--   if_begun        == what holds wherever it began
--   begun_now       == a branch with no choice, whose spread is that of the sequent
--   begun_there     == the same sequent at another place
--   begun_longer    == one side more
--   begun_undone    == the last choice taken back
--   begun_spread    == with no choice left, the spread is that of the sequent
use Rattle.std.proofs.Common.{◌≡◌, ℕ, List, [], ◌∷◌, All, get_or, Option, None, Some, sym, ◌∙◌, subst}
use Rattle.std.specs.Option.{IfSome}
use Rattle.std.proofs.lemmas.List.Elements.{All-nil, All-cons, All-head, All-tail}
use Rattle.ml_graph.specs.Graph.{Graph}
use Rattle.ml_sequent.specs.declared.choice.Side.{Side}
use Rattle.ml_sequent.specs.Branch.{BranchList, undone, undone_to}
use Rattle.ml_sequent.specs.Choice.{with_side}
use Rattle.ml_sequent.specs.Spread.{SpreadList, IsSpread, IsSpreadOf}
use Rattle.ml_refute_check.specs.private.Stepping.{IsOwn, IsBegun, list_at}

-- what is known to have begun somewhere
pub if_begun : {P Q : ℕ → Type 0} (place : Option ℕ) → ((p : ℕ) → P p → Q p) → IfSome place P → IfSome place Q
if_begun None goes known = tt
if_begun (Some p) goes known = goes p known

module _ (sequents : List (List ℕ)) (place : ℕ) where
  abbrev nodes : List ℕ
  nodes = list_at sequents place

  pub begun_now : (b : BranchList)
      → b.sequent ≡ nodes
      → b.before ≡ []
      → IsSpreadOf b.graph nodes [] b.spread
      → IsSpread b.graph b.spread
      → IsBegun b sequents place
  begun_now b sequent before of own = record {
    sequent = sequent;
    spread = (
      subst (λ ns. IsSpreadOf b.graph ns b.spread.choice b.spread) (sym sequent)
          (subst (λ c. IsSpreadOf b.graph nodes c b.spread) (sym of.choice) of),
      own,
    );
    before = subst (All (IsOwn b)) (sym before) (All-nil (IsOwn b));
  }

  pub begun_there : (b : BranchList) (other : ℕ)
      → list_at sequents place ≡ list_at sequents other
      → IsBegun b sequents place
      → IsBegun b sequents other
  begun_there b other same begun = record { sequent = begun.sequent ∙ same; spread = begun.spread; before = begun.before }

  pub begun_spread : (b : BranchList) → IsBegun b sequents place → b.spread.choice ≡ []
      → IsSpreadOf b.graph nodes [] b.spread
  begun_spread b begun none =
      subst (λ ns. IsSpreadOf b.graph ns [] b.spread) begun.sequent
      (subst (λ c. IsSpreadOf b.graph b.sequent c b.spread) none begun.spread.0)

  pub begun_longer : (old longer : BranchList) (n : ℕ) (s : Side)
      → longer.graph ≡ old.graph
      → longer.sequent ≡ old.sequent
      → longer.before ≡ old.spread ∷ old.before
      → ((C : List ℕ) → IsSpreadOf old.graph C old.spread.choice old.spread
      → IsSpreadOf old.graph C (with_side old.spread.choice n s) longer.spread)
      → IsSpread old.graph longer.spread
      → IsBegun old sequents place
      → IsBegun longer sequents place
  begun_longer old longer n s graph sequent before of own begun =
      record {
        sequent = sequent ∙ begun.sequent;
        spread = moved longer.spread (subst (λ c. IsSpreadOf old.graph old.sequent c longer.spread) (sym made.choice) made, own);
        before =
            subst (All (IsOwn longer)) (sym before)
            (λ k d low. moved (get_or (old.spread ∷ old.before) k d)
            (All-cons (IsOwn old) old.spread old.before begun.spread begun.before k d low));
      }
    where
      made : IsSpreadOf old.graph old.sequent (with_side old.spread.choice n s) longer.spread
      made = of old.sequent begun.spread.0

      moved : (sp : SpreadList) → IsOwn old sp → IsOwn longer sp
      moved sp h =
          subst (λ (g : Graph). IsSpreadOf g longer.sequent sp.choice sp × IsSpread g sp) (sym graph)
          (subst (λ ns. IsSpreadOf old.graph ns sp.choice sp × IsSpread old.graph sp) (sym sequent) h)

  begun_undone_to : (b : BranchList) (before : List SpreadList)
      → IsBegun b sequents place
      → All (IsOwn b) before
      → IsBegun (undone_to b before) sequents place
  begun_undone_to b [] begun own = begun
  begun_undone_to b (sp ∷ before) begun own = record {
    sequent = begun.sequent;
    spread = All-head (IsOwn b) sp before own;
    before = All-tail (IsOwn b) sp before own;
  }

  pub begun_undone : (b : BranchList) → IsBegun b sequents place → IsBegun (undone b) sequents place
  begun_undone b begun = begun_undone_to b b.before begun begun.before

-- A decision, read line by line.
--
--   branch_lines             == a decision has a line for each of its branches
--   DecidesTo n k at as rest == from `at` up to `rest` the lines of a decision were read inside the splits as
--   decides_begin, decides_room == before any line; there is room for further ones
--   decides_split, decides_leaf, decides_whole == a split; a clash or a go that completes no decision, and one that does
--   decides_missing, decides_broken == no line is left, or one that breaks a rule
use Rattle.std.proofs.Common.{◌≡◌, ℕ, ◌+◌, ◌<◌, ◌≤◌, List, [], ◌∷◌, ◌++◌, length, None, Some, refl, sym, ap, subst, ◌∙◌, length-append, arith}
use Rattle.ml_base.specs.declared.version.Version.{Version}
use Rattle.ml_base.specs.declared.version.Version.TheVariants.{One}
use Rattle.ml_base.specs.declared.doc_refusal.DocRefusal.{DocRefusal}
use Rattle.ml_base.specs.declared.doc_refusal.DocRefusal.TheVariants as refused
use Rattle.ml_lines.specs.Lines.{Line}
use Rattle.ml_sequent.specs.declared.choice.Side.{Side}
use Rattle.ml_sequent.specs.declared.choice.Side.TheVariants.{Left, Right}
use Rattle.ml_sequent.specs.Choice.{with_side}
use Rattle.ml_refutation.specs.Acceptance.{branches}
use Rattle.ml_refutation.specs.Refutation.{Entry, Decision, Split, Clash, Go, Fits, nesting}
use Rattle.ml_refutation.specs.Views.{decision_of}
use Rattle.ml_refutation.specs.declared.refutation.Decision as program
use Rattle.ml_refutation.specs.declared.refutation.TheConstants.{NESTING_LIMIT}
use Rattle.ml_refutation_text.specs.RefutationText.{decision_lines, split_line}
use Rattle.ml_refutation_text.specs.BodyRules.{Form, InFull}
use Rattle.ml_refutation_text.specs.BodyRules.{Around, InLeft, Begun, Place, AtDecision, at_entry, closed, whole, body}
use Rattle.ml_refutation_text.specs.RuleNumbers.{rule_number}
use Rattle.ml_refutation_text.specs.private.Reads.{around_of, arounds_in, arounds_of, HasRoom, IsNext, Goes, IsUsual, TellsFault}
use Rattle.ml_refutation_text.specs.private.ItemReads.{knows}
use Rattle.ml_refutation_text.specs.private.BranchReads.{around_size, IsClosed, IsLeaf, BreaksBranch}
use Rattle.ml_refutation_text.specs.declared.body_rule.BodyRule.{BodyRule}
use Rattle.ml_refutation_text.specs.declared.rest.Rest.{Rest}
use Rattle.ml_refutation_text.specs.declared.branches.Around as split
use Rattle.ml_refutation_text.specs.declared.branches.Around.TheVariants as around
use Rattle.ml_lists.specs.Readings.{Runs}
use Rattle.ml_refutation_text.proofs.GoodLines.{split_run, decision_run}
use Rattle.ml_refutation_text.proofs.Going.{goes_begin, goes_on, goes_run, fault_on, fault_line, room_on}
use Rattle.ml_refutation_text.proofs.ClosedBranches.{arounds_push}

pub branch_lines : (c : List (ℕ × Side)) (d : Decision) → length (branches c d) ≡ length (decision_lines d)
branch_lines c (Split n l r) =
    omega (
      arith,
      length-append (branches (with_side c n Left) l) (branches (with_side c n Right) r),
      length-append (decision_lines l) (decision_lines r),
      branch_lines (with_side c n Left) l,
      branch_lines (with_side c n Right) r,
    )
branch_lines c (Clash x) = refl
branch_lines c (Go d e m) = refl

pub length-arounds : (outer : List Around) (splits : List split.Around)
    → length (arounds_in outer splits) ≡ length outer + length splits
length-arounds outer [] = omega arith
length-arounds outer (a ∷ splits) = omega (arith, length-arounds (around_of a ∷ outer) splits)

pub record DecidesTo (names wanted : ℕ) (at : Rest) (splits : List split.Around) (rest : Rest) : Type 0 where
  pub goes : (v : Version) (F : Form) (es : List Entry) (b : Begun)
      → Goes v (AtDecision (knows names F wanted) es b []) at (AtDecision (knows names F wanted) es b (arounds_of splits)) rest
  pub counted : rest.line ≡ at.line + around_size (arounds_of splits)

no_entry : Begun
no_entry = record { sequent = []; traces = record { live = 0; items = [] }; heights = [] }

module _ (names wanted : ℕ) (at : Rest) where
  pub decides_begin : DecidesTo names wanted at [] at
  decides_begin = record {
    goes = λ v F es b. goes_begin v (AtDecision (knows names F wanted) es b []) at;
    counted = omega arith;
  }

  module _ (splits : List split.Around) (rest : Rest) (so_far : DecidesTo names wanted at splits rest) where
    abbrev place : Form → List Entry → Begun → List split.Around → Place
    place F es b as' = AtDecision (knows names F wanted) es b (arounds_of as')

    pub decides_room : HasRoom at → HasRoom rest
    decides_room room =
        room_on (so_far.goes One InFull [] no_entry) room

    pub decides_missing : (e : DocRefusal) → ((v : Version) (p : Place) → IsUsual p → TellsFault v p rest e)
        → (v : Version) (F : Form) (es : List Entry) (b : Begun) → TellsFault v (AtDecision (knows names F wanted) es b []) at e
    decides_missing e missing v F es b =
        fault_on e (so_far.goes v F es b) (missing v (place F es b splits) tt)

    module _ (line : Line) (behind : Rest) (next : IsNext rest line behind) where
      pub decides_broken : (rule : BodyRule) (e : DocRefusal) → e ≡ refused.Fault (record { line = rest.line; rule = rule_number rule })
          → BreaksBranch names wanted (length splits) line rule
          → (v : Version) (F : Form) (es : List Entry) (b : Begun) → TellsFault v (AtDecision (knows names F wanted) es b []) at e
      decides_broken rule e is breaks v F es b =
          let p = place F es b splits in
          let deep : length (arounds_of splits) ≡ length splits = omega (arith, length-arounds [] splits) in
          fault_on e (so_far.goes v F es b)
          (subst (TellsFault v p rest) (sym is) (fault_line v p rest behind line rule next (breaks F es b (arounds_of splits) deep)))

      pub decides_split : (n : ℕ) (inner : List split.Around)
          → line ≡ split_line n
          → Fits n
          → length splits < NESTING_LIMIT
          → inner ≡ splits ++ around.InLeft n ∷ [] → DecidesTo names wanted at inner behind
      decides_split n inner is fits deep is_inner =
          let now : arounds_of inner ≡ InLeft n ∷ arounds_of splits = ap arounds_of is_inner ∙ arounds_push [] splits (around.InLeft n) in
          let depth : length (arounds_of splits) < NESTING_LIMIT = omega (arith, length-arounds [] splits, deep) in record {
            goes = λ v F es b.
                let k = knows names F wanted in
                goes_on (so_far.goes v F es b)
                (goes_run v (place F es b splits) (place F es b inner) rest behind line (split_line n) next is
                (λ left.
                subst (λ as'. Runs (body v left) (place F es b splits) (split_line n ∷ []) (AtDecision k es b as')) (sym now)
                (split_run v left k es b (arounds_of splits) n fits depth)));
            counted = omega (arith, so_far.counted, next.counted, ap around_size now);
          }

      -- a clash or a go, and the place behind it
      module _ (d : Decision) (leaf : IsLeaf names wanted line d) (small : Fits names) (few : Fits wanted)
          (inside : length splits ≤ NESTING_LIMIT) where
        leads_on : (v : Version) (F : Form) (es : List Entry) (b : Begun)
            → Goes v (place F es b []) at (closed (knows names F wanted) es b (arounds_of splits) d) behind
        leads_on v F es b =
            let k = knows names F wanted in
            let deep : nesting d + length (arounds_of splits) ≤ NESTING_LIMIT =
            omega (arith, leaf.no_split, length-arounds [] splits, inside) in
            let q = closed k es b (arounds_of splits) d in
            goes_on (so_far.goes v F es b)
            (goes_run v (place F es b splits) q rest behind line line next refl
            (λ left.
            subst (λ ls. Runs (body v left) (place F es b splits) ls q) leaf.is_line
            (decision_run v left k es b d (arounds_of splits) small few leaf.is_decided deep)))

        pub decides_leaf : (inner : List split.Around)
            → IsClosed splits d inner None
            → DecidesTo names wanted at inner behind
        decides_leaf inner is = record {
          goes = λ v F es b.
              subst (λ q. Goes v (place F es b []) at q behind) (is.leads (knows names F wanted) es b) (leads_on v F es b);
          counted = omega (arith, so_far.counted, next.counted, is.counted, ap length leaf.is_line);
        }

        pub decides_whole : (inner : List split.Around) (made : program.Decision) → IsClosed splits d inner (Some made)
            → ((v : Version) (F : Form) (es : List Entry) (b : Begun)
            → Goes v (AtDecision (knows names F wanted) es b []) at (at_entry (knows names F wanted) (es ++ whole b (decision_of made) ∷ [])) behind)
            × (behind.line ≡ at.line + length (branches [] (decision_of made)))
        decides_whole inner made is = (
          (λ v F es b. subst (λ q. Goes v (place F es b []) at q behind) (is.leads (knows names F wanted) es b) (leads_on v F es b)),
          omega (arith, so_far.counted, next.counted, is.counted, ap length leaf.is_line, branch_lines [] (decision_of made)),
        )

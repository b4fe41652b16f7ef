-- A decision with the splits that it completes.
--
--   arounds_push      == the split that the program has last is the innermost
--   ClosesTo as d bs e == the decision d inside the splits as is what e was inside bs
--   closes_begin, closes_right, closes_left, closes_whole == before any split; where the right part of one was read, its
--                        left one; and where no split is around
use Rattle.std.proofs.Common.{◌≡◌, ℕ, ◌+◌, ◌≤◌, List, [], ◌∷◌, ◌++◌, length, None, Some, refl, sym, ap, subst, ◌∙◌, length-append, arith}
use Rattle.ml_refutation.specs.Refutation.{Entry, Decision, Split}
use Rattle.ml_refutation.specs.Views.{decision_of}
use Rattle.ml_refutation.specs.declared.refutation.Decision as program
use Rattle.ml_refutation_text.specs.RefutationText.{decision_lines}
use Rattle.ml_refutation_text.specs.BodyRules.{Known, Around, InLeft, InRight, Begun, closed}
use Rattle.ml_refutation_text.specs.private.Reads.{around_of, arounds_in, arounds_of}
use Rattle.ml_refutation_text.specs.private.BranchReads.{around_size, closed_to, IsClosed}
use Rattle.ml_refutation_text.specs.declared.branches.Around as split
use Rattle.ml_refutation_text.specs.declared.branches.Around.TheVariants as around

pub arounds_push : (outer : List Around) (splits : List split.Around) (a : split.Around)
    → arounds_in outer (splits ++ a ∷ []) ≡ around_of a ∷ arounds_in outer splits
arounds_push outer [] a = refl
arounds_push outer (b ∷ splits) a = arounds_push (around_of b ∷ outer) splits a

none_left : (splits : List split.Around) → length splits ≡ 0 → splits ≡ []
none_left [] empty = refl
none_left (a ∷ splits) empty = absurd (omega (arith, empty))

pub record ClosesTo (splits : List split.Around) (d : Decision) (first : List split.Around) (leaf : Decision) : Type 0 where
  pub leads : (k : Known) (entries : List Entry) (b : Begun)
      → closed k entries b (arounds_of first) leaf ≡ closed k entries b (arounds_of splits) d
  pub counted : around_size (arounds_of first) + length (decision_lines leaf) ≡ around_size (arounds_of splits) + length (decision_lines d)
  pub inside : length splits ≤ length first

pub closes_begin : (splits : List split.Around) (d : Decision) → ClosesTo splits d splits d
closes_begin splits d = record { leads = λ k entries b. refl; counted = refl; inside = omega arith }

module _ (splits first : List split.Around) (d leaf : Decision) (so_far : ClosesTo splits d first leaf) where
  -- the innermost split has its left part already
  pub closes_right : (rest : List split.Around) (n : ℕ) (left : program.Decision) (made : Decision)
      → splits ≡ rest ++ around.InRight n left ∷ [] → made ≡ Split n (decision_of left) d → ClosesTo rest made first leaf
  closes_right rest n left made is is_made =
      let inner : arounds_of splits ≡ InRight n (decision_of left) ∷ arounds_of rest =
      ap arounds_of is ∙ arounds_push [] rest (around.InRight n left) in
      subst (λ x. ClosesTo rest x first leaf) (sym is_made) (record {
        leads = λ k entries b. so_far.leads k entries b ∙ ap (λ as'. closed k entries b as' d) inner;
        counted = omega (
          arith,
          so_far.counted,
          ap around_size inner,
          length-append (decision_lines (decision_of left)) (decision_lines d),
        );
        inside = omega (arith, so_far.inside, ap length is, length-append rest (around.InRight n left ∷ []));
      })

  -- what was read is the left part of the innermost one
  pub closes_left : (rest behind : List split.Around) (n : ℕ) (left : program.Decision)
      → splits ≡ rest ++ around.InLeft n ∷ []
      → behind ≡ rest ++ around.InRight n left ∷ [] → decision_of left ≡ d → IsClosed first leaf behind None
  closes_left rest behind n left is is_behind same =
      let inner : arounds_of splits ≡ InLeft n ∷ arounds_of rest = ap arounds_of is ∙ arounds_push [] rest (around.InLeft n) in
      let now : arounds_of behind ≡ InRight n d ∷ arounds_of rest =
      ap arounds_of is_behind ∙ arounds_push [] rest (around.InRight n left) ∙ ap (λ x. InRight n x ∷ arounds_of rest) same in record {
        leads = λ k entries b.
            so_far.leads k entries b ∙ ap (λ as'. closed k entries b as' d) inner ∙ ap (λ as'. closed_to k entries b as' None) (sym now);
        counted = omega (arith, so_far.counted, ap around_size inner, ap around_size now);
        inside = omega (
          arith,
          so_far.inside,
          ap length is,
          ap length is_behind,
          length-append rest (around.InLeft n ∷ []),
          length-append rest (around.InRight n left ∷ []),
        );
      }

  pub closes_whole : (behind : List split.Around) (made : program.Decision) → length splits ≡ 0 → length behind ≡ 0
      → decision_of made ≡ d → IsClosed first leaf behind (Some made)
  closes_whole behind made empty none same =
      let inner : arounds_of splits ≡ [] = ap arounds_of (none_left splits empty) in record {
        leads = λ k entries b.
            so_far.leads k entries b ∙ ap (λ as'. closed k entries b as' d) inner ∙ ap (λ x. closed k entries b [] x) (sym same);
        counted = omega (arith, so_far.counted, ap around_size inner, ap (λ x. length (decision_lines x)) same);
        inside = omega (arith, none);
      }

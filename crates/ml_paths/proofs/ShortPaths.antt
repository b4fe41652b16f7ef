-- Paths that are told in fewer states.
--
--   found_starts == the loop start of a lasso that is found in a system is below its length
--   still_shown  == the shortest lasso for the endless sequence of a path that is shown is such a path
use Rattle.std.proofs.Common.{ℕ, ◌≡◌, ◌<◌, ◌∙◌, arith, Bool, true, List, length, MatchOption, Option, Some, subst, sym}
use Rattle.ml_base.specs.Structure.{Structure}
use Rattle.ml_ctl.specs.Formula.{Formula}
use Rattle.ml_ctl.specs.Paths.{has_step}
use Rattle.ml_ctl.proofs.SamePaths.{follows_the_path}
use Rattle.ml_emptiness.specs.Emptiness.{IsEmpty, IsFound}
use Rattle.ml_emptiness.specs.Systems.{SystemTable}
use Rattle.ml_emptiness.specs.declared.lassos.SystemLasso.{SystemLasso}
use Rattle.ml_lists.specs.Lasso.{Lasso}
use Rattle.ml_ltl.specs.Problem.{in_sense}
use Rattle.ml_trace.specs.declared.letters.Transition.{Transition}
use Rattle.ml_paths.specs.Paths.{IsShown}
use Rattle.ml_paths.specs.Shortest.{IsShortest}
use Rattle.ml_paths.specs.private.Shortening.{IsShortened}
use Rattle.ml_paths.proofs.EndlessSequences.{alike_is_lasso}

-- the loop start of a lasso that is found in a system is below its length
pub found_starts : (row : List (List Transition)) (s : SystemTable) (o : Option SystemLasso) (x : SystemLasso)
    → o ≡ Some x
    → MatchOption o (IsEmpty row s) (λ l. IsFound row s l.states.items l.letters.items l.loop_start)
    → x.loop_start < length x.states.items
found_starts row s o x is told =
    from (subst (λ o. MatchOption o (IsEmpty row s) (λ l. IsFound row s l.states.items l.letters.items l.loop_start)) is told)
  where
    from : IsFound row s x.states.items x.letters.items x.loop_start → x.loop_start < length x.states.items
    from found = subst (λ n. x.loop_start < n) (sym found.is_word.one_length) found.is_word.loops

-- the shortest lasso for the endless sequence of a path that is shown is such a path
pub still_shown : (m : Structure) (s : ℕ) (f : Formula) (negated : Bool) (l k : Lasso)
    → IsShown m s f negated l
    → IsShortened k l
    → IsShown m s f negated k × IsShortest k
still_shown m s f negated l k shown is = (
  record {
    is_path = record {
      is_path = alike_is_lasso k is.starts (λ x y. has_step m x y ≡ true) l shown.is_path.is_path is.alike;
      starts_at = is.alike 0 ∙ shown.is_path.starts_at;
    };
    satisfies =
        follows_the_path m (in_sense negated f) l k 0 0 (shown.is_path.is_path.starts, some l shown.is_path.is_path.starts)
        (is.starts, some k is.starts) (λ n. sym (is.alike n)) shown.satisfies;
  },
  is.shortest,
)
  where
    some : (l : Lasso) → l.start < length l.entries → 0 < length l.entries
    some l starts = omega (arith, starts)

-- States that are reached, as they are flagged.
--
--   reached_first == the start alone may be flagged
--   reached_more  == the target of an edge whose source is flagged may be flagged
use Rattle.std.proofs.Common.{ℕ, ◌≡◌, ◌⊎◌, inl, inr, true, false, Bool, List, slice_index_or, sym, subst, ◌∙◌}
use Rattle.std.proofs.lemmas.Bool.{cases_eq}
use Rattle.ml_base.specs.declared.structure.Edge.{Edge}
use Rattle.ml_base.specs.Structure.{Structure}
use Rattle.ml_lists.specs.Member.{IsMember}
use Rattle.ml_extract.specs.Extraction.{IsReachedFrom, along, itself}
use Rattle.ml_search.specs.private.Checked.{AreReached}

pub reached_first : (m : Structure) (s : ℕ) (flags : List Bool)
    → ((t : ℕ) → slice_index_or flags t false ≡ true → t ≡ s)
    → AreReached m s flags
reached_first m s flags one t flagged = subst (IsReachedFrom m s) (sym (one t flagged)) itself

pub reached_more : (m : Structure) (s : ℕ) (flags more : List Bool) (e : Edge)
    → AreReached m s flags
    → IsMember e m.edges
    → slice_index_or flags e.source false ≡ true
    → ((t : ℕ) → (t ≡ e.target → ⊥) → slice_index_or more t false ≡ slice_index_or flags t false)
    → AreReached m s more
reached_more m s flags more e reached inside source others t flagged = by_place (cases_eq t e.target)
  where
    by_place : (t ≡ e.target) ⊎ (t ≡ e.target → ⊥) → IsReachedFrom m s t
    by_place (inl same) = subst (IsReachedFrom m s) (sym same) (along e (reached e.source source) inside)
    by_place (inr other) = reached t (sym (others t other) ∙ flagged)

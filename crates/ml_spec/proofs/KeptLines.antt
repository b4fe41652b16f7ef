-- Without its comments a text has the same lines.
--
--   keeps_lines     == line ends stand where they stood
use Rattle.std.proofs.Common.{◌≡◌, ℕ, Bool, true, false, ◌==◌, ◌||◌, List, [], ◌∷◌, map, refl, sym, ◌∙◌, ap}
use Rattle.std.proofs.lemmas.Bool.{cond-true, cond-false}
use Rattle.ml_lines.specs.Reading.{is_line_end}
use Rattle.ml_spec.specs.Comments.{uncommented_from}
use Rattle.ml_spec.specs.Laws.{KeepsLines}

abbrev ends : List ℕ → List Bool
ends t = map is_line_end t

kept : (inside : Bool) (t : List ℕ) → ends (uncommented_from inside t) ≡ ends t
kept inside [] = refl
kept inside (b ∷ bs) = by (b == 10) refl (inside || (b == 35)) refl (kept false bs) (kept true bs)
  where
    by : (e : Bool)
        → (b == 10) ≡ e
        → (c : Bool)
        → (inside || (b == 35)) ≡ c
        → ends (uncommented_from false bs) ≡ ends bs
        → ends (uncommented_from true bs) ≡ ends bs
        → ends (uncommented_from inside (b ∷ bs)) ≡ ends (b ∷ bs)
    by true e c f outer inner = ap ends (cond-true _ _ _ e) ∙ ap (λ xs. (b == 10) ∷ xs) outer
    by false e true f outer inner =
        ap ends (cond-false _ _ _ e ∙ cond-true _ _ _ f) ∙ ap (λ x. x ∷ ends (uncommented_from true bs)) (sym e)
        ∙ ap (λ xs. (b == 10) ∷ xs) inner
    by false e false f outer inner =
        ap ends (cond-false _ _ _ e ∙ cond-false _ _ _ f) ∙ ap (λ xs. (b == 10) ∷ xs) outer

pub keeps_lines : KeepsLines
keeps_lines text = kept false text

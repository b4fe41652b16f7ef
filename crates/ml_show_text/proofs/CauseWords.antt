-- Lines of an undecided document that were compared with fixed ones.
--
--   line_is        == a line of these bytes has these words
--   not_closure    == a line of other bytes isn't the line of the closure
--   no_cause       == a line that tells no cause breaks the first rule
--   no_limit       == a line whose number isn't one breaks the second rule
--   limit_told     == a line that tells a limit keeps both
--   not_end        == a line of other bytes isn't `end`
use Rattle.std.proofs.Common.{◌≡◌, ◌≢◌, ℕ, ◌<◌, ◌^◌, List, [], ◌∷◌, codes, inl, inr, refl, sym, ap, subst, ◌∙◌, ⊎_elim}
use Rattle.ml_lines.specs.Lines.{Line, Word, number}
use Rattle.ml_lines.specs.Reading.{AreWords, IsNumber, words_of, word}
use Rattle.ml_realize_text.proofs.SetReads.{text_is}
use Rattle.ml_show_text.specs.UndecidedBodies.{AtCause, AtEnd, IsPositionsLine, closure_line}
use Rattle.ml_show_text.specs.declared.cause_rule.CauseRule.TheVariants.{OfKind, Numbers}
use Rattle.ml_show_text.specs.private.CauseLines.{Breaks, IsCause}

pub not_closure : (line : List ℕ) → line ≢ codes "cause closure 4096" → words_of line ≢ closure_line
not_closure line other same = other (text_is line (codes "cause closure 4096") same)

pub closure_told : (line : List ℕ) → line ≡ codes "cause closure 4096" → IsCause (words_of line)
closure_told line is = let words : words_of line ≡ closure_line = ap words_of is in (inl words, inl words)

pub no_cause : (line : Line) → line ≢ closure_line → ¬ (IsPositionsLine line) → Breaks AtCause line OfKind
no_cause line other none left = inl (refl, ⊎_elim other none)

module _ (line : Line) (limit : Word) (words : AreWords line)
    (is : line ≡ codes "cause" ∷ codes "positions" ∷ limit ∷ []) where
  positions : IsPositionsLine line
  positions = (words, is ∙ ap (λ w. codes "cause" ∷ codes "positions" ∷ w ∷ []) (ap (λ l. word l 2) (sym is)))

  third : word line 2 ≡ limit
  third = ap (λ l. word l 2) is

  pub limit_told : (n : ℕ) → limit ≡ number n → n < 2 ^ 32 → IsCause line
  limit_told n is_n fits = (inr positions, inr (n, fits, third ∙ is_n))

  pub no_limit : line ≢ closure_line → ¬ (IsNumber limit) → Breaks AtCause line Numbers
  no_limit other none left =
      inr (inr positions, inl (refl, ⊎_elim other (λ (spelt : IsNumber (word line 2)). none (subst IsNumber third spelt))))

pub missing_cause : Breaks AtCause [] OfKind
missing_cause left = inl (
  refl,
  ⊎_elim (λ (same : [] ≡ closure_line). cc)
      (λ (positions : IsPositionsLine []). let apart = positions.1 in cc),
)

pub missing_end : Breaks AtEnd [] OfKind
missing_end left = inl (refl, λ (same : [] ≡ codes "end" ∷ []). cc)

pub not_end : (line : List ℕ) → line ≢ codes "end" → words_of line ≢ codes "end" ∷ []
not_end line other same = other (text_is line (codes "end") same)

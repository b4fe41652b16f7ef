-- Documents are readable or have one first bad line, and never both.
--
--   one_broken, kept_not_broken   == a line breaks one first rule at most, and none where it keeps all
--   judged                        == a line is judged where each rule is decided for it
--   readable_or_bad               == where each line is judged, the lines are readable or have a first bad one
--   one_bad                       == they have one first bad line at most, which breaks one first rule
--   readable_no_bad               == and none where they are readable
--   bad_behind, readable_behind   == what is said of the rest of lines that were read is said of them all
--   read_on                       == lines that were read, and of their rest further ones
use Rattle.std.proofs.Common.{◌≡◌, ℕ, ◌+◌, ◌⊎◌, List, [], ◌∷◌, inl, inr, refl, sym, ◌∙◌}
use Rattle.ml_lists.proofs.Decided.{Decided}
use Rattle.ml_lists.specs.Documents.{Rule, Format, KeepsAll, IsFirstBroken, IsFirstBad}
use Rattle.ml_lists.specs.Readings.{IsReadable, Judges, IsReadTo, nothing_read, line_read, IsJudged}

-- ---- the rules of a place

module _ {Line : Type 0} (line : Line) where
  pub kept_not_broken : (rules : List (Rule Line)) (r : ℕ) → KeepsAll rules line → IsFirstBroken rules line r → ⊥
  kept_not_broken [] r keeps broken = broken
  kept_not_broken (first ∷ others) r keeps (inl here) = here.1 keeps.0
  kept_not_broken (first ∷ others) r keeps (inr later) = kept_not_broken others r keeps.1 later.1

  pub one_broken : (rules : List (Rule Line)) (r s : ℕ)
      → IsFirstBroken rules line r
      → IsFirstBroken rules line s
      → r ≡ s
  one_broken [] r s x y = absurd x
  one_broken (first ∷ others) r s (inl x) (inl y) = x.0 ∙ sym y.0
  one_broken (first ∷ others) r s (inl x) (inr y) = absurd (x.1 y.0)
  one_broken (first ∷ others) r s (inr x) (inl y) = absurd (y.1 x.0)
  one_broken (first ∷ others) r s (inr x) (inr y) = one_broken others r s x.1 y.1

  -- each rule is decided where the earlier ones are kept
  abbrev pub AreDecided : List (Rule Line) → Type 0
  AreDecided [] = Unit {0}
  AreDecided (first ∷ others) = Decided (first.Keeps line) × (first.Keeps line → AreDecided others)

  pub judged : (rules : List (Rule Line)) → AreDecided rules → IsJudged rules line
  judged [] all = inl tt
  judged (first ∷ others) (inr breaks, later) = inr (first.number, inl (refl, breaks))
  judged (first ∷ others) (inl keeps, later) = go (judged others (later keeps))
    where
      go : IsJudged others line → IsJudged (first ∷ others) line
      go (inl all) = inl (keeps, all)
      go (inr (r, broken)) = inr (r, inr (keeps, broken))

-- ---- lines

module _ {Line Place : Type 0} (F : Format Line Place) where
  pub readable_or_bad : Judges F → (k : ℕ) (place : Place) (lines : List Line)
      → IsReadable F place lines ⊎ ((bad : ℕ) × (r : ℕ) × IsFirstBad F k place lines bad r)
  readable_or_bad judges k place [] = go (judges place F.missing)
    where
      go : IsJudged (F.rules place) F.missing
          → IsReadable F place [] ⊎ ((bad : ℕ) × (r : ℕ) × IsFirstBad F k place [] bad r)
      go (inl good) = inl good
      go (inr (r, broken)) = inr (k, r, (refl, broken))
  readable_or_bad judges k place (line ∷ lines) =
      go (judges place line) (readable_or_bad judges (k + 1) (F.after place line) lines)
    where
      go : IsJudged (F.rules place) line
          → IsReadable F (F.after place line) lines ⊎ ((bad : ℕ) × (r : ℕ) × IsFirstBad F (k + 1) (F.after place line) lines bad r)
          → IsReadable F place (line ∷ lines) ⊎ ((bad : ℕ) × (r : ℕ) × IsFirstBad F k place (line ∷ lines) bad r)
      go (inr (r, broken)) later = inr (k, r, inl (refl, broken))
      go (inl good) (inl readable) = inl (good, readable)
      go (inl good) (inr (bad, r, found)) = inr (bad, r, inr (good, found))

  pub readable_no_bad : (k : ℕ) (place : Place) (lines : List Line) (bad r : ℕ) → IsReadable F place lines
      → IsFirstBad F k place lines bad r → ⊥
  readable_no_bad k place [] bad r good found = kept_not_broken F.missing (F.rules place) r good found.1
  readable_no_bad k place (line ∷ lines) bad r good (inl here) = kept_not_broken line (F.rules place) r good.0 here.1
  readable_no_bad k place (line ∷ lines) bad r good (inr later) =
      readable_no_bad (k + 1) (F.after place line) lines bad r good.1 later.1

  pub one_bad : (k : ℕ) (place : Place) (lines : List Line) (b c r s : ℕ) → IsFirstBad F k place lines b r
      → IsFirstBad F k place lines c s → (b ≡ c) × (r ≡ s)
  one_bad k place [] b c r s x y = (x.0 ∙ sym y.0, one_broken F.missing (F.rules place) r s x.1 y.1)
  one_bad k place (line ∷ lines) b c r s (inl x) (inl y) = (x.0 ∙ sym y.0, one_broken line (F.rules place) r s x.1 y.1)
  one_bad k place (line ∷ lines) b c r s (inl x) (inr y) = absurd (kept_not_broken line (F.rules place) r y.0 x.1)
  one_bad k place (line ∷ lines) b c r s (inr x) (inl y) = absurd (kept_not_broken line (F.rules place) s x.0 y.1)
  one_bad k place (line ∷ lines) b c r s (inr x) (inr y) = one_bad (k + 1) (F.after place line) lines b c r s x.1 y.1

  -- ---- lines that were read

  module _ (k : ℕ) (place : Place) (lines : List Line) where
    pub bad_behind : (j : ℕ) (at : Place) (rest : List Line) (bad r : ℕ) → IsReadTo F k place lines j at rest
        → IsFirstBad F j at rest bad r → IsFirstBad F k place lines bad r
    bad_behind j at rest bad r nothing_read found = found
    bad_behind j at rest bad r (line_read i here line more before good) found =
        bad_behind i here (line ∷ more) bad r before (inr (good, found))

    pub readable_behind : (j : ℕ) (at : Place) (rest : List Line)
        → IsReadTo F k place lines j at rest
        → IsReadable F at rest
        → IsReadable F place lines
    readable_behind j at rest nothing_read readable = readable
    readable_behind j at rest (line_read i here line more before good) readable =
        readable_behind i here (line ∷ more) before (good, readable)

    pub read_on : (j : ℕ) (at : Place) (rest : List Line) (i : ℕ) (q : Place) (last : List Line)
        → IsReadTo F k place lines j at rest
        → IsReadTo F j at rest i q last → IsReadTo F k place lines i q last
    read_on j at rest i q last before nothing_read = before
    read_on j at rest i q last before (line_read h here line more further good) =
        line_read h here line more (read_on j at rest h here (line ∷ more) before further) good

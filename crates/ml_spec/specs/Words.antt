-- The words of a text, with their places, and lists of words that an item has.
--
-- A word goes on up to the next blank. The words of a list stand one behind the other; each of them is to be good by itself, and
-- none is to be taken already, which may depend on the words before it.
--
--   words_from inside at bs == the words that begin in bs, whose first byte stands at the place `at`, each with its place, where
--                              `inside` tells whether bs goes on with a word
--   placed_words at bs      == the words of bs with their places
--   words_of ws             == the words alone
--   AreGood good ps         == all of the words ps are good
--   AreFree taken seen ps   == none of the words ps is taken, where the words `seen` stand before them
--   IsBadAt good ws at      == at this place a word of ws stands that isn't good
--   IsTakenAt taken seen ws at == at this place a word of ws stands that is taken, where the words `seen` stand before ws
use Rattle.std.specs.Prelude.{ℕ, ◌≡◌, ◌+◌, ◌⊎◌, ⊤, Bool, true, false, if◌then◌else◌, List, [], ◌∷◌, ◌++◌, map}
use Rattle.std.specs.List.{AllByRecursion}
use Rattle.ml_text.specs.Bytes.{is_blank}
use Rattle.ml_spec.specs.Items.{first_word}

abbrev pub words_from : Bool → ℕ → List ℕ → List (ℕ × List ℕ)
words_from inside at [] = []
words_from inside at (b ∷ bs) =
    if is_blank b then words_from false (at + 1) bs
    else if inside then words_from true (at + 1) bs
    else (at, first_word (b ∷ bs)) ∷ words_from true (at + 1) bs

abbrev pub placed_words : ℕ → List ℕ → List (ℕ × List ℕ)
placed_words at bs = words_from false at bs

abbrev pub words_of : List (ℕ × List ℕ) → List (List ℕ)
words_of ws = map (λ w. w.1) ws

-- ---- lists of words

abbrev pub AreGood : (List ℕ → Bool) → List (List ℕ) → Type 0
AreGood good ps = AllByRecursion (λ p. good p ≡ true) ps

abbrev pub AreFree : (List (List ℕ) → List ℕ → Type 0) → List (List ℕ) → List (List ℕ) → Type 0
AreFree taken seen [] = ⊤
AreFree taken seen (p ∷ ps) = (¬ (taken seen p)) × AreFree taken (seen ++ p ∷ []) ps

abbrev pub IsBadAt : (List ℕ → Bool) → List (ℕ × List ℕ) → ℕ → Type 0
IsBadAt good [] at = ⊥
IsBadAt good (w ∷ ws) at = ((good w.1 ≡ false) × (at ≡ w.0)) ⊎ IsBadAt good ws at

abbrev pub IsTakenAt : (List (List ℕ) → List ℕ → Type 0) → List (List ℕ) → List (ℕ × List ℕ) → ℕ → Type 0
IsTakenAt taken seen [] at = ⊥
IsTakenAt taken seen (w ∷ ws) at = (taken seen w.1 × (at ≡ w.0)) ⊎ IsTakenAt taken (seen ++ w.1 ∷ []) ws at

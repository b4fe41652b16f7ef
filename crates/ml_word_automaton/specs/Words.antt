-- When an endless word satisfies a formula of LTL.
--
-- A letter is a set of propositions, those that are true at a place; it is given as a list of names, as the labels of a
-- state are, and neither order nor repetition means anything. A word lasso (`ml_trace/specs/WordAutomata`) is read as a
-- structure whose states are the places of the list: each lists its letter, and has one edge by the action `_`, to the
-- next place, the last one to the loop start. So one path goes from its first place, through all of them, and the word
-- satisfies what this path satisfies.
--
--   Letter              == a list of the propositions that are true
--   has letter p        == the proposition p is in the letter
--   next_letter w i     == the place after place i: the next one, and after the last one the loop start
--   word_structure w    == the structure of the word w
--   word_path w         == its path from the first place
--   SatisfiedBy w f     == the word satisfies the formula f
use Rattle.std.specs.Prelude.{ℕ, suc, Bool, List, length, map, cond, ltb, codes}
use Rattle.std.specs.List.{list_any, range_with_len}
use Rattle.std.specs.Str.{bytes_eq}
use Rattle.ml_lists.specs.Lasso.{Lasso}
use Rattle.ml_base.specs.Structure.{Structure}
use Rattle.ml_trace.specs.WordAutomata.{WordLasso}
use Rattle.ml_ctl.specs.Formula.{Formula}
use Rattle.ml_ctl.specs.Meaning.{Satisfies}

abbrev pub Letter : Type 0
Letter = List (List ℕ)

-- the proposition is in the letter
abbrev pub has : Letter → List ℕ → Bool
has letter p = list_any (λ q. bytes_eq q p) letter

-- the place after place i
abbrev pub next_letter : WordLasso Letter → ℕ → ℕ
next_letter w i = cond (ltb (suc i) (length w.word)) (suc i) w.loop_start

abbrev pub word_structure : WordLasso Letter → Structure
word_structure w = record {
  states = length w.word;
  labels = w.word;
  edges =
      map (λ i. record { source = i; action = codes "_"; target = next_letter w i }) (range_with_len 0 (length w.word));
}

abbrev pub word_path : WordLasso Letter → Lasso
word_path w = record { entries = range_with_len 0 (length w.word); start = w.loop_start }

abbrev pub SatisfiedBy : WordLasso Letter → Formula → Type 0
SatisfiedBy w f = Satisfies (word_structure w) (word_path w) f

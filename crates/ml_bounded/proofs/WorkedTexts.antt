-- Texts worked out by hand: what comes of each, from its bytes.
--
--   is_refused text at    == the text is refused as syntax at this byte
--   stands_for text f     == the text is accepted as the formula f
--   bounded_texts         == texts that stand for formulas
--   numbers               == a number has three digits at most, and no blanks
--   lesser_numbers        == a second number that is less than the first is refused at its first digit
--   bounds_alone          == brackets and numbers stand behind X, F and G alone, X with one number, F and G with two
use Rattle.std.proofs.Common.{◌≡◌, ℕ, List, refl, codes}
use Rattle.ml_text.specs.Refusals.{Syntax}
use Rattle.ml_text.specs.Tokens.{tokens, tokens_from, tokens_at, front_token, longest_sign, signs}
use Rattle.ml_text.specs.Words.{constant_of}
use Rattle.ml_text.specs.private.Reading.{Found, Refused}
use Rattle.ml_ctl.specs.declared.term.Pairing.TheVariants as pairing
use Rattle.ml_ctl.specs.declared.term.Tense.TheVariants as tense
use Rattle.ml_bounded.specs.Formula.{Formula, Bounded, Paired, Prop, Temporal}
use Rattle.ml_bounded.specs.declared.term.Bound.TheVariants.{Next, Within}
use Rattle.ml_bounded.specs.declared.term.Reach.TheVariants.{Eventually, Always}
use Rattle.ml_bounded.proofs.Parsed.{bounded_outcome}

abbrev is_refused : List ℕ → ℕ → Type 0
is_refused text at = bounded_outcome text ≡ Refused Syntax at

abbrev stands_for : List ℕ → Formula → Type 0
stands_for text f = bounded_outcome text ≡ Found f

abbrev p : Formula
p = Prop (codes "p")

abbrev q : Formula
q = Prop (codes "q")

bounded_texts :
    stands_for (codes "X[2]p") (Bounded (Next 2) p)
    × stands_for (codes "F[0:10] p") (Bounded (Within Eventually 0 10) p)
    × stands_for (codes "G [ 7 , 007 ] X p U q") (Paired pairing.Until (Bounded (Within Always 7 7) (Temporal tense.Next p)) q)
    × stands_for (codes "F p") (Temporal tense.Finally p)
unfolding tokens tokens_from tokens_at front_token longest_sign signs constant_of
bounded_texts = (refl, refl, refl, refl)

numbers : is_refused (codes "X[1000]p") 5 × is_refused (codes "X[1 0]p") 4 × is_refused (codes "X[]p") 2
unfolding tokens tokens_from tokens_at front_token longest_sign signs constant_of
numbers = (refl, refl, refl)

lesser_numbers : is_refused (codes "F[3:2] p") 4 × is_refused (codes "G[10:9]p") 5 × is_refused (codes "F[123,23]p") 6
unfolding tokens tokens_from tokens_at front_token longest_sign signs constant_of
lesser_numbers = (refl, refl, refl)

bounds_alone :
    is_refused (codes "X[1:2]p") 3
    × is_refused (codes "F[1]p") 3
    × is_refused (codes "p U[1:2]q") 3
    × is_refused (codes "7") 0
unfolding tokens tokens_from tokens_at front_token longest_sign signs constant_of
bounds_alone = (refl, refl, refl, refl)

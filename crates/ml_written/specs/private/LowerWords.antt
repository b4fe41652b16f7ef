-- The words of a text that begin with a lower-case letter and aren't reserved, as its tokens tell them.
--
--   words_of l              == which letters begin a word in the logic l
--   is_lower_word l text p  == is the token such a word?
--   lower_places l text ps  == where those of these tokens begin that are
use Rattle.std.specs.Prelude.{ℕ, ◌&&◌, Bool, if◌then◌else◌, List, [], ◌∷◌}
use Rattle.ml_front.specs.declared.logic.Logic.{Logic}
use Rattle.ml_front.specs.declared.logic.Logic.TheVariants as logic
use Rattle.ml_text.specs.Items.{bytes_of, is_word}
use Rattle.ml_text.specs.declared.token.Placed.{Placed}
use Rattle.ml_text.specs.declared.token.WordStart.{WordStart}
use Rattle.ml_text.specs.declared.token.WordStart.TheVariants.{AnyLetter, LowerCase}
use Rattle.ml_written.specs.Propositions.{is_spelled}

abbrev pub words_of : Logic → WordStart
words_of logic.Mu = AnyLetter
words_of logic.Pdl = AnyLetter
words_of logic.Ctl = LowerCase
words_of logic.Ltl = LowerCase
words_of logic.Word = LowerCase

abbrev pub is_lower_word : Logic → List ℕ → Placed → Bool
is_lower_word l text p = is_word p.token && is_spelled l (bytes_of text p)

abbrev pub lower_places : Logic → List ℕ → List Placed → List ℕ
lower_places l text [] = []
lower_places l text (p ∷ ps) = if is_lower_word l text p then p.start ∷ lower_places l text ps else lower_places l text ps

-- What the reader of texts asks of PDL.
--
--   pdl_tables  == its grammar and its signs, and what the values of the program stand for
use Rattle.std.specs.Prelude.{ℕ, Bool, List}
use Rattle.ml_text.specs.private.Tables.{Tables}
use Rattle.ml_text.specs.SignKinds.{HasShortName, named}
use Rattle.ml_text.specs.declared.named_signs.Sign.{Sign}
use Rattle.ml_pdl.specs.Tables.{pdl_grammar}
use Rattle.ml_pdl.specs.Text.{pdl_signs}
use Rattle.ml_pdl.specs.private.FormViews.{phrase_view, wait_view, hold_view}
use Rattle.ml_pdl.specs.declared.forms.Phrase.{Phrase}
use Rattle.ml_pdl.specs.declared.forms.Sort.{Sort}
use Rattle.ml_pdl.specs.declared.forms.Wait.{Wait}
use Rattle.ml_pdl.specs.declared.forms.Hold.{Hold}
use Rattle.ml_pdl.specs.declared.signs.Own.{Own}

abbrev pub pdl_tables : Tables (Sign (Unit {0}) Own) Bool Sort (Sign (List ℕ) Own) Phrase Wait Hold
pdl_tables = record {
  grammar = pdl_grammar;
  signs = pdl_signs;
  named = named;
  CanName = λ kind word. HasShortName (named kind word);
  sort = λ s. s;
  sign = λ s. s;
  tree = phrase_view;
  wait = wait_view;
  hold = hold_view;
}

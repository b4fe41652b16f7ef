-- What the reader of texts asks of LTL with bounds.
--
--   bounded_tables  == its grammar and its signs, and what the values of the program stand for
use Rattle.std.specs.Prelude.{ℕ, List}
use Rattle.ml_text.specs.private.Tables.{Tables}
use Rattle.ml_text.specs.SignKinds.{HasShortName, named}
use Rattle.ml_text.specs.declared.named_signs.Sign.{Sign}
use Rattle.ml_bounded.specs.Term.{formula_of}
use Rattle.ml_bounded.specs.Text.{bounded_signs}
use Rattle.ml_bounded.specs.private.FormViews.{wait_view}
use Rattle.ml_bounded.specs.private.Tables.{bounded_grammar}
use Rattle.ml_bounded.specs.declared.forms.Wait.{Wait}
use Rattle.ml_bounded.specs.declared.forms.Hold.{Hold}
use Rattle.ml_bounded.specs.declared.signs.Own.{Own}
use Rattle.ml_bounded.specs.declared.term.Term.{Term}

abbrev pub bounded_tables : Tables (Sign (Unit {0}) Own) (Unit {0}) (Unit {0}) (Sign (List ℕ) Own) Term Wait Hold
bounded_tables = record {
  grammar = bounded_grammar;
  signs = bounded_signs;
  named = named;
  CanName = λ kind word. HasShortName (named kind word);
  sort = λ s. s;
  sign = λ s. s;
  tree = formula_of;
  wait = wait_view;
  hold = λ k. k;
}

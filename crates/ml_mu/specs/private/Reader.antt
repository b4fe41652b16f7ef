-- What the reader of texts asks of the mu-calculus.
--
--   mu_tables  == its grammar and its signs, and what the values of the program stand for
use Rattle.std.specs.Prelude.{ℕ, Bool, List}
use Rattle.ml_text.specs.private.Tables.{Tables}
use Rattle.ml_text.specs.SignKinds.{HasShortName, named}
use Rattle.ml_text.specs.declared.named_signs.Sign.{Sign}
use Rattle.ml_mu.specs.Term.{formula_of}
use Rattle.ml_mu.specs.Text.{mu_signs}
use Rattle.ml_mu.specs.private.FormViews.{wait_view, hold_view}
use Rattle.ml_mu.specs.private.Tables.{mu_grammar}
use Rattle.ml_mu.specs.declared.forms.Wait.{Wait}
use Rattle.ml_mu.specs.declared.forms.Hold.{Hold}
use Rattle.ml_mu.specs.declared.signs.Own.{Own}
use Rattle.ml_mu.specs.declared.term.Term.{Term}

abbrev pub mu_tables : Tables (Sign (Unit {0}) Own) Bool (Unit {0}) (Sign (List ℕ) Own) Term Wait Hold
mu_tables = record {
  grammar = mu_grammar;
  signs = mu_signs;
  named = named;
  CanName = λ kind word. HasShortName (named kind word);
  sort = λ s. s;
  sign = λ s. s;
  tree = formula_of;
  wait = wait_view;
  hold = hold_view;
}

-- What the reader of texts asks of CTL* and LTL.
--
--   ctl_tables w  == the grammar and the signs of a logic, and what the values of the program stand for
use Rattle.std.specs.Prelude.{ℕ, List}
use Rattle.ml_text.specs.private.Tables.{Tables}
use Rattle.ml_ctl.specs.declared.language.Language.{Language}
use Rattle.ml_text.specs.SignKinds.{HasShortName, named}
use Rattle.ml_text.specs.declared.named_signs.Sign.{Sign}
use Rattle.ml_ctl.specs.Term.{formula_of}
use Rattle.ml_ctl.specs.Text.{ctl_signs}
use Rattle.ml_ctl.specs.private.FormViews.{wait_view}
use Rattle.ml_ctl.specs.private.Tables.{ctl_grammar}
use Rattle.ml_ctl.specs.declared.language.Sort.{Sort}
use Rattle.ml_ctl.specs.declared.forms.Wait.{Wait}
use Rattle.ml_ctl.specs.declared.forms.Hold.{Hold}
use Rattle.ml_ctl.specs.declared.signs.Own.{Own}
use Rattle.ml_ctl.specs.declared.term.Term.{Term}

abbrev pub ctl_tables : Language → Tables (Sign (Unit {0}) Own) (Unit {0}) Sort (Sign (List ℕ) Own) Term Wait Hold
ctl_tables w = record {
  grammar = ctl_grammar w;
  signs = ctl_signs;
  named = named;
  CanName = λ kind word. HasShortName (named kind word);
  sort = λ s. s;
  sign = λ s. s;
  tree = formula_of;
  wait = wait_view;
  hold = λ k. k;
}

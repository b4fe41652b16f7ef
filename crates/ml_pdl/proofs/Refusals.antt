-- PDL texts are refused where the tables refuse them.
--
--   pdl_fits == the tables are what the machine asks for
--   pdl_same == the signs that stand for something by the tables are the texts of the grammar
--   accepted == what is accepted as the formula of a tree is accepted as that formula
use Rattle.std.proofs.Common.{List, ap, subst}
use Rattle.ml_text.specs.Grammar.{StandsFor}
use Rattle.ml_text.specs.Refusals.{Item, IsAccepted, signs_of}
use Rattle.ml_text.proofs.Fits.{Fits}
use Rattle.ml_text.proofs.SameTexts.{SameTexts, other_way, fault_same}
use Rattle.ml_pdl.specs.Signs.{Sign}
use Rattle.ml_pdl.specs.Grammar.{IsReadAs}
use Rattle.ml_pdl.specs.Tables.{Phrase, OfFormula, formula_of, pdl_grammar}
use Rattle.ml_pdl.proofs.PdlGrammar.{pdl_regular, pdl_completable, stands_read, read_stands}

pub pdl_fits : Fits pdl_grammar (StandsFor pdl_grammar)
pdl_fits = record { regular = pdl_regular; completable = pdl_completable; to = λ ts v is. is; from = λ ts v is. is }

pub pdl_same : SameTexts (StandsFor pdl_grammar) IsReadAs
pdl_same = record {
  to = λ ts v is. let read = stands_read ts v is in (read.0, read.2);
  from = λ ts f is. (OfFormula f, read_stands ts f is);
}

pub accepted : (items : List (Item Sign)) (v : Phrase)
    → IsAccepted (StandsFor pdl_grammar) items v
    → IsAccepted IsReadAs items (formula_of v)
accepted items v is =
    let read = stands_read (signs_of items) v is.stands in
    record {
      stands = subst (λ f. IsReadAs (signs_of items) f) (ap formula_of read.1) read.2;
      keeps =
          λ c k fault. is.keeps c k
          (fault_same IsReadAs (StandsFor pdl_grammar) (other_way (StandsFor pdl_grammar) IsReadAs pdl_same) items c k
          fault);
    }

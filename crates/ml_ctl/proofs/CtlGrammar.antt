-- The tables of CTL* and LTL are regular and can be completed, so all that is proved of the machine holds of their texts.
--
--   ctl_fits      == the tables are those of the grammar, and what the machine asks for
--   one_formula   == signs stand for one formula at most
use Rattle.std.proofs.Common.{◌≡◌, true, List, [], ◌∷◌, ◌++◌, Some, refl, subst, arith}
use Rattle.ml_text.specs.Grammar.{More, Opens, sign, read, whole, front, IsStop, IsRegular, Ending, IsCompletable, StandsFor}
use Rattle.ml_text.proofs.Complete.{one_tree}
use Rattle.ml_text.proofs.Fits.{Fits}
use Rattle.ml_ctl.specs.Formula as plain
use Rattle.ml_ctl.specs.Formula.{Formula}
use Rattle.ml_ctl.specs.declared.language.Language.{Language}
use Rattle.ml_ctl.specs.declared.language.Language.TheVariants.{Ctl, Ltl}
use Rattle.ml_text.specs.declared.named_signs.Sign.TheVariants.{Not, Const, Close, Added}
use Rattle.ml_ctl.specs.Signs.{Sign}
use Rattle.ml_ctl.specs.declared.signs.Own.TheVariants.{Tensed, Quantifies}
use Rattle.ml_ctl.specs.Grammar.{IsReadAs}
use Rattle.ml_ctl.specs.declared.language.Sort.{Sort}
use Rattle.ml_ctl.specs.declared.language.Sort.TheVariants.{State, Path}
use Rattle.ml_ctl.specs.private.Tables.{Wait, Start, BehindInside, shift_start, resume, ctl_grammar}
use Rattle.ml_ctl.specs.declared.forms.Hold.{Hold}
use Rattle.ml_ctl.specs.declared.forms.Hold.TheVariants.{Negation, Tensing, Quantifying, Group}
use Rattle.ml_ctl.proofs.GrammarTables.{tabled, untabled}

never_opens : (w : Language) (s : Sort) (t : Sign) (k : Hold) → shift_start w s t ≡ Some (Opens k) → ⊥
never_opens w State (Added (Tensed t)) k is = cc
never_opens w Path (Added (Tensed t)) k is = cc
never_opens Ctl s (Added (Quantifies q)) k is = cc
never_opens Ltl s (Added (Quantifies q)) k is = cc
never_opens w s Not k is = cc
never_opens w s _ k is = cc

pub ctl_regular : (w : Language) → IsRegular (ctl_grammar w)
ctl_regular w s t k is = never_opens w s t k is

ending : (w : Language) (q : Wait) → Ending (ctl_grammar w) q
ending w (Start s) = record { signs = Const true ∷ []; tree = plain.Const true; reads = λ rest stop. sign (read whole) }
ending w (BehindInside f) = record { signs = Close ∷ []; tree = f; reads = λ rest stop. sign (read whole) }

closes : (w : Language) (k : Hold) (v : Formula) (q : Wait)
    → resume k v ≡ More q
    → (rest : List Sign)
    → IsStop (ctl_grammar w) (front ((ending w q).signs ++ rest))
unfolding ending
closes w (Negation s) v q is rest = absurd (cc)
closes w (Tensing t) v q is rest = absurd (cc)
closes w (Quantifying x) v q is rest = absurd (cc)
closes w (Group s) v q is rest =
    let same : BehindInside v ≡ q = cc in
    subst (λ x. IsStop (ctl_grammar w) (front ((ending w x).signs ++ rest))) same (λ s l. refl)

pub ctl_completable : (w : Language) → IsCompletable (ctl_grammar w)
unfolding ending closes
ctl_completable w = record { ending = ending w; closes = closes w }

pub stands_read : (w : Language) (ts : List Sign) (f : Formula) → StandsFor (ctl_grammar w) ts f → IsReadAs w ts f
stands_read w ts f is = untabled w is

pub read_stands : (w : Language) (ts : List Sign) (f : Formula) → IsReadAs w ts f → StandsFor (ctl_grammar w) ts f
read_stands w ts f is = tabled is 0 (omega arith)

pub ctl_fits : (w : Language) → Fits (ctl_grammar w) (IsReadAs w)
ctl_fits w = record {
  regular = ctl_regular w;
  completable = ctl_completable w;
  to = read_stands w;
  from = stands_read w;
}

pub one_formula : (w : Language) (ts : List Sign) (f g : Formula) → IsReadAs w ts f → IsReadAs w ts g → f ≡ g
one_formula w ts f g a b = one_tree (ctl_grammar w) (ctl_regular w) ts f g (read_stands w ts f a) (read_stands w ts g b)

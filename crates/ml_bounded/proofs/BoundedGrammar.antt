-- The tables of LTL with bounds are regular and can be completed, so all that is proved of the machine holds of their texts.
--
--   bounded_fits  == the tables are those of the grammar, and what the machine asks for
--   one_formula   == signs stand for one formula at most
use Rattle.std.proofs.Common.{◌≡◌, ℕ, true, List, [], ◌∷◌, ◌++◌, Some, refl, subst, arith}
use Rattle.ml_text.specs.Grammar.{More, Opens, alone, form, opens, inner, sign, read, whole, front}
use Rattle.ml_text.specs.Grammar.{IsStop, IsRegular, Ending, IsCompletable, StandsFor}
use Rattle.ml_text.proofs.Complete.{one_tree}
use Rattle.ml_text.proofs.Fits.{Fits}
use Rattle.ml_ctl.specs.declared.term.Tense.TheVariants as tense
use Rattle.ml_bounded.specs.Formula as plain
use Rattle.ml_bounded.specs.Formula.{Formula}
use Rattle.ml_bounded.specs.declared.term.Bound.{Bound}
use Rattle.ml_bounded.specs.declared.term.Bound.TheVariants.{Next, Within}
use Rattle.ml_bounded.specs.declared.term.Reach.{Reach}
use Rattle.ml_bounded.specs.declared.term.Reach.TheVariants.{Eventually, Always}
use Rattle.ml_text.specs.declared.named_signs.Sign.TheVariants.{Not, Const, Close, Added}
use Rattle.ml_bounded.specs.Signs.{Sign}
use Rattle.ml_bounded.specs.declared.signs.Own.TheVariants.{Tensed, Closing, Between, Number}
use Rattle.ml_bounded.specs.Grammar.{IsReadAs}
use Rattle.ml_bounded.specs.private.Tables.{Wait, Start, BehindInside, BehindTense, BehindOpening, BehindFirst}
use Rattle.ml_bounded.specs.private.Tables.{BehindBetween, BehindLast}
use Rattle.ml_bounded.specs.private.Tables.{shift_start, resume, bounded_grammar}
use Rattle.ml_bounded.specs.declared.forms.Hold.{Hold}
use Rattle.ml_bounded.specs.declared.forms.Hold.TheVariants.{Negation, Tensing, Bounding, Group}
use Rattle.ml_bounded.proofs.GrammarTables.{Awaits, second_number, tabled, tight, untabled}

never_opens : (t : Sign) (k : Hold) → shift_start t ≡ Some (Opens k) → ⊥
never_opens (Added (Tensed t)) k is = cc
never_opens Not k is = cc
never_opens _ k is = cc

pub bounded_regular : IsRegular bounded_grammar
bounded_regular s t k is = never_opens t k is

-- behind all numbers, `]` and `tt` are missing
closed : (b : Bound) (rest : List Sign)
    → Awaits (BehindLast b) (Added Closing ∷ Const true ∷ rest) (plain.Bounded b (plain.Const true)) rest
closed b rest = sign (inner (alone (form (sign (read whole)))) (tight (front rest)) whole)

between : (e : Reach) (m : ℕ) (rest : List Sign)
    → Awaits (BehindBetween e m) (Added (Number m) ∷ Added Closing ∷ Const true ∷ rest)
    (plain.Bounded (Within e m m) (plain.Const true)) rest
between e m rest = second_number (omega arith) (closed (Within e m m) rest)

ending : (q : Wait) → Ending bounded_grammar q
ending Start = record { signs = Const true ∷ []; tree = plain.Const true; reads = λ rest stop. sign (read whole) }
ending (BehindInside f) = record { signs = Close ∷ []; tree = f; reads = λ rest stop. sign (read whole) }
ending (BehindTense t) = record {
  signs = Const true ∷ [];
  tree = plain.Temporal t (plain.Const true);
  reads = λ rest stop. sign (opens (alone (form (sign (read whole)))) (tight (front rest)) whole);
}
ending (BehindOpening tense.Next) = record {
  signs = Added (Number 0) ∷ Added Closing ∷ Const true ∷ [];
  tree = plain.Bounded (Next 0) (plain.Const true);
  reads = λ rest stop. sign (read (closed (Next 0) rest));
}
ending (BehindOpening tense.Finally) = record {
  signs = Added (Number 0) ∷ Added Between ∷ Added (Number 0) ∷ Added Closing ∷ Const true ∷ [];
  tree = plain.Bounded (Within Eventually 0 0) (plain.Const true);
  reads = λ rest stop. sign (read (sign (read (between Eventually 0 rest))));
}
ending (BehindOpening tense.Globally) = record {
  signs = Added (Number 0) ∷ Added Between ∷ Added (Number 0) ∷ Added Closing ∷ Const true ∷ [];
  tree = plain.Bounded (Within Always 0 0) (plain.Const true);
  reads = λ rest stop. sign (read (sign (read (between Always 0 rest))));
}
ending (BehindFirst e m) = record {
  signs = Added Between ∷ Added (Number m) ∷ Added Closing ∷ Const true ∷ [];
  tree = plain.Bounded (Within e m m) (plain.Const true);
  reads = λ rest stop. sign (read (between e m rest));
}
ending (BehindBetween e m) = record {
  signs = Added (Number m) ∷ Added Closing ∷ Const true ∷ [];
  tree = plain.Bounded (Within e m m) (plain.Const true);
  reads = λ rest stop. between e m rest;
}
ending (BehindLast b) = record {
  signs = Added Closing ∷ Const true ∷ [];
  tree = plain.Bounded b (plain.Const true);
  reads = λ rest stop. closed b rest;
}

closes : (k : Hold) (v : Formula) (q : Wait)
    → resume k v ≡ More q
    → (rest : List Sign)
    → IsStop bounded_grammar (front ((ending q).signs ++ rest))
unfolding ending
closes Negation v q is rest = absurd (cc)
closes (Tensing t) v q is rest = absurd (cc)
closes (Bounding b) v q is rest = absurd (cc)
closes Group v q is rest =
    let same : BehindInside v ≡ q = cc in
    subst (λ x. IsStop bounded_grammar (front ((ending x).signs ++ rest))) same (λ s l. refl)

pub bounded_completable : IsCompletable bounded_grammar
unfolding ending closes
bounded_completable = record { ending = ending; closes = closes }

pub stands_read : (ts : List Sign) (f : Formula) → StandsFor bounded_grammar ts f → IsReadAs ts f
stands_read ts f is = untabled is

pub read_stands : (ts : List Sign) (f : Formula) → IsReadAs ts f → StandsFor bounded_grammar ts f
read_stands ts f is = tabled is 0 (omega arith)

pub bounded_fits : Fits bounded_grammar IsReadAs
bounded_fits = record {
  regular = bounded_regular;
  completable = bounded_completable;
  to = read_stands;
  from = stands_read;
}

pub one_formula : (ts : List Sign) (f g : Formula) → IsReadAs ts f → IsReadAs ts g → f ≡ g
one_formula ts f g a b = one_tree bounded_grammar bounded_regular ts f g (read_stands ts f a) (read_stands ts g b)

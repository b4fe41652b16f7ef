-- The tables of mu are regular and can be completed, so all that is proved of the machine holds of mu texts.
--
--   mu_regular      == no form of mu opens into another
--   mu_completable  == each form of mu can be ended
--   stands_read     == what the tables stand for, the grammar reads, and the other way round
use Rattle.std.proofs.Common.{◌≡◌, ℕ, true, List, [], ◌∷◌, ◌++◌, Some, refl, subst, arith, codes}
use Rattle.ml_text.specs.Grammar.{More, Inner, Opens, Behind, Operand, sign, read, inner, alone, form, whole, front, IsStop, IsRegular, Ending, IsCompletable, StandsFor}
use Rattle.ml_mu.specs.Formula as plain
use Rattle.ml_mu.specs.Formula.{Formula, Modality, Diamond, Square, Fixpoint}
use Rattle.ml_text.specs.declared.named_signs.Sign.TheVariants.{Not, Const, Close, Upper, Added}
use Rattle.ml_mu.specs.Signs.{Sign}
use Rattle.ml_mu.specs.declared.signs.Own.TheVariants.{Begins, Ends, Binds, Dot}
use Rattle.ml_mu.specs.Grammar.{IsReadAs}
use Rattle.ml_mu.specs.private.Tables.{Wait, BehindBegin, BehindAction, BehindFixpoint, BehindVariable, BehindInside, Hold, Negation, Modal, Binder, Group, shift_operand, resume, mu_grammar}
use Rattle.ml_mu.proofs.GrammarTables.{Tabled, tight, tabled, untabled}

never_opens : (t : Sign) (k : Hold) → shift_operand t ≡ Some (Opens k) → ⊥
never_opens Not k is = cc
never_opens (Added (Begins m)) k is = cc
never_opens (Added (Binds q)) k is = cc
never_opens (Added _) k is = cc
never_opens _ k is = cc

pub mu_regular : IsRegular mu_grammar
mu_regular s t k is = never_opens t k is

-- `tt` is read as an operand, whatever follows
read_true : (rest : List Sign) → Tabled (Operand tt) (Const true ∷ rest) (plain.Const true) rest
read_true rest = form (sign (read whole))

modal_true : (t : Sign) (m : Modality) (a : List ℕ) (rest : List Sign)
    → Tabled (Behind t (Some (Inner (Modal m a)))) (Const true ∷ rest) (plain.Modal m a (plain.Const true)) rest
modal_true t m a rest = inner (alone (read_true rest)) (tight (front rest)) whole

binder_true : (t : Sign) (q : Fixpoint) (x : List ℕ) (rest : List Sign)
    → IsStop mu_grammar (front rest)
    → Tabled (Behind t (Some (Inner (Binder q x)))) (Const true ∷ rest) (plain.Binder q x (plain.Const true)) rest
binder_true t q x rest stop = inner (alone (read_true rest)) (stop tt 0) whole

some_variable : List ℕ
some_variable = codes "X"

ending : (q : Wait) → Ending mu_grammar q
ending Wait.Operand = record { signs = Const true ∷ []; tree = plain.Const true; reads = λ rest stop. sign (read whole) }
ending (BehindBegin Diamond) =
    record {
      signs = Added (Ends Diamond) ∷ Const true ∷ [];
      tree = plain.Modal Diamond (codes "_") (plain.Const true);
      reads = λ rest stop. sign (modal_true (Added (Ends Diamond)) Diamond (codes "_") rest);
    }
ending (BehindBegin Square) =
    record {
      signs = Added (Ends Square) ∷ Const true ∷ [];
      tree = plain.Modal Square (codes "_") (plain.Const true);
      reads = λ rest stop. sign (modal_true (Added (Ends Square)) Square (codes "_") rest);
    }
ending (BehindAction Diamond a) =
    record {
      signs = Added (Ends Diamond) ∷ Const true ∷ [];
      tree = plain.Modal Diamond a (plain.Const true);
      reads = λ rest stop. sign (modal_true (Added (Ends Diamond)) Diamond a rest);
    }
ending (BehindAction Square a) =
    record {
      signs = Added (Ends Square) ∷ Const true ∷ [];
      tree = plain.Modal Square a (plain.Const true);
      reads = λ rest stop. sign (modal_true (Added (Ends Square)) Square a rest);
    }
ending (BehindFixpoint q) =
    record {
      signs = Upper some_variable ∷ Added Dot ∷ Const true ∷ [];
      tree = plain.Binder q some_variable (plain.Const true);
      reads = λ rest stop. sign (read (sign (binder_true (Added Dot) q some_variable rest stop)));
    }
ending (BehindVariable q x) =
    record {
      signs = Added Dot ∷ Const true ∷ [];
      tree = plain.Binder q x (plain.Const true);
      reads = λ rest stop. sign (binder_true (Added Dot) q x rest stop);
    }
ending (BehindInside f) = record { signs = Close ∷ []; tree = f; reads = λ rest stop. sign (read whole) }

closes : (k : Hold) (v : Formula) (q : Wait)
    → resume k v ≡ More q
    → (rest : List Sign)
    → IsStop mu_grammar (front ((ending q).signs ++ rest))
unfolding ending
closes Negation v q is rest = absurd (cc)
closes (Modal m a) v q is rest = absurd (cc)
closes (Binder x y) v q is rest = absurd (cc)
closes Group v q is rest =
    let same : BehindInside v ≡ q = cc in
    subst (λ w. IsStop mu_grammar (front ((ending w).signs ++ rest))) same (λ s l. refl)

pub mu_completable : IsCompletable mu_grammar
unfolding ending closes
mu_completable = record { ending = ending; closes = closes }

pub stands_read : (ts : List Sign) (f : Formula) → StandsFor mu_grammar ts f → IsReadAs ts f
stands_read ts f is = untabled is

pub read_stands : (ts : List Sign) (f : Formula) → IsReadAs ts f → StandsFor mu_grammar ts f
read_stands ts f is = tabled is 0 (omega arith)

-- The mu-calculus: the words of the signs that begin in lower case are the names of the formula that do.
--
--   mu_told   == so of what is read from signs
use Rattle.std.proofs.Common.{◌≡◌, ℕ, List, [], ◌∷◌, ◌++◌, Some, codes, refl, sym, ap, subst}
use Rattle.ml_text.specs.Levels.{Level}
use Rattle.ml_text.specs.Names.{Action, Proposition, Variable}
use Rattle.ml_text.specs.declared.named_signs.Sign.TheVariants.{Added, Upper}
use Rattle.ml_mu.specs.Formula.{Formula}
use Rattle.ml_mu.specs.FormulaNames.{names}
use Rattle.ml_mu.specs.Grammar.{Reads, alone, joined, negation, modal, modal_blank, binder, group, constant, proposition, variable}
use Rattle.ml_mu.specs.Signs.{Sign, action_of}
use Rattle.ml_mu.specs.declared.signs.Own.TheVariants.{Begins, Binds, Blank, Dot, Ends}
use Rattle.ml_written.proofs.LowerNames.{All, Starts, Tells, both_told, lower_of, lower_one, lower_words, named_told, upper_one, word_before}

action_told : (s : Sign) (a : List ℕ) (ws : List (List ℕ))
    → action_of s ≡ Some a
    → Starts s
    → word_before s ws ≡ lower_of ((Action, a) ∷ []) ++ ws
action_told (Added Blank) a ws is starts =
    let same : codes "_" ≡ a = cc in subst (λ b. ws ≡ lower_of ((Action, b) ∷ []) ++ ws) same refl
action_told s a ws is starts = named_told Action s a ws is starts

pub mu_told : {l : Level} {ts rest : List Sign} {f : Formula} → Reads l ts f rest → All ts → Tells (names f) ts rest
mu_told (alone o r) is = mu_told r is
mu_told (joined {ts = ts} {us = us} {rest = rest} {f = f} {g = g} o a b) is =
    let x = mu_told a is in both_told (names f) (names g) ts us rest x.0 (mu_told b (x.1).1)
mu_told (negation r) is = mu_told r is.1
mu_told (modal {ts = ts} {rest = rest} {f = f} m a s e r) is =
    both_told ((Action, a) ∷ []) (names f) (Added (Begins m) ∷ s ∷ Added (Ends m) ∷ ts) ts rest
    (action_told s a (lower_words ts) e (is.1).0) (mu_told r ((is.1).1).1)
mu_told (modal_blank m r) is = mu_told r (is.1).1
mu_told (binder {ts = ts} {rest = rest} {f = f} q x r e) is =
    both_told ((Variable, x) ∷ []) (names f) (Added (Binds q) ∷ Upper x ∷ Added Dot ∷ ts) ts rest
    (ap (λ l. l ++ lower_words ts) (sym (upper_one Variable x [] (is.1).0)))
    (mu_told r ((is.1).1).1)
mu_told (group r) is = let x = mu_told r is.1 in (x.0, (x.1).1)
mu_told (constant b) is = (refl, is.1)
mu_told (proposition {rest = rest} p) is =
    (ap (λ l. l ++ lower_words rest) (sym (lower_one Proposition p [] is.0)), is.1)
mu_told (variable {rest = rest} x) is =
    (ap (λ l. l ++ lower_words rest) (sym (upper_one Variable x [] is.0)), is.1)

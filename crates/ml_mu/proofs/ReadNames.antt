-- The names of a formula that is read are those of its signs, each as what it stands there.
--
--   reads_names   == what holds of the names of signs, and of the action `_`, holds of the names of what is read from them
--   text_spelled  == the names of a formula that a text stands for are spelled as they must be
--   text_short    == and they are short, where the text has no long names
use Rattle.std.proofs.Common.{◌≡◌, ℕ, ◌-◌, true, false, List, ◌++◌, Some, codes, refl, subst, arith}
use Rattle.std.specs.List.{AllByRecursion}
use Rattle.ml_text.specs.declared.token.WordStart.TheVariants.{AnyLetter}
use Rattle.ml_text.specs.Tokens.{tokens}
use Rattle.ml_text.specs.Levels.{Level}
use Rattle.ml_text.specs.Refusals.{NameTooLong, IsAccepted}
use Rattle.ml_text.specs.Items.{bytes_of}
use Rattle.ml_text.specs.Names.{Action, KindedName, IsShortName}
use Rattle.ml_text.specs.declared.named_signs.Sign.TheVariants.{Lower, Upper, Added}
use Rattle.ml_text.proofs.Cover.{are_tokens}
use Rattle.ml_text.proofs.NamedSigns.{short_name, spelled_sign}
use Rattle.ml_lists.proofs.AllOf.{all_both}
use Rattle.ml_text.proofs.Names.{Bears, IsSpelledName, bears_short, bears_spelled, spelled_all}
use Rattle.ml_text.proofs.TableItems.{signs_all, signs_short}
use Rattle.ml_mu.specs.Formula.{Formula}
use Rattle.ml_mu.specs.FormulaNames.{names}
use Rattle.ml_mu.specs.Grammar.{IsReadAs, Reads, alone, joined, negation, modal, modal_blank, binder, group, constant, proposition, variable}
use Rattle.ml_mu.specs.Signs.{Sign, action_of, own, sign_of}
use Rattle.ml_mu.specs.declared.signs.Own.TheVariants.{Blank}
use Rattle.ml_mu.specs.Spelling.{HasShortNames, is_spelled}
use Rattle.ml_mu.specs.Text.{mu_signs, items}

module _ (P : KindedName → Type 0) (any : P (Action, codes "_")) where
  abbrev All : List Sign → Type 0
  All ts = AllByRecursion (Bears P) ts

  read_action : (s : Sign) (a : List ℕ) → action_of s ≡ Some a → Bears P s → P (Action, a)
  read_action (Added Blank) a is bears = let same : codes "_" ≡ a = cc in subst (λ b. P (Action, b)) same any
  read_action (Lower b) a is bears = let same : b ≡ a = cc in subst (λ b. P (Action, b)) same bears.1
  read_action (Upper b) a is bears = let same : b ≡ a = cc in subst (λ b. P (Action, b)) same bears.1
  read_action _ a is bears = absurd (cc)

  abbrev Keeps : Formula → List Sign → Type 0
  Keeps f rest = AllByRecursion P (names f) × All rest

  both : (f g : Formula) (rest : List Sign) → AllByRecursion P (names f) → Keeps g rest
      → AllByRecursion P (names f ++ names g) × All rest
  both f g rest left right = (all_both P (names f) (names g) left right.0, right.1)

  pub reads_names : {l : Level} {ts rest : List Sign} {f : Formula} → Reads l ts f rest → All ts → Keeps f rest
  reads_names (alone o r) is = reads_names r is
  reads_names (joined {f = f} {g = g} o a b) is = let x = reads_names a is in both f g _ x.0 (reads_names b (x.1).1)
  reads_names (negation r) is = reads_names r is.1
  reads_names (modal m a s e r) is =
      let x = reads_names r ((is.1).1).1 in ((read_action s a e (is.1).0, x.0), x.1)
  reads_names (modal_blank m r) is = let x = reads_names r (is.1).1 in ((any, x.0), x.1)
  reads_names (binder q x r e) is = let y = reads_names r ((is.1).1).1 in (((is.1).0.0, y.0), y.1)
  reads_names (group r) is = let x = reads_names r is.1 in (x.0, (x.1).1)
  reads_names (constant b) is = (tt, is.1)
  reads_names (proposition p) is = ((is.0.0, tt), is.1)
  reads_names (variable x) is = ((is.0.0, tt), is.1)

pub text_spelled : (text : List ℕ) (f : Formula) → IsAccepted IsReadAs (items text) f → is_spelled f ≡ true
text_spelled text f accepted =
    let signs = signs_all mu_signs (Bears (IsSpelledName own)) text
    (λ p. bears_spelled own refl (sign_of p.token (bytes_of text p)) (spelled_sign own p.token (bytes_of text p)))
    false (tokens AnyLetter text) in
    spelled_all own (names f) (reads_names (IsSpelledName own) refl accepted.stands signs).0

pub text_short : (text : List ℕ) (f : Formula) → IsAccepted IsReadAs (items text) f → HasShortNames f
unfolding tokens
text_short text f accepted =
    let signs = signs_short mu_signs (Bears IsShortName) AnyLetter text
    (λ p short size. bears_short (sign_of p.token (bytes_of text p))
    (short_name own p.token (bytes_of text p) (p.end - p.start) short size))
    0 false (tokens AnyLetter text) (are_tokens AnyLetter text 0) (accepted.keeps NameTooLong) in
    (reads_names IsShortName (omega arith) accepted.stands signs).0

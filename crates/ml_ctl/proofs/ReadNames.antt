-- The names of a formula that is read are those of its signs.
--
--   reads_names   == what holds of the names of signs holds of the names of what is read from them
--   text_spelled  == the names of a formula that a text stands for are spelled as they must be
--   text_short    == and they are short, where the text has no long names
use Rattle.std.proofs.Common.{◌≡◌, ℕ, ◌-◌, true, List, ◌++◌, refl}
use Rattle.std.specs.List.{AllByRecursion}
use Rattle.ml_text.specs.declared.token.WordStart.TheVariants.{LowerCase}
use Rattle.ml_text.specs.Tokens.{tokens}
use Rattle.ml_text.specs.Levels.{Level}
use Rattle.ml_text.specs.Refusals.{NameTooLong, IsAccepted}
use Rattle.ml_text.specs.Items.{bytes_of}
use Rattle.ml_text.specs.Names.{KindedName, IsShortName}
use Rattle.ml_text.proofs.Cover.{are_tokens}
use Rattle.ml_text.proofs.NamedSigns.{short_name, spelled_sign}
use Rattle.ml_lists.proofs.AllOf.{all_both}
use Rattle.ml_text.proofs.Names.{Bears, IsSpelledName, bears_short, bears_spelled, spelled_all}
use Rattle.ml_text.proofs.TableItems.{signs_all, signs_short}
use Rattle.ml_ctl.specs.Formula.{Formula}
use Rattle.ml_ctl.specs.FormulaNames.{names}
use Rattle.ml_ctl.specs.declared.language.Language.{Language}
use Rattle.ml_ctl.specs.declared.language.Sort.{Sort}
use Rattle.ml_ctl.specs.Grammar.{IsReadAs, Reads, alone, joined, pair_alone, pair, negation, temporal, quantified, group, constant, proposition}
use Rattle.ml_ctl.specs.Signs.{Sign, own, sign_of}
use Rattle.ml_ctl.specs.Spelling.{HasShortNames, is_spelled}
use Rattle.ml_ctl.specs.Text.{ctl_signs, items}

module _ (P : KindedName → Type 0) where
  abbrev All : List Sign → Type 0
  All ts = AllByRecursion (Bears P) ts

  abbrev Keeps : Formula → List Sign → Type 0
  Keeps f rest = AllByRecursion P (names f) × All rest

  both : (f g : Formula) (rest : List Sign)
      → AllByRecursion P (names f)
      → Keeps g rest
      → AllByRecursion P (names f ++ names g) × All rest
  both f g rest left right = (all_both P (names f) (names g) left right.0, right.1)

  pub reads_names : {w : Language} {s : Sort} {l : Level} {ts rest : List Sign} {f : Formula}
      → Reads w s l ts f rest
      → All ts
      → Keeps f rest
  reads_names (alone o r) is = reads_names r is
  reads_names (joined {f = f} {g = g} o a b) is = let x = reads_names a is in both f g _ x.0 (reads_names b (x.1).1)
  reads_names (pair_alone r) is = reads_names r is
  reads_names (pair {f = f} {g = g} p a b) is = let x = reads_names a is in both f g _ x.0 (reads_names b (x.1).1)
  reads_names (negation r) is = reads_names r is.1
  reads_names (temporal t r) is = reads_names r is.1
  reads_names (quantified q e r) is = reads_names r is.1
  reads_names (group r) is = let x = reads_names r is.1 in (x.0, (x.1).1)
  reads_names (constant b) is = (tt, is.1)
  reads_names (proposition p) is = ((is.0.0, tt), is.1)

pub text_spelled : (w : Language) (text : List ℕ) (f : Formula)
    → IsAccepted (IsReadAs w) (items text) f
    → is_spelled f ≡ true
text_spelled w text f accepted =
    let signs = signs_all ctl_signs (Bears (IsSpelledName own)) text
    (λ p. bears_spelled own refl (sign_of p.token (bytes_of text p)) (spelled_sign own p.token (bytes_of text p)))
    tt (tokens LowerCase text) in
    spelled_all own (names f) (reads_names (IsSpelledName own) accepted.stands signs).0

pub text_short : (w : Language) (text : List ℕ) (f : Formula) → IsAccepted (IsReadAs w) (items text) f → HasShortNames f
unfolding tokens
text_short w text f accepted =
    let signs = signs_short ctl_signs (Bears IsShortName) LowerCase text
    (λ p short size. bears_short (sign_of p.token (bytes_of text p))
    (short_name own p.token (bytes_of text p) (p.end - p.start) short size))
    0 tt (tokens LowerCase text) (are_tokens LowerCase text 0) (accepted.keeps NameTooLong) in
    (reads_names IsShortName accepted.stands signs).0

-- CTL* and LTL: the words of the signs that begin in lower case are the names of the formula that do.
--
--   ctl_told   == so of what is read from signs
use Rattle.std.proofs.Common.{List, [], ◌++◌, refl, sym, ap}
use Rattle.ml_text.specs.Levels.{Level}
use Rattle.ml_text.specs.Names.{Proposition}
use Rattle.ml_ctl.specs.Formula.{Formula}
use Rattle.ml_ctl.specs.FormulaNames.{names}
use Rattle.ml_ctl.specs.Grammar.{Reads, alone, joined, pair_alone, pair, negation, temporal, quantified, group, constant, proposition}
use Rattle.ml_ctl.specs.Signs.{Sign}
use Rattle.ml_ctl.specs.declared.language.Language.{Language}
use Rattle.ml_ctl.specs.declared.language.Sort.{Sort}
use Rattle.ml_written.proofs.LowerNames.{All, Tells, both_told, lower_one, lower_words}

pub ctl_told : {w : Language} {s : Sort} {l : Level} {ts rest : List Sign} {f : Formula}
    → Reads w s l ts f rest
    → All ts
    → Tells (names f) ts rest
ctl_told (alone o r) is = ctl_told r is
ctl_told (joined {ts = ts} {us = us} {rest = rest} {f = f} {g = g} o a b) is =
    let x = ctl_told a is in both_told (names f) (names g) ts us rest x.0 (ctl_told b (x.1).1)
ctl_told (pair_alone r) is = ctl_told r is
ctl_told (pair {ts = ts} {us = us} {rest = rest} {f = f} {g = g} p a b) is =
    let x = ctl_told a is in both_told (names f) (names g) ts us rest x.0 (ctl_told b (x.1).1)
ctl_told (negation r) is = ctl_told r is.1
ctl_told (temporal t r) is = ctl_told r is.1
ctl_told (quantified q e r) is = ctl_told r is.1
ctl_told (group r) is = let x = ctl_told r is.1 in (x.0, (x.1).1)
ctl_told (constant b) is = (refl, is.1)
ctl_told (proposition {rest = rest} p) is =
    (ap (λ l. l ++ lower_words rest) (sym (lower_one Proposition p [] is.0)), is.1)

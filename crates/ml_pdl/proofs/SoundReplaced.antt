-- Formulas whose propositions are replaced are as sound as before.
--
--   itself            == names are as sound as themselves
--   sound             == those of a formula that the program holds are as sound as any
--   both              == two lists are, of which each is
--   replaced_is_held  == what is as sound as a formula that the program holds, the program holds too, if it is small enough
use Rattle.std.proofs.Common.{◌≤◌, List, ◌++◌}
use Rattle.ml_text.specs.Limits.{most_occurrences}
use Rattle.ml_text.specs.Names.{KindedName}
use Rattle.ml_text.proofs.Names.{short_both, spelled_both_keep}
use Rattle.ml_pdl.specs.Formula.{Formula, occurrences}
use Rattle.ml_pdl.specs.FormulaNames.{names}
use Rattle.ml_pdl.specs.Signs.{own}
use Rattle.ml_pdl.specs.WellFormed.{IsWellFormed}
use Rattle.ml_pdl.specs.private.AsSound.{AreAsSound, IsAsSound}

pub itself : (xs : List KindedName) → AreAsSound xs xs
itself xs = record { names_are_short = λ short. short; names_are_spelled = λ spelled. spelled }

pub sound : (xs : List KindedName) (g : Formula) → IsWellFormed g → AreAsSound xs (names g)
sound xs g held = record {
  names_are_short = λ short. held.names_are_short;
  names_are_spelled = λ spelled. held.names_are_spelled;
}

pub both : (xs ys zs us : List KindedName) → AreAsSound xs ys → AreAsSound zs us → AreAsSound (xs ++ zs) (ys ++ us)
both xs ys zs us one other = record {
  names_are_short = short_both xs ys zs us one.names_are_short other.names_are_short;
  names_are_spelled = spelled_both_keep own xs ys zs us one.names_are_spelled other.names_are_spelled;
}

pub replaced_is_held : (f g : Formula)
    → IsWellFormed f
    → IsAsSound f g
    → occurrences g ≤ most_occurrences
    → IsWellFormed g
replaced_is_held f g held kept small = record {
  is_small = small;
  names_are_short = kept.names_are_short held.names_are_short;
  names_are_spelled = kept.names_are_spelled held.names_are_spelled;
}

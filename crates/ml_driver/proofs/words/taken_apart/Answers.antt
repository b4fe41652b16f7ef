-- What `clap` finds, and what it refuses.
use Rattle.std.proofs.Common.{sym, ◌∙◌}
use Rattle.clap.specs.Words.{app_of}
use Rattle.ml_driver.proofs.FoundWords.{faultless, faulty, found, free_told, simple_told}
use Rattle.ml_driver.proofs.words.taken_apart.Goals as goal

pub returns-in-Ok-try_get_matches_from : goal.returns-in-Ok-try_get_matches_from
returns-in-Ok-try_get_matches_from c =
    let told = c.in-Ok.ensures in
    let ok = c.in-Ok-try_get_matches_from.ensures in (
      faultless (app_of c.in-Ok.cli) _ told (ok.kinds (free_told (app_of c.in-Ok.cli) told)),
      found (app_of c.in-Ok.cli) _ _ told (ok.matches (simple_told (app_of c.in-Ok.cli) told)).0,
    )

pub returns-in-true : goal.returns-in-true
returns-in-true c =
    let told = c.in-Ok.ensures in
    faulty (app_of c.in-Ok.cli) _ c.in-Err-try_get_matches_from.error told (sym c.refused.ensures ∙ c.in-true.is)
    (c.in-Err-try_get_matches_from.ensures.kinds (free_told (app_of c.in-Ok.cli) told))

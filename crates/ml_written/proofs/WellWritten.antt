-- What is written stands for a formula of its logic, and that is well formed where it is small enough.
--
--   of_its_logic   == what is written stands for a formula of its logic
--   written_well   == it is well formed where it is small enough
use Rattle.std.proofs.Common.{◌≡◌, ◌≤◌, ℕ, List, refl}
use Rattle.ml_bounded.proofs.Parsed as bounded
use Rattle.ml_bounded.proofs.WrittenOut as bounded_written
use Rattle.ml_ctl.proofs.Parsed as ctl
use Rattle.ml_ctl.specs.declared.language.Language.TheVariants as language
use Rattle.ml_front.specs.Connectives.{occurrences}
use Rattle.ml_front.specs.Logics.{logic_of}
use Rattle.ml_front.specs.WellFormed.{IsWellFormed}
use Rattle.ml_mu.proofs.Parsed as mu
use Rattle.ml_pdl.proofs.Parsed as pdl
use Rattle.ml_text.specs.Limits.{most_occurrences}
use Rattle.ml_written.specs.Written.{IsWrittenAs, meaning, written_logic}
use Rattle.ml_written.specs.declared.written.Written.{Written}
use Rattle.ml_written.specs.declared.written.Written.TheVariants.{Mu, Pdl, Ctl, Ltl, Word}

pub of_its_logic : (w : Written) → logic_of (meaning w) ≡ written_logic w
of_its_logic (Mu f) = refl
of_its_logic (Pdl f) = refl
of_its_logic (Ctl f) = refl
of_its_logic (Ltl f) = refl
of_its_logic (Word f) = refl

pub written_well : (text : List ℕ) (w : Written)
    → IsWrittenAs text w
    → occurrences (meaning w) ≤ most_occurrences
    → IsWellFormed (meaning w)
written_well text (Mu f) is small = mu.parsed_well text f is
written_well text (Pdl f) is small = pdl.parsed_well text f is
written_well text (Ctl f) is small = ctl.parsed_well language.Ctl text f is
written_well text (Ltl f) is small = bounded_written.written_well f (bounded.parsed_well text f is) small
written_well text (Word f) is small = bounded_written.written_well f (bounded.parsed_well text f is) small

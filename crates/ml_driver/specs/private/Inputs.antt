-- Inputs of commands. Private contracts cite this.
--
--   IsRefusedInput c e b a == the command c takes an input, and by the refusal e so much of it was given as lies between what
--                             was left before and after
use Rattle.std.specs.Prelude.{ℕ, ◌≡◌, List, length, Option, Some}
use Rattle.ml_base.specs.Whole.{Gives}
use Rattle.ml_base.specs.KnownCounts.{IsGivenCount}
use Rattle.ml_base.specs.declared.whole.ReadRefusal.{ReadRefusal}
use Rattle.ml_driver.specs.Statuses.{longest_input}
use Rattle.ml_driver.specs.declared.command.Command.{Command}

pub record IsRefusedInput (c : Command) (e : ReadRefusal) (before after : Option (List ℕ)) : Type 0 where
  pub limit : ℕ
  pub takes : longest_input c ≡ Some limit
  pub gives : Gives before after (λ given. IsGivenCount e limit (length given))

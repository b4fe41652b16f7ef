-- Which of the faults that `clap` tells are faults of the words. Private contracts cite this.
--
--   is_refusal kind  == it isn't want of memory
use Rattle.std.specs.Prelude.{Bool, true, false}
use Rattle.clap.specs.declared.error.kind.ErrorKind.{ErrorKind}
use Rattle.clap.specs.declared.error.kind.ErrorKind.TheVariants.{OutOfMemory}

abbrev pub is_refusal : ErrorKind → Bool
is_refusal OutOfMemory = false
is_refusal _ = true

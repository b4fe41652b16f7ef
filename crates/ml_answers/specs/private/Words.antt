-- Words that are read one by one, and flags for items. Private contracts and proofs cite this.
--
--   words_left names    == the words that weren't yet read
--   some_left names     == so where there are some
--   Agrees xs S among   == the flags tell of each item whether it is in S
use Rattle.std.specs.Prelude.{ℕ, ◌≡◌, ◌+◌, ◌<◌, Bool, List, Option, None, Some, length}
use Rattle.std.specs.Borrow.{Bor}
use Rattle.std.specs.Option.{option_copied}
use Rattle.ml_lines.specs.Lines.{Word}
use Rattle.ml_lines.specs.Reading.{words_behind}
use Rattle.ml_spec.specs.Questions.{is_in}
use Rattle.ml_spec.specs.declared.specification.Item.{Item}
use Rattle.ml_answers.specs.declared.names.Names.{Names}

abbrev pub words_left : Names → List Word
words_left names = words_behind (option_copied names.rest)

abbrev pub some_left : Option Names → Option (List Word)
some_left None = None
some_left (Some names) = Some (words_left names)

-- a number that falls with each word
abbrev pub bytes_left : Option (Bor (List ℕ)) → ℕ
bytes_left None = 0
bytes_left (Some rest) = length rest.now + 1

abbrev pub Agrees : List Item → (ℕ → Bool) → List Bool → Type 0
Agrees xs S among = (k : ℕ) → k < length xs → S k ≡ is_in among k

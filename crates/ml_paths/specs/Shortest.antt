-- Lassos that are as short as they can be.
--
-- A lasso stands for an endless sequence (`ml_lists/specs/Lasso`), and others stand for the same one: its loop may be told
-- twice over, or be entered later.
--
--   UnrollAlike l k      == both stand for the same endless sequence
--   IsShortest l      == no lasso that stands for the same endless sequence is shorter
--   ShowsShortest x   == the path of what is found, where one is, is such a lasso
use Rattle.std.specs.Prelude.{ℕ, ◌≡◌, ◌<◌, ◌≤◌, length}
use Rattle.ml_lists.specs.Lasso.{Lasso, unrolled}
use Rattle.ml_paths.specs.declared.found.Found.{Found}
use Rattle.ml_paths.specs.declared.found.Found.TheVariants as found

abbrev pub UnrollAlike : Lasso → Lasso → Type 0
UnrollAlike l k = (n : ℕ) → unrolled l n ≡ unrolled k n

abbrev pub IsShortest : Lasso → Type 0
IsShortest l = (k : Lasso) → k.start < length k.entries → UnrollAlike k l → length l.entries ≤ length k.entries

abbrev pub ShowsShortest : Found → Type 0
ShowsShortest (found.Path l) = IsShortest l
ShowsShortest found.NoPath = Unit {0}
ShowsShortest found.ClosureTooLarge = Unit {0}

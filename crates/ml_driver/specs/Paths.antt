-- What `path` answers of a document with a structure.
--
--   path_told x          == the status and the output that tell what is found of the paths of a document: a path with the
--                           document of its word; that there is none; that the word automaton is too large; which state is the
--                           first of which the logic doesn't speak; or why the document is refused
--   IsPathTold text s out == s and out tell what is found of the text
use Rattle.std.specs.Prelude.{ℕ, ◌≡◌, List}
use Rattle.ml_paths.specs.Paths.{most_nodes}
use Rattle.ml_path_text.specs.Found.{IsFoundIn}
use Rattle.ml_path_text.specs.declared.finding.PathFinding.{PathFinding}
use Rattle.ml_path_text.specs.declared.finding.PathFinding.TheVariants.{ClosureTooLarge, NoPath, NotAWord, NotTotal, Path, Unreadable}
use Rattle.ml_driver.specs.Said.{said_alone}
use Rattle.ml_driver.specs.declared.said.Said.TheVariants as said
use Rattle.ml_driver.specs.declared.said.Size.TheVariants.{Closure}
use Rattle.ml_driver.specs.declared.status.Status.{Status}
use Rattle.ml_driver.specs.declared.status.Status.TheVariants.{Yes}

abbrev pub path_told : PathFinding → Status × List ℕ
path_told (Path written) = (Yes, written)
path_told NoPath = said_alone said.NoPath
path_told ClosureTooLarge = said_alone (said.Undecided Closure most_nodes)
path_told (NotTotal state) = said_alone (said.NotTotal state)
path_told (NotAWord state) = said_alone (said.NotAWord state)
path_told (Unreadable fault) = said_alone (said.RefusedDocument fault)

pub record IsPathTold (text : List ℕ) (s : Status) (out : List ℕ) : Type 0 where
  pub finding : PathFinding
  pub is_found : IsFoundIn text finding
  pub status_is : s ≡ (path_told finding).0
  pub is_written : out ≡ (path_told finding).1

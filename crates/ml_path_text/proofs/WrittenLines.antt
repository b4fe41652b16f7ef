-- The lines of a path.
--
--   path_written  == `path`, its states and the end of the line are the line
--   long_lines    == the lines of a path have as many bytes as it has places, at least
use Rattle.std.proofs.Common.{ℕ, ◌≡◌, ◌≤◌, ◌++◌, ◌∙◌, List, [], ◌∷◌, codes, length, map, sym, ap, append_assoc, length-append, arith}
use Rattle.std.proofs.lemmas.List.{length-map}
use Rattle.std.specs.List.{flat_map}
use Rattle.ml_lines.specs.Lines.{Line, line_text, next, number}
use Rattle.ml_lines.proofs.Words.{line_text-words}
use Rattle.ml_ctl.specs.Paths.{places}
use Rattle.ml_lists.specs.Lasso.{Lasso}
use Rattle.ml_path_text.specs.WrittenPath.{loop_line, path_line, path_lines}

pub path_written : (old more new states taken : List ℕ)
    → more ≡ old ++ (codes "path" ++ flat_map next (map number taken))
    → taken ≡ states
    → new ≡ more ++ 10 ∷ []
    → new ≡ old ++ line_text (codes "path" ∷ map number states)
path_written old more new states taken is all ended =
    let words = map number states in
    ended
    ∙ ap (λ text. text ++ 10 ∷ []) (is ∙ ap (λ ns. old ++ (codes "path" ++ flat_map next (map number ns))) all)
    ∙ append_assoc old (codes "path" ++ flat_map next words) (10 ∷ [])
    ∙ ap (λ text. old ++ text) (append_assoc (codes "path") (flat_map next words) (10 ∷ []))
    ∙ ap (λ text. old ++ text) (sym (line_text-words (codes "path") words))

long_words : (words : Line) → length words ≤ length (flat_map next words)
long_words [] = omega arith
long_words (word ∷ words) =
    let later = long_words words in
    let sum = length-append (next word) (flat_map next words) in
    omega (arith, later, sum)

long_line : (l : Lasso) → places l ≤ length (line_text (path_line l))
long_line l =
    let words = map number l.entries in
    let is = ap length (line_text-words (codes "path") words) in
    let all = length-append (codes "path") (flat_map next words ++ 10 ∷ []) in
    let behind = length-append (flat_map next words) (10 ∷ []) in
    omega (arith, is, all, behind, long_words words, length-map l.entries number)

pub long_lines : (l : Lasso) → places l ≤ length (path_lines l)
long_lines l =
    let sum = length-append (line_text (path_line l)) (line_text (loop_line l) ++ []) in omega (arith, long_line l, sum)

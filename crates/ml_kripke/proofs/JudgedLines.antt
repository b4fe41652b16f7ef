-- Whether a line keeps the rules of its place in a body is decided.
--
--   judges   == each line is judged at each place
use Rattle.std.proofs.Common.{◌≡◌, ℕ, List, [], ◌∷◌, Option, None, Some, MatchOption, drop, codes, inl}
use Rattle.std.specs.Ordering.{nat_cmp}
use Rattle.std.specs.Cmp.Lexicographic.{slice_cmp}
use Rattle.std.specs.declared.cmp.Ordering.TheVariants.{Less}
use Rattle.ml_base.specs.declared.structure.Edge.{Edge}
use Rattle.ml_base.specs.Name.{IsName, is_name, is_action}
use Rattle.ml_lines.specs.Lines.{Line}
use Rattle.ml_lines.specs.Reading.{value, word}
use Rattle.ml_lines.proofs.DecidedWords.{decided_behind, decided_line, decided_words, decided_number}
use Rattle.ml_lists.specs.Readings.{Judges}
use Rattle.ml_lists.proofs.Decided as is
use Rattle.ml_lists.proofs.Decided.{Decided}
use Rattle.ml_lists.proofs.Documents.{judged}
use Rattle.ml_kripke.specs.BodyRules.{AtStates, AtStart, AtState, AtEdge, AtNothing, body, rules, IsStated, IsEdged, HasNumber, HasNumbers, HasLabels, IsEdgeBehind, IsEndOr, edge_of}
use Rattle.ml_kripke.specs.BodyLines.{end_line}
use Rattle.ml_base.specs.EdgeOrder.{edge_cmp}

has_number : (line : Line) → Decided (HasNumber line)
has_number line = decided_number (word line 1)

is_stated : (line : Line) → Decided (IsStated line)
is_stated line = is.decided_both (decided_words line) (decided_line line (codes "state" ∷ word line 1 ∷ drop 2 line))

is_edged : (line : Line) → Decided (IsEdged line)
is_edged line =
    is.decided_both (decided_words line) (decided_line line (codes "edge" ∷ word line 1 ∷ word line 2 ∷ word line 3 ∷ []))

has_labels : (line : Line) → Decided (HasLabels line)
has_labels line =
    is.decided_both (is.decided_all IsName (λ w. is.decided_test (is_name w)) (drop 2 line))
    (is.decided_sorted (slice_cmp nat_cmp) (drop 2 line))

ascends : (before : Option Edge) (e : Edge) → Decided (MatchOption before (Unit {0}) (λ b. edge_cmp b e ≡ Less))
ascends None e = inl tt
ascends (Some b) e = is.decided_ordering (edge_cmp b e) Less

is_behind : (n : ℕ) (before : Option Edge) (e : Edge) → Decided (IsEdgeBehind n before e)
is_behind n before e =
    is.decided_same
    (λ parts. record { source_below = parts.0; target_below = parts.1.0; has_action = parts.1.1.0; ascends = parts.1.1.1 })
    (λ b. (b.source_below, (b.target_below, (b.has_action, b.ascends))))
    (is.decided_both (is.decided_less e.source n)
    (is.decided_both (is.decided_less e.target n) (is.decided_both (is.decided_test (is_action e.action)) (ascends before e))))

end_or : (Keeps : Line → Type 0) (line : Line) → Decided (Keeps line) → Decided (IsEndOr Keeps line)
end_or Keeps line keeps = is.decided_either (decided_line line end_line) keeps

pub judges : (left : List ℕ) → Judges (body left)
judges left AtStates line =
    judged line (rules left AtStates)
    (decided_behind (codes "states") line, λ _. (has_number line, λ _. (is.decided_less 0 (value (word line 1)), λ _. tt)))
judges left (AtStart n) line =
    judged line (rules left (AtStart n))
    (decided_behind (codes "start") line, λ _. (has_number line, λ _. (is.decided_less (value (word line 1)) n, λ _. tt)))
judges left (AtState n i) line =
    judged line (rules left (AtState n i))
    (is_stated line, λ _. (has_number line, λ _. (is.decided_number (value (word line 1)) i, λ _. (has_labels line, λ _. tt))))
judges left (AtEdge n before) line =
    judged line (rules left (AtEdge n before)) (
      end_or IsEdged line (is_edged line),
      λ _. (
        end_or HasNumbers line (is.decided_both (decided_number (word line 1)) (decided_number (word line 3))),
        λ _. (end_or (λ l. IsEdgeBehind n before (edge_of l)) line (is_behind n before (edge_of line)), λ _. tt),
      ),
    )
judges left AtNothing line =
    judged line (rules left AtNothing) (is.decided_both (decided_line line []) (is.decided_bytes left []), λ _. tt)

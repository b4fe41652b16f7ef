-- The refutation of `mu X. <>X`, and one with a split, worked out by hand in both versions: the lines are those that are
-- written.
use Rattle.std.proofs.Common.{◌≡◌, ℕ, List, [], ◌∷◌, Option, None, Some, codes, refl}
use Rattle.ml_base.specs.declared.version.Version.TheVariants.{One, Two}
use Rattle.ml_lines.specs.Lines.{number}
use Rattle.ml_trace.specs.declared.letters.AutomatonState.{AutomatonState}
use Rattle.ml_trace.specs.declared.marks.Mark.TheVariants.{Green, Neutral}
use Rattle.ml_trace.specs.Stack as traced
use Rattle.ml_sequent.specs.declared.clashes.ClashCause.TheVariants.{False}
use Rattle.ml_refutation.specs.Refutation.{Refutation, Entry, Decision, Split, Clash, Go}
use Rattle.ml_refutation_text.specs.WrittenText.{written_lines}

abbrev item : ℕ → Option ℕ → List ℕ → traced.Item AutomatonState
item node odd stack = record { state = record { node = node; odd = odd }; stack = stack }

abbrev entry : List ℕ → ℕ → List (traced.Item AutomatonState) → List ℕ → Decision → Entry
entry sequent live items heights decision =
    record { sequent = sequent; traces = record { live = live; items = items }; heights = heights; decision = decision }

-- both names of the trace that guesses 1
abbrev late : Entry
late = entry (4 ∷ []) 2 (item 4 None (0 ∷ []) ∷ item 4 (Some 1) (0 ∷ 1 ∷ []) ∷ []) (0 ∷ 0 ∷ 0 ∷ []) (Go 2 3 (Green 1))

abbrev always_later : Refutation
always_later = record {
  names = 2;
  entries =
      entry (0 ∷ []) 1 (item 0 None (0 ∷ []) ∷ []) (0 ∷ 0 ∷ 2 ∷ []) (Go 2 1 Neutral)
      ∷ entry (4 ∷ []) 1 (item 4 None (0 ∷ []) ∷ item 4 (Some 1) (0 ∷ []) ∷ []) (0 ∷ 0 ∷ 1 ∷ []) (Go 2 2 Neutral)
      ∷ late
      ∷ late
      ∷ [];
}

in_full_lines : written_lines One always_later
    ≡ (codes "names" ∷ number 2 ∷ [])
    ∷ (codes "entries" ∷ number 4 ∷ [])
    ∷ (codes "entry" ∷ number 0 ∷ [])
    ∷ (codes "sequent" ∷ number 0 ∷ [])
    ∷ (codes "live" ∷ number 1 ∷ [])
    ∷ (codes "item" ∷ number 0 ∷ codes "-" ∷ number 0 ∷ [])
    ∷ (codes "heights" ∷ number 0 ∷ number 0 ∷ number 2 ∷ [])
    ∷ (codes "go" ∷ number 2 ∷ number 1 ∷ codes "neutral" ∷ [])
    ∷ (codes "entry" ∷ number 1 ∷ [])
    ∷ (codes "sequent" ∷ number 4 ∷ [])
    ∷ (codes "live" ∷ number 1 ∷ [])
    ∷ (codes "item" ∷ number 4 ∷ codes "-" ∷ number 0 ∷ [])
    ∷ (codes "item" ∷ number 4 ∷ number 1 ∷ number 0 ∷ [])
    ∷ (codes "heights" ∷ number 0 ∷ number 0 ∷ number 1 ∷ [])
    ∷ (codes "go" ∷ number 2 ∷ number 2 ∷ codes "neutral" ∷ [])
    ∷ (codes "entry" ∷ number 2 ∷ [])
    ∷ (codes "sequent" ∷ number 4 ∷ [])
    ∷ (codes "live" ∷ number 2 ∷ [])
    ∷ (codes "item" ∷ number 4 ∷ codes "-" ∷ number 0 ∷ [])
    ∷ (codes "item" ∷ number 4 ∷ number 1 ∷ number 0 ∷ number 1 ∷ [])
    ∷ (codes "heights" ∷ number 0 ∷ number 0 ∷ number 0 ∷ [])
    ∷ (codes "go" ∷ number 2 ∷ number 3 ∷ codes "green" ∷ number 1 ∷ [])
    ∷ (codes "entry" ∷ number 3 ∷ [])
    ∷ (codes "sequent" ∷ number 4 ∷ [])
    ∷ (codes "live" ∷ number 2 ∷ [])
    ∷ (codes "item" ∷ number 4 ∷ codes "-" ∷ number 0 ∷ [])
    ∷ (codes "item" ∷ number 4 ∷ number 1 ∷ number 0 ∷ number 1 ∷ [])
    ∷ (codes "heights" ∷ number 0 ∷ number 0 ∷ number 0 ∷ [])
    ∷ (codes "go" ∷ number 2 ∷ number 3 ∷ codes "green" ∷ number 1 ∷ [])
    ∷ (codes "end" ∷ [])
    ∷ []
in_full_lines = refl

by_tables_lines : written_lines Two always_later
    ≡ (codes "names" ∷ number 2 ∷ [])
    ∷ (codes "sequents" ∷ number 2 ∷ [])
    ∷ (codes "sequent" ∷ number 0 ∷ [])
    ∷ (codes "sequent" ∷ number 4 ∷ [])
    ∷ (codes "stacks" ∷ number 2 ∷ [])
    ∷ (codes "stack" ∷ number 0 ∷ [])
    ∷ (codes "stack" ∷ number 0 ∷ number 1 ∷ [])
    ∷ (codes "entries" ∷ number 4 ∷ [])
    ∷ (codes "entry" ∷ number 0 ∷ number 0 ∷ [])
    ∷ (codes "live" ∷ number 1 ∷ [])
    ∷ (codes "item" ∷ number 0 ∷ codes "-" ∷ number 0 ∷ [])
    ∷ (codes "heights" ∷ number 0 ∷ number 0 ∷ number 2 ∷ [])
    ∷ (codes "go" ∷ number 2 ∷ number 1 ∷ codes "neutral" ∷ [])
    ∷ (codes "entry" ∷ number 1 ∷ number 1 ∷ [])
    ∷ (codes "live" ∷ number 1 ∷ [])
    ∷ (codes "item" ∷ number 4 ∷ codes "-" ∷ number 0 ∷ [])
    ∷ (codes "item" ∷ number 4 ∷ number 1 ∷ number 0 ∷ [])
    ∷ (codes "heights" ∷ number 0 ∷ number 0 ∷ number 1 ∷ [])
    ∷ (codes "go" ∷ number 2 ∷ number 2 ∷ codes "neutral" ∷ [])
    ∷ (codes "entry" ∷ number 2 ∷ number 1 ∷ [])
    ∷ (codes "live" ∷ number 2 ∷ [])
    ∷ (codes "item" ∷ number 4 ∷ codes "-" ∷ number 0 ∷ [])
    ∷ (codes "item" ∷ number 4 ∷ number 1 ∷ number 1 ∷ [])
    ∷ (codes "heights" ∷ number 0 ∷ number 0 ∷ number 0 ∷ [])
    ∷ (codes "go" ∷ number 2 ∷ number 3 ∷ codes "green" ∷ number 1 ∷ [])
    ∷ (codes "entry" ∷ number 3 ∷ number 1 ∷ [])
    ∷ (codes "live" ∷ number 2 ∷ [])
    ∷ (codes "item" ∷ number 4 ∷ codes "-" ∷ number 0 ∷ [])
    ∷ (codes "item" ∷ number 4 ∷ number 1 ∷ number 1 ∷ [])
    ∷ (codes "heights" ∷ number 0 ∷ number 0 ∷ number 0 ∷ [])
    ∷ (codes "go" ∷ number 2 ∷ number 3 ∷ codes "green" ∷ number 1 ∷ [])
    ∷ (codes "end" ∷ [])
    ∷ []
by_tables_lines = refl

-- of `ff | p`, wrongly: the right branch is no clash
abbrev one_branch : Refutation
one_branch = record {
  names = 1;
  entries = entry (0 ∷ []) 1 (item 0 None (0 ∷ []) ∷ []) (0 ∷ 0 ∷ []) (Split 0 (Clash (False 2)) (Clash (False 4))) ∷ [];
}

split_lines : written_lines One one_branch
    ≡ (codes "names" ∷ number 1 ∷ [])
    ∷ (codes "entries" ∷ number 1 ∷ [])
    ∷ (codes "entry" ∷ number 0 ∷ [])
    ∷ (codes "sequent" ∷ number 0 ∷ [])
    ∷ (codes "live" ∷ number 1 ∷ [])
    ∷ (codes "item" ∷ number 0 ∷ codes "-" ∷ number 0 ∷ [])
    ∷ (codes "heights" ∷ number 0 ∷ number 0 ∷ [])
    ∷ (codes "split" ∷ number 0 ∷ [])
    ∷ (codes "clash" ∷ codes "false" ∷ number 2 ∷ [])
    ∷ (codes "clash" ∷ codes "false" ∷ number 4 ∷ [])
    ∷ (codes "end" ∷ [])
    ∷ []
split_lines = refl

use Rattle.ml_refutation_text.proofs.EntriesRead.{EntriesTo}
use Rattle.ml_refutation_text.proofs.entries.read_entries.Given as goal

abbrev pub invariant-loop-number : goal.invariant-loop-number
invariant-loop-number l =
    EntriesTo l.known.names l.known.wanted l.known.version l.fn.tables l.fn.at l.tables l.entries.items l.parts.items l.number l.rest

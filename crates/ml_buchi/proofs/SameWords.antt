-- The deterministic automaton of a Büchi automaton accepts the same words, and is the only one.
--
--   same_words, one_automaton == the laws
use Rattle.std.proofs.Common.{◌<◌, subst, sym, ap, ◌∙◌}
use Rattle.std.proofs.lemmas.List.FromFn.{length-map-range_with_len}
use Rattle.ml_determinise.specs.Histories.{leads_in}
use Rattle.ml_determinise.specs.Numbering.{moves_of}
use Rattle.ml_determinise.proofs.NumberedWords.{numbered_same_words}
use Rattle.ml_determinise.proofs.OneNumbering.{one_numbering}
use Rattle.ml_buchi.specs.Deterministic.{OneAutomaton, SameWords}
use Rattle.ml_buchi.specs.Valuations.{Leads, letter_of, letters_of, valuations}
use Rattle.ml_buchi.proofs.EdgesTaken.{letters_lead, letters_stay}
use Rattle.ml_buchi.proofs.LeadAlike.{accepted_also}

pub same_words : SameWords
same_words a d w is determined is_lasso letters =
    let row = letters_of a in
    let long = length-map-range_with_len (letter_of a) 0 (valuations a) in
    let numbered = numbered_same_words a.states row a.start d.moves w (letters_stay a is) is.start_below
    determined.numbered is_lasso (λ v m. subst (λ n. v < n) (sym long) (letters v m)) in (
      λ accepted.
          numbered.0
          (accepted_also (Leads a) (leads_in row) (λ v. v < valuations a) (λ v s t b low. (letters_lead a v s t b low).1) w
          a.start letters accepted),
      λ accepted.
          accepted_also (leads_in row) (Leads a) (λ v. v < valuations a) (λ v s t b low. (letters_lead a v s t b low).0) w
          a.start letters (numbered.1 accepted),
    )

pub one_automaton : OneAutomaton
one_automaton a d e of_d of_e =
    let m = of_d.numbered in
    let n = of_e.numbered in
    let histories = one_numbering (letters_of a) a.start m.histories n.histories m.is_numbering n.is_numbering in
    let props = of_d.same_props ∙ sym of_e.same_props in
    let top = of_d.top_is ∙ sym of_e.top_is in
    let moves = m.moves_are ∙ ap (moves_of a.states (letters_of a)) histories ∙ sym n.moves_are in
    λ i. record { props = props i; top = top i; moves = moves i }

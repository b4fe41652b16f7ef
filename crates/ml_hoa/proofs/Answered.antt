-- What is answered to a text.
--
--   held            == the automaton that the reader holds
--   whole_held      == behind a draft without a fault, it is that of the draft
--   answered_whole  == a text that is read to its end, without a fault, is read as it
--   answered_range  == with a fault, it is refused there
--   answered_early  == a text that ends too soon is refused at its end
--   answered_refused == a refusal on the way is right
use Rattle.std.proofs.Common.{◌≡◌, ◌≢◌, ℕ, List, [], ◌∷◌, length, Some, None, refl, sym, ◌∙◌, ap, subst, ◌⊎◌, inl, inr}
use Rattle.ml_hoa.specs.declared.reader.Stage.TheVariants as stage
use Rattle.ml_hoa.specs.declared.refusal.HoaRefusal.{HoaRefusal}
use Rattle.ml_hoa.specs.declared.refusal.HoaRefusal.TheVariants as refusal
use Rattle.ml_hoa.specs.Automaton.{Automaton, Edge, IsAutomaton}
use Rattle.ml_hoa.specs.Tokens.{tokens}
use Rattle.ml_hoa.specs.Grammar.{Draft}
use Rattle.ml_hoa.specs.AutomatonText.{number_of, automaton_of, IsSmall, faults}
use Rattle.ml_hoa.specs.Refusals.{IsReadAs, IsRefusedBy, IsSyntaxAt, IsRangeAt}
use Rattle.ml_hoa.specs.private.Machine.{State, Past, Stuck, turn, start, Outcome, Read, Refused, outcome, IsOutcome}
use Rattle.ml_hoa.proofs.LabelRuns.{noted_by}
use Rattle.ml_hoa.proofs.Outcomes.{read_state, Stopped, stopped, stuck_there, past_there, ends_early, read_whole}
use Rattle.ml_hoa.proofs.Values.{is_automaton, held_fault, held_edges, held_start}

abbrev pub outcome_of : List ℕ → Outcome
outcome_of text = outcome start (tokens text)

abbrev pub held : State → Automaton
held s = record { states = s.states; start = s.first; props = s.props; edges = s.edges }

abbrev automaton_with : ℕ → ℕ → List (List ℕ) → List Edge → Automaton
automaton_with states first props edges = record { states = states; start = first; props = props; edges = edges }

pub whole_held : (d : Draft) → IsSmall d → faults d ≡ [] → held (read_state d) ≡ automaton_of d
whole_held d small none =
    ap (λ n. automaton_with (number_of d.heads.states) n d.heads.props (read_state d).edges) (held_start d small none)
    ∙ ap (λ es. automaton_with (number_of d.heads.states) (number_of d.heads.start) d.heads.props es) (held_edges d none)

none_noted : (xs : List ℕ) → noted_by None xs ≡ None → xs ≡ []
none_noted [] is = refl
none_noted (x ∷ xs) is = absurd (cc)

first_noted : (xs : List ℕ) (at : ℕ) → noted_by None xs ≡ Some at → (others : List ℕ) × (xs ≡ at ∷ others)
first_noted [] at is = absurd (cc)
first_noted (x ∷ xs) at is = (xs, let same : x ≡ at = cc in ap (λ y. y ∷ xs) same)

pub record Answer (text : List ℕ) (s : State) : Type 0 where
  pub read : IsReadAs text (held s)
  pub good : IsAutomaton (held s)

pub answered_whole : (text : List ℕ) (s : State) → outcome_of text ≡ Read s → s.stage ≡ stage.Done → s.fault ≡ None → Answer text s
answered_whole text s out done sound =
    let w = read_whole text s out done in
    let d = w.draft in
    let none = none_noted (faults d) (sym (held_fault d w.is_small) ∙ sym (ap (λ (x : State). x.fault) w.same) ∙ sound) in
    let same : held s ≡ automaton_of d = ap held w.same ∙ whole_held d w.is_small none in
    record {
      read = record {
        draft = d;
        stands = record { is_text = w.is_text; is_small = w.is_small };
        in_range = none;
        is_automaton = same;
      };
      good = subst IsAutomaton (sym same) (is_automaton d w.is_small none);
    }

pub answered_range : (text : List ℕ) (s : State) (at : ℕ) → outcome_of text ≡ Read s → s.stage ≡ stage.Done → s.fault ≡ Some at
    → IsRangeAt text at
answered_range text s at out done noted =
    let w = read_whole text s out done in
    let d = w.draft in
    let first = first_noted (faults d) at (sym (held_fault d w.is_small) ∙ sym (ap (λ (x : State). x.fault) w.same) ∙ noted) in
    record {
      draft = d;
      stands = record { is_text = w.is_text; is_small = w.is_small };
      others = first.0;
      first = first.1;
    }

pub answered_early : (text : List ℕ) (s : State) → outcome_of text ≡ Read s → (s.stage ≡ stage.Done → ⊥) → IsSyntaxAt text (length text)
answered_early text s out other = inr (ends_early text s out other)

by_stop : (text : List ℕ) (e : HoaRefusal) → Stopped start (tokens text) e → (e ≢ refusal.NoMemory) × IsRefusedBy text e
by_stop text e x = by x.why
  where
    by : ((turn x.mid x.token.token ≡ Stuck) × (e ≡ refusal.Syntax x.token.at))
        ⊎ ((next : State) × (turn x.mid x.token.token ≡ Past next) × (e ≡ refusal.TooMany x.token.at))
        → (e ≢ refusal.NoMemory) × IsRefusedBy text e
    by (inl (is, same)) = (λ other. cc, subst (IsRefusedBy text) (sym same) (inl (stuck_there text e x is)))
    by (inr (next, is, same)) = (λ other. cc, subst (IsRefusedBy text) (sym same) (past_there text e x next is))

pub stopped_right : (text : List ℕ) (e : HoaRefusal) → outcome_of text ≡ Refused e → (e ≢ refusal.NoMemory) × IsRefusedBy text e
stopped_right text e out = by_stop text e (stopped start (tokens text) e out)

pub answered_refused : (text : List ℕ) (e : HoaRefusal) → IsOutcome e (outcome_of text) → IsRefusedBy text e
answered_refused text refusal.NoMemory told = tt
answered_refused text (refusal.Syntax at) told = (stopped_right text (refusal.Syntax at) told).1
answered_refused text (refusal.TooMany at) told = (stopped_right text (refusal.TooMany at) told).1
answered_refused text (refusal.Range at) told = (stopped_right text (refusal.Range at) told).1

pub refused_from : (text : List ℕ) (s : State) (e : HoaRefusal) → s ≡ start → IsOutcome e (outcome s (tokens text)) → IsRefusedBy text e
refused_from text s e is told = answered_refused text e (subst (λ x. IsOutcome e (outcome x (tokens text))) is told)

-- Whatever was read, some tokens behind it end the text, within the limits.
--
--   Ending strict s      == tokens with which the reader, as it stands, reads a text to its end
--   ending               == there are such
use Rattle.std.proofs.Common.{◌≡◌, ℕ, zero, suc, ◌-◌, Bool, true, false, nat_eq, nat_le, if◌then◌else◌, List, [], ◌∷◌, ◌++◌, Some, refl, ◌∙◌, ap, arith, codes}
use Rattle.std.specs.List.{list_any}
use Rattle.ml_hoa.specs.declared.token.Mark.TheVariants as mark
use Rattle.ml_hoa.specs.declared.reader.Acceptance.TheVariants as acceptance
use Rattle.ml_hoa.specs.declared.reader.Stage.{Stage}
use Rattle.ml_hoa.specs.declared.reader.Stage.TheVariants as stage
use Rattle.ml_hoa.specs.Tokens.{Token, Number, Text, Plain}
use Rattle.ml_hoa.specs.private.Machine.{LevelState, State, Next, turn, turn_at, on_header, into_body, strings, closed, label_ended, first_of}
use Rattle.ml_hoa.proofs.Runs.{led, run}
use Rattle.ml_hoa.proofs.HeadRuns.{head_stage, strings_some, wanted_free}

pub record Ending (strict : Bool) (s : State) : Type 0 where
  pub tokens : List Token
  pub to : State
  pub runs : run strict s tokens ≡ Some to
  pub done : to.stage ≡ stage.Done

module _ (strict : Bool) where
  by_turn : (s next : State) (t : Token) → turn s t ≡ Next next → Ending strict next → Ending strict s
  by_turn s next t is e = record {
    tokens = t ∷ e.tokens;
    to = e.to;
    runs = ap (λ u. led strict u (λ n. run strict n e.tokens)) is ∙ e.runs;
    done = e.done;
  }

  -- where the stage is known
  by_stage : (q : Stage) (s next : State) (t : Token) → s.stage ≡ q → turn_at q s t ≡ Next next → Ending strict next → Ending strict s
  by_stage q s next t staged is e = by_turn s next t (ap (λ x. turn_at x s t) staged ∙ is) e

  ended : (s : State) → s.stage ≡ stage.Done → Ending strict s
  ended s staged = record { tokens = []; to = s; runs = refl; done = staged }

  abbrev finished : State → State
  finished s = record s { stage = stage.Done }

  -- ---- the body

  body_ends : (s : State) → s.stage ≡ stage.Body → Ending strict s
  body_ends s staged = by_stage stage.Body s (finished s) (Plain mark.End) staged refl (ended (finished s) refl)

  number_ends : (s : State) → s.stage ≡ stage.BehindNumber → Ending strict s
  number_ends s staged = by_stage stage.BehindNumber s (finished s) (Plain mark.End) staged refl (ended (finished s) refl)

  name_ends : (s : State) → s.stage ≡ stage.BehindName → Ending strict s
  name_ends s staged = by_stage stage.BehindName s (finished s) (Plain mark.End) staged refl (ended (finished s) refl)

  edges_ends : (s : State) → s.stage ≡ stage.Edges → Ending strict s
  edges_ends s staged = by_stage stage.Edges s (finished s) (Plain mark.End) staged refl (ended (finished s) refl)

  targeted_ends : (s : State) → s.stage ≡ stage.BehindTarget → Ending strict s
  targeted_ends s staged = by_stage stage.BehindTarget s (finished s) (Plain mark.End) staged refl (ended (finished s) refl)

  state_sets_end : (s : State) → s.stage ≡ stage.StateSets → Ending strict s
  state_sets_end s staged =
      by_stage stage.StateSets s (record s { stage = stage.Edges }) (Plain mark.RightBrace) staged refl
      (edges_ends (record s { stage = stage.Edges }) refl)

  edge_sets_end : (s : State) → s.stage ≡ stage.EdgeSets → Ending strict s
  edge_sets_end s staged =
      by_stage stage.EdgeSets s (record s { stage = stage.Edges }) (Plain mark.RightBrace) staged refl
      (edges_ends (record s { stage = stage.Edges }) refl)

  id_staged : (s : State) (v at : ℕ) (p q : Bool)
      → Ending strict (if p then record s { stage = stage.BehindNumber; fault = first_of s.fault at; from = 0; in_set = false }
      else if q then record s { stage = stage.BehindNumber; fault = first_of s.fault at; from = v; in_set = false }
      else record s { stage = stage.BehindNumber; seen = s.seen ++ v ∷ []; from = v; in_set = false })
  id_staged s v at true q = number_ends _ refl
  id_staged s v at false true = number_ends _ refl
  id_staged s v at false false = number_ends _ refl

  id_ends : (s : State) → s.stage ≡ stage.StateNumber → Ending strict s
  id_ends s staged =
      by_stage stage.StateNumber s _ (Number (codes "0") 0) staged refl
      (id_staged s 0 0 (nat_le s.states 0) (list_any (nat_eq 0) s.seen))

  target_ends : (s : State) → s.stage ≡ stage.Target → Ending strict s
  target_ends s staged = by_stage stage.Target s _ (Number (codes "0") 0) staged refl (targeted_ends _ refl)

  behind_ends : (outer : List LevelState) (s : State) → s.stage ≡ stage.Behind → s.outer ≡ outer → Ending strict s
  behind_ends [] s staged is =
      by_stage stage.Behind s (record s { stage = stage.Target }) (Plain mark.RightBracket) staged (ap (label_ended s) is)
      (target_ends (record s { stage = stage.Target }) refl)
  behind_ends (l ∷ outer) s staged is =
      by_stage stage.Behind s _ (Plain mark.RightParen) staged (ap (closed s) is) (behind_ends outer _ refl refl)

  operand_ends : (s : State) → s.stage ≡ stage.Operand → Ending strict s
  operand_ends s staged = by_stage stage.Operand s _ (Plain mark.Truth) staged refl (behind_ends s.outer _ refl refl)

  -- ---- headers

  states_named : (ignored : Bool) (s : State) → s.stage ≡ head_stage ignored → turn s (Plain mark.States) ≡ on_header s (Plain mark.States)
  states_named true s staged = ap (λ x. turn_at x s (Plain mark.States)) staged
  states_named false s staged = ap (λ x. turn_at x s (Plain mark.States)) staged

  start_named : (ignored : Bool) (s : State) → s.stage ≡ head_stage ignored → turn s (Plain mark.Start) ≡ on_header s (Plain mark.Start)
  start_named true s staged = ap (λ x. turn_at x s (Plain mark.Start)) staged
  start_named false s staged = ap (λ x. turn_at x s (Plain mark.Start)) staged

  props_named : (ignored : Bool) (s : State) → s.stage ≡ head_stage ignored → turn s (Plain mark.Props) ≡ on_header s (Plain mark.Props)
  props_named true s staged = ap (λ x. turn_at x s (Plain mark.Props)) staged
  props_named false s staged = ap (λ x. turn_at x s (Plain mark.Props)) staged

  acceptance_named : (ignored : Bool) (s : State) → s.stage ≡ head_stage ignored
      → turn s (Plain mark.Acceptance) ≡ on_header s (Plain mark.Acceptance)
  acceptance_named true s staged = ap (λ x. turn_at x s (Plain mark.Acceptance)) staged
  acceptance_named false s staged = ap (λ x. turn_at x s (Plain mark.Acceptance)) staged

  body_named : (ignored : Bool) (s : State) → s.stage ≡ head_stage ignored → turn s (Plain mark.Body) ≡ on_header s (Plain mark.Body)
  body_named true s staged = ap (λ x. turn_at x s (Plain mark.Body)) staged
  body_named false s staged = ap (λ x. turn_at x s (Plain mark.Body)) staged

  record Stands (s : State) (a b c d : Bool) : Type 0 where
    states : s.stood.states ≡ a
    start : s.stood.start ≡ b
    props : s.stood.props ≡ c
    acceptance : s.stood.acceptance ≡ d

  entered : (s : State) → Stands s true true true true
      → into_body s s.stood.states s.stood.start s.stood.props s.stood.acceptance ≡ into_body s true true true true
  entered s h =
      ap (λ v. into_body s v s.stood.start s.stood.props s.stood.acceptance) h.states
      ∙ ap (λ v. into_body s true v s.stood.props s.stood.acceptance) h.start
      ∙ ap (λ v. into_body s true true v s.stood.acceptance) h.props
      ∙ ap (λ v. into_body s true true true v) h.acceptance

  all_end : (ignored : Bool) (s : State) → s.stage ≡ head_stage ignored → Stands s true true true true → Ending strict s
  all_end ignored s staged h =
      by_turn s _ (Plain mark.Body) (body_named ignored s staged ∙ entered s h) (body_ends _ refl)

  acceptance_ends : (d ignored : Bool) (s : State) → s.stage ≡ head_stage ignored → Stands s true true true d → Ending strict s
  acceptance_ends true ignored s staged h = all_end ignored s staged h
  acceptance_ends false ignored s staged h =
      by_turn s (record s { stage = stage.AcceptanceNumber }) (Plain mark.Acceptance)
      (acceptance_named ignored s staged ∙ wanted_free s.stood.acceptance s stage.AcceptanceNumber h.acceptance)
      (by_turn _ (record s { stage = stage.EveryTruth }) (Number (codes "0") 0) refl
      (by_turn _ _ (Plain mark.Truth) refl
      (all_end false (record s { stage = stage.Headers; stood = record s.stood { acceptance = true }; acceptance = acceptance.Every }) refl
      (record { states = h.states; start = h.start; props = h.props; acceptance = refl }))))

  props_end : (c d ignored : Bool) (s : State) → s.stage ≡ head_stage ignored → Stands s true true c d → Ending strict s
  props_end true d ignored s staged h = acceptance_ends d ignored s staged h
  props_end false d ignored s staged h =
      by_turn s (record s { stage = stage.PropsNumber }) (Plain mark.Props)
      (props_named ignored s staged ∙ wanted_free s.stood.props s stage.PropsNumber h.props)
      (by_turn _ _ (Number (codes "0") 0) refl
      (acceptance_ends d false (record s { stage = stage.Headers; stood = record s.stood { props = true }; prop_count = 0; props = [] }) refl
      (record { states = h.states; start = h.start; props = refl; acceptance = h.acceptance })))

  start_ends : (b c d ignored : Bool) (s : State) → s.stage ≡ head_stage ignored → Stands s true b c d → Ending strict s
  start_ends true c d ignored s staged h = props_end c d ignored s staged h
  start_ends false c d ignored s staged h =
      by_turn s (record s { stage = stage.StartNumber }) (Plain mark.Start)
      (start_named ignored s staged ∙ wanted_free s.stood.start s stage.StartNumber h.start)
      (by_turn _ _ (Number (codes "0") 0) refl
      (props_end c d false (record s { stage = stage.Headers; stood = record s.stood { start = true }; first = 0; first_at = 0 }) refl
      (record { states = h.states; start = refl; props = h.props; acceptance = h.acceptance })))

  states_end : (a b c d ignored : Bool) (s : State) → s.stage ≡ head_stage ignored → Stands s a b c d → Ending strict s
  states_end true b c d ignored s staged h = start_ends b c d ignored s staged h
  states_end false b c d ignored s staged h =
      by_turn s (record s { stage = stage.StatesNumber }) (Plain mark.States)
      (states_named ignored s staged ∙ wanted_free s.stood.states s stage.StatesNumber h.states)
      (by_turn _ _ (Number (codes "0") 0) refl
      (start_ends b c d false (record s { stage = stage.Headers; stood = record s.stood { states = true }; states = 0 }) refl
      (record { states = refl; start = h.start; props = h.props; acceptance = h.acceptance })))

  heads_end : (ignored : Bool) (s : State) → s.stage ≡ head_stage ignored → Ending strict s
  heads_end ignored s staged =
      states_end s.stood.states s.stood.start s.stood.props s.stood.acceptance ignored s staged
      (record { states = refl; start = refl; props = refl; acceptance = refl })

  string_staged : (k : ℕ) → strings (suc k) ≡ stage.Strings k
  string_staged k = strings_some (suc k) k refl ∙ (let e : suc k - 1 ≡ k = omega arith in ap stage.Strings e)

  strings_end : (k : ℕ) (s : State) → s.stage ≡ strings k → Ending strict s
  strings_end zero s staged = heads_end false s staged
  strings_end (suc k) s staged =
      by_stage (stage.Strings k) s _ (Text []) (staged ∙ string_staged k) refl (strings_end k _ refl)

  ending_at : (q : Stage) (s : State) → s.stage ≡ q → Ending strict s
  ending_at stage.Start s staged =
      by_stage stage.Start s _ (Plain mark.Hoa) staged refl (by_turn _ _ (Plain mark.Version) refl (heads_end false _ refl))
  ending_at stage.Version s staged = by_stage stage.Version s _ (Plain mark.Version) staged refl (heads_end false _ refl)
  ending_at stage.Headers s staged = heads_end false s staged
  ending_at stage.StatesNumber s staged = by_stage stage.StatesNumber s _ (Number (codes "0") 0) staged refl (heads_end false _ refl)
  ending_at stage.StartNumber s staged = by_stage stage.StartNumber s _ (Number (codes "0") 0) staged refl (heads_end false _ refl)
  ending_at stage.PropsNumber s staged = by_stage stage.PropsNumber s _ (Number (codes "0") 0) staged refl (heads_end false _ refl)
  ending_at (stage.Strings k) s staged = by_stage (stage.Strings k) s _ (Text []) staged refl (strings_end k _ refl)
  ending_at stage.AcceptanceNumber s staged =
      by_stage stage.AcceptanceNumber s _ (Number (codes "0") 0) staged refl (by_turn _ _ (Plain mark.Truth) refl (heads_end false _ refl))
  ending_at stage.EveryTruth s staged = by_stage stage.EveryTruth s _ (Plain mark.Truth) staged refl (heads_end false _ refl)
  ending_at stage.MarkedInf s staged =
      by_stage stage.MarkedInf s _ (Plain mark.Inf) staged refl (by_turn _ _ (Plain mark.LeftParen) refl
      (by_turn _ _ (Number (codes "0") 0) refl (by_turn _ _ (Plain mark.RightParen) refl (heads_end false _ refl))))
  ending_at stage.MarkedOpen s staged =
      by_stage stage.MarkedOpen s _ (Plain mark.LeftParen) staged refl
      (by_turn _ _ (Number (codes "0") 0) refl (by_turn _ _ (Plain mark.RightParen) refl (heads_end false _ refl)))
  ending_at stage.MarkedSet s staged =
      by_stage stage.MarkedSet s _ (Number (codes "0") 0) staged refl (by_turn _ _ (Plain mark.RightParen) refl (heads_end false _ refl))
  ending_at stage.MarkedClose s staged = by_stage stage.MarkedClose s _ (Plain mark.RightParen) staged refl (heads_end false _ refl)
  ending_at stage.Ignored s staged = heads_end true s staged
  ending_at stage.Body s staged = body_ends s staged
  ending_at stage.StateNumber s staged = id_ends s staged
  ending_at stage.BehindNumber s staged = number_ends s staged
  ending_at stage.BehindName s staged = name_ends s staged
  ending_at stage.StateSets s staged = state_sets_end s staged
  ending_at stage.Edges s staged = edges_ends s staged
  ending_at stage.Operand s staged = operand_ends s staged
  ending_at stage.Behind s staged = behind_ends s.outer s staged refl
  ending_at stage.Target s staged = target_ends s staged
  ending_at stage.BehindTarget s staged = targeted_ends s staged
  ending_at stage.EdgeSets s staged = edge_sets_end s staged
  ending_at stage.Done s staged = ended s staged

  pub ending : (s : State) → Ending strict s
  ending s = ending_at s.stage s refl

-- What a refusal of one line tells.
--
--   line_refused, missing_refused   == the next line is refused, and a missing one
--   missing_X                       == a missing line is not of the kind that stands at X
use Rattle.std.proofs.Common.{◌≡◌, ℕ, [], ◌∷◌, inl, refl, sym, subst}
use Rattle.ml_base.specs.declared.doc_refusal.DocRefusal.{DocRefusal}
use Rattle.ml_base.specs.declared.doc_refusal.DocRefusal.TheVariants as refused
use Rattle.ml_lines.specs.Lines.{Line}
use Rattle.ml_lines.specs.Reading.{lines_of}
use Rattle.ml_realize_text.specs.RealizeRules.{AtEnd, AtPlay, AtReply, AtState, AtStates, AtStep, Place, Signals, rule_number}
use Rattle.ml_realize_text.specs.private.Reads.{Breaks, Goes, TellsFault}
use Rattle.ml_realize_text.specs.declared.line_rule.LineRule.{LineRule}
use Rattle.ml_realize_text.specs.declared.line_rule.LineRule.TheVariants.{OfKind}
use Rattle.ml_realize_text.specs.declared.rest.Rest.{Rest}
use Rattle.ml_realize_text.proofs.Going.{told_line, told_missing}

pub line_refused : (p : Place) (at rest : Rest) (line : Line) (rule : LineRule) (e : DocRefusal)
    → Goes at (line ∷ []) rest
    → Breaks p line rule
    → e ≡ refused.Fault (record { line = at.line; rule = rule_number rule })
    → TellsFault p at e
line_refused p at rest line rule e goes breaks is = subst (TellsFault p at) (sym is) (told_line p at rest line rule goes breaks)

pub missing_refused : (p : Place) (at : Rest) (e : DocRefusal)
    → lines_of at.text.now ≡ []
    → Breaks p [] OfKind
    → e ≡ refused.Fault (record { line = at.line; rule = 51 })
    → TellsFault p at e
missing_refused p at e none breaks is = subst (TellsFault p at) (sym is) (told_missing p at OfKind none breaks)

pub missing_states : (g : Signals) → Breaks (AtStates g) [] OfKind
missing_states g left = inl (refl, λ (are, is). cc)

pub missing_state : (g : Signals) (n i : ℕ) → Breaks (AtState g n i) [] OfKind
missing_state g n i left = inl (refl, λ (are, is). cc)

pub missing_step : (g : Signals) (n i s : ℕ) → Breaks (AtStep g n i s) [] OfKind
missing_step g n i s left = inl (refl, λ (given, w, is). let apart = is.line_is in cc)

pub missing_play : (g : Signals) (n i : ℕ) → Breaks (AtPlay g n i) [] OfKind
missing_play g n i left = inl (refl, λ (are, (w, ws, is)). cc)

pub missing_reply : (g : Signals) (n i s : ℕ) → Breaks (AtReply g n i s) [] OfKind
missing_reply g n i s left = inl (refl, λ (w, is). let apart = is.line_is in cc)

pub missing_end : Breaks AtEnd [] OfKind
missing_end left = inl (refl, λ is. cc)

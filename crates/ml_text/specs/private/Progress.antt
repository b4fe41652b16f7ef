-- What a program has read of a text, as what will come of the rest of it.
--
--   outcome_from t end p items == what comes of these items, where p was read before them
--   refusal_of c at            == the refusal for a cause
--   limit_refusal ..           == the refusal where a limit is passed
--   KeepsLimits p              == what was read keeps the limits
--   GoesOn t p i next          == behind p and the item i, next is read
--   IsRefusal e out            == the refusal e is what comes of a text; want of memory says nothing of it
use Rattle.std.specs.Prelude.{ℕ, ◌≡◌, ◌≤◌, Bool, if◌then◌else◌, List, [], ◌∷◌, ◌++◌, Option}
use Rattle.std.specs.Option.{option_map}
use Rattle.ml_base.specs.declared.parse_refusal.ParseRefusal.{ParseRefusal}
use Rattle.ml_base.specs.declared.parse_refusal.ParseRefusal.TheVariants as refusal
use Rattle.ml_text.specs.Refusals as cause
use Rattle.ml_text.specs.Refusals.{Cause, Item}
use Rattle.ml_text.specs.Limits.{most_occurrences, most_open}
use Rattle.ml_text.specs.private.Reading.{Outcome, Refused, cause_at, outcome}
use Rattle.ml_text.specs.private.Tables.{Tables}
use Rattle.ml_text.specs.private.Views.{mode_view, stack_view}
use Rattle.ml_text.specs.declared.reading.Progress.{Progress}

abbrev pub outcome_from : {K C S O T W H : Type 0}
    → (t : Tables K C S O T W H)
    → ℕ
    → Progress C S O T W H
    → List (Item t.grammar.Sign)
    → Outcome t.grammar.Tree
outcome_from t end p items = outcome t.grammar end (mode_view t p.mode) (stack_view t p.stack.items) p.count p.depth items

abbrev pub KeepsLimits : {C S O T W H : Type 0} → Progress C S O T W H → Type 0
KeepsLimits p = (p.count ≤ most_occurrences) × (p.depth ≤ most_open)

-- an item is read, and keeps the limits
pub record GoesOn {K C S O T W H : Type 0} (t : Tables K C S O T W H) (p : Progress C S O T W H) (i : Item t.grammar.Sign) (next : Progress C S O T W H) : Type 0 where
  pub limits : KeepsLimits next
  pub context : next.context ≡ t.signs.behind i.sign
  pub places : next.places.items ≡ (if t.signs.is_noted p.context i.sign then p.places.items ++ i.at ∷ [] else p.places.items)
  pub comes : (end : ℕ) (rest : List (Item t.grammar.Sign))
      → outcome_from t end p (i ∷ rest) ≡ outcome_from t end next rest

abbrev pub IsRefusal : {Tree : Type 0} → ParseRefusal → Outcome Tree → Type 0
IsRefusal (refusal.Syntax at) out = out ≡ Refused cause.Syntax at
IsRefusal (refusal.Unbound at) out = ⊥
IsRefusal (refusal.NotPositive at) out = ⊥
IsRefusal (refusal.TooMany at) out = out ≡ Refused cause.TooMany at
IsRefusal (refusal.TooNested at) out = out ≡ Refused cause.TooNested at
IsRefusal (refusal.NameTooLong at) out = out ≡ Refused cause.NameTooLong at
IsRefusal refusal.NoMemory out = Unit {0}

abbrev pub refusal_of : Cause → ℕ → ParseRefusal
refusal_of cause.Syntax at = refusal.Syntax at
refusal_of cause.TooMany at = refusal.TooMany at
refusal_of cause.TooNested at = refusal.TooNested at
refusal_of cause.NameTooLong at = refusal.NameTooLong at

abbrev pub limit_refusal : ℕ → ℕ → Bool → ℕ → Option ParseRefusal
limit_refusal count depth is_long at = option_map (λ c. refusal_of c at) (cause_at count depth is_long)

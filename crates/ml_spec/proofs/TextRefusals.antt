-- What is read of the text of an item, and why it is refused, are one, in any logic.
--
--   text_refused_once   == a text is refused by one rule at one byte at most
--   written_once        == a text stands for one formula at most
--   written_not_refused == a text that stands for one is refused by no rule
--   written_or_refused  == each text does, or is
use Rattle.std.proofs.Common.{◌≡◌, ◌≢◌, ◌⊎◌, ℕ, List, Option, Some, None, inl, inr, refl, sym, ap, ◌∙◌}
use Rattle.ml_base.specs.declared.parse_refusal.ParseRefusal.{ParseRefusal}
use Rattle.ml_base.specs.declared.parse_refusal.ParseRefusal.TheVariants as refusal
use Rattle.ml_front.specs.declared.logic.Logic.{Logic}
use Rattle.ml_spec.specs.Faults.{told, IsTextRefused}
use Rattle.ml_spec.specs.Statements.{IsWrittenIn}
use Rattle.ml_spec.specs.declared.rule.SpecRule.{SpecRule}
use Rattle.ml_written.specs.Written.{written_logic, IsRefusedIn, IsWrittenAs}
use Rattle.ml_written.specs.declared.written.Written.{Written}
use Rattle.ml_written.proofs.OneAnswer.{one_answer}

-- a refusal that tells a rule isn't want of memory
own_reason : (e : ParseRefusal) (r : SpecRule) (k : ℕ) → told e ≡ Some (r, k) → e ≢ refusal.NoMemory
own_reason e r k tells = λ same. none (told e) tells (ap told same)
  where
    none : (o : Option (SpecRule × ℕ)) → o ≡ Some (r, k) → o ≡ None → ⊥
    none o one other = cc

pub text_refused_once : (l : Logic) (text : List ℕ) (r s : SpecRule) (j k : ℕ)
    → IsTextRefused l text r j
    → IsTextRefused l text s k
    → (r ≡ s) × (j ≡ k)
text_refused_once l text r s j k (e, tells, by) (d, told_too, other) =
    let same : e ≡ d = (one_answer l).refused text e d (own_reason e r j tells) (own_reason d s k told_too) by other in
    parts (told d) (sym (ap told same) ∙ tells) told_too
  where
    parts : (o : Option (SpecRule × ℕ)) → o ≡ Some (r, j) → o ≡ Some (s, k) → (r ≡ s) × (j ≡ k)
    parts o one other = (ap rule_in (sym one ∙ other), ap byte_in (sym one ∙ other))
      where
        rule_in : Option (SpecRule × ℕ) → SpecRule
        rule_in None = r
        rule_in (Some p) = p.0

        byte_in : Option (SpecRule × ℕ) → ℕ
        byte_in None = j
        byte_in (Some p) = p.1

pub written_once : (l : Logic) (text : List ℕ) (v w : Written) → IsWrittenIn l text v → IsWrittenIn l text w → v ≡ w
written_once l text v w one other = (one_answer l).parsed text v w one other

pub written_not_refused : (l : Logic) (text : List ℕ) (w : Written) (r : SpecRule) (k : ℕ)
    → written_logic w ≡ l
    → IsWrittenAs text w
    → IsTextRefused l text r k
    → ⊥
written_not_refused l text w r k of_logic is (e, tells, by) =
    own_reason e r k tells ((one_answer l).exclusive text w e (of_logic, is) by)

pub written_or_refused : (l : Logic) (text : List ℕ)
    → ((w : Written) × IsWrittenIn l text w) ⊎ ((r : SpecRule) × (k : ℕ) × IsTextRefused l text r k)
written_or_refused l text = by ((one_answer l).some text)
  where
    rule_told : (e : ParseRefusal) → e ≢ refusal.NoMemory → (r : SpecRule) × (k : ℕ) × (told e ≡ Some (r, k))
    rule_told (refusal.Syntax k) some = (_, k, refl)
    rule_told (refusal.Unbound k) some = (_, k, refl)
    rule_told (refusal.NotPositive k) some = (_, k, refl)
    rule_told (refusal.TooMany k) some = (_, k, refl)
    rule_told (refusal.TooNested k) some = (_, k, refl)
    rule_told (refusal.NameTooLong k) some = (_, k, refl)
    rule_told refusal.NoMemory some = absurd (some refl)

    by : ((w : Written) × IsWrittenIn l text w) ⊎ ((e : ParseRefusal) × (e ≢ refusal.NoMemory) × IsRefusedIn l text e)
        → ((w : Written) × IsWrittenIn l text w) ⊎ ((r : SpecRule) × (k : ℕ) × IsTextRefused l text r k)
    by (inl written) = inl written
    by (inr (e, some, refused)) = let rule = rule_told e some in inr (rule.0, rule.1, (e, rule.2, refused))

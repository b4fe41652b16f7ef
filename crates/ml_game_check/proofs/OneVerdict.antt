-- Claims have one verdict, but for the vertex that is named with the fourth rule.
--
--   not_right   == where a rule is broken, the claims aren't right
--   same_broken == two that are broken first are the same, or break the fourth rule alone
--   one_verdict == the theorem
use Rattle.std.proofs.Common.{ℕ, ◌≡◌, ◌≤◌, ◌⊎◌, inl, inr, refl, sym, ap, ap₂, subst, arith}
use Rattle.ml_parity.specs.Game.{ParityGame}
use Rattle.ml_game_check.specs.Laws.{NamesFour, OneVerdict}
use Rattle.ml_game_check.specs.RightClaims.{AreRight, Claims}
use Rattle.ml_game_check.specs.Verdicts.{Breaks, BreaksEarly, IsBroken, number_of}
use Rattle.ml_game_check.specs.declared.verdict.Rule.{Rule}
use Rattle.ml_game_check.specs.declared.verdict.Rule.TheVariants as rule
use Rattle.ml_game_check.specs.declared.verdict.Verdict.TheVariants as verdict

same_rule : (r q : Rule) → number_of r ≡ number_of q → r ≡ q
same_rule rule.HasMove rule.HasMove e = refl
same_rule rule.MovesAlong rule.MovesAlong e = refl
same_rule rule.StaysClaimed rule.StaysClaimed e = refl
same_rule rule.NoBadCycle rule.NoBadCycle e = refl
same_rule r q e = absurd (omega arith)

module _ (g : ParityGame) (cs : Claims) where
  not_right : (v : ℕ) (r : Rule) → AreRight g cs → Breaks g cs r v → ⊥
  not_right v rule.HasMove right b = (right.1 b.0 v).one b.1
  not_right v rule.MovesAlong right b = (right.1 b.0 v).two b.1
  not_right v rule.StaysClaimed right b = (right.1 b.0 v).three b.1
  not_right v rule.NoBadCycle right b = (right.1 b.0 v).four b.1

  early_or_four : (v : ℕ) (r : Rule) → Breaks g cs r v → BreaksEarly g cs v ⊎ (r ≡ rule.NoBadCycle)
  early_or_four v rule.HasMove b = inl (inl b)
  early_or_four v rule.MovesAlong b = inl (inr (inl b))
  early_or_four v rule.StaysClaimed b = inl (inr (inr b))
  early_or_four v rule.NoBadCycle b = inr refl

  module _ (v w : ℕ) (r q : Rule) (a : IsBroken g cs v r) (b : IsBroken g cs w q) where
    same_at : v ≡ w → r ≡ q
    same_at same =
        let low : number_of r ≤ number_of q = a.lowest q (subst (Breaks g cs q) (sym same) b.breaks) in
        let high : number_of q ≤ number_of r = b.lowest r (subst (Breaks g cs r) same a.breaks) in
        let number : number_of r ≡ number_of q = omega arith in
        same_rule r q number

    same_broken : BreaksEarly g cs v ⊎ (r ≡ rule.NoBadCycle) → BreaksEarly g cs w ⊎ (q ≡ rule.NoBadCycle)
        → (verdict.Broken v r ≡ verdict.Broken w q) ⊎ (NamesFour (verdict.Broken v r) × NamesFour (verdict.Broken w q))
    same_broken (inl x) (inl y) =
        let low = a.first w y in
        let high = b.first v x in
        let same : v ≡ w = omega (arith, low.1, high.1) in
        inl (ap₂ verdict.Broken same (same_at same))
    same_broken (inl x) (inr four) =
        let low = (b.first v x).0 in let number : number_of q ≡ 4 = ap number_of four in absurd (omega arith)
    same_broken (inr four) (inl y) =
        let low = (a.first w y).0 in let number : number_of r ≡ 4 = ap number_of four in absurd (omega arith)
    same_broken (inr four) (inr also) = inr ((v, ap (verdict.Broken v) four), (w, ap (verdict.Broken w) also))

pub one_verdict : OneVerdict
one_verdict g cs verdict.Right verdict.Right a b = inl refl
one_verdict g cs verdict.Right (verdict.Broken w q) a b = absurd (not_right g cs w q a b.breaks)
one_verdict g cs (verdict.Broken v r) verdict.Right a b = absurd (not_right g cs v r b a.breaks)
one_verdict g cs (verdict.Broken v r) (verdict.Broken w q) a b =
    same_broken g cs v w r q a b (early_or_four g cs v r a.breaks) (early_or_four g cs w q b.breaks)

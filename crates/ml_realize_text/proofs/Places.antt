-- Which place comes next: the next state or set, as long as there is one.
use Rattle.std.proofs.Common.{◌≡◌, ℕ, ◌+◌, ◌<◌, ◌≤◌, ◌^◌, true, false, nat_lt, length, ap, arith, if◌then◌else◌}
use Rattle.std.proofs.lemmas.Bool.Decides.{nat_tests}
use Rattle.ml_realize_text.specs.RealizeRules.{AtEnd, AtReply, AtState, AtStep, Place, Signals, at_reply, at_state, at_step}

module _ (p q : Place) where
  below : (s m : ℕ) → s < m → (if nat_lt s m then p else q) ≡ p
  below s m less = let yes : nat_lt s m ≡ true = grind (arith, nat_tests) in ap (λ b. if b then p else q) yes

  done : (s m : ℕ) → m ≤ s → (if nat_lt s m then p else q) ≡ q
  done s m less = let none : nat_lt s m ≡ false = grind (arith, nat_tests) in ap (λ b. if b then p else q) none

module _ (g : Signals) (n i : ℕ) where
  pub state_next : i < n → at_state g n i ≡ AtState g n i
  state_next less = below (AtState g n i) AtEnd i n less

  pub states_done : n ≤ i → at_state g n i ≡ AtEnd
  states_done less = done (AtState g n i) AtEnd i n less

  pub step_next : (s : ℕ) → s < 2 ^ length g.inputs → at_step g n i s ≡ AtStep g n i s
  step_next s less = below (AtStep g n i s) (at_state g n (i + 1)) s (2 ^ length g.inputs) less

  pub steps_done : (s : ℕ) → 2 ^ length g.inputs ≤ s → at_step g n i s ≡ at_state g n (i + 1)
  steps_done s less = done (AtStep g n i s) (at_state g n (i + 1)) s (2 ^ length g.inputs) less

  pub reply_next : (s : ℕ) → s < 2 ^ length g.outputs → at_reply g n i s ≡ AtReply g n i s
  reply_next s less = below (AtReply g n i s) (at_state g n (i + 1)) s (2 ^ length g.outputs) less

  pub replies_done : (s : ℕ) → 2 ^ length g.outputs ≤ s → at_reply g n i s ≡ at_state g n (i + 1)
  replies_done s less = done (AtReply g n i s) (at_state g n (i + 1)) s (2 ^ length g.outputs) less

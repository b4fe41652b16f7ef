-- Requirements that are refuted.
--
--   refuted_less  == where they are without one, so are the others
--   less_count    == which are fewer
use Rattle.std.proofs.Common.{◌≡◌, ℕ, ◌<◌, Bool, true, false, List, length, set, sym, ap, subst, ◌∙◌, length-set}
use Rattle.ml_refutation.specs.declared.refutation.Refutation.{Refutation}
use Rattle.ml_spec.specs.Questions.{is_in}
use Rattle.ml_replies.specs.Meeting.{without}
use Rattle.ml_replies.proofs.Taken.{count, count_less, left_same, without_fewer, without_one}
use Rattle.ml_ask.specs.declared.asked.Asked.{Asked}
use Rattle.ml_ask.specs.declared.sought.Refuted.{Refuted}
use Rattle.ml_ask.specs.private.Steps.{AreRefutedBy, IsRefuted}
use Rattle.ml_ask.proofs.TakenSets.{out_among}

pub refuted_less : (a : Asked) (old new : Refuted) (k : ℕ) (r : Refutation)
    → IsRefuted a old
    → k < length old.taken.items
    → new.taken.items ≡ set old.taken.items k false
    → new.refutation ≡ r
    → AreRefutedBy a (without (is_in old.taken.items) k) r
    → IsRefuted a new
refuted_less a old new k r so within taken_is is refuted = record {
  are_told = ap length taken_is ∙ length-set old.taken.items k false ∙ so.are_told;
  are_among = λ j taken.
      so.are_among j (out_among old.taken.items k within j (subst (λ bs. is_in bs j ≡ true) taken_is taken));
  are_refuted = subst (λ s. AreRefutedBy a (is_in new.taken.items) s) (sym is)
      (subst (λ S. AreRefutedBy a S r) (sym (ap is_in taken_is ∙ left_same old.taken.items k within)) refuted);
}

pub less_count : (old new : List Bool) (n k : ℕ)
    → k < length old
    → k < n
    → is_in old k ≡ true
    → new ≡ set old k false
    → count (is_in new) n < count (is_in old) n
less_count old new n k within below taken is =
    subst (λ T. count T n < count (is_in old) n) (sym (ap is_in is ∙ left_same old k within))
    (count_less (is_in old) (without (is_in old) k) n k (λ j left. without_fewer (is_in old) k j left) below taken
    (without_one (is_in old) k))

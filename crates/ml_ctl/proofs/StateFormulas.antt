-- A state formula is true at a place exactly where it holds at the place's state.
--
--   connected_alike     == a connective of propositions that come to the same
--   looks_at_the_state  == the law
use Rattle.std.proofs.Common.{◌↔◌, inl, inr, ⊎_elim}
use Rattle.std.proofs.lemmas.Bool.{false≢true, and_parts}
use Rattle.ml_text.specs.declared.token.Operator.{Operator}
use Rattle.ml_text.specs.declared.token.Operator.TheVariants as operator
use Rattle.ml_ctl.specs.Formula.{Const, Prop, Not, Binary, Temporal, Paired, Quantified}
use Rattle.ml_ctl.specs.Sorts.{is_state}
use Rattle.ml_ctl.specs.Laws.{LooksAtTheState}
use Rattle.ml_ctl.specs.Meaning.{truth_of}

pub connected_alike : {P Q R S : Type 0} (op : Operator) → P ↔ R → Q ↔ S → truth_of op P Q ↔ truth_of op R S
connected_alike operator.And (a, b) (c, d) = ((λ t. (a t.0, c t.1)), (λ t. (b t.0, d t.1)))
connected_alike {P = P} {Q = Q} {R = R} {S = S} operator.Or (a, b) (c, d) =
    ((λ t. ⊎_elim (λ (p : P). inl (a p)) (λ (q : Q). inr (c q)) t), (λ t. ⊎_elim (λ (r : R). inl (b r)) (λ (s : S). inr (d s)) t))
connected_alike operator.Implies (a, b) (c, d) = ((λ t r. c (t (b r))), (λ t p. d (t (a p))))
connected_alike operator.Iff (a, b) (c, d) =
    ((λ t. ((λ r. c (t.0 (b r))), (λ s. a (t.1 (d s))))), (λ t. ((λ p. d (t.0 (a p))), (λ q. b (t.1 (c q))))))

pub looks_at_the_state : LooksAtTheState
looks_at_the_state m l (Const b) i state = ((λ t. t), (λ t. t))
looks_at_the_state m l (Prop p) i state = ((λ t. t), (λ t. t))
looks_at_the_state m l (Not f) i state =
    let alike = looks_at_the_state m l f i state in ((λ none t. none (alike.1 t)), (λ none t. none (alike.0 t)))
looks_at_the_state m l (Binary op f g) i state =
    let both = and_parts (is_state f) (is_state g) state in
    connected_alike op (looks_at_the_state m l f i both.0) (looks_at_the_state m l g i both.1)
looks_at_the_state m l (Temporal t f) i state = absurd (false≢true state)
looks_at_the_state m l (Paired p f g) i state = absurd (false≢true state)
looks_at_the_state m l (Quantified q f) i state = ((λ t. t), (λ t. t))

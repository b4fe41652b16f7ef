-- `tt` is satisfiable in each logic: it holds at the one state of a structure with one edge.
--
--   truth_met == the law
use Rattle.std.proofs.Common.{◌≡◌, ℕ, ◌<◌, ◌==◌, ◌||◌, Bool, true, false, [], ◌∷◌, refl, sym, subst, arith}
use Rattle.std.proofs.lemmas.Bool.{eqb-true}
use Rattle.std.proofs.lemmas.List.Elements.{All-cons, All-nil}
use Rattle.ml_base.specs.Structure.{Structure, IsStructure}
use Rattle.ml_base.specs.declared.structure.Edge.{Edge}
use Rattle.ml_base.proofs.StateSets.{member_where}
use Rattle.ml_ctl.specs.Paths.{has_step}
use Rattle.ml_ctl.specs.Problem as ctl
use Rattle.ml_word_graph.specs.Problem as words
use Rattle.ml_word_graph.proofs.Words.{a_word}
use Rattle.ml_front.specs.Connectives.{truth}
use Rattle.ml_front.specs.Problems.{IsSatisfiable}
use Rattle.ml_front.specs.declared.logic.Logic.{Logic}
use Rattle.ml_front.specs.declared.logic.Logic.TheVariants.{Mu, Pdl, Ctl, Ltl, Word}
use Rattle.ml_replies.specs.Meeting.{plain}

abbrev loop : Edge
loop = record { source = 0; action = 95 ∷ []; target = 0 }

abbrev model : Structure
model = record { states = 1; labels = [] ∷ []; edges = loop ∷ [] }

low : 0 < 1
low = omega arith

is_structure : IsStructure model
is_structure = record {
  has_state = low;
  labels_states = refl;
  joins_states = All-cons (λ (e : Edge). (e.source < 1) × (e.target < 1)) loop [] (low, low)
      (All-nil (λ (e : Edge). (e.source < 1) × (e.target < 1)));
}

leads : has_step model 0 0 ≡ true
leads = refl

only_loop : (t : ℕ) → has_step model 0 t ≡ true → t ≡ 0
only_loop t step = sym (eqb-true 0 t (first (0 == t) step))
  where
    first : (b : Bool) → (b || false) ≡ true → b ≡ true
    first true e = refl
    first false e = e

first_state : (s : ℕ) → s < 1 → s ≡ 0
first_state s below = omega (arith, below)

is_word : words.IsAdmitted model
is_word = record {
  is_structure = is_structure;
  one_step = λ s below.
      subst (words.HasOneStep model) (sym (first_state s below)) (record { target = 0; leads = leads; only = only_loop });
}

is_total : ctl.IsAdmitted model
is_total = record {
  is_structure = is_structure;
  is_total = λ s below.
      subst (λ u. (t : ℕ) × (has_step model u t ≡ true)) (sym (first_state s below)) (0, leads);
}

pub truth_met : (l : Logic) → IsSatisfiable (plain (truth l))
truth_met Mu = (model, is_structure, (0, low, member_where model (λ t. true) 0 low))
truth_met Pdl = (model, is_structure, (0, low, member_where model (λ t. true) 0 low))
truth_met Ctl = (model, is_total, (0, low, refl))
truth_met Ltl = let w = a_word model is_word 0 low in (model, is_total, (0, low, (w.0, w.1.is_path, refl)))
truth_met Word = let w = a_word model is_word 0 low in (model, is_word, (0, low, (w.0, w.1, refl)))

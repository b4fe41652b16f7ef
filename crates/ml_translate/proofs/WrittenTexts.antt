-- What is written for a formula stands for an automaton that accepts exactly the words that satisfy it.
--
--   as_many_edges  == an automaton has as many edges with guards as with cubes
--   same_accepted  == with guards it accepts what it does with cubes
--   written_accepts == the law
use Rattle.std.proofs.Common.{ℕ, ◌≡◌, ◌+◌, ◌↔◌, Bool, List, [], ◌∷◌, length, map, refl, sym, ap, ◌∙◌, subst, arith, length-append}
use Rattle.std.specs.List.{enumerate_from, flat_map}
use Rattle.std.proofs.lemmas.List.{length-map}
use Rattle.ml_trace.specs.WordAutomata.{WordLasso, IsAcceptedFrom}
use Rattle.ml_labelled.specs.Labelled as labelled
use Rattle.ml_labelled.specs.Labelled.{Accepts, Edge, Leads, Letter}
use Rattle.ml_labelled.specs.LabelledText.{GuardsLead, StandsIn, guarded, guarded_edge, guarded_edges}
use Rattle.ml_labelled.proofs.CarriedRuns.{accepted_over}
use Rattle.ml_labelled.proofs.GuardedEdges.{guards_lead_same}
use Rattle.ml_labelled.proofs.ReadTexts.{text_is_read, text_stands}
use Rattle.ml_hoa.specs.Refusals.{IsReadAs}
use Rattle.ml_translate.specs.Laws.{WrittenAccepts}

as_many_edges : (n : ℕ) (rows : List (List Edge))
    → length (flat_map guarded_edges (enumerate_from n rows)) ≡ length (flat_map (λ es. es) rows)
as_many_edges n [] = refl
as_many_edges n (es ∷ rows) =
    length-append (map (guarded_edge n) es) (flat_map guarded_edges (enumerate_from (n + 1) rows))
    ∙ ap (λ k. k + length (flat_map guarded_edges (enumerate_from (n + 1) rows))) (length-map es (guarded_edge n))
    ∙ ap (λ k. length es + k) (as_many_edges (n + 1) rows)
    ∙ sym (length-append es (flat_map (λ fs. fs) rows))

same_accepted : (a : labelled.Automaton) (w : WordLasso Letter)
    → IsAcceptedFrom (GuardsLead (guarded a)) 0 w ↔ Accepts a w
same_accepted a w = (
  accepted_over (GuardsLead (guarded a)) (Leads a) (λ p q. p ≡ q) there w 0 0 (λ s y z j k. sym j ∙ k) refl,
  accepted_over (Leads a) (GuardsLead (guarded a)) (λ p q. p ≡ q) back w 0 0 (λ s y z j k. sym j ∙ k) refl,
)
  where
    there : (l : Letter) (p q : ℕ) (b : Bool) (x : ℕ) → p ≡ x → GuardsLead (guarded a) l p q b → (y : ℕ) × (q ≡ y) × Leads a l x y b
    there l p q b x same lead = (q, refl, subst (λ s. Leads a l s q b) same ((guards_lead_same a l p q b).0 lead))

    back : (l : Letter) (p q : ℕ) (b : Bool) (x : ℕ) → p ≡ x → Leads a l p q b → (y : ℕ) × (q ≡ y) × GuardsLead (guarded a) l x y b
    back l p q b x same lead = (q, refl, (guards_lead_same a l x q b).1 (subst (λ s. Leads a l s q b) same lead))

pub written_accepts : WrittenAccepts
written_accepts f limit text is =
    let a = is.automaton in
    let t = is.is_translated in
    record {
      automaton = guarded a;
      stands = subst (λ xs. StandsIn xs (guarded a)) (sym is.is_written) (text_stands a t.is_labelled);
      accepts = λ w lasso.
          let same = same_accepted a w in
          let words = t.accepts w lasso in
          ((λ k. words.0 (same.0 k)), (λ k. same.1 (words.1 k)));
      is_read = λ small.
          subst (λ xs. IsReadAs xs (guarded a)) (sym is.is_written)
          (text_is_read a t.is_labelled
          (record {
            few_states = small.few_states;
            few_props = small.few_props;
            few_edges = let many = as_many_edges 0 a.edges in let few = small.few_edges in omega arith;
          }));
    }

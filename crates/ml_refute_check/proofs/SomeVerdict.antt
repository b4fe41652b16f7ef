-- Checking a document finds something.
--
--   refutation_or_fault == a text shows a refutation, or has a first bad line
--   some_verdict == a text is accepted, rejected or unreadable
use Rattle.std.proofs.Common.{◌≡◌, ℕ, ◌⊎◌, List, length, get_or, inl, inr, refl, ⊎_elim, arith}
use Rattle.std.proofs.lemmas.Option.{slice_get-get_or}
use Rattle.ml_base.specs.declared.doc_fault.DocFault.{DocFault}
use Rattle.ml_base.specs.declared.version.Version.{Version}
use Rattle.ml_graph.specs.Graph.{Graph}
use Rattle.ml_front.specs.declared.answer.Answer.TheVariants.{Unsatisfiable}
use Rattle.ml_front.specs.declared.problem.Problem.{Problem}
use Rattle.ml_front.specs.declared.problem.TheConstants.{MOST_NODES}
use Rattle.ml_front.specs.Graphs.{HasLargeClosure, IsGraphOf}
use Rattle.ml_front.specs.Documents.{Shows, IsDocumentFault, first_body_line}
use Rattle.ml_front.proofs.Documents.{shown_or_fault}
use Rattle.ml_front.proofs.Graphs.{graph_is}
use Rattle.ml_front.proofs.SomeGraph.{some_graph}
use Rattle.ml_refutation.specs.Refutation.{Refutation}
use Rattle.ml_refutation.specs.Acceptance.{entry_at, IsAccepted, IsFirstBad}
use Rattle.ml_refutation_text.specs.BodyRules.{IsFaultOf, IsTextOf}
use Rattle.ml_refutation_text.specs.Laws.{IsReadableBody, IsRefutationText}
use Rattle.ml_refutation_text.specs.PartLines.{parts_in}
use Rattle.ml_refutation_text.specs.declared.lines.EntryLines.{EntryLines}
use Rattle.ml_refutation_text.proofs.RefutationTexts as body
use Rattle.ml_refute_check.specs.Documents.{IsVerdict, ShowsRefutation, Finds, line_of, formula_line}
use Rattle.ml_refute_check.specs.Laws.{SomeVerdict}
use Rattle.ml_refute_check.specs.declared.verdict.Verdict.{Verdict}
use Rattle.ml_refute_check.specs.declared.verdict.Verdict.TheVariants.{Accepted, Unreadable, Rejected}
use Rattle.ml_refute_check.proofs.Rejected.{length-parts}
use Rattle.ml_refute_check.proofs.SomeFault.{some_fault}

module _ (v : Version) (rest : List ℕ) (p : Problem) (r : Refutation) (is_text : IsTextOf v rest r)
    (g : Graph) (is_graph : IsGraphOf g p) (closed : ¬ (HasLargeClosure p MOST_NODES)) where
  lines : List EntryLines
  lines = parts_in v rest first_body_line r

  none : EntryLines
  none = record { sequent = 0; live = 0; items = 0; heights = 0; decision = 0 }

  many : length lines ≡ length r.entries
  unfolding lines
  many = length-parts v _ r.entries

  of_finding : IsAccepted g r ⊎ ((e : ℕ) × (k : ℕ) × (number : ℕ) × IsFirstBad g r e k number)
      → (w : Verdict) × Finds w v rest p r
  unfolding lines
  of_finding (inl accepted) =
      (Accepted, (closed, record { graph = g; is_graph = is_graph; holds = accepted }))
  of_finding (inr (e, k, number, first)) =
      let at = get_or lines e none in (
        Rejected (line_of at (length (entry_at r e).traces.items) k) number,
        inr (
          closed,
          record {
            graph = g;
            is_graph = is_graph;
            holds = record {
              entry = e;
              part = k;
              is_first = first;
              lines = lines;
              are_lines = record { written = is_text; are_parts = refl };
              at = at;
              of_entry = slice_get-get_or lines e none (omega (arith, first.is_entry, many));
              is_line = refl;
            };
          },
        ),
      )

of_graph : (v : Version) (rest : List ℕ) (p : Problem) (r : Refutation) → IsTextOf v rest r
    → ((g : Graph) × IsGraphOf g p × (¬ (HasLargeClosure p MOST_NODES))) ⊎ HasLargeClosure p MOST_NODES
    → (w : Verdict) × Finds w v rest p r
of_graph v rest p r is_text (inl (g, is_graph, closed)) =
    of_finding v rest p r is_text g is_graph closed (some_fault g r (graph_is g p.negated p.formula is_graph))
of_graph v rest p r is_text (inr large) = (Rejected formula_line 1, inl (large, refl, refl))

shown : (text : List ℕ) (w : Verdict) → ShowsRefutation text (Finds w) → IsVerdict text w
shown text Accepted s = s
shown text (Rejected line number) s = s
shown text (Unreadable fault) s = absurd s.holds.3

-- a text shows a refutation, or has a first bad line
pub refutation_or_fault : (text : List ℕ)
    → Shows Unsatisfiable text (λ v p rest. IsRefutationText v rest)
    ⊎ ((fault : DocFault) × IsDocumentFault Unsatisfiable IsFaultOf text fault)
refutation_or_fault text = shown_or_fault Unsatisfiable text IsFaultOf IsRefutationText either
  where
    either : (v : Version) (rest : List ℕ)
        → IsRefutationText v rest ⊎ ((fault : DocFault) × IsFaultOf v rest first_body_line fault)
    either v rest =
        ⊎_elim (λ (good : IsReadableBody v rest). inl ((body.readable_is_refutation v rest).0 good))
        (λ (bad : (fault : DocFault) × IsFaultOf v rest first_body_line fault). inr bad)
        (body.readable_or_fault v rest first_body_line)

pub some_verdict : SomeVerdict
some_verdict text = go (refutation_or_fault text)
  where
    go : Shows Unsatisfiable text (λ v p rest. IsRefutationText v rest)
        ⊎ ((fault : DocFault) × IsDocumentFault Unsatisfiable IsFaultOf text fault)
        → (w : Verdict) × IsVerdict text w
    go (inl x) =
        let p = x.problem in
        let r = x.holds.0 in
        let found = of_graph x.version x.body p r x.holds.2 (some_graph MOST_NODES p.negated p.formula) in (
          found.0,
          shown text found.0 (record {
            version = x.version;
            problem = p;
            body = x.body;
            has_head = x.has_head;
            holds = (r, x.holds.1, x.holds.2, found.1);
          }),
        )
    go (inr (fault, bad)) = (Unreadable fault, bad)

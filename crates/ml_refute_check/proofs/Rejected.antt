-- Documents that show a refutation, as they are read and rejected.
--
--   as_many_lines     == as many entries begin at lines as there are
--   shown_so          == what holds of what was read of a text, of this it shows
--   accepted_there    == a text whose refutation is accepted
--   rejected_there    == a text is rejected at the line of the first bad part
--   without_graph     == or at the line of the formula
--   migrated          == what is written of what was read
use Rattle.std.proofs.Common.{◌≡◌, ℕ, ◌+◌, List, [], ◌∷◌, Some, length, get_or, map, slice_get, inl, inr, refl, sym, ap, ◌∙◌, subst, arith}
use Rattle.std.proofs.lemmas.List.{length-map}
use Rattle.std.proofs.lemmas.Option.{slice_get-get_or}
use Rattle.ml_base.specs.declared.version.Version.{Version}
use Rattle.ml_base.specs.declared.version.Version.TheVariants.{Two}
use Rattle.ml_graph.specs.Graph.{Graph}
use Rattle.ml_front.specs.Graphs.{HasLargeClosure, IsGraphOf}
use Rattle.ml_front.specs.declared.problem.Problem.{Problem}
use Rattle.ml_front.specs.declared.problem.TheConstants.{MOST_NODES}
use Rattle.ml_refutation.specs.Refutation.{Entry, Refutation}
use Rattle.ml_refutation.specs.Acceptance.{entry_at, IsAccepted, IsFirstBad}
use Rattle.ml_refutation.specs.declared.refutation.Refutation as held
use Rattle.ml_refutation_text.specs.PartLines.{parts_from, entry_size}
use Rattle.ml_refutation_text.specs.declared.lines.EntryLines.{EntryLines}
use Rattle.ml_refutation_text.specs.declared.lines.Lines.{Lines}
use Rattle.ml_refute_check.specs.Documents.{Finds, IsDocument, IsDocumentOf, IsMigrated, ShowsRefutation, formula_line, line_of}
use Rattle.ml_refute_check.specs.Laws.{IsAcceptedDocument}
use Rattle.ml_refute_check.specs.WrittenDocument.{document_of}
use Rattle.ml_refute_check.specs.declared.verdict.Verdict.TheVariants.{Accepted, Rejected}
use Rattle.ml_refute_check.specs.private.Parts.{plain, plain_entry}
use Rattle.ml_refute_check.specs.private.Shown.{IsShown}
use Rattle.ml_front.proofs.Logics.{parsed_well}
use Rattle.ml_refute_check.proofs.Accepted.{documents_read_back, some_document}

abbrev pub IsClosed : Problem → Type 0
IsClosed p = ¬ (HasLargeClosure p MOST_NODES)

pub length-parts : (v : Version) (n : ℕ) (es : List Entry) → length (parts_from v n es) ≡ length es
length-parts v n [] = refl
length-parts v n (e ∷ es) = let rest = length-parts v (n + entry_size v e) es in omega (arith, rest)

pub as_many_lines : (text : List ℕ) (p : Problem) (r : held.Refutation) (lines : Lines) → IsShown text p r lines
    → length lines.entries.items ≡ length r.entries.items
as_many_lines text p r lines shown =
    ap length shown.are_lines.are_parts ∙ length-parts shown.version _ (map (plain_entry r) r.entries.items)
    ∙ length-map r.entries.items (plain_entry r)

-- of what was read
shown_so : (text : List ℕ) (p : Problem) (r : held.Refutation) (lines : Lines) (shown : IsShown text p r lines)
    (P : Version → List ℕ → Problem → Refutation → Type 0)
    → P shown.version shown.body p (plain r)
    → ShowsRefutation text P
shown_so text p r lines shown P holds = record {
  version = shown.version;
  problem = p;
  body = shown.body;
  has_head = shown.has_head;
  holds = (plain r, r.is_refutation, shown.has_body, holds);
}

pub accepted_there : (text : List ℕ) (p : Problem) (r : held.Refutation) (lines : Lines)
    → IsShown text p r lines
    → (g : Graph)
    → IsGraphOf g p
    → IsClosed p
    → IsAccepted g (plain r)
    → IsAcceptedDocument text
accepted_there text p r lines shown g is_graph closed accepted =
    shown_so text p r lines shown (Finds Accepted)
    (closed, record { graph = g; is_graph = is_graph; holds = accepted })

pub without_graph : (text : List ℕ) (p : Problem) (r : held.Refutation) (lines : Lines)
    → IsShown text p r lines
    → HasLargeClosure p MOST_NODES
    → ShowsRefutation text (Finds (Rejected formula_line 1))
without_graph text p r lines shown large =
    shown_so text p r lines shown (Finds (Rejected formula_line 1)) (inl (large, refl, refl))

pub rejected_there : (text : List ℕ) (p : Problem) (r : held.Refutation) (lines : Lines)
    (shown : IsShown text p r lines)
    (g : Graph) (entry part number line : ℕ)
    → IsGraphOf g p
    → IsClosed p
    → IsFirstBad g (plain r) entry part number
    → ((at : EntryLines) → slice_get lines.entries.items entry ≡ Some at
    → line ≡ line_of at (length (entry_at (plain r) entry).traces.items) part)
    → ShowsRefutation text (Finds (Rejected line number))
rejected_there text p r lines shown g entry part number line is_graph closed first told =
    let none : EntryLines = record { sequent = 0; live = 0; items = 0; heights = 0; decision = 0 } in
    let there =
    slice_get-get_or lines.entries.items entry none
    (omega (arith, first.is_entry, as_many_lines text p r lines shown, length-map r.entries.items (plain_entry r))) in
    shown_so text p r lines shown (Finds (Rejected line number)) (inr (
      closed,
      record {
        graph = g;
        is_graph = is_graph;
        holds = record {
          entry = entry;
          part = part;
          is_first = first;
          lines = lines.entries.items;
          are_lines = shown.are_lines;
          at = get_or lines.entries.items entry none;
          of_entry = there;
          is_line = told (get_or lines.entries.items entry none) there;
        };
      },
    ))

pub migrated : (text out : List ℕ) (p : Problem) (r : held.Refutation) (lines : Lines)
    → IsShown text p r lines
    → out ≡ document_of p (plain r)
    → IsMigrated text out
migrated text out p r lines shown is =
    let of : IsDocumentOf p (plain r) out =
    subst (IsDocumentOf p (plain r)) (sym is) (some_document p (plain r) r.is_refutation) in
    shown_so text p r lines shown (λ v body q s. IsDocumentOf q s out × IsDocument out Two q s) (
      of,
      documents_read_back p (plain r) out
          (parsed_well shown.has_head.formula_text p.formula shown.has_head.is_parsed) r.is_refutation of,
    )

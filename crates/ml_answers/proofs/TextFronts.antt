-- Fronts of texts.
--
--   Taken P text   == the text begins with one of which P is true
--   some_line      == a line has an LF
--   line_is_there  == a text begins with its first line
--   end_there      == and with what stands up to and with its first line `end`
--   nothing_taken  == and with nothing
--   taken_then     == it begins with two parts, where behind the first one it begins with the second
--   fault_then     == a fault behind two parts
use Rattle.std.proofs.Common.{◌≡◌, ℕ, ◌+◌, ◌<◌, List, [], ◌∷◌, ◌++◌, Option, None, Some, codes, length, take, drop, position, refl, sym, ap, subst, ◌∙◌, arith}
use Rattle.std.specs.List.{join_with_byte}
use Rattle.std.proofs.lemmas.List.{append-nil, append_assoc, length-append, take-append-drop}
use Rattle.std.proofs.lemmas.List.Splits.{join_with_byte-slice_split}
use Rattle.ml_base.specs.declared.doc_fault.DocFault.{DocFault}
use Rattle.ml_lines.specs.Lines.{Line, Word, line_text}
use Rattle.ml_lines.specs.Reading.{is_line_end, words_of}
use Rattle.ml_lines.proofs.Cuts.{line_at, line_none}
use Rattle.ml_answers.specs.Rules.{IsBehind}
use Rattle.ml_answers.specs.Texts.{first_line, first_of, line_count, next_line, up_to_end, up_to_line_at, IsNothing, IsThen}
use Rattle.ml_answers.proofs.FirstLines.{text_at}
use Rattle.ml_answers.proofs.Reading.{count_append}

pub record Taken (P : List ℕ → Type 0) (text : List ℕ) : Type 0 where
  pub front : List ℕ
  pub rest : List ℕ
  pub are_both : text ≡ front ++ rest
  pub is_front : P front

pub some_line : (ws : Line) → 0 < length (line_text ws)
some_line ws = let lf : List ℕ = 10 ∷ [] in omega (arith, length-append (join_with_byte 32 ws) lf)

-- ---- the first line

pub line_is_there : (text : List ℕ) (w : Word) (ws : Line)
    → next_line text ≡ w ∷ ws
    → (rest : List ℕ) × (text ≡ line_text (w ∷ ws) ++ rest)
line_is_there text w ws is = by (position is_line_end text) refl
  where
    by : (o : Option ℕ) → position is_line_end text ≡ o → (rest : List ℕ) × (text ≡ line_text (w ∷ ws) ++ rest)
    by None none =
        let nothing : [] ≡ w ∷ ws = sym (ap first_of (line_none text none).0) ∙ is in absurd cc
    by (Some i) at =
        let front = take i text in
        let behind = drop (i + 1) text in
        let words : w ∷ ws ≡ words_of front = sym is ∙ ap first_of (line_at text i at).0 in
        let bytes : line_text (w ∷ ws) ≡ front ++ 10 ∷ [] =
        ap line_text words ∙ ap (λ l. l ++ 10 ∷ []) (join_with_byte-slice_split 32 front) in (
          behind,
          text_at text i at
              ∙ sym (append_assoc front (10 ∷ []) behind)
              ∙ ap (λ l. l ++ behind) (sym bytes),
        )

-- ---- up to `end`

pub end_there : (text : List ℕ) → (rest : List ℕ) × (text ≡ up_to_end text ++ rest)
end_there text = by (first_line (codes "end") text)
  where
    by : (o : Option ℕ) → (rest : List ℕ) × (text ≡ up_to_line_at o text ++ rest)
    by None = ([], sym (append-nil text))
    by (Some at) = (drop (at + 4) text, sym (take-append-drop (at + 4) text))

-- ---- parts

pub nothing_taken : (text : List ℕ) → Taken IsNothing text
nothing_taken text = record { front = []; rest = text; are_both = refl; is_front = refl }

pub taken_then : (P Q : List ℕ → Type 0) (text front rest : List ℕ)
    → text ≡ front ++ rest
    → P front
    → Taken Q rest
    → Taken (IsThen P Q) text
taken_then P Q text front rest both is behind = record {
  front = front ++ behind.front;
  rest = behind.rest;
  are_both =
      both
      ∙ ap (λ t. front ++ t) behind.are_both
      ∙ sym (append_assoc front behind.front behind.rest);
  is_front = record {
    first = front;
    second = behind.front;
    are_both = refl;
    is_first = is;
    is_second = behind.is_front;
  };
}

pub fault_then : (P Q R : List ℕ → Type 0) (F : ℕ → List ℕ → DocFault → Type 0) (k : ℕ) (text : List ℕ) (fault : DocFault)
    → ((t : List ℕ) → Q t → R t)
    → (taken : Taken (IsThen P Q) text)
    → F (k + line_count taken.front) taken.rest fault
    → IsBehind P (IsBehind R F) k text fault
fault_then P Q R F k text fault turn taken is =
    let both = taken.is_front in
    let line : k + line_count taken.front ≡ k + line_count both.first + line_count both.second =
    omega (arith, ap line_count both.are_both, count_append both.first both.second) in
    record {
      front = both.first;
      rest = both.second ++ taken.rest;
      are_both =
          taken.are_both
          ∙ ap (λ t. t ++ taken.rest) both.are_both
          ∙ append_assoc both.first both.second taken.rest;
      is_front = both.is_first;
      is_fault = record {
        front = both.second;
        rest = taken.rest;
        are_both = refl;
        is_front = turn both.second both.is_second;
        is_fault = subst (λ n. F n taken.rest fault) line is;
      };
    }

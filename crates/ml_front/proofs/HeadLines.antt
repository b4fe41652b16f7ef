-- The lines of a head.
--
--   title_words, ..        == the words of each line of a head
--   head_read              == the lines of a text that is a head, and then those of its rest
--   one_head               == a text is a head about one problem at most
use Rattle.std.proofs.Common.{◌≡◌, ℕ, Bool, true, false, List, [], ◌∷◌, ◌++◌, length, drop, codes, get_or, slice_index_or, refl, sym, ap, subst, ◌∙◌, append_assoc, arith}
use Rattle.std.specs.List.{join_with_byte}
use Rattle.std.proofs.lemmas.List.{append_cancel_left}
use Rattle.std.proofs.lemmas.List.Splits.{slice_split_at, join_with_byte-slice_split}
use Rattle.ml_base.specs.declared.version.Version.{Version}
use Rattle.ml_base.specs.declared.version.Version.TheVariants.{One, Two}
use Rattle.ml_lines.specs.Lines.{Line, line_text, text_of}
use Rattle.ml_lines.specs.Reading.{lines_of, left_of, words_of, is_blank}
use Rattle.ml_lines.proofs.LineFronts.{IsInLine, none_passes, line_front}
use Rattle.ml_lines.proofs.WrittenLines.{line_read}
use Rattle.ml_front.specs.Head.{version_word, title_line, answer_line, logic_line, sense_line, sense_word, lines_about}
use Rattle.ml_front.specs.HeadRules.{IsHead}
use Rattle.ml_front.specs.Laws.{OneHead}
use Rattle.ml_front.specs.declared.answer.Answer.{Answer}
use Rattle.ml_front.specs.declared.answer.Answer.TheVariants.{Satisfiable, Unsatisfiable, Undecided}
use Rattle.ml_front.specs.Logics.{logic_of, IsParsedAs}
use Rattle.ml_front.specs.declared.logic.Logic.{Logic}
use Rattle.ml_front.specs.declared.logic.Logic.TheVariants as logic
use Rattle.ml_front.specs.declared.problem.Problem.{Problem}
use Rattle.ml_front.proofs.Logics.{formula_once, one_logic}

-- ---- the lines of a text that begins with a line

abbrev bytes_of : Line → List ℕ
bytes_of line = join_with_byte 32 line

-- the lines of a text, and what is left behind them
record Reads (text : List ℕ) (lines : List Line) (left : List ℕ) : Type 0 where
  pub lines_are : lines_of text ≡ lines
  pub left_is : left_of text ≡ left

one_more : (line words : Line) (behind : List Line) (rest : List ℕ) (lines : List Line) (left : List ℕ)
    → IsInLine (bytes_of line)
    → words_of (bytes_of line) ≡ words → Reads (text_of behind ++ rest) lines left → Reads (text_of (line ∷ behind) ++ rest) (words ∷ lines) left
one_more line words behind rest lines left is same reads =
    let bytes =
    append_assoc (line_text line) (text_of behind) rest ∙ append_assoc (bytes_of line) (10 ∷ []) (text_of behind ++ rest) in
    let front = line_front (bytes_of line) (text_of behind ++ rest) is in
    record {
      lines_are = ap lines_of bytes ∙ front.0 ∙ ap (λ w. w ∷ lines_of (text_of behind ++ rest)) same ∙ ap (λ ls. words ∷ ls) reads.lines_are;
      left_is = ap left_of bytes ∙ front.1 ∙ reads.left_is;
    }

-- ---- the words of the lines

title_words : (v : Version) → words_of (bytes_of (title_line v)) ≡ title_line v
title_words One = line_read (codes "mlsolver") (codes "1" ∷ []) (refl, (refl, tt))
title_words Two = line_read (codes "mlsolver") (codes "2" ∷ []) (refl, (refl, tt))

title_in_line : (v : Version) → IsInLine (bytes_of (title_line v))
title_in_line One = refl
title_in_line Two = refl

answer_words : (a : Answer) → words_of (bytes_of (answer_line a)) ≡ answer_line a
answer_words Satisfiable = line_read (codes "answer") (codes "satisfiable" ∷ []) (refl, (refl, tt))
answer_words Unsatisfiable = line_read (codes "answer") (codes "unsatisfiable" ∷ []) (refl, (refl, tt))
answer_words Undecided = line_read (codes "answer") (codes "undecided" ∷ []) (refl, (refl, tt))

answer_in_line : (a : Answer) → IsInLine (bytes_of (answer_line a))
answer_in_line Satisfiable = refl
answer_in_line Unsatisfiable = refl
answer_in_line Undecided = refl

logic_words : (l : Logic) → words_of (bytes_of (logic_line l)) ≡ logic_line l
logic_words logic.Mu = line_read (codes "logic") (codes "mu" ∷ []) (refl, (refl, tt))
logic_words logic.Pdl = line_read (codes "logic") (codes "pdl" ∷ []) (refl, (refl, tt))
logic_words logic.Ctl = line_read (codes "logic") (codes "ctl" ∷ []) (refl, (refl, tt))
logic_words logic.Ltl = line_read (codes "logic") (codes "ltl" ∷ []) (refl, (refl, tt))
logic_words logic.Word = line_read (codes "logic") (codes "word" ∷ []) (refl, (refl, tt))

logic_in_line : (l : Logic) → IsInLine (bytes_of (logic_line l))
logic_in_line logic.Mu = refl
logic_in_line logic.Pdl = refl
logic_in_line logic.Ctl = refl
logic_in_line logic.Ltl = refl
logic_in_line logic.Word = refl

sense_words : (negated : Bool) → words_of (bytes_of (sense_line negated)) ≡ sense_line negated
sense_words false = line_read (codes "sense") (codes "plain" ∷ []) (refl, (refl, tt))
sense_words true = line_read (codes "sense") (codes "negated" ∷ []) (refl, (refl, tt))

sense_in_line : (negated : Bool) → IsInLine (bytes_of (sense_line negated))
sense_in_line false = refl
sense_in_line true = refl

formula_words : (text : List ℕ) → words_of (bytes_of (codes "formula" ∷ text ∷ [])) ≡ codes "formula" ∷ words_of text
formula_words text = slice_split_at is_blank (codes "formula") 32 text (none_passes is_blank (codes "formula") refl) refl

abbrev pub lines_read : Version → Answer → Logic → Bool → List ℕ → List ℕ → List Line
lines_read v a l negated text rest =
    title_line v ∷ answer_line a ∷ logic_line l ∷ sense_line negated ∷ (codes "formula" ∷ words_of text) ∷ lines_of rest

about_read : (v : Version) (a : Answer) (l : Logic) (negated : Bool) (text rest : List ℕ) → IsInLine text
    → Reads (text_of (lines_about v a l negated text) ++ rest) (lines_read v a l negated text rest) (left_of rest)
about_read v a l negated text rest plain =
    let given : Line = codes "formula" ∷ text ∷ [] in
    let words : Line = codes "formula" ∷ words_of text in
    let more = lines_of rest in
    let left = left_of rest in
    one_more (title_line v) (title_line v) (answer_line a ∷ logic_line l ∷ sense_line negated ∷ given ∷ []) rest
    (answer_line a ∷ logic_line l ∷ sense_line negated ∷ words ∷ more) left (title_in_line v) (title_words v)
    (one_more (answer_line a) (answer_line a) (logic_line l ∷ sense_line negated ∷ given ∷ []) rest
    (logic_line l ∷ sense_line negated ∷ words ∷ more) left (answer_in_line a) (answer_words a)
    (one_more (logic_line l) (logic_line l) (sense_line negated ∷ given ∷ []) rest (sense_line negated ∷ words ∷ more) left
    (logic_in_line l) (logic_words l)
    (one_more (sense_line negated) (sense_line negated) (given ∷ []) rest (words ∷ more) left (sense_in_line negated) (sense_words negated)
    (one_more given words [] rest more left plain (formula_words text) (record { lines_are = refl; left_is = refl })))))

pub head_read : (a : Answer) (text : List ℕ) (v : Version) (p : Problem) (rest : List ℕ) (h : IsHead a text v p rest)
    → lines_of text ≡ lines_read v a (logic_of p.formula) p.negated h.formula_text rest
head_read a text v p rest h =
    ap lines_of h.is_text ∙ (about_read v a (logic_of p.formula) p.negated h.formula_text rest h.in_one_line).lines_are

-- ---- one head

one_version : (v w : Version) → version_word v ≡ version_word w → v ≡ w
one_version One One e = refl
one_version Two Two e = refl
one_version One Two e = absurd (omega (arith, ap (λ l. get_or l 0 0) e))
one_version Two One e = absurd (omega (arith, ap (λ l. get_or l 0 0) e))

one_sense : (m n : Bool) → sense_word m ≡ sense_word n → m ≡ n
one_sense false false e = refl
one_sense true true e = refl
one_sense false true e = absurd (omega (arith, ap length e))
one_sense true false e = absurd (omega (arith, ap length e))

pub one_head : OneHead
one_head a text v w p q rest more h k =
    let same = sym (head_read a text v p rest h) ∙ head_read a text w q more k in
    let version : v ≡ w = one_version v w (ap (λ ls. slice_index_or (slice_index_or ls 0 []) 1 []) same) in
    let logic : logic_of p.formula ≡ logic_of q.formula =
    one_logic (logic_of p.formula) (logic_of q.formula) (ap (λ ls. slice_index_or (slice_index_or ls 2 []) 1 []) same) in
    let sense : p.negated ≡ q.negated =
    one_sense p.negated q.negated (ap (λ ls. slice_index_or (slice_index_or ls 3 []) 1 []) same) in
    let words : words_of h.formula_text ≡ words_of k.formula_text = ap (λ ls. drop 1 (slice_index_or ls 4 [])) same in
    let given : h.formula_text ≡ k.formula_text =
    sym (join_with_byte-slice_split 32 h.formula_text) ∙ ap (join_with_byte 32) words ∙ join_with_byte-slice_split 32 k.formula_text in
    let formula : p.formula ≡ q.formula =
    formula_once k.formula_text p.formula q.formula logic (subst (λ t. IsParsedAs t p.formula) given h.is_parsed) k.is_parsed in
    let lines = lines_about w a (logic_of q.formula) q.negated k.formula_text in
    let front : text_of (lines_about v a (logic_of p.formula) p.negated h.formula_text) ≡ text_of lines =
    (λ i. text_of (lines_about (version i) a (logic i) (sense i) (given i))) in (
      version,
      λ i. record { formula = formula i; negated = sense i },
      append_cancel_left (text_of lines) rest more (ap (λ f. f ++ rest) (sym front) ∙ sym h.is_text ∙ k.is_text),
    )

-- The text of a refutation at the front of a text, which is cut behind its first line `end`.
--
--   AreOther kinds   == lines of these kinds begin with a word that is shorter or longer than `end`
--   place_step       == the line `end` of a refutation stands at its end, and only there
--   runs_ended       == so it is the last of its lines
--   refutation_front == its text is what is cut off a text that it begins
use Rattle.std.proofs.Common.{◌≡◌, ◌≢◌, ℕ, ◌⊎◌, ◌==◌, nat_lt, Bool, true, false, cond, List, [], ◌∷◌, ◌++◌, codes, length, drop, inl, inr, refl, sym, ap, subst, ◌∙◌, arith}
use Rattle.std.specs.Prelude.{⊤}
use Rattle.std.specs.Str.{bytes_eq}
use Rattle.std.proofs.lemmas.Bool.{false≢true}
use Rattle.ml_base.specs.declared.version.Version.TheVariants.{Two}
use Rattle.ml_lines.specs.Lines.{Line}
use Rattle.ml_lines.specs.Reading.{lines_of, value, word}
use Rattle.ml_lines.proofs.Fronts.{have_words, HaveWords}
use Rattle.ml_lists.proofs.Entries.{same_head}
use Rattle.ml_lists.specs.Documents.{IsGood}
use Rattle.ml_lists.specs.Readings.{Runs}
use Rattle.ml_refutation.specs.Refutation.{Decision, Entry, Refutation, Split}
use Rattle.ml_refutation_text.specs.BodyRules.{Place, AtNames, AtSequents, AtTableSequent, AtStacks, AtTableStack, AtEntries, AtEntry}
use Rattle.ml_refutation_text.specs.BodyRules.{AtSequent, AtLive, AtItem, AtDecision, AtEnd, AtNothing}
use Rattle.ml_refutation_text.specs.BodyRules.{after, after_entry, at_entry, at_sequent_table, at_stack_table, body, closed, entry_kind, item_kind, kinds, leaf_of, stack_of, state_of, values, whole, with_item}
use Rattle.ml_refutation_text.specs.BodyRules.{Around, Begun, ByTables, Form, InFull, InLeft, InRight, Known}
use Rattle.ml_refutation_text.specs.Laws.{IsRefutationText}
use Rattle.ml_refutation_text.specs.LineKinds.{AGuess, ANumber, AnySize, Fixed, InSlots, IsOfKinds, Kind, Slot}
use Rattle.ml_answers.specs.Documents.{last_line}
use Rattle.ml_answers.specs.Texts.{up_to_end}
use Rattle.ml_answers.proofs.BodyEnds.{body_front, IsEnded}

-- ---- kinds of lines

abbrev SlotsOther : List Slot → Type 0
SlotsOther [] = ⊥
SlotsOther (Fixed w ∷ slots) = (length w == 3) ≡ false
SlotsOther (slot ∷ slots) = ⊥

abbrev AreOther : List Kind → Type 0
AreOther [] = ⊤
AreOther (k ∷ ks) = SlotsOther k.slots × AreOther ks

slots_other : (further : Bool) (slots : List Slot) (line : Line)
    → SlotsOther slots
    → InSlots further slots line
    → line ≢ last_line
slots_other further [] line other is = absurd other
slots_other further (Fixed w ∷ slots) [] other is = absurd is
slots_other further (Fixed w ∷ slots) (v ∷ line) other is = λ e.
    false≢true (sym other ∙ ap (λ u. length u == 3) (sym is.0 ∙ same_head v (codes "end") line [] e))
slots_other further (ANumber ∷ slots) line other is = absurd other
slots_other further (AGuess ∷ slots) line other is = absurd other
slots_other further (AnySize ∷ slots) line other is = absurd other

kinds_other : (ks : List Kind) (line : Line) → AreOther ks → IsOfKinds ks line → line ≢ last_line
kinds_other [] line other is = absurd is
kinds_other (k ∷ ks) line other (inl here) = slots_other k.further k.slots line other.0 here.1
kinds_other (k ∷ ks) line other (inr later) = kinds_other ks line other.1 later

end_line : (line : Line) → IsOfKinds (kinds (AtEnd (record { names = 0; entries = [] }))) line → line ≡ last_line
end_line line (inl here) = by line here.1
  where
    by : (line : Line) → InSlots false (Fixed (codes "end") ∷ []) line → line ≡ last_line
    by [] is = absurd is
    by (v ∷ vs) is = λ i. is.0 i ∷ is.1 i
end_line line (inr later) = absurd later

entry_other : (form : Form) → SlotsOther (entry_kind form).slots
entry_other InFull = refl
entry_other (ByTables qs ks) = refl

item_other : (form : Form) → SlotsOther (item_kind form).slots
item_other InFull = refl
item_other (ByTables qs ks) = refl

-- ---- places

-- something is still to come
abbrev IsEarly : Place → Type 0
IsEarly (AtNothing r) = ⊥
IsEarly p = ⊤

early_if : (b : Bool) (p q : Place) → IsEarly p → IsEarly q → IsEarly (cond b p q)
early_if true p q one other = one
early_if false p q one other = other

sequents_early : (n size : ℕ) (rows : List (List ℕ)) → IsEarly (at_sequent_table n size rows)
sequents_early n size rows = early_if (nat_lt (length rows) size) (AtTableSequent n size rows) (AtStacks n rows) tt tt

stacks_early : (n : ℕ) (qs : List (List ℕ)) (size : ℕ) (rows : List (List ℕ)) → IsEarly (at_stack_table n qs size rows)
stacks_early n qs size rows =
    early_if (nat_lt (length rows) size) (AtTableStack n qs size rows) (AtEntries n (ByTables qs rows)) tt tt

entry_early : (k : Known) (es : List Entry) → IsEarly (at_entry k es)
entry_early k es =
    early_if (nat_lt (length es) k.wanted) (AtEntry k es) (AtEnd (record { names = k.names; entries = es })) tt tt

after_entry_early : (form : Form) (k : Known) (es : List Entry) (line : Line) → IsEarly (after_entry form k es line)
after_entry_early InFull k es line = tt
after_entry_early (ByTables qs ks) k es line = tt

closed_early : (k : Known) (es : List Entry) (b : Begun) (around : List Around) (d : Decision) → IsEarly (closed k es b around d)
closed_early k es b [] d = entry_early k (es ++ whole b d ∷ [])
closed_early k es b (InLeft n ∷ around) d = tt
closed_early k es b (InRight n left ∷ around) d = closed_early k es b around (Split n left d)

abbrev IsStep : Place → Line → Type 0
IsStep p line =
    ((line ≡ last_line) × ((r : Refutation) × (after Two p line ≡ AtNothing r)))
    ⊎ ((line ≢ last_line) × IsEarly (after Two p line))

place_step : (p : Place) (line : Line) → IsEarly p → IsGood (body Two []) p line → IsStep p line
place_step AtNames line early good = inr (kinds_other (kinds AtNames) line (refl, tt) good.0, tt)
place_step (AtSequents n) line early good =
    inr (kinds_other (kinds (AtSequents n)) line (refl, tt) good.0, sequents_early n (value (word line 1)) [])
place_step (AtTableSequent n size rows) line early good =
    inr (
      kinds_other (kinds (AtTableSequent n size rows)) line (refl, tt) good.0,
      sequents_early n size (rows ++ values (drop 1 line) ∷ []),
    )
place_step (AtStacks n qs) line early good =
    inr (kinds_other (kinds (AtStacks n qs)) line (refl, tt) good.0, stacks_early n qs (value (word line 1)) [])
place_step (AtTableStack n qs size rows) line early good =
    inr (
      kinds_other (kinds (AtTableStack n qs size rows)) line (refl, tt) good.0,
      stacks_early n qs size (rows ++ values (drop 1 line) ∷ []),
    )
place_step (AtEntries n form) line early good =
    inr (
      kinds_other (kinds (AtEntries n form)) line (refl, tt) good.0,
      entry_early (record { names = n; form = form; wanted = value (word line 1) }) [],
    )
place_step (AtEntry k es) line early good =
    inr (kinds_other (kinds (AtEntry k es)) line (entry_other k.form, tt) good.0, after_entry_early k.form k es line)
place_step (AtSequent k es) line early good = inr (kinds_other (kinds (AtSequent k es)) line (refl, tt) good.0, tt)
place_step (AtLive k es q) line early good = inr (kinds_other (kinds (AtLive k es q)) line (refl, tt) good.0, tt)
place_step (AtItem k es q traces) line early good =
    inr (
      kinds_other (kinds (AtItem k es q traces)) line (item_other k.form, (refl, tt)) good.0,
      early_if (bytes_eq (word line 0) (codes "heights"))
          (AtDecision k es (record { sequent = q; traces = traces; heights = values (drop 1 line) }) [])
          (AtItem k es q (with_item traces (record { state = state_of line; stack = stack_of k.form line }))) tt tt,
    )
place_step (AtDecision k es b around) line early good =
    inr (
      kinds_other (kinds (AtDecision k es b around)) line
          (refl, (refl, (refl, (refl, (refl, (refl, (refl, tt))))))) good.0,
      early_if (bytes_eq (word line 0) (codes "split"))
          (AtDecision k es b (InLeft (value (word line 1)) ∷ around))
          (closed k es b around (leaf_of line)) tt (closed_early k es b around (leaf_of line)),
    )
place_step (AtEnd r) line early good = inl (end_line line good.0, (r, refl))
place_step (AtNothing r) line early good = absurd early

-- ---- all lines

nothing_behind : (lines : List Line) (p : Place) (s : Refutation) (q : Place)
    → p ≡ AtNothing s
    → HaveWords lines
    → Runs (body Two []) p lines q
    → lines ≡ []
nothing_behind [] p s q at words runs = refl
nothing_behind (line ∷ lines) p s q at words runs =
    let good : IsGood (body Two []) (AtNothing s) line = subst (λ x. IsGood (body Two []) x line) at runs.0 in
    let none : line ≡ [] = good.0.0 in
    absurd (omega (arith, words.0, ap length none))

runs_ended : (p : Place) (lines : List Line) (r : Refutation)
    → IsEarly p
    → HaveWords lines
    → Runs (body Two []) p lines (AtNothing r)
    → IsEnded lines
runs_ended p [] r early words runs = subst IsEarly runs early
runs_ended p (line ∷ lines) r early words runs =
    by (place_step p line early runs.0) (λ still. runs_ended (after Two p line) lines r still words.1 runs.1)
  where
    by : IsStep p line → (IsEarly (after Two p line) → IsEnded lines) → IsEnded (line ∷ lines)
    by (inl (is, (s, at))) later =
        inl (is, nothing_behind lines (after Two p line) s (AtNothing r) at words.1 runs.1)
    by (inr (other, still)) later = inr (other, later still)

pub refutation_front : (text rest : List ℕ) → IsRefutationText Two text → up_to_end (text ++ rest) ≡ text
refutation_front text rest (r, is, of) =
    body_front text rest (runs_ended AtNames (lines_of text) r tt (have_words text) of.runs) of.none_left

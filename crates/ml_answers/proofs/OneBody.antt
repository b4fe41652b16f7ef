-- The bodies of answers are read in one way only.
--
--   once_model, once_refutation == a structure, and a refutation
--   parts_once       == the parts that a line names
--   IsOfLine         == the answer may stand where q is asked of the requirements in S, and this is its line
--   one_marks        == words behind `because` are those of one list of marks
--   body_once        == so there is one body, of one answer, behind a line
use Rattle.std.proofs.Common.{◌≡◌, ℕ, ◌+◌, ◌⊎◌, ◌==◌, Bool, true, false, not, List, [], ◌∷◌, ◌++◌, codes, length, map, inl, inr, refl, sym, ap, subst, ◌∙◌}
use Rattle.std.proofs.lemmas.Bool.{false≢true}
use Rattle.std.proofs.lemmas.List.{append_cancel_left}
use Rattle.std.specs.List.{list_any}
use Rattle.ml_base.specs.Structure.{Structure}
use Rattle.ml_base.specs.declared.doc_fault.DocFault.{DocFault}
use Rattle.ml_base.specs.declared.version.Version.TheVariants.{Two}
use Rattle.ml_kripke.specs.BodyRules as model
use Rattle.ml_kripke.specs.Laws.{IsModelText}
use Rattle.ml_kripke.proofs.OneFault as model_faults
use Rattle.ml_kripke.proofs.OneText.{one_text}
use Rattle.ml_lines.specs.Lines.{Line, Word}
use Rattle.ml_lists.proofs.Entries.{same_head, same_tail}
use Rattle.ml_refutation.specs.Refutation.{Refutation}
use Rattle.ml_refutation_text.specs.BodyRules as refutation
use Rattle.ml_refutation_text.specs.Laws.{IsRefutationText}
use Rattle.ml_refutation_text.proofs.RefutationTexts as refutation_texts
use Rattle.ml_spec.specs.declared.question.Question.{Question}
use Rattle.ml_spec.specs.declared.specification.Item.{Item}
use Rattle.ml_replies.specs.Replies.{Core, Part, Reply, LeftOpen, Met, StillMet, StillOpen, Unmet, Without}
use Rattle.ml_answers.specs.Documents.{without_line, ArePartsText, IsBody, IsModel, IsRefutationOf, IsWithoutText}
use Rattle.ml_answers.specs.Due.{is_of_conflict, Fits}
use Rattle.ml_answers.specs.Lines.{because_words, is_met, line_of, perhaps_words, question_words, reply_words, wants_structure, yes_or_no}
use Rattle.ml_answers.specs.Rules.{fixed_rules, replied, ArePartsFault, IsBehind, IsBodyFault, IsModelFault, IsPartFault, IsRefutationFault, IsWithoutFault}
use Rattle.ml_answers.specs.Texts.{up_to_end, IsLine, IsThen}
use Rattle.ml_answers.specs.private.Marks.{is_named, is_needed, is_unsettled, names_by, perhaps, scan, MarkedBy}
use Rattle.ml_answers.specs.private.Reads.{ArePartsOf}
use Rattle.ml_answers.specs.declared.names.Mark.{Mark}
use Rattle.ml_answers.specs.declared.names.Mark.TheVariants.{Unnamed, Needed, Perhaps}
use Rattle.ml_answers.proofs.BodyEnds.{model_front}
use Rattle.ml_answers.proofs.MarkedCores.{core_marks, parts_words, some_named, IsMadeBy}
use Rattle.ml_answers.proofs.Marking.{AreNamed, Differ}
use Rattle.ml_answers.proofs.OnlyOnce.{behind_as, behind_both, once_as, once_behind_line, once_then, Once}
use Rattle.ml_answers.proofs.PlainAnswers.{without_plain}
use Rattle.ml_answers.proofs.RefutationEnds.{refutation_front}
use Rattle.ml_answers.proofs.Splitting.{marked_found, some_same}

-- ---- structures and refutations

abbrev pub IsModelAs : Structure × ℕ → List ℕ → Type 0
IsModelAs a t = IsModel a.0 a.1 t

model_is : (a : Structure × ℕ) (t : List ℕ) → IsModelAs a t → IsModelText t
model_is a t is = (a.0, a.1, is.0, is.1, is.2)

pub once_model : Once (Structure × ℕ) IsModelAs IsModelFault
once_model = record {
  one = λ a b f g r s x y both.
      let same : f ≡ g =
      sym (model_front f r (model_is a f x)) ∙ ap up_to_end both ∙ model_front g s (model_is b g y) in
      let models = one_text a.0 b.0 a.1 b.1 x.0 y.0 (sym x.2 ∙ same ∙ y.2) in
      ((λ i. (models.0 i, models.1 i)), same);
  never = λ a f r k e x bad.
      model_faults.fault_or_model f k e (model_is a f x)
      (subst (λ t. model.IsFaultOf t k e) (model_front f r (model_is a f x)) bad);
  fault = λ k t e d x y. model_faults.one_fault (up_to_end t) k e d x y;
}

refutation_is : (a : Refutation) (t : List ℕ) → IsRefutationOf a t → IsRefutationText Two t
refutation_is a t is = (a, is.0, is.1)

pub once_refutation : Once Refutation IsRefutationOf IsRefutationFault
once_refutation = record {
  one = λ a b f g r s x y both.
      let same : f ≡ g =
      sym (refutation_front f r (refutation_is a f x)) ∙ ap up_to_end both ∙ refutation_front g s (refutation_is b g y) in (
        refutation_texts.one_refutation Two f a b x.0 y.0 x.1 (subst (λ t. refutation.IsTextOf Two t b) (sym same) y.1),
        same,
      );
  never = λ a f r k e x bad.
      refutation_texts.fault_or_readable Two f k e ((refutation_texts.readable_is_refutation Two f).1 (refutation_is a f x))
      (subst (λ t. refutation.IsFaultOf Two t k e) (refutation_front f r (refutation_is a f x)) bad);
  fault = λ k t e d x y. refutation_texts.one_fault Two (up_to_end t) k e d x y;
}

-- ---- parts

abbrev pub PartsText : List Item → ℕ → List Mark → List Part → List ℕ → Type 0
PartsText xs n ms ps t = ArePartsOf n ms ps × ArePartsText xs ps t

abbrev pub PartsFault : List Item → ℕ → List Mark → ℕ → List ℕ → DocFault → Type 0
PartsFault xs n ms k t e = (ps : List Part) × ArePartsOf n ms ps × ArePartsFault xs ps k t e

parts_none : (xs : List Item) (n : ℕ) → Once (List Part) (PartsText xs n []) (PartsFault xs n [])
parts_none xs n = record {
  one = λ ps qs f g r s x y both.
      let no : f ≡ [] = subst (λ zs. ArePartsText xs zs f) x.0 x.1 in
      let none : g ≡ [] = subst (λ zs. ArePartsText xs zs g) y.0 y.1 in
      (x.0 ∙ sym y.0, no ∙ sym none);
  never = λ ps f r k e x bad. subst (λ zs. ArePartsFault xs zs k (f ++ r) e) bad.1 bad.2;
  fault = λ k t e d x y. absurd (subst (λ zs. ArePartsFault xs zs k t e) x.1 x.2);
}

module _ (xs : List Item) (named : AreNamed xs) (n : ℕ) (ms : List Mark)
    (later : Once (List Part) (PartsText xs (n + 1) ms) (PartsFault xs (n + 1) ms)) where
  -- the line `without`, and the structure behind it
  abbrev ModelLine : Structure × ℕ → List ℕ → Type 0
  ModelLine a t = IsThen (IsLine (without_line xs n)) (IsModelAs a) t

  abbrev HasModelLine : List ℕ → Type 0
  HasModelLine t = IsThen (IsLine (without_line xs n)) IsModelText t

  model_line_once : Once (Structure × ℕ) ModelLine (IsWithoutFault xs n)
  model_line_once =
      once_behind_line (Structure × ℕ) IsModelAs IsModelFault (without_line xs n) (fixed_rules (without_line xs n))
      (without_plain xs named n) (refl, tt) once_model

  some_model : (t : List ℕ) → HasModelLine t → (a : Structure × ℕ) × ModelLine a t
  some_model t x =
      let m = x.is_second in (
        (m.0, m.1),
        record {
          first = x.first;
          second = x.second;
          are_both = x.are_both;
          is_first = x.is_first;
          is_second = (m.2, m.3, m.4);
        },
      )

  abbrev MetText : (Structure × ℕ) × List Part → List ℕ → Type 0
  MetText a t = IsThen (ModelLine a.0) (PartsText xs (n + 1) ms a.1) t

  abbrev MetFault : ℕ → List ℕ → DocFault → Type 0
  MetFault k t e = IsWithoutFault xs n k t e ⊎ IsBehind HasModelLine (PartsFault xs (n + 1) ms) k t e

  abbrev with_met : (Structure × ℕ) × List Part → List Part
  with_met a = record { requirement = n; without = StillMet a.0.0 a.0.1 } ∷ a.1

  met_turn : (ps : List Part) (t : List ℕ)
      → PartsText xs n (Needed ∷ ms) ps t
      → (a : (Structure × ℕ) × List Part) × MetText a t × (ps ≡ with_met a)
  met_turn [] t x = absurd x.0
  met_turn (p ∷ ps) t x = by p.without refl
    where
      by : (w : Without) → p.without ≡ w → (a : (Structure × ℕ) × List Part) × MetText a t × (p ∷ ps ≡ with_met a)
      by StillOpen e = absurd (false≢true (sym (ap is_met e) ∙ x.0.1))
      by (StillMet m s) e =
          let text = x.1 in
          let part = subst (λ w. IsWithoutText xs p.requirement w text.first) e text.is_first in (
            ((m, s), ps),
            record {
              first = text.first;
              second = text.second;
              are_both = text.are_both;
              is_first = subst (λ k. IsThen (IsLine (without_line xs k)) (IsModel m s) text.first) x.0.0 part;
              is_second = (x.0.2, text.is_second);
            },
            (λ i. record { requirement = x.0.0 i; without = e i } ∷ ps),
          )

  met_faults : (k : ℕ) (t : List ℕ) (e : DocFault) → PartsFault xs n (Needed ∷ ms) k t e → MetFault k t e
  met_faults k t e ([], parts, bad) = absurd parts
  met_faults k t e ((p ∷ ps), parts, bad) = by p.without refl
    where
      split : IsPartFault xs n (StillMet (record { states = 0; labels = []; edges = [] }) 0) (ArePartsFault xs ps) k t e
          → MetFault k t e
      split (inl here) = inl here
      split (inr b) =
          inr (behind_as (IsThen (IsLine (without_line xs n)) IsModelText) HasModelLine (ArePartsFault xs ps)
          (PartsFault xs (n + 1) ms) k t e (λ u is. is) (λ j u f. (ps, parts.2, f))
          (behind_both (IsLine (without_line xs n)) IsModelText (ArePartsFault xs ps) k t e b))

      by : (w : Without) → p.without ≡ w → MetFault k t e
      by StillOpen is = absurd (false≢true (sym (ap is_met is) ∙ parts.1))
      by (StillMet m s) is =
          split (subst (λ j. IsPartFault xs j (StillMet m s) (ArePartsFault xs ps) k t e) parts.0
          (subst (λ w. IsPartFault xs p.requirement w (ArePartsFault xs ps) k t e) is bad))

  needed_once : Once (List Part) (PartsText xs n (Needed ∷ ms)) (PartsFault xs n (Needed ∷ ms))
  needed_once =
      once_as ((Structure × ℕ) × List Part) (List Part) MetText (PartsText xs n (Needed ∷ ms)) MetFault
      (PartsFault xs n (Needed ∷ ms)) with_met met_turn met_faults
      (once_then (Structure × ℕ) (List Part) ModelLine HasModelLine (PartsText xs (n + 1) ms) (IsWithoutFault xs n)
      (PartsFault xs (n + 1) ms) some_model model_line_once later)

  -- ---- a part that stays open

  abbrev with_open : List Part → List Part
  with_open ps = record { requirement = n; without = StillOpen } ∷ ps

  open_turn : (ps : List Part) (t : List ℕ)
      → PartsText xs n (Perhaps ∷ ms) ps t
      → (qs : List Part) × PartsText xs (n + 1) ms qs t × (ps ≡ with_open qs)
  open_turn [] t x = absurd x.0
  open_turn (p ∷ ps) t x = by p.without refl
    where
      by : (w : Without) → p.without ≡ w → (qs : List Part) × PartsText xs (n + 1) ms qs t × (p ∷ ps ≡ with_open qs)
      by (StillMet m s) e = absurd (false≢true (sym x.0.1 ∙ ap is_met e))
      by StillOpen e =
          let text = x.1 in
          let none : text.first ≡ [] = subst (λ w. IsWithoutText xs p.requirement w text.first) e text.is_first in
          let rest : text.second ≡ t = sym (text.are_both ∙ ap (λ u. u ++ text.second) none) in (
            ps,
            (x.0.2, subst (ArePartsText xs ps) rest text.is_second),
            (λ i. record { requirement = x.0.0 i; without = e i } ∷ ps),
          )

  open_faults : (k : ℕ) (t : List ℕ) (e : DocFault)
      → PartsFault xs n (Perhaps ∷ ms) k t e
      → PartsFault xs (n + 1) ms k t e
  open_faults k t e ([], parts, bad) = absurd parts
  open_faults k t e ((p ∷ ps), parts, bad) = by p.without refl
    where
      by : (w : Without) → p.without ≡ w → PartsFault xs (n + 1) ms k t e
      by (StillMet m s) is = absurd (false≢true (sym parts.1 ∙ ap is_met is))
      by StillOpen is =
          (ps, parts.2, subst (λ w. IsPartFault xs p.requirement w (ArePartsFault xs ps) k t e) is bad)

  perhaps_once : Once (List Part) (PartsText xs n (Perhaps ∷ ms)) (PartsFault xs n (Perhaps ∷ ms))
  perhaps_once =
      once_as (List Part) (List Part) (PartsText xs (n + 1) ms) (PartsText xs n (Perhaps ∷ ms)) (PartsFault xs (n + 1) ms)
      (PartsFault xs n (Perhaps ∷ ms)) with_open open_turn open_faults later

pub parts_once : (xs : List Item) → AreNamed xs → (n : ℕ) (ms : List Mark)
    → Once (List Part) (PartsText xs n ms) (PartsFault xs n ms)
parts_once xs named n [] = parts_none xs n
parts_once xs named n (Unnamed ∷ ms) = parts_once xs named (n + 1) ms
parts_once xs named n (Needed ∷ ms) = needed_once xs named n ms (parts_once xs named (n + 1) ms)
parts_once xs named n (Perhaps ∷ ms) = perhaps_once xs named n ms (parts_once xs named (n + 1) ms)

-- ---- marks

pub one_marks : (S : ℕ → Bool) (wants : Bool) (xs : List Item) (words : List Word) (ms ks : List Mark)
    → Differ xs
    → AreNamed xs
    → MarkedBy S wants xs ms words
    → MarkedBy S wants xs ks words
    → ms ≡ ks
one_marks S wants xs words ms ks differ named x y =
    let f = marked_found S wants xs words differ named ms x in
    let g = marked_found S wants xs words differ named ks y in
    let a : List Word × List Word =
    (names_by is_needed xs ms ++ perhaps (names_by is_unsettled xs ms), names_by is_unsettled xs ms) in
    let b : List Word × List Word =
    (names_by is_needed xs ks ++ perhaps (names_by is_unsettled xs ks), names_by is_unsettled xs ks) in
    let same : a ≡ b = some_same a b (sym f.are_split ∙ g.are_split) in
    sym f.is_scan ∙ ap (λ (p : List Word × List Word). (scan S 0 xs p.0 p.1).marks) same ∙ g.is_scan

-- ---- the body behind a line

pub record IsOfLine (xs : List Item) (S : ℕ → Bool) (q : Question) (ws : Line) (r : Reply) : Type 0 where
  pub fits : Fits xs S q r
  pub is_line : line_of xs (replied q r) ≡ ws

yes_not_open : (b : Bool) (ws : Line) → yes_or_no b ∷ ws ≡ codes "open" ∷ [] → ⊥
yes_not_open true ws e = false≢true (ap (λ w. length w == 4) (same_head (yes_or_no true) (codes "open") ws [] e))
yes_not_open false ws e = false≢true (ap (λ w. length w == 4) (same_head (yes_or_no false) (codes "open") ws [] e))

one_or_more : (v w u : Word) (ws : Line) → v ∷ [] ≡ w ∷ u ∷ ws → ⊥
one_or_more v w u ws e =
    let none : [] ≡ u ∷ ws = same_tail v w [] (u ∷ ws) e in absurd cc

module _ (xs : List Item) (S : ℕ → Bool) (q : Question) where
  abbrev pub BodyText : Line → Reply → List ℕ → Type 0
  BodyText ws r t = IsOfLine xs S q ws r × IsBody xs r t

  abbrev pub BodyFault : Line → ℕ → List ℕ → DocFault → Type 0
  BodyFault ws k t e = (r : Reply) × IsOfLine xs S q ws r × IsBodyFault xs r k t e

  abbrev names_of : Core → Line
  names_of c = because_words xs c.parts ++ perhaps_words xs c.parts

  abbrev WordsSame : Reply → Reply → Type 0
  WordsSame r p = reply_words xs (wants_structure xs q) r ≡ reply_words xs (wants_structure xs q) p

  module _ (ws : Line) where
    words_same : (r p : Reply) → IsOfLine xs S q ws r → IsOfLine xs S q ws p → WordsSame r p
    words_same r p x y =
        append_cancel_left (question_words xs q) (reply_words xs (wants_structure xs q) r)
        (reply_words xs (wants_structure xs q) p) (x.is_line ∙ sym y.is_line)

    not_met_unmet : (m : Structure) (s : ℕ) (c : Core) → WordsSame (Met m s) (Unmet c) → ⊥
    not_met_unmet m s c e =
        one_or_more (yes_or_no (wants_structure xs q)) (yes_or_no (not (wants_structure xs q))) (codes "because") (names_of c) e

    not_open_unmet : (c : Core) → WordsSame LeftOpen (Unmet c) → ⊥
    not_open_unmet c e =
        one_or_more (codes "open") (yes_or_no (not (wants_structure xs q))) (codes "because") (names_of c) e

    not_met_open : (m : Structure) (s : ℕ) → WordsSame (Met m s) LeftOpen → ⊥
    not_met_open m s e = yes_not_open (wants_structure xs q) [] e

    -- ---- behind the line of a structure

    module _ (m : Structure) (s : ℕ) (is : IsOfLine xs S q ws (Met m s)) where
      only_met : (r : Reply) → IsOfLine xs S q ws r → (a : Structure × ℕ) × (r ≡ Met a.0 a.1)
      only_met (Met n t) of = ((n, t), refl)
      only_met (Unmet c) of = absurd (not_met_unmet m s c (words_same (Met m s) (Unmet c) is of))
      only_met LeftOpen of = absurd (not_met_open m s (words_same (Met m s) LeftOpen is of))

      met_text : (r : Reply) (t : List ℕ) → BodyText ws r t → (a : Structure × ℕ) × IsModelAs a t × (r ≡ Met a.0 a.1)
      met_text r t x = let met = only_met r x.0 in (met.0, subst (λ p. IsBody xs p t) met.1 x.1, met.1)

      model_fault : (k : ℕ) (t : List ℕ) (e : DocFault) → BodyFault ws k t e → IsModelFault k t e
      model_fault k t e (r, of, bad) = let met = only_met r of in subst (λ p. IsBodyFault xs p k t e) met.1 bad

      met_once : Once Reply (BodyText ws) (BodyFault ws)
      met_once =
          once_as (Structure × ℕ) Reply IsModelAs (BodyText ws) IsModelFault (BodyFault ws) (λ a. Met a.0 a.1) met_text
          model_fault once_model

    -- ---- behind `open`

    module _ (is : IsOfLine xs S q ws LeftOpen) where
      only_open : (r : Reply) → IsOfLine xs S q ws r → r ≡ LeftOpen
      only_open (Met m s) of = absurd (not_met_open m s (words_same (Met m s) LeftOpen of is))
      only_open (Unmet c) of = absurd (not_open_unmet c (words_same LeftOpen (Unmet c) is of))
      only_open LeftOpen of = refl

      open_text : (r : Reply) (t : List ℕ) → BodyText ws r t → t ≡ []
      open_text r t x = subst (λ p. IsBody xs p t) (only_open r x.0) x.1

      no_fault : (k : ℕ) (t : List ℕ) (e : DocFault) → BodyFault ws k t e → ⊥
      no_fault k t e (r, of, bad) = subst (λ p. IsBodyFault xs p k t e) (only_open r of) bad

      open_once : Once Reply (BodyText ws) (BodyFault ws)
      open_once = record {
        one = λ r p f g u v x y both.
            (only_open r x.0 ∙ sym (only_open p y.0), open_text r f x ∙ sym (open_text p g y));
        never = λ r f u k e x bad. no_fault k (f ++ u) e bad;
        fault = λ k t e d x y. absurd (no_fault k t e x);
      }

    -- ---- behind the names of a conflict

    module _ (named : AreNamed xs) (differ : Differ xs) (c : Core) (is : IsOfLine xs S q ws (Unmet c)) where
      marked : (d : Core) (of : IsOfLine xs S q ws (Unmet d))
          → MarkedBy S (is_of_conflict q) xs (core_marks S xs q d of.fits).0 (names_of d)
      marked d of =
          let made = core_marks S xs q d of.fits in
          record {
            are_marks = made.1.are_marks;
            are_words = parts_words S xs made.0 d.parts made.1.are_marks made.1.parts;
            some_named = λ want. by made.0 d.parts (of.fits.some_named want) made.1.parts;
          }
        where
          by : (ms : List Mark) (ps : List Part) → ¬ (ps ≡ []) → ArePartsOf 0 ms ps → list_any is_named ms ≡ true
          by ms [] some parts = absurd (some refl)
          by ms (p ∷ ps) some parts = some_named 0 ms p ps parts

      the_marks : List Mark
      the_marks = (core_marks S xs q c is.fits).0

      same_names : (d : Core) → IsOfLine xs S q ws (Unmet d) → names_of d ≡ names_of c
      same_names d of =
          let e : WordsSame (Unmet d) (Unmet c) = words_same (Unmet d) (Unmet c) of is in
          let no = yes_or_no (not (wants_structure xs q)) in
          same_tail (codes "because") (codes "because") (names_of d) (names_of c)
          (same_tail no no (codes "because" ∷ names_of d) (codes "because" ∷ names_of c) e)

      made_alike : (d : Core) → IsOfLine xs S q ws (Unmet d) → IsMadeBy S 0 xs d.taken d.parts the_marks
      unfolding the_marks
      made_alike d of =
          let made = core_marks S xs q d of.fits in
          subst (IsMadeBy S 0 xs d.taken d.parts)
          (one_marks S (is_of_conflict q) xs (names_of c) made.0 (core_marks S xs q c is.fits).0 differ named
          (subst (MarkedBy S (is_of_conflict q) xs made.0) (same_names d of) (marked d of)) (marked c is))
          made.1

      only_unmet : (r : Reply) → IsOfLine xs S q ws r
          → (d : Core) × (r ≡ Unmet d) × IsMadeBy S 0 xs d.taken d.parts the_marks
      only_unmet (Met m s) of = absurd (not_met_unmet m s c (words_same (Met m s) (Unmet c) of is))
      only_unmet LeftOpen of = absurd (not_open_unmet c (words_same LeftOpen (Unmet c) of is))
      only_unmet (Unmet d) of = (d, refl, made_alike d of)

      abbrev CoreText : Refutation × List Part → List ℕ → Type 0
      CoreText a t = IsThen (IsRefutationOf a.0) (PartsText xs 0 the_marks a.1) t

      abbrev CoreFault : ℕ → List ℕ → DocFault → Type 0
      CoreFault k t e = IsRefutationFault k t e ⊎ IsBehind (IsRefutationText Two) (PartsFault xs 0 the_marks) k t e

      abbrev as_core : Refutation × List Part → Reply
      as_core a = Unmet (record { taken = map is_named the_marks; parts = a.1; refutation = a.0 })

      core_text : (r : Reply) (t : List ℕ) → BodyText ws r t → (a : Refutation × List Part) × CoreText a t × (r ≡ as_core a)
      core_text r t x =
          let only = only_unmet r x.0 in
          let d = only.0 in
          let made = only.2 in
          let body : IsBody xs (Unmet d) t = subst (λ p. IsBody xs p t) only.1 x.1 in
          let core : Unmet d ≡ as_core (d.refutation, d.parts) =
          λ i. Unmet (record { taken = made.taken i; parts = d.parts; refutation = d.refutation }) in (
            (d.refutation, d.parts),
            record {
              first = body.first;
              second = body.second;
              are_both = body.are_both;
              is_first = body.is_first;
              is_second = (made.parts, body.is_second);
            },
            only.1 ∙ core,
          )

      core_fault : (k : ℕ) (t : List ℕ) (e : DocFault) → BodyFault ws k t e → CoreFault k t e
      core_fault k t e (r, of, bad) =
          let only = only_unmet r of in
          by only.0 only.2 (subst (λ p. IsBodyFault xs p k t e) only.1 bad)
        where
          by : (d : Core) → IsMadeBy S 0 xs d.taken d.parts the_marks → IsBodyFault xs (Unmet d) k t e → CoreFault k t e
          by d made (inl here) = inl here
          by d made (inr b) =
              inr (behind_as (IsRefutationText Two) (IsRefutationText Two) (ArePartsFault xs d.parts)
              (PartsFault xs 0 the_marks) k t e (λ u is. is) (λ j u f. (d.parts, made.parts, f)) b)

      unmet_once : Once Reply (BodyText ws) (BodyFault ws)
      unmet_once =
          once_as (Refutation × List Part) Reply CoreText (BodyText ws) CoreFault (BodyFault ws) as_core core_text core_fault
          (once_then Refutation (List Part) IsRefutationOf (IsRefutationText Two) (PartsText xs 0 the_marks) IsRefutationFault
          (PartsFault xs 0 the_marks) (λ t x. (x.0, (x.1, x.2))) once_refutation (parts_once xs named 0 the_marks))

    pub body_once : AreNamed xs → Differ xs → (r : Reply) → IsOfLine xs S q ws r → Once Reply (BodyText ws) (BodyFault ws)
    body_once named differ (Met m s) is = met_once m s is
    body_once named differ (Unmet c) is = unmet_once named differ c is
    body_once named differ LeftOpen is = open_once is

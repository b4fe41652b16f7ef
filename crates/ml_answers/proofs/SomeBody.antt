-- A text begins with a body, or has a fault there.
--
--   some_model       == with a structure
--   some_refutation  == with a refutation
--   some_without     == with the line `without` and a structure behind it
--   some_parts       == with what stands for the parts of a core with these marks
--   some_core        == with the body of a core with these marks
use Rattle.std.proofs.Common.{◌≡◌, ℕ, ◌+◌, ◌⊎◌, true, false, List, [], ◌∷◌, ◌++◌, codes, map, inl, inr, refl, sym, subst}
use Rattle.ml_base.specs.Structure.{Structure}
use Rattle.ml_base.specs.declared.doc_fault.DocFault.{DocFault}
use Rattle.ml_base.specs.declared.version.Version.TheVariants.{Two}
use Rattle.ml_kripke.specs.BodyRules as model
use Rattle.ml_kripke.specs.Laws.{IsModelText}
use Rattle.ml_kripke.proofs.OneFault.{model_or_fault}
use Rattle.ml_lines.specs.Lines.{line_text}
use Rattle.ml_lines.proofs.DecidedWords.{decided_line}
use Rattle.ml_lists.proofs.Decided.{Decided}
use Rattle.ml_refutation.specs.Refutation.{Refutation}
use Rattle.ml_refutation_text.specs.BodyRules as refutation
use Rattle.ml_refutation_text.specs.Laws.{IsReadableBody, IsRefutationText}
use Rattle.ml_refutation_text.proofs.RefutationTexts.{readable_is_refutation, readable_or_fault}
use Rattle.ml_spec.specs.declared.specification.Item.{Item}
use Rattle.ml_replies.specs.Replies.{Core, Part, StillMet, StillOpen, Unmet, Without}
use Rattle.ml_answers.specs.Documents.{without_line, ArePartsText, IsBody, IsModel, IsRefutationOf, IsWithoutText}
use Rattle.ml_answers.specs.Lines.{is_met, name_at}
use Rattle.ml_answers.specs.RuleNumbers.{rule_number}
use Rattle.ml_answers.specs.Rules.{ArePartsFault, IsBehind, IsBodyFault, IsModelFault, IsPartFault, IsRefutationFault, IsWithoutFault}
use Rattle.ml_answers.specs.Texts.{line_count, next_line, up_to_end, IsLine, IsNothing}
use Rattle.ml_answers.specs.declared.names.Mark.{Mark}
use Rattle.ml_answers.specs.declared.names.Mark.TheVariants.{Unnamed, Needed, Perhaps}
use Rattle.ml_answers.specs.declared.rule.AnswersRule.TheVariants.{OfKind}
use Rattle.ml_answers.specs.private.Marks.{is_named}
use Rattle.ml_answers.specs.private.Reads.{ArePartsOf}
use Rattle.ml_answers.proofs.Reading.{other_line}
use Rattle.ml_answers.proofs.TextFronts.{end_there, fault_then, line_is_there, nothing_taken, taken_then, Taken}

-- ---- structures and refutations

abbrev pub TakenModel : List ℕ → Type 0
TakenModel text = (m : Structure) × (s : ℕ) × Taken (IsModel m s) text

abbrev pub FaultOf : (ℕ → List ℕ → DocFault → Type 0) → ℕ → List ℕ → Type 0
FaultOf F k text = (fault : DocFault) × F k text fault

pub some_model : (k : ℕ) (text : List ℕ) → TakenModel text ⊎ FaultOf IsModelFault k text
some_model k text = by (model_or_fault (up_to_end text) k)
  where
    by : IsModelText (up_to_end text) ⊎ ((fault : DocFault) × model.IsFaultOf (up_to_end text) k fault)
        → TakenModel text ⊎ FaultOf IsModelFault k text
    by (inl (m, s, written, ordered, is)) =
        let cut = end_there text in
        inl (
          m,
          s,
          record { front = up_to_end text; rest = cut.0; are_both = cut.1; is_front = (written, ordered, is) },
        )
    by (inr fault) = inr fault

pub some_refutation : (k : ℕ) (text : List ℕ)
    → ((r : Refutation) × Taken (IsRefutationOf r) text) ⊎ FaultOf IsRefutationFault k text
some_refutation k text = by (readable_or_fault Two (up_to_end text) k)
  where
    by : IsReadableBody Two (up_to_end text) ⊎ ((fault : DocFault) × refutation.IsFaultOf Two (up_to_end text) k fault)
        → ((r : Refutation) × Taken (IsRefutationOf r) text) ⊎ FaultOf IsRefutationFault k text
    by (inl readable) =
        let cut = end_there text in
        let is : IsRefutationText Two (up_to_end text) = (readable_is_refutation Two (up_to_end text)).0 readable in
        inl (
          is.0,
          record { front = up_to_end text; rest = cut.0; are_both = cut.1; is_front = (is.1, is.2) },
        )
    by (inr fault) = inr fault

module _ (xs : List Item) where
  -- ---- the line `without`

  abbrev pub TakenWithout : ℕ → List ℕ → Type 0
  TakenWithout n text = (m : Structure) × (s : ℕ) × Taken (IsWithoutText xs n (StillMet m s)) text

  pub some_without : (n k : ℕ) (text : List ℕ) → TakenWithout n text ⊎ FaultOf (IsWithoutFault xs n) k text
  some_without n k text = by (decided_line (next_line text) (without_line xs n))
    where
      behind : (rest : List ℕ)
          → text ≡ line_text (without_line xs n) ++ rest
          → TakenModel rest ⊎ FaultOf IsModelFault (k + line_count (line_text (without_line xs n))) rest
          → TakenWithout n text ⊎ FaultOf (IsWithoutFault xs n) k text
      behind rest both (inl (m, s, taken)) =
          inl (m, s, taken_then (IsLine (without_line xs n)) (IsModel m s) text (line_text (without_line xs n)) rest both refl taken)
      behind rest both (inr (fault, is)) =
          inr (
            fault,
            inr (record {
              front = line_text (without_line xs n);
              rest = rest;
              are_both = both;
              is_front = refl;
              is_fault = is;
            }),
          )

      by : Decided (next_line text ≡ without_line xs n) → TakenWithout n text ⊎ FaultOf (IsWithoutFault xs n) k text
      by (inr other) =
          inr (
            record { line = k; rule = rule_number OfKind },
            inl (refl, other_line (next_line text) (without_line xs n) other),
          )
      by (inl is) =
          let there = line_is_there text (codes "without") (name_at xs n ∷ []) is in
          behind there.0 there.1 (some_model (k + line_count (line_text (without_line xs n))) there.0)

  -- ---- parts

  abbrev pub TakenParts : ℕ → List Mark → List ℕ → Type 0
  TakenParts n ms text = (ps : List Part) × ArePartsOf n ms ps × Taken (ArePartsText xs ps) text

  -- whatever the structures that such parts have
  abbrev pub FaultOfParts : ℕ → List Mark → ℕ → List ℕ → Type 0
  FaultOfParts n ms k text = (fault : DocFault) × ((ps : List Part) → ArePartsOf n ms ps → ArePartsFault xs ps k text fault)

  open_fault : (n k : ℕ) (w : Without) (F : ℕ → List ℕ → DocFault → Type 0) (text : List ℕ) (fault : DocFault)
      → is_met w ≡ false
      → F k text fault
      → IsPartFault xs n w F k text fault
  open_fault n k (StillMet m s) F text fault is tells = absurd cc
  open_fault n k StillOpen F text fault is tells = tells

  abbrev IsMetFault : ℕ → (ℕ → List ℕ → DocFault → Type 0) → ℕ → List ℕ → DocFault → Type 0
  IsMetFault n F k text fault =
      IsWithoutFault xs n k text fault ⊎ IsBehind (IsLine (without_line xs n)) (IsBehind IsModelText F) k text fault

  met_fault : (n k : ℕ) (w : Without) (F : ℕ → List ℕ → DocFault → Type 0) (text : List ℕ) (fault : DocFault)
      → is_met w ≡ true
      → IsMetFault n F k text fault
      → IsPartFault xs n w F k text fault
  met_fault n k StillOpen F text fault is tells = absurd cc
  met_fault n k (StillMet m s) F text fault is tells = tells

  first_met : (n k : ℕ) (ms : List Mark) (text : List ℕ) (fault : DocFault)
      → ((ps : List Part) → ArePartsOf (n + 1) ms ps → IsMetFault n (ArePartsFault xs ps) k text fault)
      → (ps : List Part)
      → ArePartsOf n (Needed ∷ ms) ps
      → ArePartsFault xs ps k text fault
  first_met n k ms text fault tells [] parts = absurd parts
  first_met n k ms text fault tells (p ∷ ps) parts =
      subst (λ j. IsPartFault xs j p.without (ArePartsFault xs ps) k text fault) (sym parts.0)
      (met_fault n k p.without (ArePartsFault xs ps) text fault parts.1 (tells ps parts.2))

  first_open : (n k : ℕ) (ms : List Mark) (text : List ℕ) (fault : DocFault)
      → ((ps : List Part) → ArePartsOf (n + 1) ms ps → ArePartsFault xs ps k text fault)
      → (ps : List Part)
      → ArePartsOf n (Perhaps ∷ ms) ps
      → ArePartsFault xs ps k text fault
  first_open n k ms text fault tells [] parts = absurd parts
  first_open n k ms text fault tells (p ∷ ps) parts =
      open_fault p.requirement k p.without (ArePartsFault xs ps) text fault parts.1 (tells ps parts.2)

  with_open : (n k : ℕ) (ms : List Mark) (text : List ℕ)
      → TakenParts (n + 1) ms text ⊎ FaultOfParts (n + 1) ms k text
      → TakenParts n (Perhaps ∷ ms) text ⊎ FaultOfParts n (Perhaps ∷ ms) k text
  with_open n k ms text (inl (ps, parts, taken)) =
      inl (
        record { requirement = n; without = StillOpen } ∷ ps,
        (refl, refl, parts),
        taken_then IsNothing (ArePartsText xs ps) text [] text refl refl taken,
      )
  with_open n k ms text (inr (fault, tells)) = inr (fault, first_open n k ms text fault tells)

  behind_met : (n k : ℕ) (ms : List Mark) (text : List ℕ) (m : Structure) (s : ℕ)
      → (taken : Taken (IsWithoutText xs n (StillMet m s)) text)
      → TakenParts (n + 1) ms taken.rest ⊎ FaultOfParts (n + 1) ms (k + line_count taken.front) taken.rest
      → TakenParts n (Needed ∷ ms) text ⊎ FaultOfParts n (Needed ∷ ms) k text
  behind_met n k ms text m s taken (inl (ps, parts, more)) =
      inl (
        record { requirement = n; without = StillMet m s } ∷ ps,
        (refl, refl, parts),
        taken_then (IsWithoutText xs n (StillMet m s)) (ArePartsText xs ps) text taken.front taken.rest taken.are_both
            taken.is_front more,
      )
  behind_met n k ms text m s taken (inr (fault, tells)) =
      inr (
        fault,
        first_met n k ms text fault
            (λ ps parts.
            inr (fault_then (IsLine (without_line xs n)) (IsModel m s) IsModelText (ArePartsFault xs ps) k text fault
            (λ t is. (m, s, is.0, is.1, is.2)) taken (tells ps parts))),
      )

  with_met : (n k : ℕ) (ms : List Mark) (text : List ℕ)
      → TakenWithout n text ⊎ FaultOf (IsWithoutFault xs n) k text
      → ((j : ℕ) (rest : List ℕ) → TakenParts (n + 1) ms rest ⊎ FaultOfParts (n + 1) ms j rest)
      → TakenParts n (Needed ∷ ms) text ⊎ FaultOfParts n (Needed ∷ ms) k text
  with_met n k ms text (inl (m, s, taken)) more =
      behind_met n k ms text m s taken (more (k + line_count taken.front) taken.rest)
  with_met n k ms text (inr (fault, is)) more = inr (fault, first_met n k ms text fault (λ ps parts. inl is))

  pub some_parts : (n : ℕ) (ms : List Mark) (k : ℕ) (text : List ℕ) → TakenParts n ms text ⊎ FaultOfParts n ms k text
  some_parts n [] k text = inl ([], refl, nothing_taken text)
  some_parts n (Unnamed ∷ ms) k text = some_parts (n + 1) ms k text
  some_parts n (Perhaps ∷ ms) k text = with_open n k ms text (some_parts (n + 1) ms k text)
  some_parts n (Needed ∷ ms) k text = with_met n k ms text (some_without n k text) (some_parts (n + 1) ms)

  -- ---- the whole body

  pub record TakenCore (ms : List Mark) (text : List ℕ) : Type 0 where
    pub core : Core
    pub taken : core.taken ≡ map is_named ms
    pub parts : ArePartsOf 0 ms core.parts
    pub body : Taken (IsBody xs (Unmet core)) text

  -- whatever the refutation and the structures of a core with such parts are
  abbrev pub FaultOfCore : List Mark → ℕ → List ℕ → Type 0
  FaultOfCore ms k text = (fault : DocFault) × ((c : Core) → ArePartsOf 0 ms c.parts → IsBodyFault xs (Unmet c) k text fault)

  pub some_core : (ms : List Mark) (k : ℕ) (text : List ℕ) → TakenCore ms text ⊎ FaultOfCore ms k text
  some_core ms k text = by (some_refutation k text)
    where
      behind : (r : Refutation) (taken : Taken (IsRefutationOf r) text)
          → TakenParts 0 ms taken.rest ⊎ FaultOfParts 0 ms (k + line_count taken.front) taken.rest
          → TakenCore ms text ⊎ FaultOfCore ms k text
      behind r taken (inl (ps, parts, more)) =
          inl (record {
            core = record { taken = map is_named ms; parts = ps; refutation = r };
            taken = refl;
            parts = parts;
            body =
                taken_then (IsRefutationOf r) (ArePartsText xs ps) text taken.front taken.rest taken.are_both taken.is_front more;
          })
      behind r taken (inr (fault, tells)) =
          inr (
            fault,
            λ c parts.
                inr (record {
                  front = taken.front;
                  rest = taken.rest;
                  are_both = taken.are_both;
                  is_front = (r, taken.is_front.0, taken.is_front.1);
                  is_fault = tells c.parts parts;
                }),
          )

      by : ((r : Refutation) × Taken (IsRefutationOf r) text) ⊎ FaultOf IsRefutationFault k text
          → TakenCore ms text ⊎ FaultOfCore ms k text
      by (inl (r, taken)) = behind r taken (some_parts 0 ms (k + line_count taken.front) taken.rest)
      by (inr (fault, is)) = inr (fault, λ c parts. inl is)

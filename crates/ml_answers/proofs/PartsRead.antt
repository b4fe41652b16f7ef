-- Bodies of answers that name requirements, read part by part.
--
--   then_behind      == a fault behind two parts
--   without_taken, without_told, without_behind == the line `without`, and the body behind it
--   parts_begin, parts_unnamed, parts_open, parts_met == what is known behind the parts of the first marks stays so
--   parts_refused    == a fault there
--   parts_made, parts_taken == behind the last mark all parts are read
--   core_taken, core_refused, core_parts_refused == the whole body
use Rattle.std.proofs.Common.{◌≡◌, ℕ, ◌+◌, ◌≤◌, ◌⊎◌, true, false, List, [], ◌∷◌, ◌++◌, length, drop, inl, inr, refl, sym, ap, subst, ◌∙◌, arith}
use Rattle.std.proofs.lemmas.List.{append-nil, append_assoc, drop_all}
use Rattle.ml_base.specs.declared.doc_fault.DocFault.{DocFault}
use Rattle.ml_base.specs.declared.doc_refusal.DocRefusal.{DocRefusal}
use Rattle.ml_base.specs.declared.doc_refusal.DocRefusal.TheVariants as refusal
use Rattle.ml_base.specs.declared.version.Version.TheVariants.{Two}
use Rattle.ml_base.specs.Structure.{Structure}
use Rattle.ml_kripke.specs.Laws.{IsModelText}
use Rattle.ml_refutation.specs.Refutation.{Refutation}
use Rattle.ml_refutation_text.specs.Laws.{IsRefutationText}
use Rattle.ml_spec.specs.declared.specification.Item.{Item}
use Rattle.ml_replies.specs.Replies.{Core, Part, StillMet, StillOpen, Unmet, Without}
use Rattle.ml_answers.specs.Documents.{without_line, ArePartsText, IsBody, IsModel, IsRefutationOf, IsWithoutText}
use Rattle.ml_answers.specs.Lines.{is_met}
use Rattle.ml_answers.specs.RuleNumbers.{rule_number}
use Rattle.ml_answers.specs.Rules.{fixed_rules, ArePartsFault, IsBehind, IsBodyFault, IsLineFault, IsModelFault, IsPartFault, IsRefutationFault, IsWithoutFault}
use Rattle.ml_answers.specs.Texts.{line_count, next_line, IsLine, IsNothing, IsThen}
use Rattle.ml_answers.specs.declared.names.Mark.{Mark}
use Rattle.ml_answers.specs.declared.names.Mark.TheVariants.{Unnamed, Needed, Perhaps}
use Rattle.ml_answers.specs.declared.rest.Rest.{Rest}
use Rattle.ml_answers.specs.declared.rule.AnswersRule.TheVariants.{OfKind}
use Rattle.ml_answers.specs.private.Reads.{ArePartsOf, ArePartsReadTo, HasRoom, Takes, TellsFault}
use Rattle.ml_answers.proofs.Reading.{count_append, fault_as, fault_behind, other_line, takes_as, takes_both, takes_nothing, told_here}

pub then_behind : (P Q R : List ℕ → Type 0) (F : ℕ → List ℕ → DocFault → Type 0) (at rest : Rest) (e : DocRefusal)
    → ((t : List ℕ) → Q t → R t)
    → Takes (IsThen P Q) at rest
    → TellsFault F rest e
    → TellsFault (IsBehind P (IsBehind R F)) at e
then_behind P Q R F at rest refusal.NoMemory turn takes tells = tt
then_behind P Q R F at rest (refusal.Fault fault) turn takes tells =
    let both = takes.is_front in
    let line : rest.line ≡ at.line + line_count both.first + line_count both.second =
    omega (arith, takes.is_line, ap line_count both.are_both, count_append both.first both.second) in
    record {
      front = both.first;
      rest = both.second ++ rest.text.now;
      are_both =
          takes.are_both
          ∙ ap (λ t. t ++ rest.text.now) both.are_both
          ∙ append_assoc both.first both.second rest.text.now;
      is_front = both.is_first;
      is_fault = record {
        front = both.second;
        rest = rest.text.now;
        are_both = refl;
        is_front = turn both.second both.is_second;
        is_fault = subst (λ k. F k rest.text.now fault) line tells;
      };
    }

-- ---- the line `without`

module _ (xs : List Item) (n : ℕ) (at : Rest) where
  pub without_taken : (m : Structure) (s : ℕ) (mid rest : Rest)
      → Takes (IsLine (without_line xs n)) at mid
      → Takes (IsModel m s) mid rest
      → Takes (IsWithoutText xs n (StillMet m s)) at rest
  without_taken m s mid rest line model =
      takes_both (IsLine (without_line xs n)) (IsModel m s) at rest mid line model

  pub without_told : (e : DocRefusal)
      → e ≡ refusal.Fault (record { line = at.line; rule = rule_number OfKind })
      → ¬ (next_line at.text.now ≡ without_line xs n)
      → TellsFault (IsWithoutFault xs n) at e
  without_told e is ne =
      fault_as (IsLineFault (fixed_rules (without_line xs n))) (IsWithoutFault xs n) at e (λ fault tells. inl tells)
      (told_here (fixed_rules (without_line xs n)) at e (rule_number OfKind) is
      (other_line (next_line at.text.now) (without_line xs n) ne))

  pub without_behind : (mid : Rest) (e : DocRefusal)
      → Takes (IsLine (without_line xs n)) at mid
      → TellsFault IsModelFault mid e
      → TellsFault (IsWithoutFault xs n) at e
  without_behind mid e line tells =
      fault_as (IsBehind (IsLine (without_line xs n)) IsModelFault) (IsWithoutFault xs n) at e (λ fault tells. inr tells)
      (fault_behind (IsLine (without_line xs n)) IsModelFault at mid e line tells)

-- ---- parts

pub parts_begin : (xs : List Item) (ms : List Mark) (at : Rest) → HasRoom at → ArePartsReadTo xs ms at 0 [] at
parts_begin xs ms at room = record {
  made = λ more is. is;
  takes = λ more end is. is;
  refused = λ e tells. tells;
  has_room = room;
}

-- the parts that are read, with another one behind them
one_more : (ps more : List Part) (p : Part) → (ps ++ p ∷ []) ++ more ≡ ps ++ p ∷ more
one_more ps more p = append_assoc ps (p ∷ []) more

open_fault : (xs : List Item) (k : ℕ) (w : Without) (F : ℕ → List ℕ → DocFault → Type 0) (at : Rest) (e : DocRefusal)
    → is_met w ≡ false
    → TellsFault F at e
    → TellsFault (IsPartFault xs k w F) at e
open_fault xs k (StillMet m s) F at e is tells = absurd cc
open_fault xs k StillOpen F at refusal.NoMemory is tells = tt
open_fault xs k StillOpen F at (refusal.Fault fault) is tells = tells

met_fault : (xs : List Item) (k : ℕ) (w : Without) (F : ℕ → List ℕ → DocFault → Type 0) (at : Rest) (e : DocRefusal)
    → is_met w ≡ true
    → TellsFault (λ k' text fault. IsWithoutFault xs k k' text fault
    ⊎ IsBehind (IsLine (without_line xs k)) (IsBehind IsModelText F) k' text fault) at e
    → TellsFault (IsPartFault xs k w F) at e
met_fault xs k StillOpen F at e is tells = absurd cc
met_fault xs k (StillMet m s) F at refusal.NoMemory is tells = tt
met_fault xs k (StillMet m s) F at (refusal.Fault fault) is tells = tells

module _ (xs : List Item) (ms : List Mark) (at : Rest) (n : ℕ) (ps : List Part) (rest : Rest) (read : ArePartsReadTo xs ms at n ps rest) where
  module _ (m : Mark) (is_next : drop n ms ≡ m ∷ drop (n + 1) ms) where
    -- parts from the next mark on
    parts_on : (qs : List Part) → ArePartsOf n (m ∷ drop (n + 1) ms) qs → ArePartsOf n (drop n ms) qs
    parts_on qs parts = subst (λ ks. ArePartsOf n ks qs) (sym is_next) parts

    on_parts : (qs : List Part) → ArePartsOf n (drop n ms) qs → ArePartsOf n (m ∷ drop (n + 1) ms) qs
    on_parts qs parts = subst (λ ks. ArePartsOf n ks qs) is_next parts

  pub parts_unnamed : drop n ms ≡ Unnamed ∷ drop (n + 1) ms → ArePartsReadTo xs ms at (n + 1) ps rest
  parts_unnamed is_next = record {
    made = λ more parts. read.made more (parts_on Unnamed is_next more parts);
    takes = read.takes;
    refused = λ e tells. read.refused e (λ qs parts. tells qs (on_parts Unnamed is_next qs parts));
    has_room = read.has_room;
  }

  first_part : (e : DocRefusal) (q : Part) (qs : List Part)
      → TellsFault (IsPartFault xs q.requirement q.without (ArePartsFault xs qs)) rest e
      → TellsFault (ArePartsFault xs (q ∷ qs)) rest e
  first_part refusal.NoMemory q qs tells = tt
  first_part (refusal.Fault fault) q qs tells = tells

  pub parts_open : drop n ms ≡ Perhaps ∷ drop (n + 1) ms
      → ArePartsReadTo xs ms at (n + 1) (ps ++ record { requirement = n; without = StillOpen } ∷ []) rest
  parts_open is_next =
      let p : Part = record { requirement = n; without = StillOpen } in
      record {
        made = λ more parts.
            subst (ArePartsOf 0 ms) (sym (one_more ps more p))
            (read.made (p ∷ more) (parts_on Perhaps is_next (p ∷ more) (refl, refl, parts)));
        takes = λ more end is.
            subst (λ qs. Takes (ArePartsText xs qs) at end) (sym (one_more ps more p))
            (read.takes (p ∷ more) end
            (takes_both IsNothing (ArePartsText xs more) rest end rest (takes_nothing rest) is));
        refused = λ e tells. read.refused e (λ qs parts. by e tells qs (on_parts Perhaps is_next qs parts));
        has_room = read.has_room;
      }
    where
      by : (e : DocRefusal)
          → ((qs : List Part) → ArePartsOf (n + 1) (drop (n + 1) ms) qs → TellsFault (ArePartsFault xs qs) rest e)
          → (qs : List Part)
          → ArePartsOf n (Perhaps ∷ drop (n + 1) ms) qs
          → TellsFault (ArePartsFault xs qs) rest e
      by e tells [] parts = absurd parts
      by e tells (q ∷ qs) parts =
          first_part e q qs (open_fault xs q.requirement q.without (ArePartsFault xs qs) rest e parts.1 (tells qs parts.2))

  pub parts_met : drop n ms ≡ Needed ∷ drop (n + 1) ms
      → (m : Structure) (s : ℕ) (end : Rest)
      → Takes (IsWithoutText xs n (StillMet m s)) rest end
      → HasRoom end
      → ArePartsReadTo xs ms at (n + 1) (ps ++ record { requirement = n; without = StillMet m s } ∷ []) end
  parts_met is_next m s mid one room =
      let p : Part = record { requirement = n; without = StillMet m s } in
      record {
        made = λ more parts.
            subst (ArePartsOf 0 ms) (sym (one_more ps more p))
            (read.made (p ∷ more) (parts_on Needed is_next (p ∷ more) (refl, refl, parts)));
        takes = λ more end is.
            subst (λ qs. Takes (ArePartsText xs qs) at end) (sym (one_more ps more p))
            (read.takes (p ∷ more) end
            (takes_both (IsWithoutText xs n (StillMet m s)) (ArePartsText xs more) rest end mid one is));
        refused = λ e tells. read.refused e (λ qs parts. by e tells qs (on_parts Needed is_next qs parts));
        has_room = room;
      }
    where
      inner : (e : DocRefusal) (k : ℕ) (qs : List Part)
          → k ≡ n
          → TellsFault (ArePartsFault xs qs) mid e
          → TellsFault (λ k' text fault. IsWithoutFault xs k k' text fault
          ⊎ IsBehind (IsLine (without_line xs k)) (IsBehind IsModelText (ArePartsFault xs qs)) k' text fault) rest e
      inner e k qs is tells =
          subst (λ j. TellsFault (λ k' text fault. IsWithoutFault xs j k' text fault
          ⊎ IsBehind (IsLine (without_line xs j)) (IsBehind IsModelText (ArePartsFault xs qs)) k' text fault) rest e)
          (sym is)
          (fault_as (IsBehind (IsLine (without_line xs n)) (IsBehind IsModelText (ArePartsFault xs qs)))
          (λ k' text fault. IsWithoutFault xs n k' text fault
          ⊎ IsBehind (IsLine (without_line xs n)) (IsBehind IsModelText (ArePartsFault xs qs)) k' text fault)
          rest e (λ fault it. inr it)
          (then_behind (IsLine (without_line xs n)) (IsModel m s) IsModelText (ArePartsFault xs qs) rest mid e
          (λ t is. (m, s, is.0, is.1, is.2)) one tells))

      by : (e : DocRefusal)
          → ((qs : List Part) → ArePartsOf (n + 1) (drop (n + 1) ms) qs → TellsFault (ArePartsFault xs qs) mid e)
          → (qs : List Part)
          → ArePartsOf n (Needed ∷ drop (n + 1) ms) qs
          → TellsFault (ArePartsFault xs qs) rest e
      by e tells [] parts = absurd parts
      by e tells (q ∷ qs) parts =
          first_part e q qs
          (met_fault xs q.requirement q.without (ArePartsFault xs qs) rest e parts.1
          (inner e q.requirement qs parts.0 (tells qs parts.2)))

  pub parts_refused : drop n ms ≡ Needed ∷ drop (n + 1) ms
      → (e : DocRefusal)
      → TellsFault (IsWithoutFault xs n) rest e
      → (qs : List Part)
      → ArePartsOf 0 ms qs
      → TellsFault (ArePartsFault xs qs) at e
  parts_refused is_next e tells = read.refused e (λ qs parts. by qs (on_parts Needed is_next qs parts))
    where
      by : (qs : List Part) → ArePartsOf n (Needed ∷ drop (n + 1) ms) qs → TellsFault (ArePartsFault xs qs) rest e
      by [] parts = absurd parts
      by (q ∷ qs) parts =
          first_part e q qs
          (met_fault xs q.requirement q.without (ArePartsFault xs qs) rest e parts.1
          (subst (λ j. TellsFault (λ k' text fault. IsWithoutFault xs j k' text fault
          ⊎ IsBehind (IsLine (without_line xs j)) (IsBehind IsModelText (ArePartsFault xs qs)) k' text fault) rest e)
          (sym parts.0)
          (fault_as (IsWithoutFault xs n)
          (λ k' text fault. IsWithoutFault xs n k' text fault
          ⊎ IsBehind (IsLine (without_line xs n)) (IsBehind IsModelText (ArePartsFault xs qs)) k' text fault)
          rest e (λ fault it. inl it) tells)))

  pub parts_made : length ms ≤ n → ArePartsOf 0 ms ps
  parts_made end =
      subst (ArePartsOf 0 ms) (append-nil ps)
      (read.made [] (subst (λ ks. ArePartsOf n ks []) (sym (drop_all n ms end)) refl))

  pub parts_taken : length ms ≤ n → Takes (ArePartsText xs ps) at rest
  parts_taken end =
      subst (λ qs. Takes (ArePartsText xs qs) at rest) (append-nil ps) (read.takes [] rest (takes_nothing rest))

-- ---- the whole body

module _ (xs : List Item) (at : Rest) where
  pub core_taken : (c : Core) (mid rest : Rest)
      → Takes (IsRefutationOf c.refutation) at mid
      → Takes (ArePartsText xs c.parts) mid rest
      → Takes (IsBody xs (Unmet c)) at rest
  core_taken c mid rest one parts =
      takes_both (IsRefutationOf c.refutation) (ArePartsText xs c.parts) at rest mid one parts

  pub core_refused : (c : Core) (e : DocRefusal) → TellsFault IsRefutationFault at e → TellsFault (IsBodyFault xs (Unmet c)) at e
  core_refused c e tells =
      fault_as IsRefutationFault (IsBodyFault xs (Unmet c)) at e (λ fault it. inl it) tells

  pub core_parts_refused : (c : Core) (r : Refutation) (mid : Rest) (e : DocRefusal)
      → Takes (IsRefutationOf r) at mid
      → TellsFault (ArePartsFault xs c.parts) mid e
      → TellsFault (IsBodyFault xs (Unmet c)) at e
  core_parts_refused c r mid e one tells =
      fault_as (IsBehind (IsRefutationText Two) (ArePartsFault xs c.parts)) (IsBodyFault xs (Unmet c)) at e
      (λ fault it. inr it)
      (fault_behind (IsRefutationText Two) (ArePartsFault xs c.parts) at mid e
      (takes_as (IsRefutationOf r) (IsRefutationText Two) at mid (λ t is. (r, is.0, is.1)) one) tells)

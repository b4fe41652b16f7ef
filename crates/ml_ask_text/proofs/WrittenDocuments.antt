-- What is written of answers is a document of them.
--
--   HasRefutation r   == where the answer r names requirements, it has a refutation
--   all_refuted       == so has each of the answers to the questions of a specification
--   document_is       == where these have one, and structures have a text, the document that is written is one of the answers
--   document_told     == so it is of what is written, where memory isn't wanting
use Rattle.std.proofs.Common.{◌≡◌, ℕ, Bool, Result, Ok, Err, IfOk, OnOk, List, [], ◌∷◌, ◌++◌, refl, sym, subst}
use Rattle.std.specs.List.{flat_map, AllByRecursion}
use Rattle.ml_base.specs.declared.version.Version.TheVariants.{Two}
use Rattle.ml_front.specs.declared.logic.Logic.{Logic}
use Rattle.ml_front.specs.declared.problem.AnyFormula.{AnyFormula}
use Rattle.ml_kripke.specs.ModelText.{model_text}
use Rattle.ml_lines.specs.Lines.{line_text}
use Rattle.ml_lists.proofs.AllOf.{all_both}
use Rattle.ml_refutation.specs.Refutation.{IsRefutation}
use Rattle.ml_refutation_text.specs.WrittenText.{written_text}
use Rattle.ml_refutation_text.proofs.WrittenTexts.{written_is_text}
use Rattle.ml_spec.specs.Joined.{requirements}
use Rattle.ml_spec.specs.Questions.{is_in}
use Rattle.ml_spec.specs.declared.question.Question.{Question}
use Rattle.ml_spec.specs.declared.question.Question.TheVariants.{Consistent, Rest}
use Rattle.ml_spec.specs.declared.specification.Item.{Item}
use Rattle.ml_replies.specs.Meeting.{beside, everything}
use Rattle.ml_replies.specs.Replies.{AreBehind, AreConflicts, AreOfAll, AreReplies, IsReply, Part, Replied, Reply, LeftOpen, Met, StillMet, StillOpen, Unmet, Without}
use Rattle.ml_answers.specs.Documents.{last_line, title_line, without_line, AreBlocks, ArePartsText, IsBlock, IsBody, IsDocumentOf, IsWithoutText}
use Rattle.ml_answers.specs.Lines.{line_of}
use Rattle.ml_ask_text.specs.private.Written.{block_text, body_text, document_text, part_text, without_text, AreShown, IsPartShown, IsReplyShown, IsWithoutShown}

abbrev pub HasRefutation : Reply → Type 0
HasRefutation (Met m s) = Unit {0}
HasRefutation (Unmet c) = IsRefutation c.refutation
HasRefutation LeftOpen = Unit {0}

abbrev pub AreRefuted : List Replied → Type 0
AreRefuted rs = AllByRecursion (λ r. HasRefutation r.reply) rs

-- ---- answers to the questions of a specification

module _ (l : Logic) (xs : List Item) (n : ℕ) where
  refuted_by : (S : ℕ → Bool) (q : Question) (r : Reply) → IsReply l xs n S q r → HasRefutation r
  refuted_by S q (Met m s) is = tt
  refuted_by S q (Unmet c) is = is.is_refuted.is_refutation
  refuted_by S q LeftOpen is = tt

  behind_refuted : (S : ℕ → Bool) (r : Reply) (rs : List Replied)
      → AreBehind l xs n S r rs
      → ((T : ℕ → Bool) (q : Question) → AreConflicts l xs n T q rs → AreRefuted rs)
      → AreRefuted rs
  behind_refuted S (Unmet c) rs are again = again (beside S (is_in c.taken)) Rest are
  behind_refuted S (Met m s) rs are again = subst AreRefuted (sym are) tt
  behind_refuted S LeftOpen rs are again = subst AreRefuted (sym are) tt

  conflicts_refuted : (rs : List Replied) (S : ℕ → Bool) (q : Question) → AreConflicts l xs n S q rs → AreRefuted rs
  conflicts_refuted [] S q are = absurd are
  conflicts_refuted (r ∷ rs) S q are =
      (refuted_by S q r.reply are.1, behind_refuted S r.reply rs are.2 (conflicts_refuted rs))

  others_refuted : (rs : List Replied)
      → AllByRecursion (λ r. IsReply l xs n everything r.question r.reply) rs
      → AreRefuted rs
  others_refuted [] are = tt
  others_refuted (r ∷ rs) are = (refuted_by everything r.question r.reply are.0, others_refuted rs are.1)

  first_refuted : (fs : List AnyFormula) (rs : List Replied) → AreOfAll l xs n fs rs → AreRefuted rs
  first_refuted [] rs are = subst AreRefuted (sym are) tt
  first_refuted (f ∷ fs) rs are = conflicts_refuted rs everything Consistent are

  pub all_refuted : (rs : List Replied) → AreReplies l xs n rs → AreRefuted rs
  all_refuted rs are =
      subst AreRefuted (sym are.are_both)
      (all_both (λ (r : Replied). HasRefutation r.reply) are.conflicts are.others
      (first_refuted (requirements xs) are.conflicts are.are_conflicts) (others_refuted are.others are.are_answers))

-- ---- what is written

module _ (xs : List Item) where
  without_is : (k : ℕ) (w : Without) → IsWithoutShown w → IsWithoutText xs k w (without_text xs k w)
  without_is k (StillMet m s) shown = record {
    first = line_text (without_line xs k);
    second = model_text m s;
    are_both = refl;
    is_first = refl;
    is_second = (shown.0, shown.1, refl);
  }
  without_is k StillOpen shown = refl

  parts_are : (ps : List Part) → AllByRecursion IsPartShown ps → ArePartsText xs ps (flat_map (part_text xs) ps)
  parts_are [] shown = refl
  parts_are (p ∷ ps) shown = record {
    first = part_text xs p;
    second = flat_map (part_text xs) ps;
    are_both = refl;
    is_first = without_is p.requirement p.without shown.0;
    is_second = parts_are ps shown.1;
  }

  body_is : (r : Reply) → IsReplyShown r → HasRefutation r → IsBody xs r (body_text xs r)
  body_is (Met m s) shown has = (shown.0, shown.1, refl)
  body_is (Unmet c) shown has = record {
    first = written_text Two c.refutation;
    second = flat_map (part_text xs) c.parts;
    are_both = refl;
    is_first = (has, written_is_text Two c.refutation has);
    is_second = parts_are c.parts shown;
  }
  body_is LeftOpen shown has = refl

  block_is : (r : Replied) → IsReplyShown r.reply → HasRefutation r.reply → IsBlock xs r (block_text xs r)
  block_is r shown has = record {
    first = line_text (line_of xs r);
    second = body_text xs r.reply;
    are_both = refl;
    is_first = refl;
    is_second = body_is r.reply shown has;
  }

  blocks_are : (rs : List Replied) → AreShown rs → AreRefuted rs → AreBlocks xs rs (flat_map (block_text xs) rs)
  blocks_are [] shown have = refl
  blocks_are (r ∷ rs) shown have = record {
    first = block_text xs r;
    second = flat_map (block_text xs) rs;
    are_both = refl;
    is_first = block_is r shown.0 have.0;
    is_second = blocks_are rs shown.1 have.1;
  }

  pub document_is : (rs : List Replied) → AreShown rs → AreRefuted rs → IsDocumentOf xs rs (document_text xs rs)
  document_is rs shown have = record {
    first = line_text title_line;
    second = flat_map (block_text xs) rs ++ line_text last_line;
    are_both = refl;
    is_first = refl;
    is_second = record {
      first = flat_map (block_text xs) rs;
      second = line_text last_line;
      are_both = refl;
      is_first = blocks_are rs shown have;
      is_second = refl;
    };
  }

pub document_told : {T E : Type 0} (l : Logic) (xs : List Item) (n : ℕ) (rs : List Replied) (r : Result T E) (bytes : T → List ℕ)
    → AreReplies l xs n rs
    → IfOk r (λ t. bytes t ≡ document_text xs rs)
    → OnOk r (AreShown rs)
    → IfOk r (λ t. IsDocumentOf xs rs (bytes t))
document_told l xs n rs (Ok t) bytes are text shown =
    subst (IsDocumentOf xs rs) (sym text) (document_is xs rs shown (all_refuted l xs n rs are))
document_told l xs n rs (Err e) bytes are text shown = tt

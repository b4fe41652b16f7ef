-- Something is told of each text: it is refused; or there are answers to its questions, whose structures have a text.
--
--   written_as == what is written of such answers, in each form
--   some_told  == the law
use Rattle.std.proofs.Common.{ℕ, ◌⊎◌, List, inl, inr, refl}
use Rattle.ml_front.specs.declared.logic.Logic.{Logic}
use Rattle.ml_spec.specs.Faults.{IsRefused}
use Rattle.ml_spec.specs.Specification.{IsSpecification}
use Rattle.ml_spec.specs.declared.rule.SpecRule.{SpecRule}
use Rattle.ml_spec.specs.declared.specification.Item.{Item}
use Rattle.ml_spec.proofs.OneAnswer.{some_reading}
use Rattle.ml_spec.proofs.SpecifiedItems.{specified}
use Rattle.ml_replies.proofs.SomeReplies.{some_replies}
use Rattle.ml_replies.specs.Replies.{AreReplies, Replied}
use Rattle.ml_replies.proofs.WellFormedItems.{items_well}
use Rattle.ml_answers.specs.Lines.{lines_of}
use Rattle.ml_ask_text.specs.Laws.{SomeTold}
use Rattle.ml_ask_text.specs.Told.{verdict_of, IsToldOf, IsWrittenAs}
use Rattle.ml_ask_text.specs.declared.told.Form.{Form}
use Rattle.ml_ask_text.specs.declared.told.Form.TheVariants.{Lines, Files}
use Rattle.ml_ask_text.specs.declared.told.Told.{Told}
use Rattle.ml_ask_text.specs.declared.told.Told.TheVariants.{Answered, Refused}
use Rattle.ml_ask_text.specs.private.Written.{document_text, AreShown}
use Rattle.ml_ask_text.proofs.ShownReplies.{some_shown}
use Rattle.ml_ask_text.proofs.WrittenDocuments.{all_refuted, document_is}

written_as : (f : Form) (l : Logic) (xs : List Item) (n : ℕ) (rs : List Replied)
    → AreReplies l xs n rs
    → AreShown rs
    → (out : List ℕ) × IsWrittenAs f xs rs out
written_as Lines l xs n rs are shown = (lines_of xs rs, refl)
written_as Files l xs n rs are shown = (document_text xs rs, document_is xs rs shown (all_refuted l xs n rs are))

pub some_told : SomeTold
some_told f text n small = by (some_reading text)
  where
    by : ((l : Logic) × (xs : List Item) × IsSpecification text l xs)
        ⊎ ((line : ℕ) × (column : ℕ) × (r : SpecRule) × IsRefused text line column r)
        → (t : Told) × IsToldOf f text n t
    by (inl (l, xs, is)) =
        let given = specified text l xs is in
        let well = items_well text l xs is in
        let some = some_replies l xs n small given well in
        let found = some_shown l xs n small given well some.0 some.1 in
        let rs = found.0 in
        let out = written_as f l xs n rs found.1 found.2 in (
          Answered (verdict_of xs rs) out.0,
          record {
            logic = l;
            items = xs;
            replies = rs;
            is_specification = is;
            are_replies = found.1;
            is_verdict = refl;
            is_written = out.1;
          },
        )
    by (inr (line, column, rule, is)) = (Refused line column rule, is)

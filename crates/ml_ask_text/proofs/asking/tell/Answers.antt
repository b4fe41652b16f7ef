use Rattle.std.proofs.Common.{map, sym, ap, subst, ◌∙◌}
use Rattle.ml_replies.specs.Answers.{replied_of}
use Rattle.ml_ask_text.specs.Told.{verdict_of, IsWrittenAs}
use Rattle.ml_ask_text.proofs.asking.tell.Goals as goal

pub returns : goal.returns
returns c =
    let s = c.args.specification.now in
    let rs = map replied_of c.args.answers.now in
    record {
      logic = s.logic;
      items = s.items.items;
      replies = rs;
      is_specification = c.requires.is_specification;
      are_replies = c.requires.answers;
      is_verdict = c.verdict_of-verdict.ensures ∙ ap (λ xs. verdict_of xs rs) c.deref-2.ensures.value;
      is_written = subst (IsWrittenAs c.args.form s.items.items rs) (sym c.new.ensures)
          (subst (λ xs. IsWrittenAs c.args.form xs rs c.in_ok-bytes.bytes.items) c.deref.ensures.value c.in_ok-bytes.ensures);
    }

use Rattle.std.proofs.Common.{rules, ap, sym, ◌∙◌}
use Rattle.ml_hoa.specs.Tokens.{tokens}
use Rattle.ml_hoa.specs.private.Machine.{outcome}
use Rattle.ml_hoa.specs.private.Views.{state_of}
use Rattle.ml_hoa.proofs.Answered.{refused_from}
use Rattle.ml_hoa.proofs.reading.read.Goals as goal

pub returns-in_err-read_tokens : goal.returns-in_err-read_tokens
returns-in_err-read_tokens c =
    let refused = refused_from c.args.text.now (state_of c.new-reader.result) c.in_err-read_tokens.field-0.0 c.new-reader.ensures
    c.in_err-read_tokens.ensures in search rules

pub finish-requires : goal.finish-requires
finish-requires c =
    ap (λ s. outcome s (tokens c.args.text.now)) (sym c.new-reader.ensures) ∙ c.in_ok-read_tokens.ensures

use Rattle.std.proofs.Common.{sym, ◌∙◌, bytes_eq}
use Rattle.std.specs.Map.{keys_of}
use Rattle.std.proofs.lemmas.Map.Made.{is_some-lookup}
use Rattle.ml_spec.proofs.context.is_declared.Goals as goal
use Rattle.ml_written.proofs.FirstMissing.{declared_member, not_member}

pub returns : goal.returns
returns c =
    let es = c.args.declared.now.entries in
    let n = c.args.name.now in
    let test = c.contains_key.ensures ∙ is_some-lookup (bytes_eq n) es in
    record {
      there = λ is. declared_member (keys_of es) n (sym test ∙ is);
      not_there = λ is. not_member (keys_of es) n (sym test ∙ is);
    }

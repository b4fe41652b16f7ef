use Rattle.std.proofs.Common.{◌∙◌, bytes_eq}
use Rattle.std.proofs.lemmas.Map.Made.{is_some-lookup}
use Rattle.ml_written.proofs.passing.declares.Goals as goal

pub returns : goal.returns
returns g c = c.contains_key.ensures ∙ is_some-lookup (bytes_eq c.args.name.now) c.args.declared.now.entries

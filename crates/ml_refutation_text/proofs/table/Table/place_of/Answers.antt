use Rattle.std.proofs.Common.{[], ap, ◌∙◌, slice_index_or}
use Rattle.ml_refutation_text.specs.WrittenText.{place_in}
use Rattle.ml_refutation_text.specs.private.Collecting.{shown, Collected}
use Rattle.ml_refutation_text.proofs.table.Table.place_of.Goals as goal

pub returns-in-None : goal.returns-in-None
returns-in-None c =
    c.place_among.ensures ∙ ap (place_in (shown c.self.inside.met.keys)) c.at.ensures
    ∙ ap (λ (t : Collected). place_in t.met (slice_index_or t.all c.args.place [])) c.self.view_is

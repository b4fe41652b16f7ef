use Rattle.std.proofs.Common.{ℕ, length, map, All, subst, sym, arith}
use Rattle.std.proofs.lemmas.List.{length-map}
use Rattle.ml_refutation.specs.Refutation.{IsEntry}
use Rattle.ml_refutation.specs.Views.{entry_of}
use Rattle.ml_search.proofs.Tested.{All-mapped}
use Rattle.ml_search.proofs.well_formed.is_refutation.Goals as goal

pub returns : goal.returns
returns c =
    λ yes.
    let entry = entry_of c.args.sequents.now c.args.stacks.now in
    let es = c.args.entries.now in
    let same = length-map es entry in
    record {
      names_fit = c.ranges.names.fits;
      has_start = omega (arith, same, c.if-count-eq0.false);
      entries_fit = omega (arith, same);
      are_entries = All-mapped (IsEntry c.args.names (length (map entry es))) entry es
          (subst (λ (n : ℕ). All (λ e. IsEntry c.args.names n (entry e)) es) (sym same) (c.are_entries.ensures yes));
    }

use Rattle.std.proofs.Common.{◌≡◌, List, ℕ, length}
use Rattle.ml_spec.specs.Known.{with_all, IsDeclared}
use Rattle.ml_spec.specs.Scan.{item_text}
use Rattle.ml_spec.specs.Statements.{is_value, value_name, value_names}
use Rattle.ml_spec.specs.declared.context.Declared.TheVariants.{Made}
use Rattle.ml_spec.proofs.WordSteps.{IsReadWith}
use Rattle.ml_spec.proofs.words.add_values.Given as goal

abbrev pub invariant-loop-alloc : goal.invariant-loop-alloc
invariant-loop-alloc l = record {
  seen : List (List ℕ);
  is_read :
      IsReadWith (is_value l.enumeration)
      (λ words. with_all l.fn.declared.entries Made (value_names l.enumeration words))
      (λ es v. IsDeclared es (value_name l.enumeration v))
      (item_text l.item) l.text seen l.rest l.declared.entries;
  are_values : l.values.items ≡ value_names l.enumeration seen;
}

abbrev pub decreases-loop-alloc : goal.decreases-loop-alloc
decreases-loop-alloc l = length l.rest

use Rattle.std.proofs.Common.{ℕ, List, ap, sym, subst}
use Rattle.std.proofs.lemmas.Result.{IfErr-weaker, IfOk-weaker}
use Rattle.std.specs.Option.{option_copied}
use Rattle.ml_lines.specs.Reading.{words_of}
use Rattle.ml_refutation.specs.Views.{item_of}
use Rattle.ml_refutation_text.specs.BodyRules.{ByTables}
use Rattle.ml_refutation_text.specs.private.ReadTables.{form_of, Grows}
use Rattle.ml_refutation_text.specs.private.ItemReads.{before_of, IsItemOf, TellsItem}
use Rattle.ml_refutation_text.specs.declared.known.Tables.{Tables}
use Rattle.ml_refutation_text.proofs.traces.item_at.Goals as goal

pub returns-in-Two-clause-read : goal.returns-in-Two-clause-read
returns-in-Two-clause-read c =
    let before = before_of (option_copied c.args.before) in
    let words = words_of c.args.line.now in
    let old = c.args.tables.now in
    let live = c.args.live in
    IfOk-weaker c.item_by_table.result
    (λ a. (qs : List (List ℕ)) → IsItemOf (ByTables qs old.stacks) live before words (item_of old.stacks a))
    (λ a. (later : Tables) → Grows c.args.version old later → IsItemOf (form_of c.args.version old) live before words (item_of later.stacks a))
    (λ a is later.
    subst (λ v. Grows v old later → IsItemOf (form_of v old) live before words (item_of later.stacks a)) (sym c.in-Two.is)
    (λ grows. subst (λ ks. IsItemOf (ByTables old.sequents old.stacks) live before words (item_of ks a)) (sym grows.1) (is old.sequents)))
    c.item_by_table.ensures.read

pub returns-in-Two-clause-refused : goal.returns-in-Two-clause-refused
returns-in-Two-clause-refused c =
    let before = before_of (option_copied c.args.before) in
    let words = words_of c.args.line.now in
    let old = c.args.tables.now in
    IfErr-weaker c.item_by_table.result
    (λ e. (names : ℕ) (qs : List (List ℕ)) → TellsItem (ByTables qs old.stacks) names c.args.live before words e)
    (λ e. (names : ℕ) → TellsItem (form_of c.args.version old) names c.args.live before words e)
    (λ e tells names.
    subst (λ v. TellsItem (form_of v old) names c.args.live before words e) (sym c.in-Two.is) (tells names old.sequents))
    c.item_by_table.ensures.refused

pub returns-in-Err-clause-refused : goal.returns-in-Err-clause-refused
returns-in-Err-clause-refused c =
    let before = before_of (option_copied c.args.before) in
    subst
    (λ F. (names : ℕ) → TellsItem F names c.args.live before (words_of c.args.line.now) c.in-Err.refusal)
    (ap (λ v. form_of v c.args.tables.now) (sym c.in-One.is)) c.in-Err.ensures.refused

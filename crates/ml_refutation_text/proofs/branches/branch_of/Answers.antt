use Rattle.std.proofs.Common.{ℕ}
use Rattle.std.proofs.lemmas.Result.{IfErr-weaker}
use Rattle.ml_lines.specs.Reading.{words_of}
use Rattle.ml_refutation_text.specs.private.BranchReads.{BreaksBranch}
use Rattle.ml_refutation_text.proofs.branches.branch_of.Goals as goal

pub returns-then-eq-clause-refused : goal.returns-then-eq-clause-refused
returns-then-eq-clause-refused c =
    let words = words_of c.args.line.now in
    IfErr-weaker c.split_of.result (λ rule. (names wanted : ℕ) → BreaksBranch names wanted c.args.depth words rule)
    (BreaksBranch c.args.names c.args.wanted c.args.depth words) (λ rule breaks. breaks c.args.names c.args.wanted) c.split_of.ensures.refused

pub returns-then-eq-2-clause-refused : goal.returns-then-eq-2-clause-refused
returns-then-eq-2-clause-refused c =
    let words = words_of c.args.line.now in
    IfErr-weaker c.clash_of.result (λ rule. (names wanted depth : ℕ) → BreaksBranch names wanted depth words rule)
    (BreaksBranch c.args.names c.args.wanted c.args.depth words) (λ rule breaks. breaks c.args.names c.args.wanted c.args.depth)
    c.clash_of.ensures.refused

pub returns-then-eq-3-clause-refused : goal.returns-then-eq-3-clause-refused
returns-then-eq-3-clause-refused c =
    let words = words_of c.args.line.now in
    IfErr-weaker c.go_of.result (λ rule. (depth : ℕ) → BreaksBranch c.args.names c.args.wanted depth words rule)
    (BreaksBranch c.args.names c.args.wanted c.args.depth words) (λ rule breaks. breaks c.args.depth) c.go_of.ensures.refused

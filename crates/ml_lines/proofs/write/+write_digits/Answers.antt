use Rattle.std.proofs.Common.{◌≡◌, ◌++◌, ◌/◌, arith}
use Rattle.ml_lines.specs.Lines.{number}
use Rattle.ml_lines.proofs.Digits.{only_digit, last_digit}
use Rattle.ml_lines.proofs.write.+write_digits.Goals as goal
use Rattle.ml_lines.proofs.write.+write_digits.Goals.{then-n-ge10+in_ok-write_digits, else-n-ge10}

pub returns-clause-ok : goal.returns-clause-ok
returns-clause-ok t c =
    let before = c.args.out.now.items in
    let tenth = c.if-n-ge10.out.items in
    let after = c.push.new.self.items in
    elim c.if-n-ge10.branch [
      | then-n-ge10+in_ok-write_digits w ↦
          let front : tenth ≡ before ++ number (c.args.n / 10) = cc w.in_ok-write_digits.ensures.ok in
          last_digit before tenth after c.args.n (omega arith) (omega arith) front c.in_ok-push.ensures.items
      | else-n-ge10 w ↦
          let none : tenth ≡ before = cc in
          only_digit before after c.args.n (omega arith) (rw none at c.in_ok-push.ensures.items)
    ]

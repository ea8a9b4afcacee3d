use Rattle.std.proofs.Common.{◌≡◌, ◌+◌, ◌-◌, length, Ok, take, sym, ap, ◌∙◌, arith}
use Rattle.opcode_table.specs.Turned.{turned}
use Rattle.opcode_table.proofs.Turned.{split_few, split_taken}
use Rattle.opcode_table.proofs.signatures.split_top.Goals as goal

pub returns-then-count-stack-clause-err : goal.returns-then-count-stack-clause-err
returns-then-count-stack-clause-err c = split_few c.args.count c.args.stack.now (omega arith)

pub returns-clause-ok : goal.returns-clause-ok
returns-clause-ok c =
    let place = length c.args.stack.now - c.args.count in
    split_taken c.args.count place c.args.stack.now (omega arith)
    ∙ ap (λ l. Ok (turned l, turned (take place c.args.stack.now))) (sym c.split_at.ensures.back)
    ∙ ap (λ l. Ok (turned c.split_at.result.1.now, turned l)) (sym c.split_at.ensures.front)

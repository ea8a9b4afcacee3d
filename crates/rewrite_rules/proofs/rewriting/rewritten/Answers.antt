use Rattle.std.proofs.Common.{◌≡◌, true}
use Rattle.rewrite_rules.specs.Fitting.{instr_of}
use Rattle.rewrite_rules.proofs.Windows.{matched_instrs, matched_checks, same_place, some_row, found}
use Rattle.rewrite_rules.proofs.rewriting.rewritten.Goals as goal

pub returns-then-not-has_instrs-clause-none : goal.returns-then-not-has_instrs-clause-none
returns-then-not-has_instrs-clause-none c = λ _ m.
    let h : c.has_instrs.result ≡ true = c.has_instrs.ensures.1 (matched_instrs _ _ m) in cc

pub returns-then-not-is_one_statement-clause-none : goal.returns-then-not-is_one_statement-clause-none
returns-then-not-is_one_statement-clause-none c = λ _ m.
    let h : c.is_one_statement.result ≡ true = c.is_one_statement.ensures.1 (matched_checks _ _ c.args.place _ c.checking_at-checking.result m (same_place c.args.before.now instr_of c.args.place c.requires.placed) (c.checking_at-checking.ensures (some_row c.checking_at-checking.result))) in cc

pub returns-clause-found : goal.returns-clause-found
returns-clause-found c =
    found _ _ _ _ _ (some_row c.checking_at-checking.result) c.doing_at-doing.result c.checking_at-checking.result (c.has_instrs.ensures.0 c.if-not-has_instrs.false) (c.is_one_statement.ensures.0 c.if-not-is_one_statement.false) (same_place c.args.before.now instr_of c.args.place c.requires.placed) (c.doing_at-doing.ensures (some_row c.checking_at-checking.result)) c.placed.ensures

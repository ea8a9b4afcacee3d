use Rattle.std.proofs.Common.{◌≡◌, [], take, drop}
use Rattle.std.specs.List.{list_any, list_all}
use Rattle.std.specs.BTreeSet.{contains}
use Rattle.tx_context.specs.declared.verdict.Subject.{Subject}
use Rattle.tx_context.specs.Table.{rows_check, speaks_of, has_bytes}
use Rattle.tx_context.proofs.Subjects.{subject_cmp}
use Rattle.tx_context.proofs.verdict.check_rows.Given as goal

-- what is left, after what was tested, is refused as the whole is; it holds bytes where the whole does; and of what the tested
-- rows speak the set has all, and nothing else
abbrev pub invariant-loop-i : goal.invariant-loop-i
invariant-loop-i l = record {
  checks : rows_check (take l.i l.rows) (drop l.i l.rows) ≡ rows_check [] l.rows;
  bytes : list_all has_bytes (drop l.i l.rows) ≡ list_all has_bytes l.rows;
  seen : (q : Subject) → contains subject_cmp l.seen q ≡ list_any (speaks_of q.kind q.sig.now q.key.now q.message.now) (take l.i l.rows);
}

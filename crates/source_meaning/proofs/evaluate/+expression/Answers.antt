use Rattle.std.proofs.Common.{◌≡◌, ℕ, List, ◌+◌, ◌<◌, ◌≤◌, ◌∙◌, ap, sym, subst, refl, arith, rules, map, length, drop, get_or, ◌∷◌}
use Rattle.std.specs.Prelude.{Result, Ok, Err}
use Rattle.std.proofs.lemmas.List.{at_drop_more}
use Rattle.cash_tree.specs.Nodes.{total}
use Rattle.type_tables.specs.Tables.{TypedExpr}
use Rattle.cash_base.specs.Failing.{◌>>=◌}
use Rattle.form_tables.specs.declared.forms.CallForm.TheVariants.{CheckMulti}
use Rattle.meaning_room.specs.declared.outcome.Failure.{Failure}
use Rattle.meaning_room.specs.Meaning.{One, Node, Value, element, form_value, items_of, node_of, value_of, with_chunks}
use Rattle.meaning_room.specs.Names.{env_of}
use Rattle.source_meaning.specs.Runnable.{node_count}
use Rattle.meaning_room.specs.Stack.{top, pushed_all}
use Rattle.source_meaning.proofs.Multi.{on_top, one_pushed, two_args, are_both, multi_given, sigs_failed, keys_failed}
use Rattle.source_meaning.proofs.Steps.{some_node, whole_listed, no_array_listed}
use Rattle.source_meaning.proofs.evaluate.+expression.Goals as goal

pub all-loop-part-preserved : goal.all-loop-part-preserved
all-loop-part-preserved t c =
    let v : TypedExpr → Value = value_of c.args.world.now (env_of c.args.names.now) in
    let parts = c.args.parts.now in
    let i = c.loop-part.part-index in
    let part = c.part-item.result in
    let stack = c.loop-part.operands in
    let new = c.one.new.operands in
    let within : i < length parts = omega arith in
    let here : new ≡ top new ∷ stack = on_top new stack c.in_ok-one.ensures.rest c.in_ok-one.ensures.height in
    let value : element (v (get_or parts i part)) ≡ Ok (top new) = subst (λ (e : TypedExpr). element (v e) ≡ Ok (top new)) c.part-item.is c.in_ok-one.ensures.value in
    let count : total (map node_count (drop i parts)) ≡ node_count part + total (map node_count (drop (i + 1) parts)) =
    at_drop_more (λ l. total (map node_count l)) parts i part within ∙ ap (λ (e : TypedExpr). node_count e + total (map node_count (drop (i + 1) parts))) (sym c.part-item.is) in
    let some = some_node part in
    let height : length new ≡ length stack + 1 = c.in_ok-one.ensures.height in
    let before : length stack ≡ length c.args.operands.now + i = c.loop-part.invariant.1 in
    let places : length stack + total (map node_count (drop i parts)) ≤ 1000 = c.loop-part.invariant.2 in
    (one_pushed v parts i part stack new (pushed_all (map v parts) c.args.operands.now) within c.loop-part.invariant.0 value here, omega arith, omega arith)

pub chunks_of-returns-in_default : goal.chunks_of-returns-in_default
chunks_of-returns-in_default t c =
    let e = c.args.e.now in
    let env = env_of c.args.names.now in
    let none = whole_listed c.args.world.now env e ∙ no_array_listed c.args.world.now env e.kind c.in_default.not-Array in
    record {
      value = ap (with_chunks c.args.span (top c.args.operands.now)) none;
      rest = refl;
      height = refl;
      err = tt;
    }

pub items-returns-in_default : goal.items-returns-in_default
items-returns-in_default t c =
    let e = c.args.e.now in
    let env = env_of c.args.names.now in
    let none = whole_listed c.args.world.now env e ∙ no_array_listed c.args.world.now env e.kind c.in_default.not-Array in
    record {
      value = ap (λ values. pushed_all values c.args.operands.now) none;
      count = ap length none;
      height = omega arith;
      few = omega arith;
      err = tt;
    }

pub form_of_sigs-returns-in_err-sigs-clause-err : goal.form_of_sigs-returns-in_err-sigs-clause-err
form_of_sigs-returns-in_err-sigs-clause-err t c =
    let world = c.args.world.now in
    let node : TypedExpr → Node = node_of world (env_of c.args.names.now) in
    let whole = two_args c.args.args.now c.sigs-item.result c.keys-item.result c.in-len2.len_at_least c.in-len2.len_below c.sigs-item.is c.keys-item.is in
    let failed : form_value world c.args.span CheckMulti (map node c.args.args.now) ≡ Err c.in_err-sigs.field-0.0 =
    ap (λ l. form_value world c.args.span CheckMulti (map node l)) whole
    ∙ sigs_failed world c.args.span (node c.sigs-item.result) (node c.keys-item.result) c.args.operands.now c.in_err-sigs.field-0.0 c.in_err-sigs.ensures.err in
    search rules

pub form_of_sigs-returns-in_err-keys-clause-err : goal.form_of_sigs-returns-in_err-keys-clause-err
form_of_sigs-returns-in_err-keys-clause-err t c =
    let world = c.args.world.now in
    let node : TypedExpr → Node = node_of world (env_of c.args.names.now) in
    let whole = two_args c.args.args.now c.sigs-item.result c.keys-item.result c.in-len2.len_at_least c.in-len2.len_below c.sigs-item.is c.keys-item.is in
    let failed : form_value world c.args.span CheckMulti (map node c.args.args.now) ≡ Err c.in_err-keys.field-0.0 =
    ap (λ l. form_value world c.args.span CheckMulti (map node l)) whole
    ∙ keys_failed world c.args.span (node c.sigs-item.result) (node c.keys-item.result) c.args.operands.now c.items.new.operands c.in_err-keys.field-0.0 c.in_ok-sigs.ensures.value c.in_err-keys.ensures.err in
    search rules

pub form_of_sigs-returns-in_err-check_multi-clause-err : goal.form_of_sigs-returns-in_err-check_multi-clause-err
form_of_sigs-returns-in_err-check_multi-clause-err t c =
    let world = c.args.world.now in
    let node : TypedExpr → Node = node_of world (env_of c.args.names.now) in
    let whole = two_args c.args.args.now c.sigs-item.result c.keys-item.result c.in-len2.len_at_least c.in-len2.len_below c.sigs-item.is c.keys-item.is in
    let given : Result (List ℕ) Failure → Value = λ r. r >>= λ e. Ok (One e) in
    let failed : form_value world c.args.span CheckMulti (map node c.args.args.now) ≡ Err c.in_err-check_multi.field-0.0 =
    ap (λ l. form_value world c.args.span CheckMulti (map node l)) whole
    ∙ multi_given world c.args.span (node c.sigs-item.result) (node c.keys-item.result) c.args.operands.now c.items.new.operands c.items-2.new.operands c.in_ok-sigs.sigs c.in_ok-keys.keys c.in_ok-sigs.ensures.value c.in_ok-keys.ensures.value c.in_ok-sigs.ensures.count c.in_ok-keys.ensures.count
    ∙ ap given c.in_err-check_multi.ensures.err in
    search rules

pub form_of_sigs-returns-clause-value : goal.form_of_sigs-returns-clause-value
form_of_sigs-returns-clause-value t c =
    let world = c.args.world.now in
    let node : TypedExpr → Node = node_of world (env_of c.args.names.now) in
    let whole = two_args c.args.args.now c.sigs-item.result c.keys-item.result c.in-len2.len_at_least c.in-len2.len_below c.sigs-item.is c.keys-item.is in
    let given : Result (List ℕ) Failure → Value = λ r. r >>= λ e. Ok (One e) in
    ap (λ l. form_value world c.args.span CheckMulti (map node l)) whole
    ∙ multi_given world c.args.span (node c.sigs-item.result) (node c.keys-item.result) c.args.operands.now c.items.new.operands c.items-2.new.operands c.in_ok-sigs.sigs c.in_ok-keys.keys c.in_ok-sigs.ensures.value c.in_ok-keys.ensures.value c.in_ok-sigs.ensures.count c.in_ok-keys.ensures.count
    ∙ ap given c.in_ok-check_multi.ensures.value

pub form_of_sigs-returns-clause-rest : goal.form_of_sigs-returns-clause-rest
form_of_sigs-returns-clause-rest t c =
    let world = c.args.world.now in
    let env = env_of c.args.names.now in
    let both = are_both (items_of world env c.sigs-item.result) (items_of world env c.keys-item.result) c.args.operands.now c.items.new.operands c.items-2.new.operands c.in_ok-sigs.sigs c.in_ok-keys.keys c.in_ok-sigs.ensures.value c.in_ok-keys.ensures.value c.in_ok-sigs.ensures.count c.in_ok-keys.ensures.count in
    c.in_ok-check_multi.ensures.rest ∙ both.rest

-- What rows of one statement add.
use Rattle.std.proofs.Common.{◌≡◌, ℕ, ◌+◌, ◌-◌, ◌≤◌, Bool, true, false, cond, not, List, [], ◌∷◌, ◌++◌, length, Some, pos, refl, sym, ap, ◌∙◌, subst, arith, append_assoc}
use Rattle.std.specs.Prelude.{◌&&◌, ◌||◌, nat_lt}
use Rattle.std.proofs.lemmas.Bool.{and_parts, and_from, le-leb, not-true}
use Rattle.cash_base.specs.declared.place.Span.{Span}
use Rattle.script_codec.specs.declared.instr.Instr.{Instr}
use Rattle.script_codec.specs.declared.spans.Spanned.{Spanned}
use Rattle.script_codec.specs.Reading.{push}
use Rattle.script_codec.specs.Counting.{number_pushed, key_count}
use Rattle.bch_vm.specs.Law.{are_keys_known, asks_for_keys, pushes_key_count, is_key_count}
use Rattle.cash_base.specs.Number.{number_of}
use Rattle.slot_code.specs.Shape.{Operand}
use Rattle.slot_code.specs.Weight.{Weigh, weight, costs}
use Rattle.row_runs.specs.Rows.{row, instructions, is_control}
use Rattle.row_runs.proofs.Turns.{instructions_append}
use Rattle.stack_emitter.specs.declared.emit.Emitter.{Emitter}
use Rattle.stack_emitter.specs.Codes.{is_span, is_plain_instr, are_plain, bytes_of, ops_of}
use Rattle.stack_emitter.specs.Correct.{Deed, Adds, Costs}
use Rattle.stack_emitter.proofs.Steps.{op}
use Rattle.stack_emitter.proofs.Sizes.{bytes_append, ops_append}
use Rattle.stack_steps.specs.declared.low.Low.{Low}
use Rattle.stack_steps.specs.Steps.{are_told, Tells, Pushed, TopPushed, KeysKnown, counted, counted_of, Pays}

-- plain rows, one by one
plain_parts : (d c : Span) (r : Spanned) (rows : List Spanned) → are_plain d c (r ∷ rows) ≡ true
    → ((is_span d r.doing && is_span c r.checking) ≡ true) × (not (is_control r.instr) ≡ true) × (not (asks_for_keys r.instr) ≡ true) × (are_plain d c rows ≡ true)
plain_parts d c r rows h =
    let p = and_parts ((is_span d r.doing && is_span c r.checking) && is_plain_instr r.instr) (are_plain d c rows) h in
    let q = and_parts (is_span d r.doing && is_span c r.checking) (is_plain_instr r.instr) p.0 in
    let s = and_parts (not (is_control r.instr)) (not (asks_for_keys r.instr)) q.1 in
    (q.0, s.0, s.1, p.1)

pub plain_told : (d c : Span) (rows : List Spanned) → are_plain d c rows ≡ true → are_told d c rows ≡ true
plain_told d c [] h = refl
plain_told d c (r ∷ rows) h =
    let p = plain_parts d c r rows h in
    and_from ((is_span d r.doing && is_span c r.checking) && not (is_control r.instr)) (are_told d c rows)
    (and_from (is_span d r.doing && is_span c r.checking) (not (is_control r.instr)) p.0 p.1) (plain_told d c rows p.3)

pub or_right : (x y : Bool) → y ≡ true → (x || y) ≡ true
or_right true y e = refl
or_right false y e = e

-- plain rows ask for no keys
pub plain_known : (d c : Span) (rows : List Spanned) (before : Bool) → are_plain d c rows ≡ true → are_keys_known before (instructions rows) ≡ true
plain_known d c [] before h = refl
plain_known d c (r ∷ rows) before h =
    let p = plain_parts d c r rows h in
    and_from (before || not (asks_for_keys r.instr)) (are_keys_known (pushes_key_count r.instr) (instructions rows))
    (or_right before (not (asks_for_keys r.instr)) p.2) (plain_known d c rows (pushes_key_count r.instr) p.3)

-- what stands behind is known whatever stands before it
pub known_then : (a b : List Instr) (before : Bool) → ((x : Bool) → are_keys_known x b ≡ true) → are_keys_known before a ≡ true → are_keys_known before (a ++ b) ≡ true
known_then [] b before all h = all before
known_then (i ∷ a) b before all h =
    let p = and_parts (before || not (asks_for_keys i)) (are_keys_known (pushes_key_count i) a) h in
    and_from (before || not (asks_for_keys i)) (are_keys_known (pushes_key_count i) (a ++ b)) p.0 (known_then a b (pushes_key_count i) all p.1)

pub keys_of : (d c : Span) (old new : Emitter) (rows : List Spanned) → new.code.items ≡ old.code.items ++ rows → are_plain d c rows ≡ true
    → TopPushed new.place.operands new.code.items → KeysKnown old → KeysKnown new
keys_of d c old new rows grown plain top k = record {
  known = ap (λ l. are_keys_known false (instructions l)) grown ∙ ap (are_keys_known false) (instructions_append old.code.items rows)
      ∙ known_then (instructions old.code.items) (instructions rows) false (λ x. plain_known d c rows x plain) k.known;
  top = top;
}

pub adds_keys : (d c : Span) (old new : Emitter) (deed : Deed) → Adds d c old new deed → TopPushed new.place.operands new.code.items → KeysKnown old → KeysKnown new
adds_keys d c old new deed x top k = keys_of d c old new x.emits.rows x.emits.grown x.plain top k

pub adds_tells : (d c : Span) (old new : Emitter) (deed : Deed) → Adds d c old new deed → Tells d c old new
adds_tells d c old new deed x = record { rows = x.emits.rows; grown = x.emits.grown; told = plain_told d c x.emits.rows x.plain }

pub top_none : (new : Emitter) (operands : List Operand) → new.place.operands ≡ operands → TopPushed operands new.code.items → TopPushed new.place.operands new.code.items
top_none new operands e t = subst (λ o. TopPushed o new.code.items) (sym e) t

-- ---- counted opcodes

plain_counted : (d c : Span) (rows : List Spanned) (keys : ℕ) → are_plain d c rows ≡ true → counted keys (instructions rows) ≡ ops_of rows
unfolding counted ops_of
plain_counted d c [] keys h = refl
plain_counted d c (r ∷ rows) keys h =
    let p = plain_parts d c r rows h in
    let none = ap (λ b. cond b keys 0) (not-true (asks_for_keys r.instr) p.2) in
    let more = plain_counted d c rows (key_count (number_pushed r.instr)) p.3 in
    omega (arith, none, more)

pub counted_then : (a b : List Instr) (keys n : ℕ) → ((k : ℕ) → counted k b ≡ n) → counted keys (a ++ b) ≡ counted keys a + n
unfolding counted
counted_then [] b keys n all = let h = all keys in omega (arith, h)
counted_then (i ∷ a) b keys n all = let h = counted_then a b (key_count (number_pushed i)) n all in omega (arith, h)

pub grown_counted : (d c : Span) (old new : Emitter) (rows : List Spanned) → new.code.items ≡ old.code.items ++ rows → are_plain d c rows ≡ true
    → counted_of new.code.items ≡ counted_of old.code.items + ops_of rows
grown_counted d c old new rows grown plain =
    ap counted_of grown ∙ ap (counted 0) (instructions_append old.code.items rows)
    ∙ counted_then (instructions old.code.items) (instructions rows) 0 (ops_of rows) (λ k. plain_counted d c rows k plain)

-- what plain rows cost
pub adds_ops : (d c : Span) (old new : Emitter) (deed : Deed) (o : ℕ) → Adds d c old new deed → ops_of new.code.items ≤ ops_of old.code.items + o
    → counted_of new.code.items ≤ counted_of old.code.items + o
adds_ops d c old new deed o x h =
    let e = grown_counted d c old new x.emits.rows x.emits.grown x.plain in
    let f = ap ops_of x.emits.grown ∙ ops_append old.code.items x.emits.rows in
    omega (arith, e, f, h)

-- a check behind the push of its number of keys
counted_check : (a : List Instr) (e : List ℕ) (keys n : ℕ) → key_count (number_of e) ≡ n
    → counted keys (a ++ push e ∷ op 0xae ∷ []) ≡ counted keys (a ++ push e ∷ []) + (1 + n)
unfolding counted
counted_check [] e keys n is = omega (arith, is)
counted_check (i ∷ a) e keys n is = let h = counted_check a e (key_count (number_pushed i)) n is in omega (arith, h)

known_check : (a : List Instr) (e : List ℕ) (before : Bool) → is_key_count (number_of e) ≡ true → are_keys_known before (a ++ push e ∷ []) ≡ true
    → are_keys_known before (a ++ push e ∷ op 0xae ∷ []) ≡ true
known_check [] e before is h = ap (λ b. (before || true) && ((b || false) && true)) is ∙ any before
  where
    any : (b : Bool) → ((b || true) && true) ≡ true
    any true = refl
    any false = refl
known_check (i ∷ a) e before is h =
    let p = and_parts (before || not (asks_for_keys i)) (are_keys_known (pushes_key_count i) (a ++ push e ∷ [])) h in
    and_from (before || not (asks_for_keys i)) (are_keys_known (pushes_key_count i) (a ++ push e ∷ op 0xae ∷ [])) p.0 (known_check a e (pushes_key_count i) is p.1)

module _ (d c : Span) (old new : Emitter) (e : List ℕ) (keys : ℕ) (operands : List Operand) (at : old.place.operands ≡ Some e ∷ operands) (few : keys ≤ 20) (is : number_of e ≡ Some (pos keys)) (grown : new.code.items ≡ old.code.items ++ row (op 0xae) d c ∷ []) (k : KeysKnown old) where
  top_push : Pushed e old.code.items
  top_push = subst (λ o. TopPushed o old.code.items) at k.top

  before_is : instructions old.code.items ≡ instructions top_push.before ++ push e ∷ []
  before_is = ap instructions top_push.rows_are ∙ instructions_append top_push.before (top_push.pusher ∷ []) ∙ ap (λ i. instructions top_push.before ++ i ∷ []) top_push.pushes

  after_is : instructions new.code.items ≡ instructions top_push.before ++ push e ∷ op 0xae ∷ []
  after_is =
      ap instructions grown ∙ instructions_append old.code.items (row (op 0xae) d c ∷ []) ∙ ap (λ l. l ++ op 0xae ∷ []) before_is
      ∙ append_assoc (instructions top_push.before) (push e ∷ []) (op 0xae ∷ [])

  counts : key_count (number_of e) ≡ keys
  counts = ap key_count is ∙ ap (λ b. cond b keys 0) (le-leb keys 20 few)

  is_count : is_key_count (number_of e) ≡ true
  is_count = ap is_key_count is ∙ le-leb keys 20 few

  pub check_ops : counted_of new.code.items ≤ counted_of old.code.items + (1 + keys)
  check_ops =
      let a = ap (counted 0) after_is in
      let b = ap (counted 0) before_is in
      let h = counted_check (instructions top_push.before) e 0 keys counts in
      omega (arith, a, b, h)

  pub check_keys : TopPushed new.place.operands new.code.items → KeysKnown new
  check_keys top = record {
    known = ap (are_keys_known false) after_is ∙ known_check (instructions top_push.before) e false is_count (sym (ap (are_keys_known false) before_is) ∙ k.known);
    top = top;
  }

-- ---- weights

abbrev pub cost : ℕ → ℕ → Weigh
cost bytes ops names = weight bytes ops names

-- what rows cost, with the slots that stand
pub record Spends (old new : Emitter) (bytes ops : ℕ) : Type 0 where
  pub bytes_fit : bytes_of new.code.items + length new.place.slots ≤ bytes_of old.code.items + length old.place.slots + bytes
  pub ops_fit : counted_of new.code.items + length new.place.slots ≤ counted_of old.code.items + length old.place.slots + ops

pub adds_spends : (d c : Span) (old new : Emitter) (deed : Deed) (b o : ℕ) → Adds d c old new deed → Costs old new b o → Spends old new b o
adds_spends d c old new deed b o x costs =
    let e = grown_counted d c old new x.emits.rows x.emits.grown x.plain in
    let f = ap ops_of x.emits.grown ∙ ops_append old.code.items x.emits.rows in
    let i = costs.ops_fit in
    record { bytes_fit = costs.bytes_fit; ops_fit = omega (arith, e, f, i) }

pub pays_same : (w : Weigh) (b o : ℕ) (old new : Low) → w ≡ cost b o → new.scope ≡ old.scope → Spends old.emitter new.emitter b o → Pays w old new
pays_same w b o old new w_is scope x =
    let s = ap length scope in
    let i = x.bytes_fit in
    let j = x.ops_fit in
    subst (λ v. Pays v old new) (sym w_is) (record { names = sym s; bytes_fit = omega (arith, s, i); ops_fit = omega (arith, s, j) })

-- so many names more, of which each has one byte and one opcode in store
pub pays_more : (w : Weigh) (n : ℕ) (old new : Low) → w ≡ (λ names. weight 0 0 (names + n)) → length new.scope ≡ length old.scope + n → Spends old.emitter new.emitter n n → Pays w old new
pays_more w n old new w_is s x =
    let i = x.bytes_fit in
    let j = x.ops_fit in
    subst (λ v. Pays v old new) (sym w_is) (record { names = sym s; bytes_fit = omega (arith, s, i); ops_fit = omega (arith, s, j) })

-- a name less, whose store is spent
pub pays_end : (w : Weigh) (old new : Low) → w ≡ (λ names. weight 5 2 (names - 1)) → length old.scope ≡ length new.scope + 1 → Spends old.emitter new.emitter 4 1 → Pays w old new
pays_end w old new w_is s x =
    let i = x.bytes_fit in
    let j = x.ops_fit in
    subst (λ v. Pays v old new) (sym w_is) (record { names = omega (arith, s); bytes_fit = omega (arith, s, i); ops_fit = omega (arith, s, j) })

-- the emitter before is that of another state with the same names
pub pays_from : (w : Weigh) (old marked new : Low) → marked.emitter ≡ old.emitter → marked.scope ≡ old.scope → Pays w marked new → Pays w old new
pays_from w old marked new e s x =
    let n = ap length s in
    let b = ap (λ (e : Emitter). bytes_of e.code.items) e in
    let o = ap (λ (e : Emitter). counted_of e.code.items) e in
    let l = ap (λ (e : Emitter). length e.place.slots) e in
    record {
      names = ap (λ m. (w m).names) (sym n) ∙ x.names;
      bytes_fit = let wb = ap (λ m. (w m).bytes) n in let f = x.bytes_fit in omega (arith, n, b, l, wb, f);
      ops_fit = let wo = ap (λ m. (w m).ops) n in let f = x.ops_fit in omega (arith, n, o, l, wo, f);
    }

-- rows of opcodes
pub op_bytes : (opcode : ℕ) (d c : Span) → bytes_of (row (op opcode) d c ∷ []) ≡ 1
unfolding bytes_of
op_bytes opcode d c = refl

pub op_ops : (opcode : ℕ) (d c : Span) → ops_of (row (op opcode) d c ∷ []) ≤ 1
unfolding ops_of
op_ops opcode d c = by (nat_lt 0x60 opcode)
  where
    by : (b : Bool) → cond b 1 0 + 0 ≤ 1
    by true = omega arith
    by false = omega arith

pub grown_bytes : (old new : Emitter) (rows : List Spanned) (b : ℕ) → new.code.items ≡ old.code.items ++ rows → bytes_of rows ≤ b → bytes_of new.code.items ≤ bytes_of old.code.items + b
grown_bytes old new rows b grown few = let e = ap bytes_of grown ∙ bytes_append old.code.items rows in omega (arith, e, few)

-- Code that puts one element: its pieces, and the operations behind them.
use Rattle.std.proofs.Common.{◌≡◌, ◌≤◌, ℕ, ◌+◌, ◌*◌, Bool, true, false, List, [], ◌∷◌, ◌++◌, None, Result, Ok, refl, ap, ◌∙◌, arith, append_assoc}
use Rattle.std.specs.Prelude.{◌&&◌, Some}
use Rattle.cash_base.specs.declared.place.Span.{Span}
use Rattle.cash_base.specs.declared.place.Slot.{Slot}
use Rattle.cash_base.specs.Failing.{◌>>=◌}
use Rattle.tx_context.specs.World.{World}
use Rattle.type_tables.specs.Tables.{TypedExpr}
use Rattle.source_meaning.specs.declared.outcome.Failure.{Failure}
use Rattle.source_meaning.specs.Meaning.{Env, Value, One as GivenOne, element, value_of}
use Rattle.source_meaning.specs.Runnable.{node_count}
use Rattle.slot_code.specs.declared.slots.SlotInstr.{SlotInstr}
use Rattle.slot_code.specs.declared.slots.SlotKind.{SlotKind}
use Rattle.slot_code.specs.Meaning.{state, act_of}
use Rattle.slot_code.specs.Shape.{Operand, Shapes, works_on, puts, value as work, shapes_at}
use Rattle.slot_code.specs.Weight.{costs, plain, weighs_at}
use Rattle.slot_code.specs.Spans.{spans_at}
use Rattle.slot_expressions.specs.declared.expressions.Width.TheVariants as widths
use Rattle.slot_expressions.specs.Ready.{Known-names, is_ready}
use Rattle.slot_expressions.specs.Room.{Price, ◌⊕◌, nothing, price_of}
use Rattle.slot_expressions.specs.Spans.{SpannedBy, own_spans}
use Rattle.slot_expressions.specs.Reads.{Gets, gets_at, names_in}
use Rattle.slot_expressions.proofs.ReadRows.{gets_as, gets_both, gets_row, gets_then}
use Rattle.slot_expressions.specs.Pieces.{Gives, Code, Stands, Light, LowersValue, LowersElement, instruction, in_scope}
use Rattle.slot_expressions.proofs.Puts.{bind_bind, bind_two, bind_three, puts_as, puts_row, puts_value, is_wide, after_one, after_two, after_three}
use Rattle.slot_expressions.proofs.Standing.{stands_both, stands_most, stands_op, stands_put, begins_row, begins_more}
use Rattle.slot_expressions.proofs.Lights.{Under, light_as, light_both, light_row, light_then}
use Rattle.slot_expressions.proofs.Spanning.{Covers, covers_first, covers_rest, spanned_in, spanned_both, spanned_sum, spanned_two, spanned_row}
use Rattle.slot_expressions.proofs.Tests.{and_left, and_right}

-- ---- what a row does

abbrev pub Acts0 : SlotInstr → Gives → Type 0
Acts0 i v = (world : World) (operands : List (List ℕ)) (env : Env) → act_of world i (state operands env) ≡ (v world env >>= λ e. Ok (state (e ∷ operands) env))

abbrev pub Acts1 : SlotInstr → (World → List ℕ → Result (List ℕ) Failure) → Type 0
Acts1 i f = (world : World) (x : List ℕ) (rest : List (List ℕ)) (env : Env) → act_of world i (state (x ∷ rest) env) ≡ (f world x >>= λ e. Ok (state (e ∷ rest) env))

abbrev pub Acts2 : SlotInstr → (World → List ℕ → List ℕ → Result (List ℕ) Failure) → Type 0
Acts2 i f = (world : World) (x y : List ℕ) (rest : List (List ℕ)) (env : Env) → act_of world i (state (y ∷ x ∷ rest) env) ≡ (f world x y >>= λ e. Ok (state (e ∷ rest) env))

abbrev pub Acts3 : SlotInstr → (World → List ℕ → List ℕ → List ℕ → Result (List ℕ) Failure) → Type 0
Acts3 i f = (world : World) (x y z : List ℕ) (rest : List (List ℕ)) (env : Env) → act_of world i (state (z ∷ y ∷ x ∷ rest) env) ≡ (f world x y z >>= λ e. Ok (state (e ∷ rest) env))

-- ---- pieces

pub code_op1 : {a : List SlotInstr} {checking : Span} {va : Gives} {ra : Known-names → Bool} {ma : ℕ} (kind : SlotKind) (doing : Span) (f : World → List ℕ → Result (List ℕ) Failure)
    → Acts1 (instruction kind doing checking) f → shapes_at kind ≡ work (works_on 1) → Code a checking va ra ma
    → Code (a ++ instruction kind doing checking ∷ []) checking (λ world env. va world env >>= f world) ra ma
code_op1 {a} {checking} {va} {ra} {ma} kind doing f acts shape h = record {
  puts = after_one va (instruction kind doing checking) f acts h.puts;
  begins = begins_more (instruction kind doing checking ∷ []) h.begins;
  top = None;
  stands = λ slots ready. stands_op kind doing 1 shape refl (omega arith) (h.stands slots ready);
}

pub code_op2 : {a b : List SlotInstr} {checking : Span} {va vb : Gives} {ra rb : Known-names → Bool} {ma mb : ℕ} (kind : SlotKind) (doing : Span) (f : World → List ℕ → List ℕ → Result (List ℕ) Failure)
    → Acts2 (instruction kind doing checking) f → shapes_at kind ≡ work (works_on 2) → Code a checking va ra ma → Code b checking vb rb mb
    → Code ((a ++ b) ++ instruction kind doing checking ∷ []) checking (λ world env. va world env >>= λ x. vb world env >>= λ y. f world x y) (λ known. ra known && rb known) (ma + mb)
code_op2 {a} {b} {checking} {va} {vb} {ra} {rb} {ma} {mb} kind doing f acts shape ha hb = record {
  puts = after_two va vb (instruction kind doing checking) f acts ha.puts hb.puts;
  begins = begins_more (instruction kind doing checking ∷ []) (begins_more b ha.begins);
  top = None;
  stands = λ slots ready. stands_op kind doing 2 shape refl (omega arith)
      (stands_both (ha.stands slots (and_left (ra (in_scope slots)) (rb (in_scope slots)) ready)) (hb.stands slots (and_right (ra (in_scope slots)) (rb (in_scope slots)) ready)));
}

pub code_op3 : {a b c : List SlotInstr} {checking : Span} {va vb vc : Gives} {ra rb rc : Known-names → Bool} {ma mb mc : ℕ} (kind : SlotKind) (doing : Span) (f : World → List ℕ → List ℕ → List ℕ → Result (List ℕ) Failure)
    → Acts3 (instruction kind doing checking) f → shapes_at kind ≡ work (works_on 3) → Code a checking va ra ma → Code b checking vb rb mb → Code c checking vc rc mc
    → Code (((a ++ b) ++ c) ++ instruction kind doing checking ∷ []) checking (λ world env. va world env >>= λ x. vb world env >>= λ y. vc world env >>= λ z. f world x y z)
    (λ known. ra known && (rb known && rc known)) (ma + mb + mc)
code_op3 {a} {b} {c} {checking} {va} {vb} {vc} {ra} {rb} {rc} {ma} {mb} {mc} kind doing f acts shape ha hb hc = record {
  puts = after_three va vb vc (instruction kind doing checking) f acts ha.puts hb.puts hc.puts;
  begins = begins_more (instruction kind doing checking ∷ []) (begins_more c (begins_more b ha.begins));
  top = None;
  stands = λ slots ready.
      let k = in_scope slots in
      let more : (rb k && rc k) ≡ true = and_right (ra k) (rb k && rc k) ready in
      stands_op kind doing 3 shape refl (omega arith)
      (stands_both (stands_both (ha.stands slots (and_left (ra k) (rb k && rc k) ready)) (hb.stands slots (and_left (rb k) (rc k) more))) (hc.stands slots (and_right (rb k) (rc k) more)));
}

-- a row that puts an operand
pub code_row : {checking : Span} {v : Gives} {ready : Known-names → Bool} (kind : SlotKind) (doing : Span) (top : Operand) (shape : Shapes)
    → Acts0 (instruction kind doing checking) v → shapes_at kind ≡ shape → shape.is_end ≡ false
    → ((slots : List Slot) → ready (in_scope slots) ≡ true → Stands (instruction kind doing checking ∷ []) checking slots (top ∷ []) 1)
    → Code (instruction kind doing checking ∷ []) checking v ready 1
code_row {checking} {v} kind doing top shape acts is no_end stands = record {
  puts = puts_row (instruction kind doing checking) v acts;
  begins = begins_row kind doing checking shape is no_end;
  top = top;
  stands = stands;
}

pub code_put : (checking : Span) (v : Gives) (kind : SlotKind) (doing : Span) (top : Operand)
    → Acts0 (instruction kind doing checking) v → shapes_at kind ≡ work (puts top) → Code (instruction kind doing checking ∷ []) checking v (λ known. true) 1
code_put checking v kind doing top acts is = code_row kind doing top (work (puts top)) acts is refl (λ slots ready. stands_put kind doing checking top is)

pub code_as : {rows : List SlotInstr} {checking : Span} {v w : Gives} {ready : Known-names → Bool} {most : ℕ}
    → ((world : World) (env : Env) → v world env ≡ w world env) → Code rows checking v ready most → Code rows checking w ready most
code_as same h = record {
  puts = puts_as h.puts (λ world env. ap (λ r. r >>= λ e. Ok (e ∷ [])) (same world env));
  begins = h.begins;
  top = h.top;
  stands = h.stands;
}

pub code_most : {rows : List SlotInstr} {checking : Span} {v : Gives} {ready : Known-names → Bool} {m n : ℕ} → m ≤ n → Code rows checking v ready m → Code rows checking v ready n
code_most less h = record { puts = h.puts; begins = h.begins; top = h.top; stands = λ slots is. stands_most less (h.stands slots is) }

pub code_ready : {rows : List SlotInstr} {checking : Span} {v : Gives} {ready own : Known-names → Bool} {most : ℕ}
    → ((known : Known-names) → own known ≡ true → ready known ≡ true) → Code rows checking v ready most → Code rows checking v own most
code_ready readies h = record { puts = h.puts; begins = h.begins; top = h.top; stands = λ slots is. h.stands slots (readies (in_scope slots) is) }

-- ---- lists that grew

pub grown1 : (old a b : List SlotInstr) {mid new : List SlotInstr} → mid ≡ old ++ a → new ≡ mid ++ b → new ≡ old ++ (a ++ b)
grown1 old a b {mid} {new} first second = second ∙ ap (λ l. l ++ b) first ∙ append_assoc old a b

pub grown2 : (old a b c : List SlotInstr) {mid far new : List SlotInstr} → mid ≡ old ++ a → far ≡ mid ++ b → new ≡ far ++ c → new ≡ old ++ ((a ++ b) ++ c)
grown2 old a b c first second third = grown1 old (a ++ b) c (grown1 old a b first second) third

pub grown3 : (old a b c d : List SlotInstr) {mid far next new : List SlotInstr} → mid ≡ old ++ a → far ≡ mid ++ b → next ≡ far ++ c → new ≡ next ++ d → new ≡ old ++ (((a ++ b) ++ c) ++ d)
grown3 old a b c d first second third fourth = grown1 old ((a ++ b) ++ c) d (grown2 old a b c first second third) fourth

-- ---- expressions

pub code_of : {old new : List SlotInstr} {checking : Span} {e : TypedExpr} (h : LowersElement old new checking e)
    → Code h.rows checking (λ world env. element (value_of world env e)) (λ known. is_ready known e) (4 * node_count e)
code_of h = record { puts = h.puts; begins = h.begins; top = h.top; stands = h.stands }

-- code that gives a value's one element is the value's
pub lowers : {old new rows : List SlotInstr} {checking : Span} {v : Gives} {own : Known-names → Bool} {most : ℕ} {p : Price} {spans : List Span} {names : List Slot} (value : World → Env → Value) (ready : Known-names → Bool) (nodes : ℕ)
    → new ≡ old ++ rows → Code rows checking v own most
    → ((world : World) (env : Env) → value world env ≡ (v world env >>= λ e. Ok (GivenOne e)))
    → ((known : Known-names) → ready known ≡ true → own known ≡ true)
    → most ≤ 4 * nodes → Light rows nothing p → SpannedBy rows checking spans → Gets rows checking names
    → LowersValue old new checking widths.One value ready nodes p spans names
lowers {old} {new} {rows} {checking} {v} {own} {most} {p} value ready nodes grown h gives readies less light spanned got = record {
  rows = rows;
  grown = grown;
  puts = puts_value v value gives h.puts;
  wide = is_wide v value gives;
  begins = h.begins;
  tops = h.top ∷ [];
  count = refl;
  stands = λ slots is. stands_most less (h.stands slots (readies (in_scope slots) is));
  light = light;
  spans = spanned;
  gets = got;
}

-- an operation on one, two or three expressions
pub lowers1 : {old mid new : List SlotInstr} {checking : Span} {p : Price} {spans : List Span} {names : List Slot} (span : Span) {a : TypedExpr} (value : World → Env → Value) (ready : Known-names → Bool) (nodes : ℕ) (row : SlotKind) (f : World → List ℕ → Result (List ℕ) Failure)
    → Acts1 (instruction row span checking) f → shapes_at row ≡ work (works_on 1) → (cost : Price) → weighs_at row ≡ plain (costs cost.bytes cost.ops)
    → ((world : World) (env : Env) → value world env ≡ (element (value_of world env a) >>= λ x. f world x >>= λ e. Ok (GivenOne e)))
    → ((known : Known-names) → ready known ≡ true → is_ready known a ≡ true) → node_count a ≤ nodes → Under (price_of a ⊕ cost) p
    → spans_at row ≡ [] → Covers spans (span ∷ own_spans a) → gets_at row ≡ Some [] → names ≡ names_in a
    → LowersElement old mid checking a → new ≡ mid ++ instruction row span checking ∷ []
    → LowersValue old new checking widths.One value ready nodes p spans names
lowers1 {old} {mid} {new} {checking} {p} span {a} value ready nodes row f acts shape cost weighs gives readies less pays flat covers got names_are h grown =
    lowers value ready nodes (grown1 old h.rows (instruction row span checking ∷ []) h.grown grown) (code_op1 row span f acts shape (code_of h))
    (λ world env. gives world env ∙ bind_bind (element (value_of world env a)) (f world) (λ e. Ok (GivenOne e)))
    readies (omega (arith, less)) (light_as pays (light_then row span checking cost weighs h.light))
    (spanned_both (spanned_in (covers_rest covers) h.spans) (spanned_row row span checking flat (covers_first covers)))
    (gets_as names_are (gets_then row span got h.gets))

pub lowers2 : {old mid far new : List SlotInstr} {checking : Span} {p : Price} {spans : List Span} {names : List Slot} (span : Span) {a b : TypedExpr} (value : World → Env → Value) (ready : Known-names → Bool) (nodes : ℕ) (row : SlotKind) (f : World → List ℕ → List ℕ → Result (List ℕ) Failure)
    → Acts2 (instruction row span checking) f → shapes_at row ≡ work (works_on 2) → (cost : Price) → weighs_at row ≡ plain (costs cost.bytes cost.ops)
    → ((world : World) (env : Env) → value world env ≡ (element (value_of world env a) >>= λ x. element (value_of world env b) >>= λ y. f world x y >>= λ e. Ok (GivenOne e)))
    → ((known : Known-names) → ready known ≡ true → (is_ready known a && is_ready known b) ≡ true) → node_count a + node_count b ≤ nodes → Under (price_of a ⊕ price_of b ⊕ cost) p
    → spans_at row ≡ [] → Covers spans (span ∷ (own_spans a ++ own_spans b)) → gets_at row ≡ Some [] → names ≡ names_in a ++ names_in b
    → LowersElement old mid checking a → LowersElement mid far checking b → new ≡ far ++ instruction row span checking ∷ []
    → LowersValue old new checking widths.One value ready nodes p spans names
lowers2 {old} {mid} {far} {new} {checking} {p} span {a} {b} value ready nodes row f acts shape cost weighs gives readies less pays flat covers got names_are ha hb grown =
    lowers value ready nodes (grown2 old ha.rows hb.rows (instruction row span checking ∷ []) ha.grown hb.grown grown) (code_op2 row span f acts shape (code_of ha) (code_of hb))
    (λ world env. gives world env ∙ bind_two (element (value_of world env a)) (element (value_of world env b)) (f world) (λ e. Ok (GivenOne e)))
    readies (omega (arith, less)) (light_as pays (light_then row span checking cost weighs (light_both ha.light hb.light)))
    (spanned_both (spanned_two covers ha.spans hb.spans) (spanned_row row span checking flat (covers_first covers)))
    (gets_as names_are (gets_then row span got (gets_both ha.gets hb.gets)))

pub lowers3 : {old mid far next new : List SlotInstr} {checking : Span} {p : Price} {spans : List Span} {names : List Slot} (span : Span) {a b c : TypedExpr} (value : World → Env → Value) (ready : Known-names → Bool) (nodes : ℕ) (row : SlotKind) (f : World → List ℕ → List ℕ → List ℕ → Result (List ℕ) Failure)
    → Acts3 (instruction row span checking) f → shapes_at row ≡ work (works_on 3) → (cost : Price) → weighs_at row ≡ plain (costs cost.bytes cost.ops)
    → ((world : World) (env : Env) → value world env ≡ (element (value_of world env a) >>= λ x. element (value_of world env b) >>= λ y. element (value_of world env c) >>= λ z. f world x y z >>= λ e. Ok (GivenOne e)))
    → ((known : Known-names) → ready known ≡ true → (is_ready known a && (is_ready known b && is_ready known c)) ≡ true) → node_count a + node_count b + node_count c ≤ nodes → Under (price_of a ⊕ price_of b ⊕ price_of c ⊕ cost) p
    → spans_at row ≡ [] → Covers spans (span ∷ ((own_spans a ++ own_spans b) ++ own_spans c)) → gets_at row ≡ Some [] → names ≡ (names_in a ++ names_in b) ++ names_in c
    → LowersElement old mid checking a → LowersElement mid far checking b → LowersElement far next checking c → new ≡ next ++ instruction row span checking ∷ []
    → LowersValue old new checking widths.One value ready nodes p spans names
lowers3 {old} {mid} {far} {next} {new} {checking} {p} span {a} {b} {c} value ready nodes row f acts shape cost weighs gives readies less pays flat covers got names_are ha hb hc grown =
    lowers value ready nodes (grown3 old ha.rows hb.rows hc.rows (instruction row span checking ∷ []) ha.grown hb.grown hc.grown grown) (code_op3 row span f acts shape (code_of ha) (code_of hb) (code_of hc))
    (λ world env. gives world env ∙ bind_three (element (value_of world env a)) (element (value_of world env b)) (element (value_of world env c)) (f world) (λ e. Ok (GivenOne e)))
    readies (omega (arith, less)) (light_as pays (light_then row span checking cost weighs (light_both (light_both ha.light hb.light) hc.light)))
    (spanned_both (spanned_two covers (spanned_sum ha.spans hb.spans) hc.spans) (spanned_row row span checking flat (covers_first covers)))
    (gets_as names_are (gets_then row span got (gets_both (gets_both ha.gets hb.gets) hc.gets)))

-- a row that puts an operand
pub lowers0 : {old new : List SlotInstr} {checking : Span} {p : Price} {spans : List Span} {names : List Slot} (span : Span) (value : World → Env → Value) (ready : Known-names → Bool) (nodes : ℕ) (row : SlotKind) (top : Operand) (v : Gives)
    → Acts0 (instruction row span checking) v → shapes_at row ≡ work (puts top)
    → ((world : World) (env : Env) → value world env ≡ (v world env >>= λ e. Ok (GivenOne e)))
    → 1 ≤ nodes → (cost : Price) → weighs_at row ≡ plain (costs cost.bytes cost.ops) → Under cost p → spans_at row ≡ [] → Covers spans (span ∷ []) → gets_at row ≡ Some [] → names ≡ [] → new ≡ old ++ instruction row span checking ∷ []
    → LowersValue old new checking widths.One value ready nodes p spans names
lowers0 {old} {new} {checking} {p} span value ready nodes row top v acts shape gives less cost weighs pays flat covers got names_are grown =
    lowers value ready nodes grown (code_put checking v row span top acts shape) gives (λ known is. refl) (omega (arith, less)) (light_as pays (light_row row span checking cost weighs))
    (spanned_row row span checking flat covers) (gets_as names_are (gets_row row span checking got))

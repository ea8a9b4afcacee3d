-- What pieces of slot code do: the elements that they put on the operands, where the values stand around them, and what they
-- weigh.
use Rattle.std.specs.Prelude.{◌≡◌, ℕ, ◌+◌, ◌*◌, ◌≤◌, Bool, true, false, ◌&&◌, if◌then◌else◌, List, [], ◌∷◌, ◌++◌, length, map, drop, reverse, None, Option, Some, Result, Ok}
use Rattle.cash_base.specs.declared.place.Span.{Span}
use Rattle.cash_base.specs.declared.place.Slot.{Slot}
use Rattle.cash_base.specs.Failing.{◌>>=◌}
use Rattle.tx_context.specs.World.{World}
use Rattle.cash_tree.specs.declared.Ty.{Ty}
use Rattle.cash_tree.specs.declared.Expr.{Expr}
use Rattle.cash_tree.specs.declared.ExprKind.{ExprKind}
use Rattle.cash_tree.specs.declared.Callee.{Callee}
use Rattle.cash_tree.specs.Nodes.{joined, total}
use Rattle.type_tables.specs.declared.rules.CastEffect.{CastEffect}
use Rattle.type_tables.specs.declared.rules.CastEffect.TheVariants as effects
use Rattle.form_tables.specs.declared.forms.CallForm.{CallForm}
use Rattle.form_tables.specs.Forms.{pushed_chunk}
use Rattle.source_meaning.specs.declared.outcome.Failure.{Failure}
use Rattle.source_meaning.specs.Meaning.{Env, Given, Value, One as GivenOne, Two as GivenTwo, left_of, right_of, element, elements, with_chunks, appended, kind_gives, value_of, node_of, items_of, form_value, call_value}
use Rattle.source_meaning.specs.Runnable.{all_of, node_count, kind_count}
use Rattle.slot_code.specs.declared.slots.SlotInstr.{SlotInstr}
use Rattle.slot_code.specs.declared.slots.SlotKind.{SlotKind}
use Rattle.slot_code.specs.Meaning.{State, state, run_of}
use Rattle.slot_code.specs.Weight.{all_weigh, weighs_of}
use Rattle.slot_code.specs.Shape.{Operand, Place, with_operands, with_seen, all_shapes, shapes_of, has, has_span}
use Rattle.slot_expressions.specs.declared.expressions.Width.{Width}
use Rattle.slot_expressions.specs.declared.expressions.Width.TheVariants as widths
use Rattle.slot_expressions.specs.Room.{Price, nothing, one, sum, form_price, call_price, as_chunk, other_chunk, priced, price_of, price_at, spelled, chunks_of}
use Rattle.slot_expressions.specs.Spans.{SpannedBy, own_spans, own_spans_at}
use Rattle.slot_expressions.specs.Reads.{Gets, named, names_in, names_at, item_names, form_names, call_names}
use Rattle.slot_expressions.specs.Ready.{Known-names, is_ready, is_ready_kind, form_ready, call_ready, ready_node, ready_items, ReadyAll}

abbrev pub instruction : SlotKind → Span → Span → SlotInstr
instruction kind doing checking = record { kind = kind; doing = doing; checking = checking }

-- ---- what is put

-- elements, the last one first, or where they fail and why
abbrev pub Elements : Type 0
Elements = World → Env → Result (List (List ℕ)) Failure

-- a run of the rows puts these elements
pub record Puts (rows : List SlotInstr) (elements : Elements) : Type 0 where
  pub runs : (world : World) (s : State) → run_of world rows s ≡ (elements world s.env >>= λ es. Ok (state (es ++ s.operands) s.env))

-- ---- where the values stand

-- the checking spans, where this one stands too
abbrev pub seen_with : Span → List Span → List Span
seen_with span seen = if has_span span seen then seen else seen ++ span ∷ []

-- the rows put these operands, and never more than so many at once
pub record Stands (rows : List SlotInstr) (checking : Span) (slots : List Slot) (tops : List Operand) (most : ℕ) : Type 0 where
  pub fits : length tops ≤ most
  pub stands : (p : Place) → p.slots ≡ slots → has_span checking p.seen ≡ true → length p.operands + most ≤ 4000
      → all_shapes (map shapes_of rows) p ≡ Some (with_operands (tops ++ p.operands) p)

-- a statement may begin with the rows
pub record Begins (rows : List SlotInstr) (checking : Span) : Type 0 where
  pub begins : (p : Place) → p.operands ≡ []
      → all_shapes (map shapes_of rows) p ≡ all_shapes (map shapes_of rows) (with_seen (seen_with checking p.seen) p)

-- ---- what is weighed

-- The rows leave the number of names in scope as it is, and weigh at most so much, with this left to pay.
pub record Light (rows : List SlotInstr) (left most : Price) : Type 0 where
  pub names : (n : ℕ) → (all_weigh (map weighs_of rows) n).names ≡ n
  pub bytes : (n : ℕ) → (all_weigh (map weighs_of rows) n).bytes + left.bytes ≤ most.bytes
  pub ops : (n : ℕ) → (all_weigh (map weighs_of rows) n).ops + left.ops ≤ most.ops

-- ---- expressions

abbrev pub size : Width → ℕ
size widths.One = 1
size widths.Two = 2

-- an element, or both parts of a split, the right one on top
abbrev pub given_on : Width → Given → List (List ℕ)
given_on widths.One given = left_of given ∷ []
given_on widths.Two given = right_of given ∷ left_of given ∷ []

abbrev pub as_wide : Width → Given → Given
as_wide widths.One given = GivenOne (left_of given)
as_wide widths.Two given = GivenTwo (left_of given) (right_of given)

-- of both parts one is still to be chosen
abbrev pub unpaid : Width → Price
unpaid widths.One = nothing
unpaid widths.Two = one

abbrev pub put_value : Width → (World → Env → Value) → Elements
put_value width value world env = do
  given ← value world env
  Ok (given_on width given)

abbrev pub put_element : (World → Env → Value) → Elements
put_element value world env = do
  e ← element (value world env)
  Ok (e ∷ [])

abbrev pub in_scope : List Slot → Slot → Bool
in_scope slots slot = has slot slots

-- an element, or where it fails and why
abbrev pub Gives : Type 0
Gives = World → Env → Result (List ℕ) Failure

abbrev pub one_of : Gives → Elements
one_of v world env = do
  e ← v world env
  Ok (e ∷ [])

-- the rows put this element, with all names known that are asked about
pub record Code (rows : List SlotInstr) (checking : Span) (v : Gives) (ready : Known-names → Bool) (most : ℕ) : Type 0 where
  pub puts : Puts rows (one_of v)
  pub begins : Begins rows checking
  pub top : Operand
  pub stands : (slots : List Slot) → ready (in_scope slots) ≡ true → Stands rows checking slots (top ∷ []) most

-- Some rows were added, which put a value of this width, with all names known that are asked about, weigh at most this price, have
-- no spans but these, and read these slots, in order; of each node at most four operands stand at once.
pub record LowersValue (old new : List SlotInstr) (checking : Span) (width : Width) (value : World → Env → Value) (ready : Known-names → Bool) (nodes : ℕ) (most : Price) (own : List Span) (names : List Slot) : Type 0 where
  pub rows : List SlotInstr
  pub grown : new ≡ old ++ rows
  pub puts : Puts rows (put_value width value)
  pub wide : (world : World) (env : Env) → value world env ≡ (value world env >>= λ given. Ok (as_wide width given))
  pub begins : Begins rows checking
  pub tops : List Operand
  pub count : length tops ≡ size width
  pub stands : (slots : List Slot) → ready (in_scope slots) ≡ true → Stands rows checking slots tops (4 * nodes)
  pub light : Light rows (unpaid width) most
  pub spans : SpannedBy rows checking own
  pub gets : Gets rows checking names

-- those of an expression of this kind
pub record Lowers (old new : List SlotInstr) (checking : Span) (kind : ExprKind Slot Ty) (span : Span) (width : Width) : Type 0 where
  pub lowered : LowersValue old new checking width (λ world env. kind_gives world env kind span) (λ known. is_ready_kind known kind) (kind_count kind) (price_at kind) (span ∷ own_spans_at kind) (names_at kind)

-- ... and as a whole
pub record LowersGiven (old new : List SlotInstr) (checking : Span) (e : Expr Slot Ty) (width : Width) : Type 0 where
  pub lowered : Lowers old new checking e.kind e.span width

-- those of a call with these arguments, by the row of its form
pub record LowersForm (old new : List SlotInstr) (checking span : Span) (form : CallForm) (args : List (Expr Slot Ty)) : Type 0 where
  pub lowered : LowersValue old new checking widths.One (λ world env. form_value world span form (map (node_of world env) args))
      (λ known. form_ready form (map (ready_node known) args)) (total (map node_count args) + 1) (form_price form (map priced args)) (span ∷ joined (map own_spans args)) (form_names form (map named args))

-- ... and by its name
pub record LowersCall (old new : List SlotInstr) (checking span : Span) (callee : Callee) (args : List (Expr Slot Ty)) : Type 0 where
  pub lowered : LowersValue old new checking widths.One (λ world env. call_value world span callee (map (node_of world env) args))
      (λ known. call_ready callee (map (ready_node known) args)) (total (map node_count args) + 1) (call_price callee (map priced args)) (span ∷ joined (map own_spans args)) (call_names callee (map named args))

-- the same of an element
pub record LowersElement (old new : List SlotInstr) (checking : Span) (e : Expr Slot Ty) : Type 0 where
  pub rows : List SlotInstr
  pub grown : new ≡ old ++ rows
  pub puts : Puts rows (put_element (λ world env. value_of world env e))
  pub begins : Begins rows checking
  pub top : Operand
  pub stands : (slots : List Slot) → is_ready (in_scope slots) e ≡ true → Stands rows checking slots (top ∷ []) (4 * node_count e)
  pub light : Light rows nothing (price_of e)
  pub spans : SpannedBy rows checking (own_spans e)
  pub gets : Gets rows checking (names_in e)

-- ---- arrays

abbrev pub put_items : (World → Env → List Value) → Elements
put_items values world env = do
  es ← elements (values world env)
  Ok (reverse es)

-- some rows were added, which put the elements of expressions, one after the other
pub record LowersAll (old new : List SlotInstr) (checking : Span) (parts : List (Expr Slot Ty)) : Type 0 where
  pub rows : List SlotInstr
  pub grown : new ≡ old ++ rows
  pub puts : Puts rows (put_items (λ world env. map (value_of world env) parts))
  pub tops : List Operand
  pub count : length tops ≡ length parts
  pub stands : (slots : List Slot) → all_of (map (is_ready (in_scope slots)) parts) ≡ true
      → Stands rows checking slots tops (4 * total (map node_count parts))
  pub light : Light rows nothing (sum (map price_of parts))
  pub spans : SpannedBy rows checking (joined (map own_spans parts))
  pub gets : Gets rows checking (joined (map names_in parts))

-- the same of the items of an array, of which there are so many; what is no array has none
pub record LowersItems (old new : List SlotInstr) (checking : Span) (e : Expr Slot Ty) (count : ℕ) : Type 0 where
  pub rows : List SlotInstr
  pub grown : new ≡ old ++ rows
  pub puts : Puts rows (put_items (λ world env. items_of world env e))
  pub values : (world : World) (env : Env) → length (items_of world env e) ≡ count
  pub readies : (known : Known-names) → length (ready_items known e) ≡ count
  pub tops : List Operand
  pub count_is : length tops ≡ count
  pub stands : (slots : List Slot) → all_of (ready_items (in_scope slots) e) ≡ true → Stands rows checking slots tops (4 * node_count e)
  pub light : Light rows nothing (price_of e)
  pub chunks : length (chunks_of e) ≡ count
  pub spans : SpannedBy rows checking (own_spans e)
  pub gets : Gets rows checking (item_names e)

-- some rows were added, which append an expression, as a chunk, to the script of data that is on top
pub record LowersChunk (old new : List SlotInstr) (checking span : Span) (e : Expr Slot Ty) : Type 0 where
  pub rows : List SlotInstr
  pub grown : new ≡ old ++ rows
  pub code : (begun : List SlotInstr) (v : Gives) (ready : Known-names → Bool) (most : ℕ) → Code begun checking v ready most
      → Code (begun ++ rows) checking (λ world env. v world env >>= λ so_far. element (value_of world env e) >>= λ chunk. appended span so_far (pushed_chunk chunk))
      (λ known. ready known && is_ready known e) (most + 4 * node_count e)
  pub light : Light rows nothing (as_chunk (priced e))
  pub spans : SpannedBy rows checking (span ∷ own_spans e)
  pub gets : Gets rows checking (names_in e)

-- ... expressions, one after the other
pub record LowersChunks (old new : List SlotInstr) (checking span : Span) (parts : List (Expr Slot Ty)) : Type 0 where
  pub rows : List SlotInstr
  pub grown : new ≡ old ++ rows
  pub code : (begun : List SlotInstr) (v : Gives) (ready : Known-names → Bool) (most : ℕ) → Code begun checking v ready most
      → Code (begun ++ rows) checking (λ world env. v world env >>= λ so_far. with_chunks span so_far (map (value_of world env) parts))
      (λ known. ready known && all_of (map (is_ready known) parts)) (most + 4 * total (map node_count parts))
  pub light : Light rows nothing (sum (map (λ (e : Expr Slot Ty). as_chunk (priced e)) parts))
  pub spans : SpannedBy rows checking (span ∷ joined (map own_spans parts))
  pub gets : Gets rows checking (joined (map names_in parts))

pub record LowersArray (old new : List SlotInstr) (checking span : Span) (e : Expr Slot Ty) : Type 0 where
  pub rows : List SlotInstr
  pub grown : new ≡ old ++ rows
  pub code : (begun : List SlotInstr) (v : Gives) (ready : Known-names → Bool) (most : ℕ) → Code begun checking v ready most
      → Code (begun ++ rows) checking (λ world env. v world env >>= λ so_far. with_chunks span so_far (items_of world env e))
      (λ known. ready known && all_of (ready_items known e)) (most + 4 * node_count e)
  pub light : Light rows nothing (sum (chunks_of e))
  pub spans : SpannedBy rows checking (span ∷ own_spans e)
  pub gets : Gets rows checking (item_names e)

-- a cast that leaves its value as it is
abbrev pub keeps : Option CastEffect → Bool
keeps (Some effects.Keep) = true
keeps _ = false

abbrev pub leaves : Option CastEffect → Option (Expr Slot Ty) → Bool
leaves effect (Some size) = false
leaves effect None = keeps effect

-- the source spells the expression as a literal of these bytes, which are short enough to be pushed with their prefix, and reads
-- nothing
pub record IsSpelled (e : Expr Slot Ty) (bytes : List ℕ) : Type 0 where
  pub is : spelled e ≡ Some bytes
  pub gives : (world : World) (env : Env) → element (value_of world env e) ≡ Ok bytes
  pub some : 1 ≤ node_count e
  pub unread : names_in e ≡ []

pub record IsChunk (e : Expr Slot Ty) (bytes : List ℕ) : Type 0 where
  pub whole : IsSpelled e bytes
  pub fits : length bytes ≤ 517

-- any other chunk
pub record OtherChunk (e : Expr Slot Ty) : Type 0 where
  pub pays : as_chunk (priced e) ≡ other_chunk (price_of e)

-- what is left of a loop over expressions, from here on, makes the whole
pub record LeftAll (old now : List SlotInstr) (checking : Span) (parts : List (Expr Slot Ty)) (i : ℕ) : Type 0 where
  pub ready : ReadyAll (drop i parts)
  pub by : (final : List SlotInstr) → LowersAll now final checking (drop i parts) → LowersAll old final checking parts

pub record LeftChunks (old now : List SlotInstr) (checking span : Span) (parts : List (Expr Slot Ty)) (i : ℕ) : Type 0 where
  pub ready : ReadyAll (drop i parts)
  pub by : (final : List SlotInstr) → LowersChunks now final checking span (drop i parts) → LowersChunks old final checking span parts

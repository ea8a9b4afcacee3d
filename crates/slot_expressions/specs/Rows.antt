-- Which instructions stand for a form: one row of a table each.
use Rattle.std.specs.Prelude.{◌≡◌, ℕ, Bool, List, [], ◌∷◌, ◌++◌, pos, Option, Some, Ok}
use Rattle.cash_base.specs.Number.{minimal_bytes}
use Rattle.cash_base.specs.declared.place.Span.{Span}
use Rattle.element_ops.specs.declared.op.Op1.TheVariants.{Not, NonZero, ToNumber}
use Rattle.element_ops.specs.declared.op.Op2.TheVariants.{Pad}
use Rattle.type_tables.specs.declared.rules.CastEffect.{CastEffect}
use Rattle.type_tables.specs.declared.rules.CastEffect.TheVariants as effects
use Rattle.element_ops.specs.Operation.{Outcome}
use Rattle.form_tables.specs.declared.forms.BinaryForm.{BinaryForm}
use Rattle.form_tables.specs.declared.forms.BinaryForm.TheVariants as binary
use Rattle.slot_code.specs.declared.slots.SlotInstr.{SlotInstr}
use Rattle.slot_code.specs.declared.slots.SlotKind.{SlotKind}
use Rattle.slot_code.specs.declared.slots.SlotKind.TheVariants as kinds
use Rattle.slot_expressions.specs.declared.expressions.Width.{Width}
use Rattle.slot_expressions.specs.declared.expressions.Width.TheVariants as widths
use Rattle.slot_expressions.specs.Pieces.{instruction}

-- a literal of these bytes
abbrev pub lit : List ℕ → SlotKind
lit bytes = kinds.Lit (record { items = bytes })

-- the literal of what an outcome gives was added
pub record IsLiteral (old new : List SlotInstr) (outcome : Outcome) (doing checking : Span) : Type 0 where
  pub bytes : List ℕ
  pub is : outcome ≡ Ok bytes
  pub grown : new ≡ old ++ instruction (lit bytes) doing checking ∷ []

-- the operation of an operator, and a Not behind it where it has one
abbrev pub binary_rows : BinaryForm → Span → Span → List SlotInstr
binary_rows (binary.Is op) doing checking = instruction (kinds.Do2 op) doing checking ∷ []
binary_rows (binary.IsNot op) doing checking = instruction (kinds.Do2 op) doing checking ∷ instruction (kinds.Do1 Not) doing checking ∷ []

-- the operation of a cast without a size; a padding has its length in front
abbrev pub cast_rows : Option CastEffect → Span → Span → List SlotInstr
cast_rows (Some effects.NonZero) doing checking = instruction (kinds.Do1 NonZero) doing checking ∷ []
cast_rows (Some (effects.Pad n)) doing checking = instruction (lit (minimal_bytes (pos n))) doing checking ∷ instruction (kinds.Do2 Pad) doing checking ∷ []
cast_rows (Some effects.ToNumber) doing checking = instruction (kinds.Do1 ToNumber) doing checking ∷ []
cast_rows _ doing checking = []

-- of both parts of a split one is kept
abbrev pub part_rows : Width → Bool → Span → Span → List SlotInstr
part_rows widths.One right doing checking = []
part_rows widths.Two right doing checking = instruction (kinds.Keep right) doing checking ∷ []

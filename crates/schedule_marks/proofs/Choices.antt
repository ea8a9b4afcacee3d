-- Marks through choices.
use Rattle.std.proofs.Common.{◌≡◌, ℕ, suc, ◌+◌, Bool, true, false, cond, not, List, [], ◌∷◌, ◌++◌, length, map, Option, Some, None, IsSome, refl, sym, ap, ◌∙◌, subst, arith, append_assoc, length-append}
use Rattle.std.specs.Prelude.{◌==◌, ◌||◌, filter}
use Rattle.std.proofs.lemmas.Bool.{false≢true}
use Rattle.cash_base.specs.declared.place.Slot.{Slot}
use Rattle.cash_base.specs.declared.place.Span.{Span}
use Rattle.std.specs.Global.{Vec}
use Rattle.script_codec.specs.declared.spans.Mark.{Mark}
use Rattle.script_codec.specs.declared.spans.Spanned.{Spanned}
use Rattle.tx_context.specs.World.{World}
use Rattle.bch_vm.specs.Board.{is_live}
use Rattle.source_meaning.specs.Meaning.{Env}
use Rattle.slot_code.specs.declared.slots.SlotFunction.{SlotFunction}
use Rattle.slot_code.specs.declared.slots.SlotInstr.{SlotInstr}
use Rattle.slot_code.specs.Shape.{Place, Operand, has_span, inside, with_seen}
use Rattle.row_runs.specs.Rows.{Machine, run_rows, IsNested}
use Rattle.row_runs.proofs.Turns.{nested_append}
use Rattle.stack_emitter.specs.declared.emit.Emitter.{Emitter}
use Rattle.stack_emitter.specs.Places.{Spot, spot}
use Rattle.stack_emitter.proofs.Choose.{opens, flips, closes}
use Rattle.stack_steps.specs.declared.low.Low.{Low}
use Rattle.stack_steps.specs.Lower.{place_of, statements_of}
use Rattle.stack_steps.proofs.Instrs.{place}
use Rattle.stack_schedule.specs.Built.{MarksNow, Opened, control}
use Rattle.schedule_marks.specs.Marks.{start_at}
use Rattle.schedule_marks.proofs.Rows.{midway, Midway, Arrives, Stands, if_comes, else_comes}
use Rattle.schedule_marks.proofs.Noting.{Noted, Noting, Grew, noted_row, noted_as, marks_same}

-- where a block begins, the names in scope are those before the choice
pub opened_place : (opcode : ℕ) (instr : SlotInstr) (layout scope outer : List Slot) (from to : Low) → Opened opcode instr layout scope outer from to
    → (seen : List Span) → statements_of from.marks.items ≡ seen
    → place_of to ≡ place [] scope outer seen
opened_place opcode instr layout scope outer from to x seen h =
    ap (λ (p : Spot). place p.operands to.scope to.outer (statements_of to.marks.items)) x.place
    ∙ ap (λ l. place [] l to.outer (statements_of to.marks.items)) x.scope_is ∙ ap (λ l. place [] scope l (statements_of to.marks.items)) x.outer_is
    ∙ ap (λ (l : Vec Mark). place [] scope outer (statements_of l.items)) x.marks ∙ ap (place [] scope outer) h

module _ (f : SlotFunction) (start : List Slot) (instr : SlotInstr) (old marked : Low) (m : MarksNow instr.checking old marked) (has : has_span instr.checking (statements_of old.marks.items) ≡ true) (k : Operand) (one : old.emitter.place.operands ≡ k ∷ []) (scope outer : List Slot) (opened : Low) (x : Opened 0x63 instr old.emitter.place.slots scope outer marked opened) (n : Noting f start old) where
  pub in_opened : opened.emitter.code.items ≡ old.emitter.code.items ++ opens instr.doing instr.checking ∷ []
  in_opened = x.code ∙ ap (λ (e : Emitter). e.code.items ++ opens instr.doing instr.checking ∷ []) m.emitter

  pub marks_opened : opened.marks.items ≡ old.marks.items
  marks_opened = ap (λ (l : Vec Mark). l.items) x.marks ∙ marks_same instr.checking old marked m has

  pub opened_noting : Noting f start opened
  opened_noting = record {
    noted = noted_as f start opened.emitter.code.items old.marks.items opened.marks.items marks_opened
        (noted_row f start old.emitter.code.items opened.emitter.code.items (opens instr.doing instr.checking) old.marks.items in_opened has n.noted);
    arrives = λ world env t ran lives.
        let w = midway world old.emitter.code.items (opens instr.doing instr.checking ∷ []) (start_at start env) t (ap (λ l. run_rows world l (start_at start env)) (sym in_opened) ∙ ran) in
        subst (λ p. Stands p t) (sym x.place)
        (if_comes world instr.doing instr.checking old.emitter.place k one w.mid (λ l. n.arrives world env w.mid w.first l) t w.second lives).1;
  }

  pub opened_has : has_span instr.checking (statements_of opened.marks.items) ≡ true
  opened_has = ap (λ l. has_span instr.checking (statements_of l)) marks_opened ∙ has

  -- the other block
  module _ (rows : List Spanned) (nested : IsNested rows) (mid : Low) (in_mid : mid.emitter.code.items ≡ opened.emitter.code.items ++ rows) (noted : Noted f start mid.emitter.code.items mid.marks.items) (has_mid : has_span instr.checking (statements_of mid.marks.items) ≡ true) (others : List Slot) (turned : Low) (y : Opened 0x67 instr old.emitter.place.slots scope others mid turned) where
    pub turned_is : turned.emitter.code.items ≡ old.emitter.code.items ++ opens instr.doing instr.checking ∷ (rows ++ flips instr.doing instr.checking ∷ [])
    turned_is = rw (y.code, in_mid, in_opened) (simp append_assoc)

    pub marks_turned : turned.marks.items ≡ mid.marks.items
    marks_turned = ap (λ (l : Vec Mark). l.items) y.marks

    pub turned_has : has_span instr.checking (statements_of turned.marks.items) ≡ true
    turned_has = ap (λ l. has_span instr.checking (statements_of l)) marks_turned ∙ has_mid

    pub turned_noting : Noting f start turned
    turned_noting = record {
      noted = noted_as f start turned.emitter.code.items mid.marks.items turned.marks.items marks_turned
          (noted_row f start mid.emitter.code.items turned.emitter.code.items (flips instr.doing instr.checking) mid.marks.items y.code has_mid noted);
      arrives = λ world env t ran lives.
          let w = midway world old.emitter.code.items (opens instr.doing instr.checking ∷ (rows ++ flips instr.doing instr.checking ∷ [])) (start_at start env) t
          (ap (λ l. run_rows world l (start_at start env)) (sym turned_is) ∙ ran) in
          subst (λ p. Stands p t) (sym y.place)
          (else_comes world instr.doing instr.checking old.emitter.place k one w.mid (λ l. n.arrives world env w.mid w.first l) rows nested t w.second lives).1;
    }

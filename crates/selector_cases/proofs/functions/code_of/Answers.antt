use Rattle.std.proofs.Common.{◌≡◌, ℕ, ◌+◌, List, [], ◌∷◌, ◌++◌, length, true, ap, subst, sym, arith, length-append}
use Rattle.script_codec.specs.declared.spans.Marked.{Marked}
use Rattle.run_laws.specs.Nested.{is_nested}
use Rattle.selector.specs.Pieces.{instructions}
use Rattle.selector.specs.Place.{is_unseparated}
use Rattle.selector.specs.Selection.{AreNested, AreUnseparated}
use Rattle.selector_cases.specs.Selectable.{IsSelectable}
use Rattle.selector_cases.proofs.More.{all_more}
use Rattle.selector_cases.proofs.functions.code_of.Goals as goal

one_more : (functions all : List Marked) (function : Marked) (n : ℕ) → all ≡ functions ++ function ∷ [] → AreNested functions
    → AreUnseparated functions → length functions ≡ n → IsSelectable function
    → record { nested : AreNested all; unseparated : AreUnseparated all; count : length all ≡ n + 1 }
one_more functions all function n are nested unseparated count is = record {
  nested = subst AreNested (sym are) (all_more (λ f. is_nested (instructions f.code.items) ≡ true) functions function nested is.0);
  unseparated = subst AreUnseparated (sym are)
      (all_more (λ f. is_unseparated (instructions f.code.items) ≡ true) functions function unseparated is.1);
  count = let l = ap length are in let sum = length-append functions (function ∷ []) in omega (arith, l, sum, count);
}

pub loop-n-preserved : goal.loop-n-preserved
loop-n-preserved c =
    one_more c.loop-n.all.items c.push.new.self.items c.in_ok-function.field-0 c.loop-n.n c.in_ok-push.ensures.items
    c.loop-n.invariant.nested c.loop-n.invariant.unseparated c.loop-n.invariant.count c.in_ok-function.ensures

-- What holds of the expressions that lexemes spell, where it follows at each node from that of its parts; and so those that plain
-- lexemes spell hold bytes.
use Rattle.std.proofs.Common.{◌≡◌, ◌∙◌, ap, sym, refl, Bool, true, false, ◌&&◌, List, [], ◌∷◌, ◌++◌, map, Some, None}
use Rattle.std.specs.List.{list_all, AllByRecursion}
use Rattle.cash_base.specs.declared.place.Span.{Span}
use Rattle.cash_tree.specs.declared.ExprKind.TheOpen.{ExprKind-F, Expr-F}
use Rattle.cash_tree.specs.declared.ExprKind.TheViews.{roll-ExprKind}
use Rattle.cash_tree.specs.declared.ExprKind.TheFolds.{fold-roll-Expr, fold-roll-ExprKind, map-ExprKind}
use Rattle.cash_symbols.specs.Words.{function_of, instantiation_of, count_of}
use Rattle.cash_symbols.specs.Lexemes.{Symbol, Type_, Hex, Text, Lexeme}
use Rattle.cash_symbols.specs.Front.{across}
use Rattle.cash_expressions.specs.Grammar as grammar
use Rattle.cash_expressions.specs.Grammar.{Expression, Kind, Part, expr, callee_of, Spells, SpellsAll}
use Rattle.type_soundness.specs.Literals.{parts, spells_bytes, kind_spells, node_spells, holds_bytes, kind_holds_bytes}
use Rattle.type_soundness.proofs.Parts.{apart}
use Rattle.type_soundness.proofs.View.{parts_mapped, spelling_mapped}
use Rattle.plain_trees.proofs.Symbols.{IsPlainSymbol}

abbrev pub Layer : Type 0
Layer = ExprKind-F Span (Unit {0}) Kind Expression

-- ---- what follows at each node

-- each of the lexemes is so
abbrev pub AllAre : (Symbol → Type 0) → List Lexeme → Type 0
AllAre Q ts = AllByRecursion (λ (t : Lexeme). Q t.symbol) ts

-- the literals and the types that a node spells by itself are so
abbrev pub OwnAre : (Symbol → Type 0) → Layer → Type 0
OwnAre Q (ExprKind-F.Hex bytes) = Q (Hex (Some bytes))
OwnAre Q (ExprKind-F.Text bytes) = Q (Text bytes)
OwnAre Q (ExprKind-F.Cast to value size) = Q (Type_ to)
OwnAre Q _ = Unit {0}

-- A fact of expressions, by a fact of symbols: it holds of a node where it holds of its parts, and brackets leave it.
pub record Follows (Q : Symbol → Type 0) (P : Expression → Type 0) : Type 0 where
  pub node : (layer : Layer) (span : Span) → OwnAre Q layer → AllByRecursion P (parts layer) → P (expr (roll-ExprKind Span (Unit {0}) layer) span)
  pub brackets : (e : Expression) (span : Span) → P e → P (expr e.kind span)

pub front : {Q : Symbol → Type 0} {P : Expression → Type 0} → Follows Q P → (a b : List Lexeme) → AllAre Q (a ++ b) → AllAre Q a
front {Q} f a b h = (apart (λ (t : Lexeme). Q t.symbol) a b h).0

pub back : {Q : Symbol → Type 0} {P : Expression → Type 0} → Follows Q P → (a b : List Lexeme) → AllAre Q (a ++ b) → AllAre Q b
back {Q} f a b h = (apart (λ (t : Lexeme). Q t.symbol) a b h).1

-- ---- the grammar

mutual
  unfolding roll-ExprKind denote.Hole.Carrier.roll

  pub each_spelled : {Q : Symbol → Type 0} {P : Expression → Type 0} (f : Follows Q P) {part : Part} {a : List Lexeme} {e : Expression} → Spells part a e → AllAre Q a → P e
  each_spelled f (grammar.number {n = n} {s = s}) h = f.node (ExprKind-F.Int n 1) s tt tt
  each_spelled f (grammar.number_with_unit {n = n} {s = s} text u w is) h = f.node (ExprKind-F.Int n u) (across s w) tt tt
  each_spelled f (grammar.hex_literal {bytes = bytes} {s = s}) h = f.node (ExprKind-F.Hex bytes) s h.0 tt
  each_spelled f (grammar.text_literal {bytes = bytes} {s = s}) h = f.node (ExprKind-F.Text bytes) s h.0 tt
  each_spelled f (grammar.date_literal {seconds = seconds} {s = s}) h = f.node (ExprKind-F.Date seconds) s tt tt
  each_spelled f (grammar.true_literal {s = s}) h = f.node (ExprKind-F.Bool true) s tt tt
  each_spelled f (grammar.false_literal {s = s}) h = f.node (ExprKind-F.Bool false) s tt tt
  each_spelled f (grammar.name {s = s}) h = f.node (ExprKind-F.Name s) s tt tt
  each_spelled f (grammar.call {word = word} {s = s} o c {a = a} {es = es} d) h =
      f.node (ExprKind-F.Call (callee_of (function_of word) s) es) (across s c) tt (all_spelled f d (front f a _ h.1.1))
  each_spelled f (grammar.brackets o c {a = a} {e = e} d) h = f.brackets e (across o c) (each_spelled f d (front f a _ h.1))
  each_spelled f (grammar.array o c {a = a} {es = es} d) h = f.node (ExprKind-F.Array es) (across o c) tt (all_spelled f d (front f a _ h.1))
  each_spelled f (grammar.new {word = word} n s o c {a = a} {es = es} d) h =
      f.node (ExprKind-F.New (callee_of (instantiation_of word) s) es) (across n c) tt (all_spelled f d (front f a _ h.1.1.1))
  each_spelled f (grammar.cast {ty = ty} s o c {a = a} {e = e} d) h = f.node (ExprKind-F.Cast ty e None) (across s c) h.0 (all_spelled f d (front f a _ h.1.1))
  each_spelled f (grammar.cast_with_size {ty = ty} s o c {a = a} {e = e} {size = size} d) h =
      f.node (ExprKind-F.Cast ty e (Some size)) (across s c) h.0 (all_spelled f d (front f a _ h.1.1))
  each_spelled f (grammar.whole look x d s is) h = f.node (ExprKind-F.Look0 look) (across x s) tt tt
  each_spelled f (grammar.count side x d s d' l is) h = f.node (ExprKind-F.Look0 (count_of side)) (across x l) tt tt
  each_spelled f (grammar.member field side look x d s o c d' m {a = a} {e = e} is is' k) h =
      f.node (ExprKind-F.LookAt look e) (across x m) tt (each_spelled f k (front f a _ h.1.1.1.1), tt)
  each_spelled f (grammar.active look x d s is) h = f.node (ExprKind-F.Look0 look) (across x s) tt tt
  each_spelled f (grammar.bare d) h = each_spelled f d h
  each_spelled f (grammar.length_word word d s {a = a} {e = e} is k) h = f.node (ExprKind-F.Length e) (across e.span s) tt (each_spelled f k (front f a _ h), tt)
  each_spelled f (grammar.reverse_call word d s o c {a = a} {e = e} is k) h = f.node (ExprKind-F.Reverse e) (across e.span c) tt (each_spelled f k (front f a _ h), tt)
  each_spelled f (grammar.split_call word d s o c {a = a} {b = b} {e = e} {at = at} is k k') h =
      f.node (ExprKind-F.Split e at) (across e.span c) tt (each_spelled f k (front f a _ h), (each_spelled f k' (front f b _ (back f a _ h).1.1.1), tt))
  each_spelled f (grammar.index n o s c {a = a} {e = e} k) h = f.node (ExprKind-F.Index e n) (across e.span c) tt (each_spelled f k (front f a _ h), tt)
  each_spelled f (grammar.no_sign d) h = each_spelled f d h
  each_spelled f (grammar.sign t op {a = a} {e = e} is d) h = f.node (ExprKind-F.Unary op e) (across t.span e.span) tt (each_spelled f d h.1, tt)
  each_spelled f (grammar.no_operator d) h = each_spelled f d h
  each_spelled f (grammar.tighter d) h = each_spelled f d h
  each_spelled f (grammar.operator k t op {a = a} {b = b} {left = left} {right = right} is d d') h =
      f.node (ExprKind-F.Binary op left right) (across left.span right.span) tt (each_spelled f d (front f a _ h), (each_spelled f d' (back f a _ h).1, tt))

  all_spelled : {Q : Symbol → Type 0} {P : Expression → Type 0} (f : Follows Q P) {a : List Lexeme} {es : List Expression} → SpellsAll a es → AllAre Q a → AllByRecursion P es
  all_spelled f grammar.none h = tt
  all_spelled f (grammar.last d) h = (each_spelled f d h, tt)
  all_spelled f (grammar.next s {a = a} d ds) h = (each_spelled f d (front f a _ h), all_spelled f ds (back f a _ h).1)

-- ---- literals

abbrev pub AllSpell : List Expression → Type 0
AllSpell es = AllByRecursion (λ e. holds_bytes e ≡ true) es

of_kind : (kind : Kind) (span : Span) → holds_bytes (expr kind span) ≡ kind_holds_bytes kind
unfolding holds_bytes kind_holds_bytes
of_kind kind span =
    let layer : Expr-F Span (Unit {0}) Kind Expression = record { kind = kind; ty = tt; span = span } in
    fold-roll-Expr Span (Unit {0}) Bool Bool kind_spells node_spells layer

of_layer : (layer : Layer) → kind_holds_bytes (roll-ExprKind Span (Unit {0}) layer) ≡ (spells_bytes layer && list_all (λ b. b) (map holds_bytes (parts layer)))
unfolding holds_bytes kind_holds_bytes
of_layer layer =
    fold-roll-ExprKind Span (Unit {0}) Bool Bool kind_spells node_spells layer
    ∙ ap (λ b. b && list_all (λ c. c) (parts (map-ExprKind Span (Unit {0}) Kind Expression Bool Bool kind_holds_bytes holds_bytes layer))) (spelling_mapped kind_holds_bytes holds_bytes layer)
    ∙ ap (λ bs. spells_bytes layer && list_all (λ c. c) bs) (parts_mapped kind_holds_bytes holds_bytes layer)

all_parts : (es : List Expression) → AllSpell es → list_all (λ b. b) (map holds_bytes es) ≡ true
all_parts [] h = refl
all_parts (e ∷ es) h = ap (λ b. b && list_all (λ c. c) (map holds_bytes es)) h.0 ∙ all_parts es h.1

spelled_by : (layer : Layer) (span : Span) → spells_bytes layer ≡ true → AllSpell (parts layer) → holds_bytes (expr (roll-ExprKind Span (Unit {0}) layer) span) ≡ true
spelled_by layer span own all =
    of_kind (roll-ExprKind Span (Unit {0}) layer) span ∙ of_layer layer ∙ ap (λ b. b && list_all (λ c. c) (map holds_bytes (parts layer))) own
    ∙ all_parts (parts layer) all

-- brackets leave what is between them
same_kind : (e : Expression) (span : Span) → holds_bytes e ≡ true → holds_bytes (expr e.kind span) ≡ true
same_kind e span is = of_kind e.kind span ∙ sym (of_kind e.kind e.span) ∙ is

own_spells : (layer : Layer) → OwnAre IsPlainSymbol layer → spells_bytes layer ≡ true
own_spells (ExprKind-F.Hex bytes) own = own
own_spells (ExprKind-F.Text bytes) own = own
own_spells _ own = refl

pub literals_follow : Follows IsPlainSymbol (λ e. holds_bytes e ≡ true)
literals_follow = record { node = λ layer span own all. spelled_by layer span (own_spells layer own) all; brackets = same_kind }

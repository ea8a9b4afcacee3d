-- Which lexemes spell which expression: one constructor for each rule of the grammar.
--
--   expression = operators with two sides, in levels from loose to tight, each from the left
--                || ; && ; | ; ^ ; & ; == != ; < <= > >= ; + - ; * / %
--   unary      = ( ! | - ) unary | postfix
--   postfix    = primary { . length | . reverse ( ) | . split ( expression ) | [ NUMBER ] }
--   primary    = literal | NAME | ( expression ) | [ items ] | NAME ( items ) | new NAME ( items )
--              | TYPE ( expression [ , expression ] [ , ] )
--              | tx . NAME | tx . NAME . length | tx . NAME [ expression ] . NAME | this . NAME
--   items      = [ expression { , expression } [ , ] ]
--   literal    = NUMBER [ UNIT ] | HEX | TEXT | DATE | true | false
use Rattle.std.specs.Prelude.{◌≡◌, ℕ, suc, List, [], ◌∷◌, ◌++◌, Option, Some, None, true, false, codes, ℤ}
use Rattle.cash_base.specs.declared.place.Span.{Span}
use Rattle.cash_base.specs.declared.look.Look0.{Look0}
use Rattle.cash_base.specs.declared.look.LookAt.{LookAt}
use Rattle.cash_tree.specs.declared.Ty.{Ty}
use Rattle.cash_tree.specs.declared.UnaryOp.{UnaryOp}
use Rattle.cash_tree.specs.declared.BinaryOp.{BinaryOp}
use Rattle.cash_tree.specs.declared.Builtin.{Builtin}
use Rattle.cash_tree.specs.declared.Callee.{Callee}
use Rattle.cash_tree.specs.declared.Callee.TheVariants as callees
use Rattle.cash_tree.specs.declared.Expr.{Expr}
use Rattle.cash_tree.specs.declared.ExprKind.{ExprKind}
use Rattle.cash_tree.specs.declared.ExprKind.TheVariants as nodes
use Rattle.cash_symbols.specs.declared.words.Property.TheVariants as properties
use Rattle.cash_symbols.specs.declared.words.Side.{Side}
use Rattle.cash_symbols.specs.declared.words.Suffix.TheVariants as suffixes
use Rattle.cash_symbols.specs.Words.{loosest, unit_of, function_of, instantiation_of, suffix_of, property_of, active_of, count_of, member_of}
use Rattle.cash_symbols.specs.Front.{lex, mark, across, joins, signs}
use Rattle.cash_symbols.specs.Lexemes.{Lexeme, Type_, Name, Number, Hex, Text, Date}

-- an expression as it is spelled: names are spans, and there are no types yet
abbrev pub Expression : Type 0
Expression = Expr Span (Unit {0})

abbrev pub Kind : Type 0
Kind = ExprKind Span (Unit {0})

-- ---- nodes

abbrev pub expr : Kind → Span → Expression
expr kind span = record { kind = kind; ty = tt; span = span }

abbrev pub binary_of : BinaryOp → Expression → Expression → Expression
binary_of op left right = expr (nodes.Binary op left right) (across left.span right.span)

abbrev pub unary_of : UnaryOp → Span → Expression → Expression
unary_of op sign e = expr (nodes.Unary op e) (across sign e.span)

abbrev pub length_of : Expression → Span → Expression
length_of e word = expr (nodes.Length e) (across e.span word)

abbrev pub reverse_of : Expression → Span → Expression
reverse_of e close = expr (nodes.Reverse e) (across e.span close)

abbrev pub split_of : Expression → Expression → Span → Expression
split_of e at close = expr (nodes.Split e at) (across e.span close)

abbrev pub index_of : Expression → ℕ → Span → Expression
index_of e n close = expr (nodes.Index e n) (across e.span close)

-- the brackets belong to the expression between them
abbrev pub bracketed : Span → Expression → Span → Expression
bracketed o e c = expr e.kind (across o c)

-- a known name, or the span of an unknown one
abbrev pub callee_of : Option Builtin → Span → Callee
callee_of (Some builtin) span = callees.Known builtin
callee_of None span = callees.Unknown span

abbrev pub call_of : List ℕ → Span → List Expression → Span → Expression
call_of text span args close = expr (nodes.Call (callee_of (function_of text) span) args) (across span close)

abbrev pub new_of : Span → List ℕ → Span → List Expression → Span → Expression
new_of word text span args close = expr (nodes.New (callee_of (instantiation_of text) span) args) (across word close)

abbrev pub array_of : Span → List Expression → Span → Expression
array_of o items c = expr (nodes.Array items) (across o c)

abbrev pub cast_to : Ty → Span → Expression → Option Expression → Span → Expression
cast_to ty word value size close = expr (nodes.Cast ty value size) (across word close)

abbrev pub look_of : Span → Look0 → Span → Expression
look_of first look last = expr (nodes.Look0 look) (across first last)

abbrev pub look_at_of : Span → LookAt → Expression → Span → Expression
look_at_of first look index last = expr (nodes.LookAt look index) (across first last)

abbrev pub number_of : ℕ → ℕ → Span → Expression
number_of digits unit span = expr (nodes.Int digits unit) span

-- ---- the grammar

pub data Part : Type 0 where
  primary : Part
  postfix : Part
  unary : Part
  -- operators with two sides up to this level
  level : ℕ → Part

mutual
  pub data Spells : Part → List Lexeme → Expression → Type 0 where
    number : {n : ℕ} {s : Span} → Spells primary (lex (Number n) s ∷ []) (number_of n 1 s)
    number_with_unit : {n : ℕ} {s : Span} (text : List ℕ) (u : ℕ) (w : Span) → unit_of text ≡ Some u
        → Spells primary (lex (Number n) s ∷ lex (Name text) w ∷ []) (number_of n u (across s w))
    hex_literal : {bytes : List ℕ} {s : Span}
        → Spells primary (lex (Hex (Some bytes)) s ∷ []) (expr (nodes.Hex bytes) s)
    text_literal : {bytes : List ℕ} {s : Span} → Spells primary (lex (Text bytes) s ∷ []) (expr (nodes.Text bytes) s)
    date_literal : {seconds : ℤ} {s : Span} → Spells primary (lex (Date seconds) s ∷ []) (expr (nodes.Date seconds) s)
    true_literal : {s : Span} → Spells primary (mark (codes "true") s ∷ []) (expr (nodes.Bool true) s)
    false_literal : {s : Span} → Spells primary (mark (codes "false") s ∷ []) (expr (nodes.Bool false) s)
    name : {word : List ℕ} {s : Span} → Spells primary (lex (Name word) s ∷ []) (expr (nodes.Name s) s)
    call : {word : List ℕ} {s : Span} (o c : Span) {a : List Lexeme} {es : List Expression} → SpellsAll a es
        → Spells primary (lex (Name word) s ∷ mark (codes "(") o ∷ (a ++ mark (codes ")") c ∷ [])) (call_of word s es c)
    brackets : (o c : Span) {a : List Lexeme} {e : Expression} → Spells (level loosest) a e
        → Spells primary (mark (codes "(") o ∷ (a ++ mark (codes ")") c ∷ [])) (bracketed o e c)
    array : (o c : Span) {a : List Lexeme} {es : List Expression} → SpellsAll a es
        → Spells primary (mark (codes "[") o ∷ (a ++ mark (codes "]") c ∷ [])) (array_of o es c)
    new : {word : List ℕ} (n s o c : Span) {a : List Lexeme} {es : List Expression} → SpellsAll a es
        → Spells primary (mark (codes "new") n ∷ lex (Name word) s ∷ mark (codes "(") o ∷
        (a ++ mark (codes ")") c ∷ []))
        (new_of n word s es c)
    cast : {ty : Ty} (s o c : Span) {a : List Lexeme} {e : Expression} → SpellsAll a (e ∷ [])
        → Spells primary (lex (Type_ ty) s ∷ mark (codes "(") o ∷ (a ++ mark (codes ")") c ∷ []))
        (cast_to ty s e None c)
    cast_with_size : {ty : Ty} (s o c : Span) {a : List Lexeme} {e size : Expression} → SpellsAll a (e ∷ size ∷ [])
        → Spells primary (lex (Type_ ty) s ∷ mark (codes "(") o ∷ (a ++ mark (codes ")") c ∷ []))
        (cast_to ty s e (Some size) c)
    whole : {word : List ℕ} (look : Look0) (x d s : Span) → property_of word ≡ Some (properties.Whole look)
        → Spells primary (mark (codes "tx") x ∷ mark (codes ".") d ∷ lex (Name word) s ∷ []) (look_of x look s)
    count : {word : List ℕ} (side : Side) (x d s d' l : Span) → property_of word ≡ Some (properties.Listed side)
        → Spells primary (mark (codes "tx") x ∷ mark (codes ".") d ∷ lex (Name word) s ∷ mark (codes ".") d' ∷
        lex (Name (codes "length")) l ∷ [])
        (look_of x (count_of side) l)
    member : {word : List ℕ} (field : List ℕ) (side : Side) (look : LookAt)
        (x d s o c d' m : Span) {a : List Lexeme} {e : Expression}
        → property_of word ≡ Some (properties.Listed side) → member_of side field ≡ Some look
        → Spells (level loosest) a e
        → Spells primary (mark (codes "tx") x ∷ mark (codes ".") d ∷ lex (Name word) s ∷ mark (codes "[") o ∷
        (a ++ mark (codes "]") c ∷ mark (codes ".") d' ∷ lex (Name field) m ∷ []))
        (look_at_of x look e m)
    active : {word : List ℕ} (look : Look0) (x d s : Span) → active_of word ≡ Some look
        → Spells primary (mark (codes "this") x ∷ mark (codes ".") d ∷ lex (Name word) s ∷ []) (look_of x look s)
    bare : {a : List Lexeme} {e : Expression} → Spells primary a e → Spells postfix a e
    length_word : (word : List ℕ) (d s : Span) {a : List Lexeme} {e : Expression}
        → suffix_of word ≡ Some suffixes.Length → Spells postfix a e
        → Spells postfix (a ++ mark (codes ".") d ∷ lex (Name word) s ∷ []) (length_of e s)
    reverse_call : (word : List ℕ) (d s o c : Span) {a : List Lexeme} {e : Expression}
        → suffix_of word ≡ Some suffixes.Reverse → Spells postfix a e
        → Spells postfix (a ++ mark (codes ".") d ∷ lex (Name word) s ∷ mark (codes "(") o ∷ mark (codes ")") c ∷ [])
        (reverse_of e c)
    split_call : (word : List ℕ) (d s o c : Span) {a b : List Lexeme} {e at : Expression}
        → suffix_of word ≡ Some suffixes.Split → Spells postfix a e → Spells (level loosest) b at
        → Spells postfix (a ++ mark (codes ".") d ∷ lex (Name word) s ∷ mark (codes "(") o ∷ (b ++
        mark (codes ")") c ∷ [])) (split_of e at c)
    index : (n : ℕ) (o s c : Span) {a : List Lexeme} {e : Expression} → Spells postfix a e
        → Spells postfix (a ++ mark (codes "[") o ∷ lex (Number n) s ∷ mark (codes "]") c ∷ []) (index_of e n c)
    no_sign : {a : List Lexeme} {e : Expression} → Spells postfix a e → Spells unary a e
    sign : (t : Lexeme) (op : UnaryOp) {a : List Lexeme} {e : Expression} → signs t.symbol ≡ Some op → Spells unary a e
        → Spells unary (t ∷ a) (unary_of op t.span e)
    no_operator : {a : List Lexeme} {e : Expression} → Spells unary a e → Spells (level 0) a e
    tighter : {k : ℕ} {a : List Lexeme} {e : Expression} → Spells (level k) a e → Spells (level (suc k)) a e
    -- from the left: what stands on the right is tighter
    operator : (k : ℕ) (t : Lexeme) (op : BinaryOp) {a b : List Lexeme} {left right : Expression}
        → joins t.symbol ≡ Some (suc k, op)
        → Spells (level (suc k)) a left → Spells (level k) b right
        → Spells (level (suc k)) (a ++ t ∷ b) (binary_of op left right)

  -- expressions with commas between, where a comma may stand after the last
  pub data SpellsAll : List Lexeme → List Expression → Type 0 where
    none : SpellsAll [] []
    last : {a : List Lexeme} {e : Expression} → Spells (level loosest) a e → SpellsAll a (e ∷ [])
    next : (s : Span) {a b : List Lexeme} {e : Expression} {es : List Expression} → Spells (level loosest) a e
        → SpellsAll b es
        → SpellsAll (a ++ mark (codes ",") s ∷ b) (e ∷ es)

-- all of the lexemes spell the expression
abbrev pub SpellsExpr : List Lexeme → Expression → Type 0
SpellsExpr ts e = Spells (level loosest) ts e

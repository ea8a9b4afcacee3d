-- Which lexemes spell which contract.
--
--   file       = { pragma } contract
--   pragma     = pragma cashscript constraint [ constraint ] ;
--   constraint = [ ^ | ~ | >= | > | < | <= | = ] VERSION
--   contract   = contract NAME parameters { { function } }
--   function   = function NAME parameters { { statement } }
--   parameters = ( [ TYPE NAME { , TYPE NAME } [ , ] ] )
use Rattle.std.specs.Prelude.{◌≡◌, ℕ, true, List, [], ◌∷◌, ◌++◌, Some, None, codes}
use Rattle.cash_base.specs.declared.place.Span.{Span}
use Rattle.cash_tree.specs.declared.Ty.{Ty}
use Rattle.cash_tree.specs.declared.Param.{Param}
use Rattle.cash_tree.specs.declared.Function.{Function}
use Rattle.cash_tree.specs.declared.Constraint.{Constraint}
use Rattle.cash_tree.specs.declared.Contract.{Contract}
use Rattle.cash_symbols.specs.Words.{is_constraint_sign}
use Rattle.cash_symbols.specs.Lexemes.{Lexeme, Type_, Name, Version}
use Rattle.cash_symbols.specs.Front.{lex, mark, across}
use Rattle.cash_statements.specs.Statements.{Statement, param_of, SpellsRun}

-- a contract as it is spelled: names are spans, and there are no types of expressions yet
abbrev pub Tree : Type 0
Tree = Contract Span (Unit {0})

abbrev pub FunctionTree : Type 0
FunctionTree = Function Span (Unit {0})

-- ---- nodes, each with its span

abbrev pub bare_constraint : Span → Constraint
bare_constraint version = record { sign = None; version = version; span = version }

-- the span takes in the sign
abbrev pub signed_constraint : Span → Span → Constraint
signed_constraint sign version = record { sign = Some sign; version = version; span = across sign version }

-- from the word `function` to the last `}`
abbrev pub function_of : Span → Span → List (Param Span) → List Statement → Span → FunctionTree
function_of first name params body end = record { name = name; span = across first end; params = params; body = body }

-- from the word `contract` to the last `}`
abbrev pub contract_of : Span → Span → List (Param Span) → List FunctionTree → Span → Tree
contract_of first name params functions end =
    record { name = name; span = across first end; pragmas = []; params = params; functions = functions }

-- the constraints of a pragma stand in front of those of the pragmas after it
abbrev pub with_pragma : List Constraint → Tree → Tree
with_pragma constraints tree =
    record {
      name = tree.name;
      span = tree.span;
      pragmas = constraints ++ tree.pragmas;
      params = tree.params;
      functions = tree.functions;
    }

-- ---- the grammar

pub data SpellsParams : List Lexeme → List (Param Span) → Type 0 where
  no_param : SpellsParams [] []
  last_param : {ty : Ty} {s : Span} {word : List ℕ} (p : Span)
      → SpellsParams (lex (Type_ ty) s ∷ lex (Name word) p ∷ []) (param_of ty p ∷ [])
  next_param : {ty : Ty} {s : Span} {word : List ℕ} (p m : Span) {a : List Lexeme} {ps : List (Param Span)}
      → SpellsParams a ps
      → SpellsParams (lex (Type_ ty) s ∷ lex (Name word) p ∷ mark (codes ",") m ∷ a) (param_of ty p ∷ ps)

pub data SpellsFunctions : List Lexeme → List FunctionTree → Type 0 where
  no_function : SpellsFunctions [] []
  one_function : {word : List ℕ} (f n o c b z : Span) {a d more : List Lexeme} {ps : List (Param Span)}
      {ss : List Statement} {fs : List FunctionTree}
      → SpellsParams a ps → SpellsRun d ss → SpellsFunctions more fs
      → SpellsFunctions (mark (codes "function") f ∷ lex (Name word) n ∷ mark (codes "(") o ∷ (a ++
      mark (codes ")") c ∷ mark (codes "{") b ∷ (d ++ mark (codes "}") z ∷ more)))
      (function_of f n ps ss z ∷ fs)

pub data SpellsConstraint : List Lexeme → Constraint → Type 0 where
  bare_version : (v : Span) → SpellsConstraint (lex Version v ∷ []) (bare_constraint v)
  signed_version : (text : List ℕ) (s v : Span) → is_constraint_sign text ≡ true
      → SpellsConstraint (mark text s ∷ lex Version v ∷ []) (signed_constraint s v)

pub data SpellsFile : List Lexeme → Tree → Type 0 where
  contract : {word : List ℕ} (k n o c b z : Span) {a d : List Lexeme} {ps : List (Param Span)} {fs : List FunctionTree}
      → SpellsParams a ps → SpellsFunctions d fs
      → SpellsFile (mark (codes "contract") k ∷ lex (Name word) n ∷ mark (codes "(") o ∷ (a ++ mark (codes ")") c ∷
      mark (codes "{") b ∷ (d ++ mark (codes "}") z ∷ [])))
      (contract_of k n ps fs z)
  one_constraint : (p w z : Span) {a more : List Lexeme} {first : Constraint} {tree : Tree}
      → SpellsConstraint a first → SpellsFile more tree
      → SpellsFile (mark (codes "pragma") p ∷ mark (codes "cashscript") w ∷ (a ++ mark (codes ";") z ∷ more))
      (with_pragma (first ∷ []) tree)
  two_constraints : (p w z : Span) {a b more : List Lexeme} {first second : Constraint} {tree : Tree}
      → SpellsConstraint a first → SpellsConstraint b second → SpellsFile more tree
      → SpellsFile (mark (codes "pragma") p ∷ mark (codes "cashscript") w ∷ (a ++ (b ++ mark (codes ";") z ∷ more)))
      (with_pragma (first ∷ second ∷ []) tree)

-- Which bytes are a contract, and which are refused: what each stage wants of a source, and the first stage that gives nothing.
use Rattle.std.specs.Prelude.{◌≡◌, ◌≢◌, ℕ, ◌<◌, ◌≤◌, List, length, Some, None, Ok, Err}
use Rattle.std.specs.Str.{IsUtf8}
use Rattle.std.specs.Str.Lossy.{utf8_valid_len}
use Rattle.cash_base.specs.declared.place.Slot.{Slot}
use Rattle.cash_tree.specs.declared.Ty.{Ty}
use Rattle.cash_tree.specs.declared.Contract.{Contract}
use Rattle.cash_tree.specs.declared.Token.{Token}
use Rattle.cash_lexer.specs.declared.fault.LexFault.TheVariants as lexer
use Rattle.cash_lexer.specs.Tokens.{lexed}
use Rattle.cash_parser.specs.declared.fault.ParseFault.{ParseFault}
use Rattle.cash_parser.specs.declared.fault.ParseFault.TheVariants as parser
use Rattle.cash_symbols.specs.Lexemes.{Lexeme, lexemes}
use Rattle.cash_symbols.specs.DepthRules.{first_too_deep}
use Rattle.cash_parser.specs.Files.{Tree, SpellsFile}
use Rattle.cash_parser.specs.Answer.{IsNone}
use Rattle.cash_names.specs.Outline.{NamedTree}
use Rattle.cash_names.specs.Scopes.{IsNamed, first_name_fault}
use Rattle.type_check.specs.Answer.{IsTyped, first_type_fault}
use Rattle.source_stages.specs.declared.fault.SourceFault.{SourceFault}
use Rattle.source_stages.specs.declared.fault.SourceFault.TheVariants.{TooLong, NotUtf8, Lex, Parse, Name, Typing, Memory}

-- ---- the stages

-- a source has at most so many bytes
abbrev pub max_source_len : ℕ
max_source_len = 65536

-- the source isn't too long, and is UTF-8
pub record IsText (source : List ℕ) : Type 0 where
  pub short : length source ≤ max_source_len
  pub utf8 : IsUtf8 source

-- ... and these are its tokens
pub record HasTokens (source : List ℕ) (tokens : List Token) : Type 0 where
  pub text : IsText source
  pub found : lexed source ≡ Ok tokens

-- ... of which none is too deep, and they spell this tree
pub record HasTree (source : List ℕ) (tree : Tree) : Type 0 where
  pub tokens : List Token
  pub cut : HasTokens source tokens
  pub shallow : first_too_deep (lexemes source tokens) ≡ None
  pub spelled : SpellsFile (lexemes source tokens) tree

-- ... whose pragmas are met, and which this tree names: slots stand in it for names
pub record HasNames (source : List ℕ) (named : NamedTree) : Type 0 where
  pub tree : Tree
  pub parsed : HasTree source tree
  pub names : IsNamed source tree named

-- ... and this contract is that tree with the type of each expression, and no rule of types is broken: the bytes are accepted as
-- the contract
pub record IsAccepted (source : List ℕ) (contract : Contract Slot Ty) : Type 0 where
  pub named : NamedTree
  pub resolved : HasNames source named
  pub types : IsTyped named contract

-- ---- the refusals

-- the fault of these tokens, of which there are so many: the first that is too deep, or else that they spell no tree
abbrev pub IsFaultOf : List Lexeme → ℕ → ParseFault → Type 0
IsFaultOf ts count (parser.TooDeep rule span) = first_too_deep ts ≡ Some (rule, span)
IsFaultOf ts count (parser.Syntax token) = (first_too_deep ts ≡ None) × IsNone ts × (token ≤ count)
IsFaultOf ts count parser.Memory = ⊥

-- The first stage that gives nothing gives this fault. Memory stands in no source.
abbrev pub IsRefused : List ℕ → SourceFault → Type 0
IsRefused source (TooLong bytes) = (max_source_len < length source) × (bytes ≡ length source)
IsRefused source (NotUtf8 at) = (length source ≤ max_source_len) × (IsUtf8 source → ⊥) × (at ≡ utf8_valid_len source)
IsRefused source (Lex fault) = IsText source × (lexed source ≡ Err fault) × (fault ≢ lexer.Memory)
IsRefused source (Parse fault) = (tokens : List Token) × HasTokens source tokens
    × IsFaultOf (lexemes source tokens) (length tokens) fault
IsRefused source (Name fault) = (tree : Tree) × HasTree source tree × (first_name_fault source tree ≡ Some fault)
IsRefused source (Typing fault) = (named : NamedTree) × HasNames source named × (first_type_fault named ≡ Some fault)
IsRefused source Memory = ⊥

-- the same fault, but for the token that a Syntax names
abbrev pub AreSame : SourceFault → SourceFault → Type 0
AreSame (Parse (parser.Syntax a)) (Parse (parser.Syntax b)) = Unit {0}
AreSame a b = a ≡ b

-- How a refusal is printed: with the line and the column of its place, and its name.
use Rattle.std.specs.Prelude.{ℕ, List, ◌++◌, length, codes, slice_get, Option, Some, None, Result, Ok, Err}
use Rattle.std.specs.Fmt.{decimal}
use Rattle.cash_tree.specs.declared.Token.{Token}
use Rattle.cash_tree.specs.declared.Ty.{Ty}
use Rattle.cash_tree.specs.declared.Ty.TheOpen.{Ty-F}
use Rattle.cash_tree.specs.declared.Ty.TheFolds.{fold-Ty}
use Rattle.cash_lexer.specs.declared.fault.LexFault.{LexFault}
use Rattle.cash_lexer.specs.declared.fault.LexFault.TheVariants as lexer
use Rattle.cash_lexer.specs.Tokens.{lexed}
use Rattle.cash_parser.specs.declared.fault.ParseFault.{ParseFault}
use Rattle.cash_parser.specs.declared.fault.ParseFault.TheVariants as parser
use Rattle.name_scopes.specs.declared.fault.NameFault.{NameFault}
use Rattle.name_scopes.specs.declared.fault.NameFault.TheVariants as names
use Rattle.type_tables.specs.declared.fault.TypeFault.{TypeFault}
use Rattle.type_tables.specs.declared.fault.TypeFault.TheVariants as types
use Rattle.cash_compile.specs.declared.refusal.Refusal.{Refusal}
use Rattle.cash_compile.specs.declared.refusal.Refusal.TheVariants.{SourceTooLong, NotUtf8, Lex, Parse, Name, Typing, CodeTooLong, TooManyOps, Memory}
use Rattle.span_map.specs.Lines.{line_col}
use Rattle.spend_debug.specs.Telling.{at_place}

-- ---- places

abbrev pub start_or : ℕ → Option Token → ℕ
start_or end (Some token) = token.span.from
start_or end None = end

abbrev pub start_in : ℕ → ℕ → Result (List Token) LexFault → ℕ
start_in end n (Ok tokens) = start_or end (slice_get tokens n)
start_in end n (Err fault) = end

-- where the token with this number begins, or else the end of the source
abbrev pub token_start : List ℕ → ℕ → ℕ
token_start source n = start_in (length source) n (lexed source)

-- ---- texts

-- the line that refuses a source at a place
abbrev pub refused_at : List ℕ → ℕ → List ℕ → List ℕ
refused_at source at name = codes "refused " ++ at_place (line_col source at) ++ codes " " ++ name ++ codes "\n"

-- ... because of a number that is too large
abbrev pub refused_with : List ℕ → ℕ → List ℕ
refused_with name n = codes "refused " ++ name ++ codes " " ++ decimal n ++ codes "\n"

abbrev pub source_too_long : List ℕ
source_too_long = codes "refused SourceTooLong\n"

abbrev pub out_of_memory : List ℕ
out_of_memory = codes "out of memory\n"

abbrev pub lex_text : List ℕ → LexFault → List ℕ
lex_text source (lexer.BadCharacter span) = refused_at source span.from (codes "BadCharacter")
lex_text source (lexer.OpenString span) = refused_at source span.from (codes "OpenString")
lex_text source (lexer.OpenComment span) = refused_at source span.from (codes "OpenComment")
lex_text source (lexer.NumberTooWide span) = refused_at source span.from (codes "NumberTooWide")
lex_text source (lexer.OddHex span) = refused_at source span.from (codes "OddHex")
lex_text source (lexer.BadDate span) = refused_at source span.from (codes "BadDate")
lex_text source lexer.Memory = out_of_memory

abbrev pub parse_text : List ℕ → ParseFault → List ℕ
parse_text source (parser.TooDeep rule span) = refused_at source span.from (codes "TooDeep")
parse_text source (parser.Syntax token) = refused_at source (token_start source token) (codes "Syntax")
parse_text source parser.Memory = out_of_memory

abbrev pub name_text : List ℕ → NameFault → List ℕ
name_text source (names.PragmaRefused span) = refused_at source span.from (codes "PragmaRefused")
name_text source (names.UnknownName span) = refused_at source span.from (codes "UnknownName")
name_text source (names.Redeclared span) = refused_at source span.from (codes "Redeclared")
name_text source (names.AssignToConstant span) = refused_at source span.from (codes "AssignToConstant")
name_text source (names.TooManyNames span) = refused_at source span.from (codes "TooManyNames")
name_text source (names.NoFunction span) = refused_at source span.from (codes "NoFunction")
name_text source names.Memory = out_of_memory

-- a type as it is spelled in a source; an array is its item's type and `[]`, and a pair has one word
abbrev pub layer_text : Ty-F (List ℕ) → List ℕ
layer_text Ty-F.Int = codes "int"
layer_text Ty-F.Bool = codes "bool"
layer_text Ty-F.Text = codes "string"
layer_text Ty-F.Bytes = codes "bytes"
layer_text (Ty-F.BytesN size) = codes "bytes" ++ decimal size
layer_text Ty-F.Pubkey = codes "pubkey"
layer_text Ty-F.Sig = codes "sig"
layer_text Ty-F.Datasig = codes "datasig"
layer_text (Ty-F.Array item) = item ++ codes "[]"
layer_text (Ty-F.Pair left right) = codes "pair"

abbrev pub type_text : Ty → List ℕ
type_text = fold-Ty (List ℕ) layer_text

-- the name of a mismatch, with both types
abbrev pub mismatch : Ty → Ty → List ℕ
mismatch wanted found = codes "Mismatch wanted " ++ type_text wanted ++ codes " found " ++ type_text found

abbrev pub typing_text : List ℕ → TypeFault → List ℕ
typing_text source (types.Mismatch span wanted found) = refused_at source span.from (mismatch wanted found)
typing_text source (types.NoSuchCast span) = refused_at source span.from (codes "NoSuchCast")
typing_text source (types.WrongCount span wanted found) = refused_at source span.from (codes "WrongCount")
typing_text source (types.BadTupleIndex span) = refused_at source span.from (codes "BadTupleIndex")
typing_text source (types.EmptyArray span) = refused_at source span.from (codes "EmptyArray")
typing_text source (types.MoreSigsThanKeys span) = refused_at source span.from (codes "MoreSigsThanKeys")
typing_text source (types.LiteralRange span) = refused_at source span.from (codes "LiteralRange")
typing_text source (types.NoFinalRequire span) = refused_at source span.from (codes "NoFinalRequire")
typing_text source types.Memory = out_of_memory

-- the line that refuses a source
abbrev pub refusal_text : List ℕ → Refusal → List ℕ
refusal_text source (SourceTooLong bytes) = source_too_long
refusal_text source (NotUtf8 at) = refused_with (codes "NotUtf8") at
refusal_text source (Lex fault) = lex_text source fault
refusal_text source (Parse fault) = parse_text source fault
refusal_text source (Name fault) = name_text source fault
refusal_text source (Typing fault) = typing_text source fault
refusal_text source (CodeTooLong bytes code) = refused_with (codes "CodeTooLong") bytes
refusal_text source (TooManyOps count code) = refused_with (codes "TooManyOps") count
refusal_text source Memory = out_of_memory

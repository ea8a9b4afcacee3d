-- A source is accepted as one contract, or refused in one way, and one of the two.
use Rattle.std.proofs.Common.{◌≡◌, ℕ, ◌<◌, ◌≤◌, ◌⊎◌, inl, inr, zero, suc, ◌+◌, ◌-◌, Bool, true, false, List, [], ◌∷◌, length, Option, Some, None, Result, Ok, Err, refl, sym, ap, ◌∙◌, subst, arith}
use Rattle.std.specs.Prelude.{◌≢◌}
use Rattle.std.specs.Str.{IsUtf8, is_utf8}
use Rattle.std.proofs.lemmas.Bool.{cases_lt, false≢true}
use Rattle.std.proofs.lemmas.Str.{IsUtf8-from_is_utf8, is_utf8-from_IsUtf8}
use Rattle.std.specs.Str.Lossy.{utf8_valid_len}
use Rattle.cash_base.specs.declared.place.Span.{Span}
use Rattle.cash_base.specs.declared.place.Slot.{Slot}
use Rattle.cash_tree.specs.declared.Ty.{Ty}
use Rattle.cash_tree.specs.declared.Token.{Token}
use Rattle.cash_tree.specs.declared.Contract.{Contract}
use Rattle.cash_lexer.specs.declared.fault.LexFault.{LexFault}
use Rattle.cash_lexer.specs.declared.fault.LexFault.TheVariants as lexer
use Rattle.cash_lexer.specs.declared.piece.Piece.{Piece}
use Rattle.cash_lexer.specs.declared.piece.Piece.TheVariants.{Gap, Known, Flawed}
use Rattle.cash_lexer.specs.declared.piece.Flaw.{Flaw}
use Rattle.cash_lexer.specs.declared.piece.Flaw.TheVariants as flaws
use Rattle.cash_lexer.specs.Rows.{piece_of}
use Rattle.cash_lexer.specs.Tokens.{Find, span_at, fault_of, finds_with, finds_after, with_front, all_of, lexed}
use Rattle.cash_parser.specs.declared.fault.ParseFault.{ParseFault}
use Rattle.cash_parser.specs.declared.fault.ParseFault.TheVariants as parser
use Rattle.cash_symbols.specs.declared.fault.DepthRule.{DepthRule}
use Rattle.cash_parser.specs.Answer.{IsNone}
use Rattle.cash_symbols.specs.Lexemes.{Lexeme, lexemes}
use Rattle.cash_symbols.specs.DepthRules.{first_too_deep}
use Rattle.cash_parser.specs.Files.{Tree, SpellsFile}
use Rattle.name_scopes.specs.declared.fault.NameFault.{NameFault}
use Rattle.cash_names.specs.Outline.{NamedTree}
use Rattle.cash_names.specs.Scopes.{IsNamed, first_name_fault}
use Rattle.cash_names.specs.Answer.{HasOne, HasNone, HasFault}
use Rattle.type_tables.specs.declared.fault.TypeFault.{TypeFault}
use Rattle.type_check.specs.Typing.{TypesContract}
use Rattle.type_check.specs.Answer.{first_type_fault, JudgedOnce}
use Rattle.source_stages.specs.declared.fault.SourceFault.{SourceFault}
use Rattle.source_stages.specs.declared.fault.SourceFault.TheVariants.{TooLong, NotUtf8, Lex, Parse, Name, Typing, Memory}
use Rattle.source_stages.specs.Stages.{max_source_len, IsText, HasTokens, HasTree, HasNames, IsAccepted, IsFaultOf, IsRefused, AreSame}

-- tokens with their texts spell at most one tree
abbrev pub OneTree : Type 0
OneTree = (ts : List Lexeme) (a b : Tree) → SpellsFile ts a → SpellsFile ts b → a ≡ b

-- What the parser, the resolver and the checker of types give: one tree or none; one named tree, or a first fault, and no named
-- tree where there is one; and one contract with types, or a first fault.
pub record Laws : Type 0 where
  pub tree : OneTree
  pub spelled : (ts : List Lexeme) → ((tree : Tree) × SpellsFile ts tree) ⊎ IsNone ts
  pub named : (source : List ℕ) (tree : Tree) (a b : NamedTree) → IsNamed source tree a → IsNamed source tree b → a ≡ b
  pub either : (source : List ℕ) (tree : Tree) → HasOne source tree ⊎ HasFault source tree
  pub apart : (source : List ℕ) (tree : Tree) (fault : NameFault) → first_name_fault source tree ≡ Some fault → HasNone source tree
  pub judged : (tree : NamedTree) → JudgedOnce tree

abbrev found : List Token → Result (List Token) LexFault
found tokens = Ok tokens

abbrev faulty : LexFault → Result (List Token) LexFault
faulty fault = Err fault

found_same : (a b : List Token) → found a ≡ found b → a ≡ b
found_same a b same = cc

fault_same : (a b : LexFault) → faulty a ≡ faulty b → a ≡ b
fault_same a b same = cc

never_same : (a : List Token) (b : LexFault) → found a ≡ faulty b → ⊥
never_same a b same = cc

one_tokens : (source : List ℕ) (a b : List Token) → HasTokens source a → HasTokens source b → a ≡ b
one_tokens source a b h k = found_same a b (sym h.found ∙ k.found)

one_tree_of : OneTree → (source : List ℕ) (a b : Tree) → HasTree source a → HasTree source b → a ≡ b
one_tree_of law source a b h k =
    law (lexemes source h.tokens) a b h.spelled
    (subst (λ (ts : List Token). SpellsFile (lexemes source ts) b) (one_tokens source k.tokens h.tokens k.cut h.cut) k.spelled)

one_named_of : Laws → (source : List ℕ) (a b : NamedTree) → HasNames source a → HasNames source b → a ≡ b
one_named_of laws source a b h k =
    laws.named source h.tree a b h.names
    (subst (λ (t : Tree). IsNamed source t b) (one_tree_of laws.tree source k.tree h.tree k.parsed h.parsed) k.names)

pub one_contract_is : Laws → (source : List ℕ) (a b : Contract Slot Ty) → IsAccepted source a → IsAccepted source b → a ≡ b
one_contract_is laws source a b h k =
    (laws.judged h.named).one a b h.types.0
    (subst (λ (t : NamedTree). TypesContract t b) (one_named_of laws source k.named h.named k.resolved h.resolved) k.types.0)

-- ---- a stage gives something, or it doesn't

text_or_bytes : (source : List ℕ) → IsText source → (IsUtf8 source → ⊥) → ⊥
text_or_bytes source text none = none text.utf8

tokens_or_fault : (source : List ℕ) (tokens : List Token) (fault : LexFault) → HasTokens source tokens → lexed source ≡ Err fault → ⊥
tokens_or_fault source tokens fault h is = never_same tokens fault (sym h.found ∙ is)

shallow_or_deep : (ts : List Lexeme) (deep : DepthRule × Span) → first_too_deep ts ≡ None → first_too_deep ts ≡ Some deep → ⊥
shallow_or_deep ts deep none some = let same : None ≡ Some deep = sym none ∙ some in cc

-- a fault of the tokens of a source that has a tree
fault_or_tree : (source : List ℕ) (tokens : List Token) (tree : Tree) (count : ℕ) (fault : ParseFault) → first_too_deep (lexemes source tokens) ≡ None → SpellsFile (lexemes source tokens) tree → IsFaultOf (lexemes source tokens) count fault → ⊥
fault_or_tree source tokens tree count (parser.TooDeep rule span) shallow spelled is = shallow_or_deep (lexemes source tokens) (rule, span) shallow is
fault_or_tree source tokens tree count (parser.Syntax token) shallow spelled is = is.1 tree spelled
fault_or_tree source tokens tree count parser.Memory shallow spelled is = is

tree_or_fault : (source : List ℕ) (tree : Tree) (tokens : List Token) (count : ℕ) (fault : ParseFault) → HasTree source tree → HasTokens source tokens → IsFaultOf (lexemes source tokens) count fault → ⊥
tree_or_fault source tree tokens count fault h cut is =
    fault_or_tree source h.tokens tree count fault h.shallow h.spelled
    (subst (λ (ts : List Token). IsFaultOf (lexemes source ts) count fault) (one_tokens source tokens h.tokens cut h.cut) is)

named_or_fault : Laws → (source : List ℕ) (tree : Tree) (named : NamedTree) (fault : NameFault) → HasNames source named → HasTree source tree → first_name_fault source tree ≡ Some fault → ⊥
named_or_fault laws source tree named fault h k is =
    laws.apart source tree fault is named
    (subst (λ (t : Tree). IsNamed source t named) (one_tree_of laws.tree source h.tree tree h.parsed k) h.names)

typed_or_fault : Laws → (source : List ℕ) (contract : Contract Slot Ty) (named : NamedTree) (fault : TypeFault) → IsAccepted source contract → HasNames source named → first_type_fault named ≡ Some fault → ⊥
typed_or_fault laws source contract named fault h k is =
    let same : None ≡ Some fault = sym h.types.1 ∙ ap first_type_fault (one_named_of laws source h.named named h.resolved k) ∙ is in
    cc

pub never_both_are : Laws → (source : List ℕ) (contract : Contract Slot Ty) (fault : SourceFault) → IsAccepted source contract → IsRefused source fault → ⊥
never_both_are laws source contract (TooLong bytes) h r = let short = h.resolved.parsed.cut.text.short in let long = r.0 in omega arith
never_both_are laws source contract (NotUtf8 at) h r = text_or_bytes source h.resolved.parsed.cut.text r.1
never_both_are laws source contract (Lex fault) h r = tokens_or_fault source h.resolved.parsed.tokens fault h.resolved.parsed.cut r.1
never_both_are laws source contract (Parse fault) h r = tree_or_fault source h.resolved.tree r.0 (length r.0) fault h.resolved.parsed r.1 r.2
never_both_are laws source contract (Name fault) h r = named_or_fault laws source r.0 h.named fault h.resolved r.1 r.2
never_both_are laws source contract (Typing fault) h r = typed_or_fault laws source contract r.0 fault h r.1 r.2
never_both_are laws source contract Memory h r = r

-- ---- the one refusal of each stage

from_long : (source : List ℕ) (b : SourceFault) → max_source_len < length source → IsRefused source b → TooLong (length source) ≡ b
from_long source (TooLong bytes) long r = ap (λ (n : ℕ). TooLong n) (sym r.1)
from_long source (NotUtf8 at) long r = let short = r.0 in absurd (omega arith)
from_long source (Lex fault) long r = let short = r.0.short in absurd (omega arith)
from_long source (Parse fault) long r = let short = r.1.text.short in absurd (omega arith)
from_long source (Name fault) long r = let short = r.1.cut.text.short in absurd (omega arith)
from_long source (Typing fault) long r = let short = r.1.parsed.cut.text.short in absurd (omega arith)
from_long source Memory long r = absurd r

from_bytes : (source : List ℕ) (b : SourceFault) → length source ≤ max_source_len → (IsUtf8 source → ⊥) → IsRefused source b → NotUtf8 (utf8_valid_len source) ≡ b
from_bytes source (TooLong bytes) short none r = let long = r.0 in absurd (omega arith)
from_bytes source (NotUtf8 at) short none r = ap (λ (n : ℕ). NotUtf8 n) (sym r.2)
from_bytes source (Lex fault) short none r = absurd (text_or_bytes source r.0 none)
from_bytes source (Parse fault) short none r = absurd (text_or_bytes source r.1.text none)
from_bytes source (Name fault) short none r = absurd (text_or_bytes source r.1.cut.text none)
from_bytes source (Typing fault) short none r = absurd (text_or_bytes source r.1.parsed.cut.text none)
from_bytes source Memory short none r = absurd r

from_lexer : (source : List ℕ) (fault : LexFault) (b : SourceFault) → IsText source → lexed source ≡ Err fault → IsRefused source b → Lex fault ≡ b
from_lexer source fault (TooLong bytes) text is r = let short = text.short in let long = r.0 in absurd (omega arith)
from_lexer source fault (NotUtf8 at) text is r = absurd (text_or_bytes source text r.1)
from_lexer source fault (Lex other) text is r = ap (λ (f : LexFault). Lex f) (fault_same fault other (sym is ∙ r.1))
from_lexer source fault (Parse other) text is r = absurd (tokens_or_fault source r.0 fault r.1 is)
from_lexer source fault (Name other) text is r = absurd (tokens_or_fault source r.1.tokens fault r.1.cut is)
from_lexer source fault (Typing other) text is r = absurd (tokens_or_fault source r.1.parsed.tokens fault r.1.parsed.cut is)
from_lexer source fault Memory text is r = absurd r

deep_same : (a b : DepthRule × Span) → Some a ≡ Some b → a ≡ b
deep_same a b same = cc

-- two faults of the same tokens
faults_same : (ts : List Lexeme) (count : ℕ) (a b : ParseFault) → IsFaultOf ts count a → IsFaultOf ts count b → AreSame (Parse a) (Parse b)
faults_same ts count (parser.TooDeep rule span) (parser.TooDeep rule' span') h k =
    ap (λ (deep : DepthRule × Span). Parse (parser.TooDeep deep.0 deep.1)) (deep_same (rule, span) (rule', span') (sym h ∙ k))
faults_same ts count (parser.TooDeep rule span) (parser.Syntax token) h k = absurd (shallow_or_deep ts (rule, span) k.0 h)
faults_same ts count (parser.TooDeep rule span) parser.Memory h k = absurd k
faults_same ts count (parser.Syntax token) (parser.TooDeep rule span) h k = absurd (shallow_or_deep ts (rule, span) h.0 k)
faults_same ts count (parser.Syntax token) (parser.Syntax other) h k = tt
faults_same ts count (parser.Syntax token) parser.Memory h k = absurd k
faults_same ts count parser.Memory b h k = absurd h

from_parser : (source : List ℕ) (tokens : List Token) (fault : ParseFault) (b : SourceFault) → HasTokens source tokens → IsFaultOf (lexemes source tokens) (length tokens) fault → IsRefused source b → AreSame (Parse fault) b
from_parser source tokens fault (TooLong bytes) cut is r = let short = cut.text.short in let long = r.0 in absurd (omega arith)
from_parser source tokens fault (NotUtf8 at) cut is r = absurd (text_or_bytes source cut.text r.1)
from_parser source tokens fault (Lex other) cut is r = absurd (tokens_or_fault source tokens other cut r.1)
from_parser source tokens fault (Parse other) cut is r =
    let P : List Token → Type 0 = λ ts. IsFaultOf (lexemes source ts) (length ts) other in
    faults_same (lexemes source tokens) (length tokens) fault other is (subst P (one_tokens source r.0 tokens r.1 cut) r.2)
from_parser source tokens fault (Name other) cut is r = absurd (tree_or_fault source r.0 tokens (length tokens) fault r.1 cut is)
from_parser source tokens fault (Typing other) cut is r = absurd (tree_or_fault source r.1.tree tokens (length tokens) fault r.1.parsed cut is)
from_parser source tokens fault Memory cut is r = absurd r

refused_same : (a b : NameFault) → Some a ≡ Some b → a ≡ b
refused_same a b same = cc

from_names : Laws → (source : List ℕ) (tree : Tree) (fault : NameFault) (b : SourceFault) → HasTree source tree → first_name_fault source tree ≡ Some fault → IsRefused source b → Name fault ≡ b
from_names laws source tree fault (TooLong bytes) h is r = let short = h.cut.text.short in let long = r.0 in absurd (omega arith)
from_names laws source tree fault (NotUtf8 at) h is r = absurd (text_or_bytes source h.cut.text r.1)
from_names laws source tree fault (Lex other) h is r = absurd (tokens_or_fault source h.tokens other h.cut r.1)
from_names laws source tree fault (Parse other) h is r = absurd (tree_or_fault source tree r.0 (length r.0) other h r.1 r.2)
from_names laws source tree fault (Name other) h is r =
    let same = ap (λ (t : Tree). first_name_fault source t) (one_tree_of laws.tree source tree r.0 h r.1) in
    ap (λ (f : NameFault). Name f) (refused_same fault other (sym is ∙ same ∙ r.2))
from_names laws source tree fault (Typing other) h is r = absurd (named_or_fault laws source tree r.0 fault r.1 h is)
from_names laws source tree fault Memory h is r = absurd r

mistyped_same : (a b : TypeFault) → Some a ≡ Some b → a ≡ b
mistyped_same a b same = cc

from_types : Laws → (source : List ℕ) (named : NamedTree) (fault : TypeFault) (b : SourceFault) → HasNames source named → first_type_fault named ≡ Some fault → IsRefused source b → Typing fault ≡ b
from_types laws source named fault (TooLong bytes) h is r = let short = h.parsed.cut.text.short in let long = r.0 in absurd (omega arith)
from_types laws source named fault (NotUtf8 at) h is r = absurd (text_or_bytes source h.parsed.cut.text r.1)
from_types laws source named fault (Lex other) h is r = absurd (tokens_or_fault source h.parsed.tokens other h.parsed.cut r.1)
from_types laws source named fault (Parse other) h is r = absurd (tree_or_fault source h.tree r.0 (length r.0) other h.parsed r.1 r.2)
from_types laws source named fault (Name other) h is r = absurd (named_or_fault laws source r.0 named other h r.1 r.2)
from_types laws source named fault (Typing other) h is r =
    let same = ap first_type_fault (one_named_of laws source named r.0 h r.1) in
    ap (λ (f : TypeFault). Typing f) (mistyped_same fault other (sym is ∙ same ∙ r.2))
from_types laws source named fault Memory h is r = absurd r

pub one_fault_is : Laws → (source : List ℕ) (a b : SourceFault) → IsRefused source a → IsRefused source b → AreSame a b
one_fault_is laws source (TooLong bytes) b h k = ap (λ (n : ℕ). TooLong n) h.1 ∙ from_long source b h.0 k
one_fault_is laws source (NotUtf8 at) b h k = ap (λ (n : ℕ). NotUtf8 n) h.2 ∙ from_bytes source b h.0 h.1 k
one_fault_is laws source (Lex fault) b h k = from_lexer source fault b h.0 h.1 k
one_fault_is laws source (Parse fault) b h k = from_parser source h.0 fault b h.1 h.2 k
one_fault_is laws source (Name fault) b h k = from_names laws source h.0 fault b h.1 h.2 k
one_fault_is laws source (Typing fault) b h k = from_types laws source h.0 fault b h.1 h.2 k
one_fault_is laws source Memory b h k = absurd h

-- ---- each source ends in one of the two

abbrev pub IsDecided : List ℕ → Type 0
IsDecided source = ((contract : Contract Slot Ty) × IsAccepted source contract) ⊎ ((fault : SourceFault) × IsRefused source fault)

by_types : Laws → (source : List ℕ) (named : NamedTree) (fault : Option TypeFault) → first_type_fault named ≡ fault → HasNames source named → IsDecided source
by_types laws source named (Some fault) is h = inr (Typing fault, (named, h, is))
by_types laws source named None is h =
    let typed = (laws.judged named).accepted is in
    inl (typed.0, record { named = named; resolved = h; types = (typed.1, is) })

by_names : Laws → (source : List ℕ) (tree : Tree) → HasTree source tree → HasOne source tree ⊎ HasFault source tree → IsDecided source
by_names laws source tree h (inl (named, is)) = by_types laws source named (first_type_fault named) refl (record { tree = tree; parsed = h; names = is })
by_names laws source tree h (inr (fault, is)) = inr (Name fault, (tree, h, is))

by_tree : Laws → (source : List ℕ) (tokens : List Token) → first_too_deep (lexemes source tokens) ≡ None → HasTokens source tokens
    → ((tree : Tree) × SpellsFile (lexemes source tokens) tree) ⊎ IsNone (lexemes source tokens) → IsDecided source
by_tree laws source tokens shallow h (inl (tree, spelled)) =
    by_names laws source tree (record { tokens = tokens; cut = h; shallow = shallow; spelled = spelled }) (laws.either source tree)
by_tree laws source tokens shallow h (inr none) = inr (Parse (parser.Syntax 0), (tokens, h, (shallow, none, omega arith)))

by_depth : Laws → (source : List ℕ) (tokens : List Token) (deep : Option (DepthRule × Span)) → first_too_deep (lexemes source tokens) ≡ deep → HasTokens source tokens → IsDecided source
by_depth laws source tokens (Some deep) is h = inr (Parse (parser.TooDeep deep.0 deep.1), (tokens, h, is))
by_depth laws source tokens None is h = by_tree laws source tokens is h (laws.spelled (lexemes source tokens))

-- the lexer's fault is never want of memory
abbrev Sure : Result (List Token) LexFault → Type 0
Sure (Ok tokens) = Unit {0}
Sure (Err fault) = fault ≢ lexer.Memory

flaw_sure : (flaw : Flaw) (span : Span) → fault_of flaw span ≢ lexer.Memory
flaw_sure flaws.BadCharacter span is = cc
flaw_sure flaws.OpenString span is = cc
flaw_sure flaws.OpenComment span is = cc
flaw_sure flaws.NumberTooWide span is = cc
flaw_sure flaws.OddHex span is = cc
flaw_sure flaws.BadDate span is = cc

front_sure : (front : List Token) (more : Result (List Token) LexFault) → Sure more → Sure (with_front front more)
front_sure front (Ok tokens) sure = tt
front_sure front (Err fault) sure = sure

piece_sure : (at : ℕ) (piece : Option Piece) (after : ℕ → List Find) → ((len : ℕ) → Sure (all_of (after len))) → Sure (all_of (finds_with at piece after))
piece_sure at None after sure = tt
piece_sure at (Some (Gap len)) after sure = sure len
piece_sure at (Some (Known kind len)) after sure =
    let token : Token = record { kind = kind; span = span_at at len } in
    front_sure (token ∷ []) (all_of (after len)) (sure len)
piece_sure at (Some (Flawed flaw len)) after sure = flaw_sure flaw (span_at at len)

finds_sure : (skipped at : ℕ) (text : List ℕ) → Sure (all_of (finds_after skipped at text))
unfolding finds_after
finds_sure skipped at [] = tt
finds_sure (suc skipped) at (byte ∷ rest) = finds_sure skipped (at + 1) rest
finds_sure zero at (byte ∷ rest) =
    piece_sure at (piece_of (byte ∷ rest)) (λ len. finds_after (len - 1) (at + 1) rest) (λ len. finds_sure (len - 1) (at + 1) rest)

by_tokens : Laws → (source : List ℕ) (found_ : Result (List Token) LexFault) → lexed source ≡ found_ → Sure found_ → IsText source → IsDecided source
by_tokens laws source (Ok tokens) is sure h = by_depth laws source tokens (first_too_deep (lexemes source tokens)) refl (record { text = h; found = is })
by_tokens laws source (Err fault) is sure h = inr (Lex fault, (h, is, sure))

by_utf8 : Laws → (source : List ℕ) (test : Bool) → is_utf8 source ≡ test → length source ≤ max_source_len → IsDecided source
by_utf8 laws source true is short =
    by_tokens laws source (lexed source) refl (finds_sure 0 0 source) (record { short = short; utf8 = IsUtf8-from_is_utf8 source is })
by_utf8 laws source false is short =
    inr (NotUtf8 (utf8_valid_len source), (short, λ utf8. false≢true (sym is ∙ is_utf8-from_IsUtf8 source utf8), refl))

by_length : Laws → (source : List ℕ) → (max_source_len < length source) ⊎ (length source ≤ max_source_len) → IsDecided source
by_length laws source (inl long) = inr (TooLong (length source), (long, refl))
by_length laws source (inr short) = by_utf8 laws source (is_utf8 source) refl short

pub decided_is : Laws → (source : List ℕ) → IsDecided source
decided_is laws source = by_length laws source (cases_lt max_source_len (length source))

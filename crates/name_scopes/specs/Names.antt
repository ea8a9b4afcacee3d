-- The names in scope at a place of the text.
use Rattle.std.specs.Prelude.{ℕ, ◌+◌, Bool, false, nat_lt, if◌then◌else◌, List, [], ◌∷◌, ◌++◌, map, take, Option, None, Some}
use Rattle.std.specs.Borrow.{Bor}
use Rattle.std.specs.Str.{bytes_eq}
use Rattle.cash_base.specs.declared.place.Span.{Span}
use Rattle.cash_base.specs.declared.place.Slot.{Slot}
use Rattle.name_scopes.specs.declared.scope.Variable.{Variable}
use Rattle.name_scopes.specs.declared.scope.Scope.{Scope}
use Rattle.cash_base.specs.Source.{text_at}

-- a name in scope, by its spelling
abbrev pub Entry : Type 0
Entry = List ℕ × Variable

pub record Names : Type 0 where
  -- those in scope, in the order of their declarations
  pub known : List Entry
  -- the number of the next slot
  pub next : ℕ
  -- the first number that is not given here
  pub limit : ℕ

abbrev pub no_names : Names
no_names = record { known = []; next = 0; limit = 0 }

-- so many names may be declared from here on
abbrev pub opened : ℕ → Names → Names
opened room names = record { known = names.known; next = names.next; limit = names.next + room }

-- the same, with slots from this number on
abbrev pub opened_at : ℕ → ℕ → Names → Names
opened_at next room names = record { known = names.known; next = next; limit = next + room }

-- as many parameters may a constructor have, or a function; as many functions a contract; and as many names may be
-- defined in a function's body
abbrev pub most_params : ℕ
most_params = 16

abbrev pub most_functions : ℕ
most_functions = 64

abbrev pub most_definitions : ℕ
most_definitions = 128

-- what a spelling names among these; a name in another case is another name
abbrev pub find : List ℕ → List Entry → Option Variable
find name [] = None
find name (entry ∷ entries) = if bytes_eq name entry.0 then Some entry.1 else find name entries

abbrev pub look : List ℕ → Names → Option Variable
look name names = find name names.known

abbrev pub has_room : Names → Bool
has_room names = nat_lt names.next names.limit

abbrev pub has_room_for_two : Names → Bool
has_room_for_two names = nat_lt (names.next + 1) names.limit

abbrev pub slot : ℕ → Slot
slot n = record { 0 = n }

abbrev pub variable : ℕ → Bool → Variable
variable n constant = record { slot = slot n; constant = constant }

-- with one more name, which gets the next slot
abbrev pub declared : List ℕ → Bool → Names → Names
declared name constant names =
    record {
      known = names.known ++ (name, variable names.next constant) ∷ [];
      next = names.next + 1;
      limit = names.limit;
    }

-- with a variable that is no constant, by the span of its name
abbrev pub with_variable : List ℕ → Span → Names → Names
with_variable source span names = declared (text_at source span) false names

-- the first so many names; slots go on
abbrev pub cut : ℕ → Names → Names
cut len names = record names { known = take len names.known }

-- after a block: its names end with it, and their slots are not given again
abbrev pub after : Names → Names → Names
after outer inner = record inner { known = outer.known }

abbrev pub slot_of : Option Variable → Slot
slot_of (Some v) = v.slot
slot_of None = slot 0

-- the slot of the name that stands at a span
abbrev pub slot_at : List ℕ → Names → Span → Slot
slot_at source names span = slot_of (look (text_at source span) names)

-- ---- what the code holds

abbrev pub seen : Bor (List ℕ) × Variable → Entry
seen e = (e.0.now, e.1)

abbrev pub names_of : Scope → Names
names_of scope = record { known = map seen scope.known.entries; next = scope.next; limit = scope.limit }
